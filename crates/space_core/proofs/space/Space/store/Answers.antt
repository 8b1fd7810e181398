use Rattle.std.proofs.Common.{◌≡◌, ◌∙◌, length, refl, sym, ap, inl, inr, arith}
use Rattle.std.proofs.lemmas.List.{length-map}
use Rattle.std.proofs.lemmas.Option.{none-some}
use Rattle.pager_model.specs.Flat.{page_of}
use Rattle.space_core.specs.Standing.{Kept}
use Rattle.space_core.specs.Tables.{mapping_in}
use Rattle.space_core.proofs.SameView.{as_fields}
use Rattle.space_core.proofs.MappedAccesses.{mapped_resident}
use Rattle.space_core.proofs.ServedPages.{stores, stored_kept, same_stored, tile_alike}
use Rattle.space_core.proofs.TableLemmas.{sets_dirty, writes_frame, frame-absent, frame-mapped, dirty-mapped}
use Rattle.space_core.proofs.Translations.{retouched_by}
use Rattle.space_core.proofs.space.Space.store.Goals as goal

pub write_word_by-requires-clause-resident : goal.write_word_by-requires-clause-resident
write_word_by-requires-clause-resident g c =
    let found = rw (← c.self.view_is) at c.requires.found in
    (page_of c.args.address, frame-mapped c.self.inside.table (page_of c.args.address) c.args.found.mapping found.mapping)

pub write_word_by-requires-clause-index : goal.write_word_by-requires-clause-index
write_word_by-requires-clause-index g c = c.word_of-index.ensures.in_page

pub touch-requires : goal.touch-requires
touch-requires g c = (c.type_bounds.send-S, rw (← c.self.view_is) at c.requires.processor)

pub invariant_of-self : goal.invariant_of-self
invariant_of-self g c =
    let found = rw (← c.self.view_is) at c.requires.found in
    let has = frame-mapped c.self.inside.table (page_of c.args.address) c.args.found.mapping found.mapping in
    let dirty = dirty-mapped c.self.inside.table (page_of c.args.address) c.args.found.mapping found.mapping ∙ c.if-found.true in
    stored_kept (as_fields c.self.view_is) c.write_word_by.new.self _ _ _ _ c.self.invariant
    (sets_dirty _ _ _ _ _ dirty (c.write_word_by.ensures (page_of c.args.address) has))
    (rw (← c.self.view_is) at c.requires.resting).none_pending

pub has_translation-hit-requires : goal.has_translation-hit-requires
has_translation-hit-requires g c = (c.type_bounds.send-S, c.requires.processor)

pub set_word-moves-requires-clause-index : goal.set_word-moves-requires-clause-index
set_word-moves-requires-clause-index g c = c.word_of-index.ensures.in_page

pub set_word-moves-requires-clause-resident : goal.set_word-moves-requires-clause-resident
set_word-moves-requires-clause-resident g c =
    let found = rw (← c.self-2.view_is) at c.requires.found in
    rw c.page_of-page.ensures.page (frame-mapped c.self-2.inside.table (page_of c.args.address) c.args.found.mapping found.mapping)

pub invariant_of-self-2 : goal.invariant_of-self-2
invariant_of-self-2 g c =
    stored_kept (as_fields c.self-2.view_is) c.set_word-moves.new.self _ _ _ _ c.self-2.invariant c.set_word-moves.ensures.writes
    (rw (← c.self-2.view_is) at c.requires.resting).none_pending

pub unreachable-requires : goal.unreachable-requires
unreachable-requires g c =
    let found = rw (← c.self-2.view_is) at c.requires.found in
    let u = c.set_word-moves.new.self in
    let writes = rw c.page_of-page.ensures.page at c.set_word-moves.ensures.writes in
    let has =
    writes_frame _ _ _ c.self-2.inside.table u writes (page_of c.args.address)
    ∙ frame-mapped c.self-2.inside.table (page_of c.args.address) c.args.found.mapping found.mapping in
    let table : c.self-3.inside.table ≡ u = ap (λ (k : Kept). k.table) c.self-3.view_is ∙ rw c.follow.ensures refl in
    let none = sym (rw (c.in_default.is, c.page_of-page.ensures.page, table) at c.translate.ensures.mapping) in
    none-some _ (sym (frame-absent u (page_of c.args.address) none) ∙ has)

pub touch-answered-requires : goal.touch-answered-requires
touch-answered-requires g c =
    let followed : length c.self-3.inside.images ≡ length c.follow.new.self.images = ap (λ (k : Kept). length k.images) c.self-3.view_is in
    let kept : length c.follow.new.self.images ≡ length c.self-2.inside.images = rw c.follow.ensures (simp length-map) in
    let was : length c.self-2.inside.images ≡ length c.args.self.now.images = ap (λ (k : Kept). length k.images) c.self-2.view_is in
    (c.type_bounds.send-S, omega (arith, followed, kept, was, c.requires.processor))

pub returns-then-found : goal.returns-then-found
returns-then-found g c =
    let old = as_fields c.self.view_is in
    let t = old.table in
    let u = c.write_word_by.new.self in
    let page = page_of c.args.address in
    let found = rw (← c.self.view_is) at c.requires.found in
    let has = frame-mapped t page c.args.found.mapping found.mapping in
    let dirty = dirty-mapped t page c.args.found.mapping found.mapping ∙ c.if-found.true in
    let writes = sets_dirty _ _ _ _ _ dirty (rw c.word_of-index.ensures.word at (c.write_word_by.ensures page has)) in
    let same = same_stored t u _ _ _ writes dirty in
    rw (c.touch.ensures.answered, ← c.self.view_is)
    (stores old c.touch.new.self c.args.processor c.args.address c.args.word
    (record {
      was = c.args.found.tile;
      accesses = record {
        resting = rw (← c.self.view_is) at c.requires.resting;
        processor = rw (← c.self.view_is) at c.requires.processor;
        allowed = rw (← c.self.view_is) at c.requires.allowed;
        resident = mapped_resident _ _ _ found;
        tile_is = found.tile;
      };
      uses = record {
        mid = record old { frames = length u.frames; table = u };
        changed = inr (record { sizes = writes.same.sizes; images = refl; promotions = refl; demotions = refl }, same);
        tile = c.args.found.tile;
        tile_is = tile_alike u.sizes t.sizes (mapping_in u) (mapping_in t) page writes.same.sizes same ∙ found.tile;
        touches = c.touch.ensures.touched;
      };
      same = rw writes.same.count refl;
      writes = writes;
    }))

pub returns : goal.returns
returns g c =
    let u = c.set_word-moves.new.self in
    let found = rw (← c.self-2.view_is) at c.requires.found in
    let writes = rw (c.page_of-page.ensures.page, c.word_of-index.ensures.word) at c.set_word-moves.ensures.writes in
    let table : c.self-3.inside.table ≡ c.follow.new.self.table = ap (λ (k : Kept). k.table) c.self-3.view_is in
    rw (c.touch-answered.ensures.answered, c.has_translation-hit.ensures, ← c.self-2.view_is)
    (stores (as_fields c.self-2.view_is) c.touch-answered.new.self c.args.processor c.args.address c.args.word
    (record {
      was = c.args.found.tile;
      accesses = record {
        resting = rw (← c.self-2.view_is) at c.requires.resting;
        processor = rw (← c.self-2.view_is) at c.requires.processor;
        allowed = rw (← c.self-2.view_is) at c.requires.allowed;
        resident = mapped_resident _ _ _ found;
        tile_is = found.tile;
      };
      uses = record {
        mid = c.follow.new.self;
        changed = inl (rw c.follow.ensures
            (retouched_by _ _ c.set_word-moves.result writes.same.sizes c.set_word-moves.ensures.moves refl refl refl));
        tile = c.in-Some.then.tile;
        tile_is = sym (rw (c.page_of-page.ensures.page, table) at c.in-Some.ensures.tile);
        touches = c.touch-answered.ensures.touched;
      };
      same = rw (c.follow.ensures, writes.same.count) refl;
      writes = rw c.follow.ensures writes;
    }))
