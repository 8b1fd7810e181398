use Rattle.std.proofs.Common.{◌≡◌, ℕ, suc, ◌+◌, ◌*◌, ◌<◌, ◌≤◌, Some, false, eqb, inl, inr, ap, sym, ◌∙◌, arith}
use Rattle.std.proofs.lemmas.Bool.{cases_eq, eq-eqb, eqb-true, false≢true}
use Rattle.std.proofs.lemmas.Option.{same_Some}
use Rattle.pager_model.specs.declared.tile.Mapping.{Mapping}
use Rattle.pager_model.specs.declared.extent.Extent.{Extent}
use Rattle.tiles.specs.declared.entry.TableEntry.{TableEntry}
use Rattle.tiles.specs.TableEntries.{AreEntries, entry_at, entry_with, extent_round, mapping_of}
use Rattle.tiles.specs.Resident.{Resident}
use Rattle.tiles.proofs.EntryTiles.{alike_all, entry_says, first_there, put_there, set_apart, set_says, set_tiles, tiles_but}
use Rattle.tiles.proofs.entries.set.Goals as goal

is_less : (a b : ℕ) → a ≤ b → eqb b a ≡ false → a < b
is_less a b most differs = elim (cases_eq b a) [ inl same ↦ absurd (false≢true (sym differs ∙ eq-eqb b a same)) | inr apart ↦ omega arith ]

-- the part is the extent of an entry that is there
stands : (m : Resident) (before part : TableEntry) (size page : ℕ) (mapping : Mapping) → AreEntries m → entry_at m page ≡ Some before
    → before.extent.size ≡ size → part ≡ entry_with size page mapping
    → (e : TableEntry) × (entry_at m part.extent.first ≡ Some e) × (e.extent ≡ part.extent)
stands m before part size page mapping entries there sized is =
    let same : before.extent ≡ part.extent = sym (entries.round page before there) ∙ ap (λ (k : ℕ). extent_round k page) sized
    ∙ ap (λ (e : TableEntry). e.extent) (sym is) in
    (before, ap (λ (x : Extent). entry_at m x.first) (sym same) ∙ first_there m entries page before there, same)

pub replace-requires : goal.replace-requires
replace-requires g c =
    stands c.args.map.now c.args.entry c.round-part.result c.args.size c.args.page c.args.mapping c.requires.tiles.entries c.requires.there
    (eqb-true _ _ (sym c.eq.ensures ∙ c.if-eq.true)) c.round-part.ensures

pub replace-requires-2 : goal.replace-requires-2
replace-requires-2 g c =
    let split = c.split_to.ensures in
    stands c.split_to.new.map c.split_to.result c.round-part.result c.args.size c.args.page c.args.mapping split.tiles.entries split.there
    split.size c.round-part.ensures

pub join_up-requires-clause-there : goal.join_up-requires-clause-there
join_up-requires-clause-there g c =
    rw c.round-part.ensures
    (put_there c.args.map.now c.replace.new.self c.args.size c.args.page c.args.mapping (rw c.round-part.ensures at c.replace.ensures.entries))

pub join_up-requires-clause-tiles : goal.join_up-requires-clause-tiles
join_up-requires-clause-tiles g c =
    let m = c.args.map.now in
    let entry = c.args.entry in
    rw c.round-part.ensures
    (set_tiles m c.replace.new.self entry c.args.size c.args.page 0 c.args.mapping c.requires.there
    (eqb-true _ _ (sym c.eq.ensures ∙ c.if-eq.true)) c.requires.first c.requires.frame (tiles_but m c.args.page 0 c.requires.tiles)
    (rw c.round-part.ensures at c.replace.ensures.entries))

pub split_to-requires-clause-tiles : goal.split_to-requires-clause-tiles
split_to-requires-clause-tiles g c = tiles_but c.args.map.now c.args.page (suc c.args.entry.extent.size) c.requires.tiles

pub returns-then-eq-clause-pages : goal.returns-then-eq-clause-pages
returns-then-eq-clause-pages g c p =
    let m = c.args.map.now in
    let low : c.args.size ≤ 3 = omega (arith, c.requires.tiles.entries.low c.args.page c.args.entry c.requires.there) in
    c.join_up.ensures.pages.at p
    ∙ set_says m m c.replace.new.self c.args.size c.args.page c.args.mapping low c.requires.first (alike_all m)
    (rw c.round-part.ensures at c.replace.ensures.entries) p

pub returns-clause-pages : goal.returns-clause-pages
returns-clause-pages g c =
    let low : c.args.size ≤ 3 = omega (arith, c.requires.tiles.entries.low c.args.page c.args.entry c.requires.there) in
    set_says c.args.map.now c.split_to.new.map c.replace-2.new.self c.args.size c.args.page c.args.mapping low c.requires.first c.split_to.ensures.pages (rw c.round-part.ensures at c.replace-2.ensures.entries)

pub returns-clause-tiles : goal.returns-clause-tiles
returns-clause-tiles g c =
    let m = c.args.map.now in
    let n = c.replace-2.new.self in
    let entry = c.args.entry in
    let split = c.split_to.ensures in
    let maps = rw c.round-part.ensures at c.replace-2.ensures.entries in
    let low : c.args.size ≤ 3 = omega (arith, c.requires.tiles.entries.low c.args.page entry c.requires.there) in
    let says : mapping_of entry c.args.page ≡ mapping_of c.split_to.result c.args.page = same_Some _ _
    (sym (split.pages.at c.args.page ∙ entry_says m c.args.page entry c.requires.there)
    ∙ entry_says c.split_to.new.map c.args.page c.split_to.result split.there) in
    set_apart m n entry c.args.size c.args.page c.args.mapping (record {
      entries = c.requires.tiles.entries;
      there = c.requires.there;
      smaller_part = is_less c.args.size entry.extent.size c.requires.size (sym c.eq.ensures ∙ c.if-eq.false);
      frame = c.requires.frame;
      other = c.requires.other;
      says = set_says m c.split_to.new.map n c.args.size c.args.page c.args.mapping low c.requires.first split.pages maps;
    })
    (set_tiles c.split_to.new.map n c.split_to.result c.args.size c.args.page _ c.args.mapping split.there split.size c.requires.first
    (c.requires.frame ∙ ap (λ (x : Mapping). x.frame) says) split.tiles maps)

pub returns-clause-there : goal.returns-clause-there
returns-clause-there g c =
    rw c.round-part.ensures
    (put_there c.split_to.new.map c.replace-2.new.self c.args.size c.args.page c.args.mapping (rw c.round-part.ensures at c.replace-2.ensures.entries))

cost_joined : (begun put done size : ℕ) → put ≤ begun + 10 → done + 16 * size ≤ put + 48 → done ≤ begun + 58
cost_joined begun put done size one more = omega arith

pub returns-then-eq-clause-cost : goal.returns-then-eq-clause-cost
returns-then-eq-clause-cost g c =
    cost_joined c.args.steps.now c.replace.new.steps c.join_up.new.steps c.round-part.result.extent.size c.replace.ensures.cost
    c.join_up.ensures.cost

cost_broken : (begun broken done size whole : ℕ) → whole ≤ 3 → broken + 12 * size ≤ begun + 12 * whole → done ≤ broken + 10
    → done ≤ begun + 58
cost_broken begun broken done size whole low first last = omega arith

pub returns-clause-cost : goal.returns-clause-cost
returns-clause-cost g c =
    let entry = c.args.entry in
    cost_broken c.args.steps.now c.split_to.new.steps c.replace-2.new.steps c.args.size entry.extent.size
    (c.requires.tiles.entries.low c.args.page entry c.requires.there) c.split_to.ensures.cost c.replace-2.ensures.cost
