use Rattle.std.proofs.Common.{◌≡◌, ◌∙◌, ℕ, ap, refl, sym, Option, Some}
use Rattle.pager_model.specs.declared.tile.Mapping.{Mapping}
use Rattle.pager_model.specs.Tiles.{tile_in}
use Rattle.space_core.specs.Standing.{Kept}
use Rattle.space_core.specs.Tables.{mapping_in}
use Rattle.space_core.proofs.SameView.{as_fields}
use Rattle.space_core.proofs.FilledPages.{reads_in, fails_to_read}
use Rattle.space_core.proofs.ServedPages.{same_kept, kept_again, refilled_mapped}
use Rattle.space_core.proofs.TableLemmas.{frame-absent, frame-mapped, frame-same, dirty-same}
use Rattle.space_core.proofs.space.Space.read_in.Goals as goal

pub unreachable-requires : goal.unreachable-requires
unreachable-requires g c =
    (rw (← c.self.view_is) at c.requires.resident)
    (frame-absent c.self.inside.table c.args.page (sym (rw c.in_default.is at c.translate.ensures.mapping)))

pub read_copy-requires : goal.read_copy-requires
read_copy-requires g c =
    record { resident = frame-mapped c.self.inside.table c.args.page c.in-Some.found.mapping (sym c.in-Some.ensures.mapping) }

pub invariant_of-self : goal.invariant_of-self
invariant_of-self g c =
    let e = c.read_copy.ensures.table in
    same_kept (as_fields c.self.view_is) c.read_copy.new.self _ c.self.invariant e.same (λ q. frame-same _ _ q (e.mapping q))
    (refilled_mapped _ _ _ c.args.page e c.self.invariant.mapped)

pub invariant_of-self-in-Err : goal.invariant_of-self-in-Err
invariant_of-self-in-Err g c =
    let e = c.read_copy.ensures.table in
    kept_again (as_fields c.self.view_is) c.read_copy.new.self _ c.self.invariant e.same (λ q none. frame-same _ _ q (e.mapping q) ∙ none)
    (λ q clean. dirty-same _ _ q (e.mapping q) ∙ clean)
    (refilled_mapped _ _ _ c.args.page e c.self.invariant.mapped)

pub returns-in-Ok-clause-read : goal.returns-in-Ok-clause-read
returns-in-Ok-clause-read g c =
    let pending : c.self.inside.pending ≡ Some c.args.page = ap (λ (k : Kept). k.pending) c.self.view_is ∙ c.requires.pending in
    let e = c.read_copy.ensures in
    rw (← c.self.view_is)
    (reads_in (as_fields c.self.view_is) _ c.args.page
    (record {
      pending = pending;
      resident = rw (← c.self.view_is) at c.requires.resident;
      clean = c.self.invariant.pending_clean c.args.page pending;
      refills = e.table;
      copies = e.same;
      faults = e.never_falls;
      once = e.counted;
      same = rw (e.table.same.count, e.unwritten) refl;
    })
    refl c.in-Ok.ensures.unfailed c.in-Ok.ensures.read)

-- what is said of each page is as before, so the page's tile is too
pub returns-in-Ok-clause-found : goal.returns-in-Ok-clause-found
returns-in-Ok-clause-found g c =
    let e = c.read_copy.ensures.table in
    let was = c.in-Some.ensures in
    record {
      mapping = e.mapping c.args.page ∙ sym was.mapping;
      tile = ap (λ z. tile_in z (mapping_in c.read_copy.new.self) c.args.page) e.same.sizes
          ∙ ap (λ (at : ℕ → Option Mapping). tile_in c.self.inside.table.sizes at c.args.page) (λ i p. e.mapping p i) ∙ sym was.tile;
    }

pub returns-in-Err-clause-failed : goal.returns-in-Err-clause-failed
returns-in-Err-clause-failed g c =
    let pending : c.self.inside.pending ≡ Some c.args.page = ap (λ (k : Kept). k.pending) c.self.view_is ∙ c.requires.pending in
    let e = c.read_copy.ensures in
    rw (← c.self.view_is)
    (fails_to_read (as_fields c.self.view_is) _ c.args.page
    (record {
      pending = pending;
      resident = rw (← c.self.view_is) at c.requires.resident;
      clean = c.self.invariant.pending_clean c.args.page pending;
      refills = e.table;
      copies = e.same;
      faults = e.never_falls;
      once = e.counted;
      same = rw (e.table.same.count, e.unwritten) refl;
    })
    (c.self.invariant.pending_alone c.args.page pending) c.faults.result refl c.in-Err.ensures.rose c.faults.ensures.faults)
