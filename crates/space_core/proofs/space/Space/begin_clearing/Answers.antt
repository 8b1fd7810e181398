use Rattle.std.proofs.Common.{◌≡◌, ◌+◌, ◌-◌, ◌∙◌, None, ap, arith, refl, rules, subst, sym}
use Rattle.std.proofs.lemmas.Option.{none-some, same_Some}
use Rattle.space_core.specs.Keeping.{IsClearing}
use Rattle.space_core.specs.Tables.{mapping_in}
use Rattle.space_core.proofs.TableLemmas.{mapping-absent}
use Rattle.tiles.specs.Sized.{large_tiles_meeting_in}
use Rattle.tiles.proofs.Meeting.{meeting_bare, meeting_from}
use Rattle.space_core.proofs.space.Space.begin_clearing.Goals as goal

pub invariant_of-self : goal.invariant_of-self
invariant_of-self g c =
    let kept = c.self.invariant in
    let none : c.self.inside.pending ≡ None = rw (← c.self.view_is) at c.requires.none_pending in
    record {
      ordered = kept.ordered;
      own = kept.own;
      mapped = kept.mapped;
      pending_in = kept.pending_in;
      pending_clean = kept.pending_clean;
      pending_alone = λ p is. absurd (none-some p (sym none ∙ is));
      clearing_in = λ r is.
          subst (IsClearing c.self.inside.table (c.args.range.first + c.args.range.length)) (same_Some c.args.range r is)
          (record { begun = omega arith; done = c.in_default.ensures.none });
    }

pub returns-in_default-clause-done : goal.returns-in_default-clause-done
returns-in_default-clause-done g c = rw (← c.self.view_is) c.in_default.ensures.none

pub returns-in_default-clause-counts : goal.returns-in_default-clause-counts
returns-in_default-clause-counts g c =
    let t = c.self.inside.table in
    let none : large_tiles_meeting_in t.sizes c.args.range.first c.args.range.length (mapping_in t) ≡ 0 =
    meeting_bare t.sizes (mapping_in t) c.args.range.first c.args.range.length
    (λ p on before. mapping-absent t p (c.in_default.ensures.none p on before)) in
    rw (← c.self.view_is) (record { same = refl; begun = refl; went_on = search rules; counted = λ _. sym none })

pub invariant_of-self-2 : goal.invariant_of-self-2
invariant_of-self-2 g c =
    let kept = c.self.invariant in
    let none : c.self.inside.pending ≡ None = rw (← c.self.view_is) at c.requires.none_pending in
    record {
      ordered = kept.ordered;
      own = kept.own;
      mapped = kept.mapped;
      pending_in = kept.pending_in;
      pending_clean = kept.pending_clean;
      pending_alone = λ p is. absurd (none-some p (sym none ∙ is));
      clearing_in = λ r is.
          subst (IsClearing c.self.inside.table c.in-Some.page) (same_Some c.args.range r is)
          (record { begun = c.in-Some.ensures.some.from_on; done = c.in-Some.ensures.some.lowest });
    }

pub returns-clause-done : goal.returns-clause-done
returns-clause-done g c = rw (← c.self.view_is) c.in-Some.ensures.some.lowest

pub returns-clause-counts : goal.returns-clause-counts
returns-clause-counts g c =
    let t = c.self.inside.table in
    let first = c.args.range.first in
    let length = c.args.range.length in
    let page = c.in-Some.page in
    let is = c.in-Some.ensures.some in
    let rest : large_tiles_meeting_in t.sizes first length (mapping_in t)
    ≡ large_tiles_meeting_in t.sizes page (first + length - page) (mapping_in t) =
    ap (λ n. large_tiles_meeting_in t.sizes first n (mapping_in t)) (omega arith)
    ∙ meeting_from t.sizes (mapping_in t) first page (first + length) is.from_on (omega (arith, is.before_end))
    (λ p on before. mapping-absent t p (is.lowest p on before)) in
    rw (← c.self.view_is)
    (record { same = refl; begun = refl; went_on = search rules; counted = λ _. c.tiles_meeting-self-inside.ensures ∙ sym rest })
