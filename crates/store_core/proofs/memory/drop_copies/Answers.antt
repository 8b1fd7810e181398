use Rattle.std.proofs.Common.{◌≡◌, ℕ, Bool, true, false, not, filter, refl, sym, ap, ◌∙◌}
use Rattle.std.specs.BTreeMap.{is_at}
use Rattle.std.specs.Cmp.{unsigned_tied}
use Rattle.std.specs.Ordering.{nat_cmp}
use Rattle.std.proofs.lemmas.Bool.{eqb-true, false≢true}
use Rattle.pager_model.specs.Regions.{in_range}
use Rattle.store_core.proofs.CopyLemmas.{filter_without, filter_whole}
use Rattle.store_core.proofs.memory.drop_copies.Goals as goal

pub loop-page-preserved-in-Some : goal.loop-page-preserved-in-Some
loop-page-preserved-in-Some c =
    let outside = λ (p : ℕ). not (in_range c.args.first c.args.length p) in
    let page = c.in-Some.page in
    ap (filter (λ copy. outside copy.0)) c.remove.ensures.entries
    ∙ filter_without (is_at (nat_cmp page)) outside c.loop-page.copies.entries
    (λ p at. ap outside (sym (eqb-true page p (sym (unsigned_tied page p) ∙ at))) ∙ ap not c.in-Some.ensures.some.0)
    ∙ c.loop-page.invariant

pub returns : goal.returns
returns c =
    let outside = λ (p : ℕ). not (in_range c.args.first c.args.length p) in
    sym (filter_whole outside c.loop-page.copies.entries (λ p refused. c.in_default.ensures.none p
    (inside (in_range c.args.first c.args.length p) refused)))
    ∙ c.loop-page.invariant
  where
    inside : (b : Bool) → not b ≡ false → b ≡ true
    inside true h = refl
    inside false h = absurd (false≢true (sym h))
