use Rattle.std.proofs.Common.{◌≡◌, ◌+◌, ◌^◌, ◌<◌, ◌∙◌, ℕ, slice_index, sym, ap, inl, inr, arith}
use Rattle.std.proofs.lemmas.Bool.{cases_eq}
use Rattle.std.proofs.lemmas.List.{get_or-set_other, get_or-set_same, length-set}
use Rattle.tiles.proofs.CountChanges.{are_four}
use Rattle.pager_model.specs.SizeSets.{size_within}
use Rattle.tiles.specs.Resident.{mapping_at}
use Rattle.tiles.proofs.CutCounts.{counted_all, counted_below, counted_few, counted_none, counted_other, parts_more, zeros}
use Rattle.tiles.proofs.base.Base.counts.Goals as goal

pub loop-level-init : goal.loop-level-init
loop-level-init c = record {
  long = omega arith;
  at = λ size low. zeros size low ∙ sym (counted_none c.args.sizes (mapping_at c.args.self.now) size);
}

pub overflow_mul-counts : goal.overflow_mul-counts
overflow_mul-counts c =
    let z = c.args.sizes in
    let pages = mapping_at c.args.self.now in
    let level = c.loop-level.level in
    let size = c.within-within.result in
    omega (
      arith,
      parts_more z pages c.uncut_counts-whole.result level size c.pages.result c.pages-in-loop-level.result c.loop-level-test.true
          (c.within-within.ensures ∙ ap (size_within z) c.at_level-size.ensures)
          (c.pages.ensures ∙ ap (λ n. 8 ^ n) c.at_level-size.ensures) c.pages-in-loop-level.ensures
          c.uncut_counts-whole.ensures,
      counted_few z pages size (level + 1),
    )

pub overflow_add-counts : goal.overflow_add-counts
overflow_add-counts c =
    let z = c.args.sizes in
    let pages = mapping_at c.args.self.now in
    let level = c.loop-level.level in
    let size = c.level.result in
    omega (
      arith,
      parts_more z pages c.uncut_counts-whole.result level size c.pages.result c.pages-in-loop-level.result c.loop-level-test.true
          (c.level.ensures.level ∙ c.within-within.ensures ∙ ap (size_within z) c.at_level-size.ensures)
          (c.pages.ensures ∙ ap (λ n. 8 ^ n) c.at_level-size.ensures)
          (c.pages-in-loop-level.ensures ∙ ap (λ n. 8 ^ n) (sym c.level.ensures.level)) c.uncut_counts-whole.ensures,
      counted_few z pages size (level + 1),
      c.loop-level.invariant.at size (omega (arith, c.level.ensures.small)),
    )

pub loop-level-preserved : goal.loop-level-preserved
loop-level-preserved c =
    let z = c.args.sizes in
    let pages = mapping_at c.args.self.now in
    let level = c.loop-level.level in
    let within = c.level.result in
    let own = c.level.ensures.level ∙ c.within-within.ensures ∙ ap (size_within z) c.at_level-size.ensures in
    record {
      long = length-set c.loop-level.counts _ _ ∙ c.loop-level.invariant.long;
      at = λ size low. elim (cases_eq size within) [
        | inl same ↦
            ap (slice_index _) same ∙ get_or-set_same c.loop-level.counts within _ 0
            (omega (arith, c.level.ensures.small, c.loop-level.invariant.long))
            ∙ omega (
              arith,
              c.loop-level.invariant.at within (omega (arith, c.level.ensures.small)),
              parts_more z pages c.uncut_counts-whole.result level within c.pages.result c.pages-in-loop-level.result c.loop-level-test.true own
                  (c.pages.ensures ∙ ap (λ n. 8 ^ n) c.at_level-size.ensures)
                  (c.pages-in-loop-level.ensures ∙ ap (λ n. 8 ^ n) (sym c.level.ensures.level))
                  c.uncut_counts-whole.ensures,
              ap (λ n. counted_below z pages n (level + 1)) same,
            )
        | inr apart ↦
            get_or-set_other c.loop-level.counts within size _ 0 apart ∙ c.loop-level.invariant.at size low
            ∙ sym (counted_other z pages size level (λ e. apart (sym e ∙ sym own)))
      ];
    }

pub returns : goal.returns
returns c =
    let z = c.args.sizes in
    let pages = mapping_at c.args.self.now in
    let ended : c.loop-level.level ≡ 4 = omega (arith, c.loop-level-test.false, c.loop-level.auto.level-end) in
    let at : (size : ℕ) → size < 4 → _ = λ size low. c.loop-level.invariant.at size low ∙ ap (counted_below z pages size) ended
    ∙ counted_all z pages size in
    are_four c.loop-level.counts _ _ _ _ c.loop-level.invariant.long (at 0 (omega arith)) (at 1 (omega arith)) (at 2 (omega arith))
    (at 3 (omega arith))
