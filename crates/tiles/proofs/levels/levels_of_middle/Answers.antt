use Rattle.std.proofs.Common.{◌≡◌, ℕ, Bool, ◌+◌, ◌*◌, ◌/◌, ◌%◌, ◌^◌, if◌then◌else◌, length, is_some, slice_index, sym, ap, subst, ◌∙◌, arith}
use Rattle.std.proofs.Math.ListN.{length-set}
use Rattle.std.proofs.lemmas.List.{get_or-replicate}
use Rattle.pager_model.proofs.Options.{none_from_is_some}
use Rattle.tiles.specs.KeptEntries.{value_of}
use Rattle.tiles.proofs.EntrySizes.{AreSaid, row_of_middle, row_of_root, said_all, said_of_none, said_of, size_middle, size_small}
use Rattle.tiles.proofs.levels.levels_of_middle.Goals as goal
use Rattle.tiles.proofs.levels.levels_of_middle.Goals.{then-is_some-2, else-is_some-2}

pub returns-then-is_some-clause-levels : goal.returns-then-is_some-clause-levels
returns-then-is_some-clause-levels g c page i low whole is large =
    let t = c.args.tree.now in
    let said = c.args.said.now in
    let has = ap is_some (row_of_middle t page i c.args.middle low whole is ∙ sym c.value.ensures) ∙ sym c.if-is_some.ensures in
    get_or-replicate 8 i (slice_index said 2) 0 low ∙ ap (slice_index said)
    (sym (size_middle t (page + 8 * i) (row_of_root t page i _ low whole large) has))

pub loop-i-preserved : goal.loop-i-preserved
loop-i-preserved g c =
    let said = c.args.said.now in
    let parts = c.eight-parts.result.now in
    let has : ℕ → Bool = λ k. is_some (value_of parts k) in
    let so_far = c.loop-i.invariant in
    let i = c.loop-i.i in
    elim c.if-is_some-2.branch [
      | then-is_some-2 w ↦ record {
        eight = ap length w.levels-is ∙ (length-set c.loop-i.levels i (slice_index said 1) ∙ so_far.eight);
        said = subst (λ ls. AreSaid ls has (slice_index said 1) (slice_index said 0) (i + 1)) (sym w.levels-is)
            (said_of c.loop-i.levels has (slice_index said 1) (slice_index said 0) i (omega (arith, so_far.eight, c.loop-i-test.true))
            (ap is_some (sym c.value_of.ensures) ∙ sym w.if-is_some-2.ensures) so_far.said);
      }
      | else-is_some-2 w ↦ record {
        eight = ap length w.levels-is ∙ so_far.eight;
        said = subst (λ ls. AreSaid ls has (slice_index said 1) (slice_index said 0) (i + 1)) (sym w.levels-is)
            (said_of_none c.loop-i.levels has (slice_index said 1) (slice_index said 0) i
            (ap is_some (sym c.value_of.ensures) ∙ sym w.if-is_some-2.ensures) so_far.said);
      }
    ]

pub returns-clause-levels : goal.returns-clause-levels
returns-clause-levels g c page i low whole is large =
    let t = c.args.tree.now in
    let said = c.args.said.now in
    let parts = c.eight-parts.result.now in
    let other = page + 8 * i in
    let bare = none_from_is_some c.value.result (sym c.if-is_some.ensures) in
    let none = row_of_middle t page i c.args.middle low whole is ∙ (sym c.value.ensures ∙ bare) in
    let place : other / 8 ^ 1 % 8 ≡ i = omega (arith, whole) in
    let value = ap (value_of parts) (sym place) ∙ c.eight-parts.ensures.values 1 page other (omega arith) is (omega (arith, whole)) in
    let all = subst (AreSaid c.loop-i.levels (λ k. is_some (value_of parts k)) (slice_index said 1) (slice_index said 0))
    {x = c.loop-i.i} {y = 8} (omega arith) c.loop-i.invariant.said in
    said_all c.loop-i.levels said (λ k. is_some (value_of parts k)) i _ low all (size_small t other (row_of_root t page i _ low whole large) none
    ∙ ap (λ o. if is_some o then 1 else 0) (sym value))
