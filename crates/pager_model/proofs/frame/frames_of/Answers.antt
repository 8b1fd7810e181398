use Rattle.std.proofs.Common.{rules, ◌≡◌, ◌-◌, ◌+◌, ap, sym, ◌∙◌, List, ℕ, [], arith, replicate}
use Rattle.std.proofs.lemmas.Grind.{replicate_next}
use Rattle.std.proofs.lemmas.List.{same_from_push}
use Rattle.std.proofs.lemmas.List.FromFn.{map-range_with_len_more}
use Rattle.pager_model.specs.Frame.{zero_frame}
use Rattle.pager_model.proofs.frame.frames_of.Goals as goal

-- each chunk that is taken is empty, and so is each that is left
pub loop-number-preserved : goal.loop-number-preserved
loop-number-preserved c =
    let number = c.loop-number.number in
    let left = c.args.count - (number + 1) in
    let one_more : c.args.count - number ≡ left + 1 = omega (arith, c.loop-number-test.true) in
    let empty : c.loop-number.chunks.items ≡ replicate (c.args.count - number) [] = c.loop-number.invariant.3 in
    let taken = same_from_push c.pop.new.self.items (replicate left []) c.in-Some.chunk []
    (sym c.in-Some.ensures.items ∙ empty ∙ ap (λ (n : ℕ). replicate {A = List ℕ} n []) one_more ∙ replicate_next left []) in
    let more = map-range_with_len_more zero_frame 0 number number (omega arith) in
    search (rules, more, taken.0, taken.1)
