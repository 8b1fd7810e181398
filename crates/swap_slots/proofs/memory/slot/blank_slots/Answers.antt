use Rattle.std.proofs.Common.{rules, ◌≡◌, ◌-◌, ◌+◌, ap, sym, ◌∙◌, map, Some, arith}
use Rattle.std.specs.List.{range_with_len}
use Rattle.std.proofs.lemmas.Grind.{replicate_next}
use Rattle.std.proofs.lemmas.List.{same_from_push}
use Rattle.std.proofs.lemmas.List.FromFn.{map-range_with_len_more}
use Rattle.pager_model.specs.Frame.{zero_frame}
use Rattle.pager_model.specs.Stored.{zero_words}
use Rattle.swap_slots.proofs.memory.slot.blank_slots.Goals as goal

-- the frame that is taken has zero words, as has each that is left
pub loop-preserved : goal.loop-preserved
loop-preserved c =
    let left = c.args.count - (c.loop.counter + 1) in
    let one_more : c.args.count - c.loop.counter ≡ left + 1 = omega (arith, c.loop-test.true) in
    let taken = same_from_push c.pop.new.self.items (map zero_frame (range_with_len 0 left)) c.in-Some.frame (zero_frame left)
    (sym c.in-Some.ensures.items ∙ c.loop.invariant.3 ∙ ap (λ n. map zero_frame (range_with_len 0 n)) one_more
    ∙ map-range_with_len_more zero_frame 0 left left (omega arith)) in
    search (rules, replicate_next c.loop.counter (Some zero_words), taken.0, taken.1)

pub loop-init : goal.loop-init
loop-init c =
    let left : c.args.count ≡ c.args.count - 0 = omega arith in (
      c.in_ok-slots.ensures.items,
      search rules,
      c.in_ok-slots.ensures.len,
      c.in_ok-frames.ensures ∙ ap (λ n. map zero_frame (range_with_len 0 n)) left,
    )
