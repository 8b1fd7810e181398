use Rattle.std.proofs.Common.{◌≡◌, ℕ, ◌+◌, ◌-◌, ◌≤◌, List, Option, Some, fold, sym, ap, ◌∙◌, arith}
use Rattle.std.specs.List.{range_with_len}
use Rattle.pager_model.specs.declared.reservation.Used.{Used}
use Rattle.pager_model.specs.FrameStates.{wire_place, wire_page}
use Rattle.pager_model.specs.Layouts.{frame_in}
use Rattle.used_frames.specs.Noted.{Noted}
use Rattle.frame_pool.proofs.PinnedRanges.{wired_more, wired_past, still_noted}
use Rattle.frame_pool.proofs.pins.wire_range.Goals as goal

pub wire-requires : goal.wire-requires
wire-requires c = c.loop-place.invariant.noted c.in-Some.place.page c.in-Some.place.frame c.in-Some.ensures.place

pub loop-place-preserved : goal.loop-place-preserved
loop-place-preserved c =
    let l = c.args.layout.now in
    let space = c.args.space in
    let wired = c.args.wired in
    let first = c.args.first in
    let used = c.args.used.now in
    let page = c.in-Some.place.page in
    let frame = c.in-Some.place.frame in
    let before = c.loop-place.used in
    let low = c.loop-place.invariant.low in
    let range = c.in-Some.ensures.range in
    let wires : ℕ → List (Option Used) = λ n. fold (wire_page l space wired) used.frames (range_with_len first n) in
    let from : first ≤ page = omega (arith, low, range.0) in
    let at : page ≡ first + (page - first) = omega (arith, from) in
    let more : page - first + 1 ≡ page + 1 - first = omega (arith, from) in
    let place = frame_in l space page in
    record {
      low = omega (arith, from);
      within = omega (arith, range.1);
      wired =
          c.wire.ensures
          ∙ ap (λ o. record before { frames = wire_place wired before.frames o }) (sym c.in-Some.ensures.place)
          ∙ ap (λ (u : Noted). record u { frames = wire_place wired u.frames place }) c.loop-place.invariant.wired
          ∙ ap (λ us. record used { frames = us })
          (ap (λ us. wire_place wired us place)
          (sym (wired_past l space first c.loop-place.from page wired used.frames low range.0 c.in-Some.ensures.lowest))
          ∙ ap (λ p. wire_place wired (wires (page - first)) (frame_in l space p)) at
          ∙ sym (wired_more l space first (page - first) wired used.frames)
          ∙ ap wires more);
      noted = λ p f there. rw c.wire.ensures (still_noted wired before.frames (Some frame) f (c.loop-place.invariant.noted p f there));
    }

pub returns : goal.returns
returns c =
    let l = c.args.layout.now in
    let space = c.args.space in
    let wired = c.args.wired in
    let first = c.args.first in
    let used = c.args.used.now in
    let end = first + c.args.length in
    let wires : ℕ → List (Option Used) = λ n. fold (wire_page l space wired) used.frames (range_with_len first n) in
    let all : end - first ≡ c.args.length = omega arith in
    c.loop-place.invariant.wired
    ∙ ap (λ us. record used { frames = us })
    (sym (wired_past l space first c.loop-place.from end wired used.frames c.loop-place.invariant.low c.loop-place.invariant.within
    c.in_default.ensures.none) ∙ ap wires all)
