use Rattle.std.proofs.Common.{ℕ, ◌≤◌, [], List, length, flat_map, refl, subst, arith}
use Rattle.std.specs.List.{range_with_len}
use Rattle.std.proofs.lemmas.List.{take_all}
use Rattle.std.proofs.lemmas.List.FromFn.{length-range_with_len}
use Rattle.report_text.specs.CurveText.{curve_line}
use Rattle.report_text.specs.Writing.{Sent, outgoing}
use Rattle.report_text.proofs.SentBytes.{text_at, sent_next, next_failed}
use Rattle.report_text.proofs.curve_lines.put_capacities.Goals as goal

pub returns-in_err-put_capacity : goal.returns-in_err-put_capacity
returns-in_err-put_capacity g c =
    let f = curve_line c.args.tiles.now c.args.pages.now in
    let n = length c.args.tiles.now in
    let i = c.loop-place.place in
    next_failed f (range_with_len 0 n) i _ [] (text_at f n i _ c.loop-place-test.true refl)
    c.from_residual.result [] c.from_residual.ensures.0 c.loop-place.invariant c.in_err-put_capacity.ensures

pub loop-place-preserved : goal.loop-place-preserved
loop-place-preserved g c =
    let f = curve_line c.args.tiles.now c.args.pages.now in
    let n = length c.args.tiles.now in
    let i = c.loop-place.place in
    sent_next f (range_with_len 0 n) i _ [] (text_at f n i _ c.loop-place-test.true refl) c.loop-place.invariant c.in_ok-put_capacity.ensures

pub returns : goal.returns
returns g c =
    let n = length c.args.tiles.now in
    let i = c.loop-place.place in
    let all : length (range_with_len 0 n) ≤ i = omega (arith, length-range_with_len 0 n, c.loop-place-test.false) in
    let first = outgoing (g.K.Sink.taken c.args.sink.now) (g.K.Sink.writes c.args.sink.now) (g.K.Sink.faults c.args.sink.now) c.args.room.now.bytes.items in
    let last = outgoing (g.K.Sink.taken c.loop-place.sink) (g.K.Sink.writes c.loop-place.sink) (g.K.Sink.faults c.loop-place.sink) c.loop-place.room.bytes.items in
    subst (λ (l : List ℕ). Sent first last (flat_map (curve_line c.args.tiles.now c.args.pages.now) l))
    (take_all i (range_with_len 0 n) all) c.loop-place.invariant
