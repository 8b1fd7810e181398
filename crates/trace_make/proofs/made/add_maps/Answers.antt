use Rattle.std.proofs.Common.{ap, ◌++◌, ◌∷◌, [], ◌∙◌, append_assoc, arith, sym, map}
use Rattle.std.specs.List.{range_with_len}
use Rattle.std.proofs.lemmas.List.FromFn.{map-range_with_len_more}
use Rattle.trace_make.specs.Made.{map_line}
use Rattle.trace_make.proofs.made.add_maps.Goals as goal

pub loop-space-preserved : goal.loop-space-preserved
loop-space-preserved c =
    let lines = c.args.lines.now.items in
    let maps = map (map_line c.args.processors) (range_with_len 0 c.loop-space.space) in
    c.in_ok-push.ensures.items ∙ ap (λ l. l ++ c.map_line.result ∷ []) c.loop-space.invariant
    ∙ append_assoc lines maps (c.map_line.result ∷ [])
    ∙ ap (λ x. lines ++ (maps ++ x ∷ [])) c.map_line.ensures
    ∙ ap (λ l. lines ++ l)
    (sym (map-range_with_len_more (map_line c.args.processors) 0 c.loop-space.space c.loop-space.space (omega arith)))
