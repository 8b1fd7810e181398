use Rattle.std.proofs.Common.{ap, ◌∙◌, ◌++◌, ◌-◌, map, subst, sym, None}
use Rattle.std.specs.List.{range_with_len}
use Rattle.pager_model.specs.TraceText.{HasText}
use Rattle.trace_make.specs.Made.{drawn_lines, map_line}
use Rattle.trace_make.proofs.MadeLines.{HasText-made}
use Rattle.trace_make.proofs.made.make.Goals as goal

pub of-requires-2 : goal.of-requires-2
of-requires-2 c =
    let args = c.args in
    let drawn = drawn_lines args.processors args.spaces (args.calls - args.spaces) in
    let maps = map (map_line args.processors) (range_with_len 0 args.spaces) in
    let are =
    c.in_ok-add_drawn.ensures ∙ ap (λ l. l ++ drawn c.of.result) (c.in_ok-add_maps.ensures
    ∙ ap (λ l. l ++ maps) c.in_ok-lines.ensures.items)
    ∙ ap (λ x. maps ++ drawn x) c.of.ensures in
    subst (λ l. HasText (record {
      version = 1;
      frames = args.frames;
      processors = args.processors;
      spaces = args.spaces;
      sizes = c.all.result;
      daemon = None;
      calls = l;
    })) (sym are)
    (subst (λ z. HasText (record {
      version = 1;
      frames = args.frames;
      processors = args.processors;
      spaces = args.spaces;
      sizes = z;
      daemon = None;
      calls = maps ++ drawn args.number;
    })) (sym c.all.ensures)
    (HasText-made args.number args.calls args.processors args.spaces args.frames c.requires))
