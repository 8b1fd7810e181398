use Rattle.std.proofs.Common.{◌-◌, arith, sym, ◌∙◌}
use Rattle.line_source.proofs.Bytes.{came_behind, none_came, seen_more, view_long}
use Rattle.line_source.proofs.Ahead.fill.Goals as goal

pub returns-clause-same : goal.returns-clause-same
returns-clause-same g c =
    let here = c.self.inside in
    let long = view_long here.bytes c.args.self.now here.from here.to (sym c.self.view_is) (omega arith) in
    seen_more _ _ _ c.read.new.into _ c.in_ok-n.n
    (came_behind c.move_to_front.new.bytes c.read.new.into _ c.args.self.now (here.to - here.from) c.in_ok-n.n
    (c.move_to_front.ensures.moved ∙ c.self.view_is) long (omega (arith, c.in_ok-n.ensures.within))) c.in_ok-n.ensures.gave c.in_ok-n.ensures.rest

pub returns-clause-end : goal.returns-clause-end
returns-clause-end g c =
    let here = c.self.inside in
    let long = view_long here.bytes c.args.self.now here.from here.to (sym c.self.view_is) (omega arith) in
    λ none. none_came _ _ c.in_ok-n.n none (c.in_ok-n.ensures.end none (omega arith)) c.in_ok-n.ensures.rest
