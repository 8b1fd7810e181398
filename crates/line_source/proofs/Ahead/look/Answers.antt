use Rattle.std.proofs.Common.{arith, sym, subst}
use Rattle.line_source.specs.Lines.{HasNoFeed}
use Rattle.line_source.proofs.Bytes.{none_left, none_more}
use Rattle.line_source.proofs.Ahead.look.Goals as goal

pub returns-then-branch-eq0-clause-next : goal.returns-then-branch-eq0-clause-next
returns-then-branch-eq0-clause-next g c =
    let none = c.if-branch-eq0.true in
    let came = c.in_ok-fill.ensures in
    let same = none_more c.fill.new.self c.reads.self c.in_ok-fill.field-0 came.kept came.count none in (
      omega (arith, came.count),
      omega arith,
      subst HasNoFeed (sym same) c.reads.invariant.none_yet,
      none_left _ _ _ c.reads.self c.args.self.now c.reads.invariant.same (came.end none),
    )
