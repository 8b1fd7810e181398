use Rattle.std.proofs.Common.{sym, arith}
use Rattle.line_source.proofs.Bytes.{hay_is, line_searched, none_in_all}
use Rattle.line_source.proofs.Ahead.line_behind.Goals as goal

pub returns-in_err-at-clause-none : goal.returns-in_err-at-clause-none
returns-in_err-at-clause-none c =
    let here = c.self.inside in
    rw c.from_residual.ensures (none_in_all c.args.self.now _ c.args.searched
    (hay_is here.bytes c.args.self.now here.from c.args.searched here.to (sym c.self.view_is) (omega arith) (omega arith) c.requires.within)
    c.requires.within c.requires.none_yet c.in_err-at.ensures)

pub returns-clause-some : goal.returns-clause-some
returns-clause-some c =
    let here = c.self.inside in
    line_searched c.args.self.now _ c.args.searched c.in_ok-at.at
    (hay_is here.bytes c.args.self.now here.from c.args.searched here.to (sym c.self.view_is) (omega arith) (omega arith) c.requires.within)
    c.requires.within c.in_ok-at.ensures.0.high c.requires.none_yet c.in_ok-at.ensures.0.before c.in_ok-at.ensures.1
