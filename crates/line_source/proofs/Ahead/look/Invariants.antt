use Rattle.std.proofs.Common.{◌≡◌, ◌-◌, length, IfSome}
use Rattle.line_source.specs.Lines.{HasNoFeed, seen}
use Rattle.line_source.proofs.Ahead.look.Given as goal

abbrev pub invariant-reads : goal.invariant-reads
invariant-reads g l = record {
  none_yet : HasNoFeed l.self;
  same : IfSome (g.T.Source.left l.fn.source) (λ left. seen l.self (g.T.Source.left l.source) ≡ seen l.fn.self (g.T.Source.left l.fn.source));
  unfailed : g.T.Source.faults l.source ≡ g.T.Source.faults l.fn.source;
}

abbrev pub decreases-reads : goal.decreases-reads
decreases-reads g l = 4096 - length l.self
