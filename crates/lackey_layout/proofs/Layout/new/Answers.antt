-- a copy of no piece is no piece
use Rattle.std.proofs.Common.{rules}
use Rattle.lackey_layout.proofs.Layout.new.Goals as goal

pub returns-clause-none : goal.returns-clause-none
returns-clause-none c = c.in_ok-vec.ensures.items_if_clones_equal (λ y same. search rules)
