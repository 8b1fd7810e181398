use Rattle.std.proofs.Common.{arith}
use Rattle.std.proofs.lemmas.Nat.{one_shl}
use Rattle.buddy_extents.proofs.NodeNumbers.{IsBuddy-xor}
use Rattle.buddy_extents.proofs.nodes.buddy.Goals as goal

pub returns : goal.returns
returns c = rw (one_shl c.args.order 32 (omega arith)) (IsBuddy-xor c.args.order c.args.frame (omega arith) c.requires.frame)
