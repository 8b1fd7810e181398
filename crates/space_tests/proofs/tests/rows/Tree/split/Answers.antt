use Rattle.std.proofs.Common.{◌||◌, ◌-◌, arith}
use Rattle.extent_tree.specs.Counts.{is_over}
use Rattle.extent_tree.specs.Rows.{is_split}
use Rattle.extent_tree.proofs.Counting.{extents-most}
use Rattle.space_tests.proofs.tests.rows.Tree.split.Goals as goal

pub split-requires-clause-room : goal.split-requires-clause-room
split-requires-clause-room g c =
    let tree = c.args.self.now.tree in
    omega (
      arith,
      extents-most (λ size other. is_split tree size other || is_over size other (c.args.size - 1) c.args.page) tree.roots,
      c.args.self.now.roots,
      c.args.self.now.room,
    )
