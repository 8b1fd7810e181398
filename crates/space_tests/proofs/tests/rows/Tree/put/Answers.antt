use Rattle.std.proofs.Common.{◌||◌, arith}
use Rattle.extent_tree.specs.Counts.{is_over}
use Rattle.extent_tree.specs.Rows.{is_split}
use Rattle.extent_tree.proofs.Counting.{extents-most}
use Rattle.space_tests.proofs.tests.rows.Tree.put.Goals as goal

pub put-requires-clause-room : goal.put-requires-clause-room
put-requires-clause-room g c =
    let tree = c.args.self.now.tree in
    omega (
      arith,
      extents-most (λ whole other. is_split tree whole other || is_over whole other c.args.size c.args.page) tree.roots,
      c.args.self.now.roots,
      c.args.self.now.room,
    )
