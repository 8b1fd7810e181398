use Rattle.std.proofs.Common.{ap, ◌∙◌}
use Rattle.reservation_lists.specs.Kept.{KeptLists, is_listed}
use Rattle.reservation_lists.proofs.Members.{is_listed-without}
use Rattle.pool_tests.proofs.tests.members.put.Goals as goal

pub insert-requires-clause-unlisted : goal.insert-requires-clause-unlisted
insert-requires-clause-unlisted c =
    ap (λ (k : KeptLists). is_listed c.args.frame k.lists) c.remove.ensures
    ∙ is_listed-without c.args.frame c.args.lists.now.lists
