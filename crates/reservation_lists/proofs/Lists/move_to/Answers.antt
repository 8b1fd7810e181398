use Rattle.reservation_lists.proofs.Members.{is_listed-without}
use Rattle.reservation_lists.proofs.Lists.move_to.Goals as goal

pub insert-requires-clause-unlisted : goal.insert-requires-clause-unlisted
insert-requires-clause-unlisted c = rw c.remove.ensures (is_listed-without c.args.frame c.renew.new.self.lists)
