use Rattle.std.proofs.Common.{sym, ap, arith}
use Rattle.reservation_lists.proofs.Members.{without_unlisted}
use Rattle.frame_pool.proofs.lists.delist.Goals as goal

pub returns-else-level-gt0 : goal.returns-else-level-gt0
returns-else-level-gt0 c =
    let lists = c.args.lists.now in
    ap (λ ls. record lists { lists = ls }) (sym (without_unlisted c.args.reservation.now.frame lists.lists (c.requires.alone (omega arith))))
