use Rattle.followed_space.proofs.space.FollowedSpace.follow.Goals as goal

pub returns-in-Out-clause-follows : goal.returns-in-Out-clause-follows
returns-in-Out-clause-follows c = λ st next. c.page_out.ensures.follows st c.args.entry.now c.in-Out.written c.in-Out.is next

pub returns-in-Give-clause-follows : goal.returns-in-Give-clause-follows
returns-in-Give-clause-follows c = λ st next. c.give.ensures.follows st c.args.entry.now c.in-Give.frame c.in-Give.is next
