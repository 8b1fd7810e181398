use Rattle.std.proofs.Common.{◌∙◌, sym}
use Rattle.followed_space.proofs.ServedCalls.{follows_refused}
use Rattle.followed_space.proofs.space.FollowedSpace.answer.Goals as goal

pub returns-else-is_lawful-clause-follows : goal.returns-else-is_lawful-clause-follows
returns-else-is_lawful-clause-follows c = follows_refused c.args.self.now c.args.call.now c.args.reply
    (sym c.is_lawful.ensures ∙ c.if-is_lawful.false)
