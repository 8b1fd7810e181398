use Rattle.std.proofs.Common.{subst}
use Rattle.followed_space.specs.Follows.{Follows}
use Rattle.told_space.proofs.FollowedSpaces.{right, right_after, right_answers, right_next}
use Rattle.told_space.proofs.followed.follow_pages.Goals as goal

pub answer-requires : goal.answer-requires
answer-requires c =
    let a = c.in-Answer in
    let st = c.requires.next.0 in
    let next = c.requires.next.1 in record {
      next = (
        st,
        right c.args.space.now st c.args.entry.now a.number a.call a.answered a.is next,
        right_answers c.args.space.now st c.args.entry.now a.number a.call a.answered a.is next,
        right_next c.args.space.now st c.args.entry.now a.number a.call a.answered a.is next,
      );
    }

pub returns-in-Answer-clause-follows : goal.returns-in-Answer-clause-follows
returns-in-Answer-clause-follows c = λ st next.
    let a = c.in-Answer in
    subst (Follows c.answer.new.self) (right_after c.args.space.now st c.args.entry.now a.number a.call a.answered a.is next)
    (c.answer.ensures.follows st (right c.args.space.now st c.args.entry.now a.number a.call a.answered a.is next)
    (right_answers c.args.space.now st c.args.entry.now a.number a.call a.answered a.is next)
    (right_next c.args.space.now st c.args.entry.now a.number a.call a.answered a.is next))
