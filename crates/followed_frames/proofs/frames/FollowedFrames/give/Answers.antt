use Rattle.std.proofs.Common.{◌≡◌, Some, sym, ap, subst, ◌∙◌, arith}
use Rattle.std.proofs.lemmas.Option.{none-some}
use Rattle.pager_model.specs.FrameStates.{FrameState, frame_of}
use Rattle.followed_frames.specs.Ready.{IsReached, number_in}
use Rattle.followed_frames.proofs.Hands.{hands_have, hands_given, read_hand}
use Rattle.followed_frames.proofs.frames.FollowedFrames.give.Goals as goal

pub index_mut-requires : goal.index_mut-requires
index_mut-requires c =
    let reached = subst IsReached (sym c.self.view_is) c.requires.reached in
    let is = subst (λ (st : FrameState). frame_of st c.args.space c.args.page ≡ Some c.args.frame) (sym c.self.view_is) c.requires.place in
    omega (arith, (hands_have c.self.inside.hands.items c.self.inside.pool c.args.space c.args.page c.args.frame reached c.self.invariant is).0)

pub unreachable-requires : goal.unreachable-requires
unreachable-requires c =
    let reached = subst IsReached (sym c.self.view_is) c.requires.reached in
    let is = subst (λ (st : FrameState). frame_of st c.args.space c.args.page ≡ Some c.args.frame) (sym c.self.view_is) c.requires.place in
    let read = read_hand c.self.inside.hands.items c.self.inside.pool c.args.space c.args.page c.args.frame c.index_mut.result.now reached c.self.invariant is
    c.index_mut.ensures.value in
    none-some c.args.frame (ap number_in (sym c.in_default.is ∙ c.take.ensures.value) ∙ read)

pub give-requires : goal.give-requires
give-requires c =
    let reached = subst IsReached (sym c.self.view_is) c.requires.reached in
    let is = subst (λ (st : FrameState). frame_of st c.args.space c.args.page ≡ Some c.args.frame) (sym c.self.view_is) c.requires.place in
    let read = read_hand c.self.inside.hands.items c.self.inside.pool c.args.space c.args.page c.args.frame c.index_mut.result.now reached c.self.invariant is
    c.index_mut.ensures.value in
    is ∙ sym (ap number_in (sym c.in-Some.is ∙ c.take.ensures.value) ∙ read)

pub invariant_of-self : goal.invariant_of-self
invariant_of-self c =
    let reached = subst IsReached (sym c.self.view_is) c.requires.reached in
    let is = subst (λ (st : FrameState). frame_of st c.args.space c.args.page ≡ Some c.args.frame) (sym c.self.view_is) c.requires.place in
    rw (c.take.ensures.after, c.give.ensures.given)
    (hands_given c.self.inside.hands.items c.self.inside.pool c.args.space c.args.page c.args.frame reached c.self.invariant is)
