use Rattle.std.proofs.Common.{◌≡◌, ℕ, None, IsSomeAnd, sym, subst}
use Rattle.pager_model.specs.declared.entry.What.{What}
use Rattle.pager_model.specs.FrameStates.{FramesAllow, AllowsAnswer, frame_of, take_frame, state_taken, give_if_used, give_range, pin_range, dropped, moved, moved_by_answer, named_space}
use Rattle.pager_laws.proofs.GivenRanges.{give_if_used-some}
use Rattle.contiguity_plan.specs.Tables.{IsRight}
use Rattle.contiguity_plan.proofs.table.Table.step.Goals as goal

pub returns-in-Answer-clause-right : goal.returns-in-Answer-clause-right
returns-in-Answer-clause-right c = λ frames processors mark st sound right allowed.
    let e = c.args.entry.now in
    let may = subst (λ (w : What). FramesAllow st mark e.processor e.space w) c.in-Answer.is allowed in
    subst (λ (w : What). IsRight (moved st e.processor e.space w) c.answer.new.self) (sym c.in-Answer.is)
    (subst (λ (s : ℕ). AllowsAnswer st s c.in-Answer.call → IsRight
    (moved_by_answer st s c.in-Answer.call) c.answer.new.self) c.space_of-space.ensures
    (c.answer.ensures.right frames processors st sound right) may)

pub returns-in_ok-take-in-Take-clause-right : goal.returns-in_ok-take-in-Take-clause-right
returns-in_ok-take-in-Take-clause-right c = λ frames processors mark st sound right allowed.
    let e = c.args.entry.now in
    let page = c.in-Take.page in
    let want = c.in-Take.want in
    let may = subst (λ (w : What). FramesAllow st mark e.processor e.space w) c.in-Take.is allowed in
    subst (λ (w : What). IsRight (moved st e.processor e.space w) c.take.new.self) (sym c.in-Take.is)
    (subst (λ (s : ℕ). frame_of st s page ≡ None → IsSomeAnd (take_frame st s page want) (λ t. t.frame ≡ c.in-Take.frame)
    → IsRight (state_taken st (take_frame st s page want)) c.take.new.self)
    c.space_of-space.ensures (c.in_ok-take-in-Take.ensures.right frames processors st sound right) may.0 may.2)

pub returns-in-Give-clause-right : goal.returns-in-Give-clause-right
returns-in-Give-clause-right c = λ frames processors mark st sound right allowed.
    let e = c.args.entry.now in
    let page = c.in-Give.page in
    let may = subst (λ (w : What). FramesAllow st mark e.processor e.space w) c.in-Give.is allowed in
    subst (λ (w : What). IsRight (moved st e.processor e.space w) c.give.new.self) (sym c.in-Give.is)
    (subst (λ s. IsRight s c.give.new.self) (give_if_used-some st (named_space e.space) page c.in-Give.frame may)
    (subst (λ (s : ℕ). IsRight (give_if_used s st page) c.give.new.self) c.space_of-space.ensures
    (c.give.ensures.right frames processors st sound right)))

pub returns-in-Clear-clause-right : goal.returns-in-Clear-clause-right
returns-in-Clear-clause-right c = λ frames processors mark st sound right allowed.
    let e = c.args.entry.now in
    subst (λ (w : What). IsRight (moved st e.processor e.space w) c.clear.new.self) (sym c.in-Clear.is)
    (subst (λ (s : ℕ). IsRight (give_range st s c.in-Clear.first c.in-Clear.length) c.clear.new.self) c.space_of-space.ensures
    (c.clear.ensures.right frames processors st sound right))

pub returns-in-Pin-clause-right : goal.returns-in-Pin-clause-right
returns-in-Pin-clause-right c = λ frames processors mark st sound right allowed.
    let e = c.args.entry.now in
    subst (λ (w : What). IsRight (moved st e.processor e.space w) c.pin.new.self) (sym c.in-Pin.is)
    (subst (λ (s : ℕ). IsRight (pin_range st s c.in-Pin.first c.in-Pin.length c.in-Pin.wired) c.pin.new.self) c.space_of-space.ensures
    (c.pin.ensures.right frames processors st sound right))

pub returns-in_ok-use_held-in-UseHeld-clause-right : goal.returns-in_ok-use_held-in-UseHeld-clause-right
returns-in_ok-use_held-in-UseHeld-clause-right c = λ frames processors mark st sound right allowed.
    let e = c.args.entry.now in
    let page = c.in-UseHeld.page in
    let want = c.in-UseHeld.want in
    let may = subst (λ (w : What). FramesAllow st mark e.processor e.space w) c.in-UseHeld.is allowed in
    let left = dropped st e.processor in
    subst (λ (w : What). IsRight (moved st e.processor e.space w) c.use_held.new.self) (sym c.in-UseHeld.is)
    (subst (λ (s : ℕ). frame_of st s page ≡ None → IsSomeAnd (take_frame left s page want) (λ t. t.frame ≡ c.in-UseHeld.frame)
    → IsRight (state_taken left (take_frame left s page want)) c.use_held.new.self)
    c.space_of-space.ensures (c.in_ok-use_held-in-UseHeld.ensures.right frames processors st sound right) may.0 may.2)
