use Rattle.std.proofs.Common.{◌≡◌, false, sym, subst, ◌∙◌}
use Rattle.std.proofs.lemmas.Bool.{false≢true, and_from, eq-eqb}
use Rattle.pager_model.specs.FrameStates.{FrameState, IsVictim, has_evictable}
use Rattle.followed_frames.proofs.Rows.{none_evictable, one_victim}
use Rattle.followed_frames.proofs.frames.FollowedFrames.claim.Goals as goal

pub returns-in_default-clause-other : goal.returns-in_default-clause-other
returns-in_default-clause-other c = λ _ victim may.
    none_evictable c.args.self.now c.args.victim.now.space c.args.victim.now.page c.args.victim.now.frame
    (subst (λ (st : FrameState). has_evictable st ≡ false) c.self.view_is c.in_default.ensures.none_left.0) victim

pub returns-clause-other : goal.returns-clause-other
returns-clause-other c = λ no victim may.
    let found = c.in-Ok.found in
    let other = c.args.victim.now in
    let is : IsVictim c.args.self.now found.space found.page found.frame =
    subst (λ (st : FrameState). IsVictim st found.space found.page found.frame) c.self.view_is c.in-Ok.ensures.claimed.0 in
    let same = one_victim c.args.self.now found.space found.page found.frame other.space other.page other.frame c.requires.reached is victim in
    false≢true (sym no ∙ c.eq.ensures ∙ and_from _ _ (eq-eqb _ _ same.0) (and_from _ _ (eq-eqb _ _ same.1) (eq-eqb _ _ same.2)))
