use Rattle.std.proofs.Common.{◌≡◌, ◌<◌, false, length, sym, ap, ◌∙◌}
use Rattle.std.proofs.lemmas.Bool.{ltb-true}
use Rattle.frame_table.specs.Refusals.{is_processor, holds_any, claims_any}
use Rattle.frame_table.proofs.Claims.{has_nothing}
use Rattle.frame_table.proofs.Moves.{IsTable-claimed}
use Rattle.frame_table.proofs.table.FrameTable.claim.Goals.{in-Ok, in-Err}
use Rattle.frame_table.proofs.table.FrameTable.claim.Goals as goal

pub invariant_of-self : goal.invariant_of-self
invariant_of-self c =
    let st = c.self.inside.pool in
    let who = c.args.processor in
    let seen = c.self.view_is in
    let known : who < length st.held = ltb-true _ _ (ap (λ s. is_processor s who) seen ∙ sym c.has_processor.ensures ∙ c.if-not-has_processor.false) in
    let holds : holds_any st who ≡ false = ap (λ s. holds_any s who) seen ∙ sym c.holds_any.ensures ∙ c.if-holds_any.false in
    let claims : claims_any st who ≡ false = ap (λ s. claims_any s who) seen ∙ sym c.claims_any.ensures ∙ c.if-claims_any.false in
    elim c.match-claim.branch [
      | in-Ok w ↦
          let v = w.in-Ok.victim in
          let claimed = w.in-Ok.ensures.claimed in
          rw claimed.1 (IsTable-claimed c.self.inside.out.items st v.space v.page v.frame who c.self.invariant known (has_nothing st who holds claims) claimed.0)
      | in-Err w ↦ rw w.in-Err.ensures.none_left.1 c.self.invariant
    ]
