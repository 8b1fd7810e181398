-- Where a processor's entry leads in its order, the place says what the processor claims or holds after the entry.
use Rattle.std.proofs.Common.{◌≡◌, ℕ, zero, suc, ◌+◌, Bool, true, false, cond, eqb, ◌&&◌, Option, Some, None, refl, ap, subst, ◌∙◌}
use Rattle.std.proofs.lemmas.Bool.{and_parts, eqb-true, false≢true}
use Rattle.std.proofs.lemmas.Option.{none-some, same_Some}
use Rattle.pager_model.specs.declared.entry.Victim.{Victim}
use Rattle.pager_model.specs.declared.call.Call.{Call}
use Rattle.pager_model.specs.declared.entry.Need.{Need}
use Rattle.pager_model.specs.declared.reply.Reply.{Reply}
use Rattle.pager_model.specs.Agreement.{ClaimsOrHolds, OwnsBy}
use Rattle.pager_model.specs.FrameStates.{FrameState, held_by, HasNothing}
use Rattle.pager_model.specs.Order.{Purpose, Doing, Progress, leads, may_answer, after_answer, after_take, after_use, after_clear, after_pin, after_kept, after_out, after_failure, after_give, after_claim, after_got, after_unclaim, lacking_for, faulted_for, after_drop, dropped_for, after_refusal, after_rest, is_victim, between}
use Rattle.pager_model.specs.Order.Purpose.{ForAccess, ForTurn}
use Rattle.pager_model.specs.Order.Doing.{Idle, Looking, Filling, Unfilling, Claiming, Emptied, Unwritten, Holding}
use Rattle.pager_laws.proofs.Owners.{Keeps, Keeps-owns}

-- where an entry leads, its test holds
leads_to : (P : Doing → Type 0) (holds : Bool) (made : ℕ) (doing : Doing) (q : Progress) → leads holds made doing ≡ Some q
    → (holds ≡ true → P doing) → P q.doing
leads_to P true made doing q is at = subst (λ (p : Progress). P p.doing) (same_Some (record { made = made; doing = doing }) q is) (at refl)
leads_to P false made doing q is at = absurd (none-some q is)

then_leads : (P : Type 0) (holds : Bool) (o : Option Progress) (q : Progress) → cond holds o None ≡ Some q
    → (holds ≡ true → o ≡ Some q → P) → P
then_leads P true o q is at = at refl is
then_leads P false o q is at = absurd (none-some q is)

-- Entries that leave the processor's own frame as it was.
module _ (st after : FrameState) (c : ℕ) (keeps : Keeps st after c) where
  owns-idle : (doing : Doing) (call : Call) (reply : Reply) → may_answer doing call reply ≡ true → OwnsBy st c doing → OwnsBy after c Idle
  owns-idle (Claiming purpose victim) call reply may owns = absurd (false≢true may)
  owns-idle (Emptied purpose victim) call reply may owns = absurd (false≢true may)
  owns-idle (Unwritten purpose victim count) call reply may owns = absurd (false≢true may)
  owns-idle (Holding purpose victim) call reply may owns = absurd (false≢true may)
  owns-idle doing call reply may owns = keeps.nothing owns

  pub owns-answer : (p q : Progress) (number : ℕ) (call : Call) (reply : Reply) → after_answer p number call reply ≡ Some q
      → OwnsBy st c p.doing → OwnsBy after c q.doing
  owns-answer p q number call reply is owns =
      leads_to (OwnsBy after c) (eqb number p.made && may_answer p.doing call reply) (p.made + 1) Idle q is
      (λ may. owns-idle p.doing call reply (and_parts _ _ may).1 owns)

  pub owns-take : (made : ℕ) (doing : Doing) (q : Progress) (space page frame : ℕ) → after_take made doing space page frame ≡ Some q
      → OwnsBy st c doing → OwnsBy after c q.doing
  owns-take made Idle q space page frame is owns = leads_to (OwnsBy after c) true made _ q is (λ _. keeps.nothing owns)
  owns-take made doing q space page frame is owns = absurd (none-some q is)

  pub owns-clear : (made : ℕ) (doing : Doing) (q : Progress) (space first len : ℕ) → after_clear made doing space first len ≡ Some q
      → OwnsBy st c doing → OwnsBy after c q.doing
  owns-clear made Idle q space first len is owns = leads_to (OwnsBy after c) true made _ q is (λ _. keeps.nothing owns)
  owns-clear made doing q space first len is owns = absurd (none-some q is)

  pub owns-pin : (made : ℕ) (doing : Doing) (q : Progress) (space first len : ℕ) (wired : Bool)
      → after_pin made doing space first len wired ≡ Some q → OwnsBy st c doing → OwnsBy after c q.doing
  owns-pin made Idle q space first len wired is owns = leads_to (OwnsBy after c) true made _ q is (λ _. keeps.nothing owns)
  owns-pin made doing q space first len wired is owns = absurd (none-some q is)

  pub owns-kept : (made : ℕ) (doing : Doing) (q : Progress) (space first len page : ℕ)
      → after_kept made doing space first len page ≡ Some q → OwnsBy st c doing → OwnsBy after c q.doing
  owns-kept made Idle q space first len page is owns = leads_to (OwnsBy after c) true made _ q is (λ _. keeps.nothing owns)
  owns-kept made doing q space first len page is owns = absurd (none-some q is)

  pub owns-out : (made : ℕ) (doing : Doing) (q : Progress) (space page : ℕ) → after_out made doing space page ≡ Some q → OwnsBy st c doing
      → OwnsBy after c q.doing
  owns-out made (Claiming purpose victim) q space page is owns = leads_to (OwnsBy after c) _ made _ q is
      (λ _. Keeps-owns st after c false (Some victim) keeps owns)
  owns-out made doing q space page is owns = absurd (none-some q is)

  pub owns-failure : (made : ℕ) (doing : Doing) (q : Progress) (space page : ℕ) (writing : Bool) (count : ℕ)
      → after_failure made doing space page writing count ≡ Some q → OwnsBy st c doing → OwnsBy after c q.doing
  owns-failure made Idle q space page writing count is owns = leads_to (OwnsBy after c) _ made _ q is (λ _. keeps.nothing owns)
  owns-failure made (Claiming purpose victim) q space page writing count is owns =
      leads_to (OwnsBy after c) _ made _ q is (λ _. Keeps-owns st after c false (Some victim) keeps owns)
  owns-failure made (Filling a frame) q space page writing count is owns = leads_to (OwnsBy after c) _ made _ q is (λ _. keeps.nothing owns)
  owns-failure made doing q space page writing count is owns = absurd (none-some q is)

  pub owns-refusal : (made : ℕ) (doing : Doing) (q : Progress) (wired claimed held : ℕ)
      → after_refusal made doing wired claimed held ≡ Some q
      → OwnsBy st c doing → OwnsBy after c q.doing
  owns-refusal made Idle q wired claimed held is owns = leads_to (OwnsBy after c) true made _ q is (λ _. keeps.nothing owns)
  owns-refusal made doing q wired claimed held is owns = absurd (none-some q is)

  pub owns-rest : (made : ℕ) (doing : Doing) (q : Progress) (short : Bool) → after_rest made doing short ≡ Some q → OwnsBy st c doing
      → OwnsBy after c q.doing
  owns-rest made (Looking mark evictions) q short is owns = leads_to (OwnsBy after c) _ (made + 1) _ q is (λ _. keeps.nothing owns)
  owns-rest made doing q short is owns = absurd (none-some q is)

  -- a victim's page gives its frame up, and the frame is held
  pub owns-give : (made : ℕ) (doing : Doing) (q : Progress) (space page frame : ℕ) → after_give made doing space page frame ≡ Some q
      → ((victim : Victim) → frame ≡ victim.frame → ClaimsOrHolds st c victim → held_by after c ≡ Some victim.frame) → OwnsBy st c doing
      → OwnsBy after c q.doing
  owns-give made (Unfilling a own count) q space page frame is held owns = leads_to (OwnsBy after c) _ made _ q is (λ _. keeps.nothing owns)
  owns-give made (Emptied purpose victim) q space page frame is held owns =
      leads_to (OwnsBy after c) (is_victim victim space page && eqb frame victim.frame) made (Holding purpose victim) q is
      (λ test. held victim (eqb-true frame victim.frame (and_parts _ _ test).1) owns)
  owns-give made doing q space page frame is held owns = absurd (none-some q is)

-- A processor claims its victim.
pub owns-claim : (after : FrameState) (c made : ℕ) (doing : Doing) (space : Option ℕ) (victim : Victim) (need : Option Need)
    → ClaimsOrHolds after c victim → (q : Progress) → after_claim made doing space victim need ≡ Some q → OwnsBy after c q.doing
owns-claim after c made Idle (Some space) victim (Some need) claims q is = leads_to (OwnsBy after c) true made _ q is (λ _. claims)
owns-claim after c made (Looking mark evictions) None victim None claims q is = leads_to (OwnsBy after c) _ made _ q is (λ _. claims)
owns-claim after c made doing space victim need claims q is = absurd (none-some q is)

-- its victim's frame came to its hand
pub owns-got : (after : FrameState) (c made : ℕ) (doing : Doing) (q : Progress) (frame : ℕ) → after_got made doing frame ≡ Some q
    → held_by after c ≡ Some frame → OwnsBy after c q.doing
owns-got after c made (Claiming purpose victim) q frame is holds =
    leads_to (OwnsBy after c) (eqb frame victim.frame) made (Holding purpose victim) q is
    (λ test. holds ∙ ap Some (eqb-true frame victim.frame test))
owns-got after c made doing q frame is holds = absurd (none-some q is)

-- Entries after which the processor has nothing.

pub owns-use : (after : FrameState) (c made : ℕ) (doing : Doing) (space page frame : ℕ) → HasNothing after c
    → (q : Progress) → after_use made doing space page frame ≡ Some q → OwnsBy after c q.doing
owns-use after c made (Holding (ForAccess a) victim) space page frame nothing q is = leads_to (OwnsBy after c) _ made _ q is (λ _. nothing)
owns-use after c made doing space page frame nothing q is = absurd (none-some q is)

owns-dropped : (after : FrameState) (c made : ℕ) (purpose : Purpose) (q : Progress) → dropped_for made purpose ≡ Some q → HasNothing after c
    → OwnsBy after c q.doing
owns-dropped after c made (ForAccess a) q is nothing = leads_to (OwnsBy after c) true made _ q is (λ _. nothing)
owns-dropped after c made (ForTurn mark evictions) q is nothing = leads_to (OwnsBy after c) true made _ q is (λ _. nothing)

pub owns-drop : (after : FrameState) (c made : ℕ) (doing : Doing) (q : Progress) (frame : ℕ) → after_drop made doing frame ≡ Some q
    → HasNothing after c → OwnsBy after c q.doing
owns-drop after c made (Holding purpose victim) q frame is nothing =
    then_leads (OwnsBy after c q.doing) (eqb frame victim.frame) (dropped_for made purpose) q is
    (λ _ goes. owns-dropped after c made purpose q goes nothing)
owns-drop after c made doing q frame is nothing = absurd (none-some q is)

owns-lacking : (after : FrameState) (c made : ℕ) (purpose : Purpose) (q : Progress) (space : ℕ) → lacking_for made purpose space ≡ Some q
    → HasNothing after c → OwnsBy after c q.doing
owns-lacking after c made (ForAccess a) q space is nothing = leads_to (OwnsBy after c) true made _ q is (λ _. nothing)
owns-lacking after c made (ForTurn mark evictions) q space is nothing = leads_to (OwnsBy after c) true (made + 1) _ q is (λ _. nothing)

owns-faulted : (after : FrameState) (c made : ℕ) (purpose : Purpose) (q : Progress) (space count : ℕ)
    → faulted_for made purpose space count ≡ Some q → HasNothing after c → OwnsBy after c q.doing
owns-faulted after c made (ForAccess a) q space count is nothing = leads_to (OwnsBy after c) true made _ q is (λ _. nothing)
owns-faulted after c made (ForTurn mark evictions) q space count is nothing =
    leads_to (OwnsBy after c) true (made + 1) _ q is (λ _. nothing)

pub owns-unclaim : (after : FrameState) (c made : ℕ) (doing : Doing) (q : Progress) (space frame : ℕ)
    → after_unclaim made doing space frame ≡ Some q → HasNothing after c → OwnsBy after c q.doing
owns-unclaim after c made (Claiming purpose victim) q space frame is nothing =
    then_leads (OwnsBy after c q.doing) (eqb space victim.space && eqb frame victim.frame) (lacking_for made purpose space) q is
    (λ _ goes. owns-lacking after c made purpose q space goes nothing)
owns-unclaim after c made (Unwritten purpose victim count) q space frame is nothing =
    then_leads (OwnsBy after c q.doing) (eqb space victim.space && eqb frame victim.frame) (faulted_for made purpose space count) q is
    (λ _ goes. owns-faulted after c made purpose q space count goes nothing)
owns-unclaim after c made doing q space frame is nothing = absurd (none-some q is)

-- Between two calls, and between two turns, a processor has nothing.
pub nothing-between : (st : FrameState) (c mark : ℕ) → OwnsBy st c (between mark) → HasNothing st c
nothing-between st c zero owns = owns
nothing-between st c (suc n) owns = owns
