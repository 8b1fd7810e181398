-- Whether a processor claims a frame, as a test and as a fact.
use Rattle.std.proofs.Common.{◌≡◌, ℕ, suc, Bool, true, false, List, [], ◌∷◌, length, get_or, Option, Some, None, refl, sym, ap, ◌∙◌, inl, inr}
use Rattle.std.specs.List.{list_any}
use Rattle.std.specs.Option.{is_some, IfSome, IfNone}
use Rattle.std.proofs.lemmas.Bool.{cases_Bool, cases_lt, false≢true, eq-eqb, eqb-true, or_cases}
use Rattle.std.proofs.lemmas.List.{get_or_past}
use Rattle.std.proofs.lemmas.List.Folds.{list_any_at}
use Rattle.std.proofs.lemmas.Option.{none-some}
use Rattle.pager_model.specs.declared.reservation.Used.{Used}
use Rattle.pager_model.specs.FrameStates.{FrameState, used_at, held_by, claim_in, HasNothing}
use Rattle.pager_model.proofs.Options.{none_from_is_some}
use Rattle.pager_laws.specs.Laid.{IsSound}
use Rattle.frame_table.specs.Claims.{IsClaimOf}
use Rattle.frame_table.specs.Refusals.{is_number, claims_any, holds_any}

-- what any passes, one passes
any_one : {X : Type 0} (p : X → Bool) (xs : List X) (d : X) → list_any p xs ≡ true → (i : ℕ) × (p (get_or xs i d) ≡ true)
any_one p [] d is = absurd (false≢true is)
any_one p (x ∷ xs) d is = elim (or_cases (p x) (list_any p xs) is) [
  | inl here ↦ (0, here)
  | inr later ↦ let w = any_one p xs d later in (suc w.0, w.1)
]

is_number-is : (n : ℕ) (o : Option ℕ) → is_number n o ≡ true → o ≡ Some n
is_number-is n None is = absurd (false≢true is)
is_number-is n (Some m) is = ap (λ k. Some k) (eqb-true m n is)

-- a processor that claims a frame claims any
pub claims_any-from : (st : FrameState) (c frame : ℕ) → claim_in (used_at st frame) ≡ Some c → claims_any st c ≡ true
claims_any-from st c frame claims = elim (cases_lt frame (length st.used)) [
  | inl within ↦
      list_any_at (λ (o : Option Used). is_number c (claim_in o)) st.used frame None within
      (ap (is_number c) claims ∙ eq-eqb c c refl)
  | inr past ↦ absurd (none-some c (sym (ap claim_in (get_or_past st.used frame None past)) ∙ claims))
]

-- one that claims any claims some frame
pub claims_any-some : (st : FrameState) (c : ℕ) → claims_any st c ≡ true → (frame : ℕ) × (claim_in (used_at st frame) ≡ Some c)
claims_any-some st c any =
    let w = any_one (λ (o : Option Used). is_number c (claim_in o)) st.used None any in
    (w.0, is_number-is c (claim_in (used_at st w.0)) w.1)

-- and one that claims no frame claims none
pub claims_any-none : (st : FrameState) (c : ℕ) → ((frame : ℕ) → claim_in (used_at st frame) ≡ Some c → ⊥) → claims_any st c ≡ false
claims_any-none st c none = elim (cases_Bool (claims_any st c)) [
  | inl any ↦ let w = claims_any-some st c any in absurd (none w.0 w.1)
  | inr never ↦ never
]

-- by both tests a processor has nothing
pub has_nothing : (st : FrameState) (c : ℕ) → holds_any st c ≡ false → claims_any st c ≡ false → HasNothing st c
has_nothing st c holds claims = record {
  holds_none = none_from_is_some (held_by st c) holds;
  claims_none = λ frame is. false≢true (sym claims ∙ claims_any-from st c frame is);
}

-- a frame that a processor claims, where there is one, tells whether it claims any
pub is_claimed_by : (st : FrameState) (c : ℕ) (o : Option ℕ) → IfSome o (λ frame. claim_in (used_at st frame) ≡ Some c)
    → IfNone o ((frame : ℕ) → claim_in (used_at st frame) ≡ Some c → ⊥) → is_some o ≡ claims_any st c
is_claimed_by st c None found none = sym (claims_any-none st c none)
is_claimed_by st c (Some frame) found none = sym (claims_any-from st c frame found)

-- in a sound state a frame that a processor claims is its only one
pub IsClaimOf-sound : (frames processors : ℕ) (st : FrameState) (c frame : ℕ) → IsSound frames processors st
    → claim_in (used_at st frame) ≡ Some c → IsClaimOf st c frame
IsClaimOf-sound frames processors st c frame sound is = record { claims = is; alone = λ other also. sound.claims_once other frame c also is }
