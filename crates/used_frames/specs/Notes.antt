-- A note of a frame, as it is kept.
use Rattle.std.specs.Prelude.{ℕ, ◌≡◌, Bool, false, if◌then◌else◌, Option, Some, None}
use Rattle.pager_model.specs.declared.reservation.Used.{Used}

-- the processor that claims a frame, where one does
abbrev pub claim_of : Bool → ℕ → Option ℕ
claim_of is_claimed claimer = if is_claimed then Some claimer else None

-- what is noted of a frame, where it is used
abbrev pub note_in : Bool → ℕ → Bool → Option ℕ → Option Used
note_in is_used age wired claim = if is_used then Some (record { age = age; wired = wired; claim = claim }) else None

-- what says nothing is zero, so that one note alone says the same
pub record IsPlain (is_used : Bool) (age : ℕ) (is_wired is_claimed : Bool) (claimer : ℕ) : Type 0 where
  pub no_claimer : is_claimed ≡ false → claimer ≡ 0
  pub no_age : is_used ≡ false → age ≡ 0
  pub not_wired : is_used ≡ false → is_wired ≡ false
  pub not_claimed : is_used ≡ false → is_claimed ≡ false
