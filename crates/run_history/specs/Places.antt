-- At which places a processor's entries stand.
use Rattle.std.specs.Prelude.{◌≡◌, ℕ, ◌==◌, ◌<◌, ◌≤◌, Bool, true, false, List, length, IfSome}
use Rattle.std.specs.List.{slice_get}
use Rattle.pager_model.specs.declared.entry.Numbered.{Numbered}

-- None of the places from one on and before another has what is looked for.
abbrev pub NoneIn : {A : Type 0} → (A → Bool) → List A → ℕ → ℕ → Type 0
NoneIn test xs from end = (place : ℕ) → from ≤ place → place < end → IfSome (slice_get xs place) (λ x. test x ≡ false)

-- The place is the first from one on that has it.
pub record IsFirstIn {A : Type 0} (test : A → Bool) (xs : List A) (from place : ℕ) : Type 0 where
  pub behind : from ≤ place
  pub within : place < length xs
  pub found : IfSome (slice_get xs place) (λ x. test x ≡ true)
  pub first : NoneIn test xs from place

-- the entry is the processor's
abbrev pub is_by : ℕ → Numbered → Bool
is_by c n = n.entry.processor == c
