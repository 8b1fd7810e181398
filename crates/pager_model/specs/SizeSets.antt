-- Which page sizes there are: some of the levels from 0 to 3, and always 0.
use Rattle.std.specs.Prelude.{ℕ, zero, suc, Bool, true, false, if◌then◌else◌, Option, Some, None}

pub record SizeSet : Type 0 where
  pub one : Bool
  pub two : Bool
  pub three : Bool

abbrev pub all_sizes : SizeSet
all_sizes = record { one = true; two = true; three = true }

-- the size of a level is one of them
abbrev pub has_size : SizeSet → ℕ → Bool
has_size z zero = true
has_size z (suc zero) = z.one
has_size z (suc (suc zero)) = z.two
has_size z (suc (suc (suc zero))) = z.three
has_size z (suc (suc (suc (suc k)))) = false

-- the largest of them that is at most k
abbrev pub size_within : SizeSet → ℕ → ℕ
size_within z zero = 0
size_within z (suc k) = if has_size z (suc k) then suc k else size_within z k

-- the next smaller of them; 0 has none
abbrev pub size_below : SizeSet → ℕ → Option ℕ
size_below z zero = None
size_below z (suc k) = Some (size_within z k)
