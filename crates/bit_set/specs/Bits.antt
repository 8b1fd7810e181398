-- Sets of numbers as words of 64 bits, and what it is to look for a number in one.
use Rattle.std.specs.Prelude.{ℕ, ◌≡◌, ◌*◌, ◌/◌, ◌%◌, ◌<◌, ◌≤◌, Bool, true, false, ◌==◌, List, length, map, slice_index, slice_index_or, Option, Some, None}
use Rattle.std.specs.List.{range_with_len}
use Rattle.std.specs.Int.{bit_at}

-- the largest bound of a set: three levels of words of 64 bits
abbrev pub most_bound : ℕ
most_bound = 262144

-- the bit of a number is set in the words
unfoldable pub has_bit : List ℕ → ℕ → Bool
has_bit words n = bit_at (slice_index words (n / 64)) (n % 64) == 1

-- of each number that the words have a bit for, whether it is set
unfoldable pub bits_of : List ℕ → List Bool
bits_of words = map (has_bit words) (range_with_len 0 (64 * length words))

-- the numbers of a word have one that is in the set
abbrev pub HasInWord : List Bool → ℕ → Type 0
HasInWord set word = (n : ℕ) × (n / 64 ≡ word) × (slice_index_or set n false ≡ true)

-- and none of them is
abbrev pub LacksWord : List Bool → ℕ → Type 0
LacksWord set word = (n : ℕ) → n / 64 ≡ word → slice_index_or set n false ≡ false

-- the first number of the set from n on among those of the word of n, or none
abbrev pub IsNextInWord : List Bool → ℕ → Option ℕ → Type 0
IsNextInWord set n (Some m) =
    (n ≤ m) × (m / 64 ≡ n / 64) × (slice_index_or set m false ≡ true)
    × ((k : ℕ) → n ≤ k → k < m → slice_index_or set k false ≡ false)
IsNextInWord set n None = (k : ℕ) → n ≤ k → k / 64 ≡ n / 64 → slice_index_or set k false ≡ false

-- the first number of the set from n on, or none
abbrev pub IsFirstFrom : List Bool → ℕ → Option ℕ → Type 0
IsFirstFrom set n (Some m) =
    (n ≤ m) × (slice_index_or set m false ≡ true) × ((k : ℕ) → n ≤ k → k < m → slice_index_or set k false ≡ false)
IsFirstFrom set n None = (k : ℕ) → n ≤ k → slice_index_or set k false ≡ false
