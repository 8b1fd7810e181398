-- Extents: 8^k consecutive numbers that begin at a multiple of 8^k, of pages or of frames.
use Rattle.std.specs.Prelude.{ℕ, ◌≡◌, ◌*◌, ◌/◌, ◌%◌, ◌^◌, ◌≤◌}

-- the numbers from first on are an extent of size k
abbrev pub IsExtent : ℕ → ℕ → Type 0
IsExtent k first = (k ≤ 3) × (first % 8 ^ k ≡ 0)

-- the first number of the extent of size k round n
abbrev pub extent_start : ℕ → ℕ → ℕ
extent_start k n = n / 8 ^ k * 8 ^ k
