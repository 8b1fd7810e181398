-- Masks of eight bits.
use Rattle.std.specs.Prelude.{ℕ, ◌≡◌, ◌≢◌, ◌<◌, Bool, cond}
use Rattle.std.specs.Int.{bit_at}

-- a mask has a bit that is set
abbrev pub HasBit : ℕ → Type 0
HasBit mask = (part : ℕ) × (part < 8) × (bit_at mask part ≡ 1)

-- all bits of a mask are set
abbrev pub HasAllBits : ℕ → Type 0
HasAllBits mask = (part : ℕ) → part < 8 → bit_at mask part ≡ 1

-- the mask with the bit of a part set or cleared
pub record WithBit (old new part : ℕ) (is_set : Bool) : Type 0 where
  pub small : new < 256
  pub same : bit_at new part ≡ cond is_set 1 0
  pub others : (other : ℕ) → other < 8 → other ≢ part → bit_at new other ≡ bit_at old other
