-- The lowest bit of a word from a bit on.
use Rattle.std.proofs.Common.{◌≡◌, ℕ, ◌+◌, ◌-◌, ◌/◌, ◌%◌, ◌^◌, ◌<◌, ◌≤◌, inl, inr, sym, ap, subst, ◌∙◌, arith}
use Rattle.std.specs.Int.{bit_at, trailing_zeros, w64}
use Rattle.std.proofs.lemmas.Bool.{cases_lt}
use Rattle.std.proofs.lemmas.Nat.{shr-shr, shr_le}
use Rattle.std.proofs.lemmas.Nat.Bits.{bit_at-zero, bit_at-trailing_zeros, bit_at_above}

bit_at_shr : (word bit k : ℕ) → bit_at (word / 2 ^ bit) k ≡ bit_at word (bit + k)
bit_at_shr word bit k = ap (λ n. n % 2) (shr-shr word bit k)

from_shr : (word bit j b : ℕ) → bit ≤ j → bit_at (word / 2 ^ bit) (j - bit) ≡ b → bit_at word j ≡ b
from_shr word bit j b h at =
    let sum : bit + (j - bit) ≡ j = omega arith in
    subst (λ k. bit_at word k ≡ b) sum (sym (bit_at_shr word bit (j - bit)) ∙ at)

-- there is none where nothing is left of the word
pub none_from : (word bit : ℕ) → word / 2 ^ bit ≡ 0 → (j : ℕ) → bit ≤ j → bit_at word j ≡ 0
none_from word bit rest j h =
    from_shr word bit j 0 h (ap (λ n. bit_at n (j - bit)) rest ∙ bit_at-zero (j - bit))

-- it is as far on as the rest has zeros at its end
pub lowest_is_set : (word bit : ℕ) → word < 2 ^ 64 → (word / 2 ^ bit ≡ 0 → ⊥)
    → (bit + trailing_zeros w64 (word / 2 ^ bit) < 64) × (bit_at word (bit + trailing_zeros w64 (word / 2 ^ bit)) ≡ 1)
lowest_is_set word bit fits rest =
    let left = word / 2 ^ bit in
    let zeros = trailing_zeros w64 left in
    let found = bit_at-trailing_zeros w64 left (omega arith) (omega (arith, shr_le word bit)) in
    let set : bit_at word (bit + zeros) ≡ 1 = sym (bit_at_shr word bit zeros) ∙ found.1 in
    elim (cases_lt (bit + zeros) 64) [
      | inl inside ↦ (inside, set)
      | inr past ↦ absurd (omega (arith, set, bit_at_above word 64 (bit + zeros) fits past))
    ]

pub lowest_is_first : (word bit : ℕ) → word < 2 ^ 64 → (word / 2 ^ bit ≡ 0 → ⊥) → (j : ℕ) → bit ≤ j
    → j < bit + trailing_zeros w64 (word / 2 ^ bit) → bit_at word j ≡ 0
lowest_is_first word bit fits rest j low high =
    let left = word / 2 ^ bit in
    let found = bit_at-trailing_zeros w64 left (omega arith) (omega (arith, shr_le word bit)) in
    from_shr word bit j 0 low (found.2 (j - bit) (omega arith))
