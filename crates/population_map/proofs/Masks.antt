-- Masks of eight bits: when one has a bit, and when it has all.
use Rattle.std.proofs.Common.{◌≡◌, ◌≢◌, ℕ, ◌/◌, ◌%◌, ◌<◌, ◌↔◌, ◌==◌, Bool, true, false, cond, inl, inr, refl, ap, ◌∙◌, arith}
use Rattle.std.specs.Int.{bit_at, trailing_zeros, w8}
use Rattle.std.proofs.lemmas.Bool.{cases_lt}
use Rattle.std.proofs.lemmas.Nat.Bits.{bit_at-zero, bit_at-trailing_zeros, bit_at_above, bit_at_ones}
use Rattle.population_map.specs.Bits.{HasBit, HasAllBits, WithBit}
use Rattle.population_map.specs.declared.mark.Mark.{Mark}
use Rattle.population_map.specs.Kept.{IsCarried}

pub no_bit : (mask : ℕ) → mask ≡ 0 → HasBit mask → ⊥
no_bit mask zero has = omega (arith, has.2, ap (λ n. bit_at n has.0) zero, bit_at-zero has.0)

pub has_bit : (mask : ℕ) → mask < 256 → mask ≢ 0 → HasBit mask
has_bit mask small some =
    let found = bit_at-trailing_zeros w8 mask (omega arith) (omega arith) in
    elim (cases_lt (trailing_zeros w8 mask) 8) [
      | inl inside ↦ (trailing_zeros w8 mask, inside, found.1)
      | inr past ↦ absurd (omega (arith, found.1, bit_at_above mask 8 (trailing_zeros w8 mask) small past))
    ]

pub all_bits : (mask : ℕ) → mask ≡ 255 → HasAllBits mask
all_bits mask is part small = ap (λ n. bit_at n part) is ∙ bit_at_ones 8 part small

pub is_all_bits : (mask : ℕ) → mask < 256 → HasAllBits mask → mask ≡ 255
is_all_bits mask small all =
    let a : mask / 1 % 2 ≡ 1 = all 0 (omega arith) in
    let b : mask / 2 % 2 ≡ 1 = all 1 (omega arith) in
    let c : mask / 4 % 2 ≡ 1 = all 2 (omega arith) in
    let d : mask / 8 % 2 ≡ 1 = all 3 (omega arith) in
    let e : mask / 16 % 2 ≡ 1 = all 4 (omega arith) in
    let f : mask / 32 % 2 ≡ 1 = all 5 (omega arith) in
    let g : mask / 64 % 2 ≡ 1 = all 6 (omega arith) in
    let h : mask / 128 % 2 ≡ 1 = all 7 (omega arith) in
    omega arith

-- a bit that was set by a test is set if the test is true
pub bit_of_test : (b : Bool) → (cond b 1 0 == 1) ≡ b
bit_of_test true = refl
bit_of_test false = refl

-- a bit that was set by a test says what the test says
bit_by : (P : Type 0) (bit : ℕ) (test : Bool) → bit ≡ cond test 1 0 → (test ≡ true → P) → (P → test ≡ true) → (bit ≡ 1) ↔ P
bit_by P bit true is there back = (λ _. there refl, λ _. is)
bit_by P bit false is there back = (λ one. absurd (omega arith), λ p. absurd (let e = back p in cc))

pub is_carried : (old below : Mark) (some full part : ℕ) (has all : Bool) → (has ≡ true → HasBit below.some)
    → (HasBit below.some → has ≡ true) → (all ≡ true → HasAllBits below.full) → (HasAllBits below.full → all ≡ true)
    → WithBit old.some some part has → WithBit old.full full part all
    → IsCarried old (record { id = old.id; some = some; full = full }) part below
is_carried old below some full part has all a b c d with_some with_full = record {
  id = refl;
  small = (with_some.small, with_full.small);
  some = bit_by (HasBit below.some) (bit_at some part) has with_some.same a b;
  full = bit_by (HasAllBits below.full) (bit_at full part) all with_full.same c d;
  others = λ other small apart. (with_some.others other small apart, with_full.others other small apart);
}
