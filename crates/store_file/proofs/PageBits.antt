-- The words of a set of pages, and their bits.
use Rattle.std.proofs.Common.{◌≡◌, ◌≢◌, ℕ, ◌+◌, ◌-◌, ◌*◌, ◌/◌, ◌%◌, ◌^◌, ◌<◌, ◌≤◌, ◌&&◌, min, nat_le, nat_lt, nat_eq, bit_and, bit_or, Bool, true, false, cond, List, length, get_or, replicate, inl, inr, refl, sym, ap, ◌∙◌, arith, get_or-set_other, get_or-set_same}
use Rattle.std.proofs.Math.ListN.{set}
use Rattle.std.specs.Int.{bit_at, bit_not, w64}
use Rattle.std.proofs.lemmas.Bool.{cases_lt, cases_eq}
use Rattle.std.proofs.lemmas.Bool.Decides.{nat_tests}
use Rattle.std.proofs.lemmas.List.{get_or_past}
use Rattle.std.proofs.lemmas.Nat.Bits.{bit_at_and, bit_at_or, bit_at_not, bit_at-lt, bit_at-zero, ones_shl, bit_at_mask_inside, bit_at_mask_below, bit_at_set_same, bit_at_set_other}
use Rattle.bit_set.specs.Bits.{has_bit, bits_of}
use Rattle.bit_set.proofs.Sets.{bits_of-replicate, bits_of-set, get_or-bits_of, length-bits_of}
use Rattle.pager_model.specs.Bounds.{space_pages}
use Rattle.pager_model.specs.Regions.{in_range}
use Rattle.store_file.specs.FileState.{no_pages}

-- words of no bit have no page
pub bits_of-none : (words : List ℕ) → words ≡ replicate 16384 0 → bits_of words ≡ no_pages
unfolding no_pages
bits_of-none words none = ap bits_of none ∙ bits_of-replicate 16384

-- the bits of `MAX << bit`
pub ones_from : (bit k : ℕ) → bit < 64 → k < 64 → bit_at ((2 ^ 64 - 1) * 2 ^ bit % 2 ^ 64) k ≡ cond (nat_le bit k) 1 0
ones_from bit k low inside =
    ap (λ n. bit_at n k) (ones_shl 64 bit (omega arith))
    ∙ elim (cases_lt k bit) [
      | inl below ↦ bit_at_mask_below bit 64 k below ∙ grind (arith, nat_tests)
      | inr from ↦ bit_at_mask_inside bit 64 k from inside ∙ grind (arith, nat_tests)
    ]

pub none_from : (bit k : ℕ) → 64 ≤ bit → k < 64 → bit_at 0 k ≡ cond (nat_le bit k) 1 0
none_from bit k high inside = bit_at-zero k ∙ grind (arith, nat_tests)

-- a bit of `word & (from_end | !from_first)`
pub cleared_bit : (word first end from_first from_end k : ℕ) → k < 64 → from_first < 2 ^ 64 → bit_at from_end k ≡ cond (nat_le end k) 1 0
    → bit_at from_first k ≡ cond (nat_le first k) 1 0
    → bit_at (bit_and word (bit_or from_end (bit_not w64 from_first))) k ≡ cond (nat_le first k && nat_lt k end) 0 (bit_at word k)
cleared_bit word first end from_first from_end k inside fits past below =
    let bit = bit_at-lt word k in
    let inverse = bit_at_not w64 from_first k fits inside in
    rw (bit_at_and, bit_at_or, inverse, past, below) (grind (arith, nat_tests))

tested : (inside : Bool) (bit : ℕ) → nat_eq (cond inside 0 bit) 1 ≡ cond inside false (nat_eq bit 1)
tested true bit = refl
tested false bit = refl

-- a page of the word at this place is in the range where its bit is in what the range has of the word
in_word : (p at first end : ℕ) → p / 64 ≡ at → (nat_le (first - at * 64) (p % 64) && nat_lt (p % 64) (end - at * 64)) ≡
    (nat_le first p && nat_lt p end)
in_word p at first end place =
    let from : nat_le (first - at * 64) (p % 64) ≡ nat_le first p = grind (arith, nat_tests) in
    let to : nat_lt (p % 64) (end - at * 64) ≡ nat_lt p end = grind (arith, nat_tests) in
    rw (from, to)

-- one word more of a range is cleared
pub cleared_word : (start words : List ℕ) (at first end word : ℕ) → at < length words
    → ((k : ℕ) → k < 64 → bit_at word k ≡ cond (nat_le (first - at * 64) k && nat_lt k (end - at * 64)) 0 (bit_at (get_or words at 0) k))
    → ((p : ℕ) → has_bit words p ≡ cond (nat_lt p (64 * at) && (nat_le first p && nat_lt p end)) false (has_bit start p))
    → (p : ℕ) → has_bit (set words at word) p ≡ cond (nat_lt p (64 * (at + 1)) && (nat_le first p && nat_lt p end)) false (has_bit start p)
unfolding has_bit
cleared_word start words at first end word there written before p =
    elim (cases_eq (p / 64) at) [ inl same ↦ here same | inr other ↦ apart other ]
  where
    In : Bool
    In = nat_le first p && nat_lt p end

    bit_of : List ℕ → ℕ
    bit_of ws = bit_at (get_or ws (p / 64) 0) (p % 64)

    here : p / 64 ≡ at → nat_eq (bit_of (set words at word)) 1 ≡ cond (nat_lt p (64 * (at + 1)) && In) false (nat_eq (bit_of start) 1)
    here same =
        let now : get_or (set words at word) (p / 64) 0 ≡ word = ap (λ i. get_or (set words at word) i 0) same
        ∙ get_or-set_same words at word 0 there in
        let bit : bit_at word (p % 64) ≡ cond In 0 (bit_of words) =
        written (p % 64) (omega arith) ∙ (ap (λ b. cond b 0 (bit_at (get_or words at 0) (p % 64))) (in_word p at first end same)
        ∙ ap (λ i. cond In 0 (bit_at (get_or words i 0) (p % 64))) (sym same)) in
        let past : nat_lt p (64 * at) ≡ false = grind (arith, nat_tests) in
        let next : nat_lt p (64 * (at + 1)) ≡ true = grind (arith, nat_tests) in
        let was : nat_eq (bit_of words) 1 ≡ nat_eq (bit_of start) 1 = before p
        ∙ ap (λ b. cond (b && In) false (nat_eq (bit_of start) 1)) past in
        ap (λ w. nat_eq (bit_at w (p % 64)) 1) now
        ∙ (ap (λ b. nat_eq b 1) bit
        ∙ (tested In (bit_of words)
        ∙ (ap (λ t. cond In false t) was ∙ ap (λ b. cond (b && In) false (nat_eq (bit_of start) 1)) (sym next))))

    apart : p / 64 ≢ at → nat_eq (bit_of (set words at word)) 1 ≡ cond (nat_lt p (64 * (at + 1)) && In) false (nat_eq (bit_of start) 1)
    apart other =
        let same : nat_lt p (64 * at) ≡ nat_lt p (64 * (at + 1)) = grind (arith, nat_tests) in
        ap (λ w. nat_eq (bit_at w (p % 64)) 1) (get_or-set_other words at (p / 64) word 0 other)
        ∙ (before p ∙ ap (λ b. cond (b && In) false (nat_eq (bit_of start) 1)) same)

-- a page is put in
pub inserted : (words : List ℕ) (pages : List Bool) (page word : ℕ) → bits_of words ≡ pages → page < 64 * length words
    → word ≡ get_or words (page / 64) 0 → bits_of (set words (page / 64) (bit_or word (1 * 2 ^ (page % 64) % 2 ^ 64))) ≡ set pages page true
inserted words pages page word view there is =
    bits_of-set words page (bit_or word (1 * 2 ^ (page % 64) % 2 ^ 64)) true there (bit_at_set_same w64 word (page % 64) (omega arith))
    (λ k inside other. bit_at_set_other w64 word (page % 64) (omega arith) k other ∙ ap (λ w. bit_at w k) is)
    ∙ ap (λ s. set s page true) view

either : (b : Bool) → cond b false false ≡ false
either true = refl
either false = refl

-- the pages of a range are taken out
pub removed : (words after : List ℕ) (pages : List Bool) (first len end : ℕ) → bits_of words ≡ pages → length words ≡ 16384
    → end ≡ min (min (first + len) (2 ^ 32 - 1)) space_pages
    → ((p : ℕ) → has_bit after p ≡ cond (nat_le first p && nat_lt p end) false (has_bit words p))
    → (p : ℕ) → get_or (bits_of after) p false ≡ cond (in_range first len p) false (get_or pages p false)
removed words after pages first len end view long is_end cleared p =
    get_or-bits_of after p ∙ (cleared p ∙ (same ∙ ap (λ s. cond (in_range first len p) false (get_or s p false)) view))
  where
    same : cond (nat_le first p && nat_lt p end) false (has_bit words p) ≡ cond (in_range first len p) false
        (get_or (bits_of words) p false)
    same =
        elim (cases_lt p space_pages) [
          | inl inside ↦
              let upto : nat_lt p end ≡ nat_lt p (first + len) = grind (arith, nat_tests) in
              ap (λ b. cond (nat_le first p && b) false (has_bit words p)) upto
              ∙ ap (λ b. cond (in_range first len p) false b) (sym (get_or-bits_of words p))
          | inr past ↦
              let none : get_or (bits_of words) p false ≡ false = get_or_past (bits_of words) p false
              (omega (arith, length-bits_of words)) in
              rw (← get_or-bits_of words p, none) (either (nat_le first p && nat_lt p end) ∙ sym (either (in_range first len p)))
        ]
