-- Words as sets of numbers: what is in, after a word is written too.
use Rattle.std.proofs.Common.{◌≡◌, ◌≢◌, ℕ, zero, suc, ◌+◌, ◌*◌, ◌/◌, ◌%◌, ◌^◌, ◌<◌, ◌≤◌, Bool, true, false, cond, eqb, not, List, length, get_or, map, replicate, inl, inr, refl, sym, ap, subst, ◌∙◌, zero-add, Some, None, arith, get_or-set_other, get_or-set_same}
use Rattle.std.proofs.Math.ListN.{set, length-set}
use Rattle.std.specs.Int.{bit_at, trailing_zeros, w64}
use Rattle.std.specs.List.{range_with_len}
use Rattle.std.proofs.lemmas.Bool.{cases_lt, cases_eq, false≢true}
use Rattle.std.proofs.lemmas.List.{ext_get_or, get_or_past, length-replicate}
use Rattle.std.proofs.lemmas.List.FromFn.{length-map-range_with_len, get_or-map-range_with_len}
use Rattle.std.proofs.lemmas.Nat.Bits.{bit_at-zero, bit_at-trailing_zeros}
use Rattle.pager_model.proofs.Lists.{get_or-alike}
use Rattle.bit_set.specs.Bits.{has_bit, bits_of, HasInWord, LacksWord, IsNextInWord}

has_bit_in : (words : List ℕ) (n word : ℕ) → get_or words (n / 64) 0 ≡ word → has_bit words n ≡ eqb (bit_at word (n % 64)) 1
unfolding has_bit
has_bit_in words n word at = ap (λ w. eqb (bit_at w (n % 64)) 1) at

not_in_zero : (words : List ℕ) (n : ℕ) → get_or words (n / 64) 0 ≡ 0 → has_bit words n ≡ false
not_in_zero words n at = has_bit_in words n 0 at ∙ ap (λ b. eqb b 1) (bit_at-zero (n % 64))

pub length-bits_of : (words : List ℕ) → length (bits_of words) ≡ 64 * length words
unfolding bits_of
length-bits_of words = length-map-range_with_len (has_bit words) 0 (64 * length words)

pub get_or-bits_of : (words : List ℕ) (n : ℕ) → get_or (bits_of words) n false ≡ has_bit words n
unfolding bits_of
get_or-bits_of words n =
    elim (cases_lt n (64 * length words)) [
      | inl inside ↦ get_or-map-range_with_len (has_bit words) 0 (64 * length words) n n false inside (zero-add n)
      | inr past ↦
          let long = length-map-range_with_len (has_bit words) 0 (64 * length words) in
          get_or_past (map (has_bit words) (range_with_len 0 (64 * length words))) n false (omega (arith, long))
          ∙ sym (not_in_zero words n (get_or_past words (n / 64) 0 (omega arith)))
    ]

-- whether a number is in, by the bit of its word
pub in_by_bit : (words : List ℕ) (n : ℕ) (b : Bool) → bit_at (get_or words (n / 64) 0) (n % 64) ≡ cond b 1 0
    → get_or (bits_of words) n false ≡ b
in_by_bit words n b at = get_or-bits_of words n ∙ (has_bit_in words n _ refl ∙ (ap (λ m. eqb m 1) at ∙ test b))
  where
    test : (b : Bool) → eqb (cond b 1 0) 1 ≡ b
    test true = refl
    test false = refl

pub bits_of-replicate : (n : ℕ) → bits_of (replicate n 0) ≡ replicate (64 * n) false
bits_of-replicate n =
    ext_get_or false _ _ (length-bits_of (replicate n 0) ∙ (ap (λ k. 64 * k) (length-replicate n 0)
    ∙ sym (length-replicate (64 * n) false))) (λ i _.
    get_or-bits_of (replicate n 0) i ∙ (not_in_zero (replicate n 0) i (get_or-alike n (i / 64) 0) ∙ sym (get_or-alike (64 * n) i false)))

-- a word that differs from the one before in one bit puts one number in or out
pub bits_of-set : (words : List ℕ) (n word : ℕ) (b : Bool) → n < 64 * length words → bit_at word (n % 64) ≡ cond b 1 0
    → ((k : ℕ) → k < 64 → k ≢ n % 64 → bit_at word k ≡ bit_at (get_or words (n / 64) 0) k)
    → bits_of (set words (n / 64) word) ≡ set (bits_of words) n b
bits_of-set words n word b inside at others =
    ext_get_or false _ _ lengths (λ i _. elim (cases_eq i n) [ inl same ↦ here i same | inr other ↦ there i other ])
  where
    changed : List ℕ
    changed = set words (n / 64) word

    lengths : length (bits_of changed) ≡ length (set (bits_of words) n b)
    lengths =
        length-bits_of changed
        ∙ (ap (λ k. 64 * k) (length-set words (n / 64) word) ∙ (sym (length-bits_of words) ∙ sym (length-set (bits_of words) n b)))

    written : get_or changed (n / 64) 0 ≡ word
    written = get_or-set_same words (n / 64) word 0 (omega arith)

    now_in : get_or (set (bits_of words) n b) n false ≡ b
    now_in = get_or-set_same (bits_of words) n b false (omega (arith, length-bits_of words))

    here : (i : ℕ) → i ≡ n → get_or (bits_of changed) i false ≡ get_or (set (bits_of words) n b) i false
    here i same =
        subst (λ k. get_or (bits_of changed) k false ≡ get_or (set (bits_of words) n b) k false) (sym same)
        (in_by_bit changed n b (ap (λ w. bit_at w (n % 64)) written ∙ at) ∙ sym now_in)

    word_at : (i : ℕ) → i ≢ n → bit_at (get_or changed (i / 64) 0) (i % 64) ≡ bit_at (get_or words (i / 64) 0) (i % 64)
    word_at i other = elim (cases_eq (i / 64) (n / 64)) [
      | inl same ↦
          ap (λ w. bit_at (get_or changed w 0) (i % 64)) same
          ∙ (ap (λ w. bit_at w (i % 64)) written
          ∙ (others (i % 64) (omega arith) (λ e. other (omega arith)) ∙ ap (λ w. bit_at (get_or words w 0) (i % 64)) (sym same)))
      | inr apart ↦ ap (λ w. bit_at w (i % 64)) (get_or-set_other words (n / 64) (i / 64) word 0 apart)
    ]

    there : (i : ℕ) → i ≢ n → get_or (bits_of changed) i false ≡ get_or (set (bits_of words) n b) i false
    there i other =
        get_or-bits_of changed i
        ∙ (has_bit_in changed i _ refl
        ∙ (ap (λ m. eqb m 1) (word_at i other)
        ∙ (sym (has_bit_in words i _ refl)
        ∙ (sym (get_or-bits_of words i) ∙ sym (get_or-set_other (bits_of words) n i b false other)))))

-- the bit of a number by its word and place there
in_by_place : (words : List ℕ) (n word place : ℕ) (b : Bool) → n / 64 ≡ word → n % 64 ≡ place
    → bit_at (get_or words word 0) place ≡ cond b 1 0 → get_or (bits_of words) n false ≡ b
in_by_place words n word place b at_word at_place at = in_by_bit words n b (rw (at_word, at_place) at)

-- the next number in a word, by the lowest bit of the word from its place on
pub next_by_lowest : (words : List ℕ) (n place : ℕ) → n % 64 ≤ place → place < 64 → bit_at (get_or words (n / 64) 0) place ≡ 1
    → ((k : ℕ) → n % 64 ≤ k → k < place → bit_at (get_or words (n / 64) 0) k ≡ 0)
    → IsNextInWord (bits_of words) n (Some (n / 64 * 64 + place))
next_by_lowest words n place low high set none = (
  omega arith,
  omega arith,
  in_by_place words (n / 64 * 64 + place) (n / 64) place true (omega arith) (omega arith) set,
  λ k from before. in_by_place words k (n / 64) (k % 64) false (omega arith) refl (none (k % 64) (omega arith) (omega arith)),
)

pub none_by_lowest : (words : List ℕ) (n : ℕ) → ((k : ℕ) → n % 64 ≤ k → bit_at (get_or words (n / 64) 0) k ≡ 0)
    → IsNextInWord (bits_of words) n None
none_by_lowest words n none k from same = in_by_place words k (n / 64) (k % 64) false same refl (none (k % 64) (omega arith))

-- a word that isn't 0 has a number, and 0 has none
pub has_by_word : (words : List ℕ) (word bits : ℕ) → get_or words word 0 ≡ bits → 0 < bits → bits < 2 ^ 64 → HasInWord (bits_of words) word
has_by_word words word bits at some fits =
    let lowest = bit_at-trailing_zeros w64 bits some fits in
    let place = trailing_zeros w64 bits in
    let low : place < 64 = lowest.0 in
    (64 * word + place, omega arith, in_by_place words (64 * word + place) word place true (omega arith) (omega arith) (rw at lowest.1))

pub lacks_by_word : (words : List ℕ) (word : ℕ) → get_or words word 0 ≡ 0 → LacksWord (bits_of words) word
lacks_by_word words word at n same =
    get_or-bits_of words n ∙ not_in_zero words n (ap (λ w. get_or words w 0) same ∙ at)

-- ---- a word as it is written

pub word_of_bit : (words : List ℕ) (set : List Bool) (n : ℕ) → bits_of words ≡ set → n < length set → n / 64 < length words
word_of_bit words set n is inside = omega (arith, length-bits_of words, ap length is)

pub word_written : (words after : List ℕ) (set_before : List Bool) (n bits : ℕ) → bits_of words ≡ set_before → n < length set_before
    → after ≡ set words (n / 64) bits → get_or after (n / 64) 0 ≡ bits
word_written words after set_before n bits is inside written =
    ap (λ ws. get_or ws (n / 64) 0) written ∙ get_or-set_same words (n / 64) bits 0 (word_of_bit words set_before n is inside)

pub not_zero : (bits : ℕ) → not (eqb bits 0) ≡ true → 0 < bits
not_zero zero is = absurd (false≢true is)
not_zero (suc n) is = omega arith
