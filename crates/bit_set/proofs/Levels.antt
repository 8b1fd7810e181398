-- A level and its summary: after a bit is put, and where the first number from one on is.
use Rattle.std.proofs.Common.{◌≡◌, ◌≢◌, ℕ, ◌+◌, ◌*◌, ◌/◌, ◌<◌, ◌≤◌, Bool, true, false, List, length, replicate, get_or, Option, Some, None, inl, inr, sym, ap, ◌∙◌, subst, arith, get_or-set_other, get_or-set_same}
use Rattle.std.proofs.Math.ListN.{set, length-set}
use Rattle.std.specs.Bool.{OnTrue, OnFalse}
use Rattle.std.specs.Option.{is_some}
use Rattle.std.proofs.lemmas.Bool.{cases_lt, cases_eq, false≢true, false_from_ne_true, OnFalse_at, OnTrue_at, cases_Bool}
use Rattle.std.proofs.lemmas.List.{get_or_past}
use Rattle.pager_model.proofs.Lists.{get_or-alike}
use Rattle.bit_set.specs.Bits.{HasInWord, LacksWord, IsNextInWord, IsFirstFrom}
use Rattle.bit_set.specs.Summaries.{Sums, AreLevels}

-- a bit is put, and the bit of its word says whether the word has one then
pub Sums-put : (below above : List Bool) (n : ℕ) (b some : Bool) → Sums below above → n < length below → n / 64 < length above
    → OnTrue some (HasInWord (set below n b) (n / 64)) → OnFalse some (LacksWord (set below n b) (n / 64))
    → Sums (set below n b) (set above (n / 64) some)
Sums-put below above n b some sums low high has lacks = record { up = up; down = down }
  where
    up : (i : ℕ) → get_or (set below n b) i false ≡ true → get_or (set above (n / 64) some) (i / 64) false ≡ true
    up i is =
        elim (cases_eq (i / 64) (n / 64)) [
          | inl same ↦ elim (cases_Bool some) [
            | inl is_some ↦ ap (λ w. get_or (set above (n / 64) some) w false) same
                ∙ (get_or-set_same above (n / 64) some false high ∙ is_some)
            | inr is_none ↦ absurd (false≢true (sym (OnFalse_at is_none lacks i same) ∙ is))
          ]
          | inr other ↦
              let apart : i ≢ n = λ e. other (ap (λ k. k / 64) e) in
              get_or-set_other above (n / 64) (i / 64) some false other ∙ sums.up i (sym (get_or-set_other below n i b false apart) ∙ is)
        ]

    down : (word : ℕ) → get_or (set above (n / 64) some) word false ≡ true → HasInWord (set below n b) word
    down word is =
        elim (cases_eq word (n / 64)) [
          | inl same ↦
              let holds : some ≡ true = sym (get_or-set_same above (n / 64) some false high)
              ∙ (ap (λ w. get_or (set above (n / 64) some) w false) (sym same) ∙ is) in
              subst (λ w. HasInWord (set below n b) w) (sym same) (OnTrue_at holds has)
          | inr other ↦
              let old = sums.down word (sym (get_or-set_other above (n / 64) word some false other) ∙ is) in
              let apart : old.0 ≢ n = λ e. other (sym old.1 ∙ ap (λ k. k / 64) e) in
              (old.0, old.1, get_or-set_other below n old.0 b false apart ∙ old.2)
        ]

-- no level has a bit at first
pub Sums-none : (low high : ℕ) → Sums (replicate low false) (replicate high false)
Sums-none low high = record {
  up = λ n is. absurd (false≢true (sym (get_or-alike low n false) ∙ is));
  down = λ word is. absurd (false≢true (sym (get_or-alike high word false) ∙ is));
}

-- where there is no next one in the word, what was found is none
pub no_next : (set : List Bool) (n : ℕ) (next : Option ℕ) → is_some next ≡ false → IsNextInWord set n next → IsNextInWord set n None
no_next set n None empty found = found
no_next set n (Some m) empty found = absurd (false≢true (sym empty))

-- the next one in the word is the first one
pub first_within : (set : List Bool) (n : ℕ) (next : Option ℕ) → is_some next ≡ true → IsNextInWord set n next → IsFirstFrom set n next
first_within set n None some found = absurd (false≢true some)
first_within set n (Some m) some found = (found.0, found.2, found.3)

-- of a set of one word no number past the word is in
pub none_in_one_word : (set : List Bool) (n : ℕ) → length set ≤ 64 → IsNextInWord set n None → IsFirstFrom set n None
none_in_one_word set n one_word none k from =
    elim (cases_lt k (length set)) [
      | inl less ↦ none k from (omega (arith, one_word, less, from))
      | inr past ↦ get_or_past set k false past
    ]

-- where no later word has one either, there is none
pub none_above : (below above : List Bool) (n : ℕ) → Sums below above → IsNextInWord below n None → IsFirstFrom above (n / 64 + 1) None
    → IsFirstFrom below n None
none_above below above n sums here later k from =
    elim (cases_eq (k / 64) (n / 64)) [
      | inl same ↦ here k from same
      | inr other ↦ false_from_ne_true _ (λ is. false≢true (sym (later (k / 64) (omega arith)) ∙ sums.up k is))
    ]

-- and else the first one of the first later word that has one
pub first_above : (below above : List Bool) (n word : ℕ) (next : Option ℕ) → Sums below above → IsNextInWord below n None
    → IsFirstFrom above (n / 64 + 1) (Some word) → IsNextInWord below (word * 64) next → IsFirstFrom below n next
first_above below above n word None sums here later next =
    let some = sums.down word later.1 in
    absurd (false≢true (sym (next some.0 (omega (arith, some.1)) (omega (arith, some.1))) ∙ some.2))
first_above below above n word (Some m) sums here later next =
    (omega (arith, later.0, next.0), next.2, before)
  where
    before : (k : ℕ) → n ≤ k → k < m → get_or below k false ≡ false
    before k low high =
        elim (cases_eq (k / 64) (n / 64)) [
          | inl same ↦ here k low same
          | inr other ↦ elim (cases_lt (k / 64) word) [
            | inl less ↦ false_from_ne_true _ (λ is. false≢true (sym (later.2 (k / 64) (omega arith) less) ∙ sums.up k is))
            | inr from ↦ next.3 k (omega arith) high
          ]
        ]

-- a bit is put, and the two above it are written
pub AreLevels-put : (bits words groups : List Bool) (n : ℕ) (b word group : Bool) → AreLevels bits words groups → n < length bits
    → OnTrue word (HasInWord (set bits n b) (n / 64)) → OnFalse word (LacksWord (set bits n b) (n / 64))
    → OnTrue group (HasInWord (set words (n / 64) word) (n / 64 / 64)) → OnFalse group (LacksWord (set words (n / 64) word) (n / 64 / 64))
    → AreLevels (set bits n b) (set words (n / 64) word) (set groups (n / 64 / 64) group)
AreLevels-put bits words groups n b word group levels low has lacks has_above lacks_above =
    let middle : n / 64 < length words = omega (arith, levels.a_word_each) in
    let high : n / 64 / 64 < length groups = omega (arith, levels.a_group_each) in
    record {
      bits_in_words = Sums-put bits words n b word levels.bits_in_words low middle has lacks;
      words_in_groups = Sums-put words groups (n / 64) word group levels.words_in_groups middle high has_above lacks_above;
      a_word_each = omega (arith, levels.a_word_each, length-set bits n b, length-set words (n / 64) word);
      a_group_each = omega (arith, levels.a_group_each, length-set words (n / 64) word, length-set groups (n / 64 / 64) group);
      one_word = omega (arith, levels.one_word, length-set groups (n / 64 / 64) group);
    }
