-- Words that are decimals.
use Rattle.std.proofs.Common.{◌∙◌, ap, false, cond, leb, eqb, ◌+◌, ◌-◌, ◌*◌, ◌%◌, ◌≡◌, ℕ, ◌^◌, ◌<◌, ◌≤◌, Bool, true, ltb, ◌&&◌, List, length, take, get_or, Ok, Err, Option, Some, None, decimal, refl, sym, subst, arith, inl, inr}
use Rattle.std.specs.Fmt.{digits}
use Rattle.std.specs.Str.{bytes_eq}
use Rattle.std.specs.Str.Parse.{AllDigits, digits_value}
use Rattle.pager_model.proofs.Options.{none_from_never}
use Rattle.trace_lines.specs.Forms.{number_of, in_range, number_in}
use Rattle.trace_lines.specs.Words.{AreDigits, IsPlain}
use Rattle.trace_lines.specs.declared.cause.LineCause.TheVariants as causes
use Rattle.std.proofs.lemmas.Bool.{cases_lt, cases_Bool, and_parts, ltb-true, lt-ltb, eqb-true, eq-eqb, leb-true, le-leb}
use Rattle.std.proofs.lemmas.Fmt.{digits_decimal, digits_value-decimal, decimal_digit, decimal_nonempty, first_decimal, decimal-digits_value}
use Rattle.std.proofs.lemmas.Int.Digits.{digits_value_more}
use Rattle.std.proofs.lemmas.List.{get_or-take, length-take-le}
use Rattle.std.proofs.lemmas.Option.{cond_some}
use Rattle.std.proofs.lemmas.Slice.Eq.{bytes_eq-Decides}
use Rattle.std.proofs.lemmas.Str.{digit_value_digit}
use Rattle.std.proofs.lemmas.Str.Parse.{IsNumeralModel, numerals_by_value, tells_digits, tells_by_index, digits_value-take-le, digits_value_short}

own : IsNumeralModel (AllDigits 10) (digits_value 10)
own = numerals_by_value (AllDigits 10) tells_digits

-- the value of a test that passed
cond_ok : {E : Type 0} (b : Bool) (x y : ℕ) (other : E) → cond b (Ok x) (Err other) ≡ Ok y → (b ≡ true) × (x ≡ y)
cond_ok true x y other e = (refl, cc)
cond_ok false x y other e = absurd cc

pub all_digits : (n : ℕ) → n < 2 ^ 64 → AllDigits 10 (decimal n)
all_digits n small = digits_decimal own n small

-- a decimal has no leading zero
short_zero : (n : ℕ) → n < 2 ^ 64 → get_or (decimal n) 0 0 ≡ 48 → length (decimal n) ≤ 1
short_zero n small e =
    elim (cases_lt n 1) [
      | inl lt ↦ rw (decimal_digit n (omega arith)) (omega arith)
      | inr le ↦ absurd (omega (arith, first_decimal n (omega arith) small))
    ]

pub is_plain : (n : ℕ) (word : List ℕ) → n < 2 ^ 64 → word ≡ decimal n → IsPlain word
is_plain n word small e = rw e (decimal_nonempty n small, short_zero n small)

abbrev fits : List ℕ → Bool
fits word = ltb (digits_value 10 word) (2 ^ 64) && bytes_eq (decimal (digits_value 10 word)) word

pub number_takes : (word : List ℕ) (n : ℕ) → number_of word ≡ Some n → (n < 2 ^ 64) × (word ≡ decimal n)
unfolding number_of
number_takes word n e =
    let p = cond_some (fits word) (digits_value 10 word) n e in
    let q = and_parts (ltb (digits_value 10 word) (2 ^ 64)) _ p.0 in
    rw (← p.1) (ltb-true _ _ q.0, sym ((bytes_eq-Decides (decimal (digits_value 10 word)) word).0 q.1))

pub number_again : (n : ℕ) → n < 2 ^ 64 → number_of (decimal n) ≡ Some n
unfolding number_of
number_again n small =
    let value : digits_value 10 (decimal n) ≡ n = digits_value-decimal own n small in
    let low : ltb n (2 ^ 64) ≡ true = lt-ltb n (2 ^ 64) small in
    let same : bytes_eq (decimal n) (decimal n) ≡ true = (bytes_eq-Decides (decimal n) (decimal n)).1 refl in
    rw (value, low, same) refl

pub no_number : (word : List ℕ) → ((n : ℕ) → n < 2 ^ 64 → word ≡ decimal n → ⊥) → number_of word ≡ None
no_number word none = none_from_never (number_of word) (λ n e. let t = number_takes word n e in none n t.0 t.1)

-- ---- words digit by digit

by_index : IsNumeralModel (λ ds. AreDigits ds (length ds)) (digits_value 10)
by_index = numerals_by_value (λ ds. AreDigits ds (length ds)) tells_by_index

-- digits alone, with no zero before others
pub number_of-digits : (word : List ℕ) → IsPlain word → AreDigits word (length word) → digits_value 10 word < 2 ^ 64
    → number_of word ≡ Some (digits_value 10 word)
number_of-digits word plain digits small =
    let is : decimal (digits_value 10 word) ≡ word = decimal-digits_value by_index word digits plain.0
    (λ z. let l = plain.1 z in omega (arith, l, plain.0)) small in
    subst (λ w. number_of w ≡ Some (digits_value 10 word)) is (number_again (digits_value 10 word) small)

pub number_of-zeros : (word : List ℕ) → (IsPlain word → ⊥) → number_of word ≡ None
number_of-zeros word zeros = no_number word (λ n small e. zeros (is_plain n word small e))

-- one digit more
pub digits_more : (word : List ℕ) (i number : ℕ) → i < length word → (number ≡ digits_value 10 (take i word)) × AreDigits word i
    → 48 ≤ get_or word i 0 → get_or word i 0 ≤ 57
    → (number * 10 + (get_or word i 0 - 48) ≡ digits_value 10 (take (i + 1) word)) × AreDigits word (i + 1)
digits_more word i number below so_far low high =
    let more = digits_value_more 10 word i below in
    let digit = digit_value_digit (get_or word i 0) (low, high) in (
      omega (arith, so_far.0, more, digit),
      λ j within. elim (cases_lt j i) [
        | inl before ↦ so_far.1 j before
        | inr after ↦ (let here : j ≡ i = omega arith in rw here (low, high))
      ],
    )

-- the first digits of a text are digits
first_digits : (text : List ℕ) (count : ℕ) → count ≤ length text → AreDigits text count
    → AreDigits (take count text) (length (take count text))
first_digits text count within are = λ j below.
    let long = length-take-le count text within in
    let same : get_or (take count text) j 0 ≡ get_or text j 0 = get_or-take count text j 0 (omega (arith, below, long)) in
    rw same (are j (omega (arith, below, long)))

-- the number of eighteen digits at most
pub short_number : (text : List ℕ) (count : ℕ) → count ≤ 18 → count ≤ length text → AreDigits text count
    → digits_value 10 (take count text) < 10 ^ 18
short_number text count few within are =
    digits_value_short by_index (take count text) 18 (first_digits text count within are)
    (omega (arith, few, length-take-le count text within))

-- the word of the first digits of a text, with no zero before others, is the decimal of their number
pub first_number : (text : List ℕ) (count number : ℕ) → count ≤ length text → AreDigits text count → IsPlain (take count text)
    → number ≡ digits_value 10 (take count text) → number < 2 ^ 64 → take count text ≡ decimal number
first_number text count number within are plain value small =
    let is = number_of-digits (take count text) plain (first_digits text count within are) (omega (arith, value, small)) in
    (number_takes (take count text) (digits_value 10 (take count text)) is).1 ∙ ap decimal (sym value)

-- a byte that is no digit
pub number_of-other : (word : List ℕ) (i : ℕ) → i < length word → (48 ≤ get_or word i 0 → get_or word i 0 ≤ 57 → ⊥) → number_of word ≡ None
number_of-other word i below other =
    no_number word (λ n small e.
    let digits : AreDigits word (length word) = rw e (by_index.from (decimal n) (all_digits n small)) in
    let here = digits i below in
    other (omega (arith, here)) (omega (arith, here)))

-- digits of which those up to this place make too large a number
pub number_of-large : (word : List ℕ) (i : ℕ) → i < length word → AreDigits word (i + 1)
    → 2 ^ 64 ≤ digits_value 10 (take i word) * 10 + (get_or word i 0 - 48) → number_of word ≡ None
number_of-large word i below digits large =
    no_number word (λ n small e.
    let whole : digits_value 10 word ≡ n = ap (digits_value 10) e ∙ digits_value-decimal own n small in
    let least = digits_value-take-le 10 word (i + 1) (omega arith) in
    let more = digits_value_more 10 word i below in
    let digit = digit_value_digit (get_or word i 0) (digits i (omega arith)) in
    omega (arith, small, whole, least, more, digit, large))

-- ---- numbers in a range

-- a word whose number may stand at a place is the decimal of that number
pub record Takes (step low end : ℕ) (word : List ℕ) (n : ℕ) : Type 0 where
  pub text : word ≡ decimal n
  pub step_in : n % step ≡ 0
  pub low_in : low ≤ n
  pub end_in : n < end
  pub small : n < 2 ^ 64

in_range_takes : (step low end : ℕ) (o : Option ℕ) (n : ℕ) → in_range step low end o ≡ Ok n
    → (o ≡ Some n) × (n % step ≡ 0) × (low ≤ n) × (n < end)
in_range_takes step low end None n e = absurd cc
in_range_takes step low end (Some m) n e =
    let g = cond_ok (eqb (m % step) 0 && (leb low m && ltb m end)) m n _ e in
    let p = and_parts (eqb (m % step) 0) _ g.0 in
    let q = and_parts (leb low m) _ p.1 in
    rw (← g.1) (refl, eqb-true _ _ p.0, leb-true _ _ q.0, ltb-true _ _ q.1)

pub number_in_takes : (step low end : ℕ) (word : List ℕ) (n : ℕ) → number_in step low end word ≡ Ok n → Takes step low end word n
unfolding number_in
number_in_takes step low end word n e =
    let r = in_range_takes step low end (number_of word) n e in
    let t = number_takes word n r.0 in
    record { text = t.1; step_in = r.1; low_in = r.2; end_in = r.3; small = t.0 }

pub number_in_again : (step low end n : ℕ) → n % step ≡ 0 → low ≤ n → n < end → n < 2 ^ 64 → number_in step low end (decimal n) ≡ Ok n
unfolding number_in
number_in_again step low end n whole above below small =
    rw (number_again n small, eq-eqb (n % step) 0 whole, le-leb low n above, lt-ltb n end below) refl

-- the same, by what is known of the word
pub number_in_none : (step low end : ℕ) (word : List ℕ) → number_of word ≡ None → number_in step low end word ≡ Err causes.Number
unfolding number_in
number_in_none step low end word e = rw e refl

pub number_in_some : (step low end : ℕ) (word : List ℕ) (n : ℕ) → number_of word ≡ Some n → n % step ≡ 0 → low ≤ n → n < end
    → number_in step low end word ≡ Ok n
number_in_some step low end word n e whole above below =
    let t = number_takes word n e in
    rw t.1 (number_in_again step low end n whole above below t.0)

pub number_in_out : (step low end : ℕ) (word : List ℕ) (n : ℕ) → number_of word ≡ Some n → ((n % step ≡ 0) × (low ≤ n) × (n < end) → ⊥)
    → number_in step low end word ≡ Err causes.Range
unfolding number_in
number_in_out step low end word n e out =
    rw e (elim (cases_Bool ((eqb (n % step) 0) && (leb low n && ltb n end))) [
      | inl passed ↦
          let p = and_parts (eqb (n % step) 0) _ passed in
          let q = and_parts (leb low n) _ p.1 in
          absurd (out (eqb-true _ _ p.0, leb-true _ _ q.0, ltb-true _ _ q.1))
      | inr failed ↦ rw failed refl
    ])

pub number_in_any : (word : List ℕ) (n : ℕ) → number_of word ≡ Some n → number_in 1 0 (2 ^ 64) word ≡ Ok n
number_in_any word n e = let t = number_takes word n e in number_in_some 1 0 (2 ^ 64) word n e (omega arith) (omega arith) t.0

-- a number's word is its decimal
pub number_text : (word : List ℕ) (n : ℕ) → number_of word ≡ Some n → word ≡ decimal n
number_text word n e = (number_takes word n e).1

pub ruleset any_numbers = (number_in_none, number_in_any, number_text)

pub ruleset numbers = (number_in_none, number_in_some, number_in_out, number_text)

pub decimal_value : (n : ℕ) → n < 2 ^ 64 → digits_value 10 (decimal n) ≡ n
decimal_value n small = digits_value-decimal own n small
