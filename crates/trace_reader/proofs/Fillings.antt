-- A line without a fault is filled with numbers and words of its form, and so is a line of a trace. A text without a refusal is a trace's.
use Rattle.std.proofs.Common.{◌≡◌, ◌≢◌, ℕ, ◌+◌, ◌%◌, ◌^◌, ◌<◌, ◌≤◌, ◌⊎◌, Bool, true, false, map, cond, eqb, ltb, List, [], ◌∷◌, ◌++◌, length, Option, Some, None, Result, Ok, Err, decimal, codes, refl, sym, ap, subst, ◌∙◌, arith, inl, inr}
use Rattle.std.specs.List.{join_with_byte, list_any, AllByRecursion}
use Rattle.std.specs.Option.{option_or}
use Rattle.std.specs.Result.{result_err}
use Rattle.std.specs.Str.{bytes_eq}
use Rattle.std.proofs.lemmas.Bool.{and_parts, or_cases, cases_Bool, cases_lt, eq-eqb, ne_eqb, ltb-false}
use Rattle.std.proofs.lemmas.List.Elements.{All-from_recursion}
use Rattle.std.proofs.lemmas.List.Splits.{join_with_byte-slice_split}
use Rattle.std.proofs.lemmas.Slice.Eq.{bytes_eq-Decides}
use Rattle.pager_model.specs.Bounds.{most_calls}
use Rattle.pager_model.specs.declared.call.Call.TheVariants.{Map, Grow, Unmap, Protect, Load, Store, Sync, Evict, Discard, Wire, Unwire}
use Rattle.pager_model.specs.declared.call.Line.{Line}
use Rattle.pager_model.specs.declared.region.Kind.{Kind}
use Rattle.pager_model.specs.declared.region.Kind.TheVariants.{Fixed, Growing, Wired}
use Rattle.pager_model.specs.declared.region.Rights.{Rights}
use Rattle.pager_model.specs.declared.region.Rights.TheVariants.{NoAccess, Read, Write}
use Rattle.pager_model.specs.Scripts.{Script}
use Rattle.pager_model.specs.SizeSets.{SizeSet, all_sizes}
use Rattle.pager_model.specs.declared.trace.Daemon.{Daemon}
use Rattle.pager_model.specs.TraceText.{kind_word, rights_word, sizes_word, line_words, line_of_words, call_line, daemon_words, first_words, IsDaemon, IsLine, IsTextOf}
use Rattle.trace_lines.specs.declared.cause.LineCause.{LineCause}
use Rattle.trace_reader.specs.declared.fault.TraceFault.TheVariants.{TooManyCalls}
use Rattle.trace_lines.specs.declared.line.Head.{Head}
use Rattle.trace_lines.specs.Forms.{Place, Word, OneOf, Number, number_in, fits, leftmost, line_fault, first_form, sized_form, first_forms, daemon_form, map_form, grow_form, unmap_form, protect_form, load_form, store_form, sync_form, evict_form, discard_form, wire_form, unwire_form, later_forms, call_forms}
use Rattle.trace_lines.specs.Heads.{IsInRange}
use Rattle.trace_reader.specs.Refusals.{lines_of, end_refusal, at_line, calls_refusal, second_refusal, forms_behind, refusal_of_lines, refusal_of}
use Rattle.trace_lines.specs.Words.{words_of}
use Rattle.trace_reader.proofs.CutTexts.{behind_text, calls_text, calls_text-cons}
use Rattle.trace_lines.proofs.Numbers.{number_in_takes}
use Rattle.trace_reader.proofs.Refusals.{short_enough, too_long, forms_again, is_text, line_is}

-- ---- what fills a form

-- a number of a place
record Numeral (step low end : ℕ) : Type 0 where
  n : ℕ
  step_in : n % step ≡ 0
  low_in : low ≤ n
  end_in : n < end
  small : n < 2 ^ 64

-- a word out of a list
abbrev IsOneOf : List (List ℕ) → List ℕ → Type 0
IsOneOf [] word = ⊥
IsOneOf (keyword ∷ keywords) word = (word ≡ keyword) ⊎ IsOneOf keywords word

abbrev Chosen : List (List ℕ) → Type 0
Chosen keywords = (word : List ℕ) × IsOneOf keywords word

abbrev Filling : List Place → Type 0
Filling [] = Unit {0}
Filling (Word keyword ∷ places) = Filling places
Filling (OneOf keywords ∷ places) = Chosen keywords × Filling places
Filling (Number step low end ∷ places) = Numeral step low end × Filling places

abbrev words_by : (form : List Place) → Filling form → List (List ℕ)
words_by [] filling = []
words_by (Word keyword ∷ places) filling = keyword ∷ words_by places filling
words_by (OneOf keywords ∷ places) filling = filling.0.0 ∷ words_by places filling.1
words_by (Number step low end ∷ places) filling = decimal filling.0.n ∷ words_by places filling.1

-- the words are those of a filled form
abbrev Fills : List Place → List (List ℕ) → Type 0
Fills form words = (filling : Filling form) × (words ≡ words_by form filling)

one_of : (keywords : List (List ℕ)) (word : List ℕ) → list_any (λ keyword. bytes_eq word keyword) keywords ≡ true → IsOneOf keywords word
one_of [] word e = absurd cc
one_of (keyword ∷ keywords) word e =
    elim (or_cases (bytes_eq word keyword) (list_any (λ k. bytes_eq word k) keywords) e) [
      | inl here ↦ inl ((bytes_eq-Decides word keyword).0 here)
      | inr later ↦ inr (one_of keywords word later)
    ]

-- neither of two options is there
neither : {A : Type 0} (a b : Option A) → option_or a b ≡ None → (a ≡ None) × (b ≡ None)
neither None b e = (refl, e)
neither (Some x) b e = absurd cc

ok_of : (r : Result ℕ LineCause) → result_err r ≡ None → (n : ℕ) × (r ≡ Ok n)
ok_of (Ok n) e = (n, refl)
ok_of (Err cause) e = absurd cc

filled : (form : List Place) (words : List (List ℕ)) → fits form words ≡ true → leftmost form words ≡ None → Fills form words
filled [] [] fit none = (tt, refl)
filled [] (word ∷ words) fit none = absurd cc
filled (Word keyword ∷ form) [] fit none = absurd cc
filled (OneOf keywords ∷ form) [] fit none = absurd cc
filled (Number step low end ∷ form) [] fit none = absurd cc
filled (Word keyword ∷ form) (word ∷ words) fit none =
    let p = and_parts (bytes_eq word keyword) (fits form words) fit in
    let rest = filled form words p.1 none in
    (rest.0, ap (λ (w : List ℕ). w ∷ words) ((bytes_eq-Decides word keyword).0 p.0) ∙ ap (λ (ws : List (List ℕ)). keyword ∷ ws) rest.1)
filled (OneOf keywords ∷ form) (word ∷ words) fit none =
    let p = and_parts (list_any (λ keyword. bytes_eq word keyword) keywords) (fits form words) fit in
    let rest = filled form words p.1 none in
    (((word, one_of keywords word p.0), rest.0), ap (λ (ws : List (List ℕ)). word ∷ ws) rest.1)
filled (Number step low end ∷ form) (word ∷ words) fit none =
    let both = neither (result_err (number_in step low end word)) (leftmost form words) none in
    let found = ok_of (number_in step low end word) both.0 in
    let takes = number_in_takes step low end word found.0 found.1 in
    let rest = filled form words fit both.1 in (
      (record { n = found.0; step_in = takes.step_in; low_in = takes.low_in; end_in = takes.end_in; small = takes.small }, rest.0),
      ap (λ (w : List ℕ). w ∷ words) takes.text ∙ ap (λ (ws : List (List ℕ)). decimal found.0 ∷ ws) rest.1,
    )

-- the words fill one of these forms
abbrev FillsOne : List (List Place) → List (List ℕ) → Type 0
FillsOne [] words = ⊥
FillsOne (form ∷ forms) words = Fills form words ⊎ FillsOne forms words

fills_one : (forms : List (List Place)) (words : List (List ℕ)) → line_fault forms words ≡ None → FillsOne forms words
fills_one [] words none = absurd cc
fills_one (form ∷ forms) words none =
    elim (cases_Bool (fits form words)) [
      | inl fit ↦ inl (filled form words fit (rw fit at none))
      | inr unfit ↦ inr (fills_one forms words (rw unfit at none))
    ]

-- ---- lines

-- the words are those of a line that may stand
abbrev Says : ℕ → ℕ → ℕ → List (List ℕ) → Type 0
Says version processors spaces words = (line : Line) × IsLine version processors spaces line × (words ≡ line_words line)

-- which one of the things it is whose word is chosen
named : {A : Type 0} (word_of : A → List ℕ) (all : List A) (word : List ℕ) → IsOneOf (map word_of all) word → (x : A) × (word ≡ word_of x)
named word_of [] word is = absurd is
named word_of (x ∷ all) word is = elim is [ inl here ↦ (x, here) | inr later ↦ named word_of all word later ]

kind_of : (chosen : Chosen (kind_word Fixed ∷ kind_word Growing ∷ kind_word Wired ∷ [])) → (kind : Kind) × (chosen.0 ≡ kind_word kind)
kind_of chosen = named kind_word (Fixed ∷ Growing ∷ Wired ∷ []) chosen.0 chosen.1

rights_of : (chosen : Chosen (rights_word NoAccess ∷ rights_word Read ∷ rights_word Write ∷ []))
    → (rights : Rights) × (chosen.0 ≡ rights_word rights)
rights_of chosen = named rights_word (NoAccess ∷ Read ∷ Write ∷ []) chosen.0 chosen.1

-- every set of page sizes, in the order of the words that may name one
abbrev sizes : Bool → Bool → Bool → SizeSet
sizes one two three = record { one = one; two = two; three = three }

abbrev size_sets : List SizeSet
size_sets =
    sizes false false false ∷ sizes true false false ∷ sizes false true false ∷ sizes false false true
    ∷ sizes true true false ∷ sizes true false true ∷ sizes false true true ∷ sizes true true true ∷ []

sizes_of : (chosen : Chosen (map sizes_word size_sets)) → (z : SizeSet) × (chosen.0 ≡ sizes_word z)
sizes_of chosen = named sizes_word size_sets chosen.0 chosen.1

map_says : (version processors spaces : ℕ) (words : List (List ℕ)) → Fills (map_form processors spaces) words → Says version processors spaces words
map_says version processors spaces words (f, e) =
    let kind = kind_of f.1.1.1.1.0 in
    let rights = rights_of f.1.1.1.1.1.0 in (
      record { processor = f.0.n; call = Map f.1.0.n f.1.1.0.n f.1.1.1.0.n kind.0 rights.0 },
      (f.0.end_in, (f.1.0.end_in, f.1.1.0.end_in, f.1.1.1.0.low_in, omega (arith, f.1.1.1.0.end_in)), tt),
      e
          ∙ ap (λ (w : List ℕ). decimal f.0.n ∷ codes "map" ∷ decimal f.1.0.n ∷ decimal f.1.1.0.n ∷ decimal f.1.1.1.0.n ∷ w ∷ f.1.1.1.1.1.0.0 ∷ []) kind.1
          ∙ ap (λ (w : List ℕ). decimal f.0.n ∷ codes "map" ∷ decimal f.1.0.n ∷ decimal f.1.1.0.n ∷ decimal f.1.1.1.0.n ∷ kind_word kind.0 ∷ w ∷ []) rights.1,
    )

grow_says : (version processors spaces : ℕ) (words : List (List ℕ)) → Fills (grow_form processors spaces) words → Says version processors spaces words
grow_says version processors spaces words (f, e) = (
  record { processor = f.0.n; call = Grow f.1.0.n f.1.1.0.n f.1.1.1.0.n },
  (f.0.end_in, (f.1.0.end_in, f.1.1.0.end_in, f.1.1.1.0.low_in, omega (arith, f.1.1.1.0.end_in)), tt),
  e,
)

unmap_says : (version processors spaces : ℕ) (words : List (List ℕ)) → Fills (unmap_form processors spaces) words → Says version processors spaces words
unmap_says version processors spaces words (f, e) =
    (record { processor = f.0.n; call = Unmap f.1.0.n f.1.1.0.n }, (f.0.end_in, (f.1.0.end_in, f.1.1.0.end_in), tt), e)

protect_says : (version processors spaces : ℕ) (words : List (List ℕ)) → Fills (protect_form processors spaces) words → Says version processors spaces words
protect_says version processors spaces words (f, e) =
    let rights = rights_of f.1.1.1.1.0 in (
      record { processor = f.0.n; call = Protect f.1.0.n f.1.1.0.n f.1.1.1.0.n rights.0 },
      (f.0.end_in, (f.1.0.end_in, f.1.1.0.end_in, f.1.1.1.0.low_in, omega (arith, f.1.1.1.0.end_in)), tt),
      e ∙ ap (λ (w : List ℕ). decimal f.0.n ∷ codes "protect" ∷ decimal f.1.0.n ∷ decimal f.1.1.0.n ∷ decimal f.1.1.1.0.n ∷ w ∷ []) rights.1,
    )

load_says : (version processors spaces : ℕ) (words : List (List ℕ)) → Fills (load_form processors spaces) words → Says version processors spaces words
load_says version processors spaces words (f, e) =
    (record { processor = f.0.n; call = Load f.1.0.n f.1.1.0.n }, (f.0.end_in, (f.1.0.end_in, f.1.1.0.step_in, f.1.1.0.end_in), tt), e)

store_says : (version processors spaces : ℕ) (words : List (List ℕ)) → Fills (store_form processors spaces) words → Says version processors spaces words
store_says version processors spaces words (f, e) = (
  record { processor = f.0.n; call = Store f.1.0.n f.1.1.0.n f.1.1.1.0.n },
  (f.0.end_in, (f.1.0.end_in, f.1.1.0.step_in, f.1.1.0.end_in, f.1.1.1.0.end_in), tt),
  e,
)

sync_says : (version processors spaces : ℕ) (words : List (List ℕ)) → Fills (sync_form processors spaces) words → Says version processors spaces words
sync_says version processors spaces words (f, e) =
    (record { processor = f.0.n; call = Sync f.1.0.n f.1.1.0.n }, (f.0.end_in, (f.1.0.end_in, f.1.1.0.end_in), tt), e)

evict_says : (version processors spaces : ℕ) (words : List (List ℕ)) → Fills (evict_form processors spaces) words → Says version processors spaces words
evict_says version processors spaces words (f, e) =
    (record { processor = f.0.n; call = Evict f.1.0.n f.1.1.0.n }, (f.0.end_in, (f.1.0.end_in, f.1.1.0.end_in), tt), e)

discard_says : (version processors spaces : ℕ) (words : List (List ℕ)) → 3 ≤ version → Fills (discard_form processors spaces) words
    → Says version processors spaces words
discard_says version processors spaces words has (f, e) = (
  record { processor = f.0.n; call = Discard f.1.0.n f.1.1.0.n f.1.1.1.0.n },
  (f.0.end_in, (f.1.0.end_in, f.1.1.0.end_in, f.1.1.1.0.low_in, omega (arith, f.1.1.1.0.end_in)), has),
  e,
)

wire_says : (version processors spaces : ℕ) (words : List (List ℕ)) → 3 ≤ version → Fills (wire_form processors spaces) words
    → Says version processors spaces words
wire_says version processors spaces words has (f, e) =
    (record { processor = f.0.n; call = Wire f.1.0.n f.1.1.0.n }, (f.0.end_in, (f.1.0.end_in, f.1.1.0.end_in), has), e)

unwire_says : (version processors spaces : ℕ) (words : List (List ℕ)) → 3 ≤ version → Fills (unwire_form processors spaces) words
    → Says version processors spaces words
unwire_says version processors spaces words has (f, e) =
    (record { processor = f.0.n; call = Unwire f.1.0.n f.1.1.0.n }, (f.0.end_in, (f.1.0.end_in, f.1.1.0.end_in), has), e)

-- a later form is filled where the version has it
later_says : (version processors spaces : ℕ) (words : List (List ℕ)) (early : Bool) → ltb version 3 ≡ early
    → FillsOne (cond early [] (later_forms processors spaces)) words → Says version processors spaces words
later_says version processors spaces words true is fills = absurd fills
later_says version processors spaces words false is fills =
    let has : 3 ≤ version = ltb-false version 3 is in
    elim fills [
      | inl discard ↦ discard_says version processors spaces words has discard
      | inr rest ↦ elim rest [
        | inl wire ↦ wire_says version processors spaces words has wire
        | inr last ↦ elim last [
          | inl unwire ↦ unwire_says version processors spaces words has unwire
          | inr none_left ↦ absurd none_left
        ]
      ]
    ]

line_says : (version processors spaces : ℕ) (words : List (List ℕ)) → line_fault (call_forms version processors spaces) words ≡ None
    → Says version processors spaces words
line_says version processors spaces words none =
    elim (fills_one (call_forms version processors spaces) words none) [
      | inl map ↦ map_says version processors spaces words map
      | inr a ↦ elim a [
        | inl grow ↦ grow_says version processors spaces words grow
        | inr b ↦ elim b [
          | inl unmap ↦ unmap_says version processors spaces words unmap
          | inr c ↦ elim c [
            | inl protect ↦ protect_says version processors spaces words protect
            | inr d ↦ elim d [
              | inl load ↦ load_says version processors spaces words load
              | inr e ↦ elim e [
                | inl store ↦ store_says version processors spaces words store
                | inr f ↦ elim f [
                  | inl sync ↦ sync_says version processors spaces words sync
                  | inr g ↦ elim g [
                    | inl evict ↦ evict_says version processors spaces words evict
                    | inr later ↦ later_says version processors spaces words (ltb version 3) refl later
                  ]
                ]
              ]
            ]
          ]
        ]
      ]
    ]

-- the words are those of a first line that may stand
abbrev SaysFirst : List (List ℕ) → Type 0
SaysFirst words = (head : Head) × IsInRange head × (words ≡ first_words head.version head.frames head.processors head.spaces head.sizes)

one_says : (words : List (List ℕ)) → Fills first_form words → SaysFirst words
one_says words (f, e) =
    let one : f.0.n ≡ 1 = omega (arith, f.0.low_in, f.0.end_in) in (
      record { version = f.0.n; frames = f.1.0.n; processors = f.1.1.0.n; spaces = f.1.1.1.0.n; sizes = all_sizes },
      (
        inl (one, refl),
        (f.1.0.low_in, omega (arith, f.1.0.end_in)),
        f.1.0.step_in,
        (f.1.1.0.low_in, omega (arith, f.1.1.0.end_in)),
        (f.1.1.1.0.low_in, omega (arith, f.1.1.1.0.end_in)),
      ),
      rw (eq-eqb f.0.n 1 one) e,
    )

two_says : (words : List (List ℕ)) → Fills sized_form words → SaysFirst words
two_says words (f, e) =
    let later : (f.0.n ≡ 2) ⊎ (f.0.n ≡ 3) = elim (cases_lt f.0.n 3) [
      | inl below ↦ inl (omega (arith, f.0.low_in, below))
      | inr above ↦ inr (omega (arith, f.0.end_in, above))
    ] in
    let z = sizes_of f.1.1.1.1.0 in (
      record { version = f.0.n; frames = f.1.0.n; processors = f.1.1.0.n; spaces = f.1.1.1.0.n; sizes = z.0 },
      (
        inr later,
        (f.1.0.low_in, omega (arith, f.1.0.end_in)),
        f.1.0.step_in,
        (f.1.1.0.low_in, omega (arith, f.1.1.0.end_in)),
        (f.1.1.1.0.low_in, omega (arith, f.1.1.1.0.end_in)),
      ),
      rw (ne_eqb f.0.n 1 (λ one. omega (arith, f.0.low_in, one)))
          (e ∙ ap (λ (w : List ℕ). codes "trace" ∷ decimal f.0.n ∷ decimal f.1.0.n ∷ decimal f.1.1.0.n ∷ decimal f.1.1.1.0.n ∷ w ∷ []) z.1),
    )

first_says : (words : List (List ℕ)) → line_fault first_forms words ≡ None → SaysFirst words
first_says words none =
    elim (fills_one first_forms words none) [
      | inl one ↦ one_says words one
      | inr others ↦ elim others [ inl two ↦ two_says words two | inr none_left ↦ absurd none_left ]
    ]

daemon_says : (words : List (List ℕ)) → fits daemon_form words ≡ true → leftmost daemon_form words ≡ None
    → (d : Daemon) × IsDaemon (Some d) × (words ≡ daemon_words d)
daemon_says words fit none =
    let is = filled daemon_form words fit none in
    let f = is.0 in
    (record { low = f.0.n; turns = f.1.0.n }, ((f.0.low_in, omega (arith, f.0.end_in)), (f.1.0.low_in, omega (arith, f.1.0.end_in))), is.1)

-- ---- texts

no_fault : (number : ℕ) (fault : Option LineCause) → at_line number fault ≡ None → fault ≡ None
no_fault number None e = refl
no_fault number (Some cause) e = absurd cc

nothing_behind : (number : ℕ) (next : List ℕ) (lines : List (List ℕ)) → end_refusal number (next ∷ lines) ≡ None → next ∷ lines ≡ [] ∷ []
nothing_behind number [] [] e = refl
nothing_behind number [] (line ∷ lines) e = absurd cc
nothing_behind number (b ∷ next) [] e = absurd cc
nothing_behind number (b ∷ next) (line ∷ lines) e = absurd cc

-- the lines are those of some calls, up to the end
abbrev SayCalls : ℕ → ℕ → ℕ → ℕ → List (List ℕ) → Type 0
SayCalls version processors spaces before lines = (calls : List Line) × AllByRecursion (IsLine version processors spaces) calls
    × (before + length calls ≤ most_calls) × (join_with_byte 10 lines ≡ calls_text calls)

one_call_more : (line behind : List ℕ) (call : Line) (calls : List Line) → words_of line ≡ line_words call → behind ≡ calls_text calls
    → line ++ 10 ∷ behind ≡ calls_text (call ∷ calls)
one_call_more line behind call calls words is =
    line_is (line ++ 10 ∷ behind) line behind (line_words call) refl words ∙ ap (λ (t : List ℕ). call_line call ++ t) is
    ∙ sym (calls_text-cons call calls)

calls_say : (version processors spaces number before : ℕ) (lines : List (List ℕ)) → before ≤ most_calls
    → calls_refusal (call_forms version processors spaces) number before lines ≡ None → SayCalls version processors spaces before lines
calls_say version processors spaces number before [] few none = absurd cc
calls_say version processors spaces number before (line ∷ []) few none = absurd cc
calls_say version processors spaces number before (line ∷ next ∷ lines) few none =
    elim (cases_Bool (bytes_eq line (codes "end"))) [
      | inl same ↦
          let last = nothing_behind number next lines (rw same at none) in
          let is = (bytes_eq-Decides line (codes "end")).0 same in (
            [],
            tt,
            omega arith,
            ap (λ (l : List ℕ). join_with_byte 10 (l ∷ next ∷ lines)) is
                ∙ ap (λ (ls : List (List ℕ)). join_with_byte 10 (codes "end" ∷ ls)) last,
          )
      | inr other ↦
          let forms = call_forms version processors spaces in
          let both = neither (at_line number (line_fault forms (words_of line)))
          (cond (eqb before most_calls) (Some TooManyCalls) (calls_refusal forms (number + 1) (before + 1) (next ∷ lines)))
          (rw other at none) in
          let says = line_says version processors spaces (words_of line) (no_fault number (line_fault forms (words_of line)) both.0) in
          elim (cases_Bool (eqb before most_calls)) [
            | inl many ↦ absurd (let fault : Some TooManyCalls ≡ None = rw many at both.1 in cc)
            | inr room ↦
                let more : before ≢ most_calls = λ e. (let full : eqb before most_calls ≡ true = eq-eqb before most_calls e in cc) in
                let rest = calls_say version processors spaces (number + 1) (before + 1) (next ∷ lines) (omega arith) (rw room at both.1) in (
                  says.0 ∷ rest.0,
                  (says.1, rest.1),
                  omega (arith, rest.2),
                  one_call_more line (join_with_byte 10 (next ∷ lines)) says.0 rest.0 says.2 rest.3,
                )
          ]
    ]

-- the lines behind the first are those of a daemon or none, and of some calls up to the end
abbrev SayBehind : ℕ → ℕ → ℕ → List (List ℕ) → Type 0
SayBehind version processors spaces lines = (daemon : Option Daemon) × IsDaemon daemon × (calls : List Line)
    × AllByRecursion (IsLine version processors spaces) calls × (length calls ≤ most_calls) × (join_with_byte 10 lines ≡ behind_text daemon calls)

behind_says : (version processors spaces : ℕ) (lines : List (List ℕ)) → second_refusal (call_forms version processors spaces) lines ≡ None
    → SayBehind version processors spaces lines
behind_says version processors spaces [] none = absurd cc
behind_says version processors spaces (line ∷ []) none = absurd cc
behind_says version processors spaces (line ∷ next ∷ lines) none =
    let forms = call_forms version processors spaces in
    elim (cases_Bool (fits daemon_form (words_of line))) [
      | inl fit ↦
          let both = neither (at_line 2 (leftmost daemon_form (words_of line))) (calls_refusal forms 3 0 (next ∷ lines)) (rw fit at none) in
          let says = daemon_says (words_of line) fit (no_fault 2 (leftmost daemon_form (words_of line)) both.0) in
          let calls = calls_say version processors spaces 3 0 (next ∷ lines) (omega arith) both.1 in
          let behind = join_with_byte 10 (next ∷ lines) in
          let text = line_is (line ++ 10 ∷ behind) line behind (daemon_words says.0) refl says.2 in (
            Some says.0,
            says.1,
            calls.0,
            calls.1,
            omega (arith, calls.2),
            text
                ∙ ap (λ (t : List ℕ). line_of_words (daemon_words says.0) ++ t) calls.3,
          )
      | inr other ↦
          let calls = calls_say version processors spaces 2 0 (line ∷ next ∷ lines) (omega arith) (rw other at none) in
          (None, tt, calls.0, calls.1, omega (arith, calls.2), calls.3)
    ]

text_says : (text : List ℕ) (lines : List (List ℕ)) → lines_of text ≡ lines → refusal_of_lines lines ≡ None
    → (script : Script) × IsTextOf text script
text_says text [] is none = absurd cc
text_says text (first ∷ []) is none = absurd cc
text_says text (first ∷ next ∷ lines) is none =
    let both = neither (at_line 1 (line_fault first_forms (words_of first)))
    (second_refusal (forms_behind (words_of first)) (next ∷ lines)) none in
    let says = first_says (words_of first) (no_fault 1 (line_fault first_forms (words_of first)) both.0) in
    let head = says.0 in
    let forms : forms_behind (words_of first) ≡ call_forms head.version head.processors head.spaces = ap forms_behind says.2 ∙ forms_again head says.1 in
    let behind = behind_says head.version head.processors head.spaces (next ∷ lines)
    (subst (λ (fs : List (List Place)). second_refusal fs (next ∷ lines) ≡ None) forms both.1) in
    let daemon = behind.0 in
    let calls = behind.2 in
    let cut : text ≡ first ++ 10 ∷ join_with_byte 10 (next ∷ lines) = sym (join_with_byte-slice_split 10 text)
    ∙ ap (join_with_byte 10) is in (
      record {
        version = head.version;
        frames = head.frames;
        processors = head.processors;
        spaces = head.spaces;
        sizes = head.sizes;
        daemon = daemon;
        calls = calls;
      },
      is_text text first (join_with_byte 10 (next ∷ lines)) (calls_text calls) head daemon calls cut says.2 says.1 behind.5 behind.1
          (All-from_recursion _ calls behind.3) behind.4 refl,
    )

pub some_trace : (text : List ℕ) → refusal_of text ≡ None → (script : Script) × IsTextOf text script
some_trace text none =
    elim (cases_lt 16777216 (length text)) [
      | inl more ↦ absurd (let fault = sym none ∙ too_long text more in cc)
      | inr few ↦ text_says text (lines_of text) refl (sym (short_enough text few) ∙ none)
    ]
