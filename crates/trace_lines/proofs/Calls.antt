-- How a call's line is refused.
use Rattle.std.proofs.Common.{◌≡◌, ◌≢◌, ℕ, ◌+◌, ◌<◌, ◌≤◌, true, false, List, [], ◌∷◌, length, slice_index_or, Result, Ok, Err, IsErrAnd, IfErr, Some, refl, arith, inl, inr}
use Rattle.pager_model.specs.declared.call.Line.{Line}
use Rattle.trace_lines.specs.declared.cause.LineCause.{LineCause}
use Rattle.trace_lines.specs.declared.cause.LineCause.TheVariants as causes
use Rattle.trace_lines.specs.declared.line.Head.{Head}
use Rattle.trace_lines.specs.Forms.{Place, fits, leftmost, line_fault}
use Rattle.trace_lines.specs.Heads.{IsRead}
use Rattle.trace_lines.specs.Words.{seen}
use Rattle.trace_lines.proofs.Forms.{fits_length}
use denote.Ref.{Bor}
use Rattle.std.proofs.lemmas.Bool.{cases_Bool}
use Rattle.std.proofs.lemmas.List.{length-map}

-- the words of an array, one by one
abbrev pub word_at : List (Bor (List ℕ)) → ℕ → List ℕ
word_at words i = (slice_index_or words i (record { ref_ptr = (0, 0); now = [] })).now

pub two : (words : List (Bor (List ℕ))) → 2 ≤ length words → length words < 3 → seen words ≡ word_at words 0 ∷ word_at words 1 ∷ []
two [] some few = absurd (omega arith)
two (a ∷ []) some few = absurd (omega arith)
two (a ∷ b ∷ []) some few = refl
two (a ∷ b ∷ c ∷ words) some few = absurd (omega arith)

pub three : (words : List (Bor (List ℕ))) → 3 ≤ length words → length words < 4
    → seen words ≡ word_at words 0 ∷ word_at words 1 ∷ word_at words 2 ∷ []
three [] some few = absurd (omega arith)
three (a ∷ []) some few = absurd (omega arith)
three (a ∷ b ∷ []) some few = absurd (omega arith)
three (a ∷ b ∷ c ∷ []) some few = refl
three (a ∷ b ∷ c ∷ d ∷ words) some few = absurd (omega arith)

pub four : (words : List (Bor (List ℕ))) → 4 ≤ length words → length words < 5
    → seen words ≡ word_at words 0 ∷ word_at words 1 ∷ word_at words 2 ∷ word_at words 3 ∷ []
four [] some few = absurd (omega arith)
four (a ∷ []) some few = absurd (omega arith)
four (a ∷ b ∷ []) some few = absurd (omega arith)
four (a ∷ b ∷ c ∷ []) some few = absurd (omega arith)
four (a ∷ b ∷ c ∷ d ∷ []) some few = refl
four (a ∷ b ∷ c ∷ d ∷ e ∷ words) some few = absurd (omega arith)

pub five : (words : List (Bor (List ℕ))) → 5 ≤ length words → length words < 6
    → seen words ≡ word_at words 0 ∷ word_at words 1 ∷ word_at words 2 ∷ word_at words 3 ∷ word_at words 4 ∷ []
five [] some few = absurd (omega arith)
five (a ∷ []) some few = absurd (omega arith)
five (a ∷ b ∷ []) some few = absurd (omega arith)
five (a ∷ b ∷ c ∷ []) some few = absurd (omega arith)
five (a ∷ b ∷ c ∷ d ∷ []) some few = absurd (omega arith)
five (a ∷ b ∷ c ∷ d ∷ e ∷ []) some few = refl
five (a ∷ b ∷ c ∷ d ∷ e ∷ f ∷ words) some few = absurd (omega arith)

-- what holds of a cause holds of that which a `?` passes on
pub told : {T : Type 0} (P : LineCause → Type 0) (r : Result T LineCause) (cause : LineCause) → IsErrAnd r (λ e. e ≡ cause) → P cause
    → IfErr r P
told P (Ok x) cause is holds = absurd is
told P (Err e) cause is holds = rw is holds

pub told_on : {T : Type 0} (P Q : LineCause → Type 0) (r : Result T LineCause) → ((cause : LineCause) → P cause → Q cause) → IfErr r P
    → IfErr r Q
told_on P Q (Ok x) more holds = tt
told_on P Q (Err e) more holds = more e holds

-- words that fit the form, where a number is at fault
pub line_told : {T : Type 0} (form : List Place) (words : List (List ℕ)) (r : Result T LineCause) (cause : LineCause)
    → IsErrAnd r (λ e. e ≡ cause) → fits form words ≡ true → leftmost form words ≡ Some cause
    → IfErr r (λ e. line_fault (form ∷ []) words ≡ Some e)
line_told form words r cause is fit fault =
    told (λ e. line_fault (form ∷ []) words ≡ Some e) r cause is (let line : line_fault (form ∷ []) words ≡ Some cause = rw (fit, fault) refl in line)

pub at_fault : (head : Head) (form : List Place) (words : List (List ℕ)) (line : Result Line LineCause) (cause : LineCause)
    → IsErrAnd line (λ e. e ≡ cause) → fits form words ≡ true → leftmost form words ≡ Some cause → IsRead head (form ∷ []) words line
at_fault head form words (Ok l) cause is fit fault = absurd is
at_fault head form words (Err e) cause is fit fault = record {
  range = tt;
  text = tt;
  err = line_told {T = Line} form words (Err e) cause is fit fault;
}

-- words that don't fit the form
pub misfit : (head : Head) (form : List Place) (words : List (List ℕ)) → fits form words ≡ false
    → IsRead head (form ∷ []) words (Err causes.Form)
misfit head form words other = record { range = tt; text = tt; err = rw other refl }

-- more or fewer arguments than the form has places for
unfit : (form : List Place) (processor name : List ℕ) (arguments : List (Bor (List ℕ))) → length form ≢ length arguments + 2
    → fits form (processor ∷ name ∷ seen arguments) ≡ false
unfit form processor name arguments other =
    let words = processor ∷ name ∷ seen arguments in
    elim (cases_Bool (fits form words)) [
      | inl fit ↦ absurd (other (omega (arith, fits_length form words fit, length-map arguments (λ (w : Bor (List ℕ)). w.now))))
      | inr other_form ↦ other_form
    ]

-- so they aren't read
pub other_count : (head : Head) (form : List Place) (processor name : List ℕ) (arguments : List (Bor (List ℕ)))
    → length form ≢ length arguments + 2 → IsRead head (form ∷ []) (processor ∷ name ∷ seen arguments) (Err causes.Form)
other_count head form processor name arguments other =
    misfit head form (processor ∷ name ∷ seen arguments) (unfit form processor name arguments other)
