-- The line of the next call, and why it is refused.
use Rattle.std.proofs.Common.{◌≡◌, ℕ, ◌+◌, ◌≤◌, true, false, List, [], ◌∷◌, ◌++◌, length, take, drop, Option, Some, None, IfSome, codes, inl, inr, subst, sym, ap, refl, ◌∙◌, arith}
use Rattle.std.specs.Str.{bytes_eq}
use Rattle.std.proofs.lemmas.Bool.{eq-eqb}
use Rattle.std.proofs.lemmas.Option.{IfSome_then}
use Rattle.std.proofs.lemmas.Slice.Eq.{bytes_eq-Decides}
use Rattle.line_source.specs.Lines.{IsLineAt, seen}
use Rattle.pager_model.specs.declared.call.Line.{Line as Call}
use Rattle.pager_model.specs.Scripts.{Script}
use Rattle.pager_model.specs.TraceText.{IsLine, line_words}
use Rattle.trace_lines.specs.declared.cause.LineCause.{LineCause}
use Rattle.trace_lines.specs.declared.line.Head.{Head}
use Rattle.trace_lines.specs.Forms.{Place, call_forms, line_fault}
use Rattle.trace_lines.specs.Heads.{IsInRange}
use Rattle.trace_lines.specs.Words.{words_of}
use Rattle.trace_lines.proofs.Lines.{line_is_lawful}
use Rattle.trace_lines.proofs.Splits.{some_piece}
use Rattle.trace_reader.specs.declared.fault.TraceFault.{TraceFault}
use Rattle.trace_reader.specs.declared.fault.TraceFault.TheVariants.{Line, TooManyCalls}
use Rattle.trace_reader.specs.Refusals.{IsCause, end_refusal, lines_of}
use Rattle.trace_reader.proofs.Refusals.{line_is}
use Rattle.trace_stream.specs.Streams.{GoesOn, HasOpening, IsKept, forms_of, missing, next_refusal, next_refusal_of}
use Rattle.trace_stream.proofs.NextLines.{IsCut, are_ahead, are_seen, cause_as, is_cut, unless_long-any, unless_long-short}

-- the forms of the calls behind a first line
pub forms_same : (head : Head) (script : Script) → HasOpening head script → call_forms head.version head.processors head.spaces ≡ forms_of script
forms_same head script has = rw (has.version, has.processors, has.spaces) refl

-- the line at the front, of the bytes that are to come
pub cuts : (left left' : Option (List ℕ)) (first ahead line behind : List ℕ) (n : ℕ) → IfSome left (λ _. seen ahead left' ≡ seen first left)
    → IsLineAt n ahead → line ≡ take n ahead → behind ≡ drop (n + 1) ahead → IfSome (seen first left) (IsCut line (seen behind left'))
cuts left left' first ahead line behind n same at shown passed =
    IfSome_then (seen first left) (are_ahead left left' first ahead same) (λ bytes are. is_cut ahead line behind n left' bytes at shown passed are)

-- ---- a line that isn't there

missing_next : (forms : List (List Place)) (number calls : ℕ) (lines : List (List ℕ)) (fault : TraceFault) → missing number lines ≡ Some fault
    → next_refusal_of forms number calls lines ≡ Some fault
missing_next forms number calls [] fault is = is
missing_next forms number calls (rest ∷ []) fault is = is
missing_next forms number calls (line ∷ next ∷ lines) fault is = unless_long-any number line _ fault is

pub no_line : (forms : List (List Place)) (number m calls : ℕ) (before : Option (List ℕ)) (fault : TraceFault) → number ≡ m
    → IfSome before (λ bytes. IsCause (missing number (lines_of bytes)) fault)
    → IfSome before (λ bytes. IsCause (next_refusal forms m calls bytes) fault)
unfolding next_refusal
no_line forms number m calls before fault is refused =
    subst (λ (k : ℕ). IfSome before (λ bytes. IsCause (next_refusal forms k calls bytes) fault)) is
    (IfSome_then before refused (λ bytes cause. cause_as (missing number (lines_of bytes)) (next_refusal_of forms number calls (lines_of bytes)) fault
    (missing_next forms number calls (lines_of bytes) fault) cause))

-- ---- a line that is no call's

refused_at : (forms : List (List Place)) (number calls : ℕ) (line : List ℕ) (then : Option (List ℕ)) (bytes : List ℕ) (cause : LineCause)
    → length line ≤ 4095 → bytes_eq line (codes "end") ≡ false → line_fault forms (words_of line) ≡ Some cause → IsCut line then bytes
    → next_refusal forms number calls bytes ≡ Some (Line number cause)
unfolding next_refusal
refused_at forms number calls line then bytes cause short other fault cut =
    let p = some_piece 10 cut.rest in
    rw (cut.first, p.2) (unless_long-short number line _ short ∙ rw (other, fault) refl)

pub no_call : (forms : List (List Place)) (number m calls : ℕ) (before then : Option (List ℕ)) (line : List ℕ) (cause : LineCause) → number ≡ m
    → length line ≤ 4095 → bytes_eq line (codes "end") ≡ false → line_fault forms (words_of line) ≡ Some cause → IfSome before (IsCut line then)
    → IfSome before (λ bytes. next_refusal forms m calls bytes ≡ Some (Line number cause))
no_call forms number m calls before then line cause is short other fault cut =
    subst (λ (k : ℕ). IfSome before (λ bytes. next_refusal forms k calls bytes ≡ Some (Line number cause))) is
    (IfSome_then before cut (λ bytes. refused_at forms number calls line then bytes cause short other fault))

-- ---- one call too many

many_at : (forms : List (List Place)) (number calls : ℕ) (line : List ℕ) (then : Option (List ℕ)) (bytes : List ℕ)
    → length line ≤ 4095 → bytes_eq line (codes "end") ≡ false → line_fault forms (words_of line) ≡ None → calls ≡ 4294967295 → IsCut line then bytes
    → next_refusal forms number calls bytes ≡ Some TooManyCalls
unfolding next_refusal
many_at forms number calls line then bytes short other lawful many cut =
    let p = some_piece 10 cut.rest in
    rw (cut.first, p.2) (unless_long-short number line _ short ∙ rw (other, lawful, eq-eqb calls 4294967295 many) refl)

pub too_many : (forms : List (List Place)) (number calls : ℕ) (before then : Option (List ℕ)) (line : List ℕ) → length line ≤ 4095
    → bytes_eq line (codes "end") ≡ false → line_fault forms (words_of line) ≡ None → calls ≡ 4294967295 → IfSome before (IsCut line then)
    → IfSome before (λ bytes. next_refusal forms number calls bytes ≡ Some TooManyCalls)
too_many forms number calls before then line short other lawful many cut =
    IfSome_then before cut (λ bytes. many_at forms number calls line then bytes short other lawful many)

-- what was read as a call has no fault
pub lawful : (head : Head) (script : Script) (line : List ℕ) (call : Call) → IsInRange head → HasOpening head script
    → IsLine head.version head.processors head.spaces call → words_of line ≡ line_words call → line_fault (forms_of script) (words_of line) ≡ None
lawful head script line call range has is words =
    subst (λ (forms : List (List Place)). line_fault forms (words_of line) ≡ None) (forms_same head script has)
    (rw words (line_is_lawful head.version head.processors head.spaces call (omega (arith, range.3.1)) (omega (arith, range.4.1)) is))

-- ---- the end

end_at : (forms : List (List Place)) (number calls : ℕ) (line : List ℕ) (then : Option (List ℕ)) (bytes : List ℕ) → length line ≤ 4095
    → bytes_eq line (codes "end") ≡ true → (cut : IsCut line then bytes)
    → next_refusal forms number calls bytes ≡ end_refusal number (lines_of cut.rest)
unfolding next_refusal
end_at forms number calls line then bytes short same cut =
    let p = some_piece 10 cut.rest in
    rw (cut.first, p.2) (unless_long-short number line _ short ∙ rw same refl)

pub behind_end : (forms : List (List Place)) (number m calls : ℕ) (before then : Option (List ℕ)) (line : List ℕ) (fault : TraceFault) → number ≡ m
    → length line ≤ 4095 → bytes_eq line (codes "end") ≡ true → IfSome before (IsCut line then)
    → IfSome then (λ bytes. IsCause (end_refusal number (lines_of bytes)) fault)
    → IfSome before (λ bytes. IsCause (next_refusal forms m calls bytes) fault)
behind_end forms number m calls before then line fault is short same cut refused =
    subst (λ (k : ℕ). IfSome before (λ bytes. IsCause (next_refusal forms k calls bytes) fault)) is
    (IfSome_then before cut (λ bytes at.
    let cause : IsCause (end_refusal number (lines_of at.rest)) fault =
    subst (λ (o : Option (List ℕ)). IfSome o (λ bytes. IsCause (end_refusal number (lines_of bytes)) fault)) at.to_come refused in
    subst (λ (r : Option TraceFault). IsCause r fault) (sym (end_at forms number calls line then bytes short same at)) cause))

pub at_end : (before then after : Option (List ℕ)) (line : List ℕ) → bytes_eq line (codes "end") ≡ true → IfSome before (IsCut line then)
    → IfSome then (λ bytes. (bytes ≡ []) × (after ≡ Some [])) → IfSome before (λ bytes. GoesOn bytes None after)
at_end before then after line same cut end = IfSome_then before cut (λ bytes at.
    let is : (at.rest ≡ []) × (after ≡ Some []) =
    subst (λ (o : Option (List ℕ)). IfSome o (λ bytes. (bytes ≡ []) × (after ≡ Some []))) at.to_come end in
    let whole : line ≡ codes "end" = (bytes_eq-Decides line (codes "end")).0 same in
    (at.parts ∙ ap (λ (l : List ℕ). l ++ 10 ∷ at.rest) whole ∙ ap (λ (l : List ℕ). codes "end" ++ 10 ∷ l) is.0, is.1))

-- ---- the next call

pub goes_on : (before then : Option (List ℕ)) (line : List ℕ) (call : Call) → words_of line ≡ line_words call → IfSome before (IsCut line then)
    → IfSome before (λ bytes. GoesOn bytes (Some call) then)
goes_on before then line call words cut =
    IfSome_then before cut (λ bytes at. (at.rest, line_is bytes line at.rest (line_words call) at.parts words, at.to_come))

-- ---- no byte is lost

pub kept_all : (left left' : Option (List ℕ)) (first ahead : List ℕ) → IfSome left (λ _. seen ahead left' ≡ seen first left)
    → IfSome (seen first left) (λ bytes. IsKept bytes (seen ahead left'))
kept_all left left' first ahead same =
    IfSome_then (seen first left) (are_seen left left' first ahead same) (λ bytes is. (bytes, is, inl refl))

still_seen : (left left' : Option (List ℕ)) (behind now rest : List ℕ) → IfSome left (λ _. seen now left' ≡ seen behind left)
    → seen behind left ≡ Some rest → seen now left' ≡ Some rest
still_seen None left' behind now rest same is = cc
still_seen (Some bytes) left' behind now rest same is = same ∙ is

pub kept_behind : (before left left' : Option (List ℕ)) (behind now line : List ℕ) → bytes_eq line (codes "end") ≡ true
    → IfSome before (IsCut line (seen behind left)) → IfSome left (λ _. seen now left' ≡ seen behind left)
    → IfSome before (λ bytes. IsKept bytes (seen now left'))
kept_behind before left left' behind now line same cut still = IfSome_then before cut (λ bytes at.
    let whole : line ≡ codes "end" = (bytes_eq-Decides line (codes "end")).0 same in (
      at.rest,
      still_seen left left' behind now at.rest still at.to_come,
      inr (at.parts ∙ ap (λ (l : List ℕ). l ++ 10 ∷ at.rest) whole),
    ))
