-- The text of a stream has no refusal.
use Rattle.std.proofs.Common.{◌≡◌, ◌≢◌, ℕ, ◌+◌, ◌≤◌, List, [], ◌∷◌, ◌++◌, length, Option, Some, None, refl, subst, ap, ◌∙◌, arith, length-append}
use Rattle.std.specs.List.{AllByRecursion, join_with_byte}
use Rattle.std.proofs.lemmas.Bool.{ne_eqb}
use Rattle.std.proofs.lemmas.List.Elements.{recursion_from_All}
use Rattle.pager_model.specs.declared.call.Line.{Line}
use Rattle.pager_model.specs.declared.trace.Daemon.{Daemon}
use Rattle.pager_model.specs.Scripts.{Script}
use Rattle.pager_model.specs.TraceText.{IsDaemon, IsLine, daemon_words, first_words, line_words, text_of}
use Rattle.trace_lines.specs.Forms.{call_forms, first_forms, line_fault}
use Rattle.trace_lines.specs.Heads.{IsInRange}
use Rattle.trace_lines.specs.Words.{words_of}
use Rattle.trace_lines.proofs.Lines.{daemon_is_lawful, first_is_lawful, line_is_lawful}
use Rattle.trace_lines.proofs.Splits.{some_piece}
use Rattle.trace_reader.specs.Refusals.{first_call, lines_of}
use Rattle.trace_lines.proofs.CutWords.{call_words_again}
use Rattle.trace_reader.proofs.CutTexts.{behind_text, call_again, call_is_no_daemons, call_is_not_end, calls_text, daemon_again, daemon_words_again, first_words_again, first_words_are, head_of, line_again, text_is}
use Rattle.trace_stream.specs.Streams.{HasStream, daemon_refusal, forms_of, next_refusal, opening_refusal, opening_refusal_of, with_calls}
use Rattle.trace_stream.proofs.NextLines.{unless_long-short}
use Rattle.trace_stream.proofs.ShortLines.{call_short, daemon_short, first_short}

-- ---- the next line

all_after : (P : Line → Type 0) (before after : List Line) → AllByRecursion P (before ++ after) → AllByRecursion P after
all_after P [] after are = are
all_after P (line ∷ before) after are = all_after P before after are.1

next_lawful : (version processors spaces number before : ℕ) (calls : List Line) → processors ≤ 16 → spaces ≤ 16
    → AllByRecursion (IsLine version processors spaces) calls → before + length calls ≤ 4294967295
    → next_refusal (call_forms version processors spaces) number before (calls_text calls) ≡ None
unfolding next_refusal
next_lawful version processors spaces number before [] some few are in' = refl
next_lawful version processors spaces number before (call ∷ calls) some few are in' =
    let p = some_piece 10 (calls_text calls) in
    let lawful : line_fault (call_forms version processors spaces) (words_of (join_with_byte 32 (line_words call))) ≡ None =
    rw (call_words_again version processors spaces call (omega arith) (omega arith) are.0)
    (line_is_lawful version processors spaces call (omega arith) (omega arith) are.0) in
    let other = call_is_not_end version processors spaces call (omega arith) (omega arith) are.0 in
    let more : before ≢ 4294967295 = λ e. omega arith in
    rw (call_again version processors spaces call calls (omega arith) (omega arith) are.0, p.2)
    (unless_long-short number (join_with_byte 32 (line_words call)) _
    (call_short version processors spaces call (omega arith) (omega arith) are.0)
    ∙ rw (other, lawful, ne_eqb before 4294967295 more) refl)

pub next_is_not_refused : (script : Script) (before after : List Line) → HasStream script → script.calls ≡ before ++ after
    → next_refusal (forms_of script) (first_call script.daemon + length before) (length before) (calls_text after) ≡ None
next_is_not_refused script before after has split =
    next_lawful script.version script.processors script.spaces (first_call script.daemon + length before) (length before) after has.opening.processors_in.1
    has.opening.spaces_in.1
    (all_after (IsLine script.version script.processors script.spaces) before after
    (subst (AllByRecursion (IsLine script.version script.processors script.spaces)) split (recursion_from_All _ script.calls has.lines)))
    (omega (arith, has.few, ap length split, length-append before after))

-- ---- the lines before the calls

daemon_by : (line next : List ℕ) (lines : List (List ℕ)) (d : Daemon) → length line ≤ 4095 → words_of line ≡ daemon_words d → IsDaemon (Some d)
    → daemon_refusal (line ∷ next ∷ lines) ≡ None
daemon_by line next lines d short words is = unless_long-short 2 line _ short ∙ rw (words, daemon_is_lawful d is) refl

daemon_lawful : (version processors spaces : ℕ) (daemon : Option Daemon) (calls : List Line) → processors ≤ 16 → spaces ≤ 16 → IsDaemon daemon
    → AllByRecursion (IsLine version processors spaces) calls → daemon_refusal (lines_of (behind_text daemon calls)) ≡ None
daemon_lawful version processors spaces None [] some few is are = refl
daemon_lawful version processors spaces None (call ∷ calls) some few is are =
    let p = some_piece 10 (calls_text calls) in
    rw (call_again version processors spaces call calls (omega arith) (omega arith) are.0, p.2)
    (unless_long-short 2 (join_with_byte 32 (line_words call)) _ (call_short version processors spaces call (omega arith) (omega arith) are.0)
    ∙ rw (call_is_no_daemons version processors spaces call (omega arith) (omega arith) are.0) refl)
daemon_lawful version processors spaces (Some d) calls some few is are =
    let p = some_piece 10 (calls_text calls) in
    rw (daemon_again d calls is, p.2)
    (daemon_by (join_with_byte 32 (daemon_words d)) p.0 p.1 d (daemon_short d is) (daemon_words_again d is) is)

opening_by : (line next : List ℕ) (lines : List (List ℕ)) → length line ≤ 4095 → line_fault first_forms (words_of line) ≡ None
    → opening_refusal_of (line ∷ next ∷ lines) ≡ daemon_refusal (next ∷ lines)
opening_by line next lines short fault = unless_long-short 1 line _ short ∙ rw fault refl

pub opening_is_not_refused : (script : Script) → HasStream script → opening_refusal (text_of script) ≡ None
unfolding opening_refusal
opening_is_not_refused script has =
    let bare = with_calls script [] in
    let opening = has.opening in
    let words = first_words script.version script.frames script.processors script.spaces script.sizes in
    let behind = behind_text script.daemon script.calls in
    let p = some_piece 10 behind in
    let first : lines_of (text_of script) ≡ join_with_byte 32 words ∷ lines_of behind =
    ap lines_of (text_is script) ∙ line_again words behind (first_words_are bare opening) in
    let is : IsInRange (head_of script) =
    (opening.version_in, opening.frames_in, opening.frames_whole, opening.processors_in, opening.spaces_in) in
    let lawful = daemon_lawful script.version script.processors script.spaces script.daemon script.calls opening.processors_in.1 opening.spaces_in.1
    opening.daemon_in (recursion_from_All _ script.calls has.lines) in
    rw (first, p.2) (opening_by (join_with_byte 32 words) p.0 p.1 (first_short bare opening)
    (ap (line_fault first_forms) (first_words_again bare opening) ∙ first_is_lawful (head_of script) is)
    ∙ subst (λ (l : List (List ℕ)). daemon_refusal l ≡ None) p.2 lawful)
