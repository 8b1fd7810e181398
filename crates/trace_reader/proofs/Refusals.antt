-- The refusal of a text, line by line.
use Rattle.std.proofs.Common.{◌≡◌, ◌≢◌, ℕ, ◌+◌, ◌<◌, ◌≤◌, true, false, List, [], ◌∷◌, ◌++◌, length, Option, Some, None, codes, decimal, refl, sym, ap, ◌∙◌, append_assoc, flat_map, arith}
use Rattle.std.specs.List.{join_with_byte, All}
use Rattle.std.specs.Str.Parse.{digits_value}
use Rattle.std.specs.Str.{bytes_eq}
use Rattle.std.proofs.lemmas.Bool.{ne_eqb, eq-eqb, lt-ltb, le-ltb}
use Rattle.std.proofs.lemmas.List.Splits.{join_with_byte-slice_split}
use Rattle.std.proofs.lemmas.Grind.{flat_map-append}
use Rattle.std.proofs.lemmas.List.{append-nil}
use Rattle.std.proofs.lemmas.List.Concat.{flat_map-cons}
use Rattle.pager_model.specs.Bounds.{most_calls}
use Rattle.pager_model.specs.declared.call.Line.{Line as Call}
use Rattle.pager_model.specs.declared.trace.Daemon.{Daemon}
use Rattle.pager_model.proofs.Texts.{version_low}
use Rattle.pager_model.specs.TraceText.{call_line, daemon_line, daemon_words, line_words, line_of_words, first_words, IsDaemon, IsLine, IsTextOf}
use Rattle.trace_lines.specs.declared.cause.LineCause.{LineCause}
use Rattle.trace_lines.specs.declared.cause.LineCause.TheVariants as causes
use Rattle.trace_reader.specs.declared.fault.TraceFault.TheVariants.{TooLong, Line, NoEnd, TooManyCalls}
use Rattle.trace_lines.specs.Forms.{Place, fits, leftmost, line_fault, first_forms, daemon_form, call_forms}
use Rattle.trace_lines.specs.declared.line.Head.{Head}
use Rattle.trace_lines.specs.Heads.{IsInRange}
use Rattle.trace_lines.proofs.Lines.{daemon_is_lawful, first_is_lawful}
use Rattle.trace_lines.proofs.Numbers.{decimal_value}
use Rattle.trace_reader.specs.Refusals.{lines_of, end_refusal, calls_refusal, second_refusal, forms_behind, refusal_of_lines, refusal_of}
use Rattle.trace_lines.specs.Words.{words_of}
use Rattle.trace_lines.proofs.Splits.{some_piece}

pub faulty_line : (forms : List (List Place)) (number calls : ℕ) (rest line after : List ℕ) (cause : LineCause)
    → lines_of rest ≡ line ∷ lines_of after → bytes_eq line (codes "end") ≡ false → line_fault forms (words_of line) ≡ Some cause
    → calls_refusal forms number calls (lines_of rest) ≡ Some (Line number cause)
faulty_line forms number calls rest line after cause first other fault = let p = some_piece 10 after in rw (first, p.2, other, fault) refl

pub one_call_more : (forms : List (List Place)) (number calls : ℕ) (rest line after : List ℕ) → lines_of rest ≡ line ∷ lines_of after
    → bytes_eq line (codes "end") ≡ false → line_fault forms (words_of line) ≡ None → calls ≡ most_calls
    → calls_refusal forms number calls (lines_of rest) ≡ Some TooManyCalls
one_call_more forms number calls rest line after first other lawful many = let p = some_piece 10 after in
    rw (first, p.2, other, lawful, eq-eqb calls most_calls many) refl

pub goes_on : (forms : List (List Place)) (number calls : ℕ) (rest line after : List ℕ) → lines_of rest ≡ line ∷ lines_of after
    → bytes_eq line (codes "end") ≡ false → line_fault forms (words_of line) ≡ None → calls ≢ most_calls
    → calls_refusal forms number calls (lines_of rest) ≡ calls_refusal forms (number + 1) (calls + 1) (lines_of after)
goes_on forms number calls rest line after first other lawful few = let p = some_piece 10 after in
    rw (first, p.2, other, lawful, ne_eqb calls most_calls few) refl

-- behind the end something stands
pub something : (number : ℕ) (after first : List ℕ) (others : List (List ℕ)) → lines_of after ≡ first ∷ others → after ≢ []
    → end_refusal number (first ∷ others) ≡ Some (Line (number + 1) causes.After)
something number after [] [] e some = absurd (some (sym (join_with_byte-slice_split 10 after) ∙ ap (join_with_byte 10) e))
something number after [] (line ∷ others) e some = refl
something number after (b ∷ first) [] e some = refl
something number after (b ∷ first) (line ∷ others) e some = refl

pub past_the_end : (forms : List (List Place)) (number calls : ℕ) (rest line after : List ℕ) → lines_of rest ≡ line ∷ lines_of after
    → bytes_eq line (codes "end") ≡ true → after ≢ []
    → calls_refusal forms number calls (lines_of rest) ≡ Some (Line (number + 1) causes.After)
past_the_end forms number calls rest line after first same some =
    let p = some_piece 10 after in
    rw (first, p.2, same) (something number after p.0 p.1 p.2 some)

pub no_daemon : (forms : List (List Place)) (rest line after : List ℕ) → lines_of rest ≡ line ∷ lines_of after
    → fits daemon_form (words_of line) ≡ false → second_refusal forms (lines_of rest) ≡ calls_refusal forms 2 0 (lines_of rest)
no_daemon forms rest line after first other = let p = some_piece 10 after in rw (first, p.2, other) refl

pub faulty_daemon : (forms : List (List Place)) (rest line after low turns : List ℕ) (cause : LineCause)
    → lines_of rest ≡ line ∷ lines_of after → words_of line ≡ codes "daemon" ∷ low ∷ turns ∷ []
    → leftmost daemon_form (codes "daemon" ∷ low ∷ turns ∷ []) ≡ Some cause → second_refusal forms (lines_of rest) ≡ Some (Line 2 cause)
faulty_daemon forms rest line after low turns cause first words fault = let p = some_piece 10 after in rw (first, p.2, words, fault) refl

pub behind_daemon : (forms : List (List Place)) (rest line after : List ℕ) (d : Daemon) → lines_of rest ≡ line ∷ lines_of after
    → words_of line ≡ daemon_words d → IsDaemon (Some d) → second_refusal forms (lines_of rest) ≡ calls_refusal forms 3 0 (lines_of after)
behind_daemon forms rest line after d first words is = let p = some_piece 10 after in rw (first, p.2, words, daemon_is_lawful d is) refl

-- a line of these words, with its line feed
pub line_is : (text line rest : List ℕ) (words : List (List ℕ)) → text ≡ line ++ 10 ∷ rest → words_of line ≡ words
    → text ≡ line_of_words words ++ rest
line_is text line rest words cut are =
    let whole : line ≡ join_with_byte 32 words = sym (join_with_byte-slice_split 32 line) ∙ ap (join_with_byte 32) are in
    cut ∙ ap (λ (x : List ℕ). x ++ 10 ∷ rest) whole ∙ sym (append_assoc (join_with_byte 32 words) (10 ∷ []) rest)

-- the lines so far, and one more
pub one_more_line : (text rest after : List ℕ) (calls : List Call) (call : Call) → text ≡ flat_map call_line calls ++ rest
    → rest ≡ call_line call ++ after → text ≡ flat_map call_line (calls ++ call ∷ []) ++ after
one_more_line text rest after calls call so_far next =
    let front : flat_map call_line (calls ++ call ∷ []) ≡ flat_map call_line calls ++ call_line call =
    flat_map-append call_line calls (call ∷ []) ∙ ap (λ (x : List ℕ). flat_map call_line calls ++ x)
    (flat_map-cons call_line call [] ∙ append-nil (call_line call)) in
    so_far ∙ ap (λ (x : List ℕ). flat_map call_line calls ++ x) next ∙ sym (append_assoc (flat_map call_line calls) (call_line call) after)
    ∙ ap (λ (x : List ℕ). x ++ after) (sym front)

-- ---- the whole text

pub too_long : (text : List ℕ) → 16777216 < length text → refusal_of text ≡ Some TooLong
unfolding refusal_of
too_long text more = rw (lt-ltb 16777216 (length text) more) refl

pub short_enough : (text : List ℕ) → length text ≤ 16777216 → refusal_of text ≡ refusal_of_lines (lines_of text)
unfolding refusal_of
short_enough text few = rw (le-ltb 16777216 (length text) few) refl

pub no_first_line : (text : List ℕ) → length text ≤ 16777216 → lines_of text ≡ text ∷ [] → refusal_of text ≡ Some NoEnd
no_first_line text few last = short_enough text few ∙ ap refusal_of_lines last

pub faulty_first_line : (text line rest : List ℕ) (cause : LineCause) → length text ≤ 16777216 → lines_of text ≡ line ∷ lines_of rest
    → line_fault first_forms (words_of line) ≡ Some cause → refusal_of text ≡ Some (Line 1 cause)
faulty_first_line text line rest cause few first fault = let p = some_piece 10 rest in rw (short_enough text few, first, p.2, fault) refl

pub forms_again : (head : Head) → IsInRange head
    → forms_behind (first_words head.version head.frames head.processors head.spaces head.sizes) ≡ call_forms head.version head.processors head.spaces
forms_again head is =
    let processors : digits_value 10 (decimal head.processors) ≡ head.processors = decimal_value head.processors (omega (arith, is.3)) in
    let spaces : digits_value 10 (decimal head.spaces) ≡ head.spaces = decimal_value head.spaces (omega (arith, is.4)) in
    let version : digits_value 10 (decimal head.version) ≡ head.version = decimal_value head.version
    (let low = version_low head.version head.sizes is.0 in omega (arith, low)) in
    rw (version, processors, spaces) refl

pub behind_first_line : (text line rest : List ℕ) (head : Head) → length text ≤ 16777216 → lines_of text ≡ line ∷ lines_of rest
    → words_of line ≡ first_words head.version head.frames head.processors head.spaces head.sizes → IsInRange head
    → refusal_of text ≡ second_refusal (call_forms head.version head.processors head.spaces) (lines_of rest)
behind_first_line text line rest head few first words is =
    let p = some_piece 10 rest in
    rw (short_enough text few, first, p.2, words, first_is_lawful head is, forms_again head is) refl

-- the trace of what was read
pub is_text : (text line behind rest : List ℕ) (head : Head) (daemon : Option Daemon) (calls : List Call) → text ≡ line ++ 10 ∷ behind
    → words_of line ≡ first_words head.version head.frames head.processors head.spaces head.sizes → IsInRange head
    → behind ≡ daemon_line daemon ++ rest → IsDaemon daemon → All (IsLine head.version head.processors head.spaces) calls → length calls ≤ most_calls
    → rest ≡ flat_map call_line calls ++ line_of_words (codes "end" ∷ [])
    → IsTextOf text (record {
      version = head.version;
      frames = head.frames;
      processors = head.processors;
      spaces = head.spaces;
      sizes = head.sizes;
      daemon = daemon;
      calls = calls;
    })
is_text text line behind rest head daemon calls cut words is second told are few lines =
    let first : List ℕ = line_of_words (first_words head.version head.frames head.processors head.spaces head.sizes) in
    let front : text ≡ first ++ behind = line_is text line behind
    (first_words head.version head.frames head.processors head.spaces head.sizes) cut words in
    let end : List ℕ = line_of_words (codes "end" ∷ []) in
    let all : text ≡ ((first ++ daemon_line daemon) ++ flat_map call_line calls) ++ end =
    front ∙ ap (λ (x : List ℕ). first ++ x) (second ∙ ap (λ (x : List ℕ). daemon_line daemon ++ x) lines)
    ∙ sym (append_assoc first (daemon_line daemon) (flat_map call_line calls ++ end))
    ∙ sym (append_assoc (first ++ daemon_line daemon) (flat_map call_line calls) end) in (
      record {
        version_in = is.0;
        frames_in = is.1;
        frames_whole = is.2;
        processors_in = is.3;
        spaces_in = is.4;
        daemon_in = told;
        lines = are;
        few = few;
      },
      all,
    )
