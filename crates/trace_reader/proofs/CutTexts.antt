-- A trace's text is cut into the lines and words that it was made of, and has no refusal.
use Rattle.std.proofs.Common.{◌≡◌, ◌≢◌, ℕ, ◌+◌, ◌^◌, ◌<◌, ◌≤◌, ◌==◌, if◌then◌else◌, Bool, true, false, eqb, ltb, List, [], ◌∷◌, ◌++◌, length, flat_map, Option, Some, None, decimal, codes, refl, sym, ap, ◌∙◌, append_assoc, arith, lit≤, inl, inr}
use Rattle.std.specs.List.{join_with_byte, All, AllByRecursion, list_all}
use Rattle.std.specs.Str.{bytes_eq}
use Rattle.std.specs.Str.Parse.{AllDigits}
use Rattle.std.proofs.lemmas.Bool.{and_parts, ltb-true, ne_eqb, cases_Bool}
use Rattle.std.proofs.lemmas.List.Concat.{flat_map-cons}
use Rattle.std.proofs.lemmas.List.Elements.{All-from_recursion, All-append, All-cons, All-nil, recursion_from_All}
use Rattle.std.proofs.lemmas.List.Splits.{slice_split_at, slice_split_none}
use Rattle.std.proofs.lemmas.Slice.Eq.{bytes_eq-Decides}
use Rattle.std.proofs.lemmas.Str.Parse.{digit_from_value}
use Rattle.pager_model.specs.Bounds.{most_calls}
use Rattle.pager_model.specs.declared.call.Call.{Call}
use Rattle.pager_model.specs.declared.call.Call.TheVariants.{Map, Grow, Unmap, Protect, Load, Store, Sync, Evict, Discard, Wire, Unwire}
use Rattle.pager_model.specs.declared.call.Line.{Line}
use Rattle.pager_model.specs.declared.region.Kind.{Kind}
use Rattle.pager_model.specs.declared.region.Kind.TheVariants.{Fixed, Growing, Wired}
use Rattle.pager_model.specs.declared.region.Rights.{Rights}
use Rattle.pager_model.specs.declared.region.Rights.TheVariants.{NoAccess, Read, Write}
use Rattle.pager_model.specs.Scripts.{Script}
use Rattle.pager_model.specs.declared.trace.Daemon.{Daemon}
use Rattle.pager_model.specs.TraceText.{kind_word, rights_word, sizes_word, call_words, line_words, line_of_words, call_line, daemon_line, daemon_words, first_words, first_line, text_of, IsCall, IsDaemon, IsLine, HasText}
use Rattle.pager_model.proofs.Texts.{text_is_short, version_low}
use Rattle.trace_lines.specs.declared.line.Head.{Head}
use Rattle.trace_lines.specs.Forms.{call_forms, daemon_form, fits, line_fault}
use Rattle.trace_lines.specs.Heads.{IsInRange}
use Rattle.trace_reader.specs.Refusals.{calls_refusal, first_call, lines_of, refusal_of, second_refusal}
use Rattle.trace_lines.specs.Words.{words_of}
use Rattle.trace_lines.proofs.Forms.{fits_length}
use Rattle.trace_lines.proofs.Lines.{line_is_lawful}
use Rattle.trace_lines.proofs.CutWords.{IsWord, is_word, decimal_is, lacks_all, words_again, line_words_are, call_words_again}
use Rattle.trace_reader.specs.declared.fault.TraceFault.TheVariants.{TooManyCalls}
use Rattle.trace_reader.proofs.Refusals.{goes_on, one_call_more, no_daemon, behind_daemon, behind_first_line}

-- ---- the words of a first line

sizes_are : (one two three : Bool) → IsWord (sizes_word (record { one = one; two = two; three = three }))
sizes_are false false false = is_word (codes "0") refl
sizes_are false false true = is_word (codes "03") refl
sizes_are false true false = is_word (codes "02") refl
sizes_are false true true = is_word (codes "023") refl
sizes_are true false false = is_word (codes "01") refl
sizes_are true false true = is_word (codes "013") refl
sizes_are true true false = is_word (codes "012") refl
sizes_are true true true = is_word (codes "0123") refl

-- a word, where it is named
unnamed_or : (unnamed : Bool) (word : List ℕ) → IsWord word → AllByRecursion IsWord (if unnamed then [] else word ∷ [])
unnamed_or true word is = tt
unnamed_or false word is = (is, tt)

pub first_words_are : (script : Script) → HasText script → AllByRecursion IsWord
    (first_words script.version script.frames script.processors script.spaces script.sizes)
first_words_are script has =
    let version = version_low script.version script.sizes has.version_in in
    let sizes = sizes_are script.sizes.one script.sizes.two script.sizes.three in (
      is_word (codes "trace") refl,
      (
        decimal_is script.version (omega (arith, version)),
        (
          decimal_is script.frames (omega (arith, has.frames_in)),
          (
            decimal_is script.processors (omega (arith, has.processors_in)),
            (decimal_is script.spaces (omega (arith, has.spaces_in)), unnamed_or (script.version == 1) (sizes_word script.sizes) sizes),
          ),
        ),
      ),
    )

-- ---- what was joined is cut again

abbrev IsNoFeed : ℕ → Type 0
IsNoFeed b = eqb b 10 ≡ false

no_feed : (words : List (List ℕ)) → AllByRecursion IsWord words → All IsNoFeed (join_with_byte 32 words)
no_feed [] are = All-nil IsNoFeed
no_feed (word ∷ []) are = lacks_all 10 word (omega arith) are.0
no_feed (word ∷ next ∷ words) are =
    All-append IsNoFeed word (32 ∷ join_with_byte 32 (next ∷ words)) (lacks_all 10 word (omega arith) are.0)
    (All-cons IsNoFeed 32 (join_with_byte 32 (next ∷ words)) refl (no_feed (next ∷ words) are.1))

-- the first line of a text that begins with these words
pub line_again : (words : List (List ℕ)) (rest : List ℕ) → AllByRecursion IsWord words
    → lines_of (line_of_words words ++ rest) ≡ join_with_byte 32 words ∷ lines_of rest
line_again words rest are =
    ap lines_of (append_assoc (join_with_byte 32 words) (10 ∷ []) rest)
    ∙ slice_split_at (λ b. eqb b 10) (join_with_byte 32 words) 10 rest (no_feed words are) refl

-- ---- the lines of calls

abbrev pub end_line : List ℕ
end_line = line_of_words (codes "end" ∷ [])

-- the text of these calls, up to the end
abbrev pub calls_text : List Line → List ℕ
calls_text calls = flat_map call_line calls ++ end_line

pub calls_text-cons : (call : Line) (calls : List Line) → calls_text (call ∷ calls) ≡ call_line call ++ calls_text calls
calls_text-cons call calls =
    ap (λ (x : List ℕ). x ++ end_line) (flat_map-cons call_line call calls)
    ∙ append_assoc (call_line call) (flat_map call_line calls) end_line

pub call_again : (version processors spaces : ℕ) (call : Line) (calls : List Line) → processors ≤ 2 ^ 64 → spaces ≤ 2 ^ 64
    → IsLine version processors spaces call
    → lines_of (calls_text (call ∷ calls)) ≡ join_with_byte 32 (line_words call) ∷ lines_of (calls_text calls)
call_again version processors spaces call calls some few is =
    ap lines_of (calls_text-cons call calls) ∙ line_again (line_words call) (calls_text calls)
    (line_words_are version processors spaces call some few is)

pub three_words : (call : Call) → 3 ≤ length (call_words call)
three_words (Map space page len kind rights) = omega arith
three_words (Grow space page by) = omega arith
three_words (Unmap space page) = omega arith
three_words (Protect space page len rights) = omega arith
three_words (Load space address) = omega arith
three_words (Store space address word) = omega arith
three_words (Sync space page) = omega arith
three_words (Evict space page) = omega arith
three_words (Discard space page len) = omega arith
three_words (Wire space page) = omega arith
three_words (Unwire space page) = omega arith

-- a call has more words than the end
pub call_is_not_end : (version processors spaces : ℕ) (call : Line) → processors ≤ 2 ^ 64 → spaces ≤ 2 ^ 64 → IsLine version processors spaces call
    → bytes_eq (join_with_byte 32 (line_words call)) (codes "end") ≡ false
call_is_not_end version processors spaces call some few is =
    elim (cases_Bool (bytes_eq (join_with_byte 32 (line_words call)) (codes "end"))) [
      | inl same ↦
          let e = (bytes_eq-Decides (join_with_byte 32 (line_words call)) (codes "end")).0 same in
          let words : line_words call ≡ codes "end" ∷ [] = sym (call_words_again version processors spaces call some few is) ∙ ap words_of e in
          absurd (omega (arith, ap length words, three_words call.call))
      | inr other ↦ other
    ]

call_is_lawful : (version processors spaces : ℕ) (call : Line) → processors ≤ 2 ^ 64 → spaces ≤ 2 ^ 64 → IsLine version processors spaces call
    → line_fault (call_forms version processors spaces) (words_of (join_with_byte 32 (line_words call))) ≡ None
call_is_lawful version processors spaces call some few is =
    rw (call_words_again version processors spaces call some few is) (line_is_lawful version processors spaces call some few is)

-- a call before others, and before one call too many
pub before_call : (version processors spaces number before : ℕ) (call : Line) (rest : List ℕ) → processors ≤ 2 ^ 64 → spaces ≤ 2 ^ 64
    → IsLine version processors spaces call → before ≢ most_calls
    → calls_refusal (call_forms version processors spaces) number before (lines_of (call_line call ++ rest))
    ≡ calls_refusal (call_forms version processors spaces) (number + 1) (before + 1) (lines_of rest)
before_call version processors spaces number before call rest some few is less =
    goes_on (call_forms version processors spaces) number before (call_line call ++ rest) (join_with_byte 32 (line_words call)) rest
    (line_again (line_words call) rest (line_words_are version processors spaces call some few is))
    (call_is_not_end version processors spaces call some few is)
    (call_is_lawful version processors spaces call some few is) less

pub call_too_many : (version processors spaces number before : ℕ) (call : Line) (rest : List ℕ) → processors ≤ 2 ^ 64 → spaces ≤ 2 ^ 64
    → IsLine version processors spaces call → before ≡ most_calls
    → calls_refusal (call_forms version processors spaces) number before (lines_of (call_line call ++ rest)) ≡ Some TooManyCalls
call_too_many version processors spaces number before call rest some few is many =
    one_call_more (call_forms version processors spaces) number before (call_line call ++ rest) (join_with_byte 32 (line_words call)) rest
    (line_again (line_words call) rest (line_words_are version processors spaces call some few is))
    (call_is_not_end version processors spaces call some few is)
    (call_is_lawful version processors spaces call some few is) many

calls_are_lawful : (version processors spaces number before : ℕ) (calls : List Line) → processors ≤ 2 ^ 64 → spaces ≤ 2 ^ 64
    → AllByRecursion (IsLine version processors spaces) calls → before + length calls ≤ most_calls
    → calls_refusal (call_forms version processors spaces) number before (lines_of (calls_text calls)) ≡ None
calls_are_lawful version processors spaces number before [] some few are in' = refl
calls_are_lawful version processors spaces number before (call ∷ calls) some few are in' =
    ap (λ (text : List ℕ). calls_refusal (call_forms version processors spaces) number before (lines_of text)) (calls_text-cons call calls)
    ∙ before_call version processors spaces number before call (calls_text calls) some few are.0 (λ e. omega arith)
    ∙ calls_are_lawful version processors spaces (number + 1) (before + 1) calls some few are.1 (omega arith)

-- ---- the second line

pub daemon_words_are : (d : Daemon) → IsDaemon (Some d) → AllByRecursion IsWord (daemon_words d)
daemon_words_are d is =
    (is_word (codes "daemon") refl, (decimal_is d.low (omega (arith, is.0)), (decimal_is d.turns (omega (arith, is.1)), tt)))

-- the lines behind the first
abbrev pub behind_text : Option Daemon → List Line → List ℕ
behind_text daemon calls = daemon_line daemon ++ calls_text calls

pub daemon_again : (d : Daemon) (calls : List Line) → IsDaemon (Some d)
    → lines_of (behind_text (Some d) calls) ≡ join_with_byte 32 (daemon_words d) ∷ lines_of (calls_text calls)
daemon_again d calls is = line_again (daemon_words d) (calls_text calls) (daemon_words_are d is)

pub daemon_words_again : (d : Daemon) → IsDaemon (Some d) → words_of (join_with_byte 32 (daemon_words d)) ≡ daemon_words d
daemon_words_again d is = words_again (codes "daemon") (decimal d.low ∷ decimal d.turns ∷ []) (daemon_words_are d is)

-- a call has more words than a daemon's line
pub call_is_no_daemons : (version processors spaces : ℕ) (call : Line) → processors ≤ 2 ^ 64 → spaces ≤ 2 ^ 64 → IsLine version processors spaces call
    → fits daemon_form (words_of (join_with_byte 32 (line_words call))) ≡ false
call_is_no_daemons version processors spaces call some few is =
    elim (cases_Bool (fits daemon_form (words_of (join_with_byte 32 (line_words call))))) [
      | inl same ↦
          absurd (omega (
            arith,
            fits_length daemon_form (words_of (join_with_byte 32 (line_words call))) same,
            ap length (call_words_again version processors spaces call some few is),
            three_words call.call,
          ))
      | inr other ↦ other
    ]

daemon_is_lawful : (version processors spaces : ℕ) (daemon : Option Daemon) (calls : List Line) → processors ≤ 2 ^ 64 → spaces ≤ 2 ^ 64
    → IsDaemon daemon → AllByRecursion (IsLine version processors spaces) calls
    → second_refusal (call_forms version processors spaces) (lines_of (behind_text daemon calls)) ≡ calls_refusal (call_forms version processors spaces)
    (first_call daemon) 0 (lines_of (calls_text calls))
daemon_is_lawful version processors spaces None [] some few is are = refl
daemon_is_lawful version processors spaces None (call ∷ calls) some few is are =
    no_daemon (call_forms version processors spaces) (calls_text (call ∷ calls)) (join_with_byte 32 (line_words call)) (calls_text calls)
    (call_again version processors spaces call calls some few are.0) (call_is_no_daemons version processors spaces call some few are.0)
daemon_is_lawful version processors spaces (Some d) calls some few is are =
    behind_daemon (call_forms version processors spaces) (behind_text (Some d) calls) (join_with_byte 32 (daemon_words d)) (calls_text calls) d
    (daemon_again d calls is) (daemon_words_again d is) is

-- ---- the whole text

abbrev pub head_of : Script → Head
head_of script = record {
  version = script.version;
  frames = script.frames;
  processors = script.processors;
  spaces = script.spaces;
  sizes = script.sizes;
}

pub text_is : (script : Script) → text_of script ≡ first_line script ++ behind_text script.daemon script.calls
text_is script =
    append_assoc (first_line script ++ daemon_line script.daemon) (flat_map call_line script.calls) end_line
    ∙ append_assoc (first_line script) (daemon_line script.daemon) (calls_text script.calls)

pub first_again : (script : Script) → HasText script
    → lines_of (text_of script) ≡ join_with_byte 32 (first_words script.version script.frames script.processors script.spaces script.sizes) ∷ lines_of
    (behind_text script.daemon script.calls)
first_again script has = ap lines_of (text_is script) ∙ line_again
    (first_words script.version script.frames script.processors script.spaces script.sizes) (behind_text script.daemon script.calls)
    (first_words_are script has)

pub first_words_again : (script : Script) → HasText script
    → words_of (join_with_byte 32
    (first_words script.version script.frames script.processors script.spaces script.sizes)) ≡ first_words script.version script.frames script.processors script.spaces script.sizes
first_words_again script has = words_again (codes "trace")
    (decimal script.version ∷ decimal script.frames ∷ decimal script.processors ∷ decimal script.spaces ∷
    (if script.version == 1 then [] else sizes_word script.sizes ∷ [])) (first_words_are script has)

pub not_refused : (script : Script) → HasText script → refusal_of (text_of script) ≡ None
not_refused script has =
    let is : IsInRange (head_of script) = (has.version_in, has.frames_in, has.frames_whole, has.processors_in, has.spaces_in) in
    let lines = recursion_from_All _ script.calls has.lines in
    let behind = behind_first_line (text_of script)
    (join_with_byte 32 (first_words script.version script.frames script.processors script.spaces script.sizes))
    (behind_text script.daemon script.calls) (head_of script) (text_is_short script has) (first_again script has)
    (first_words_again script has) is in
    let second = daemon_is_lawful script.version script.processors script.spaces script.daemon script.calls (omega (arith, has.processors_in))
    (omega (arith, has.spaces_in)) has.daemon_in lines in
    behind ∙ second ∙ calls_are_lawful script.version script.processors script.spaces (first_call script.daemon) 0 script.calls (omega (arith, has.processors_in))
    (omega (arith, has.spaces_in)) lines (omega (arith, has.few))
