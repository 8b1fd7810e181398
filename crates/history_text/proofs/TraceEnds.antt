-- Where a trace's text stands before other bytes, its line `end` is the first one.
use Rattle.std.proofs.Common.{◌≡◌, ℕ, ◌+◌, ◌^◌, ◌≤◌, false, List, [], ◌∷◌, ◌++◌, length, Option, Some, None, codes, decimal, refl, sym, ap, ◌∙◌, append_assoc, length-append, ◌==◌, if◌then◌else◌, arith, inl, inr}
use Rattle.std.specs.List.{join_with_byte, AllByRecursion}
use Rattle.std.specs.Option.{option_map}
use Rattle.std.specs.Str.{bytes_eq}
use Rattle.std.proofs.lemmas.Bool.{cases_Bool}
use Rattle.std.proofs.lemmas.List.Elements.{recursion_from_All}
use Rattle.std.proofs.lemmas.Slice.Eq.{bytes_eq-Decides}
use Rattle.pager_model.specs.declared.call.Line.{Line}
use Rattle.pager_model.specs.declared.trace.Daemon.{Daemon}
use Rattle.pager_model.specs.Scripts.{Script}
use Rattle.pager_model.specs.TraceText.{HasText, IsDaemon, IsLine, call_line, daemon_words, first_words, line_of_words, line_words, sizes_word, text_of}
use Rattle.trace_lines.specs.Words.{words_of}
use Rattle.trace_reader.specs.Refusals.{lines_of}
use Rattle.trace_lines.proofs.CutWords.{IsWord, line_words_are, words_again}
use Rattle.trace_reader.proofs.CutTexts.{behind_text, calls_text, calls_text-cons, call_is_not_end, daemon_words_are, first_words_are, line_again, text_is}
use Rattle.history_text.specs.Refusals.{end_in}
use Rattle.history_text.proofs.ReadLines.{end_here, end_later}

-- two words at least aren't the end
not_end : (word next : List ℕ) (words : List (List ℕ)) → AllByRecursion IsWord (word ∷ next ∷ words)
    → bytes_eq (join_with_byte 32 (word ∷ next ∷ words)) (codes "end") ≡ false
not_end word next words are =
    elim (cases_Bool (bytes_eq (join_with_byte 32 (word ∷ next ∷ words)) (codes "end"))) [
      | inl same ↦
          let is = (bytes_eq-Decides (join_with_byte 32 (word ∷ next ∷ words)) (codes "end")).0 same in
          let alone : word ∷ next ∷ words ≡ codes "end" ∷ [] = sym (words_again word (next ∷ words) are) ∙ ap words_of is in
          absurd (omega (arith, ap length alone))
      | inr other ↦ other
    ]

-- a line of these words, which isn't the end, is passed over
passed : (words : List (List ℕ)) (rest : List ℕ) (k : ℕ) → AllByRecursion IsWord words
    → bytes_eq (join_with_byte 32 words) (codes "end") ≡ false → end_in (lines_of rest) ≡ Some k
    → end_in (lines_of (line_of_words words ++ rest)) ≡ Some (length (line_of_words words) + k)
passed words rest k are other found =
    let long = length-append (join_with_byte 32 words) (10 ∷ []) in
    end_later (line_of_words words ++ rest) (join_with_byte 32 words) rest (line_again words rest are) other
    ∙ ap (option_map (λ n. length (join_with_byte 32 words) + 1 + n)) found
    ∙ ap Some (omega (arith, long))

-- the lines of calls, up to the end
calls_end : (version processors spaces : ℕ) (calls : List Line) (more : List ℕ) → processors ≤ 2 ^ 64 → spaces ≤ 2 ^ 64
    → AllByRecursion (IsLine version processors spaces) calls
    → end_in (lines_of (calls_text calls ++ more)) ≡ Some (length (calls_text calls))
calls_end version processors spaces [] more some few are = end_here (codes "end\n" ++ more) (codes "end") more refl refl
calls_end version processors spaces (call ∷ calls) more some few are =
    let whole = calls_text-cons call calls in
    let long = ap length whole ∙ length-append (call_line call) (calls_text calls) in
    ap (λ (x : List ℕ). end_in (lines_of (x ++ more))) whole
    ∙ ap (λ (x : List ℕ). end_in (lines_of x)) (append_assoc (call_line call) (calls_text calls) more)
    ∙ passed (line_words call) (calls_text calls ++ more) (length (calls_text calls))
    (line_words_are version processors spaces call some few are.0) (call_is_not_end version processors spaces call some few are.0)
    (calls_end version processors spaces calls more some few are.1)
    ∙ ap Some (sym long)

-- the lines behind the first
behind_end : (version processors spaces : ℕ) (daemon : Option Daemon) (calls : List Line) (more : List ℕ) → processors ≤ 2 ^ 64 → spaces ≤ 2 ^ 64
    → IsDaemon daemon → AllByRecursion (IsLine version processors spaces) calls
    → end_in (lines_of (behind_text daemon calls ++ more)) ≡ Some (length (behind_text daemon calls))
behind_end version processors spaces None calls more some few is are = calls_end version processors spaces calls more some few are
behind_end version processors spaces (Some d) calls more some few is are =
    let long = length-append (line_of_words (daemon_words d)) (calls_text calls) in
    ap (λ (x : List ℕ). end_in (lines_of x)) (append_assoc (line_of_words (daemon_words d)) (calls_text calls) more)
    ∙ passed (daemon_words d) (calls_text calls ++ more) (length (calls_text calls)) (daemon_words_are d is)
    (not_end (codes "daemon") (decimal d.low) (decimal d.turns ∷ []) (daemon_words_are d is))
    (calls_end version processors spaces calls more some few are)
    ∙ ap Some (sym long)

pub trace_ends : (script : Script) (more : List ℕ) → HasText script → end_in (lines_of (text_of script ++ more)) ≡ Some (length (text_of script))
trace_ends script more has =
    let words = first_words script.version script.frames script.processors script.spaces script.sizes in
    let behind = behind_text script.daemon script.calls in
    let whole = text_is script in
    let long = ap length whole ∙ length-append (line_of_words words) behind in
    ap (λ (x : List ℕ). end_in (lines_of (x ++ more))) whole
    ∙ ap (λ (x : List ℕ). end_in (lines_of x)) (append_assoc (line_of_words words) behind more)
    ∙ passed words (behind ++ more) (length behind) (first_words_are script has)
    (not_end (codes "trace") (decimal script.version) (decimal script.frames ∷ decimal script.processors ∷ decimal script.spaces ∷
    (if script.version == 1 then [] else sizes_word script.sizes ∷ [])) (first_words_are script has))
    (behind_end script.version script.processors script.spaces script.daemon script.calls more (omega (arith, has.processors_in))
    (omega (arith, has.spaces_in)) has.daemon_in (recursion_from_All _ script.calls has.lines))
    ∙ ap Some (sym long)
