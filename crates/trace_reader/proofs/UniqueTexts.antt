-- A trace is read back from its text, so that no two have one.
use Rattle.std.proofs.Common.{◌≡◌, ℕ, ◌^◌, ◌<◌, ◌≤◌, Bool, true, false, cond, eqb, List, [], ◌∷◌, get_or, drop, Option, Some, None, decimal, codes, refl, sym, ap, ◌∙◌, arith, inl, inr}
use Rattle.std.specs.List.{join_with_byte, list_any, AllByRecursion}
use Rattle.std.specs.Str.{bytes_eq}
use Rattle.std.specs.Str.Parse.{digits_value}
use Rattle.std.proofs.lemmas.Bool.{eq-eqb, ne_eqb}
use Rattle.std.proofs.lemmas.List.Elements.{recursion_from_All}
use Rattle.pager_model.specs.declared.call.Call.{Call}
use Rattle.pager_model.specs.declared.call.Call.TheVariants.{Map, Grow, Unmap, Protect, Load, Store, Sync, Evict, Discard, Wire, Unwire}
use Rattle.pager_model.specs.declared.call.Line.{Line}
use Rattle.pager_model.specs.declared.region.Kind.{Kind}
use Rattle.pager_model.specs.declared.region.Kind.TheVariants.{Fixed, Growing, Wired}
use Rattle.pager_model.specs.declared.region.Rights.{Rights}
use Rattle.pager_model.specs.declared.region.Rights.TheVariants.{NoAccess, Read, Write}
use Rattle.pager_model.specs.Scripts.{Script}
use Rattle.pager_model.specs.SizeSets.{SizeSet, all_sizes}
use Rattle.pager_model.specs.declared.trace.Daemon.{Daemon}
use Rattle.pager_model.proofs.Texts.{version_low}
use Rattle.pager_model.specs.TraceText.{kind_word, rights_word, sizes_word, call_words, daemon_words, first_words, line_words, text_of, IsCall, IsDaemon, IsLine, IsVersion, HasText}
use Rattle.trace_lines.specs.Forms.{daemon_form, fits}
use Rattle.trace_reader.specs.Refusals.{lines_of}
use Rattle.trace_lines.specs.Words.{words_of}
use Rattle.trace_lines.proofs.CutWords.{call_words_again}
use Rattle.trace_reader.proofs.CutTexts.{behind_text, calls_text, call_again, call_is_no_daemons, call_is_not_end, daemon_again, daemon_words_again, first_again, first_words_again}
use Rattle.trace_lines.proofs.Numbers.{decimal_value}

-- the number at a place, the kind and the rights
abbrev number_back : List (List ℕ) → ℕ → ℕ
number_back words i = digits_value 10 (get_or words i [])

abbrev kind_back : List ℕ → Kind
kind_back word = cond (bytes_eq word (codes "fixed")) Fixed (cond (bytes_eq word (codes "growing")) Growing Wired)

abbrev rights_back : List ℕ → Rights
rights_back word = cond (bytes_eq word (codes "none")) NoAccess (cond (bytes_eq word (codes "read")) Read Write)

kind_again : (kind : Kind) → kind_back (kind_word kind) ≡ kind
kind_again Fixed = refl
kind_again Growing = refl
kind_again Wired = refl

rights_again : (rights : Rights) → rights_back (rights_word rights) ≡ rights
rights_again NoAccess = refl
rights_again Read = refl
rights_again Write = refl

-- the call of this name, with the words of its line
abbrev call_back : List ℕ → List (List ℕ) → Call
call_back name words =
    cond (bytes_eq name (codes "map")) (Map (number_back words 2) (number_back words 3) (number_back words 4)
    (kind_back (get_or words 5 [])) (rights_back (get_or words 6 [])))
    (cond (bytes_eq name (codes "grow")) (Grow (number_back words 2) (number_back words 3) (number_back words 4))
    (cond (bytes_eq name (codes "unmap")) (Unmap (number_back words 2) (number_back words 3))
    (cond (bytes_eq name (codes "protect")) (Protect (number_back words 2) (number_back words 3) (number_back words 4)
    (rights_back (get_or words 5 [])))
    (cond (bytes_eq name (codes "load")) (Load (number_back words 2) (number_back words 3))
    (cond (bytes_eq name (codes "store")) (Store (number_back words 2) (number_back words 3) (number_back words 4))
    (cond (bytes_eq name (codes "sync")) (Sync (number_back words 2) (number_back words 3))
    (cond (bytes_eq name (codes "evict")) (Evict (number_back words 2) (number_back words 3))
    (cond (bytes_eq name (codes "discard")) (Discard (number_back words 2) (number_back words 3) (number_back words 4))
    (cond (bytes_eq name (codes "wire")) (Wire (number_back words 2) (number_back words 3))
    (Unwire (number_back words 2) (number_back words 3)))))))))))

abbrev line_back : List (List ℕ) → Line
line_back words = record { processor = number_back words 0; call = call_back (get_or words 1 []) words }

call_is_back : (spaces processor : ℕ) (call : Call) → spaces ≤ 2 ^ 64 → processor < 2 ^ 64 → IsCall spaces call
    → line_back (decimal processor ∷ call_words call) ≡ record { processor = processor; call = call }
call_is_back spaces processor (Map space page len kind rights) few small is =
    rw (
      decimal_value processor small,
      decimal_value space (omega arith),
      decimal_value page (omega arith),
      decimal_value len (omega arith),
      kind_again kind,
      rights_again rights,
    ) refl
call_is_back spaces processor (Grow space page by) few small is =
    rw (
      decimal_value processor small,
      decimal_value space (omega arith),
      decimal_value page (omega arith),
      decimal_value by (omega arith),
    ) refl
call_is_back spaces processor (Unmap space page) few small is =
    rw (decimal_value processor small, decimal_value space (omega arith), decimal_value page (omega arith)) refl
call_is_back spaces processor (Protect space page len rights) few small is =
    rw (
      decimal_value processor small,
      decimal_value space (omega arith),
      decimal_value page (omega arith),
      decimal_value len (omega arith),
      rights_again rights,
    ) refl
call_is_back spaces processor (Load space address) few small is =
    rw (decimal_value processor small, decimal_value space (omega arith), decimal_value address (omega arith)) refl
call_is_back spaces processor (Store space address word) few small is =
    rw (decimal_value processor small, decimal_value space (omega arith), decimal_value address (omega arith), decimal_value word is.3) refl
call_is_back spaces processor (Sync space page) few small is =
    rw (decimal_value processor small, decimal_value space (omega arith), decimal_value page (omega arith)) refl
call_is_back spaces processor (Evict space page) few small is =
    rw (decimal_value processor small, decimal_value space (omega arith), decimal_value page (omega arith)) refl
call_is_back spaces processor (Discard space page len) few small is =
    rw (
      decimal_value processor small,
      decimal_value space (omega arith),
      decimal_value page (omega arith),
      decimal_value len (omega arith),
    ) refl
call_is_back spaces processor (Wire space page) few small is =
    rw (decimal_value processor small, decimal_value space (omega arith), decimal_value page (omega arith)) refl
call_is_back spaces processor (Unwire space page) few small is =
    rw (decimal_value processor small, decimal_value space (omega arith), decimal_value page (omega arith)) refl

-- the calls of the lines up to the end
abbrev calls_back : List (List ℕ) → List Line
calls_back [] = []
calls_back (line ∷ lines) = cond (bytes_eq line (codes "end")) [] (line_back (words_of line) ∷ calls_back lines)

calls_are_back : (version processors spaces : ℕ) (calls : List Line) → processors ≤ 2 ^ 64 → spaces ≤ 2 ^ 64
    → AllByRecursion (IsLine version processors spaces) calls → calls_back (lines_of (calls_text calls)) ≡ calls
calls_are_back version processors spaces [] some few are = refl
calls_are_back version processors spaces (call ∷ calls) some few are =
    let back : line_back (line_words call) ≡ call = call_is_back spaces call.processor call.call few (omega (arith, are.0)) are.0.1 in
    rw (
      call_again version processors spaces call calls some few are.0,
      call_is_not_end version processors spaces call some few are.0,
      call_words_again version processors spaces call some few are.0,
      back,
      calls_are_back version processors spaces calls some few are.1,
    ) refl

-- the daemon and the calls of the lines behind the first, of which the first has these words
abbrev daemon_by : List (List ℕ) → Option Daemon
daemon_by words = cond (fits daemon_form words) (Some (record { low = number_back words 1; turns = number_back words 2 })) None

abbrev calls_by : List (List ℕ) → List (List ℕ) → List Line
calls_by words lines = calls_back (cond (fits daemon_form words) (drop 1 lines) lines)

abbrev next_words : List (List ℕ) → List (List ℕ)
next_words lines = words_of (get_or lines 0 [])

abbrev daemon_back : List (List ℕ) → Option Daemon
daemon_back lines = daemon_by (next_words lines)

abbrev calls_behind : List (List ℕ) → List Line
calls_behind lines = calls_by (next_words lines) lines

behind_is_back : (version processors spaces : ℕ) (daemon : Option Daemon) (calls : List Line) → processors ≤ 2 ^ 64 → spaces ≤ 2 ^ 64
    → IsDaemon daemon → AllByRecursion (IsLine version processors spaces) calls
    → (daemon_back (lines_of (behind_text daemon calls)) ≡ daemon) × (calls_behind (lines_of (behind_text daemon calls)) ≡ calls)
behind_is_back version processors spaces None [] some few is are = (refl, refl)
behind_is_back version processors spaces None (call ∷ calls) some few is are =
    let again = call_again version processors spaces call calls some few are.0 in
    let other = call_is_no_daemons version processors spaces call some few are.0 in
    let back = calls_are_back version processors spaces (call ∷ calls) some few are in
    (rw (again, other) refl, ap (λ ls. calls_behind ls) again ∙ rw other (ap calls_back (sym again)) ∙ back)
behind_is_back version processors spaces (Some d) calls some few is are =
    let again = daemon_again d calls is in
    let words = ap next_words again ∙ daemon_words_again d is in
    let low = decimal_value d.low (omega (arith, is.0)) in
    let turns = decimal_value d.turns (omega (arith, is.1)) in
    let told : daemon_by (daemon_words d) ≡ Some d = rw (low, turns) refl in (
      ap daemon_by words ∙ told,
      ap (λ (ls : List (List ℕ)). calls_by (next_words (lines_of (behind_text (Some d) calls))) ls) again
          ∙ ap (λ (ws : List (List ℕ)). calls_by ws (join_with_byte 32 (daemon_words d) ∷ lines_of (calls_text calls))) words
          ∙ calls_are_back version processors spaces calls some few are,
    )

-- the page sizes of a word of digits, and those of a first line of this version
abbrev sizes_back : List ℕ → SizeSet
sizes_back word = record { one = list_any (λ b. eqb b 49) word; two = list_any (λ b. eqb b 50) word; three = list_any (λ b. eqb b 51) word }

abbrev sizes_by : ℕ → List (List ℕ) → SizeSet
sizes_by version words = cond (eqb version 1) all_sizes (sizes_back (get_or words 5 []))

sizes_again : (one two three : Bool) → sizes_back (sizes_word (record { one = one; two = two; three = three })) ≡ record {
  one = one;
  two = two;
  three = three;
}
sizes_again false false false = refl
sizes_again false false true = refl
sizes_again false true false = refl
sizes_again false true true = refl
sizes_again true false false = refl
sizes_again true false true = refl
sizes_again true true false = refl
sizes_again true true true = refl

sizes_are_back : (version frames processors spaces : ℕ) (z : SizeSet) → IsVersion version z
    → sizes_by version (first_words version frames processors spaces z) ≡ z
sizes_are_back version frames processors spaces z is =
    elim is [
      | inl one ↦ rw (eq-eqb version 1 one.0) (sym one.1)
      | inr later ↦
          let above : 2 ≤ version = elim later [ inl two ↦ omega (arith, two) | inr three ↦ omega (arith, three) ] in
          rw (ne_eqb version 1 (λ one. omega (arith, above, one))) (sizes_again z.one z.two z.three)
    ]

abbrev script_of : List (List ℕ) → List (List ℕ) → Script
script_of words lines =
    record {
      version = number_back words 1;
      frames = number_back words 2;
      processors = number_back words 3;
      spaces = number_back words 4;
      sizes = sizes_by (number_back words 1) words;
      daemon = daemon_back lines;
      calls = calls_behind lines;
    }

abbrev script_back : List ℕ → Script
script_back text = script_of (words_of (get_or (lines_of text) 0 [])) (drop 1 (lines_of text))

script_is_back : (script : Script) → HasText script → script_back (text_of script) ≡ script
script_is_back script has =
    let version = decimal_value script.version (let small = version_low script.version script.sizes has.version_in in omega (arith, small)) in
    let frames = decimal_value script.frames (omega (arith, has.frames_in)) in
    let processors = decimal_value script.processors (omega (arith, has.processors_in)) in
    let spaces = decimal_value script.spaces (omega (arith, has.spaces_in)) in
    let behind = behind_is_back script.version script.processors script.spaces script.daemon script.calls (omega (arith, has.processors_in))
    (omega (arith, has.spaces_in)) has.daemon_in (recursion_from_All _ script.calls has.lines) in
    let sizes = sizes_are_back script.version script.frames script.processors script.spaces script.sizes has.version_in in
    rw (first_again script has, first_words_again script has, version, frames, processors, spaces, sizes, behind.0, behind.1) refl

pub one_script : (a b : Script) → HasText a → HasText b → text_of a ≡ text_of b → a ≡ b
one_script a b p q same = sym (script_is_back a p) ∙ ap script_back same ∙ script_is_back b q
