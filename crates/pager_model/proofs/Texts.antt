-- A text is short: each of its lines is, and there are at most 262,144 calls.
use Rattle.std.proofs.Common.{ℕ, ◌*◌, ◌^◌, ◌<◌, ◌≤◌, ◌==◌, if◌then◌else◌, List, [], ◌∷◌, ◌++◌, length, flat_map, decimal, codes, Option, Some, None, Bool, true, false, inl, inr, ap, arith, length-append, lit≤}
use Rattle.std.specs.List.{join_with_byte, AllByRecursion}
use Rattle.std.proofs.lemmas.Fmt.{length-decimal-le}
use Rattle.std.proofs.lemmas.List.Concat.{flat_map-cons}
use Rattle.std.proofs.lemmas.List.Elements.{recursion_from_All}
use Rattle.pager_model.specs.declared.call.Call.{Call}
use Rattle.pager_model.specs.declared.call.Call.TheVariants.{Map, Grow, Unmap, Protect, Load, Store, Sync, Evict, Discard, Wire, Unwire}
use Rattle.pager_model.specs.declared.call.Line.{Line}
use Rattle.pager_model.specs.declared.region.Kind.{Kind}
use Rattle.pager_model.specs.declared.region.Kind.TheVariants.{Fixed, Growing, Wired}
use Rattle.pager_model.specs.declared.region.Rights.{Rights}
use Rattle.pager_model.specs.declared.region.Rights.TheVariants.{NoAccess, Read, Write}
use Rattle.pager_model.specs.declared.trace.Daemon.{Daemon}
use Rattle.pager_model.specs.Scripts.{Script}
use Rattle.pager_model.specs.SizeSets.{SizeSet}
use Rattle.pager_model.specs.TraceText.{HasText, IsCall, IsDaemon, IsLine, text_of, first_line, call_line, call_words, daemon_line, line_of_words, kind_word, rights_word, sizes_word, IsVersion}

-- a number below ten million has at most seven digits, and so on
small : (n : ℕ) → n < 10000000 → length (decimal n) ≤ 7
small n h = length-decimal-le 7 n (omega arith) (omega arith) (omega arith)

middle : (n : ℕ) → n < 10000000000 → length (decimal n) ≤ 10
middle n h = length-decimal-le 10 n (omega arith) (omega arith) (omega arith)

large : (n : ℕ) → n < 2 ^ 64 → length (decimal n) ≤ 20
large n h = length-decimal-le 20 n (omega arith) (omega arith) h

kind_is_short : (kind : Kind) → length (kind_word kind) ≤ 7
kind_is_short Fixed = lit≤ tt
kind_is_short Growing = lit≤ tt
kind_is_short Wired = lit≤ tt

rights_are_short : (rights : Rights) → length (rights_word rights) ≤ 5
rights_are_short NoAccess = lit≤ tt
rights_are_short Read = lit≤ tt
rights_are_short Write = lit≤ tt

-- the words of a call behind its processor, with the space before each
call_is_short : (spaces : ℕ) (call : Call) (word : List ℕ) → spaces ≤ 16 → IsCall spaces call → length word ≤ 7
    → length (join_with_byte 32 (word ∷ call_words call)) ≤ 62
call_is_short spaces (Map space page len kind rights) word few is short =
    simp length-append (omega (
      arith,
      small space (omega arith),
      small page (omega arith),
      small len (omega arith),
      kind_is_short kind,
      rights_are_short rights,
    ))
call_is_short spaces (Grow space page by) word few is short =
    simp length-append (omega (arith, small space (omega arith), small page (omega arith), small by (omega arith)))
call_is_short spaces (Unmap space page) word few is short =
    simp length-append (omega (arith, small space (omega arith), small page (omega arith)))
call_is_short spaces (Protect space page len rights) word few is short =
    simp length-append (omega (
      arith,
      small space (omega arith),
      small page (omega arith),
      small len (omega arith),
      rights_are_short rights,
    ))
call_is_short spaces (Load space address) word few is short =
    simp length-append (omega (arith, small space (omega arith), middle address (omega arith)))
call_is_short spaces (Store space address stored) word few is short =
    simp length-append (omega (arith, small space (omega arith), middle address (omega arith), large stored is.3))
call_is_short spaces (Sync space page) word few is short =
    simp length-append (omega (arith, small space (omega arith), small page (omega arith)))
call_is_short spaces (Evict space page) word few is short =
    simp length-append (omega (arith, small space (omega arith), small page (omega arith)))
call_is_short spaces (Discard space page len) word few is short =
    simp length-append (omega (arith, small space (omega arith), small page (omega arith), small len (omega arith)))
call_is_short spaces (Wire space page) word few is short =
    simp length-append (omega (arith, small space (omega arith), small page (omega arith)))
call_is_short spaces (Unwire space page) word few is short =
    simp length-append (omega (arith, small space (omega arith), small page (omega arith)))

line_is_short : (version processors spaces : ℕ) (line : Line) → processors ≤ 16 → spaces ≤ 16 → IsLine version processors spaces line
    → length (call_line line) ≤ 63
line_is_short version processors spaces line some few is =
    let short = call_is_short spaces line.call (decimal line.processor) few is.1 (small line.processor (omega (arith, is.0))) in
    omega (arith, length-append (join_with_byte 32 (decimal line.processor ∷ call_words line.call)) (10 ∷ []))

calls_are_short : (version processors spaces : ℕ) (lines : List Line) → processors ≤ 16 → spaces ≤ 16
    → AllByRecursion (IsLine version processors spaces) lines → length (flat_map call_line lines) ≤ 63 * length lines
calls_are_short version processors spaces [] some few are = omega arith
calls_are_short version processors spaces (line ∷ lines) some few are =
    omega (
      arith,
      ap length (flat_map-cons call_line line lines),
      length-append (call_line line) (flat_map call_line lines),
      line_is_short version processors spaces line some few are.0,
      calls_are_short version processors spaces lines some few are.1,
    )

sizes_are_short : (one two three : Bool) → length (sizes_word (record { one = one; two = two; three = three })) ≤ 4
sizes_are_short false false false = lit≤ tt
sizes_are_short false false true = lit≤ tt
sizes_are_short false true false = lit≤ tt
sizes_are_short false true true = lit≤ tt
sizes_are_short true false false = lit≤ tt
sizes_are_short true false true = lit≤ tt
sizes_are_short true true false = lit≤ tt
sizes_are_short true true true = lit≤ tt

first_words_short : (version frames processors spaces : ℕ) → version < 10000000 → frames < 10000000 → processors < 10000000
    → spaces < 10000000 → (word : List ℕ) → length word ≤ 4
    → (unnamed : Bool) → length
    (line_of_words (codes "trace" ∷ decimal version ∷ decimal frames ∷ decimal processors ∷ decimal spaces ∷
    (if unnamed then [] else word ∷ []))) ≤ 43
first_words_short version frames processors spaces v f p s word short true =
    simp length-append (omega (arith, small version v, small frames f, small processors p, small spaces s))
first_words_short version frames processors spaces v f p s word short false =
    simp length-append (omega (arith, small version v, small frames f, small processors p, small spaces s, short))

-- there are three versions
pub version_low : (version : ℕ) (z : SizeSet) → IsVersion version z → version ≤ 3
version_low version z is =
    elim is [ inl one ↦ omega (arith, one.0) | inr later ↦ elim later [ inl two ↦ omega (arith, two) | inr three ↦ omega (arith, three) ] ]

first_is_short : (script : Script) → HasText script → length (first_line script) ≤ 43
first_is_short script has =
    first_words_short script.version script.frames script.processors script.spaces
    (let low = version_low script.version script.sizes has.version_in in omega arith) (omega (arith, has.frames_in))
    (omega (arith, has.processors_in))
    (omega (arith, has.spaces_in)) (sizes_word script.sizes) (sizes_are_short script.sizes.one script.sizes.two script.sizes.three)
    (script.version == 1)

daemon_is_short : (daemon : Option Daemon) → IsDaemon daemon → length (daemon_line daemon) ≤ 40
daemon_is_short None is = omega arith
daemon_is_short (Some d) is =
    simp length-append (omega (arith, small d.low (omega (arith, is.0)), small d.turns (omega (arith, is.1))))

pub text_is_short : (script : Script) → HasText script → length (text_of script) ≤ 16777216
text_is_short script has =
    let first = first_line script in
    let daemon = daemon_line script.daemon in
    let calls = flat_map call_line script.calls in
    omega (
      arith,
      has.few,
      first_is_short script has,
      daemon_is_short script.daemon has.daemon_in,
      calls_are_short script.version script.processors script.spaces script.calls has.processors_in.1 has.spaces_in.1
          (recursion_from_All _ script.calls has.lines),
      length-append (first ++ daemon ++ calls) (line_of_words (codes "end" ∷ [])),
      length-append (first ++ daemon) calls,
      length-append first daemon,
    )
