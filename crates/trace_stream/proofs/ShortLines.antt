-- The lines of a stream's text are short.
use Rattle.std.proofs.Common.{ℕ, ◌*◌, ◌^◌, ◌<◌, ◌≤◌, ◌==◌, if◌then◌else◌, Bool, true, false, List, [], ◌∷◌, length, decimal, codes, Some, arith, lit≤, length-append}
use Rattle.std.specs.List.{AllByRecursion, join_with_byte}
use Rattle.std.proofs.lemmas.Fmt.{length-decimal-le}
use Rattle.pager_model.specs.declared.call.Call.{Call}
use Rattle.pager_model.specs.declared.call.Call.TheVariants.{Map, Grow, Unmap, Protect, Load, Store, Sync, Evict, Discard, Wire, Unwire}
use Rattle.pager_model.specs.declared.call.Line.{Line}
use Rattle.pager_model.specs.declared.region.Kind.{Kind}
use Rattle.pager_model.specs.declared.region.Kind.TheVariants.{Fixed, Growing, Wired}
use Rattle.pager_model.specs.declared.region.Rights.{Rights}
use Rattle.pager_model.specs.declared.region.Rights.TheVariants.{NoAccess, Read, Write}
use Rattle.pager_model.specs.declared.trace.Daemon.{Daemon}
use Rattle.pager_model.specs.Scripts.{Script}
use Rattle.pager_model.specs.TraceText.{HasText, IsCall, IsDaemon, IsLine, call_words, daemon_words, first_words, kind_word, line_words, rights_word, sizes_word}
use Rattle.pager_model.proofs.Texts.{version_low}

-- a word has at most twenty bytes, as many as a number below 2^64
abbrev IsShort : List ℕ → Type 0
IsShort word = length word ≤ 20

joined : (words : List (List ℕ)) → AllByRecursion IsShort words → length (join_with_byte 32 words) ≤ 21 * length words
joined [] are = omega arith
joined (word ∷ []) are = omega (arith, are.0)
joined (word ∷ next ∷ words) are =
    omega (arith, are.0, length-append word (32 ∷ join_with_byte 32 (next ∷ words)), joined (next ∷ words) are.1)

number : (n : ℕ) → n < 2 ^ 64 → IsShort (decimal n)
number n few = length-decimal-le 20 n (omega arith) (omega arith) few

kind_is : (kind : Kind) → IsShort (kind_word kind)
kind_is Fixed = lit≤ tt
kind_is Growing = lit≤ tt
kind_is Wired = lit≤ tt

rights_are : (rights : Rights) → IsShort (rights_word rights)
rights_are NoAccess = lit≤ tt
rights_are Read = lit≤ tt
rights_are Write = lit≤ tt

sizes_are : (one two three : Bool) → IsShort (sizes_word (record { one = one; two = two; three = three }))
sizes_are false false false = lit≤ tt
sizes_are false false true = lit≤ tt
sizes_are false true false = lit≤ tt
sizes_are false true true = lit≤ tt
sizes_are true false false = lit≤ tt
sizes_are true false true = lit≤ tt
sizes_are true true false = lit≤ tt
sizes_are true true true = lit≤ tt

-- a call has at most six words, each short
abbrev AreFew : List (List ℕ) → Type 0
AreFew words = (length words ≤ 6) × AllByRecursion IsShort words

call_is : (spaces : ℕ) (call : Call) → spaces ≤ 2 ^ 64 → IsCall spaces call → AreFew (call_words call)
call_is spaces (Map space page len kind rights) few is = (omega arith, (lit≤ tt, (number space (omega arith), (number page (omega arith), (number len (omega arith), (kind_is kind, (rights_are rights, tt)))))))
call_is spaces (Grow space page by) few is = (omega arith, (lit≤ tt, (number space (omega arith), (number page (omega arith), (number by (omega arith), tt)))))
call_is spaces (Unmap space page) few is = (omega arith, (lit≤ tt, (number space (omega arith), (number page (omega arith), tt))))
call_is spaces (Protect space page len rights) few is = (omega arith, (lit≤ tt, (number space (omega arith), (number page (omega arith), (number len (omega arith), (rights_are rights, tt))))))
call_is spaces (Load space address) few is = (omega arith, (lit≤ tt, (number space (omega arith), (number address (omega arith), tt))))
call_is spaces (Store space address word) few is = (omega arith, (lit≤ tt, (number space (omega arith), (number address (omega arith), (number word is.3, tt)))))
call_is spaces (Sync space page) few is = (omega arith, (lit≤ tt, (number space (omega arith), (number page (omega arith), tt))))
call_is spaces (Evict space page) few is = (omega arith, (lit≤ tt, (number space (omega arith), (number page (omega arith), tt))))
call_is spaces (Discard space page len) few is = (omega arith, (lit≤ tt, (number space (omega arith), (number page (omega arith), (number len (omega arith), tt)))))
call_is spaces (Wire space page) few is = (omega arith, (lit≤ tt, (number space (omega arith), (number page (omega arith), tt))))
call_is spaces (Unwire space page) few is = (omega arith, (lit≤ tt, (number space (omega arith), (number page (omega arith), tt))))

pub call_short : (version processors spaces : ℕ) (line : Line) → processors ≤ 2 ^ 64 → spaces ≤ 2 ^ 64 → IsLine version processors spaces line
    → length (join_with_byte 32 (line_words line)) ≤ 4095
call_short version processors spaces line some few is =
    let words = call_is spaces line.call few is.1 in
    omega (arith, words.0, joined (line_words line) (number line.processor (omega (arith, is.0)), words.1))

pub daemon_short : (d : Daemon) → IsDaemon (Some d) → length (join_with_byte 32 (daemon_words d)) ≤ 4095
daemon_short d is =
    omega (arith, joined (daemon_words d) (lit≤ tt, (number d.low (omega (arith, is.0)), (number d.turns (omega (arith, is.1)), tt))))

first_by : (version frames processors spaces : ℕ) (word : List ℕ) → version < 2 ^ 64 → frames < 2 ^ 64 → processors < 2 ^ 64 → spaces < 2 ^ 64
    → IsShort word → (unnamed : Bool) → length (join_with_byte 32 (codes "trace" ∷ decimal version ∷ decimal frames ∷ decimal processors ∷ decimal spaces ∷
    (if unnamed then [] else word ∷ []))) ≤ 4095
first_by version frames processors spaces word v f p s short true =
    omega (
      arith,
      joined (codes "trace" ∷ decimal version ∷ decimal frames ∷ decimal processors ∷ decimal spaces ∷ [])
          (lit≤ tt, (number version v, (number frames f, (number processors p, (number spaces s, tt))))),
    )
first_by version frames processors spaces word v f p s short false =
    omega (
      arith,
      joined (codes "trace" ∷ decimal version ∷ decimal frames ∷ decimal processors ∷ decimal spaces ∷ word ∷ [])
          (lit≤ tt, (number version v, (number frames f, (number processors p, (number spaces s, (short, tt)))))),
    )

pub first_short : (script : Script) → HasText script
    → length (join_with_byte 32 (first_words script.version script.frames script.processors script.spaces script.sizes)) ≤ 4095
first_short script has =
    first_by script.version script.frames script.processors script.spaces (sizes_word script.sizes)
    (let low = version_low script.version script.sizes has.version_in in omega arith) (omega (arith, has.frames_in)) (omega (arith, has.processors_in))
    (omega (arith, has.spaces_in)) (sizes_are script.sizes.one script.sizes.two script.sizes.three) (script.version == 1)
