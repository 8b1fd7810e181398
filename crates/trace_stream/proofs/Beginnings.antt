-- The lines before the calls, and why they are refused.
use Rattle.std.proofs.Common.{◌≡◌, ℕ, ◌<◌, ◌≤◌, false, List, [], ◌∷◌, ◌++◌, length, Option, Some, None, IfSome, Result, Err, codes, inr, subst, sym, ap, refl, ◌∙◌, append_assoc, arith}
use Rattle.std.proofs.lemmas.Option.{IfSome_then}
use Rattle.line_source.specs.Lines.{IsNext, seen}
use Rattle.line_source.specs.declared.Next.{Next}
use Rattle.line_source.specs.declared.Next.TheVariants as next
use Rattle.pager_model.specs.declared.call.Line.{Line as Call}
use Rattle.pager_model.specs.declared.trace.Daemon.{Daemon}
use Rattle.pager_model.specs.Scripts.{Script}
use Rattle.pager_model.specs.TraceText.{IsDaemon, daemon_line, daemon_words, first_words, line_of_words}
use Rattle.trace_lines.specs.declared.cause.LineCause.{LineCause}
use Rattle.trace_lines.specs.declared.line.Head.{Head}
use Rattle.trace_lines.specs.Forms.{daemon_form, first_forms, fits, leftmost, line_fault}
use Rattle.trace_lines.specs.Heads.{IsInRange}
use Rattle.trace_lines.specs.Words.{words_of}
use Rattle.trace_lines.proofs.Lines.{daemon_is_lawful, first_is_lawful}
use Rattle.trace_lines.proofs.Splits.{some_piece}
use Rattle.trace_reader.specs.declared.fault.TraceFault.{TraceFault}
use Rattle.trace_reader.specs.declared.fault.TraceFault.TheVariants.{Line, LongLine}
use Rattle.trace_reader.specs.Refusals.{IsCause, lines_of}
use Rattle.trace_reader.proofs.Refusals.{line_is}
use Rattle.trace_stream.specs.Streams.{IsPart, IsUnopened, OpensBehind, OpensWith, daemon_refusal, missing, opening_refusal, opening_refusal_of}
use Rattle.trace_stream.proofs.NextLines.{AreAhead, IsCut, all_read, are_ahead, cause_as, long_is, rest_alone, unless_long-any, unless_long-long, unless_long-short}

-- where none was read, all are to come
pub from_start : (P : List ℕ → Type 0) (left : Option (List ℕ)) (ahead : List ℕ) → ahead ≡ [] → IfSome (seen ahead left) P → IfSome left P
from_start P None ahead none is = tt
from_start P (Some bytes) ahead none is = subst (λ (l : List ℕ). P (l ++ bytes)) none is

-- ---- the second line

long_by : (first : List ℕ) (others : List (List ℕ)) → 4095 < length first → daemon_refusal (first ∷ others) ≡ Some (LongLine 2)
long_by first [] long = unless_long-long 2 first None long
long_by first (next ∷ others) long = unless_long-long 2 first _ long

pub daemon_long : (left left' : Option (List ℕ)) (first ahead : List ℕ) (n : Next) → IfSome left (λ _. seen ahead left' ≡ seen first left)
    → IsNext n ahead left left' → n ≡ next.Long → IfSome (seen first left) (λ bytes. daemon_refusal (lines_of bytes) ≡ Some (LongLine 2))
daemon_long left left' first ahead n same is long =
    let at = subst (λ (m : Next). IsNext m ahead left left') long is in
    IfSome_then (seen first left) (are_ahead left left' first ahead same) (λ bytes are.
    let p = long_is 2 ahead left' bytes at are in rw p.2 (long_by p.0 p.1 p.3))

pub daemon_rest : (k : ℕ) (left left' : Option (List ℕ)) (first ahead : List ℕ) (n : Next) → IfSome left (λ _. seen ahead left' ≡ seen first left)
    → IsNext n ahead left left' → n ≡ next.Rest k → IfSome (seen first left) (λ bytes. OpensBehind bytes None (seen ahead left'))
daemon_rest k None left' first ahead n same is rest = tt
daemon_rest k (Some bytes) left' first ahead n same is rest =
    let at = subst (λ (m : Next). IsNext m ahead (Some bytes) left') rest is in
    let all : first ++ bytes ≡ ahead = all_read ahead (first ++ bytes) left' at.3 (are_ahead (Some bytes) left' first ahead same) in
    let lines : lines_of (first ++ bytes) ≡ ahead ∷ [] = ap lines_of all ∙ rest_alone ahead at.2 in
    (first ++ bytes, refl, rw lines refl, rw lines (unless_long-short 2 ahead None (omega (arith, at.0, at.1))), same)

no_daemon_at : (line : List ℕ) (then : Option (List ℕ)) (bytes : List ℕ) → length line ≤ 4095 → fits daemon_form (words_of line) ≡ false
    → IsCut line then bytes → seen [] (Some bytes) ≡ seen [] (Some bytes) → (s : Option (List ℕ)) → s ≡ Some bytes → OpensBehind bytes None s
no_daemon_at line then bytes short other cut _ s is =
    let p = some_piece 10 cut.rest in
    (bytes, refl, rw (cut.first, p.2, other) refl, rw (cut.first, p.2) (unless_long-short 2 line _ short ∙ rw other refl), is)

pub no_daemon : (left left' then : Option (List ℕ)) (first ahead line : List ℕ) → length line ≤ 4095 → fits daemon_form (words_of line) ≡ false
    → IfSome left (λ _. seen ahead left' ≡ seen first left) → IfSome (seen first left) (IsCut line then)
    → IfSome (seen first left) (λ bytes. OpensBehind bytes None (seen ahead left'))
no_daemon None left' then first ahead line short other same cut = tt
no_daemon (Some bytes) left' then first ahead line short other same cut =
    no_daemon_at line then (first ++ bytes) short other cut refl (seen ahead left') same

pub bad_daemon : (before then : Option (List ℕ)) (line low turns : List ℕ) (cause : LineCause) → length line ≤ 4095
    → words_of line ≡ codes "daemon" ∷ low ∷ turns ∷ [] → leftmost daemon_form (codes "daemon" ∷ low ∷ turns ∷ []) ≡ Some cause
    → IfSome before (IsCut line then) → IfSome before (λ bytes. daemon_refusal (lines_of bytes) ≡ Some (Line 2 cause))
bad_daemon before then line low turns cause short words fault cut = IfSome_then before cut (λ bytes at.
    let p = some_piece 10 at.rest in
    rw (at.first, p.2) (unless_long-short 2 line _ short ∙ rw (words, fault) refl))

pub some_daemon : (before then : Option (List ℕ)) (line : List ℕ) (d : Daemon) → length line ≤ 4095 → words_of line ≡ daemon_words d
    → IsDaemon (Some d) → IfSome before (IsCut line then) → IfSome before (λ bytes. OpensBehind bytes (Some d) then)
some_daemon before then line d short words is cut = IfSome_then before cut (λ bytes at.
    let p = some_piece 10 at.rest in (
      at.rest,
      line_is bytes line at.rest (daemon_words d) at.parts words,
      tt,
      rw (at.first, p.2) (unless_long-short 2 line _ short ∙ rw (words, daemon_is_lawful d is) refl),
      at.to_come,
    ))

-- ---- the first line

missing_first : (lines : List (List ℕ)) (fault : TraceFault) → missing 1 lines ≡ Some fault → opening_refusal_of lines ≡ Some fault
missing_first [] fault is = is
missing_first (rest ∷ []) fault is = is
missing_first (line ∷ next ∷ lines) fault is = unless_long-any 1 line _ fault is

pub no_first : (before : Option (List ℕ)) (fault : TraceFault) → IfSome before (λ bytes. IsCause (missing 1 (lines_of bytes)) fault)
    → IfSome before (λ bytes. IsCause (opening_refusal bytes) fault)
unfolding opening_refusal
no_first before fault refused = IfSome_then before refused (λ bytes.
    cause_as (missing 1 (lines_of bytes)) (opening_refusal_of (lines_of bytes)) fault (missing_first (lines_of bytes) fault))

bad_at : (line : List ℕ) (then : Option (List ℕ)) (bytes : List ℕ) (cause : LineCause) → length line ≤ 4095
    → line_fault first_forms (words_of line) ≡ Some cause → IsCut line then bytes → opening_refusal bytes ≡ Some (Line 1 cause)
unfolding opening_refusal
bad_at line then bytes cause short fault cut =
    let p = some_piece 10 cut.rest in
    rw (cut.first, p.2) (unless_long-short 1 line _ short ∙ rw fault refl)

pub bad_first : (before then : Option (List ℕ)) (line : List ℕ) (cause : LineCause) → length line ≤ 4095
    → line_fault first_forms (words_of line) ≡ Some cause → IfSome before (IsCut line then)
    → IfSome before (λ bytes. opening_refusal bytes ≡ Some (Line 1 cause))
bad_first before then line cause short fault cut = IfSome_then before cut (λ bytes. bad_at line then bytes cause short fault)

behind_at : (line : List ℕ) (then : Option (List ℕ)) (bytes : List ℕ) → length line ≤ 4095 → line_fault first_forms (words_of line) ≡ None
    → (cut : IsCut line then bytes) → opening_refusal bytes ≡ daemon_refusal (lines_of cut.rest)
unfolding opening_refusal
behind_at line then bytes short lawful cut =
    let p = some_piece 10 cut.rest in
    rw (cut.first, p.2) (unless_long-short 1 line _ short ∙ rw lawful refl)

pub behind_first : (before then : Option (List ℕ)) (line : List ℕ) (fault : TraceFault) → length line ≤ 4095
    → line_fault first_forms (words_of line) ≡ None → IfSome before (IsCut line then)
    → IfSome then (λ bytes. IsCause (daemon_refusal (lines_of bytes)) fault) → IfSome before (λ bytes. IsCause (opening_refusal bytes) fault)
behind_first before then line fault short lawful cut refused = IfSome_then before cut (λ bytes at.
    let cause : IsCause (daemon_refusal (lines_of at.rest)) fault =
    subst (λ (o : Option (List ℕ)). IfSome o (λ bytes. IsCause (daemon_refusal (lines_of bytes)) fault)) at.to_come refused in
    subst (λ (r : Option TraceFault). IsCause r fault) (sym (behind_at line then bytes short lawful at)) cause)

-- what was read as a first line has no fault
pub lawful_first : (head : Head) (line : List ℕ) → IsInRange head
    → words_of line ≡ first_words head.version head.frames head.processors head.spaces head.sizes → line_fault first_forms (words_of line) ≡ None
lawful_first head line is words = rw words (first_is_lawful head is)

-- the script of what was read
pub opens_with : (before then after : Option (List ℕ)) (line : List ℕ) (head : Head) (daemon : Option Daemon) (calls : List Call) (script : Script)
    → length line ≤ 4095
    → IsInRange head → words_of line ≡ first_words head.version head.frames head.processors head.spaces head.sizes
    → script ≡ record {
      version = head.version;
      frames = head.frames;
      processors = head.processors;
      spaces = head.spaces;
      sizes = head.sizes;
      daemon = daemon;
      calls = calls;
    } → calls ≡ [] → IfSome before (IsCut line then) → IfSome then (λ bytes. OpensBehind bytes daemon after) → IfSome before (λ bytes. OpensWith bytes script after)
opens_with before then after line head daemon calls script short is words made none cut behind =
    subst (λ (p : Script). IfSome before (λ bytes. OpensWith bytes p after)) (sym made) (IfSome_then before cut (λ bytes at.
    let next : OpensBehind at.rest daemon after =
    subst (λ (o : Option (List ℕ)). IfSome o (λ bytes. OpensBehind bytes daemon after)) at.to_come behind in
    let text : List ℕ = line_of_words (first_words head.version head.frames head.processors head.spaces head.sizes) in
    let first : bytes ≡ text ++ at.rest =
    line_is bytes line at.rest (first_words head.version head.frames head.processors head.spaces head.sizes) at.parts words in (
      next.0,
      record {
        split = first ∙ ap (λ (l : List ℕ). text ++ l) next.1 ∙ sym (append_assoc text (daemon_line daemon) next.0);
        all = next.2;
        not_refused = behind_at line then bytes short (lawful_first head line is words) at ∙ next.3;
      },
      next.4,
    )))

-- ---- a read that failed

pub same_fault : {T : Type 0} (r : Result T TraceFault) (told given fault : TraceFault) → r ≡ Err told → told ≡ given → r ≡ Err fault → given ≡ fault
same_fault r told given fault is by also = cc

still_ahead : (left left' : Option (List ℕ)) (behind now rest : List ℕ) → IfSome left (λ _. seen now left' ≡ seen behind left)
    → seen behind left ≡ Some rest → AreAhead now left' rest
still_ahead None left' behind now rest same is = cc
still_ahead (Some bytes) None behind now rest same is = cc
still_ahead (Some bytes) (Some more) behind now rest same is = let all : rest ≡ now ++ more = cc in (more, refl, all)

pub unopened_second : (before left left' : Option (List ℕ)) (behind now line : List ℕ) → IsPart line → line_fault first_forms (words_of line) ≡ None
    → IfSome before (IsCut line (seen behind left)) → IfSome left (λ _. seen now left' ≡ seen behind left) → IsPart now
    → IfSome before (λ bytes. IsUnopened bytes left')
unopened_second before left left' behind now line one lawful cut still part = IfSome_then before cut (λ bytes at.
    let are = still_ahead left left' behind now at.rest still at.to_come in (
      line ++ 10 ∷ now,
      are.0,
      at.parts ∙ ap (λ (l : List ℕ). line ++ 10 ∷ l) are.2 ∙ sym (append_assoc line (10 ∷ now) are.0),
      are.1,
      inr (line, now, refl, one, part, lawful),
    ))
