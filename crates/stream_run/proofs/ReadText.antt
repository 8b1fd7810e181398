-- What was read of the bytes, and a line more.
use Rattle.std.proofs.Common.{◌≡◌, ℕ, ◌+◌, ◌≤◌, ◌⊎◌, List, [], ◌∷◌, ◌++◌, All, flat_map, length, length-append, Option, Some, None, IfSome, inl, inr, refl, ap, sym, subst, ◌∙◌, append_assoc, arith}
use Rattle.io_core.specs.Faults.{one_more}
use Rattle.std.proofs.lemmas.Grind.{flat_map-append}
use Rattle.std.proofs.lemmas.List.{append-nil}
use Rattle.std.proofs.lemmas.Option.{none-some, same_Some}
use Rattle.line_source.specs.Lines.{seen}
use Rattle.pager_model.specs.declared.call.Line.{Line as CallLine}
use Rattle.pager_model.specs.Scripts.{Script}
use Rattle.pager_model.specs.TraceText.{HasText, IsLine, call_line}
use Rattle.stream_core.specs.Streaming.{IsOpening, with_calls}
use Rattle.trace_lines.specs.declared.line.Head.{Head}
use Rattle.trace_reader.specs.declared.fault.TraceFault.{TraceFault}
use Rattle.trace_reader.specs.declared.fault.TraceFault.TheVariants.{ReadFault, LongLine, Line, NoEnd, TooManyCalls}
use Rattle.trace_reader.specs.Refusals.{IsCause, first_call}
use Rattle.trace_stream.specs.Streams.{GoesOn, HasOpening, HasStream, IsKept, IsOfStream, IsPart, Opens, OpensWith, end_line, forms_of, next_refusal, opening_text}
use Rattle.stream_run.specs.declared.run.Ending.TheVariants.{Stopped}
use Rattle.stream_run.specs.Streams.{Behind, TellsRead, WasAhead, WasOpened, WasStopped, WasWhole}

-- the lines of these calls were read, and this is to come
abbrev pub Reads : Option (List ℕ) → Script → List CallLine → Option (List ℕ) → Type 0
Reads left script calls then = IfSome left (λ bytes. (rest : List ℕ) × Behind bytes script calls rest × (then ≡ Some rest))

-- Bytes that were read ahead.

no_more : (ahead bytes : List ℕ) → ahead ++ bytes ≡ [] → bytes ≡ []
no_more [] bytes none = none
no_more (b ∷ ahead) bytes none = cc

seen_none : (ahead : List ℕ) (left : Option (List ℕ)) → seen ahead left ≡ Some [] → left ≡ Some []
seen_none ahead None is = cc
seen_none ahead (Some bytes) is = ap (λ l. Some l) (no_more ahead bytes (same_Some (ahead ++ bytes) [] is))

seen_some : (ahead : List ℕ) (left : Option (List ℕ)) (bytes : List ℕ) → seen ahead left ≡ Some bytes
    → (rest : List ℕ) × (left ≡ Some rest) × (bytes ≡ ahead ++ rest)
seen_some ahead None bytes is = absurd (none-some bytes is)
seen_some ahead (Some rest) bytes is = (rest, refl, sym (same_Some (ahead ++ rest) bytes is))

-- Lines.

pub reads_none : (left then : Option (List ℕ)) (script : Script) → IfSome left (λ bytes. OpensWith bytes script then) → Reads left script [] then
reads_none None then script opens = tt
reads_none (Some bytes) then script opens =
    (opens.0, opens.1.split ∙ ap (λ l. l ++ opens.0) (sym (append-nil (opening_text script))), opens.2)

pub opens_of : (left then : Option (List ℕ)) (script : Script) → IfSome left (λ bytes. OpensWith bytes script then)
    → IfSome left (λ bytes. (rest : List ℕ) × Opens bytes script rest)
opens_of None then script opens = tt
opens_of (Some bytes) then script opens = (opens.0, opens.1)

-- where no call was run, behind the lines before them
pub was_opened : (P : Script → Type 0) (left left' : Option (List ℕ)) (ahead : List ℕ) (head : Head) (script : Script) → HasOpening head script
    → length ahead ≤ 4096 → P script → IfSome left (λ bytes. OpensWith bytes script (seen ahead left'))
    → IfSome left (λ bytes. (opened : Script) × WasOpened bytes opened left' × P opened)
was_opened P None left' ahead head script opening few is opens = tt
was_opened P (Some bytes) left' ahead head script opening few is opens =
    let some = seen_some ahead left' opens.0 opens.2 in (
      script,
      record {
        opening = record { has = opening.has; none = opening.none };
        ahead = ahead;
        rest = some.0;
        opens = subst (Opens bytes script) some.2 opens.1;
        few = few;
        left_is = some.1;
      },
      is,
    )

Behind-more : (bytes : List ℕ) (script : Script) (calls : List CallLine) (line : CallLine) (rest then : List ℕ) → Behind bytes script calls rest
    → rest ≡ call_line line ++ then → Behind bytes script (calls ++ line ∷ []) then
Behind-more bytes script calls line rest then behind is =
    let open_text = opening_text script in
    let lines = flat_map call_line calls in
    let more : flat_map call_line (calls ++ line ∷ []) ≡ lines ++ call_line line =
    flat_map-append call_line calls (line ∷ []) ∙ ap (λ l. lines ++ l) (append-nil (call_line line)) in
    behind ∙ ap (λ l. (open_text ++ lines) ++ l) is ∙ sym (append_assoc (open_text ++ lines) (call_line line) then)
    ∙ ap (λ l. l ++ then) (append_assoc open_text lines (call_line line) ∙ ap (λ l. open_text ++ l) (sym more))

pub reads_more : (left mid then : Option (List ℕ)) (script : Script) (calls : List CallLine) (line : CallLine) → Reads left script calls mid
    → IfSome mid (λ bytes. GoesOn bytes (Some line) then) → Reads left script (calls ++ line ∷ []) then
reads_more None mid then script calls line reads goes = tt
reads_more (Some bytes) mid then script calls line reads goes =
    let on = subst (λ (o : Option (List ℕ)). IfSome o (λ l. GoesOn l (Some line) then)) reads.2 goes in
    (on.0, Behind-more bytes script calls line reads.0 on.0 reads.1 on.1, on.2)

-- The ends.

-- the trace with these calls has a stream
HasStream-of : (script : Script) (calls : List CallLine) → IsOpening script → All (IsLine script.version script.processors script.spaces) calls
    → length calls ≤ 4294967295 → HasStream (with_calls script calls)
HasStream-of script calls opening lines few = record {
  opening = subst HasText (ap (with_calls script) opening.none) opening.has;
  lines = lines;
  few = few;
}

pub reads_whole : (left mid left' : Option (List ℕ)) (ahead : List ℕ) (script : Script) (calls : List CallLine) → IsOpening script
    → All (IsLine script.version script.processors script.spaces) calls → length calls ≤ 4294967295 → Reads left script calls mid
    → IfSome mid (λ bytes. GoesOn bytes None (seen ahead left')) → IfSome left (λ bytes. WasWhole bytes script calls left')
reads_whole None mid left' ahead script calls opening lines few reads goes = tt
reads_whole (Some bytes) mid left' ahead script calls opening lines few reads goes =
    let on = subst (λ (o : Option (List ℕ)). IfSome o (λ l. GoesOn l None (seen ahead left'))) reads.2 goes in (
      (HasStream-of script calls opening lines few, reads.1 ∙ ap (λ l. (opening_text script ++ flat_map call_line calls) ++ l) on.0),
      seen_none ahead left' on.1,
    )

pub reads_ahead : (left left' : Option (List ℕ)) (ahead : List ℕ) (script : Script) (calls : List CallLine) → Reads left script calls (seen ahead left')
    → length ahead ≤ 4096 → IfSome left (λ bytes. WasAhead bytes script calls left')
reads_ahead None left' ahead script calls reads few = tt
reads_ahead (Some bytes) left' ahead script calls reads few =
    let some = seen_some ahead left' reads.0 reads.2 in
    (ahead, some.0, reads.1 ∙ ap (λ l. (opening_text script ++ flat_map call_line calls) ++ l) some.2, few, some.1)

-- what was read behind the lines of the calls, and the rest
kept_split : (rest ahead : List ℕ) (left' : Option (List ℕ)) → length ahead ≤ 4096 → IsKept rest (seen ahead left')
    → (read : List ℕ) × (then : List ℕ) × (rest ≡ read ++ then) × (left' ≡ Some then) × (length read ≤ 4100)
    × ((read ≡ ahead) ⊎ (read ≡ end_line ++ ahead))
kept_split rest ahead left' few kept =
    let some = seen_some ahead left' kept.0 kept.1 in
    elim kept.2 [
      | inl same ↦ (ahead, some.0, same ∙ some.2, some.1, omega (arith, few), inl refl)
      | inr passed ↦
          let long = length-append end_line ahead in (
            end_line ++ ahead,
            some.0,
            passed ∙ ap (λ l. end_line ++ l) some.2 ∙ sym (append_assoc end_line ahead some.0),
            some.1,
            omega (arith, few, long),
            inr refl,
          )
    ]

module _ (bytes : List ℕ) (script : Script) (calls : List CallLine) (rest : List ℕ) (behind : Behind bytes script calls rest) (ahead : List ℕ)
    (left' : Option (List ℕ)) (few : length ahead ≤ 4096) (kept : IsKept rest (seen ahead left')) where
  unread : IsPart ahead → WasStopped bytes script calls ReadFault left'
  unread part =
      let k = kept_split rest ahead left' few kept in
      let at = behind ∙ ap (λ l. (opening_text script ++ flat_map call_line calls) ++ l) k.2 in
      (k.0, k.1, at, k.3, elim k.5 [ inl same ↦ inl (subst IsPart (sym same) part) | inr passed ↦ inr (ahead, passed, part) ])

  refused : (fault : TraceFault)
      → next_refusal (forms_of script) (first_call script.daemon + length calls) (length calls) rest ≡ Some fault
      → (read : List ℕ) × (then : List ℕ) × Behind bytes script calls (read ++ then) × (length read ≤ 4100) × (left' ≡ Some then)
      × (next_refusal (forms_of script) (first_call script.daemon + length calls) (length calls) (read ++ then) ≡ Some fault)
  refused fault is =
      let k = kept_split rest ahead left' few kept in
      let at = behind ∙ ap (λ l. (opening_text script ++ flat_map call_line calls) ++ l) k.2 in (
        k.0,
        k.1,
        at,
        k.4,
        k.3,
        subst (λ l. next_refusal (forms_of script) (first_call script.daemon + length calls) (length calls) l ≡ Some fault) k.2 is,
      )

  stopped : (fault : TraceFault) → IsOfStream fault → (fault ≡ ReadFault → IsPart ahead)
      → IsCause (next_refusal (forms_of script) (first_call script.daemon + length calls) (length calls) rest) fault
      → WasStopped bytes script calls fault left'
  stopped ReadFault own part is = unread (part refl)
  stopped (LongLine number) own part is = refused (LongLine number) is
  stopped (Line number cause) own part is = refused (Line number cause) is
  stopped NoEnd own part is = refused NoEnd is
  stopped TooManyCalls own part is = refused TooManyCalls is
  stopped fault own part is = absurd own

pub reads_stopped : (left mid left' : Option (List ℕ)) (ahead : List ℕ) (script : Script) (calls : List CallLine) (made : ℕ) (fault : TraceFault)
    → Reads left script calls mid → made ≡ length calls → length ahead ≤ 4096 → IsOfStream fault → (fault ≡ ReadFault → IsPart ahead)
    → IfSome mid (λ bytes. IsKept bytes (seen ahead left'))
    → IfSome mid (λ bytes. IsCause (next_refusal (forms_of script) (first_call script.daemon + made) made bytes) fault)
    → IfSome left (λ bytes. WasStopped bytes script calls fault left')
reads_stopped None mid left' ahead script calls made fault reads is few own part kept cause = tt
reads_stopped (Some bytes) mid left' ahead script calls made fault reads is few own part kept cause =
    let rest = reads.0 in
    let kept_at = subst (λ (o : Option (List ℕ)). IfSome o (λ l. IsKept l (seen ahead left'))) reads.2 kept in
    let cause_at = subst (λ (o : Option (List ℕ)). IfSome o
    (λ l. IsCause (next_refusal (forms_of script) (first_call script.daemon + made) made l) fault)) reads.2 cause in
    stopped bytes script calls rest reads.1 ahead left' few kept_at fault own part
    (subst (λ n. IsCause (next_refusal (forms_of script) (first_call script.daemon + n) n rest) fault) is cause_at)

-- a failed read is told, and no other fault is one
pub tells_read : (fault : TraceFault) (before after : ℕ) → (fault ≡ ReadFault → after ≡ one_more before)
    → ((fault ≡ ReadFault → ⊥) → after ≡ before) → TellsRead (Stopped fault) before after
tells_read ReadFault before after read other = read refl
tells_read fault before after read other = other (λ is. cc)
