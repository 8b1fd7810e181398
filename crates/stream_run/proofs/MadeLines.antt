-- A call more, and where it is time its counts.
use Rattle.std.proofs.Common.{◌≡◌, ℕ, ◌+◌, ◌<◌, ◌≤◌, Bool, true, false, List, [], ◌∷◌, ◌++◌, length, Option, Some, None, IfSome, OnOk, OnErr, Result, Ok, Err, refl, ap, sym, subst, ◌∙◌, arith}
use Rattle.std.proofs.lemmas.List.{length_push}
use Rattle.std.proofs.lemmas.Option.{slice_get_within}
use Rattle.io_core.specs.Faults.{one_more}
use Rattle.line_source.specs.Lines.{seen}
use Rattle.pager_model.specs.declared.call.Line.{Line}
use Rattle.pager_model.specs.declared.entry.Entry.{Entry}
use Rattle.pager_model.specs.Scripts.{Script}
use Rattle.pager_model.specs.Settings.{Given}
use Rattle.pager_model.specs.Stored.{Stored}
use Rattle.pager_model.specs.Stores.{setting_over}
use Rattle.pager_model.specs.TraceText.{IsLine}
use Rattle.flight_core.specs.Lacking.{NoneLacked}
use Rattle.report_text.specs.declared.so_far_line.SoFar.{SoFar}
use Rattle.report_text.specs.SoFarText.{so_far_text}
use Rattle.report_text.specs.Written.{WroteAll, WrotePart}
use Rattle.stream_core.specs.Streaming.{IsAfter, IsMade, IsNext, Streaming}
use Rattle.trace_lines.specs.declared.line.Head.{Head}
use Rattle.trace_stream.specs.Streams.{GoesOn, HasOpening, most_stream_calls}
use Rattle.stream_run.specs.declared.run.Ending.TheVariants.{WriteFault}
use Rattle.stream_run.specs.declared.telling.Telling.{Telling}
use Rattle.stream_run.specs.Steps.{CallsEnd, ComesNext, CountsCall, EachTold, Goes, StandsAt, WentOn, WentPart}
use Rattle.stream_run.specs.Streams.{Course, IsSoFar, Ports, course, ports, told_text}
use Rattle.stream_run.proofs.ReadText.{reads_ahead, reads_more}
use Rattle.stream_run.proofs.ToldCounts.{AreToldBy-of, EachTold-more, next_not_due, next_of, told_due, wrote_part, wrote_told}
use Rattle.stream_run.proofs.WholeStreams.{none_lacked}

pub ok_err : {A E : Type 0} (x : A) (e : E) → Ok x ≡ Err e → ⊥
ok_err x e is = cc

pub on_ok : {E A P : Type 0} (r : Result (Unit {0}) E) → OnOk r A → (A → P) → OnOk r P
on_ok (Ok done) is f = f is
on_ok (Err e) is f = tt

pub on_err : {E A P : Type 0} (r : Result (Unit {0}) E) → OnErr r A → (A → P) → OnErr r P
on_err (Ok done) is f = tt
on_err (Err e) is f = f is

-- the line that was read may come next
pub IsNext-of : (head : Head) (script : Script) (calls : List Line) (read : Option Line) (line : Line) (made : ℕ) → HasOpening head script
    → read ≡ Some line → IfSome read (IsLine head.version head.processors head.spaces) → IfSome read (λ l. made < most_stream_calls)
    → made ≡ length calls → IsNext script calls line
IsNext-of head script calls read line made opening is range few count =
    let range_at = subst (λ (o : Option Line). IfSome o (IsLine head.version head.processors head.spaces)) is range in
    let few_at = subst (λ (o : Option Line). IfSome o (λ l. made < most_stream_calls)) is few in
    record {
      range = rw (opening.version, opening.processors, opening.spaces) range_at;
      few = omega (arith, few_at, count);
    }

-- Where no call was made.

each_none : (g : Given) (script : Script) (every : Option ℕ) → EachTold g script [] [] every []
each_none g script None = refl
each_none g script (Some every) = λ i s at. absurd (let within = slice_get_within {A = SoFar} [] i s at in omega (arith, within))

pub StandsAt-none : (lasts : Bool) (telling : Telling) (every : Option ℕ) (script : Script) (stores : List Stored) (s : Streaming)
    → telling.every ≡ every → IsAfter script stores [] [] s → IfSome every (λ n. 1 ≤ n) → IfSome every (λ n. telling.left ≡ n)
    → StandsAt lasts telling (course script stores [] [] []) s
StandsAt-none lasts telling every script stores s same after some is = record {
  after = after;
  lasting = λ lasting. tt;
  each = each_none (setting_over script stores) script telling.every;
  next = rw same (next_of every telling.left some is);
}

module _ (lasts : Bool) (telling telling' : Telling) (same : telling'.every ≡ telling.every) (c : Course) (s s' : Streaming) (line : Line)
    (stands : StandsAt lasts telling c s) (made : IsMade lasts c.script c.stores (c.calls ++ line ∷ []) c.history s') where
  abbrev calls : List Line
  calls = c.calls ++ line ∷ []

  abbrev history : List Entry
  history = c.history ++ made.piece

  each : EachTold (setting_over c.script c.stores) c.script calls history telling.every c.told
  each = EachTold-more (setting_over c.script c.stores) c.script c.calls line c.history made.piece telling.every c.told telling.left stands.next
      stands.each

  none_more : lasts ≡ true → NoneLacked history
  none_more keeps = none_lacked c.history made.piece (stands.lasting keeps) (made.lasting keeps)

  -- It isn't time.

  pub WentOn-not_due : (had now : Option (List ℕ)) → CountsCall telling.every telling.left telling'.left false → WroteAll (told_text c.told) had now
      → WentOn lasts telling' c line s' had now
  WentOn-not_due had now counts wrote = record {
    history = history;
    told = c.told;
    stands = record {
      after = made.after;
      lasting = none_more;
      each = rw same each;
      next = rw same
          (next_not_due telling.every (length c.calls) (length calls) (length c.told) telling.left telling'.left (length_push c.calls line) counts
          stands.next);
    };
    wrote = wrote;
  }

  -- It is time.

  module _ (last : SoFar) (is : IsSoFar (setting_over c.script c.stores) c.script calls history (length calls) last)
      (counts : CountsCall telling.every telling.left telling'.left true) where
    due : EachTold (setting_over c.script c.stores) c.script calls history telling.every (c.told ++ last ∷ [])
        × ComesNext telling.every (length calls) (length (c.told ++ last ∷ [])) telling'.left
    due = told_due (setting_over c.script c.stores) c.script calls history c.told last telling.every (length c.calls) telling.left telling'.left
        (length_push c.calls line) counts stands.next each is

    pub WentOn-due : (had mid now : Option (List ℕ)) → WroteAll (told_text c.told) had mid → WroteAll (so_far_text last) mid now
        → WentOn lasts telling' c line s' had now
    WentOn-due had mid now wrote writes = record {
      history = history;
      told = c.told ++ last ∷ [];
      stands = record { after = made.after; lasting = none_more; each = rw same due.0; next = rw same due.1 };
      wrote = wrote_told c.told last had mid now wrote writes;
    }

    pub WentPart-due : (had mid now : Option (List ℕ)) → WroteAll (told_text c.told) had mid → WrotePart (so_far_text last) mid now
        → WentPart lasts telling.every c line s' had now
    WentPart-due had mid now wrote writes = record {
      history = history;
      earlier = c.told;
      last = last;
      after_calls = made.after;
      lasting = none_more;
      told_are = AreToldBy-of (setting_over c.script c.stores) c.script calls history telling.every (c.told ++ last ∷ []) telling'.left due.1 due.0;
      last_is = is.calls_are;
      wrote = wrote_part (told_text c.told) (so_far_text last) had mid now wrote writes;
    }

-- The run goes on.

module _ (lasts : Bool) (telling telling' : Telling) (script : Script) (stores : List Stored) (s s' : Streaming) (line : Line) (before now : Ports)
    (goes : Goes lasts telling script stores s before now) (next : IsNext script goes.calls line) (taken' : Option (List ℕ)) where
  abbrev so_far : Course
  so_far = course script stores goes.calls goes.history goes.told

  module _ (on : (c : Course) (had : Option (List ℕ)) → StandsAt lasts telling c s → IsNext c.script c.calls line
      → WroteAll (told_text c.told) had now.taken → WentOn lasts telling' c line s' had taken') where
    went : WentOn lasts telling' so_far line s' before.taken taken'
    went = on so_far before.taken goes.stands next goes.wrote

    pub one_call_more : s'.calls ≡ s.calls + 1
    one_call_more =
        went.stands.after.at.calls_are ∙ length_push goes.calls line ∙ ap (λ n. n + 1) (sym goes.stands.after.at.calls_are)

    pub Goes-more : (read : Option Line) (then : Option (List ℕ)) (reads' writes' : ℕ) → read ≡ Some line
        → IfSome now.left (λ bytes. GoesOn bytes read then) → reads' ≡ now.read_faults → writes' ≡ now.write_faults
        → Goes lasts telling' script stores s' before (ports then reads' taken' writes')
    Goes-more read then reads' writes' is on_line no_read no_write = record {
      calls = goes.calls ++ line ∷ [];
      history = went.history;
      told = went.told;
      stands = went.stands;
      reads = reads_more before.left now.left then script goes.calls line goes.reads
          (subst (λ (o : Option Line). IfSome now.left (λ bytes. GoesOn bytes o then)) is on_line);
      wrote = went.wrote;
      no_read_fault = no_read ∙ goes.no_read_fault;
      no_write_fault = no_write ∙ goes.no_write_fault;
    }

  module _ (part : (c : Course) (had : Option (List ℕ)) → StandsAt lasts telling c s → IsNext c.script c.calls line
      → WroteAll (told_text c.told) had now.taken → WentPart lasts telling.every c line s' had taken') where
    went_part : WentPart lasts telling.every so_far line s' before.taken taken'
    went_part = part so_far before.taken goes.stands next goes.wrote

    pub CallsEnd-part : (every : Option ℕ) (read : Option Line) (ahead : List ℕ) (rest : Option (List ℕ)) (reads' writes' : ℕ) → telling.every ≡ every
        → read ≡ Some line → IfSome now.left (λ bytes. GoesOn bytes read (seen ahead rest)) → length ahead ≤ 4096 → reads' ≡ now.read_faults
        → writes' ≡ one_more now.write_faults → CallsEnd lasts every script stores s' before (ports rest reads' taken' writes') WriteFault
    CallsEnd-part every read ahead rest reads' writes' same is on_line few no_read rose = record {
      calls = goes.calls ++ line ∷ [];
      history = went_part.history;
      told = went_part.earlier ++ went_part.last ∷ [];
      after_calls = went_part.after_calls;
      lasting = went_part.lasting;
      told_are = rw (sym same) went_part.told_are;
      ends = (
        reads_ahead before.left rest ahead script (goes.calls ++ line ∷ [])
            (reads_more before.left now.left (seen ahead rest) script goes.calls line goes.reads
            (subst (λ (o : Option Line). IfSome now.left (λ bytes. GoesOn bytes o (seen ahead rest))) is on_line))
            few,
        (went_part.earlier, went_part.last, refl, went_part.last_is, went_part.wrote),
      );
      read_fault = no_read ∙ goes.no_read_fault;
      write_fault = λ same_end. rose ∙ ap one_more goes.no_write_fault;
      no_write_fault = λ other. absurd (other refl);
    }
