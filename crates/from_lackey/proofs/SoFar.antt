-- How far a log was converted, between two steps.
use Rattle.std.proofs.Common.{ℕ, ◌≡◌, ◌+◌, ◌-◌, ◌^◌, ◌<◌, ◌≤◌, Bool, false, List, [], ◌++◌, length, Option, Some, None, IfSome, flat_map, sym, subst, refl, ap, ◌∙◌, arith, length-append}
use Rattle.std.proofs.lemmas.List.{append-nil}
use Rattle.std.proofs.lemmas.Grind.{flat_map-append}
use Rattle.std.proofs.lemmas.Option.{IfSome_then}
use Rattle.pager_model.specs.declared.call.Line.{Line}
use Rattle.pager_model.specs.TraceText.{call_line}
use Rattle.report_text.specs.Writing.{Outgoing, Sent, SentPart}
use Rattle.report_text.proofs.SentBytes.{sent_part, sent_sent}
use Rattle.lackey_layout.specs.Places.{Keeps}
use Rattle.from_lackey.specs.declared.convert.Converter.{Converter}
use Rattle.from_lackey.specs.declared.log.Log.{Log}
use Rattle.from_lackey.specs.declared.log.Taken.{Taken}
use Rattle.from_lackey.specs.declared.log.Taken.TheVariants.{Part, All}
use Rattle.from_lackey.specs.declared.stop.Stop.{Stop}
use Rattle.from_lackey.specs.declared.stop.Stop.TheVariants.{Usage, Line as AtLine, ReadFault, WriteFault, NoMemory, TooLong}
use Rattle.from_lackey.specs.Converted.{Became, Converted, Stopped, StopsReading, StopsWriting, ports}
use Rattle.from_lackey.specs.Log.{BeginsWith, Passed}
use Rattle.from_lackey.specs.Taken.{IsOfLog, IsTaken, Took}
use Rattle.from_lackey.proofs.BecameCalls.{became_more, became_none, became_still}
use Rattle.from_lackey.proofs.PassedLogs.{begins_with}

-- So many times a step passed bytes. These lines became these calls, which were put, and the lines were counted.
pub record SoFar (n : ℕ) (before : Option (List ℕ)) (from to : Outgoing) (log : Log) (left : Option (List ℕ)) (converter : Converter) : Type 0 where
  pub lines : List (List ℕ)
  pub calls : List Line
  pub became : Became converter.instructions converter.memory.layout lines calls
  pub sent : Sent from to (flat_map call_line calls)
  pub passed : Passed n before lines log.long log.ahead left
  pub counted : converter.counts.lines ≡ length lines
  pub few : length lines ≤ n

sent_nothing : (a : Outgoing) → Sent a a []
sent_nothing a = record {
  told = nothing_told a.taken a.taken refl;
  few_writes = omega (arith, ap length (append-nil a.waiting));
  unfailed = refl;
}
  where
    nothing_told : (o t : Option (List ℕ)) → t ≡ o → IfSome o (λ had. (gone : List ℕ) × (t ≡ Some (had ++ gone)) × (gone ++ a.waiting ≡ a.waiting ++ []))
    nothing_told None t is = tt
    nothing_told (Some had) t is = ([], is ∙ ap Some (sym (append-nil had)), sym (append-nil a.waiting))

passed_none : (left : Option (List ℕ)) (long : Bool) (ahead : List ℕ) → long ≡ false → ahead ≡ [] → Passed 0 left [] long ahead left
passed_none left long ahead short none =
    subst (λ (l : List ℕ). Passed 0 left [] long l left) (sym none)
    (subst (λ (b : Bool). Passed 0 left [] b [] left) (sym short)
    (record { part = []; no_feeds = tt; no_feed = tt; by = refl; enough = omega arith; split = all_left left }))
  where
    all_left : (o : Option (List ℕ)) → IfSome o (λ bytes. (rest : List ℕ) × (o ≡ Some rest) × (bytes ≡ rest))
    all_left None = tt
    all_left (Some bytes) = (bytes, refl, refl)

-- nothing was read
pub so_far_none : (left : Option (List ℕ)) (from : Outgoing) (log : Log) (converter : Converter) → log.long ≡ false → log.ahead ≡ [] →
    converter.counts.lines ≡ 0 → SoFar 0 left from from log left converter
so_far_none left from log converter short none is = record {
  lines = [];
  calls = [];
  became = became_none converter.instructions converter.memory.layout;
  sent = sent_nothing from;
  passed = passed_none left log.long log.ahead short none;
  counted = is;
  few = omega arith;
}

module _ (instructions : Bool) (n : ℕ) (before left left' : Option (List ℕ)) (from mid : Outgoing) (log log' : Log) (old new : Converter)
    (so : SoFar n before from mid log left old) (is : old.instructions ≡ instructions) (keeps : Keeps old.memory.layout new.memory.layout) where
  -- the text of more calls
  texts : (next : List Line) → flat_map call_line so.calls ++ flat_map call_line next ≡ flat_map call_line (so.calls ++ next)
  texts next = sym (flat_map-append call_line so.calls next)

  module _ (to : Outgoing) (taken : Taken) (took : Took taken n before so.lines log' left' old new) (small : n < 2 ^ 64 - 1) where
    abbrev next : List Line
    next = new.calls.items

    now_counted : new.counts.lines ≡ length (so.lines ++ took.more)
    now_counted = omega (arith, took.counts (omega (arith, so.counted, so.few, small)), so.counted, length-append so.lines took.more)

    became : Became old.instructions new.memory.layout (so.lines ++ took.more) (so.calls ++ next)
    became = became_more old.instructions old.memory.layout new.memory.layout so.lines took.more so.calls next so.became keeps took.made

    became_by : (i : Bool) → old.instructions ≡ i → Became i new.memory.layout (so.lines ++ took.more) (so.calls ++ next)
    became_by i same = subst (λ (i : Bool). Became i new.memory.layout (so.lines ++ took.more) (so.calls ++ next)) same became

    now_sent : Sent mid to (flat_map call_line next) → Sent from to (flat_map call_line (so.calls ++ next))
    now_sent sent = subst (λ (l : List ℕ). Sent from to l) (texts next) (sent_sent (flat_map call_line so.calls) (flat_map call_line next) so.sent sent)

    -- a part was taken, and its calls were put
    pub so_far_more : taken ≡ Part → new.instructions ≡ old.instructions → Sent mid to (flat_map call_line next) →
        SoFar (n + 1) before from to log' left' new
    so_far_more part same sent = record {
      lines = so.lines ++ took.more;
      calls = so.calls ++ next;
      became = became_by new.instructions (sym same);
      sent = now_sent sent;
      passed = subst (λ (t : Taken). IsTaken t (n + 1) before (so.lines ++ took.more) log'.long log'.ahead left') part took.is_taken;
      counted = now_counted;
      few = omega (arith, so.few, took.one, length-append so.lines took.more);
    }

    -- all was taken, and the last calls were put
    pub converted : (failed faults : ℕ) → taken ≡ All → Sent mid to (flat_map call_line next) → faults ≡ failed →
        Converted (flat_map call_line) instructions (ports before failed from) (ports left' faults to) new.counts.lines
    converted failed faults all sent same = record {
      places = new.memory.layout;
      are_whole = new.memory.whole;
      lines = so.lines ++ took.more;
      calls = so.calls ++ next;
      became = became_by instructions is;
      all = subst (λ (t : Taken). IsTaken t (n + 1) before (so.lines ++ took.more) log'.long log'.ahead left') all took.is_taken;
      read = same;
      sent = now_sent sent;
      counted = now_counted;
    }

    begins : (t : Taken) (lines : List (List ℕ)) → IsTaken t (n + 1) before lines log'.long log'.ahead left' → IfSome before (BeginsWith lines)
    begins Part lines is = IfSome_then before (begins_with (n + 1) before left' lines log'.long log'.ahead is) (λ bytes here. here.0)
    begins All lines is = IfSome_then before is (λ bytes here. ([], here.0 ∙ sym (append-nil lines)))

    -- the calls couldn't be put
    pub stopped_writing : (failed faults : ℕ) → SentPart mid to (flat_map call_line next) → faults ≡ failed →
        Stopped (flat_map call_line) (flat_map call_line) instructions (ports before failed from) (ports left' faults to) WriteFault
    stopped_writing failed faults part same = record {
      places = new.memory.layout;
      are_whole = new.memory.whole;
      lines = so.lines ++ took.more;
      calls = so.calls ++ next;
      became = became_by instructions is;
      reading = (same, begins taken (so.lines ++ took.more) took.is_taken);
      writing = subst (λ (l : List ℕ). SentPart from to l) (texts next)
          (sent_part (flat_map call_line so.calls) (flat_map call_line next) so.sent part);
    }

  -- no more was taken
  pub stopped_reading : (failed faults : ℕ) (stop : Stop) → IsOfLog stop → StopsReading new.memory.layout so.lines before left' failed faults stop →
      Stopped (flat_map call_line) (flat_map call_line) instructions (ports before failed from) (ports left' faults mid) stop
  stopped_reading failed faults stop of reading = record {
    places = new.memory.layout;
    are_whole = new.memory.whole;
    lines = so.lines;
    calls = so.calls;
    became = subst (λ (i : Bool). Became i new.memory.layout so.lines so.calls) is
        (became_still old.instructions old.memory.layout new.memory.layout so.lines so.calls keeps so.became);
    reading = reading;
    writing = unwritten stop of;
  }
    where
      unwritten : (s : Stop) → IsOfLog s →
          StopsWriting (flat_map call_line so.calls) (flat_map call_line so.calls) (ports before failed from) (ports left' faults mid) s
      unwritten ReadFault of = so.sent
      unwritten (AtLine number refusal) of = so.sent
      unwritten WriteFault of = absurd of
      unwritten NoMemory of = absurd of
      unwritten TooLong of = absurd of
      unwritten Usage of = absurd of

-- the log is too long
pub stopped_long : (instructions : Bool) (n : ℕ) (before left : Option (List ℕ)) (from to : Outgoing) (log : Log) (converter : Converter)
    (failed faults : ℕ) → SoFar n before from to log left converter → converter.instructions ≡ instructions → faults ≡ failed → 2 ^ 64 - 1 ≤ n →
    Stopped (flat_map call_line) (flat_map call_line) instructions (ports before failed from) (ports left faults to) TooLong
stopped_long instructions n before left from to log converter failed faults so is same many = record {
  places = converter.memory.layout;
  are_whole = converter.memory.whole;
  lines = so.lines;
  calls = so.calls;
  became = subst (λ (i : Bool). Became i converter.memory.layout so.lines so.calls) is so.became;
  reading = (
    same,
    IfSome_then before (begins_with n before left so.lines log.long log.ahead so.passed) (λ bytes here. (here.0, omega (arith, here.1, many))),
  );
  writing = so.sent;
}
