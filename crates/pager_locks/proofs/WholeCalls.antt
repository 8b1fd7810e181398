-- A flight at its start, and the call or the turn that it made at its end.
use Rattle.std.proofs.Common.{◌≡◌, ℕ, ◌+◌, ◌<◌, [], ◌∷◌, ◌++◌, length, count_by, option_to_list, true, false, ◌≤◌, Some, None, IfSome, refl, ap, ap₂, sym, subst, ◌∙◌, arith}
use Rattle.std.specs.List.{AllByRecursion}
use Rattle.std.specs.Option.{IsSomeAnd}
use Rattle.std.proofs.Math.ListN.{length-map}
use Rattle.std.proofs.lemmas.Bool.{false≢true}
use Rattle.std.proofs.lemmas.List.{append-nil, map-append}
use Rattle.std.proofs.lemmas.Option.{same_Some}
use Rattle.journal_core.specs.Journals.{JournalName, PassState, is_numbered_answer}
use Rattle.pager_model.specs.declared.entry.Entry.{Entry}
use Rattle.pager_model.specs.declared.entry.Numbered.{Numbered}
use Rattle.pager_model.specs.declared.reply.Reply.{Reply}
use Rattle.pager_model.specs.declared.trace.Job.TheVariants.{Call as CallJob, Turn}
use Rattle.pager_model.specs.Flat.{space_of_call}
use Rattle.pager_model.specs.Legal.{entries_in}
use Rattle.pager_model.specs.Order.{at_rest, progress_of, progress_from}
use Rattle.pager_model.specs.Settings.{mark_of}
use Rattle.pager_model.proofs.Histories.{progress_from-append}
use Rattle.flight_core.specs.declared.flight.Flight.{Flight}
use Rattle.flight_core.specs.declared.flight.Purpose.{Purpose}
use Rattle.flight_core.specs.declared.flight.Purpose.TheVariants.{Call as OfCall, Turn as OfTurn}
use Rattle.flight_core.specs.declared.flight.Phase.TheVariants.{Ended}
use Rattle.flight_core.specs.Flights.{IsFor}
use Rattle.pager_core.specs.Machines.{CanFly}
use Rattle.flight_core.specs.Rows.{Outcome, Going, TurnEnded, Answered, call_in, has_ended, new_flight, new_turn, own_space, reply_in, row_of, row_in}
use Rattle.pager_core.specs.Running.{FitsMark, job_in}
use Rattle.flight_core.specs.Steps.{answer_made}
use Rattle.pager_core.proofs.Lands.{Fits-for, Starts, Starts-for, ended_progress, job_kept, under-for}
use Rattle.flight_core.proofs.NextFlights.{ended_by, of_calls, turn_goes_on}
use Rattle.flight_core.proofs.Purposes.{of_call-is}
use Rattle.pager_locks.specs.Calls.{MakesCall, MakesTurn, IsNextFlight}
use Rattle.pager_locks.specs.Locked.{Departure, IsFlying, SaysWhy}
use Rattle.flight_core.specs.Flying.{IsOnWay, later}
use Rattle.pager_locks.specs.Prepared.{MayCall, MayTurn}
use Rattle.pager_locks.proofs.CountedCalls.{counted}
use Rattle.flight_core.proofs.Later.{later_none}
use Rattle.flight_core.proofs.WholeFlights.{Added-none}

-- a turn has no reply
no_reply : (p : Purpose) (mark : ℕ) (r : Reply) → job_in p ≡ Turn mark → IsFor p (Ended r) → ⊥
no_reply (OfCall call claimed) mark r is kind = (let e : CallJob call ≡ Turn mark = is in cc)
no_reply (OfTurn mark evictions) low r is kind = kind

unanswered : (f : Flight) (mark : ℕ) → job_in f.purpose ≡ Turn mark → IsFor f.purpose f.phase → reply_in (row_of f).outcome ≡ None
unanswered f mark is kind = by (row_of f).outcome refl
  where
    by : (o : Outcome) → (row_of f).outcome ≡ o → reply_in (row_of f).outcome ≡ None
    by Going going = ap reply_in going
    by TurnEnded ended = ap reply_in ended
    by (Answered r) answered = absurd (no_reply f.purpose mark r is (subst (IsFor f.purpose) (ended_by f r answered) kind))

-- a pass's processor is one of its journal's
pub known_here : (j : JournalName) (p : PassState) (c : ℕ) → p.journal ≡ j → c ≡ p.processor → c < length p.journal.setting.marks
    → p.processor < length j.setting.marks
known_here j p c journal number known = subst (λ (x : JournalName). p.processor < length x.setting.marks) journal
    (subst (λ n. n < length p.journal.setting.marks) number known)

-- The flight of a pass's next call, from its start to its end.
module _ (j : JournalName) (p : PassState) (f : Flight) (may : MayCall j p) (next : IsNextFlight p f)
    (can : CanFly (length j.setting.told) (call_in f.purpose)) (known : p.processor < length j.setting.marks) where
  made : may.whole.0 ≡ f.number
  made = (
      let count : may.whole.0 ≡ 0 + count_by is_numbered_answer p.entries =
      counted p.entries (at_rest 0 0) (at_rest 0 may.whole.0) refl may.whole.1 in
      let number = next.number in
      omega (arith, count, number))

  own_mark : mark_of j.setting f.processor ≡ 0
  own_mark = ap (mark_of j.setting) next.processor ∙ may.mark

  is_start : new_flight f.processor f.number (call_in f.purpose) ≡ f
  is_start =
      ap₂ (λ phase purpose. record { processor = f.processor; number = f.number; purpose = purpose; phase = phase }) (sym next.start)
      (sym (of_call-is f.purpose next.is_call ∙ ap (OfCall (call_in f.purpose)) next.unclaimed))

  goes-start : has_ended (row_of f).outcome ≡ false
  goes-start = subst (λ (x : Flight). has_ended (row_of x).outcome ≡ false) is_start refl

  entries-start : (row_of f).entries ≡ 8
  entries-start = subst (λ (x : Flight). (row_of x).entries ≡ 8) is_start refl

  abbrev from : Departure
  from = record { pass = p; before = 0; flight = f }

  pub IsFlying-start : IsFlying j from f p
  IsFlying-start =
      record {
        journal = may.journal;
        processor = sym next.processor;
        same_processor = refl;
        same_room = refl;
        on_way = subst (IsOnWay j.setting (entries_in p.entries) 0) is_start (record {
          known = subst (λ k. k < length j.setting.marks) (sym next.processor) known;
          mark = own_mark;
          none_before = λ _. refl;
          progress = ap (λ m. progress_of m (entries_in p.entries)) own_mark ∙ may.whole.1 ∙ ap (λ k. Some (at_rest 0 k)) made
              ∙ ap Some (sym (later_none (at_rest 0 f.number)));
          fits = record { kind = refl; can = can.can; phase = refl };
          on = can.on;
          under = λ s under. subst (λ k. k < length j.setting.told) (same_Some (space_of_call (call_in f.purpose)) s under) can.on;
        });
        room = subst (λ (x : Flight). length p.entries + (row_of x).entries ≤ p.room) is_start may.room;
        piece = [];
        entries = sym (append-nil p.entries);
        added = Added-none f goes-start;
        says_why = subst (λ (x : Flight). IfSome (reply_in (row_of x).outcome) (SaysWhy j.setting)) is_start tt;
      }

  -- it keeps no space yet
  pub keeps-start : (row_of f).keeps ≡ None
  keeps-start = subst (λ (x : Flight). (row_of x).keeps ≡ None) is_start refl

  -- and once it is answered, the whole call
  MakesCall-made : (g : Flight) (q : PassState) (r : Reply) → IsFlying j from g q → (row_of g).outcome ≡ Answered r
      → MakesCall j.setting p q (call_in f.purpose) r
  MakesCall-made g q r flying answered =
      let phase = ended_by g r answered in
      let own : g.processor ≡ f.processor = sym flying.processor ∙ flying.same_processor ∙ sym next.processor in
      let called : call_in g.purpose ≡ call_in f.purpose = flying.added.same_work.call in
      let number : g.number ≡ f.number = flying.added.same_work.number in
      let ended : (row_of g).progress ≡ at_rest 0 (f.number + 1) =
      ap (λ x. (row_in g.processor g.number (own_space g.purpose) g.purpose x).progress) phase
      ∙ ap (λ k. at_rest 0 (k + 1)) number in
      let all : progress_of 0 (entries_in q.entries) ≡ Some (at_rest 0 (f.number + 1)) =
      ap (λ m. progress_of m (entries_in q.entries)) (sym (ap (mark_of j.setting) own ∙ own_mark)) ∙ flying.on_way.progress
      ∙ ap Some (later_none (row_of g).progress ∙ ended) in
      let before : progress_of 0 (entries_in p.entries) ≡ Some (at_rest 0 f.number) = may.whole.1 ∙ ap (λ k. Some (at_rest 0 k)) made in
      let split : entries_in q.entries ≡ entries_in p.entries ++ entries_in flying.piece = ap entries_in flying.entries
      ∙ map-append (λ (x : Numbered). x.entry) p.entries flying.piece in
      record {
        journal = flying.journal ∙ sym may.journal;
        processor = flying.same_processor;
        room = flying.same_room;
        piece = flying.piece;
        entries = flying.entries;
        few =
            let spent = flying.added.spent in
            let start = entries-start in
            let same = length-map flying.piece (λ (x : Numbered). x.entry) in
            omega (arith, spent, start, same);
        sequence = record {
          own = subst (λ k. AllByRecursion (λ (e : Entry). e.processor ≡ k) (entries_in flying.piece))
              next.processor flying.added.own;
          made = f.number;
          leads =
              sym (ap (λ o. progress_from o (entries_in flying.piece)) before)
              ∙ sym (progress_from-append (Some (at_rest 0 0)) (entries_in p.entries) (entries_in flying.piece))
              ∙ sym (ap (progress_of 0) split)
              ∙ all;
          answer = flying.added.answers ∙ ap (λ o. option_to_list (answer_made g (reply_in o))) answered
              ∙ ap (λ k. (k, (call_in g.purpose)) ∷ []) number ∙ ap (λ k. (f.number, k) ∷ []) called;
        };
        before = before;
        replies = flying.added.replies ∙ ap (λ o. option_to_list (reply_in o)) answered;
        never_short = subst (λ o. IfSome (reply_in o) (SaysWhy j.setting)) answered flying.says_why;
        whole = (f.number + 1, all);
      }

  pub MakesCall-ended : (g : Flight) (q : PassState) → IsFlying j from g q → has_ended (row_of g).outcome ≡ true
      → IsSomeAnd (reply_in (row_of g).outcome) (MakesCall j.setting p q (call_in f.purpose))
  MakesCall-ended g q flying ended = by (row_of g).outcome refl ended
    where
      by : (o : Outcome) → (row_of g).outcome ≡ o → has_ended o ≡ true
          → IsSomeAnd (reply_in o) (MakesCall j.setting p q (call_in f.purpose))
      by Going is some = absurd (false≢true some)
      by TurnEnded is some = absurd (turn_goes_on g (of_calls g (flying.added.same_work.same_kind ∙ next.is_call) flying.on_way.fits) is)
      by (Answered r) is some = MakesCall-made g q r flying is

-- The flight of a daemon's next turn, from its start to its end.
module _ (j : JournalName) (p : PassState) (c mark : ℕ) (may : MayTurn j p mark) (own : c ≡ p.processor) (known : p.processor < length j.setting.marks) where
  abbrev made_before : ℕ
  made_before = may.whole.0

  abbrev started : Flight
  started = new_turn c 0 mark

  abbrev pub from_turn : Departure
  from_turn = record { pass = p; before = made_before; flight = started }

  starts : Starts c 0 mark (Turn mark)
  starts = Starts-for c 0 mark (Turn mark) (refl, may.some)

  turn_mark : mark_of j.setting c ≡ mark
  turn_mark = ap (mark_of j.setting) own ∙ may.mark_is

  pub IsFlying-turn : IsFlying j from_turn started p
  IsFlying-turn =
      record {
        journal = may.journal;
        processor = sym own;
        same_processor = refl;
        same_room = refl;
        on_way = record {
          known = subst (λ k. k < length j.setting.marks) (sym own) known;
          mark = turn_mark;
          none_before = λ call. absurd (false≢true call);
          progress =
              ap (λ m. progress_of m (entries_in p.entries)) turn_mark
              ∙ may.whole.1
              ∙ ap (λ n. Some (at_rest mark n)) (let e : made_before ≡ made_before + 0 = omega arith in e)
              ∙ ap (λ x. Some (later made_before x)) (sym starts.progress);
          fits = Fits-for (length j.setting.told) c 0 (Turn mark) (may.some, may.few);
          on = tt;
          under = λ s under. under-for (length j.setting.told) c 0 (Turn mark) s (may.some, may.few) under;
        };
        room = (let room = may.room in let left = starts.entries in omega (arith, room, left));
        piece = [];
        entries = sym (append-nil p.entries);
        added = Added-none started refl;
        says_why = tt;
      }

  pub MakesTurn-ended : (g : Flight) (q : PassState) → IsFlying j from_turn g q → has_ended (row_of g).outcome ≡ true → MakesTurn p q mark
  MakesTurn-ended g q flying ended =
      let own_g : g.processor ≡ c = sym flying.processor ∙ flying.same_processor ∙ sym own in
      let job : job_in g.purpose ≡ Turn mark = job_kept flying.added.same_work in
      let fits : FitsMark mark (job_in g.purpose) = subst (FitsMark mark) (sym job) (refl, may.some) in
      let at_end : (row_of g).progress ≡ at_rest mark 1 = ended_progress g mark ended fits flying.on_way.fits
      ∙ ap (λ n. at_rest mark (n + 1)) flying.added.same_work.number in
      let all : progress_of mark (entries_in q.entries) ≡ Some (at_rest mark (made_before + 1)) =
      ap (λ m. progress_of m (entries_in q.entries)) (sym (ap (mark_of j.setting) own_g ∙ turn_mark)) ∙ flying.on_way.progress
      ∙ ap (λ x. Some (later made_before x)) at_end in
      let split : entries_in q.entries ≡ entries_in p.entries ++ entries_in flying.piece = ap entries_in flying.entries
      ∙ map-append (λ (x : Numbered). x.entry) p.entries flying.piece in
      record {
        journal = flying.journal ∙ sym may.journal;
        processor = flying.same_processor;
        room = flying.same_room;
        piece = flying.piece;
        entries = flying.entries;
        few =
            let spent = flying.added.spent in
            let left = starts.entries in
            let same = length-map flying.piece (λ (x : Numbered). x.entry) in
            omega (arith, spent, left, same);
        turn = record {
          own = subst (λ k. AllByRecursion (λ (e : Entry). e.processor ≡ k) (entries_in flying.piece))
              own flying.added.own;
          made = made_before;
          leads =
              sym (ap (λ o. progress_from o (entries_in flying.piece)) may.whole.1)
              ∙ sym (progress_from-append (Some (at_rest mark 0)) (entries_in p.entries) (entries_in flying.piece))
              ∙ sym (ap (progress_of mark) split)
              ∙ all;
        };
        no_answers = flying.added.answers ∙ ap (λ o. option_to_list (answer_made g o)) (unanswered g mark job flying.on_way.fits.kind);
        before = may.whole.1;
        after = all;
      }
