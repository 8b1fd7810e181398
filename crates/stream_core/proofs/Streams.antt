-- What a stream stands for, at its start, and after a turn or a call more.
use Rattle.std.proofs.Common.{◌≡◌, ◌≢◌, ℕ, suc, true, ◌+◌, ◌<◌, ◌≤◌, cond, List, [], ◌∷◌, ◌++◌, length, filter, drop, slice_index_or, Option, Some, refl, ap, sym, subst, ◌∙◌, inl, inr, arith, length-append}
use Rattle.std.specs.List.{AllByRecursion, enumerate_from}
use Rattle.std.proofs.Math.ListN.{set}
use Rattle.std.proofs.Math.Nat.{min-zero}
use Rattle.std.proofs.lemmas.Bool.{cases_eq, ne_eqb}
use Rattle.std.proofs.lemmas.List.{append-nil, get_or-set_same, get_or-set_other, length-set, length_push}
use Rattle.std.proofs.lemmas.List.Elements.{All-push, filter-append, filter_map-append}
use Rattle.std.proofs.lemmas.Option.{same_Some, slice_get_within}
use Rattle.pager_model.specs.declared.call.Line.{Line}
use Rattle.pager_model.specs.declared.entry.Entry.{Entry}
use Rattle.pager_model.specs.declared.trace.Daemon.{Daemon}
use Rattle.pager_model.specs.declared.trace.Job.TheVariants.{Call as MakesCall, Turn}
use Rattle.pager_model.specs.Entries.{entries_of, is_of}
use Rattle.pager_model.specs.Flat.{space_of_call}
use Rattle.pager_model.specs.FrameStates.{FrameState, start_frames}
use Rattle.pager_model.specs.Order.{IsWhole, at_rest, progress_from, progress_of}
use Rattle.pager_model.specs.Scripts.{Script}
use Rattle.pager_model.specs.Settings.{mark_of}
use Rattle.pager_model.specs.Showing.{FilesLines, IsSequence, IsTurn, actors, answer_in, answers_in, calls_of}
use Rattle.pager_model.specs.Stored.{Stored}
use Rattle.pager_model.specs.Stores.{AreCapped, setting_over}
use Rattle.pager_model.specs.TraceText.{IsDaemon, IsLine}
use Rattle.pager_model.proofs.Actors.{daemon_known, mark_of_caller, mark_of_daemon, processor_known}
use Rattle.pager_model.proofs.Histories.{progress_from-append}
use Rattle.space_core.specs.Standing.{Kept}
use Rattle.flight_core.specs.declared.flight.Flight.{Flight}
use Rattle.flight_core.specs.Rows.{has_ended, row_of}
use Rattle.flight_core.specs.Flying.{since}
use Rattle.flight_core.specs.Whole.{WentOn}
use Rattle.pager_core.specs.RunParts.{AreNewSpaces}
use Rattle.pager_core.specs.Running.{flight_for}
use Rattle.pager_core.proofs.Lists.{enumerate-push}
use Rattle.pager_core.proofs.StartMachines.{call_on}
use Rattle.pager_core.proofs.FiledLines.{FilesLines-line, FilesLines-turn, calls_of-append, calls_of-other, calls_of-own, entries_on}
use Rattle.pager_core.proofs.ShownReplays.{told-over}
use Rattle.stream_core.specs.Streaming.{IsAfter, IsAt, IsNext, IsOpening, Streaming, low_in, turns_in}
use Rattle.stream_core.specs.Tallies.{IsTallied, Tallied}
use Rattle.stream_core.proofs.Fronts.{MakesTurns-part, turns_few, turns_of_part}
use Rattle.stream_core.proofs.MadeJobs.{IsNextJob, StandAfter, answer, few_more, leads, own, stand_then}

-- Other processors' entries.

others_none : (c d : ℕ) → d ≢ c → (es : List Entry) → AllByRecursion (λ (e : Entry). e.processor ≡ c) es → entries_of d es ≡ []
others_none c d other [] all = refl
others_none c d other (e ∷ es) all =
    ap (λ b. cond b (e ∷ filter (is_of d) es) (filter (is_of d) es)) (ne_eqb e.processor d (λ is. other (sym is ∙ all.0)))
    ∙ others_none c d other es all.1

-- entries of one processor leave those of another as they are
others_on : (c d : ℕ) → d ≢ c → (h piece : List Entry) → AllByRecursion (λ (e : Entry). e.processor ≡ c) piece
    → entries_of d (h ++ piece) ≡ entries_of d h
others_on c d other h piece all =
    filter-append (is_of d) h piece ∙ ap (λ l. entries_of d h ++ l) (others_none c d other piece all) ∙ append-nil (entries_of d h)

-- The start.

pub IsAfter-start : (script : Script) → IsOpening script → (stores : List Stored) → script.spaces ≤ length stores → AreCapped script.spaces stores
    → (numbers : List ℕ) (daemon : Option Daemon) (processors : ℕ) (tally : Tallied) (spaces : List Kept) (pool : FrameState) (unused : List Stored)
    → daemon ≡ script.daemon → processors ≡ script.processors → AreNewSpaces (setting_over script stores) spaces
    → pool ≡ start_frames script.sizes script.frames (actors script) → IsTallied tally (setting_over script stores) [] → length numbers ≡ 16
    → ((c : ℕ) → c < 16 → slice_index_or numbers c 0 ≡ 0) → unused ≡ drop script.spaces stores
    → IsAfter script stores [] [] (record {
      numbers = numbers;
      calls = 0;
      daemon = daemon;
      processors = processors;
      turns = 0;
      tally = tally;
      spaces = spaces;
      pool = pool;
      unused = unused;
    })
IsAfter-start script opening stores enough capped numbers daemon processors tally spaces pool unused daemon_is behind new pool_is none sixteen zeros
    unused_is =
    record {
      at = record {
        opening = opening;
        enough = enough;
        capped = capped;
        lines = λ i d below. absurd (omega (arith, below));
        few_calls = omega arith;
        few_turns = omega arith;
        legal = tt;
        filed = refl;
        shows = record {
          calls = λ c known. (refl, (0, refl));
          turns = MakesTurns-part script [] script.daemon 0 [] (omega arith) (λ d is. refl);
        };
        made = λ c known. refl;
        short = omega arith;
        tallied = none;
        rest = record {
          count = new.count;
          spaces_rest = λ s kept at. record { resting = (new.new s kept at).resting; stands = (new.new s kept at).stands; next = refl };
          pool_is = pool_is;
        };
        number = λ s kept at. (new.new s kept at).number_is;
        space = λ s kept at. record {
          within =
              let own = (new.new s kept at).number_is in
              let below = slice_get_within spaces s kept at in
              let count = new.count in
              omega (arith, own, below, count);
          frames = (new.new s kept at).frames_are;
          processors = (new.new s kept at).processors_are;
        };
        calls_are = refl;
        processors_are = sixteen;
        numbers_are = λ c known. zeros c (let few = opening.has.processors_in.1 in omega (arith, known, few));
        daemon_is = daemon_is;
        daemon_behind = behind;
        unused_are = unused_is;
      };
      turns = sym (min-zero (turns_in script.daemon));
    }

module _ (script : Script) (stores : List Stored) (calls : List Line) (h : List Entry) (s : Streaming) (at : IsAt script stores calls h s) where
  -- nothing is in progress
  pub standing : StandAfter (setting_over script stores) h s.tally s.spaces s.pool
  standing = record { legal = at.legal; tallied = at.tallied; rest = at.rest; number = at.number; space = at.space }

  -- the daemon has made its turns so far
  turned : (d : Daemon) → script.daemon ≡ Some d → progress_of d.low (entries_of script.processors h) ≡ Some (at_rest d.low s.turns)
  turned = turns_of_part script calls script.daemon s.turns h at.few_turns at.shows.turns

  pub few_turns : s.turns ≤ 4096
  few_turns = (let few = turns_few script.daemon at.opening.has.daemon_in in let own = at.few_turns in omega (arith, few, own))

  -- A turn more.
  module _ (d : Daemon) (is : script.daemon ≡ Some d) (left : s.turns < d.turns) (due : length calls ≤ s.turns) where
    daemon_in : IsDaemon (Some d)
    daemon_in = subst IsDaemon is at.opening.has.daemon_in

    mark_is : mark_of (setting_over script stores) script.processors ≡ d.low
    mark_is = mark_of_daemon script d is

    pub next_turn : IsNextJob (setting_over script stores) h script.processors s.turns (Turn d.low)
    next_turn =
        record {
          known = daemon_known script d is;
          marked = (mark_is, daemon_in.0.0);
          made = subst (λ m. progress_of m (entries_of script.processors h) ≡ Some (at_rest m s.turns)) (sym mark_is) (turned d is);
          can = daemon_in.0;
          few =
              let short = at.short in
              let few = at.few_calls in
              let most = daemon_in.1.1 in
              let low = daemon_in.0.1 in
              omega (arith, short, few, left, most, low);
        }

    module _ (tally' : Tallied) (f' : Flight) (spaces' : List Kept) (pool' : FrameState)
        (went : WentOn IsTallied (since (setting_over script stores) h 0) tally' (flight_for script.processors s.turns (Turn d.low)) f' spaces' pool')
        (ended : has_ended (row_of f').outcome ≡ true) where
      entries_own : AllByRecursion (λ (e : Entry). e.processor ≡ script.processors) went.piece
      entries_own = own (setting_over script stores) h s.tally s.spaces s.pool script.processors s.turns (Turn d.low) standing next_turn
          tally' f' spaces' pool' went ended

      led : progress_from (Some (at_rest d.low s.turns)) went.piece ≡ Some (at_rest d.low (s.turns + 1))
      led = subst (λ m. progress_from (Some (at_rest m s.turns)) went.piece ≡ Some (at_rest m (s.turns + 1))) mark_is
          (leads (setting_over script stores) h s.tally s.spaces s.pool script.processors s.turns (Turn d.low) standing next_turn
          tally' f' spaces' pool' went ended)

      turn : IsTurn script.processors (low_in script.daemon) went.piece
      turn = subst (λ m. IsTurn script.processors m went.piece) (sym (ap low_in is)) (record { own = entries_own; made = s.turns; leads = led })

      turned_then : (e : Daemon) → script.daemon ≡ Some e
          → progress_of e.low (entries_of script.processors (h ++ went.piece)) ≡ Some (at_rest e.low (s.turns + 1))
      turned_then e has =
          subst (λ (x : Daemon). progress_of x.low (entries_of script.processors (h ++ went.piece)) ≡ Some (at_rest x.low (s.turns + 1)))
          (same_Some d e (sym is ∙ has))
          (ap (progress_of d.low) (entries_on script.processors h went.piece entries_own)
          ∙ progress_from-append (Some (at_rest d.low 0)) (entries_of script.processors h) went.piece
          ∙ ap (λ p. progress_from p went.piece) (turned d is) ∙ led)

      same : (c : ℕ) → c < script.processors → entries_of c (h ++ went.piece) ≡ entries_of c h
      same c known = others_on script.processors c (λ e. omega (arith, known, e)) h went.piece entries_own

      stand : StandAfter (setting_over script stores) (h ++ went.piece) tally' spaces' pool'
      stand = subst (λ l. StandAfter (setting_over script stores) l tally' spaces' pool') went.grown
          (stand_then (setting_over script stores) h s.tally s.spaces s.pool script.processors s.turns (Turn d.low) standing next_turn
          tally' f' spaces' pool' went ended)

      within : s.turns + 1 ≤ turns_in script.daemon
      within = (let all = ap turns_in is in omega (arith, all, left))

      pub IsAt-turn : IsAt script stores calls (h ++ went.piece)
          (record s { turns = s.turns + 1; tally = tally'; spaces = spaces'; pool = pool' })
      IsAt-turn =
          record {
            opening = at.opening;
            enough = at.enough;
            capped = at.capped;
            lines = at.lines;
            few_calls = at.few_calls;
            few_turns = within;
            legal = stand.legal;
            filed = subst (λ n. FilesLines script.processors (low_in script.daemon) n calls (h ++ went.piece))
                (let e : suc s.turns ≡ s.turns + 1 = omega arith in e)
                (FilesLines-turn script.processors (low_in script.daemon) s.turns calls h went.piece due at.filed turn);
            shows = record {
              calls = λ c known. subst (λ es. (answers_in es ≡ enumerate_from 0 (calls_of c calls)) × IsWhole 0 es) (sym (same c known))
                  (at.shows.calls c known);
              turns = MakesTurns-part script calls script.daemon (s.turns + 1) (h ++ went.piece) within turned_then;
            };
            made = λ c known. ap (progress_of 0) (same c known) ∙ at.made c known;
            short =
                let long = length-append h went.piece in
                let short = at.short in
                let low = daemon_in.0.1 in
                let few = few_more (setting_over script stores) h s.tally s.spaces s.pool script.processors s.turns (Turn d.low) standing next_turn
                tally' f' spaces' pool' went ended in
                omega (arith, long, short, low, few);
            tallied = stand.tallied;
            rest = stand.rest;
            number = stand.number;
            space = stand.space;
            calls_are = at.calls_are;
            processors_are = at.processors_are;
            numbers_are = at.numbers_are;
            daemon_is = at.daemon_is;
            daemon_behind = at.daemon_behind;
            unused_are = at.unused_are;
          }

  -- A call more.
  module _ (line : Line) (next : IsNext script calls line) (n : ℕ) (n_is : n ≡ slice_index_or s.numbers line.processor 0)
      (turns : s.turns ≤ length calls + 1) where
    pub so_far : n ≡ length (calls_of line.processor calls)
    so_far = n_is ∙ at.numbers_are line.processor next.range.0

    unmarked : mark_of (setting_over script stores) line.processor ≡ 0
    unmarked = mark_of_caller script line.processor next.range.0

    made_before : progress_of 0 (entries_of line.processor h) ≡ Some (at_rest 0 n)
    made_before = at.made line.processor next.range.0 ∙ ap (λ k. Some (at_rest 0 k)) (sym so_far)

    pub place_there : line.processor < length s.numbers
    place_there =
        let own = next.range.0 in
        let most = at.opening.has.processors_in.1 in
        let count = at.processors_are in
        omega (arith, own, most, count)

    pub next_call : IsNextJob (setting_over script stores) h line.processor n (MakesCall line.call)
    next_call =
        record {
          known = processor_known script line.processor next.range.0;
          marked = unmarked;
          made = subst (λ m. progress_of m (entries_of line.processor h) ≡ Some (at_rest m n)) (sym unmarked) made_before;
          can = record {
            on = subst (λ k. space_of_call line.call < k) (sym (told-over script stores at.enough)) (call_on script.spaces line.call next.range.1);
            can = (script.spaces, next.range.1);
          };
          few = (let short = at.short in let few = next.few in let most = few_turns in omega (arith, short, few, most));
        }

    module _ (tally' : Tallied) (f' : Flight) (spaces' : List Kept) (pool' : FrameState)
        (went : WentOn IsTallied (since (setting_over script stores) h 0) tally' (flight_for line.processor n (MakesCall line.call)) f' spaces' pool')
        (ended : has_ended (row_of f').outcome ≡ true) where
      call_own : AllByRecursion (λ (e : Entry). e.processor ≡ line.processor) went.piece
      call_own = own (setting_over script stores) h s.tally s.spaces s.pool line.processor n (MakesCall line.call) standing next_call
          tally' f' spaces' pool' went ended

      call_led : progress_from (Some (at_rest 0 n)) went.piece ≡ Some (at_rest 0 (n + 1))
      call_led = subst (λ m. progress_from (Some (at_rest m n)) went.piece ≡ Some (at_rest m (n + 1))) unmarked
          (leads (setting_over script stores) h s.tally s.spaces s.pool line.processor n (MakesCall line.call) standing next_call
          tally' f' spaces' pool' went ended)

      answered : answers_in went.piece ≡ (n, line.call) ∷ []
      answered = answer (setting_over script stores) h tally' spaces' pool' line.processor n line.call f' went ended

      pub sequence : IsSequence line went.piece
      sequence = record { own = call_own; made = n; leads = call_led; answer = answered }

      call_stand : StandAfter (setting_over script stores) (h ++ went.piece) tally' spaces' pool'
      call_stand = subst (λ l. StandAfter (setting_over script stores) l tally' spaces' pool') went.grown
          (stand_then (setting_over script stores) h s.tally s.spaces s.pool line.processor n (MakesCall line.call) standing next_call
          tally' f' spaces' pool' went ended)

      -- the calls and the entries of the line's processor, and of others
      calls_own : calls_of line.processor (calls ++ line ∷ []) ≡ calls_of line.processor calls ++ line.call ∷ []
      calls_own = calls_of-append line.processor calls (line ∷ [])
          ∙ ap (λ l. calls_of line.processor calls ++ l) (calls_of-own line.processor line refl)

      calls_other : (c : ℕ) → c ≢ line.processor → calls_of c (calls ++ line ∷ []) ≡ calls_of c calls
      calls_other c other = calls_of-append c calls (line ∷ []) ∙ ap (λ l. calls_of c calls ++ l) (calls_of-other c line (λ is. other (sym is)))
          ∙ append-nil (calls_of c calls)

      count_own : length (calls_of line.processor (calls ++ line ∷ [])) ≡ n + 1
      count_own = ap length calls_own ∙ length_push (calls_of line.processor calls) line.call ∙ ap (λ k. k + 1) (sym so_far)

      made_own : progress_of 0 (entries_of line.processor (h ++ went.piece)) ≡ Some (at_rest 0 (n + 1))
      made_own =
          ap (progress_of 0) (entries_on line.processor h went.piece call_own)
          ∙ progress_from-append (Some (at_rest 0 0)) (entries_of line.processor h) went.piece
          ∙ ap (λ p. progress_from p went.piece) made_before ∙ call_led

      answers_own : answers_in (entries_of line.processor (h ++ went.piece)) ≡ enumerate_from 0 (calls_of line.processor (calls ++ line ∷ []))
      answers_own =
          ap answers_in (entries_on line.processor h went.piece call_own)
          ∙ filter_map-append (λ (e : Entry). answer_in e.what) (entries_of line.processor h) went.piece
          ∙ ap (λ l. l ++ answers_in went.piece) (at.shows.calls line.processor next.range.0).0
          ∙ ap (λ l. enumerate_from 0 (calls_of line.processor calls) ++ l) answered
          ∙ ap (λ (k : ℕ). enumerate_from 0 (calls_of line.processor calls) ++ (k, line.call) ∷ [])
          (let e : n ≡ 0 + length (calls_of line.processor calls) = omega (arith, so_far) in e)
          ∙ sym (enumerate-push 0 (calls_of line.processor calls) line.call) ∙ ap (enumerate_from 0) (sym calls_own)

      others : (c : ℕ) → c ≢ line.processor → entries_of c (h ++ went.piece) ≡ entries_of c h
      others c other = others_on line.processor c other h went.piece call_own

      made_each : (c : ℕ) → c < script.processors
          → progress_of 0 (entries_of c (h ++ went.piece)) ≡ Some (at_rest 0 (length (calls_of c (calls ++ line ∷ []))))
      made_each c known = elim (cases_eq c line.processor) [
        | inl here ↦
            subst (λ k. progress_of 0 (entries_of k (h ++ went.piece)) ≡ Some (at_rest 0 (length (calls_of k (calls ++ line ∷ []))))) (sym here)
            (made_own ∙ ap (λ k. Some (at_rest 0 k)) (sym count_own))
        | inr other ↦
            ap (progress_of 0) (others c other) ∙ at.made c known
            ∙ ap (λ l. Some (at_rest 0 (length l))) (sym (calls_other c other))
      ]

      answers_each : (c : ℕ) → c < script.processors
          → answers_in (entries_of c (h ++ went.piece)) ≡ enumerate_from 0 (calls_of c (calls ++ line ∷ []))
      answers_each c known = elim (cases_eq c line.processor) [
        | inl here ↦
            subst (λ k. answers_in (entries_of k (h ++ went.piece)) ≡ enumerate_from 0 (calls_of k (calls ++ line ∷ []))) (sym here) answers_own
        | inr other ↦
            ap answers_in (others c other) ∙ (at.shows.calls c known).0 ∙ ap (enumerate_from 0) (sym (calls_other c other))
      ]

      daemon_still : (d : Daemon) → script.daemon ≡ Some d
          → progress_of d.low (entries_of script.processors (h ++ went.piece)) ≡ Some (at_rest d.low s.turns)
      daemon_still d is =
          ap (progress_of d.low) (others script.processors (λ e. (let own = next.range.0 in omega (arith, own, e)))) ∙ turned d is

      number_each : (c : ℕ) → c < script.processors
          → slice_index_or (set s.numbers line.processor (n + 1)) c 0 ≡ length (calls_of c (calls ++ line ∷ []))
      number_each c known = elim (cases_eq c line.processor) [
        | inl here ↦
            subst (λ k. slice_index_or (set s.numbers line.processor (n + 1)) k 0 ≡ length (calls_of k (calls ++ line ∷ []))) (sym here)
            (get_or-set_same s.numbers line.processor (n + 1) 0 place_there ∙ sym count_own)
        | inr other ↦
            get_or-set_other s.numbers line.processor c (n + 1) 0 other ∙ at.numbers_are c known ∙ ap length (sym (calls_other c other))
      ]

      pub IsAt-call : IsAt script stores (calls ++ line ∷ []) (h ++ went.piece)
          (record s {
            numbers = set s.numbers line.processor (n + 1);
            calls = s.calls + 1;
            tally = tally';
            spaces = spaces';
            pool = pool';
          })
      IsAt-call =
          let longer = length_push calls line in
          record {
            opening = at.opening;
            enough = at.enough;
            capped = at.capped;
            lines = All-push (IsLine script.version script.processors script.spaces) calls line at.lines next.range;
            few_calls = (let few = next.few in omega (arith, longer, few));
            few_turns = at.few_turns;
            legal = call_stand.legal;
            filed = FilesLines-line script.processors (low_in script.daemon) s.turns calls line h went.piece turns at.filed sequence;
            shows = record {
              calls = λ c known. (answers_each c known, (length (calls_of c (calls ++ line ∷ [])), made_each c known));
              turns = MakesTurns-part script (calls ++ line ∷ []) script.daemon s.turns (h ++ went.piece) at.few_turns daemon_still;
            };
            made = made_each;
            short =
                let long = length-append h went.piece in
                let short = at.short in
                let few = few_more (setting_over script stores) h s.tally s.spaces s.pool line.processor n (MakesCall line.call) standing next_call
                tally' f' spaces' pool' went ended in
                omega (arith, long, short, few, longer);
            tallied = call_stand.tallied;
            rest = call_stand.rest;
            number = call_stand.number;
            space = call_stand.space;
            calls_are = ap (λ k. k + 1) at.calls_are ∙ sym longer;
            processors_are = length-set s.numbers line.processor (n + 1) ∙ at.processors_are;
            numbers_are = number_each;
            daemon_is = at.daemon_is;
            daemon_behind = at.daemon_behind;
            unused_are = at.unused_are;
          }
