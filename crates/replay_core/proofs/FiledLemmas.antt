-- The lines of a trace are made one after another, and the daemon's turns between them: the history is made of their sequences and turns, and
-- each processor comes to its next job.
use Rattle.std.proofs.Common.{◌≡◌, ◌≢◌, ℕ, zero, suc, ◌+◌, ◌<◌, ◌≤◌, ◌⊎◌, inl, inr, List, [], ◌∷◌, ◌++◌, length, take, drop, get_or, map, Option, Some, None, refl, sym, ap, subst, ◌∙◌, arith, length-append}
use Rattle.std.proofs.Math.ListN.{length-map}
use Rattle.std.proofs.Math.Seq.{take-length}
use Rattle.std.proofs.lemmas.Bool.{cases_eq, cases_lt}
use Rattle.std.proofs.lemmas.List.{append-nil, append_assoc, append_cancel_left, map-append, get_or_past, take_more, length-take-le, length-replicate, take-append-drop, take-map}
use Rattle.std.proofs.lemmas.List.Elements.{filter_map-append, All-get_or}
use Rattle.std.proofs.lemmas.List.FromFn.{get_or-map-range_with_len, length-map-range_with_len}
use Rattle.std.proofs.lemmas.Option.{none-some, slice_get-map, slice_get_past, slice_get_within, get_or_from_slice_get, slice_get-get_or}
use Rattle.std.specs.List.{All, slice_get, enumerate_from, range_with_len}
use Rattle.std.specs.Option.{option_map}
use Rattle.pager_model.specs.declared.call.Call.{Call}
use Rattle.pager_model.specs.declared.call.Line.{Line}
use Rattle.pager_model.specs.declared.entry.Entry.{Entry}
use Rattle.pager_model.specs.declared.entry.Numbered.{Numbered}
use Rattle.pager_model.specs.declared.trace.Daemon.{Daemon}
use Rattle.pager_model.specs.declared.trace.Job.{Job}
use Rattle.pager_model.specs.declared.trace.Job.TheVariants.{Call as MakesCall, Turn}
use Rattle.pager_model.specs.Entries.{entries_of}
use Rattle.pager_model.specs.Legal.{progress_in, progress_at, entries_in}
use Rattle.pager_model.specs.Order.{Progress, at_rest, progress_from}
use Rattle.pager_model.specs.Scripts.{Script}
use Rattle.pager_model.specs.Settings.{mark_of}
use Rattle.pager_model.specs.Showing.{actors, answer_in, answers_in, calls_of, jobs_of, marks_of, IsSequence, IsTurn, FilesLines, FilesBy, IsFiled}
use Rattle.pager_model.proofs.Actors.{actors_alone, actors_most, daemon_known, mark_of_caller, mark_of_daemon, processor_known}
use Rattle.pager_model.proofs.Histories.{progress_from-append}
use Rattle.pager_model.specs.TraceText.{HasText, IsLine}
use Rattle.pager_model.specs.Stores.{setting_over}
use Rattle.pager_model.specs.Stored.{Stored}
use Rattle.pager_core.specs.Running.{Running, AreOfMark, calls_among, jobs_at, flight_at, flight_for, flight_of, first_flights, progress_of_actor, progress_by_flight, HasEnded, IsLawful}
use Rattle.pager_core.proofs.Lists.{enumerate-push}
use Rattle.pager_core.proofs.StartMachines.{kinds_of}
use Rattle.replay_core.specs.DoneJobs.{NoneKeeps, IsBetween, DidJob, DidNext, DidJobs, DidRest}
use Rattle.replay_core.proofs.WholeJobs.{IsNew-flight_of, at_rest_by, none_left, past}
use Rattle.replay_core.proofs.RunLemmas.{IsRunOf, calls_alone, jobs_known, jobs_of_calls, jobs_of_daemon, length-jobs}
use Rattle.pager_core.proofs.FiledLines.{FilesLines-line, FilesLines-turn, entries_on, calls_of-append, calls_of-own, calls_of-other}

-- Sequences and turns, and the pieces of a history.

-- the element behind a front
get-front : {X : Type 0} (xs ys : List X) (x : X) → slice_get (xs ++ x ∷ ys) (length xs) ≡ Some x
get-front [] ys x = refl
get-front (y ∷ xs) ys x = get-front xs ys x

-- One job of a processor whose jobs have its mark, done to its end.
pub record MarkedJob (old new : Running) (c n mark : ℕ) : Type 0 where
  pub was : IsLawful old
  pub known : c < length old.jobs
  pub marked : mark_of old.given c ≡ mark
  pub are : AreOfMark mark (jobs_at old.jobs c)
  pub about : flight_at old.flights c ≡ flight_of c n (jobs_at old.jobs c)
  pub did : DidJob old new c n

module _ (old new : Running) (c n mark : ℕ) (job : MarkedJob old new c n mark) where
  pub history_is : entries_in new.history ≡ entries_in old.history ++ entries_in job.did.piece
  history_is = ap entries_in job.did.history ∙ map-append (λ (m : Numbered). m.entry) old.history job.did.piece

  entries_are : entries_of c (entries_in new.history) ≡ entries_of c (entries_in old.history) ++ entries_in job.did.piece
  entries_are = ap (entries_of c) history_is ∙ entries_on c (entries_in old.history) (entries_in job.did.piece) job.did.own

  rest_before : progress_of_actor old c ≡ at_rest mark n
  rest_before =
      ap (λ m. progress_by_flight m (jobs_at old.jobs c) (flight_at old.flights c)) job.marked
      ∙ at_rest_by mark c n (jobs_at old.jobs c) (flight_at old.flights c) job.are job.about (omega (arith, job.did.there))

  same_own : jobs_at new.jobs c ≡ jobs_at old.jobs c
  same_own = ap (λ l. jobs_at l c) job.did.same_jobs

  rest_after : progress_of_actor new c ≡ at_rest mark (n + 1)
  rest_after =
      ap (λ m. progress_by_flight m (jobs_at new.jobs c) (flight_at new.flights c)) (ap (λ g. mark_of g c) job.did.same_given ∙ job.marked)
      ∙ at_rest_by mark c (n + 1) (jobs_at new.jobs c) (flight_at new.flights c)
      (subst (AreOfMark mark) (sym same_own) job.are) job.did.next
      (subst (λ l. n + 1 ≤ length l) (sym same_own) (omega (arith, job.did.there)))

  known_now : c < length new.jobs
  known_now = subst (λ l. c < length l) (sym job.did.same_jobs) job.known

  pub leads_on : progress_from (Some (at_rest mark n)) (entries_in job.did.piece) ≡ Some (at_rest mark (n + 1))
  leads_on =
      let g = old.given in
      let before : progress_in g c (entries_of c (entries_in old.history)) ≡ Some (at_rest mark n) = job.was.progress c job.known
      ∙ ap (λ p. Some p) rest_before in
      let after : progress_in g c (entries_of c (entries_in new.history)) ≡ Some (at_rest mark (n + 1)) =
      ap (λ g. progress_at g (entries_in new.history) c) (sym job.did.same_given) ∙ job.did.lawful.progress c known_now
      ∙ ap (λ p. Some p) rest_after in
      sym (ap (λ p. progress_from p (entries_in job.did.piece)) before)
      ∙ sym (progress_from-append (Some (at_rest (mark_of g c) 0)) (entries_of c (entries_in old.history)) (entries_in job.did.piece))
      ∙ sym (ap (progress_in g c) entries_are) ∙ after

  -- a daemon's is one turn
  pub IsTurn-did : IsTurn c mark (entries_in job.did.piece)
  IsTurn-did = record { own = job.did.own; made = n; leads = leads_on }

  -- and a call answers it
  module _ (calls : List Call) (call : Call) (own_are : jobs_at old.jobs c ≡ map MakesCall calls) (at : slice_get calls n ≡ Some call) where
    taken : (k : ℕ) → calls_among (take k (jobs_at old.jobs c)) ≡ take k calls
    taken k = ap (λ l. calls_among (take k l)) own_are ∙ ap calls_among (take-map MakesCall k calls) ∙ calls_alone (take k calls)

    pub answered : answers_in (entries_in job.did.piece) ≡ (n, call) ∷ []
    answered =
        let below = slice_get_within calls n call at in
        let before : answers_in (entries_of c (entries_in old.history)) ≡ enumerate_from 0 (take n calls) =
        job.was.answers c job.known ∙ ap (λ (p : Progress). enumerate_from 0 (calls_among (take p.made (jobs_at old.jobs c)))) rest_before
        ∙ ap (enumerate_from 0) (taken n) in
        let after : answers_in (entries_of c (entries_in new.history)) ≡ enumerate_from 0 (take (n + 1) calls) =
        job.did.lawful.answers c known_now ∙ ap (λ (p : Progress). enumerate_from 0
        (calls_among (take p.made (jobs_at new.jobs c)))) rest_after
        ∙ ap (λ l. enumerate_from 0 (calls_among (take (n + 1) l))) same_own ∙ ap (enumerate_from 0) (taken (n + 1)) in
        let more : take (n + 1) calls ≡ take n calls ++ call ∷ [] =
        take_more calls n call below ∙ ap (λ x. take n calls ++ x ∷ []) (get_or_from_slice_get calls n call call at) in
        let long : length (take n calls) ≡ n = length-take-le n calls (omega (arith, below)) in
        append_cancel_left (answers_in (entries_of c (entries_in old.history))) (answers_in (entries_in job.did.piece)) ((n, call) ∷ [])
        (sym (filter_map-append (λ (e : Entry). answer_in e.what) (entries_of c (entries_in old.history)) (entries_in job.did.piece))
        ∙ sym (ap answers_in entries_are) ∙ after ∙ ap (enumerate_from 0) more ∙ enumerate-push 0 (take n calls) call
        ∙ ap (λ m. enumerate_from 0 (take n calls) ++ (m, call) ∷ []) (let e : 0 + length (take n calls) ≡ n = omega (arith, long) in e)
        ∙ ap (λ l. l ++ (n, call) ∷ []) (sym before))

-- After the first lines.

-- how many of these lines are a processor's
abbrev pub count_of : ℕ → List Line → ℕ
count_of c lines = length (calls_of c lines)

-- The first k lines of a trace are made, each by its sequence, and n turns of its daemon between them, and each processor's next job comes next.
pub record Filed (script : Script) (stores : List Stored) (k n : ℕ) (run : Running) : Type 0 where
  pub of : IsRunOf script stores run
  pub flights : (c : ℕ) → c ≢ script.processors → flight_at run.flights c ≡ flight_of c (count_of c (take k script.calls)) (jobs_at run.jobs c)
  pub daemon : flight_at run.flights script.processors ≡ flight_of script.processors n (jobs_at run.jobs script.processors)
  pub few : n ≤ length (jobs_at run.jobs script.processors)
  pub filed : FilesLines script.processors (mark_of (setting_over script stores) script.processors) n (take k script.calls) (entries_in run.history)

first_at : (jobs : List (List Job)) (c : ℕ) → flight_at (first_flights jobs) c ≡ flight_of c 0 (jobs_at jobs c)
first_at jobs c = elim (cases_lt c (length jobs)) [
  | inl known ↦ get_or-map-range_with_len (λ c. flight_of c 0 (jobs_at jobs c)) 0 (length jobs) c c None known (omega arith)
  | inr past ↦
      get_or_past (first_flights jobs) c None
      (subst (λ n. n ≤ c) (sym (length-map-range_with_len (λ c. flight_of c 0 (jobs_at jobs c)) 0 (length jobs))) past)
      ∙ sym (ap (flight_of c 0) (get_or_past jobs c [] past))
]

pub Filed-start : (script : Script) (stores : List Stored) (run : Running) → run.given ≡ setting_over script stores
    → run.unused ≡ drop script.spaces stores → run.history ≡ [] → run.jobs ≡ map (λ c. jobs_of c script) (range_with_len 0 (actors script))
    → run.flights ≡ first_flights run.jobs → IsLawful run → Filed script stores 0 0 run
Filed-start script stores run given unused history jobs flights lawful =
    let at : (c : ℕ) → flight_at run.flights c ≡ flight_of c 0 (jobs_at run.jobs c) = λ c. ap (λ l. flight_at l c) flights
    ∙ first_at run.jobs c in
    record {
      of = record { given = given; unused = unused; jobs = jobs; lawful = lawful };
      flights = λ c other. at c;
      daemon = at script.processors;
      few = omega arith;
      filed = ap entries_in history;
    }

-- no flight keeps a space between jobs
pub NoneKeeps-filed : (script : Script) (stores : List Stored) (k n : ℕ) (run : Running) → Filed script stores k n run → NoneKeeps run.flights
NoneKeeps-filed script stores k n run now c f is = elim (cases_eq c script.processors) [
  | inl same ↦ (IsNew-flight_of script.processors n (jobs_at run.jobs script.processors) f
      (sym now.daemon ∙ sym (ap (flight_at run.flights) same) ∙ is)).keeps
  | inr other ↦ (IsNew-flight_of c (count_of c (take k script.calls)) (jobs_at run.jobs c) f (sym (now.flights c other) ∙ is)).keeps
]

-- a processor of a trace does jobs of its mark
are_of : (script : Script) → HasText script → (stores : List Stored) (run : Running) → IsRunOf script stores run → (c : ℕ)
    → AreOfMark (mark_of (setting_over script stores) c) (jobs_at run.jobs c)
are_of script has stores run of c = elim (cases_lt c (actors script)) [
  | inl known ↦ subst (AreOfMark (mark_of (setting_over script stores) c)) (sym (jobs_known script run.jobs of.jobs c known))
      (kinds_of script has c)
  | inr past ↦ λ n job at.
      let none : jobs_at run.jobs c ≡ [] = get_or_past run.jobs c [] (subst (λ n. n ≤ c) (sym (length-jobs script run.jobs of.jobs)) past) in
      absurd (none-some job (ap (λ (l : List Job). slice_get l n) (sym none) ∙ at))
]

-- how many jobs a processor has done that is between two of them
pub made_by : (script : Script) → HasText script → (stores : List Stored) (run : Running) → IsRunOf script stores run → (c n : ℕ)
    → flight_at run.flights c ≡ flight_of c n (jobs_at run.jobs c) → n ≤ length (jobs_at run.jobs c) → (progress_of_actor run c).made ≡ n
made_by script has stores run of c n at few =
    ap (λ (p : Progress). p.made)
    (ap (λ g. progress_by_flight (mark_of g c) (jobs_at run.jobs c) (flight_at run.flights c)) of.given
    ∙ at_rest_by (mark_of (setting_over script stores) c) c n (jobs_at run.jobs c) (flight_at run.flights c)
    (are_of script has stores run of c) at few)

pub between_by : (script : Script) → HasText script → (stores : List Stored) (run : Running) → IsRunOf script stores run → (c n : ℕ)
    → flight_at run.flights c ≡ flight_of c n (jobs_at run.jobs c) → n ≤ length (jobs_at run.jobs c) → IsBetween run c
between_by script has stores run of c n at few =
    at ∙ ap (λ m. flight_of c m (jobs_at run.jobs c)) (sym (made_by script has stores run of c n at few))

-- no line moves the daemon, and no turn moves the lines' processors
moved : (run new : Running) (c d n m : ℕ) → DidJob run new c n → d ≢ c → flight_at run.flights d ≡ flight_of d m (jobs_at run.jobs d)
    → flight_at new.flights d ≡ flight_of d m (jobs_at new.jobs d)
moved run new c d n m did other at = did.others d other ∙ at ∙ ap (λ l. flight_of d m (jobs_at l d)) (sym did.same_jobs)

run_moved : (script : Script) (stores : List Stored) (run new : Running) (c n : ℕ) → IsRunOf script stores run → DidJob run new c n
    → IsRunOf script stores new
run_moved script stores run new c n of did =
    record { given = did.same_given ∙ of.given; unused = did.same_unused ∙ of.unused; jobs = did.same_jobs ∙ of.jobs; lawful = did.lawful }

-- The daemon's turns.
module _ (script : Script) (has : HasText script) (stores : List Stored) (k : ℕ) (within : k ≤ length script.calls) where
  -- one turn more, where there was one before each line so far
  pub Filed-turn : (n : ℕ) (run new : Running) → Filed script stores k n run → k ≤ n → DidJob run new script.processors n
      → Filed script stores k (suc n) new
  Filed-turn n run new now many did =
      let few = did.there in
      let one : n + 1 ≡ suc n = omega arith in
      let known : script.processors < length run.jobs = elim (cases_lt script.processors (length run.jobs)) [
        | inl below ↦ below
        | inr past ↦ (let none : length (jobs_at run.jobs script.processors) ≡ 0 =
            ap length (get_or_past run.jobs script.processors [] past) in absurd (omega (arith, few, none)))
      ] in
      let marked : mark_of run.given script.processors ≡ (mark_of (setting_over script stores) script.processors) =
      ap (λ g. mark_of g script.processors) now.of.given in
      let turn = IsTurn-did run new script.processors n (mark_of (setting_over script stores) script.processors) (record {
        was = now.of.lawful;
        known = known;
        marked = marked;
        are = are_of script has stores run now.of script.processors;
        about = now.daemon;
        did = did;
      }) in
      let long : length (take k script.calls) ≡ k = length-take-le k script.calls within in
      record {
        of = run_moved script stores run new script.processors n now.of did;
        flights = λ d other. moved run new script.processors d n (count_of d (take k script.calls)) did other (now.flights d other);
        daemon = did.next ∙ ap (λ m. flight_of script.processors m (jobs_at new.jobs script.processors)) one;
        few = subst (λ l. suc n ≤ length (jobs_at l script.processors)) (sym did.same_jobs) (omega (arith, few));
        filed = subst (FilesLines script.processors (mark_of (setting_over script stores) script.processors) (suc n) (take k script.calls))
            (sym (ap entries_in did.history ∙ map-append (λ (m : Numbered). m.entry) run.history did.piece))
            (FilesLines-turn script.processors (mark_of (setting_over script stores) script.processors) n (take k script.calls)
            (entries_in run.history) (entries_in did.piece) (omega (arith, long, many)) now.filed turn);
      }

  -- so many turns more
  pub Filed-turns : (m n : ℕ) (run new : Running) → Filed script stores k n run → k ≤ n → DidJobs m run new script.processors n
      → Filed script stores k (n + m) new
  Filed-turns zero n run new now many did = subst (λ i. Filed script stores k i new) (let e : n ≡ n + 0 = omega arith in e)
      (subst (Filed script stores k n) (sym did) now)
  Filed-turns (suc m) n run new now many did =
      subst (λ i. Filed script stores k i new) (let e : suc (n + m) ≡ n + suc m = omega arith in e)
      (Filed-turn (n + m) did.0 new (Filed-turns m n run did.0 now many did.1) (omega (arith, many)) did.2)

-- where none is left no job is done
none_done : (m n c : ℕ) (run new : Running) → flight_at run.flights c ≡ None → flight_at run.flights c ≡ flight_of c n (jobs_at run.jobs c)
    → DidJobs m run new c n → new ≡ run
none_done zero n c run new none at did = did
none_done (suc m) n c run new none at did =
    let same : did.0 ≡ run = none_done m n c run did.0 none at did.1 in
    let there : n + m < length (jobs_at did.0.jobs c) = did.2.there in
    let here : n + m < length (jobs_at run.jobs c) = subst (λ (r : Running). n + m < length (jobs_at r.jobs c)) same there in
    let end = past (jobs_at run.jobs c) n (none_left c n (slice_get (jobs_at run.jobs c) n) (sym none ∙ at)) in
    absurd (omega (arith, here, end))

-- Between the lines: the first k lines are made, and before each of them the daemon made a turn, while it had one left.
pub record Filing (script : Script) (stores : List Stored) (k : ℕ) (run : Running) : Type 0 where
  pub turns : ℕ
  pub filed : Filed script stores k turns run
  pub due : (turns ≡ k) ⊎ ((flight_at run.flights script.processors ≡ None) × (turns ≤ k))

-- And where the turn before the next line was made as well.
pub record Turned (script : Script) (stores : List Stored) (k : ℕ) (run : Running) : Type 0 where
  pub turns : ℕ
  pub filed : Filed script stores k turns run
  pub due : (turns ≡ k + 1) ⊎ ((flight_at run.flights script.processors ≡ None) × (turns ≤ k))

pub Filing-start : (script : Script) (stores : List Stored) (run : Running) → Filed script stores 0 0 run → Filing script stores 0 run
Filing-start script stores run filed = record { turns = 0; filed = filed; due = inl refl }

module _ (script : Script) (has : HasText script) (stores : List Stored) (k : ℕ) (within : k ≤ length script.calls) (run : Running)
    (now : Filing script stores k run) where
  pub between_turns : IsBetween run script.processors
  between_turns = between_by script has stores run now.filed.of script.processors now.turns now.filed.daemon now.filed.few

  pub none_between : NoneKeeps run.flights
  none_between = NoneKeeps-filed script stores k now.turns run now.filed

  turns_made : (progress_of_actor run script.processors).made ≡ now.turns
  turns_made = made_by script has stores run now.filed.of script.processors now.turns now.filed.daemon now.filed.few

  pub Turned-next : (new : Running) → DidNext run new script.processors → Turned script stores k new
  Turned-next new (inr (none, same)) =
      subst (Turned script stores k) (sym same) (record {
        turns = now.turns;
        filed = now.filed;
        due = elim now.due [ inl all ↦ inr (none, omega (arith, all)) | inr left ↦ inr left ];
      })
  Turned-next new (inl (some, did)) = elim now.due [
    | inl all ↦ record {
      turns = suc now.turns;
      filed = Filed-turn script has stores k within now.turns run new now.filed (omega (arith, all))
          (subst (DidJob run new script.processors) turns_made did);
      due = inl (omega (arith, all));
    }
    | inr left ↦ absurd (some left.0)
  ]

  -- what is left of them comes at the end
  pub Filed-rest : (new : Running) → DidRest run new script.processors → (t : ℕ) × Filed script stores k t new
  Filed-rest new rest =
      let did : DidJobs rest.0 run new script.processors now.turns = subst (DidJobs rest.0 run new script.processors) turns_made rest.1 in
      elim now.due [
        | inl all ↦ (now.turns + rest.0, Filed-turns script has stores k within rest.0 now.turns run new now.filed (omega (arith, all)) did)
        | inr left ↦ (
          now.turns,
          subst (Filed script stores k now.turns)
              (sym (none_done rest.0 now.turns script.processors run new left.0 now.filed.daemon did)) now.filed,
        )
      ]

-- One more line.

-- The line of a trace at a place, as it is read there.
pub record LineAt (script : Script) (k : ℕ) : Type 0 where
  pub line : Line
  pub within : k < length script.calls
  pub at : slice_get script.calls k ≡ Some line
  pub known : line.processor < script.processors

abbrev pub LineAt-read : (script : Script) (lines : List Line) (k : ℕ) (d : Line) → lines ≡ script.calls → k < length lines
    → All (IsLine script.version script.processors script.spaces) lines → LineAt script k
LineAt-read script lines k d same within all =
    let line : Line = get_or lines k d in
    record {
      line = line;
      within = subst (λ l. k < length l) same within;
      at = subst (λ l. slice_get l k ≡ Some line) same (slice_get-get_or lines k d within);
      known = (All-get_or (IsLine script.version script.processors script.spaces) lines k d within all).0;
    }

module _ (script : Script) (has : HasText script) (stores : List Stored) (k : ℕ) (run : Running) (now : Turned script stores k run)
    (here : LineAt script k) where
  take_line : take (k + 1) script.calls ≡ take k script.calls ++ here.line ∷ []
  take_line = take_more script.calls k here.line here.within ∙ ap (λ x. take k script.calls ++ x ∷ [])
      (get_or_from_slice_get script.calls k here.line here.line here.at)

  whole : script.calls ≡ (take k script.calls ++ here.line ∷ []) ++ drop (k + 1) script.calls
  whole = sym (take-append-drop (k + 1) script.calls) ∙ ap (λ l. l ++ drop (k + 1) script.calls) take_line

  abbrev so_far : ℕ
  so_far = count_of here.line.processor (take k script.calls)

  other : here.line.processor ≢ script.processors
  other is = (let known = here.known in omega (arith, known, is))

  own_is : jobs_at run.jobs here.line.processor ≡ map MakesCall (calls_of here.line.processor script.calls)
  own_is = jobs_known script run.jobs now.filed.of.jobs here.line.processor (processor_known script here.line.processor here.known)
      ∙ jobs_of_calls script here.line.processor here.known

  -- its call is its processor's next
  call_next : slice_get (calls_of here.line.processor script.calls) so_far ≡ Some here.line.call
  call_next =
      let before = calls_of here.line.processor (take k script.calls) in
      let after = calls_of here.line.processor (drop (k + 1) script.calls) in
      let all : calls_of here.line.processor script.calls ≡ before ++ here.line.call ∷ after =
      ap (calls_of here.line.processor) whole ∙ calls_of-append here.line.processor (take k script.calls ++ here.line ∷ [])
      (drop (k + 1) script.calls)
      ∙ ap (λ l. l ++ after) (calls_of-append here.line.processor (take k script.calls) (here.line ∷ [])
      ∙ ap (λ l. before ++ l) (calls_of-own here.line.processor here.line refl))
      ∙ append_assoc before (here.line.call ∷ []) after in
      ap (λ l. slice_get l (length before)) all ∙ get-front before after here.line.call

  job_next : slice_get (jobs_at run.jobs here.line.processor) so_far ≡ Some (MakesCall here.line.call)
  job_next = ap (λ l. slice_get l so_far) own_is ∙ slice_get-map MakesCall (calls_of here.line.processor script.calls) so_far
      ∙ ap (option_map MakesCall) call_next

  few : so_far < length (jobs_at run.jobs here.line.processor)
  few = slice_get_within (jobs_at run.jobs here.line.processor) so_far (MakesCall here.line.call) job_next

  pub flies_line : flight_at run.flights here.line.processor ≢ None
  flies_line none =
      none-some (flight_for here.line.processor so_far (MakesCall here.line.call))
      (sym none ∙ now.filed.flights here.line.processor other ∙ ap (option_map (flight_for here.line.processor so_far)) job_next)

  pub between_line : IsBetween run here.line.processor
  between_line = between_by script has stores run now.filed.of here.line.processor so_far (now.filed.flights here.line.processor other)
      (omega (arith, few))

  pub none_line : NoneKeeps run.flights
  none_line = NoneKeeps-filed script stores k now.turns run now.filed

  made_line : (progress_of_actor run here.line.processor).made ≡ so_far
  made_line = made_by script has stores run now.filed.of here.line.processor so_far (now.filed.flights here.line.processor other)
      (omega (arith, few))

  known_in_run : here.line.processor < length run.jobs
  known_in_run = subst (λ m. here.line.processor < m) (sym (length-jobs script run.jobs now.filed.of.jobs))
      (processor_known script here.line.processor here.known)

  marked_line : mark_of run.given here.line.processor ≡ 0
  marked_line = ap (λ g. mark_of g here.line.processor) now.filed.of.given ∙ mark_of_caller script here.line.processor here.known

  are_calls : AreOfMark 0 (jobs_at run.jobs here.line.processor)
  are_calls = subst (λ m. AreOfMark m (jobs_at run.jobs here.line.processor)) (mark_of_caller script here.line.processor here.known)
      (are_of script has stores run now.filed.of here.line.processor)

  pub Filing-line : (new : Running) → DidJob run new here.line.processor (progress_of_actor run here.line.processor).made
      → Filing script stores (k + 1) new
  Filing-line new did_as =
      let did : DidJob run new here.line.processor so_far = subst (DidJob run new here.line.processor) made_line did_as in
      let job : MarkedJob run new here.line.processor so_far 0 = record {
        was = now.filed.of.lawful;
        known = known_in_run;
        marked = marked_line;
        are = are_calls;
        about = now.filed.flights here.line.processor other;
        did = did;
      } in
      let seq : IsSequence here.line (entries_in did.piece) = record {
        own = did.own;
        made = so_far;
        leads = leads_on run new here.line.processor so_far 0 job;
        answer = answered run new here.line.processor so_far 0 job
            (calls_of here.line.processor script.calls) here.line.call own_is call_next;
      } in
      let count_own : count_of here.line.processor (take (k + 1) script.calls) ≡ so_far + 1 =
      ap (count_of here.line.processor) take_line ∙ ap length (calls_of-append here.line.processor (take k script.calls) (here.line ∷ [])
      ∙ ap (λ l. calls_of here.line.processor (take k script.calls) ++ l) (calls_of-own here.line.processor here.line refl))
      ∙ length-append (calls_of here.line.processor (take k script.calls)) (here.line.call ∷ []) in
      let count_other : (d : ℕ) → d ≢ here.line.processor → count_of d (take (k + 1) script.calls) ≡ count_of d (take k script.calls) =
      λ d differs. ap (count_of d) take_line ∙ ap length (calls_of-append d (take k script.calls) (here.line ∷ [])
      ∙ ap (λ l. calls_of d (take k script.calls) ++ l) (calls_of-other d here.line (λ same. differs (sym same)))
      ∙ append-nil (calls_of d (take k script.calls))) in
      let long : length (take k script.calls) ≡ k = length-take-le k script.calls (let within = here.within in omega (arith, within)) in
      let most : now.turns ≤ length (take k script.calls) + 1 =
      elim now.due [ inl all ↦ omega (arith, all, long) | inr left ↦ omega (arith, left.1, long) ] in
      let daemon_same : flight_at new.flights script.processors ≡ flight_at run.flights script.processors =
      did.others script.processors (λ same. other (sym same)) in
      record {
        turns = now.turns;
        filed = record {
          of = run_moved script stores run new here.line.processor so_far now.filed.of did;
          flights = λ d away. elim (cases_eq d here.line.processor) [
            | inl same ↦ subst (λ d. flight_at new.flights d ≡ flight_of d (count_of d (take (k + 1) script.calls)) (jobs_at new.jobs d))
                (sym same)
                (did.next ∙ ap (λ m. flight_of here.line.processor m (jobs_at new.jobs here.line.processor)) (sym count_own))
            | inr differs ↦
                moved run new here.line.processor d so_far (count_of d (take k script.calls)) did differs (now.filed.flights d away)
                ∙ ap (λ m. flight_of d m (jobs_at new.jobs d)) (sym (count_other d differs))
          ];
          daemon = moved run new here.line.processor script.processors so_far now.turns did (λ same. other (sym same)) now.filed.daemon;
          few = subst (λ l. now.turns ≤ length (jobs_at l script.processors)) (sym did.same_jobs) now.filed.few;
          filed =
              subst (FilesLines script.processors (mark_of (setting_over script stores) script.processors) now.turns (take (k + 1) script.calls))
              (sym (ap entries_in did.history ∙ map-append (λ (m : Numbered). m.entry) run.history did.piece))
              (subst (λ l. FilesLines script.processors (mark_of (setting_over script stores) script.processors) now.turns l
              (entries_in run.history ++ entries_in did.piece)) (sym take_line)
              (FilesLines-line script.processors (mark_of (setting_over script stores) script.processors) now.turns (take k script.calls) here.line
              (entries_in run.history) (entries_in did.piece) most now.filed.filed seq));
        };
        due = elim now.due [ inl all ↦ inl all | inr left ↦ inr (daemon_same ∙ left.0, omega (arith, left.1)) ];
      }

-- After all lines and turns.
module _ (script : Script) (has : HasText script) (stores : List Stored) (t : ℕ) (run : Running)
    (now : Filed script stores (length script.calls) t run) (none : flight_at run.flights script.processors ≡ None) where
  lines : take (length script.calls) script.calls ≡ script.calls
  lines = take-length script.calls

  -- no call is left
  pub HasEnded-filed : HasEnded run
  HasEnded-filed c = elim (cases_eq c script.processors) [
    | inl same ↦ ap (flight_at run.flights) same ∙ none
    | inr other ↦ elim (cases_lt c script.processors) [
      | inl known ↦
          let n = count_of c (take (length script.calls) script.calls) in
          let own = jobs_known script run.jobs now.of.jobs c (processor_known script c known) ∙ jobs_of_calls script c known in
          let few : length (jobs_at run.jobs c) ≤ n =
          (let e : length (jobs_at run.jobs c) ≡ n = ap length own ∙ length-map (calls_of c script.calls) MakesCall
          ∙ ap (count_of c) (sym lines) in omega (arith, e)) in
          now.flights c other ∙ ap (option_map (flight_for c n)) (slice_get_past (jobs_at run.jobs c) n few)
      | inr past ↦
          let most = actors_most script in
          let count = length-jobs script run.jobs now.of.jobs in
          let gone : jobs_at run.jobs c ≡ [] = get_or_past run.jobs c [] (omega (arith, past, other, most, count)) in
          now.flights c other ∙ ap (flight_of c (count_of c (take (length script.calls) script.calls))) gone
    ]
  ]

  turns_all : t ≡ length (jobs_at run.jobs script.processors)
  turns_all =
      let end = past (jobs_at run.jobs script.processors) t (none_left script.processors t (slice_get (jobs_at run.jobs script.processors) t)
      (sym none ∙ now.daemon)) in
      let few = now.few in
      omega (arith, end, few)

  files : (mark turns : ℕ) → mark_of (setting_over script stores) script.processors ≡ mark → t ≡ turns
      → FilesLines script.processors mark turns script.calls (entries_in run.history)
  files mark turns m_is t_is =
      subst (λ m. FilesLines script.processors m turns script.calls (entries_in run.history)) m_is
      (subst (λ n. FilesLines script.processors (mark_of (setting_over script stores) script.processors) n script.calls
      (entries_in run.history)) t_is
      (subst (λ l. FilesLines script.processors (mark_of (setting_over script stores) script.processors) t l
      (entries_in run.history)) lines now.filed))

  -- and the whole run is the trace's
  by_daemon : (o : Option Daemon) → script.daemon ≡ o → FilesBy script o (entries_in run.history)
  by_daemon None is =
      let alone = actors_alone script is in
      let count = length-jobs script run.jobs now.of.jobs in
      let zero_turns : t ≡ 0 = turns_all ∙ ap length (get_or_past run.jobs script.processors [] (omega (arith, count, alone))) in
      let zero_mark : mark_of (setting_over script stores) script.processors ≡ 0 =
      get_or_past (marks_of script) script.processors 0 (omega (arith, alone)) in
      files 0 0 zero_mark zero_turns
  by_daemon (Some d) is =
      files d.low d.turns (mark_of_daemon script d is)
      (turns_all ∙ ap length (jobs_known script run.jobs now.of.jobs script.processors (daemon_known script d is) ∙ jobs_of_daemon script has d is)
      ∙ length-replicate {A = Job} d.turns (Turn d.low))

  pub IsFiled-all : IsFiled script (entries_in run.history)
  IsFiled-all = by_daemon script.daemon refl
