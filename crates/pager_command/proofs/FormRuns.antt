-- A run of what is read: where it was made, where none was, and what follows of each.
use Rattle.std.proofs.Common.{◌≡◌, ◌≢◌, ℕ, ◌≤◌, ◌⊎◌, inl, inr, List, [], length, map, Option, Some, None, MatchOption, IsSomeAnd, refl, sym, subst, arith}
use Rattle.std.proofs.lemmas.List.{length-map}
use Rattle.io_core.specs.Faults.{Rose}
use Rattle.io_core.proofs.FaultCounts.{rose_by_one}
use Rattle.pager_core.specs.declared.run_parts.Gathered.{Gathered}
use Rattle.pager_model.specs.Legal.{entries_in}
use Rattle.pager_model.specs.Scripts.{Script}
use Rattle.pager_model.specs.Stored.{Stored}
use Rattle.pager_core.specs.Replays.{IsReplay, AreItsCounts}
use Rattle.pager_command.specs.declared.form.Order.{Order}
use Rattle.pager_command.specs.declared.form.Report.{Report}
use Rattle.pager_command.specs.declared.outcome.Outcome.{Outcome}
use Rattle.pager_command.specs.declared.status.TheConstants.{DONE, USAGE, REFUSED, READ_FAULT, MEMORY, WRITE_FAULT}
use Rattle.pager_command.specs.Forms.{Admits, ComesBy}
use Rattle.pager_command.specs.Runs.{EndsRun, IsEndOf, IsRunnable, IsStatus, IsStopped, IsTold, MadeRun, ReadAndMade, RunsBy, WasRead, WasRun, WasStopped}
use Rattle.pager_command.specs.Views.{Ending, Ends, OutViews, Views, ending, replayed}
use Rattle.pager_command.proofs.Completeness.{counts_none_for_processors, counts_none, was_runnable}
use Rattle.trace_reader.specs.declared.fault.TraceFault.{TraceFault}

-- the statuses of a run that was made
pub made_statuses : (report : Report) (status : ℕ) → IsEndOf report status → (status ≡ DONE) ⊎ ((status ≡ WRITE_FAULT) ⊎ (status ≡ MEMORY))
made_statuses report status ended =
    elim ended [ inl done ↦ inl done | inr other ↦ elim other [ inl failed ↦ inr (inl failed) | inr more ↦ inr (inr more.0) ] ]

-- these are statuses of the program
pub made_status : (status : ℕ) → (status ≡ DONE) ⊎ ((status ≡ WRITE_FAULT) ⊎ (status ≡ MEMORY)) → IsStatus status
made_status status which =
    elim which [
      | inl done ↦ inl done
      | inr other ↦ elim other [ inl failed ↦ inr (inr (inr (inr (inr failed)))) | inr memory ↦ inr (inr (inr (inr (inl memory)))) ]
    ]

-- where nothing was refused, nothing has to be told
pub told_none : (status : ℕ) (refusal : Option TraceFault) → refusal ≡ None → status ≢ REFUSED → status ≢ READ_FAULT → IsTold status refusal
told_none status refusal none not_refused no_fault =
    record {
      own_status = rw none tt;
      refused = λ is. absurd (not_refused is);
      read_fault = λ is. absurd (no_fault is);
    }

-- what was gathered of a replay over a store for each space at least can be told
pub WasRun-gathered : {P : Type 0} (seen : P → Stored) (script : Script) (stores : List P) (gathered : Gathered P) → script.spaces ≤ length stores
    → IsReplay script (map seen stores) gathered.history.items (map seen gathered.stores.items)
    → AreItsCounts script (map seen stores) gathered.history.items gathered.summary
    → WasRun (replayed script (map seen stores) gathered.history.items) gathered.summary
WasRun-gathered seen script stores gathered enough run counts =
    record {
      enough = omega (arith, enough, length-map stores seen);
      legal = run.legal;
      shows = run.shows;
      counts = counts;
    }

-- and so a run was made, however it was told
pub MadeRun-gathered : {K P : Type 0} (out : OutViews K P) (order : Order) (report : Report) (stores : List P) (end : Ending K P)
    (script : Script) (gathered : Gathered P)
    → script.spaces ≤ length stores
    → IsReplay script (map out.seen stores) gathered.history.items (map out.seen gathered.stores.items)
    → AreItsCounts script (map out.seen stores) gathered.history.items gathered.summary
    → ComesBy order script (entries_in gathered.history.items)
    → end.outcome.refusal ≡ None → end.outcome.history ≡ gathered.history → end.outcome.stores ≡ gathered.stores
    → ((before : List Stored) → WasRun (replayed script before gathered.history.items) gathered.summary
    → EndsRun out.taken out.write_faults end.before end.after report (replayed script before gathered.history.items) end.outcome.status)
    → MadeRun out order report stores end script
MadeRun-gathered out order report stores end script gathered enough run counts ordered refusal history kept ends =
    record {
      refusal = refusal;
      enough = enough;
      run = rw (history, kept) run;
      ordered = rw history ordered;
      ends = rw history (ends (map out.seen stores) (WasRun-gathered out.seen script stores gathered enough run counts));
    }

-- there was no memory for a run of a text that was read
stopped_for_memory : (report : Report) (left left' : Option (List ℕ)) (faults faults' stores : ℕ) (script : Script)
    → WasRead script left left' → faults' ≡ faults → Admits report script → script.spaces ≤ stores
    → IsStopped report left left' faults faults' stores MEMORY None
stopped_for_memory report left left' faults faults' stores script read same admitted enough =
    record {
      statuses = inr (inr refl);
      told = told_none MEMORY None refl (λ is. omega (arith, is)) (λ is. omega (arith, is));
      few_stores = counts_none None stores refl;
      one_processor = counts_none_for_processors report None refl;
      refused = λ is. absurd (omega (arith, is));
      read_fault = λ is. absurd (omega (arith, is));
      no_fault = λ _. same;
      memory = λ _ _. was_runnable report stores left left' script read admitted enough;
      complete = λ _ _. refl;
    }

-- A run: the source and the sink before and after it, the stores that it got, and its outcome.
pub record Ran (T K P : Type 0) : Type 0 where
  pub before : Ends T K
  pub after : Ends T K
  pub stores : List P
  pub outcome : Outcome P

abbrev pub run_of : {T K P : Type 0} (before after : Ends T K) (stores : List P) (outcome : Outcome P) → Ran T K P
run_of before after stores outcome = record { before = before; after = after; stores = stores; outcome = outcome }

module _ {T K P : Type 0} (views : Views T K P) (order : Order) (report : Report) (ran : Ran T K P) where
  abbrev Promised : Type 0
  Promised = RunsBy views order report ran.before ran.after ran.stores ran.outcome

  abbrev Stopped : (n status : ℕ) → Option TraceFault → Type 0
  Stopped n status refusal = IsStopped report (views.left ran.before.source) (views.left ran.after.source)
      (views.read_faults ran.before.source) (views.read_faults ran.after.source) n status refusal

  abbrev Unrun : Type 0
  Unrun = WasStopped views report ran.before ran.after ran.stores ran.outcome

  abbrev Made : Script → Type 0
  Made script = ReadAndMade views order report ran.before ran.after ran.stores ran.outcome script

  -- one was made
  pub RunsBy-made : (script : Script) → ran.outcome.trace ≡ Some script
      → WasRead script (views.left ran.before.source) (views.left ran.after.source)
      → views.read_faults ran.after.source ≡ views.read_faults ran.before.source → Admits report script
      → MadeRun views.out order report ran.stores (ending ran.before.sink ran.after.sink ran.outcome) script → Promised
  RunsBy-made script trace read no_fault admitted made =
      let all : Made script = record { read = read; no_read_fault = no_fault; admitted = admitted; made = made } in
      subst (λ t. MatchOption t Unrun Made) (sym trace) all

  unrun : Stopped (length ran.stores) ran.outcome.status ran.outcome.refusal → ran.outcome.history.items ≡ []
      → map views.out.seen ran.outcome.stores.items ≡ map views.out.seen ran.stores → ran.after.sink ≡ ran.before.sink → Unrun
  unrun why no_history same unwritten =
      record { why = why; none = record { unwritten = unwritten; no_history = no_history; same_stores = same } }

  -- none was made, and the outcome says why
  pub RunsBy-stopped : (n status : ℕ) (refusal : Option TraceFault) → Stopped n status refusal
      → n ≡ length ran.stores → ran.outcome.status ≡ status → ran.outcome.refusal ≡ refusal
      → ran.outcome.trace ≡ None → ran.outcome.history.items ≡ []
      → map views.out.seen ran.outcome.stores.items ≡ map views.out.seen ran.stores → ran.after.sink ≡ ran.before.sink → Promised
  RunsBy-stopped n status refusal stop count status_is refusal_is trace no_history same unwritten =
      let why : Stopped (length ran.stores) ran.outcome.status ran.outcome.refusal = rw (status_is, refusal_is, ← count) stop in
      subst (λ t. MatchOption t Unrun Made) (sym trace) (unrun why no_history same unwritten)

  -- none was made of a text that was read, for want of memory
  pub RunsBy-unmade : (script : Script) → WasRead script (views.left ran.before.source) (views.left ran.after.source)
      → views.read_faults ran.after.source ≡ views.read_faults ran.before.source → script.spaces ≤ length ran.stores → Admits report script
      → ran.outcome.status ≡ MEMORY → ran.outcome.refusal ≡ None → ran.outcome.trace ≡ None → ran.outcome.history.items ≡ []
      → map views.out.seen ran.outcome.stores.items ≡ map views.out.seen ran.stores → ran.after.sink ≡ ran.before.sink → Promised
  RunsBy-unmade script read no_fault enough admitted status_is refusal_is trace no_history same unwritten =
      let why : Stopped (length ran.stores) ran.outcome.status ran.outcome.refusal =
      rw (status_is, refusal_is) (stopped_for_memory report _ _ _ _ _ script read no_fault admitted enough) in
      subst (λ t. MatchOption t Unrun Made) (sym trace) (unrun why no_history same unwritten)

  -- what follows where none was made, and where one was, follows
  either : (Q : Type 0) → Promised → (Stopped (length ran.stores) ran.outcome.status ran.outcome.refusal → Q)
      → ((script : Script) → Made script → Q) → Q
  either Q runs stopped made = by_trace ran.outcome.trace runs
    where
      by_trace : (trace : Option Script) → MatchOption trace Unrun Made → Q
      by_trace None holds = stopped holds.why
      by_trace (Some script) holds = made script holds

  pub RunsBy-status : Promised → IsStatus ran.outcome.status
  RunsBy-status runs = either (IsStatus ran.outcome.status) runs
      (λ stop. elim stop.statuses [
        | inl refused ↦ inr (inr (inl refused))
        | inr other ↦ elim other [ inl fault ↦ inr (inr (inr (inl fault))) | inr memory ↦ inr (inr (inr (inr (inl memory)))) ]
      ])
      (λ script all. made_status ran.outcome.status (made_statuses report ran.outcome.status all.made.ends.ended))

  pub RunsBy-command : Promised → ran.outcome.status ≢ USAGE
  RunsBy-command runs = either (ran.outcome.status ≢ USAGE) runs
      (λ stop is. (let which = stop.statuses in omega (arith, which, is)))
      (λ script all is. (let which = made_statuses report ran.outcome.status all.made.ends.ended in omega (arith, which, is)))

  pub RunsBy-told : Promised → IsTold ran.outcome.status ran.outcome.refusal
  RunsBy-told runs = either (IsTold ran.outcome.status ran.outcome.refusal) runs (λ stop. stop.told)
      (λ script all. (let which = made_statuses report ran.outcome.status all.made.ends.ended in
      told_none ran.outcome.status ran.outcome.refusal all.made.refusal (λ is. omega (arith, which, is)) (λ is. omega (arith, which, is))))

  pub RunsBy-complete : Promised → IsSomeAnd (views.left ran.before.source) (IsRunnable report (length ran.stores))
      → (Rose (views.read_faults ran.before.source) (views.read_faults ran.after.source) → ⊥)
      → (Rose (views.out.write_faults ran.before.sink) (views.out.write_faults ran.after.sink) → ⊥)
      → (ran.outcome.status ≡ DONE) ⊎ (ran.outcome.status ≡ MEMORY)
  RunsBy-complete runs text no_read no_write = either ((ran.outcome.status ≡ DONE) ⊎ (ran.outcome.status ≡ MEMORY)) runs
      (λ stop. inr (stop.complete text no_read))
      (λ script all. (let ends = all.made.ends in
      elim (made_statuses report ran.outcome.status ends.ended) [
        | inl done ↦ inl done
        | inr other ↦ elim other [ inl failed ↦ absurd (no_write (rw (ends.write_fault failed) (rose_by_one (views.out.write_faults ran.before.sink)))) | inr memory ↦ inr memory ]
      ]))
