-- A machine at the start of a trace.
use Rattle.std.proofs.Common.{◌≡◌, ℕ, zero, suc, ◌+◌, ◌*◌, ◌<◌, ◌≤◌, Bool, true, false, cond, ◌==◌, not, List, [], ◌∷◌, ◌++◌, length, map, filter, replicate, get_or, slice_get, Option, Some, None, option_map, refl, ap, sym, subst, ◌∙◌, inl, inr, arith, take, ◌⊎◌}
use Rattle.std.specs.List.{range_with_len, sum_by, enumerate_from}
use Rattle.std.proofs.lemmas.Bool.{cases_eq, cases_lt, eq-eqb, ne_eqb}
use Rattle.std.proofs.lemmas.List.{get_or_past, length-take-le}
use Rattle.std.proofs.lemmas.List.FromFn.{length-map-range_with_len, get_or-map-range_with_len}
use Rattle.std.proofs.lemmas.List.Filters.{length-filter_both}
use Rattle.std.proofs.lemmas.List.Folds.{sum_by-replicate}
use Rattle.std.proofs.lemmas.List.Sums.{sum_by-cons}
use Rattle.std.proofs.lemmas.Nat.{mul-le}
use Rattle.std.proofs.lemmas.Option.{none-some, same_Some}
use Rattle.std.proofs.Math.ListN.{length-map}
use Rattle.pager_model.specs.declared.call.Call.{Call}
use Rattle.pager_model.specs.declared.call.Call.TheVariants.{Map, Grow, Unmap, Protect, Load, Store, Sync, Evict, Discard, Wire, Unwire}
use Rattle.pager_model.specs.declared.call.Line.{Line}
use Rattle.pager_model.specs.declared.trace.Daemon.{Daemon}
use Rattle.pager_model.specs.declared.trace.Job.{Job}
use Rattle.pager_model.specs.declared.trace.Job.TheVariants.{Call as MakesCall, Turn}
use Rattle.pager_model.specs.Flat.{space_of_call}
use Rattle.pager_model.specs.FrameStates.{FrameState, start_frames}
use Rattle.pager_model.specs.Order.{Progress, at_rest}
use Rattle.pager_model.specs.Scripts.{Script}
use Rattle.pager_model.specs.Settings.{Given, mark_of}
use Rattle.pager_model.specs.Showing.{actors, calls_of, jobs_of, marks_of, turns_of}
use Rattle.pager_model.specs.TraceText.{HasText, IsCall, IsDaemon}
use Rattle.pager_model.proofs.Actors.{mark_of_caller, mark_of_daemon}
use Rattle.pager_model.proofs.Lists.{get_or_within}
use Rattle.pager_laws.proofs.LegalHistories.{Agrees-legal}
use Rattle.space_core.specs.Standing.{Kept}
use Rattle.pager_model.specs.Stored.{Stored}
use Rattle.pager_model.specs.Stores.{setting_over}
use Rattle.flight_core.specs.declared.flight.Flight.{Flight}
use Rattle.pager_core.specs.Machines.{CanDo, CanFly, all_left, entries_of_trace, entries_of_turns, most_entries, IsFlying, IsMachine}
use Rattle.flight_core.specs.Rows.{row_of, is_between}
use Rattle.pager_core.specs.RunParts.{AreNewSpaces}
use Rattle.pager_core.specs.Running.{Running, AreOfMark, FitsMark, calls_among, entries_of_job, flight_for, left_behind, jobs_at, flight_at, flight_of, first_flights, progress_by_flight, entries_left, left_at, IsLawful}
use Rattle.pager_core.proofs.Lists.{sum_by-same}
use Rattle.pager_core.proofs.Lands.{Fits-for, Starts, Starts-for, own-for, under-for}

-- The calls of a processor.

pub call_on : (spaces : ℕ) (call : Call) → IsCall spaces call → space_of_call call < spaces
call_on spaces (Map s page len kind rights) is = is.0
call_on spaces (Grow s page by) is = is.0
call_on spaces (Unmap s page) is = is.0
call_on spaces (Protect s page len rights) is = is.0
call_on spaces (Load s address) is = is.0
call_on spaces (Store s address word) is = is.0
call_on spaces (Sync s page) is = is.0
call_on spaces (Evict s page) is = is.0
call_on spaces (Discard s page len) is = is.0
call_on spaces (Wire s page) is = is.0
call_on spaces (Unwire s page) is = is.0

first_call : (Q : Call → Type 0) (c : ℕ) (line : Line) (lines : List Line) (call : Call) → Q line.call
    → ((n : ℕ) → slice_get (calls_of c lines) n ≡ Some call → Q call) → (b : Bool) (n : ℕ)
    → slice_get (map (λ (l : Line). l.call) (cond b (line ∷ filter (λ (l : Line). l.processor == c) lines)
    (filter (λ (l : Line). l.processor == c) lines))) n ≡ Some call
    → Q call
first_call Q c line lines call own rest false n at = rest n at
first_call Q c line lines call own rest true zero at = subst Q (let e : Some line.call ≡ Some call = at in cc) own
first_call Q c line lines call own rest true (suc n) at = rest n at

-- what each line's call is, each of theirs is
pub call_of_line : (Q : Call → Type 0) (c : ℕ) (lines : List Line) → ((i : ℕ) (d : Line) → i < length lines → Q (get_or lines i d).call)
    → (n : ℕ) (call : Call) → slice_get (calls_of c lines) n ≡ Some call → Q call
call_of_line Q c [] all n call at = cc
call_of_line Q c (line ∷ lines) all n call at =
    first_call Q c line lines call (all 0 line (omega arith)) (λ k there. call_of_line Q c lines
    (λ i d below. all (suc i) d (omega (arith, below))) k call there) (line.processor == c) n at

pub length-calls : (c : ℕ) (lines : List Line) → length (calls_of c lines) ≤ length lines
length-calls c lines =
    let passing = length-filter_both (λ (l : Line). l.processor == c) (λ (l : Line). not (l.processor == c)) (λ l. refl) lines in
    let same = length-map (filter (λ (l : Line). l.processor == c) lines) (λ (l : Line). l.call) in
    omega (arith, passing, same)

-- a line's call is one more of its processor, and none more of another
one_more : (line : Line) (lines : List Line) (c : ℕ) → line.processor ≡ c
    → length (calls_of c (line ∷ lines)) ≡ length (calls_of c lines) + 1
one_more line lines c is =
    ap (λ b. length (map (λ (l : Line). l.call) (cond b (line ∷ filter (λ (l : Line). l.processor == c) lines)
    (filter (λ (l : Line). l.processor == c) lines)))) (eq-eqb line.processor c is)
    ∙ (let e : suc (length (calls_of c lines)) ≡ length (calls_of c lines) + 1 = omega arith in e)

none_more : (line : Line) (lines : List Line) (c : ℕ) → (line.processor ≡ c → ⊥)
    → length (calls_of c (line ∷ lines)) ≡ length (calls_of c lines)
none_more line lines c other =
    ap (λ b. length (map (λ (l : Line). l.call) (cond b (line ∷ filter (λ (l : Line). l.processor == c) lines)
    (filter (λ (l : Line). l.processor == c) lines)))) (ne_eqb line.processor c other)

-- how many calls some processors have together
abbrev together : List Line → ℕ → ℕ → ℕ
together lines a n = sum_by (λ c. length (calls_of c lines)) (range_with_len a n)

together-more : (line : Line) (lines : List Line) (a n : ℕ) → together (line ∷ lines) a n ≤ together lines a n + 1
together-more line lines a zero = omega arith
together-more line lines a (suc n) =
    let before = sum_by-cons (λ c. length (calls_of c lines)) a (range_with_len (a + 1) n) in
    let after = sum_by-cons (λ c. length (calls_of c (line ∷ lines))) a (range_with_len (a + 1) n) in
    elim (cases_eq line.processor a) [
      | inl here ↦
          let one = one_more line lines a here in
          let rest = sum_by-same (λ c. length (calls_of c lines)) (λ c. length (calls_of c (line ∷ lines))) (a + 1) n
          (λ k above. none_more line lines k (λ is. (omega (arith, here, is, above)))) in
          omega (arith, before, after, one, rest)
      | inr other ↦
          let none = none_more line lines a other in
          let rest = together-more line lines (a + 1) n in
          omega (arith, before, after, none, rest)
    ]

together-none : (a n : ℕ) → together [] a n ≤ 0
together-none a zero = omega arith
together-none a (suc n) =
    (let first = sum_by-cons (λ c. length (calls_of c [])) a (range_with_len (a + 1) n) in let rest = together-none (a + 1) n in
    omega (arith, first, rest))

-- at most as many as there are lines
together-few : (lines : List Line) (a n : ℕ) → together lines a n ≤ length lines
together-few [] a n = together-none a n
together-few (line ∷ lines) a n = (let more = together-more line lines a n in let few = together-few lines a n in omega (arith, more, few))

-- The jobs of a processor: a call of its lines each, or a turn of the daemon's.

-- a processor that has a call is one of those that the lines name
pub calls_within : (most c : ℕ) (lines : List Line) → ((i : ℕ) (d : Line) → i < length lines → (get_or lines i d).processor < most)
    → (n : ℕ) (call : Call) → slice_get (calls_of c lines) n ≡ Some call → c < most
calls_within most c [] all n call at = cc
calls_within most c (line ∷ lines) all n call at = elim (cases_eq line.processor c) [
  | inl is ↦ subst (λ k. k < most) is (all 0 line (omega arith))
  | inr other ↦ calls_within most c lines (λ i d below. all (suc i) d (omega (arith, below))) n call
      (sym (ap (λ b. slice_get (map (λ (l : Line). l.call)
      (cond b (line ∷ filter (λ (l : Line). l.processor == c) lines) (filter (λ (l : Line). l.processor == c) lines))) n)
      (ne_eqb line.processor c other)) ∙ at)
]

at_jobs : (calls : List Call) (turns : List Job) (n : ℕ) (job : Job) → slice_get (map MakesCall calls ++ turns) n ≡ Some job
    → ((call : Call) × (job ≡ MakesCall call) × (slice_get calls n ≡ Some call)) ⊎ ((m : ℕ) × (slice_get turns m ≡ Some job))
at_jobs [] turns n job at = inr (n, at)
at_jobs (k ∷ calls) turns zero job at = inl (k, sym (same_Some (MakesCall k) job at), refl)
at_jobs (k ∷ calls) turns (suc n) job at = at_jobs calls turns n job at

at_turns : (turns : ℕ) (turn : Job) (m : ℕ) (job : Job) → slice_get (replicate turns turn) m ≡ Some job → job ≡ turn
at_turns zero turn m job at = cc
at_turns (suc n) turn zero job at = sym (same_Some turn job at)
at_turns (suc n) turn (suc m) job at = at_turns n turn m job at

-- the job is a turn of the daemon, whose processor comes behind the others
abbrev IsDaemonTurn : Script → ℕ → Job → Type 0
IsDaemonTurn script c job = (d : Daemon) × (script.daemon ≡ Some d) × (c ≡ script.processors) × (job ≡ Turn d.low)

turn_of : (script : Script) (c : ℕ) (job : Job) (o : Option Daemon) → script.daemon ≡ o → c ≡ script.processors → (m : ℕ)
    → slice_get (turns_of o) m ≡ Some job → IsDaemonTurn script c job
turn_of script c job None is here m at = cc
turn_of script c job (Some d) is here m at = (d, is, here, at_turns d.turns (Turn d.low) m job at)

job_cases : (script : Script) (c n : ℕ) (job : Job) → slice_get (jobs_of c script) n ≡ Some job
    → ((call : Call) × (job ≡ MakesCall call) × (slice_get (calls_of c script.calls) n ≡ Some call)) ⊎ IsDaemonTurn script c job
job_cases script c n job at = elim (at_jobs (calls_of c script.calls) (cond (c == script.processors) (turns_of script.daemon) []) n job at) [
  | inl call ↦ inl call
  | inr turn ↦ elim (cases_eq c script.processors) [
    | inl here ↦ inr (turn_of script c job script.daemon refl here turn.0
        (sym (ap (λ b. slice_get (cond b (turns_of script.daemon) []) turn.0) (eq-eqb c script.processors here)) ∙ turn.1))
    | inr other ↦ (let none : None ≡ Some job = sym (ap (λ b. slice_get (cond b (turns_of script.daemon) []) turn.0)
        (ne_eqb c script.processors other)) ∙ turn.1 in cc)
  ]
]

-- The mark of a processor.

pub kinds_of : (script : Script) → HasText script → (c : ℕ) → AreOfMark (get_or (marks_of script) c 0) (jobs_of c script)
kinds_of script has c n job at = elim (job_cases script c n job at) [
  | inl call ↦
      let below = calls_within script.processors c script.calls (λ i d within. (has.lines i d within).0) n call.0 call.2 in
      subst (FitsMark (get_or (marks_of script) c 0)) (sym call.1) (mark_of_caller script c below)
  | inr turn ↦
      let d = turn.0 in
      let mark : get_or (marks_of script) c 0 ≡ d.low = ap (λ k. get_or (marks_of script) k 0) turn.2 ∙ mark_of_daemon script d turn.1 in
      subst (FitsMark (get_or (marks_of script) c 0)) (sym turn.3) (mark, (subst IsDaemon turn.1 has.daemon_in).0.0)
]

-- every job can be done
pub can_do : (script : Script) → HasText script → (spaces c n : ℕ) (job : Job) → spaces ≡ script.spaces → slice_get (jobs_of c script) n ≡ Some job
    → CanDo spaces job
can_do script has spaces c n job count at = elim (job_cases script c n job at) [
  | inl call ↦ subst (CanDo spaces) (sym call.1)
      (call_of_line (CanFly spaces) c script.calls
      (λ i d within.
      let line = (has.lines i d within).1 in
      record {
        on = (let on = call_on script.spaces (get_or script.calls i d).call line in omega (arith, on, count));
        can = (script.spaces, line);
      })
      n call.0 call.2)
  | inr turn ↦ subst (CanDo spaces) (sym turn.3) (subst IsDaemon turn.1 has.daemon_in).0
]

-- How many entries they make at most.

entries_of_calls : (calls : List Call) (turns : List Job)
    → sum_by entries_of_job (map MakesCall calls ++ turns) ≡ 8 * length calls + sum_by entries_of_job turns
entries_of_calls [] turns = (let e : sum_by entries_of_job turns ≡ 8 * 0 + sum_by entries_of_job turns = omega arith in e)
entries_of_calls (call ∷ calls) turns =
    let rest = entries_of_calls calls turns in
    sum_by-cons entries_of_job (MakesCall call) (map MakesCall calls ++ turns)
    ∙ (let e : 8 + sum_by entries_of_job (map MakesCall calls ++ turns) ≡ 8 * suc (length calls) + sum_by entries_of_job turns = omega
    (arith, rest) in e)

-- what the daemon's turns add, where it is the processor
abbrev turns_at : Script → ℕ → ℕ
turns_at script c = cond (c == script.processors) (entries_of_turns script.daemon) 0

entries_in_turns : (o : Option Daemon) → sum_by entries_of_job (turns_of o) ≡ entries_of_turns o
entries_in_turns None = refl
entries_in_turns (Some d) = sum_by-replicate entries_of_job d.turns (Turn d.low)

entries_of_jobs : (script : Script) (c : ℕ) → sum_by entries_of_job (jobs_of c script) ≡ 8 * length (calls_of c script.calls) + turns_at script c
entries_of_jobs script c =
    entries_of_calls (calls_of c script.calls) (cond (c == script.processors) (turns_of script.daemon) [])
    ∙ ap (λ n. 8 * length (calls_of c script.calls) + n) (turns (c == script.processors))
  where
    turns : (b : Bool) → sum_by entries_of_job (cond b (turns_of script.daemon) []) ≡ cond b (entries_of_turns script.daemon) 0
    turns true = entries_in_turns script.daemon
    turns false = refl

none_behind : (script : Script) (a n : ℕ) → script.processors < a → sum_by (turns_at script) (range_with_len a n) ≡ 0
none_behind script a zero past = refl
none_behind script a (suc n) past =
    let first : turns_at script a ≡ 0 = ap (λ b. cond b (entries_of_turns script.daemon) 0)
    (ne_eqb a script.processors (λ is. omega (arith, past, is))) in
    let rest = none_behind script (a + 1) n (omega (arith, past)) in
    sum_by-cons (turns_at script) a (range_with_len (a + 1) n) ∙ (let e : turns_at script a + sum_by (turns_at script) (range_with_len (a + 1) n)
    ≡ 0 = omega (arith, first, rest) in e)

once : (script : Script) (a n : ℕ) → sum_by (turns_at script) (range_with_len a n) ≤ entries_of_turns script.daemon
once script a zero = omega arith
once script a (suc n) =
    let all = sum_by-cons (turns_at script) a (range_with_len (a + 1) n) in
    elim (cases_eq a script.processors) [
      | inl here ↦
          let first : turns_at script a ≡ entries_of_turns script.daemon =
          ap (λ b. cond b (entries_of_turns script.daemon) 0) (eq-eqb a script.processors here) in
          let rest = none_behind script (a + 1) n (omega (arith, here)) in
          omega (arith, all, first, rest)
      | inr other ↦
          let first : turns_at script a ≡ 0 = ap (λ b. cond b (entries_of_turns script.daemon) 0) (ne_eqb a script.processors other) in
          let rest = once script (a + 1) n in
          omega (arith, all, first, rest)
    ]

sum_by-both : (script : Script) (f : ℕ → ℕ) (a n : ℕ) → ((k : ℕ) → f k ≤ 8 * length (calls_of k script.calls) + turns_at script k)
    → sum_by f (range_with_len a n) ≤ 8 * together script.calls a n + sum_by (turns_at script) (range_with_len a n)
sum_by-both script f a zero at_most = omega arith
sum_by-both script f a (suc n) at_most =
    let left = sum_by-cons f a (range_with_len (a + 1) n) in
    let calls = sum_by-cons (λ c. length (calls_of c script.calls)) a (range_with_len (a + 1) n) in
    let turns = sum_by-cons (turns_at script) a (range_with_len (a + 1) n) in
    let first = at_most a in
    let rest = sum_by-both script f (a + 1) n at_most in
    omega (arith, left, calls, turns, first, rest)

pub entries_in_all : (script : Script) (f : ℕ → ℕ) (n : ℕ) → ((k : ℕ) → f k ≤ 8 * length (calls_of k script.calls) + turns_at script k)
    → sum_by f (range_with_len 0 n) ≤ entries_of_trace script
entries_in_all script f n at_most =
    let both = sum_by-both script f 0 n at_most in
    let few = together-few script.calls 0 n in
    let turns = once script 0 n in
    omega (arith, both, few, turns)

turns_few : (o : Option Daemon) → IsDaemon o → entries_of_turns o ≤ 1052672
turns_few None is = omega arith
turns_few (Some d) is = mul-le d.turns (4 * d.low + 1) 4096 257 is.1.1 (let low = is.0.1 in omega (arith, low))

pub few_entries : (script : Script) → HasText script → entries_of_trace script ≤ most_entries
few_entries script has = (let turns = turns_few script.daemon has.daemon_in in omega (arith, turns, has.few))

at_most_turns : (script : Script) (b : Bool) → cond b (entries_of_turns script.daemon) 0 ≤ entries_of_turns script.daemon
at_most_turns script true = omega arith
at_most_turns script false = omega arith

-- each processor's jobs make no more
pub few_entries_of : (script : Script) → HasText script → (c : ℕ) → sum_by entries_of_job (jobs_of c script) ≤ most_entries
few_entries_of script has c =
    let own = entries_of_jobs script c in
    let calls = length-calls c script.calls in
    let turns = at_most_turns script (c == script.processors) in
    let daemon = turns_few script.daemon has.daemon_in in
    omega (arith, own, calls, turns, daemon, has.few)

-- A processor's first flight.

first_in : (c : ℕ) (o : Option Job) (f : Flight) → option_map (flight_for c 0) o ≡ Some f
    → (job : Job) × (o ≡ Some job) × (flight_for c 0 job ≡ f)
first_in c None f is = absurd (none-some f is)
first_in c (Some job) f is = (job, refl, same_Some (flight_for c 0 job) f is)

first_progress : (c mark : ℕ) (jobs : List Job) → AreOfMark mark jobs → progress_by_flight mark jobs (flight_of c 0 jobs) ≡ at_rest mark 0
first_progress c mark [] are = refl
first_progress c mark (job ∷ jobs) are = (Starts-for c 0 mark job (are 0 job refl)).progress

first_left : (c mark : ℕ) (jobs : List Job) → AreOfMark mark jobs → entries_left jobs (flight_of c 0 jobs) ≡ sum_by entries_of_job jobs
first_left c mark [] are = refl
first_left c mark (job ∷ jobs) are =
    let starts = Starts-for c 0 mark job (are 0 job refl) in
    ap (λ n. (row_of (flight_for c 0 job)).entries + left_behind (job ∷ jobs) (n + 1)) starts.number
    ∙ ap (λ n. n + left_behind (job ∷ jobs) 1) starts.entries
    ∙ sym (sum_by-cons entries_of_job job jobs)

length-used : {X : Type 0} (f : Stored → X) (n : ℕ) (stores : List Stored) → n ≤ length stores → length (map f (take n stores)) ≡ n
length-used f n stores enough = length-map (take n stores) f ∙ length-take-le n stores enough

-- a setting has as many spaces as its trace
pub length-told : (script : Script) (stores : List Stored) → script.spaces ≤ length stores → (given : Given) → given ≡ setting_over script stores
    → length given.told ≡ script.spaces
length-told script stores enough given is = ap (λ (g : Given). length g.told) is
    ∙ length-used (λ (s : Stored). s.told) script.spaces stores enough

-- A trace over stores, of which the spaces use the first: the jobs of its processors, and spaces that are new.
pub record Begins (script : Script) (stores : List Stored) (jobs : List (List Job)) (spaces : List Kept) : Type 0 where
  pub trace : HasText script
  pub enough : script.spaces ≤ length stores
  pub are : jobs ≡ map (λ c. jobs_of c script) (range_with_len 0 (actors script))
  pub new : AreNewSpaces (setting_over script stores) spaces

module _ (script : Script) (stores unused : List Stored) (jobs : List (List Job)) (spaces : List Kept)
    (begins : Begins script stores jobs spaces) where
  abbrev start : Running
  start = record { given = setting_over script stores; jobs = jobs; flights = first_flights jobs; history = []; unused = unused }

  processors : length jobs ≡ actors script
  processors = ap length begins.are ∙ length-map-range_with_len (λ c. jobs_of c script) 0 (actors script)

  count : length spaces ≡ script.spaces
  count = begins.new.count ∙ length-told script stores begins.enough (setting_over script stores) refl

  jobs_in : (c : ℕ) → c < actors script → jobs_at jobs c ≡ jobs_of c script
  jobs_in c below =
      ap (λ l. jobs_at l c) begins.are ∙ get_or-map-range_with_len (λ k. jobs_of k script) 0 (actors script) c c [] below (omega arith)

  jobs_past : (c : ℕ) → actors script ≤ c → jobs_at jobs c ≡ []
  jobs_past c past = get_or_past jobs c [] (let all = processors in omega (arith, all, past))

  -- what holds of each of a processor's jobs
  by_jobs : (P : ℕ → Job → Type 0) → ((c n : ℕ) (job : Job) → slice_get (jobs_of c script) n ≡ Some job → P c job) → (c n : ℕ) (job : Job)
      → slice_get (jobs_at jobs c) n ≡ Some job → P c job
  by_jobs P holds c n job at = elim (cases_lt c (actors script)) [
    | inl below ↦ holds c n job (sym (ap (λ l. slice_get l n) (jobs_in c below)) ∙ at)
    | inr past ↦ (let e : None ≡ Some job = sym (ap (λ l. slice_get l n) (jobs_past c past)) ∙ at in cc)
  ]

  kinds : (c : ℕ) → AreOfMark (mark_of start.given c) (jobs_at jobs c)
  kinds = by_jobs (λ c job. FitsMark (mark_of start.given c) job) (kinds_of script begins.trace)

  can : (c n : ℕ) (job : Job) → slice_get (jobs_at jobs c) n ≡ Some job → CanDo (length spaces) job
  can = by_jobs (λ c job. CanDo (length spaces) job) (λ c n job at. can_do script begins.trace (length spaces) c n job count at)

  entries_at : (c : ℕ) → sum_by entries_of_job (jobs_at jobs c) ≤ 8 * length (calls_of c script.calls) + turns_at script c
  entries_at c = elim (cases_lt c (actors script)) [
    | inl below ↦ (let e = ap (sum_by entries_of_job) (jobs_in c below) ∙ entries_of_jobs script c in omega (arith, e))
    | inr past ↦ (let e : sum_by entries_of_job (jobs_at jobs c) ≡ 0 = ap (sum_by entries_of_job) (jobs_past c past) in omega (arith, e))
  ]

  -- each job makes an entry, so there are no more of them than entries
  jobs_few : (own : List Job) → length own ≤ sum_by entries_of_job own
  jobs_few [] = omega arith
  jobs_few (MakesCall call ∷ own) =
      (let rest = jobs_few own in let all = sum_by-cons entries_of_job (MakesCall call) own in omega (arith, rest, all))
  jobs_few (Turn low ∷ own) = (let rest = jobs_few own in let all = sum_by-cons entries_of_job (Turn low) own in omega (arith, rest, all))

  first_flight : (c : ℕ) → c < length jobs → flight_at (first_flights jobs) c ≡ flight_of c 0 (jobs_at jobs c)
  first_flight c below = get_or-map-range_with_len (λ k. flight_of k 0 (jobs_at jobs k)) 0 (length jobs) c c None below (omega arith)

  known : length (first_flights jobs) ≡ length jobs
  known = length-map-range_with_len (λ c. flight_of c 0 (jobs_at jobs c)) 0 (length jobs)

  -- a flight is of its processor's first job
  first : (c : ℕ) (f : Flight) → flight_at (first_flights jobs) c ≡ Some f
      → (job : Job) × (slice_get (jobs_at jobs c) 0 ≡ Some job) × (flight_for c 0 job ≡ f)
  first c f flies =
      let below = get_or_within (first_flights jobs) c f flies in
      let all = known in
      first_in c (slice_get (jobs_at jobs c) 0) f (sym (first_flight c (omega (arith, below, all))) ∙ flies)

  starts : (c : ℕ) (job : Job) → slice_get (jobs_at jobs c) 0 ≡ Some job → Starts c 0 (mark_of start.given c) job
  starts c job at = Starts-for c 0 (mark_of start.given c) job (kinds c 0 job at)

  flights : (c : ℕ) (f : Flight) → flight_at (first_flights jobs) c ≡ Some f → IsFlying start spaces c f
  flights c f flies =
      let is = first c f flies in
      let first_of = starts c is.0 is.1 in
      let able = can c 0 is.0 is.1 in
      let flying : IsFlying start spaces c (flight_for c 0 is.0) =
      record {
        processor = first_of.processor;
        job = ap (slice_get (jobs_at jobs c)) first_of.number ∙ is.1 ∙ ap Some (sym first_of.job_is);
        on = own-for (length spaces) c 0 is.0 able;
        fits = Fits-for (length spaces) c 0 is.0 able;
        under = λ s under. under-for (length spaces) c 0 is.0 s able under;
        going = first_of.going;
        keeps = λ s kept keeps at. absurd (none-some s (sym first_of.keeps_none ∙ keeps));
      } in
      subst (IsFlying start spaces c) is.2 flying

  keeps_none : (c : ℕ) (f : Flight) (s : ℕ) → flight_at (first_flights jobs) c ≡ Some f → (row_of f).keeps ≡ Some s → ⊥
  keeps_none c f s flies keeps =
      let is = first c f flies in
      none-some s (sym (starts c is.0 is.1).keeps_none ∙ ap (λ (x : Flight). (row_of x).keeps) is.2 ∙ keeps)

  left_few : (c : ℕ) → left_at start c ≤ 8 * length (calls_of c script.calls) + turns_at script c
  left_few c = elim (cases_lt c (length jobs)) [
    | inl below ↦
        let at : left_at start c ≡ sum_by entries_of_job (jobs_at jobs c) =
        ap (entries_left (jobs_at jobs c)) (first_flight c below) ∙ first_left c (mark_of start.given c) (jobs_at jobs c) (kinds c) in
        let own = entries_at c in
        omega (arith, at, own)
    | inr past ↦
        let at : left_at start c ≡ 0 = ap (entries_left (jobs_at jobs c))
        (get_or_past (first_flights jobs) c None (let all = known in omega (arith, all, past))) in
        omega (arith, at)
  ]

  all_few : all_left start ≤ entries_of_trace script
  all_few = entries_in_all script (left_at start) (length jobs) left_few

  progress_first : (c : ℕ) → c < length jobs
      → at_rest (mark_of start.given c) 0 ≡ progress_by_flight (mark_of start.given c) (jobs_at jobs c) (flight_at (first_flights jobs) c)
  progress_first c below =
      sym (first_progress c (mark_of start.given c) (jobs_at jobs c) (kinds c))
      ∙ ap (progress_by_flight (mark_of start.given c) (jobs_at jobs c)) (sym (first_flight c below))

  lawful : IsLawful start
  lawful =
      record {
        legal = tt;
        numbered = refl;
        agrees = Agrees-legal start.given [] tt;
        progress = λ c below. ap Some (progress_first c below);
        answers = λ c below. ap (λ (p : Progress). enumerate_from 0 (calls_among (take p.made (jobs_at jobs c)))) (progress_first c below);
        between = λ c f flies. (let is = first c f flies in subst (λ (x : Flight). is_between x.purpose x.phase ≡ true) is.2
            (starts c is.0 is.1).between);
        flying = λ c f flies. (let is = flights c f flies in record { job = is.job; going = is.going });
        one_keeper = λ s c d f g flies flies' keeps keeps'. absurd (keeps_none c f s flies keeps);
      }

  IsMachine-start : (capacity : ℕ) → entries_of_trace script ≤ capacity
      → IsMachine start spaces (start_frames script.sizes script.frames (actors script)) capacity
  IsMachine-start capacity fits =
      record {
        lawful = lawful;
        marks = sym processors;
        kinds = kinds;
        told = sym begins.new.count;
        faults = length-used (λ (s : Stored). s.faults) script.spaces stores begins.enough ∙ sym count;
        known = known;
        frames = refl;
        few_jobs = λ c. (let few = jobs_few (jobs_at jobs c) in let own = entries_at c in let calls = length-calls c script.calls in
            let turns =
            at_most_turns script (c == script.processors) in let daemon = turns_few script.daemon begins.trace.daemon_in in
            omega (arith, few, own, calls, turns, daemon, begins.trace.few));
        few_spaces = (let few = begins.trace.spaces_in.1 in let all = count in omega (arith, few, all));
        jobs = can;
        flights = flights;
        space_is = λ s kept at. record {
          number = (begins.new.new s kept at).number_is;
          frames = (begins.new.new s kept at).frames_are;
          processors = (begins.new.new s kept at).processors_are ∙ sym processors;
        };
        rest = λ s kept at none. record {
          resting = (begins.new.new s kept at).resting;
          stands = (begins.new.new s kept at).stands;
          next = refl;
        };
        room = (let few = all_few in omega (arith, few, fits));
        few = (let few = all_few in let most = few_entries script begins.trace in omega (arith, few, most));
      }

-- whatever its parts are called
pub IsMachine-started : (script : Script) → HasText script → (stores : List Stored) → script.spaces ≤ length stores
    → (run : Running) (spaces : List Kept) (pool : FrameState) (capacity : ℕ) → run.given ≡ setting_over script stores
    → run.jobs ≡ map (λ c. jobs_of c script) (range_with_len 0 (actors script)) → run.flights ≡ first_flights run.jobs → run.history ≡ []
    → AreNewSpaces run.given spaces → pool ≡ start_frames script.sizes script.frames (actors script) → entries_of_trace script ≤ capacity
    → IsMachine run spaces pool capacity
IsMachine-started script trace stores enough run spaces pool capacity given jobs same_flights none new same_pool room =
    let begins : Begins script stores run.jobs spaces =
    record { trace = trace; enough = enough; are = jobs; new = subst (λ (g : Given). AreNewSpaces g spaces) given new } in
    let same : run ≡ start script stores run.unused run.jobs spaces begins =
    λ i. record { given = given i; jobs = run.jobs; flights = same_flights i; history = none i; unused = run.unused } in
    subst (λ r. IsMachine r spaces pool capacity) (sym same)
    (subst (λ p. IsMachine (start script stores run.unused run.jobs spaces begins) spaces p capacity) (sym same_pool)
    (IsMachine-start script stores run.unused run.jobs spaces begins capacity room))
