-- The jobs of a processor, done one after another, and the passes of all of them.
use Rattle.std.proofs.Common.{◌≡◌, ◌≢◌, ℕ, zero, suc, ◌+◌, ◌*◌, ◌<◌, Bool, true, List, [], ◌∷◌, ◌++◌, length, map, reverse, take, get_or, slice_get, option_map, option_to_list, Option, Some, None, IsSome, refl, ap, ap₂, sym, subst, ◌∙◌, inl, inr, arith, append_assoc, length-append, ◌≤◌}
use Rattle.std.specs.List.{All, AllByRecursion, cons_option, enumerate_from, range_with_len}
use Rattle.std.proofs.lemmas.Bool.{eq-eqb}
use Rattle.std.proofs.lemmas.List.{append-nil, length_push, take_more, map-append, reverse-append, get_or-map, ext_get_or}
use Rattle.std.proofs.lemmas.List.Elements.{filter_map-append}
use Rattle.std.proofs.lemmas.List.FromFn.{length-range_with_len, get_or-range_with_len}
use Rattle.std.proofs.lemmas.List.Sums.{sum_by_more_le, sum_by_push}
use Rattle.std.proofs.lemmas.Option.{none-some, same_Some, slice_get-map, slice_get-get_or, slice_get_cases, get_or_from_slice_get}
use Rattle.std.proofs.Math.ListN.{length-map}
use Rattle.journal_core.specs.Clauses.{IsOwnOf}
use Rattle.journal_core.specs.Journals.{JournalName, PassState, new_pass, new_passes}
use Rattle.journal_core.proofs.HistoryLength.{processors_of}
use Rattle.pager_model.specs.declared.call.Call.{Call}
use Rattle.pager_model.specs.declared.entry.Entry.{Entry}
use Rattle.pager_model.specs.declared.entry.Numbered.{Numbered}
use Rattle.pager_model.specs.declared.entry.What.{What}
use Rattle.pager_model.specs.declared.entry.What.TheVariants.{Answer}
use Rattle.pager_model.specs.declared.reply.Reply.{Reply}
use Rattle.pager_model.specs.declared.reply.Reply.TheVariants.{NoMemory}
use Rattle.pager_model.specs.declared.trace.Job.{Job}
use Rattle.pager_model.specs.declared.trace.Job.TheVariants.{Call as ToCall, Turn}
use Rattle.pager_model.specs.Entries.{entries_of, is_of}
use Rattle.pager_model.specs.Legal.{IsLegal, entries_in}
use Rattle.pager_model.specs.Order.{Progress, at_rest, progress_of, progress_from, IsWhole}
use Rattle.pager_model.specs.Settings.{mark_of}
use Rattle.pager_model.specs.Showing.{answers_in, answer_in}
use Rattle.pager_model.proofs.Histories.{progress_from-append}
use Rattle.flight_core.specs.Lacking.{NoneLacked}
use Rattle.flight_core.specs.Steps.{reply_said}
use Rattle.pager_core.specs.Machines.{CanDo}
use Rattle.pager_core.specs.Running.{AreOfMark, FitsMark, call_of, calls_among, entries_of_job, jobs_at, IsNumbered, IsWholeRun}
use Rattle.pager_laws.proofs.HistoryLists.{filter_map-push}
use Rattle.pager_core.proofs.Lists.{enumerate-push}
use Rattle.pager_core.proofs.Advances.{all_calls, take_are}
use Rattle.pager_core.proofs.WholeRuns.{IsWholeRun-legal}
use Rattle.flight_core.specs.Logged.{replies_in}
use Rattle.flight_core.proofs.Lists.{all-append}
use Rattle.replay_core.specs.declared.jobs.Worker.{Worker}
use Rattle.replay_core.proofs.ScheduleLemmas.{all_tested}
use Rattle.replay_core.specs.Jobs.{jobs_in, room_for, DoesJob, HasDone, IsReady, IsDoneFrom, HasPass, KeepsToRooms, MayDo, MayDoAll, MayDoNext, HaveDone}

-- Want of memory.

NoneLacked-append : (xs ys : List Entry) → NoneLacked xs → NoneLacked ys → NoneLacked (xs ++ ys)
NoneLacked-append = all-append (λ (e : Entry). reply_said e.what ≢ Some NoMemory)

-- replies that say nothing of it
first_reply : (o : Option Reply) (rs : List Reply) → AllByRecursion (λ r. r ≢ NoMemory) (cons_option o rs)
    → (o ≢ Some NoMemory) × AllByRecursion (λ r. r ≢ NoMemory) rs
first_reply None rs all = (λ is. none-some NoMemory is, all)
first_reply (Some r) rs all = (λ is. all.0 (same_Some r NoMemory is), all.1)

NoneLacked-replies : (entries : List Entry) → AllByRecursion (λ r. r ≢ NoMemory) (replies_in entries) → NoneLacked entries
NoneLacked-replies [] all = tt
NoneLacked-replies (e ∷ es) all =
    let parts = first_reply (reply_said e.what) (replies_in es) all in
    (parts.0, NoneLacked-replies es parts.1)

-- entries that answer nothing
unsaid : (what : What) → answer_in what ≡ None → reply_said what ≢ Some NoMemory
unsaid (Answer number call answered) none said = none-some (number, call) (sym none)
unsaid what none said = none-some NoMemory said

first_unanswered : (o : Option (ℕ × Call)) (rest : List (ℕ × Call)) → cons_option o rest ≡ [] → (o ≡ None) × (rest ≡ [])
first_unanswered None rest is = (refl, is)
first_unanswered (Some x) rest is = cc

NoneLacked-unanswered : (entries : List Entry) → answers_in entries ≡ [] → NoneLacked entries
NoneLacked-unanswered [] none = tt
NoneLacked-unanswered (e ∷ es) none =
    let parts = first_unanswered (answer_in e.what) (answers_in es) none in
    (unsaid e.what parts.0, NoneLacked-unanswered es parts.1)

-- each processor's entries
NoneLacked-each : (n : ℕ) (entries : List Entry) → AllByRecursion (λ (e : Entry). e.processor < n) entries
    → ((c : ℕ) → c < n → AllByRecursion (λ (e : Entry). is_of c e ≡ true → reply_said e.what ≢ Some NoMemory) entries)
    → NoneLacked entries
NoneLacked-each n [] known each = tt
NoneLacked-each n (e ∷ es) known each =
    ((each e.processor known.0).0 (eq-eqb e.processor e.processor refl), NoneLacked-each n es known.1 (λ c below. (each c below).1))

NoneLacked-parts : (n : ℕ) (entries : List Entry) → AllByRecursion (λ (e : Entry). e.processor < n) entries
    → ((c : ℕ) → c < n → NoneLacked (entries_of c entries)) → NoneLacked entries
NoneLacked-parts n entries known parts =
    NoneLacked-each n entries known
    (λ c below. all_tested (λ (e : Entry). reply_said e.what ≢ Some NoMemory) (is_of c) entries (parts c below))

-- One after another.

-- the answers that a job adds
abbrev numbers : List Job → List (ℕ × Call)
numbers jobs = enumerate_from 0 (calls_among jobs)

calls_push : (jobs : List Job) (job : Job) → calls_among (jobs ++ job ∷ []) ≡ calls_among jobs ++ option_to_list (call_of job)
calls_push jobs job = filter_map-push call_of jobs job

-- and after one more
HasDone-more : (lasts : Bool) (j : JournalName) (old p q : PassState) (jobs more : List Job) (job : Job) → HasDone lasts j old jobs p
    → AreOfMark (mark_of j.setting old.processor) jobs → FitsMark (mark_of j.setting old.processor) job → DoesJob lasts j.setting p q job
    → more ≡ jobs ++ job ∷ [] → HasDone lasts j old more q
HasDone-more lasts j old p q jobs more (ToCall call) has are fits (reply, makes, had) is =
    let mark = mark_of j.setting old.processor in
    let was : progress_of 0 (entries_in p.entries) ≡ Some (at_rest 0 (length jobs)) =
    subst (λ m. progress_of m (entries_in p.entries) ≡ Some (at_rest m (length jobs))) fits has.progress in
    let number : makes.sequence.made ≡ length jobs = ap (λ (x : Progress). x.made)
    (same_Some (at_rest 0 makes.sequence.made) (at_rest 0 (length jobs)) (sym makes.before ∙ was)) in
    let long : length more ≡ length jobs + 1 = ap length is ∙ length_push jobs (ToCall call) in
    let calls : length (calls_among jobs) ≡ length jobs = all_calls jobs (subst (λ m. AreOfMark m jobs) fits are) in
    let split : entries_in q.entries ≡ entries_in p.entries ++ entries_in makes.piece = ap entries_in makes.entries
    ∙ map-append (λ (x : Numbered). x.entry) p.entries makes.piece in
    record {
      journal = makes.journal ∙ has.journal;
      processor = makes.processor ∙ has.processor;
      room = makes.room ∙ has.room;
      progress =
          subst (λ m. progress_of m (entries_in q.entries) ≡ Some (at_rest m (length more))) (sym fits)
          (ap (progress_of 0) split
          ∙ progress_from-append (Some (at_rest 0 0)) (entries_in p.entries) (entries_in makes.piece)
          ∙ ap (λ o. progress_from o (entries_in makes.piece)) makes.before
          ∙ makes.sequence.leads
          ∙ ap (λ n. Some (at_rest 0 n)) (ap (λ n. n + 1) number ∙ sym long));
      answers =
          ap answers_in split
          ∙ filter_map-append (λ (x : Entry). answer_in x.what) (entries_in p.entries) (entries_in makes.piece)
          ∙ ap (λ l. l ++ answers_in (entries_in makes.piece)) has.answers
          ∙ ap (λ l. numbers jobs ++ l) (makes.sequence.answer ∙ ap (λ n. (n, call) ∷ []) number)
          ∙ sym (ap numbers is ∙ ap (enumerate_from 0) (calls_push jobs (ToCall call)) ∙ enumerate-push 0 (calls_among jobs) call
          ∙ ap (λ k. numbers jobs ++ (k, call) ∷ []) (let same : 0 + length (calls_among jobs) ≡ length jobs = omega (arith, calls) in
          same));
      few = (
          let both : length q.entries ≡ length p.entries + length makes.piece = ap length makes.entries
          ∙ length-append p.entries makes.piece in
          let all : room_for more ≡ room_for jobs + 8 = ap room_for is ∙ sum_by_push entries_of_job jobs (ToCall call) in
          let few = has.few in
          let one = makes.few in
          omega (arith, all, both, few, one));
      lasting = λ l. subst NoneLacked (sym split) (NoneLacked-append (entries_in p.entries) (entries_in makes.piece) (has.lasting l)
          (NoneLacked-replies (entries_in makes.piece)
          (subst (AllByRecursion (λ r. r ≢ NoMemory)) (sym makes.replies) (had l, tt))));
    }
HasDone-more lasts j old p q jobs more (Turn low) has are fits makes is =
    let was : progress_of low (entries_in p.entries) ≡ Some (at_rest low (length jobs)) =
    subst (λ m. progress_of m (entries_in p.entries) ≡ Some (at_rest m (length jobs))) fits.0 has.progress in
    let number : makes.turn.made ≡ length jobs = ap (λ (x : Progress). x.made)
    (same_Some (at_rest low makes.turn.made) (at_rest low (length jobs)) (sym makes.before ∙ was)) in
    let long : length more ≡ length jobs + 1 = ap length is ∙ length_push jobs (Turn low) in
    let split : entries_in q.entries ≡ entries_in p.entries ++ entries_in makes.piece = ap entries_in makes.entries
    ∙ map-append (λ (x : Numbered). x.entry) p.entries makes.piece in
    record {
      journal = makes.journal ∙ has.journal;
      processor = makes.processor ∙ has.processor;
      room = makes.room ∙ has.room;
      progress =
          subst (λ m. progress_of m (entries_in q.entries) ≡ Some (at_rest m (length more))) (sym fits.0)
          (makes.after ∙ ap (λ n. Some (at_rest low n)) (ap (λ n. n + 1) number ∙ sym long));
      answers =
          ap answers_in split
          ∙ filter_map-append (λ (x : Entry). answer_in x.what) (entries_in p.entries) (entries_in makes.piece)
          ∙ ap (λ l. l ++ answers_in (entries_in makes.piece)) has.answers
          ∙ ap (λ l. numbers jobs ++ l) makes.no_answers
          ∙ append-nil (numbers jobs)
          ∙ sym (ap numbers is ∙ ap (enumerate_from 0) (calls_push jobs (Turn low) ∙ append-nil (calls_among jobs)));
      few = (
          let both : length q.entries ≡ length p.entries + length makes.piece = ap length makes.entries
          ∙ length-append p.entries makes.piece in
          let all : room_for more ≡ room_for jobs + (4 * low + 1) = ap room_for is ∙ sum_by_push entries_of_job jobs (Turn low) in
          let few = has.few in
          let one = makes.few in
          omega (arith, all, both, few, one));
      lasting = λ l. subst NoneLacked (sym split) (NoneLacked-append (entries_in p.entries) (entries_in makes.piece) (has.lasting l)
          (NoneLacked-unanswered (entries_in makes.piece) makes.no_answers));
    }

-- In the middle of a processor's jobs: so many are done, and one more is left.
pub record Midway (lasts : Bool) (j : JournalName) (old p : PassState) (jobs : List Job) (n : ℕ) : Type 0 where
  pub may : MayDo j old jobs
  pub has : HasDone lasts j old (take n jobs) p
  pub below : n < length jobs

module _ (lasts : Bool) (j : JournalName) (old p : PassState) (jobs : List Job) (n : ℕ) (d : Job) (mid : Midway lasts j old p jobs n) where
  own_mark : mark_of j.setting p.processor ≡ mark_of j.setting old.processor
  own_mark = ap (mark_of j.setting) mid.has.processor

  fits_next : FitsMark (mark_of j.setting old.processor) (get_or jobs n d)
  fits_next = mid.may.kinds n (get_or jobs n d) (slice_get-get_or jobs n d mid.below)

  -- the next one may be done
  pub may_next : MayDoNext j p (get_or jobs n d)
  may_next = record {
    journal = mid.has.journal;
    fits = subst (λ m. FitsMark m (get_or jobs n d)) (sym own_mark) fits_next;
    whole = subst (λ m. IsWhole m (entries_in p.entries)) (sym own_mark) (length (take n jobs), mid.has.progress);
    room = (
        let few = mid.has.few in
        let more = sum_by_more_le entries_of_job jobs n d mid.below in
        let room = mid.may.room in
        let same = mid.has.room in
        omega (arith, few, more, room, same));
    can = mid.may.can n d mid.below;
  }

  -- and once it is, one more is done
  pub HasDone-after : (q : PassState) → DoesJob lasts j.setting p q (get_or jobs n d) → HasDone lasts j old (take (n + 1) jobs) q
  HasDone-after q does =
      HasDone-more lasts j old p q (take n jobs) (take (n + 1) jobs) (get_or jobs n d) mid.has
      (take_are (mark_of j.setting old.processor) jobs n mid.may.kinds) fits_next does (take_more jobs n d mid.below)

-- nothing is done yet
pub HasDone-none : (lasts : Bool) (j : JournalName) (p : PassState) (jobs : List Job) → MayDo j p jobs → HasDone lasts j p [] p
HasDone-none lasts j p jobs may = record {
  journal = may.journal;
  processor = refl;
  room = refl;
  progress = ap (λ (l : List Numbered). progress_of (mark_of j.setting p.processor) (entries_in l)) may.new;
  answers = ap (λ (l : List Numbered). answers_in (entries_in l)) may.new;
  few = (let none = ap length may.new in omega (arith, none));
  lasting = λ _. subst (λ l. NoneLacked (entries_in l)) (sym may.new) tt;
}

-- Into the workers and out of them.

abbrev pub pass_of : Worker → Option PassState
pass_of w = w.pass

-- the last of the passes that are left goes to the next worker
pub handed : (before all : List (Option PassState)) (left fewer : List PassState) (o : Option PassState)
    → before ++ map Some (reverse left) ≡ all → left ≡ fewer ++ option_to_list o → IsSome o
    → (before ++ o ∷ []) ++ map Some (reverse fewer) ≡ all
handed before all left fewer None are split some = cc
handed before all left fewer (Some p) are split some =
    append_assoc before (Some p ∷ []) (map Some (reverse fewer)) ∙ ap (λ l. before ++ map Some l)
    (sym (ap reverse split ∙ reverse-append fewer (p ∷ []))) ∙ are

-- The passes of all jobs.

pub length-new_passes : (j : JournalName) (c : ℕ) (rooms : List ℕ) → length (new_passes j c rooms) ≡ length rooms
length-new_passes j c [] = refl
length-new_passes j c (r ∷ rooms) = ap suc (length-new_passes j (suc c) rooms)

new_pass_at : (j : JournalName) (c : ℕ) (rooms : List ℕ) (i room : ℕ) → slice_get rooms i ≡ Some room
    → slice_get (new_passes j c rooms) i ≡ Some (new_pass j (c + i) room)
new_pass_at j c [] i room at = cc
new_pass_at j c (r ∷ rooms) zero room at = ap₂ (λ n x. Some (new_pass j n x)) (let none : c ≡ c + 0 = omega arith in none)
    (same_Some r room at)
new_pass_at j c (r ∷ rooms) (suc i) room at = new_pass_at j (suc c) rooms i room at
    ∙ ap (λ n. Some (new_pass j n room)) (let same : suc c + i ≡ c + suc i = omega arith in same)

module _ (j : JournalName) (passes : List PassState) (workers : List Worker) (may : MayDoAll j passes (jobs_in workers))
    (given : map pass_of workers ≡ map Some passes) where
  -- a worker has the new pass of its processor
  worker_pass : (c : ℕ) (w : Worker) → slice_get workers c ≡ Some w → w.pass ≡ Some (new_pass j c (room_for w.jobs.items))
  worker_pass c w at =
      let own : slice_get (jobs_in workers) c ≡ Some w.jobs.items = slice_get-map (λ (x : Worker). x.jobs.items) workers c
      ∙ ap (option_map (λ (x : Worker). x.jobs.items)) at in
      let room : slice_get (map room_for (jobs_in workers)) c ≡ Some (room_for w.jobs.items) = slice_get-map room_for (jobs_in workers) c
      ∙ ap (option_map room_for) own in
      let pass : slice_get passes c ≡ Some (new_pass j c (room_for w.jobs.items)) = ap (λ l. slice_get l c) may.passes
      ∙ new_pass_at j 0 (map room_for (jobs_in workers)) c (room_for w.jobs.items) room
      ∙ ap (λ n. Some (new_pass j n (room_for w.jobs.items))) (let same : 0 + c ≡ c = omega arith in same) in
      same_Some _ _ (sym (ap (option_map pass_of) at) ∙ sym (slice_get-map pass_of workers c) ∙ ap (λ l. slice_get l c) given
      ∙ slice_get-map Some passes c ∙ ap (option_map Some) pass)

  own_jobs : (c : ℕ) (w : Worker) → slice_get workers c ≡ Some w → jobs_at (jobs_in workers) c ≡ w.jobs.items
  own_jobs c w at =
      get_or_from_slice_get (jobs_in workers) c w.jobs.items [] (slice_get-map (λ (x : Worker). x.jobs.items) workers c
      ∙ ap (option_map (λ (x : Worker). x.jobs.items)) at)

  pub are_ready : All (IsReady j) workers
  are_ready = λ c d below.
      let w = get_or workers c d in
      let at = slice_get-get_or workers c d below in
      let many = length-map workers (λ (x : Worker). x.jobs.items) in
      let count = may.count in
      record {
        pass = new_pass j c (room_for w.jobs.items);
        there = worker_pass c w at;
        may = record {
          journal = refl;
          kinds = subst (AreOfMark (mark_of j.setting c)) (own_jobs c w at) (may.kinds c);
          new = refl;
          room = omega arith;
          can = subst (All (CanDo (length j.setting.told))) (own_jobs c w at) (may.can c);
        };
      }

  -- after the jobs
  module _ (lasts : Bool) (after : List Worker)
      (done : (c : ℕ) (d : Worker) → c < length workers → IsDoneFrom lasts j (get_or workers c d) (get_or after c d))
      (same : length after ≡ length workers) where
    pub have_passes : All HasPass after
    have_passes = λ c d below. (let one = done c d (omega (arith, below, same)) in (one.pass, one.there))

    pub have_done : (back : List PassState) → map Some back ≡ map pass_of after → HaveDone lasts j (jobs_in workers) back
    have_done back are =
        let many = length-map workers (λ (x : Worker). x.jobs.items) in
        let count : length back ≡ length after = sym (length-map back Some) ∙ ap length are ∙ length-map after pass_of in
        record {
          count = omega (arith, many, count, same);
          done = λ c d below.
              elim (slice_get_cases workers c).1 [
                | inl there ↦
                    let w = there.0 in
                    let one = subst (λ (x : Worker). IsDoneFrom lasts j x (get_or after c w)) there.3 (done c w there.1) in
                    let was : one.before ≡ new_pass j c (room_for w.jobs.items) = same_Some _ _ (sym one.was ∙ worker_pass c w there.2) in
                    let here = there.1 in
                    let pass : get_or back c d ≡ one.pass =
                    same_Some _ _ (same_Some _ _
                    (sym (ap (option_map Some) (slice_get-get_or back c d (omega (arith, count, same, here))))
                    ∙ sym (slice_get-map Some back c) ∙ ap (λ l. slice_get l c) are ∙ slice_get-map pass_of after c
                    ∙ ap (option_map pass_of) (slice_get-get_or after c w (omega (arith, same, here))) ∙ ap Some one.there)) in
                    subst (λ (p : PassState). HasDone lasts j (new_pass j c (room_for (jobs_at (jobs_in workers) c)))
                    (jobs_at (jobs_in workers) c) p) (sym pass)
                    (subst (λ own. HasDone lasts j (new_pass j c (room_for own)) own one.pass) (sym (own_jobs c w there.2))
                    (subst (λ (p : PassState). HasDone lasts j p w.jobs.items one.pass) was one.done))
                | inr past ↦ absurd (let out = past.0 in omega (arith, below, many, out))
              ];
        }

-- What is left of them.

module _ (lasts : Bool) (j : JournalName) (jobs : List (List Job)) (passes : List PassState) (have : HaveDone lasts j jobs passes) where
  none_yet : PassState
  none_yet = new_pass j 0 0

  pub journals_done : All (λ (p : PassState). p.journal ≡ j) passes
  journals_done = λ c d below. (have.done c d (let count = have.count in omega (arith, below, count))).journal

  pub processors_done : map (λ (p : PassState). p.processor) passes ≡ range_with_len 0 (length jobs)
  processors_done =
      let count = have.count in
      let many = length-map passes (λ (p : PassState). p.processor) in
      let range = length-range_with_len 0 (length jobs) in
      ext_get_or 0 (map (λ (p : PassState). p.processor) passes) (range_with_len 0 (length jobs)) (omega (arith, count, many, range))
      (λ c below.
      get_or-map (λ (p : PassState). p.processor) passes c none_yet 0 (omega (arith, below, many))
      ∙ (have.done c none_yet (omega (arith, below, many, count))).processor
      ∙ sym (get_or-range_with_len 0 (length jobs) c 0 (omega (arith, below, many, count)) ∙ (let same : 0 + c ≡ c = omega arith in same)))

  pub rooms_done : map (λ (p : PassState). p.room) passes ≡ map room_for jobs
  rooms_done =
      let count = have.count in
      let many = length-map passes (λ (p : PassState). p.room) in
      let rooms = length-map jobs room_for in
      ext_get_or 0 (map (λ (p : PassState). p.room) passes) (map room_for jobs) (omega (arith, count, many, rooms))
      (λ c below.
      get_or-map (λ (p : PassState). p.room) passes c none_yet 0 (omega (arith, below, many))
      ∙ (have.done c none_yet (omega (arith, below, many, count))).room
      ∙ sym (get_or-map room_for jobs c [] 0 (omega (arith, below, many, count))))

  -- each job is done
  pub whole_done : All (λ (p : PassState). IsWhole (mark_of j.setting p.processor) (entries_in p.entries)) passes
  whole_done = λ c d below.
      let p = get_or passes c d in
      let has = have.done c d (let count = have.count in omega (arith, below, count)) in
      subst (λ k. IsWhole (mark_of j.setting k) (entries_in p.entries)) (sym has.processor) (length (jobs_at jobs c), has.progress)

  -- each processor's entries are its pass's
  entries_done : (h : List Numbered) → All (λ (p : PassState). IsOwnOf p (entries_in h)) passes → (c : ℕ) → c < length jobs
      → entries_of c (entries_in h) ≡ entries_in (get_or passes c none_yet).entries
  entries_done h own c below =
      let count = have.count in
      ap (λ k. entries_of k (entries_in h)) (sym (have.done c none_yet below).processor)
      ∙ sym (own c none_yet (omega (arith, below, count))).1

  -- which are no more than there was room for
  pub rooms_kept : (h : List Numbered) → All (λ (p : PassState). IsOwnOf p (entries_in h)) passes → KeepsToRooms jobs (entries_in h)
  rooms_kept h own = λ c below.
      let p = get_or passes c none_yet in
      let same : length (entries_of c (entries_in h)) ≡ length (entries_in p.entries) = ap length (entries_done h own c below) in
      let all : length (entries_in p.entries) ≡ length p.entries = length-map p.entries (λ (n : Numbered). n.entry) in
      let few : length p.entries ≤ room_for (jobs_at jobs c) = (have.done c none_yet below).few in
      omega (arith, same, all, few)

  -- and over stores that keep every page for good none is an answer for want of memory
  pub none_lacked : (h : List Numbered) → IsLegal j.setting (entries_in h) → All (λ (p : PassState). IsOwnOf p (entries_in h)) passes
      → length j.setting.marks ≡ length jobs → lasts ≡ true → NoneLacked (entries_in h)
  none_lacked h legal own many l =
      NoneLacked-parts (length j.setting.marks) (entries_in h) (processors_of j.setting (entries_in h) legal)
      (λ c known. (let below : c < length jobs = omega (arith, known, many) in
      subst NoneLacked (sym (entries_done h own c below)) ((have.done c none_yet below).lasting l)))

  pub run_done : (h : List Numbered) → IsNumbered h → IsLegal j.setting (entries_in h)
      → All (λ (p : PassState). IsOwnOf p (entries_in h)) passes → length j.setting.marks ≡ length jobs → IsWholeRun j.setting jobs h
  run_done h numbered legal own many =
      IsWholeRun-legal j.setting jobs h legal numbered
      (λ c below. ap answers_in (entries_done h own c below) ∙ (have.done c none_yet below).answers)
      (λ c below. ap (progress_of (mark_of j.setting c)) (entries_done h own c below) ∙ (have.done c none_yet below).progress)
      many
