-- What a trace's threads begin with, and the stores before and after their run.
use Rattle.std.proofs.Common.{◌≡◌, ℕ, zero, suc, ◌^◌, ◌<◌, ◌≤◌, List, [], ◌∷◌, ◌++◌, length, map, take, drop, get_or, slice_get, sum, IsSomeAnd, refl, ap, ap₂, sym, subst, ◌∙◌, inl, inr, arith}
use Rattle.std.specs.List.{All, range_with_len}
use Rattle.std.proofs.lemmas.Bool.{cases_lt}
use Rattle.std.proofs.lemmas.List.{get_or-map, get_or_past, map-append, take-append-drop, take-map, drop-map, length-take-le}
use Rattle.std.proofs.lemmas.List.Elements.{All-map, All-weaker}
use Rattle.std.proofs.lemmas.List.FromFn.{get_or-map-range_with_len}
use Rattle.std.proofs.lemmas.Option.{none-some, slice_get-get_or}
use Rattle.std.proofs.Math.ListN.{length-map}
use Rattle.std.proofs.Math.Seq.{drop-append_seam}
use Rattle.journal_core.specs.Journals.{new_passes}
use Rattle.pager_model.specs.declared.entry.Entry.{Entry}
use Rattle.pager_model.specs.declared.entry.Numbered.{Numbered}
use Rattle.pager_model.specs.declared.summary.Summary.{Summary}
use Rattle.pager_model.specs.declared.trace.Job.{Job}
use Rattle.pager_model.specs.Counts.{counts}
use Rattle.pager_model.specs.Entries.{entries_of}
use Rattle.pager_model.specs.Legal.{entries_in}
use Rattle.pager_model.specs.Scripts.{Script}
use Rattle.pager_model.specs.Settings.{Given, mark_of}
use Rattle.pager_model.specs.Showing.{actors, jobs_of, marks_of}
use Rattle.pager_model.specs.TraceText.{HasText}
use Rattle.pager_model.specs.Stores.{given_over, setting_over, EndsWith, StoresEnd, AreCapped}
use Rattle.pager_model.specs.SizeSets.{SizeSet}
use Rattle.pager_model.specs.Stored.{Stored}
use Rattle.pager_core.specs.Machines.{CanDo, most_entries}
use Rattle.pager_core.specs.Running.{AreOfMark, jobs_at, IsWholeRun}
use Rattle.pager_model.proofs.Actors.{actors_few, processor_known}
use Rattle.pager_core.proofs.StartMachines.{can_do, few_entries_of, kinds_of}
use Rattle.pager_core.proofs.Stores.{slice_get-take}
use Rattle.pager_locks.specs.Prepared.{PreparedState}
use Rattle.replay_core.specs.Jobs.{room_for, HadRoom, IsPreparedFor, KeepsToRooms}
use Rattle.pager_core.specs.Replays.{IsReplay, AreItsCounts}
use Rattle.replay_core.proofs.RunLemmas.{jobs_known, length-jobs, IsReplay-of}

-- The jobs of each processor.
module _ (script : Script) (trace : HasText script) (jobs : List (List Job)) (are : jobs ≡ map (λ c. jobs_of c script) (range_with_len 0 (actors script))) where
  few_jobs : All (λ (own : List Job). room_for own ≤ most_entries) jobs
  few_jobs = λ c d below.
      let known : c < actors script = (let many = length-jobs script jobs are in omega (arith, below, many)) in
      let same : get_or jobs c d ≡ jobs_of c script = ap (λ l. get_or l c d) are
      ∙ get_or-map-range_with_len (λ k. jobs_of k script) 0 (actors script) c c d known (omega arith) in
      let few = few_entries_of script trace c in
      let room = ap room_for same in
      omega (arith, room, few)

  -- read off what has them
  pub few_each : {V : Type 0} (items : V → List Job) (vs : List V) → map items vs ≡ jobs → All (λ v. room_for (items v) ≤ most_entries) vs
  few_each items vs is = λ c d below.
      let many = length-map vs items in
      let same = ap room_for (sym (get_or-map items vs c d [] below) ∙ ap (λ l. get_or l c []) is) in
      let few = few_jobs c [] (let long = ap length is in omega (arith, below, many, long)) in
      omega (arith, same, few)

  pub few_rooms : All (λ r. r ≤ 2 ^ 31) (map room_for jobs)
  few_rooms = All-map (λ r. r ≤ 2 ^ 31) room_for jobs (All-weaker (λ (own : List Job). room_for own ≤ most_entries)
      (λ own. room_for own ≤ 2 ^ 31) (λ own few. omega (arith, few)) jobs few_jobs)

  can_each : (c : ℕ) → All (CanDo script.spaces) (jobs_at jobs c)
  can_each c = λ n d below.
      elim (cases_lt c (actors script)) [
        | inl known ↦
            can_do script trace script.spaces c n (get_or (jobs_at jobs c) n d) refl
            (ap (λ l. slice_get l n) (sym (jobs_known script jobs are c known)) ∙ slice_get-get_or (jobs_at jobs c) n d below)
        | inr past ↦ absurd (
            let many = length-jobs script jobs are in
            let none = ap length (get_or_past jobs c [] (omega (arith, many, past))) in
            omega (arith, none, below))
      ]

  kinds_each : (c : ℕ) → AreOfMark (get_or (marks_of script) c 0) (jobs_at jobs c)
  kinds_each c = elim (cases_lt c (actors script)) [
    | inl known ↦ subst (AreOfMark (get_or (marks_of script) c 0)) (sym (jobs_known script jobs are c known)) (kinds_of script trace c)
    | inr past ↦ λ n job at.
        let none : jobs_at jobs c ≡ [] = get_or_past jobs c [] (let many = length-jobs script jobs are in omega (arith, many, past)) in
        absurd (none-some job (ap (λ (l : List Job). slice_get l n) (sym none) ∙ at))
  ]

  -- which is room for the entries of a trace's history
  pub had_room : (history : List Entry) → KeepsToRooms jobs history → HadRoom script history
  had_room history kept = λ c known. (
    subst (λ own. length (entries_of c history) ≤ room_for own) (jobs_known script jobs are c known)
        (kept c (let many = length-jobs script jobs are in omega (arith, known, many))),
    few_entries_of script trace c,
  )

  -- what the pager that is made for them is made of
  pub as_many : (marks rooms : List ℕ) → marks ≡ marks_of script → rooms ≡ map room_for jobs
      → (1 ≤ length marks) × (length marks ≤ 17) × (length rooms ≡ length marks)
  as_many marks rooms marks_are rooms_are =
      let some = processor_known script 0 (let few = trace.processors_in in omega (arith, few.0)) in
      let few = actors_few script trace in
      let all : length marks ≡ actors script = ap length marks_are in
      let own = ap length rooms_are ∙ length-map jobs room_for ∙ length-jobs script jobs are in
      (omega (arith, some, all), omega (arith, few, all), omega (arith, all, own))

  -- and that it is one for them
  pub is_prepared : (prepared : PreparedState) (stores : List Stored) (rooms : List ℕ)
      → prepared.journal.name.setting ≡ given_over script.frames script.sizes (marks_of script) stores → length stores ≡ script.spaces
      → rooms ≡ map room_for jobs → prepared.passes ≡ new_passes prepared.journal.name 0 rooms → prepared.journal.room ≡ sum rooms
      → IsPreparedFor prepared jobs
  is_prepared prepared stores rooms setting count rooms_are passes room =
      record {
        may = record {
          passes = passes ∙ ap (new_passes prepared.journal.name 0) rooms_are;
          count = ap (λ (g : Given). length g.marks) setting ∙ sym (length-jobs script jobs are);
          kinds = λ c. subst (λ m. AreOfMark m (jobs_at jobs c)) (sym (ap (λ (g : Given). mark_of g c) setting)) (kinds_each c);
          can = λ c.
              subst (λ n. All (CanDo n) (jobs_at jobs c))
              (sym (ap (λ (g : Given). length g.told) setting ∙ length-map stores (λ (s : Stored). s.told) ∙ count)) (can_each c);
        };
        room = (let same = ap sum rooms_are in omega (arith, same, room));
      }

IsSomeAnd-append : {X : Type 0} (P : X → Type 0) (xs ys : List X) (i : ℕ) → IsSomeAnd (slice_get xs i) P
    → IsSomeAnd (slice_get (xs ++ ys) i) P
IsSomeAnd-append P [] ys i at = absurd at
IsSomeAnd-append P (x ∷ xs) ys zero at = at
IsSomeAnd-append P (x ∷ xs) ys (suc i) at = IsSomeAnd-append P xs ys i at

-- The first of the stores are the spaces' own, and the others come back behind them.
pub record AreParted {P : Type 0} (script : Script) (stores own others : List P) : Type 0 where
  pub enough : script.spaces ≤ length stores
  pub first : own ≡ take script.spaces stores
  pub rest : others ≡ drop script.spaces stores

-- as they were parted
pub are_parted : {P : Type 0} (script : Script) {stores own others : List P} {count : ℕ} → script.spaces ≤ length stores → count ≡ script.spaces
    → (own ≡ take count stores) × (others ≡ drop count stores) → AreParted script stores own others
are_parted script {stores = stores} enough same parts =
    record {
      enough = enough;
      first = parts.0 ∙ ap (λ n. take n stores) same;
      rest = parts.1 ∙ ap (λ n. drop n stores) same;
    }

module _ {P : Type 0} (seen : P → Stored) {script : Script} {stores own others : List P} (parted : AreParted script stores own others) where
  pub own_count : length own ≡ script.spaces
  own_count = ap length parted.first ∙ length-take-le script.spaces stores parted.enough

  own_seen : map seen own ≡ take script.spaces (map seen stores)
  own_seen = ap (map seen) parted.first ∙ sym (take-map seen script.spaces stores)

  capped_own : AreCapped (length own) (map seen own) → AreCapped script.spaces (map seen stores)
  capped_own capped = λ s store below at.
      capped s store (subst (λ n. s < n) (sym own_count) below)
      (ap (λ l. slice_get l s) own_seen ∙ slice_get-take script.spaces (map seen stores) s below ∙ at)

  pub same_joined : (after joined : List P) → joined ≡ after ++ others → map seen after ≡ map seen own → map seen joined ≡ map seen stores
  same_joined after joined is same =
      ap (map seen) is
      ∙ map-append seen after others
      ∙ ap (λ l. l ++ map seen others) same
      ∙ sym (map-append seen own others)
      ∙ ap₂ (λ xs ys. map seen (xs ++ ys)) parted.first parted.rest
      ∙ ap (map seen) (take-append-drop script.spaces stores)

  unused_joined : (after : List P) → length after ≡ script.spaces → drop script.spaces (map seen (after ++ others))
      ≡ drop script.spaces (map seen stores)
  unused_joined after count =
      ap₂ drop (sym (length-map after seen ∙ count)) (map-append seen after others)
      ∙ drop-append_seam (map seen after) (map seen others)
      ∙ ap (map seen) parted.rest
      ∙ sym (drop-map seen script.spaces stores)

  -- The run of a pager over them.
  module _ (trace : HasText script) (given : Given) (setting : given ≡ given_over script.frames script.sizes (marks_of script) (map seen own)) where
    is_setting : given ≡ setting_over script (map seen stores)
    is_setting = setting ∙ ap (given_over script.frames script.sizes (marks_of script)) own_seen

    pub replayed : (jobs : List (List Job)) (history : List Numbered) (after joined : List P) → joined ≡ after ++ others
        → jobs ≡ map (λ c. jobs_of c script) (range_with_len 0 (actors script)) → AreCapped (length own) (map seen own)
        → IsWholeRun given jobs history → StoresEnd given history (map seen after) → length after ≡ length given.told
        → IsReplay script (map seen stores) history (map seen joined)
    replayed jobs history after joined is are capped whole ends count =
        let told : length given.told ≡ script.spaces = ap (λ (g : Given). length g.told) setting
        ∙ length-map (map seen own) (λ (s : Stored). s.told) ∙ length-map own seen ∙ own_count in
        let seen_joined : map seen joined ≡ map seen after ++ map seen others = ap (map seen) is ∙ map-append seen after others in
        IsReplay-of script trace (map seen stores) (map seen joined) given jobs history
        (let all = length-map stores seen in let enough = parted.enough in omega (arith, all, enough))
        (capped_own capped) is_setting are whole
        (λ s below. subst (λ l. IsSomeAnd (slice_get l s) (EndsWith given history s)) (sym seen_joined)
        (IsSomeAnd-append (EndsWith given history s) (map seen after) (map seen others) s (ends s below)))
        (ap (λ l. drop script.spaces (map seen l)) is ∙ unused_joined after (count ∙ told))

    pub counted : (history : List Numbered) (summary : Summary) → summary ≡ counts given (entries_in history)
        → AreItsCounts script (map seen stores) history summary
    counted history summary = subst (λ (g : Given). summary ≡ counts g (entries_in history)) is_setting

-- the setting of a pager that was made for a trace
pub setting_made : (script : Script) {frames : ℕ} {z : SizeSet} {lent marks : List ℕ} {given : Given} (stores : List Stored)
    → given ≡ given_over frames z lent stores → frames ≡ script.frames → z ≡ script.sizes → lent ≡ marks → marks ≡ marks_of script
    → given ≡ given_over script.frames script.sizes (marks_of script) stores
setting_made script stores setting same_frames same_sizes same_marks own = setting
    ∙ (λ i. given_over (same_frames i) (same_sizes i) ((same_marks ∙ own) i) stores)
