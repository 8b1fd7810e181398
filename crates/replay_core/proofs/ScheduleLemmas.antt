-- One step of a machine, of the first of several processors that can make one.
use Rattle.std.proofs.Common.{◌≡◌, ◌≢◌, ℕ, zero, suc, ◌+◌, ◌<◌, ◌≤◌, inl, inr, Bool, true, false, cond, List, [], ◌∷◌, ◌++◌, length, take, drop, get_or, take_all, filter, Option, Some, None, is_some, refl, sym, ap, subst, ◌∙◌, arith}
use Rattle.std.proofs.lemmas.Bool.{cases_eq, false≢true}
use Rattle.std.proofs.lemmas.List.{append-nil, append_assoc, take-append-drop, take_more, map-append}
use Rattle.std.proofs.lemmas.List.Elements.{filter-append}
use Rattle.std.proofs.lemmas.Option.{none-some}
use Rattle.std.specs.List.{AllByRecursion, range_with_len, sum_by, find}
use Rattle.pager_model.specs.declared.entry.Numbered.{Numbered}
use Rattle.pager_model.specs.Legal.{entries_in}
use Rattle.pager_model.specs.Scripts.{Script}
use Rattle.pager_model.specs.Showing.{actors}
use Rattle.pager_model.proofs.Ranges.{range_with_len-more}
use Rattle.pager_model.specs.Stored.{Stored}
use Rattle.flight_core.specs.declared.flight.Flight.{Flight}
use Rattle.pager_core.specs.declared.machine.Advance.{Advance}
use Rattle.pager_core.specs.declared.machine.Advance.TheVariants.{Ended as HasNone, Stepped, Waits}
use Rattle.pager_core.specs.Machines.{all_left}
use Rattle.pager_core.specs.Running.{Running, jobs_at, flight_at, left_at, entries_left, MustWait, OneMore, HasEnded, IsLawful}
use Rattle.pager_core.proofs.Lists.{sum_by-lower}
use Rattle.flight_core.proofs.Lists.{all-append}
use Rattle.pager_model.specs.Schedules.{can_step, has_left, left_of}
use Rattle.replay_core.specs.Schedules.{flies, flying_in, IsStuck, FirstStepped}
use Rattle.replay_core.proofs.RunLemmas.{IsRunOf, length-jobs}
use Rattle.replay_core.proofs.StandingLemmas.{known_in, known_flight, left_is, cannot_step, can_step_free, not_all_stuck}

-- What holds of each of a list.

all_parts : {X : Type 0} (P : X → Type 0) (xs ys : List X) → AllByRecursion P (xs ++ ys) → AllByRecursion P xs × AllByRecursion P ys
all_parts P [] ys all = (tt, all)
all_parts P (x ∷ xs) ys all = (let rest = all_parts P xs ys all.1 in ((all.0, rest.0), rest.1))

pub all_at : {X : Type 0} (P : X → Type 0) (xs : List X) (i : ℕ) (d : X) → AllByRecursion P xs → i < length xs → P (get_or xs i d)
all_at P [] i d all below = absurd (omega (arith, below))
all_at P (x ∷ xs) zero d all below = all.0
all_at P (x ∷ xs) (suc i) d all below = all_at P xs i d all.1 (omega (arith, below))

-- of the first ones and the next
pub all_take_more : {X : Type 0} (P : X → Type 0) (xs : List X) (i : ℕ) (d : X) → i < length xs → AllByRecursion P (take i xs)
    → P (get_or xs i d) → AllByRecursion P (take (i + 1) xs)
all_take_more P xs i d below all is = subst (AllByRecursion P) (sym (take_more xs i d below))
    (all-append P (take i xs) (get_or xs i d ∷ []) all (is, tt))

all_both : {X : Type 0} (P Q R : X → Type 0) → ((x : X) → P x → Q x → R x) → (xs : List X) → AllByRecursion P xs → AllByRecursion Q xs
    → AllByRecursion R xs
all_both P Q R both [] p q = tt
all_both P Q R both (x ∷ xs) p q = (both x p.0 q.0, all_both P Q R both xs p.1 q.1)

-- a list from a place on and then its beginning has the elements of the list
pub all_rotated : {X : Type 0} (P : X → Type 0) (i : ℕ) (xs : List X) → AllByRecursion P xs → AllByRecursion P (drop i xs ++ take i xs)
all_rotated P i xs all =
    let parts = all_parts P (take i xs) (drop i xs) (subst (AllByRecursion P) (sym (take-append-drop i xs)) all) in
    all-append P (drop i xs) (take i xs) parts.1 parts.0

pub all_unrotated : {X : Type 0} (P : X → Type 0) (i : ℕ) (xs : List X) → AllByRecursion P (drop i xs ++ take i xs) → AllByRecursion P xs
all_unrotated P i xs all =
    let parts = all_parts P (drop i xs) (take i xs) all in
    subst (AllByRecursion P) (take-append-drop i xs) (all-append P (take i xs) (drop i xs) parts.1 parts.0)

-- numbers from one on
all_range : (P : ℕ → Type 0) (a n : ℕ) → ((d : ℕ) → d < a + n → P d) → AllByRecursion P (range_with_len a n)
all_range P a zero is = tt
all_range P a (suc n) is = (is a (omega arith), all_range P (a + 1) n (λ d below. is d (omega (arith, below))))

pub range_known : (n : ℕ) → AllByRecursion (λ c. c < n) (range_with_len 0 n)
range_known n = all_range (λ c. c < n) 0 n (λ d below. omega (arith, below))

in_range : (P : ℕ → Type 0) (a n d : ℕ) → AllByRecursion P (range_with_len a n) → a ≤ d → d < a + n → P d
in_range P a zero d all from below = absurd (omega (arith, from, below))
in_range P a (suc n) d all from below = elim (cases_eq a d) [
  | inl here ↦ subst P here all.0
  | inr later ↦ in_range P (a + 1) n d all.1 (omega (arith, from, later)) (omega (arith, below))
]

-- what a filter keeps

all_if : {X : Type 0} (P : X → Type 0) (x : X) (xs : List X) (b : Bool) → P x → AllByRecursion P xs → AllByRecursion P (cond b (x ∷ xs) xs)
all_if P x xs true is all = (is, all)
all_if P x xs false is all = all

all_filter : {X : Type 0} (P : X → Type 0) (q : X → Bool) (xs : List X) → AllByRecursion P xs → AllByRecursion P (filter q xs)
all_filter P q [] all = tt
all_filter P q (x ∷ xs) all = all_if P x (filter q xs) (q x) all.0 (all_filter P q xs all.1)

first_if : {X : Type 0} (P : X → Type 0) (x : X) (xs : List X) (b : Bool) → AllByRecursion P (cond b (x ∷ xs) xs) → b ≡ true → P x
first_if P x xs true all is = all.0
first_if P x xs false all is = absurd (false≢true is)

rest_if : {X : Type 0} (P : X → Type 0) (x : X) (xs : List X) (b : Bool) → AllByRecursion P (cond b (x ∷ xs) xs) → AllByRecursion P xs
rest_if P x xs true all = all.1
rest_if P x xs false all = all

pub all_tested : {X : Type 0} (P : X → Type 0) (q : X → Bool) (xs : List X) → AllByRecursion P (filter q xs)
    → AllByRecursion (λ x. q x ≡ true → P x) xs
all_tested P q [] all = tt
all_tested P q (x ∷ xs) all = (first_if P x (filter q xs) (q x) all, all_tested P q xs (rest_if P x (filter q xs) (q x) all))

filter_same : {X : Type 0} (P : X → Type 0) (p q : X → Bool) → ((x : X) → P x → p x ≡ q x) → (xs : List X) → AllByRecursion P xs
    → filter p xs ≡ filter q xs
filter_same P p q same [] all = refl
filter_same P p q same (x ∷ xs) all =
    ap (λ b. cond b (x ∷ filter p xs) (filter p xs)) (same x all.0) ∙ ap (λ l. cond (q x) (x ∷ l) l) (filter_same P p q same xs all.1)

-- one number more
range_filter : (p : ℕ → Bool) (n : ℕ) (b : Bool) → p n ≡ b → filter p (range_with_len 0 (n + 1)) ≡ filter p (range_with_len 0 n)
    ++ cond b (n ∷ []) []
range_filter p n b is =
    ap (filter p) (range_with_len-more n) ∙ filter-append p (range_with_len 0 n) (n ∷ [])
    ∙ ap (λ b. filter p (range_with_len 0 n) ++ cond b (n ∷ []) []) is

pub filter_push : (p : ℕ → Bool) (n : ℕ) → p n ≡ true → filter p (range_with_len 0 (n + 1)) ≡ filter p (range_with_len 0 n) ++ n ∷ []
filter_push p n is = range_filter p n true is

pub filter_pass : (p : ℕ → Bool) (n : ℕ) → p n ≡ false → filter p (range_with_len 0 (n + 1)) ≡ filter p (range_with_len 0 n)
filter_pass p n is = range_filter p n false is ∙ append-nil (filter p (range_with_len 0 n))

pub some_there : (o : Option Flight) → o ≢ None → is_some o ≡ true
some_there None there = absurd (there refl)
some_there (Some f) there = refl

pub none_there : (o : Option Flight) → (o ≢ None → ⊥) → is_some o ≡ false
none_there None absent = refl
none_there (Some f) absent = absurd (absent (λ none. none-some f (sym none)))

-- the first that passes a test stands behind those that don't
find_first : {X : Type 0} (p : X → Bool) (xs : List X) (x : X) (ys : List X) → AllByRecursion (λ y. p y ≡ false) xs → p x ≡ true
    → find p (xs ++ x ∷ ys) ≡ Some x
find_first p [] x ys none is = ap (λ b. cond b (Some x) (find p ys)) is
find_first p (y ∷ xs) x ys none is = ap (λ b. cond b (Some y) (find p (xs ++ x ∷ ys))) none.0 ∙ find_first p xs x ys none.1 is

-- The processors that have a call left.

pub flying_known : (run : Running) → AllByRecursion (λ c. c < length run.jobs) (flying_in run)
flying_known run =
    all_filter (λ c. c < length run.jobs) (flies run.flights) (range_with_len 0 (length run.jobs))
    (range_known (length run.jobs))

pub left_same : (script : Script) (stores : List Stored) (run : Running) → IsRunOf script stores run
    → left_of script (entries_in run.history) ≡ flying_in run
left_same script stores run is =
    filter_same (λ c. c < actors script) (has_left script (entries_in run.history)) (flies run.flights) (left_is script stores run is)
    (range_with_len 0 (actors script))
    (range_known (actors script))
    ∙ ap (λ n. filter (flies run.flights) (range_with_len 0 n)) (sym (length-jobs script run.jobs is.jobs))

-- where those with a call left are all stuck, none has one
flying_stuck : (run : Running) → IsLawful run → AllByRecursion (IsStuck run) (flying_in run) → (d : ℕ) (g : Flight)
    → flight_at run.flights d ≡ Some g → IsStuck run d
flying_stuck run lawful all d g there =
    in_range (λ x. flies run.flights x ≡ true → IsStuck run x) 0 (length run.jobs) d
    (all_tested (IsStuck run) (flies run.flights) (range_with_len 0 (length run.jobs)) all)
    (omega arith) (let known = known_flight run d g lawful there in omega (arith, known)) (ap is_some there)

range_stuck : (run : Running) → IsLawful run → AllByRecursion (IsStuck run) (range_with_len 0 (length run.jobs)) → (d : ℕ) (g : Flight)
    → flight_at run.flights d ≡ Some g → IsStuck run d
range_stuck run lawful all d g there =
    in_range (IsStuck run) 0 (length run.jobs) d all (omega arith) (let known = known_flight run d g lawful there in omega (arith, known))

ended_by : (run : Running) → IsLawful run → ((d : ℕ) (g : Flight) → flight_at run.flights d ≡ Some g → IsStuck run d)
    → (c : ℕ) (o : Option Flight) → flight_at run.flights c ≡ o → flight_at run.flights c ≡ None
ended_by run lawful all c None there = there
ended_by run lawful all c (Some f) there = absurd (not_all_stuck run c f lawful there all)

pub flying_can : (run : Running) → IsLawful run → (HasEnded run → ⊥) → AllByRecursion (IsStuck run) (flying_in run) → ⊥
flying_can run lawful going all = going (λ c. ended_by run lawful (flying_stuck run lawful all) c (flight_at run.flights c) refl)

pub range_can : (run : Running) → IsLawful run → (HasEnded run → ⊥) → AllByRecursion (IsStuck run) (range_with_len 0 (length run.jobs)) → ⊥
range_can run lawful going all = going (λ c. ended_by run lawful (range_stuck run lawful all) c (flight_at run.flights c) refl)

some_of : (P : ℕ → Type 0) (xs : List ℕ) → (AllByRecursion P xs → ⊥) → 0 < length xs
some_of P [] some = absurd (some tt)
some_of P (x ∷ xs) some = omega arith

pub some_flying : (run : Running) → IsLawful run → (HasEnded run → ⊥) → 0 < length (flying_in run)
some_flying run lawful going = some_of (IsStuck run) (flying_in run) (flying_can run lawful going)

-- The step of the first that can make one.

pub stuck_by : (run after : Running) (c : ℕ) (advance : Advance) → (advance ≡ HasNone → (after ≡ run) × (flight_at run.flights c ≡ None))
    → ((space : ℕ) → advance ≡ Waits space → (after ≡ run) × MustWait run c space) → (advance ≡ Stepped → ⊥) → (after ≡ run) × IsStuck run c
stuck_by run after c HasNone ended waits other = (let end = ended refl in (end.0, inl end.1))
stuck_by run after c Stepped ended waits other = absurd (other refl)
stuck_by run after c (Waits space) ended waits other = (let wait = waits space refl in (wait.0, inr (space, wait.1)))

pub free_by : (run : Running) (c : ℕ) (advance : Advance) → (flight_at run.flights c ≡ None → advance ≡ HasNone)
    → ((space : ℕ) → MustWait run c space → advance ≡ Waits space) → advance ≡ Stepped → IsStuck run c → ⊥
free_by run c advance ended waits stepped (inl none) = (let e : HasNone ≡ Stepped = sym (ended none) ∙ stepped in cc)
free_by run c advance ended waits stepped (inr (space, must)) = (let e : Waits space ≡ Stepped = sym (waits space must) ∙ stepped in cc)

-- the first that could, at its place in the list
pub FirstStepped-at : (old now new : Running) (actors : List ℕ) (i : ℕ) → now ≡ old → i < length actors
    → AllByRecursion (IsStuck now) (take i actors) → (IsStuck now (get_or actors i 0) → ⊥) → OneMore now new (get_or actors i 0)
    → (new.given ≡ now.given) × (new.jobs ≡ now.jobs) → new.unused ≡ now.unused → IsLawful new → FirstStepped old new actors
FirstStepped-at old now new actors i same below stuck can more same_jobs unused lawful =
    let x = get_or actors i 0 in
    subst (λ r. FirstStepped r new actors) same
    (record {
      passed = take i actors;
      actor = x;
      rest = drop (i + 1) actors;
      split = sym (take-append-drop (i + 1) actors) ∙ ap (λ l. l ++ drop (i + 1) actors) (take_more actors i 0 below)
          ∙ append_assoc (take i actors) (x ∷ []) (drop (i + 1) actors);
      stuck = stuck;
      can = can;
      more = more;
      same_given = same_jobs.0;
      same_jobs = same_jobs.1;
      same_unused = unused;
      lawful = lawful;
    })

-- where none of them could they are all stuck
pub stuck_past : (old now : Running) (actors : List ℕ) (i : ℕ) → now ≡ old → length actors ≤ i
    → AllByRecursion (IsStuck now) (take i actors) → AllByRecursion (IsStuck old) actors
stuck_past old now actors i same past stuck =
    subst (λ r. AllByRecursion (IsStuck r) actors) same (subst (AllByRecursion (IsStuck now)) (take_all i actors past) stuck)

pub entries_step : (run new : Running) (c : ℕ) (more : OneMore run new c)
    → entries_in new.history ≡ entries_in run.history ++ more.entry ∷ []
entries_step run new c more =
    ap entries_in more.history ∙ map-append (λ (n : Numbered). n.entry) run.history
    (record { number = length run.history; entry = more.entry } ∷ [])

module _ (script : Script) (stores : List Stored) (run new : Running) (order : List ℕ) (is : IsRunOf script stores run) (step : FirstStepped run new order) where
  pub IsRunOf-step : IsRunOf script stores new
  IsRunOf-step =
      record {
        given = step.same_given ∙ is.given;
        unused = step.same_unused ∙ is.unused;
        jobs = step.same_jobs ∙ is.jobs;
        lawful = step.lawful;
      }

  -- the test finds the actor among them
  pub found : AllByRecursion (λ c. c < actors script) order → find (can_step script (entries_in run.history)) order
      ≡ Some step.more.entry.processor
  found all =
      let known = all_parts (λ c. c < actors script) step.passed (step.actor ∷ step.rest)
      (subst (AllByRecursion (λ c. c < actors script)) step.split all) in
      let none = all_both (λ c. c < actors script) (IsStuck run) (λ c. can_step script (entries_in run.history) c ≡ false)
      (cannot_step script stores run is) step.passed known.0 step.stuck in
      ap (find (can_step script (entries_in run.history))) step.split
      ∙ find_first (can_step script (entries_in run.history)) step.passed step.actor step.rest none
      (can_step_free script stores run is step.actor known.1.0 step.can)
      ∙ ap Some (sym step.more.of_actor)

  -- and less is left
  pub fewer_left : AllByRecursion (λ c. c < actors script) order → all_left new < all_left run
  fewer_left all =
      let known = all_parts (λ c. c < actors script) step.passed (step.actor ∷ step.rest)
      (subst (AllByRecursion (λ c. c < actors script)) step.split all) in
      let below : step.actor < length run.jobs = known_in script stores run is step.actor known.1.0 in
      subst (λ n. sum_by (left_at new) (range_with_len 0 n) < all_left run) (sym (ap length step.same_jobs))
      (sum_by-lower (left_at run) (left_at new) step.actor 0 (length run.jobs) (omega arith) (omega (arith, below)) step.more.fewer
      (λ d other. ap (λ l. entries_left (jobs_at l d) (flight_at new.flights d)) step.same_jobs
      ∙ ap (entries_left (jobs_at run.jobs d)) (step.more.others d other)))
