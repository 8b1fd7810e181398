-- The jobs of each processor, in one pass over the lines.
use Rattle.std.proofs.Common.{◌≡◌, ◌≢◌, ℕ, zero, suc, ◌+◌, ◌<◌, ◌≤◌, ◌==◌, List, [], ◌∷◌, ◌++◌, cond, length, map, take, replicate, length-append, get_or, slice_get, Option, Some, None, refl, ap, sym, subst, ◌∙◌, inl, inr, arith}
use Rattle.std.specs.List.{range_with_len, All}
use Rattle.std.proofs.lemmas.Bool.{cases_eq, eq-eqb, ne_eqb}
use Rattle.std.proofs.lemmas.List.{append-nil, get_or-map, get_or-replicate, get_or-set_same, get_or-set_other, map_push, map-set, same_lists, take_more}
use Rattle.std.proofs.lemmas.List.Elements.{All-nil, All-push}
use Rattle.std.proofs.lemmas.List.FromFn.{get_or-map-range_with_len, length-map-range_with_len}
use Rattle.std.proofs.lemmas.Option.{slice_get-get_or}
use Rattle.std.proofs.Math.ListN.{length-map, length-replicate, length-set, set}
use Rattle.pager_model.specs.declared.call.Line.{Line}
use Rattle.pager_model.specs.declared.trace.Daemon.{Daemon}
use Rattle.pager_model.specs.declared.trace.Job.{Job}
use Rattle.pager_model.specs.declared.trace.Job.TheVariants.{Call as MakesCall}
use Rattle.pager_model.specs.Scripts.{Script}
use Rattle.pager_model.specs.Showing.{actors, calls_of, daemon_marks, jobs_of, turns_of}
use Rattle.pager_model.proofs.Lists.{map-alike}
use Rattle.pager_model.proofs.Histories.{filter-push_in, filter-push_out}
use Rattle.pager_core.specs.Running.{jobs_at}
use Rattle.pager_core.specs.TraceJobs.{AreOfLines, job_at, job_of, turns_behind}
use Rattle.pager_core.proofs.Lists.{map_range-push}
use Rattle.pager_core.proofs.StartMachines.{calls_within}
use Rattle.pager_core.proofs.WholeAdvances.{jobs_read}

-- What a function gives at the places from one on.

pub map_range-alike : {X : Type 0} (x : X) (a n : ℕ) → map (λ k. x) (range_with_len a n) ≡ replicate n x
map_range-alike x a zero = refl
map_range-alike x a (suc n) = ap (λ l. x ∷ l) (map_range-alike x (a + 1) n)

map_range-same : {X : Type 0} (f g : ℕ → X) (a n : ℕ) → ((k : ℕ) → k < a + n → f k ≡ g k)
    → map f (range_with_len a n) ≡ map g (range_with_len a n)
map_range-same f g a zero same = refl
map_range-same f g a (suc n) same = λ i. same a (omega arith) i ∷ map_range-same f g (a + 1) n (λ k below. same k (omega (arith, below))) i

-- and where it gives another at one place
map_range-set : {X : Type 0} (f g : ℕ → X) (n p : ℕ) (x : X) → p < n → x ≡ g p → ((k : ℕ) → k ≢ p → f k ≡ g k)
    → set (map f (range_with_len 0 n)) p x ≡ map g (range_with_len 0 n)
map_range-set f g n p x known own others =
    let long = length-map-range_with_len f 0 n in
    let long' = length-map-range_with_len g 0 n in
    let count = length-set (map f (range_with_len 0 n)) p x in
    same_lists _ _ (count ∙ long ∙ sym long')
    (λ k d within. elim (cases_eq k p) [
      | inl here ↦
          ap (λ j. get_or (set (map f (range_with_len 0 n)) p x) j d) here
          ∙ get_or-set_same (map f (range_with_len 0 n)) p x d (omega (arith, known, long))
          ∙ own ∙ ap g (sym here) ∙ sym (get_or-map-range_with_len g 0 n k k d (omega (arith, within, count, long)) (omega arith))
      | inr other ↦
          get_or-set_other (map f (range_with_len 0 n)) p k x d other
          ∙ get_or-map-range_with_len f 0 n k k d (omega (arith, within, count, long)) (omega arith)
          ∙ others k other ∙ sym (get_or-map-range_with_len g 0 n k k d (omega (arith, within, count, long)) (omega arith))
    ])

-- The calls of one line more are one more of its processor, and none more of another.
module _ (lines : List Line) (n : ℕ) (d : Line) (below : n < length lines) where
  abbrev line : Line
  line = get_or lines n d

  own_more : (c : ℕ) → line.processor ≡ c
      → map MakesCall (calls_of c (take (n + 1) lines)) ≡ map MakesCall (calls_of c (take n lines)) ++ MakesCall line.call ∷ []
  own_more c own =
      ap (λ l. map MakesCall (calls_of c l)) (take_more lines n d below)
      ∙ ap (λ l. map MakesCall (map (λ (x : Line). x.call) l)) (filter-push_in (λ (x : Line). x.processor == c) (take n lines) line
      (eq-eqb line.processor c own))
      ∙ ap (map MakesCall) (map_push (λ (x : Line). x.call) _ line)
      ∙ map_push MakesCall (calls_of c (take n lines)) line.call

  other_more : (c : ℕ) → line.processor ≢ c → map MakesCall (calls_of c (take (n + 1) lines)) ≡ map MakesCall (calls_of c (take n lines))
  other_more c other =
      ap (λ l. map MakesCall (calls_of c l)) (take_more lines n d below)
      ∙ ap (λ l. map MakesCall (map (λ (x : Line). x.call) l)) (filter-push_out (λ (x : Line). x.processor == c) (take n lines) line
      (ne_eqb line.processor c other))

  -- so with it the lists are those of one line more
  module _ {V : Type 0} (items : V → List Job) (vs : List V) (processors : ℕ)
      (so_far : map items vs ≡ map (λ c. map MakesCall (calls_of c (take n lines))) (range_with_len 0 processors))
      (within : All (λ (l : Line). l.processor < processors) lines) where
    count : length vs ≡ processors
    count = sym (length-map vs items) ∙ ap length so_far ∙ length-map-range_with_len
        (λ c. map MakesCall (calls_of c (take n lines))) 0 processors

    pub processor_known : (m : ℕ) → m ≡ length vs → line.processor < m
    processor_known m is = (let known = within n d below in let all = count in omega (arith, known, all, is))

    pub calls-more : (v v' : V) → v ≡ get_or vs line.processor v → items v' ≡ items v ++ MakesCall line.call ∷ []
        → map items (set vs line.processor v') ≡ map (λ c. map MakesCall (calls_of c (take (n + 1) lines))) (range_with_len 0 processors)
    calls-more v v' read pushed =
        let own : items v ≡ map MakesCall (calls_of line.processor (take n lines)) =
        jobs_read items vs line.processor v (processor_known (length vs) refl) read
        ∙ ap (λ l. jobs_at l line.processor) so_far
        ∙ get_or-map-range_with_len (λ c. map MakesCall (calls_of c (take n lines))) 0 processors line.processor line.processor []
        (within n d below) (omega arith) in
        map-set items vs line.processor v'
        ∙ ap (λ l. set l line.processor (items v')) so_far
        ∙ map_range-set (λ c. map MakesCall (calls_of c (take n lines)))
        (λ c. map MakesCall (calls_of c (take (n + 1) lines))) processors line.processor (items v')
        (within n d below) (pushed ∙ ap (λ l. l ++ MakesCall line.call ∷ []) own ∙ sym (own_more line.processor refl))
        (λ c other. sym (other_more c (λ is. other (sym is))))

-- The jobs of a trace.

none_behind : (most c : ℕ) (lines : List Line) → All (λ (l : Line). l.processor < most) lines → most ≤ c → calls_of c lines ≡ []
none_behind most c lines known past = by (calls_of c lines) refl
  where
    by : (calls : List _) → calls_of c lines ≡ calls → calls_of c lines ≡ []
    by [] is = is
    by (call ∷ calls) is =
        (let below = calls_within most c lines known 0 call (ap (λ l. slice_get l 0) is) in absurd (omega (arith, below, past)))

count_actors : (script : Script) (o : Option Daemon) → script.daemon ≡ o → actors script ≡ script.processors + length (daemon_marks o)
count_actors script o is =
    ap (λ (x : Option Daemon). length (replicate script.processors 0 ++ daemon_marks x)) is
    ∙ length-append (replicate script.processors 0) (daemon_marks o)
    ∙ ap (λ n. n + length (daemon_marks o)) (length-replicate {A = ℕ} script.processors 0)

-- of those that make calls each has its calls
callers : (script : Script)
    → map (λ c. map MakesCall (calls_of c script.calls)) (range_with_len 0 script.processors)
    ≡ map (λ c. jobs_of c script) (range_with_len 0 script.processors)
callers script =
    map_range-same (λ c. map MakesCall (calls_of c script.calls)) (λ c. jobs_of c script) 0 script.processors
    (λ c below. sym (append-nil (map MakesCall (calls_of c script.calls)))
    ∙ ap (λ b. map MakesCall (calls_of c script.calls) ++ cond b (turns_of script.daemon) [])
    (sym (ne_eqb c script.processors (λ is. omega (arith, is, below)))))

-- without a daemon there are no others
pub jobs-calls : (script : Script) (jobs : List (List Job)) → script.daemon ≡ None
    → jobs ≡ map (λ c. map MakesCall (calls_of c script.calls)) (range_with_len 0 script.processors)
    → jobs ≡ map (λ c. jobs_of c script) (range_with_len 0 (actors script))
jobs-calls script jobs none are =
    are ∙ callers script ∙ ap (λ n. map (λ c. jobs_of c script) (range_with_len 0 n))
    (let count = count_actors script None none in let e : script.processors ≡ actors script = omega (arith, count) in e)

-- and with one it is the last, and has its turns
jobs-more : (script : Script) (jobs jobs' : List (List Job)) (d : Daemon) → script.daemon ≡ Some d
    → All (λ (l : Line). l.processor < script.processors) script.calls
    → jobs' ≡ jobs ++ turns_of (Some d) ∷ [] → jobs ≡ map (λ c. map MakesCall (calls_of c script.calls)) (range_with_len 0 script.processors)
    → jobs' ≡ map (λ c. jobs_of c script) (range_with_len 0 (actors script))
jobs-more script jobs jobs' d some known more are =
    map_range-push (λ c. jobs_of c script) jobs jobs' (turns_of (Some d)) script.processors more (are ∙ callers script)
    (ap turns_of (sym some)
    ∙ ap (λ b. cond b (turns_of script.daemon) []) (sym (eq-eqb script.processors script.processors refl))
    ∙ ap (λ calls. map MakesCall calls ++ cond (script.processors == script.processors) (turns_of script.daemon) [])
    (sym (none_behind script.processors script.processors script.calls known (omega arith))))
    ∙ ap (λ n. map (λ c. jobs_of c script) (range_with_len 0 n)) (sym (count_actors script (Some d) some))

pub jobs-turns : {V : Type 0} (items : V → List Job) (script : Script) (vs vs' : List V) (v : V) (d : Daemon) → script.daemon ≡ Some d
    → All (λ (l : Line). l.processor < script.processors) script.calls
    → vs' ≡ vs ++ v ∷ [] → map items vs ≡ map (λ c. map MakesCall (calls_of c script.calls)) (range_with_len 0 script.processors)
    → items v ≡ turns_of (Some d)
    → map items vs' ≡ map (λ c. jobs_of c script) (range_with_len 0 (actors script))
jobs-turns items script vs vs' v d some known more are turns =
    jobs-more script (map items vs) (map items vs') d some known
    (ap (map items) more ∙ map_push items vs v ∙ ap (λ own. map items vs ++ own ∷ []) turns) are

-- with what stands behind the calls they are the trace's
pub jobs-behind : (script : Script) (jobs : List (List Job)) → All (λ (l : Line). l.processor < script.processors) script.calls
    → jobs ≡ map (λ c. map MakesCall (calls_of c script.calls)) (range_with_len 0 script.processors)
    → jobs ++ turns_behind script.daemon ≡ map (λ c. jobs_of c script) (range_with_len 0 (actors script))
jobs-behind script jobs known are = by script.daemon refl
  where
    by : (o : Option Daemon) → script.daemon ≡ o → jobs ++ turns_behind o ≡ map (λ c. jobs_of c script) (range_with_len 0 (actors script))
    by None is = append-nil jobs ∙ jobs-calls script jobs is are
    by (Some d) is = jobs-more script jobs (jobs ++ turns_of (Some d) ∷ []) d is known refl are

-- The jobs by the numbers of their lines.

map_items : {V : Type 0} (items : V → List ℕ) (f : ℕ → Job) (vs : List V) → map (λ v. map f (items v)) vs ≡ map (map f) (map items vs)
map_items items f [] = refl
map_items items f (v ∷ vs) = ap (λ l. map f (items v) ∷ l) (map_items items f vs)

-- before the first line there are none
module _ {V : Type 0} (items : V → List ℕ) (lines : List Line) (vs : List V) (processors : ℕ)
    (none : map items vs ≡ replicate processors []) where
  pub numbered-none : map (λ v. map (job_at lines) (items v)) vs
      ≡ map (λ c. map MakesCall (calls_of c (take 0 lines))) (range_with_len 0 processors)
  numbered-none =
      map_items items (job_at lines) vs ∙ ap (map (map (job_at lines))) none ∙ map-alike (map (job_at lines)) processors []
      ∙ sym (map_range-alike [] 0 processors)

  is_empty : (i : ℕ) (d : V) → i < length vs → items (get_or vs i d) ≡ []
  is_empty i d within =
      let count = sym (length-map vs items) ∙ ap length none ∙ length-replicate {A = List ℕ} processors [] in
      sym (get_or-map items vs i d [] within) ∙ ap (λ l. get_or l i []) none
      ∙ get_or-replicate processors i [] [] (omega (arith, within, count))

  pub AreOfLines-none : All (λ v. AreOfLines lines (items v)) vs
  AreOfLines-none i d within = subst (AreOfLines lines) (sym (is_empty i d within)) (All-nil (λ n. n < length lines))

-- one number more
pub numbered-push : (lines : List Line) (own own' : List ℕ) (n : ℕ) (d : Line) → n < length lines → own' ≡ own ++ n ∷ []
    → map (job_at lines) own' ≡ map (job_at lines) own ++ MakesCall (get_or lines n d).call ∷ []
numbered-push lines own own' n d below more =
    ap (map (job_at lines)) more ∙ map_push (job_at lines) own n
    ∙ ap (λ o. map (job_at lines) own ++ job_of o ∷ []) (slice_get-get_or lines n d below)

-- whatever the number is called
pub pushed-as : (own own' : List ℕ) (m n : ℕ) → own' ≡ own ++ m ∷ [] → m ≡ n → own' ≡ own ++ n ∷ []
pushed-as own own' m n more is = more ∙ ap (λ k. own ++ k ∷ []) is

pub AreOfLines-push : (lines : List Line) (own own' : List ℕ) (n : ℕ) → n < length lines → own' ≡ own ++ n ∷ []
    → AreOfLines lines own → AreOfLines lines own'
AreOfLines-push lines own own' n below more are =
    subst (AreOfLines lines) (sym more) (All-push (λ k. k < length lines) own n are below)
