-- Which answers of a legal history aren't the flat memory's: one that tells a store's fault comes after that fault.
use Rattle.std.proofs.Common.{◌≡◌, ℕ, zero, suc, ◌+◌, ◌≤◌, Bool, true, false, ◌==◌, nat_lt, ◌&&◌, ◌||◌, not, if◌then◌else◌, List, [], ◌∷◌, ◌++◌, fold, Option, Some, None, refl, sym, ap, subst, ◌∙◌, inl, inr, arith}
use Rattle.std.proofs.lemmas.Bool.{and_parts, eq-eqb, eqb-true, false≢true, cond_both, ltb-true, ltb-false}
use Rattle.std.proofs.lemmas.List.Elements.{filter-append}
use Rattle.std.proofs.lemmas.List.Sums.{fold-append}
use Rattle.std.proofs.lemmas.Option.{cond_some}
use Rattle.std.specs.Option.{IfSome}
use Rattle.pager_model.specs.declared.entry.Victim.{Victim}
use Rattle.pager_model.specs.declared.call.Call.{Call}
use Rattle.pager_model.specs.declared.call.Call.TheVariants.{Unmap, Sync, Evict, Discard, Wire, Unwire}
use Rattle.pager_model.specs.declared.entry.Entry.{Entry}
use Rattle.pager_model.specs.declared.entry.Need.{Need}
use Rattle.pager_model.specs.declared.entry.What.{What}
use Rattle.pager_model.specs.declared.entry.What.TheVariants.{Answer, Out, Failed, Take, Give, Clear, Claim, UseHeld, DropHeld, Got, Unclaim, Refused, Pin, Kept, Rest}
use Rattle.pager_model.specs.declared.reply.Answered.{Answered}
use Rattle.pager_model.specs.declared.reply.Reply.{Reply}
use Rattle.pager_model.specs.declared.reply.Reply.TheVariants.{NoFrames, StoreFault, NoMemory, Busy}
use Rattle.pager_model.specs.Entries.{names_space, space_part, is_of, IsOn}
use Rattle.pager_model.specs.Flat.{space_of_call}
use Rattle.pager_model.specs.Headline.{AllAnswered, AllServed, IsAnswered, IsServed}
use Rattle.pager_model.specs.Legal.{IsLegal, MayFollow, SpaceJudges, state_of_space, space_at, progress_at}
use Rattle.pager_model.specs.Order.{ForAccess, ForTurn, Doing, Idle, Looking, Cleared, Pinned, Blocked, Uncopied, Filling, Unfilling, Claiming, Emptied, Unwritten, Holding, Late, Faulted, Lacking, Refusing, Progress, leads, may_answer, is_answered_alone, is_clearing, is_pinning, is_copying, is_access, is_access_at, is_victim, between, after_answer, after_take, after_use, after_clear, after_pin, after_kept, after_out, after_failure, after_give, after_claim, after_got, after_unclaim, lacking_for, faulted_for, after_drop, dropped_for, after_refusal, after_rest, progress_after, progress_by}
use Rattle.pager_model.specs.Settings.{Given, mark_of, is_told, faults_at_entry}
use Rattle.pager_model.specs.SpaceStates.{SpaceState, ReplyAllowed, AnswerAllowed, SpaceAllows, WhatAllowed, empty_state, highest_after, space_after}
use Rattle.pager_model.proofs.Histories.{space_at-named, progress_at-own, progress_at-other, IsLegal-keeps}
use Rattle.pager_laws.proofs.LegalHistories.{progress_before}
use Rattle.pager_laws.proofs.LegalPrefixes.{IsLegal-at}
use Rattle.pager_laws.specs.Faults.{HasFailed}

-- Counts.

-- the highest count never falls
highest-more : (highest : ℕ) (what : What) → highest ≤ highest_after highest what
highest-more highest (Failed page writing count) =
    cond_both (nat_lt highest count) count highest (λ n. highest ≤ n)
    (λ above. (let less = ltb-true highest count above in omega (arith, less))) (λ _. omega arith)
highest-more highest what = omega arith

highest-from : (st : SpaceState) (entries : List Entry) → st.highest ≤ (fold space_after st entries).highest
highest-from st [] = omega arith
highest-from st (e ∷ entries) =
    (let first = highest-more st.highest e.what in let rest = highest-from (space_after st e) entries in omega (arith, first, rest))

highest-along : (g : Given) (before after : List Entry) (s : ℕ) → (space_at g before s).highest ≤ (space_at g (before ++ after) s).highest
highest-along g before after s =
    let split : space_at g (before ++ after) s ≡ fold space_after (space_at g before s) (space_part s after) =
    ap (state_of_space g s) (filter-append (names_space s) before after)
    ∙ fold-append space_after (empty_state g.sizes (is_told g s) (faults_at_entry g s)) (space_part s before) (space_part s after) in
    subst (λ (st : SpaceState). (space_at g before s).highest ≤ st.highest) (sym split)
    (highest-from (space_at g before s) (space_part s after))

-- a failure's count isn't above the highest then
highest-failed : (highest page count : ℕ) (writing : Bool) → count ≤ highest_after highest (Failed page writing count)
highest-failed highest page count writing =
    cond_both (nat_lt highest count) count highest (λ n. count ≤ n) (λ _. omega arith)
    (λ not_above. (let most = ltb-false highest count not_above in omega (arith, most)))

HasFailed-along : (g : Given) (before after : List Entry) (s count : ℕ) → HasFailed g before s count → HasFailed g (before ++ after) s count
HasFailed-along g before after s count has =
    record {
      known = has.known;
      rose = has.rose;
      within = (let more = highest-along g before after s in let was = has.within in
          omega (arith, more, was));
    }

-- Places that tell a fault.

-- what holds of the space and the count that a place tells
abbrev Tells : (ℕ → ℕ → Type 0) → Doing → Type 0
Tells P (Uncopied space page count) = P space count
Tells P (Unfilling a frame count) = P a.space count
Tells P (Unwritten purpose victim count) = P victim.space count
Tells P (Faulted a space count) = P space count
Tells P doing = Unit {0}

-- and that an entry tells
abbrev Fails : (ℕ → ℕ → Type 0) → Option ℕ → What → Type 0
Fails P (Some s) (Failed page writing count) = P s count
Fails P space what = Unit {0}

abbrev TellsAt : (ℕ → ℕ → Type 0) → Option Progress → Type 0
TellsAt P None = Unit {0}
TellsAt P (Some p) = Tells P p.doing

tells-more : (P Q : ℕ → ℕ → Type 0) → ((s n : ℕ) → P s n → Q s n) → (doing : Doing) → Tells P doing → Tells Q doing
tells-more P Q more (Uncopied space page count) tells = more space count tells
tells-more P Q more (Unfilling a frame count) tells = more a.space count tells
tells-more P Q more (Unwritten purpose victim count) tells = more victim.space count tells
tells-more P Q more (Faulted a space count) tells = more space count tells
tells-more P Q more doing tells = tt

-- An entry leads to a place that tells a fault only from one that tells it, or as that fault.
module _ (P : ℕ → ℕ → Type 0) where
  tells-leads : (holds : Bool) (made : ℕ) (doing : Doing) → (holds ≡ true → Tells P doing) → TellsAt P (leads holds made doing)
  tells-leads true made doing tells = tells refl
  tells-leads false made doing tells = tt

  tells-take : (made : ℕ) (doing : Doing) (space page frame : ℕ) → TellsAt P (after_take made doing space page frame)
  tells-take made Idle space page frame = tt
  tells-take made doing space page frame = tt

  tells-use : (made : ℕ) (doing : Doing) (space page frame : ℕ) → TellsAt P (after_use made doing space page frame)
  tells-use made (Holding (ForAccess a) victim) space page frame = tells-leads ((space == a.space) && (page == a.page)) made
      (Filling a frame) (λ _. tt)
  tells-use made doing space page frame = tt

  tells-clear : (made : ℕ) (doing : Doing) (space first len : ℕ) → TellsAt P (after_clear made doing space first len)
  tells-clear made Idle space first len = tt
  tells-clear made doing space first len = tt

  tells-pin : (made : ℕ) (doing : Doing) (space first len : ℕ) (wired : Bool) → TellsAt P (after_pin made doing space first len wired)
  tells-pin made Idle space first len wired = tt
  tells-pin made doing space first len wired = tt

  tells-kept : (made : ℕ) (doing : Doing) (space first len page : ℕ) → TellsAt P (after_kept made doing space first len page)
  tells-kept made Idle space first len page = tt
  tells-kept made doing space first len page = tt

  tells-out : (made : ℕ) (doing : Doing) (space page : ℕ) → TellsAt P (after_out made doing space page)
  tells-out made (Claiming purpose victim) space page = tells-leads (is_victim victim space page) made (Emptied purpose victim) (λ _. tt)
  tells-out made doing space page = tt

  tells-failure : (made : ℕ) (doing : Doing) (space page : ℕ) (writing : Bool) (count : ℕ) → P space count
      → TellsAt P (after_failure made doing space page writing count)
  tells-failure made Idle space page writing count fails = tells-leads writing made (Uncopied space page count) (λ _. fails)
  tells-failure made (Claiming purpose victim) space page writing count fails =
      tells-leads (writing && is_victim victim space page) made (Unwritten purpose victim count)
      (λ test. subst (λ s. P s count)
      (eqb-true space victim.space (and_parts (space == victim.space) (page == victim.page)
      (and_parts writing (is_victim victim space page) test).1).0) fails)
  tells-failure made (Filling a frame) space page writing count fails =
      tells-leads (not writing && ((space == a.space) && (page == a.page))) made (Unfilling a frame count)
      (λ test. subst (λ s. P s count)
      (eqb-true space a.space (and_parts (space == a.space) (page == a.page)
      (and_parts (not writing) ((space == a.space) && (page == a.page)) test).1).0) fails)
  tells-failure made doing space page writing count fails = tt

  tells-give : (made : ℕ) (doing : Doing) (space page frame : ℕ) → Tells P doing → TellsAt P (after_give made doing space page frame)
  tells-give made (Unfilling a own count) space page frame tells =
      let here = (space == a.space) && (page == a.page) in
      tells-leads (here && (frame == own)) made (Faulted a space count)
      (λ test. subst (λ s. P s count)
      (sym (eqb-true space a.space (and_parts (space == a.space) (page == a.page) (and_parts here (frame == own) test).0).0)) tells)
  tells-give made (Emptied purpose victim) space page frame tells = tells-leads
      (is_victim victim space page && (frame == victim.frame)) made (Holding purpose victim) (λ _. tt)
  tells-give made doing space page frame tells = tt

  tells-claim : (made : ℕ) (doing : Doing) (space : Option ℕ) (victim : Victim) (need : Option Need)
      → TellsAt P (after_claim made doing space victim need)
  tells-claim made Idle (Some space) victim (Some need) = tt
  tells-claim made (Looking mark evictions) None victim None = tells-leads (nat_lt evictions mark) made
      (Claiming (ForTurn mark evictions) victim) (λ _. tt)
  tells-claim made doing space victim need = tt

  tells-got : (made : ℕ) (doing : Doing) (frame : ℕ) → TellsAt P (after_got made doing frame)
  tells-got made (Claiming purpose victim) frame = tells-leads (frame == victim.frame) made (Holding purpose victim) (λ _. tt)
  tells-got made doing frame = tt

  -- where a test holds
  tells-if : (holds : Bool) (o : Option Progress) → (holds ≡ true → TellsAt P o) → TellsAt P (if holds then o else None)
  tells-if true o tells = tells refl
  tells-if false o tells = tt

  tells-unclaim : (made : ℕ) (doing : Doing) (space frame : ℕ) → Tells P doing → TellsAt P (after_unclaim made doing space frame)
  tells-unclaim made (Claiming (ForAccess a) victim) space frame tells = tells-if _ (lacking_for made (ForAccess a) space) (λ _. tt)
  tells-unclaim made (Claiming (ForTurn mark evictions) victim) space frame tells =
      tells-if _ (lacking_for made (ForTurn mark evictions) space) (λ _. tt)
  tells-unclaim made (Unwritten (ForAccess a) victim count) space frame tells =
      tells-if ((space == victim.space) && (frame == victim.frame)) (faulted_for made (ForAccess a) space count)
      (λ test. subst (λ s. P s count)
      (sym (eqb-true space victim.space (and_parts (space == victim.space) (frame == victim.frame) test).0)) tells)
  tells-unclaim made (Unwritten (ForTurn mark evictions) victim count) space frame tells =
      tells-if _ (faulted_for made (ForTurn mark evictions) space count) (λ _. tt)
  tells-unclaim made doing space frame tells = tt

  tells-drop : (made : ℕ) (doing : Doing) (frame : ℕ) → TellsAt P (after_drop made doing frame)
  tells-drop made (Holding (ForAccess a) victim) frame = tells-if _ (dropped_for made (ForAccess a)) (λ _. tt)
  tells-drop made (Holding (ForTurn mark evictions) victim) frame = tells-if _ (dropped_for made (ForTurn mark evictions)) (λ _. tt)
  tells-drop made doing frame = tt

  tells-refusal : (made : ℕ) (doing : Doing) (wired claimed held : ℕ) → TellsAt P (after_refusal made doing wired claimed held)
  tells-refusal made Idle wired claimed held = tt
  tells-refusal made doing wired claimed held = tt

  tells-rest : (made : ℕ) (doing : Doing) (short : Bool) → TellsAt P (after_rest made doing short)
  tells-rest made (Looking mark evictions) short = tells-leads (not short || (evictions == mark)) (made + 1) (Looking mark 0) (λ _. tt)
  tells-rest made doing short = tt

  tells-after : (p : Progress) (space : Option ℕ) (what : What) → Tells P p.doing → Fails P space what
      → TellsAt P (progress_after p space what)
  tells-after p space (Answer number call answered) tells fails = tells-leads
      ((number == p.made) && may_answer p.doing call answered.reply) (p.made + 1) Idle (λ _. tt)
  tells-after p (Some s) (Out page written) tells fails = tells-out p.made p.doing s page
  tells-after p (Some s) (Failed page writing count) tells fails = tells-failure p.made p.doing s page writing count fails
  tells-after p (Some s) (Take page frame want) tells fails = tells-take p.made p.doing s page frame
  tells-after p (Some s) (Give page frame) tells fails = tells-give p.made p.doing s page frame tells
  tells-after p (Some s) (Clear first len) tells fails = tells-clear p.made p.doing s first len
  tells-after p space (Claim victim page frame need) tells fails = tells-claim p.made p.doing space
      (record { space = victim; page = page; frame = frame }) need
  tells-after p (Some s) (UseHeld page frame want) tells fails = tells-use p.made p.doing s page frame
  tells-after p space (DropHeld frame) tells fails = tells-drop p.made p.doing frame
  tells-after p space (Got frame) tells fails = tells-got p.made p.doing frame
  tells-after p (Some s) (Unclaim frame) tells fails = tells-unclaim p.made p.doing s frame tells
  tells-after p space (Refused wired claimed held) tells fails = tells-refusal p.made p.doing wired claimed held
  tells-after p (Some s) (Pin first len wired) tells fails = tells-pin p.made p.doing s first len wired
  tells-after p (Some s) (Kept first len page frame) tells fails = tells-kept p.made p.doing s first len page
  tells-after p space (Rest short) tells fails = tells-rest p.made p.doing short
  tells-after p None what tells fails = tt

-- A place tells only faults that a store had.

-- a failure that may follow
HasFailed-now : (g : Given) (history : List Entry) (c : ℕ) (space : Option ℕ) (frames : Bool) (what : What)
    → MayFollow g history (record { processor = c; space = space; frames = frames; what = what })
    → Fails (HasFailed g (history ++ record { processor = c; space = space; frames = frames; what = what } ∷ [])) space what
HasFailed-now g history c (Some s) frames (Failed page writing count) may =
    let e : Entry = record { processor = c; space = Some s; frames = frames; what = Failed page writing count } in
    let st = space_at g history s in
    let since = highest-from (empty_state g.sizes (is_told g s) (faults_at_entry g s)) (space_part s history) in
    record {
      known = may.space;
      rose = elim may.by_space.1.2 [ inl above ↦ inl (omega (arith, since, above)) | inr last ↦ inr last ];
      within = subst (λ (after : SpaceState). count ≤ after.highest) (sym (space_at-named g history e s (eq-eqb s s refl)))
          (highest-failed st.highest page count writing);
    }
HasFailed-now g history c space frames what may = tt

-- each processor's place tells one that a store had
abbrev TellFailures : Given → List Entry → Type 0
TellFailures g history = (c : ℕ) → TellsAt (HasFailed g history) (progress_at g history c)

-- with one entry more
module _ (g : Given) (history : List Entry) (e : Entry) where
  abbrev after : List Entry
  after = history ++ e ∷ []

  tells-still : (doing : Doing) → Tells (HasFailed g history) doing → Tells (HasFailed g after) doing
  tells-still = tells-more (HasFailed g history) (HasFailed g after) (HasFailed-along g history (e ∷ []))

  tells-other : (o : Option Progress) → TellsAt (HasFailed g history) o → TellsAt (HasFailed g after) o
  tells-other None tells = tt
  tells-other (Some p) tells = tells-still p.doing tells

  tells-own : MayFollow g history e → (o : Option Progress) → TellsAt (HasFailed g history) o
      → TellsAt (HasFailed g after) (progress_by o e)
  tells-own may None tells = tt
  tells-own may (Some p) tells = tells-after (HasFailed g after) p e.space e.what (tells-still p.doing tells)
      (HasFailed-now g history e.processor e.space e.frames e.what may)

  TellFailures-more : TellFailures g history → MayFollow g history e → TellFailures g after
  TellFailures-more tell may c =
      elim (is_of c e) as (λ b. is_of c e ≡ b → TellsAt (HasFailed g after) (progress_at g after c)) [
        | true ↦ λ own.
            subst (TellsAt (HasFailed g after)) (sym (progress_at-own g history e c own)) (tells-own may (progress_at g history c) (tell c))
        | false ↦ λ other. subst (TellsAt (HasFailed g after)) (sym (progress_at-other g history e c other))
            (tells-other (progress_at g history c) (tell c))
      ] refl

tells-between : (P : ℕ → ℕ → Type 0) (mark : ℕ) → Tells P (between mark)
tells-between P zero = tt
tells-between P (suc n) = tt

TellFailures-legal : (g : Given) (history : List Entry) → IsLegal g history → TellFailures g history
TellFailures-legal g history legal = IsLegal-keeps g (TellFailures g) (TellFailures-more g)
    (λ c. tells-between (HasFailed g []) (mark_of g c)) history legal

-- Answers that tell a fault.

-- no call is answered so by one entry alone
not_alone : (call : Call) (space count : ℕ) → is_answered_alone call (StoreFault space count) ≡ true → ⊥
not_alone (Unmap s page) space count is = false≢true is
not_alone (Sync s page) space count is = false≢true is
not_alone (Evict s page) space count is = false≢true is
not_alone (Discard s page len) space count is = false≢true is
not_alone (Wire s page) space count is = false≢true is
not_alone (Unwire s page) space count is = false≢true is
not_alone call space count is = false≢true is

same_told : (P : ℕ → ℕ → Type 0) (s n space count : ℕ) → (space == s) && (count == n) ≡ true → P s n → P space count
same_told P s n space count test tells =
    let same = and_parts (space == s) (count == n) test in
    subst (λ m. P space m) (sym (eqb-true count n same.1)) (subst (λ t. P t n) (sym (eqb-true space s same.0)) tells)

-- it is given at a place that tells the fault
told_there : (P : ℕ → ℕ → Type 0) (doing : Doing) (call : Call) (space count : ℕ) → may_answer doing call (StoreFault space count) ≡ true
    → Tells P doing → P space count
told_there P Idle call space count may tells = absurd (not_alone call space count may)
told_there P (Cleared s first len) call space count may tells = absurd (false≢true (and_parts (is_clearing s first len call) false may).1)
told_there P (Pinned s first len wired) call space count may tells =
    absurd (false≢true (and_parts (is_pinning s first len wired call) false may).1)
told_there P (Blocked s first len page) call space count may tells =
    absurd (false≢true (and_parts (is_pinning s first len true call) false may).1)
told_there P (Uncopied s page n) call space count may tells = same_told P s n space count
    (and_parts (is_copying s page call) ((space == s) && (count == n)) may).1 tells
told_there P (Filling a frame) call space count may tells = absurd (false≢true (and_parts (is_access_at a call) false may).1)
told_there P (Late a) call space count may tells = absurd (false≢true (and_parts (is_access_at a call) false may).1)
told_there P (Faulted a s n) call space count may tells = same_told P s n space count
    (and_parts (is_access_at a call) ((space == s) && (count == n)) may).1 tells
told_there P (Lacking a s) call space count may tells = absurd (false≢true (and_parts (is_access_at a call) false may).1)
told_there P (Refusing wired claimed held) call space count may tells = absurd (false≢true (and_parts (is_access call) false may).1)
told_there P doing call space count may tells = absurd (false≢true may)

-- so the store had it
HasFailed-told : (g : Given) (before : List Entry) (e : Entry) (number : ℕ) (call : Call) (answered : Answered) → IsLegal g before
    → MayFollow g before e → e.what ≡ Answer number call answered → (space count : ℕ) → answered.reply ≡ StoreFault space count
    → HasFailed g before space count
HasFailed-told g before e number call answered legal may is space count told =
    let from = progress_before (progress_at g before e.processor) e may.ordered.0 may.ordered.1 in
    let p = from.0 in
    let goes : after_answer p number call answered.reply ≡ Some may.ordered.0 = ap (progress_after p e.space) (sym is) ∙ from.2 in
    let test = cond_some ((number == p.made) && may_answer p.doing call answered.reply)
    (record { made = p.made + 1; doing = Idle }) may.ordered.0 goes in
    let may_tell : may_answer p.doing call (StoreFault space count) ≡ true =
    sym (ap (may_answer p.doing call) told) ∙ (and_parts (number == p.made) (may_answer p.doing call answered.reply) test.0).1 in
    told_there (HasFailed g before) p.doing call space count may_tell
    (subst (TellsAt (HasFailed g before)) from.1 (TellFailures-legal g before legal e.processor))

-- Answers.

-- an answer is allowed after the entries of its call's space before it
allowed_answer : (g : Given) (before : List Entry) (e : Entry) (number : ℕ) (call : Call) (answered : Answered) → MayFollow g before e
    → e.what ≡ Answer number call answered
    → AnswerAllowed (space_at g before (space_of_call call)) e.frames e.processor number call answered
allowed_answer g before e number call answered may is =
    let st = space_at g before (space_of_call call) in
    let named : e.space ≡ Some (space_of_call call) = subst (IsOn e.space e.frames) is may.parts in
    let judged : SpaceAllows st e = subst (λ o. IfSome o (λ s. SpaceJudges g s (space_part s before) e)) named may.by_space in
    subst (WhatAllowed st e.frames e.processor) is judged.1

answered_by : (st : SpaceState) (c : ℕ) (call : Call) (reply : Reply) → ReplyAllowed st c call reply → IsAnswered st call reply
answered_by st c call (NoFrames wired claimed held) allowed = tt
answered_by st c call (StoreFault space count) allowed = tt
answered_by st c call NoMemory allowed = tt
answered_by st c call (Busy page) allowed = tt
answered_by st c call reply allowed = allowed.0

-- whatever stores did each answer is the flat memory's, or says why it is not
pub AllAnswered-legal : (g : Given) (history : List Entry) → IsLegal g history → AllAnswered g history
AllAnswered-legal g history legal before after e number call answered split is =
    let at = IsLegal-at g before after e (subst (IsLegal g) split legal) in
    answered_by (space_at g before (space_of_call call)) e.processor call answered.reply
    (allowed_answer g before e number call answered at.1 is).reply

-- an answer that says no store's fault is so
served_by : (st : SpaceState) (call : Call) (reply : Reply) → IsAnswered st call reply
    → ((space count : ℕ) → reply ≡ StoreFault space count → ⊥) → IsServed st call reply
served_by st call (NoFrames wired claimed held) is none = tt
served_by st call (StoreFault space count) is none = none space count refl
served_by st call NoMemory is none = tt
served_by st call (Busy page) is none = tt
served_by st call reply is none = is

-- so where no store failed each answer is the flat memory's, or says that no frame or no memory could be had
pub AllServed-legal : (g : Given) (history : List Entry) → IsLegal g history → ((s count : ℕ) → HasFailed g history s count → ⊥)
    → AllServed g history
AllServed-legal g history legal none before after e number call answered split is =
    let at = IsLegal-at g before after e (subst (IsLegal g) split legal) in
    served_by (space_at g before (space_of_call call)) call answered.reply
    (AllAnswered-legal g history legal before after e number call answered split is)
    (λ s count told.
    none s count (subst (λ h. HasFailed g h s count) (sym split)
    (HasFailed-along g before (e ∷ after) s count (HasFailed-told g before e number call answered at.0 at.1 is s count told))))
