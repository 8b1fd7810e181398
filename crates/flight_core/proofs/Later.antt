-- Where an entry leads is told whatever a processor's number of calls or turns is counted from, but for answers.
use Rattle.std.proofs.Common.{◌≡◌, ℕ, ◌+◌, Bool, true, false, cond, ◌&&◌, eqb, Option, Some, None, option_map, refl, ap, sym, subst, ◌∙◌, arith}
use Rattle.std.specs.Option.{option_and_then}
use Rattle.std.proofs.lemmas.Option.{none-some}
use Rattle.pager_model.specs.declared.call.Call.{Call}
use Rattle.pager_model.specs.declared.entry.Need.{Need}
use Rattle.pager_model.specs.declared.entry.Victim.{Victim}
use Rattle.pager_model.specs.declared.entry.What.{What}
use Rattle.pager_model.specs.declared.entry.What.TheVariants.{Answer, Out, Failed, Take, Give, Clear, Claim, UseHeld, DropHeld, Got, Unclaim, Refused, Pin, Kept, Rest}
use Rattle.pager_model.specs.Order.{Purpose, Doing, Progress, leads, after_take, after_use, after_clear, after_pin, after_kept, after_out, after_failure, after_give, after_claim, after_got, after_unclaim, lacking_for, faulted_for, after_drop, dropped_for, after_refusal, after_rest, progress_after}
use Rattle.pager_model.specs.Order.Purpose.{ForAccess, ForTurn}
use Rattle.pager_model.specs.Order.Doing.{Idle, Looking, Filling, Unfilling, Claiming, Emptied, Unwritten, Holding}
use Rattle.pager_model.specs.Showing.{answer_in}
use Rattle.flight_core.specs.Flying.{later}

module _ (k : ℕ) where
  abbrev Moves : Option Progress → Option Progress → Type 0
  Moves from to = to ≡ option_map (later k) from

  lead : (b : Bool) (made : ℕ) (doing : Doing) → Moves (leads b made doing) (leads b (k + made) doing)
  lead true made doing = refl
  lead false made doing = refl

  lead_more : (b : Bool) (made : ℕ) (doing : Doing) → Moves (leads b (made + 1) doing) (leads b ((k + made) + 1) doing)
  lead_more b made doing = ap (λ n. leads b n doing) (let e : (k + made) + 1 ≡ k + (made + 1) = omega arith in e) ∙ lead b (made + 1) doing

  either : (b : Bool) (o o' : Option Progress) → Moves o o' → Moves (cond b o None) (cond b o' None)
  either true o o' moves = moves
  either false o o' moves = refl

  named : (space : Option ℕ) (F F' : ℕ → Option Progress) → ((s : ℕ) → Moves (F s) (F' s))
      → Moves (option_and_then F space) (option_and_then F' space)
  named None F F' moves = refl
  named (Some s) F F' moves = moves s

  takes : (m : ℕ) (d : Doing) (s page frame : ℕ) → Moves (after_take m d s page frame) (after_take (k + m) d s page frame)
  takes m Idle s page frame = refl
  takes m d s page frame = refl

  uses : (m : ℕ) (d : Doing) (s page frame : ℕ) → Moves (after_use m d s page frame) (after_use (k + m) d s page frame)
  uses m (Holding (ForAccess a) victim) s page frame = lead _ m (Filling a frame)
  uses m (Holding (ForTurn mark evictions) victim) s page frame = refl
  uses m d s page frame = refl

  clears : (m : ℕ) (d : Doing) (s first len : ℕ) → Moves (after_clear m d s first len) (after_clear (k + m) d s first len)
  clears m Idle s first len = refl
  clears m d s first len = refl

  pins : (m : ℕ) (d : Doing) (s first len : ℕ) (wired : Bool)
      → Moves (after_pin m d s first len wired) (after_pin (k + m) d s first len wired)
  pins m Idle s first len wired = refl
  pins m d s first len wired = refl

  keeps : (m : ℕ) (d : Doing) (s first len page : ℕ) → Moves (after_kept m d s first len page) (after_kept (k + m) d s first len page)
  keeps m Idle s first len page = refl
  keeps m d s first len page = refl

  outs : (m : ℕ) (d : Doing) (s page : ℕ) → Moves (after_out m d s page) (after_out (k + m) d s page)
  outs m (Claiming purpose victim) s page = lead _ m (Emptied purpose victim)
  outs m d s page = refl

  fails : (m : ℕ) (d : Doing) (s page : ℕ) (writing : Bool) (count : ℕ)
      → Moves (after_failure m d s page writing count) (after_failure (k + m) d s page writing count)
  fails m Idle s page writing count = lead writing m _
  fails m (Claiming purpose victim) s page writing count = lead _ m (Unwritten purpose victim count)
  fails m (Filling a frame) s page writing count = lead _ m (Unfilling a frame count)
  fails m d s page writing count = refl

  gives : (m : ℕ) (d : Doing) (s page frame : ℕ) → Moves (after_give m d s page frame) (after_give (k + m) d s page frame)
  gives m (Unfilling a own count) s page frame = lead _ m _
  gives m (Emptied purpose victim) s page frame = lead _ m (Holding purpose victim)
  gives m d s page frame = refl

  claims : (m : ℕ) (d : Doing) (space : Option ℕ) (v : Victim) (need : Option Need)
      → Moves (after_claim m d space v need) (after_claim (k + m) d space v need)
  claims m Idle (Some s) v (Some need) = refl
  claims m Idle (Some s) v None = refl
  claims m Idle None v need = refl
  claims m (Looking mark evictions) None v None = lead _ m (Claiming (ForTurn mark evictions) v)
  claims m (Looking mark evictions) None v (Some need) = refl
  claims m (Looking mark evictions) (Some s) v need = refl
  claims m d space v need = refl

  gots : (m : ℕ) (d : Doing) (frame : ℕ) → Moves (after_got m d frame) (after_got (k + m) d frame)
  gots m (Claiming purpose victim) frame = lead _ m (Holding purpose victim)
  gots m d frame = refl

  lacks : (m : ℕ) (purpose : Purpose) (s : ℕ) → Moves (lacking_for m purpose s) (lacking_for (k + m) purpose s)
  lacks m (ForAccess a) s = refl
  lacks m (ForTurn mark evictions) s = lead_more true m (Looking mark 0)

  faults : (m : ℕ) (purpose : Purpose) (s count : ℕ) → Moves (faulted_for m purpose s count) (faulted_for (k + m) purpose s count)
  faults m (ForAccess a) s count = refl
  faults m (ForTurn mark evictions) s count = lead_more true m (Looking mark 0)

  unclaims : (m : ℕ) (d : Doing) (s frame : ℕ) → Moves (after_unclaim m d s frame) (after_unclaim (k + m) d s frame)
  unclaims m (Claiming purpose victim) s frame = either (eqb s victim.space && eqb frame victim.frame) (lacking_for m purpose s)
      (lacking_for (k + m) purpose s) (lacks m purpose s)
  unclaims m (Unwritten purpose victim count) s frame =
      either (eqb s victim.space && eqb frame victim.frame) (faulted_for m purpose s count) (faulted_for (k + m) purpose s count)
      (faults m purpose s count)
  unclaims m d s frame = refl

  drops_for : (m : ℕ) (purpose : Purpose) → Moves (dropped_for m purpose) (dropped_for (k + m) purpose)
  drops_for m (ForAccess a) = refl
  drops_for m (ForTurn mark evictions) = refl

  drops : (m : ℕ) (d : Doing) (frame : ℕ) → Moves (after_drop m d frame) (after_drop (k + m) d frame)
  drops m (Holding purpose victim) frame = either (eqb frame victim.frame) (dropped_for m purpose) (dropped_for (k + m) purpose)
      (drops_for m purpose)
  drops m d frame = refl

  refuses : (m : ℕ) (d : Doing) (wired claimed held : ℕ) → Moves (after_refusal m d wired claimed held)
      (after_refusal (k + m) d wired claimed held)
  refuses m Idle wired claimed held = refl
  refuses m d wired claimed held = refl

  rests : (m : ℕ) (d : Doing) (short : Bool) → Moves (after_rest m d short) (after_rest (k + m) d short)
  rests m (Looking mark evictions) short = lead_more _ m (Looking mark 0)
  rests m d short = refl

  moves : (p : Progress) (space : Option ℕ) (what : What) → answer_in what ≡ None
      → Moves (progress_after p space what) (progress_after (later k p) space what)
  moves p space (Answer number call answered) none = absurd (none-some (number, call) (sym none))
  moves p space (Out page written) none = named space (λ s. after_out p.made p.doing s page) (λ s. after_out (k + p.made) p.doing s page)
      (λ s. outs p.made p.doing s page)
  moves p space (Failed page writing count) none =
      named space (λ s. after_failure p.made p.doing s page writing count)
      (λ s. after_failure (k + p.made) p.doing s page writing count) (λ s. fails p.made p.doing s page writing count)
  moves p space (Take page frame want) none = named space (λ s. after_take p.made p.doing s page frame)
      (λ s. after_take (k + p.made) p.doing s page frame) (λ s. takes p.made p.doing s page frame)
  moves p space (Give page frame) none = named space (λ s. after_give p.made p.doing s page frame)
      (λ s. after_give (k + p.made) p.doing s page frame) (λ s. gives p.made p.doing s page frame)
  moves p space (Clear first len) none = named space (λ s. after_clear p.made p.doing s first len)
      (λ s. after_clear (k + p.made) p.doing s first len) (λ s. clears p.made p.doing s first len)
  moves p space (Claim victim page frame need) none = claims p.made p.doing space
      (record { space = victim; page = page; frame = frame }) need
  moves p space (UseHeld page frame want) none = named space (λ s. after_use p.made p.doing s page frame)
      (λ s. after_use (k + p.made) p.doing s page frame) (λ s. uses p.made p.doing s page frame)
  moves p space (DropHeld frame) none = drops p.made p.doing frame
  moves p space (Got frame) none = gots p.made p.doing frame
  moves p space (Unclaim frame) none = named space (λ s. after_unclaim p.made p.doing s frame)
      (λ s. after_unclaim (k + p.made) p.doing s frame) (λ s. unclaims p.made p.doing s frame)
  moves p space (Refused wired claimed held) none = refuses p.made p.doing wired claimed held
  moves p space (Pin first len wired) none = named space (λ s. after_pin p.made p.doing s first len wired)
      (λ s. after_pin (k + p.made) p.doing s first len wired) (λ s. pins p.made p.doing s first len wired)
  moves p space (Kept first len page frame) none = named space (λ s. after_kept p.made p.doing s first len page)
      (λ s. after_kept (k + p.made) p.doing s first len page) (λ s. keeps p.made p.doing s first len page)
  moves p space (Rest short) none = rests p.made p.doing short

pub later_none : (p : Progress) → later 0 p ≡ p
later_none p = ap (λ n. record { made = n; doing = p.doing }) (let e : 0 + p.made ≡ p.made = omega arith in e)

-- so an entry leads on whatever was made before, where an answer comes only where nothing was
pub leads_later : (k : ℕ) (p q : Progress) (space : Option ℕ) (what : What) → ((x : ℕ × Call) → answer_in what ≡ Some x → k ≡ 0)
    → progress_after p space what ≡ Some q → progress_after (later k p) space what ≡ Some (later k q)
leads_later k p q space what none is = by (answer_in what) refl
  where
    by : (o : Option (ℕ × Call)) → answer_in what ≡ o → progress_after (later k p) space what ≡ Some (later k q)
    by None other = moves k p space what other ∙ ap (option_map (later k)) is
    by (Some x) answer =
        subst (λ n. progress_after (later n p) space what ≡ Some (later n q)) (sym (none x answer))
        (ap (λ y. progress_after y space what) (later_none p) ∙ is ∙ ap Some (sym (later_none q)))
