-- How many of each kind of entry a turn has at most, by where each entry leads.
use Rattle.std.proofs.Common.{◌≡◌, ℕ, zero, suc, ◌+◌, ◌-◌, ◌<◌, ◌≤◌, Bool, true, false, cond, ◌&&◌, eqb, List, [], ◌∷◌, ◌++◌, length, drop, take, Option, Some, None, refl, ap, sym, subst, ◌∙◌, inl, inr, ◌⊎◌, arith}
use Rattle.std.proofs.lemmas.Bool.{false≢true, ltb-true}
use Rattle.std.proofs.lemmas.List.{length-drop}
use Rattle.std.proofs.lemmas.List.Sums.{sum_by-cons}
use Rattle.std.proofs.Math.Seq.{take-length}
use Rattle.std.proofs.lemmas.Option.{none-some, same_Some}
use Rattle.journal_core.specs.Journals.{PassState}
use Rattle.pager_model.specs.declared.entry.Entry.{Entry}
use Rattle.pager_model.specs.declared.entry.Need.{Need}
use Rattle.pager_model.specs.declared.entry.Numbered.{Numbered}
use Rattle.pager_model.specs.declared.entry.Victim.{Victim}
use Rattle.pager_model.specs.declared.entry.What.{What}
use Rattle.pager_model.specs.declared.entry.What.TheVariants.{Answer, Out, Failed, Take, Give, Clear, Claim, UseHeld, DropHeld, Got, Unclaim, Refused, Pin, Kept, Rest}
use Rattle.pager_model.specs.declared.call.Call.{Call}
use Rattle.pager_model.specs.declared.reply.Reply.{Reply}
use Rattle.pager_model.specs.Legal.{entries_in}
use Rattle.pager_model.specs.Order.{Doing, Progress, at_rest, leads, may_answer, after_take, after_use, after_clear, after_pin, after_kept, after_out, after_failure, after_give, after_claim, after_got, after_unclaim, after_drop, after_refusal, after_rest, progress_after, progress_from}
use Rattle.pager_model.specs.Order.Purpose.{ForAccess, ForTurn}
use Rattle.pager_model.specs.Order.Doing.{Idle, Looking, Filling, Unfilling, Claiming, Emptied, Unwritten, Holding}
use Rattle.pager_model.specs.Showing.{IsTurn}
use Rattle.pager_locks.specs.Calls.{MakesTurn}
use Rattle.pager_locks.proofs.CountedCalls.{from_none}
use Rattle.pager_locks.specs.Counts.{is_written, is_clean, is_fault, is_unclaim, written_in, clean_in, faults_in, unclaims_in, made_since}

-- how many evictions of the turn have paged their pages out at most
abbrev used : Doing → ℕ
used (Looking mark evictions) = evictions
used (Claiming (ForTurn mark evictions) victim) = evictions
used (Unwritten (ForTurn mark evictions) victim count) = evictions
used (Emptied (ForTurn mark evictions) victim) = evictions + 1
used (Holding (ForTurn mark evictions) victim) = evictions + 1
used doing = 0

-- a write failed, whose claim isn't given up yet
abbrev failed : Doing → ℕ
failed (Unwritten purpose victim count) = 1
failed doing = 0

-- a place in a turn of this low mark
abbrev InTurn : ℕ → Doing → Type 0
InTurn mark (Looking low evictions) = (low ≡ mark) × (evictions ≤ mark)
InTurn mark (Claiming (ForTurn low evictions) victim) = (low ≡ mark) × (evictions < mark)
InTurn mark (Unwritten (ForTurn low evictions) victim count) = (low ≡ mark) × (evictions < mark)
InTurn mark (Emptied (ForTurn low evictions) victim) = (low ≡ mark) × (evictions < mark)
InTurn mark (Holding (ForTurn low evictions) victim) = (low ≡ mark) × (evictions < mark)
InTurn mark doing = ⊥

abbrev one : Bool → ℕ
one b = cond b 1 0

abbrev outs_of : What → ℕ
outs_of what = one (is_written what) + one (is_clean what)

-- an entry that doesn't end the turn
record Same (n : ℕ) (doing : Doing) (q : Progress) (what : What) : Type 0 where
  made : q.made ≡ n
  outs : outs_of what + used doing ≤ used q.doing
  unclaims : one (is_unclaim what) ≡ 0
  faults : one (is_fault what) + failed doing ≤ failed q.doing

-- one that ends it
record Ends (mark n : ℕ) (doing : Doing) (q : Progress) (what : What) : Type 0 where
  made : q.made ≡ n + 1
  outs : outs_of what ≡ 0
  most : used doing ≤ mark
  none_used : used q.doing ≡ 0
  unclaims : one (is_unclaim what) ≤ 1
  faults : one (is_fault what) ≡ 0
  given_up : failed doing ≤ one (is_unclaim what)
  none_failed : failed q.doing ≡ 0

abbrev Goes : ℕ → ℕ → Doing → Progress → What → Type 0
Goes mark made doing q what = InTurn mark q.doing × (Same made doing q what ⊎ Ends mark made doing q what)

led : (b : Bool) (made : ℕ) (doing : Doing) (q : Progress) → leads b made doing ≡ Some q
    → (b ≡ true) × (record { made = made; doing = doing } ≡ q)
led true made doing q is = (refl, same_Some (record { made = made; doing = doing }) q is)
led false made doing q is = absurd (none-some q is)

led_if : (b : Bool) (o : Option Progress) (q : Progress) → cond b o None ≡ Some q → o ≡ Some q
led_if true o q is = is
led_if false o q is = absurd (none-some q is)

never : (b : Bool) → (b && false) ≡ true → ⊥
never true is = false≢true is
never false is = false≢true is

one_out : (written : Bool) (page : ℕ) → outs_of (Out page written) ≡ 1
one_out true page = refl
one_out false page = refl

-- A turn of this low mark, which comes behind so many: what its entry may be where it is, if it leads on.
module _ (mark made : ℕ) (q : Progress) where
  -- where the entry's effect on the place is told
  goes_to : (doing : Doing) (what : What) (b : Bool) (n : ℕ) (d : Doing) → leads b n d ≡ Some q
      → (b ≡ true → Goes mark made doing (record { made = n; doing = d }) what) → Goes mark made doing q what
  goes_to doing what b n d is goes = (let l = led b n d q is in subst (λ x. Goes mark made doing x what) l.1 (goes l.0))

  answers : (d : Doing) (call : Call) (reply : Reply) (b : Bool) → InTurn mark d
      → leads (b && may_answer d call reply) (made + 1) Idle ≡ Some q → ⊥
  answers (Looking low evictions) call reply b place is = never b (led (b && false) (made + 1) Idle q is).0
  answers (Claiming (ForTurn low evictions) v) call reply b place is = never b (led (b && false) (made + 1) Idle q is).0
  answers (Unwritten (ForTurn low evictions) v count) call reply b place is = never b (led (b && false) (made + 1) Idle q is).0
  answers (Emptied (ForTurn low evictions) v) call reply b place is = never b (led (b && false) (made + 1) Idle q is).0
  answers (Holding (ForTurn low evictions) v) call reply b place is = never b (led (b && false) (made + 1) Idle q is).0
  answers d call reply b place is = absurd place

  outs : (d : Doing) (s page : ℕ) (written : Bool) → InTurn mark d → after_out made d s page ≡ Some q
      → Goes mark made d q (Out page written)
  outs (Claiming (ForTurn low evictions) v) s page written place is =
      goes_to _ (Out page written) _ made (Emptied (ForTurn low evictions) v) is
      (λ _. (
        place,
        inl (record {
          made = refl;
          outs = (let one = one_out written page in omega (arith, one));
          unclaims = refl;
          faults = omega arith;
        }),
      ))
  outs (Claiming (ForAccess a) v) s page written place is = absurd place
  outs d s page written place is = absurd (none-some q is)

  fails : (d : Doing) (s page : ℕ) (writing : Bool) (count : ℕ) → InTurn mark d → after_failure made d s page writing count ≡ Some q
      → Goes mark made d q (Failed page writing count)
  fails (Claiming (ForTurn low evictions) v) s page writing count place is =
      goes_to _ (Failed page writing count) _ made (Unwritten (ForTurn low evictions) v count) is
      (λ _. (place, inl (record { made = refl; outs = omega arith; unclaims = refl; faults = omega arith })))
  fails (Claiming (ForAccess a) v) s page writing count place is = absurd place
  fails Idle s page writing count place is = absurd place
  fails (Filling a frame) s page writing count place is = absurd place
  fails d s page writing count place is = absurd (none-some q is)

  takes : (d : Doing) (s page frame : ℕ) → InTurn mark d → after_take made d s page frame ≡ Some q → ⊥
  takes Idle s page frame place is = place
  takes d s page frame place is = none-some q is

  gives : (d : Doing) (s page frame : ℕ) → InTurn mark d → after_give made d s page frame ≡ Some q → Goes mark made d q (Give page frame)
  gives (Emptied (ForTurn low evictions) v) s page frame place is =
      goes_to _ (Give page frame) _ made (Holding (ForTurn low evictions) v) is
      (λ _. (place, inl (record { made = refl; outs = omega arith; unclaims = refl; faults = omega arith })))
  gives (Emptied (ForAccess a) v) s page frame place is = absurd place
  gives (Unfilling a own count) s page frame place is = absurd place
  gives d s page frame place is = absurd (none-some q is)

  clears : (d : Doing) (s first len : ℕ) → InTurn mark d → after_clear made d s first len ≡ Some q → ⊥
  clears Idle s first len place is = place
  clears d s first len place is = none-some q is

  pins : (d : Doing) (s first len : ℕ) (wired : Bool) → InTurn mark d → after_pin made d s first len wired ≡ Some q → ⊥
  pins Idle s first len wired place is = place
  pins d s first len wired place is = none-some q is

  keeps : (d : Doing) (s first len page : ℕ) → InTurn mark d → after_kept made d s first len page ≡ Some q → ⊥
  keeps Idle s first len page place is = place
  keeps d s first len page place is = none-some q is

  claims : (d : Doing) (space : Option ℕ) (v : Victim) (need : Option Need) → InTurn mark d → after_claim made d space v need ≡ Some q
      → Goes mark made d q (Claim v.space v.page v.frame need)
  claims (Looking low evictions) None v None place is =
      goes_to _ (Claim v.space v.page v.frame None) _ made (Claiming (ForTurn low evictions) v) is
      (λ fewer. (
        (place.0, (let less = ltb-true evictions low fewer in omega (arith, less, place.0))),
        inl (record { made = refl; outs = omega arith; unclaims = refl; faults = omega arith }),
      ))
  claims (Looking low evictions) None v (Some need) place is = absurd (none-some q is)
  claims (Looking low evictions) (Some s) v need place is = absurd (none-some q is)
  claims Idle space v need place is = absurd place
  claims d space v need place is = absurd (none-some q is)

  uses : (d : Doing) (s page frame : ℕ) → InTurn mark d → after_use made d s page frame ≡ Some q → ⊥
  uses (Holding (ForAccess a) v) s page frame place is = place
  uses (Holding (ForTurn low evictions) v) s page frame place is = none-some q is
  uses d s page frame place is = none-some q is

  drops : (d : Doing) (frame : ℕ) → InTurn mark d → after_drop made d frame ≡ Some q → Goes mark made d q (DropHeld frame)
  drops (Holding (ForTurn low evictions) v) frame place is =
      goes_to _ (DropHeld frame) true made (Looking low (evictions + 1))
      (led_if (eqb frame v.frame) (leads true made (Looking low (evictions + 1))) q is)
      (λ _. (
        (place.0, (let less = place.1 in omega (arith, less))),
        inl
            (record { made = refl; outs = omega arith; unclaims = refl; faults = omega arith }),
      ))
  drops (Holding (ForAccess a) v) frame place is = absurd place
  drops d frame place is = absurd (none-some q is)

  gots : (d : Doing) (frame : ℕ) → InTurn mark d → after_got made d frame ≡ Some q → Goes mark made d q (Got frame)
  gots (Claiming (ForTurn low evictions) v) frame place is =
      goes_to _ (Got frame) _ made (Holding (ForTurn low evictions) v) is
      (λ _. (place, inl (record { made = refl; outs = omega arith; unclaims = refl; faults = omega arith })))
  gots (Claiming (ForAccess a) v) frame place is = absurd place
  gots d frame place is = absurd (none-some q is)

  -- a claim that is given up ends the turn, whether the write failed or found no memory
  gives_up : (d : Doing) (low evictions frame : ℕ) (b : Bool) → (low ≡ mark) × (evictions < mark) → used d ≡ evictions → failed d ≤ 1
      → cond b (leads true (made + 1) (Looking low 0)) None ≡ Some q → Goes mark made d q (Unclaim frame)
  gives_up d low evictions frame b place so_far few is =
      goes_to d (Unclaim frame) true (made + 1) (Looking low 0) (led_if b (leads true (made + 1) (Looking low 0)) q is)
      (λ _. (
        (place.0, omega arith),
        inr
            (record {
              made = refl;
              outs = refl;
              most = (let less = place.1 in omega (arith, less, so_far));
              none_used = refl;
              unclaims = omega arith;
              faults = refl;
              given_up = few;
              none_failed = refl;
            }),
      ))

  unclaims : (d : Doing) (s frame : ℕ) → InTurn mark d → after_unclaim made d s frame ≡ Some q → Goes mark made d q (Unclaim frame)
  unclaims (Claiming (ForTurn low evictions) v) s frame place is =
      gives_up (Claiming (ForTurn low evictions) v) low evictions frame (eqb s v.space && eqb frame v.frame) place refl (omega arith) is
  unclaims (Unwritten (ForTurn low evictions) v count) s frame place is =
      gives_up (Unwritten (ForTurn low evictions) v count) low evictions frame (eqb s v.space && eqb frame v.frame) place refl
      (omega arith) is
  unclaims (Claiming (ForAccess a) v) s frame place is = absurd place
  unclaims (Unwritten (ForAccess a) v count) s frame place is = absurd place
  unclaims d s frame place is = absurd (none-some q is)

  refuses : (d : Doing) (wired claimed held : ℕ) → InTurn mark d → after_refusal made d wired claimed held ≡ Some q → ⊥
  refuses Idle wired claimed held place is = place
  refuses d wired claimed held place is = none-some q is

  rests : (d : Doing) (short : Bool) → InTurn mark d → after_rest made d short ≡ Some q → Goes mark made d q (Rest short)
  rests (Looking low evictions) short place is =
      goes_to _ (Rest short) _ (made + 1) (Looking low 0) is
      (λ _. (
        (place.0, omega arith),
        inr
            (record {
              made = refl;
              outs = refl;
              most = place.1;
              none_used = refl;
              unclaims = omega arith;
              faults = refl;
              given_up = omega arith;
              none_failed = refl;
            }),
      ))
  rests d short place is = absurd (none-some q is)

-- one entry
goes : (mark : ℕ) (p q : Progress) (space : Option ℕ) (what : What) → InTurn mark p.doing → progress_after p space what ≡ Some q
    → Goes mark p.made p.doing q what
goes mark p q space (Answer number call answered) place is =
    absurd (answers mark p.made q p.doing call answered.reply (eqb number p.made) place is)
goes mark p q (Some s) (Out page written) place is = outs mark p.made q p.doing s page written place is
goes mark p q (Some s) (Failed page writing count) place is = fails mark p.made q p.doing s page writing count place is
goes mark p q (Some s) (Take page frame want) place is = absurd (takes mark p.made q p.doing s page frame place is)
goes mark p q (Some s) (Give page frame) place is = gives mark p.made q p.doing s page frame place is
goes mark p q (Some s) (Clear first len) place is = absurd (clears mark p.made q p.doing s first len place is)
goes mark p q (Some s) (Pin first len wired) place is = absurd (pins mark p.made q p.doing s first len wired place is)
goes mark p q (Some s) (Kept first len page frame) place is = absurd (keeps mark p.made q p.doing s first len page place is)
goes mark p q (Some s) (UseHeld page frame want) place is = absurd (uses mark p.made q p.doing s page frame place is)
goes mark p q (Some s) (Unclaim frame) place is = unclaims mark p.made q p.doing s frame place is
goes mark p q space (Claim victim page frame need) place is =
    claims mark p.made q p.doing space (record { space = victim; page = page; frame = frame }) need place is
goes mark p q space (DropHeld frame) place is = drops mark p.made q p.doing frame place is
goes mark p q space (Got frame) place is = gots mark p.made q p.doing frame place is
goes mark p q space (Refused wired claimed held) place is = absurd (refuses mark p.made q p.doing wired claimed held place is)
goes mark p q space (Rest short) place is = rests mark p.made q p.doing short place is
goes mark p q None (Out page written) place is = absurd (none-some q is)
goes mark p q None (Failed page writing count) place is = absurd (none-some q is)
goes mark p q None (Take page frame want) place is = absurd (none-some q is)
goes mark p q None (Give page frame) place is = absurd (none-some q is)
goes mark p q None (Clear first len) place is = absurd (none-some q is)
goes mark p q None (Pin first len wired) place is = absurd (none-some q is)
goes mark p q None (Kept first len page frame) place is = absurd (none-some q is)
goes mark p q None (UseHeld page frame want) place is = absurd (none-some q is)
goes mark p q None (Unclaim frame) place is = absurd (none-some q is)

-- A row of entries that leads to where no eviction has begun: they end no turn, or one.
record Counted (mark : ℕ) (es : List Entry) (p q : Progress) : Type 0 where
  on : p.made ≤ q.made
  same_outs : p.made ≡ q.made → (written_in es + clean_in es) + used p.doing ≡ 0
  same_unclaims : p.made ≡ q.made → unclaims_in es ≡ 0
  same_faults : p.made ≡ q.made → faults_in es + failed p.doing ≡ 0
  ends_outs : p.made + 1 ≡ q.made → (written_in es + clean_in es) + used p.doing ≤ mark
  ends_unclaims : p.made + 1 ≡ q.made → unclaims_in es ≤ 1
  ends_faults : p.made + 1 ≡ q.made → faults_in es + failed p.doing ≤ unclaims_in es

module _ (mark : ℕ) (q : Progress) (none_used : used q.doing ≡ 0) (none_failed : failed q.doing ≡ 0) where
  counted_more : (e : Entry) (es : List Entry) (p m : Progress) → Same p.made p.doing m e.what ⊎ Ends mark p.made p.doing m e.what
      → Counted mark es m q → Counted mark (e ∷ es) p q
  counted_more e es p m step rest =
      let w = sum_by-cons (λ (x : Entry). one (is_written x.what)) e es in
      let c = sum_by-cons (λ (x : Entry). one (is_clean x.what)) e es in
      let f = sum_by-cons (λ (x : Entry). one (is_fault x.what)) e es in
      let u = sum_by-cons (λ (x : Entry). one (is_unclaim x.what)) e es in
      let on = rest.on in
      elim step [
        | inl same ↦
            let made = same.made in
            let outs = same.outs in
            let unclaims = same.unclaims in
            let faults = same.faults in
            record {
              on = omega (arith, on, made);
              same_outs = λ is. (let r = rest.same_outs (made ∙ is) in omega (arith, r, w, c, outs));
              same_unclaims = λ is. (let r = rest.same_unclaims (made ∙ is) in omega (arith, r, u, unclaims));
              same_faults = λ is. (let r = rest.same_faults (made ∙ is) in omega (arith, r, f, faults));
              ends_outs = λ is. (let r = rest.ends_outs (ap (λ n. n + 1) made ∙ is) in omega (arith, r, w, c, outs));
              ends_unclaims = λ is. (let r = rest.ends_unclaims (ap (λ n. n + 1) made ∙ is) in omega (arith, r, u, unclaims));
              ends_faults = λ is. (let r = rest.ends_faults (ap (λ n. n + 1) made ∙ is) in omega (arith, r, f, u, faults, unclaims));
            }
        | inr ends ↦
            let made = ends.made in
            let outs = ends.outs in
            let most = ends.most in
            let unclaims = ends.unclaims in
            let faults = ends.faults in
            let given_up = ends.given_up in
            record {
              on = omega (arith, on, made);
              same_outs = λ is. absurd (omega (arith, on, made, is));
              same_unclaims = λ is. absurd (omega (arith, on, made, is));
              same_faults = λ is. absurd (omega (arith, on, made, is));
              ends_outs = λ is. (let r = rest.same_outs (made ∙ is) in omega (arith, r, w, c, outs, most));
              ends_unclaims = λ is. (let r = rest.same_unclaims (made ∙ is) in omega (arith, r, u, unclaims));
              ends_faults = λ is. (let r = rest.same_faults (made ∙ is) in omega (arith, r, f, u, faults, given_up));
            }
      ]

  counted : (es : List Entry) (p : Progress) → InTurn mark p.doing → progress_from (Some p) es ≡ Some q → Counted mark es p q
  counted [] p place is = subst (λ x. Counted mark [] x q) (sym (same_Some p q is)) (record {
    on = omega arith;
    same_outs = λ _. omega (arith, none_used);
    same_unclaims = λ _. refl;
    same_faults = λ _. omega (arith, none_failed);
    ends_outs = λ is. absurd (omega (arith, is));
    ends_unclaims = λ is. absurd (omega (arith, is));
    ends_faults = λ is. absurd (omega (arith, is));
  })
  counted (e ∷ es) p place is = by (progress_after p e.space e.what) refl (λ m place is. counted es m place is)
    where
      by : (o : Option Progress) → progress_after p e.space e.what ≡ o
          → ((m : Progress) → InTurn mark m.doing → progress_from (Some m) es ≡ Some q → Counted mark es m q) → Counted mark (e ∷ es) p q
      by None none again = absurd (from_none es q (sym (ap (λ o. progress_from o es) none) ∙ is))
      by (Some m) some again =
          let one = goes mark p m e.space e.what place some in
          counted_more e es p m one.1 (again m one.0 (sym (ap (λ o. progress_from o es) some) ∙ is))

-- between two turns a daemon is in the next, of which it has made nothing
looks : (mark n : ℕ) → 1 ≤ mark → InTurn mark (at_rest mark n).doing × (used (at_rest mark n).doing ≡ 0)
    × (failed (at_rest mark n).doing ≡ 0)
looks zero n some = absurd (omega (arith, some))
looks (suc k) n some = ((refl, omega arith), refl, refl)

-- A whole turn evicts at most as many pages as its mark, and gives at most one claim up, after each write that failed.
pub record TurnCounts (mark : ℕ) (es : List Entry) : Type 0 where
  pub outs : written_in es + clean_in es ≤ mark
  pub unclaims : unclaims_in es ≤ 1
  pub faults : faults_in es ≤ unclaims_in es

pub TurnCounts-turn : (c mark : ℕ) (es : List Entry) → 1 ≤ mark → IsTurn c mark es → TurnCounts mark es
TurnCounts-turn c mark es some turn =
    let begin = looks mark turn.made some in
    let end = looks mark (turn.made + 1) some in
    let all = counted mark (at_rest mark (turn.made + 1)) end.1 end.2 es (at_rest mark turn.made) begin.0 turn.leads in
    let outs = all.ends_outs refl in
    let unclaims = all.ends_unclaims refl in
    let faults = all.ends_faults refl in
    record { outs = omega (arith, outs); unclaims = unclaims; faults = omega (arith, faults) }

-- the entries that a pass has more are the turn's
drop_append : {X : Type 0} (xs ys : List X) → drop (length xs) (xs ++ ys) ≡ ys
drop_append [] ys = refl
drop_append (x ∷ xs) ys = drop_append xs ys

pub since-turn : (old new : PassState) (mark : ℕ) (makes : MakesTurn old new mark) → drop (length old.entries) new.entries ≡ makes.piece
since-turn old new mark makes = ap (drop (length old.entries)) makes.entries ∙ drop_append old.entries makes.piece

-- what is left of a slice from a place on
pub sliced : {X : Type 0} (old new xs ys : List X) → xs ≡ old → ys ≡ new
    → take (length ys - length xs) (drop (length xs) ys) ≡ drop (length old) new
sliced old new xs ys same_xs same_ys =
    ap (λ k. take k (drop (length xs) ys)) (sym (length-drop (length xs) ys))
    ∙ take-length (drop (length xs) ys)
    ∙ ap (λ l. drop (length l) ys) same_xs
    ∙ ap (drop (length old)) same_ys

pub TurnCounts-since : (old new : PassState) (mark : ℕ) → 1 ≤ mark → MakesTurn old new mark → TurnCounts mark (made_since old new)
TurnCounts-since old new mark some makes =
    subst (λ (l : List Numbered). TurnCounts mark (entries_in l)) (sym (since-turn old new mark makes))
    (TurnCounts-turn old.processor mark (entries_in makes.piece) some makes.turn)
