-- What a processor's place says of its last entry, where it says it whole: a refusal for frames, or that a claimed page kept a wire from being done.
use Rattle.std.proofs.Common.{◌≡◌, ℕ, zero, suc, ◌+◌, Bool, true, false, cond, List, [], ◌∷◌, ◌++◌, Option, Some, None, IfSome, refl, sym, ap, subst, ◌∙◌, append_assoc}
use Rattle.std.specs.Option.{option_and_then}
use Rattle.std.proofs.lemmas.Bool.{eqb-true}
use Rattle.std.proofs.lemmas.Option.{none-some, same_Some}
use Rattle.pager_model.specs.declared.entry.Victim.{Victim}
use Rattle.pager_model.specs.declared.entry.Entry.{Entry}
use Rattle.pager_model.specs.declared.entry.Need.{Need}
use Rattle.pager_model.specs.declared.entry.What.{What}
use Rattle.pager_model.specs.declared.entry.What.TheVariants.{Answer, Out, Failed, Take, Give, Clear, Claim, UseHeld, DropHeld, Got, Unclaim, Refused, Pin, Kept, Rest}
use Rattle.pager_model.specs.Entries.{entries_of, is_of}
use Rattle.pager_model.specs.Legal.{IsLegal, MayFollow, progress_at}
use Rattle.pager_model.specs.Order.{Purpose, Doing, Progress, between, at_rest, leads, after_take, after_use, after_clear, after_pin, after_kept, after_out, after_failure, after_give, after_claim, after_got, after_unclaim, lacking_for, faulted_for, after_drop, dropped_for, after_refusal, after_rest, progress_after}
use Rattle.pager_model.specs.Order.Purpose.{ForAccess, ForTurn}
use Rattle.pager_model.specs.Order.Doing.{Idle, Looking, Blocked, Uncopied, Filling, Unfilling, Claiming, Emptied, Unwritten, Holding, Faulted, Refusing}
use Rattle.pager_model.specs.Settings.{Given, mark_of}
use Rattle.pager_model.proofs.Histories.{filter-push_out, progress_at-own, progress_at-other, IsLegal-push, IsLegal-keeps}
use Rattle.pager_laws.proofs.LegalHistories.{progress_before}

-- a refusal with these numbers, or a page that was found claimed in a range of a space
pub data Said : Type 0 where
  Refusal : (wired claimed held : ℕ) → Said
  Found : (space first len page : ℕ) → Said

-- what the entry that leads to this place said
abbrev pub said_in : Doing → Option Said
said_in (Refusing wired claimed held) = Some (Refusal wired claimed held)
said_in (Blocked space first len page) = Some (Found space first len page)
said_in doing = None

-- the entry on this space says so
abbrev pub Says : Said → Option ℕ → What → Type 0
Says (Refusal wired claimed held) space what = what ≡ Refused wired claimed held
Says (Found s first len page) space what = (space ≡ Some s) × ((frame : ℕ) × (what ≡ Kept first len page frame))

-- Entries of other kinds lead to other places.

abbrev IsElse : Option Progress → Type 0
IsElse o = IfSome o (λ q. said_in q.doing ≡ None)

else-leads : (holds : Bool) (made : ℕ) (doing : Doing) → said_in doing ≡ None → IsElse (leads holds made doing)
else-leads true made doing is = is
else-leads false made doing is = tt

else-if : (holds : Bool) (o : Option Progress) → IsElse o → IsElse (cond holds o None)
else-if true o is = is
else-if false o is = tt

else-on : (o : Option ℕ) (f : ℕ → Option Progress) → ((s : ℕ) → IsElse (f s)) → IsElse (option_and_then f o)
else-on None f each = tt
else-on (Some s) f each = each s

else-take : (made : ℕ) (doing : Doing) (space page frame : ℕ) → IsElse (after_take made doing space page frame)
else-take made Idle space page frame = refl
else-take made doing space page frame = tt

else-use : (made : ℕ) (doing : Doing) (space page frame : ℕ) → IsElse (after_use made doing space page frame)
else-use made (Holding (ForAccess a) victim) space page frame = else-leads _ made (Filling a frame) refl
else-use made doing space page frame = tt

else-clear : (made : ℕ) (doing : Doing) (space first len : ℕ) → IsElse (after_clear made doing space first len)
else-clear made Idle space first len = refl
else-clear made doing space first len = tt

else-pin : (made : ℕ) (doing : Doing) (space first len : ℕ) (wired : Bool) → IsElse (after_pin made doing space first len wired)
else-pin made Idle space first len wired = refl
else-pin made doing space first len wired = tt

else-out : (made : ℕ) (doing : Doing) (space page : ℕ) → IsElse (after_out made doing space page)
else-out made (Claiming purpose victim) space page = else-leads _ made (Emptied purpose victim) refl
else-out made doing space page = tt

else-failure : (made : ℕ) (doing : Doing) (space page : ℕ) (writing : Bool) (count : ℕ)
    → IsElse (after_failure made doing space page writing count)
else-failure made Idle space page writing count = else-leads writing made (Uncopied space page count) refl
else-failure made (Claiming purpose victim) space page writing count = else-leads _ made (Unwritten purpose victim count) refl
else-failure made (Filling a frame) space page writing count = else-leads _ made (Unfilling a frame count) refl
else-failure made doing space page writing count = tt

else-give : (made : ℕ) (doing : Doing) (space page frame : ℕ) → IsElse (after_give made doing space page frame)
else-give made (Unfilling a own count) space page frame = else-leads _ made (Faulted a space count) refl
else-give made (Emptied purpose victim) space page frame = else-leads _ made (Holding purpose victim) refl
else-give made doing space page frame = tt

else-claim : (made : ℕ) (doing : Doing) (space : Option ℕ) (victim : Victim) (need : Option Need)
    → IsElse (after_claim made doing space victim need)
else-claim made Idle (Some space) victim (Some need) = refl
else-claim made (Looking mark evictions) None victim None = else-leads _ made (Claiming (ForTurn mark evictions) victim) refl
else-claim made doing space victim need = tt

else-got : (made : ℕ) (doing : Doing) (frame : ℕ) → IsElse (after_got made doing frame)
else-got made (Claiming purpose victim) frame = else-leads _ made (Holding purpose victim) refl
else-got made doing frame = tt

else-lacking : (made : ℕ) (purpose : Purpose) (space : ℕ) → IsElse (lacking_for made purpose space)
else-lacking made (ForAccess a) space = refl
else-lacking made (ForTurn mark evictions) space = refl

else-faulted : (made : ℕ) (purpose : Purpose) (space count : ℕ) → IsElse (faulted_for made purpose space count)
else-faulted made (ForAccess a) space count = refl
else-faulted made (ForTurn mark evictions) space count = refl

else-unclaim : (made : ℕ) (doing : Doing) (space frame : ℕ) → IsElse (after_unclaim made doing space frame)
else-unclaim made (Claiming purpose victim) space frame = else-if _ (lacking_for made purpose space) (else-lacking made purpose space)
else-unclaim made (Unwritten purpose victim count) space frame = else-if _ (faulted_for made purpose space count)
    (else-faulted made purpose space count)
else-unclaim made doing space frame = tt

else-dropped : (made : ℕ) (purpose : Purpose) → IsElse (dropped_for made purpose)
else-dropped made (ForAccess a) = refl
else-dropped made (ForTurn mark evictions) = refl

else-drop : (made : ℕ) (doing : Doing) (frame : ℕ) → IsElse (after_drop made doing frame)
else-drop made (Holding purpose victim) frame = else-if _ (dropped_for made purpose) (else-dropped made purpose)
else-drop made doing frame = tt

else-rest : (made : ℕ) (doing : Doing) (short : Bool) → IsElse (after_rest made doing short)
else-rest made (Looking mark evictions) short = else-leads _ (made + 1) (Looking mark 0) refl
else-rest made doing short = tt

-- The entry that leads to a place that says something says this.

unsaid : (o : Option Progress) (q : Progress) (x : Said) → IsElse o → o ≡ Some q → said_in q.doing ≡ Some x → ⊥
unsaid o q x other goes is = none-some x (sym (subst IsElse goes other) ∙ is)

by_refusal : (made : ℕ) (doing : Doing) (space : Option ℕ) (wired claimed held : ℕ) (q : Progress) (x : Said)
    → after_refusal made doing wired claimed held ≡ Some q → said_in q.doing ≡ Some x → Says x space (Refused wired claimed held)
by_refusal made Idle space wired claimed held q x goes is =
    let to : Progress = record { made = made; doing = Refusing wired claimed held } in
    let same = same_Some (Refusal wired claimed held) x (ap (λ (p : Progress). said_in p.doing) (same_Some to q goes) ∙ is) in
    subst (λ y. Says y space (Refused wired claimed held)) same refl
by_refusal made doing space wired claimed held q x goes is = absurd (none-some q goes)

by_kept : (made : ℕ) (doing : Doing) (space first len page frame : ℕ) (q : Progress) (x : Said)
    → after_kept made doing space first len page ≡ Some q → said_in q.doing ≡ Some x → Says x (Some space) (Kept first len page frame)
by_kept made Idle space first len page frame q x goes is =
    let to : Progress = record { made = made; doing = Blocked space first len page } in
    let same = same_Some (Found space first len page) x (ap (λ (p : Progress). said_in p.doing) (same_Some to q goes) ∙ is) in
    subst (λ y. Says y (Some space) (Kept first len page frame)) same (refl, (frame, refl))
by_kept made doing space first len page frame q x goes is = absurd (none-some q goes)

said_by : (p q : Progress) (space : Option ℕ) (what : What) (x : Said) → progress_after p space what ≡ Some q → said_in q.doing ≡ Some x
    → Says x space what
said_by p q space (Answer number call answered) x goes is = absurd (unsaid _ q x (else-leads _ (p.made + 1) Idle refl) goes is)
said_by p q space (Out page written) x goes is = absurd (unsaid _ q x (else-on space _ (λ s. else-out p.made p.doing s page)) goes is)
said_by p q space (Failed page writing count) x goes is = absurd (unsaid _ q x
    (else-on space _ (λ s. else-failure p.made p.doing s page writing count)) goes is)
said_by p q space (Take page frame want) x goes is = absurd (unsaid _ q x
    (else-on space _ (λ s. else-take p.made p.doing s page frame)) goes is)
said_by p q space (Give page frame) x goes is = absurd (unsaid _ q x
    (else-on space _ (λ s. else-give p.made p.doing s page frame)) goes is)
said_by p q space (Clear first len) x goes is = absurd (unsaid _ q x
    (else-on space _ (λ s. else-clear p.made p.doing s first len)) goes is)
said_by p q space (Claim victim page frame need) x goes is = absurd (unsaid _ q x (else-claim p.made p.doing space _ need) goes is)
said_by p q space (UseHeld page frame want) x goes is = absurd (unsaid _ q x
    (else-on space _ (λ s. else-use p.made p.doing s page frame)) goes is)
said_by p q space (DropHeld frame) x goes is = absurd (unsaid _ q x (else-drop p.made p.doing frame) goes is)
said_by p q space (Got frame) x goes is = absurd (unsaid _ q x (else-got p.made p.doing frame) goes is)
said_by p q space (Unclaim frame) x goes is = absurd (unsaid _ q x
    (else-on space _ (λ s. else-unclaim p.made p.doing s frame)) goes is)
said_by p q space (Refused wired claimed held) x goes is = by_refusal p.made p.doing space wired claimed held q x goes is
said_by p q space (Pin first len wired) x goes is = absurd (unsaid _ q x
    (else-on space _ (λ s. else-pin p.made p.doing s first len wired)) goes is)
said_by p q None (Kept first len page frame) x goes is = absurd (none-some q goes)
said_by p q (Some s) (Kept first len page frame) x goes is = by_kept p.made p.doing s first len page frame q x goes is
said_by p q space (Rest short) x goes is = absurd (unsaid _ q x (else-rest p.made p.doing short) goes is)

-- Every legal history.

-- after these entries the processor's last one said this, and followed a legal history
pub record SaidLast (g : Given) (entries : List Entry) (c : ℕ) (x : Said) : Type 0 where
  pub earlier : List Entry
  pub entry : Entry
  pub since : List Entry
  pub split : entries ≡ earlier ++ entry ∷ since
  pub own : entry.processor ≡ c
  pub says : Says x entry.space entry.what
  pub last : entries_of c since ≡ []
  pub legal : IsLegal g earlier
  pub may : MayFollow g earlier entry

abbrev SaysLast : Given → List Entry → Type 0
SaysLast g h = (c : ℕ) (x : Said) (p : Progress) → progress_at g h c ≡ Some p → said_in p.doing ≡ Some x → SaidLast g h c x

SaysLast-more : (g : Given) (h : List Entry) (e : Entry) → IsLegal g h → SaysLast g h → MayFollow g h e → SaysLast g (h ++ e ∷ [])
SaysLast-more g h e legal said may c x p goes is =
    elim (is_of c e) as (λ b. is_of c e ≡ b → SaidLast g (h ++ e ∷ []) c x) [
      | true ↦ λ mine.
          let before = progress_before (progress_at g h c) e p (sym (progress_at-own g h e c mine) ∙ goes) in
          record {
            earlier = h;
            entry = e;
            since = [];
            split = refl;
            own = eqb-true e.processor c mine;
            says = said_by before.0 p e.space e.what x before.2 is;
            last = refl;
            legal = legal;
            may = may;
          }
      | false ↦ λ other.
          let was = said c x p (sym (progress_at-other g h e c other) ∙ goes) is in
          record {
            earlier = was.earlier;
            entry = was.entry;
            since = was.since ++ e ∷ [];
            split = ap (λ l. l ++ e ∷ []) was.split ∙ append_assoc was.earlier (was.entry ∷ was.since) (e ∷ []);
            own = was.own;
            says = was.says;
            last = filter-push_out (is_of c) was.since e other ∙ was.last;
            legal = was.legal;
            may = was.may;
          }
    ] refl

-- no place before the first call or turn says anything
none_between : (mark : ℕ) → said_in (between mark) ≡ None
none_between zero = refl
none_between (suc n) = refl

SaysLast-start : (g : Given) → SaysLast g []
SaysLast-start g c x p goes is =
    absurd (none-some x (sym (none_between (mark_of g c)) ∙ ap (λ (q : Progress). said_in q.doing)
    (same_Some (at_rest (mark_of g c) 0) p goes) ∙ is))

pub SaysLast-legal : (g : Given) (history : List Entry) → IsLegal g history → (c : ℕ) (x : Said) (p : Progress)
    → progress_at g history c ≡ Some p → said_in p.doing ≡ Some x → SaidLast g history c x
SaysLast-legal g history legal =
    let P : List Entry → Type 0 = λ h. IsLegal g h × SaysLast g h in
    (IsLegal-keeps g P (λ h e kept may. (IsLegal-push g h e kept.0 may, SaysLast-more g h e kept.0 kept.1 may))
    (tt, SaysLast-start g) history legal).1

-- an answer is of a place that allows it
pub leads_holds : (holds : Bool) (made : ℕ) (doing : Doing) (q : Progress) → leads holds made doing ≡ Some q → holds ≡ true
leads_holds true made doing q goes = refl
leads_holds false made doing q goes = absurd (none-some q goes)
