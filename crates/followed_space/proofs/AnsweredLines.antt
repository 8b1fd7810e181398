-- In a legal history of a trace each answer is of a call of the trace: a daemon answers none.
use Rattle.std.proofs.Common.{◌≡◌, ℕ, zero, suc, ◌+◌, ◌-◌, ◌<◌, ◌≤◌, Bool, true, false, ◌&&◌, ◌==◌, if◌then◌else◌, List, [], ◌∷◌, ◌++◌, length, filter, map, replicate, Option, Some, None, refl, sym, ap, inl, inr, ◌∙◌, arith, subst, slice_index_or}
use Rattle.std.specs.List.{AllByRecursion, enumerate_from}
use Rattle.std.specs.Option.{option_and_then}
use Rattle.std.proofs.lemmas.Bool.{cases_Bool, cases_lt, eq-eqb, cond-true, cond-false, true≢false}
use Rattle.std.proofs.lemmas.List.Elements.{filter-append, filter_map-append, recursion_from_All}
use Rattle.std.proofs.lemmas.Option.{none-some, same_Some}
use Rattle.pager_model.specs.declared.call.Call.{Call}
use Rattle.pager_model.specs.declared.call.Line.{Line}
use Rattle.pager_model.specs.declared.entry.Entry.{Entry}
use Rattle.pager_model.specs.declared.entry.Need.{Need}
use Rattle.pager_model.specs.declared.entry.Victim.{Victim}
use Rattle.pager_model.specs.declared.entry.What.{What}
use Rattle.pager_model.specs.declared.entry.What.TheVariants.{Answer, Out, Failed, Take, Give, Clear, Claim, UseHeld, DropHeld, Got, Unclaim, Refused, Pin, Kept, Rest}
use Rattle.pager_model.specs.declared.reply.Answered.{Answered}
use Rattle.pager_model.specs.declared.reply.Reply.{Reply}
use Rattle.pager_model.specs.declared.trace.Daemon.{Daemon}
use Rattle.pager_model.specs.Entries.{entries_of, is_of}
use Rattle.pager_model.specs.Legal.{IsLegal, progress_in}
use Rattle.pager_model.specs.Order.{Doing, Idle, Looking, Claiming, Emptied, Unwritten, Holding, Filling, Unfilling, Progress, Purpose, ForAccess, ForTurn, after_answer, after_claim, after_clear, after_drop, after_failure, after_give, after_got, after_kept, after_out, after_pin, after_refusal, after_rest, after_take, after_unclaim, after_use, at_rest, leads, may_answer, progress_after, progress_from, progress_of}
use Rattle.pager_model.specs.Scripts.{Script}
use Rattle.pager_model.specs.Settings.{Given, mark_of}
use Rattle.pager_model.specs.Showing.{Shows, answer_in, answers_in, calls_of, daemon_marks, marks_of}
use Rattle.pager_model.specs.TraceText.{HasText, IsCall, IsDaemon, IsLine}
use Rattle.pager_laws.proofs.LegalHistories.{progress_before}
use Rattle.pager_laws.proofs.LegalPrefixes.{IsLegal-at}
use Rattle.followed_space.specs.Follows.{AnswersLine}

-- A daemon's turns.

abbrev is_for_turn : Purpose → Bool
is_for_turn (ForAccess a) = false
is_for_turn (ForTurn mark evictions) = true

-- the place is one of a turn
abbrev in_turn : Doing → Bool
in_turn (Looking mark evictions) = true
in_turn (Claiming purpose v) = is_for_turn purpose
in_turn (Emptied purpose v) = is_for_turn purpose
in_turn (Unwritten purpose v count) = is_for_turn purpose
in_turn (Holding purpose v) = is_for_turn purpose
in_turn doing = false

abbrev Stays : Option Progress → Type 0
Stays o = (q : Progress) → o ≡ Some q → in_turn q.doing ≡ true

stays_led : (b : Bool) (made : ℕ) (doing : Doing) → in_turn doing ≡ true → Stays (leads b made doing)
stays_led true made doing t q h = ap (λ (x : Progress). in_turn x.doing) (sym (same_Some _ _ h)) ∙ t
stays_led false made doing t q h = absurd (none-some q h)

stays_none : Stays None
stays_none q h = absurd (none-some q h)

stays_if : (b : Bool) (o : Option Progress) → Stays o → Stays (if b then o else None)
stays_if true o s = s
stays_if false o s = stays_none

stays_in : (f : ℕ → Option Progress) (space : Option ℕ) → ((s : ℕ) → Stays (f s)) → Stays (option_and_then f space)
stays_in f None s = stays_none
stays_in f (Some space) s = s space

turn_silent : (doing : Doing) (call : Call) (reply : Reply) → in_turn doing ≡ true → may_answer doing call reply ≡ false
turn_silent (Looking mark evictions) call reply t = refl
turn_silent (Claiming purpose v) call reply t = refl
turn_silent (Emptied purpose v) call reply t = refl
turn_silent (Unwritten purpose v count) call reply t = refl
turn_silent (Holding purpose v) call reply t = refl
turn_silent doing call reply t = cc

turn_out : (made : ℕ) (doing : Doing) (s page : ℕ) → in_turn doing ≡ true → Stays (after_out made doing s page)
turn_out made (Claiming purpose v) s page t = stays_led _ made (Emptied purpose v) t
turn_out made doing s page t = stays_none

turn_failure : (made : ℕ) (doing : Doing) (s page : ℕ) (writing : Bool) (count : ℕ) → in_turn doing ≡ true
    → Stays (after_failure made doing s page writing count)
turn_failure made Idle s page writing count t = absurd (true≢false (sym t))
turn_failure made (Claiming purpose v) s page writing count t = stays_led _ made (Unwritten purpose v count) t
turn_failure made (Filling a frame) s page writing count t = absurd (true≢false (sym t))
turn_failure made doing s page writing count t = stays_none

turn_take : (made : ℕ) (doing : Doing) (s page frame : ℕ) → in_turn doing ≡ true → Stays (after_take made doing s page frame)
turn_take made Idle s page frame t = absurd (true≢false (sym t))
turn_take made doing s page frame t = stays_none

turn_give : (made : ℕ) (doing : Doing) (s page frame : ℕ) → in_turn doing ≡ true → Stays (after_give made doing s page frame)
turn_give made (Unfilling a own count) s page frame t = absurd (true≢false (sym t))
turn_give made (Emptied purpose v) s page frame t = stays_led _ made (Holding purpose v) t
turn_give made doing s page frame t = stays_none

turn_clear : (made : ℕ) (doing : Doing) (s first len : ℕ) → in_turn doing ≡ true → Stays (after_clear made doing s first len)
turn_clear made Idle s first len t = absurd (true≢false (sym t))
turn_clear made doing s first len t = stays_none

turn_pin : (made : ℕ) (doing : Doing) (s first len : ℕ) (wired : Bool) → in_turn doing ≡ true
    → Stays (after_pin made doing s first len wired)
turn_pin made Idle s first len wired t = absurd (true≢false (sym t))
turn_pin made doing s first len wired t = stays_none

turn_kept : (made : ℕ) (doing : Doing) (s first len page : ℕ) → in_turn doing ≡ true → Stays (after_kept made doing s first len page)
turn_kept made Idle s first len page t = absurd (true≢false (sym t))
turn_kept made doing s first len page t = stays_none

turn_claim : (made : ℕ) (doing : Doing) (space : Option ℕ) (v : Victim) (need : Option Need) → in_turn doing ≡ true
    → Stays (after_claim made doing space v need)
turn_claim made Idle space v need t = absurd (true≢false (sym t))
turn_claim made (Looking mark evictions) None v None t = stays_led _ made (Claiming (ForTurn mark evictions) v) refl
turn_claim made (Looking mark evictions) None v (Some need) t = stays_none
turn_claim made (Looking mark evictions) (Some s) v need t = stays_none
turn_claim made doing space v need t = stays_none

turn_use : (made : ℕ) (doing : Doing) (s page frame : ℕ) → in_turn doing ≡ true → Stays (after_use made doing s page frame)
turn_use made (Holding (ForAccess a) v) s page frame t = absurd (true≢false (sym t))
turn_use made (Holding (ForTurn mark evictions) v) s page frame t = stays_none
turn_use made doing s page frame t = stays_none

turn_drop : (made : ℕ) (doing : Doing) (frame : ℕ) → in_turn doing ≡ true → Stays (after_drop made doing frame)
turn_drop made (Holding (ForAccess a) v) frame t = absurd (true≢false (sym t))
turn_drop made (Holding (ForTurn mark evictions) v) frame t = stays_if _ _ (stays_led true made (Looking mark (evictions + 1)) refl)
turn_drop made doing frame t = stays_none

turn_got : (made : ℕ) (doing : Doing) (frame : ℕ) → in_turn doing ≡ true → Stays (after_got made doing frame)
turn_got made (Claiming purpose v) frame t = stays_led _ made (Holding purpose v) t
turn_got made doing frame t = stays_none

turn_unclaim : (made : ℕ) (doing : Doing) (s frame : ℕ) → in_turn doing ≡ true → Stays (after_unclaim made doing s frame)
turn_unclaim made (Claiming (ForAccess a) v) s frame t = absurd (true≢false (sym t))
turn_unclaim made (Claiming (ForTurn mark evictions) v) s frame t = stays_if _ _ (stays_led true (made + 1) (Looking mark 0) refl)
turn_unclaim made (Unwritten (ForAccess a) v count) s frame t = absurd (true≢false (sym t))
turn_unclaim made (Unwritten (ForTurn mark evictions) v count) s frame t = stays_if _ _ (stays_led true (made + 1) (Looking mark 0) refl)
turn_unclaim made doing s frame t = stays_none

turn_refused : (made : ℕ) (doing : Doing) (wired claimed held : ℕ) → in_turn doing ≡ true
    → Stays (after_refusal made doing wired claimed held)
turn_refused made Idle wired claimed held t = absurd (true≢false (sym t))
turn_refused made doing wired claimed held t = stays_none

turn_rest : (made : ℕ) (doing : Doing) (short : Bool) → in_turn doing ≡ true → Stays (after_rest made doing short)
turn_rest made (Looking mark evictions) short t = stays_led _ (made + 1) (Looking mark 0) refl
turn_rest made doing short t = stays_none

-- a turn answers no call, and each other entry leaves it in a turn
turn_answer : (p : Progress) (number : ℕ) (call : Call) (reply : Reply) (q : Progress) → in_turn p.doing ≡ true
    → after_answer p number call reply ≡ Some q → ⊥
turn_answer p number call reply q t h =
    none-some q (sym (ap (λ b. leads b (p.made + 1) Idle) {x = (number == p.made) && may_answer p.doing call reply} {y = false}
    (ap (λ b. (number == p.made) && b) (turn_silent p.doing call reply t) ∙ and_none (number == p.made))) ∙ h)
  where
    and_none : (b : Bool) → (b && false) ≡ false
    and_none true = refl
    and_none false = refl

turn_step : (p : Progress) (space : Option ℕ) (what : What) → in_turn p.doing ≡ true → Stays (progress_after p space what)
turn_step p space (Answer number call answered) t = λ q h. absurd (turn_answer p number call answered.reply q t h)
turn_step p space (Out page written) t = stays_in _ space (λ s. turn_out p.made p.doing s page t)
turn_step p space (Failed page writing count) t = stays_in _ space (λ s. turn_failure p.made p.doing s page writing count t)
turn_step p space (Take page frame want) t = stays_in _ space (λ s. turn_take p.made p.doing s page frame t)
turn_step p space (Give page frame) t = stays_in _ space (λ s. turn_give p.made p.doing s page frame t)
turn_step p space (Clear first len) t = stays_in _ space (λ s. turn_clear p.made p.doing s first len t)
turn_step p space (Claim victim page frame need) t = turn_claim p.made p.doing space (record {
  space = victim;
  page = page;
  frame = frame;
}) need t
turn_step p space (UseHeld page frame want) t = stays_in _ space (λ s. turn_use p.made p.doing s page frame t)
turn_step p space (DropHeld frame) t = turn_drop p.made p.doing frame t
turn_step p space (Got frame) t = turn_got p.made p.doing frame t
turn_step p space (Unclaim frame) t = stays_in _ space (λ s. turn_unclaim p.made p.doing s frame t)
turn_step p space (Refused wired claimed held) t = turn_refused p.made p.doing wired claimed held t
turn_step p space (Pin first len wired) t = stays_in _ space (λ s. turn_pin p.made p.doing s first len wired t)
turn_step p space (Kept first len page frame) t = stays_in _ space (λ s. turn_kept p.made p.doing s first len page t)
turn_step p space (Rest short) t = turn_rest p.made p.doing short t

from_none : (es : List Entry) → progress_from None es ≡ None
from_none [] = refl
from_none (e ∷ es) = from_none es

stays_from : (es : List Entry) (o : Option Progress) → Stays o
    → ((p : Progress) → in_turn p.doing ≡ true → Stays (progress_from (Some p) es)) → Stays (progress_from o es)
stays_from es None s on = λ q h. absurd (none-some q (sym (from_none es) ∙ h))
stays_from es (Some p) s on = on p (s p refl)

turn_steps : (es : List Entry) (p : Progress) → in_turn p.doing ≡ true → Stays (progress_from (Some p) es)
turn_steps [] p t = stays_led true p.made p.doing t
turn_steps (e ∷ es) p t = stays_from es (progress_after p e.space e.what) (turn_step p e.space e.what t) (λ p' t'. turn_steps es p' t')

-- Marks.

-- a processor behind those that make calls is the daemon
daemon_mark : (n : ℕ) (d : Option Daemon) (c : ℕ) → IsDaemon d → n ≤ c → c < length (replicate n 0 ++ daemon_marks d)
    → (m : ℕ) × (slice_index_or (replicate n 0 ++ daemon_marks d) c 0 ≡ suc m)
daemon_mark zero None c is low high = absurd (omega arith)
daemon_mark zero (Some d) zero is low high = (d.low - 1, omega (arith, is.0.0))
daemon_mark zero (Some d) (suc c) is low high = absurd (omega arith)
daemon_mark (suc n) d zero is low high = absurd (omega arith)
daemon_mark (suc n) d (suc c) is low high = daemon_mark n d c is (omega arith) (omega arith)

-- Answers.

abbrev OfLine : ℕ → ℕ × Call → Type 0
OfLine spaces answer = IsCall spaces answer.1

lines_of : (version processors spaces n c : ℕ) (lines : List Line) → AllByRecursion (IsLine version processors spaces) lines
    → AllByRecursion (OfLine spaces) (enumerate_from n (calls_of c lines))
lines_of version processors spaces n c [] all = tt
lines_of version processors spaces n c (l ∷ lines) all =
    elim (cases_Bool (l.processor == c)) [
      | inl is ↦
          subst (λ ls. AllByRecursion (OfLine spaces) (enumerate_from n (map (λ (x : Line). x.call) ls)))
          (sym (cond-true (l.processor == c) (l ∷ filter (λ (x : Line). x.processor == c) lines)
          (filter (λ (x : Line). x.processor == c) lines) is))
          (all.0.1, lines_of version processors spaces (n + 1) c lines all.1)
      | inr isnt ↦
          subst (λ ls. AllByRecursion (OfLine spaces) (enumerate_from n (map (λ (x : Line). x.call) ls)))
          (sym (cond-false (l.processor == c) (l ∷ filter (λ (x : Line). x.processor == c) lines)
          (filter (λ (x : Line). x.processor == c) lines) isnt))
          (lines_of version processors spaces n c lines all.1)
    ]

all_behind : {A : Type 0} (P : A → Type 0) (xs ys : List A) → AllByRecursion P (xs ++ ys) → AllByRecursion P ys
all_behind P [] ys all = all
all_behind P (x ∷ xs) ys all = all_behind P xs ys all.1

first_answer : (P : ℕ × Call → Type 0) (e : Entry) (after : List Entry) (answer : ℕ × Call) → answer_in e.what ≡ Some answer
    → AllByRecursion P (answers_in (e ∷ after)) → P answer
first_answer P e after answer is all = (rw is at all).0

answer_among : (P : ℕ × Call → Type 0) (c : ℕ) (before after : List Entry) (e : Entry) (answer : ℕ × Call) → answer_in e.what ≡ Some answer
    → is_of c e ≡ true → AllByRecursion P (answers_in (entries_of c (before ++ e ∷ after))) → P answer
answer_among P c before after e answer is own all =
    let here = ap (λ es. entries_of c before ++ es) (cond-true (is_of c e) (e ∷ entries_of c after) (entries_of c after) own) in
    let split : answers_in (entries_of c (before ++ e ∷ after)) ≡ answers_in (entries_of c before) ++ answers_in (e ∷ entries_of c after) =
    ap answers_in (filter-append (is_of c) before (e ∷ after) ∙ here)
    ∙ filter_map-append (λ (x : Entry). answer_in x.what) (entries_of c before) (e ∷ entries_of c after) in
    first_answer P e (entries_of c after) answer is
    (all_behind P (answers_in (entries_of c before)) (answers_in (e ∷ entries_of c after)) (subst (AllByRecursion P) split all))

-- In a legal history with a trace's marks a daemon answers no call.
pub processor-legal : (script : Script) (g : Given) (before after : List Entry) (e : Entry) → IsDaemon script.daemon → g.marks ≡ marks_of script
    → IsLegal g (before ++ e ∷ after)
    → (number : ℕ) (call : Call) (answered : Answered) → e.what ≡ Answer number call answered → e.processor < script.processors
processor-legal script g before after e daemon marks legal number call answered is =
    let may = (IsLegal-at g before after e legal).1 in
    elim (cases_lt e.processor script.processors) [
      | inl below ↦ below
      | inr past ↦
          let mark = daemon_mark script.processors script.daemon e.processor daemon past
          (subst (λ (ms : List ℕ). e.processor < length ms) marks may.processor) in
          let is_mark : mark_of g e.processor ≡ suc mark.0 = ap (λ (ms : List ℕ). slice_index_or ms e.processor 0) marks ∙ mark.1 in
          let last = progress_before (progress_in g e.processor (entries_of e.processor before)) e may.ordered.0 may.ordered.1 in
          let led : progress_of (suc mark.0) (entries_of e.processor before) ≡ Some last.0 =
          ap (λ m. progress_of m (entries_of e.processor before)) (sym is_mark) ∙ last.1 in
          let turning = turn_steps (entries_of e.processor before) (at_rest (suc mark.0) 0) refl last.0 led in
          absurd (turn_answer last.0 number call answered.reply may.ordered.0 turning
          (ap (progress_after last.0 e.space) (sym is) ∙ last.2))
    ]

-- A legal history that shows a trace, with an entry between these.
record ShowsTrace (script : Script) (g : Given) (before after : List Entry) (e : Entry) : Type 0 where
  text : HasText script
  marks : g.marks ≡ marks_of script
  legal : IsLegal g (before ++ e ∷ after)
  shows : Shows script (before ++ e ∷ after)

module _ (script : Script) (g : Given) (before after : List Entry) (e : Entry) (trace : ShowsTrace script g before after e) where
  answers_line : (what : What) → e.what ≡ what → AnswersLine what
  answers_line (Answer number call answered) is =
      let own = processor-legal script g before after e trace.text.daemon_in trace.marks trace.legal number call answered is in
      let shown = (trace.shows.calls e.processor own).0 in
      let lines = lines_of script.version script.processors script.spaces 0 e.processor script.calls (recursion_from_All _ _ trace.text.lines) in (
        script.spaces,
        answer_among (OfLine script.spaces) e.processor before after e (number, call) (ap answer_in is)
            (eq-eqb e.processor e.processor refl) (subst (AllByRecursion (OfLine script.spaces)) (sym shown) lines),
      )
  answers_line (Out page written) is = tt
  answers_line (Failed page writing count) is = tt
  answers_line (Take page frame want) is = tt
  answers_line (Give page frame) is = tt
  answers_line (Clear first len) is = tt
  answers_line (Claim victim page frame need) is = tt
  answers_line (UseHeld page frame want) is = tt
  answers_line (DropHeld frame) is = tt
  answers_line (Got frame) is = tt
  answers_line (Unclaim frame) is = tt
  answers_line (Refused wired claimed held) is = tt
  answers_line (Pin first len wired) is = tt
  answers_line (Kept first len page frame) is = tt
  answers_line (Rest short) is = tt

pub AnswersLine-run : (script : Script) (g : Given) (before after : List Entry) (e : Entry) → HasText script → g.marks ≡ marks_of script
    → IsLegal g (before ++ e ∷ after) → Shows script (before ++ e ∷ after) → AnswersLine e.what
AnswersLine-run script g before after e text marks legal shows =
    answers_line script g before after e (record { text = text; marks = marks; legal = legal; shows = shows }) e.what refl
