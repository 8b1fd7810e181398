-- The one answer of a sequence, and that it is the last answer after it.
use Rattle.std.proofs.Common.{◌≡◌, ℕ, List, [], ◌∷◌, ◌++◌, fold, Option, Some, refl, ap, ◌∙◌, ◌⊎◌, inl, inr}
use Rattle.std.specs.List.{cons_option}
use Rattle.std.specs.Option.{option_or}
use Rattle.pager_model.specs.declared.call.Call.{Call}
use Rattle.pager_model.specs.declared.entry.Entry.{Entry}
use Rattle.pager_model.specs.declared.entry.What.{What}
use Rattle.pager_model.specs.declared.entry.What.TheVariants.{Answer}
use Rattle.pager_model.specs.declared.reply.Answered.{Answered}
use Rattle.pager_model.specs.Showing.{answer_in, answers_in}
use Rattle.stream_core.specs.Tallies.{answered_in, remembered}

-- Entries without an answer leave what is remembered.

none_by : (what : What) (rest : List (ℕ × Call)) → cons_option (answer_in what) rest ≡ []
    → (rest ≡ []) × ((last : Option Answered) → option_or (answered_in what) last ≡ last)
none_by (Answer number call answered) rest none = absurd (cc)
none_by what rest none = (none, λ last. refl)

none_said : (es : List Entry) → answers_in es ≡ [] → (last : Option Answered) → fold remembered last es ≡ last
none_said [] none last = refl
none_said (e ∷ es) none last =
    let parts = none_by e.what (answers_in es) none in
    none_said es parts.0 (remembered last e) ∙ parts.1 last

-- Entries with one answer leave that.

-- the entries have an answer of this number and call, and it is remembered after them
pub record HasAnswer (es : List Entry) (number : ℕ) (call : Call) : Type 0 where
  pub before : List Entry
  pub entry : Entry
  pub after : List Entry
  pub split : es ≡ before ++ entry ∷ after
  pub answered : Answered
  pub says : entry.what ≡ Answer number call answered
  pub last : (last : Option Answered) → fold remembered last es ≡ Some answered

-- this entry is that answer
record IsAnswer (what : What) (number : ℕ) (call : Call) (rest : List (ℕ × Call)) : Type 0 where
  answered : Answered
  says : what ≡ Answer number call answered
  none : rest ≡ []
  last : (last : Option Answered) → option_or (answered_in what) last ≡ Some answered

one_by : (what : What) (rest : List (ℕ × Call)) (number : ℕ) (call : Call) → cons_option (answer_in what) rest ≡ (number, call) ∷ []
    → IsAnswer what number call rest ⊎ (rest ≡ (number, call) ∷ [])
one_by (Answer n c answered) rest number call is =
    let pair : ◌≡◌ {A = ℕ × Call} (n, c) (number, call) = cc in
    inl (record { answered = answered; says = λ i. Answer (pair i).0 (pair i).1 answered; none = (cc); last = λ last. refl })
one_by what rest number call is = inr is

pub has_answer : (es : List Entry) (number : ℕ) (call : Call) → answers_in es ≡ (number, call) ∷ [] → HasAnswer es number call
has_answer [] number call is = absurd (cc)
has_answer (e ∷ es) number call is = elim (one_by e.what (answers_in es) number call is) [
  | inl here ↦ record {
    before = [];
    entry = e;
    after = es;
    split = refl;
    answered = here.answered;
    says = here.says;
    last = λ last. none_said es here.none (remembered last e) ∙ here.last last;
  }
  | inr later ↦
      let there = has_answer es number call later in
      record {
        before = e ∷ there.before;
        entry = there.entry;
        after = there.after;
        split = ap (λ l. e ∷ l) there.split;
        answered = there.answered;
        says = there.says;
        last = λ last. there.last (remembered last e);
      }
]
