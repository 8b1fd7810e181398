-- An entry more of what is counted.
use Rattle.std.proofs.Common.{◌≡◌, List, [], ◌∷◌, ◌++◌, Option, None, ap, sym, ◌∙◌}
use Rattle.std.proofs.lemmas.List.Sums.{fold-append}
use Rattle.pager_model.specs.declared.entry.Entry.{Entry}
use Rattle.pager_model.specs.declared.entry.What.{What}
use Rattle.pager_model.specs.declared.entry.What.TheVariants.{Answer}
use Rattle.pager_model.specs.declared.reply.Answered.{Answered}
use Rattle.pager_model.specs.Legal.{IsLegal, MayFollow}
use Rattle.pager_model.specs.Settings.{Given}
use Rattle.pager_model.proofs.Histories.{IsLegal-push}
use Rattle.followed_space.specs.Follows.{AnswersLine}
use Rattle.miss_curves.specs.Histories.{Comes}
use Rattle.flight_core.specs.Taken.{AnswersCall}
use Rattle.stream_core.specs.Tallies.{last_answered, remembered}

-- a call that can be begun is one that a line may hold
answers_line : (what : What) → AnswersCall what → AnswersLine what
answers_line (Answer number call answered) can = can
answers_line what can = tt

-- what may follow a legal history comes so
pub Comes-next : (g : Given) (h : List Entry) (e : Entry) → IsLegal g h → MayFollow g h e → AnswersCall e.what → Comes g h e
Comes-next g h e legal may can = record { legal = IsLegal-push g h e legal may; line = answers_line e.what can }

-- what the last answer said is told of one entry more
pub last_then : (h : List Entry) (e : Entry) (last : Option Answered) → last ≡ last_answered h → remembered last e ≡ last_answered (h ++ e ∷ [])
last_then h e last is = ap (λ l. remembered l e) is ∙ sym (fold-append remembered None h (e ∷ []))
