-- What a stream counts of its entries.
use Rattle.std.specs.Prelude.{◌≡◌, ◌+◌, ◌-◌, ◌^◌, ◌≤◌, Bool, List, fold, Option, Some, None, IfSome, is_some}
use Rattle.std.specs.Option.{option_or}
use Rattle.miss_curves.specs.Curves.{stream_capacities}
use Rattle.miss_curves.specs.Histories.{Counting, StandsFor}
use Rattle.pager_model.specs.declared.entry.Entry.{Entry}
use Rattle.pager_model.specs.declared.entry.What.{What}
use Rattle.pager_model.specs.declared.entry.What.TheVariants.{Answer}
use Rattle.pager_model.specs.declared.reply.Answered.{Answered}
use Rattle.pager_model.specs.Settings.{Given}
use Rattle.flight_core.specs.declared.counted.Counted.{Counted}
use Rattle.flight_core.specs.Counting.{IsCounted}

-- what an entry says that its call was answered, where it is an answer
abbrev pub answered_in : What → Option Answered
answered_in (Answer number call answered) = Some answered
answered_in what = None

-- an answer is remembered, and another entry leaves the one before
abbrev pub remembered : Option Answered → Entry → Option Answered
remembered last e = option_or (answered_in e.what) last

-- what the last answer of these entries said, where one of them is an answer
abbrev pub last_answered : List Entry → Option Answered
last_answered history = fold remembered None history

-- The counts of the entries, what the last answer said, and where the curves are asked for, what they are counted from.
pub record Tallied : Type 0 where
  pub counted : Counted
  pub last : Option Answered
  pub curves : Option Counting

-- the curves are asked for
abbrev pub has_curves : Tallied → Bool
has_curves t = is_some t.curves

-- they are those of this history
pub record IsTallied (t : Tallied) (g : Given) (h : List Entry) : Type 0 where
  pub counted : IsCounted t.counted h
  pub last : t.last ≡ last_answered h
  pub curves : IfSome t.curves (λ c. StandsFor c g h)

-- the curves reach as far as those of a stream, and have room for all entries that there may be
abbrev pub FitsStream : Tallied → Type 0
FitsStream t = IfSome t.curves (λ c. (c.rows.places ≡ stream_capacities) × (c.rows.entries + t.counted.left ≤ 2 ^ 64 - 1))
