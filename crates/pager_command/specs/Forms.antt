-- The words of the commands: those that read a trace, run it in an order and print a report of it, and two that make a trace.
use Rattle.std.specs.Prelude.{ℕ, ◌≡◌, ◌^◌, ◌<◌, ◌≤◌, List, [], ◌∷◌, map, Option, Some, None, codes, decimal}
use Rattle.std.specs.Borrow.{Bor}
use Rattle.pager_model.specs.declared.entry.Entry.{Entry}
use Rattle.pager_model.specs.Scripts.{Script}
use Rattle.pager_model.specs.Showing.{IsFiled}
use Rattle.pager_model.specs.Schedules.{IsSeeded}
use Rattle.report_text.specs.declared.report.Parts.{Parts}
use Rattle.report_text.specs.declared.report.Parts.TheVariants.{Answers, AnswersAndHistory}
use Rattle.pager_command.specs.declared.form.Command.{Command}
use Rattle.pager_command.specs.declared.form.Command.TheVariants.{Run, Make, Large, Check, Stream}
use Rattle.pager_command.specs.declared.form.Form.{Form}
use Rattle.pager_command.specs.declared.form.Making.{Making}
use Rattle.pager_command.specs.declared.form.Order.{Order}
use Rattle.pager_command.specs.declared.form.Order.TheVariants.{InOneThread, Threads}
use Rattle.pager_command.specs.declared.form.Report.{Report}
use Rattle.pager_command.specs.declared.form.Report.TheVariants.{Answers as Answered, Counts, Plan as Planned, Curves}
use Rattle.pager_command.specs.declared.form.Schedule.TheVariants.{Lines, Drawn}
use Rattle.stream_run.specs.declared.report.StreamReport.{StreamReport}
use Rattle.stream_run.specs.declared.report.StreamReport.TheVariants.{Counts as StreamCounts, Curves as StreamCurves}
use Rattle.trace_make.specs.Made.{CanMake}

-- the words that ask for the parts of a report, behind those of an order
abbrev pub parts_words : Parts → List (List ℕ)
parts_words Answers = []
parts_words AnswersAndHistory = codes "--history" ∷ []

-- the words that ask for an order and a report together, where some do
abbrev pub words_of : Order → Report → Option (List (List ℕ))
words_of (InOneThread Lines) (Answered parts) = Some (codes "order" ∷ parts_words parts)
words_of (InOneThread (Drawn seed)) (Answered parts) = Some (codes "turns" ∷ decimal seed ∷ parts_words parts)
words_of Threads (Answered parts) = Some (codes "replay" ∷ parts_words parts)
words_of (InOneThread Lines) (Planned size) = Some (codes "plan" ∷ decimal size ∷ [])
words_of (InOneThread Lines) Curves = Some (codes "curve" ∷ [])
words_of order report = None

-- the seed of an order that has one has 64 bits
abbrev pub IsSeedInRange : Order → Type 0
IsSeedInRange (InOneThread Lines) = Unit {0}
IsSeedInRange (InOneThread (Drawn seed)) = seed < 2 ^ 64
IsSeedInRange Threads = Unit {0}

-- the size of a report that has one is of more than a page
abbrev pub IsSizeInRange : Report → Type 0
IsSizeInRange (Answered parts) = Unit {0}
IsSizeInRange Counts = Unit {0}
IsSizeInRange (Planned size) = (1 ≤ size) × (size ≤ 3)
IsSizeInRange Curves = Unit {0}

-- The words ask for this form.
pub record Spell (words : List (List ℕ)) (form : Form) : Type 0 where
  pub are : words_of form.order form.report ≡ Some words
  pub seed : IsSeedInRange form.order
  pub size : IsSizeInRange form.report

-- what the words are
abbrev pub are_of : List (Bor (List ℕ)) → List (List ℕ)
are_of words = map (λ (w : Bor (List ℕ)). w.now) words

-- the words are of this form
abbrev pub AreWords : List (Bor (List ℕ)) → Form → Type 0
AreWords words form = Spell (are_of words) form

-- the words behind this first one are a form's
abbrev pub AreBehind : (first : List ℕ) → List (Bor (List ℕ)) → Form → Type 0
AreBehind first words form = Spell (first ∷ are_of words) form

-- the words are of some form
abbrev pub IsForm : List (Bor (List ℕ)) → Type 0
IsForm words = (form : Form) × AreWords words form

-- the report is one of traces of one processor alone
abbrev pub IsForOneProcessor : Report → Type 0
IsForOneProcessor (Answered parts) = ⊥
IsForOneProcessor Counts = ⊥
IsForOneProcessor (Planned size) = ⊥
IsForOneProcessor Curves = Unit {0}

-- the trace is one that the report is for
abbrev pub Admits : Report → Script → Type 0
Admits report script = IsForOneProcessor report → script.processors ≡ 1

-- the history comes in this order: of the lines, or one that is drawn from the seed; nothing is said of the order in which threads come
-- to the locks
abbrev pub ComesBy : Order → Script → List Entry → Type 0
ComesBy (InOneThread Lines) script history = IsFiled script history
ComesBy (InOneThread (Drawn seed)) script history = IsSeeded script seed history
ComesBy Threads script history = Unit {0}

-- the words that ask for a trace to be made: the number that it is made from, and how many calls, processors, spaces and frames it has
abbrev pub making_words : Making → List (List ℕ)
making_words m =
    codes "make" ∷ decimal m.number ∷ decimal m.calls ∷ decimal m.processors ∷ decimal m.spaces ∷ decimal m.frames ∷ []

-- the words that ask for a large trace to be made from a number and run by a schedule that is drawn from a seed
abbrev pub large_words : (number seed : ℕ) → List (List ℕ)
large_words number seed = codes "large" ∷ decimal number ∷ decimal seed ∷ []

-- The words ask for this trace to be made, and it can be.
pub record AreMakingWords (words : List (Bor (List ℕ))) (m : Making) : Type 0 where
  pub are : are_of words ≡ making_words m
  pub number : m.number < 2 ^ 64
  pub can : CanMake m.calls m.processors m.spaces m.frames

-- The words ask for the large trace of this number to be run by a schedule that is drawn from this seed.
pub record AreLargeWords (words : List (Bor (List ℕ))) (number seed : ℕ) : Type 0 where
  pub are : are_of words ≡ large_words number seed
  pub number_in : number < 2 ^ 64
  pub seed_in : seed < 2 ^ 64

abbrev pub IsMaking : List (Bor (List ℕ)) → Type 0
IsMaking words = (m : Making) × AreMakingWords words m

abbrev pub IsLarge : List (Bor (List ℕ)) → Type 0
IsLarge words = (number : ℕ) × (seed : ℕ) × AreLargeWords words number seed

-- the words ask for a history to be judged
abbrev pub AreCheckWords : List (Bor (List ℕ)) → Type 0
AreCheckWords words = are_of words ≡ codes "check" ∷ []

-- the words ask for a trace to be run as it is read, and for its counts, with those so far after each so many calls or without, or for its curves
abbrev pub AreStreamWords : List (Bor (List ℕ)) → StreamReport → Type 0
AreStreamWords words (StreamCounts None) = are_of words ≡ codes "stream" ∷ []
AreStreamWords words (StreamCounts (Some every)) = (are_of words ≡ codes "stream" ∷ decimal every ∷ []) × (1 ≤ every) × (every < 2 ^ 32)
AreStreamWords words StreamCurves = are_of words ≡ codes "stream" ∷ codes "curve" ∷ []

abbrev pub IsStream : List (Bor (List ℕ)) → Type 0
IsStream words = (report : StreamReport) × AreStreamWords words report

-- the words are of this command
abbrev pub AreOfCommand : List (Bor (List ℕ)) → Command → Type 0
AreOfCommand words (Run form) = AreWords words form
AreOfCommand words (Make m) = AreMakingWords words m
AreOfCommand words (Large number seed) = AreLargeWords words number seed
AreOfCommand words Check = AreCheckWords words
AreOfCommand words (Stream report) = AreStreamWords words report

-- the words are of some command
abbrev pub IsCommand : List (Bor (List ℕ)) → Type 0
IsCommand words = (command : Command) × AreOfCommand words command
