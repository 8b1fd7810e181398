-- The misses of images of any capacity, with tiles by any sizes.
use Rattle.std.specs.Prelude.{ℕ, ◌≡◌, ◌+◌, ◌<◌, Bool, true, false, List, fold, slice_index, sum_by, length}
use Rattle.std.specs.List.{All, range_with_len}
use Rattle.pager_model.specs.declared.entry.Entry.{Entry}
use Rattle.pager_model.specs.declared.entry.What.{What}
use Rattle.pager_model.specs.declared.entry.What.TheVariants.{Answer}
use Rattle.pager_model.specs.Counts.{counts}
use Rattle.pager_model.specs.Entries.{space_part}
use Rattle.pager_model.specs.Settings.{Given, is_told, faults_at_entry}
use Rattle.pager_model.specs.SizeSets.{SizeSet}
use Rattle.lru_stack.specs.Followers.{Follower, begun, follow}

-- base pages are the only size
abbrev pub base_alone : SizeSet
base_alone = record { one = false; two = false; three = false }

-- what a space's entries lead to, with tiles by sizes z and an image of this capacity
abbrev pub followed : SizeSet → Given → ℕ → List Entry → ℕ → Follower
followed z g s entries capacity = fold (follow z capacity) (begun g.sizes (is_told g s) (faults_at_entry g s)) entries

-- the misses of a history with tiles by sizes z and images of this capacity, over all spaces
abbrev pub misses_by : SizeSet → Given → List Entry → ℕ → ℕ
misses_by z g history capacity = sum_by (λ s. (followed z g s (space_part s history) capacity).misses) (range_with_len 0 (length g.told))

-- the misses of a history with images of this capacity
abbrev pub misses : Given → List Entry → ℕ → ℕ
misses g history capacity = misses_by g.sizes g history capacity

-- the same with base pages alone
abbrev pub page_misses : Given → List Entry → ℕ → ℕ
page_misses g history capacity = misses_by base_alone g history capacity

-- the entry answers a call
abbrev pub is_answer : What → Bool
is_answer (Answer number call answered) = true
is_answer what = false

-- processor 0 alone answers, as in a history of one processor's calls
abbrev pub AnswersAlone : List Entry → Type 0
AnswersAlone history = All (λ (e : Entry). is_answer e.what ≡ true → e.processor ≡ 0) history

-- the largest capacity of the curves of a history that is kept, and of those of one that is followed as it is made
abbrev pub history_capacities : ℕ
history_capacities = 1024

abbrev pub stream_capacities : ℕ
stream_capacities = 4096

-- two curves have a place for each capacity
abbrev pub AreLong : ℕ → (tiles pages : List ℕ) → Type 0
AreLong capacities tiles pages = (length tiles ≡ capacities) × (length pages ≡ capacities)

-- These are the miss curves of a history, whose places stand for the capacities from 1 to the largest: with the tiles of the run, and with base
-- pages alone. At capacity 128 the first is the history's own misses.
pub record AreCurves (capacities : ℕ) (g : Given) (history : List Entry) (tiles pages : List ℕ) : Type 0 where
  pub long : AreLong capacities tiles pages
  pub by_tiles : (place : ℕ) → place < capacities → slice_index tiles place ≡ misses g history (place + 1)
  pub by_pages : (place : ℕ) → place < capacities → slice_index pages place ≡ page_misses g history (place + 1)
  pub usual : slice_index tiles 127 ≡ (counts g history).misses
