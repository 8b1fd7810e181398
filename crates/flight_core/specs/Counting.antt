-- The counts of a history that nobody keeps.
use Rattle.std.specs.Prelude.{ℕ, ◌≡◌, ◌+◌, Bool, true, false, List, length, count_by}
use Rattle.pager_model.specs.declared.call.Call.{Call}
use Rattle.pager_model.specs.declared.call.Call.TheVariants.{Evict}
use Rattle.pager_model.specs.declared.entry.Entry.{Entry}
use Rattle.pager_model.specs.declared.entry.What.{What}
use Rattle.pager_model.specs.declared.entry.What.TheVariants.{Answer, Out}
use Rattle.pager_model.specs.declared.reply.Reply.{Reply}
use Rattle.pager_model.specs.declared.reply.Reply.TheVariants.{NoFrames, StoreFault, NoMemory, Busy}
use Rattle.pager_model.specs.Counts.{hits_in, misses_in}
use Rattle.flight_core.specs.declared.counted.Counted.{Counted}

-- at most so many entries has a history: 17 processors make at most 2^31 each
abbrev pub most_in_history : ℕ
most_in_history = 36507222016

-- a page gave its frame up: it was paged out, or evicted by a call, whose answer names the frames then
abbrev pub evicts_by : Bool → Call → Bool
evicts_by frames (Evict space page) = frames
evicts_by frames call = false

abbrev pub is_eviction_in : Bool → What → Bool
is_eviction_in frames (Answer number call answered) = evicts_by frames call
is_eviction_in frames (Out page written) = true
is_eviction_in frames what = false

abbrev pub is_eviction : Entry → Bool
is_eviction e = is_eviction_in e.frames e.what

-- the call that is answered so wasn't done: for want of a frame, of a store or of memory, or for a page whose frame was claimed
abbrev pub is_unserved : Reply → Bool
is_unserved (NoFrames wired claimed held) = true
is_unserved (StoreFault space count) = true
is_unserved NoMemory = true
is_unserved (Busy page) = true
is_unserved reply = false

abbrev pub is_unserved_in : What → Bool
is_unserved_in (Answer number call answered) = is_unserved answered.reply
is_unserved_in what = false

abbrev pub evictions_in : List Entry → ℕ
evictions_in history = count_by is_eviction history

abbrev pub unserved_in : List Entry → ℕ
unserved_in history = count_by (λ (e : Entry). is_unserved_in e.what) history

-- they are those of this history
pub record IsCounted (c : Counted) (h : List Entry) : Type 0 where
  pub hits : c.hits ≡ hits_in h
  pub misses : c.misses ≡ misses_in h
  pub evictions : c.evictions ≡ evictions_in h
  pub unserved : c.unserved ≡ unserved_in h
  pub left : length h + c.left ≡ most_in_history
