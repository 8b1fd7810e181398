-- What C is answered beside a status.
use Rattle.std.specs.Prelude.{ℕ, ◌≡◌, ◌≢◌, ◌^◌, if◌then◌else◌, List, slice_index_or, Option, Some, None, IfSome, is_some}
use Rattle.std.specs.Option.{unwrap_or}
use Rattle.pager_model.specs.declared.call.Call.{Call}
use Rattle.pager_model.specs.declared.call.Line.{Line}
use Rattle.pager_model.specs.declared.entry.Entry.{Entry}
use Rattle.pager_model.specs.declared.reply.Reply.{Reply}
use Rattle.pager_model.specs.declared.reply.Reply.TheVariants.{Done, Value, Clean, Written, Unmapped, Denied, Overlap, OutOfSpace, NotGrowing, RegionsFull, NoFrames, StoreFault, NoMemory, Busy}
use Rattle.pager_model.specs.declared.summary.Summary.{Summary}
use Rattle.pager_model.specs.Counts.{counts}
use Rattle.pager_model.specs.Scripts.{Script}
use Rattle.pager_model.specs.Stored.{Stored}
use Rattle.pager_model.specs.Stores.{setting_over}
use Rattle.stream_core.specs.Streaming.{Streaming}
use Rattle.live_pager.specs.declared.told.Told.{Told}
use Rattle.live_pager.specs.Live.{IsLive}
use Rattle.guarded_pager.specs.Guards.{Tells}
use Rattle.superpager_machine.specs.declared.answers.CallAnswer.{CallAnswer}
use Rattle.superpager_machine.specs.declared.answers.CountAnswer.{CountAnswer}
use Rattle.superpager_machine.specs.Statuses.{call_status, line_of}

-- Of a call.

-- a reply by its number
abbrev pub reply_number : Reply → ℕ
reply_number Done = 0
reply_number (Value word) = 1
reply_number Clean = 2
reply_number Written = 3
reply_number Unmapped = 4
reply_number Denied = 5
reply_number Overlap = 6
reply_number OutOfSpace = 7
reply_number NotGrowing = 8
reply_number RegionsFull = 9
reply_number (NoFrames wired claimed held) = 10
reply_number (StoreFault space count) = 11
reply_number NoMemory = 12
reply_number (Busy page) = 13

-- how many base pages a translation has, where there is one
abbrev pub pages_in : Option ℕ → ℕ
pages_in None = 0
pages_in (Some level) = 8 ^ level

-- what every call that was made is answered
abbrev pub plain_answer : Told → CallAnswer
plain_answer told = record {
  value = 0;
  faults = 0;
  promotions = told.promotions;
  demotions = told.demotions;
  preemptions = told.preemptions;
  evictions = told.evictions;
  status = 0;
  reply = reply_number told.answered.reply;
  is_hit = if told.answered.hit then 1 else 0;
  pages = pages_in told.answered.size;
  has_frame = if is_some told.frame then 1 else 0;
  frame = unwrap_or told.frame 0;
  wired = 0;
  claimed = 0;
  held = 0;
  space = 0;
  page = 0;
}

-- and what some replies say besides
abbrev pub with_reply : CallAnswer → Reply → CallAnswer
with_reply answer (Value word) = record answer { value = word }
with_reply answer (NoFrames wired claimed held) = record answer { wired = wired; claimed = claimed; held = held }
with_reply answer (StoreFault space count) = record answer { space = space; faults = count }
with_reply answer (Busy page) = record answer { page = page }
with_reply answer reply = answer

-- the answer of a call of which this was told
abbrev pub answer_of : Told → CallAnswer
answer_of told = with_reply (plain_answer told) told.answered.reply

-- where nothing was done, each number beside the status is 0
abbrev pub refused_call : ℕ → CallAnswer
refused_call status = record {
  value = 0;
  faults = 0;
  promotions = 0;
  demotions = 0;
  preemptions = 0;
  evictions = 0;
  status = status;
  reply = 0;
  is_hit = 0;
  pages = 0;
  has_frame = 0;
  frame = 0;
  wired = 0;
  claimed = 0;
  held = 0;
  space = 0;
  page = 0;
}

-- The line's call was made, and the answer is what was told of it.
pub record IsDone (s : Streaming) (line : Line) (state : Option Streaming) (answer : CallAnswer) : Type 0 where
  pub told : Told
  pub next : Streaming
  pub state_is : state ≡ Some next
  pub tells : Tells s line told next
  pub answer_is : answer ≡ answer_of told

-- What a processor's call keeps: its status is 0 exactly where nothing refuses it. Then it was made; and else the pager is as it was.
pub record IsMade (old : Option Streaming) (processor : ℕ) (call : Option Call) (new : Option Streaming) (answer : CallAnswer) : Type 0 where
  pub status : answer.status ≡ call_status old processor call
  pub done : answer.status ≡ 0 → IfSome old (λ s. IfSome call (λ c. IsDone s (line_of processor c) new answer))
  pub same : answer.status ≢ 0 → (new ≡ old) × (answer ≡ refused_call answer.status)

-- Of the counts.

-- these counts, after so many calls
abbrev pub counts_answer : ℕ → Summary → CountAnswer
counts_answer calls c = record {
  promotions = c.promotions;
  demotions = c.demotions;
  preemptions = c.preemptions;
  hits = c.hits;
  misses = c.misses;
  status = 0;
  calls = calls;
  tiles_1 = slice_index_or c.tiles 0 0;
  tiles_8 = slice_index_or c.tiles 1 0;
  tiles_64 = slice_index_or c.tiles 2 0;
  tiles_512 = slice_index_or c.tiles 3 0;
  free = c.free;
  reserved = c.reserved;
  used = c.used;
}

-- the answer tells the counts of the calls so far
pub record TellsCounts (s : Streaming) (answer : CountAnswer) : Type 0 where
  pub counted : Summary
  pub counts_are : (script : Script) (stores : List Stored) (calls : List Line) (h : List Entry) → IsLive script stores calls h s
      → counted ≡ counts (setting_over script stores) h
  pub answer_is : answer ≡ counts_answer s.calls counted

-- where there is no pager, each number beside the status is 0
abbrev pub refused_counts : ℕ → CountAnswer
refused_counts status = record {
  promotions = 0;
  demotions = 0;
  preemptions = 0;
  hits = 0;
  misses = 0;
  status = status;
  calls = 0;
  tiles_1 = 0;
  tiles_8 = 0;
  tiles_64 = 0;
  tiles_512 = 0;
  free = 0;
  reserved = 0;
  used = 0;
}
