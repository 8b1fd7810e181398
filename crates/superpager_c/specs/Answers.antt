-- What C is answered beside a status.
use Rattle.std.specs.Prelude.{ℕ, Option, Some, None}
use Rattle.pager_model.specs.FrameStates.{FrameState, free_count, used_count, reserved_count, wired_count, claimed_count, held_count}
use Rattle.superpager_c.specs.declared.answers.FrameAnswer.{FrameAnswer}
use Rattle.superpager_c.specs.declared.answers.SizeAnswer.{SizeAnswer}
use Rattle.superpager_c.specs.declared.answers.GiveAnswer.{GiveAnswer}
use Rattle.superpager_c.specs.declared.answers.VictimAnswer.{VictimAnswer}
use Rattle.superpager_c.specs.declared.answers.CollectAnswer.{CollectAnswer}
use Rattle.superpager_c.specs.declared.answers.PinAnswer.{PinAnswer}
use Rattle.superpager_c.specs.declared.answers.CountAnswer.{CountAnswer}

-- Where a call did nothing, each number beside its status is 0; so is it where a range was wired, or is wired no longer.

abbrev pub refused_frame : ℕ → FrameAnswer
refused_frame status = record { status = status; frame = 0 }

abbrev pub refused_size : ℕ → SizeAnswer
refused_size status = record { status = status; size = 0 }

abbrev pub refused_give : ℕ → GiveAnswer
refused_give status = record { status = status; frame = 0; is_held = 0; processor = 0 }

abbrev pub refused_claim : ℕ → VictimAnswer
refused_claim status = record { status = status; space = 0; page = 0; frame = 0 }

abbrev pub refused_collect : ℕ → CollectAnswer
refused_collect status = record { status = status; frame = 0; is_held = 0 }

abbrev pub refused_pin : ℕ → PinAnswer
refused_pin status = record { status = status; page = 0; frame = 0 }

abbrev pub refused_counts : ℕ → CountAnswer
refused_counts status = record { preempted = 0; status = status; free = 0; reserved = 0; used = 0; wired = 0; claimed = 0; held = 0 }

-- 1 where a processor claimed the frame, and 0 where none did
abbrev pub held_number : Option ℕ → ℕ
held_number None = 0
held_number (Some processor) = 1

-- the processor, and 0 where there is none
abbrev pub processor_number : Option ℕ → ℕ
processor_number None = 0
processor_number (Some processor) = processor

-- a page gave this frame up, and this processor claimed it, where one did
abbrev pub given_answer : ℕ → Option ℕ → GiveAnswer
given_answer frame claimer =
    record { status = 0; frame = frame; is_held = held_number claimer; processor = processor_number claimer }

-- the counts of an open pool
abbrev pub counts_of : FrameState → CountAnswer
counts_of st = record {
  preempted = st.preemptions;
  status = 0;
  free = free_count st;
  reserved = reserved_count st;
  used = used_count st;
  wired = wired_count st;
  claimed = claimed_count st;
  held = held_count st;
}
