use Rattle.std.proofs.Common.{◌≡◌, ◌-◌, true, [], map, take, length, vec_capacity, vec_len}
use Rattle.std.specs.List.{range_with_len}
use Rattle.journal_core.specs.Journals.{new_passes}
use Rattle.journal_core.specs.Seats.{name_of}
use Rattle.journal_core.specs.Views.{blank_own}
use Rattle.journal_core.proofs.journal.deal_passes.Given as goal

abbrev pub invariant-loop-processor : goal.invariant-loop-processor
invariant-loop-processor l =
    (l.seat.table_id ≡ l.fn.seat.table_id)
    × (l.seat.me ≡ (
      record {
        live = true;
        setting = l.fn.seat.me.0.setting;
        authors = [];
        passes = map blank_own (range_with_len l.processor (length l.rooms - l.processor));
      },
      [],
    ))
    × (l.passes.items ≡ new_passes (name_of l.fn.seat.table_id l.fn.seat.me.0) 0 (take l.processor l.rooms))
    × (vec_capacity l.passes ≡ length l.rooms)
    × (vec_len l.passes ≡ l.processor)
