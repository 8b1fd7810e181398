use Rattle.std.proofs.Common.{◌≡◌, ◌-◌, true, [], map, vec_capacity, vec_len}
use Rattle.std.specs.List.{range_with_len}
use Rattle.journal_core.specs.Journals.{new_author}
use Rattle.journal_core.specs.Seats.{name_of}
use Rattle.journal_core.specs.Views.{blank_part}
use Rattle.journal_core.proofs.journal.deal_authors.Given as goal

abbrev pub invariant-loop-part : goal.invariant-loop-part
invariant-loop-part l =
    (l.seat.table_id ≡ l.fn.seat.table_id)
    × (l.seat.me ≡ (
      record {
        live = true;
        setting = l.fn.seat.me.0.setting;
        authors = map blank_part (range_with_len l._part (l.count - l._part));
        passes = l.fn.seat.me.0.passes;
      },
      [],
    ))
    × (l.authors.items ≡ map (new_author (name_of l.fn.seat.table_id l.fn.seat.me.0)) (range_with_len 0 l._part))
    × (vec_capacity l.authors ≡ l.count)
    × (vec_len l.authors ≡ l._part)
