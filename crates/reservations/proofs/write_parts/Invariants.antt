use Rattle.std.proofs.Common.{◌≡◌, ◌+◌, ◌-◌, ◌*◌, ◌^◌}
use Rattle.pager_model.specs.Records.{is_used}
use Rattle.pager_model.specs.RecordPlaces.{ArePlaced}
use Rattle.reservations.specs.Kept.{AreNoted}
use Rattle.reservations.proofs.SplitLemmas.{split_up_to}
use Rattle.reservations.proofs.write_parts.Given as goal

abbrev pub invariant-loop-i : goal.invariant-loop-i
invariant-loop-i l =
    record {
      split : l.records ≡ split_up_to l.i (is_used l.used) l.whole l.initial.records;
      placed : ArePlaced l.records;
      noted : AreNoted l.records l.ids l.used (l.whole.frame + l.i * 8 ^ (l.whole.size - 1)) (l.whole.frame + 8 ^ l.whole.size);
    }
