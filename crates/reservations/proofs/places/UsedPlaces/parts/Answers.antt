use Rattle.std.proofs.Common.{arith, false}
use Rattle.std.proofs.lemmas.List.FromFn.{fill_by_all}
use Rattle.pager_model.specs.Records.{is_used}
use Rattle.reservations.specs.declared.part.Part.{Part}
use Rattle.reservations.specs.Parts.{told_part}
use Rattle.reservations.proofs.places.UsedPlaces.parts.Goals as goal

pub returns : goal.returns
returns c =
    let d : Part = record { extent = record { size = 0; first = 0 }; empty = false } in
    let told = c.loop-i.invariant in
    fill_by_all (told_part (is_used c.args.self.now) c.args.whole.now) c.loop-i.parts 8 d told.long (λ k below. told.told k d (omega arith))
