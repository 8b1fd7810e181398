use Rattle.std.proofs.Common.{◌≡◌, Some, None, length, set, arith, sym, ap, subst, ◌∙◌}
use Rattle.std.proofs.lemmas.Option.{none-some}
use Rattle.pager_model.specs.Records.{is_used, split_records}
use Rattle.pager_model.proofs.Lists.{get_or_within}
use Rattle.reservations.specs.Kept.{reservation_at}
use Rattle.pager_model.specs.RecordPlaces.{ArePlaced}
use Rattle.reservations.proofs.FrameIds.{ArePlaced-set, AreNoted-open, whole_slice}
use Rattle.reservations.proofs.SplitLemmas.{split_records-open}
use Rattle.reservations.proofs.Reservations.split.Goals as goal

pub write_parts-requires-clause-placed : goal.write_parts-requires-clause-placed
write_parts-requires-clause-placed c =
    let r = c.unwrap-whole.result in
    let records = c.self.inside.records.items in
    let found : reservation_at c.args.self.now c.args.id ≡ Some r = sym c.get.ensures.record ∙ c.unwrap-whole.ensures in
    let is = rw (← c.self.view_is) at found in
    let known = get_or_within records c.args.id r is in
    subst ArePlaced (sym c.as_mut_slice.ensures.value) (ArePlaced-set records c.args.id None c.self.invariant.0.placed known
    (λ q e. absurd (none-some q e)))

pub write_parts-requires-clause-noted : goal.write_parts-requires-clause-noted
write_parts-requires-clause-noted c =
    let r = c.unwrap-whole.result in
    let records = c.self.inside.records.items in
    let found : reservation_at c.args.self.now c.args.id ≡ Some r = sym c.get.ensures.record ∙ c.unwrap-whole.ensures in
    let is = rw (← c.self.view_is) at found in
    let are = c.self.invariant.0 in
    let open_gap = AreNoted-open records c.self.inside.ids.items c.self.inside.used c.args.id r are is in
    rw (c.as_mut_slice.ensures.value, c.as_mut_slice-2.ensures.value, (are.placed c.args.id r is).named) open_gap

pub invariant_of-self : goal.invariant_of-self
invariant_of-self c =
    let parts = c.write_parts in
    let are = c.self.invariant.0 in
    let records_long : length parts.new.records ≡ length c.self.inside.records.items =
    omega (arith, parts.auto.records, c.as_mut_slice.ensures.len, c.self.inside.records.ok.0) in
    let ids_long : length parts.new.ids ≡ length c.self.inside.ids.items =
    omega (arith, parts.auto.ids, c.as_mut_slice-2.ensures.len, c.self.inside.ids.ok.0) in
    rw (
      whole_slice c.self.inside.records.len parts.new.records (set c.self.inside.records.items c.args.id None)
          (omega (arith, parts.auto.records, c.as_mut_slice.ensures.len)),
      whole_slice c.self.inside.ids.len parts.new.ids c.self.inside.ids.items (omega (arith, parts.auto.ids, c.as_mut_slice-2.ensures.len)),
    ) (
      record {
        ids_long = ids_long ∙ are.ids_long ∙ sym records_long;
        used_long = are.used_long ∙ sym records_long;
        placed = parts.ensures.placed;
        noted = parts.ensures.noted;
      },
      omega (arith, records_long, c.self.invariant.1),
    )

pub returns-clause-parts : goal.returns-clause-parts
returns-clause-parts c =
    let r = c.unwrap-whole.result in
    let found : reservation_at c.args.self.now c.args.id ≡ Some r = sym c.get.ensures.record ∙ c.unwrap-whole.ensures in
    rw (found, ← c.self.view_is) c.parts-parts.ensures

pub returns-clause-records : goal.returns-clause-records
returns-clause-records c =
    let r = c.unwrap-whole.result in
    let records = c.self.inside.records.items in
    let found : reservation_at c.args.self.now c.args.id ≡ Some r = sym c.get.ensures.record ∙ c.unwrap-whole.ensures in
    let is = rw (← c.self.view_is) at found in
    let placed = c.self.invariant.0.placed c.args.id r is in
    let parts = c.write_parts in
    let whole = whole_slice c.self.inside.records.len parts.new.records (set records c.args.id None)
    (omega (arith, parts.auto.records, c.as_mut_slice.ensures.len)) in
    let split : parts.new.records ≡ split_records (is_used c.self.inside.used) r records =
    parts.ensures.records
    ∙ ap (split_records (is_used c.self.inside.used) r) c.as_mut_slice.ensures.value
    ∙ split_records-open (is_used c.self.inside.used) r c.args.id records placed.named in
    rw (found, ← c.self.view_is) (whole ∙ split)
