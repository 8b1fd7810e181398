use Rattle.std.proofs.Common.{◌≡◌, length, sum, rules, refl, ap, arith}
use Rattle.std.proofs.lemmas.List.{with_items_is}
use Rattle.lru_stack.proofs.DistinctTiles.{IsKept-used}
use Rattle.lru_stack.proofs.stack.Stack.step_same.Goals as goal

pub follow_use_same-place-requires : goal.follow_use_same-place-requires
follow_use_same-place-requires c = record { distinct = rw c.deref_mut.ensures.value c.self.invariant.distinct }

pub invariant_of-self : goal.invariant_of-self
invariant_of-self c =
    let before = c.self.inside in
    let places_long : length c.follow_use_same-place.new.places ≡ before.places.len = search rules in
    let found_long : length c.count.new.found ≡ before.found.len = search rules in
    IsKept-used _ _ c.follow_use_same-place.new.places c.count.new.found c.self.invariant
    (with_items_is before.places c.follow_use_same-place.new.places places_long) (with_items_is before.found c.count.new.found found_long) refl
    (omega (arith, places_long, before.places.ok.0)) (omega (arith, found_long, before.found.ok.0))
    (omega (arith, c.count.ensures.more, ap sum c.deref_mut-in-Some.ensures.value)) c.follow_use_same-place.ensures.distinct
