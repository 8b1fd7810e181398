use Rattle.std.proofs.Common.{◌≡◌, ◌+◌, length, map, sum, Some, rules, refl, ap, sym, subst, ◌∙◌, arith}
use Rattle.std.specs.List.{All}
use Rattle.std.proofs.lemmas.List.{with_items_is}
use Rattle.lru_stack.specs.Stacks.{AreDistinct, Kept, Passes, found_at, kept_at, moved_down, position_of}
use Rattle.lru_stack.proofs.DistinctTiles.{IsKept-used, distinct-fewer}
use Rattle.lru_stack.proofs.StackLemmas.{kept_unused, kept_used}
use Rattle.lru_stack.proofs.stack.Stack.step.Goals as goal

pub follow_use-place-requires-clause-distinct : goal.follow_use-place-requires-clause-distinct
follow_use-place-requires-clause-distinct g c = rw c.deref_mut.ensures.value c.self.invariant.distinct

pub invariant_of-self : goal.invariant_of-self
invariant_of-self g c =
    let before = c.self.inside in
    let places_long : length c.follow_use-place.new.places ≡ before.places.len = search rules in
    let found_long : length c.count.new.found ≡ before.found.len = search rules in
    IsKept-used _ _ c.follow_use-place.new.places c.count.new.found c.self.invariant
    (with_items_is before.places c.follow_use-place.new.places places_long) (with_items_is before.found c.count.new.found found_long) refl
    (omega (arith, places_long, before.places.ok.0)) (omega (arith, found_long, before.found.ok.0))
    (omega (arith, c.count.ensures.more, ap sum c.deref_mut-in-Some.ensures.value)) c.follow_use-place.ensures.distinct

pub invariant_of-self-in-None : goal.invariant_of-self-in-None
invariant_of-self-in-None g c =
    let before = c.self.inside in
    let places_long : length c.retain.new.places ≡ before.places.len = search rules in
    let places = with_items_is before.places c.retain.new.places places_long in
    record {
      long = omega (arith, ap length places, places_long, before.places.ok.0, c.self.invariant.long);
      within = c.self.invariant.within;
      distinct = subst AreDistinct (sym places)
          (distinct-fewer c.deref_mut-in-None.result.now c.retain.new.places
          (rw c.deref_mut-in-None.ensures.value c.self.invariant.distinct) c.retain.ensures.fewer);
    }

pub returns-in-Some-clause-after : goal.returns-in-Some-clause-after
returns-in-Some-clause-after g c = λ was test told all.
    let before = c.self.inside in
    let now = c.args.self.now in
    let u = c.in-Some.used in
    let row : c.deref_mut.result.now ≡ now.places = c.deref_mut.ensures.value ∙ ap (λ (k : Kept). k.places) c.self.view_is in
    let counts : c.deref_mut-in-Some.result.now ≡ now.found = c.deref_mut-in-Some.ensures.value
    ∙ ap (λ (k : Kept). k.found) c.self.view_is in
    kept_used test now c.args.used u _ _ _ c.in-Some.is
    (with_items_is before.places c.follow_use-place.new.places (search rules)
    ∙ c.follow_use-place.ensures.after was test told (subst (All (Passes was)) (sym row) all)
    ∙ ap (λ ps. moved_down u.after (Some u.after) (map (kept_at test) ps)) row)
    (with_items_is before.found c.count.new.found (search rules) ∙ c.count.ensures.counted ∙ ap (found_at c.follow_use-place.result) counts
    ∙ ap (λ place. found_at place now.found) (c.follow_use-place.ensures.found ∙ ap (position_of u.before) row))
    (ap (λ (k : Kept). k.uses + 1) c.self.view_is)

pub returns-in-None-clause-after : goal.returns-in-None-clause-after
returns-in-None-clause-after g c = λ was test told all.
    let now = c.args.self.now in
    let row : c.deref_mut-in-None.result.now ≡ now.places = c.deref_mut-in-None.ensures.value
    ∙ ap (λ (k : Kept). k.places) c.self.view_is in
    kept_unused test now c.args.used _ _ _ c.in-None.is
    (with_items_is c.self.inside.places c.retain.new.places (search rules)
    ∙ c.retain.ensures.kept was test told (subst (All (Passes was)) (sym row) all)
    ∙ ap (map (kept_at test)) row)
    (ap (λ (k : Kept). k.found) c.self.view_is) (ap (λ (k : Kept). k.uses) c.self.view_is)
