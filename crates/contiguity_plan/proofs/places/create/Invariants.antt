use Rattle.std.proofs.Common.{◌≡◌, ℕ, length, None}
use Rattle.contiguity_plan.specs.Places.{place_in}
use Rattle.contiguity_plan.proofs.places.create.Given as goal

abbrev pub invariant-loop : goal.invariant-loop
invariant-loop l = record {
  made : length l.places.items ≡ l.counter;
  none : (s p : ℕ) → place_in l.places.items s p ≡ None;
}
