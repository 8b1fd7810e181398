use Rattle.std.proofs.Common.{◌∙◌, ap, arith}
use Rattle.std.proofs.lemmas.Grind.{common_steps}
use Rattle.std.specs.BTreeMap.{is_at}
use Rattle.std.specs.Map.{lookup}
use Rattle.std.specs.Ordering.{nat_cmp}
use Rattle.contiguity_plan.specs.Places.{place_in}
use Rattle.contiguity_plan.proofs.PlaceLemmas.{place_in-push}
use Rattle.contiguity_plan.proofs.places.create.Goals as goal

pub loop-preserved : goal.loop-preserved
loop-preserved c = record {
  made = grind (arith, common_steps);
  none = λ s p.
      ap (λ ms. place_in ms s p) c.in_ok-push.ensures.items
      ∙ place_in-push c.loop.places.items c.new.result s p c.loop.invariant.none (ap (lookup (is_at (nat_cmp p))) c.new.ensures.empty);
}
