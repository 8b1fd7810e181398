use Rattle.std.proofs.Common.{◌≡◌, ℕ, None, IsTrue, subst, ap, ◌∙◌}
use Rattle.pager_core.specs.Running.{Running, flight_at}
use Rattle.pager_core.proofs.machine.Machine.ended.Goals as goal

pub returns-clause-ended : goal.returns-clause-ended
returns-clause-ended g c =
    subst (λ l. (IsTrue c.none_flies.result → ((k : ℕ) → flight_at l k ≡ None))
    × (((k : ℕ) → flight_at l k ≡ None) → IsTrue c.none_flies.result))
    (c.as_slice.ensures.value ∙ ap (λ (m : Running). m.flights) c.self.view_is) c.none_flies.ensures
