use Rattle.std.proofs.Common.{◌≡◌, ◌≤◌, List, length, subst, sym, arith}
use Rattle.std.proofs.Math.ListN.{length-map}
use Rattle.pager_model.specs.declared.entry.Numbered.{Numbered}
use Rattle.pager_model.specs.Legal.{entries_in}
use Rattle.space_core.specs.Standing.{Kept}
use Rattle.flight_core.specs.Counting.{most_in_history}
use Rattle.pager_core.specs.RunParts.{AreAtRest}
use Rattle.pager_core.proofs.run_parts.Gathered.of.Goals as goal

few : (history : List Numbered) → length history ≤ most_in_history → length (entries_in history) ≤ most_in_history
few history short = (let same : length (entries_in history) ≡ length history = length-map history (λ (n : Numbered). n.entry) in
    omega (arith, same, short))

pub counts_of-summary-requires-clause-rest : goal.counts_of-summary-requires-clause-rest
counts_of-summary-requires-clause-rest g c κs within = (
  c.requires.rest.0,
  entries_in c.args.history.items,
  subst (λ (l : List Kept). AreAtRest c.requires.rest.0 (entries_in c.args.history.items) l c.args.pool) (sym c.as_slice.ensures.value)
      c.requires.rest.1,
  few c.args.history.items c.requires.few.0,
)

pub returns-clause-summary : goal.returns-clause-summary
returns-clause-summary g c = λ given rest.
    c.counts_of-summary.ensures given (entries_in c.args.history.items)
    (subst (λ (l : List Kept). AreAtRest given (entries_in c.args.history.items) l c.args.pool) (sym c.as_slice.ensures.value) rest)
    (few c.args.history.items c.requires.few.0) c.accesses-accesses.ensures.hits c.accesses-accesses.ensures.misses

pub returns-clause-ends : goal.returns-clause-ends
returns-clause-ends g c = λ given rest. c.stores_of.ensures.ends given c.args.history.items c.args.pool rest
