-- Calls that are no accesses.
use Rattle.std.proofs.Common.{ℕ, List, [], Option, sym}
use Rattle.std.proofs.lemmas.List.{append-nil}
use Rattle.pager_model.specs.declared.call.Line.{Line}
use Rattle.lackey_regions.specs.LineCalls.{Adds, MadeAt, accesses}

-- calls were added that load and store nothing
pub made_none : (p : List (Option ℕ)) (xs ys : List Line) → Adds xs ys [] → MadeAt p xs ys []
made_none p xs ys adds = record { made = []; adds = adds; at = tt }

-- no call was added
pub made_nothing : (p : List (Option ℕ)) (xs : List Line) → MadeAt p xs xs []
made_nothing p xs = made_none p xs xs (record { made_so = sym (append-nil (accesses xs)); in_range = λ all. all })
