-- The calls of a trace, dealt out to its processors.
use Rattle.std.specs.Prelude.{ℕ, ◌≡◌, ◌<◌, List, length, slice_index_or}
use Rattle.pager_model.specs.declared.call.Call.{Call}
use Rattle.pager_model.specs.declared.call.Line.{Line}
use Rattle.pager_model.specs.Showing.{calls_of}

-- for each of so many processors its calls of the lines, in order
pub record AreDealt {V : Type 0} (items : V → List Call) (processors : ℕ) (lines : List Line) (own : List V) : Type 0 where
  pub many : length own ≡ processors
  pub calls : (c : ℕ) (d : V) → c < processors → items (slice_index_or own c d) ≡ calls_of c lines
