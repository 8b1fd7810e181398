-- What a trace says: the version of its text, the frames, processors and spaces, which page sizes there are, the daemon where there is one, and the
-- calls in order.
use Rattle.std.specs.Prelude.{ℕ, List, Option}
use Rattle.pager_model.specs.declared.call.Line.{Line}
use Rattle.pager_model.specs.declared.trace.Daemon.{Daemon}
use Rattle.pager_model.specs.SizeSets.{SizeSet}

pub record Script : Type 0 where
  pub version : ℕ
  pub frames : ℕ
  pub processors : ℕ
  pub spaces : ℕ
  pub sizes : SizeSet
  pub daemon : Option Daemon
  pub calls : List Line
