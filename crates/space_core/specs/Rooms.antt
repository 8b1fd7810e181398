-- Room for a space, as contracts see it.
use Rattle.std.specs.Prelude.{ℕ}
use Rattle.pager_model.specs.SizeSets.{SizeSet}

-- how many frames and how many processors it is room for, and which page sizes the space's tiles have
pub record Capacity : Type 0 where
  pub frames : ℕ
  pub processors : ℕ
  pub sizes : SizeSet
