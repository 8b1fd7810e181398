-- What a contract sees of a text.
use Rattle.std.specs.Prelude.{ℕ, List}

-- its bytes, in order
pub record Bytes : Type 0 where
  pub items : List ℕ
