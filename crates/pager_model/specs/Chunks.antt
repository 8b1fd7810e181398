-- A chunk of a block.
use Rattle.std.specs.Prelude.{ℕ, ◌≡◌, ◌⊎◌, [], length, vec_capacity}
use Rattle.std.specs.Vec.{vec_ptr}
use Rattle.std_alloc.specs.declared.vec.Vec.{Vec}
use Rattle.std_alloc.specs.declared.vec.lodged.Lodged.{Lodged}
use Rattle.pager_model.specs.declared.chunks.block.Key.{Key}

-- the words lie in the chunk that the key is for, and either none or all of them are there
pub record IsChunk (words : Vec ℕ Lodged) (key : Key) : Type 0 where
  pub place : vec_ptr words ≡ key.at
  pub chunk : vec_capacity words ≡ 1024
  pub none_or_all : (words.items ≡ []) ⊎ (length words.items ≡ 1024)
