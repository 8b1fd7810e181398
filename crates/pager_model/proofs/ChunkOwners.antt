-- A block and a key are made of what they own.
use Rattle.pager_model.proofs.ChunkSteps.{◌^◌, ◌<◌, List, [], ◌∷◌, refl, w64, ent, Logic, sem, Val, vint, vstruct, vcons, vnil, Is, ptr_val, ‵, ◌$◌, ◌∵◌, !, qed, fjoin, done, owned}
use seplogic.Ra.Ura.{Ura}
use denote.Struct.Owning.{shape, to}
use denote.Struct.Struct.{Struct, Struct-Makes}
use Rattle.pager_model.specs.ChunkOwnership.{block_owns, key_owns}
use Rattle.pager_model.specs.declared.chunks.block.Block.{Block}
use Rattle.pager_model.specs.declared.chunks.block.Key.{Key}
use Rattle.pager_model.specs.contracts.chunks.block.Block.{the_row as block-row, the_type as block-type}
use Rattle.pager_model.specs.contracts.chunks.block.Key.{the_row as key-row, the_type as key-type}

abbrev pub block_vals : Block → List Val
block_vals d = vstruct (vcons (ptr_val d.start) (vcons (vint w64 d.left) vnil)) ∷ []

abbrev pub key_vals : Key → List Val
key_vals d = vstruct (vcons (ptr_val d.start) vnil) ∷ []

module _ {M : Type 1} {𝓤 : Ura M} (𝓛 : Logic 𝓤) where
  pub block_in : (d : Block) → d.left < 2 ^ 64 → ent 𝓤 (sem 𝓛 (block_owns d.start d.left)) (sem 𝓛 (block-row.own_val d (block_vals d)))
  block_in d small =
      qed 𝓛 (‵ (block_owns d.start d.left) ∷ []) ∵
      owned ! (Struct (shape block-type)) (Is (Struct (shape block-type)))
      (Struct-Makes 𝓛 (shape block-type) ((λ x vs. tt), ((λ x vs. (tt, tt)), tt))) (to block-type d) (block_vals d)
      ((ptr_val d.start ∷ [], (vint w64 d.left ∷ [], tt)), (refl, (refl, ((refl, small), tt)))) $ fjoin ! $ done !

  pub key_in : (d : Key) → ent 𝓤 (sem 𝓛 (key_owns d.start d.at)) (sem 𝓛 (key-row.own_val d (key_vals d)))
  key_in d =
      qed 𝓛 (‵ (key_owns d.start d.at) ∷ []) ∵
      owned ! (Struct (shape key-type)) (Is (Struct (shape key-type))) (Struct-Makes 𝓛 (shape key-type) ((λ x vs. tt), tt)) (to key-type d)
      (key_vals d)
      ((ptr_val d.start ∷ [], tt), (refl, (refl, tt))) $ fjoin ! $ done !
