-- A block's memory as std's `Vacant` has it.
use Rattle.pager_model.proofs.ChunkSteps.{◌≡◌, ◌∙◌, ap, only, w64, vint, List, [], ◌∷◌, refl, ent, Logic, sem, Val, vstruct, vcons, vnil, Is, u64, Ptr, ptr_val, ‵, ◌$◌, ◌∵◌, !, qed, sep, nothing, move, fjoin, feq_i, fpack, done}
use seplogic.Ra.Ura.{Ura}
use Rattle.std.specs.Vec.{vec_len, vec_capacity, vec_ptr}
use denote.Array.{Array}
use denote.Laws.{Tells}
use denote.Param.Laws.{Laws, array_laws, of_field}
use denote.Param.Shared.{copy_shared}
use denote.RattleType.{RattleType, Valss}
use denote.Struct.Owning.{shape}
use denote.Struct.Struct.{within}
use denote.Struct.Field.{u64-field}
use denote.Struct.Laws.{FLaws, u64-laws, u64-copy}
use Rattle.std.specs.Allocator.{owned_block, array_of}
use Rattle.std_alloc.specs.contracts.room.vacant.Vacant.{the_row as vacant-row, the_type as vacant-type}
use Rattle.std_alloc.proofs.room.vacant.Vacant.TheLaws as V
use Rattle.std_alloc.specs.contracts.vec.Vec.{the_row as vec-row, the_field as vec-field}
use Rattle.std_alloc.proofs.vec.Vec.TheLaws as L
use Rattle.std_alloc.specs.contracts.vec.lodged.Lodged.{the_row as lodged-row}
use Rattle.std_alloc.specs.contracts.vec.lodged.LodgedAllocator.TheImpl.{ghosts as lodged-ghosts}
use Rattle.std_alloc.proofs.vec.lodged.Lodged.TheLaws as K
use Rattle.std.specs.contracts.alloc.Global.{the_row as global-row}
use Rattle.std.proofs.alloc.Global.TheLaws as G
use Rattle.std.specs.contracts.impls.GlobalAllocator.TheImpl.{ghosts}
use Rattle.pager_model.specs.ChunkOwnership.{may_free}

abbrev pub Words : RattleType
Words = Array u64 65537

abbrev pub Memory : RattleType
Memory = vacant-row Words global-row ghosts

pub word_laws : Laws u64
word_laws = of_field u64-field u64-laws refl (copy_shared u64-field u64-copy)

pub words_laws : Laws Words
words_laws = array_laws u64 word_laws 65537

abbrev pub memory_vals : Memory.Denot → List Val
memory_vals v = vstruct (vcons (ptr_val v.ptr) (vcons (G.lowered v.alloc) vnil)) ∷ []

pub memory_tells : Tells Memory (Is Memory) memory_vals
memory_tells = (V.lowers Words global-row ghosts words_laws G.the_row_laws G.the_told).val_is

-- the words of a chunk
abbrev pub Lodging : RattleType
Lodging = vec-row u64 lodged-row lodged-ghosts

abbrev pub lodging_laws : FLaws (vec-field u64 lodged-row lodged-ghosts)
lodging_laws = L.the_field_laws u64 lodged-row lodged-ghosts word_laws K.the_row_laws K.the_told

-- the machine value of an empty one at q
abbrev pub empty_val : Ptr → Val
empty_val q = vstruct (vcons (ptr_val q) (vcons (vint w64 0) (vcons (vint w64 1024) (vcons (vstruct vnil) vnil))))

pub is_empty_val : (w : Lodging.Denot) (v : Val) (q : Ptr) → Is Lodging w (v ∷ []) → vec_len w ≡ 0 → vec_capacity w ≡ 1024 → vec_ptr w ≡ q
    → v ≡ empty_val q
is_empty_val w v q is none chunk place = ap only (lodging_laws.low-is w (v ∷ []) is)
    ∙ (λ i. vstruct (vcons (ptr_val (place i)) (vcons (vint w64 (none i)) (vcons (vint w64 (chunk i)) (vcons (vstruct vnil) vnil)))))

module _ {M : Type 1} {𝓤 : Ura M} (𝓛 : Logic 𝓤) where
  -- a block, with a handle, is a `Vacant`
  pub memory_in : (v : Memory.Denot) → ent 𝓤 (sep 𝓤 (sem 𝓛 (global-row.own_val v.alloc (G.lowered v.alloc ∷ [])))
      (sem 𝓛 (owned_block may_free (array_of u64 65537) v.ptr))) (sem 𝓛 (Memory.own_val v (memory_vals v)))
  memory_in v =
      let S = shape (vacant-type Words global-row ghosts) in
      qed 𝓛 (‵ (global-row.own_val v.alloc (G.lowered v.alloc ∷ [])) ∷ ‵
      (owned_block may_free (array_of u64 65537) v.ptr) ∷ []) ∵ nothing ! $ move ! (1 ∷ 0 ∷ []) $ fjoin ! $
      feq_i ! (List Val) (ptr_val v.ptr ∷ []) (ptr_val v.ptr ∷ []) refl $ fjoin ! $ feq_i ! (List Val) (memory_vals v)
      (memory_vals v) refl $ fjoin ! $
      fpack ! (Valss S.fields) (within S (v.ptr, (v.alloc, tt)) (memory_vals v))
      (ptr_val v.ptr ∷ [], (G.lowered v.alloc ∷ [], tt)) $ fjoin ! $ done !
