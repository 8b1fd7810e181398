-- The machine values of what a handle keeps, and of a box as its pointer.
use Rattle.superpager_machine.proofs.Steps.{◌≡◌, List, [], ◌∷◌, refl, ent, Logic, sem, Val, vstruct, vcons, vnil, Is, ptr_val, ‵, ◌$◌, ◌∵◌, !, qed, fjoin, done, owned}
use Rattle.std.specs.Prelude.{Option, Some, None, is_some, true}
use Rattle.std.proofs.lemmas.Bool.{false≢true}
use seplogic.Ra.Ura.{Ura}
use denote.Laws.{Tells}
use denote.RattleType.{RattleType}
use denote.Struct.Owning.{shape, to}
use denote.Struct.Struct.{Struct, Struct-Makes}
use Rattle.loose_box.specs.contracts.Loose.{the_row as loose-row}
use Rattle.loose_box.proofs.Loose.TheLaws as L
use Rattle.std.specs.contracts.alloc.Global.{the_row as global-row}
use Rattle.std.proofs.alloc.Global.TheLaws as G
use Rattle.std.specs.contracts.impls.GlobalAllocator.TheImpl.{ghosts}
use Rattle.superpager_machine.specs.Ownership.{kept_owns}
use Rattle.superpager_machine.specs.declared.kept.Kept.{Kept}
use Rattle.superpager_machine.specs.contracts.kept.Kept.{the_row as kept-row, the_type as kept-type}
use Rattle.superpager_machine.proofs.kept.Kept.TheLaws as K
use Rattle.guarded_pager.specs.contracts.pager.GuardedPager.{the_row as pager-row}
use Rattle.guarded_pager.proofs.pager.GuardedPager.TheLaws as E

abbrev pub Freed : RattleType
Freed = loose-row pager-row global-row ghosts

abbrev pub freed_vals : Freed.Denot → List Val
freed_vals d = vstruct (vcons (ptr_val d.at) (vcons (G.lowered d.alloc) vnil)) ∷ []

pub freed_tells : Tells Freed (Is Freed) freed_vals
freed_tells = (L.lowers pager-row global-row ghosts E.the_row_laws G.the_row_laws G.the_told).val_is

abbrev pub kept_vals : Kept → List Val
kept_vals d = vstruct (vcons (ptr_val d.at) vnil) ∷ []

pub kept_tells : Tells kept-row (Is kept-row) kept_vals
kept_tells = (K.lowers).val_is

pub some_of : {T : Type 0} (o : Option T) → is_some o ≡ true → (x : T) × (o ≡ Some x)
some_of (Some x) e = (x, refl)
some_of None e = absurd (false≢true e)

module _ {M : Type 1} {𝓤 : Ura M} (𝓛 : Logic 𝓤) where
  pub kept_in : (d : Kept) → ent 𝓤 (sem 𝓛 (kept_owns d.at d.state)) (sem 𝓛 (kept-row.own_val d (kept_vals d)))
  kept_in d =
      qed 𝓛 (‵ (kept_owns d.at d.state) ∷ []) ∵
      owned ! (Struct (shape kept-type)) (Is (Struct (shape kept-type))) (Struct-Makes 𝓛 (shape kept-type) ((λ x vs. tt), tt)) (to kept-type d)
      (kept_vals d)
      ((ptr_val d.at ∷ [], tt), (refl, (refl, tt))) $ fjoin ! $ done !
