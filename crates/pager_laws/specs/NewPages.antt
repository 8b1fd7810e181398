-- A page as a region begins with it.
use Rattle.std.specs.Prelude.{ℕ, ◌≡◌, false, Some, None}
use Rattle.pager_model.specs.declared.region.Rights.{Rights}
use Rattle.pager_model.specs.declared.reply.Answered.{Answered}
use Rattle.pager_model.specs.declared.reply.Reply.TheVariants.{Done}
use Rattle.pager_model.specs.SpaceStates.{SpaceState}

-- the page has the region's first rights, no frame, and zero words
pub record IsNew (st : SpaceState) (first_rights : Rights) (page : ℕ) : Type 0 where
  pub rights : st.flat.rights page ≡ first_rights
  pub frame : st.base page ≡ None
  pub words : (i : ℕ) → st.flat.words page i ≡ 0

-- the page has no frame, zero words, a zero copy and no dirty flag, and the rights that it had
pub record IsNewButForRights (before after : SpaceState) (page : ℕ) : Type 0 where
  pub rights : after.flat.rights page ≡ before.flat.rights page
  pub frame : after.base page ≡ None
  pub words : (i : ℕ) → after.flat.words page i ≡ 0
  pub copy : after.flat.copies page ≡ Some (λ i. 0)
  pub clean : after.flat.dirty page ≡ false

abbrev pub done : Answered
done = record { reply = Done; hit = false; size = None }
