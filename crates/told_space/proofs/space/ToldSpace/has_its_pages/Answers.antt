use Rattle.std.proofs.Common.{◌≡◌, ℕ, true, is_some, Option, Some, None, refl, sym, subst, ◌∙◌}
use Rattle.std.proofs.lemmas.Bool.{false≢true}
use Rattle.pager_model.specs.declared.call.Call.{Call}
use Rattle.pager_model.specs.SpaceStates.{HasItsPages, IsResident}
use Rattle.tiles.specs.Resident.{frame_of_page}
use Rattle.told_space.specs.Told.{kept_of, state_in}
use Rattle.told_space.proofs.space.ToldSpace.has_its_pages.Goals as goal

some_there : (o : Option ℕ) → is_some o ≡ true → (frame : ℕ) × (o ≡ Some frame)
some_there None is = absurd (false≢true is)
some_there (Some frame) is = (frame, refl)

pub returns-in-Load-clause-has : goal.returns-in-Load-clause-has
returns-in-Load-clause-has c = λ is.
    subst (λ (call : Call). HasItsPages (state_in (kept_of c.args.self.now)) c.args.processor call) (sym c.in-Load.is)
    (subst (IsResident (frame_of_page c.args.self.now.space.pages)) c.page_of.ensures.page
    (some_there (frame_of_page c.args.self.now.space.pages c.page_of.result) (sym c.is_resident.ensures ∙ is)))

pub returns-in-Store-clause-has : goal.returns-in-Store-clause-has
returns-in-Store-clause-has c = λ is.
    subst (λ (call : Call). HasItsPages (state_in (kept_of c.args.self.now)) c.args.processor call) (sym c.in-Store.is)
    (subst (IsResident (frame_of_page c.args.self.now.space.pages)) c.page_of-in-Store.ensures.page
    (some_there (frame_of_page c.args.self.now.space.pages c.page_of-in-Store.result) (sym c.is_resident-in-Store.ensures ∙ is)))
