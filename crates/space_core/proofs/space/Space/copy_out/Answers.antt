use Rattle.std.proofs.Common.{◌≡◌, ◌∙◌, subst, true, false, refl, sym, Bool}
use Rattle.std.proofs.lemmas.Bool.{true≢false}
use Rattle.space_core.specs.Saving.{Saves}
use Rattle.space_core.specs.Standing.{dirty_at}
use Rattle.space_core.specs.Translating.{CleansPage}
use Rattle.space_core.proofs.SameView.{as_fields}
use Rattle.space_core.proofs.CopyCalls.{saves_clean}
use Rattle.space_core.proofs.SavedCopies.{unwritten_clean, written_dirty}
use Rattle.space_core.proofs.ServedPages.{cleaned_kept}
use Rattle.space_core.proofs.Translations.{retouched_by}
use Rattle.space_core.proofs.space.Space.copy_out.Goals as goal

pub invariant_of-self : goal.invariant_of-self
invariant_of-self g c =
    cleaned_kept (as_fields c.self-then-written.view_is) c.set_clean-moves.new.self _ c.args.page c.self-then-written.invariant c.set_clean-moves.ensures.cleans

pub returns-in_default-clause-copied : goal.returns-in_default-clause-copied
returns-in_default-clause-copied g c =
    let now = c.args.self.now in
    let saves : Saves now now c.args.page false = saves_clean now c.args.page (rw (← c.self.view_is) c.in_default.ensures.none.1) in
    (now, saves, unwritten_clean now now c.args.page saves)

pub returns-then-written-clause-copied : goal.returns-then-written-clause-copied
returns-then-written-clause-copied g c =
    let saves = c.in_ok-written.ensures.saved in
    let dirty : dirty_at c.save.new.self c.args.page ≡ true =
    written_dirty c.args.self.now c.save.new.self c.args.page
    (subst (λ (written : Bool). Saves c.args.self.now c.save.new.self c.args.page written) c.if-written.true saves) in
    let cleaned = c.set_clean-moves.ensures in
    let cleans : CleansPage c.save.new.self c.follow.new.self c.args.page =
    rw (c.follow.ensures, ← c.self-then-written.view_is)
    (record {
      same = rw cleaned.cleans.same.count refl;
      table = cleaned.cleans;
      retouched = λ _. retouched_by _ _ c.set_clean-moves.result cleaned.cleans.same.sizes cleaned.moves refl refl refl;
      as_it_was = λ clean. absurd (true≢false (sym (rw (← c.self-then-written.view_is) at dirty) ∙ clean));
    }) in
    (c.save.new.self, saves, cleans)

pub returns-else-written-clause-copied : goal.returns-else-written-clause-copied
returns-else-written-clause-copied g c =
    let saves = c.in_ok-written.ensures.saved in
    let left = subst (λ (written : Bool). Saves c.args.self.now c.save.new.self c.args.page written) c.if-written.false saves in
    (c.save.new.self, saves, unwritten_clean c.args.self.now c.save.new.self c.args.page left)
