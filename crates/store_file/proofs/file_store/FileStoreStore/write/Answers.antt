use Rattle.std.proofs.Common.{◌≡◌, sym, ap, subst, ◌∙◌, arith}
use Rattle.std.proofs.lemmas.Grind.{common_steps}
use Rattle.pager_model.specs.SpaceStates.{Rises}
use Rattle.store_core.specs.MemoryState.{one_more}
use Rattle.store_file.proofs.UntoldCopies.{sets_copy, rises}
use Rattle.store_file.proofs.file_store.FileStoreStore.write.Goals as goal

pub returns-then-page-ge-PAGES-clause-failed : goal.returns-then-page-ge-PAGES-clause-failed
returns-then-page-ge-PAGES-clause-failed g c = λ _.
    let same : c.then-page-ge-PAGES.self-inside.faults ≡ c.self.inside.faults = grind (arith, common_steps) in
    let more = c.saturating_add-self-inside-then-page-ge-PAGES.ensures ∙ ap one_more same ∙ ap (λ s. one_more s.faults) c.self.view_is in
    (sets_copy _ _ _ _, subst (Rises c.args.self.now.faults) (sym more) (rises c.args.self.now.faults))
