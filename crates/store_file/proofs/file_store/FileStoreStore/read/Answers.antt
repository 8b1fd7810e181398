use Rattle.std.proofs.Common.{refl, sym, ap, subst, ◌∙◌}
use Rattle.std.proofs.lemmas.Bool.{false≢true}
use Rattle.pager_model.specs.SpaceStates.{Rises}
use Rattle.store_core.specs.MemoryState.{one_more}
use Rattle.store_file.specs.FileState.{MovesPage, is_in_file}
use Rattle.store_file.proofs.UntoldCopies.{same_copies, rises}
use Rattle.store_file.proofs.file_store.FileStoreStore.read.Goals as goal

pub returns-then-not-is_in_file-clause-gave : goal.returns-then-not-is_in_file-clause-gave
returns-then-not-is_in_file-clause-gave g c = λ is.
    absurd (false≢true (c.if-not-is_in_file.ensures ∙ ap (λ s. is_in_file s c.args.page) c.self.view_is ∙ is))

pub returns-then-not-read_page-clause-same : goal.returns-then-not-read_page-clause-same
returns-then-not-read_page-clause-same g c = same_copies _ _

pub returns-then-not-read_page-clause-rose : goal.returns-then-not-read_page-clause-rose
returns-then-not-read_page-clause-rose g c =
    let more = c.saturating_add-self-inside-then-not-read_page.ensures ∙ ap (λ s. one_more s.faults) c.self.view_is in
    subst (Rises c.args.self.now.faults) (sym more) (rises c.args.self.now.faults)

pub returns-then-not-read_page-clause-fails : goal.returns-then-not-read_page-clause-fails
returns-then-not-read_page-clause-fails g c =
    sym (c.if-not-is_in_file.ensures ∙ ap (λ s. is_in_file s c.args.page) c.self.view_is)

pub returns-clause-read : goal.returns-clause-read
returns-clause-read g c = λ told. absurd (false≢true told)

pub returns-clause-zero : goal.returns-clause-zero
returns-clause-zero g c = λ out.
    absurd (false≢true (sym out ∙ sym (c.if-not-is_in_file.ensures ∙ ap (λ s. is_in_file s c.args.page) c.self.view_is)))

pub returns-clause-gave : goal.returns-clause-gave
returns-clause-gave g c = λ is.
    subst (λ s. MovesPage c.args.page s.file.gave c.read_page.new.file.gave) c.self.view_is (c.if-not-read_page.ensures.all refl)
