use Rattle.std.proofs.Common.{rules, ap, ◌∙◌, is_some}
use Rattle.store_core.specs.MemoryState.{copies_of}
use Rattle.store_core.proofs.CopyLemmas.{sets_copy, keeps_at-look, same_copies}
use Rattle.store_core.proofs.memory.MemoryStoreStore.write.Goals as goal

pub returns-clause-wrote : goal.returns-clause-wrote
returns-clause-wrote c = sets_copy _ _ _ _ _ (ap (λ s. s.copies) c.self.view_is) _ _
    c.in_ok-set_copy-2.ensures.set.0

pub returns-then-contains-clause-failed_keeps : goal.returns-then-contains-clause-failed_keeps
returns-then-contains-clause-failed_keeps c =
    λ _. (sets_copy _ c.args.self.now.faults _ _ _ (ap (λ s. s.copies) c.self.view_is) _ _
    c.in_ok-set_copy.ensures.set.0).1

pub returns-then-contains-clause-failed : goal.returns-then-contains-clause-failed
returns-then-contains-clause-failed c =
    λ _. (
      (sets_copy _ _ _ _ _ (ap (λ s. s.copies) c.self.view_is) _ _ c.in_ok-set_copy.ensures.set.0).0,
      search rules,
    )

pub returns-in_err-set_copy-clause-no_memory : goal.returns-in_err-set_copy-clause-no_memory
returns-in_err-set_copy-clause-no_memory c =
    λ _. (
      keeps_at-look _ _ _ (ap (λ s. s.copies) c.self.view_is) _ ∙ ap is_some c.in_err-set_copy.ensures.none,
      same_copies _ _ _ _ (ap copies_of c.in_err-set_copy.ensures.err ∙ ap (λ s. s.copies) c.self.view_is),
      ap (λ s. s.faults) c.self.view_is,
    )

pub returns-in_err-set_copy-2-clause-no_memory : goal.returns-in_err-set_copy-2-clause-no_memory
returns-in_err-set_copy-2-clause-no_memory c =
    λ _. (
      keeps_at-look _ _ _ (ap (λ s. s.copies) c.self.view_is) _ ∙ ap is_some c.in_err-set_copy-2.ensures.none,
      same_copies _ _ _ _ (ap copies_of c.in_err-set_copy-2.ensures.err ∙ ap (λ s. s.copies) c.self.view_is),
      ap (λ s. s.faults) c.self.view_is,
    )
