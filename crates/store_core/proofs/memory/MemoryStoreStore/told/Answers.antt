use Rattle.std.proofs.Common.{sym, ap, ◌∙◌}
use Rattle.std.proofs.lemmas.List.{nil_from_length}
use Rattle.store_core.specs.MemoryState.{copies_of}
use Rattle.store_core.proofs.CopyLemmas.{tells_zero}
use Rattle.store_core.proofs.memory.MemoryStoreStore.told.Goals as goal

pub returns-clause-zero : goal.returns-clause-zero
returns-clause-zero c =
    λ yes. tells_zero _ _ (sym (ap (λ s. s.copies) c.self.view_is) ∙ ap copies_of (nil_from_length _ (c.is_empty.ensures.0 yes)))
