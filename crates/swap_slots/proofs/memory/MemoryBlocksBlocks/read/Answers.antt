use Rattle.std.proofs.Common.{refl, ap, ◌∙◌}
use Rattle.store_core.specs.MemoryState.{one_more}
use Rattle.swap_slots.proofs.FailingCalls.{fails_there, fails_nowhere}
use Rattle.swap_slots.proofs.memory.MemoryBlocksBlocks.read.Goals as goal

pub returns-then-contains-clause-fails : goal.returns-then-contains-clause-fails
returns-then-contains-clause-fails c =
    let has = fails_there c.deref.result.now c.args.self.now.failing_reads c.saturating_add-self-inside.result (one_more c.args.self.now.reads)
    (c.deref.ensures.value ∙ ap (λ b. b.failing_reads) c.self.view_is)
    (c.saturating_add-self-inside.ensures ∙ ap (λ b. one_more b.reads) c.self.view_is) c.if-contains.ensures.cases in
    (λ _. has, λ _. refl)

pub returns-clause-fails : goal.returns-clause-fails
returns-clause-fails c =
    let none = fails_nowhere c.deref.result.now c.args.self.now.failing_reads c.saturating_add-self-inside.result (one_more c.args.self.now.reads)
    (c.deref.ensures.value ∙ ap (λ b. b.failing_reads) c.self.view_is)
    (c.saturating_add-self-inside.ensures ∙ ap (λ b. one_more b.reads) c.self.view_is) c.if-contains.ensures.cases in
    (λ e. absurd (cc), λ has. absurd (none has))
