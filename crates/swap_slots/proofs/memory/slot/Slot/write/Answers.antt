use Rattle.std.proofs.Common.{Some, length, ap, ◌∙◌}
use Rattle.std.proofs.lemmas.List.{take_at}
use Rattle.swap_slots.proofs.memory.slot.Slot.write.Goals as goal

pub returns : goal.returns
returns c =
    let after = c.copy_from_slice.ensures.after in
    ap (λ ws. Some ws) (take_at c.copy_from_slice.new.self _ 1024 (ap length after ∙ c.requires) ∙ after)
