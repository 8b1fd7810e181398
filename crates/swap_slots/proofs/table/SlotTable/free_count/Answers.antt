use Rattle.std.proofs.Common.{◌≡◌, ℕ, Bool, false, count_by, get_or, sym, ap, ◌∙◌, arith}
use Rattle.std.specs.List.{range_with_len}
use Rattle.swap_slots.specs.Slots.{is_free, free_count}
use Rattle.swap_slots.proofs.SlotTables.{slots, count_by-free, count_by-taken}
use Rattle.swap_slots.proofs.table.SlotTable.free_count.Goals as goal
use Rattle.swap_slots.proofs.table.SlotTable.free_count.Goals.{then-is_free, else-is_free}

pub loop-slot-preserved : goal.loop-slot-preserved
loop-slot-preserved c =
    let bits = λ (s : ℕ). get_or c.self.inside.free s false in
    elim c.if-is_free.branch [
      | then-is_free w ↦
          let more = count_by-free bits c.loop-slot.slot (sym c.is_free.ensures ∙ w.if-is_free.true)
          in (omega arith, omega (arith, more, c.loop-slot.invariant.1, w.count-is))
      | else-is_free w ↦
          let same = count_by-taken bits c.loop-slot.slot (sym c.is_free.ensures ∙ w.if-is_free.false)
          in (omega arith, omega (arith, same, c.loop-slot.invariant.1, w.count-is))
    ]

pub returns : goal.returns
returns c =
    let inside = c.self.inside in
    let bits = λ (s : ℕ). get_or inside.free s false in
    let all = slots inside.count inside.pages.items in
    let tests : bits ≡ is_free all = λ i s. c.self.invariant.0.free s i in
    let whole : c.loop-slot.slot ≡ inside.count = omega arith in
    c.loop-slot.invariant.1
    ∙ (ap (λ (f : ℕ → Bool). count_by f (range_with_len 0 c.loop-slot.slot)) tests
    ∙ (ap (λ n. count_by (is_free all) (range_with_len 0 n)) whole ∙ ap free_count c.self.view_is))
