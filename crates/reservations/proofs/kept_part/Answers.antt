use Rattle.std.proofs.Common.{◌≡◌, ◌-◌, ◌^◌, arith, ap, ◌∙◌}
use Rattle.pager_model.proofs.ExtentLemmas.{eight_pos, part_of_eight, aligned_end}
use Rattle.reservations.specs.declared.part.Part.{Part}
use Rattle.reservations.proofs.kept_part.Goals as goal

pub overflow_add-result : goal.overflow_add-result
overflow_add-result c =
    let r = c.args.whole.now in
    let pages : c.pages.result ≡ 8 ^ (r.size - 1) = c.pages.ensures ∙ ap (λ (p : Part). 8 ^ p.extent.size) c.part-part.ensures in
    let last = aligned_end r.size r.first c.requires.placed.pages_aligned.0 c.requires.placed.pages_aligned.1 (omega arith) in
    rw pages (omega (arith, part_of_eight c.args.i r.size c.requires.splits c.requires.one, last, eight_pos (r.size - 1)))
