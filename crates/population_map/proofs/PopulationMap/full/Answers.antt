use Rattle.std.proofs.Common.{◌≡◌, ◌-◌, ◌/◌, ◌%◌, ◌^◌, ◌↔◌, ap, subst, sym, ◌∙◌}
use Rattle.std.specs.Int.{bit_at}
use Rattle.population_map.specs.Kept.{AreMarks}
use Rattle.population_map.specs.Populations.{page_at, mark_of, AllPopulated}
use Rattle.population_map.proofs.Marks.{mark_alike}
use Rattle.population_map.proofs.Placings.{full_says}
use Rattle.population_map.proofs.PopulationMap.full.Goals as goal

pub returns : goal.returns
returns c page same =
    let m = c.args.self.now in
    let size = c.args.extent.size in
    let at = page_at c.args.space c.args.extent.first in
    let small = c.requires.aligned.0 in
    let mark : c.mark_of.result ≡ mark_of m size page =
    c.mark_of.ensures ∙ (ap (λ t. mark_of t size c.page_at.result) c.self.view_is
    ∙ (ap (mark_of m size) c.page_at.ensures ∙ sym (mark_alike m size page at small same))) in
    subst (λ v. (bit_at v.full (page / 8 ^ (size - 1) % 8) ≡ 1) ↔ AllPopulated m (size - 1) page) (sym mark)
    (full_says m size page (subst AreMarks c.self.view_is c.self.invariant.marks) c.requires.size small)
