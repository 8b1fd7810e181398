use Rattle.std.proofs.Common.{◌≡◌, ℕ, ◌*◌, ◌-◌, ◌/◌, ◌&&◌, nat_le, nat_lt, if◌then◌else◌, ◌∙◌, [], None, Some, slice_index_or, refl, ap}
use Rattle.std.proofs.lemmas.List.{get_or_read}
use Rattle.page_rights.specs.Rights.{leaf_of, rights_of}
use Rattle.page_rights.specs.contracts.PageRights.{the_view}
use Rattle.page_rights.proofs.BlockChanges.{leaf_there, part_rights}
use Rattle.page_rights.proofs.PageRights.set_part.Goals as goal

pub returns : goal.returns
returns c p =
    let t = the_view c.self.inside in
    let tree = c.self.invariant.0 in
    let block = c.args.first / 512 in
    let mixed : leaf_of t block ≡ Some c.mix-leaf.result = ap (λ u. leaf_of u block) c.self.view_is ∙ c.mix-leaf.ensures.mixed in
    let leaf = get_or_read c.self.inside.leaves.items _ _ (leaf_there t tree block c.mix-leaf.result mixed) c.index_mut.ensures.value [] in
    let inside = λ (i : ℕ). nat_le (c.args.first - block * 512) i && nat_lt i (c.args.end - block * 512) in
    let before : rights_of t p ≡ rights_of c.args.self.now p = ap (λ u. rights_of u p) c.self.view_is ∙ c.mix-leaf.ensures.same p in
    part_rights t tree block c.mix-leaf.result mixed _ c.args.first c.args.end c.args.rights refl c.requires.order c.requires.block
    (λ i. c.set_places.ensures i ∙ ap (λ ls. if inside i then c.args.rights else slice_index_or ls i None) leaf) p
    ∙ ap (λ o. if nat_le c.args.first p && nat_lt p c.args.end then c.args.rights else o) before
