use Rattle.std.proofs.Common.{◌≡◌, ◌/◌, ◌%◌, ◌∙◌, [], None, Some, slice_index_or, sym, ap, refl, arith}
use Rattle.std.proofs.lemmas.List.{get_or_read}
use Rattle.page_rights.specs.Rights.{all_of, leaf_of}
use Rattle.page_rights.specs.contracts.PageRights.{the_view}
use Rattle.page_rights.specs.declared.block.Block.TheVariants.{Unset}
use Rattle.page_rights.proofs.BlockChanges.{leaf_there, rights_of-leaf, rights_of-all}
use Rattle.page_rights.proofs.PageRights.get.Goals as goal

pub returns-in-Some : goal.returns-in-Some
returns-in-Some c =
    let t = the_view c.self.inside in
    let block = c.args.page / 512 in
    let is : leaf_of t block ≡ Some c.in-Some.leaf = ap (λ u. leaf_of u block) c.self.view_is ∙ sym c.leaf.ensures ∙ c.in-Some.is in
    let leaf = get_or_read c.self.inside.leaves.items _ _ (leaf_there t c.self.invariant.0 block c.in-Some.leaf is) c.index.ensures [] in
    rw (← c.self.view_is) (ap (λ ls. slice_index_or ls (c.args.page % 512) None) leaf ∙ sym (rights_of-leaf t c.args.page block c.in-Some.leaf refl is))

pub returns-in-None : goal.returns-in-None
returns-in-None c =
    let t = the_view c.self.inside in
    let block = c.args.page / 512 in
    let is : leaf_of t block ≡ None = ap (λ u. leaf_of u block) c.self.view_is ∙ sym c.leaf.ensures ∙ c.in-None.is in
    let kept = get_or_read c.self.inside.blocks.items _ _ (omega (arith, c.self.invariant.0.blocks, c.requires)) c.index-in-None.ensures Unset in
    rw (← c.self.view_is) (c.rights.ensures ∙ ap all_of kept ∙ sym (rights_of-all t c.args.page block refl is))
