use Rattle.std.proofs.Common.{◌∷◌, [], ◌∙◌, ap}
use Rattle.tiles.specs.TableEntries.{entry_count}
use Rattle.pager_model.specs.Tiles.{tiles_of_size}
use Rattle.tiles.specs.Resident.{mapping_at}
use Rattle.tiles.specs.contracts.base.Base.{the_view}
use Rattle.tiles.proofs.KeptPages.{counts_are}
use Rattle.tiles.proofs.base.Base.uncut_counts.Goals as goal

pub returns : goal.returns
returns c =
    let r = the_view c.self.inside in
    let same = counts_are r c.self.invariant.tiles in
    rw (← c.self.view_is) (
    c.counts.ensures
    ∙ ap (λ n. n ∷ entry_count r 1 ∷ entry_count r 2 ∷ entry_count r 3 ∷ []) (same 0)
    ∙ ap (λ n. tiles_of_size (mapping_at r) 0 ∷ n ∷ entry_count r 2 ∷ entry_count r 3 ∷ []) (same 1)
    ∙ ap (λ n. tiles_of_size (mapping_at r) 0 ∷ tiles_of_size (mapping_at r) 1 ∷ n ∷ entry_count r 3 ∷ []) (same 2)
    ∙ ap (λ n. tiles_of_size (mapping_at r) 0 ∷ tiles_of_size (mapping_at r) 1 ∷ tiles_of_size (mapping_at r) 2 ∷ n ∷ []) (same 3)
    )
