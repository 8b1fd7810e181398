use Rattle.std.proofs.Common.{◌≡◌, not, filter, refl, ap, ◌∙◌}
use Rattle.pager_model.specs.Regions.{in_range}
use Rattle.store_core.specs.MemoryState.{copies_of}
use Rattle.store_core.proofs.CopyLemmas.{drops_copies, copies_of_filter}
use Rattle.store_core.proofs.memory.MemoryStoreStore.drop_pages.Goals as goal

pub returns : goal.returns
returns c =
    let left = c.drop_copies.ensures in
    let copies : copies_of c.drop_copies.new.copies.entries ≡ filter (λ copy. not (in_range c.args.first c.args.length copy.page))
    (copies_of c.self.inside.copies.entries) =
    ap copies_of left ∙ copies_of_filter (λ p. not (in_range c.args.first c.args.length p)) c.self.inside.copies.entries
    in record {
      dropped = drops_copies _ _ _ _ c.drop_copies.new.copies.entries (ap (λ s. s.copies) c.self.view_is) _ _ left
          (ap (λ s. s.faults) c.self.view_is);
      unread = ap (λ s. s.reads) c.self.view_is;
      unwritten = ap (λ s. s.writes) c.self.view_is;
      state = rw (← c.self.view_is, copies) refl;
    }
