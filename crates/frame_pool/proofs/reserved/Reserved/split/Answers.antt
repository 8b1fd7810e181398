use Rattle.std.proofs.Common.{◌≡◌, ◌∙◌, ◌-◌, Some, false, sym, ap, arith}
use Rattle.std.proofs.lemmas.List.{length-replicate}
use Rattle.pager_model.specs.Layouts.{parted, record_at}
use Rattle.pager_model.specs.Records.{is_used, parted_records, split_records}
use Rattle.reservation_lists.specs.Kept.{KeptLists}
use Rattle.reservations.specs.Parts.{told_parts}
use Rattle.frame_pool.specs.Mapped.{WasSplitFrom}
use Rattle.frame_pool.specs.ReservedState.{reserved_in}
use Rattle.frame_pool.proofs.LayoutInOrder.{WasSplit-from}
use Rattle.frame_pool.proofs.LayoutMapped.{WasSplitFrom-left}
use Rattle.frame_pool.proofs.ReservedLayouts.{IsLaid-none_free}
use Rattle.pager_laws.proofs.LayoutSplit.{Settles-parted}
use Rattle.pager_laws.proofs.EightParts.{parted_records-eight}
use Rattle.frame_pool.proofs.reserved.Reserved.split.Goals as goal
use Rattle.frame_pool.proofs.reserved.Reserved.split.Goals.{After-split-parts, After-enlist_parts}

-- the reservation stood
stood : (c : After-split-parts) → record_at (reserved_in c.self.inside) c.args.whole.now.frame ≡ Some c.args.whole.now
stood c = rw (← c.self.view_is) at c.requires.stands

-- and was split into its eight parts
split : (c : After-split-parts)
    → c.split-parts.new.self.records ≡ split_records
    (is_used c.self.inside.reservations.used) c.args.whole.now c.self.inside.reservations.records
split c = rw (stood c) at c.split-parts.ensures.records

eight : (c : After-split-parts)
    → c.split-parts.new.self.records ≡ parted_records (c.args.whole.now.size - 1)
    (is_used c.self.inside.reservations.used) c.args.whole.now c.self.inside.reservations.records
eight c = split c ∙ sym (parted_records-eight
    (is_used c.self.inside.reservations.used) c.args.whole.now c.self.inside.reservations.records c.requires.splits)

pub enlist_parts-requires-clause-split : goal.enlist_parts-requires-clause-split
enlist_parts-requires-clause-split c =
    let w = (goal.at.enlist_parts-requires-clause-split c).After-split-parts in
    let was = c.self.invariant in
    rw c.remove.ensures
    (WasSplit-from (reserved_in c.self.inside) c.args.whole.now.frame c.args.whole.now was.laid (stood w) c.self.inside.lists c.split-parts.new.self
    (sym was.known ∙ sym was.laid.records_long) was.listed (split w) c.split-parts.ensures.used)

-- and told of them
told : (c : After-split-parts) → c.split-parts.result ≡ told_parts (is_used c.self.inside.reservations.used) c.args.whole.now
told c = rw (stood c) at c.split-parts.ensures.parts

was_split : (c : After-split-parts)
    → WasSplitFrom c.self.inside.map c.split-parts.new.self.records c.split-parts.result c.args.whole.now
was_split c = WasSplitFrom-left (reserved_in c.self.inside) c.args.whole.now.frame c.args.whole.now c.self.invariant.laid
    (stood c) c.self.inside.map c.split-parts.new.self.records c.split-parts.result c.self.invariant.mapped (split c) (told c)

pub split-requires-clause-split : goal.split-requires-clause-split
split-requires-clause-split c = (c.split-parts.new.self.records, was_split (goal.at.split-requires-clause-split c).After-split-parts)

-- the lists are of as many frames then
room : (c : After-enlist_parts) → c.enlist_parts.new.lists.frames ≡ c.self.inside.lists.frames
room c = c.enlist_parts.ensures.room ∙ ap (λ (k : KeptLists). k.frames) c.remove.ensures

pub invariant_of-self : goal.invariant_of-self
invariant_of-self c =
    let w = (goal.at.invariant_of-self c).After-split-parts in
    let l = reserved_in c.self.inside in
    let was = c.self.invariant in
    let r = c.args.whole.now in
    let same = room (goal.at.invariant_of-self c).After-enlist_parts in
    let settles = Settles-parted (r.size - 1) l r.frame r was.laid (stood w) (omega arith) in
    rw (eight w, c.split-parts.ensures.used) (record {
      known = length-replicate c.enlist_parts.new.lists.frames false;
      few = omega (arith, same, was.few);
      laid = IsLaid-none_free (parted (r.size - 1) r l) c.enlist_parts.new.lists.frames settles.laid (settles.long ∙ was.known ∙ sym same);
      listed = rw (eight w, c.split-parts.ensures.used) at c.enlist_parts.ensures.listed;
      mapped = rw (eight w) at (c.split.ensures _ (was_split w));
    })
