use Rattle.std.proofs.Common.{◌≡◌, ℕ, ◌<◌, ◌≤◌, Bool, List, Option, Some, None, get_or, set, slice_get, arith, ap, sym, subst, ◌∙◌}
use Rattle.std.proofs.lemmas.List.{length-set}
use Rattle.std.proofs.lemmas.Option.{same_Some, slice_get-get_or}
use Rattle.pager_model.specs.declared.reservation.Reservation.{Reservation}
use Rattle.pager_model.specs.Layouts.{frame_for}
use Rattle.pager_model.specs.Records.{part_of}
use Rattle.reservations.specs.declared.part.Part.{Part}
use Rattle.reservations.specs.Parts.{told_part}
use Rattle.frame_pool.specs.Mapped.{IsMapped, WasSplitFrom}
use Rattle.frame_pool.proofs.MappedParts.{looked, whole_stands, part_inside_it, part_pages, part_stands, looked-gone, looked-kept, looked-all, IsMapped-parts}
use Rattle.frame_pool.proofs.MappedRecords.{leaving_placed, IsMapped-left}
use Rattle.frame_pool.proofs.PartRecords.{told_at, first_told, part_known}
use Rattle.frame_pool.proofs.mapped.split.Goals as goal
use Rattle.frame_pool.proofs.mapped.split.Goals.{After-first_frames, After-part-item, After-page_at, then-part, else-part}

pub split-requires-clause-placed : goal.split-requires-clause-placed
split-requires-clause-placed c =
    let r = c.args.whole.now in
    let was = c.requires.split.1 in
    rw c.pages_of.ensures (leaving_placed c.args.map.now (set was.records r.frame (Some r)) r.frame r was.mapped
    (whole_stands r was.records c.requires.splits was.enters) was.enters.placed.pages_aligned)

-- the ids are the parts' first frames
frames : (c : After-first_frames) (after : List (Option Reservation)) → WasSplitFrom c.args.map.now after c.args.parts.now c.args.whole.now
    → (i : ℕ) → i < 8 → slice_get c.first_frames.result i ≡ Some (part_of c.args.whole.now i).frame
frames c after was i low =
    c.first_frames.ensures i low ∙ first_told was.used c.args.whole.now c.args.parts.now i was.parts (omega (arith, c.type_inv.parts))

pub split-requires-clause-ids : goal.split-requires-clause-ids
split-requires-clause-ids c = λ k d within.
    let r = c.args.whole.now in
    let was = c.requires.split.1 in
    let low : k < 8 = omega arith in
    let is = same_Some _ _ (sym (slice_get-get_or c.first_frames.result k d within)
    ∙ frames (goal.at.split-requires-clause-ids c).After-first_frames c.requires.split.0 was k low) in
    omega (
      arith,
      is,
      was.mapped.room,
      length-set was.records r.frame (Some r),
      part_known was.used r was.records c.requires.splits was.enters.placed k low,
    )

pub loop-part-init : goal.loop-part-init
loop-part-init c = λ after was.
    let r = c.args.whole.now in
    let placed = rw c.pages_of.ensures at c.split.ensures.placed in
    IsMapped-parts r was.records c.requires.splits was.enters c.args.map.now c.split.new.self c.first_frames.result was.mapped
    (frames (goal.at.loop-part-init c).After-first_frames after was) placed c.split.ensures.room c.split.ensures.count

-- the part in hand is what was told of it
told : (c : After-part-item) (after : List (Option Reservation)) → (was : WasSplitFrom c.args.map.now after c.args.parts.now c.args.whole.now)
    → (c.loop-part.part-index < 8)
    × (get_or c.args.parts.now c.loop-part.part-index c.part-item.result ≡ told_part was.used c.args.whole.now c.loop-part.part-index)
told c after was =
    told_at was.used c.args.whole.now c.args.parts.now c.loop-part.part-index c.part-item.result was.parts
    (omega (arith, c.loop-part-test.true, c.type_inv.parts))

pub page_at-requires-clause-has : goal.page_at-requires-clause-has
page_at-requires-clause-has c =
    let was = c.requires.split.1 in
    let part = told (goal.at.page_at-requires-clause-has c).After-part-item c.requires.split.0 was in
    rw part.1 (part_inside_it c.args.whole.now was.records c.requires.splits was.enters c.loop-part.part-index part.0)

-- the page that is joined to its first frame is its first page
page_is : (r : Reservation) (i page : ℕ) (part : Part) (used : ℕ → Bool) → part ≡ told_part used r i → r.first ≤ page
    → frame_for page r ≡ part.extent.first → page ≡ (part_of r i).first
page_is r i page part used is low joined = omega (arith, low, joined ∙ ap (λ (p : Part). p.extent.first) is)

page : (c : After-page_at) (after : List (Option Reservation)) → (was : WasSplitFrom c.args.map.now after c.args.parts.now c.args.whole.now)
    → c.page_at.result ≡ (part_of c.args.whole.now c.loop-part.part-index).first
page c after was =
    let part = told (goal.at.After-page_at c).After-part-item after was in
    page_is c.args.whole.now c.loop-part.part-index c.page_at.result _ was.used part.1 c.page_at.ensures.has.0
    c.page_at.ensures.joined

-- the part stands where the map has what is left
stands : (c : After-part-item) (after : List (Option Reservation)) → (was : WasSplitFrom c.args.map.now after c.args.parts.now c.args.whole.now)
    → get_or (looked c.loop-part.part-index was.used c.args.whole.now was.records) (part_of c.args.whole.now c.loop-part.part-index).frame None
    ≡ Some (part_of c.args.whole.now c.loop-part.part-index)
stands c after was =
    part_stands c.args.whole.now was.records c.requires.splits was.enters was.used c.loop-part.part-index (told c after was).0

pub remove-requires-clause-space : goal.remove-requires-clause-space
remove-requires-clause-space c =
    let was = c.requires.split.1 in
    omega (arith, was.enters.known, (c.loop-part.invariant c.requires.split.0 was).spaces)

pub remove-requires-clause-aligned : goal.remove-requires-clause-aligned
remove-requires-clause-aligned c =
    let was = c.requires.split.1 in
    let part = told (goal.at.remove-requires-clause-aligned c).After-part-item c.requires.split.0 was in
    rw (part.1, page (goal.at.remove-requires-clause-aligned c).After-page_at c.requires.split.0 was)
    (part_pages c.args.whole.now was.records c.requires.splits was.enters c.loop-part.part-index part.0)

pub remove-requires-clause-within : goal.remove-requires-clause-within
remove-requires-clause-within c =
    let was = c.requires.split.1 in
    let r = c.args.whole.now in
    let i = c.loop-part.part-index in
    let there = stands (goal.at.remove-requires-clause-within c).After-part-item c.requires.split.0 was in
    rw (page (goal.at.remove-requires-clause-within c).After-page_at c.requires.split.0 was)
    ((c.loop-part.invariant c.requires.split.0 was).pages (part_of r i).frame (part_of r i) there).1

pub remove-requires-clause-placed : goal.remove-requires-clause-placed
remove-requires-clause-placed c =
    let was = c.requires.split.1 in
    let r = c.args.whole.now in
    let i = c.loop-part.part-index in
    let w = (goal.at.remove-requires-clause-placed c).After-part-item in
    let part = told w c.requires.split.0 was in
    rw (part.1, page (goal.at.remove-requires-clause-placed c).After-page_at c.requires.split.0 was)
    (leaving_placed c.loop-part.map (looked i was.used r was.records) (part_of r i).frame (part_of r i)
    (c.loop-part.invariant c.requires.split.0 was) (stands w c.requires.split.0 was)
    (part_pages r was.records c.requires.splits was.enters i part.0))

pub loop-part-preserved : goal.loop-part-preserved
loop-part-preserved c = λ after was.
    let r = c.args.whole.now in
    let i = c.loop-part.part-index in
    let before = (goal.at.loop-part-preserved c).After-part-item in
    let part = told before after was in
    let has = c.loop-part.invariant after was in
    elim c.if-part.branch [
      | then-part w ↦
          let at = page_is r i w.page_at.result _ was.used part.1 w.page_at.ensures.has.0 w.page_at.ensures.joined in
          let empty = sym (ap (λ (p : Part). p.empty) part.1) ∙ w.if-part.true in
          let placed = rw (part.1, at) at w.remove.ensures.placed in
          let count = rw part.1 at w.remove.ensures.count in
          rw w.map-is (subst (IsMapped w.remove.new.self) (looked-gone r was.records c.requires.splits was.enters was.used i empty)
          (IsMapped-left c.loop-part.map (looked i was.used r was.records) (part_of r i).frame (part_of r i) has (stands before after was)
          (part_pages r was.records c.requires.splits was.enters i part.0) w.remove.new.self placed w.remove.ensures.room count))
      | else-part w ↦
          let filled = sym (ap (λ (p : Part). p.empty) part.1) ∙ w.if-part.false in
          rw w.map-is (subst (IsMapped c.loop-part.map) (looked-kept r was.records c.requires.splits was.enters was.used i part.0 filled) has)
    ]

pub returns : goal.returns
returns c = λ after was.
    let r = c.args.whole.now in
    let done : c.loop-part.part-index ≡ 8 = omega (arith, c.loop-part-test.false, c.type_inv.parts) in
    let all = subst (λ n. IsMapped c.loop-part.map (looked n was.used r was.records)) done (c.loop-part.invariant after was) in
    subst (IsMapped c.loop-part.map) (looked-all r was.records c.requires.splits was.enters was.used ∙ sym was.split) all
