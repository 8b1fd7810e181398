use Rattle.std.proofs.Common.{◌≡◌, ◌<◌, ℕ, Some, set, sym, ◌∙◌, arith}
use Rattle.pager_model.specs.Ages.{list_at, with_list, with_member}
use Rattle.reservation_lists.specs.Kept.{AreTold, lists_in}
use Rattle.reservation_lists.proofs.Members.{IsUnlisted, room_for_one, IsUnlisted-from_false, HasRoom-with_member}
use Rattle.reservation_lists.proofs.ToldMembers.{AreTold-with}
use Rattle.reservation_lists.proofs.Lists.insert.Goals as goal
use Rattle.reservation_lists.proofs.Lists.insert.Goals.{After-index_mut}

pub index_mut-requires : goal.index_mut-requires
index_mut-requires c =
    let known = rw (← c.self.view_is) at c.requires.known in
    omega (arith, c.self.invariant.3.long)

known : (c : After-index_mut) → c.args.frame < c.self.inside.frames
known c = rw (← c.self.view_is) at c.requires.known

none : (c : After-index_mut) → IsUnlisted c.args.frame (lists_in c.self.inside)
none c = IsUnlisted-from_false _ _ (rw (← c.self.view_is) at c.requires.unlisted)

-- the member is told in the list of the size
told : (c : After-index_mut) (size : ℕ) → c.args.size ≡ size
    → AreTold c.self.inside.frames (set c.self.inside.listed.items c.args.frame
    (Some (record { size = c.args.size; stamp = c.args.stamp })))
    (with_list (lists_in c.self.inside) size (with_member (record { stamp = c.args.stamp; frame = c.args.frame })
    (list_at (lists_in c.self.inside) size)))
told c size same = rw same (AreTold-with _ _ _ size _ c.self.invariant.3 (omega arith) (known c) (none c))

pub insert_in-requires-clause-room : goal.insert_in-requires-clause-room
insert_in-requires-clause-room c =
    let w = (goal.at.insert_in-requires-clause-room c).After-index_mut in
    let has = c.self.invariant.0 in
    omega (arith, room_for_one _ _ _ _ has (known w) (none w).base, has.room, c.self.inside.base.ok.0)

pub invariant_of-self : goal.invariant_of-self
invariant_of-self c =
    let w = (goal.at.invariant_of-self c).After-index_mut in
    let has = c.self.invariant in
    let items = c.insert_in.ensures.items in (
      rw items (HasRoom-with_member _ _ _ _ _ has.0 c.insert_in.ensures.capacity (known w) (none w).base),
      has.1,
      has.2,
      rw (items, c.of.ensures) (told w 0 (sym c.level.ensures.level ∙ c.in-0.is)),
    )

pub insert_in-requires-in-1-clause-room : goal.insert_in-requires-in-1-clause-room
insert_in-requires-in-1-clause-room c =
    let w = (goal.at.insert_in-requires-in-1-clause-room c).After-index_mut in
    let has = c.self.invariant.1 in
    omega (arith, room_for_one _ _ _ _ has (known w) (none w).small, has.room, c.self.inside.small.ok.0)

pub invariant_of-self-in-1 : goal.invariant_of-self-in-1
invariant_of-self-in-1 c =
    let w = (goal.at.invariant_of-self-in-1 c).After-index_mut in
    let has = c.self.invariant in
    let items = c.insert_in-in-1.ensures.items in (
      has.0,
      rw items (HasRoom-with_member _ _ _ _ _ has.1 c.insert_in-in-1.ensures.capacity (known w) (none w).small),
      has.2,
      rw (items, c.of.ensures) (told w 1 (sym c.level.ensures.level ∙ c.in-1.is)),
    )

pub insert_in-requires-in_default-clause-room : goal.insert_in-requires-in_default-clause-room
insert_in-requires-in_default-clause-room c =
    let w = (goal.at.insert_in-requires-in_default-clause-room c).After-index_mut in
    let has = c.self.invariant.2 in
    omega (arith, room_for_one _ _ _ _ has (known w) (none w).middle, has.room, c.self.inside.middle.ok.0)

pub invariant_of-self-in_default : goal.invariant_of-self-in_default
invariant_of-self-in_default c =
    let w = (goal.at.invariant_of-self-in_default c).After-index_mut in
    let has = c.self.invariant in
    let items = c.insert_in-in_default.ensures.items in (
      has.0,
      has.1,
      rw items (HasRoom-with_member _ _ _ _ _ has.2 c.insert_in-in_default.ensures.capacity (known w) (none w).middle),
      rw (items, c.of.ensures) (told w 2 (omega arith)),
    )
