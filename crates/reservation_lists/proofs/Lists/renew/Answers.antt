use Rattle.std.proofs.Common.{◌≡◌, ◌<◌, ℕ, Bool, true, if◌then◌else◌, Some, None, set, length, sym, ◌∙◌, arith}
use Rattle.std.proofs.lemmas.List.{get_or_default}
use Rattle.pager_model.specs.Ages.{Member, list_at, with_list}
use Rattle.reservation_lists.specs.Kept.{AreTold, KeptLists, has_member_of, lists_in, moved_to}
use Rattle.reservation_lists.proofs.Renewed.{AreTold-renewed, HasRoom-renewed, moved_kept, renewed_in}
use Rattle.reservation_lists.proofs.Lists.renew.Goals as goal
use Rattle.reservation_lists.proofs.Lists.renew.Goals.{After-level}

known : (c : After-level) → c.args.frame < c.self.inside.frames
known c = rw (← c.self.view_is) at c.requires.known

abbrev new : After-level → Member
new c = record { stamp = c.args.stamp; frame = c.args.frame }

-- the lists, where the list of the size is as renewing it leaves it
abbrev left : After-level → Bool → ℕ → KeptLists
left c renewed size = record {
  lists = with_list (lists_in c.self.inside) size (renewed_in renewed (new c) (list_at (lists_in c.self.inside) size));
  frames = c.self.inside.frames;
}

moved : (c : After-level) (renewed : Bool) (size : ℕ) → c.args.size ≡ size
    → (renewed ≡ true → has_member_of c.args.frame (list_at (lists_in c.self.inside) size) ≡ true)
    → left c renewed size ≡ (if renewed then moved_to c.args.size (new c) c.args.self.now else c.args.self.now)
moved c renewed size same stood =
    rw (← c.self.view_is, same)
    (moved_kept c.self.inside.frames c.self.inside.listed.items (lists_in c.self.inside) (new c) c.self.invariant.3 renewed size
    (omega (arith, c.requires.has_list)) stood)

told : (c : After-level) (renewed : Bool) (size : ℕ) → c.args.size ≡ size
    → (renewed ≡ true → has_member_of c.args.frame (list_at (lists_in c.self.inside) size) ≡ true)
    → AreTold c.self.inside.frames (set c.self.inside.listed.items c.args.frame
    (if renewed then Some (record { size = c.args.size; stamp = c.args.stamp }) else c.index_mut-listing.result.now))
    (left c renewed size).lists
told c renewed size same stood =
    let within : c.args.frame < length c.self.inside.listed.items = omega (arith, c.self.invariant.3.long, known c) in
    let was = c.index_mut-listing.ensures.value ∙ get_or_default _ _ _ None within in
    rw same (AreTold-renewed c.self.inside.frames c.self.inside.listed.items (lists_in c.self.inside) (new c) c.self.invariant.3 renewed
    size _ (omega (arith, c.requires.has_list)) (known c) was stood)

pub invariant_of-self : goal.invariant_of-self
invariant_of-self c =
    let w = (goal.at.invariant_of-self c).After-level in
    let has = c.self.invariant in (
      rw c.renew_last.ensures.items (HasRoom-renewed c.renew_last.result _ _ _ (new w) _ has.0 c.renew_last.ensures.capacity (known w)),
      has.1,
      has.2,
      rw (c.renew_last.ensures.items, c.renew_last.ensures.listing) (told w c.renew_last.result 0 (sym c.level.ensures.level ∙ c.in-0.is) c.renew_last.ensures.stood),
    )

pub returns-in-0 : goal.returns-in-0
returns-in-0 c =
    let w = (goal.at.returns-in-0 c).After-level in
    rw c.renew_last.ensures.items (moved w c.renew_last.result 0 (sym c.level.ensures.level ∙ c.in-0.is) c.renew_last.ensures.stood)

pub invariant_of-self-in-1 : goal.invariant_of-self-in-1
invariant_of-self-in-1 c =
    let w = (goal.at.invariant_of-self-in-1 c).After-level in
    let has = c.self.invariant in (
      has.0,
      rw c.renew_last-in-1.ensures.items (HasRoom-renewed c.renew_last-in-1.result _ _ _ (new w) _ has.1 c.renew_last-in-1.ensures.capacity (known w)),
      has.2,
      rw (c.renew_last-in-1.ensures.items, c.renew_last-in-1.ensures.listing) (told w c.renew_last-in-1.result 1 (sym c.level.ensures.level ∙ c.in-1.is) c.renew_last-in-1.ensures.stood),
    )

pub returns-in-1 : goal.returns-in-1
returns-in-1 c =
    let w = (goal.at.returns-in-1 c).After-level in
    rw c.renew_last-in-1.ensures.items (moved w c.renew_last-in-1.result 1 (sym c.level.ensures.level ∙ c.in-1.is) c.renew_last-in-1.ensures.stood)

pub invariant_of-self-in_default : goal.invariant_of-self-in_default
invariant_of-self-in_default c =
    let w = (goal.at.invariant_of-self-in_default c).After-level in
    let has = c.self.invariant in (
      has.0,
      has.1,
      rw c.renew_last-in_default.ensures.items (HasRoom-renewed c.renew_last-in_default.result _ _ _ (new w) _ has.2 c.renew_last-in_default.ensures.capacity (known w)),
      rw (c.renew_last-in_default.ensures.items, c.renew_last-in_default.ensures.listing) (told w c.renew_last-in_default.result 2 (omega arith) c.renew_last-in_default.ensures.stood),
    )

pub returns-in_default : goal.returns-in_default
returns-in_default c =
    let w = (goal.at.returns-in_default c).After-level in
    rw c.renew_last-in_default.ensures.items (moved w c.renew_last-in_default.result 2 (omega arith) c.renew_last-in_default.ensures.stood)
