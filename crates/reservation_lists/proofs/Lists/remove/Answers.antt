use Rattle.std.proofs.Common.{◌≡◌, ◌<◌, ◌≤◌, ℕ, Some, None, get_or, set, length, ◌∙◌, refl, sym, ap, subst, arith}
use Rattle.std.proofs.lemmas.List.{get_or_default}
use Rattle.pager_model.specs.Ages.{Lists, list_at, with_list}
use Rattle.pager_model.proofs.Options.{in_some}
use Rattle.reservation_lists.specs.declared.listed.Listed.{Listed}
use Rattle.reservation_lists.specs.Kept.{AreTold, lists_in, without_frame, without_member}
use Rattle.reservation_lists.proofs.Members.{HasRoom-filter}
use Rattle.reservation_lists.proofs.ToldMembers.{AreTold-without, without_frame-told, without_frame-untold}
use Rattle.reservation_lists.proofs.Lists.remove.Goals as goal
use Rattle.reservation_lists.proofs.Lists.remove.Goals.{After-take}

-- what was kept for the frame was taken
taken : (c : After-take) → c.take.result ≡ get_or c.self.inside.listed.items c.args.frame None
taken c =
    let known = rw (← c.self.view_is) at c.requires.known in
    let within : c.args.frame < length c.self.inside.listed.items = omega (arith, c.self.invariant.3.long) in
    c.take.ensures.value ∙ c.index_mut.ensures.value ∙ get_or_default _ _ _ None within

told : (c : After-take)
    → AreTold c.self.inside.frames (set c.self.inside.listed.items c.args.frame c.take.new.self)
    (without_frame c.args.frame (lists_in c.self.inside))
told c = rw c.take.ensures.after (AreTold-without _ _ _ _ c.self.invariant.3)

-- where none was, the lists are those without it
untold : (c : After-take) → c.take.result ≡ None → without_frame c.args.frame (lists_in c.self.inside) ≡ lists_in c.self.inside
untold c none = without_frame-untold _ _ _ _ c.self.invariant.3 (sym (taken c) ∙ none)

-- where one was, it goes out of its list
gone : (c : After-take) (listed : Listed) (size : ℕ) → c.take.result ≡ Some listed → listed.size ≡ size
    → with_list (lists_in c.self.inside) size (without_member (record { stamp = listed.stamp; frame = c.args.frame })
    (list_at (lists_in c.self.inside) size)) ≡ without_frame c.args.frame (lists_in c.self.inside)
gone c listed size is same =
    let stood = sym (taken c) ∙ is ∙ ap (λ k. Some (record { size = k; stamp = listed.stamp })) same in
    without_frame-told _ _ (lists_in c.self.inside) size (record { stamp = listed.stamp; frame = c.args.frame }) c.self.invariant.3 stood

last : (c : After-take) (listed : Listed) → c.take.result ≡ Some listed → 2 ≤ listed.size → listed.size ≡ 2
last c listed is least =
    let below : listed.size < 3 = in_some (λ l. l.size < 3) _ listed (sym (taken c) ∙ is) (c.self.invariant.3.known c.args.frame) in
    omega arith

pub invariant_of-self : goal.invariant_of-self
invariant_of-self c =
    let w = (goal.at.invariant_of-self c).After-take in
    let has = c.self.invariant in
    (has.0, has.1, has.2, subst (AreTold _ _) (untold w c.in_default.is) (told w))

pub returns-in_default : goal.returns-in_default
returns-in_default c =
    let w = (goal.at.returns-in_default c).After-take in
    rw (← c.self.view_is) (ap (λ (ls : Lists). record { lists = ls; frames = c.self.inside.frames }) (sym (untold w c.in_default.is)))

pub invariant_of-self-in-0 : goal.invariant_of-self-in-0
invariant_of-self-in-0 c =
    let w = (goal.at.invariant_of-self-in-0 c).After-take in
    let has = c.self.invariant in
    let lists = gone w c.in-Some.listed 0 c.in-Some.is (sym c.level.ensures.level ∙ c.in-0.is) in (
      rw (c.remove_from.ensures.items, c.remove_from.ensures.capacity) (HasRoom-filter _ _ _ _ has.0),
      has.1,
      has.2,
      rw c.remove_from.ensures.items (subst (AreTold _ _) (sym lists) (told w)),
    )

pub returns-in-0 : goal.returns-in-0
returns-in-0 c =
    let w = (goal.at.returns-in-0 c).After-take in
    let lists = gone w c.in-Some.listed 0 c.in-Some.is (sym c.level.ensures.level ∙ c.in-0.is) in
    rw (c.remove_from.ensures.items, ← c.self.view_is, ← lists) refl

pub invariant_of-self-in-1 : goal.invariant_of-self-in-1
invariant_of-self-in-1 c =
    let w = (goal.at.invariant_of-self-in-1 c).After-take in
    let has = c.self.invariant in
    let lists = gone w c.in-Some.listed 1 c.in-Some.is (sym c.level.ensures.level ∙ c.in-1.is) in (
      has.0,
      rw (c.remove_from-in-1.ensures.items, c.remove_from-in-1.ensures.capacity) (HasRoom-filter _ _ _ _ has.1),
      has.2,
      rw c.remove_from-in-1.ensures.items (subst (AreTold _ _) (sym lists) (told w)),
    )

pub returns-in-1 : goal.returns-in-1
returns-in-1 c =
    let w = (goal.at.returns-in-1 c).After-take in
    let lists = gone w c.in-Some.listed 1 c.in-Some.is (sym c.level.ensures.level ∙ c.in-1.is) in
    rw (c.remove_from-in-1.ensures.items, ← c.self.view_is, ← lists) refl

pub invariant_of-self-in_default-level : goal.invariant_of-self-in_default-level
invariant_of-self-in_default-level c =
    let w = (goal.at.invariant_of-self-in_default-level c).After-take in
    let has = c.self.invariant in
    let lists = gone w c.in-Some.listed 2 c.in-Some.is (last w c.in-Some.listed c.in-Some.is (omega arith)) in (
      has.0,
      has.1,
      rw (c.remove_from-in_default-level.ensures.items, c.remove_from-in_default-level.ensures.capacity)
          (HasRoom-filter _ _ _ _ has.2),
      rw c.remove_from-in_default-level.ensures.items (subst (AreTold _ _) (sym lists) (told w)),
    )

pub returns-in_default-level : goal.returns-in_default-level
returns-in_default-level c =
    let w = (goal.at.returns-in_default-level c).After-take in
    let lists = gone w c.in-Some.listed 2 c.in-Some.is (last w c.in-Some.listed c.in-Some.is (omega arith)) in
    rw (c.remove_from-in_default-level.ensures.items, ← c.self.view_is, ← lists) refl
