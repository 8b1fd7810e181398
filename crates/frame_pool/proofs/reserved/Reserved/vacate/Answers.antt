use Rattle.std.proofs.Common.{◌≡◌, ◌∙◌, ℕ, Some, None, true, false, replicate, set, refl, sym, ap, subst}
use Rattle.std.proofs.lemmas.List.{length-replicate, set-get_or}
use Rattle.std.specs.Option.{IsSomeAnd}
use Rattle.pager_model.specs.Agreement.{has_frame}
use Rattle.pager_model.specs.Layouts.{Layout, record_at, is_last}
use Rattle.pager_model.specs.Records.{Records}
use Rattle.reservations.specs.Kept.{with_record, with_used}
use Rattle.reservation_lists.specs.Kept.{KeptLists}
use Rattle.reservation_lists.proofs.Members.{is_listed-without}
use Rattle.pager_laws.specs.Laid.{IsLaid}
use Rattle.frame_pool.specs.Mapped.{IsMapped}
use Rattle.frame_pool.specs.ReservedChanges.{without_place}
use Rattle.frame_pool.specs.ReservedState.{reserved_in}
use Rattle.frame_pool.proofs.LayoutInOrder.{IsInOrder-again, IsInOrder-gone, unlisted_alone}
use Rattle.frame_pool.proofs.ReservedLayouts.{IsLaid-without_place, vacated}
use Rattle.frame_pool.proofs.reserved.Reserved.vacate.Goals as goal
use Rattle.frame_pool.proofs.reserved.Reserved.vacate.Goals.{After-vacate, After-enlist}

-- the reservation stands, and has the frame
owner : (c : After-vacate)
    → (record_at (reserved_in c.self.inside) c.unwrap-reservation.result.frame ≡ Some c.unwrap-reservation.result)
    × (has_frame c.args.frame (Some c.unwrap-reservation.result) ≡ true)
owner c = rw (c.unwrap-reservation.ensures, ← c.self.view_is) at c.reservation_of.ensures.found

-- the frame is a used place no more
unused : (c : After-vacate) → c.vacate.new.self ≡ with_used c.self.inside.reservations c.args.frame false
unused c =
    let at_place = rw (owner c).0 at c.vacate.ensures.vacated in
    at_place ∙ ap (λ f. with_used c.self.inside.reservations f false) c.page_at.ensures.joined

-- it is told whether it was the last one
tells : (c : After-vacate) → is_last c.args.frame c.unwrap-reservation.result (reserved_in c.self.inside) ≡ c.vacate.result
tells c =
    let last = rw ((owner c).0, unused c) at c.vacate.ensures.last in
    sym last

laid_without : (c : After-vacate) → IsLaid (without_place c.args.frame c.unwrap-reservation.result (reserved_in c.self.inside))
laid_without c = IsLaid-without_place (reserved_in c.self.inside) c.args.frame c.unwrap-reservation.result c.self.invariant.laid
    (owner c).0 (owner c).1 (rw (← c.self.view_is) at c.requires)

pub page_at-requires-clause-pages : goal.page_at-requires-clause-pages
page_at-requires-clause-pages c =
    let r = c.unwrap-reservation.result in
    let found = rw (c.unwrap-reservation.ensures, ← c.self.view_is) at c.reservation_of.ensures.found in
    (c.self.invariant.laid.placed r.frame r found.0).pages_aligned

pub delist-requires-clause-alone : goal.delist-requires-clause-alone
delist-requires-clause-alone c =
    let found = rw (c.unwrap-reservation.ensures, ← c.self.view_is) at c.reservation_of.ensures.found in
    let r = c.unwrap-reservation.result in
    λ one. unlisted_alone (reserved_in c.self.inside) r.frame c.self.invariant.laid
    (subst (λ o. IsSomeAnd o (λ q. q.size ≡ 0)) (sym found.0) one) c.self.inside.lists c.self.inside.map c.self.invariant

pub remove-requires-clause-pages : goal.remove-requires-clause-pages
remove-requires-clause-pages c =
    let w = (goal.at.remove-requires-clause-pages c).After-vacate in
    (c.self.invariant.laid.placed c.unwrap-reservation.result.frame c.unwrap-reservation.result (owner w).0).pages_aligned

pub enlist-requires-clause-unlisted : goal.enlist-requires-clause-unlisted
enlist-requires-clause-unlisted c = rw c.delist.ensures (is_listed-without c.unwrap-reservation.result.frame c.self.inside.lists.lists)

pub invariant_of-self : goal.invariant_of-self
invariant_of-self c =
    let w = (goal.at.invariant_of-self c).After-vacate in
    let inside = c.self.inside in
    let l = reserved_in inside in
    let r = c.unwrap-reservation.result in
    let gone = c.dissolve.ensures ∙ ap (λ st. with_record st r.frame None) (unused w) in
    let after = vacated l c.args.frame r true c.dissolve.new.self (tells w ∙ c.if-vacate.true) gone in
    rw c.delist.ensures
    (IsInOrder-gone l r.frame r c.self.invariant.laid (owner w).0 _ inside.lists inside.map c.remove.new.map c.self.invariant
    (record {
      frame = c.args.frame;
      has = (owner w).1;
      becomes = false;
      laid = subst IsLaid (sym after) (laid_without w);
      sizes = refl;
      used = ap (λ (st : Records). st.used) gone;
      records = ap (λ (st : Records). st.records) gone;
    })
    (length-replicate inside.lists.frames false)
    (subst (λ (st : Records). IsMapped c.remove.new.map st.records) (sym gone)
    (c.remove.ensures l.records c.self.invariant.mapped (owner w).0)))

-- the lists are of as many frames then
room : (c : After-enlist) → c.enlist.new.lists.frames ≡ c.self.inside.lists.frames
room c = c.enlist.ensures.room ∙ ap (λ (k : KeptLists). k.frames) c.delist.ensures

pub invariant_of-self-2 : goal.invariant_of-self-2
invariant_of-self-2 c =
    let w = (goal.at.invariant_of-self-2 c).After-vacate in
    let inside = c.self.inside in
    let l = reserved_in inside in
    let r = c.unwrap-reservation.result in
    let m = c.enlist.new.lists.frames in
    let after = vacated l c.args.frame r false c.vacate.new.self (tells w ∙ c.if-vacate.false) (unused w) in
    let left : ℕ → Layout =
    λ n. record { sizes = l.sizes; free = replicate n false; records = c.vacate.new.self.records; used = c.vacate.new.self.used } in
    IsInOrder-again l r.frame r c.self.invariant.laid (owner w).0 r (left m) inside.lists c.enlist.new.lists
    inside.map inside.map c.self.invariant (record {
      frame = c.args.frame;
      has = (owner w).1;
      becomes = false;
      laid = subst (λ n. IsLaid (left n)) (sym (room (goal.at.invariant_of-self-2 c).After-enlist))
          (subst IsLaid (sym after) (laid_without w));
      sizes = refl;
      used = ap (λ (st : Records). st.used) (unused w);
      records = ap (λ (st : Records). st.records) (unused w) ∙ sym (set-get_or l.records r.frame None)
          ∙ ap (set l.records r.frame) (owner w).0;
    })
    (length-replicate m false)
    (room (goal.at.invariant_of-self-2 c).After-enlist) (rw c.delist.ensures at c.enlist.ensures.listed)
    (subst (λ (st : Records). IsMapped inside.map st.records) (sym (unused w)) c.self.invariant.mapped)
