use Rattle.std.proofs.Common.{◌≡◌, ℕ, Some, true, false, replicate, refl, sym, ap, subst}
use Rattle.std.proofs.lemmas.List.{length-replicate}
use Rattle.pager_model.specs.Layouts.{Layout, frame_for, stamped, record_at}
use Rattle.pager_model.specs.Records.{Records, is_used}
use Rattle.reservations.specs.Kept.{with_record, with_used}
use Rattle.pager_laws.specs.Laid.{IsLaid}
use Rattle.frame_pool.specs.Mapped.{IsMapped}
use Rattle.frame_pool.specs.ReservedState.{reserved_in}
use Rattle.frame_pool.proofs.MappedRecords.{IsMapped-alike}
use Rattle.frame_pool.proofs.LayoutInOrder.{IsLaid-populated, IsInOrder-again, place_has}
use Rattle.frame_pool.proofs.reserved.Reserved.populate.Goals as goal

pub invariant_of-self : goal.invariant_of-self
invariant_of-self c =
    let inside = c.self.inside in
    let r = c.args.reservation.now in
    let page = c.args.page in
    let l = reserved_in inside in
    let is : record_at l r.frame ≡ Some r = rw (← c.self.view_is) at c.requires.there in
    let unused : is_used l.used (frame_for page r) ≡ false = rw (← c.self.view_is) at c.requires.unused in
    let laid = IsLaid-populated l r c.args.stamp page c.self.invariant.laid is c.requires.has unused in
    let done : c.populate.new.self ≡ with_used (with_record inside.reservations r.frame (Some (stamped r c.args.stamp)))
    (frame_for page r) true = rw is at c.populate.ensures in
    let m = c.relist.new.lists.frames in
    let room : m ≡ inside.lists.frames = c.relist.ensures.room in
    let after : ℕ → Records → Layout = λ n st. record { sizes = l.sizes; free = replicate n false; records = st.records; used = st.used } in
    IsInOrder-again l r.frame r c.self.invariant.laid is (stamped r c.args.stamp) (after m c.populate.new.self)
    inside.lists c.relist.new.lists inside.map inside.map c.self.invariant (record {
      frame = frame_for page r;
      has = place_has r page c.requires.has;
      becomes = true;
      laid = subst (λ n. IsLaid (after n c.populate.new.self)) (sym room)
          (subst (λ st. IsLaid (after inside.lists.frames st)) (sym done) laid);
      sizes = refl;
      used = ap (λ (st : Records). st.used) done;
      records = ap (λ (st : Records). st.records) done;
    })
    (length-replicate m false) room c.relist.ensures.listed
    (subst (λ (st : Records). IsMapped inside.map st.records) (sym done)
    (IsMapped-alike inside.map l.records r.frame r (stamped r c.args.stamp) c.self.invariant.mapped is refl refl refl))

pub frame_for-requires-clause-frames : goal.frame_for-requires-clause-frames
frame_for-requires-clause-frames c =
    let there = rw (← c.self.view_is) at c.requires.there in
    (c.self.invariant.laid.placed c.args.reservation.now.frame c.args.reservation.now there).aligned
