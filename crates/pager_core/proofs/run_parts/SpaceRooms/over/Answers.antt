use Rattle.std.proofs.Common.{◌≡◌, ◌+◌, ◌++◌, [], length, map, reverse, is_some, Some, ap, sym, subst, ◌∙◌, arith}
use Rattle.std.specs.List.{All}
use Rattle.std.proofs.lemmas.Bool.{false≢true}
use Rattle.std.proofs.lemmas.List.{length_push, length-reverse}
use Rattle.std.proofs.lemmas.List.Elements.{All-pop}
use Rattle.pager_model.specs.SizeSets.{SizeSet}
use Rattle.pager_model.specs.SpaceStates.{empty_state}
use Rattle.space_core.specs.Rooms.{Capacity}
use Rattle.space_core.specs.Standing.{Kept, StandsFor}
use Rattle.pager_core.specs.RunParts.{AreRoomsOver}
use Rattle.pager_core.proofs.Stores.{in_order-more, first_used, left_over, are_new, reversed_back, AreNew, AreNew-push}
use Rattle.pager_core.proofs.run_parts.SpaceRooms.over.Given.{Over}
use Rattle.pager_core.proofs.run_parts.SpaceRooms.over.Goals as goal

-- at first there are none
AreNew-none : (room : Capacity) → AreNew room []
AreNew-none room s kept told at zeros = absurd (false≢true (ap is_some at))

pub loop-room-init : goal.loop-room-init
loop-room-init g c =
    let none = c.self.invariant.1 in
    let left = c.reverse.new.self.items in
    let same_rooms = ap length c.self.view_is in
    let as_many = ap length c.reverse.ensures.items ∙ length-reverse c.args.stores.items in
    record {
      count = omega (arith, ap length none, same_rooms);
      alike = λ room all. (
        subst (All (λ r. r ≡ room)) (sym c.self.view_is) all,
        subst (AreNew room) (sym none) (AreNew-none room),
      );
      stores =
          sym (reversed_back g.S.Store.seen c.args.stores.items left c.reverse.ensures.items)
          ∙ ap (λ l. map (λ (k : Kept). k.store) l ++ map g.S.Store.seen (reverse left)) (sym none);
      enough = omega (arith, same_rooms, as_many, c.requires.enough);
      room = omega (arith, ap length none, c.self.invariant.2);
      capacity = c.reverse.ensures.capacity;
    }

pub loop-room-preserved : goal.loop-room-preserved
loop-room-preserved g c =
    let made = c.over.ensures.made in
    let before = c.loop-room.invariant in
    let fewer_rooms : length c.loop-room.rooms.items ≡ length c.pop.new.self.items + 1 = ap length c.in-Some.ensures.items
    ∙ length_push c.pop.new.self.items c.in-Some.room in
    let fewer_stores : length c.loop-room.left.items ≡ length c.pop-in-Some.new.self.items + 1 =
    ap length c.in-Some-pop.ensures.items ∙ length_push c.pop-in-Some.new.self.items c.in-Some-pop.store in
    let more : length c.push_reserved.new.self.items ≡ length c.loop-room.spaces.items + 1 = ap length c.push_reserved.ensures.items
    ∙ length_push c.loop-room.spaces.items c.over.result in
    record {
      count = omega (arith, before.count, fewer_rooms, more);
      alike = λ room all.
          let own = before.alike room all in
          let left = All-pop (λ r. r ≡ room) c.loop-room.rooms.items c.pop.new.self.items
          (Some c.in-Some.room) c.in-Some.ensures.items own.0 in (
            left.0,
            AreNew-push room c.loop-room.spaces.items c.push_reserved.new.self.items c.over.result own.1 c.push_reserved.ensures.items
                (λ told zeros. record {
                  number_is = omega (arith, made.0, c.len-number.ensures, c.loop-room.spaces.ok.0);
                  frames_are = made.1 ∙ ap (λ (r : Capacity). r.frames) left.1;
                  processors_are = made.2 ∙ ap (λ (r : Capacity). r.processors) left.1;
                  resting = made.4;
                  stands = subst (λ (z : SizeSet). StandsFor c.over.result (empty_state z told c.over.result.store.faults))
                      (ap (λ (r : Capacity). r.sizes) left.1) (c.over.ensures.stands told zeros);
                }),
          );
      stores =
          before.stores
          ∙ in_order-more g.S.Store.seen c.loop-room.left.items c.pop-in-Some.new.self.items c.in-Some-pop.store
          c.loop-room.spaces.items c.over.result c.in-Some-pop.ensures.items made.3
          ∙ ap (λ l. map (λ (k : Kept). k.store) l ++ map g.S.Store.seen (reverse c.pop-in-Some.new.self.items))
          (sym c.push_reserved.ensures.items);
      enough = omega (arith, before.enough, fewer_rooms, fewer_stores);
      room = omega (arith, before.room, fewer_rooms, more, c.push_reserved.ensures.capacity);
      capacity = c.in-Some-pop.ensures.capacity ∙ before.capacity;
    }

-- each room is a space's
count : (g : Over) (c : goal.After-drop-rooms g) → length c.loop-room.spaces.items ≡ length c.args.self
count g c = omega (arith, c.loop-room.invariant.count, c.in_default.ensures.cases.0, c.loop-room.rooms.ok.0)

pub returns-clause-used : goal.returns-clause-used
returns-clause-used g c = first_used c.loop-room.spaces.items _ _ (length c.args.self) c.loop-room.invariant.stores (count g c)

pub returns-clause-left : goal.returns-clause-left
returns-clause-left g c = sym (left_over c.loop-room.spaces.items _ _ (length c.args.self) c.loop-room.invariant.stores (count g c))

pub returns-clause-new : goal.returns-clause-new
returns-clause-new g c = λ given over. are_new given c.args.self c.loop-room.spaces.items (count g c)
    (λ room all. (c.loop-room.invariant.alike room all).1)
    (subst (λ l. AreRoomsOver given l c.args.self) (sym (returns-clause-used g c)) over)

pub over-requires-clause-few : goal.over-requires-clause-few
over-requires-clause-few g c κs within =
    let fewer = ap length c.in-Some.ensures.items ∙ length_push c.pop.new.self.items c.in-Some.room in
    omega (arith, fewer, c.loop-room.invariant.count, c.len-number.ensures, c.loop-room.spaces.ok.0, c.self.invariant.0, ap length c.self.view_is)

pub unreachable-requires : goal.unreachable-requires
unreachable-requires g c =
    let fewer = ap length c.in-Some.ensures.items ∙ length_push c.pop.new.self.items c.in-Some.room in
    omega (arith, fewer, c.loop-room.invariant.enough, c.in_default-pop.ensures.cases.0, c.loop-room.left.ok.0)

pub push_reserved-requires : goal.push_reserved-requires
push_reserved-requires g c =
    let fewer = ap length c.in-Some.ensures.items ∙ length_push c.pop.new.self.items c.in-Some.room in
    omega (arith, fewer, c.loop-room.invariant.room, c.loop-room.spaces.ok.0)

pub loop-room-smaller : goal.loop-room-smaller
loop-room-smaller g c = omega (arith, ap length c.in-Some.ensures.items, length_push c.pop.new.self.items c.in-Some.room)

pub overflow_cast-number : goal.overflow_cast-number
overflow_cast-number g c =
    omega (arith, c.loop-room.invariant.count, c.len-number.ensures, c.loop-room.spaces.ok.0, c.self.invariant.0, ap length c.self.view_is)
