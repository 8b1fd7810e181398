use Rattle.std.proofs.Common.{◌≡◌, ◌≤◌, List, length, map, drop, take, refl, ap, sym, subst, ◌∙◌, arith}
use Rattle.std.proofs.Math.ListN.{length-map}
use Rattle.std.proofs.lemmas.List.{get_or-replicate}
use Rattle.pager_model.specs.Scripts.{Script}
use Rattle.pager_model.specs.Settings.{Given}
use Rattle.pager_model.specs.Stored.{Stored}
use Rattle.pager_model.specs.Stores.{setting_over, AreCapped}
use Rattle.space_core.specs.Rooms.{Capacity}
use Rattle.space_core.specs.Standing.{Kept}
use Rattle.pager_core.specs.RunParts.{AreNewSpaces, AreRoomsOver}
use Rattle.pager_core.proofs.StartMachines.{length-told}
use Rattle.pager_core.proofs.Stores.{as_long, length-rooms}
use Rattle.pager_core.proofs.ShownReplays.{told-over}
use Rattle.stream_core.proofs.Streams.{IsAfter-start}
use Rattle.stream_core.proofs.stream.Stream.create.Goals as goal

module _ {P : Type 0} (seen : P → Stored) (script : Script) (stores slice : List P) (same : slice ≡ stores) (enough : script.spaces ≤ length stores)
    (given : Given) (rooms : List Capacity) (is : given ≡ setting_over script (map seen slice))
    (over : AreRoomsOver given (take script.spaces (map seen slice)) rooms) where
  known : script.spaces ≤ length (map seen stores)
  known = (let many = length-map stores seen in omega (arith, many, enough))

  given_is : given ≡ setting_over script (map seen stores)
  given_is = is ∙ ap (λ l. setting_over script (map seen l)) same

  over_all : AreRoomsOver given (take script.spaces (map seen stores)) rooms
  over_all = subst (λ l. AreRoomsOver given (take script.spaces (map seen l)) rooms) same over

  -- there is a room for each space of the trace
  many : length rooms ≡ script.spaces
  many = length-rooms given (take script.spaces (map seen stores)) rooms over_all ∙ length-told script (map seen stores) known given given_is

  over_own : AreRoomsOver given (take (length rooms) (map seen stores)) rooms
  over_own = subst (λ n. AreRoomsOver given (take n (map seen stores)) rooms) (sym many) over_all

  -- and as many spaces
  count : (spaces : List Kept) → AreNewSpaces given spaces → length spaces ≡ script.spaces
  count spaces new = new.count ∙ length-told script (map seen stores) known given given_is

pub over-spaces-requires : goal.over-spaces-requires
over-spaces-requires g c =
    let all = many g.S.Store.seen c.args.opening.now c.args.stores.items c.as_slice.result.now c.as_slice.ensures.value c.requires.enough
    c.in-Ok.room.setting c.in-Ok.room.spaces c.in-Ok.ensures.setting c.in-Ok.ensures.spaces in
    (c.type_bounds.send-S, omega (arith, all, c.requires.enough))

pub invariant_of-result : goal.invariant_of-result
invariant_of-result g c =
    let rooms = many g.S.Store.seen c.args.opening.now c.args.stores.items c.as_slice.result.now c.as_slice.ensures.value c.requires.enough
    c.in-Ok.room.setting c.in-Ok.room.spaces c.in-Ok.ensures.setting c.in-Ok.ensures.spaces in
    let over = over_own g.S.Store.seen c.args.opening.now c.args.stores.items c.as_slice.result.now c.as_slice.ensures.value c.requires.enough
    c.in-Ok.room.setting c.in-Ok.room.spaces c.in-Ok.ensures.setting c.in-Ok.ensures.spaces in
    let all = count g.S.Store.seen c.args.opening.now c.args.stores.items c.as_slice.result.now c.as_slice.ensures.value c.requires.enough
    c.in-Ok.room.setting c.in-Ok.room.spaces c.in-Ok.ensures.setting c.in-Ok.ensures.spaces c.over-spaces.result.0.items
    (c.over-spaces.ensures.new c.in-Ok.room.setting over) in
    let long = as_long g.S.Store.seen c.args.stores.items c.over-spaces.result.1.items
    (length c.in-Ok.room.spaces) c.over-spaces.ensures.left (omega (arith, rooms, c.requires.enough)) in
    omega (
      arith,
      long,
      all,
      rooms,
      c.over-spaces.ensures.capacity,
      c.over-spaces.result.1.ok.0,
      c.args.stores.ok.0,
      c.args.stores.ok.1,
    )

pub returns-clause-starts : goal.returns-clause-starts
returns-clause-starts g c =
    let stores : List Stored = map g.S.Store.seen c.args.stores.items in
    let over = over_own g.S.Store.seen c.args.opening.now c.args.stores.items c.as_slice.result.now c.as_slice.ensures.value c.requires.enough
    c.in-Ok.room.setting c.in-Ok.room.spaces c.in-Ok.ensures.setting c.in-Ok.ensures.spaces in
    let is = given_is g.S.Store.seen c.args.opening.now c.args.stores.items c.as_slice.result.now c.as_slice.ensures.value c.requires.enough
    c.in-Ok.room.setting c.in-Ok.room.spaces c.in-Ok.ensures.setting c.in-Ok.ensures.spaces in
    let rooms = many g.S.Store.seen c.args.opening.now c.args.stores.items c.as_slice.result.now c.as_slice.ensures.value c.requires.enough
    c.in-Ok.room.setting c.in-Ok.room.spaces c.in-Ok.ensures.setting c.in-Ok.ensures.spaces in
    IsAfter-start c.args.opening.now (record { has = c.daemon.ensures.text; none = c.requires.none }) stores
    (known g.S.Store.seen c.args.opening.now c.args.stores.items c.as_slice.result.now c.as_slice.ensures.value c.requires.enough
    c.in-Ok.room.setting c.in-Ok.room.spaces c.in-Ok.ensures.setting c.in-Ok.ensures.spaces)
    (subst (λ l. AreCapped c.args.opening.now.spaces (map g.S.Store.seen l)) c.as_slice.ensures.value c.in-Ok.ensures.capped)
    _ c.daemon.result c.processors.result c.in-Ok-create.tally c.over-spaces.result.0.items c.in-Ok.room.pool _
    c.daemon.ensures.daemon c.processors.ensures.processors
    (subst (λ s. AreNewSpaces s c.over-spaces.result.0.items) is (c.over-spaces.ensures.new c.in-Ok.room.setting over))
    c.in-Ok.ensures.pool (c.in-Ok-create.ensures.starts (setting_over c.args.opening.now stores) (record {
      frames = refl;
      sizes = refl;
      spaces = told-over c.args.opening.now stores
          (known g.S.Store.seen c.args.opening.now c.args.stores.items c.as_slice.result.now c.as_slice.ensures.value c.requires.enough
          c.in-Ok.room.setting c.in-Ok.room.spaces c.in-Ok.ensures.setting c.in-Ok.ensures.spaces);
    })) refl (λ n below. get_or-replicate 16 n 0 0 below)
    (c.over-spaces.ensures.left ∙ ap (λ n. drop n stores) rooms)
