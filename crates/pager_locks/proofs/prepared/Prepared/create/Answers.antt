use Rattle.std.proofs.Common.{◌≡◌, ℕ, List, length, map, take, ap, sym, subst, ◌∙◌, arith}
use Rattle.std.proofs.lemmas.List.{take_all, nil_from_length}
use Rattle.std.proofs.Math.ListN.{length-map}
use Rattle.pager_model.specs.FrameStates.{start_frames}
use Rattle.pager_model.specs.Settings.{Given}
use Rattle.pager_model.specs.SizeSets.{SizeSet}
use Rattle.pager_model.specs.Stored.{Stored}
use Rattle.pager_model.specs.Stores.{given_over, AreCapped}
use Rattle.space_core.specs.Rooms.{Capacity}
use Rattle.pager_core.specs.RunParts.{AreRoomsOver}
use Rattle.pager_core.proofs.Stores.{length-rooms, as_long}
use Rattle.pager_locks.proofs.OpenedPagers.{AreNewParts-made}
use Rattle.pager_locks.proofs.prepared.Prepared.create.Goals as goal

-- a space for each store
told : {P : Type 0} (seen : P → Stored) (frames : ℕ) (z : SizeSet) (marks : List ℕ) (stores : List P) (given : Given)
    → given ≡ given_over frames z marks (map seen stores) → length given.told ≡ length stores
told seen frames z marks stores given is =
    ap (λ (g : Given). length g.told) is ∙ length-map (map seen stores) (λ (s : Stored). s.told) ∙ length-map stores seen

-- where each store has a room, the first of the stores are all of them
over_first : {P : Type 0} (seen : P → Stored) (stores : List P) (given : Given) (rooms : List Capacity) → length rooms ≡ length stores
    → AreRoomsOver given (map seen stores) rooms → AreRoomsOver given (take (length rooms) (map seen stores)) rooms
over_first seen stores given rooms count over =
    let many = length-map stores seen in
    subst (λ l. AreRoomsOver given l rooms) (sym (take_all (length rooms) (map seen stores) (omega (arith, many, count)))) over

pub over-spaces-requires : goal.over-spaces-requires
over-spaces-requires g c =
    let room = c.in-Ok.ensures in
    let is =
    subst (λ l. c.in-Ok.room.setting ≡ given_over c.args.frames c.args.sizes c.args.marks.now (map g.S.Store.seen l))
    c.as_slice.ensures.value room.setting in
    let over =
    subst (λ l. AreRoomsOver c.in-Ok.room.setting (map g.S.Store.seen l) c.in-Ok.room.spaces) c.as_slice.ensures.value room.spaces in
    let count = told g.S.Store.seen c.args.frames c.args.sizes c.args.marks.now c.args.stores.items _ is in
    let many = length-rooms _ _ _ over in
    (c.type_bounds.send-S, omega (arith, many, count))

pub invariant_of-result : goal.invariant_of-result
invariant_of-result g c =
    let room = c.in-Ok.ensures in
    let opened = c.in-Ok-create.ensures in
    let is =
    subst (λ l. c.in-Ok.room.setting ≡ given_over c.args.frames c.args.sizes c.args.marks.now (map g.S.Store.seen l))
    c.as_slice.ensures.value room.setting in
    let over =
    subst (λ l. AreRoomsOver c.in-Ok.room.setting (map g.S.Store.seen l) c.in-Ok.room.spaces) c.as_slice.ensures.value room.spaces in
    let count = told g.S.Store.seen c.args.frames c.args.sizes c.args.marks.now c.args.stores.items _ is in
    let rooms : length c.in-Ok.room.spaces ≡ length c.args.stores.items = length-rooms _ _ _ over ∙ count in
    let same : length c.in-Ok-create.opened.journal.name.setting.told ≡ length c.in-Ok.room.setting.told =
    ap (λ (given : Given). length given.told) {y = c.in-Ok.room.setting} opened.setting in
    let long = as_long g.S.Store.seen c.args.stores.items c.over-spaces.result.1.items
    (length c.in-Ok.room.spaces) c.over-spaces.ensures.left (omega (arith, rooms)) in
    let new = c.over-spaces.ensures.new c.in-Ok.room.setting (over_first g.S.Store.seen c.args.stores.items _ _ rooms over) in
    let many = new.count in (
      AreNewParts-made _ _ _ _ _ opened.setting (omega (arith, many, count, c.requires.stores)) new opened.authors
          (room.pool ∙ sym (ap (λ (x : Given). start_frames x.sizes x.frames (length x.marks)) room.setting)),
      nil_from_length c.over-spaces.result.1.items (omega (arith, long, rooms)),
      omega (arith, same, count, c.over-spaces.ensures.capacity, c.args.stores.ok.0, c.args.stores.ok.1),
    )

pub returns-clause-capped : goal.returns-clause-capped
returns-clause-capped g c = subst (λ l. AreCapped (length l) (map g.S.Store.seen l)) c.as_slice.ensures.value c.in-Ok.ensures.capped
