use Rattle.std.proofs.Common.{◌≡◌, ◌≤◌, List, length, map, reverse, drop, take, replicate, None, ap, sym, subst, ◌∙◌, arith}
use Rattle.std.proofs.Math.ListN.{length-map}
use Rattle.pager_model.specs.Scripts.{Script}
use Rattle.pager_model.specs.Settings.{Given}
use Rattle.pager_model.specs.Stored.{Stored}
use Rattle.pager_model.specs.Stores.{setting_over, AreCapped}
use Rattle.pager_laws.proofs.KeptLaws.{KeepsLaws-legal}
use Rattle.space_core.specs.Rooms.{Capacity}
use Rattle.pager_core.specs.Machines.{IsMachine}
use Rattle.pager_core.specs.RunParts.{AreRoomsOver, AreNewSpaces}
use Rattle.pager_core.proofs.Keepers.{AreKeepers-start}
use Rattle.pager_core.proofs.Memory.{HasMemory-start}
use Rattle.pager_core.proofs.StartMachines.{IsMachine-started, length-told}
use Rattle.pager_core.proofs.Stores.{length-rooms, as_long}
use Rattle.pager_core.proofs.machine.Machine.create.Given.{Over}
use Rattle.pager_core.proofs.machine.Machine.create.Goals as goal

known : {P : Type 0} (seen : P → Stored) (script : Script) (stores : List P) → script.spaces ≤ length stores
    → script.spaces ≤ length (map seen stores)
known seen script stores enough = (let many = length-map stores seen in omega (arith, many, enough))

-- a machine has a room for each space of its trace
length-rooms_of : {P : Type 0} (seen : P → Stored) (script : Script) (stores : List P) (given : Given) (rooms : List Capacity)
    → script.spaces ≤ length stores → given ≡ setting_over script (map seen stores)
    → AreRoomsOver given (take script.spaces (map seen stores)) rooms → length rooms ≡ script.spaces
length-rooms_of seen script stores given rooms enough is over =
    length-rooms given (take script.spaces (map seen stores)) rooms over
    ∙ length-told script (map seen stores) (known seen script stores enough) given is

pub over-spaces-requires : goal.over-spaces-requires
over-spaces-requires g c =
    let is = c.in-Ok.ensures.setting ∙ ap (λ l. setting_over c.args.trace.now (map g.S.Store.seen l)) c.as_slice.ensures.value in
    let over =
    subst (λ l. AreRoomsOver c.in-Ok.parts.room.setting (take c.args.trace.now.spaces (map g.S.Store.seen l)) c.in-Ok.parts.room.spaces)
    c.as_slice.ensures.value c.in-Ok.ensures.spaces in
    let many = length-rooms_of g.S.Store.seen c.args.trace.now c.args.stores.items _ _ c.requires.enough is over in
    (c.type_bounds.send-S, omega (arith, many, c.requires.enough))

given : (g : Over) (c : goal.After-over-spaces g) → c.in-Ok.parts.room.setting
    ≡ setting_over c.args.trace.now (map g.S.Store.seen c.args.stores.items)
given g c = c.in-Ok.ensures.setting ∙ ap (λ l. setting_over c.args.trace.now (map g.S.Store.seen l)) c.as_slice.ensures.value

over : (g : Over) (c : goal.After-over-spaces g)
    → AreRoomsOver c.in-Ok.parts.room.setting (take c.args.trace.now.spaces (map g.S.Store.seen c.args.stores.items))
    c.in-Ok.parts.room.spaces
over g c =
    subst (λ l. AreRoomsOver c.in-Ok.parts.room.setting (take c.args.trace.now.spaces (map g.S.Store.seen l)) c.in-Ok.parts.room.spaces)
    c.as_slice.ensures.value c.in-Ok.ensures.spaces

many : (g : Over) (c : goal.After-over-spaces g) → length c.in-Ok.parts.room.spaces ≡ c.args.trace.now.spaces
many g c = length-rooms_of g.S.Store.seen c.args.trace.now c.args.stores.items _ _ c.requires.enough (given g c) (over g c)

new : (g : Over) (c : goal.After-over-spaces g) → AreNewSpaces c.in-Ok.parts.room.setting c.over-spaces.result.0.items
new g c = c.over-spaces.ensures.new c.in-Ok.parts.room.setting
    (subst (λ n. AreRoomsOver c.in-Ok.parts.room.setting (take n (map g.S.Store.seen c.args.stores.items)) c.in-Ok.parts.room.spaces)
    (sym (many g c)) (over g c))

started : (g : Over) (c : goal.After-over-spaces g)
    → IsMachine (record {
      given = c.in-Ok.parts.room.setting;
      jobs = c.in-Ok.parts.jobs;
      flights = c.in-Ok.parts.flights.items;
      history = c.in-Ok.parts.history.items;
      unused = map g.S.Store.seen (reverse c.over-spaces.result.1.items);
    }) c.over-spaces.result.0.items c.in-Ok.parts.room.pool c.in-Ok.parts.history.room
started g c =
    let parts = c.in-Ok.ensures in
    IsMachine-started c.args.trace.now parts.text (map g.S.Store.seen c.args.stores.items)
    (known g.S.Store.seen c.args.trace.now c.args.stores.items c.requires.enough)
    _ c.over-spaces.result.0.items c.in-Ok.parts.room.pool _
    (given g c) parts.jobs parts.flights parts.history.0 (new g c) parts.pool parts.history.1

pub invariant_of-result : goal.invariant_of-result
invariant_of-result g c =
    let rooms = many g c in
    let long = as_long g.S.Store.seen c.args.stores.items c.over-spaces.result.1.items
    (length c.in-Ok.parts.room.spaces) c.over-spaces.ensures.left (omega (arith, rooms, c.requires.enough)) in
    let count = (new g c).count in
    let told =
    length-told c.args.trace.now (map g.S.Store.seen c.args.stores.items)
    (known g.S.Store.seen c.args.trace.now c.args.stores.items c.requires.enough) c.in-Ok.parts.room.setting (given g c) in (
      started g c,
      omega (
        arith,
        long,
        count,
        told,
        rooms,
        c.over-spaces.ensures.capacity,
        c.over-spaces.result.1.ok.0,
        c.args.stores.ok.0,
        c.args.stores.ok.1,
      ),
      AreKeepers-start c.in-Ok.parts.jobs c.in-Ok.parts.flights.items
          (length c.over-spaces.result.0.items) c.in-Ok.parts.keepers.items c.in-Ok.ensures.flights
          (c.in-Ok.ensures.keepers ∙ ap (λ n. replicate n None) (let e : c.args.trace.now.spaces
          ≡ length c.over-spaces.result.0.items = omega (arith, count, told) in e)),
      λ _. HasMemory-start _ c.in-Ok.ensures.flights c.in-Ok.ensures.history.0,
    )

pub returns-clause-made : goal.returns-clause-made
returns-clause-made g c =
    let parts = c.in-Ok.ensures in
    (given g c, parts.history.0, parts.jobs, parts.flights, (started g c).lawful)

pub returns-clause-laws : goal.returns-clause-laws
returns-clause-laws g c = KeepsLaws-legal _ _ (started g c).lawful.legal

pub returns-clause-unused : goal.returns-clause-unused
returns-clause-unused g c =
    c.over-spaces.ensures.left ∙ ap (λ n. drop n (map g.S.Store.seen c.args.stores.items)) (many g c)

pub returns-clause-capped : goal.returns-clause-capped
returns-clause-capped g c = subst (λ l. AreCapped c.args.trace.now.spaces
    (map g.S.Store.seen l)) c.as_slice.ensures.value c.in-Ok.ensures.capped
