use Rattle.std.proofs.Common.{length, map}
use Rattle.space_core.specs.Standing.{Kept}
use Rattle.pager_core.proofs.Stores.{given_back, length-given_back, StoresEnd-rest, left_over}
use Rattle.pager_core.proofs.run_parts.stores_of.Goals as goal

pub returns-clause-stores : goal.returns-clause-stores
returns-clause-stores g c =
    given_back g.S.Store.seen c.args.unused.items c.give_back.new.stores.items c.reverse.new.self.items
    (map (λ (k : Kept). k.store) c.args.spaces.items) c.reverse.ensures.items c.give_back.ensures.stores

pub returns-clause-ends : goal.returns-clause-ends
returns-clause-ends g c =
    let order =
    given_back g.S.Store.seen c.args.unused.items c.give_back.new.stores.items c.reverse.new.self.items
    (map (λ (k : Kept). k.store) c.args.spaces.items) c.reverse.ensures.items c.give_back.ensures.stores in
    λ given history pool rest. StoresEnd-rest given history c.args.spaces.items pool rest _ _ order

pub returns-clause-unused : goal.returns-clause-unused
returns-clause-unused g c =
    let order =
    given_back g.S.Store.seen c.args.unused.items c.give_back.new.stores.items c.reverse.new.self.items
    (map (λ (k : Kept). k.store) c.args.spaces.items) c.reverse.ensures.items c.give_back.ensures.stores in
    left_over c.args.spaces.items _ _ _ order (λ i. length c.args.spaces.items)

pub returns-clause-count : goal.returns-clause-count
returns-clause-count g c =
    length-given_back g.S.Store.seen c.args.unused.items c.reverse.new.self.items c.args.spaces.items
    (given_back g.S.Store.seen c.args.unused.items c.give_back.new.stores.items c.reverse.new.self.items
    (map (λ (k : Kept). k.store) c.args.spaces.items) c.reverse.ensures.items c.give_back.ensures.stores)
