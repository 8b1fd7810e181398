use Rattle.std.proofs.Common.{◌≡◌, ℕ, ◌-◌, ◌<◌, List, length, get_or, set, take, Option, Some, ap, ◌∙◌, arith}
use Rattle.extent_tree.specs.Kept.{hung, last_spare}
use Rattle.extent_tree.specs.Rows.{Arena, spot_at}
use Rattle.extent_tree.proofs.store.Store.hang_spare.Goals as goal
use Rattle.extent_tree.proofs.store.Store.hang_spare.Goals.{After-unwrap-node}
use Rattle.extent_tree.proofs.store.Store.hang_spare.Given.{Over}

-- the node that was taken is the last spare one
taken : (g : Over) (c : After-unwrap-node g) → c.unwrap-node.result ≡ last_spare c.args.self.now
taken g c =
    let spare = c.self.inside.spare in
    let some : 0 < length spare.items = omega (arith, c.requires.spare, ap (λ t. length t.spare) c.self.view_is) in
    let last : get_or spare.items (spare.len - 1) 0 ≡ last_spare c.args.self.now =
    ap (λ n. get_or spare.items (n - 1) 0) spare.ok.0 ∙ ap last_spare c.self.view_is in
    let popped = c.pop.ensures.value 0 (omega (arith, some, spare.ok.0)) in
    cc

-- a tree with this node at the place, and without it among the spare ones
hung_is : {V : Type 0} (v t new : Arena V) (place node count : ℕ) (link : Option ℕ) (spare : List ℕ) → v ≡ t
    → node ≡ last_spare t
    → link ≡ Some node → count ≡ length v.spare → spare ≡ take (count - 1) v.spare
    → new ≡ record {
      spots = set v.spots place (record { value = (spot_at v place).value; node = link });
      above = set v.above node place;
      spare = spare;
      roots = v.roots;
      room = v.room;
    } → new ≡ hung t place
hung_is v t new place node count link spare is last linked counted rest written = cc

pub index_mut-requires : goal.index_mut-requires
index_mut-requires g c =
    omega (
      arith,
      c.requires.known,
      taken g (goal.at.index_mut-requires g c).After-unwrap-node,
      ap (λ t. length t.above) c.self.view_is,
      c.self.inside.above.ok.0,
    )

pub of-requires : goal.of-requires
of-requires g c = omega (arith, c.requires.known, c.requires.few, taken g (goal.at.of-requires g c).After-unwrap-node)

pub set_node-requires : goal.set_node-requires
set_node-requires g c = omega (arith, c.requires.place, ap (λ t. length t.spots) c.self.view_is)

pub returns-clause-node : goal.returns-clause-node
returns-clause-node g c = taken g (goal.at.returns-clause-node g c).After-unwrap-node

pub returns-clause-tree : goal.returns-clause-tree
returns-clause-tree g c =
    let spare = c.self.inside.spare in
    hung_is _ c.args.self.now c.set_node.new.self c.args.place c.unwrap-node.result spare.len c.of.result c.pop.new.self.items c.self.view_is
    (taken g (goal.at.returns-clause-tree g c).After-unwrap-node) c.of.ensures
    spare.ok.0 c.pop.ensures.rest c.set_node.ensures
