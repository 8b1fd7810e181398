use Rattle.std.proofs.Common.{◌-◌, ◌^◌, length, ap, ◌∙◌, sym, subst, arith}
use Rattle.miss_curves.specs.Curves.{base_alone}
use Rattle.miss_curves.specs.Rows.{AreStacks, StandAfter}
use Rattle.miss_curves.proofs.AllStacks.{AreStacks-more}
use Rattle.miss_curves.proofs.Usual.{misses-usual}
use Rattle.miss_curves.proofs.stacks.Stacks.curves.Goals as goal

pub curve_of-requires : goal.curve_of-requires
curve_of-requires c = record {
  stacks = rw (c.deref.ensures.value, c.requires.long.0)
      (subst (λ n. AreStacks (length c.self.inside.tiles.items) n (2 ^ 64 - 1) c.self.inside.tiles.items) (ap (λ r. r.places) c.self.view_is)
      (AreStacks-more _ c.self.inside.places (2 ^ 64 - 1) c.self.inside.entries c.self.inside.tiles.items c.self.invariant.counted
      c.self.invariant.tiles));
}

pub curve_of-requires-2 : goal.curve_of-requires-2
curve_of-requires-2 c = record {
  stacks = rw (c.deref-2.ensures.value, c.requires.long.1)
      (rw c.self.invariant.pages.spaces
      (subst (λ n. AreStacks (length c.self.inside.tiles.items) n (2 ^ 64 - 1) c.self.inside.pages.items) (ap (λ r. r.places) c.self.view_is)
      (AreStacks-more _ c.self.inside.places (2 ^ 64 - 1) c.self.inside.entries c.self.inside.pages.items c.self.invariant.counted
      c.self.invariant.pages)));
}

pub returns-clause-long : goal.returns-clause-long
returns-clause-long c = (
  c.curve_of.ensures.capacities ∙ c.requires.long.0,
  c.curve_of-2.ensures.capacities ∙ c.requires.long.1,
)

pub returns-clause-curves : goal.returns-clause-curves
returns-clause-curves c = λ g history stands legal alone.
    let before = subst (λ k. StandAfter g k history) (sym c.self.view_is) stands in
    let tiles = c.curve_of.ensures.misses g.sizes g history (rw c.deref.ensures.value before.tiles) in
    let pages = c.curve_of-2.ensures.misses base_alone g history (rw c.deref-2.ensures.value before.pages) in
    record {
      long = (c.curve_of.ensures.capacities ∙ c.requires.long.0, c.curve_of-2.ensures.capacities ∙ c.requires.long.1);
      by_tiles = λ k below. tiles k (omega (arith, below, c.requires.long.0));
      by_pages = λ k below. pages k (omega (arith, below, c.requires.long.1));
      usual = tiles 127 (omega (arith, c.requires.usual, c.requires.long.0)) ∙ misses-usual g history legal alone;
    }
