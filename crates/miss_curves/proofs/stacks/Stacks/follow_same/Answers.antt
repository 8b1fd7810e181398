use Rattle.std.proofs.Common.{◌<◌, length, rules, ap, subst, sym, arith}
use Rattle.pager_model.specs.Legal.{space_at}
use Rattle.pager_model.specs.Entries.{space_part}
use Rattle.pager_model.proofs.Options.{in_some}
use Rattle.miss_curves.specs.Curves.{base_alone, followed}
use Rattle.miss_curves.specs.Rows.{StandAfter}
use Rattle.miss_curves.proofs.AllStacks.{AreRows-followed, StandAfter-followed, StandAfter-none, uses-within}
use Rattle.miss_curves.proofs.stacks.Stacks.follow_same.Goals as goal

pub follow_same-requires : goal.follow_same-requires
follow_same-requires c =
    let was = c.self.inside in
    let s = c.in-Some.space in
    let known : s < length c.args.self.now.tiles = in_some _ c.args.entry.now.space s c.in-Some.is c.requires.known in
    let rows = c.self.view_is in
    let few = uses-within (length was.tiles.items) was.places was.entries was.tiles.items s c.index_mut.result.now
    (omega (arith, known, ap (λ r. length r.tiles) rows)) c.index_mut.ensures.value c.self.invariant.tiles in
    record { room = omega (arith, few, c.requires.room, ap (λ r. r.entries) rows) }

pub follow_same-requires-in-Some : goal.follow_same-requires-in-Some
follow_same-requires-in-Some c =
    let was = c.self.inside in
    let s = c.in-Some.space in
    let known : s < length c.args.self.now.tiles = in_some _ c.args.entry.now.space s c.in-Some.is c.requires.known in
    let rows = c.self.view_is in
    let few = uses-within (length was.tiles.items) was.places was.entries was.pages.items s c.index_mut-in-Some.result.now
    (omega (arith, known, c.self.invariant.pages.spaces, ap (λ r. length r.tiles) rows)) c.index_mut-in-Some.ensures.value
    c.self.invariant.pages in
    record { room = omega (arith, few, c.requires.room, ap (λ r. r.entries) rows) }

pub invariant_of-self : goal.invariant_of-self
invariant_of-self c =
    let known : c.in-Some.space < length c.args.self.now.tiles = in_some _ c.args.entry.now.space c.in-Some.space c.in-Some.is
    c.requires.known in
    let rows = c.self.view_is in
    let tile = c.follow_same.ensures in
    let page = c.follow_same-in-Some.ensures in
    AreRows-followed _ c.in-Some.space c.index_mut.result.now c.index_mut-in-Some.result.now c.follow_same.new.self
    c.follow_same-in-Some.new.self c.self.invariant (omega (arith, c.requires.room, ap (λ r. r.entries) rows))
    (omega (arith, known, ap (λ r. length r.tiles) rows)) c.index_mut.ensures.value c.index_mut-in-Some.ensures.value
    (tile.places, tile.uses) (page.places, page.uses)

pub returns-in-Some-clause-stands : goal.returns-in-Some-clause-stands
returns-in-Some-clause-stands c = λ g' history told stands.
    let e = c.args.entry.now in
    let s = c.in-Some.space in
    let tells = in_some _ e.space s c.in-Some.is told in
    let state = space_at g' history s in
    StandAfter-followed g' history e s _ c.follow_same.new.self c.follow_same-in-Some.new.self (search rules) (search rules) c.in-Some.is (
      c.index_mut.result.now,
      search rules,
      c.follow_same.ensures.stands g'.sizes state e (followed g'.sizes g' s (space_part s history)) tells.0,
    ) (
      c.index_mut-in-Some.result.now,
      search rules,
      c.follow_same-in-Some.ensures.stands base_alone state e (followed base_alone g' s (space_part s history)) tells.1,
    )
    (subst (λ k. StandAfter g' k history) (sym c.self.view_is) stands) _ _

pub returns-in_default-clause-stands : goal.returns-in_default-clause-stands
returns-in_default-clause-stands c = λ g' history told stands. StandAfter-none g' history c.args.entry.now _ (search rules) stands
