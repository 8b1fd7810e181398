use Rattle.std.proofs.Common.{◌∙◌, refl}
use Rattle.std.proofs.lemmas.Bool.{cond-false}
use Rattle.page_rights.specs.Rights.{rights_of}
use Rattle.region_table.proofs.RegionRights.{lies_in_space, protect_owned}
use Rattle.followed_space.specs.contracts.space.FollowedSpace.{the_view}
use Rattle.followed_space.proofs.ClearedPages.{changes_blocks}
use Rattle.followed_space.proofs.RegionCalls.{protect_next, follows_protected}
use Rattle.followed_space.proofs.space.FollowedSpace.protect.Goals as goal

pub set-requires : goal.set-requires
set-requires c =
    let n = rw (← c.self.view_is) at c.requires.next in
    let s = the_view c.self.inside in
    lies_in_space s.regions c.args.page c.args.length c.self.invariant.ordered
    (protect_next s n.2 c.args.page c.args.length c.args.rights n.0 n.1 n.3 n.4)

pub after_rights-requires-clause-range : goal.after_rights-requires-clause-range
after_rights-requires-clause-range c =
    let n = rw (← c.self.view_is) at c.requires.next in
    let s = the_view c.self.inside in
    lies_in_space s.regions c.args.page c.args.length c.self.invariant.ordered
    (protect_next s n.2 c.args.page c.args.length c.args.rights n.0 n.1 n.3 n.4)

pub blocks_round-requires : goal.blocks_round-requires
blocks_round-requires c =
    let n = rw (← c.self.view_is) at c.requires.next in
    let s = the_view c.self.inside in
    lies_in_space s.regions c.args.page c.args.length c.self.invariant.ordered
    (protect_next s n.2 c.args.page c.args.length c.args.rights n.0 n.1 n.3 n.4)

pub invariant_of-self : goal.invariant_of-self
invariant_of-self c =
    let s = the_view c.self.inside in
    let n = rw (← c.self.view_is) at c.requires.next in
    let lies = protect_next s n.2 c.args.page c.args.length c.args.rights n.0 n.1 n.3 n.4 in
    record {
      ordered = c.self.invariant.ordered;
      owned =
          protect_owned s.regions c.args.page c.args.length c.args.rights (rights_of s.own)
          (rights_of c.set.new.self) c.self.invariant.ordered lies c.set.ensures
          c.self.invariant.owned;
    }

pub returns-clause-follows : goal.returns-clause-follows
returns-clause-follows c =
    rw (← c.self.view_is)
    (follows_protected (the_view c.self.inside) _ c.args.page c.args.length c.args.rights
    (record { regions = refl; gives = c.set.ensures; protects = c.after_rights.ensures.protects }))

pub returns-clause-changed : goal.returns-clause-changed
returns-clause-changed c =
    rw (← c.self.view_is)
    (changes_blocks c.args.page c.args.length c.blocks_round.result c.self.inside.pages c.after_rights.new.base c.blocks_round.ensures.round
    (λ p out. c.after_rights.ensures.protects.at p ∙ cond-false _ _ _ out))
