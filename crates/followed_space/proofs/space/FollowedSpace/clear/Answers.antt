use Rattle.std.proofs.Common.{◌∙◌}
use Rattle.std.proofs.lemmas.Bool.{cond-false}
use Rattle.followed_space.specs.contracts.space.FollowedSpace.{the_view}
use Rattle.followed_space.proofs.ClearedPages.{changes_blocks, clear_next}
use Rattle.followed_space.proofs.space.FollowedSpace.clear.Goals as goal

pub remove_all-requires : goal.remove_all-requires
remove_all-requires c =
    let n = rw (← c.self.view_is) at c.requires.next in
    clear_next (the_view c.self.inside) c.args.first c.args.length c.self.invariant.ordered n.0 n.1 n.2 n.3

pub blocks_round-requires : goal.blocks_round-requires
blocks_round-requires c =
    let n = rw (← c.self.view_is) at c.requires.next in
    clear_next (the_view c.self.inside) c.args.first c.args.length c.self.invariant.ordered n.0 n.1 n.2 n.3

pub returns-clause-changed : goal.returns-clause-changed
returns-clause-changed c =
    rw (← c.self.view_is)
    (changes_blocks c.args.first c.args.length c.blocks_round.result c.self.inside.pages c.remove_all.new.pages c.blocks_round.ensures.round
    (λ p out. c.remove_all.ensures.clears p ∙ cond-false _ _ _ out))
