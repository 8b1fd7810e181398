use Rattle.std.proofs.Common.{get_or, sym, subst, ◌∙◌}
use Rattle.std.proofs.lemmas.Option.{same_Some}
use Rattle.pager_model.specs.Legal.{space_at}
use Rattle.followed_space.specs.Follows.{IsNext}
use Rattle.miss_curves.proofs.FollowedEntries.{FollowEach-named, FollowEach-none, named_next}
use Rattle.miss_curves.proofs.entries.follow_next.Goals as goal

pub bounds-spaces-space : goal.bounds-spaces-space
bounds-spaces-space c =
    let n = c.requires.next in
    (named_next c.args.sizes n.0 n.1 c.args.stacks.now c.args.spaces.now c.args.entry.now c.in-Some.space c.in-Some.is n.2 n.3).within

pub follow_entry-requires-clause-next : goal.follow_entry-requires-clause-next
follow_entry-requires-clause-next c =
    let n = c.requires.next in
    let s = c.in-Some.space in
    let named = named_next c.args.sizes n.0 n.1 c.args.stacks.now c.args.spaces.now c.args.entry.now s c.in-Some.is n.2 n.3 in
    (space_at n.0 n.1 s, named.next c.index-spaces-space.result)

pub follow_entry-requires-clause-known : goal.follow_entry-requires-clause-known
follow_entry-requires-clause-known c =
    let n = c.requires.next in
    rw c.in-Some.is (named_next c.args.sizes n.0 n.1 c.args.stacks.now c.args.spaces.now c.args.entry.now c.in-Some.space c.in-Some.is n.2 n.3).stack

pub returns-in-Some-clause-keeps : goal.returns-in-Some-clause-keeps
returns-in-Some-clause-keeps c = λ g history keeps comes.
    let e = c.args.entry.now in
    let s = c.in-Some.space in
    let old = c.index-spaces-space.result in
    let named = named_next c.args.sizes g history c.args.stacks.now c.args.spaces.now e s c.in-Some.is keeps comes in
    let next = named.next old in
    record {
      sizes = keeps.sizes;
      stands =
          c.follow_entry.ensures.stands g history keeps.sizes
          (λ t is. subst (λ n. IsNext (get_or c.args.spaces.now s old) (space_at g history n) e)
          (same_Some s t (sym c.in-Some.is ∙ is)) next) keeps.stands;
      follow =
          FollowEach-named g history e s c.args.spaces.now c.follow_entry.new.space named.within c.in-Some.is
          (c.follow_entry.ensures.frames ∙ keeps.follow.frames s old named.within)
          (c.follow_entry.ensures.follows (space_at g history s) next) keeps.follow;
    }

pub returns-in-None-clause-keeps : goal.returns-in-None-clause-keeps
returns-in-None-clause-keeps c = λ g history keeps comes. record {
  sizes = keeps.sizes;
  stands = c.follow_same.ensures.stands g history (rw c.in-None.is tt) keeps.stands;
  follow = FollowEach-none g history c.args.entry.now c.args.spaces.now c.in-None.is keeps.follow;
}
