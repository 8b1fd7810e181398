use Rattle.std.proofs.Common.{◌≡◌, get_or, take, sym, subst, ◌∙◌, arith}
use Rattle.std.proofs.lemmas.Option.{get_or_from_slice_get}
use Rattle.pager_model.specs.Legal.{entries_in}
use Rattle.miss_curves.specs.Histories.{StandsFor}
use Rattle.miss_curves.proofs.FollowedEntries.{comes-at, entries-more}
use Rattle.miss_curves.proofs.history.follow_history.Goals as goal

pub follow-requires-clause-comes : goal.follow-requires-clause-comes
follow-requires-clause-comes c =
    let start = c.requires.start in
    let history = c.args.history.now.items in
    let i = c.loop-place.place in
    let x = c.in-Some.numbered in
    let is : x ≡ get_or history i x = sym (get_or_from_slice_get history i x x (sym c.in-Some.ensures)) in (
      start.0,
      entries_in (take i history),
      c.loop-place.invariant.stands start.0 start.1 start.2,
      comes-at start.0 history i x (omega arith) is start.2,
    )

pub loop-place-preserved : goal.loop-place-preserved
loop-place-preserved c =
    let history = c.args.history.now.items in
    let i = c.loop-place.place in
    let x = c.in-Some.numbered in
    let is : x ≡ get_or history i x = sym (get_or_from_slice_get history i x x (sym c.in-Some.ensures)) in
    record {
      entries = omega (arith, c.follow.ensures.entries, c.loop-place.invariant.entries);
      places = c.follow.ensures.places ∙ c.loop-place.invariant.places;
      stands = λ g start each.
          subst (StandsFor c.follow.new.self g) (sym (entries-more history i x (omega arith) is))
          (c.follow.ensures.stands g (entries_in (take i history)) (c.loop-place.invariant.stands g start each)
          (comes-at g history i x (omega arith) is each));
    }
