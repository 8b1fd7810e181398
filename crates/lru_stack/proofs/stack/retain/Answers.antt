use Rattle.std.proofs.Common.{◌<◌, length, get_or, rules, arith, sym, ◌∙◌, subst}
use Rattle.lru_stack.specs.Stacks.{kept_at, Passes}
use Rattle.lru_stack.proofs.DistinctTiles.{count-set}
use Rattle.lru_stack.proofs.StackLemmas.{map_more, same_drop, same_next}
use Rattle.lru_stack.proofs.stack.retain.Goals as goal

pub loop-place-preserved : goal.loop-place-preserved
loop-place-preserved g c =
    let i = c.loop-place.place-index in
    let within : i < length c.loop-place.places = omega arith in (
      same_next c.loop-place.places c.args.places.now i c.keep.new.place within c.loop-place.invariant.0,
      λ was test told all.
          let first = same_drop c.loop-place.places c.args.places.now i c.place-item.result within c.loop-place.invariant.0 in
          let here : Passes was (get_or c.loop-place.places i c.place-item.result) =
          subst (Passes was) (sym first.1) (all i c.place-item.result first.0) in
          c.loop-place.invariant.1 was test told all
          ∙ map_more (kept_at test) c.loop-place.places i c.place-item.result c.keep.new.place within
          (c.keep.ensures.kept was test told (search rules) ∙ search rules),
      λ t. omega (
        arith,
        c.loop-place.invariant.2 t,
        count-set t c.loop-place.places i c.place-item.result c.keep.new.place within c.keep.ensures.own,
      ),
    )
