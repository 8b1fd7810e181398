use Rattle.std.proofs.Common.{◌<◌, length, rules, sym, ◌∙◌, arith}
use Rattle.lru_stack.proofs.DistinctTiles.{shifted-stop}
use Rattle.lru_stack.proofs.stack.push_front.Goals as goal

pub returns-in-None : goal.returns-in-None
returns-in-None c =
    let row = c.loop-place.places in
    let i = c.loop-place.place-index in
    let within : i < length row = omega arith in
    shifted-stop row i c.place-item.result c.loop-place.carried c.replace.new.self within (search rules) (search rules)
    ∙ sym c.loop-place.invariant
