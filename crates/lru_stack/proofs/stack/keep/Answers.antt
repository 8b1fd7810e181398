use Rattle.std.proofs.Common.{◌≡◌, rules, false, true, Some, sym, ◌∙◌, subst}
use Rattle.lru_stack.specs.Stacks.{Passes}
use Rattle.lru_stack.proofs.StackLemmas.{kept_at-fails, kept_at-passes}
use Rattle.lru_stack.proofs.stack.keep.Goals as goal

pub returns-then-not-is_tile-clause-kept : goal.returns-then-not-is_tile-clause-kept
returns-then-not-is_tile-clause-kept g c = λ was test told passes.
    let here : c.args.place.now ≡ Some c.in-Some.tile = search rules in
    let said : c.is_tile.result ≡ test c.in-Some.tile = told c.in-Some.tile c.is_tile.result (subst (Passes was) here passes)
    (search rules) in
    let fails : test c.in-Some.tile ≡ false = sym said ∙ search rules in
    kept_at-fails test c.args.place.now c.in-Some.tile here fails

pub returns-else-not-is_tile-clause-kept : goal.returns-else-not-is_tile-clause-kept
returns-else-not-is_tile-clause-kept g c = λ was test told passes.
    let here : c.args.place.now ≡ Some c.in-Some.tile = search rules in
    let said : c.is_tile.result ≡ test c.in-Some.tile = told c.in-Some.tile c.is_tile.result (subst (Passes was) here passes)
    (search rules) in
    let pass : test c.in-Some.tile ≡ true = sym said ∙ search rules in
    kept_at-passes test c.args.place.now c.in-Some.tile here pass
