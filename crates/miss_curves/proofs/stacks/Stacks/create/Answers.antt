use Rattle.std.proofs.Common.{rules, sym, ◌∙◌, arith}
use Rattle.miss_curves.proofs.AllStacks.{AreStacks-blank, StandEach-blank}
use Rattle.miss_curves.specs.Curves.{base_alone}
use Rattle.miss_curves.proofs.stacks.Stacks.create.Goals as goal

pub invariant_of-result : goal.invariant_of-result
invariant_of-result c =
    let first = c.in_ok-blank_stacks.ensures in
    let second = c.in_ok-blank_stacks-2.ensures in
    record {
      counted = omega arith;
      few = omega (arith, first.spaces, c.requires.spaces);
      tiles = AreStacks-blank _ c.args.places _ (search rules) first.blank;
      pages = AreStacks-blank _ c.args.places _ (second.spaces ∙ sym first.spaces) second.blank;
    }

pub returns-clause-stands : goal.returns-clause-stands
returns-clause-stands c = λ g same.
    let first = c.in_ok-blank_stacks.ensures in
    let second = c.in_ok-blank_stacks-2.ensures in
    record {
      tiles = StandEach-blank g.sizes g c.args.places _ (first.spaces ∙ sym same) first.blank;
      pages = StandEach-blank base_alone g c.args.places _ (second.spaces ∙ sym same) second.blank;
    }
