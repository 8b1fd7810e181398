use Rattle.std.proofs.Common.{[], rules}
use Rattle.std.proofs.lemmas.List.Elements.{All-append, All-cons, All-nil}
use Rattle.lru_stack.specs.Stacks.{IsBlank}
use Rattle.miss_curves.proofs.stacks.blank_stacks.Goals as goal

pub loop-preserved : goal.loop-preserved
loop-preserved c = (
  search rules,
  rw c.in_ok-push.ensures.items
      (All-append (IsBlank c.args.places) _ _ c.loop.invariant.1 (All-cons (IsBlank c.args.places) _ [] c.in_ok-create.ensures.blank
      (All-nil (IsBlank c.args.places)))),
)
