use Rattle.std.proofs.Common.{[], rules}
use Rattle.std.proofs.lemmas.List.Elements.{All-append, All-cons, All-nil}
use Rattle.history_check.specs.Standing.{IsNewSpace}
use Rattle.history_check.proofs.checker.new_spaces.Goals as goal

pub loop-preserved : goal.loop-preserved
loop-preserved c =
    let created = c.in_ok-space.ensures in
    let new : IsNewSpace c.args.sizes c.args.frames c.args.processors c.in_ok-space.space =
    record { stands = created.stands; images = created.images; pages = created.frames } in (
      search rules,
      rw c.in_ok-push.ensures.items
          (All-append (IsNewSpace c.args.sizes c.args.frames c.args.processors) _ _ c.loop.invariant.1
          (All-cons (IsNewSpace c.args.sizes c.args.frames c.args.processors) _ [] new
          (All-nil (IsNewSpace c.args.sizes c.args.frames c.args.processors)))),
    )
