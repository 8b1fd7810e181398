use Rattle.std.proofs.Common.{[], rules}
use Rattle.std.proofs.lemmas.List.Elements.{All-append, All-cons, All-nil}
use Rattle.miss_curves.specs.Histories.{IsNew}
use Rattle.miss_curves.proofs.counting.new_spaces.Goals as goal

pub loop-preserved : goal.loop-preserved
loop-preserved c =
    let created = c.in_ok-space.ensures in
    let new : IsNew c.args.frames c.in_ok-space.space = record { frames_are = created.frames; follows = created.follows } in (
      search rules,
      rw c.in_ok-push.ensures.items
          (All-append (IsNew c.args.frames) _ _ c.loop.invariant.1 (All-cons (IsNew c.args.frames) _ [] new
          (All-nil (IsNew c.args.frames)))),
    )
