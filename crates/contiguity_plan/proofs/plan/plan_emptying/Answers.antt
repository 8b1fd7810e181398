use Rattle.std.proofs.Common.{[], length, sym, subst}
use Rattle.pager_model.specs.FrameStates.{start_frames}
use Rattle.pager_model.specs.Legal.{frames_at, entries_in}
use Rattle.pager_model.specs.Settings.{Given}
use Rattle.pager_laws.specs.Laid.{IsSound}
use Rattle.pager_laws.proofs.LegalHistories.{IsKept-legal}
use Rattle.contiguity_plan.specs.Emptying.{IsOver}
use Rattle.contiguity_plan.specs.Tables.{IsRight}
use Rattle.contiguity_plan.proofs.Emptied.{empties-planned}
use Rattle.contiguity_plan.proofs.Followed.{known-spaces}
use Rattle.contiguity_plan.proofs.plan.plan_emptying.Goals as goal

pub follow-requires-clause-known : goal.follow-requires-clause-known
follow-requires-clause-known c = known-spaces c.requires.legal.0 c.args.frames c.args.history.now.items c.requires.legal.1

pub returns : goal.returns
returns c =
    let history = entries_in c.args.history.now.items in
    let planned = λ (g : Given) (over : IsOver c.args.frames g history).
    (let begun : IsRight (frames_at g []) c.in_ok-table.table = subst
    (λ n. IsRight (start_frames g.sizes n (length g.marks)) c.in_ok-table.table) (sym over.frames_are)
    (c.in_ok-table.ensures.right g.sizes (length g.marks) over.processors) in
    c.in_ok-planned.ensures (frames_at g history) (c.in_ok-follow.ensures.right g over.legal begun)) in
    record {
      planned = planned;
      empties = λ g over.
          let sound = subst (λ n. IsSound n (length g.marks) (frames_at g history)) over.frames_are
          (IsKept-legal g history over.legal).sound in
          empties-planned c.args.frames (length g.marks) (frames_at g history) c.args.size c.in_ok-planned.planned sound (planned g over);
    }
