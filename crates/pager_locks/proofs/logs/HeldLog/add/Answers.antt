use Rattle.std.proofs.Common.{◌≡◌, Some}
use Rattle.pager_locks.proofs.GrownLogs.{same_part, part_written, goes_on, goes_on_by}
use Rattle.pager_locks.proofs.logs.HeldLog.add.Goals as goal

pub returns-then-entry-clause-grown : goal.returns-then-entry-clause-grown
returns-then-entry-clause-grown c = λ from was.
    let s = c.args.self.now in
    let e = c.args.entry.now in
    let pass : s.pass ≡ Some c.in-Some.pass = (let value = c.take.ensures.value in let is = c.in-Some.is in cc) in
    let space : s.space ≡ Some c.in-Some-take-2.space = (let value = c.take-2.ensures.value in let is = c.in-Some-take-2.is in cc) in
    let frames : s.frames ≡ Some c.in-Some-take-3.frames =
    (let value = c.take-then-entry.ensures.value in let is = c.in-Some-take-3.is in cc) in
    record {
      journal = was.journal;
      same_space = same_part from.space s.space (Some c.commit_two-space.result.1) was.same_space
          (part_written s.space c.in-Some-take-2.space c.commit_two-space.result.1 e space c.commit_two-space.ensures.space);
      same_frames = same_part from.frames s.frames (Some c.commit_two-space.result.2) was.same_frames
          (part_written s.frames c.in-Some-take-3.frames c.commit_two-space.result.2 e frames c.commit_two-space.ensures.frames);
      goes_on = goes_on from.pass s.pass (Some c.commit_two-space.result.3) was.goes_on
          (goes_on_by s.pass c.in-Some.pass c.commit_two-space.result.3 c.commit_two-space.result.0 e pass c.commit_two-space.ensures.pass);
    }

pub returns-clause-grown : goal.returns-clause-grown
returns-clause-grown c = λ from was.
    let s = c.args.self.now in
    let e = c.args.entry.now in
    let pass : s.pass ≡ Some c.in-Some.pass = (let value = c.take.ensures.value in let is = c.in-Some.is in cc) in
    let space : s.space ≡ Some c.in-Some-take-2.space = (let value = c.take-2.ensures.value in let is = c.in-Some-take-2.is in cc) in
    record {
      journal = was.journal;
      same_space = same_part from.space s.space (Some c.commit-space.result.1) was.same_space
          (part_written s.space c.in-Some-take-2.space c.commit-space.result.1 e space c.commit-space.ensures.author);
      same_frames = was.same_frames;
      goes_on = goes_on from.pass s.pass (Some c.commit-space.result.2) was.goes_on
          (goes_on_by s.pass c.in-Some.pass c.commit-space.result.2 c.commit-space.result.0 e pass c.commit-space.ensures.pass);
    }
