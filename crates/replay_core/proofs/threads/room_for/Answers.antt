use Rattle.std.proofs.Common.{◌≡◌, ◌∙◌, ℕ, ◌+◌, ◌<◌, List, length, get_or, take, ap, arith}
use Rattle.std.proofs.lemmas.List.{take_more}
use Rattle.std.proofs.lemmas.List.Sums.{sum_by_push}
use Rattle.pager_model.specs.declared.trace.Job.{Job}
use Rattle.pager_core.specs.Running.{entries_of_job}
use Rattle.replay_core.specs.Jobs.{room_for}
use Rattle.replay_core.proofs.threads.room_for.Goals as goal

room_more : (jobs : List Job) (n room one : ℕ) (d : Job) → n < length jobs → room ≡ room_for (take n jobs)
    → one ≡ entries_of_job (get_or jobs n d) → room + one ≡ room_for (take (n + 1) jobs)
room_more jobs n room one d below so_far is =
    let more : room_for (take (n + 1) jobs) ≡ room_for (take n jobs) + entries_of_job (get_or jobs n d) =
    ap room_for (take_more jobs n d below) ∙ sum_by_push entries_of_job (take n jobs) (get_or jobs n d) in
    omega (arith, more, so_far, is)

pub loop-job-preserved : goal.loop-job-preserved
loop-job-preserved c = room_more _ _ _ _ _ c.loop-job-test.true c.loop-job.invariant c.entries_of_job-room.ensures
