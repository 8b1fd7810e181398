use Rattle.std.proofs.Common.{◌≡◌, ◌+◌, ◌++◌, Some, length, map, reverse, take, vec_capacity}
use Rattle.replay_core.specs.declared.jobs.Worker.{Worker}
use Rattle.replay_core.specs.Jobs.{jobs_in}
use Rattle.replay_core.proofs.jobs.hand_out.Given as goal

abbrev pub invariant-loop-worker : goal.invariant-loop-worker
invariant-loop-worker l = record {
  passes : map (λ (w : Worker). w.pass) (take l.worker-index l.worker-items) ++ map Some (reverse l.passes.items)
      ≡ map Some l.fn.passes.items;
  same_jobs : jobs_in l.worker-items ≡ jobs_in l.fn.workers;
  left : l.worker-index + length l.passes.items ≡ length l.fn.passes.items;
  room : vec_capacity l.passes ≡ vec_capacity l.fn.passes;
}
