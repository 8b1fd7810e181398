use Rattle.std.proofs.Common.{◌≡◌, ℕ, ◌≤◌, Some, length, map, take, get_or, vec_capacity}
use Rattle.replay_core.specs.declared.jobs.Worker.{Worker}
use Rattle.replay_core.proofs.jobs.take_back.Given as goal

abbrev pub invariant-loop-worker : goal.invariant-loop-worker
invariant-loop-worker l = record {
  passes : map Some l.passes.items ≡ map (λ (w : Worker). w.pass) (take l.worker-index l.fn.workers);
  rest : (k : ℕ) (d : Worker) → l.worker-index ≤ k → get_or l.worker-items k d ≡ get_or l.fn.workers k d;
  count : length l.passes.items ≡ l.worker-index;
  room : vec_capacity l.passes ≡ vec_capacity l.fn.room;
}
