use Rattle.pager_model.proofs.FreeRuns.{run_free_exactly}
use Rattle.buddy_extents.proofs.laws.free_runs_are_free_frames.Goals as goal

pub returns : goal.returns
returns c = run_free_exactly
