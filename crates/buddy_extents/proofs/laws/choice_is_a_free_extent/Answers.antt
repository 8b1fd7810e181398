use Rattle.pager_model.proofs.FreeRuns.{IsExtent-choice, run_free-choice, choice_within, no_choice_exactly}
use Rattle.buddy_extents.proofs.laws.choice_is_a_free_extent.Goals as goal

pub returns : goal.returns
returns c = record { extent = IsExtent-choice; free = run_free-choice; within = choice_within; none = no_choice_exactly }
