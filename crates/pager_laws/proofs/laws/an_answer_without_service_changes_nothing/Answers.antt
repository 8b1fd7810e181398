use Rattle.pager_laws.proofs.CopyLaws.{same_flat, same_frames}
use Rattle.pager_laws.proofs.laws.an_answer_without_service_changes_nothing.Goals as goal

pub returns : goal.returns
returns c = record {
  flat = λ st e number call a allowed. same_flat st e allowed number call a;
  frames = λ st e number call a allowed. same_frames st e allowed number call a;
}
