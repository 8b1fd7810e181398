use Rattle.std.proofs.Common.{arith}
use Rattle.std.proofs.lemmas.Bool.Decides.{nat_tests}
use Rattle.pager_model.proofs.Histories.{space_at-other}
use Rattle.pager_model.specs.CallEntries.{answer_entry}
use Rattle.pager_laws.proofs.laws.a_call_changes_no_other_space.Goals as goal

pub returns : goal.returns
returns c g history d number s call a other = space_at-other g history (answer_entry d number call a) s (grind (arith, nat_tests))
