use Rattle.pager_laws.proofs.CopyLaws.{dirty-written, dirty-failed}
use Rattle.pager_laws.proofs.laws.a_clean_page_is_never_written.Goals as goal

pub returns : goal.returns
returns c = record {
  written = λ st e page allowed. dirty-written st e allowed page;
  failed = λ st e page count allowed. dirty-failed st e allowed page count;
}
