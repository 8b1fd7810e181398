use Rattle.std.proofs.Common.{◌∙◌, arith}
use Rattle.std.proofs.lemmas.List.{get_or_default}
use Rattle.store_file.proofs.PageBits.{inserted}
use Rattle.store_file.proofs.page_set.PageSet.insert.Goals as goal

pub returns : goal.returns
returns c = inserted c.self.inside.words.items c.args.self.now c.args.page c.index_mut.result.now c.self.view_is (omega arith)
    (c.index_mut.ensures.value ∙ get_or_default c.self.inside.words.items _ _ 0 (omega arith))
