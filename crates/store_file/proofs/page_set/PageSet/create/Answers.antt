use Rattle.store_file.proofs.PageBits.{bits_of-none}
use Rattle.store_file.proofs.page_set.PageSet.create.Goals as goal

pub returns : goal.returns
returns c = bits_of-none c.in_ok-words.words.items (c.in_ok-words.ensures.items_if_clones_equal (λ y same. same))
