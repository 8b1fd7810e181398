use Rattle.std.proofs.Common.{cond, Some, ap, ◌∙◌, arith}
use Rattle.std.specs.BTreeMap.{get, is_at}
use Rattle.std.specs.Ordering.{nat_cmp}
use Rattle.pager_model.specs.Flat.{page_of, word_of}
use Rattle.told_space.proofs.StoredWords.{word_written}
use Rattle.told_space.proofs.words.write.Goals as goal

pub returns : goal.returns
returns c =
    word_written c.args.words.now c.insert.new.self (page_of c.args.address) (word_of c.args.address) c.args.word (omega arith)
    (λ k. c.in_ok-insert.ensures.updates.0 k
    ∙ ap (λ n. cond (is_at (nat_cmp n) k) (Some c.args.word) (get nat_cmp c.args.words.now k)) c.key_of.ensures)
