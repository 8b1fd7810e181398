use Rattle.std.proofs.Common.{◌≡◌, true, subst, sym}
use Rattle.pager_model.specs.declared.call.Call.{Call}
use Rattle.pager_model.specs.Flat.{is_lawful, reply_of, words_after}
use Rattle.told_space.specs.Told.{HasWords}
use Rattle.told_space.proofs.StoredWords.{on_ok, words_discarded, words_stored, words_unmapped}
use Rattle.told_space.proofs.words.serve.Goals as goal

pub returns-in-Store : goal.returns-in-Store
returns-in-Store c =
    let s = c.in-Store in
    on_ok c.write.result
    (λ writes f same lawful has. subst (λ (call : Call). HasWords c.write.new.words (words_after f call)) (sym s.is)
    (words_stored f c.args.words.now c.write.new.words s.space s.address s.word
    (subst (λ (call : Call). is_lawful (reply_of f call) ≡ true) s.is lawful) writes has))
    c.write.ensures

pub returns-in-Unmap : goal.returns-in-Unmap
returns-in-Unmap c = λ f same lawful has.
    let s = c.in-Unmap in
    subst (λ (call : Call). HasWords c.clear_region.new.words (words_after f call)) (sym s.is)
    (words_unmapped f c.args.space.now.regions c.args.words.now c.clear_region.new.words s.space s.page same c.clear_region.ensures has)

pub returns-in-Discard : goal.returns-in-Discard
returns-in-Discard c = λ f same lawful has.
    let s = c.in-Discard in
    subst (λ (call : Call). HasWords c.clear_range.new.words (words_after f call)) (sym s.is)
    (words_discarded f c.args.space.now.regions c.args.words.now c.clear_range.new.words s.space s.page s.length same
    (subst (λ (call : Call). is_lawful (reply_of f call) ≡ true) s.is lawful) c.clear_range.ensures has)
