use Rattle.std.proofs.Common.{ap, sym, ◌∙◌}
use Rattle.told_space.proofs.StoredWords.{is_served, on_ok, words_followed, words_same}
use Rattle.told_space.proofs.words.follow_words.Goals as goal

pub returns-then-not-is_lawful : goal.returns-then-not-is_lawful
returns-then-not-is_lawful c = λ st frames d same allowed has p i low.
    words_same st frames d c.args.what.now (ap is_served c.in-Answer.is ∙ sym c.is_lawful.ensures ∙ c.if-not-is_lawful.true) allowed p i
    ∙ has p i low

pub returns : goal.returns
returns c =
    on_ok c.serve.result
    (λ serves. words_followed c.args.words.now c.serve.new.words c.args.space.now.regions c.args.what.now c.in-Answer.number c.in-Answer.call
    c.in-Answer.answered c.in-Answer.is (sym c.is_lawful.ensures ∙ c.if-not-is_lawful.false) serves)
    c.serve.ensures
