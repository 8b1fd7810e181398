use Rattle.std.proofs.Common.{◌∙◌, ap, ℕ, List, slice_set}
use Rattle.std.proofs.lemmas.List.{take_at, length-set}
use Rattle.pager_model.specs.Frame.{Framed}
use Rattle.space_core.proofs.frames.set_word.Goals as goal

pub returns-clause-written : goal.returns-clause-written
returns-clause-written c =
    ap (λ (ws : List ℕ). let f : Framed = record { number = c.args.frame.now.number; words = ws } in f)
    (take_at _ _ 1024 (length-set _ _ _ ∙ c.words_mut.ensures.count) ∙ ap
    (λ (ws : List ℕ). slice_set ws c.args.index c.args.word) c.words_mut.ensures.words)
