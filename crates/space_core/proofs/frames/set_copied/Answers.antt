use Rattle.std.proofs.Common.{ℕ, List, length, sym, ap, ◌∙◌}
use Rattle.std.proofs.lemmas.List.{take_at}
use Rattle.pager_model.specs.Frame.{Framed}
use Rattle.store_core.specs.CopiedWords.{copied_words}
use Rattle.space_core.proofs.frames.set_copied.Goals as goal

-- the frame of this number with other words
abbrev with_words : ℕ → List ℕ → Framed
with_words number words = record { number = number; words = words }

pub returns-in-Words : goal.returns-in-Words
returns-in-Words c =
    let after = c.copy_from_slice.ensures.after in
    let all = take_at c.copy_from_slice.new.self _ 1024 (ap length after ∙ c.requires) ∙ after in
    let told = ap (λ copied. copied_words copied c.args.words.now) (sym c.in-Words.is) in
    ap (with_words c.args.frame.now.number) (all ∙ told)
