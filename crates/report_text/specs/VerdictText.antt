-- The text of a checker's verdict: `yes`, or `no` and the number of the first entry that isn't legal.
use Rattle.std.specs.Prelude.{ℕ, List, [], ◌∷◌, codes, decimal, Option, Some, None}
use Rattle.pager_model.specs.TraceText.{line_of_words}

abbrev pub verdict_text : Option ℕ → List ℕ
verdict_text None = line_of_words (codes "yes" ∷ [])
verdict_text (Some entry) = line_of_words (codes "no" ∷ decimal entry ∷ [])
