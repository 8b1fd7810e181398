use Rattle.std.proofs.Common.{◌≡◌, ℕ, List, [], ◌∷◌, codes, sym, ap, ◌∙◌}
use Rattle.std.proofs.lemmas.Slice.Eq.{bytes_eq-Decides}
use Rattle.trace_lines.specs.Words.{seen}
use Rattle.trace_lines.proofs.Calls.{word_at, three}
use Rattle.trace_lines.proofs.line.daemon_numbers.Goals as goal

pub returns-in-len3-clause-some : goal.returns-in-len3-clause-some
returns-in-len3-clause-some c =
    let words = c.as_slice.result.now in
    let name : word_at words 0 ≡ codes "daemon" = (bytes_eq-Decides (word_at words 0) (codes "daemon")).0 (sym c.if-eq.ensures) in
    sym c.in_ok-words.ensures.words ∙ ap seen (sym c.as_slice.ensures.value) ∙ three words c.in-len3.len_at_least c.in-len3.len_below
    ∙ ap (λ (w : List ℕ). w ∷ word_at words 1 ∷ word_at words 2 ∷ []) name
