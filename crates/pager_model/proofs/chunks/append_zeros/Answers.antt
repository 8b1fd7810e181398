use Rattle.std.proofs.Common.{◌≡◌, ◌∙◌, ap, replicate, ℕ, arith, vec_len}
use Rattle.pager_model.proofs.chunks.append_zeros.Goals as goal

-- src/lib.rt:97:1
pub returns-clause-words : goal.returns-clause-words
returns-clause-words c =
    let full : vec_len c.loop-words.words ≡ 1024 = omega (arith, c.loop-words-test.false, c.len.ensures, c.loop-words.invariant.1) in
    c.loop-words.invariant.0 ∙ ap (λ (n : ℕ). replicate n 0) full
