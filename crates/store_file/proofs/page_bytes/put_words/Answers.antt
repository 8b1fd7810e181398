use Rattle.std.proofs.Common.{◌≡◌, ◌-◌, ◌*◌, ◌/◌, ◌%◌, get_or, length, inl, inr, ap, ap₂, ◌∙◌, arith}
use Rattle.std.specs.Int.{to_le_bytes, w64}
use Rattle.std.proofs.lemmas.Bool.{cases_lt}
use Rattle.store_file.proofs.PageWords.{get_or-before, get_or-within}
use Rattle.store_file.proofs.page_bytes.put_words.Goals as goal

-- the bytes of the word are in its place, and those before it stay
pub loop-index-preserved : goal.loop-index-preserved
loop-index-preserved c at low =
    let first = 8 * c.loop-index.index in
    let words = c.args.words.now in
    let piece = c.copy_from_slice.new.self in
    let is : piece ≡ to_le_bytes w64 (get_or words c.loop-index.index 0) = c.copy_from_slice.ensures.after ∙ c.to_le_bytes.ensures in
    elim (cases_lt at first) [
      | inl before ↦ get_or-before c.loop-index.bytes _ first at 0 (omega arith) before ∙ c.loop-index.invariant at before
      | inr on ↦
          let index : c.loop-index.index ≡ at / 8 = omega arith in
          let byte : at - first ≡ at % 8 = omega arith in
          get_or-within c.loop-index.bytes piece _ first at 0 (omega arith) on (omega (arith, low, ap length is))
          ∙ ap (λ bytes. get_or bytes (at - first) 0) is
          ∙ ap₂ (λ i k. get_or (to_le_bytes w64 (get_or words i 0)) k 0) index byte
    ]
