use Rattle.std.proofs.Common.{◌/◌, ap, ◌∙◌, arith}
use Rattle.std.proofs.Math.ListN.{set}
use Rattle.std.proofs.lemmas.Bool.{OnTrue_from, OnFalse_from, not-false, eqb-true}
use Rattle.bit_set.specs.Bits.{bits_of}
use Rattle.bit_set.proofs.Sets.{bits_of-set, has_by_word, lacks_by_word, word_of_bit, word_written, not_zero}
use Rattle.bit_set.proofs.level.Level.put.Goals as goal

pub set-requires : goal.set-requires
set-requires g c = word_of_bit c.self.inside.store.words.items c.args.self.now c.args.bit c.self.view_is c.requires

pub returns-clause-bits : goal.returns-clause-bits
returns-clause-bits g c =
    let words = c.self.inside.store.words.items in
    ap bits_of c.set.ensures.words
    ∙ (bits_of-set words c.args.bit c.with_bit-word.result c.args.is_set
    (omega (arith, word_of_bit words c.args.self.now c.args.bit c.self.view_is c.requires)) c.with_bit-word.ensures.same
    (rw c.get.ensures.word at c.with_bit-word.ensures.others)
    ∙ ap (λ bits. set bits c.args.bit c.args.is_set) c.self.view_is)

pub returns-clause-some : goal.returns-clause-some
returns-clause-some g c =
    let words = c.set.new.self.words.items in
    let written = word_written c.self.inside.store.words.items words c.args.self.now c.args.bit c.with_bit-word.result c.self.view_is c.requires c.set.ensures.words in
    OnTrue_from _ _ (λ some. has_by_word words (c.args.bit / 64) c.with_bit-word.result written (not_zero c.with_bit-word.result some)
    (omega arith))

pub returns-clause-none : goal.returns-clause-none
returns-clause-none g c =
    let words = c.set.new.self.words.items in
    let written = word_written c.self.inside.store.words.items words c.args.self.now c.args.bit c.with_bit-word.result c.self.view_is c.requires c.set.ensures.words in
    OnFalse_from _ _ (λ none. lacks_by_word words (c.args.bit / 64) (written ∙ eqb-true _ _ (not-false _ none)))
