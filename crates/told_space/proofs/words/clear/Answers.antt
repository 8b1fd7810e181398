use Rattle.std.proofs.Common.{◌≡◌, ◌≤◌, ◌<◌, ◌+◌, ◌*◌, false, subst, ◌∙◌}
use Rattle.std.specs.BTreeMap.{is_at}
use Rattle.std.specs.Cmp.{unsigned_tied}
use Rattle.std.specs.Ordering.{nat_cmp}
use Rattle.std.proofs.lemmas.Bool.{ne_eqb}
use Rattle.told_space.proofs.StoredWords.{word_cleared}
use Rattle.told_space.proofs.words.clear.Goals as goal

pub loop-key-preserved : goal.loop-key-preserved
loop-key-preserved c = λ k outside.
    let key = c.in-Some.key in
    let there = c.in-Some.ensures.some in
    let other : is_at (nat_cmp key) k ≡ false =
    unsigned_tied key k ∙ ne_eqb key k (λ same. outside (subst (λ n. c.args.first * 1024 ≤ n) same there.0) (subst (λ n. n < (c.args.first + c.args.length) * 1024) same there.1)) in
    c.remove.ensures.updates.2 k other ∙ c.loop-key.invariant k outside

pub returns : goal.returns
returns c =
    word_cleared c.args.words.now c.loop-key.words c.args.first c.args.length
    (λ k from below. c.in_default.ensures.none k from below)
    (λ k outside. c.loop-key.invariant k outside)
