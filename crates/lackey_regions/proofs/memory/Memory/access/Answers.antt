-- the access goes on in the next page
use Rattle.std.proofs.Common.{◌≡◌, ◌+◌, ◌/◌, ◌%◌, ◌<◌, arith, inl, inr}
use Rattle.lackey_regions.specs.LineCalls.{stores_of}
use Rattle.lackey_regions.proofs.AddedCalls.{made_over}
use Rattle.lackey_regions.proofs.Causes.{passed_on}
use Rattle.lackey_regions.specs.Refusals.{IsPageOf}
use Rattle.lackey_regions.proofs.memory.Memory.access.Goals as goal

pub returns-in_ok-words-2-clause-made : goal.returns-in_ok-words-2-clause-made
returns-in_ok-words-2-clause-made c =
    let over : 8192 < c.args.access.address % 8192 + c.args.access.size = omega (arith, c.if-offset-from-gt-PAGE_BYTES.true, c.from.ensures) in
    made_over _ _ _ _ _ (stores_of c.args.access.kind) c.args.access.address c.args.access.size c.in_ok-words.ensures.made
    c.in_ok-words-2.ensures.keeps c.in_ok-words-2.ensures.made over

pub returns-in_err-words-clause-refused : goal.returns-in_err-words-clause-refused
returns-in_err-words-clause-refused c =
    passed_on (λ p. p ≡ c.args.access.address / 8192) (IsPageOf c.args.access) _ _ c.from_residual.result c.in_err-words.field-0.0
    (λ p same. inl same) c.from_residual.ensures.1 c.in_err-words.ensures.refused

pub returns-in_err-words-2-clause-refused : goal.returns-in_err-words-2-clause-refused
returns-in_err-words-2-clause-refused c =
    let over : 8192 < c.args.access.address % 8192 + c.args.access.size = omega (arith, c.if-offset-from-gt-PAGE_BYTES.true, c.from.ensures) in
    passed_on (λ p. p ≡ c.args.access.address / 8192 + 1) (IsPageOf c.args.access) _ _ c.from_residual-in_err-words-2.result
    c.in_err-words-2.field-0.0 (λ p same. inr (same, over)) c.from_residual-in_err-words-2.ensures.1 c.in_err-words-2.ensures.refused
