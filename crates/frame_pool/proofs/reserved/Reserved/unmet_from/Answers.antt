use Rattle.std.proofs.Common.{◌≡◌, ◌^◌, false, sym, ap, ◌∙◌, arith}
use Rattle.std.proofs.Math.Nat.{div-mul-le_self, lt-div-mul-add}
use Rattle.pager_model.specs.Layouts.{meets_any, used_in}
use Rattle.pager_model.proofs.ExtentLemmas.{eight_pos}
use Rattle.frame_pool.proofs.MappedLooks.{covering-apart}
use Rattle.frame_pool.proofs.reserved.Reserved.unmet_from.Goals as goal

pub meets_any-requires-clause-aligned : goal.meets_any-requires-clause-aligned
meets_any-requires-clause-aligned c = rw c.extent_round-extent.ensures.size (omega arith, c.extent_round-extent.ensures.aligned)

pub left_in-requires : goal.left_in-requires
left_in-requires c =
    rw (c.extent_round-extent.ensures.size, c.extent_round-extent.ensures.first)
    (div-mul-le_self c.args.page (8 ^ c.args.size), lt-div-mul-add (eight_pos c.args.size))

pub returns : goal.returns
returns c = λ other low high.
    let l = c.args.self.now in
    let e = c.extent_round-extent.result in
    let apart : meets_any c.args.space l.records e.size e.first ≡ false = sym c.meets_any.ensures ∙ c.if-meets_any.false in
    ap (used_in l.used other) (covering-apart l.records c.args.space e apart other
    (omega (arith, low, c.extent_round-extent.ensures.below)) (omega (arith, high, c.left_in.ensures)))
