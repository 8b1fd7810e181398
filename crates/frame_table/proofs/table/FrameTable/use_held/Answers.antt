use Rattle.std.proofs.Common.{sym, ◌∙◌, arith}
use Rattle.pager_model.specs.FrameStates.{dropped}
use Rattle.pager_model.proofs.Options.{none_from_is_some}
use Rattle.pager_laws.proofs.StateSoundness.{frame_of-dropped}
use Rattle.frame_table.proofs.Moves.{IsTable-taken, IsTable-dropped, taken_known}
use Rattle.frame_table.proofs.table.FrameTable.use_held.Goals as goal

pub put_out-requires : goal.put_out-requires
put_out-requires c =
    let st = c.self.inside.pool in
    let out = c.self.inside.out.items in
    let after = dropped st c.args.processor in
    let t = c.use_held-frame.ensures in
    let none = frame_of-dropped _ _ st c.args.processor c.args.space c.args.page c.self.invariant.sound
    ∙ sym c.frame_of.ensures ∙ none_from_is_some c.frame_of.result (sym c.is_some.ensures ∙ c.if-is_some.false) in
    let table = IsTable-dropped out st c.args.processor c.self.invariant in
    omega (arith, t.3, taken_known out after c.args.space c.args.page c.args.want.now t.0 table none t.1)

pub invariant_of-self : goal.invariant_of-self
invariant_of-self c =
    let st = c.self.inside.pool in
    let out = c.self.inside.out.items in
    let after = dropped st c.args.processor in
    let t = c.use_held-frame.ensures in
    let none = frame_of-dropped _ _ st c.args.processor c.args.space c.args.page c.self.invariant.sound
    ∙ sym c.frame_of.ensures ∙ none_from_is_some c.frame_of.result (sym c.is_some.ensures ∙ c.if-is_some.false) in
    let table = IsTable-dropped out st c.args.processor c.self.invariant in
    rw (c.put_out.ensures.put, t.2)
    (IsTable-taken out after c.args.space c.args.page c.args.want.now t.0 c.use_held-frame.result table none t.1 t.3)
