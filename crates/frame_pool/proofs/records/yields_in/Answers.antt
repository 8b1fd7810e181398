use Rattle.std.proofs.Common.{◌≡◌, Some, None, sym, ◌∙◌}
use Rattle.pager_model.specs.Records.{is_used, yield_of}
use Rattle.pager_laws.proofs.PartYields.{yield_in-told, yield_in-not}
use Rattle.frame_pool.proofs.records.yields_in.Goals as goal

pub returns-in_err-widest : goal.returns-in_err-widest
returns-in_err-widest c =
    let used = is_used c.args.reservations.now.used in
    let told : None ≡ yield_of used c.args.reservation.now = rw c.requires at c.in_err-widest.ensures in
    c.from_residual.ensures ∙ sym (yield_in-not c.args.sizes used c.args.reservation.now (sym told))

pub returns : goal.returns
returns c =
    let used = is_used c.args.reservations.now.used in
    let told : Some c.in_ok-widest.widest ≡ yield_of used c.args.reservation.now = rw c.requires at c.in_ok-widest.ensures in
    sym (yield_in-told c.args.sizes used c.args.reservation.now c.in_ok-widest.widest c.within.result c.within.ensures (sym told))
