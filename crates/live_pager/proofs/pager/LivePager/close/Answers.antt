use Rattle.std.proofs.Common.{sym, subst}
use Rattle.live_pager.specs.Live.{IsLive}
use Rattle.live_pager.proofs.pager.LivePager.close.Goals as goal

pub returns : goal.returns
returns g c = λ script stores calls h is.
    let live = subst (IsLive script stores calls h) (sym c.self.view_is) is in
    c.stop.ensures script stores calls h live.after
