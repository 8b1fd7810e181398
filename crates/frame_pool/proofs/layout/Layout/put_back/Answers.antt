use Rattle.std.proofs.Common.{arith}
use Rattle.pager_laws.proofs.LayoutRelease.{PutsBack-put_back}
use Rattle.frame_pool.specs.LayoutState.{layout_in}
use Rattle.frame_pool.proofs.layout.Layout.put_back.Goals as goal

pub invariant_of-self : goal.invariant_of-self
invariant_of-self c =
    let was = c.self.invariant in
    let known = rw (← c.self.view_is) at c.requires.known in
    let out = rw (← c.self.view_is) at c.requires.out in
    let back = PutsBack-put_back (layout_in c.self.inside) c.args.frame was.0 known out in
    let of = rw c.unwrap.ensures at c.of.ensures in
    rw (c.give.ensures, of.1) (back.laid, omega (arith, back.long, was.1))
