use Rattle.std.proofs.Common.{◌≡◌, ◌+◌, ◌*◌, ◌<◌, ◌≤◌, nat_eq, false, refl, sym, ap, subst, ◌∙◌, arith}
use Rattle.std.proofs.lemmas.Bool.Decides.{nat_tests}
use Rattle.store_file.specs.FileState.{FileSeen, moved}
use Rattle.store_file.proofs.PageMoves.{MovesFirst, moves_none, moves_more}
use Rattle.store_file.proofs.page_bytes.read_page.Goals as goal

pub loop-at-init : goal.loop-at-init
loop-at-init g c = record { most = omega arith; moves = moves_none c.args.page c.args.file.now.gave; took = refl; opened = refl }

pub loop-at-preserved : goal.loop-at-preserved
loop-at-preserved g c =
    let n = c.read_from-count.result in
    let file = c.loop-at.file in
    let at = c.loop-at.at in
    let some : 0 < n = omega arith in
    let most : at + n ≤ 8192 = omega (arith, c.read_from-count.ensures.most) in
    let none : nat_eq n 0 ≡ false = grind (arith, nat_tests) in
    let is : c.read_from-count.new.self ≡ record file { gave = moved file.gave (8192 * c.args.page + at) n } =
    rw none at c.read_from-count.ensures.counted in
    let P = λ (t : FileSeen). MovesFirst c.args.page (at + n) c.args.file.now.gave t.gave in
    record {
      most = most;
      moves = subst P (sym is) (moves_more c.args.page at n c.args.file.now.gave file.gave some most c.loop-at.invariant.moves);
      took = ap (λ t. t.took) is ∙ c.loop-at.invariant.took;
      opened = ap (λ t. t.opened) is ∙ c.loop-at.invariant.opened;
    }
