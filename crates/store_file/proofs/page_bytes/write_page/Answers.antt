use Rattle.std.proofs.Common.{◌≡◌, ◌+◌, ◌*◌, ◌<◌, ◌≤◌, nat_eq, false, refl, sym, ap, subst, ◌∙◌, arith}
use Rattle.std.proofs.lemmas.Bool.Decides.{nat_tests}
use Rattle.store_file.specs.FileState.{FileSeen, moved}
use Rattle.store_file.proofs.PageMoves.{MovesFirst, moves_none, moves_more}
use Rattle.store_file.proofs.page_bytes.write_page.Goals as goal

pub loop-at-init : goal.loop-at-init
loop-at-init g c = record {
  most = omega arith;
  moves = moves_none c.args.page c.args.file.now.took;
  gave = refl;
  opened = refl;
  there = λ some. absurd (omega arith);
}

pub loop-at-preserved : goal.loop-at-preserved
loop-at-preserved g c =
    let n = c.write_from-count.result in
    let file = c.loop-at.file in
    let at = c.loop-at.at in
    let some : 0 < n = omega arith in
    let most : at + n ≤ 8192 = omega (arith, c.write_from-count.ensures.most) in
    let none : nat_eq n 0 ≡ false = grind (arith, nat_tests) in
    let is : c.write_from-count.new.self ≡ record file { took = moved file.took (8192 * c.args.page + at) n } =
    rw none at c.write_from-count.ensures.counted in
    let P = λ (t : FileSeen). MovesFirst c.args.page (at + n) c.args.file.now.took t.took in
    record {
      most = most;
      moves = subst P (sym is) (moves_more c.args.page at n c.args.file.now.took file.took some most c.loop-at.invariant.moves);
      gave = ap (λ t. t.gave) is ∙ c.loop-at.invariant.gave;
      opened = ap (λ t. t.opened) is ∙ c.loop-at.invariant.opened;
      there = λ _. sym c.loop-at.invariant.opened ∙ c.write_from-count.ensures.there some;
    }
