use Rattle.std.proofs.Common.{◌≡◌, ◌-◌, ◌<◌, ◌≤◌, true}
use Rattle.store_file.proofs.PageMoves.{MovesFirst}
use Rattle.store_file.proofs.page_bytes.write_page.Given as goal

abbrev pub invariant-loop-at : goal.invariant-loop-at
invariant-loop-at g l = record {
  most : l.at ≤ 8192;
  moves : MovesFirst l.page l.at l.fn.file.took l.file.took;
  gave : l.file.gave ≡ l.fn.file.gave;
  opened : l.file.opened ≡ l.fn.file.opened;
  there : 0 < l.at → l.fn.file.opened ≡ true;
}

abbrev pub decreases-loop-at : goal.decreases-loop-at
decreases-loop-at g l = 8192 - l.at
