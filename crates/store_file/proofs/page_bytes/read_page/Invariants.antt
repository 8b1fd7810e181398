use Rattle.std.proofs.Common.{◌≡◌, ◌-◌, ◌≤◌}
use Rattle.store_file.proofs.PageMoves.{MovesFirst}
use Rattle.store_file.proofs.page_bytes.read_page.Given as goal

abbrev pub invariant-loop-at : goal.invariant-loop-at
invariant-loop-at g l = record {
  most : l.at ≤ 8192;
  moves : MovesFirst l.page l.at l.fn.file.gave l.file.gave;
  took : l.file.took ≡ l.fn.file.took;
  opened : l.file.opened ≡ l.fn.file.opened;
}

abbrev pub decreases-loop-at : goal.decreases-loop-at
decreases-loop-at g l = 8192 - l.at
