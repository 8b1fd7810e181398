use Rattle.std.proofs.Common.{◌≡◌, ◌-◌, ◌++◌, length, sym, ap, inl, inr, ◌∙◌, arith}
use Rattle.std.proofs.lemmas.Bool.{cases_lt}
use Rattle.std.proofs.lemmas.List.{append-nil, length-append}
use Rattle.tiles.specs.Changes.{cut_round}
use Rattle.tiles.proofs.Pieces.{cut_round-none, cut-few, more-level}
use Rattle.tiles.proofs.tile_list.TileList.add_cut.Goals as goal

pub loop-level-init : goal.loop-level-init
loop-level-init c =
    let none : c.level-level.result - c.args.down_to ≡ 0 = omega arith in
    record {
      list = sym (ap (λ n. c.args.self.now ++ cut_round c.args.page c.args.whole.now c.args.down_to n) none
          ∙ ap (λ xs. c.args.self.now ++ xs) (cut_round-none c.args.page c.args.whole.now c.args.down_to) ∙ append-nil c.args.self.now);
      none = λ _. omega arith;
    }

pub add_beside-requires-clause-room : goal.add_beside-requires-clause-room
add_beside-requires-clause-room c =
    let more = c.loop-level.level - c.args.down_to in
    let long = ap length c.loop-level.invariant.list ∙ length-append c.args.self.now
    (cut_round c.args.page c.args.whole.now c.args.down_to more) in
    omega (arith, long, cut-few c.args.page c.args.whole.now c.args.down_to more, c.requires.room, c.loop-level-test.true)

pub loop-level-preserved : goal.loop-level-preserved
loop-level-preserved c = record {
  list = more-level c.args.self.now c.loop-level.self c.add_beside.new.self c.args.page c.args.whole.now c.args.down_to c.loop-level.level
      (omega arith) c.loop-level.invariant.list c.add_beside.ensures;
  none = λ less. absurd (omega (arith, c.loop-level.invariant.none less, c.loop-level-test.true));
}

pub returns : goal.returns
returns c =
    let done : c.loop-level.level - c.args.down_to ≡ c.args.whole.now.extent.size - c.args.down_to =
    elim (cases_lt c.level-level-end.result c.args.down_to) [
      | inl less ↦ omega (arith, c.loop-level.invariant.none less)
      | inr from ↦ omega (arith, c.loop-level.auto.level-end (omega arith))
    ] in
    c.loop-level.invariant.list ∙ ap (λ n. c.args.self.now ++ cut_round c.args.page c.args.whole.now c.args.down_to n) done
