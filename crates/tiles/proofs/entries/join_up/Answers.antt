use Rattle.std.proofs.Common.{◌≡◌, ℕ, suc, ◌≤◌, sym, ap, subst, ◌∙◌, arith}
use Rattle.tiles.specs.TableEntries.{extent_round}
use Rattle.pager_model.specs.declared.extent.Extent.{Extent}
use Rattle.tiles.specs.Kept.{AreTilesBut}
use Rattle.tiles.proofs.EntryTiles.{JoinsInto, alike_on, join_alike, join_there, join_tiles, no_join, round_is_extent}
use Rattle.tiles.proofs.entries.join_up.Goals as goal

pub returns-in_default-clause-tiles : goal.returns-in_default-clause-tiles
returns-in_default-clause-tiles g c =
    let entry = c.loop-entry.entry in
    let so_far = c.loop-entry.invariant in
    let larger : c.at_level-larger.result ≡ suc entry.extent.size = omega arith in
    no_join c.loop-entry.map c.args.page entry (omega arith) so_far.there so_far.tiles
    (λ w round parts. c.in_default.ensures.whole w (round ∙ ap (λ s. extent_round s c.args.page) (sym larger)) parts)

pub returns-clause-tiles : goal.returns-clause-tiles
returns-clause-tiles g c =
    let tiles = c.loop-entry.invariant.tiles in
    let largest : 3 ≤ c.loop-entry.entry.extent.size = omega arith in
    record {
      entries = tiles.entries;
      aligned = tiles.aligned;
      largest = λ p size e at above low. tiles.largest p size e at above low (λ same. omega (arith, largest, low));
    }

pub join-requires-clause-extent : goal.join-requires-clause-extent
join-requires-clause-extent g c =
    round_is_extent c.in-Some.whole.extent c.at_level-larger.result c.args.page (omega arith) c.in-Some.ensures.whole.0

pub loop-entry-preserved : goal.loop-entry-preserved
loop-entry-preserved g c =
    let m = c.loop-entry.map in
    let n = c.join.new.self in
    let w = c.in-Some.whole in
    let so_far = c.loop-entry.invariant in
    let larger : w.extent.size ≡ c.at_level-larger.result = ap (λ (x : Extent). x.size) c.in-Some.ensures.whole.0 in
    let round : w.extent ≡ extent_round w.extent.size c.args.page = c.in-Some.ensures.whole.0
    ∙ ap (λ s. extent_round s c.args.page) (sym larger) in
    let joins : JoinsInto m n w c.args.page = record {
      round = round;
      low = omega arith;
      parts = c.in-Some.ensures.whole.1;
      maps = c.join.ensures.entries;
    } in
    let size : suc c.loop-entry.entry.extent.size ≡ w.extent.size = omega arith in
    record {
      there = join_there m n w c.args.page joins;
      tiles = join_tiles m n w c.args.page joins (subst (λ (k : ℕ). AreTilesBut m c.args.page k) size so_far.tiles);
      pages = alike_on c.args.map.now m n so_far.pages (join_alike m n w c.args.page joins c.join.ensures.pages);
      cost = omega (arith, so_far.cost, c.join.ensures.cost, c.in-Some.ensures.cost);
    }
