use Rattle.std.proofs.Common.{ℕ, ◌+◌, ◌*◌, ◌≤◌, ◌∙◌, arith}
use Rattle.tiles.proofs.EntryTiles.{put_says, put_there, put_tiles}
use Rattle.tiles.proofs.entries.fill.Goals as goal

pub join_up-requires-clause-there : goal.join_up-requires-clause-there
join_up-requires-clause-there g c =
    rw c.round-entry.ensures
    (put_there c.args.map.now c.put.new.self c.at_level.result c.args.page c.args.mapping (rw c.round-entry.ensures at c.put.ensures.entries))

pub join_up-requires-clause-tiles : goal.join_up-requires-clause-tiles
join_up-requires-clause-tiles g c =
    rw c.round-entry.ensures
    (put_tiles c.args.map.now c.put.new.self c.at_level.result c.args.page c.args.mapping c.at_level.ensures c.requires.tiles
    (rw c.round-entry.ensures at c.put.ensures.entries))

pub returns-clause-pages : goal.returns-clause-pages
returns-clause-pages g c p =
    c.join_up.ensures.pages.at p
    ∙ put_says c.args.map.now c.put.new.self c.at_level.result c.args.page c.args.mapping c.at_level.ensures
    (rw c.round-entry.ensures at c.put.ensures.entries) p

cost_joined : (begun put done size : ℕ) → put ≤ begun + 10 → done + 16 * size ≤ put + 48 → done ≤ begun + 58
cost_joined begun put done size one more = omega arith

pub returns-clause-cost : goal.returns-clause-cost
returns-clause-cost g c =
    cost_joined c.args.steps.now c.put.new.steps c.join_up.new.steps c.round-entry.result.extent.size c.put.ensures.cost c.join_up.ensures.cost
