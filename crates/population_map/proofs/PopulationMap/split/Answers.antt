use Rattle.std.proofs.Common.{◌<◌, sym, ap, ◌∙◌, subst, arith}
use Rattle.std.proofs.lemmas.List.Elements.{All-weaker}
use Rattle.extent_tree.specs.Rows.{Arena}
use Rattle.pager_model.specs.Extents.{IsExtent}
use Rattle.population_map.specs.declared.mark.Mark.{Mark}
use Rattle.population_map.specs.Populations.{frame_count, page_at, placed_pages, SameRoom, PlacesParts, EmptiesOnly}
use Rattle.population_map.proofs.Placings.{aligned_at}
use Rattle.population_map.proofs.PopulationMap.split.Goals as goal

pub split-requires-clause-marks : goal.split-requires-clause-marks
split-requires-clause-marks c = c.self.invariant.marks

pub split-requires-clause-aligned : goal.split-requires-clause-aligned
split-requires-clause-aligned c =
    subst (IsExtent c.args.extent.size) (sym c.page_at.ensures)
    (aligned_at c.args.extent.size c.args.space c.args.extent.first c.requires.aligned)

pub split-requires-clause-ids : goal.split-requires-clause-ids
split-requires-clause-ids c =
    All-weaker (λ id. id < frame_count c.args.self.now) (λ id. id < 4294967295)
    (λ id low. omega (arith, low, c.self.invariant.small, ap (λ (t : Arena Mark). t.room) c.self.view_is)) c.args.ids.now c.requires.ids

pub returns-clause-room : goal.returns-clause-room
returns-clause-room c = subst (λ old. SameRoom old c.split.new.tree) c.self.view_is c.split.ensures.room

pub returns-clause-placed : goal.returns-clause-placed
returns-clause-placed c =
    subst (λ old. PlacesParts old c.split.new.tree c.args.extent.size (page_at c.args.space c.args.extent.first) c.args.ids.now) c.self.view_is
    (rw c.page_at.ensures at c.split.ensures.placed)

pub returns-clause-empty : goal.returns-clause-empty
returns-clause-empty c =
    subst (λ old. EmptiesOnly old c.split.new.tree c.args.extent.size (page_at c.args.space c.args.extent.first)) c.self.view_is
    (rw c.page_at.ensures at c.split.ensures.empty)

pub returns-clause-count : goal.returns-clause-count
returns-clause-count c = c.split.ensures.count ∙ ap placed_pages c.self.view_is
