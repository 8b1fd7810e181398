-- the pages that are mapped are of the new place
use Rattle.std.proofs.Common.{◌*◌, ◌/◌, ◌<◌, ◌≤◌, arith}
use Rattle.lackey_regions.specs.Refusals.{HasByte}
use Rattle.lackey_regions.proofs.Causes.{err_of_more}
use Rattle.lackey_regions.proofs.memory.Memory.remap.Goals as goal

pub returns-clause-refused : goal.returns-clause-refused
returns-clause-refused c =
    err_of_more (λ page. (c.saturating_add-3.result / 8192 ≤ page) × (page * 8192 < c.saturating_add-4.result))
    (HasByte c.args.new_first c.args.new_length) _ _ c.map.result
    (λ page has. (omega (arith, has, c.saturating_add-3.ensures, c.ranges.new_first.fits), omega (arith, has, c.saturating_add-4.ensures)))
    c.map.ensures.refused
