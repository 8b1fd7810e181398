-- the pages that are mapped are below the top
use Rattle.std.proofs.Common.{◌*◌, ◌/◌, ◌<◌, ◌≤◌}
use Rattle.lackey_regions.proofs.Causes.{err_of_more}
use Rattle.lackey_regions.proofs.memory.Memory.set_top.Goals as goal

pub returns-clause-refused : goal.returns-clause-refused
returns-clause-refused c =
    err_of_more (λ page. (c.in-Some.before / 8192 ≤ page) × (page * 8192 < c.args.top)) (λ page. page * 8192 < c.args.top) _ _ c.map.result
    (λ page has. has.1) c.map.ensures.refused
