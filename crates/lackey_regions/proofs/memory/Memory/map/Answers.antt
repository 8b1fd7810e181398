-- the pages of the whole bytes and of the parts are all of the range
use Rattle.std.proofs.Common.{◌*◌, ◌/◌, ◌<◌, ◌≤◌, ◌⊎◌}
use Rattle.lackey_regions.specs.Refusals.{Maps}
use Rattle.lackey_regions.specs.declared.regions.Change.TheVariants as changes
use Rattle.lackey_regions.proofs.Causes.{err_of_more}
use Rattle.lackey_regions.proofs.memory.Memory.map.Goals as goal

pub returns-clause-refused : goal.returns-clause-refused
returns-clause-refused c =
    err_of_more (λ page. (Maps (changes.Map c.args.rights) ⊎ Maps (changes.MapWider c.args.rights)) × (c.args.first / 8192 ≤ page) × (page * 8192 < c.args.end))
    (λ page. (c.args.first / 8192 ≤ page) × (page * 8192 < c.args.end)) _ _ c.change_bytes.result
    (λ page has. (has.1, has.2)) c.change_bytes.ensures.refused
