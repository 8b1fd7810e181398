use Rattle.std.proofs.Common.{rules}
use Rattle.miss_curves.proofs.ToldEntries.{tile_in_range, tells_all}
use Rattle.miss_curves.specs.Curves.{base_alone}
use Rattle.miss_curves.specs.Histories.{effect}
use Rattle.tiles.specs.Resident.{mapping_at}
use Rattle.miss_curves.proofs.entries.tell_range.Goals as goal

pub returns-clause-stands : goal.returns-clause-stands
returns-clause-stands c = λ g history old keeps told stands.
    let new = c.args.space.now.pages in
    c.follow.ensures.stands g history
    (tells_all _ _ g history (effect c.args.entry.now old new c.args.uses.now) told
    (λ t b was answered.
    tile_in_range c.args.uses.now.sizes (mapping_at old) (mapping_at new) c.args.range (keeps c.args.uses.now.sizes) t b was (search rules))
    (λ t b was answered.
    tile_in_range base_alone (mapping_at old) (mapping_at new) c.args.range (keeps base_alone) t b was (search rules)))
    stands
