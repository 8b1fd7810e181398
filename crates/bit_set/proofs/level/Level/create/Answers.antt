use Rattle.std.proofs.Common.{ap, ◌∙◌}
use Rattle.bit_set.specs.Bits.{bits_of}
use Rattle.bit_set.proofs.Sets.{bits_of-replicate}
use Rattle.bit_set.proofs.level.Level.create.Goals as goal

pub returns : goal.returns
returns c = ap bits_of c.in_ok-store.ensures ∙ bits_of-replicate c.args.words
