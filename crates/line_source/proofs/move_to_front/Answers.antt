use Rattle.std.proofs.Common.{◌∙◌, ap, ◌-◌, take}
use Rattle.line_source.proofs.Bytes.{moved_by}
use Rattle.line_source.proofs.move_to_front.Goals as goal

pub returns-then-from-gt0-clause-moved : goal.returns-then-from-gt0-clause-moved
returns-then-from-gt0-clause-moved c =
    ap (take (c.args.to - c.args.from)) c.copy_within.ensures.after
    ∙ moved_by c.args.bytes.now c.args.from c.args.to c.requires.order c.requires.within
