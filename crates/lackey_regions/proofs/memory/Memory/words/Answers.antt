-- a change is a load and then a store
use Rattle.std.proofs.Common.{◌+◌, ◌*◌}
use Rattle.lackey_regions.proofs.AddedCalls.{made_change}
use Rattle.lackey_regions.proofs.memory.Memory.words.Goals as goal

pub returns-in_ok-word-in-Change-clause-made : goal.returns-in_ok-word-in-Change-clause-made
returns-in_ok-word-in-Change-clause-made c =
    made_change c.word-in-Change-2.result c.word-in-Change.new.self.layout c.word-in-Change-2.new.self.layout c.args.calls.now.items
    c.word-in-Change.new.calls.items c.word-in-Change-2.new.calls.items c.args.kind (c.args.page * 8192 + c.args.offset) c.in-Change.is
    c.in_ok-word-in-Change.ensures.made c.word-in-Change-2.ensures.keeps c.word-in-Change-2.ensures.made
