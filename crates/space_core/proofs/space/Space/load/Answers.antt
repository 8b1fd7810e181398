use Rattle.std.proofs.Common.{◌∙◌, ap}
use Rattle.pager_model.specs.Flat.{page_of, word_of}
use Rattle.space_core.specs.Standing.{Kept}
use Rattle.space_core.specs.Tables.{word_in}
use Rattle.space_core.proofs.MappedAccesses.{mapped_resident}
use Rattle.space_core.proofs.ServedPages.{loads}
use Rattle.space_core.proofs.TableLemmas.{frame-mapped}
use Rattle.space_core.proofs.space.Space.load.Goals as goal

pub word_by-word-requires-clause-resident : goal.word_by-word-requires-clause-resident
word_by-word-requires-clause-resident g c =
    let found = rw (← c.self.view_is) at c.requires.found in
    (page_of c.args.address, frame-mapped c.self.inside.table (page_of c.args.address) c.args.found.mapping found.mapping)

pub returns : goal.returns
returns g c =
    let found = rw (← c.self.view_is) at c.requires.found in
    let has = frame-mapped c.self.inside.table (page_of c.args.address) c.args.found.mapping found.mapping in
    let read = rw c.word_of.ensures.word at (c.word_by-word.ensures (page_of c.args.address) has) in
    rw c.touch.ensures.answered
    (loads c.args.self.now c.touch.new.self c.args.processor c.args.address c.args.found.tile
    (record {
      resting = c.requires.resting;
      processor = c.requires.processor;
      allowed = c.requires.allowed;
      resident = mapped_resident c.args.self.now (page_of c.args.address) c.args.found c.requires.found;
      tile_is = c.requires.found.tile;
    })
    c.touch.ensures.touched _ (read ∙ ap (λ (k : Kept). word_in k.table (page_of c.args.address) (word_of c.args.address)) c.self.view_is))
