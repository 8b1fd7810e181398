use Rattle.std.proofs.Common.{◌∙◌, Err, ap, sym}
use Rattle.std.proofs.lemmas.Bool.{true≢false}
use Rattle.flight_core.proofs.VictimPages.{page_written, write_failed, write_lacks_memory}
use Rattle.flight_core.proofs.flight.Flight.write.Goals as goal

pub returns-in-Ok-clause-entry : goal.returns-in-Ok-clause-entry
returns-in-Ok-clause-entry g c = λ st frames.
    rw c.entry.ensures (page_written c.args.self.now c.args.victim c.in-Ok.written c.args.space.now c.write_out.new.self c.requires.phase c.in-Ok.ensures.written st frames)

pub returns-in-Err-Failed-clause-entry : goal.returns-in-Err-Failed-clause-entry
returns-in-Err-Failed-clause-entry g c = λ st frames.
    rw c.entry-in-Err-Failed.ensures
    (write_failed c.args.self.now c.args.victim c.in-Err-Failed.count c.args.space.now c.write_out.new.self c.requires.phase
    (c.in-Err-Failed.ensures.failed c.in-Err-Failed.count (ap Err c.in-Err-Failed.field-0-is)) st frames)

pub returns-in-Err-NoMemory-clause-none : goal.returns-in-Err-NoMemory-clause-none
returns-in-Err-NoMemory-clause-none g c =
    write_lacks_memory c.args.self.now c.args.victim c.args.space.now c.write_out.new.self c.requires.phase
    (c.in-Err-NoMemory.ensures.no_memory (ap Err c.in-Err-NoMemory.field-0-is))

pub returns-in-Err-NoMemory-clause-lasting : goal.returns-in-Err-NoMemory-clause-lasting
returns-in-Err-NoMemory-clause-lasting g c = λ lasts _.
    absurd (true≢false (sym lasts ∙ c.in-Err-NoMemory.ensures.lasting (ap Err c.in-Err-NoMemory.field-0-is)))
