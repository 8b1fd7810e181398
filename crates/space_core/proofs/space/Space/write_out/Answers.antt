use Rattle.std.proofs.lemmas.Result.{IfOk-weaker}
use Rattle.space_core.proofs.SavedCopies.{writes_out, fails_to_write}
use Rattle.space_core.proofs.space.Space.write_out.Goals as goal

pub returns-clause-written : goal.returns-clause-written
returns-clause-written g c =
    IfOk-weaker c.copy_out.result _ _
    (λ written copied. writes_out c.args.self.now c.copy_out.new.self c.args.page written c.requires.resting
    (record { mid = copied.0; saves = copied.1; cleans = copied.2 }) c.requires.resident) c.copy_out.ensures.copied

pub returns-clause-failed : goal.returns-clause-failed
returns-clause-failed g c count is = fails_to_write _ c.requires.resting _ c.args.page count (c.copy_out.ensures.failed count is)
