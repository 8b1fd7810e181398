use Rattle.std.proofs.Common.{length, inl, refl}
use Rattle.run_history.proofs.brief.Brief.keep.Goals as goal

pub returns-in-Some-clause-keeps : goal.returns-in-Some-clause-keeps
returns-in-Some-clause-keeps c =
    let whole = c.args.whole.now.items in
    record { entry = c.in-Some.ensures.entry whole; fits = c.in-Some.ensures.fits (length whole); grown = inl refl }
