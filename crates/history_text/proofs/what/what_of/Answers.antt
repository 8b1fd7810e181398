use Rattle.trace_lines.specs.Words.{seen}
use Rattle.history_text.specs.declared.name.Name.TheVariants.{Out, Failed, Take, Give, Clear, Claim, UseHeld, Drop, Got, Unclaim, Refused, Pin, Kept, Rest}
use Rattle.history_text.proofs.Names.{none_of}
use Rattle.history_text.proofs.what.what_of.Goals as goal

pub returns-in-Out-clause-none : goal.returns-in-Out-clause-none
returns-in-Out-clause-none c =
    none_of c.out.result c.args.trace.now c.args.processor (seen c.args.words.now) c.args.name Out c.in-Out.is c.out.ensures.none

pub returns-in-Failed-clause-none : goal.returns-in-Failed-clause-none
returns-in-Failed-clause-none c =
    none_of c.failed.result c.args.trace.now c.args.processor (seen c.args.words.now) c.args.name Failed c.in-Failed.is c.failed.ensures.none

pub returns-in-Take-clause-none : goal.returns-in-Take-clause-none
returns-in-Take-clause-none c =
    none_of c.take.result c.args.trace.now c.args.processor (seen c.args.words.now) c.args.name Take c.in-Take.is c.take.ensures.none

pub returns-in-Give-clause-none : goal.returns-in-Give-clause-none
returns-in-Give-clause-none c =
    none_of c.give.result c.args.trace.now c.args.processor (seen c.args.words.now) c.args.name Give c.in-Give.is c.give.ensures.none

pub returns-in-Clear-clause-none : goal.returns-in-Clear-clause-none
returns-in-Clear-clause-none c =
    none_of c.clear.result c.args.trace.now c.args.processor (seen c.args.words.now) c.args.name Clear c.in-Clear.is c.clear.ensures.none

pub returns-in-Claim-clause-none : goal.returns-in-Claim-clause-none
returns-in-Claim-clause-none c =
    none_of c.claim.result c.args.trace.now c.args.processor (seen c.args.words.now) c.args.name Claim c.in-Claim.is c.claim.ensures.none

pub returns-in-UseHeld-clause-none : goal.returns-in-UseHeld-clause-none
returns-in-UseHeld-clause-none c =
    none_of c.use_held.result c.args.trace.now c.args.processor (seen c.args.words.now) c.args.name UseHeld c.in-UseHeld.is c.use_held.ensures.none

pub returns-in-Drop-clause-none : goal.returns-in-Drop-clause-none
returns-in-Drop-clause-none c =
    none_of c.drop_held.result c.args.trace.now c.args.processor (seen c.args.words.now) c.args.name Drop c.in-Drop.is c.drop_held.ensures.none

pub returns-in-Got-clause-none : goal.returns-in-Got-clause-none
returns-in-Got-clause-none c =
    none_of c.got.result c.args.trace.now c.args.processor (seen c.args.words.now) c.args.name Got c.in-Got.is c.got.ensures.none

pub returns-in-Unclaim-clause-none : goal.returns-in-Unclaim-clause-none
returns-in-Unclaim-clause-none c =
    none_of c.unclaim.result c.args.trace.now c.args.processor (seen c.args.words.now) c.args.name Unclaim c.in-Unclaim.is c.unclaim.ensures.none

pub returns-in-Refused-clause-none : goal.returns-in-Refused-clause-none
returns-in-Refused-clause-none c =
    none_of c.refused.result c.args.trace.now c.args.processor (seen c.args.words.now) c.args.name Refused c.in-Refused.is c.refused.ensures.none

pub returns-in-Pin-clause-none : goal.returns-in-Pin-clause-none
returns-in-Pin-clause-none c =
    none_of c.pin.result c.args.trace.now c.args.processor (seen c.args.words.now) c.args.name Pin c.in-Pin.is c.pin.ensures.none

pub returns-in-Kept-clause-none : goal.returns-in-Kept-clause-none
returns-in-Kept-clause-none c =
    none_of c.kept.result c.args.trace.now c.args.processor (seen c.args.words.now) c.args.name Kept c.in-Kept.is c.kept.ensures.none

pub returns-in-Rest-clause-none : goal.returns-in-Rest-clause-none
returns-in-Rest-clause-none c =
    none_of c.rest.result c.args.trace.now c.args.processor (seen c.args.words.now) c.args.name Rest c.in-Rest.is c.rest.ensures.none
