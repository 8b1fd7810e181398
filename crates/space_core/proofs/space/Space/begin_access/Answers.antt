use Rattle.space_core.proofs.space.Space.begin_access.Goals as goal

pub returns-in-Refused-clause-begins : goal.returns-in-Refused-clause-begins
returns-in-Refused-clause-begins g c = rw c.answered.ensures (c.in-Refused.ensures.1 c.requires.resting c.args.processor)
