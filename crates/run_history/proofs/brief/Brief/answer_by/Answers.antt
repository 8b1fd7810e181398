use Rattle.std.proofs.Common.{◌∙◌, sym}
use Rattle.run_history.proofs.BriefAnswers.{answer_of-own, answer_of-other}
use Rattle.run_history.proofs.brief.Brief.answer_by.Goals as goal

pub returns-then-self-processor : goal.returns-then-self-processor
returns-then-self-processor c = sym (answer_of-other c.args.whole.now c.args.self.now c.args.processor c.if-self-processor.true)

pub returns : goal.returns
returns c = c.answer.ensures ∙ sym (answer_of-own c.args.whole.now c.args.self.now c.args.processor c.if-self-processor.false)
