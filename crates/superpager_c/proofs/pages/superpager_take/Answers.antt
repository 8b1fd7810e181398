use Rattle.std.proofs.Common.{ap, ◌∙◌}
use Rattle.frame_table.specs.Refusals.{take_refusal}
use Rattle.superpager_c.specs.Statuses.{status_of, want_of}
use Rattle.superpager_c.proofs.Answered.{status_in}
use Rattle.superpager_c.proofs.pages.superpager_take.Goals as goal

pub returns-clause-status : goal.returns-clause-status
returns-clause-status c =
    let space = c.args.space in let page = c.args.page in
    status_in _ c.in-Some.table.value (λ st. take_refusal st space page (want_of c.args.want)) _ c.in-Some.ensures.out
    (c.of.ensures.status ∙ ap status_of (c.take-taken.ensures.refused
    ∙ ap (λ st. take_refusal st space page c.want.result) c.deref_mut.ensures.value
    ∙ ap (λ want. take_refusal c.in-Some.table.value space page want) c.want.ensures))
