use Rattle.std.proofs.Common.{codes, []}
use Rattle.pager_command.proofs.Words.{form_behind, no_form_behind, none_of_five}
use Rattle.pager_command.proofs.form.form_of.Goals as goal

pub returns-in-order-clause-some : goal.returns-in-order-clause-some
returns-in-order-clause-some c =
    form_behind c.order_asked.result c.args.words.now (record { ref_ptr = (0, 0); now = [] }) (codes "order")
    c.in-len1-up.len_at_least c.in-order.is c.order_asked.ensures.some

pub returns-in-order-clause-none : goal.returns-in-order-clause-none
returns-in-order-clause-none c =
    no_form_behind c.order_asked.result c.args.words.now (record { ref_ptr = (0, 0); now = [] }) (codes "order")
    c.in-len1-up.len_at_least c.in-order.is c.order_asked.ensures.none

pub returns-in-turns-clause-some : goal.returns-in-turns-clause-some
returns-in-turns-clause-some c =
    form_behind c.turns_asked.result c.args.words.now (record { ref_ptr = (0, 0); now = [] }) (codes "turns")
    c.in-len1-up.len_at_least c.in-turns.is c.turns_asked.ensures.some

pub returns-in-turns-clause-none : goal.returns-in-turns-clause-none
returns-in-turns-clause-none c =
    no_form_behind c.turns_asked.result c.args.words.now (record { ref_ptr = (0, 0); now = [] }) (codes "turns")
    c.in-len1-up.len_at_least c.in-turns.is c.turns_asked.ensures.none

pub returns-in-replay-clause-some : goal.returns-in-replay-clause-some
returns-in-replay-clause-some c =
    form_behind c.replay_asked.result c.args.words.now (record { ref_ptr = (0, 0); now = [] }) (codes "replay")
    c.in-len1-up.len_at_least c.in-replay.is c.replay_asked.ensures.some

pub returns-in-replay-clause-none : goal.returns-in-replay-clause-none
returns-in-replay-clause-none c =
    no_form_behind c.replay_asked.result c.args.words.now (record { ref_ptr = (0, 0); now = [] }) (codes "replay")
    c.in-len1-up.len_at_least c.in-replay.is c.replay_asked.ensures.none

pub returns-in-plan-clause-some : goal.returns-in-plan-clause-some
returns-in-plan-clause-some c =
    form_behind c.plan_asked.result c.args.words.now (record { ref_ptr = (0, 0); now = [] }) (codes "plan")
    c.in-len1-up.len_at_least c.in-plan.is c.plan_asked.ensures.some

pub returns-in-plan-clause-none : goal.returns-in-plan-clause-none
returns-in-plan-clause-none c =
    no_form_behind c.plan_asked.result c.args.words.now (record { ref_ptr = (0, 0); now = [] }) (codes "plan")
    c.in-len1-up.len_at_least c.in-plan.is c.plan_asked.ensures.none

pub returns-in-curve-clause-some : goal.returns-in-curve-clause-some
returns-in-curve-clause-some c =
    form_behind c.curve_asked.result c.args.words.now (record { ref_ptr = (0, 0); now = [] }) (codes "curve")
    c.in-len1-up.len_at_least c.in-curve.is c.curve_asked.ensures.some

pub returns-in-curve-clause-none : goal.returns-in-curve-clause-none
returns-in-curve-clause-none c =
    no_form_behind c.curve_asked.result c.args.words.now (record { ref_ptr = (0, 0); now = [] }) (codes "curve")
    c.in-len1-up.len_at_least c.in-curve.is c.curve_asked.ensures.none

pub returns-in_default-word-clause-none : goal.returns-in_default-word-clause-none
returns-in_default-word-clause-none c = λ form.
    let other = c.in_default-word in
    none_of_five c.args.words.now (record { ref_ptr = (0, 0); now = [] }) c.in-len1-up.len_at_least
    other.not-order other.not-turns other.not-replay other.not-plan other.not-curve form.0 form.1
