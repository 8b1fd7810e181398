use Rattle.std.proofs.Common.{length, sym, ap, ◌∙◌, arith}
use Rattle.std.proofs.lemmas.Bool.{ltb-true, ltb-false}
use Rattle.region_table.proofs.TableLemmas.{next_start-at_some, next_start-at_none}
use Rattle.region_table.proofs.Regions.next_start.Goals as goal

pub returns-in-Some-clause-value : goal.returns-in-Some-clause-value
returns-in-Some-clause-value c =
    let found = rw (c.deref.ensures.0 ∙ c.self.view_is) at c.in-Some.ensures.lookup in
    let within = ltb-true c.count_up_to.result (length c.args.self.now) (sym found.0) in
    ap (λ r. r.first) found.1 ∙ sym
    (next_start-at_some c.args.self.now c.args.page c.count_up_to.result c.in-Some.next.now c.count_up_to.ensures.value within)

pub returns-in-None-clause-value : goal.returns-in-None-clause-value
returns-in-None-clause-value c =
    let past = rw (c.deref.ensures.0 ∙ c.self.view_is) at c.in-None.ensures.lookup in
    let none = ltb-false c.count_up_to.result (length c.args.self.now) (sym past.0) in
    sym (next_start-at_none c.args.self.now c.args.page (omega (arith, c.count_up_to.ensures.value)))
