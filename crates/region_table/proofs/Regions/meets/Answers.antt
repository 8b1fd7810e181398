use Rattle.std.proofs.Common.{sym, ap, ◌∙◌, is_some, ◌||◌, ltb, ◌+◌}
use Rattle.std.proofs.lemmas.Bool.{or_left}
use Rattle.pager_model.specs.Regions.{next_start}
use Rattle.region_table.proofs.TableLemmas.{meets-is}
use Rattle.region_table.proofs.Regions.meets.Goals as goal

pub returns-then-is_some : goal.returns-then-is_some
returns-then-is_some c =
    let law = meets-is 0 c.args.self.now c.find.ensures.ordered.in_order c.args.page c.args.length c.requires.some c.requires.in_space in
    c.if-is_some.true ∙ sym (law ∙ or_left _ _ (ap is_some (sym c.find.ensures.value) ∙ sym c.if-is_some.ensures))

pub returns-else-is_some : goal.returns-else-is_some
returns-else-is_some c =
    let law = meets-is 0 c.args.self.now c.find.ensures.ordered.in_order c.args.page c.args.length c.requires.some c.requires.in_space in
    let none = ap is_some (sym c.find.ensures.value) ∙ sym c.if-is_some.ensures in
    sym (law ∙ ap (λ b. b || ltb (next_start c.args.self.now c.args.page) (c.args.page + c.args.length)) none
    ∙ ap (λ n. ltb n (c.args.page + c.args.length)) (sym c.next_start.ensures.value))
