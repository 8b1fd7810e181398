use Rattle.std.proofs.Common.{◌≡◌, ◌-◌, ◌+◌, ◌<◌, true, false, suc, sym, ap, ◌∙◌, arith}
use Rattle.std.specs.Option.{is_some}
use Rattle.pager_model.specs.Ages.{list_at, oldest_in}
use Rattle.reservation_lists.proofs.FirstLists.{first_oldest-some, first_oldest-later}
use Rattle.reservation_lists.proofs.Lists.first_oldest.Goals as goal

pub returns-then-is_some : goal.returns-then-is_some
returns-then-is_some c =
    let lists = c.args.self.now.lists in
    let k = c.loop-level.level in
    let small : k < 3 = c.loop-level-test.true in
    let oldest : c.oldest-oldest.result ≡ oldest_in (list_at lists k) = c.oldest-oldest.ensures ∙ ap (λ s. oldest_in (list_at lists s)) c.at_level.ensures in
    let some : is_some (oldest_in (list_at lists k)) ≡ true = sym (ap is_some oldest) ∙ sym c.is_some.ensures ∙ c.if-is_some.true in
    oldest ∙ sym (first_oldest-some (list_at lists) k (3 - k) (omega arith) some) ∙ c.loop-level.invariant

pub loop-level-preserved : goal.loop-level-preserved
loop-level-preserved c =
    let lists = c.args.self.now.lists in
    let k = c.loop-level.level in
    let small : k < 3 = c.loop-level-test.true in
    let oldest : c.oldest-oldest.result ≡ oldest_in (list_at lists k) = c.oldest-oldest.ensures ∙ ap (λ s. oldest_in (list_at lists s)) c.at_level.ensures in
    let none : is_some (oldest_in (list_at lists k)) ≡ false = sym (ap is_some oldest) ∙ sym c.is_some.ensures ∙ c.if-is_some.false in
    let count : 3 - k ≡ suc (3 - (k + 1)) = omega arith in
    sym (first_oldest-later (list_at lists) k (3 - k) (3 - (k + 1)) count none) ∙ c.loop-level.invariant
