use Rattle.std.proofs.Common.{◌≡◌, ap, sym, ◌∙◌, slice_index_or}
use Rattle.journal_core.specs.Clauses.{IsOwnOf}
use Rattle.journal_core.specs.Journals.{PassState}
use Rattle.pager_model.specs.Legal.{entries_in}
use Rattle.pager_model.specs.Order.{IsWhole}
use Rattle.pager_model.specs.Settings.{mark_of}
use Rattle.pager_locks.proofs.SharedCalls.{the_two, MayCall-new, All-both, from_both, MakesCall-new, IsWhole-made, answers-made}
use Rattle.pager_locks.proofs.shared.run.Given.{Over}
use Rattle.pager_locks.proofs.shared.run.Goals as goal

pub call_both-a-requires-clause-first : goal.call_both-a-requires-clause-first
call_both-a-requires-clause-first g c κs within =
    let two = the_two g.N.Named.journal c.pop.new.self.items c.pop-2.new.self.items c.in-Some-pop.a c.in-Some.b
    (sym (c.open-pager.ensures.passes ∙ c.requires.passes) ∙ c.in-Some.ensures.items) c.in-Some-pop.ensures.items in
    (MayCall-new g.N.Named.journal 0 c.in-Some-pop.a two.first (ap (λ marks. slice_index_or marks 0 0) c.requires.marks), c.requires.first)

pub call_both-a-requires-clause-second : goal.call_both-a-requires-clause-second
call_both-a-requires-clause-second g c κs within =
    let two = the_two g.N.Named.journal c.pop.new.self.items c.pop-2.new.self.items c.in-Some-pop.a c.in-Some.b
    (sym (c.open-pager.ensures.passes ∙ c.requires.passes) ∙ c.in-Some.ensures.items) c.in-Some-pop.ensures.items in
    (MayCall-new g.N.Named.journal 1 c.in-Some.b two.second (ap (λ marks. slice_index_or marks 1 0) c.requires.marks), c.requires.second)

pub close-requires-clause-journal : goal.close-requires-clause-journal
close-requires-clause-journal g c κs within =
    let two = the_two g.N.Named.journal c.pop.new.self.items c.pop-2.new.self.items c.in-Some-pop.a c.in-Some.b
    (sym (c.open-pager.ensures.passes ∙ c.requires.passes) ∙ c.in-Some.ensures.items) c.in-Some-pop.ensures.items in
    All-both (λ (p : PassState). p.journal
    ≡ g.N.Named.journal) c.pop-2.new.self.items c.push_reserved.new.self.items c.push_reserved-2.new.self.items c.call_both-a.result.0 c.call_both-a.result.1 two.none_left c.push_reserved.ensures.items c.push_reserved-2.ensures.items
    (c.call_both-a.ensures.first.1.journal ∙ ap (λ (p : PassState). p.journal) two.first)
    (c.call_both-a.ensures.second.1.journal ∙ ap (λ (p : PassState). p.journal) two.second)

pub close-requires-clause-whole : goal.close-requires-clause-whole
close-requires-clause-whole g c κs within =
    let two = the_two g.N.Named.journal c.pop.new.self.items c.pop-2.new.self.items c.in-Some-pop.a c.in-Some.b
    (sym (c.open-pager.ensures.passes ∙ c.requires.passes) ∙ c.in-Some.ensures.items) c.in-Some-pop.ensures.items in
    All-both (λ (p : PassState). IsWhole (mark_of g.N.Named.journal.setting p.processor)
    (entries_in p.entries)) c.pop-2.new.self.items c.push_reserved.new.self.items c.push_reserved-2.new.self.items c.call_both-a.result.0 c.call_both-a.result.1 two.none_left c.push_reserved.ensures.items c.push_reserved-2.ensures.items
    (IsWhole-made g.N.Named.journal 0 c.call_both-a.result.0 c.args.first.now _
    (MakesCall-new g.N.Named.journal 0 _ _ _ _ two.first c.call_both-a.ensures.first.1)
    (ap (λ marks. slice_index_or marks 0 0) c.requires.marks))
    (IsWhole-made g.N.Named.journal 1 c.call_both-a.result.1 c.args.second.now _
    (MakesCall-new g.N.Named.journal 1 _ _ _ _ two.second c.call_both-a.ensures.second.1)
    (ap (λ marks. slice_index_or marks 1 0) c.requires.marks))

-- both passes' lists are their processors' in the end
owns : (g : Over) (c : goal.After-close g) → IsOwnOf c.call_both-a.result.0 (entries_in c.close.result.history.items)
    × IsOwnOf c.call_both-a.result.1 (entries_in c.close.result.history.items)
owns g c =
    let two = the_two g.N.Named.journal c.pop.new.self.items c.pop-2.new.self.items c.in-Some-pop.a c.in-Some.b
    (sym (c.open-pager.ensures.passes ∙ c.requires.passes) ∙ c.in-Some.ensures.items) c.in-Some-pop.ensures.items in
    from_both (λ (p : PassState). IsOwnOf p
    (entries_in c.close.result.history.items)) c.pop-2.new.self.items c.push_reserved.new.self.items c.push_reserved-2.new.self.items c.call_both-a.result.0 c.call_both-a.result.1 two.none_left c.push_reserved.ensures.items c.push_reserved-2.ensures.items c.close.ensures.passes

pub returns-clause-first : goal.returns-clause-first
returns-clause-first g c =
    let two = the_two g.N.Named.journal c.pop.new.self.items c.pop-2.new.self.items c.in-Some-pop.a c.in-Some.b
    (sym (c.open-pager.ensures.passes ∙ c.requires.passes) ∙ c.in-Some.ensures.items) c.in-Some-pop.ensures.items in
    answers-made g.N.Named.journal 0 c.call_both-a.result.0 c.args.first.now _
    (MakesCall-new g.N.Named.journal 0 _ _ _ _ two.first c.call_both-a.ensures.first.1) _
    (owns g c).0

pub returns-clause-second : goal.returns-clause-second
returns-clause-second g c =
    let two = the_two g.N.Named.journal c.pop.new.self.items c.pop-2.new.self.items c.in-Some-pop.a c.in-Some.b
    (sym (c.open-pager.ensures.passes ∙ c.requires.passes) ∙ c.in-Some.ensures.items) c.in-Some-pop.ensures.items in
    answers-made g.N.Named.journal 1 c.call_both-a.result.1 c.args.second.now _
    (MakesCall-new g.N.Named.journal 1 _ _ _ _ two.second c.call_both-a.ensures.second.1) _
    (owns g c).1
