use Rattle.std.proofs.Common.{◌≡◌, ◌∙◌, ap, refl, sym, true, is_some, None, Err, rules}
use Rattle.std.proofs.lemmas.Bool.{true≢false}
use Rattle.pager_model.specs.declared.call.Call.TheVariants.{Sync}
use Rattle.pager_model.specs.declared.reply.Reply.TheVariants.{Unmapped}
use Rattle.pager_model.specs.Flat.{sync_reply}
use Rattle.pager_model.specs.Regions.{region_at}
use Rattle.space_core.proofs.Refusals.{begins_refused}
use Rattle.space_core.proofs.CopyCalls.{syncs, begins_unwritten, had_memory-unwritten, no_memory}
use Rattle.space_core.proofs.space.Space.begin_sync.Goals as goal

pub returns-then-is_none-clause-begins : goal.returns-then-is_none-clause-begins
returns-then-is_none-clause-begins g c =
    let none : region_at c.args.self.now.regions c.args.page ≡ None = rw (← c.self.view_is) (search rules) in
    rw c.answered.ensures (λ processor. begins_refused c.args.self.now processor
    (Sync c.args.self.now.number c.args.page) Unmapped c.requires.can c.requires.resting refl tt
    (λ st s. ap (λ o. sync_reply o (st.flat.dirty c.args.page)) (ap (λ rs. region_at rs c.args.page) s.beside.regions ∙ none)))

pub returns-in-Ok-clause-begins : goal.returns-in-Ok-clause-begins
returns-in-Ok-clause-begins g c =
    let has : is_some (region_at c.args.self.now.regions c.args.page) ≡ true = rw (← c.self.view_is) (search rules) in
    let copied = c.in-Ok.ensures.copied in
    rw (c.answered-in-Ok.ensures, c.copied.ensures)
    (λ processor. syncs c.args.self.now c.copy_out.new.self processor c.args.page _ c.requires.resting has
    (record { mid = copied.0; saves = copied.1; cleans = copied.2 }))

pub returns-in-Err-clause-begins : goal.returns-in-Err-clause-begins
returns-in-Err-clause-begins g c =
    let has : is_some (region_at c.args.self.now.regions c.args.page) ≡ true = rw (← c.self.view_is) (search rules) in
    rw c.unwritten.ensures (λ processor. begins_unwritten c.args.self.now c.copy_out.new.self processor c.args.page c.requires.resting
    (Sync c.args.self.now.number c.args.page) c.in-Err.fault refl has
    (λ count h. c.in-Err.ensures.failed count (ap Err h)) (λ h. c.in-Err.ensures.no_memory (ap Err h)))

pub returns-then-is_none-clause-lasting : goal.returns-then-is_none-clause-lasting
returns-then-is_none-clause-lasting g c = λ _. rw c.answered.ensures (λ lacking. cc)

pub returns-in-Ok-clause-lasting : goal.returns-in-Ok-clause-lasting
returns-in-Ok-clause-lasting g c = λ _. rw (c.answered-in-Ok.ensures, c.copied.ensures) (no_memory c.in-Ok.written)

pub returns-in-Err-clause-lasting : goal.returns-in-Err-clause-lasting
returns-in-Err-clause-lasting g c = λ lasts. rw c.unwritten.ensures (had_memory-unwritten c.args.page c.in-Err.fault
    (λ is. true≢false (sym lasts ∙ c.in-Err.ensures.lasting (ap Err is))))
