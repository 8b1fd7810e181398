use Rattle.std.proofs.Common.{◌≡◌, ◌≢◌, ◌<◌, ◌∙◌, ap, sym, refl, true, None, Some, Err, rules}
use Rattle.std.proofs.lemmas.Bool.{true≢false}
use Rattle.pager_model.specs.Bounds.{space_pages}
use Rattle.pager_model.specs.declared.call.Call.TheVariants.{Evict}
use Rattle.pager_model.specs.declared.reply.Reply.TheVariants.{Denied, Unmapped}
use Rattle.pager_model.specs.Flat.{evict_reply}
use Rattle.pager_model.specs.Regions.{is_wired, region_at}
use Rattle.space_core.specs.Standing.{Kept, is_unwired, frame_at}
use Rattle.space_core.proofs.Refusals.{begins_refused}
use Rattle.space_core.proofs.SameView.{same_regions}
use Rattle.space_core.proofs.CopyCalls.{evicts_absent, begins_unwritten, had_memory-unwritten, begins_evicting, evict_denied, unwired_at}
use Rattle.space_core.proofs.space.Space.begin_evict.Goals as goal

pub returns-in_default-clause-begins : goal.returns-in_default-clause-begins
returns-in_default-clause-begins g c =
    let none : region_at c.args.self.now.regions c.args.page ≡ None =
    ap (λ (k : Kept). region_at k.regions c.args.page) (sym c.self.view_is) ∙ sym c.find.ensures.value ∙ c.in_default.is in
    rw c.answered.ensures (λ processor. begins_refused c.args.self.now processor
    (Evict c.args.self.now.number c.args.page) Unmapped c.requires.can c.requires.resting refl tt
    (λ st s. ap (λ o. evict_reply o (st.flat.dirty c.args.page)) (ap (λ rs. region_at rs c.args.page) s.beside.regions ∙ none)))

pub returns-then-is_wired-clause-begins : goal.returns-then-is_wired-clause-begins
returns-then-is_wired-clause-begins g c =
    let found : region_at c.args.self.now.regions c.args.page ≡ Some c.in-Some.region =
    ap (λ (k : Kept). region_at k.regions c.args.page) (sym c.self.view_is) ∙ sym c.in-Some.ensures.value in
    let wired : is_wired c.in-Some.region ≡ true = search rules in
    rw c.answered-then-is_wired.ensures (λ processor. begins_refused c.args.self.now processor
    (Evict c.args.self.now.number c.args.page) Denied c.requires.can c.requires.resting refl tt
    (λ st s. ap (λ rs. evict_reply (region_at rs c.args.page) (st.flat.dirty c.args.page)) s.beside.regions
    ∙ evict_denied _ c.args.page c.in-Some.region found wired (st.flat.dirty c.args.page)))

pub returns-in_default-mapping-clause-begins : goal.returns-in_default-mapping-clause-begins
returns-in_default-mapping-clause-begins g c =
    let unwired : is_unwired (region_at c.args.self.now.regions c.args.page) ≡ true = rw (← c.self.view_is) (search (rules, unwired_at)) in
    let absent : frame_at c.args.self.now c.args.page ≡ None = rw (← c.self.view_is) (search rules) in
    rw c.answered-in_default-mapping.ensures
    (λ processor. evicts_absent c.args.self.now processor c.args.page c.requires.resting unwired absent)

pub returns-in-Ok-clause-begins : goal.returns-in-Ok-clause-begins
returns-in-Ok-clause-begins g c =
    let unwired : is_unwired (region_at c.args.self.now.regions c.args.page) ≡ true = rw (← c.self.view_is) (search (rules, unwired_at)) in
    let resident : frame_at c.args.self.now c.args.page ≢ None = rw (← c.self.view_is) (search rules) in
    let in_space : c.args.page < space_pages = search rules in
    λ processor. begins_evicting c.args.self.now c.save.new.self _ c.args.page _ c.requires.resting in_space unwired resident c.in-Ok.ensures.saved
    (rw (← c.self-2.view_is) (record {
      same = same_regions _ _ refl refl refl refl (λ p. refl);
      table = refl;
      pending = refl;
      clearing = refl;
      paged = refl;
      store = refl;
      unread = refl;
      still = record { sizes = refl; images = refl; promotions = refl; demotions = refl };
    }))

pub returns-in-Err-clause-begins : goal.returns-in-Err-clause-begins
returns-in-Err-clause-begins g c =
    let unwired : is_unwired (region_at c.args.self.now.regions c.args.page) ≡ true = rw (← c.self.view_is) (search (rules, unwired_at)) in
    rw c.unwritten.ensures (λ processor. begins_unwritten c.args.self.now c.save.new.self processor c.args.page c.requires.resting
    (Evict c.args.self.now.number c.args.page) c.in-Err.fault refl unwired
    (λ count h. c.in-Err.ensures.failed count (ap Err h)) (λ h. c.in-Err.ensures.no_memory (ap Err h)))

pub returns-in-Err-clause-lasting : goal.returns-in-Err-clause-lasting
returns-in-Err-clause-lasting g c = λ lasts. rw c.unwritten.ensures (had_memory-unwritten c.args.page c.in-Err.fault
    (λ is. true≢false (sym lasts ∙ c.in-Err.ensures.lasting (ap Err is))))
