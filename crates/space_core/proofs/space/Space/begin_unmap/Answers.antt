use Rattle.std.proofs.Common.{◌≡◌, ◌∙◌, ap, sym, refl, None}
use Rattle.pager_model.specs.declared.call.Call.TheVariants.{Unmap}
use Rattle.pager_model.specs.declared.reply.Reply.TheVariants.{Unmapped}
use Rattle.pager_model.specs.Regions.{region_at, unmap_reply_at}
use Rattle.space_core.specs.Standing.{Kept}
use Rattle.space_core.proofs.Refusals.{begins_refused}
use Rattle.space_core.proofs.RegionChanges.{begins_clearing}
use Rattle.space_core.proofs.space.Space.begin_unmap.Goals as goal
use Rattle.space_core.proofs.space.Space.begin_unmap.Goals.{in-Some, in-None}

pub returns-clause-begins : goal.returns-clause-begins
returns-clause-begins g c =
    let same : c.self.inside.regions ≡ c.args.self.now.regions = ap (λ (k : Kept). k.regions) c.self.view_is in
    let found = rw same at c.find.ensures.value in
    elim c.match-find.branch [
      | in-Some w ↦ rw w.result-is (λ processor. begins_clearing c.args.self.now c.args.page _ (rw same at c.self.invariant.ordered)
          (sym found ∙ w.in-Some.is))
      | in-None w ↦
          let none : region_at c.args.self.now.regions c.args.page ≡ None = sym found ∙ w.in-None.is in
          rw (w.result-is, w.answered.ensures)
          (λ processor. begins_refused c.args.self.now processor
          (Unmap c.args.self.now.number c.args.page) Unmapped c.requires.can c.requires.resting refl refl
          (λ st s. ap (λ rs. unmap_reply_at (region_at rs c.args.page)) s.beside.regions ∙ ap unmap_reply_at none))
    ]
