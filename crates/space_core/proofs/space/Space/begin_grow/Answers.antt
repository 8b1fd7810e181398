use Rattle.std.proofs.Common.{◌∙◌, ap, sym}
use Rattle.pager_model.specs.declared.call.Call.TheVariants.{Grow}
use Rattle.pager_model.specs.Regions.{end_of, grow_reply}
use Rattle.pager_laws.proofs.RegionReplies.{grow_found}
use Rattle.region_table.proofs.RegionRights.{gains_owned, grow_gains}
use Rattle.space_core.specs.Standing.{Kept}
use Rattle.space_core.specs.Tables.{own_in}
use Rattle.space_core.proofs.SameView.{as_fields}
use Rattle.space_core.proofs.Refusals.{begins_refused, grow_refused}
use Rattle.space_core.proofs.RegionChanges.{grows_region, gains_mapped, changed_kept}
use Rattle.space_core.proofs.space.Space.begin_grow.Goals as goal
use Rattle.space_core.proofs.space.Space.begin_grow.Goals.{in-Ok, in-Err}

pub invariant_of-self : goal.invariant_of-self
invariant_of-self g c =
    let old = as_fields c.self.view_is in
    let rest = rw (← c.self.view_is) at c.requires.resting in
    elim c.match-grow.branch [
      | in-Ok w ↦
          let grows = grow_found old.regions c.args.page c.args.by w.in-Ok.ensures.reply in
          let r = grows.region in
          let gains = grow_gains old.regions c.args.page c.args.by r c.self.invariant.ordered grows.at grows.free in
          rw w.in-Ok.ensures.after
          (changed_kept old _ _ _ _ _ c.self.invariant (rw w.in-Ok.ensures.after at c.grow.ensures.ordered)
          (gains_owned old.regions _ (end_of r) c.args.by r.rights gains (own_in old.table) c.self.invariant.own)
          (gains_mapped old _ (end_of r) c.args.by r.rights gains c.self.invariant.mapped) rest.none_pending rest.none_clearing)
      | in-Err w ↦ rw w.in-Err.ensures.unchanged c.self.invariant
    ]

pub returns-clause-begins : goal.returns-clause-begins
returns-clause-begins g c =
    let rest = rw (← c.self.view_is) at c.requires.resting in
    elim c.match-grow.branch [
      | in-Ok w ↦
          let grows = grow_found c.self.inside.regions c.args.page c.args.by w.in-Ok.ensures.reply in
          rw (w.result-is, w.answered.ensures, w.in-Ok.ensures.after, ← c.self.view_is)
          (grows_region (as_fields c.self.view_is) c.args.page c.args.by rest c.self.invariant.ordered w.in-Ok.ensures.reply grows
          c.self.invariant.own c.self.invariant.mapped)
      | in-Err w ↦
          let e = w.in-Err.ensures in
          let refused = rw e.reply at (grow_refused c.self.inside.regions c.args.page c.args.by (λ done. e.refusal (sym e.reply ∙ done))) in
          let asked = ap (λ (k : Kept). grow_reply k.regions c.args.page c.args.by) (sym c.self.view_is) ∙ e.reply in
          rw (w.result-is, w.answered-in-Err.ensures, e.unchanged, c.self.view_is)
          (λ processor. begins_refused c.args.self.now processor
          (Grow c.args.self.now.number c.args.page c.args.by) w.in-Err.refusal c.requires.can c.requires.resting refused tt
          (λ st s. ap (λ rs. grow_reply rs c.args.page c.args.by) s.beside.regions ∙ asked))
    ]
