use Rattle.std.proofs.Common.{◌∙◌, ap, sym}
use Rattle.pager_model.specs.declared.call.Call.TheVariants.{Map}
use Rattle.pager_model.specs.Regions.{map_reply}
use Rattle.region_table.specs.Table.{region_of}
use Rattle.space_core.specs.Standing.{Kept}
use Rattle.space_core.specs.Tables.{own_in}
use Rattle.pager_laws.proofs.RegionReplies.{none_meets}
use Rattle.region_table.proofs.RegionRights.{gains_owned, map_gains}
use Rattle.space_core.proofs.SameView.{as_fields}
use Rattle.space_core.proofs.Refusals.{begins_refused, map_refused}
use Rattle.space_core.proofs.RegionChanges.{maps, gains_mapped, changed_kept}
use Rattle.space_core.proofs.space.Space.begin_map.Goals as goal
use Rattle.space_core.proofs.space.Space.begin_map.Goals.{in-Ok, in-Err}

pub invariant_of-self : goal.invariant_of-self
invariant_of-self g c =
    let old = as_fields c.self.view_is in
    let new = region_of c.args.page c.args.length c.args.kind c.args.rights in
    let rest = rw (← c.self.view_is) at c.requires.resting in
    elim c.match-map.branch [
      | in-Ok w ↦
          let gains = map_gains old.regions new (none_meets old.regions c.args.page c.args.length w.in-Ok.ensures.reply) in
          rw w.in-Ok.ensures.after
          (changed_kept old _ _ _ _ _ c.self.invariant (rw w.in-Ok.ensures.after at c.map.ensures.ordered)
          (gains_owned old.regions _ c.args.page c.args.length c.args.rights gains (own_in old.table) c.self.invariant.own)
          (gains_mapped old _ c.args.page c.args.length c.args.rights gains c.self.invariant.mapped) rest.none_pending rest.none_clearing)
      | in-Err w ↦ rw w.in-Err.ensures.unchanged c.self.invariant
    ]

pub returns-clause-begins : goal.returns-clause-begins
returns-clause-begins g c =
    let rest = rw (← c.self.view_is) at c.requires.resting in
    elim c.match-map.branch [
      | in-Ok w ↦
          rw (w.result-is, w.answered.ensures, w.in-Ok.ensures.after, ← c.self.view_is)
          (maps (as_fields c.self.view_is)
          c.args.page c.args.length c.args.kind c.args.rights rest w.in-Ok.ensures.reply c.self.invariant.own c.self.invariant.mapped)
      | in-Err w ↦
          let e = w.in-Err.ensures in
          let refused =
          rw e.reply at (map_refused c.self.inside.regions c.args.page c.args.length (λ done. e.refusal (sym e.reply ∙ done))) in
          let asked = ap (λ (k : Kept). map_reply k.regions c.args.page c.args.length) (sym c.self.view_is) ∙ e.reply in
          rw (w.result-is, w.answered-in-Err.ensures, e.unchanged, c.self.view_is)
          (λ processor. begins_refused c.args.self.now processor
          (Map c.args.self.now.number c.args.page c.args.length c.args.kind c.args.rights)
          w.in-Err.refusal c.requires.can c.requires.resting refused tt
          (λ st s. ap (λ rs. map_reply rs c.args.page c.args.length) s.beside.regions ∙ asked))
    ]
