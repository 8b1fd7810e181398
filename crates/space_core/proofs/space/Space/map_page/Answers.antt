use Rattle.std.proofs.Common.{◌≡◌, sym, refl, Some}
use Rattle.pager_model.specs.Regions.{region_at}
use Rattle.space_core.proofs.SameView.{as_fields}
use Rattle.space_core.proofs.ServedPages.{places, placed_kept}
use Rattle.space_core.proofs.Translations.{retouched_by}
use Rattle.space_core.proofs.space.Space.map_page.Goals as goal

pub invariant_of-self : goal.invariant_of-self
invariant_of-self g c =
    let rest = rw (← c.self.view_is) at c.requires.resting in
    let found : region_at c.self.inside.regions c.args.page ≡ Some c.in-Some.region = sym c.in-Some.ensures.value in
    placed_kept (as_fields c.self.view_is)
    c.put-moves.new.self c.args.page _ _ c.self.invariant c.put-moves.ensures.maps c.requires.page rest.none_clearing refl
    (record { region = c.in-Some.region; at = found; first = refl; rights = rw (← c.self.view_is) at c.rights-rights.ensures })

pub returns : goal.returns
returns g c =
    let rest = rw (← c.self.view_is) at c.requires.resting in
    let found : region_at c.self.inside.regions c.args.page ≡ Some c.in-Some.region = sym c.in-Some.ensures.value in
    let maps = c.put-moves.ensures.maps in
    let kept =
    placed_kept (as_fields c.self.view_is)
    c.put-moves.new.self c.args.page _ _ c.self.invariant maps c.requires.page rest.none_clearing refl
    (record { region = c.in-Some.region; at = found; first = refl; rights = rw (← c.self.view_is) at c.rights-rights.ensures }) in
    rw (c.follow.ensures, ← c.self.view_is)
    (places (as_fields c.self.view_is) _ c.args.page _ rest
    (record {
      absent = rw (← c.self.view_is) at c.requires.absent;
      clean = refl;
      moves = maps;
      mapped = kept.mapped;
      retouched = retouched_by _ _ c.put-moves.result maps.same.sizes c.put-moves.ensures.moves refl refl refl;
      same = rw maps.same.count refl;
    }))
