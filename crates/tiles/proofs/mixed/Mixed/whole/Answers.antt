use Rattle.std.proofs.Common.{◌≡◌, ◌-◌, ◌/◌, ◌^◌, ◌≤◌, suc, sym, ap, ◌∙◌, subst, arith}
use Rattle.std.specs.Option.{MatchOption}
use Rattle.extent_tree.specs.Rows.{spot_of}
use Rattle.tiles.specs.declared.entry.TableEntry.{TableEntry}
use Rattle.tiles.specs.TableEntries.{entry_with, extent_round, AreParts}
use Rattle.tiles.specs.KeptEntries.{Joins}
use Rattle.tiles.proofs.Wholes.{AreValues, joins_parts, no_whole}
use Rattle.tiles.proofs.mixed.Mixed.whole.Goals as goal
use Rattle.tiles.proofs.mixed.Mixed.whole.Goals.{After-eight-parts, After-pages}
use Rattle.tiles.proofs.mixed.Mixed.whole.Given.{Over}

values : (g : Over) (c : After-eight-parts g) → c.args.size ≤ 3
    → AreValues c.self.inside.tree c.eight-parts.result.now c.args.size c.args.page
values g c low other same =
    let t = c.self.inside.tree in
    let size = c.args.size in
    let height : 3 - size ≡ 2 - (size - 1) = omega (arith, c.requires) in
    let up : size ≡ suc (size - 1) = omega (arith, c.requires) in
    c.eight-parts.ensures.values (size - 1) c.args.page other (omega (arith, low))
    (c.at-over.ensures.spot ∙ ap (λ h. spot_of t h c.args.page) height)
    (subst (λ n. other / 8 ^ n ≡ c.args.page / 8 ^ n) up same)

-- how many pages a part has
pages : (g : Over) (c : After-pages g) → c.pages.result ≡ 8 ^ (c.args.size - 1)
pages g c = c.pages.ensures ∙ ap (λ k. 8 ^ k) c.smaller.ensures

pub returns-in_err-mapping-clause-whole : goal.returns-in_err-mapping-clause-whole
returns-in_err-mapping-clause-whole g c =
    let low : c.args.size ≤ 3 = omega arith in
    let none = no_whole c.self.inside.tree c.eight-parts.result.now c.args.size c.args.page c.pages.result c.requires low
    (pages g (goal.at.returns-in_err-mapping-clause-whole g c).After-pages)
    (values g (goal.at.returns-in_err-mapping-clause-whole g c).After-eight-parts low) c.in_err-mapping.ensures in
    subst (λ o. MatchOption o ((whole : TableEntry) → whole.extent ≡ extent_round c.args.size c.args.page → AreParts whole c.args.self.now → ⊥)
    (λ whole. (whole.extent ≡ extent_round c.args.size c.args.page) × AreParts whole c.args.self.now)) (sym c.from_residual.ensures)
    (subst (λ t. (whole : TableEntry) → whole.extent ≡ extent_round c.args.size c.args.page → AreParts whole t → ⊥) c.self.view_is none)

pub returns-clause-whole : goal.returns-clause-whole
returns-clause-whole g c =
    let low : c.args.size ≤ 3 = omega arith in
    let mapping = c.in_ok-mapping.mapping in
    let parts = c.eight-parts.result.now in
    let are = joins_parts c.self.inside.tree parts c.args.size c.args.page mapping c.self.invariant.0 c.requires low
    (values g (goal.at.returns-clause-whole g c).After-eight-parts low)
    (subst (λ n. Joins parts n mapping) (pages g (goal.at.returns-clause-whole g c).After-pages) c.in_ok-mapping.ensures) in (
      ap (λ (e : TableEntry). e.extent) c.round.ensures,
      subst (λ e. AreParts e c.args.self.now) (sym c.round.ensures) (subst
          (AreParts (entry_with c.args.size c.args.page mapping)) c.self.view_is are),
    )
