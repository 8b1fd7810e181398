use Rattle.std.proofs.Common.{◌≡◌, ◌+◌, ◌-◌, Some, inl, inr, refl, sym, ap, subst, ◌∙◌, add-one, add-zero, arith}
use Rattle.std.proofs.lemmas.Bool.{cases_lt}
use Rattle.std.specs.Option.{IfNone}
use Rattle.extent_tree.specs.Rows.{HasNoRow, part_at, place_of, row}
use Rattle.extent_tree.proofs.Nexts.{no_row_within, row_at}
use Rattle.extent_tree.proofs.Places.{no_root_place, none_below, place_down, root_place, spot_none}
use Rattle.extent_tree.proofs.Trees.{place_known}
use Rattle.extent_tree.proofs.walk.row_round.Goals as goal

pub returns-then-place-roots-clause-none : goal.returns-then-place-roots-clause-none
unfolding row
returns-then-place-roots-clause-none g c size small =
    let t = c.args.store.now in
    ap (λ s. s.value) (spot_none t (3 - size) c.args.page (ap (λ h. place_of t h c.args.page) (sym (add-zero (3 - size)))
    ∙ none_below t 0 (3 - size) c.args.page (no_root_place t c.args.page (omega arith))))

pub loop-height-init : goal.loop-height-init
loop-height-init g c =
    record { place = root_place c.args.store.now c.args.page (omega arith); larger = λ size more small. absurd (omega arith); cost = omega arith }

pub look_at-spot-requires : goal.look_at-spot-requires
look_at-spot-requires g c =
    place_known c.args.store.now c.requires.tree.nodes c.loop-height.height c.args.page c.loop-height.place c.loop-height.invariant.place

pub returns-in-Some-clause-some : goal.returns-in-Some-clause-some
returns-in-Some-clause-some g c =
    let t = c.args.store.now in
    let height = c.loop-height.height in
    record {
      page_is = refl;
      low = omega (arith, c.size_at.ensures);
      is = ap (λ k. row t k c.args.page) c.size_at.ensures
          ∙ (row_at t height c.loop-height.place c.args.page c.args.page (omega arith) c.loop-height.invariant.place refl
          ∙ (sym (ap (λ s. s.value) c.look_at-spot.ensures.spot) ∙ c.in-Some.is));
      largest = λ size more small. c.loop-height.invariant.larger size (omega (arith, more, c.size_at.ensures)) small;
    }

pub returns-in_err-node-clause-none : goal.returns-in_err-node-clause-none
returns-in_err-node-clause-none g c =
    let t = c.args.store.now in
    let height = c.loop-height.height in
    subst (λ o. IfNone o (HasNoRow t c.args.page)) (sym c.from_residual.ensures) (λ size small. elim (cases_lt 3 (size + height)) [
      | inl larger ↦ c.loop-height.invariant.larger size larger small
      | inr most ↦ no_row_within t c.requires.tree height c.loop-height.place c.args.page size c.args.page (omega arith)
          c.loop-height.invariant.place (sym (ap (λ s. s.value) c.look_at-spot.ensures.spot) ∙ c.in_default.is)
          (sym (ap (λ s. s.node) c.look_at-spot.ensures.spot) ∙ (sym c.node.ensures ∙ c.in_err-node.was)) refl (omega arith)
    ])

pub place-place-requires : goal.place-place-requires
place-place-requires g c =
    let hangs = c.requires.tree.nodes.hangs c.loop-height.place c.in_ok-node.node
    (sym (ap (λ s. s.node) c.look_at-spot.ensures.spot) ∙ (sym c.node.ensures ∙ c.in_ok-node.was)) in
    omega (arith, hangs.0, c.requires.tree.nodes.fits, c.requires.tree.nodes.small, c.part_at.ensures.small)

pub loop-height-preserved : goal.loop-height-preserved
loop-height-preserved g c =
    let t = c.args.store.now in
    let height = c.loop-height.height in
    let down = place_down t height c.args.page c.loop-height.place c.in_ok-node.node c.loop-height.invariant.place
    (sym (ap (λ s. s.node) c.look_at-spot.ensures.spot) ∙ (sym c.node.ensures ∙ c.in_ok-node.was)) in
    let place : place_of t (height + 1) c.args.page ≡ Some c.place-place.result =
    rw add-one (down ∙ ap Some
    (omega (arith, c.place-place.ensures, c.part_at.ensures.part, ap (λ h. part_at h c.args.page) (add-one height)))) in
    record {
      place = place;
      larger = λ size more small. elim (cases_lt 3 (size + height)) [
        | inl larger ↦ c.loop-height.invariant.larger size larger small
        | inr last ↦ ap (λ k. row t k c.args.page) {x = size} {y = 3 - height} (omega arith)
            ∙ (row_at t height c.loop-height.place c.args.page c.args.page (omega arith) c.loop-height.invariant.place refl
            ∙ (sym (ap (λ s. s.value) c.look_at-spot.ensures.spot) ∙ c.in_default.is))
      ];
      cost = omega (arith, c.loop-height.invariant.cost, c.look_at-spot.ensures.cost);
    }
