use Rattle.std.proofs.Common.{Bor, arith, refl, sym, ◌∙◌, ◌≡◌, ◌-◌, ◌<◌, ◌≤◌, ℕ, List, length, get_or, Option, None, Some}
use Rattle.std.specs.Bool.{Decides}
use Rattle.std.specs.Option.{MatchOption, option_eq}
use Rattle.std.proofs.lemmas.Bool.{false≢true}
use Rattle.std.proofs.lemmas.Bool.Decides.{Decides-at, Decides-like}
use Rattle.std.proofs.lemmas.Option.{slice_get_read, slice_get_within, get_or_from_slice_get}
use Rattle.reservation_lists.specs.Kept.{same_member}
use Rattle.pager_model.specs.Ages.{Member}
use Rattle.reservation_lists.proofs.StampOrder.{Decides-same_member}
use Rattle.reservation_lists.proofs.Places.{without_member_at_end, without_member_at_place, without_member_elsewhere}
use Rattle.reservation_lists.proofs.remove_from.Goals as goal

-- a comparison with what a list has at a place, where it is longer than some number
compared : (got : Option (Bor Member)) (ms : List Member) (low place : ℕ) (gone : Bor Member)
    → MatchOption got (length ms ≤ low) (λ x. (low < length ms) × ((d : Member) → x.now ≡ get_or ms place d))
    → Decides (option_eq (λ x y. same_member x.now y.now) got (Some gone)) ((low < length ms) × (gone.now ≡ get_or ms place gone.now))
compared None ms low place gone past = (λ is. absurd (false≢true is), λ at. absurd (omega (arith, at.0, past)))
compared (Some x) ms low place gone within =
    Decides-like _ (λ same. (within.0, sym same ∙ within.1 gone.now)) (λ at. within.1 gone.now ∙ sym at.1)
    (Decides-same_member x.now gone.now)

pub returns-then-eq-clause-items : goal.returns-then-eq-clause-items
returns-then-eq-clause-items c =
    let list = c.args.list.now in
    let read = Decides-at _ _ c.eq.ensures (compared c.back.result list.items 0 (list.len - 1) c.args.gone c.back.ensures.item.3) in
    let ends = read.0 c.if-eq.true in
    c.pop_back.ensures.rest
    ∙ sym (without_member_at_end c.args.gone.now list.items (list.len - 1) c.requires (omega (arith, list.ok.0, ends.0)) (sym ends.1))

pub returns-then-eq-2-clause-items : goal.returns-then-eq-2-clause-items
returns-then-eq-2-clause-items c =
    let list = c.args.list.now.items in
    let place = c.position_of-place.result in
    let read = Decides-at _ _ c.eq-2.ensures (compared c.get.result list place place c.args.gone c.get.ensures.item.3) in
    let at = read.0 c.if-eq-2.true in
    let stands = slice_get_read list _ place c.args.gone.now refl at.0 at.1 in
    let taken = c.remove.ensures.succeeds c.args.gone.now (omega (arith, at.0, c.args.list.now.ok.0)) in
    rw (taken, c.position_of-place.ensures) at c.remove.ensures.items
    ∙ sym (without_member_at_place c.args.gone.now list c.requires (rw c.position_of-place.ensures at stands))

pub returns-else-eq-2-clause-items : goal.returns-else-eq-2-clause-items
returns-else-eq-2-clause-items c =
    let list = c.args.list.now.items in
    let place = c.position_of-place.result in
    let read = Decides-at _ _ c.eq-2.ensures (compared c.get.result list place place c.args.gone c.get.ensures.item.3) in
    sym (without_member_elsewhere c.args.gone.now list c.requires (λ there.
    let stands = rw (← c.position_of-place.ensures) at there in
    false≢true (sym c.if-eq-2.false ∙ read.1 (
      slice_get_within list place c.args.gone.now stands,
      sym (get_or_from_slice_get list place c.args.gone.now c.args.gone.now stands),
    ))))
