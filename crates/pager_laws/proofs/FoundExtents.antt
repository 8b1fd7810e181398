-- The extent of free frames that is found for a new reservation, and when there is none.
use Rattle.std.proofs.Common.{◌≡◌, ◌≤◌, ℕ, zero, suc, ◌-◌, true, false, cond, Some, None, option_map, refl, sym, ap, subst, ◌∙◌, arith}
use Rattle.std.specs.Option.{option_or, option_and_then, option_map_or}
use Rattle.std.proofs.lemmas.Option.{none-some, same_Some}
use Rattle.pager_model.specs.declared.reservation.Reservation.{Reservation}
use Rattle.pager_model.specs.FreeBlocks.{choice}
use Rattle.pager_model.specs.Layouts.{Layout, FreeExtent, break_layout, to_break, broken_at, chosen, extent_of, largest_extent, record_at}
use Rattle.pager_model.specs.Records.{is_used, yield_in}
use Rattle.pager_model.specs.SizeSets.{has_size}
use Rattle.pager_laws.specs.Laid.{IsLaid}
use Rattle.pager_laws.proofs.LayoutBreak.{Settles-same, Settles-break}
use Rattle.pager_laws.proofs.BreakYield.{choice-break}
use Rattle.pager_laws.proofs.AgeLists.{oldest_from-found}
use Rattle.pager_laws.proofs.LayoutSplit.{Settles}

-- the reservation that is broken for a size has a yield of this size or more
pub record MayBreak (l : Layout) (size id : ℕ) : Type 0 where
  pub reservation : Reservation
  pub is : record_at l id ≡ Some reservation
  pub yields : ℕ
  pub yield_is : yield_in l.sizes (is_used l.used) reservation ≡ Some yields
  pub enough : size ≤ yields
  pub broken : broken_at id l ≡ break_layout reservation l

pub MayBreak-found : (l : Layout) (size id : ℕ) → IsLaid l → to_break l size ≡ Some id → MayBreak l size id
MayBreak-found l size id laid found =
    let first = oldest_from-found l size (3 - size) id laid.placed found in
    record {
      reservation = first.0;
      is = first.4;
      yields = first.1;
      yield_is = first.5;
      enough = first.2;
      broken = ap (λ o. option_map_or (λ r. break_layout r l) o l) first.4;
    }

-- An extent that is found is the choice of a layout that differs from the first one by splittings alone, and is of the size or
-- smaller.
pub record IsFound (l : Layout) (size : ℕ) (found : FreeExtent) : Type 0 where
  pub settles : Settles l found.layout
  pub is : choice found.layout.free found.size ≡ Some found.first
  pub small : found.size ≤ size

-- what is found where the choice is this frame
abbrev found_at : Layout → ℕ → ℕ → ℕ → FreeExtent
found_at l size broken first = record { layout = l; size = size; first = first; broken = broken }

-- a choice in a layout that differs by splittings alone is found
IsFound-chosen : (l from : Layout) (size broken : ℕ) (found : FreeExtent) → Settles l from → chosen size broken from ≡ Some found
    → IsFound l size found
IsFound-chosen l from size broken found settles is =
    elim (choice from.free size) as (λ o. choice from.free size ≡ o → option_map (found_at from size broken) o ≡ Some found
    → IsFound l size found) [
      | None ↦ λ none h. absurd (none-some found h)
      | Some first ↦ λ here h. subst (IsFound l size) (same_Some (found_at from size broken first) found h)
          (record { settles = settles; is = here; small = omega arith })
    ] refl is

-- so is a choice after a reservation was broken, and the largest of them
IsFound-extent_of : (l : Layout) (size : ℕ) (found : FreeExtent) → IsLaid l → extent_of size l ≡ Some found → IsFound l size found
IsFound-extent_of l size found laid is =
    elim (chosen size 0 l) as (λ o. chosen size 0 l ≡ o → option_or o
    (option_and_then (λ id. chosen size 1 (broken_at id l)) (to_break l size)) ≡ Some found → IsFound l size found) [
      | Some first ↦ λ here h. IsFound-chosen l l size 0 found (Settles-same l laid) (here ∙ h)
      | None ↦ λ _ h.
          elim (to_break l size) as (λ o. to_break l size ≡ o → option_and_then (λ id. chosen size 1 (broken_at id l)) o ≡ Some found
          → IsFound l size found) [
            | None ↦ λ none e. absurd (none-some found e)
            | Some id ↦ λ breaks e.
                let may = MayBreak-found l size id laid breaks in
                IsFound-chosen l (break_layout may.reservation l) size 1 found (Settles-break l id may.reservation laid may.is)
                (sym (ap (chosen size 1) may.broken) ∙ e)
          ] refl h
    ] refl is

pub IsFound-largest_extent : (l : Layout) (size : ℕ) (found : FreeExtent) → IsLaid l → largest_extent size l ≡ Some found → IsFound l size found
IsFound-largest_extent l zero found laid is = IsFound-extent_of l 0 found laid is
IsFound-largest_extent l (suc size) found laid is =
    let smaller : largest_extent size l ≡ Some found → IsFound l (suc size) found =
    λ h. let rest = IsFound-largest_extent l size found laid h in record {
      settles = rest.settles;
      is = rest.is;
      small = omega (arith, rest.small);
    } in
    elim (has_size l.sizes (suc size)) as (λ b. cond b (option_or (extent_of (suc size) l) (largest_extent size l)) (largest_extent size l)
    ≡ Some found → IsFound l (suc size) found) [
      | true ↦ λ e. elim (extent_of (suc size) l) as (λ o. extent_of (suc size) l ≡ o → option_or o (largest_extent size l) ≡ Some found
          → IsFound l (suc size) found) [
            | Some first ↦ λ here h. IsFound-extent_of l (suc size) found laid (here ∙ h)
            | None ↦ λ _ h. smaller h
          ] refl e
      | false ↦ λ e. smaller e
    ] is

-- where no extent is found of any size, there is no choice for one frame, and nothing to break
chosen-none : (l : Layout) (size broken : ℕ) → chosen size broken l ≡ None → choice l.free size ≡ None
chosen-none l size broken none =
    elim (choice l.free size) as (λ o. option_map (found_at l size broken) o ≡ None → o ≡ None) [
      | None ↦ λ _. refl
      | Some first ↦ λ h. absurd (none-some (found_at l size broken first) (sym h))
    ] none

extent_of-none : (l : Layout) (size : ℕ) → IsLaid l → extent_of size l ≡ None → (choice l.free size ≡ None) × (to_break l size ≡ None)
extent_of-none l size laid none =
    elim (chosen size 0 l) as (λ o. chosen size 0 l ≡ o
    → option_or o (option_and_then (λ id. chosen size 1 (broken_at id l)) (to_break l size)) ≡ None
    → (choice l.free size ≡ None) × (to_break l size ≡ None)) [
      | Some first ↦ λ _ h. absurd (none-some first (sym h))
      | None ↦ λ no_choice h. (
        chosen-none l size 0 no_choice,
        elim (to_break l size) as (λ o. to_break l size ≡ o → option_and_then (λ id. chosen size 1 (broken_at id l)) o ≡ None → o ≡ None) [
          | None ↦ λ _ _. refl
          | Some id ↦ λ breaks e.
              let may = MayBreak-found l size id laid breaks in
              absurd (choice-break l id may.reservation may.yields size laid may.is may.yield_is may.enough
              (chosen-none (break_layout may.reservation l) size 1 (sym (ap (chosen size 1) may.broken) ∙ e)))
        ] refl h,
      )
    ] refl none

pub largest_extent-none : (l : Layout) (size : ℕ) → IsLaid l → largest_extent size l ≡ None
    → (choice l.free 0 ≡ None) × (to_break l 0 ≡ None)
largest_extent-none l zero laid none = extent_of-none l 0 laid none
largest_extent-none l (suc size) laid none =
    elim (has_size l.sizes (suc size)) as (λ b. cond b (option_or (extent_of (suc size) l) (largest_extent size l)) (largest_extent size l)
    ≡ None → (choice l.free 0 ≡ None) × (to_break l 0 ≡ None)) [
      | true ↦ λ e. elim (extent_of (suc size) l) as (λ o. option_or o (largest_extent size l) ≡ None
          → (choice l.free 0 ≡ None) × (to_break l 0 ≡ None)) [
            | Some first ↦ λ h. absurd (none-some first (sym h))
            | None ↦ λ h. largest_extent-none l size laid h
          ] e
      | false ↦ λ e. largest_extent-none l size laid e
    ] none

-- where there is no choice and nothing to break for any size, no extent is found
pub none-largest_extent : (l : Layout) (size : ℕ) → ((k : ℕ) → choice l.free k ≡ None) → ((k : ℕ) → to_break l k ≡ None)
    → largest_extent size l ≡ None
none-largest_extent l size no_choice no_break = at size
  where
    here : (k : ℕ) → extent_of k l ≡ None
    here k =
        ap (λ o. option_or (option_map (found_at l k 0) o) (option_and_then (λ id. chosen k 1 (broken_at id l)) (to_break l k)))
        (no_choice k)
        ∙ ap (λ o. option_and_then (λ id. chosen k 1 (broken_at id l)) o) (no_break k)

    at : (k : ℕ) → largest_extent k l ≡ None
    at zero = here 0
    at (suc k) =
        elim (has_size l.sizes (suc k)) as (λ b. cond b (option_or (extent_of (suc k) l) (largest_extent k l)) (largest_extent k l)
        ≡ None) [
          | true ↦ ap (λ o. option_or o (largest_extent k l)) (here (suc k)) ∙ at k
          | false ↦ at k
        ]
