-- The records after a reservation was split into its eight parts.
use Rattle.std.proofs.Common.{◌≡◌, ◌<◌, ◌≤◌, ℕ, zero, suc, ◌+◌, ◌-◌, ◌*◌, ◌/◌, ◌^◌, Bool, Option, Some, None, option_map, List, length, get_or, slice_get, set, refl, ap, sym, subst, ◌∙◌, arith, inl, inr}
use Rattle.std.proofs.Math.Numerals.{add-one}
use Rattle.std.proofs.lemmas.List.{get_or-set_same, get_or-set_other, length-set}
use Rattle.std.proofs.lemmas.List.FromFn.{get_or-map-range_with_len}
use Rattle.std.proofs.lemmas.Bool.{cases_eq}
use Rattle.std.proofs.lemmas.Nat.{same_from_place}
use Rattle.std.proofs.lemmas.Option.{slice_get-get_or}
use Rattle.pager_model.specs.Records.{part_of, kept_part}
use Rattle.pager_model.specs.declared.reservation.Reservation.{Reservation}
use Rattle.pager_model.specs.RecordPlaces.{IsPlaced}
use Rattle.pager_model.proofs.ExtentLemmas.{eight_pos, eight_quotient, part_of_eight}
use Rattle.reservations.specs.declared.part.Part.{Part}
use Rattle.reservations.specs.Parts.{told_part, told_parts}
use Rattle.reservations.proofs.SplitLemmas.{split_up_to, split_step, split_up_to-more}

-- the number of pages of a part
pub eighth : (pages size : ℕ) → 0 < size → pages ≡ 8 ^ size → pages / 8 ≡ 8 ^ (size - 1)
eighth pages size splits is = ap (λ n. n / 8) is ∙ eight_quotient 1 size splits

-- what is told at a place is told of that part
pub told_at : (used : ℕ → Bool) (r : Reservation) (parts : List Part) (i : ℕ) (d : Part) → parts ≡ told_parts used r → i < length parts
    → (i < 8) × (get_or parts i d ≡ told_part used r i)
told_at used r parts i d is within =
    let below : i < 8 = omega (arith, ap length is) in
    (below, ap (λ ps. get_or ps i d) is ∙ get_or-map-range_with_len (told_part used r) 0 8 i i d below (omega arith))

pub first_told : (used : ℕ → Bool) (r : Reservation) (parts : List Part) (i : ℕ) → parts ≡ told_parts used r → i < length parts
    → option_map (λ (part : Part). part.extent.first) (slice_get parts i) ≡ Some (part_of r i).frame
first_told used r parts i is within =
    ap (option_map (λ (part : Part). part.extent.first)) (slice_get-get_or parts i (told_part used r i) within
    ∙ ap Some (told_at used r parts i (told_part used r i) is within).1)

-- The records after a split.

pub split_suc : (n : ℕ) (used : ℕ → Bool) (r : Reservation) (records : List (Option Reservation))
    → split_up_to (suc n) used r records ≡ split_step used r (split_up_to n used r records) n
split_suc n used r records = subst (λ m. split_up_to m used r records ≡ split_step used r (split_up_to n used r records) n) (add-one n)
    (split_up_to-more n used r records)

module _ (used : ℕ → Bool) (r : Reservation) (records : List (Option Reservation)) (splits : 0 < r.size) (placed : IsPlaced (length records) r.frame r) where
  pub length-split : (n : ℕ) → length (split_up_to n used r records) ≡ length records
  length-split zero = refl
  length-split (suc n) = ap length (split_suc n used r records) ∙ length-set (split_up_to n used r records) (part_of r n).frame
      (kept_part used r n) ∙ length-split n

  pub parts_apart : (i j : ℕ) → (part_of r i).frame ≡ (part_of r j).frame → i ≡ j
  parts_apart i j same =
      let pos = eight_pos (r.size - 1) in
      let at : i * 8 ^ (r.size - 1) + 0 ≡ j * 8 ^ (r.size - 1) + 0 = omega (arith, same) in
      (same_from_place i 0 j 0 (8 ^ (r.size - 1)) pos pos at).0

  pub part_known : (i : ℕ) → i < 8 → (part_of r i).frame < length records
  part_known i one = omega (arith, part_of_eight i r.size splits one, placed.within, eight_pos (r.size - 1))

  pub split_at : (n i : ℕ) → i < n → n ≤ 8 → get_or (split_up_to n used r records) (part_of r i).frame None ≡ kept_part used r i
  split_at zero i lt le = absurd (omega arith)
  split_at (suc n) i lt le =
      let rs = split_up_to n used r records in
      ap (λ l. get_or l (part_of r i).frame None) (split_suc n used r records)
      ∙ elim (cases_eq i n) [
        | inl here ↦
            ap (λ m. get_or (set rs (part_of r n).frame (kept_part used r n)) (part_of r m).frame None) here
            ∙ get_or-set_same rs (part_of r n).frame (kept_part used r n) None (omega (arith, part_known n (omega arith), length-split n))
            ∙ ap (kept_part used r) (sym here)
        | inr other ↦
            get_or-set_other rs (part_of r n).frame (part_of r i).frame (kept_part used r n) None (λ same. other (parts_apart i n same))
            ∙ split_at n i (omega arith) (omega arith)
      ]

  pub split_other : (n id : ℕ) → ((i : ℕ) → i < n → id ≡ (part_of r i).frame → ⊥)
      → get_or (split_up_to n used r records) id None ≡ get_or records id None
  split_other zero id none = refl
  split_other (suc n) id none =
      ap (λ l. get_or l id None) (split_suc n used r records)
      ∙ get_or-set_other (split_up_to n used r records) (part_of r n).frame id (kept_part used r n) None (none n (omega arith))
      ∙ split_other n id (λ i lt. none i (omega arith))
