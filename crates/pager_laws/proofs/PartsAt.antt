-- The records after a reservation was split into its extents of a smaller size, and which of them has a frame.
use Rattle.std.proofs.Common.{◌≡◌, ◌<◌, ◌≤◌, ℕ, zero, suc, ◌+◌, ◌-◌, ◌*◌, ◌/◌, ◌%◌, ◌^◌, ◌⊎◌, Bool, true, false, List, [], ◌∷◌, ◌++◌, length, get_or, set, fold, Option, Some, None, refl, ap, sym, ◌∙◌, arith, inl, inr}
use Rattle.std.specs.List.{range_with_len}
use Rattle.std.proofs.Math.Numerals.{add-one}
use Rattle.std.proofs.lemmas.List.{get_or-set_same, get_or-set_other, length-set}
use Rattle.std.proofs.lemmas.List.Sums.{fold_push}
use Rattle.std.proofs.lemmas.Bool.{cases_eq, cases_Bool, cond-true, cond-false, false≢true}
use Rattle.std.proofs.lemmas.Nat.{div_below, div-add-mod', mod_below, same_from_place}
use Rattle.pager_model.specs.Agreement.{has_frame}
use Rattle.pager_model.specs.Records.{part_count, part_at, is_empty_at, kept_at}
use Rattle.pager_model.specs.declared.reservation.Reservation.{Reservation}
use Rattle.pager_model.specs.RecordPlaces.{IsPlaced}
use Rattle.pager_model.proofs.ExtentLemmas.{eight_pos, eight_split, part_inside, aligned_part, extent_of_frame}
use Rattle.pager_model.proofs.Ranges.{range_with_len-more}
use Rattle.pager_model.proofs.RecordFrames.{has_frame_bounds, has_frame_from, unused_in}

-- a part ends inside the whole
pub part_ends : (k i : ℕ) (r : Reservation) → k ≤ r.size → i < part_count k r → i * 8 ^ k + 8 ^ k ≤ 8 ^ r.size
part_ends k i r le lt = omega (arith, part_inside i (8 ^ k) (8 ^ (r.size - k)) lt, eight_split k r.size le)

-- and is an extent of frames and of pages
pub part_at-placed : (frames k i : ℕ) (r : Reservation) → IsPlaced frames r.frame r → k ≤ r.size → i < part_count k r
    → IsPlaced frames (part_at k r i).frame (part_at k r i)
part_at-placed frames k i r placed le one = record {
  named = refl;
  aligned = (omega (arith, placed.aligned.0, le), aligned_part k r.size r.frame i le placed.aligned.1);
  within = omega (arith, part_ends k i r le one, placed.within);
  pages_aligned = (omega (arith, placed.aligned.0, le), aligned_part k r.size r.first i le placed.pages_aligned.1);
}

pub kept_at-cases : (k : ℕ) (used : ℕ → Bool) (r : Reservation) (i : ℕ)
    → ((kept_at k used r i ≡ None) × (is_empty_at k used r i ≡ true))
    ⊎ ((kept_at k used r i ≡ Some (part_at k r i)) × (is_empty_at k used r i ≡ false))
kept_at-cases k used r i = elim (cases_Bool (is_empty_at k used r i)) [
  | inl empty ↦ inl (cond-true _ _ _ empty, empty)
  | inr filled ↦ inr (cond-false _ _ _ filled, filled)
]

-- The records after a split.

-- the first parts are noted
abbrev pub parted_up_to : ℕ → ℕ → (ℕ → Bool) → Reservation → List (Option Reservation) → List (Option Reservation)
parted_up_to n k used r records = fold (λ rs i. set rs (part_at k r i).frame (kept_at k used r i)) records (range_with_len 0 n)

pub parted_suc : (n k : ℕ) (used : ℕ → Bool) (r : Reservation) (records : List (Option Reservation))
    → parted_up_to (suc n) k used r records ≡ set (parted_up_to n k used r records) (part_at k r n).frame (kept_at k used r n)
parted_suc n k used r records =
    let step : List (Option Reservation) → ℕ → List (Option Reservation) = λ rs i. set rs (part_at k r i).frame (kept_at k used r i) in
    let more : range_with_len 0 (n + 1) ≡ range_with_len 0 n ++ n ∷ [] = range_with_len-more n in
    ap (λ m. parted_up_to m k used r records) (sym (add-one n)) ∙ ap (fold step records) more
    ∙ fold_push step records (range_with_len 0 n) n

module _ (k : ℕ) (used : ℕ → Bool) (r : Reservation) (records : List (Option Reservation)) (le : k ≤ r.size)
    (placed : IsPlaced (length records) r.frame r) where
  pub length-parted : (n : ℕ) → length (parted_up_to n k used r records) ≡ length records
  length-parted zero = refl
  length-parted (suc n) = ap length (parted_suc n k used r records) ∙ length-set (parted_up_to n k used r records) (part_at k r n).frame
      (kept_at k used r n) ∙ length-parted n

  pub parts_apart : (i j : ℕ) → (part_at k r i).frame ≡ (part_at k r j).frame → i ≡ j
  parts_apart i j same =
      let pos = eight_pos k in
      let at : i * 8 ^ k + 0 ≡ j * 8 ^ k + 0 = omega (arith, same) in
      (same_from_place i 0 j 0 (8 ^ k) pos pos at).0

  pub part_known : (i : ℕ) → i < part_count k r → (part_at k r i).frame < length records
  part_known i one = omega (arith, part_ends k i r le one, placed.within, eight_pos k)

  pub parted_at : (n i : ℕ) → i < n → n ≤ part_count k r → get_or (parted_up_to n k used r records) (part_at k r i).frame None
      ≡ kept_at k used r i
  parted_at zero i lt most = absurd (omega arith)
  parted_at (suc n) i lt most =
      let rs = parted_up_to n k used r records in
      ap (λ l. get_or l (part_at k r i).frame None) (parted_suc n k used r records)
      ∙ elim (cases_eq i n) [
        | inl here ↦
            ap (λ m. get_or (set rs (part_at k r n).frame (kept_at k used r n)) (part_at k r m).frame None) here
            ∙ get_or-set_same rs (part_at k r n).frame (kept_at k used r n) None
            (omega (arith, part_known n (omega arith), length-parted n))
            ∙ ap (kept_at k used r) (sym here)
        | inr other ↦
            get_or-set_other rs (part_at k r n).frame (part_at k r i).frame (kept_at k used r n) None (λ same. other (parts_apart i n same))
            ∙ parted_at n i (omega arith) (omega arith)
      ]

  pub parted_other : (n id : ℕ) → ((i : ℕ) → i < n → id ≡ (part_at k r i).frame → ⊥)
      → get_or (parted_up_to n k used r records) id None ≡ get_or records id None
  parted_other zero id none = refl
  parted_other (suc n) id none =
      ap (λ l. get_or l id None) (parted_suc n k used r records)
      ∙ get_or-set_other (parted_up_to n k used r records) (part_at k r n).frame id (kept_at k used r n) None (none n (omega arith))
      ∙ parted_other n id (λ i lt. none i (omega arith))

-- Which part has a frame.

module _ (k : ℕ) (r : Reservation) where
  pub find_part : (n id : ℕ) → ((i : ℕ) × (i < n) × (id ≡ (part_at k r i).frame)) ⊎ ((i : ℕ) → i < n → id ≡ (part_at k r i).frame → ⊥)
  find_part zero id = inr (λ i lt same. omega (arith, lt))
  find_part (suc n) id = elim (cases_eq id (part_at k r n).frame) [
    | inl here ↦ inl (n, omega arith, here)
    | inr other ↦ elim (find_part n id) [
      | inl found ↦ inl (found.0, omega (arith, found.1), found.2)
      | inr none ↦ inr (λ i lt same. elim (cases_eq i n) [
        | inl at ↦ other (same ∙ ap (λ m. (part_at k r m).frame) at)
        | inr before ↦ none i (omega arith) same
      ])
    ]
  ]

  pub part_in_whole : k ≤ r.size → (i : ℕ) → i < part_count k r → (f : ℕ) → has_frame f (Some (part_at k r i)) ≡ true
      → has_frame f (Some r) ≡ true
  part_in_whole le i one f has =
      let bounds = has_frame_bounds f (part_at k r i) has in
      has_frame_from f r (omega (arith, bounds.0)) (omega (arith, bounds.1, part_ends k i r le one))

  pub same_part : (f i j : ℕ) → has_frame f (Some (part_at k r i)) ≡ true → has_frame f (Some (part_at k r j)) ≡ true → i ≡ j
  same_part f i j in_i in_j =
      let w = 8 ^ k in
      let by_i = has_frame_bounds f (part_at k r i) in_i in
      let by_j = has_frame_bounds f (part_at k r j) in_j in
      sym (extent_of_frame i w (f - r.frame) (omega (arith, by_i.0)) (omega (arith, by_i.0, by_i.1)))
      ∙ extent_of_frame j w (f - r.frame) (omega (arith, by_j.0)) (omega (arith, by_j.0, by_j.1))

  pub which_part : k ≤ r.size → (f : ℕ) → has_frame f (Some r) ≡ true
      → (j : ℕ) × (j < part_count k r) × (has_frame f (Some (part_at k r j)) ≡ true)
  which_part le f has =
      let w = 8 ^ k in
      let pos = eight_pos k in
      let bounds = has_frame_bounds f r has in
      let j = (f - r.frame) / w in
      let whole : j * w + (f - r.frame) % w ≡ f - r.frame = div-add-mod' (f - r.frame) w in
      let rest = mod_below (f - r.frame) w pos in (
        j,
        div_below (f - r.frame) w (8 ^ (r.size - k)) pos (omega (arith, bounds.0, bounds.1, eight_split k r.size le)),
        has_frame_from f (part_at k r j) (omega (arith, whole, bounds.0)) (omega (arith, whole, rest, bounds.0)),
      )

  pub used_part : (used : ℕ → Bool) (f j : ℕ) → used f ≡ true → has_frame f (Some (part_at k r j)) ≡ true → kept_at k used r j ≡ Some (part_at k r j)
  used_part used f j is has = elim (kept_at-cases k used r j) [
    | inl empty ↦
        let bounds = has_frame_bounds f (part_at k r j) has in
        absurd (false≢true (sym (unused_in used (part_at k r j).frame (8 ^ k) empty.1 f bounds.0 bounds.1) ∙ is))
    | inr kept ↦ kept.0
  ]

  pub outside_parts : k ≤ r.size → (id : ℕ) → (id < r.frame) ⊎ (r.frame + 8 ^ r.size ≤ id) → (i : ℕ) → i < part_count k r
      → id ≡ (part_at k r i).frame → ⊥
  outside_parts le id out i one same = elim out [
    | inl before ↦ omega (arith, same)
    | inr past ↦ omega (arith, same, part_ends k i r le one, eight_pos k)
  ]
