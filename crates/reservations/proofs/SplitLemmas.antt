-- Splitting a reservation part by part.
use Rattle.std.proofs.Common.{◌≡◌, ◌<◌, ◌≤◌, ℕ, ◌+◌, ◌-◌, ◌*◌, ◌^◌, ◌⊎◌, inl, inr, Bool, true, Option, Some, None, List, length, set, refl, ap, sym, subst, ◌∙◌, arith, fold}
use Rattle.std.specs.List.{range_with_len}
use Rattle.std.proofs.lemmas.List.{set-set}
use Rattle.std.proofs.lemmas.List.Sums.{fold_push}
use Rattle.std.proofs.lemmas.Bool.{cases_Bool, cond-true, cond-false}
use Rattle.std.proofs.lemmas.Option.{none-some, same_Some}
use Rattle.pager_model.specs.Records.{is_used, part_of, is_part_empty, kept_part, split_records}
use Rattle.pager_model.specs.declared.reservation.Reservation.{Reservation}
use Rattle.pager_model.proofs.ExtentLemmas.{eight_pos, part_of_eight, aligned_part}
use Rattle.pager_model.proofs.Ranges.{range_with_len-more}
use Rattle.pager_model.specs.RecordPlaces.{IsPlaced, ArePlaced}
use Rattle.reservations.specs.Kept.{AreNoted, IsFilled, first_frame}
use Rattle.reservations.proofs.FrameIds.{Belongs, AreNoted-place, ArePlaced-set, vacant_in_gap}
use Rattle.pager_model.proofs.RecordFrames.{unused_in}

-- one part is noted
abbrev pub split_step : (ℕ → Bool) → Reservation → List (Option Reservation) → ℕ → List (Option Reservation)
split_step used r rs i = set rs (part_of r i).frame (kept_part used r i)

-- the first parts are noted
abbrev pub split_up_to : ℕ → (ℕ → Bool) → Reservation → List (Option Reservation) → List (Option Reservation)
split_up_to n used r records = fold (split_step used r) records (range_with_len 0 n)

pub split_up_to-more : (n : ℕ) (used : ℕ → Bool) (r : Reservation) (records : List (Option Reservation))
    → split_up_to (n + 1) used r records ≡ split_step used r (split_up_to n used r records) n
split_up_to-more n used r records =
    ap (fold (split_step used r) records) (range_with_len-more n) ∙ fold_push (split_step used r) records (range_with_len 0 n) n

-- that the whole is no longer noted makes no difference, since its first part is noted at the same frame
pub split_records-open : (used : ℕ → Bool) (r : Reservation) (id : ℕ) (records : List (Option Reservation)) → r.frame ≡ id
    → split_records used r (set records id None) ≡ split_records used r records
split_records-open used r id records named =
    let first : id ≡ (part_of r 0).frame = omega (arith, named) in
    let same = ap (λ k. set (set records k None) (part_of r 0).frame (kept_part used r 0)) first
    ∙ set-set records (part_of r 0).frame None (kept_part used r 0) in
    ap (λ rs. fold (split_step used r) rs (range_with_len 1 7)) same

-- a part is the whole part, or it has no used place
pub kept_cases : (used : ℕ → Bool) (r : Reservation) (i : ℕ)
    → ((kept_part used r i ≡ None) × (is_part_empty used r i ≡ true)) ⊎ (kept_part used r i ≡ Some (part_of r i))
kept_cases used r i = elim (cases_Bool (is_part_empty used r i)) [
  | inl empty ↦ inl (cond-true _ _ _ empty, empty)
  | inr filled ↦ inr (cond-false _ _ _ filled)
]

-- the i-th part is in its place
pub part_placed : (frames i : ℕ) (r : Reservation) → IsPlaced frames r.frame r → 0 < r.size → i < 8
    → IsPlaced frames (r.frame + i * 8 ^ (r.size - 1)) (part_of r i)
part_placed frames i r placed splits one =
    let small : r.size - 1 ≤ 3 = omega (arith, placed.aligned.0) in
    record {
      named = refl;
      aligned = (small, aligned_part (r.size - 1) r.size r.frame i (omega arith) placed.aligned.1);
      within = omega (arith, part_of_eight i r.size splits one, placed.within);
      pages_aligned = (small, aligned_part (r.size - 1) r.size r.first i (omega arith) placed.pages_aligned.1);
    }

module _ (records : List (Option Reservation)) (used : List Bool) (r : Reservation) (i : ℕ) (splits : 0 < r.size) (one : i < 8)
    (placed : IsPlaced (length records) r.frame r) where
  pub part_known : r.frame + i * 8 ^ (r.size - 1) < length records
  part_known = omega (arith, part_of_eight i r.size splits one, placed.within, eight_pos (r.size - 1))

  -- noting the i-th part keeps each record in its place
  pub ArePlaced-part : ArePlaced records → ArePlaced (set records (r.frame + i * 8 ^ (r.size - 1)) (kept_part (is_used used) r i))
  ArePlaced-part are = ArePlaced-set records (r.frame + i * 8 ^ (r.size - 1)) (kept_part (is_used used) r i) are part_known (λ q e.
      elim (kept_cases (is_used used) r i) [
        | inl empty ↦ absurd (none-some q (sym empty.0 ∙ e))
        | inr whole ↦
            let same = same_Some (part_of r i) q (sym whole ∙ e) in
            subst (λ p. IsPlaced (length records) (r.frame + i * 8 ^ (r.size - 1)) p) same
            (part_placed (length records) i r placed splits one)
      ])

  pub part_belongs : Belongs used (r.frame + i * 8 ^ (r.size - 1)) (8 ^ (r.size - 1)) (kept_part (is_used used) r i)
  part_belongs = elim (kept_cases (is_used used) r i) [
    | inl empty ↦
        subst (Belongs used (r.frame + i * 8 ^ (r.size - 1)) (8 ^ (r.size - 1))) (sym empty.0)
        (unused_in (is_used used) (r.frame + i * 8 ^ (r.size - 1)) (8 ^ (r.size - 1)) empty.1)
    | inr whole ↦ subst (Belongs used (r.frame + i * 8 ^ (r.size - 1)) (8 ^ (r.size - 1))) (sym whole) (refl, refl)
  ]

  -- and leaves a gap at the later parts
  pub AreNoted-part : (ids after : List (Option ℕ)) → ArePlaced records
      → AreNoted records ids used (r.frame + i * 8 ^ (r.size - 1)) (r.frame + 8 ^ r.size)
      → IsFilled ids after (r.frame + i * 8 ^ (r.size - 1)) (8 ^ (r.size - 1)) (first_frame (kept_part (is_used used) r i))
      → AreNoted (set records (r.frame + i * 8 ^ (r.size - 1)) (kept_part (is_used used) r i)) after used
      (r.frame + (i + 1) * 8 ^ (r.size - 1)) (r.frame + 8 ^ r.size)
  AreNoted-part ids after are noted filled =
      let w = 8 ^ (r.size - 1) in
      let low = r.frame + i * w in
      let ends = part_of_eight i r.size splits one in
      let vacant = vacant_in_gap records ids used low (r.frame + 8 ^ r.size) are noted (omega (arith, ends, eight_pos (r.size - 1))) in
      let next : low + w ≡ r.frame + (i + 1) * w = omega arith in
      subst (λ n. AreNoted (set records low (kept_part (is_used used) r i)) after used n (r.frame + 8 ^ r.size)) next
      (AreNoted-place
      (record { records = records; ids = ids; used = used })
      (record { low = low; width = w; what = kept_part (is_used used) r i })
      (r.frame + 8 ^ r.size) after (record {
        noted = noted;
        vacant = vacant;
        within = part_known;
        inside = omega (arith, ends);
        belongs = part_belongs;
        filled = filled;
      }))
