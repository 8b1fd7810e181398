-- The eight parts of a reservation are its extents of the next smaller of all four sizes.
use Rattle.std.proofs.Common.{◌≡◌, ◌<◌, ℕ, ◌-◌, ◌^◌, Bool, List, Option, ap, arith, set, fold}
use Rattle.std.specs.List.{range_with_len}
use Rattle.pager_model.specs.declared.reservation.Reservation.{Reservation}
use Rattle.pager_model.specs.Layouts.{parted_free}
use Rattle.pager_model.specs.Records.{part_count, part_at, kept_at, parted_records, split_records}
use Rattle.pager_laws.proofs.SplitFrames.{free_up_to}

pub eight_count : (r : Reservation) → 0 < r.size → part_count (r.size - 1) r ≡ 8
eight_count r splits =
    let one : r.size - (r.size - 1) ≡ 1 = omega arith in
    ap (λ m. 8 ^ m) one

pub parted_records-eight : (used : ℕ → Bool) (r : Reservation) (records : List (Option Reservation)) → 0 < r.size
    → parted_records (r.size - 1) used r records ≡ split_records used r records
parted_records-eight used r records splits =
    ap (λ n. fold (λ rs i. set rs (part_at (r.size - 1) r i).frame (kept_at (r.size - 1) used r i)) records (range_with_len 0 n))
    (eight_count r splits)

pub parted_free-eight : (used : ℕ → Bool) (r : Reservation) (free : List Bool) → 0 < r.size
    → parted_free (r.size - 1) used r free ≡ free_up_to 8 (r.size - 1) used r free
parted_free-eight used r free splits = ap (λ n. free_up_to n (r.size - 1) used r free) (eight_count r splits)
