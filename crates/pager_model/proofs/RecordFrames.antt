-- Which frames a reservation has, and which of them are unused.
use Rattle.std.proofs.Common.{◌≡◌, ◌<◌, ◌≤◌, ℕ, ◌+◌, ◌^◌, Bool, true, false, ltb, leb, Option, Some, None, get_or, not, ap, sym, ◌∙◌, arith, ◌-◌, ◌*◌}
use Rattle.std.proofs.lemmas.Bool.{and_parts, and_from, leb-true, ltb-true, le-leb, lt-ltb, not-true, false≢true}
use Rattle.pager_model.specs.Agreement.{has_frame}
use Rattle.pager_model.specs.Records.{none_used, has_empty}
use Rattle.pager_model.specs.declared.reservation.Reservation.{Reservation}
use Rattle.pager_model.proofs.Ranges.{list_all-range}
use Rattle.std.specs.List.{range_with_len}
use Rattle.std.proofs.lemmas.List.FromFn.{length-range_with_len, get_or-range_with_len}
use Rattle.std.proofs.lemmas.List.Folds.{list_any_at}

pub has_frame_bounds : (f : ℕ) (r : Reservation) → has_frame f (Some r) ≡ true → (r.frame ≤ f) × (f < r.frame + 8 ^ r.size)
has_frame_bounds f r has =
    let parts = and_parts (leb r.frame f) (ltb f (r.frame + 8 ^ r.size)) has in
    (leb-true _ _ parts.0, ltb-true _ _ parts.1)

pub has_frame_from : (f : ℕ) (r : Reservation) → r.frame ≤ f → f < r.frame + 8 ^ r.size → has_frame f (Some r) ≡ true
has_frame_from f r low high = and_from _ _ (le-leb _ _ low) (lt-ltb _ _ high)

-- a frame in no reservation
pub no_frame : (f : ℕ) (o : Option Reservation) → o ≡ None → has_frame f o ≡ true → ⊥
no_frame f o none has = false≢true (sym (ap (has_frame f) none) ∙ has)

-- where nothing from first on is used, no frame is
pub unused_in : (p : ℕ → Bool) (first n : ℕ) → none_used p first n ≡ true → (f : ℕ) → first ≤ f → f < first + n → p f ≡ false
unused_in p first n none f low high =
    not-true (p f) ((list_all-range (λ x. not (p x)) first n).0 none f low high)

pub has_empty-yes : (used : ℕ → Bool) (r : Reservation) (k i : ℕ) → i < 8 ^ (r.size - k)
    → none_used used (r.frame + i * 8 ^ k) (8 ^ k) ≡ true → has_empty used r k ≡ true
has_empty-yes used r k i within is =
    let all = range_with_len 0 (8 ^ (r.size - k)) in
    let here : get_or all i 0 ≡ i = get_or-range_with_len 0 (8 ^ (r.size - k)) i 0 within ∙ omega arith in
    list_any_at (λ j. none_used used (r.frame + j * 8 ^ k) (8 ^ k)) all i 0 (omega (arith, length-range_with_len 0 (8 ^ (r.size - k))))
    (ap (λ j. none_used used (r.frame + j * 8 ^ k) (8 ^ k)) here ∙ is)
