-- A reservation's yield is told by which of its own places are used.
use Rattle.std.proofs.Common.{◌≡◌, ◌<◌, ◌≤◌, ℕ, zero, suc, ◌+◌, ◌-◌, ◌*◌, ◌^◌, Bool, true, ◌&&◌, ◌||◌, not, cond, Some, None, option_map, refl, ap, sym, ◌∙◌, arith}
use Rattle.std.specs.List.{range_with_len, list_any, list_all}
use Rattle.pager_model.specs.declared.reservation.Reservation.{Reservation}
use Rattle.pager_model.specs.Agreement.{has_frame}
use Rattle.pager_model.specs.Records.{none_used, has_empty, yield_up_to, yield_of, yield_in}
use Rattle.pager_model.specs.SizeSets.{SizeSet, size_within}
use Rattle.pager_laws.proofs.PartYields.{yield_in-within}
use Rattle.pager_model.proofs.ExtentLemmas.{eight_split, part_inside}
use Rattle.pager_model.proofs.RecordFrames.{has_frame_from}

-- tests that agree on the numbers of a range find alike in it
list_any-agree : (p q : ℕ → Bool) (a n : ℕ) → ((i : ℕ) → a ≤ i → i < a + n → p i ≡ q i)
    → list_any p (range_with_len a n) ≡ list_any q (range_with_len a n)
list_any-agree p q a zero agree = refl
list_any-agree p q a (suc n) agree =
    let head = agree a (omega arith) (omega arith) in
    let rest = list_any-agree p q (a + 1) n (λ i low high. agree i (omega arith) (omega arith)) in
    ap (λ v. v || list_any p (range_with_len (a + 1) n)) head ∙ ap (λ v. q a || v) rest

list_all-agree : (p q : ℕ → Bool) (a n : ℕ) → ((i : ℕ) → a ≤ i → i < a + n → p i ≡ q i)
    → list_all p (range_with_len a n) ≡ list_all q (range_with_len a n)
list_all-agree p q a zero agree = refl
list_all-agree p q a (suc n) agree =
    let head = agree a (omega arith) (omega arith) in
    let rest = list_all-agree p q (a + 1) n (λ i low high. agree i (omega arith) (omega arith)) in
    ap (λ v. v && list_all p (range_with_len (a + 1) n)) head ∙ ap (λ v. q a && v) rest

-- frames that are used alike
pub none_used-agree : (p q : ℕ → Bool) (first n : ℕ) → ((f : ℕ) → first ≤ f → f < first + n → p f ≡ q f)
    → none_used p first n ≡ none_used q first n
none_used-agree p q first n agree = list_all-agree (λ f. not (p f)) (λ f. not (q f)) first n (λ f low high. ap not (agree f low high))

-- the places of a reservation are used alike
module _ (p q : ℕ → Bool) (r : Reservation) (agree : (f : ℕ) → has_frame f (Some r) ≡ true → p f ≡ q f) where
  has_empty-agree : (k : ℕ) → k ≤ r.size → has_empty p r k ≡ has_empty q r k
  has_empty-agree k le =
      list_any-agree (λ i. none_used p (r.frame + i * 8 ^ k) (8 ^ k)) (λ i. none_used q (r.frame + i * 8 ^ k) (8 ^ k)) 0 (8 ^ (r.size - k))
      (λ i _ high.
      let inside = part_inside i (8 ^ k) (8 ^ (r.size - k)) (omega arith) in
      let whole = eight_split k r.size le in
      none_used-agree p q (r.frame + i * 8 ^ k) (8 ^ k) (λ f from to. agree f
      (has_frame_from f r (omega arith) (omega (arith, inside, whole)))))

  yield_up_to-agree : (k : ℕ) → k ≤ r.size → yield_up_to p r k ≡ yield_up_to q r k
  yield_up_to-agree zero le = ap (λ v. cond v (Some 0) None) (has_empty-agree 0 le)
  yield_up_to-agree (suc k) le =
      ap (λ v. cond v (Some (suc k)) (yield_up_to p r k)) (has_empty-agree (suc k) le)
      ∙ ap (λ o. cond (has_empty q r (suc k)) (Some (suc k)) o) (yield_up_to-agree k (omega arith))

  pub yield_of-agree : yield_of p r ≡ yield_of q r
  yield_of-agree = yield_up_to-agree r.size (omega arith)

  pub yield_in-agree : (z : SizeSet) → yield_in z p r ≡ yield_in z q r
  yield_in-agree z = yield_in-within z p r ∙ ap (option_map (size_within z)) yield_of-agree ∙ sym (yield_in-within z q r)
