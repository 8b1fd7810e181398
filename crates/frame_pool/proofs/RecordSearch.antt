-- Searching the parts of a reservation for one of a yield.
use Rattle.std.proofs.Common.{◌≡◌, ℕ, zero, suc, ◌+◌, ◌<◌, ◌≤◌, ◌∙◌, Bool, false, find, nat_eq, Option, Some, None, refl, arith}
use Rattle.std.specs.List.{range_with_len}
use Rattle.std.proofs.lemmas.Bool.{cond-false}
use Rattle.std.specs.Option.{option_eq}
use Rattle.pager_model.specs.Records.{same_size}

-- the equality of optional sizes is the test for the same one
pub same_size-is : (a b : Option ℕ) → option_eq nat_eq a b ≡ same_size a b
same_size-is None None = refl
same_size-is None (Some n) = refl
same_size-is (Some m) None = refl
same_size-is (Some m) (Some n) = refl

-- where no number of a range passes none is found
pub find_none : (p : ℕ → Bool) (a n : ℕ) → ((k : ℕ) → a ≤ k → k < a + n → p k ≡ false) → find p (range_with_len a n) ≡ None
find_none p a zero fails = refl
find_none p a (suc n) fails = cond-false _ _ _ (fails a (omega arith) (omega arith))
    ∙ find_none p (a + 1) n (λ k low high. fails k (omega arith) (omega arith))
