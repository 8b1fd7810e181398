-- Counts of notes stay within their type as one note changes.
use Rattle.std.proofs.Common.{◌≡◌, ◌<◌, ◌≤◌, ℕ, ◌+◌, ◌^◌, Bool, true, false, cond, List, length, get_or, set, count_by, refl, arith}
use Rattle.std.proofs.lemmas.List.{length-set}
use Rattle.std.proofs.lemmas.List.Sums.{sum_by-set, count_by-le-length, get_or-le-sum_by}
use Rattle.std.specs.Int.{from_bool}

weight_of : (b : Bool) → from_bool b ≡ cond b 1 0
weight_of true = refl
weight_of false = refl

-- the count after one element changed is one of a list as long
pub count_by-set_fits : {X : Type 0} (p : X → Bool) (xs : List X) (i : ℕ) (y d : X) → i < length xs → length xs < 2 ^ 32
    → count_by p xs + from_bool (p y) < 2 ^ 32 + from_bool (p (get_or xs i d))
count_by-set_fits p xs i y d within few =
    omega (
      arith,
      sum_by-set (λ x. cond (p x) 1 0) xs i y d within,
      count_by-le-length p (set xs i y),
      length-set xs i y,
      weight_of (p y),
      weight_of (p (get_or xs i d)),
    )

-- an element that counts is one of those counted
pub count_by-one-le : {X : Type 0} (p : X → Bool) (xs : List X) (i : ℕ) (d : X) → i < length xs → from_bool (p (get_or xs i d)) ≤ count_by p xs
count_by-one-le p xs i d within =
    omega (arith, get_or-le-sum_by (λ x. cond (p x) 1 0) xs i d within, weight_of (p (get_or xs i d)))

-- a count that was changed by one element is that of the list with the element
pub count_by-set : {X : Type 0} (p : X → Bool) (xs : List X) (i : ℕ) (y d : X) (count : ℕ) → i < length xs
    → count + from_bool (p (get_or xs i d)) ≡ count_by p xs + from_bool (p y) → count_by p (set xs i y) ≡ count
count_by-set p xs i y d count within is =
    omega (
      arith,
      is,
      sum_by-set (λ x. cond (p x) 1 0) xs i y d within,
      weight_of (p y),
      weight_of (p (get_or xs i d)),
    )
