-- Totals over views read by their seats, and facts about each element by recursion.
use Rattle.std.proofs.Common.{◌≡◌, ◌≢◌, ℕ, zero, suc, ◌+◌, ◌≤◌, List, [], ◌∷◌, ◌++◌, take, drop, set, refl, sym, ap, ◌∙◌, arith}
use mathlib.Core.Option.{some, some-injective, some-ne-none}
use lib.ListN.{get_elem?}
use Rattle.std.specs.List.{sum_by, AllByRecursion}
use Rattle.std.proofs.lemmas.List.{take-append-drop}
use Rattle.std.proofs.lemmas.List.Sums.{sum_by-append, sum_by-cons}

module _ {A : Type 0} (f : A → ℕ) where
  -- one element of a list for another
  pub total_set : (l : List A) (i : ℕ) (a b : A) → get_elem? l i ≡ some a → sum_by f (set l i b) + f a ≡ sum_by f l + f b
  total_set [] i a b e = absurd (some-ne-none a (sym e))
  total_set (x ∷ xs) zero a b e = let is = some-injective x a e in omega (arith, sum_by-cons f b xs, sum_by-cons f x xs, ap f is)
  total_set (x ∷ xs) (suc i) a b e = omega (arith, sum_by-cons f x (set xs i b), sum_by-cons f x xs, total_set xs i a b e)

  pub total_one : (l : List A) (i : ℕ) (a : A) → get_elem? l i ≡ some a → f a ≤ sum_by f l
  total_one [] i a e = absurd (some-ne-none a (sym e))
  total_one (x ∷ xs) zero a e = let is = some-injective x a e in omega (arith, sum_by-cons f x xs, ap f is)
  total_one (x ∷ xs) (suc i) a e = omega (arith, sum_by-cons f x xs, total_one xs i a e)

  -- two elements of a list
  pub total_two : (l : List A) (i j : ℕ) (a b : A) → j ≢ i → get_elem? l i ≡ some a → get_elem? l j ≡ some b → f a + f b ≤ sum_by f l
  total_two [] i j a b n e h = absurd (some-ne-none a (sym e))
  total_two (x ∷ xs) zero zero a b n e h = absurd (n refl)
  total_two (x ∷ xs) zero (suc j) a b n e h = let is = some-injective x a e in
      omega (arith, sum_by-cons f x xs, ap f is, total_one xs j b h)
  total_two (x ∷ xs) (suc i) zero a b n e h = let is = some-injective x b h in
      omega (arith, sum_by-cons f x xs, ap f is, total_one xs i a e)
  total_two (x ∷ xs) (suc i) (suc j) a b n e h = omega (arith, sum_by-cons f x xs, total_two xs i j a b (λ k. n (ap suc k)) e h)

module _ {A : Type 0} (P : A → Type 0) where
  pub each_append : (xs ys : List A) → AllByRecursion P xs → AllByRecursion P ys → AllByRecursion P (xs ++ ys)
  each_append [] ys p q = q
  each_append (x ∷ xs) ys p q = (p.0, each_append xs ys p.1 q)

  pub each_take : (n : ℕ) (xs : List A) → AllByRecursion P xs → AllByRecursion P (take n xs)
  each_take zero xs p = tt
  each_take (suc n) [] p = tt
  each_take (suc n) (x ∷ xs) p = (p.0, each_take n xs p.1)

  pub each_drop : (n : ℕ) (xs : List A) → AllByRecursion P xs → AllByRecursion P (drop n xs)
  each_drop zero xs p = p
  each_drop (suc n) [] p = tt
  each_drop (suc n) (x ∷ xs) p = each_drop n xs p.1

-- a count over a split list
pub count_take_drop : {A : Type 0} (f : A → ℕ) (n : ℕ) (xs : List A) → sum_by f (take n xs) + sum_by f (drop n xs) ≡ sum_by f xs
count_take_drop f n xs = sym (sum_by-append f (take n xs) (drop n xs)) ∙ ap (sum_by f) (take-append-drop n xs)
