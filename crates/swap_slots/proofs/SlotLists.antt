-- Lists of copies: whether one passes a test, and what is past their end.
use Rattle.std.proofs.Common.{◌≡◌, ℕ, zero, suc, ◌+◌, ◌-◌, ◌<◌, Bool, true, false, ◌||◌, List, [], ◌∷◌, ◌++◌, length, get_or, replicate, inl, inr, refl, sym, ap, ◌∙◌, arith}
use Rattle.std.proofs.Math.ListN.{set}
use Rattle.std.specs.List.{list_any}
use Rattle.std.proofs.lemmas.Bool.{cases_lt}
use Rattle.std.proofs.lemmas.List.{get_or_past, length-append, length-replicate}
use Rattle.std.proofs.lemmas.List.Folds.{list_any-append}
use Rattle.pager_model.proofs.Lists.{get_or-alike}
use Rattle.swap_slots.specs.declared.table.PageCopy.{PageCopy}
use Rattle.swap_slots.specs.declared.table.PageCopy.TheVariants.{Zero, Slot}
use Rattle.swap_slots.specs.Slots.{is_in}

-- an element that fails a test is replaced by another that does
pub list_any-set_failing : {X : Type 0} (p : X → Bool) (xs : List X) (i : ℕ) (x d : X) → p x ≡ false → p (get_or xs i d) ≡ false
    → list_any p (set xs i x) ≡ list_any p xs
list_any-set_failing p [] i x d fails none = refl
list_any-set_failing p (y ∷ ys) zero x d fails none = ap (λ b. b || list_any p ys) (fails ∙ sym none)
list_any-set_failing p (y ∷ ys) (suc i) x d fails none = ap (λ b. p y || b) (list_any-set_failing p ys i x d fails none)

-- no element passes
pub list_any-none : {X : Type 0} (p : X → Bool) (xs : List X) (d : X) → ((i : ℕ) → p (get_or xs i d) ≡ false) → list_any p xs ≡ false
list_any-none p [] d none = refl
list_any-none p (y ∷ ys) d none = ap (λ b. b || list_any p ys) (none zero) ∙ list_any-none p ys d (λ i. none (suc i))

-- the list with so many more zero pages
abbrev pub grown : List PageCopy → ℕ → List PageCopy
grown xs page = xs ++ replicate (page + 1 - length xs) Zero

get_or-more : (xs : List PageCopy) (n q : ℕ) → get_or (xs ++ replicate n Zero) q Zero ≡ get_or xs q Zero
get_or-more [] n q = get_or-alike n q Zero
get_or-more (x ∷ xs) n zero = refl
get_or-more (x ∷ xs) n (suc q) = get_or-more xs n q

pub get_or-grown : (xs : List PageCopy) (page q : ℕ) → get_or (grown xs page) q Zero ≡ get_or xs q Zero
get_or-grown xs page q = get_or-more xs (page + 1 - length xs) q

or_false : (b : Bool) → (b || false) ≡ b
or_false true = refl
or_false false = refl

pub list_any-grown : (xs : List PageCopy) (page s : ℕ) → list_any (is_in s) (grown xs page) ≡ list_any (is_in s) xs
list_any-grown xs page s =
    let n = page + 1 - length xs in
    list_any-append (is_in s) xs (replicate n Zero)
    ∙ (ap (λ b. list_any (is_in s) xs || b) (list_any-none (is_in s) (replicate n Zero) Zero (λ i. ap (is_in s) (get_or-alike n i Zero)))
    ∙ or_false (list_any (is_in s) xs))

pub in_grown : (xs : List PageCopy) (page : ℕ) → page < length (grown xs page)
in_grown xs page = omega (arith, length-append xs (replicate (page + 1 - length xs) Zero), length-replicate (page + 1 - length xs) Zero)

-- a page that has a slot is in the list
pub in_list : (xs : List PageCopy) (p s : ℕ) → get_or xs p Zero ≡ Slot s → p < length xs
in_list xs p s at = elim (cases_lt p (length xs)) [
  | inl inside ↦ inside
  | inr past ↦ let none : get_or xs p Zero ≡ Zero = get_or_past xs p Zero past in absurd cc
]
