-- Lists of places, of which those past an end are empty and aren't listed.
use Rattle.std.proofs.Common.{◌≡◌, ℕ, zero, suc, ◌+◌, ◌-◌, ◌<◌, ◌≤◌, List, [], ◌∷◌, ◌++◌, Option, None, Some, length, replicate, get_or, set, refl, sym, ap, ◌∙◌, arith}
use Rattle.std.proofs.lemmas.List.{append_assoc, get_or_past, get_or_read, length-append, length-replicate, length-set, replicate-append-replicate, set-append_left, set-get_or}
use Rattle.std.proofs.lemmas.Option.{same_Some}
use Rattle.pager_model.specs.Frame.{Framed}
use Rattle.pager_model.proofs.Lists.{get_or-alike, get_or_within}

-- so many places: those that are listed, and empty ones
abbrev pub filled_up : List (Option Framed) → ℕ → List (Option Framed)
filled_up xs count = xs ++ replicate (count - length xs) None

get_or-more : (xs : List (Option Framed)) (n i : ℕ) → get_or (xs ++ replicate n None) i None ≡ get_or xs i None
get_or-more [] n i = get_or-alike n i None
get_or-more (x ∷ xs) n zero = refl
get_or-more (x ∷ xs) n (suc i) = get_or-more xs n i

-- a place with a frame is listed
pub listed : (xs : List (Option Framed)) (count i : ℕ) (f : Framed) → get_or (filled_up xs count) i None ≡ Some f → i < length xs
listed xs count i f is = get_or_within xs i f (sym (get_or-more xs (count - length xs) i) ∙ is)

-- and what is read there is that frame
pub same_read : (xs : List (Option Framed)) (count i : ℕ) (x : Option Framed) (f g : Framed) → get_or (filled_up xs count) i None ≡ Some f
    → x ≡ get_or xs i x → x ≡ Some g → g ≡ f
same_read xs count i x f g is read has =
    same_Some g f (sym has ∙ get_or_read xs i x (listed xs count i f is) read None ∙ sym (get_or-more xs (count - length xs) i) ∙ is)

-- a listed place is written
pub written : (xs : List (Option Framed)) (count i : ℕ) (o : Option Framed) → i < length xs
    → filled_up (set xs i o) count ≡ set (filled_up xs count) i o
written xs count i o known =
    ap (λ n. set xs i o ++ replicate (count - n) None) (length-set xs i o) ∙ sym (set-append_left xs (replicate (count - length xs) None) i o known)

-- a place that isn't listed is made empty
pub left_empty : (xs : List (Option Framed)) (count i : ℕ) → length xs ≤ i → filled_up xs count ≡ set (filled_up xs count) i None
left_empty xs count i past =
    let ys = filled_up xs count in
    let none : get_or ys i None ≡ None = get_or-more xs (count - length xs) i ∙ get_or_past xs i None past in
    sym (set-get_or ys i None) ∙ ap (λ o. set ys i o) none

-- more empty places are listed
grown : (xs : List (Option Framed)) (count n : ℕ) → n ≤ count
    → filled_up (xs ++ replicate (n - length xs) None) count ≡ filled_up xs count
grown xs count n few =
    let more = n - length xs in
    let long : length (xs ++ replicate {A = Option Framed} more None) ≡ length xs + more
    = length-append xs (replicate more None) ∙ ap (λ k. length xs + k) (length-replicate {A = Option Framed} more None) in
    let all : more + (count - (length xs + more)) ≡ count - length xs = omega arith in
    append_assoc xs (replicate more None) _ ∙ ap (λ ys. xs ++ ys) (
    ap (λ k. replicate more None ++ replicate (count - k) None) long ∙ replicate-append-replicate more (count - (length xs + more)) None
    ∙ ap (λ k. replicate {A = Option Framed} k None) all)

-- a place is listed, and a frame put into it
pub put_in : (xs : List (Option Framed)) (count i : ℕ) (f : Framed) → length xs ≤ count → i < length (filled_up xs count)
    → filled_up (set (xs ++ replicate (i + 1 - length xs) None) i (Some f)) count ≡ set (filled_up xs count) i (Some f)
put_in xs count i f few known =
    let ys = xs ++ replicate (i + 1 - length xs) None in
    let all = length-append xs (replicate (count - length xs) None) in
    let empty = length-replicate {A = Option Framed} (count - length xs) None in
    let long = length-append xs (replicate (i + 1 - length xs) None) in
    let more = length-replicate {A = Option Framed} (i + 1 - length xs) None in
    written ys count i (Some f) (omega (arith, long, more))
    ∙ ap (λ zs. set zs i (Some f)) (grown xs count (i + 1) (omega (arith, few, known, all, empty)))
