-- Sets of frames after a range went in or out.
use Rattle.std.proofs.Common.{◌≡◌, ℕ, zero, suc, ◌+◌, ◌<◌, ◌≤◌, Bool, true, false, cond, List, ◌++◌, length, get_or, take, drop, replicate, count_by, refl, sym, ap, ◌∙◌, arith}
use Rattle.std.proofs.lemmas.List.{ext_get_or}
use Rattle.std.proofs.lemmas.List.Sums.{sum_by-append, sum_by-cons}
use Rattle.pager_model.specs.FreeBlocks.{run_free, with_range}
use Rattle.pager_model.proofs.FreeRuns.{run_free_exactly, run_free_within}
use Rattle.pager_model.proofs.FreeRanges.{range_cases, with_range_inside, length-with_range, with_range_outside}

-- each frame of a range is in, or each is out
abbrev pub Holds : List Bool → ℕ → ℕ → Bool → Type 0
Holds free first count value = (frame : ℕ) → first ≤ frame → frame < first + count → get_or free frame false ≡ value

pub Holds-from_run : (free : List Bool) (first count : ℕ) → run_free free first count ≡ true → Holds free first count true
Holds-from_run free first count run = (run_free_exactly free first count).0 run

-- a range may be set to what it holds
pub with_range_same : (free : List Bool) (first count : ℕ) (value : Bool) → first + count ≤ length free → Holds free first count value
    → with_range free first count value ≡ free
with_range_same free first count value h held =
    ext_get_or false _ _ (length-with_range free first count value h) (λ frame _.
    range_cases first count (λ k. get_or (with_range free first count value) k false ≡ get_or free k false)
    (with_range_outside free first count value h)
    (λ k low high. with_range_inside free first count value h k low high ∙ sym (held k low high)) frame)

-- what a range held before goes back into it
pub with_range_back : (free : List Bool) (first count : ℕ) (value other : Bool) → first + count ≤ length free → Holds free first count value
    → with_range (with_range free first count other) first count value ≡ free
with_range_back free first count value other h held =
    let changed = with_range free first count other in
    let long = length-with_range free first count other h in
    let fits : first + count ≤ length changed = omega (arith, long) in
    ext_get_or false _ _ (length-with_range changed first count value fits ∙ long) (λ frame _.
    range_cases first count (λ k. get_or (with_range changed first count value) k false ≡ get_or free k false)
    (λ k out. with_range_outside changed first count value fits k out ∙ with_range_outside free first count other h k out)
    (λ k low high. with_range_inside changed first count value fits k low high ∙ sym (held k low high)) frame)

pub run_within : (free : List Bool) (first count : ℕ) → first ≤ length free → run_free free first count ≡ true → first + count ≤ length free
run_within free first zero h run = omega arith
run_within free first (suc n) h run = run_free_within free first (suc n) run (omega arith)

pub give_after_take : (free : List Bool) (first count : ℕ) → first ≤ length free → run_free free first count ≡ true
    → with_range (with_range free first count false) first count true ≡ free
give_after_take free first count h run =
    with_range_back free first count true false (run_within free first count h run) (Holds-from_run free first count run)

pub take_after_give : (free : List Bool) (first count : ℕ) → first + count ≤ length free → Holds free first count false
    → with_range (with_range free first count true) first count false ≡ free
take_after_give free first count h held = with_range_back free first count false true h held

-- how many frames are free
abbrev free_count : List Bool → ℕ
free_count free = count_by (λ is_free. is_free) free

pub free_count-replicate : (n : ℕ) (value : Bool) → free_count (replicate n value) ≡ cond value n 0
free_count-replicate zero true = refl
free_count-replicate zero false = refl
free_count-replicate (suc n) true =
    let sum : 1 + n ≡ suc n = omega arith in
    sum_by-cons (λ is_free. cond is_free 1 0) true (replicate n true) ∙ (ap (λ m. 1 + m) (free_count-replicate n true) ∙ sum)
free_count-replicate (suc n) false = free_count-replicate n false

pub free_count-with_range : (free : List Bool) (first count : ℕ) (value : Bool)
    → free_count (with_range free first count value) ≡ (free_count (take first free) + cond value count 0) + free_count
    (drop (first + count) free)
free_count-with_range free first count value =
    sum_by-append _ (take first free ++ replicate count value) (drop (first + count) free)
    ∙ ap (λ n. n + free_count (drop (first + count) free)) (sum_by-append _ (take first free) (replicate count value)
    ∙ ap (λ n. free_count (take first free) + n) (free_count-replicate count value))

pub free_count-take : (free : List Bool) (first count : ℕ) → first ≤ length free → run_free free first count ≡ true
    → free_count (with_range free first count false) + count ≡ free_count free
free_count-take free first count h run =
    let same = with_range_same free first count true (run_within free first count h run) (Holds-from_run free first count run) in
    omega (arith, ap free_count same, free_count-with_range free first count true, free_count-with_range free first count false)

pub free_count-give : (free : List Bool) (first count : ℕ) → first + count ≤ length free → Holds free first count false
    → free_count (with_range free first count true) ≡ free_count free + count
free_count-give free first count h held =
    let same = with_range_same free first count false h held in
    omega (arith, ap free_count same, free_count-with_range free first count true, free_count-with_range free first count false)
