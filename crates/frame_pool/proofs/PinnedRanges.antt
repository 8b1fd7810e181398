-- Pages of a range one by one: the lowest whose place is claimed, and the places that are wired.
use Rattle.std.proofs.Common.{◌≡◌, ℕ, zero, suc, ◌+◌, ◌-◌, ◌<◌, ◌≤◌, Bool, true, false, List, [], ◌∷◌, ◌++◌, get_or, fold, find, is_some, Option, Some, None, refl, sym, ap, ◌∙◌, map-id, arith}
use Rattle.std.specs.List.{range_with_len}
use Rattle.std.proofs.Math.ListN.{get_or-map}
use Rattle.std.proofs.lemmas.Bool.{cond-true, cond-false}
use Rattle.std.proofs.lemmas.List.FromFn.{map-range_with_len_more}
use Rattle.std.proofs.lemmas.List.Sums.{fold-append}
use Rattle.pager_model.specs.declared.reservation.Used.{Used}
use Rattle.pager_model.specs.FrameStates.{is_claimed_in, is_claimed_page, wire_place, wire_page}
use Rattle.pager_model.specs.Layouts.{Layout, frame_in}
use Rattle.pager_laws.proofs.PinnedPlaces.{same-place}

-- a range that isn't empty begins with its first number, where that passes
pub find_here : (test : ℕ → Bool) (a n : ℕ) → 0 < n → test a ≡ true → find test (range_with_len a n) ≡ Some a
find_here test a zero some is = absurd (omega (arith, some))
find_here test a (suc n) some is = cond-true _ _ _ is

-- and else the rest is searched
pub find_later : (test : ℕ → Bool) (a n : ℕ) → 0 < n → test a ≡ false
    → find test (range_with_len a n) ≡ find test (range_with_len (a + 1) (n - 1))
find_later test a zero some is = absurd (omega (arith, some))
find_later test a (suc n) some is =
    let one_less : n ≡ suc n - 1 = omega arith in
    cond-false _ _ _ is ∙ ap (λ m. find test (range_with_len (a + 1) m)) one_less

-- numbers that don't pass are left out
find_past : (test : ℕ → Bool) (a d n : ℕ) → d ≤ n → ((i : ℕ) → a ≤ i → i < a + d → test i ≡ false)
    → find test (range_with_len a n) ≡ find test (range_with_len (a + d) (n - d))
find_past test a zero n few fails =
    let same : a ≡ a + 0 = omega arith in
    let all : n ≡ n - 0 = omega arith in
    ap (λ b. find test (range_with_len b n)) same ∙ ap (λ m. find test (range_with_len (a + 0) m)) all
find_past test a (suc d) n few fails =
    let next : a + 1 + d ≡ a + suc d = omega arith in
    let less : n - 1 - d ≡ n - suc d = omega arith in
    find_later test a n (omega (arith, few)) (fails a (omega arith) (omega arith))
    ∙ find_past test (a + 1) d (n - 1) (omega (arith, few)) (λ i low high. fails i (omega (arith, low)) (omega (arith, high)))
    ∙ ap (λ b. find test (range_with_len b (n - 1 - d))) next
    ∙ ap (λ m. find test (range_with_len (a + suc d) m)) less

-- from one number on to another, or to the end
pub find_from : (test : ℕ → Bool) (a b end : ℕ) → a ≤ b → b ≤ end → ((i : ℕ) → a ≤ i → i < b → test i ≡ false)
    → find test (range_with_len a (end - a)) ≡ find test (range_with_len b (end - b))
find_from test a b end low high fails =
    let at : a + (b - a) ≡ b = omega (arith, low) in
    let left : end - a - (b - a) ≡ end - b = omega (arith, low) in
    find_past test a (b - a) (end - a) (omega (arith, high)) (λ i from to. fails i from (omega (arith, to, low)))
    ∙ ap (λ c. find test (range_with_len c (end - a - (b - a)))) at
    ∙ ap (λ m. find test (range_with_len b m)) left

-- a page without a place is claimed by nobody
pub unclaimed_without : (l : Layout) (used : List (Option Used)) (space page : ℕ) → frame_in l space page ≡ None
    → is_claimed_page l used space page ≡ false
unclaimed_without l used space page none = ap (is_claimed_in used) none

-- one number more
range_more : (a n : ℕ) → range_with_len a (n + 1) ≡ range_with_len a n ++ (a + n) ∷ []
range_more a n =
    sym (map-id (range_with_len a (n + 1))) ∙ map-range_with_len_more (λ (x : ℕ). x) a n (a + n) refl
    ∙ ap (λ l. l ++ (a + n) ∷ []) (map-id (range_with_len a n))

-- one page more is wired
pub wired_more : (l : Layout) (space first n : ℕ) (wired : Bool) (used : List (Option Used))
    → fold (wire_page l space wired) used (range_with_len first (n + 1))
    ≡ wire_place wired (fold (wire_page l space wired) used (range_with_len first n)) (frame_in l space (first + n))
wired_more l space first n wired used =
    ap (fold (wire_page l space wired) used) (range_more first n)
    ∙ fold-append (wire_page l space wired) used (range_with_len first n) ((first + n) ∷ [])

-- and pages without a place leave everything
wired_over : (l : Layout) (space first n d : ℕ) (wired : Bool) (used : List (Option Used))
    → ((i : ℕ) → first + n ≤ i → i < first + n + d → frame_in l space i ≡ None)
    → fold (wire_page l space wired) used (range_with_len first (n + d)) ≡ fold (wire_page l space wired) used (range_with_len first n)
wired_over l space first n zero wired used none =
    (let same : n + 0 ≡ n = omega arith in ap (λ m. fold (wire_page l space wired) used (range_with_len first m)) same)
wired_over l space first n (suc d) wired used none =
    let wires : ℕ → List (Option Used) = λ m. fold (wire_page l space wired) used (range_with_len first m) in
    let more : n + suc d ≡ n + d + 1 = omega arith in
    ap wires more ∙ wired_more l space first (n + d) wired used
    ∙ ap (wire_place wired (wires (n + d))) (none (first + (n + d)) (omega arith) (omega arith))
    ∙ wired_over l space first n d wired used (λ i low high. none i low (omega (arith, high)))

pub wired_past : (l : Layout) (space first from to : ℕ) (wired : Bool) (used : List (Option Used)) → first ≤ from → from ≤ to
    → ((i : ℕ) → from ≤ i → i < to → frame_in l space i ≡ None)
    → fold (wire_page l space wired) used (range_with_len first (to - first))
    ≡ fold (wire_page l space wired) used (range_with_len first (from - first))
wired_past l space first from to wired used low high none =
    let all : to - first ≡ from - first + (to - from) = omega (arith, low, high) in
    ap (λ m. fold (wire_page l space wired) used (range_with_len first m)) all
    ∙ wired_over l space first (from - first) (to - from) wired used
    (λ i above below. none i (omega (arith, above, low)) (omega (arith, below, low, high)))

-- a place that is noted stays so
pub still_noted : (wired : Bool) (used : List (Option Used)) (o : Option ℕ) (frame : ℕ) → is_some (get_or used frame None) ≡ true
    → is_some (get_or (wire_place wired used o) frame None) ≡ true
still_noted wired used o frame is =
    sym (get_or-map is_some (wire_place wired used o) frame None)
    ∙ ap (λ places. get_or places frame false) (same-place wired used o)
    ∙ get_or-map is_some used frame None ∙ is
