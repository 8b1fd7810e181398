-- Runs of free frames, maximal blocks, and the choice.
use Rattle.std.proofs.Common.{◌≡◌, ℕ, zero, suc, ◌+◌, ◌-◌, ◌*◌, ◌/◌, ◌%◌, ◌^◌, ◌<◌, ◌≤◌, Bool, true, false, not, ◌&&◌, List, length, get_or, find, eqb, Option, Some, None, ◌↔◌, inl, inr, refl, sym, ◌∙◌, ap, add-zero, arith}
use Rattle.std.specs.List.{range_with_len}
use Rattle.std.specs.Option.{option_or}
use Rattle.std.proofs.lemmas.Bool.{and_parts, false≢true, eqb-true, eq-eqb, not-false, ltb-true, false_from_ne_true, cases_Bool, cases_lt}
use Rattle.std.proofs.lemmas.List.{get_or_past}
use Rattle.std.proofs.lemmas.Option.{none-some}
use Rattle.std.proofs.lemmas.Nat.{pow-add, pow_pos, shl-shr, shr_split}
use Rattle.std.proofs.Math.Nat.{mul-mod_left, pow-suc, mul_assoc, pow-le-pow_right}
use Rattle.pager_model.specs.Extents.{IsExtent}
use Rattle.pager_model.specs.FreeBlocks.{run_free, block_start, is_maximal, lowest_block, least_block, choice}
use Rattle.pager_model.proofs.ExtentLemmas.{eight_pos}
use Rattle.pager_model.proofs.Ranges.{list_all-range, find_passes}

-- a run is free exactly where each of its frames is
pub run_free_exactly : (free : List Bool) (first count : ℕ)
    → (run_free free first count ≡ true) ↔ ((frame : ℕ) → first ≤ frame → frame < first + count → get_or free frame false ≡ true)
run_free_exactly free first count = list_all-range (λ frame. get_or free frame false) first count

pub run_free_frames : (free : List Bool) (first count : ℕ) → run_free free first count ≡ true → (frame : ℕ) → first ≤ frame
    → frame < first + count → get_or free frame false ≡ true
run_free_frames free first count = (run_free_exactly free first count).0

-- the same by the places in the run
pub run_free_at : (free : List Bool) (first count : ℕ) → run_free free first count ≡ true → (i : ℕ) → i < count
    → get_or free (first + i) false ≡ true
run_free_at free first count run i h = run_free_frames free first count run (first + i) (omega arith) (omega arith)

pub run_free_from : (free : List Bool) (first count : ℕ) → ((i : ℕ) → i < count → get_or free (first + i) false ≡ true)
    → run_free free first count ≡ true
run_free_from free first count each =
    (run_free_exactly free first count).1 (λ frame low high. let place : first + (frame - first) ≡ frame = omega arith in
    rw (← place) (each (frame - first) (omega arith)))

pub run_free_part : (free : List Bool) (first count part : ℕ) → run_free free first count ≡ true → part ≤ count
    → run_free free first part ≡ true
run_free_part free first count part e h =
    run_free_from free first part (λ i b. run_free_at free first count e i (omega arith))

-- a free run ends within the frames
pub run_free_within : (free : List Bool) (first count : ℕ) → run_free free first count ≡ true → 0 < count → first + count ≤ length free
run_free_within free first count e h =
    elim (cases_lt (first + (count - 1)) (length free)) [
      | inl inside ↦ omega arith
      | inr past ↦ absurd (false≢true (sym (get_or_past free (first + (count - 1)) false past)
          ∙ run_free_at free first count e (count - 1) (omega arith)))
    ]

-- none passes where none is found
pub none_passes_on : (p : ℕ → Bool) (a n : ℕ) → p a ≡ false → ((i : ℕ) → i < n → p ((a + 1) + i) ≡ false) → (i : ℕ) → i < suc n
    → p (a + i) ≡ false
none_passes_on p a n here later zero h = rw add-zero here
none_passes_on p a n here later (suc i) h = let next : (a + 1) + i ≡ a + suc i = omega arith in rw (← next) (later i (omega arith))

pub none_passes : (p : ℕ → Bool) (a n : ℕ) → find p (range_with_len a n) ≡ None → (i : ℕ) → i < n → p (a + i) ≡ false
none_passes p a zero e i h = absurd (omega arith)
none_passes p a (suc n) e i h =
    elim (cases_Bool (p a)) [
      | inl passes ↦ absurd (none-some _ (sym (rw passes at e)))
      | inr fails ↦ none_passes_on p a n fails (none_passes p (a + 1) n (rw fails at e)) i h
    ]

-- the least block of some orders is a maximal one of one of them
pub least_of : (free : List Bool) (n count f : ℕ) → (here : Option ℕ) → lowest_block free n ≡ here
    → (least_block free (n + 1) count ≡ Some f → (m : ℕ) × (n + 1 ≤ m) × (m < n + 1 + count) × (is_maximal free m f ≡ true))
    → option_or here (least_block free (n + 1) count) ≡ Some f → (m : ℕ) × (n ≤ m) × (m < n + suc count) × (is_maximal free m f ≡ true)
least_of free n count f (Some g) at later e = (n, omega arith, omega arith, find_passes (is_maximal free n) 0 (length free) f (at ∙ e))
least_of free n count f None at later e = let l = later e in (l.0, omega arith, omega arith, l.3)

pub least_block_is : (free : List Bool) (n count f : ℕ) → least_block free n count ≡ Some f
    → (m : ℕ) × (n ≤ m) × (m < n + count) × (is_maximal free m f ≡ true)
least_block_is free n zero f e = absurd (none-some _ e)
least_block_is free n (suc count) f e = least_of free n count f (lowest_block free n) refl (least_block_is free (n + 1) count f) e

-- where they have none, no block of those orders is maximal
pub none_of : (free : List Bool) (n count : ℕ) → (here : Option ℕ) → lowest_block free n ≡ here
    → (least_block free (n + 1) count ≡ None → (i : ℕ) → i < count → (f : ℕ) → f < length free → is_maximal free ((n + 1) + i) f ≡ false)
    → option_or here (least_block free (n + 1) count) ≡ None → (i : ℕ) → i < suc count → (f : ℕ) → f < length free
    → is_maximal free (n + i) f ≡ false
none_of free n count (Some g) at later e i h f b = absurd (none-some g (sym e))
none_of free n count None at later e zero h f b =
    let here : 0 + f ≡ f = omega arith in rw (add-zero, ← here) (none_passes (is_maximal free n) 0 (length free) at f b)
none_of free n count None at later e (suc i) h f b =
    let next : (n + 1) + i ≡ n + suc i = omega arith in rw (← next) (later e i (omega arith) f b)

pub none_maximal : (free : List Bool) (n count : ℕ) → least_block free n count ≡ None → (i : ℕ) → i < count → (f : ℕ) → f < length free
    → is_maximal free (n + i) f ≡ false
none_maximal free n zero e i h f b = absurd (omega arith)
none_maximal free n (suc count) e i h f b = none_of free n count (lowest_block free n) refl (none_maximal free (n + 1) count) e i h f b

-- a free block that is not maximal lies in a free block of the next order
pub block_start_same : (n f : ℕ) → block_start n (block_start n f) ≡ block_start n f
block_start_same n f = ap (λ q. q * 2 ^ n) (shl-shr (f / 2 ^ n) n)

pub not_maximal : (aligned run larger : Bool) → aligned ≡ true → run ≡ true → (aligned && (run && not larger)) ≡ false → larger ≡ true
not_maximal aligned run larger a r e = not-false _ (rw (a, r) at e)

pub grows : (free : List Bool) (n f count : ℕ) → n + count ≡ 10 → n ≤ 9
    → ((i : ℕ) → i < count → (g : ℕ) → g < length free → is_maximal free (n + i) g ≡ false) → block_start n f ≡ f
    → run_free free f (2 ^ n) ≡ true → ⊥
grows free n f zero e h none start run = omega arith
grows free n f (suc count) e h none start run =
    let inside : f < length free = omega (arith, run_free_within free f (2 ^ n) run (pow_pos n), pow_pos n) in
    let here : is_maximal free n f ≡ false = rw add-zero at (none 0 (omega arith) f inside) in
    let larger = and_parts _ _ (not_maximal (eqb (block_start n f) f) _ _ (eq-eqb _ _ start) run here) in
    let small : n < 9 = ltb-true n 9 larger.0 in
    grows free (n + 1) (block_start (n + 1) f) count (omega arith) (omega arith)
    (λ i b g low. let next : n + suc i ≡ (n + 1) + i = omega arith in rw (← next) (none (suc i) (omega arith) g low))
    (block_start_same (n + 1) f) larger.1

-- sizes in frames
pub eight_pow : (k : ℕ) → 8 ^ k ≡ 2 ^ (3 * k)
eight_pow zero = refl
eight_pow (suc k) =
    let exponent : 3 * k + 3 ≡ 3 * suc k = omega arith in
    pow-suc 8 k ∙ (ap (λ p. p * 8) (eight_pow k) ∙ (sym (pow-add 2 (3 * k) 3) ∙ ap (λ j. 2 ^ j) exponent))

pub aligned_smaller : (m n f : ℕ) → m ≤ n → block_start n f ≡ f → f % 2 ^ m ≡ 0
aligned_smaller m n f h start =
    let sum : (n - m) + m ≡ n = omega arith in
    let power : 2 ^ n ≡ 2 ^ (n - m) * 2 ^ m = ap (λ j. 2 ^ j) (sym sum) ∙ pow-add 2 (n - m) m in
    let product : f ≡ (f / 2 ^ n * 2 ^ (n - m)) * 2 ^ m = sym start ∙ (ap (λ p. f / 2 ^ n * p) power
    ∙ sym (mul_assoc (f / 2 ^ n) (2 ^ (n - m)) (2 ^ m))) in
    ap (λ g. g % 2 ^ m) product ∙ mul-mod_left _ _

pub aligned_block : (m f : ℕ) → f % 2 ^ m ≡ 0 → block_start m f ≡ f
aligned_block m f e = omega (arith, shr_split f m)

-- the choice is an aligned run of free frames
pub choice_is_free : (free : List Bool) (k f : ℕ) → choice free k ≡ Some f → (run_free free f (8 ^ k) ≡ true) × (f % 8 ^ k ≡ 0)
choice_is_free free k f e =
    let block = least_block_is free (3 * k) (10 - 3 * k) f e in
    let parts = and_parts (eqb (block_start block.0 f) f) _ block.3 in
    let run : run_free free f (2 ^ block.0) ≡ true = (and_parts _ _ parts.1).0 in
    let two : 0 < 2 = omega arith in
    rw eight_pow (
      run_free_part free f (2 ^ block.0) (2 ^ (3 * k)) run (pow-le-pow_right two block.1),
      aligned_smaller (3 * k) block.0 f block.1 (eqb-true _ _ parts.0),
    )

pub run_free-choice : (free : List Bool) (k f : ℕ) → choice free k ≡ Some f → run_free free f (8 ^ k) ≡ true
run_free-choice free k f e = (choice_is_free free k f e).0

pub IsExtent-choice : (free : List Bool) (k f : ℕ) → choice free k ≡ Some f → IsExtent k f
IsExtent-choice free k f e =
    let block = least_block_is free (3 * k) (10 - 3 * k) f e in (omega arith, (choice_is_free free k f e).1)

pub choice_within : (free : List Bool) (k f : ℕ) → choice free k ≡ Some f → f + 8 ^ k ≤ length free
choice_within free k f e = run_free_within free f (8 ^ k) (choice_is_free free k f e).0 (eight_pos k)

-- there is none only where no such run is
pub no_choice : (free : List Bool) (k : ℕ) → k ≤ 3 → choice free k ≡ None → (f : ℕ) → f % 8 ^ k ≡ 0 → run_free free f (8 ^ k) ≡ false
no_choice free k h e f aligned =
    false_from_ne_true _ (λ run. grows free (3 * k) f (10 - 3 * k) (omega arith) (omega arith) (none_maximal free (3 * k) (10 - 3 * k) e)
    (aligned_block (3 * k) f (rw eight_pow at aligned)) (rw eight_pow at run))

pub some_choice : (free : List Bool) (k : ℕ) (chosen : Option ℕ) → choice free k ≡ chosen
    → ((f : ℕ) → f % 8 ^ k ≡ 0 → run_free free f (8 ^ k) ≡ false) → choice free k ≡ None
some_choice free k None at none = at
some_choice free k (Some f) at none =
    let block = choice_is_free free k f at in absurd (false≢true (sym (none f block.1) ∙ block.0))

pub no_choice_exactly : (free : List Bool) (k : ℕ) → k ≤ 3 → (choice free k ≡ None) ↔
    ((f : ℕ) → f % 8 ^ k ≡ 0 → run_free free f (8 ^ k) ≡ false)
no_choice_exactly free k h = (no_choice free k h, some_choice free k (choice free k) refl)
