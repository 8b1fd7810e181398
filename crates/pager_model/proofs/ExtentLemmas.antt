-- Powers of eight, and which numbers an extent has.
use Rattle.std.proofs.Common.{◌≡◌, ℕ, zero, suc, ◌+◌, ◌-◌, ◌*◌, ◌/◌, ◌%◌, ◌^◌, ◌<◌, ◌≤◌, sym, ap, subst, ◌∙◌, arith}
use Rattle.std.proofs.Math.Nat.{one-le-pow, mul-div_cancel, div-div-eq-div-mul, div-mul-le_self, lt-div-mul-add}
use Rattle.std.proofs.lemmas.Nat.{pow-add, mul-le, mod-mul-add, div-mul-add, div-add-mod'}
use Rattle.pager_model.specs.Extents.{extent_start}

-- ---- powers of eight

pub eight_pos : (k : ℕ) → 0 < 8 ^ k
eight_pos k = one-le-pow k 8 (omega arith)

-- a size has at most 512 numbers
pub eight_small : (k : ℕ) → k ≤ 3 → 8 ^ k ≤ 512
eight_small zero h = omega arith
eight_small (suc zero) h = omega arith
eight_small (suc (suc zero)) h = omega arith
eight_small (suc (suc (suc zero))) h = omega arith
eight_small (suc (suc (suc (suc k)))) h = absurd (omega arith)

-- so many extents of the smaller size make the larger one
pub eight_split : (k s : ℕ) → k ≤ s → 8 ^ s ≡ 8 ^ (s - k) * 8 ^ k
eight_split k s le =
    let whole : s ≡ s - k + k = omega arith in
    ap (λ n. 8 ^ n) whole ∙ pow-add 8 (s - k) k

pub eight_parts : (s : ℕ) → 0 < s → 8 ^ s ≡ 8 * 8 ^ (s - 1)
eight_parts s large =
    let split = eight_split 1 s (omega arith) in
    omega (arith, split)

pub eight_quotient : (k s : ℕ) → k ≤ s → 8 ^ s / 8 ^ k ≡ 8 ^ (s - k)
eight_quotient k s le = ap (λ n. n / 8 ^ k) (eight_split k s le) ∙ mul-div_cancel (8 ^ (s - k)) (eight_pos k)

-- ---- parts of an extent

-- the i-th of n parts ends inside the whole
pub part_inside : (i w n : ℕ) → i < n → i * w + w ≤ n * w
part_inside i w n lt =
    let le = mul-le (i + 1) w n w (omega arith) (omega arith) in
    omega (arith, le)

pub part_of_eight : (i s : ℕ) → 0 < s → i < 8 → i * 8 ^ (s - 1) + 8 ^ (s - 1) ≤ 8 ^ s
part_of_eight i s large lt = omega (arith, part_inside i (8 ^ (s - 1)) 8 lt, eight_parts s large)

-- an extent of a size inside an extent of a larger one is aligned
pub aligned_part : (k s n i : ℕ) → k ≤ s → n % 8 ^ s ≡ 0 → (n + i * 8 ^ k) % 8 ^ k ≡ 0
aligned_part k s n i le aligned =
    let q = n / 8 ^ s in
    let u = 8 ^ (s - k) in
    let w = 8 ^ k in
    let multiple : n ≡ q * 8 ^ s = omega (arith, div-add-mod' n (8 ^ s)) in
    let split : q * 8 ^ s ≡ q * (u * w) = ap (λ m. q * m) (eight_split k s le) in
    let all : (q * u + i) * w + 0 ≡ n + i * w = omega (arith, multiple, split) in
    subst (λ m. m % w ≡ 0) all (mod-mul-add (q * u + i) w 0 (eight_pos k))

-- ---- the numbers of an extent

-- a number of the i-th extent of w numbers has i for its quotient
pub extent_of_frame : (i w f : ℕ) → i * w ≤ f → f < i * w + w → f / w ≡ i
extent_of_frame i w f low high =
    let whole : i * w + (f - i * w) ≡ f = omega arith in
    subst (λ n. n / w ≡ i) whole (div-mul-add i w (f - i * w) (omega arith))

-- and conversely
pub range_of_extent : (i w f : ℕ) → 0 < w → f / w ≡ i → (i * w ≤ f) × (f < i * w + w)
range_of_extent i w f width same =
    let start : f / w * w ≡ i * w = ap (λ q. q * w) same in
    (omega (arith, start, div-mul-le_self f w), omega (arith, start, lt-div-mul-add {a = f} width))

-- both, for an extent by its first number
pub in_extent : (size first page : ℕ) → size ≤ 3 → first % 8 ^ size ≡ 0 → first ≤ page → page < first + 8 ^ size
    → page / 8 ^ size ≡ first / 8 ^ size
in_extent size first page small aligned low high =
    let start : first / 8 ^ size * 8 ^ size ≡ first = omega (arith, div-add-mod' first (8 ^ size), aligned) in
    extent_of_frame (first / 8 ^ size) (8 ^ size) page (omega arith) (omega arith)

pub of_extent : (size first page : ℕ) → size ≤ 3 → first % 8 ^ size ≡ 0 → page / 8 ^ size ≡ first / 8 ^ size
    → (first ≤ page) × (page < first + 8 ^ size)
of_extent size first page small aligned same =
    let start : first / 8 ^ size * 8 ^ size ≡ first = omega (arith, div-add-mod' first (8 ^ size), aligned) in
    let range = range_of_extent (first / 8 ^ size) (8 ^ size) page (eight_pos size) same in
    (omega (arith, range.0), omega (arith, range.1))

-- the first number of an extent is in it
pub first_of_extent : (k n : ℕ) → extent_start k n / 8 ^ k ≡ n / 8 ^ k
first_of_extent k n = mul-div_cancel (n / 8 ^ k) (eight_pos k)

-- numbers of one extent are of one larger extent
pub coarser : (a b p q : ℕ) → a ≤ b → b ≤ 3 → p / 8 ^ a ≡ q / 8 ^ a → p / 8 ^ b ≡ q / 8 ^ b
coarser a b p q le small same = sym (larger p) ∙ ap (λ n. n / 8 ^ (b - a)) same ∙ larger q
  where
    larger : (n : ℕ) → n / 8 ^ a / 8 ^ (b - a) ≡ n / 8 ^ b
    larger n =
        let sum : a + (b - a) ≡ b = omega arith in
        div-div-eq-div-mul n (8 ^ a) (8 ^ (b - a)) ∙ ap (λ w. n / w) (sym (pow-add 8 a (b - a)) ∙ ap (λ k. 8 ^ k) sum)

-- an extent that begins before a multiple of 512 ends there or before
pub extent_within : (size first roots : ℕ) → size ≤ 3 → first % 8 ^ size ≡ 0 → first < 512 * roots → first + 8 ^ size ≤ 512 * roots
extent_within zero first roots small aligned low = omega (arith, aligned)
extent_within (suc zero) first roots small aligned low = omega (arith, aligned)
extent_within (suc (suc zero)) first roots small aligned low = omega (arith, aligned)
extent_within (suc (suc (suc zero))) first roots small aligned low = omega (arith, aligned)
extent_within (suc (suc (suc (suc size)))) first roots small aligned low = absurd (omega arith)

pub aligned_end : (k n : ℕ) → k ≤ 3 → n % 8 ^ k ≡ 0 → n < 2 ^ 32 → n + 8 ^ k ≤ 2 ^ 32
aligned_end k n small aligned low = omega (arith, extent_within k n 8388608 small aligned (omega arith))
