-- The numbers of the nodes: each block has one of its own, and orders follow each other.
use Rattle.std.proofs.Common.{◌≡◌, ◌≢◌, ℕ, suc, ◌+◌, ◌-◌, ◌*◌, ◌/◌, ◌^◌, ◌<◌, ◌≤◌, ◌⊎◌, inl, inr, sym, ap, subst, ◌∙◌, bit_xor, zero-add, arith}
use Rattle.std.proofs.lemmas.Bool.{cases_order, cases_eq, cases_lt}
use Rattle.std.proofs.lemmas.Nat.{pow-add, shl-shr, shr-shr, shr_below, xor_shr, xor_lt, pow_below, shl_below, leading_top}
use Rattle.std.proofs.lemmas.Nat.Bits.{bit_at_xor}
use Rattle.std.proofs.Math.Nat.{one-mul, pow-suc, pow-le-pow_right}
use Rattle.std.specs.Int.{bit_at}
use Rattle.std.specs.Int.Bits.{xor_zero_r}
use lib.Count.{count_leading_zeros}
use Rattle.buddy_extents.specs.Blocks.{first_node, node, IsBuddy}
use Rattle.pager_model.specs.Bounds.{most_frames}

more_in_power : (m n : ℕ) → m ≤ n → 2 ^ m ≤ 2 ^ n
more_in_power m n h = let two : 0 < 2 = omega arith in pow-le-pow_right two h

-- an order's nodes are twice as many as the next one's, and end where those begin
pub first_node_is : (order : ℕ) → order ≤ 16 → first_node order + 2 ^ (16 - order) ≡ 65536
first_node_is order h =
    let sum : (16 - order) + order ≡ 16 = omega arith in
    let whole : 65536 ≡ 2 ^ (16 - order) * 2 ^ order = ap (λ n. 2 ^ n) (sym sum) ∙ pow-add 2 (16 - order) order in
    let part : 65536 / 2 ^ order ≡ 2 ^ (16 - order) = ap (λ n. n / 2 ^ order) whole ∙ shl-shr (2 ^ (16 - order)) order in
    let small : 2 ^ (16 - order) ≤ 2 ^ 16 = more_in_power (16 - order) 16 (omega arith) in
    omega (arith, part, small)

pub half_as_many : (order : ℕ) → order ≤ 15 → 2 ^ (16 - order) ≡ 2 * 2 ^ (15 - order)
half_as_many order h =
    let next : 16 - order ≡ suc (15 - order) = omega arith in
    ap (λ n. 2 ^ n) next ∙ (pow-suc 2 (15 - order) ∙ omega arith)

pub next_first_node : (order : ℕ) → order ≤ 15 → first_node (order + 1) ≡ first_node order + 2 ^ (15 - order)
next_first_node order h =
    let same : 16 - (order + 1) ≡ 15 - order = omega arith in
    let more : first_node (order + 1) + 2 ^ (15 - order) ≡ 65536 = ap (λ n. first_node (order + 1) + 2 ^ n) (sym same)
    ∙ first_node_is (order + 1) (omega arith) in
    omega (arith, more, first_node_is order (omega arith), half_as_many order h)

pub later_first_node : (m n : ℕ) → m ≤ n → n ≤ 16 → first_node m ≤ first_node n
later_first_node m n h most =
    let fewer : 2 ^ (16 - n) ≤ 2 ^ (16 - m) = more_in_power (16 - n) (16 - m) (omega arith) in
    omega (arith, fewer, first_node_is m (omega arith), first_node_is n most)

-- the block's place among those of its order
pub place_below : (order frame : ℕ) → order ≤ 15 → frame < most_frames → frame / 2 ^ order < 2 ^ (15 - order)
place_below order frame h known =
    let sum : (15 - order) + order ≡ 15 = omega arith in
    shr_below frame (15 - order) order (subst (λ n. frame < 2 ^ n) (sym sum) known)

pub node_before_next : (order frame : ℕ) → order ≤ 9 → frame < most_frames → node order frame < first_node (order + 1)
node_before_next order frame h known =
    omega (arith, next_first_node order (omega arith), place_below order frame (omega arith) known)

pub node_below : (order frame : ℕ) → order ≤ 9 → frame < most_frames → node order frame < 65472
node_below order frame h known =
    let last : first_node (order + 1) ≤ 65472 = later_first_node (order + 1) 10 (omega arith) (omega arith) in
    omega (arith, node_before_next order frame h known, last)

-- two blocks that have one node are one
pub same_node : (m n frame other : ℕ) → m ≤ 9 → n ≤ 9 → frame < most_frames → other < most_frames → node m frame ≡ node n other
    → (m ≡ n) × (frame / 2 ^ m ≡ other / 2 ^ n)
same_node m n frame other small less known there e =
    elim (cases_order m n) [
      | inl same ↦ (same, omega (arith, ap first_node same))
      | inr (inl before) ↦ absurd
          (omega (arith, e, node_before_next m frame small known, later_first_node (m + 1) n (omega arith) (omega arith)))
      | inr (inr behind) ↦ absurd
          (omega (arith, e, node_before_next n other less there, later_first_node (n + 1) m (omega arith) (omega arith)))
    ]

pub node_of_same : (order frame other : ℕ) → frame / 2 ^ order ≡ other / 2 ^ order → node order frame ≡ node order other
node_of_same order frame other same = ap (λ n. first_node order + n) same

-- frames of one block are in one block of each larger order, and known together
pub next_block : (order frame : ℕ) → frame / 2 ^ (order + 1) ≡ frame / 2 ^ order / 2
next_block order frame = sym (shr-shr frame order 1)

pub wider : (order frame other : ℕ) → frame / 2 ^ order ≡ other / 2 ^ order → frame / 2 ^ (order + 1) ≡ other / 2 ^ (order + 1)
wider order frame other same = omega (arith, next_block order frame, next_block order other, same)

pub wider_up : (m n frame other : ℕ) → m ≤ n → frame / 2 ^ m ≡ other / 2 ^ m → frame / 2 ^ n ≡ other / 2 ^ n
wider_up m n frame other h same =
    let sum : m + (n - m) ≡ n = omega arith in
    subst (λ k. frame / 2 ^ k ≡ other / 2 ^ k) sum
    (sym (shr-shr frame m (n - m)) ∙ (ap (λ q. q / 2 ^ (n - m)) same ∙ shr-shr other m (n - m)))

pub known_together : (order frame other : ℕ) → order ≤ 15 → frame < most_frames → other / 2 ^ order ≡ frame / 2 ^ order → other < most_frames
known_together order frame other h known same =
    omega (arith, wider_up order 15 other frame h same)

-- of three places in one block of the next order two are the same
pub two_halves : (a b c : ℕ) → a / 2 ≡ b / 2 → c / 2 ≡ b / 2 → c ≢ b → (a ≡ b) ⊎ (a ≡ c)
two_halves a b c ab cb apart = elim (cases_eq a b) [
  | inl same ↦ inl same
  | inr other ↦ inr (omega arith)
]

pub halves : (order frame other any : ℕ) → IsBuddy order frame other → any / 2 ^ (order + 1) ≡ frame / 2 ^ (order + 1)
    → (any / 2 ^ order ≡ frame / 2 ^ order) ⊎ (any / 2 ^ order ≡ other / 2 ^ order)
halves order frame other any buddy same =
    two_halves (any / 2 ^ order) (frame / 2 ^ order) (other / 2 ^ order)
    (sym (next_block order any) ∙ (same ∙ next_block order frame))
    (sym (next_block order other) ∙ (buddy.1 ∙ next_block order frame)) buddy.2

-- to turn the bit of an order is to go to the buddy
pub IsBuddy-xor : (order frame : ℕ) → order < 15 → frame < most_frames → IsBuddy order frame (bit_xor frame (2 ^ order))
IsBuddy-xor order frame h known =
    let next : 2 ^ order / 2 ^ (order + 1) ≡ 0 = omega (
      arith,
      shr_below (2 ^ order) 0 (order + 1)
          (rw zero-add (pow_below order (order + 1) (omega arith))),
    ) in
    let one : 2 ^ order / 2 ^ order ≡ 1 = ap (λ n. n / 2 ^ order) (sym (one-mul (2 ^ order))) ∙ shl-shr 1 order in
    let turned : bit_xor frame (2 ^ order) / 2 ^ order ≡ bit_xor (frame / 2 ^ order) 1 = xor_shr frame (2 ^ order) order
    ∙ ap (λ b. bit_xor (frame / 2 ^ order) b) one in
    let low = bit_at_xor (frame / 2 ^ order) 1 0 in (
      xor_lt 15 frame (2 ^ order) known (pow_below order 15 h),
      xor_shr frame (2 ^ order) (order + 1) ∙ (ap (λ b. bit_xor (frame / 2 ^ (order + 1)) b) next ∙ xor_zero_r (frame / 2 ^ (order + 1))),
      λ same. let still : bit_at (bit_xor (frame / 2 ^ order) 1) 0 ≡ bit_at (frame / 2 ^ order) 0 =
          ap (λ q. bit_at q 0) (sym turned ∙ same) in omega (arith, low, still),
    )

-- the order of a node, by how many of the bits of what is left of the nodes are 0 in front
pub order_by_zeros : (x : ℕ) → x < 65472 → (16 ≤ count_leading_zeros 32 (65535 - x)) × (count_leading_zeros 32 (65535 - x) - 16 ≤ 9)
    × (first_node (count_leading_zeros 32 (65535 - x) - 16) ≤ x) × (x < first_node (count_leading_zeros 32 (65535 - x) - 16 + 1))
order_by_zeros x h =
    let left = 65535 - x in
    let zeros = count_leading_zeros 32 left in
    let top = leading_top 32 left (omega arith) (omega arith) in
    let j = top.0 in
    let high : j < 16 = elim (cases_lt j 16) [ inl less ↦ less | inr past ↦ absurd (omega (arith, top.2, more_in_power 16 j past)) ] in
    let low : 6 ≤ j = elim (cases_lt j 6) [
      | inl less ↦ absurd (omega (arith, top.3, more_in_power (suc j) 6 (omega arith)))
      | inr from ↦
          from
    ] in
    let order = zeros - 16 in
    let is : order ≡ 15 - j = omega (arith, top.1) in
    let here : 16 - order ≡ suc j = omega arith in
    let next : 16 - (order + 1) ≡ j = omega arith in
    let from : first_node order + 2 ^ suc j ≡ 65536 = ap (λ k. first_node order + 2 ^ k) (sym here) ∙ first_node_is order (omega arith) in
    let to : first_node (order + 1) + 2 ^ j ≡ 65536 = ap (λ k. first_node (order + 1) + 2 ^ k) (sym next)
    ∙ first_node_is (order + 1) (omega arith) in
    (omega (arith, top.1), omega arith, omega (arith, from, top.3), omega (arith, to, top.2))

-- the first frame of a node's block
pub first_frame_known : (order x : ℕ) → order ≤ 9 → first_node order ≤ x → x < first_node (order + 1)
    → (x - first_node order) * 2 ^ order < most_frames
first_frame_known order x small from to =
    let sum : (15 - order) + order ≡ 15 = omega arith in
    subst (λ k. (x - first_node order) * 2 ^ order < 2 ^ k) sum
    (shl_below (x - first_node order) (15 - order) order (omega (arith, next_first_node order (omega arith))))
