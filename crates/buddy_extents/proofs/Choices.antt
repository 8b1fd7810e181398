-- The blocks in the set are the maximal free ones, and the first node of an order or a larger one leads to the choice.
use Rattle.std.proofs.Common.{◌≡◌, ℕ, zero, suc, ◌+◌, ◌-◌, ◌*◌, ◌/◌, ◌^◌, ◌<◌, ◌≤◌, Bool, true, false, not, ◌&&◌, eqb, ltb, List, get_or, Some, None, inl, inr, refl, sym, ap, subst, ◌∙◌, bit_xor, arith}
use Rattle.std.specs.Cmp.{both_ways}
use Rattle.std.proofs.lemmas.Bool.{le-ltb, cases_eq, cases_lt, cases_Bool, false≢true, and_parts, and_from, and_left, and_right, eqb-true, eq-eqb, lt-ltb, false_from_ne_true, true_from_ne_false, not-true, not_from_false}
use Rattle.std.proofs.lemmas.List.{get_or_past}
use Rattle.std.proofs.lemmas.Nat.{pow_pos, shl-shr, div_below, pow-add, shl_below}
use Rattle.std.specs.Option.{option_or}
use Rattle.bit_set.specs.Bits.{IsFirstFrom}
use Rattle.pager_model.specs.Bounds.{most_frames}
use Rattle.pager_model.specs.FreeBlocks.{run_free, block_start, block_free, is_maximal, lowest_block, least_block}
use Rattle.pager_model.proofs.ExtentLemmas.{extent_of_frame, range_of_extent}
use Rattle.buddy_extents.specs.Blocks.{first_node, node, is_block, is_free, free_in, AreBlocks, IsBuddy}
use Rattle.buddy_extents.proofs.NodeNumbers.{IsBuddy-xor, node_of_same, next_first_node, later_first_node, wider, wider_up, known_together}
use Rattle.pager_model.proofs.FreeRuns.{run_free_from, run_free_frames, run_free_within}
use Rattle.buddy_extents.proofs.Runs.{NoneBefore, lowest_block-first, lowest_block-none, least_here, least_later}
use Rattle.buddy_extents.proofs.BlockMoves.{is_free-block, is_free-none, length-free_in, get_or-free_in}

-- where a block isn't in, nor one round it, some frame of it isn't free
pub some_not_free : (nodes : List Bool) (frames : ℕ) → AreBlocks nodes frames → (n frame : ℕ) → n ≤ 9 → frame < most_frames
    → ((m : ℕ) → n ≤ m → m ≤ 9 → is_block nodes m frame ≡ false)
    → (any : ℕ) × (any < most_frames) × (any / 2 ^ n ≡ frame / 2 ^ n) × (is_free nodes any ≡ false)
some_not_free nodes frames blocks zero frame small known none =
    (frame, known, refl, is_free-none nodes frame (λ m h. none m (omega arith) h))
some_not_free nodes frames blocks (suc n) frame small known none =
    elim (cases_Bool (is_block nodes n frame)) [
      | inl is ↦
          let beside = some_not_free nodes frames blocks n other (omega arith) buddy.0
          (without other round_other
          (λ by. buddy.2 (sym (blocks.no_buddies frame other n known buddy.0 (omega arith) (sym buddy.1) is by)))) in
          (beside.0, beside.1, up beside.0 other beside.2 ∙ up_buddy, beside.3)
      | inr fails ↦
          let here = some_not_free nodes frames blocks n frame (omega arith) known
          (without frame refl (λ is. false≢true (sym fails ∙ is))) in
          (here.0, here.1, up here.0 frame here.2, here.3)
    ]
  where
    other : ℕ
    other = bit_xor frame (2 ^ n)

    buddy : IsBuddy n frame other
    buddy = IsBuddy-xor n frame (omega arith) known

    next : n + 1 ≡ suc n
    next = omega arith

    up_buddy : other / 2 ^ suc n ≡ frame / 2 ^ suc n
    up_buddy = subst (λ k. other / 2 ^ k ≡ frame / 2 ^ k) next buddy.1

    up : (a b : ℕ) → a / 2 ^ n ≡ b / 2 ^ n → a / 2 ^ suc n ≡ b / 2 ^ suc n
    up a b e = subst (λ k. a / 2 ^ k ≡ b / 2 ^ k) next (wider n a b e)

    round_other : other / 2 ^ suc n ≡ frame / 2 ^ suc n
    round_other = up_buddy

    without : (half : ℕ) → half / 2 ^ suc n ≡ frame / 2 ^ suc n → (is_block nodes n half ≡ true → ⊥) → (m : ℕ) → n ≤ m → m ≤ 9
        → is_block nodes m half ≡ false
    without half same fails m low high = elim (cases_eq n m) [
      | inl here ↦ false_from_ne_true _ (λ is. fails (ap (λ k. is_block nodes k half) here ∙ is))
      | inr other ↦
          ap (λ x. get_or nodes x false) (node_of_same m half frame (wider_up (suc n) m half frame (omega arith) same))
          ∙ none m (omega arith) high
    ]

-- the frames of a run are free, by the nodes
free_of_run : (nodes : List Bool) (frames first count : ℕ) → run_free (free_in nodes frames) first count ≡ true → (any : ℕ) → first ≤ any
    → any < first + count → is_free nodes any ≡ true
free_of_run nodes frames first count run any low high =
    let free = run_free_frames (free_in nodes frames) first count run any low high in
    elim (cases_lt any frames) [
      | inl inside ↦ sym (get_or-free_in nodes frames any inside) ∙ free
      | inr past ↦ absurd (false≢true (sym (get_or_past (free_in nodes frames) any false (omega (arith, length-free_in nodes frames)))
          ∙ free))
    ]

-- the part of an order of a block that is in is a free run
pub run_of_block : (nodes : List Bool) (frames : ℕ) → AreBlocks nodes frames → (n m first : ℕ) → n ≤ m → m ≤ 9 → first < most_frames
    → is_block nodes m first ≡ true → run_free (free_in nodes frames) (block_start n first) (2 ^ n) ≡ true
run_of_block nodes frames blocks n m first order small known is =
    run_free_from (free_in nodes frames) (block_start n first) (2 ^ n) (λ i h.
    let frame = block_start n first + i in
    let e : frame / 2 ^ n ≡ first / 2 ^ n = extent_of_frame (first / 2 ^ n) (2 ^ n) frame (omega arith) (omega arith) in
    let at : is_block nodes m frame ≡ true = ap (λ x. get_or nodes x false) (node_of_same m frame first (wider_up n m frame first order e))
    ∙ is in
    let here = known_together n first frame (omega arith) known e in
    get_or-free_in nodes frames frame (blocks.within frame m here small at) ∙ is_free-block nodes frame m small at)

-- where the block of the next order is free, neither of its halves is in
larger_not_free : (nodes : List Bool) (frames : ℕ) → AreBlocks nodes frames → (n first : ℕ) → n < 9 → first < most_frames
    → is_block nodes n first ≡ true → block_free (free_in nodes frames) first (n + 1) ≡ false
larger_not_free nodes frames blocks n first small known is =
    false_from_ne_true _ (λ run.
    let other = bit_xor first (2 ^ n) in
    let buddy : IsBuddy n first other = IsBuddy-xor n first (omega arith) known in
    let none = λ (m : ℕ) (low : n ≤ m) (high : m ≤ 9). elim (cases_eq n m) as (λ _. is_block nodes m other ≡ false) [
      | inl here ↦ false_from_ne_true _
          (λ by. buddy.2 (sym (blocks.no_buddies first other n known buddy.0 small (sym buddy.1) is
          (ap (λ k. is_block nodes k other) here ∙ by))))
      | inr apart ↦ false_from_ne_true _ (λ by.
          let round : is_block nodes m first ≡ true = ap (λ x. get_or nodes x false)
          (node_of_same m first other (wider_up (n + 1) m first other (omega arith) (sym buddy.1))) ∙ by in
          apart (blocks.one_each first n m known (omega arith) high is round))
    ] in
    let some = some_not_free nodes frames blocks n other (omega arith) buddy.0 none in
    let range = range_of_extent (first / 2 ^ (n + 1)) (2 ^ (n + 1)) some.0 (pow_pos (n + 1)) (wider n some.0 other some.2 ∙ buddy.1) in
    false≢true (sym some.3 ∙ free_of_run nodes frames (block_start (n + 1) first) (2 ^ (n + 1)) run some.0 range.0 range.1))

-- the blocks in the set are the maximal free ones
pub maximal_is_block : (nodes : List Bool) (frames : ℕ) → frames ≤ most_frames → AreBlocks nodes frames → (n first : ℕ) → n ≤ 9 → first < most_frames
    → block_start n first ≡ first → is_maximal (free_in nodes frames) n first ≡ is_block nodes n first
maximal_is_block nodes frames most blocks n first small known start = both_ways _ _ there back
  where
    free : List Bool
    free = free_in nodes frames

    back : is_block nodes n first ≡ true → is_maximal free n first ≡ true
    back is =
        and_from _ _ (eq-eqb _ _ start)
        (and_from _ _ (subst (λ f. run_free free f (2 ^ n) ≡ true) start
        (run_of_block nodes frames blocks n n first (omega arith) small known is))
        (not_from_false _ (elim (cases_lt n 9) [
          | inl less ↦ and_right (ltb n 9) _ (larger_not_free nodes frames blocks n first less known is)
          | inr nine ↦ and_left _ _ (le-ltb n 9 nine)
        ])))

    there : is_maximal free n first ≡ true → is_block nodes n first ≡ true
    there is =
        let rest = (and_parts (eqb (block_start n first) first) _ is).1 in
        let run : run_free free first (2 ^ n) ≡ true = (and_parts _ (not (ltb n 9 && block_free free first (n + 1))) rest).0 in
        let alone : (ltb n 9 && block_free free first (n + 1)) ≡ false = not-true _ (and_parts (run_free free first (2 ^ n)) _ rest).1 in
        true_from_ne_false _ (λ fails.
        let none = λ (m : ℕ) (low : n ≤ m) (high : m ≤ 9). elim (cases_eq n m) as (λ _. is_block nodes m first ≡ false) [
          | inl here ↦ ap (λ k. is_block nodes k first) (sym here) ∙ fails
          | inr apart ↦ false_from_ne_true _ (λ by.
              let large = run_of_block nodes frames blocks (n + 1) m first (omega arith) high known by in
              false≢true (sym alone ∙ and_from _ _ (lt-ltb n 9 (omega arith)) large))
        ] in
        let some = some_not_free nodes frames blocks n first small known none in
        let range = range_of_extent (first / 2 ^ n) (2 ^ n) some.0 (pow_pos n) some.2 in
        false≢true (sym some.3 ∙ free_of_run nodes frames first (2 ^ n) run some.0 (omega (arith, range.0, start))
        (omega (arith, range.1, start))))

-- ---- the first node

-- no block of the order with a node before this one is maximal
none_before : (nodes : List Bool) (frames : ℕ) → frames ≤ most_frames → AreBlocks nodes frames → (n place : ℕ) → n ≤ 9
    → ((k : ℕ) → first_node n ≤ k → k < first_node n + place → get_or nodes k false ≡ false) → NoneBefore (free_in nodes frames) n place
none_before nodes frames most blocks n place small none f below =
    false_from_ne_true _ (λ is.
    let start : block_start n f ≡ f = eqb-true _ _ (and_parts _ _ is).0 in
    let low : f / 2 ^ n < place = div_below f (2 ^ n) place (pow_pos n) below in
    let run : run_free (free_in nodes frames) f (2 ^ n) ≡ true = (and_parts _ _ (and_parts (eqb (block_start n f) f) _ is).1).0 in
    let known : f < most_frames = omega (
      arith,
      run_free_within (free_in nodes frames) f (2 ^ n) run (pow_pos n),
      length-free_in nodes frames,
      pow_pos n,
    ) in
    false≢true (sym (none (node n f) (omega arith) (omega arith)) ∙ (sym (maximal_is_block nodes frames most blocks n f small known start)
    ∙ is)))

-- an order without a node has no maximal block
lowest_none : (nodes : List Bool) (frames : ℕ) → frames ≤ most_frames → AreBlocks nodes frames → (n : ℕ) → n ≤ 9
    → ((k : ℕ) → first_node n ≤ k → k < first_node (n + 1) → get_or nodes k false ≡ false) → lowest_block (free_in nodes frames) n ≡ None
lowest_none nodes frames most blocks n small none =
    let sum : (15 - n) + n ≡ 15 = omega arith in
    let whole : 2 ^ (15 - n) * 2 ^ n ≡ most_frames = sym (pow-add 2 (15 - n) n) ∙ ap (λ k. 2 ^ k) sum in
    lowest_block-none (free_in nodes frames) n (2 ^ (15 - n))
    (none_before nodes frames most blocks n (2 ^ (15 - n)) small (λ k low high. none k low
    (omega (arith, next_first_node n (omega arith)))))
    (omega (arith, whole, length-free_in nodes frames))

least_none : (free : List Bool) (low count : ℕ) → ((n : ℕ) → low ≤ n → n < low + count → lowest_block free n ≡ None)
    → least_block free low count ≡ None
least_none free low zero none = refl
least_none free low (suc count) none =
    ap (λ o. option_or o (least_block free (low + 1) count)) (none low (omega arith) (omega arith))
    ∙ least_none free (low + 1) count (λ n from to. none n (omega arith) (omega arith))

least_at : (free : List Bool) (low n f d : ℕ) → low + d ≡ n → n ≤ 9 → ((m : ℕ) → low ≤ m → m < n → lowest_block free m ≡ None)
    → lowest_block free n ≡ Some f → least_block free low (10 - low) ≡ Some f
least_at free low n f zero sum small none at =
    let same : low ≡ n = omega arith in
    least_here free low f (omega arith) (ap (lowest_block free) same ∙ at)
least_at free low n f (suc d) sum small none at =
    least_later free low (omega arith) (none low (omega arith) (omega arith))
    ∙ least_at free (low + 1) n f d (omega arith) small (λ m from to. none m (omega arith) to) at

-- the block of the first node from those of an order on is the lowest of the least order that has one
pub first_is_least : (nodes : List Bool) (frames : ℕ) → frames ≤ most_frames → AreBlocks nodes frames → (low n x : ℕ) → n ≤ 9
    → IsFirstFrom nodes (first_node low) (Some x) → low ≤ n → first_node n ≤ x → x < first_node (n + 1)
    → least_block (free_in nodes frames) low (10 - low) ≡ Some ((x - first_node n) * 2 ^ n)
first_is_least nodes frames most blocks low n x small found order from to =
    least_at free low n first (n - low) (omega arith) small lower here
  where
    free : List Bool
    free = free_in nodes frames

    place : ℕ
    place = x - first_node n

    first : ℕ
    first = place * 2 ^ n

    of_first : first / 2 ^ n ≡ place
    of_first = shl-shr place n

    at : node n first ≡ x
    at = omega (arith, of_first)

    known : first < most_frames
    known =
        let sum : (15 - n) + n ≡ 15 = omega arith in
        subst (λ k. first < 2 ^ k) sum (shl_below place (15 - n) n (omega (arith, next_first_node n (omega arith))))

    lower : (m : ℕ) → low ≤ m → m < n → lowest_block free m ≡ None
    lower m above below =
        let before : first_node (m + 1) ≤ first_node n = later_first_node (m + 1) n (omega arith) (omega arith) in
        let after : first_node low ≤ first_node m = later_first_node low m above (omega arith) in
        lowest_none nodes frames most blocks m (omega arith) (λ k in_order up. found.2 k (omega arith) (omega arith))

    here : lowest_block free n ≡ Some first
    here =
        let after : first_node low ≤ first_node n = later_first_node low n order (omega arith) in
        lowest_block-first free n place first
        (none_before nodes frames most blocks n place small (λ k in_order up. found.2 k (omega arith) (omega arith))) refl
        (maximal_is_block nodes frames most blocks n first small known (ap (λ q. q * 2 ^ n) of_first)
        ∙ (ap (λ y. get_or nodes y false) at ∙ found.1))

pub none_is_least : (nodes : List Bool) (frames : ℕ) → frames ≤ most_frames → AreBlocks nodes frames → (low : ℕ) → low ≤ 9
    → IsFirstFrom nodes (first_node low) None
    → least_block (free_in nodes frames) low (10 - low) ≡ None
none_is_least nodes frames most blocks low small none =
    least_none (free_in nodes frames) low (10 - low) (λ n above below.
    let after : first_node low ≤ first_node n = later_first_node low n above (omega arith) in
    lowest_none nodes frames most blocks n (omega arith) (λ k in_order _. none k (omega arith)))
