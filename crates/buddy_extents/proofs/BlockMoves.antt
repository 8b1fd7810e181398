-- What becomes of the free blocks as one is taken out, cut, joined with its buddy and put in.
use Rattle.std.proofs.Common.{◌≡◌, ◌≢◌, ℕ, zero, suc, ◌+◌, ◌-◌, ◌*◌, ◌/◌, ◌^◌, ◌<◌, ◌≤◌, ◌⊎◌, Bool, true, false, ◌||◌, List, [], length, replicate, get_or, inl, inr, refl, sym, ap, subst, ◌∙◌, zero-add, arith, get_or-set_other, get_or-set_same}
use Rattle.std.specs.Cmp.{both_ways}
use Rattle.std.proofs.Math.ListN.{set, length-set}
use Rattle.std.proofs.lemmas.Bool.{cases_eq, cases_lt, false≢true, or_cases, or_left, or_right, eqb-true, eq-eqb, ne_eqb, false_from_ne_true}
use Rattle.std.proofs.lemmas.List.{ext_get_or, length-replicate, get_or-replicate}
use Rattle.std.proofs.lemmas.List.FromFn.{length-map-range_with_len, get_or-map-range_with_len}
use Rattle.std.proofs.lemmas.Nat.{pow_pos}
use Rattle.pager_model.specs.Bounds.{most_frames}
use Rattle.pager_model.specs.FreeBlocks.{with_range}
use Rattle.pager_model.proofs.ExtentLemmas.{extent_of_frame, range_of_extent}
use Rattle.buddy_extents.specs.Blocks.{node, is_block, has_block, is_free, free_in, free_with, same_block, AreBlocks, InHand, IsBuddy}
use Rattle.buddy_extents.proofs.NodeNumbers.{node_below, same_node, node_of_same, wider, halves, known_together}
use Rattle.pager_model.proofs.FreeRanges.{length-with_range, with_range_inside, with_range_outside, range_cases}

-- ---- which frames have a block

has_block-at : (nodes : List Bool) (order count frame n : ℕ) → order ≤ n → n < order + count → is_block nodes n frame ≡ true
    → has_block nodes order count frame ≡ true
unfolding has_block
has_block-at nodes order zero frame n low high is = absurd (omega arith)
has_block-at nodes order (suc count) frame n low high is =
    elim (cases_eq order n) [
      | inl here ↦ or_left _ _ (ap (λ m. is_block nodes m frame) here ∙ is)
      | inr other ↦ or_right _ _ (has_block-at nodes (order + 1) count frame n (omega arith) (omega arith) is)
    ]

block_of : (nodes : List Bool) (order count frame : ℕ) → has_block nodes order count frame ≡ true
    → (n : ℕ) × (n < order + count) × (is_block nodes n frame ≡ true)
unfolding has_block
block_of nodes order zero frame has = absurd (false≢true has)
block_of nodes order (suc count) frame has =
    elim (or_cases (is_block nodes order frame) (has_block nodes (order + 1) count frame) has) [
      | inl here ↦ (order, omega arith, here)
      | inr later ↦ let found = block_of nodes (order + 1) count frame later in (found.0, omega (arith, found.1), found.2)
    ]

pub is_free-block : (nodes : List Bool) (frame n : ℕ) → n ≤ 9 → is_block nodes n frame ≡ true → is_free nodes frame ≡ true
unfolding is_free
is_free-block nodes frame n h is = has_block-at nodes 0 10 frame n (omega arith) (omega arith) is

pub block_of_free : (nodes : List Bool) (frame : ℕ) → is_free nodes frame ≡ true → (n : ℕ) × (n ≤ 9) × (is_block nodes n frame ≡ true)
unfolding is_free
block_of_free nodes frame free =
    let found = block_of nodes 0 10 frame free in (found.0, omega (arith, found.1), found.2)

pub is_free-none : (nodes : List Bool) (frame : ℕ) → ((n : ℕ) → n ≤ 9 → is_block nodes n frame ≡ false) → is_free nodes frame ≡ false
is_free-none nodes frame none =
    false_from_ne_true _ (λ free. let found = block_of_free nodes frame free in false≢true (sym (none found.0 found.1) ∙ found.2))

pub length-free_in : (nodes : List Bool) (frames : ℕ) → length (free_in nodes frames) ≡ frames
unfolding free_in
length-free_in nodes frames = length-map-range_with_len (is_free nodes) 0 frames

pub get_or-free_in : (nodes : List Bool) (frames frame : ℕ) → frame < frames
    → get_or (free_in nodes frames) frame false ≡ is_free nodes frame
unfolding free_in
get_or-free_in nodes frames frame h =
    get_or-map-range_with_len (is_free nodes) 0 frames frame frame false h (zero-add frame)

length-free_with : (nodes : List Bool) (frames order frame : ℕ) → length (free_with nodes frames order frame) ≡ frames
unfolding free_with
length-free_with nodes frames order frame = length-map-range_with_len _ 0 frames

-- whether a frame is free with a block in hand
free_at : List Bool → ℕ → ℕ → ℕ → Bool
free_at nodes order frame other = same_block order frame other || is_free nodes other

get_or-free_with : (nodes : List Bool) (frames order frame other : ℕ) → other < frames
    → get_or (free_with nodes frames order frame) other false ≡ free_at nodes order frame other
unfolding free_with free_at
get_or-free_with nodes frames order frame other h =
    get_or-map-range_with_len (free_at nodes order frame) 0 frames other other false h (zero-add other)

free_at-hand : (nodes : List Bool) (order frame other : ℕ) → other / 2 ^ order ≡ frame / 2 ^ order → free_at nodes order frame other ≡ true
unfolding free_at
free_at-hand nodes order frame other same = or_left _ _ (eq-eqb _ _ same)

free_at-block : (nodes : List Bool) (order frame other n : ℕ) → n ≤ 9 → is_block nodes n other ≡ true
    → free_at nodes order frame other ≡ true
unfolding free_at
free_at-block nodes order frame other n h is = or_right _ _ (is_free-block nodes other n h is)

free_at-from_free : (nodes : List Bool) (order frame other : ℕ) → is_free nodes other ≡ true → free_at nodes order frame other ≡ true
unfolding free_at
free_at-from_free nodes order frame other is = or_right _ _ is

free_at-cases : (nodes : List Bool) (order frame other : ℕ) → free_at nodes order frame other ≡ true
    → (other / 2 ^ order ≡ frame / 2 ^ order) ⊎ ((n : ℕ) × (n ≤ 9) × (is_block nodes n other ≡ true))
unfolding free_at
free_at-cases nodes order frame other free =
    elim (or_cases _ _ free) [
      | inl hand ↦ inl (eqb-true _ _ hand)
      | inr has ↦ inr (block_of_free nodes other has)
    ]

-- ---- one node put in or out

-- a node is written: the blocks that have it are as written, the others as before
is_block-set : (nodes : List Bool) (x : ℕ) (v : Bool) (n frame : ℕ) → x < length nodes
    → ((node n frame ≡ x) × (is_block (set nodes x v) n frame ≡ v)) ⊎ ((node n frame ≢ x)
    × (is_block (set nodes x v) n frame ≡ is_block nodes n frame))
is_block-set nodes x v n frame h =
    elim (cases_eq (node n frame) x) [
      | inl same ↦ inl (same, ap (λ y. get_or (set nodes x v) y false) same ∙ get_or-set_same nodes x v false h)
      | inr other ↦ inr (other, get_or-set_other nodes x (node n frame) v false other)
    ]

-- a block that is in after one went out was in before, and one that was in stays as one comes in
was_in : (nodes : List Bool) (x n frame : ℕ) → x < length nodes → is_block (set nodes x false) n frame ≡ true
    → is_block nodes n frame ≡ true
was_in nodes x n frame h is = elim (is_block-set nodes x false n frame h) [
  | inl here ↦ absurd (false≢true (sym here.1 ∙ is))
  | inr there ↦ sym there.1 ∙ is
]

stays_in : (nodes : List Bool) (x n frame : ℕ) → x < length nodes → is_block nodes n frame ≡ true
    → is_block (set nodes x true) n frame ≡ true
stays_in nodes x n frame h is = elim (is_block-set nodes x true n frame h) [
  | inl here ↦ here.1
  | inr there ↦ there.1 ∙ is
]

-- a frame's block that is the one of the order round another has that other's place
in_block : (any m n frame : ℕ) → (m ≡ n) × (any / 2 ^ m ≡ frame / 2 ^ n) → any / 2 ^ n ≡ frame / 2 ^ n
in_block any m n frame e = ap (λ k. any / 2 ^ k) (sym e.0) ∙ e.1

-- what is written is in
is_in : (nodes : List Bool) (n frame : ℕ) → node n frame < length nodes → is_block (set nodes (node n frame) true) n frame ≡ true
is_in nodes n frame h = get_or-set_same nodes (node n frame) true false h

-- without one of them they are blocks still
pub AreBlocks-remove : (nodes : List Bool) (frames x : ℕ) → x < 65472 → AreBlocks nodes frames → AreBlocks (set nodes x false) frames
AreBlocks-remove nodes frames x h blocks =
    let inside : x < length nodes = omega (arith, blocks.size) in
    record {
      size = length-set nodes x false ∙ blocks.size;
      one_each = λ frame m n known a b at_m at_n. blocks.one_each frame m n known a b (was_in nodes x m frame inside at_m)
          (was_in nodes x n frame inside at_n);
      no_buddies = λ frame other n known there a same at by. blocks.no_buddies frame other n known there a same
          (was_in nodes x n frame inside at) (was_in nodes x n other inside by);
      within = λ frame n known a at. blocks.within frame n known a (was_in nodes x n frame inside at);
    }

-- a block in hand may go in where its buddy isn't in
pub AreBlocks-insert : (nodes : List Bool) (frames n frame : ℕ) (free : List Bool) → InHand nodes frames n frame free
    → ((other : ℕ) → n < 9 → IsBuddy n frame other → is_block nodes n other ≡ false)
    → AreBlocks (set nodes (node n frame) true) frames
AreBlocks-insert nodes frames n frame free hand apart =
    record { size = size; one_each = one_each; no_buddies = no_buddies; within = within }
  where
    blocks : AreBlocks nodes frames
    blocks = hand.blocks

    inside : node n frame < length nodes
    inside = omega (arith, hand.blocks.size, node_below n frame hand.order_up_to_9 hand.known)

    size : length (set nodes (node n frame) true) ≡ 65472
    size = length-set nodes (node n frame) true ∙ hand.blocks.size

    -- each block that is in then is the one in hand, or was in
    which : (any m : ℕ) → any < most_frames → m ≤ 9 → is_block (set nodes (node n frame) true) m any ≡ true
        → ((m ≡ n) × (any / 2 ^ m ≡ frame / 2 ^ n)) ⊎ (is_block nodes m any ≡ true)
    which any m known h is = elim (is_block-set nodes (node n frame) true m any inside) [
      | inl here ↦ inl (same_node m n any frame h hand.order_up_to_9 known hand.known here.0)
      | inr there ↦ inr (sym there.1 ∙ is)
    ]

    -- and in the block in hand none was
    none_was : (any m : ℕ) → any < most_frames → m ≤ 9 → any / 2 ^ n ≡ frame / 2 ^ n → is_block nodes m any ≡ true → ⊥
    none_was any m known h same is = false≢true (sym (hand.none any m known h same) ∙ is)

    one_each : (any l m : ℕ) → any < most_frames → l ≤ 9 → m ≤ 9 → is_block (set nodes (node n frame) true) l any ≡ true
        → is_block (set nodes (node n frame) true) m any ≡ true → l ≡ m
    one_each any l m known a b at_l at_m =
        elim (which any l known a at_l) [
          | inl new ↦ elim (which any m known b at_m) [
            | inl also ↦ new.0 ∙ sym also.0
            | inr old ↦ absurd (none_was any m known b (in_block any l n frame new) old)
          ]
          | inr old ↦ elim (which any m known b at_m) [
            | inl new ↦ absurd (none_was any l known a (in_block any m n frame new) old)
            | inr also ↦ hand.blocks.one_each any l m known a b old also
          ]
        ]

    beside : (any other : ℕ) → other < most_frames → n < 9 → any / 2 ^ n ≡ frame / 2 ^ n → any / 2 ^ (n + 1) ≡ other / 2 ^ (n + 1)
        → is_block nodes n other ≡ true → any / 2 ^ n ≡ other / 2 ^ n
    beside any other known h new same old =
        elim (cases_eq (other / 2 ^ n) (frame / 2 ^ n)) [
          | inl one ↦ new ∙ sym one
          | inr two ↦ absurd (false≢true (sym (apart other h (known, sym same ∙ wider n any frame new, two)) ∙ old))
        ]

    no_buddies : (any other m : ℕ) → any < most_frames → other < most_frames → m < 9 → any / 2 ^ (m + 1) ≡ other / 2 ^ (m + 1)
        → is_block (set nodes (node n frame) true) m any ≡ true → is_block (set nodes (node n frame) true) m other ≡ true
        → any / 2 ^ m ≡ other / 2 ^ m
    no_buddies any other m known there h same at by =
        elim (which any m known (omega arith) at) [
          | inl new ↦ elim (which other m there (omega arith) by) [
            | inl also ↦ new.1 ∙ sym also.1
            | inr old ↦ subst (λ k. any / 2 ^ k ≡ other / 2 ^ k) (sym new.0)
                (beside any other there (omega (arith, new.0)) (in_block any m n frame new)
                (subst (λ k. any / 2 ^ (k + 1) ≡ other / 2 ^ (k + 1)) new.0 same) (subst (λ k. is_block nodes k other ≡ true) new.0 old))
          ]
          | inr old ↦ elim (which other m there (omega arith) by) [
            | inl new ↦ subst (λ k. any / 2 ^ k ≡ other / 2 ^ k) (sym new.0)
                (sym (beside other any known (omega (arith, new.0)) (in_block other m n frame new)
                (sym (subst (λ k. any / 2 ^ (k + 1) ≡ other / 2 ^ (k + 1)) new.0 same))
                (subst (λ k. is_block nodes k any ≡ true) new.0 old)))
            | inr also ↦ hand.blocks.no_buddies any other m known there h same old also
          ]
        ]

    within : (any m : ℕ) → any < most_frames → m ≤ 9 → is_block (set nodes (node n frame) true) m any ≡ true → any < frames
    within any m known h is = elim (which any m known h is) [
      | inl new ↦ hand.within any (in_block any m n frame new)
      | inr old ↦ hand.blocks.within any m known h old
    ]

-- ---- the moves

-- a block in the set comes into the hand
pub lift : (nodes : List Bool) (frames n frame : ℕ) → frames ≤ most_frames → AreBlocks nodes frames → n ≤ 9 → frame < most_frames
    → is_block nodes n frame ≡ true → InHand (set nodes (node n frame) false) frames n frame (free_in nodes frames)
lift nodes frames n frame most blocks small known is = record {
  order_up_to_9 = small;
  known = known;
  blocks = AreBlocks-remove nodes frames (node n frame) (node_below n frame small known) blocks;
  none = none;
  within = within;
  free_is = ext_get_or false _ _ (length-free_with changed frames n frame ∙ sym (length-free_in nodes frames)) same;
}
  where
    changed : List Bool
    changed = set nodes (node n frame) false

    inside : node n frame < length nodes
    inside = omega (arith, blocks.size, node_below n frame small known)

    at : (any : ℕ) → any / 2 ^ n ≡ frame / 2 ^ n → is_block nodes n any ≡ true
    at any e = ap (λ x. get_or nodes x false) (node_of_same n any frame e) ∙ is

    none : (any m : ℕ) → any < most_frames → m ≤ 9 → any / 2 ^ n ≡ frame / 2 ^ n → is_block changed m any ≡ false
    none any m here h e = elim (is_block-set nodes (node n frame) false m any inside) [
      | inl out ↦ out.1
      | inr other ↦ false_from_ne_true _ (λ still.
          let one : m ≡ n = blocks.one_each any m n here h small (sym other.1 ∙ still) (at any e) in
          other.0 (ap (λ k. node k any) one ∙ node_of_same n any frame e))
    ]

    within : (any : ℕ) → any / 2 ^ n ≡ frame / 2 ^ n → any < frames
    within any e = blocks.within any n (known_together n frame any (omega arith) known e) small (at any e)

    there : (any : ℕ) → any < most_frames → free_at changed n frame any ≡ true → is_free nodes any ≡ true
    there any here free = elim (free_at-cases changed n frame any free) [
      | inl hand ↦ is_free-block nodes any n small (at any hand)
      | inr block ↦ is_free-block nodes any block.0 block.1 (was_in nodes (node n frame) block.0 any inside block.2)
    ]

    back : (any : ℕ) → any < most_frames → is_free nodes any ≡ true → free_at changed n frame any ≡ true
    back any here free =
        let block = block_of_free nodes any free in
        elim (is_block-set nodes (node n frame) false block.0 any inside) [
          | inl out ↦ free_at-hand changed n frame any (in_block any block.0 n frame
              (same_node block.0 n any frame block.1 small here known out.0))
          | inr other ↦ free_at-block changed n frame any block.0 block.1 (other.1 ∙ block.2)
        ]

    same : (any : ℕ) → any < length (free_with changed frames n frame)
        → get_or (free_with changed frames n frame) any false ≡ get_or (free_in nodes frames) any false
    same any h =
        let low : any < frames = omega (arith, length-free_with changed frames n frame) in
        get_or-free_with changed frames n frame any low
        ∙ (both_ways _ _ (there any (omega arith)) (back any (omega arith)) ∙ sym (get_or-free_in nodes frames any low))

-- the block in hand is joined with its buddy, which goes out of the set
pub join : (nodes : List Bool) (frames n frame other : ℕ) (free : List Bool) → frames ≤ most_frames → InHand nodes frames n frame free → n < 9
    → IsBuddy n frame other → is_block nodes n other ≡ true → InHand (set nodes (node n other) false) frames (n + 1) frame free
join nodes frames n frame other free most hand small buddy is = record {
  order_up_to_9 = omega arith;
  known = hand.known;
  blocks = AreBlocks-remove nodes frames (node n other) (node_below n other (omega arith) buddy.0) hand.blocks;
  none = none;
  within = within;
  free_is = ext_get_or false _ _ (length-free_with changed frames (n + 1) frame ∙ sym (length-free_with nodes frames n frame)) same
      ∙ hand.free_is;
}
  where
    changed : List Bool
    changed = set nodes (node n other) false

    inside : node n other < length nodes
    inside = omega (arith, hand.blocks.size, node_below n other (omega arith) buddy.0)

    at : (any : ℕ) → any / 2 ^ n ≡ other / 2 ^ n → is_block nodes n any ≡ true
    at any e = ap (λ x. get_or nodes x false) (node_of_same n any other e) ∙ is

    none : (any m : ℕ) → any < most_frames → m ≤ 9 → any / 2 ^ (n + 1) ≡ frame / 2 ^ (n + 1) → is_block changed m any ≡ false
    none any m here h e = false_from_ne_true _ (λ still.
        let before = was_in nodes (node n other) m any inside still in
        elim (halves n frame other any buddy e) [
          | inl first ↦ false≢true (sym (hand.none any m here h first) ∙ before)
          | inr second ↦ elim (is_block-set nodes (node n other) false m any inside) [
            | inl out ↦ false≢true (sym out.1 ∙ still)
            | inr in_set ↦
                let one : m ≡ n = hand.blocks.one_each any m n here h (omega arith) before (at any second) in
                in_set.0 (ap (λ k. node k any) one ∙ node_of_same n any other second)
          ]
        ])

    within : (any : ℕ) → any / 2 ^ (n + 1) ≡ frame / 2 ^ (n + 1) → any < frames
    within any e = elim (halves n frame other any buddy e) [
      | inl first ↦ hand.within any first
      | inr second ↦ hand.blocks.within any n (known_together n other any (omega arith) buddy.0 second) (omega arith) (at any second)
    ]

    there : (any : ℕ) → any < most_frames → free_at changed (n + 1) frame any ≡ true → free_at nodes n frame any ≡ true
    there any here is_free = elim (free_at-cases changed (n + 1) frame any is_free) [
      | inl wide ↦ elim (halves n frame other any buddy wide) [
        | inl first ↦ free_at-hand nodes n frame any first
        | inr second ↦ free_at-block nodes n frame any n (omega arith) (at any second)
      ]
      | inr block ↦ free_at-block nodes n frame any block.0 block.1 (was_in nodes (node n other) block.0 any inside block.2)
    ]

    back : (any : ℕ) → any < most_frames → free_at nodes n frame any ≡ true → free_at changed (n + 1) frame any ≡ true
    back any here is_free = elim (free_at-cases nodes n frame any is_free) [
      | inl first ↦ free_at-hand changed (n + 1) frame any (wider n any frame first)
      | inr block ↦ elim (is_block-set nodes (node n other) false block.0 any inside) [
        | inl out ↦
            let second = in_block any block.0 n other (same_node block.0 n any other block.1 (omega arith) here buddy.0 out.0) in
            free_at-hand changed (n + 1) frame any (wider n any other second ∙ buddy.1)
        | inr in_set ↦ free_at-block changed (n + 1) frame any block.0 block.1 (in_set.1 ∙ block.2)
      ]
    ]

    same : (any : ℕ) → any < length (free_with changed frames (n + 1) frame)
        → get_or (free_with changed frames (n + 1) frame) any false ≡ get_or (free_with nodes frames n frame) any false
    same any h =
        let low : any < frames = omega (arith, length-free_with changed frames (n + 1) frame) in
        get_or-free_with changed frames (n + 1) frame any low
        ∙ (both_ways _ _ (there any (omega arith)) (back any (omega arith)) ∙ sym (get_or-free_with nodes frames n frame any low))

-- the block in hand is cut: the half without the frame goes into the set
pub cut : (nodes : List Bool) (frames n frame other : ℕ) (free : List Bool) → frames ≤ most_frames → InHand nodes frames (n + 1) frame free
    → IsBuddy n frame other → InHand (set nodes (node n other) true) frames n frame free
cut nodes frames n frame other free most hand buddy = record {
  order_up_to_9 = omega (arith, hand.order_up_to_9);
  known = hand.known;
  blocks = AreBlocks-insert nodes frames n other (free_with nodes frames n other) half apart;
  none = none;
  within = λ any e. hand.within any (wider n any frame e);
  free_is = ext_get_or false _ _ (length-free_with changed frames n frame ∙ sym (length-free_with nodes frames (n + 1) frame)) same
      ∙ hand.free_is;
}
  where
    changed : List Bool
    changed = set nodes (node n other) true

    small : n ≤ 9
    small = omega (arith, hand.order_up_to_9)

    inside : node n other < length nodes
    inside = omega (arith, hand.blocks.size, node_below n other small buddy.0)

    -- the half that goes in is in hand by itself
    half : InHand nodes frames n other (free_with nodes frames n other)
    half = record {
      order_up_to_9 = small;
      known = buddy.0;
      blocks = hand.blocks;
      none = λ any m here h e. hand.none any m here h (wider n any other e ∙ buddy.1);
      within = λ any e. hand.within any (wider n any other e ∙ buddy.1);
      free_is = refl;
    }

    apart : (any : ℕ) → n < 9 → IsBuddy n other any → is_block nodes n any ≡ false
    apart any h beside = hand.none any n beside.0 small (beside.1 ∙ buddy.1)

    none : (any m : ℕ) → any < most_frames → m ≤ 9 → any / 2 ^ n ≡ frame / 2 ^ n → is_block changed m any ≡ false
    none any m here h e = elim (is_block-set nodes (node n other) true m any inside) [
      | inl new ↦ absurd (buddy.2 (sym (in_block any m n other (same_node m n any other h small here buddy.0 new.0)) ∙ e))
      | inr old ↦ old.1 ∙ hand.none any m here h (wider n any frame e)
    ]

    there : (any : ℕ) → any < most_frames → free_at changed n frame any ≡ true → free_at nodes (n + 1) frame any ≡ true
    there any here is_free = elim (free_at-cases changed n frame any is_free) [
      | inl first ↦ free_at-hand nodes (n + 1) frame any (wider n any frame first)
      | inr block ↦ elim (is_block-set nodes (node n other) true block.0 any inside) [
        | inl new ↦
            let second = in_block any block.0 n other (same_node block.0 n any other block.1 small here buddy.0 new.0) in
            free_at-hand nodes (n + 1) frame any (wider n any other second ∙ buddy.1)
        | inr old ↦ free_at-block nodes (n + 1) frame any block.0 block.1 (sym old.1 ∙ block.2)
      ]
    ]

    back : (any : ℕ) → any < most_frames → free_at nodes (n + 1) frame any ≡ true → free_at changed n frame any ≡ true
    back any here is_free = elim (free_at-cases nodes (n + 1) frame any is_free) [
      | inl wide ↦ elim (halves n frame other any buddy wide) [
        | inl first ↦ free_at-hand changed n frame any first
        | inr second ↦ free_at-block changed n frame any n small (ap (λ x. get_or changed x false) (node_of_same n any other second)
            ∙ is_in nodes n other inside)
      ]
      | inr block ↦ free_at-block changed n frame any block.0 block.1 (stays_in nodes (node n other) block.0 any inside block.2)
    ]

    same : (any : ℕ) → any < length (free_with changed frames n frame)
        → get_or (free_with changed frames n frame) any false ≡ get_or (free_with nodes frames (n + 1) frame) any false
    same any h =
        let low : any < frames = omega (arith, length-free_with changed frames n frame) in
        get_or-free_with changed frames n frame any low
        ∙ (both_ways _ _ (there any (omega arith)) (back any (omega arith)) ∙ sym (get_or-free_with nodes frames (n + 1) frame any low))

-- the block in hand goes in: the free frames are those in the set then
pub put : (nodes : List Bool) (frames n frame : ℕ) (free : List Bool) → frames ≤ most_frames → InHand nodes frames n frame free
    → free_in (set nodes (node n frame) true) frames ≡ free
put nodes frames n frame free most hand =
    ext_get_or false _ _ (length-free_in changed frames ∙ sym (length-free_with nodes frames n frame)) same ∙ hand.free_is
  where
    changed : List Bool
    changed = set nodes (node n frame) true

    inside : node n frame < length nodes
    inside = omega (arith, hand.blocks.size, node_below n frame hand.order_up_to_9 hand.known)

    there : (any : ℕ) → any < most_frames → is_free changed any ≡ true → free_at nodes n frame any ≡ true
    there any here is_free =
        let block = block_of_free changed any is_free in
        elim (is_block-set nodes (node n frame) true block.0 any inside) [
          | inl new ↦ free_at-hand nodes n frame any (in_block any block.0 n frame
              (same_node block.0 n any frame block.1 hand.order_up_to_9 here hand.known new.0))
          | inr old ↦ free_at-block nodes n frame any block.0 block.1 (sym old.1 ∙ block.2)
        ]

    back : (any : ℕ) → any < most_frames → free_at nodes n frame any ≡ true → is_free changed any ≡ true
    back any here is_free = elim (free_at-cases nodes n frame any is_free) [
      | inl in_it ↦ is_free-block changed any n hand.order_up_to_9 (ap (λ x. get_or changed x false) (node_of_same n any frame in_it)
          ∙ is_in nodes n frame inside)
      | inr block ↦ is_free-block changed any block.0 block.1 (stays_in nodes (node n frame) block.0 any inside block.2)
    ]

    same : (any : ℕ) → any < length (free_in changed frames) → get_or (free_in changed frames) any false ≡ get_or
        (free_with nodes frames n frame) any false
    same any h =
        let low : any < frames = omega (arith, length-free_in changed frames) in
        get_or-free_in changed frames any low
        ∙ (both_ways _ _ (there any (omega arith)) (back any (omega arith)) ∙ sym (get_or-free_with nodes frames n frame any low))

-- ---- the hand and a range of frames

pub in_range_from : (n first any : ℕ) → first / 2 ^ n * 2 ^ n ≡ first → any / 2 ^ n ≡ first / 2 ^ n → (first ≤ any) × (any < first + 2 ^ n)
in_range_from n first any start e =
    let range = range_of_extent (first / 2 ^ n) (2 ^ n) any (pow_pos n) e in (omega (arith, range.0, start), omega (arith, range.1, start))

pub of_range_from : (n first any : ℕ) → first / 2 ^ n * 2 ^ n ≡ first → first ≤ any → any < first + 2 ^ n → any / 2 ^ n ≡ first / 2 ^ n
of_range_from n first any start low high =
    extent_of_frame (first / 2 ^ n) (2 ^ n) any (omega arith) (omega arith)

free_at-others : (nodes : List Bool) (n frame any : ℕ) → (any / 2 ^ n ≡ frame / 2 ^ n → ⊥) → free_at nodes n frame any ≡ is_free nodes any
unfolding free_at
free_at-others nodes n frame any other = ap (λ b. b || is_free nodes any) (ne_eqb _ _ other)

-- without the block in hand the free frames are those of the list but its range
pub taken : (nodes : List Bool) (frames n first : ℕ) (free : List Bool) → frames ≤ most_frames → InHand nodes frames n first free
    → first / 2 ^ n * 2 ^ n ≡ first → free_in nodes frames ≡ with_range free first (2 ^ n) false
taken nodes frames n first free most hand start =
    ext_get_or false _ _ (length-free_in nodes frames ∙ sym (length-with_range free first (2 ^ n) false fits ∙ long)) same
  where
    long : length free ≡ frames
    long = sym (ap length hand.free_is) ∙ length-free_with nodes frames n first

    last : first + (2 ^ n - 1) < frames
    last = hand.within (first + (2 ^ n - 1)) (of_range_from n first (first + (2 ^ n - 1)) start (omega arith) (omega (arith, pow_pos n)))

    fits : first + 2 ^ n ≤ length free
    fits = omega (arith, last, long, pow_pos n)

    outside : (any : ℕ) → any < frames → (any < first) ⊎ (first + 2 ^ n ≤ any)
        → is_free nodes any ≡ get_or (with_range free first (2 ^ n) false) any false
    outside any low out =
        let other : any / 2 ^ n ≡ first / 2 ^ n → ⊥ = λ e. let range = in_range_from n first any start e in
        elim out [ inl before ↦ omega (arith, range.0) | inr behind ↦ omega (arith, range.1) ] in
        sym (free_at-others nodes n first any other)
        ∙ (sym (get_or-free_with nodes frames n first any low)
        ∙ (ap (λ xs. get_or xs any false) hand.free_is ∙ sym (with_range_outside free first (2 ^ n) false fits any out)))

    inside : (any : ℕ) → first ≤ any → any < first + 2 ^ n → is_free nodes any ≡ get_or (with_range free first (2 ^ n) false) any false
    inside any low high =
        let e = of_range_from n first any start low high in
        is_free-none nodes any (λ m h. hand.none any m (omega (arith, most, hand.within any e)) h e)
        ∙ sym (with_range_inside free first (2 ^ n) false fits any low high)

    same : (any : ℕ) → any < length (free_in nodes frames) → get_or (free_in nodes frames) any false ≡ get_or
        (with_range free first (2 ^ n) false) any false
    same any h =
        let low : any < frames = omega (arith, length-free_in nodes frames) in
        get_or-free_in nodes frames any low
        ∙ range_cases first (2 ^ n) (λ k. k < frames → is_free nodes k ≡ get_or (with_range free first (2 ^ n) false) k false)
        (λ k out in_all. outside k in_all out) (λ k from before _. inside k from before) any low

-- a range of frames that aren't free comes into the hand
pub given : (nodes : List Bool) (frames n first : ℕ) → frames ≤ most_frames → AreBlocks nodes frames → n ≤ 9 → first / 2 ^ n * 2 ^ n ≡ first
    → first + 2 ^ n ≤ frames
    → ((frame : ℕ) → first ≤ frame → frame < first + 2 ^ n → get_or (free_in nodes frames) frame false ≡ false)
    → InHand nodes frames n first (with_range (free_in nodes frames) first (2 ^ n) true)
given nodes frames n first most blocks small start fits not_free = record {
  order_up_to_9 = small;
  known = omega (arith, pow_pos n);
  blocks = blocks;
  none = none;
  within = within;
  free_is = ext_get_or false _ _ (length-free_with nodes frames n first
      ∙ sym (length-with_range free first (2 ^ n) true fits_in ∙ length-free_in nodes frames)) same;
}
  where
    free : List Bool
    free = free_in nodes frames

    fits_in : first + 2 ^ n ≤ length free
    fits_in = omega (arith, length-free_in nodes frames)

    within : (any : ℕ) → any / 2 ^ n ≡ first / 2 ^ n → any < frames
    within any e = omega (arith, (in_range_from n first any start e).1)

    none : (any m : ℕ) → any < most_frames → m ≤ 9 → any / 2 ^ n ≡ first / 2 ^ n → is_block nodes m any ≡ false
    none any m here h e =
        let range = in_range_from n first any start e in
        false_from_ne_true _ (λ is. false≢true (sym (sym (get_or-free_in nodes frames any (within any e)) ∙ not_free any range.0 range.1)
        ∙ is_free-block nodes any m h is))

    outside : (any : ℕ) → any < frames → (any < first) ⊎ (first + 2 ^ n ≤ any)
        → free_at nodes n first any ≡ get_or (with_range free first (2 ^ n) true) any false
    outside any low out =
        let other : any / 2 ^ n ≡ first / 2 ^ n → ⊥ = λ e. let range = in_range_from n first any start e in
        elim out [ inl before ↦ omega (arith, range.0) | inr behind ↦ omega (arith, range.1) ] in
        free_at-others nodes n first any other
        ∙ (sym (get_or-free_in nodes frames any low) ∙ sym (with_range_outside free first (2 ^ n) true fits_in any out))

    inside : (any : ℕ) → first ≤ any → any < first + 2 ^ n → free_at nodes n first any ≡ get_or
        (with_range free first (2 ^ n) true) any false
    inside any low high =
        free_at-hand nodes n first any (of_range_from n first any start low high)
        ∙ sym (with_range_inside free first (2 ^ n) true fits_in any low high)

    same : (any : ℕ) → any < length (free_with nodes frames n first) → get_or (free_with nodes frames n first) any false ≡ get_or
        (with_range free first (2 ^ n) true) any false
    same any h =
        let low : any < frames = omega (arith, length-free_with nodes frames n first) in
        get_or-free_with nodes frames n first any low
        ∙ range_cases first (2 ^ n) (λ k. k < frames → free_at nodes n first k ≡ get_or (with_range free first (2 ^ n) true) k false)
        (λ k out in_all. outside k in_all out) (λ k from before _. inside k from before) any low

-- ---- what goes in last

one_buddy : (n frame a b : ℕ) → IsBuddy n frame a → IsBuddy n frame b → b / 2 ^ n ≡ a / 2 ^ n
one_buddy n frame a b here there = elim (halves n frame a b here there.1) [
  | inl same ↦ absurd (there.2 same)
  | inr other ↦ other
]

-- the block in hand goes in where its buddy is out, or where it is of the largest order
pub put_beside : (nodes : List Bool) (frames n frame other : ℕ) (free : List Bool) → frames ≤ most_frames → InHand nodes frames n frame free
    → IsBuddy n frame other → is_block nodes n other ≡ false
    → AreBlocks (set nodes (node n frame) true) frames × (free_in (set nodes (node n frame) true) frames ≡ free)
put_beside nodes frames n frame other free most hand buddy out = (
  AreBlocks-insert nodes frames n frame free hand (λ any h beside. ap (λ x. get_or nodes x false)
      (node_of_same n any other (one_buddy n frame other any buddy beside)) ∙ out),
  put nodes frames n frame free most hand,
)

pub put_largest : (nodes : List Bool) (frames frame : ℕ) (free : List Bool) → frames ≤ most_frames → InHand nodes frames 9 frame free
    → AreBlocks (set nodes (node 9 frame) true) frames × (free_in (set nodes (node 9 frame) true) frames ≡ free)
put_largest nodes frames frame free most hand =
    (AreBlocks-insert nodes frames 9 frame free hand (λ any h. absurd (omega arith)), put nodes frames 9 frame free most hand)

-- ---- from none

pub AreBlocks-none : (nodes : List Bool) → length nodes ≡ 65472 → ((k : ℕ) → get_or nodes k false ≡ false) → AreBlocks nodes 0
AreBlocks-none nodes size none = record {
  size = size;
  one_each = λ frame m n known a b is also. absurd (false≢true (sym (none (node m frame)) ∙ is));
  no_buddies = λ frame other n known there a same is also. absurd (false≢true (sym (none (node n frame)) ∙ is));
  within = λ frame n known a is. absurd (false≢true (sym (none (node n frame)) ∙ is));
}

pub free_in-none : (nodes : List Bool) → free_in nodes 0 ≡ []
unfolding free_in
free_in-none nodes = refl

-- the next block of the largest order comes into the hand
pub next_largest : (nodes : List Bool) (block : ℕ) → 512 * (block + 1) ≤ most_frames → AreBlocks nodes (512 * block)
    → free_in nodes (512 * block) ≡ replicate (512 * block) true
    → InHand nodes (512 * (block + 1)) 9 (512 * block) (replicate (512 * (block + 1)) true)
next_largest nodes block most blocks free = record {
  order_up_to_9 = omega arith;
  known = omega arith;
  blocks = record {
    size = blocks.size;
    one_each = blocks.one_each;
    no_buddies = blocks.no_buddies;
    within = λ frame n known h is. omega (arith, blocks.within frame n known h is);
  };
  none = λ any n known h e. false_from_ne_true _ (λ is. omega (arith, blocks.within any n known h is, e));
  within = λ any e. omega (arith, e);
  free_is = ext_get_or false _ _ (length-free_with nodes (512 * (block + 1)) 9 (512 * block)
      ∙ sym (length-replicate (512 * (block + 1)) true)) same;
}
  where
    before : (any : ℕ) → any < 512 * block → is_free nodes any ≡ true
    before any h =
        sym (get_or-free_in nodes (512 * block) any h)
        ∙ (ap (λ xs. get_or xs any false) free ∙ get_or-replicate (512 * block) any true false h)

    free_there : (any : ℕ) → any < 512 * (block + 1) → free_at nodes 9 (512 * block) any ≡ true
    free_there any h = elim (cases_lt any (512 * block)) [
      | inl low ↦ free_at-from_free nodes 9 (512 * block) any (before any low)
      | inr from ↦ free_at-hand nodes 9 (512 * block) any (omega arith)
    ]

    same : (any : ℕ) → any < length (free_with nodes (512 * (block + 1)) 9 (512 * block))
        → get_or (free_with nodes (512 * (block + 1)) 9 (512 * block)) any false ≡ get_or (replicate (512 * (block + 1)) true) any false
    same any h =
        let low : any < 512 * (block + 1) = omega (arith, length-free_with nodes (512 * (block + 1)) 9 (512 * block)) in
        get_or-free_with nodes (512 * (block + 1)) 9 (512 * block) any low
        ∙ (free_there any low ∙ sym (get_or-replicate (512 * (block + 1)) any true false low))
