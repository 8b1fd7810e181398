-- A whole taking and a whole giving of an extent, over the nodes.
use Rattle.std.proofs.Common.{◌≡◌, ℕ, ◌+◌, ◌-◌, ◌*◌, ◌/◌, ◌%◌, ◌^◌, ◌<◌, ◌≤◌, Bool, true, false, List, length, get_or, count_by, Option, Some, None, inl, inr, sym, ap, subst, ◌∙◌, arith}
use Rattle.std.proofs.Math.ListN.{set}
use Rattle.std.specs.Option.{is_some}
use Rattle.std.proofs.lemmas.Bool.{cases_lt, false≢true}
use Rattle.std.proofs.lemmas.List.{get_or_past}
use Rattle.std.proofs.lemmas.List.Sums.{count_by-le-length}
use Rattle.std.proofs.lemmas.Nat.{shl-shr}
use Rattle.bit_set.specs.Bits.{IsFirstFrom}
use Rattle.pager_model.specs.Bounds.{most_frames}
use Rattle.pager_model.specs.Extents.{IsExtent}
use Rattle.pager_model.specs.FreeBlocks.{choice, with_range}
use Rattle.buddy_extents.specs.Blocks.{first_node, node, free_in, AreBlocks, InHand, IsFree}
use Rattle.buddy_extents.proofs.NodeNumbers.{first_frame_known, later_first_node, order_by_zeros}
use Rattle.buddy_extents.proofs.Ranges.{free_count-take, free_count-give}
use Rattle.pager_model.proofs.FreeRuns.{eight_pow, aligned_smaller, aligned_block, run_free-choice, choice_within}
use Rattle.buddy_extents.proofs.BlockMoves.{lift, taken, given, length-free_in}
use Rattle.buddy_extents.proofs.Choices.{first_is_least, none_is_least}

-- a number of the set is a node
pub known_node : (nodes : List Bool) (frames low x : ℕ) → AreBlocks nodes frames → IsFirstFrom nodes low (Some x) → x < 65472
known_node nodes frames low x blocks found = elim (cases_lt x (length nodes)) [
  | inl inside ↦ omega (arith, blocks.size)
  | inr past ↦ absurd (false≢true (sym (get_or_past nodes x false past) ∙ found.1))
]

-- the first node's order is none of those before the one that is asked for
pub order_from : (low n x : ℕ) → low ≤ 9 → n ≤ 9 → first_node low ≤ x → x < first_node (n + 1) → low ≤ n
order_from low n x a b from to = elim (cases_lt n low) [
  | inl less ↦ absurd (omega (arith, later_first_node (n + 1) low (omega arith) (omega arith)))
  | inr more ↦ more
]

pub first_choice : (nodes : List Bool) (frames k n x : ℕ) → frames ≤ most_frames → AreBlocks nodes frames → k ≤ 3 → n ≤ 9
    → IsFirstFrom nodes (first_node (3 * k)) (Some x) → first_node n ≤ x → x < first_node (n + 1)
    → choice (free_in nodes frames) k ≡ Some ((x - first_node n) * 2 ^ n)
first_choice nodes frames k n x most blocks small order found from to =
    first_is_least nodes frames most blocks (3 * k) n x order found (order_from (3 * k) n x (omega arith) order found.0 to) from to

pub no_choice_left : (nodes : List Bool) (frames k : ℕ) → frames ≤ most_frames → AreBlocks nodes frames → k ≤ 3
    → IsFirstFrom nodes (first_node (3 * k)) None → choice (free_in nodes frames) k ≡ None
no_choice_left nodes frames k most blocks small none =
    none_is_least nodes frames most blocks (3 * k) (omega arith) none

-- there is a choice where there is a first node
pub choice_is_some : (nodes : List Bool) (frames k : ℕ) (first : Option ℕ) → frames ≤ most_frames → AreBlocks nodes frames → k ≤ 3
    → IsFirstFrom nodes (first_node (3 * k)) first → is_some first ≡ is_some (choice (free_in nodes frames) k)
choice_is_some nodes frames k None most blocks small none = ap is_some (sym (no_choice_left nodes frames k most blocks small none))
choice_is_some nodes frames k (Some x) most blocks small found =
    let at = order_by_zeros x (known_node nodes frames (first_node (3 * k)) x blocks found) in
    ap is_some (sym (first_choice nodes frames k _ x most blocks small at.1 found at.2 at.3))

-- ---- a taking

-- what is chosen is in
counted_without : (nodes : List Bool) (frames k n x : ℕ) → frames ≤ most_frames → AreBlocks nodes frames → k ≤ 3 → n ≤ 9
    → IsFirstFrom nodes (first_node (3 * k)) (Some x) → first_node n ≤ x → x < first_node (n + 1)
    → count_by (λ free. free) (with_range (free_in nodes frames) ((x - first_node n) * 2 ^ n) (8 ^ k) false) + 8 ^ k ≡ count_by
    (λ free. free) (free_in nodes frames)
counted_without nodes frames k n x most blocks small order found from to =
    let free = free_in nodes frames in
    let first = (x - first_node n) * 2 ^ n in
    let chosen = first_choice nodes frames k n x most blocks small order found from to in
    free_count-take free first (8 ^ k) (omega (arith, choice_within free k first chosen)) (run_free-choice free k first chosen)

pub enough_free : (nodes : List Bool) (frames count k n x : ℕ) → IsFree nodes frames count → k ≤ 3 → n ≤ 9
    → IsFirstFrom nodes (first_node (3 * k)) (Some x) → first_node n ≤ x → x < first_node (n + 1) → 8 ^ k ≤ count
enough_free nodes frames count k n x is_free small order found from to =
    omega (arith, counted_without nodes frames k n x is_free.most is_free.blocks small order found from to, is_free.counted)

pub record IsTaken (nodes new : List Bool) (frames count k first : ℕ) : Type 0 where
  pub is_free : IsFree new frames (count - 8 ^ k)
  pub chosen : choice (free_in nodes frames) k ≡ Some first
  pub free : free_in new frames ≡ with_range (free_in nodes frames) first (8 ^ k) false

pub take_by_nodes : (nodes new : List Bool) (frames count k n x : ℕ) → IsFree nodes frames count → k ≤ 3 → n ≤ 9
    → IsFirstFrom nodes (first_node (3 * k)) (Some x) → first_node n ≤ x → x < first_node (n + 1)
    → ((all : ℕ) (free : List Bool) → all ≤ most_frames → InHand (set nodes x false) all n ((x - first_node n) * 2 ^ n) free
    → InHand new all (3 * k) ((x - first_node n) * 2 ^ n) free)
    → IsTaken nodes new frames count k ((x - first_node n) * 2 ^ n)
take_by_nodes nodes new frames count k n x is_free small order found from to cut =
    record {
      is_free = record {
        blocks = hand.blocks;
        most = is_free.most;
        counted = omega
            (arith, counted, is_free.counted, ap (count_by (λ free. free)) after);
      };
      chosen = chosen;
      free = after;
    }
  where
    free : List Bool
    free = free_in nodes frames

    first : ℕ
    first = (x - first_node n) * 2 ^ n

    of_first : first / 2 ^ n ≡ x - first_node n
    of_first = shl-shr (x - first_node n) n

    at : node n first ≡ x
    at = omega (arith, of_first)

    chosen : choice free k ≡ Some first
    chosen = first_choice nodes frames k n x is_free.most is_free.blocks small order found from to

    lifted : InHand (set nodes x false) frames n first free
    lifted = subst (λ y. InHand (set nodes y false) frames n first free) at
        (lift nodes frames n first is_free.most is_free.blocks order (first_frame_known n x order from to)
        (ap (λ y. get_or nodes y false) at ∙ found.1))

    hand : InHand new frames (3 * k) first free
    hand = cut frames free is_free.most lifted

    aligned : first / 2 ^ (3 * k) * 2 ^ (3 * k) ≡ first
    aligned = aligned_block (3 * k) first (aligned_smaller (3 * k) n first (order_from (3 * k) n x (omega arith) order found.0 to)
        (ap (λ q. q * 2 ^ n) of_first))

    after : free_in new frames ≡ with_range free first (8 ^ k) false
    after = taken new frames (3 * k) first free is_free.most hand aligned
        ∙ ap (λ count. with_range free first count false) (sym (eight_pow k))

    counted : count_by (λ free. free) (with_range free first (8 ^ k) false) + 8 ^ k ≡ count_by (λ free. free) free
    counted = counted_without nodes frames k n x is_free.most is_free.blocks small order found from to

-- ---- a giving

pub few_free : (nodes : List Bool) (frames count : ℕ) → IsFree nodes frames count → count ≤ most_frames
few_free nodes frames count is_free =
    omega (arith, is_free.counted, is_free.most, count_by-le-length (λ free. free) (free_in nodes frames), length-free_in nodes frames)

pub record IsGiven (nodes new : List Bool) (frames count k first : ℕ) : Type 0 where
  pub is_free : IsFree new frames (count + 8 ^ k)
  pub free : free_in new frames ≡ with_range (free_in nodes frames) first (8 ^ k) true

pub give_by_nodes : (nodes new : List Bool) (frames count k first : ℕ) → IsFree nodes frames count → IsExtent k first
    → first + 8 ^ k ≤ frames
    → ((frame : ℕ) → first ≤ frame → frame < first + 8 ^ k → get_or (free_in nodes frames) frame false ≡ false)
    → ((all : ℕ) (free : List Bool) → all ≤ most_frames → InHand nodes all (3 * k) first free → AreBlocks new all × (free_in new all ≡ free))
    → IsGiven nodes new frames count k first
give_by_nodes nodes new frames count k first is_free extent fits none put_in =
    record {
      is_free = record { blocks = put.0; most = is_free.most; counted = counted };
      free = after;
    }
  where
    free : List Bool
    free = free_in nodes frames

    pages : 8 ^ k ≡ 2 ^ (3 * k)
    pages = eight_pow k

    aligned : first / 2 ^ (3 * k) * 2 ^ (3 * k) ≡ first
    aligned = aligned_block (3 * k) first (subst (λ n. first % n ≡ 0) pages extent.1)

    hand : InHand nodes frames (3 * k) first (with_range free first (2 ^ (3 * k)) true)
    hand = given nodes frames (3 * k) first is_free.most is_free.blocks (omega (arith, extent.0)) aligned (omega (arith, pages))
        (λ frame low high. none frame low (omega (arith, pages)))

    put : AreBlocks new frames × (free_in new frames ≡ with_range free first (2 ^ (3 * k)) true)
    put = put_in frames (with_range free first (2 ^ (3 * k)) true) is_free.most hand

    after : free_in new frames ≡ with_range free first (8 ^ k) true
    after = put.1 ∙ ap (λ count. with_range free first count true) (sym pages)

    counted : count_by (λ free. free) (free_in new frames) ≡ count + 8 ^ k
    counted = ap (count_by (λ free. free)) after ∙ (free_count-give free first (8 ^ k) (omega (arith, length-free_in nodes frames)) none
        ∙ ap (λ n. n + 8 ^ k) is_free.counted)
