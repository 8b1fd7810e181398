-- Free blocks: which extent a taking uses. A set of frames is a list that says of each frame whether it is in.
use Rattle.std.specs.Prelude.{ℕ, ◌+◌, ◌-◌, ◌*◌, ◌/◌, ◌^◌, zero, suc, Bool, false, ◌&&◌, ◌==◌, not, nat_lt, List, ◌++◌, length, take, drop, replicate, slice_index_or, find, Option, None}
use Rattle.std.specs.List.{range_with_len, list_all}
use Rattle.std.specs.Option.{option_or}

-- the count frames from first on are all free
abbrev pub run_free : List Bool → ℕ → ℕ → Bool
run_free free first count = list_all (λ frame. slice_index_or free frame false) (range_with_len first count)

-- the first frame of the aligned run of 2^n frames round a frame
abbrev pub block_start : ℕ → ℕ → ℕ
block_start n frame = frame / 2 ^ n * 2 ^ n

-- the aligned run of 2^n frames round a frame is all free
abbrev pub block_free : List Bool → ℕ → ℕ → Bool
block_free free frame n = run_free free (block_start n frame) (2 ^ n)

-- A maximal free block: an aligned run of 2^n frames, n at most 9, all free and in no larger such run. (A larger one would
-- have the one of the next order round it.)
abbrev pub is_maximal : List Bool → ℕ → ℕ → Bool
is_maximal free n first =
    (block_start n first == first) && (run_free free first (2 ^ n) && not (nat_lt n 9 && block_free free first (n + 1)))

-- the lowest-numbered maximal free block of an order
abbrev pub lowest_block : List Bool → ℕ → Option ℕ
lowest_block free n = find (is_maximal free n) (range_with_len 0 (length free))

-- the lowest-numbered maximal free block of the least of the count orders from n on that has one
abbrev pub least_block : List Bool → ℕ → ℕ → Option ℕ
least_block free n zero = None
least_block free n (suc count) = option_or (lowest_block free n) (least_block free (n + 1) count)

-- The choice for an extent of size k: the lowest 8^k frames of the lowest-numbered maximal free block of the least order that
-- is at least 3k, by their first frame. None where no block has such an order.
abbrev pub choice : List Bool → ℕ → Option ℕ
choice free k = least_block free (3 * k) (10 - 3 * k)

-- the count frames from first on go into the set, or out of it
abbrev pub with_range : List Bool → ℕ → ℕ → Bool → List Bool
with_range free first count value = take first free ++ replicate count value ++ drop (first + count) free
