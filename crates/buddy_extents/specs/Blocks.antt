-- Free blocks as the members of one set of numbers, their nodes. The nodes of the 32,768 blocks of order 0 come first, then those of
-- the 16,384 blocks of order 1, and so on to the 64 of order 9: the least node from an order's first on is that of the lowest block of
-- the least order. A set of nodes is a list that says of each whether it is in.
use Rattle.std.specs.Prelude.{ℕ, ◌≡◌, ◌≢◌, ◌+◌, ◌-◌, ◌/◌, ◌^◌, ◌<◌, ◌≤◌, zero, suc, Bool, true, false, ◌||◌, ◌==◌, List, length, map, slice_index_or, count_by}
use Rattle.std.specs.List.{range_with_len}
use Rattle.pager_model.specs.Bounds.{most_frames}

-- the node of the first block of an order
abbrev pub first_node : ℕ → ℕ
first_node order = 65536 - 65536 / 2 ^ order

-- the node of the block of an order round a frame
abbrev pub node : ℕ → ℕ → ℕ
node order frame = first_node order + frame / 2 ^ order

-- the block of an order round a frame is in the set
abbrev pub is_block : List Bool → ℕ → ℕ → Bool
is_block nodes order frame = slice_index_or nodes (node order frame) false

-- a block round the frame is in the set, of one of the count orders from this one on
unfoldable pub has_block : List Bool → ℕ → ℕ → ℕ → Bool
has_block nodes order zero frame = false
has_block nodes order (suc count) frame = is_block nodes order frame || has_block nodes (order + 1) count frame

-- a frame is free where it has a block of an order up to 9
unfoldable pub is_free : List Bool → ℕ → Bool
is_free nodes frame = has_block nodes 0 10 frame

-- of each frame whether it is free
unfoldable pub free_in : List Bool → ℕ → List Bool
free_in nodes frames = map (is_free nodes) (range_with_len 0 frames)

-- the block of the order round a frame has the other frame
abbrev pub same_block : ℕ → ℕ → ℕ → Bool
same_block order frame other = other / 2 ^ order == frame / 2 ^ order

-- of each frame whether it is free, or one of a block in hand, which isn't in the set
unfoldable pub free_with : List Bool → ℕ → ℕ → ℕ → List Bool
free_with nodes frames order frame = map (λ other. same_block order frame other || is_free nodes other) (range_with_len 0 frames)

-- What the nodes of free blocks keep. No frame has two blocks, no two buddies are both in, and no block has a frame past the last.
pub record AreBlocks (nodes : List Bool) (frames : ℕ) : Type 0 where
  pub size : length nodes ≡ 65472
  pub one_each : (frame m n : ℕ) → frame < most_frames → m ≤ 9 → n ≤ 9
      → is_block nodes m frame ≡ true → is_block nodes n frame ≡ true → m ≡ n
  pub no_buddies : (frame other n : ℕ) → frame < most_frames → other < most_frames → n < 9 → frame / 2 ^ (n + 1) ≡ other / 2 ^ (n + 1)
      → is_block nodes n frame ≡ true → is_block nodes n other ≡ true → frame / 2 ^ n ≡ other / 2 ^ n
  pub within : (frame n : ℕ) → frame < most_frames → n ≤ 9 → is_block nodes n frame ≡ true → frame < frames

-- A block in hand: its frames have no block in the set, so that there is none at it, in it or round it. With them the free frames are
-- those of the list.
pub record InHand (nodes : List Bool) (frames order frame : ℕ) (free : List Bool) : Type 0 where
  pub order_up_to_9 : order ≤ 9
  pub known : frame < most_frames
  pub blocks : AreBlocks nodes frames
  pub none : (other n : ℕ) → other < most_frames → n ≤ 9 → other / 2 ^ order ≡ frame / 2 ^ order → is_block nodes n other ≡ false
  pub within : (other : ℕ) → other / 2 ^ order ≡ frame / 2 ^ order → other < frames
  pub free_is : free_with nodes frames order frame ≡ free

-- the other half of the block of the next order, by one of its frames
abbrev pub IsBuddy : ℕ → ℕ → ℕ → Type 0
IsBuddy order frame other =
    (other < most_frames) × (other / 2 ^ (order + 1) ≡ frame / 2 ^ (order + 1)) × (other / 2 ^ order ≢ frame / 2 ^ order)

-- what the set of free frames keeps: the blocks, and how many frames they have
pub record IsFree (nodes : List Bool) (frames count : ℕ) : Type 0 where
  pub blocks : AreBlocks nodes frames
  pub most : frames ≤ most_frames
  pub counted : count_by (λ free. free) (free_in nodes frames) ≡ count
