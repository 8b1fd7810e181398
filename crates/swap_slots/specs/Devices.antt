-- A block device as contracts see it, and what its calls do to its words.
use Rattle.std.specs.Prelude.{ℕ, ◌≡◌, Bool, true, ◌==◌, if◌then◌else◌, List, Option, None, slice_index_or}

-- a block device, as its calls answer for it
pub record Device : Type 0 where
  -- how many slots it has
  pub slots : ℕ
  -- whether it tells the words of its slots
  pub tells : Bool
  -- the words of each slot, or nothing where they are unknown
  pub words : List (Option (List ℕ))
  -- how many reads there were
  pub reads : ℕ
  -- how many writes there were
  pub writes : ℕ
  -- how many faults it has had
  pub faults : ℕ

-- the words of a slot, or nothing where they are unknown
abbrev pub words_at : Device → ℕ → Option (List ℕ)
words_at device slot = slice_index_or device.words slot None

-- Nothing is said of the words of a device that doesn't tell them.

-- the words of its slots are the same
pub record SameWords (old new : Device) : Type 0 where
  pub slots : new.slots ≡ old.slots
  pub tells : new.tells ≡ old.tells
  pub words : old.tells ≡ true → (s : ℕ) → words_at new s ≡ words_at old s

-- the words of the slot are set to these, known or unknown, and those of every other slot are the same
pub record SetsWords (slot : ℕ) (set : Option (List ℕ)) (old new : Device) : Type 0 where
  pub slots : new.slots ≡ old.slots
  pub tells : new.tells ≡ old.tells
  pub words : old.tells ≡ true → (s : ℕ) → words_at new s ≡ (if s == slot then set else words_at old s)
