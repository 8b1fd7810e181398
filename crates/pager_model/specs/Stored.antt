-- A backing store as contracts see it, and what its calls do to its copies.
use Rattle.std.specs.Prelude.{ℕ, ◌≡◌, ◌≢◌, Bool, true, false, ◌==◌, if◌then◌else◌, List, [], ◌∷◌, replicate, Option, Some, None}
use Rattle.std.specs.List.{list_any}
use Rattle.pager_model.specs.Regions.{in_range}

-- the copy of one page: its 1,024 words, or nothing where they are unknown
pub record Copy : Type 0 where
  pub page : ℕ
  pub words : Option (List ℕ)

-- a backing store, as its calls answer for it
pub record Stored : Type 0 where
  -- whether it tells what its copies are
  pub tells : Bool
  -- whether it says that it tells them and that all of them are zero
  pub told : Bool
  -- the copies of the pages that have one of their own; the copy of any other page is zero
  pub copies : List Copy
  -- the pages that it keeps, whose writes take no memory, or nothing where it keeps every page
  pub kept : Option (List ℕ)
  -- how many faults it has had
  pub faults : ℕ

-- the copy of a page that has none of its own
abbrev pub zero_words : List ℕ
zero_words = replicate 1024 0

-- the copy of a page in a list of copies: that of its first entry, and zero where it has none
abbrev pub copy_in : List Copy → ℕ → Option (List ℕ)
copy_in [] page = Some zero_words
copy_in (c ∷ copies) page = if page == c.page then c.words else copy_in copies page

-- the page is one of the pages, or they are every page
abbrev pub is_among : Option (List ℕ) → ℕ → Bool
is_among None page = true
is_among (Some pages) page = list_any (λ p. page == p) pages

-- the copy of a page: its words, or nothing where they are unknown
unfoldable pub copy_at : Stored → ℕ → Option (List ℕ)
copy_at stored page = copy_in stored.copies page

-- the store keeps the page: a write of it takes no memory
unfoldable pub keeps_at : Stored → ℕ → Bool
keeps_at stored page = is_among stored.kept page

-- Nothing is said of the copies of a store that doesn't tell them.

-- its copies and the pages that it keeps are the same
pub record SameCopies (old new : Stored) : Type 0 where
  pub tells : new.tells ≡ old.tells
  pub copies : old.tells ≡ true → (p : ℕ) → copy_at new p ≡ copy_at old p
  pub keeps : (p : ℕ) → keeps_at new p ≡ keeps_at old p

-- the page has this copy, known or unknown, every other copy is as before, and no page is kept less than before
pub record SetsCopy (page : ℕ) (copy : Option (List ℕ)) (old new : Stored) : Type 0 where
  pub tells : new.tells ≡ old.tells
  pub copies : old.tells ≡ true → (p : ℕ) → copy_at new p ≡ (if p == page then copy else copy_at old p)
  pub keeps : (p : ℕ) → keeps_at old p ≡ true → keeps_at new p ≡ true
  pub others : (p : ℕ) → p ≢ page → keeps_at new p ≡ keeps_at old p

-- the copies of a range are zero, every other is as before, and so is the count of faults
pub record DropsCopies (first len : ℕ) (old new : Stored) : Type 0 where
  pub tells : new.tells ≡ old.tells
  pub copies : old.tells ≡ true → (p : ℕ) → copy_at new p ≡ (if in_range first len p then Some zero_words else copy_at old p)
  pub keeps : (p : ℕ) → in_range first len p ≡ false → keeps_at new p ≡ keeps_at old p
  pub faults : new.faults ≡ old.faults

-- it tells its copies, and all of them are zero
pub record TellsZero (stored : Stored) : Type 0 where
  pub tells : stored.tells ≡ true
  pub zero : (p : ℕ) → copy_at stored p ≡ Some zero_words
