-- The lists of reservations by age: one for each yield from 0 to 2, in order of stamp and then of first frame.
use Rattle.std.specs.Prelude.{ℕ, zero, suc, ◌+◌, Bool, ◌&&◌, ◌||◌, ◌==◌, nat_lt, if◌then◌else◌, List, [], ◌∷◌, Option, Some, None}
use Rattle.std.specs.Option.{option_or}

-- a reservation in a list: its stamp and its first frame
pub record Member : Type 0 where
  pub stamp : ℕ
  pub frame : ℕ

abbrev pub is_before : Member → Member → Bool
is_before a b = nat_lt a.stamp b.stamp || ((a.stamp == b.stamp) && nat_lt a.frame b.frame)

-- the list with one more member, in its place
abbrev pub with_member : Member → List Member → List Member
with_member new [] = new ∷ []
with_member new (m ∷ ms) = if is_before new m then new ∷ m ∷ ms else m ∷ with_member new ms

-- the first frame of the first member
abbrev pub oldest_in : List Member → Option ℕ
oldest_in [] = None
oldest_in (m ∷ ms) = Some m.frame

-- the first frame of the oldest member of the first list that isn't empty, of the count lists from list k on
abbrev pub first_oldest : (ℕ → List Member) → ℕ → ℕ → Option ℕ
first_oldest list k zero = None
first_oldest list k (suc count) = option_or (oldest_in (list k)) (first_oldest list (k + 1) count)

-- the three lists
pub record Lists : Type 0 where
  pub base : List Member
  pub small : List Member
  pub middle : List Member

-- the list of a size below 3
abbrev pub list_at : Lists → ℕ → List Member
list_at lists zero = lists.base
list_at lists (suc zero) = lists.small
list_at lists (suc (suc n)) = lists.middle

abbrev pub with_list : Lists → ℕ → List Member → Lists
with_list lists zero ms = record lists { base = ms }
with_list lists (suc zero) ms = record lists { small = ms }
with_list lists (suc (suc n)) ms = record lists { middle = ms }
