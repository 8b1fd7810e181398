-- The frames of the pages of each space, as maps.
use Rattle.std.specs.Prelude.{ℕ, zero, suc, List, [], ◌∷◌, sum_by, Option, None}
use Rattle.std.specs.BTreeMap.{BTreeMap, get, btree_map_len}
use Rattle.std.specs.Ordering.{nat_cmp}

-- the frame of a page of a space, where it has one
abbrev pub place_in : List (BTreeMap ℕ ℕ) → ℕ → ℕ → Option ℕ
place_in [] space page = None
place_in (m ∷ ms) zero page = get nat_cmp m page
place_in (m ∷ ms) (suc space) page = place_in ms space page

-- how many pages have one
abbrev pub place_count : List (BTreeMap ℕ ℕ) → ℕ
place_count places = sum_by btree_map_len places
