-- The size of a page's entry by the rows round it, and what is said of the sizes of several.
use Rattle.std.proofs.Common.{◌≡◌, ◌≢◌, ℕ, ◌+◌, ◌*◌, ◌%◌, ◌<◌, Bool, true, false, ◌&&◌, if◌then◌else◌, nat_lt, List, length, get_or, set, Option, Some, None, is_some, inl, inr, refl, sym, ap, ◌∙◌, arith, get_or-set_same, get_or-set_other}
use Rattle.std.proofs.lemmas.Bool.{cases_eq}
use Rattle.std.proofs.lemmas.Bool.Decides.{nat_tests}
use Rattle.extent_tree.specs.declared.spot.Spot.{Spot}
use Rattle.extent_tree.specs.Rows.{Arena, row, spot_of}
use Rattle.extent_tree.proofs.Rows.{row_alike}
use Rattle.pager_model.specs.declared.tile.Mapping.{Mapping}
use Rattle.tiles.specs.TableEntries.{entry_at, entry_size, first_entry}
use Rattle.tiles.proofs.EntryChanges.{spot_row}

-- a page that a row of 512 pages is round
pub size_large : (t : Arena Mapping) (page : ℕ) → is_some (row t 3 page) ≡ true → entry_size (entry_at t page) ≡ 3
unfolding entry_at
size_large t page large = of (row t 3 page) large
  where
    of : (o : Option Mapping) → is_some o ≡ true → entry_size (first_entry page o (row t 2 page) (row t 1 page) (row t 0 page)) ≡ 3
    of (Some v) is = refl
    of None is = absurd (cc)

-- or else one of 64
pub size_middle : (t : Arena Mapping) (page : ℕ) → row t 3 page ≡ None → is_some (row t 2 page) ≡ true → entry_size (entry_at t page) ≡ 2
unfolding entry_at
size_middle t page large middle =
    ap (λ o. entry_size (first_entry page o (row t 2 page) (row t 1 page) (row t 0 page))) large ∙ of (row t 2 page) middle
  where
    of : (o : Option Mapping) → is_some o ≡ true → entry_size (first_entry page None o (row t 1 page) (row t 0 page)) ≡ 2
    of (Some v) is = refl
    of None is = absurd (cc)

-- or else one of eight
pub size_small : (t : Arena Mapping) (page : ℕ) → row t 3 page ≡ None → row t 2 page ≡ None
    → entry_size (entry_at t page) ≡ (if is_some (row t 1 page) then 1 else 0)
unfolding entry_at
size_small t page large middle =
    ap (λ o. entry_size (first_entry page o (row t 2 page) (row t 1 page) (row t 0 page))) large
    ∙ (ap (λ o. entry_size (first_entry page None o (row t 1 page) (row t 0 page))) middle ∙ of (row t 1 page) (row t 0 page))
  where
    of : (o base : Option Mapping) → entry_size (first_entry page None None o base) ≡ (if is_some o then 1 else 0)
    of (Some v) base = refl
    of None (Some v) = refl
    of None None = refl

-- ---- pages of an extent of 64

-- the row of the extent is round each of them
pub row_of_middle : (t : Arena Mapping) (page i : ℕ) (middle : Spot Mapping) → i < 8 → page % 64 ≡ 0 → middle ≡ spot_of t 1 page
    → row t 2 (page + 8 * i) ≡ middle.value
row_of_middle t page i middle low whole is = row_alike t 2 (page + 8 * i) page (omega arith) (omega arith) ∙ sym (spot_row t 2 page middle is)

-- and so is the one of the root
pub row_of_root : (t : Arena Mapping) (page i : ℕ) (large : Option Mapping) → i < 8 → page % 64 ≡ 0 → row t 3 page ≡ large
    → row t 3 (page + 8 * i) ≡ large
row_of_root t page i large low whole is = row_alike t 3 (page + 8 * i) page (omega arith) (omega arith) ∙ is

-- ---- what is said of each of eight

-- of those before one that have something the mark is said, and the rest of all others
abbrev pub AreSaid : List ℕ → (ℕ → Bool) → ℕ → ℕ → ℕ → Type 0
AreSaid levels has mark rest i = (k : ℕ) → k < 8 → get_or levels k 0 ≡ (if nat_lt k i && has k then mark else rest)

pub said_of : (levels : List ℕ) (has : ℕ → Bool) (mark rest i : ℕ) → i < length levels → has i ≡ true → AreSaid levels has mark rest i
    → AreSaid (set levels i mark) has mark rest (i + 1)
said_of levels has mark rest i low is so_far k known = elim (cases_eq k i) [
  | inl same ↦
      ap (λ n. get_or (set levels i mark) n 0) same ∙ get_or-set_same levels i mark 0 low
      ∙ sym (ap (λ n. if nat_lt n (i + 1) && has n then mark else rest) same
      ∙ ap (λ b. if nat_lt i (i + 1) && b then mark else rest) is ∙ next i)
  | inr apart ↦ get_or-set_other levels i k mark 0 apart ∙ (so_far k known ∙ ap (λ b. if b && has k then mark else rest) (before k i apart))
]
  where
    next : (i : ℕ) → (if nat_lt i (i + 1) && true then mark else rest) ≡ mark
    next i = grind (arith, nat_tests)

    before : (k i : ℕ) → k ≢ i → nat_lt k i ≡ nat_lt k (i + 1)
    before k i apart = grind (arith, nat_tests)

pub said_of_none : (levels : List ℕ) (has : ℕ → Bool) (mark rest i : ℕ) → has i ≡ false → AreSaid levels has mark rest i
    → AreSaid levels has mark rest (i + 1)
said_of_none levels has mark rest i is so_far k known = elim (cases_eq k i) [
  | inl same ↦
      let none : has k ≡ false = ap has same ∙ is in
      so_far k known ∙ (no_right (nat_lt k i) (has k) none ∙ sym (no_right (nat_lt k (i + 1)) (has k) none))
  | inr apart ↦ so_far k known ∙ ap (λ b. if b && has k then mark else rest) (before k i apart)
]
  where
    no_right : (a b : Bool) → b ≡ false → (if a && b then mark else rest) ≡ rest
    no_right true b none = ap (λ b. if b then mark else rest) none
    no_right false b none = refl

    before : (k i : ℕ) → k ≢ i → nat_lt k i ≡ nat_lt k (i + 1)
    before k i apart = grind (arith, nat_tests)

-- so it is said of the size
pub said_all : (levels said : List ℕ) (has : ℕ → Bool) (k size : ℕ) → k < 8 → AreSaid levels has (get_or said 1 0) (get_or said 0 0) 8
    → size ≡ (if has k then 1 else 0) → get_or levels k 0 ≡ get_or said size 0
said_all levels said has k size known all is = all k known ∙ (of (nat_lt k 8) (has k) (below k known) ∙ ap (λ n. get_or said n 0) (sym is))
  where
    below : (k : ℕ) → k < 8 → nat_lt k 8 ≡ true
    below k known = grind (arith, nat_tests)

    of : (a b : Bool) → a ≡ true → (if a && b then get_or said 1 0 else get_or said 0 0) ≡ get_or said (if b then 1 else 0) 0
    of true true e = refl
    of true false e = refl
    of false b e = absurd (cc)
