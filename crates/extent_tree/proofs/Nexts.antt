-- Extents beside each other, and what a walk over them passes.
use Rattle.std.proofs.Common.{◌≡◌, ℕ, zero, suc, ◌+◌, ◌-◌, ◌*◌, ◌/◌, ◌%◌, ◌^◌, ◌<◌, ◌≤◌, ◌⊎◌, ◌≢◌, ◌||◌, max, true, false, Some, None, is_some, inl, inr, refl, sym, ap, ap₂, ◌∙◌, add-one, arith}
use Rattle.std.proofs.Math.Nat.{mul-le-mul_left}
use Rattle.std.proofs.lemmas.Bool.{cases_lt, false≢true, or_cases}
use Rattle.pager_model.proofs.Options.{cases_Option}
use Rattle.extent_tree.specs.declared.spot.Row.{Row}
use Rattle.extent_tree.specs.declared.spot.Spot.{Spot}
use Rattle.extent_tree.specs.Rows.{Arena, blank, NoRows, IsNextRow, spot_at, number_at, part_at, place_of, spot_of, row, is_split}
use Rattle.extent_tree.specs.Kept.{AreInOrder, IsTree, is_used}
use Rattle.extent_tree.proofs.Places.{number_step, place_alike, place_down, root_place, spot_some}
use Rattle.extent_tree.proofs.Splits.{splits_are_rows}

-- how many pages there are from a page on in the extent of a height round it
abbrev pub rest_at : ℕ → ℕ → ℕ
rest_at height page = 8 ^ (3 - height) - page % 8 ^ (3 - height)

pub rest_some : (height page : ℕ) → height ≤ 3 → 0 < rest_at height page
rest_some zero page h = omega arith
rest_some (suc zero) page h = omega arith
rest_some (suc (suc zero)) page h = omega arith
rest_some (suc (suc (suc zero))) page h = omega arith
rest_some (suc (suc (suc (suc height)))) page h = absurd (omega arith)

-- these are in it
pub number_within : (height page other : ℕ) → height ≤ 3 → page ≤ other → other < page + rest_at height page
    → number_at height other ≡ number_at height page
number_within zero page other h on before = omega arith
number_within (suc zero) page other h on before = omega arith
number_within (suc (suc zero)) page other h on before = omega arith
number_within (suc (suc (suc zero))) page other h on before = omega arith
number_within (suc (suc (suc (suc height)))) page other h on before = absurd (omega arith)

-- and those behind them in the next ones
pub number_behind : (height page other : ℕ) → height ≤ 3 → page + rest_at height page ≤ other
    → number_at height page + 1 + (number_at height other - number_at height (page + rest_at height page)) ≡ number_at height other
number_behind zero page other h behind = omega arith
number_behind (suc zero) page other h behind = omega arith
number_behind (suc (suc zero)) page other h behind = omega arith
number_behind (suc (suc (suc zero))) page other h behind = omega arith
number_behind (suc (suc (suc (suc height)))) page other h behind = absurd (omega arith)

number_up : (height page other : ℕ) → height ≤ 3 → page ≤ other → number_at height page ≤ number_at height other
number_up zero page other h on = omega arith
number_up (suc zero) page other h on = omega arith
number_up (suc (suc zero)) page other h on = omega arith
number_up (suc (suc (suc zero))) page other h on = omega arith
number_up (suc (suc (suc (suc height)))) page other h on = absurd (omega arith)

-- ---- places in order

-- the place of the extent round the first page
pub first_place : {V : Type 0} (t : Arena V) (height place from end : ℕ) → AreInOrder t height place from end → from < end
    → place_of t height from ≡ Some place
first_place t height place from end order some = order from (omega arith) some ∙ ap Some (omega arith)

-- the parts of that extent
pub parts_in_order : {V : Type 0} (t : Arena V) (height place page stop node : ℕ) → height < 3 → stop ≤ page + rest_at height page
    → place_of t height page ≡ Some place → (spot_at t place).node ≡ Some node
    → AreInOrder t (height + 1) (t.roots + 8 * node + part_at (height + 1) page) page stop
parts_in_order t height place page stop node low within at leads other on before =
    let same = number_within height page other (omega arith) on (omega arith) in
    let up = number_up (suc height) page other (omega arith) on in
    ap (λ h. place_of t h other) (add-one height)
    ∙ (place_down t height other place node (place_alike t height other page (omega arith) same ∙ at) leads
    ∙ ap Some (omega (
      arith,
      same,
      up,
      number_step height other low,
      number_step height page low,
      ap (λ h. part_at h page) (add-one height),
      ap (λ h. number_at h page) (add-one height),
      ap (λ h. number_at h other) (add-one height),
    )))

-- the extents behind it
pub rest_in_order : {V : Type 0} (t : Arena V) (height place page stop end : ℕ) → height ≤ 3 → page ≤ stop
    → (stop < end → stop ≡ page + rest_at height page) → AreInOrder t height place page end → AreInOrder t height (place + 1) stop end
rest_in_order t height place page stop end low forward full order other on before =
    let whole = full (omega arith) in
    order other (omega arith) before ∙ ap Some
    (omega (arith, number_behind height page other low (omega arith), ap (number_at height) whole))

-- ---- rows

-- the row of the extent of a height round a page is the value at its place
pub row_at : {V : Type 0} (t : Arena V) (height place page other : ℕ) → height ≤ 3 → place_of t height page ≡ Some place
    → number_at height other ≡ number_at height page → row t (3 - height) other ≡ (spot_at t place).value
unfolding row
row_at t height place page other low at same =
    let back : 3 - (3 - height) ≡ height = omega arith in
    ap (λ h. (spot_of t h other).value) back ∙ ap (λ s. s.value) (spot_some t height other place
    (place_alike t height other page low same ∙ at))

-- no smaller extent has a row in one that isn't split
no_part_row : {V : Type 0} (t : Arena V) → IsTree t → (height place page size other : ℕ) → height ≤ 3 → place_of t height page ≡ Some place
    → (spot_at t place).node ≡ None → number_at height other ≡ number_at height page → size < 3 - height → row t size other ≡ None
unfolding is_split
no_part_row t tree height place page size other low at bare same less = elim (cases_Option (row t size other)) [
  | inl none ↦ none
  | inr some ↦
      let split = (splits_are_rows t tree).above (3 - height) size other less (omega arith) (ap is_some some.1) in
      let back : 3 - (3 - height) ≡ height = omega arith in
      let spot = spot_some t height other place (place_alike t height other page low same ∙ at) in
      absurd (false≢true (sym (ap (λ h. is_some (spot_of t h other).node) back ∙ (ap (λ s. is_some s.node) spot ∙ ap is_some bare))
      ∙ split))
]

-- and none up to its own size has one, where it has none itself
pub no_row_within : {V : Type 0} (t : Arena V) → IsTree t → (height place page size other : ℕ) → height ≤ 3
    → place_of t height page ≡ Some place → (spot_at t place).value ≡ None → (spot_at t place).node ≡ None
    → number_at height other ≡ number_at height page → size ≤ 3 - height → row t size other ≡ None
no_row_within t tree height place page size other low at none bare same most = elim (cases_lt size (3 - height)) [
  | inl less ↦ no_part_row t tree height place page size other low at bare same less
  | inr not ↦ ap (λ k. row t k other) {x = size} {y = 3 - height} (omega arith) ∙ (row_at t height place page other low at same ∙ none)
]

-- there is none up to the size of a height's extents, where they have none themselves and their parts have none
pub no_rows_up : {V : Type 0} (t : Arena V) (height from end : ℕ) → NoRows t (3 - (height + 1)) from end
    → ((page : ℕ) → from ≤ page → page < end → row t (3 - height) page ≡ None) → NoRows t (3 - height) from end
no_rows_up t height from end parts none size page most on before = elim (cases_lt size (3 - height)) [
  | inl less ↦ parts size page (omega arith) on before
  | inr not ↦ ap (λ k. row t k page) {x = size} {y = 3 - height} (omega arith) ∙ none page on before
]

-- and none round the pages before one, and none from it on
pub no_rows_on : {V : Type 0} (t : Arena V) (top from page end : ℕ) → NoRows t top from page → NoRows t top page end → NoRows t top from end
no_rows_on t top from page end so_far more size other most on before = elim (cases_lt other page) [
  | inl earlier ↦ so_far size other most on earlier
  | inr later ↦ more size other most later before
]

-- no page under roots that nothing is at has a row round it
pub no_rows_at_roots : {V : Type 0} (t : Arena V) → IsTree t → (from root : ℕ) → root ≤ t.roots
    → ((other : ℕ) → from / 512 ≤ other → other < root → spot_at t other ≡ blank) → NoRows t 3 from (512 * root)
no_rows_at_roots t tree from root known bare size page most on before =
    let spot = bare (page / 512) (omega arith) (omega arith) in
    no_row_within t tree 0 (page / 512) page size page (omega arith) (root_place t page (omega arith)) (ap (λ s. s.value) spot)
    (ap (λ s. s.node) spot) refl most

-- where something is at a root, an extent of it has a row
pub row_at_root : {V : Type 0} (t : Arena V) → IsTree t → (root : ℕ) → root < t.roots → is_used (spot_at t root) ≡ true
    → (size page : ℕ) × (size ≤ 3) × (page / 512 ≡ root) × (is_some (row t size page) ≡ true)
unfolding is_split
row_at_root t tree root known used =
    let at : place_of t 0 (512 * root) ≡ Some root = root_place t (512 * root) (omega arith) ∙ ap Some (omega arith) in
    elim (or_cases _ _ used) [
      | inl value ↦
          (3, 512 * root, omega arith, omega arith, ap is_some (row_at t 0 root (512 * root) (512 * root) (omega arith) at refl) ∙ value)
      | inr node ↦
          let below = (splits_are_rows t tree).below 3 (512 * root) (omega arith)
          (ap (λ s. is_some s.node) (spot_some t 0 (512 * root) root at) ∙ node) in
          (below.0, below.1, omega (arith, below.2), omega (arith, below.3), below.4)
    ]

-- A page is the first one from another on and before an end that is under a root which something is at.
pub record IsUnderUsed {V : Type 0} (t : Arena V) (from page end root : ℕ) : Type 0 where
  pub on : from ≤ page
  pub before : page < end
  pub at : place_of t 0 page ≡ Some root
  pub none : NoRows t 3 from page

pub under_used : {V : Type 0} (t : Arena V) → IsTree t → (from end root page : ℕ) → end ≤ 512 * t.roots → from < end → from / 512 ≤ root
    → root < (end + 511) / 512 → ((other : ℕ) → from / 512 ≤ other → other < root → spot_at t other ≡ blank) → page ≡ max from (512 * root)
    → IsUnderUsed t from page end root
under_used t tree from end root page known some on low bare is = record {
  on = omega arith;
  before = omega arith;
  at = root_place t page (omega arith) ∙ ap Some (omega arith);
  none = λ size other most on before. no_rows_at_roots t tree from root (omega arith) bare size other most on (omega arith);
}

-- what is found isn't at the end
pub found_root : {V : Type 0} (spot : Spot V) (root past : ℕ) → root ≤ past → (root ≡ past → spot ≡ blank) → spot ≢ blank → root < past
found_root spot root past most none some = elim (cases_lt root past) [ inl less ↦ less | inr not ↦ absurd (some (none (omega arith))) ]

-- And its root is split, with no row.
pub record IsUnderSplit {V : Type 0} (t : Arena V) (from page end root node : ℕ) : Type 0 where
  pub under : IsUnderUsed t from page end root
  pub low : root < (end + 511) / 512
  pub value : (spot_at t root).value ≡ None
  pub leads : (spot_at t root).node ≡ Some node

pub under_split : {V : Type 0} (t : Arena V) → IsTree t → (from end root past page node : ℕ) (spot : Spot V) → end ≤ 512 * t.roots → from < end
    → past ≡ (end + 511) / 512 → from / 512 ≤ root → root ≤ past
    → ((other : ℕ) → from / 512 ≤ other → other < root → spot_at t other ≡ blank) → (root < past → spot ≡ spot_at t root)
    → (root ≡ past → spot ≡ blank) → spot.value ≡ None → spot.node ≡ Some node → page ≡ max from (512 * root)
    → IsUnderSplit t from page end root node
under_split t tree from end root past page node spot known some past_is on within bare there none value leads is =
    let low = found_root spot root past within none (λ e. absurd (let a = ap (λ s. s.node) e in cc)) in
    record {
      under = under_used t tree from end root page known some on (omega arith) bare is;
      low = omega arith;
      value = sym (ap (λ s. s.value) (there low)) ∙ value;
      leads = sym (ap (λ s. s.node) (there low)) ∙ leads;
    }

-- where nothing is found, the end is
pub no_root : {V : Type 0} (spot : Spot V) (root past : ℕ) → root ≤ past → (root < past → is_used spot ≡ true) → spot.value ≡ None
    → spot.node ≡ None → root ≡ past
no_root spot root past most used value node = elim (cases_lt root past) [
  | inl less ↦ absurd (false≢true (sym (ap₂ (λ v n. is_some v || is_some n) value node) ∙ used less))
  | inr not ↦ omega arith
]

-- the next row in the parts of extents, where these have none themselves
pub next_up : {V : Type 0} (t : Arena V) (height from end : ℕ) (found : Row V) → IsNextRow t (3 - (height + 1)) from end found
    → ((page : ℕ) → from ≤ page → page < end → row t (3 - height) page ≡ None) → IsNextRow t (3 - height) from end found
next_up t height from end found next none = record {
  from_on = next.from_on;
  before_end = next.before_end;
  low = omega (arith, next.low);
  is = next.is;
  largest = λ size more most. elim (cases_lt size (3 - height)) [
    | inl less ↦ next.largest size more (omega arith)
    | inr not ↦ ap (λ k. row t k found.page) {x = size} {y = 3 - height} (omega arith) ∙ none found.page next.from_on next.before_end
  ];
  lowest = no_rows_up t height from found.page next.lowest (λ page low less. none page low (omega (arith, next.before_end)));
}

-- ---- looks

-- a look more, and those at the parts
pub looks_more : (height from page stop old had new : ℕ) → height ≤ 3 → from ≤ page → page < stop → had ≤ old + (4 - height) * (page - from)
    → new ≤ had + 1 + (4 - (height + 1)) * (stop - page) → new ≤ old + (4 - height) * (stop - from)
looks_more zero from page stop old had new h on some so_far more = omega arith
looks_more (suc zero) from page stop old had new h on some so_far more = omega arith
looks_more (suc (suc zero)) from page stop old had new h on some so_far more = omega arith
looks_more (suc (suc (suc zero))) from page stop old had new h on some so_far more = omega arith
looks_more (suc (suc (suc (suc height)))) from page stop old had new h on some so_far more = absurd (omega arith)

-- a root that isn't split has no node
pub no_root_node : {V : Type 0} (t : Arena V) (height page place node : ℕ) → height ≡ 0 → place_of t height page ≡ Some place
    → (spot_at t place).node ≡ Some node → is_split t 3 page ≡ false → ⊥
unfolding is_split
no_root_node t height page place node root at leads bare =
    let spot = spot_some t 0 page place (ap (λ h. place_of t h page) (sym root) ∙ at) in
    false≢true (sym bare ∙ (ap (λ s. is_some s.node) spot ∙ ap is_some leads))

-- those of a walk that has come to the end, or hasn't begun
pub looks_all : (height from end page old new : ℕ) → (page ≤ end) ⊎ (page ≡ from) → new ≤ old + (4 - height) * (page - from)
    → new ≤ old + (4 - height) * (end - from)
looks_all height from end page old new (inl within) cost =
    let less : page - from ≤ end - from = omega arith in
    omega (arith, cost, mul-le-mul_left (4 - height) less)
looks_all height from end page old new (inr none) cost =
    let nothing : page - from ≡ 0 = omega arith in
    omega (arith, cost, ap (λ n. (4 - height) * n) nothing)

-- a page leads to no node
pub above_pages : {V : Type 0} (t : Arena V) → IsTree t → (height page place node : ℕ) → height ≤ 3 → place_of t height page ≡ Some place
    → (spot_at t place).node ≡ Some node → height < 3
above_pages t tree height page place node small at leads = elim (cases_lt height 3) [
  | inl less ↦ less
  | inr last ↦ absurd (let none = tree.nodes.pages_whole page place (ap (λ h. place_of t h page) {x = 3} {y = height} (omega arith)
      ∙ at) in cc)
]
