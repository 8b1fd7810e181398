-- What marks say of pages.
use Rattle.std.proofs.Common.{◌≡◌, ℕ, zero, suc, ◌+◌, ◌*◌, ◌/◌, ◌%◌, ◌^◌, ◌<◌, ◌≤◌, true, Option, Some, None, unwrap_or, is_some, inl, inr, refl, sym, ap, subst, ◌∙◌, arith}
use Rattle.std.specs.Int.{bit_at}
use Rattle.std.proofs.lemmas.Bool.{or_cases, or_left, or_right, eqb-true, eq-eqb}
use Rattle.extent_tree.specs.Rows.{Arena, row}
use Rattle.pager_model.proofs.ExtentLemmas.{coarser}
use Rattle.extent_tree.proofs.Rows.{row_alike}
use Rattle.population_map.specs.declared.mark.Mark.{Mark}
use Rattle.population_map.specs.Bits.{HasBit, HasAllBits}
use Rattle.population_map.specs.Kept.{AreMarks}
use Rattle.population_map.specs.Populations.{mark_of, id_of, is_placed, is_populated, unmarked, SomePopulated, AllPopulated}
use Rattle.population_map.proofs.Masks.{no_bit}

pub mark_alike : (m : Arena Mark) (size p q : ℕ) → size ≤ 3 → p / 8 ^ size ≡ q / 8 ^ size → mark_of m size p ≡ mark_of m size q
unfolding mark_of
mark_alike m size p q small same = ap (λ v. unwrap_or v unmarked) (row_alike m size p q small same)

pub id_alike : (m : Arena Mark) (size p q : ℕ) → size ≤ 3 → p / 8 ^ size ≡ q / 8 ^ size → id_of m size p ≡ id_of m size q
unfolding id_of
id_alike m size p q small same = ap (λ v. v.id) (mark_alike m size p q small same)

-- a mark that says something has a row
pub row_if_id : (m : Arena Mark) (size page : ℕ) → is_some (id_of m size page) ≡ true → is_some (row m size page) ≡ true
unfolding id_of mark_of
row_if_id m size page has = from (row m size page) has
  where
    from : (o : Option Mark) → (let v : Mark = unwrap_or o unmarked in is_some v.id) ≡ true → is_some o ≡ true
    from None h = h
    from (Some v) h = refl

pub row_if_bit : (m : Arena Mark) (size page : ℕ) → HasBit (mark_of m size page).some → is_some (row m size page) ≡ true
unfolding mark_of
row_if_bit m size page has = from (row m size page) has
  where
    from : (o : Option Mark) → (let v : Mark = unwrap_or o unmarked in HasBit v.some) → is_some o ≡ true
    from None h = absurd (no_bit 0 refl h)
    from (Some v) h = refl

-- a placed extent has each of its pages
pub placed_by : (m : Arena Mark) (size page : ℕ) → size ≤ 3 → is_some (id_of m size page) ≡ true → is_placed m page ≡ true
unfolding is_placed
placed_by m zero page small has = or_left _ _ (or_left _ _ (or_left _ _ has))
placed_by m (suc zero) page small has = or_left _ _ (or_left _ _ (or_right _ _ has))
placed_by m (suc (suc zero)) page small has = or_left _ _ (or_right _ _ has)
placed_by m (suc (suc (suc zero))) page small has = or_right _ _ has
placed_by m (suc (suc (suc (suc size)))) page small has = absurd (omega arith)

pub placed_size : (m : Arena Mark) (page : ℕ) → is_placed m page ≡ true → (size : ℕ) × (size ≤ 3) × (is_some (id_of m size page) ≡ true)
unfolding is_placed
placed_size m page has = elim (or_cases _ _ has) [
  | inr three ↦ (3, omega arith, three)
  | inl less ↦ elim (or_cases _ _ less) [
    | inr two ↦ (2, omega arith, two)
    | inl lesser ↦ elim (or_cases _ _ lesser) [
      | inr one ↦ (1, omega arith, one)
      | inl none ↦ (0, omega arith, none)
    ]
  ]
]

-- ---- a populated page has a bit in each mark over it

pub bit_of_page : (m : Arena Mark) (page : ℕ) → is_populated m page ≡ true → bit_at (mark_of m 1 page).some (page % 8) ≡ 1
unfolding is_populated
bit_of_page m page is = eqb-true _ _ is

pub page_of_bit : (m : Arena Mark) (page : ℕ) → bit_at (mark_of m 1 page).some (page % 8) ≡ 1 → is_populated m page ≡ true
unfolding is_populated
page_of_bit m page is = eq-eqb _ _ is

pub bits_over : (m : Arena Mark) → AreMarks m → (size page : ℕ) → 0 < size → size ≤ 3 → is_populated m page ≡ true
    → HasBit (mark_of m size page).some
bits_over m marks zero page low small is = absurd (omega arith)
bits_over m marks (suc zero) page low small is = (page % 8, omega arith, bit_of_page m page is)
bits_over m marks (suc (suc size)) page low small is = (
  page / 8 ^ suc size % 8,
  omega arith,
  (marks.some (suc size) page (omega arith) (omega arith)).1
      (bits_over m marks (suc size) page (omega arith) (omega arith) is),
)

-- the page with this part of an extent round a page
pub part_page : (size page part : ℕ) → size < 3 → part < 8 → (in_it : ℕ) × (in_it / 8 ^ suc size ≡ page / 8 ^ suc size)
    × (in_it / 8 ^ size % 8 ≡ part)
part_page zero page part low small = (8 * (page / 8) + part, omega arith, omega arith)
part_page (suc zero) page part low small = (64 * (page / 64) + 8 * part, omega arith, omega arith)
part_page (suc (suc zero)) page part low small = (512 * (page / 512) + 64 * part, omega arith, omega arith)
part_page (suc (suc (suc size))) page part low small = absurd (omega arith)

-- and a bit says that there is one
pub some_page : (m : Arena Mark) → AreMarks m → (size page : ℕ) → size ≤ 3 → HasBit (mark_of m size page).some → SomePopulated m size page
some_page m marks zero page small has = absurd (no_bit _ (marks.no_parts page).0 has)
some_page m marks (suc zero) page small has =
    let q = part_page 0 page has.0 (omega arith) has.1 in
    let bit = ap (λ v. bit_at v.some has.0) (mark_alike m 1 q.0 page (omega arith) q.1) ∙ has.2 in
    let part : has.0 ≡ q.0 % 8 = omega (arith, q.2) in
    (q.0, q.1, page_of_bit m q.0 (ap (bit_at (mark_of m 1 q.0).some) (sym part) ∙ bit))
some_page m marks (suc (suc size)) page small has =
    let q = part_page (suc size) page has.0 (omega arith) has.1 in
    let bit = ap (bit_at (mark_of m (suc (suc size)) q.0).some) q.2 ∙ (ap (λ v. bit_at v.some has.0)
    (mark_alike m (suc (suc size)) q.0 page small q.1) ∙ has.2) in
    let below = some_page m marks (suc size) q.0 (omega arith) ((marks.some (suc size) q.0 (omega arith) (omega arith)).0 bit) in
    (below.0, coarser (suc size) (suc (suc size)) below.0 q.0 (omega arith) small below.1 ∙ q.1, below.2)

-- ---- all bits of a mark say that all pages are populated

pub all_pages : (m : Arena Mark) → AreMarks m → (size page : ℕ) → 0 < size → size ≤ 3 → HasAllBits (mark_of m size page).full
    → AllPopulated m size page
all_pages m marks zero page low small all q same = absurd (omega arith)
all_pages m marks (suc zero) page low small all q same =
    page_of_bit m q (ap (λ v. bit_at v.some (q % 8)) (mark_alike m 1 q page (omega arith) same)
    ∙ (ap (λ n. bit_at n (q % 8)) (sym (marks.pages_full page)) ∙ all (q % 8) (omega arith)))
all_pages m marks (suc (suc size)) page low small all q same =
    let bit = ap (λ v. bit_at v.full (q / 8 ^ suc size % 8)) (mark_alike m (suc (suc size)) q page small same)
    ∙ all (q / 8 ^ suc size % 8) (omega arith) in
    all_pages m marks (suc size) q (omega arith) (omega arith) ((marks.full (suc size) q (omega arith) (omega arith)).0 bit) q refl

pub pages_all : (m : Arena Mark) → AreMarks m → (size page : ℕ) → 0 < size → size ≤ 3 → AllPopulated m size page
    → HasAllBits (mark_of m size page).full
pages_all m marks zero page low small all part less = absurd (omega arith)
pages_all m marks (suc zero) page low small all part less =
    let q = part_page 0 page part (omega arith) less in
    let part_is : q.0 % 8 ≡ part = omega (arith, q.2) in
    ap (λ n. bit_at n part) (marks.pages_full page)
    ∙ (ap (λ v. bit_at v.some part) (sym (mark_alike m 1 q.0 page (omega arith) q.1))
    ∙ (ap (bit_at (mark_of m 1 q.0).some) (sym part_is) ∙ bit_of_page m q.0 (all q.0 q.1)))
pages_all m marks (suc (suc size)) page low small all part less =
    let q = part_page (suc size) page part (omega arith) less in
    let below = pages_all m marks (suc size) q.0 (omega arith) (omega arith)
    (λ r same. all r (coarser (suc size) (suc (suc size)) r q.0 (omega arith) small same ∙ q.1)) in
    ap (λ v. bit_at v.full part) (sym (mark_alike m (suc (suc size)) q.0 page small q.1))
    ∙ (ap (bit_at (mark_of m (suc (suc size)) q.0).full) (sym q.2) ∙ (marks.full (suc size) q.0 (omega arith) (omega arith)).1 below)

-- a full part isn't empty
pub full_page : (m : Arena Mark) → AreMarks m → (size page : ℕ) → size ≤ 3 → HasBit (mark_of m size page).full → SomePopulated m size page
full_page m marks zero page small has = absurd (no_bit _ (marks.no_parts page).1 has)
full_page m marks (suc zero) page small has = some_page m marks 1 page small (subst HasBit (marks.pages_full page) has)
full_page m marks (suc (suc size)) page small has =
    let q = part_page (suc size) page has.0 (omega arith) has.1 in
    let bit = ap (bit_at (mark_of m (suc (suc size)) q.0).full) q.2 ∙ (ap (λ v. bit_at v.full has.0)
    (mark_alike m (suc (suc size)) q.0 page small q.1) ∙ has.2) in
    let all = all_pages m marks (suc size) q.0 (omega arith) (omega arith)
    ((marks.full (suc size) q.0 (omega arith) (omega arith)).0 bit) in
    (q.0, q.1, all q.0 refl)

-- ---- room for nodes

-- a row has a placed page
pub rows_placed : (m : Arena Mark) → AreMarks m → (size page : ℕ) → size ≤ 3 → is_some (row m size page) ≡ true
    → (q : ℕ) × (q / 8 ^ size ≡ page / 8 ^ size) × (is_placed m q ≡ true)
rows_placed m marks size page small has = elim (marks.in_use size page small has) [
  | inl id ↦ (page, refl, placed_by m size page small id)
  | inr bits ↦ elim bits [
    | inl some ↦ let q = some_page m marks size page small some in (q.0, q.1, marks.placed q.0 q.2)
    | inr full ↦ let q = full_page m marks size page small full in (q.0, q.1, marks.placed q.0 q.2)
  ]
]
