-- How many tiles there are by some sizes, from how many there are of each size by all four: each is cut into parts.
use Rattle.std.proofs.Common.{◌≡◌, ◌≢◌, ℕ, zero, suc, ◌+◌, ◌-◌, ◌*◌, ◌/◌, ◌%◌, ◌^◌, ◌<◌, ◌≤◌, Bool, true, false, eqb, ltb, ◌&&◌, List, ◌∷◌, [], slice_index, Option, refl, sym, ap, inl, inr, ◌∙◌, arith, subst}
use Rattle.std.specs.Int.{div_ceil}
use Rattle.std.proofs.Math.Nat.{add-mul, mul-add, mul-div_cancel, mul-mod_left, mul_assoc, suc-mul}
use Rattle.std.proofs.lemmas.Bool.{and_parts, cases_Bool, cases_eq, eq-eqb, eqb-true, ne_eqb, true≢false}
use Rattle.std.proofs.lemmas.Bool.Decides.{nat_tests}
use Rattle.pager_model.specs.Bounds.{space_pages}
use Rattle.pager_model.specs.declared.tile.Mapping.{Mapping}
use Rattle.pager_model.specs.SizeSets.{SizeSet, all_sizes, size_within}
use Rattle.pager_model.specs.Tiles.{begins_at, count_pages, size_at, tile_count_in, tile_in, tile_size_in, tiles_of_size}
use Rattle.pager_model.proofs.CountLemmas.{weight}
use Rattle.pager_model.proofs.ExtentLemmas.{eight_pos, eight_quotient, eight_split, extent_of_frame}
use Rattle.pager_model.proofs.SizeFloors.{within_at_most}
use Rattle.tiles.proofs.Begun.{count_multiples, is_multiple}
use Rattle.tiles.proofs.Counting.{count, count-apart, count-more, count-none, count-same, count-sum, count-zero, count_pages-is, count_pages_most, count_pages_none}
use Rattle.tiles.proofs.Largest.{HasTile, resident_tile, size_alike, size_small, tiles}
use Rattle.tiles.proofs.Eligible.{page_in}
use Rattle.tiles.proofs.SizedTiles.{begins_own, tile_absent_in, tile_size, within_small}

-- the page is the first of a tile of this size by some sizes, in one of a size below another by all four
abbrev pub begins_below : SizeSet → (ℕ → Option Mapping) → ℕ → ℕ → ℕ → Bool
begins_below z pages size below page = (begins_at page (tile_in z pages page) && eqb (tile_size_in z pages page) size) && ltb
    (size_at pages page) below

abbrev pub counted_below : SizeSet → (ℕ → Option Mapping) → ℕ → ℕ → ℕ
counted_below z pages size below = count_pages (begins_below z pages size below)

-- the page is the first of a part of a tile of this size by all four
abbrev begins_part : SizeSet → (ℕ → Option Mapping) → ℕ → ℕ → Bool
begins_part z pages level page = begins_at page (tile_in z pages page) && eqb (size_at pages page) level

within_all : (k : ℕ) → k ≤ 3 → size_within all_sizes k ≡ k
within_all zero low = refl
within_all (suc zero) low = refl
within_all (suc (suc zero)) low = refl
within_all (suc (suc (suc zero))) low = refl
within_all (suc (suc (suc (suc k)))) low = absurd (omega arith)

-- ---- the parts of the tiles of one size

module _ (z : SizeSet) (pages : ℕ → Option Mapping) (level : ℕ) (low : level ≤ 3) where
  abbrev size : ℕ
  size = size_within z level

  abbrev width : ℕ
  width = 8 ^ level

  abbrev part : ℕ → Bool
  part = begins_part z pages level

  part_own : (page : ℕ) → HasTile pages page (size_at pages page) → size_at pages page ≡ level → part page ≡ is_multiple size page
  part_own page tile same =
      ap (λ b. b && eqb (size_at pages page) level) (begins_own z pages page tile)
      ∙ ap (λ n. eqb (page % 8 ^ size_within z n) 0 && eqb n level) same
      ∙ right_true (is_multiple size page) (eqb level level) (eq-eqb level level refl)
    where
      right_true : (a b : Bool) → b ≡ true → (a && b) ≡ a
      right_true true b e = e
      right_true false b e = refl

  -- where a page begins no tile of this size, no page of the extent has a part
  none_there : (block page : ℕ) → page / width ≡ block → begins_part all_sizes pages level (block * width) ≡ false → part page ≡ false
  none_there block page joined fails = elim (tiles pages page) [
    | inl none ↦ ap (λ o. begins_at page o && eqb (size_at pages page) level) (tile_absent_in z pages page none.absent)
    | inr tile ↦ elim (cases_eq (size_at pages page) level) [
      | inr apart ↦ right_false (begins_at page (tile_in z pages page)) _ (ne_eqb _ _ apart)
      | inl same ↦
          let first = block * width in
          let there : first / width ≡ page / width = mul-div_cancel block (eight_pos level) ∙ sym joined in
          let own = subst (λ k. HasTile pages page k) same tile in
          let has = resident_tile pages first _ (page_in pages level page first own.has low there) in
          let size_there : size_at pages first ≡ level = size_alike pages page first
          (subst (λ k. first / 8 ^ k ≡ page / 8 ^ k) (sym same) there) ∙ same in
          absurd (true≢false (sym (both (begins_at first (tile_in all_sizes pages first)) (eqb (size_at pages first) level)
          (begins_first first (mul-mod_left block width) has size_there) (eq-eqb _ _ size_there)) ∙ fails))
    ]
  ]
    where
      right_false : (a b : Bool) → b ≡ false → (a && b) ≡ false
      right_false true b e = e
      right_false false b e = refl

      both : (a b : Bool) → a ≡ true → b ≡ true → (a && b) ≡ true
      both a b e f = ap (λ x. x && b) e ∙ f

      begins_first : (first : ℕ) → first % width ≡ 0 → HasTile pages first (size_at pages first) → size_at pages first ≡ level
          → begins_at first (tile_in all_sizes pages first) ≡ true
      begins_first first whole has same =
          begins_own all_sizes pages first has ∙ ap (λ k. eqb (first % 8 ^ size_within all_sizes k) 0) same
          ∙ ap (λ k. eqb (first % 8 ^ k) 0) (within_all level low) ∙ eq-eqb _ _ whole

  -- and where one does, each multiple begins a part
  all_there : (block page : ℕ) → page / width ≡ block → begins_part all_sizes pages level (block * width) ≡ true
      → part page ≡ is_multiple size page
  all_there block page joined begins =
      let first = block * width in
      let parts = and_parts (begins_at first (tile_in all_sizes pages first)) _ begins in
      let same : size_at pages first ≡ level = eqb-true _ _ parts.1 in
      let there : page / width ≡ first / width = joined ∙ sym (mul-div_cancel block (eight_pos level)) in
      elim (tiles pages first) [
        | inl none ↦ absurd (true≢false (sym parts.0 ∙ ap (begins_at first) (tile_absent_in all_sizes pages first none.absent)))
        | inr tile ↦
            let own = subst (λ k. HasTile pages first k) same tile in
            part_own page (resident_tile pages page _ (page_in pages level first page own.has low there))
            (size_alike pages first page (subst (λ k. page / 8 ^ k ≡ first / 8 ^ k) (sym same) there) ∙ same)
      ]

  -- so the extent has as many parts as there is a tile of this size
  abbrev many : ℕ
  many = 8 ^ (level - size)

  block_parts : (block : ℕ) → count part (block * width) width ≡ many * weight (begins_part all_sizes pages level (block * width))
  block_parts block = elim (cases_Bool (begins_part all_sizes pages level (block * width))) [
    | inr fails ↦
        omega (
          arith,
          count-none part (block * width) width (λ p from before. none_there block p (extent_of_frame block width p from before) fails),
          ap (λ b. many * weight b) fails,
        )
    | inl begins ↦
        let w = 8 ^ size in
        let split : width ≡ many * w = eight_split size level (within_at_most z level) in
        omega (
          arith,
          count-same part (is_multiple size) (block * width) width (λ p from before. all_there block p
              (extent_of_frame block width p from before) begins),
          count_multiples size (block * width) width (within_small z level low),
          whole_ceil w (block * width) (block * many) (eight_pos size) (ap (λ n. block * n) split ∙ sym (mul_assoc block many w)),
          whole_ceil w (block * width + width) (block * many + many) (eight_pos size)
              (further (block * many) many w (block * width) width (ap (λ n. block * n) split ∙ sym (mul_assoc block many w)) split),
          ap (λ b. many * weight b) begins,
        )
  ]
    where
      whole_ceil : (w n k : ℕ) → 0 < w → n ≡ k * w → div_ceil n w ≡ k
      whole_ceil w n k wide is =
          omega (arith, ap (λ m. m / w) is ∙ mul-div_cancel k wide, ap (λ m. m % w) is ∙ mul-mod_left k w)

      further : (a b w n v : ℕ) → n ≡ a * w → v ≡ b * w → n + v ≡ (a + b) * w
      further a b w n v e f = omega (arith, e, f, add-mul a b w)

  abbrev firsts : ℕ → Bool
  firsts block = begins_part all_sizes pages level (block * width)

  -- and so have all
  blocks_parts : (blocks : ℕ) → count part 0 (blocks * width) ≡ many * count firsts 0 blocks
  blocks_parts zero =
      omega (arith, ap (count part 0) {x = 0 * width} {y = 0} (omega arith), count-zero part 0, ap (λ n. many * n) (count-zero firsts 0))
  blocks_parts (suc blocks) =
      omega (
        arith,
        ap (count part 0) (suc-mul blocks width),
        count-apart part 0 (blocks * width) width (blocks * width) (omega arith),
        blocks_parts blocks,
        block_parts blocks,
        ap (λ n. many * n) (ap (count firsts 0) {x = suc blocks} {y = blocks + 1} (omega arith)
            ∙ count-more firsts 0 blocks blocks (omega arith)),
        mul-add many (count firsts 0 blocks) (weight (firsts blocks)),
      )

  space_parts : (all : ℕ) → all ≡ space_pages → count_pages part ≡ many * count firsts 0 (all / width)
  space_parts all e =
      omega (
        arith,
        count_pages-is part all e,
        ap (count part 0) {x = all} {y = all / width * width} (sym (whole_extents level all low e)),
        blocks_parts (all / width),
      )
    where
      whole_extents : (k n : ℕ) → k ≤ 3 → n ≡ space_pages → n / 8 ^ k * 8 ^ k ≡ n
      whole_extents zero n low e = omega arith
      whole_extents (suc zero) n low e = omega arith
      whole_extents (suc (suc zero)) n low e = omega arith
      whole_extents (suc (suc (suc zero))) n low e = omega arith
      whole_extents (suc (suc (suc (suc k)))) n low e = absurd (omega arith)

-- the tiles of one size have so many parts
parts_counted : (z : SizeSet) (pages : ℕ → Option Mapping) (level : ℕ) → level ≤ 3
    → count_pages (begins_part z pages level) ≡ 8 ^ (level - size_within z level) * tiles_of_size pages level
parts_counted z pages level low = at space_pages refl
  where
    at : (all : ℕ) → all ≡ space_pages → count_pages (begins_part z pages level) ≡ 8 ^ (level - size_within z level) * tiles_of_size pages level
    at all e =
        let many = 8 ^ (level - size_within z level) in
        let wholes = count (firsts all_sizes pages level low) 0 (all / 8 ^ level) in
        let none : level - size_within all_sizes level ≡ 0 = omega (arith, within_all level low) in
        let own : tiles_of_size pages level ≡ wholes = omega (
          arith,
          space_parts all_sizes pages level low all e,
          ap (λ n. 8 ^ n * wholes) none,
        ) in
        space_parts z pages level low all e ∙ ap (λ n. many * n) (sym own)

-- ---- one size more

module _ (z : SizeSet) (pages : ℕ → Option Mapping) (size level : ℕ) where
  abbrev is_first : ℕ → Bool
  is_first page = begins_at page (tile_in z pages page) && eqb (tile_size_in z pages page) size

  step : counted_below z pages size (level + 1) ≡ counted_below z pages size level + count_pages
      (λ page. is_first page && eqb (size_at pages page) level)
  step = at space_pages refl
    where
      each : (b : Bool) (s : ℕ) → weight (b && ltb s (level + 1)) ≡ weight (b && ltb s level) + weight (b && eqb s level)
      each true s = grind (arith, nat_tests)
      each false s = refl

      at : (all : ℕ) → all ≡ space_pages → counted_below z pages size (level + 1) ≡ counted_below z pages size level + count_pages
          (λ page. is_first page && eqb (size_at pages page) level)
      at all e =
          omega (
            arith,
            count_pages-is (begins_below z pages size (level + 1)) all e,
            count_pages-is (begins_below z pages size level) all e,
            count_pages-is (λ page. is_first page && eqb (size_at pages page) level) all e,
            count-sum (begins_below z pages size (level + 1)) (begins_below z pages size level)
                (λ page. is_first page && eqb (size_at pages page) level) 0 all
                (λ page from before. each (is_first page) (size_at pages page)),
          )

  -- the tile of a page of one size by all four has the size within
  sized : (page : ℕ) → (is_first page && eqb (size_at pages page) level) ≡
      (eqb (size_within z level) size && begins_part z pages level page)
  sized page = elim (cases_eq (size_at pages page) level) [
    | inl same ↦
        ap (λ n. (begins_at page (tile_in z pages page) && eqb n size) && eqb (size_at pages page) level)
        (tile_size z pages page ∙ ap (size_within z) same)
        ∙ turned (begins_at page (tile_in z pages page)) (eqb (size_within z level) size) (eqb (size_at pages page) level)
    | inr apart ↦
        let none = ne_eqb _ _ apart in
        right_false (is_first page) _ none ∙ sym (right_false (eqb (size_within z level) size) _
        (right_false (begins_at page (tile_in z pages page)) _ none))
  ]
    where
      right_false : (a b : Bool) → b ≡ false → (a && b) ≡ false
      right_false true b e = e
      right_false false b e = refl

      turned : (a b c : Bool) → ((a && b) && c) ≡ (b && (a && c))
      turned true true c = refl
      turned true false c = refl
      turned false true c = refl
      turned false false c = refl

  -- its parts are those of the size within it
  counted_more : level ≤ 3 → size_within z level ≡ size
      → counted_below z pages size (level + 1) ≡ counted_below z pages size level + 8 ^ (level - size) * tiles_of_size pages level
  counted_more low own =
      omega (
        arith,
        step,
        ap count_pages (let tests : (λ page. is_first page && eqb (size_at pages page) level) ≡ begins_part z pages level = λ i page.
            (sized page ∙ ap (λ b. b && begins_part z pages level page) (eq-eqb _ _ own)) i in tests),
        parts_counted z pages level low,
        ap (λ n. 8 ^ (level - n) * tiles_of_size pages level) own,
      )

  pub counted_other : size_within z level ≢ size → counted_below z pages size (level + 1) ≡ counted_below z pages size level
  counted_other apart =
      omega (
        arith,
        step,
        ap count_pages (let tests : (λ page. is_first page && eqb (size_at pages page) level) ≡ (λ page. false) = λ i page.
            (sized page ∙ ap (λ b. b && begins_part z pages level page) (ne_eqb _ _ apart)) i in tests),
        count_pages_none,
      )

module _ (z : SizeSet) (pages : ℕ → Option Mapping) (size : ℕ) where
  pub counted_none : counted_below z pages size 0 ≡ 0
  counted_none = ap count_pages (let tests : begins_below z pages size 0 ≡ (λ page. false) = λ i page. none
      (begins_at page (tile_in z pages page) && eqb (tile_size_in z pages page) size) (size_at pages page) i in tests)
      ∙ count_pages_none
    where
      none : (b : Bool) (s : ℕ) → (b && ltb s 0) ≡ false
      none true s = grind (arith, nat_tests)
      none false s = refl

  pub counted_all : counted_below z pages size 4 ≡ tile_count_in z pages size
  counted_all = ap count_pages (let tests : begins_below z pages size 4 ≡
      (λ page. begins_at page (tile_in z pages page) && eqb (tile_size_in z pages page) size) =
      λ i page. all (begins_at page (tile_in z pages page) && eqb (tile_size_in z pages page) size) (size_at pages page)
      (size_small pages page) i in tests)
    where
      all : (b : Bool) (s : ℕ) → s ≤ 3 → (b && ltb s 4) ≡ b
      all true s low = grind (arith, nat_tests)
      all false s low = refl

  pub counted_few : (below : ℕ) → counted_below z pages size below ≤ space_pages
  counted_few below = count_pages_most (begins_below z pages size below)

-- ---- the counts as lists

pub zeros : (size : ℕ) → size < 4 → slice_index (0 ∷ 0 ∷ 0 ∷ 0 ∷ []) size ≡ 0
zeros zero low = refl
zeros (suc zero) low = refl
zeros (suc (suc zero)) low = refl
zeros (suc (suc (suc zero))) low = refl
zeros (suc (suc (suc (suc size)))) low = absurd (omega arith)

count_there : (of : ℕ → ℕ) (level : ℕ) → level < 4 → slice_index (of 0 ∷ of 1 ∷ of 2 ∷ of 3 ∷ []) level ≡ of level
count_there of zero low = refl
count_there of (suc zero) low = refl
count_there of (suc (suc zero)) low = refl
count_there of (suc (suc (suc zero))) low = refl
count_there of (suc (suc (suc (suc level)))) low = absurd (omega arith)

-- the parts of one size more, as they are counted
pub parts_more : (z : SizeSet) (pages : ℕ → Option Mapping) (whole : List ℕ) (level size wide narrow : ℕ) → level < 4
    → size ≡ size_within z level → wide ≡ 8 ^ level → narrow ≡ 8 ^ size
    → whole ≡ tiles_of_size pages 0 ∷ tiles_of_size pages 1 ∷ tiles_of_size pages 2 ∷ tiles_of_size pages 3 ∷ []
    → counted_below z pages size (level + 1) ≡ counted_below z pages size level + wide / narrow * slice_index whole level
parts_more z pages whole level size wide narrow low own long short is =
    let parts : wide / narrow ≡ 8 ^ (level - size) = ap (λ n. n / narrow) long ∙ ap (λ n. 8 ^ level / n) short
    ∙ eight_quotient size level (omega (arith, own, within_at_most z level)) in
    let there : slice_index whole level ≡ tiles_of_size pages level = ap (λ l. slice_index l level) is
    ∙ count_there (tiles_of_size pages) level low in
    counted_more z pages size level (omega (arith, low)) (sym own)
    ∙ sym (ap (λ n. counted_below z pages size level + n) (ap (λ n. n * slice_index whole level) parts
    ∙ ap (λ n. 8 ^ (level - size) * n) there))
