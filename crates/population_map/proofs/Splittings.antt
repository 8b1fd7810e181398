-- What becomes of the marks as a placed extent, none of whose pages is populated, is split into its eight parts.
use Rattle.std.proofs.Common.{◌≡◌, ℕ, suc, ◌-◌, ◌*◌, ◌/◌, ◌%◌, ◌^◌, ◌<◌, ◌≤◌, ◌⊎◌, true, false, List, length, Option, Some, None, unwrap_or, is_some, inl, inr, refl, sym, ap, subst, ◌∙◌, arith}
use Rattle.std.specs.List.{slice_get, range_with_len, count_by}
use Rattle.std.specs.Option.{option_map}
use Rattle.std.proofs.lemmas.Bool.{cases_eq, false≢true}
use Rattle.std.proofs.lemmas.Option.{slice_get-get_or}
use Rattle.extent_tree.specs.Rows.{Arena, row, ChangesEight, SplitsAreRowsBelow}
use Rattle.extent_tree.specs.Counts.{splits_with}
use Rattle.extent_tree.proofs.Rooms.{room_for}
use Rattle.pager_model.proofs.CountLemmas.{count-agree}
use Rattle.pager_model.proofs.ExtentLemmas.{coarser}
use Rattle.population_map.specs.declared.mark.Mark.{Mark}
use Rattle.population_map.specs.Bits.{HasBit}
use Rattle.population_map.specs.Kept.{AreMarks}
use Rattle.population_map.specs.Populations.{mark_of, id_of, is_placed, is_populated, placed_pages, placed_mark, unmarked, PlacesParts, EmptiesOnly}
use Rattle.population_map.proofs.Marks.{id_alike, placed_by, rows_placed, some_page, full_page}
use Rattle.population_map.proofs.Swaps.{IsSwappedOrSame, same_id, pages_kept, ids_swapped, marks_with_ids}
use Rattle.population_map.proofs.Ways.{placed_alike}

-- a mark of an extent that is placed with an id, or isn't, and has no populated page
bare : (o : Option ℕ) → let v : Mark = unwrap_or (option_map placed_mark o) unmarked in (v.some ≡ 0) × (v.full ≡ 0) × (v.id ≡ o)
bare None = (refl, refl, refl)
bare (Some id) = (refl, refl, refl)

has_id : (o : Option ℕ) → is_some (option_map placed_mark o) ≡ true → is_some o ≡ true
has_id None h = h
has_id (Some id) h = refl

some_within : (ids : List ℕ) (i : ℕ) → i < length ids → is_some (slice_get ids i) ≡ true
some_within ids i low = ap is_some (slice_get-get_or ids i 0 low)

-- What a split begins with: the extent is placed, none of its pages is populated, and the parts' marks are of these ids.
pub record Splits (m : Arena Mark) (size first : ℕ) (values : List Mark) (ids : List ℕ) : Type 0 where
  pub marks : AreMarks m
  pub large : 0 < size
  pub small : size ≤ 3
  pub placed : is_some (id_of m size first) ≡ true
  pub empty : (page : ℕ) → page / 8 ^ size ≡ first / 8 ^ size → is_populated m page ≡ false
  pub told : (part : ℕ) → part < 8 → slice_get values part ≡ option_map placed_mark (slice_get ids part)

-- what is kept afterwards, and what changed
pub record WasSplit (m n : Arena Mark) (size first : ℕ) (ids : List ℕ) : Type 0 where
  pub marks : AreMarks n
  pub placed : PlacesParts m n size first ids
  pub empty : EmptiesOnly m n size first

module _ (m n : Arena Mark) (size first : ℕ) (values : List Mark) (ids : List ℕ) (s : Splits m size first values ids)
    (changes : ChangesEight m n size first None values) (splits : SplitsAreRowsBelow n) where
  -- the page is in the extent
  abbrev IsIn : ℕ → Type 0
  IsIn page = page / 8 ^ size ≡ first / 8 ^ size

  -- an extent is the one that is split, or a part of it, or another
  where_at : (part page : ℕ) → ((part ≡ size) × IsIn page) ⊎ (((suc part ≡ size) × IsIn page)
      ⊎ (part ≡ size ⊎ suc part ≡ size → IsIn page → ⊥))
  where_at part page = elim (cases_eq (page / 8 ^ size) (first / 8 ^ size)) [
    | inr out ↦ inr (inr (λ _ same. out same))
    | inl same ↦ elim (cases_eq part size) [
      | inl whole ↦ inl (whole, same)
      | inr not_whole ↦ elim (cases_eq (suc part) size) [
        | inl is ↦ inr (inl (is, same))
        | inr not_part ↦ inr (inr (λ either _. elim either [ inl e ↦ not_whole e | inr e ↦ not_part e ]))
      ]
    ]
  ]

  whole_row : (part page : ℕ) → part ≡ size → IsIn page → row n part page ≡ None
  whole_row part page is same = ap (λ k. row n k page) is ∙ changes.whole page same

  part_row : (part page : ℕ) → suc part ≡ size → IsIn page → row n part page ≡ option_map placed_mark (slice_get ids (page / 8 ^ part % 8))
  part_row part page is same = changes.parts part page is same ∙ s.told (page / 8 ^ part % 8) (omega arith)

  whole_mark : (part page : ℕ) → part ≡ size → IsIn page → mark_of n part page ≡ unmarked
  unfolding mark_of
  whole_mark part page is same = ap (λ v. unwrap_or v unmarked) (whole_row part page is same)

  part_mark : (part page : ℕ) → suc part ≡ size → IsIn page
      → mark_of n part page ≡ unwrap_or (option_map placed_mark (slice_get ids (page / 8 ^ part % 8))) unmarked
  unfolding mark_of
  part_mark part page is same = ap (λ v. unwrap_or v unmarked) (part_row part page is same)

  part_id : (part page : ℕ) → suc part ≡ size → IsIn page → id_of n part page ≡ slice_get ids (page / 8 ^ part % 8)
  unfolding id_of
  part_id part page is same = ap (λ v. v.id) (part_mark part page is same) ∙ (bare (slice_get ids (page / 8 ^ part % 8))).2

  -- the extent and its parts have no bit
  no_page : (part page q : ℕ) → part ≤ size → IsIn page → q / 8 ^ part ≡ page / 8 ^ part → is_populated m q ≡ true → ⊥
  no_page part page q le same in_it is = false≢true (sym (s.empty q (coarser part size q page le s.small in_it ∙ same)) ∙ is)

  no_some : (part page : ℕ) → part ≤ size → IsIn page → HasBit (mark_of m part page).some → ⊥
  no_some part page le same has =
      let q = some_page m s.marks part page (omega (arith, s.small)) has in no_page part page q.0 le same q.1 q.2

  no_full : (part page : ℕ) → part ≤ size → IsIn page → HasBit (mark_of m part page).full → ⊥
  no_full part page le same has =
      let q = full_page m s.marks part page (omega (arith, s.small)) has in no_page part page q.0 le same q.1 q.2

  each : (part page : ℕ) → part ≤ 3 → IsSwappedOrSame m n part page
  each part page less = elim (where_at part page) [
    | inl whole ↦
        let at = whole_mark part page whole.0 whole.1 in
        inl (record {
          some_now = ap (λ v. v.some) at;
          full_now = ap (λ v. v.full) at;
          some_before = no_some part page (omega (arith, whole.0)) whole.1;
          full_before = no_full part page (omega (arith, whole.0)) whole.1;
          use_now = λ has. absurd (false≢true (sym (ap is_some (whole_row part page whole.0 whole.1)) ∙ has));
        })
    | inr rest ↦ elim rest [
      | inr other ↦ inr (changes.others part page less other)
      | inl is ↦
          let at = part_mark part page is.0 is.1 in
          let o = slice_get ids (page / 8 ^ part % 8) in
          inl (record {
            some_now = ap (λ v. v.some) at ∙ (bare o).0;
            full_now = ap (λ v. v.full) at ∙ (bare o).1;
            some_before = no_some part page (omega (arith, is.0)) is.1;
            full_before = no_full part page (omega (arith, is.0)) is.1;
            use_now = λ has. ap is_some (part_id part page is.0 is.1)
                ∙ has_id o (ap is_some (sym (part_row part page is.0 is.1)) ∙ has);
          })
    ]
  ]

  ids_after : PlacesParts m n size first ids
  unfolding id_of
  ids_after = record {
    whole = λ page same. ap (λ v. v.id) (whole_mark size page refl same);
    parts = part_id;
    others = λ part page less other. same_id m n part page (changes.others part page less other);
  }

  -- the extent alone had each of its pages
  there : (page : ℕ) → IsIn page → is_some (id_of m size page) ≡ true
  there page same = ap is_some (id_alike m size page first s.small same) ∙ s.placed

  -- and its part has it afterwards
  part_has : (part page : ℕ) → part ≤ 3 → IsIn page → is_some (id_of n part page) ≡ true → suc part ≡ size
  part_has part page less same has = elim (where_at part page) [
    | inl whole ↦ absurd (false≢true (sym (ap is_some (ids_after.whole page same))
        ∙ subst (λ k. is_some (id_of n k page) ≡ true) whole.0 has))
    | inr rest ↦ elim rest [
      | inl is ↦ is.0
      | inr other ↦
          let before = ap is_some (sym (ids_after.others part page less other)) ∙ has in
          absurd (other (inl (s.marks.apart part size page less s.small before (there page same))) same)
    ]
  ]

  outside : (page : ℕ) → (IsIn page → ⊥) → (part : ℕ) → part ≤ 3 → id_of n part page ≡ id_of m part page
  outside page out part less = ids_after.others part page less (λ _ same. out same)

  apart_after : (a b page : ℕ) → a ≤ 3 → b ≤ 3 → is_some (id_of n a page) ≡ true → is_some (id_of n b page) ≡ true → a ≡ b
  apart_after a b page x y p q = elim (cases_eq (page / 8 ^ size) (first / 8 ^ size)) [
    | inl same ↦ omega (arith, part_has a page x same p, part_has b page y same q)
    | inr out ↦ s.marks.apart a b page x y (ap is_some (sym (outside page out a x)) ∙ p) (ap is_some (sym (outside page out b y)) ∙ q)
  ]

  placed_after : (page : ℕ) → is_populated n page ≡ true → is_placed n page ≡ true
  placed_after page is =
      let before = sym (pages_kept m n each page) ∙ is in
      placed_alike m n page (outside page (λ same. false≢true (sym (s.empty page same) ∙ before))) ∙ s.marks.placed page before

  pub split_extent : WasSplit m n size first ids
  split_extent = record {
    marks = marks_with_ids m n s.marks (ids_swapped m n each s.marks splits placed_after apart_after);
    placed = ids_after;
    empty = record {
      emptied = λ page same. pages_kept m n each page ∙ s.empty page same;
      others = λ page _. pages_kept m n each page;
    };
  }

  -- as many pages are placed
  pub split_count : length ids ≡ 8 → placed_pages n ≡ placed_pages m
  unfolding placed_pages
  split_count eight =
      ap (λ r. count_by (is_placed n) (range_with_len 0 (512 * r))) changes.roots
      ∙ count-agree (is_placed n) (is_placed m) 0 (512 * m.roots) (λ page _ _. elim (cases_eq (page / 8 ^ size) (first / 8 ^ size)) [
        | inr out ↦ placed_alike m n page (outside page out)
        | inl same ↦
            let part : suc (size - 1) ≡ size = omega (arith, s.large) in
            let low : page / 8 ^ (size - 1) % 8 < length ids = omega (arith, eight) in
            let has = ap is_some (ids_after.parts (size - 1) page part same) ∙ some_within ids (page / 8 ^ (size - 1) % 8) low in
            placed_by n (size - 1) page (omega (arith, s.small)) has ∙ sym (placed_by m size page s.small (there page same))
      ])

-- there is room for the nodes of its parts
pub split_room : (m : Arena Mark) (size first : ℕ) → AreMarks m → size ≤ 3 → is_some (id_of m size first) ≡ true
    → 3 * placed_pages m ≤ m.room → splits_with m (size - 1) first ≤ m.room
unfolding placed_pages
split_room m size first marks small has room =
    let most = room_for m (is_placed m) (size - 1) first (record { splits = marks.splits; pages = rows_placed m marks })
    (placed_by m size first small has) in
    omega (arith, most, room)
