-- A reservation's eight parts come into the map in its stead, and those that are no reservations go out of it.
use Rattle.std.proofs.Common.{◌≡◌, ◌≢◌, ℕ, zero, suc, ◌+◌, ◌-◌, ◌*◌, ◌/◌, ◌%◌, ◌^◌, ◌<◌, ◌≤◌, ◌⊎◌, true, false, Bool, List, length, get_or, set, slice_get, sum_by, Option, Some, None, inl, inr, sym, ap, subst, ◌∙◌, arith}
use Rattle.std.proofs.lemmas.Bool.{cases_Bool, cases_eq, cond-true, cond-false, false≢true}
use Rattle.std.proofs.lemmas.List.{get_or-set_same, get_or-set_other, length-set, set-get_or, ext_get_or}
use Rattle.std.proofs.lemmas.List.Sums.{sum_by-set}
use Rattle.std.proofs.lemmas.Option.{none-some, same_Some}
use Rattle.pager_model.specs.Bounds.{space_pages}
use Rattle.pager_model.specs.declared.reservation.Reservation.{Reservation}
use Rattle.pager_model.specs.Agreement.{has_frame}
use Rattle.pager_model.specs.Extents.{IsExtent}
use Rattle.pager_model.specs.FrameStates.{places_in}
use Rattle.pager_model.specs.Layouts.{covers}
use Rattle.pager_model.specs.Records.{part_of, is_part_empty, kept_part, split_records}
use Rattle.pager_model.specs.RecordPlaces.{IsPlaced}
use Rattle.population_map.specs.Populations.{Populations, page_at, id_of, placed_pages, SameRoom, PlacesParts}
use Rattle.pager_model.proofs.ExtentLemmas.{eight_pos, eight_parts, part_of_eight}
use Rattle.pager_model.proofs.RecordFrames.{has_frame_from, unused_in}
use Rattle.reservations.proofs.SplitLemmas.{split_up_to, split_up_to-more, kept_cases, part_placed}
use Rattle.frame_pool.specs.Mapped.{IsMapped, MayEnter}
use Rattle.frame_pool.proofs.ListsByFrame.{found_record_and}
use Rattle.frame_pool.proofs.MappedPages.{covered_in, in_covered, end_in_space}
use Rattle.frame_pool.proofs.MappedRecords.{HasAt}
use Rattle.frame_pool.proofs.PartRecords.{split_suc, length-split, parts_apart, part_known, split_at, split_other}
use Rattle.pager_laws.proofs.EightParts.{eight_count}
use Rattle.pager_laws.proofs.PagePlaces.{CoversPageOf-covers, covers-CoversPageOf}
use Rattle.pager_laws.proofs.SplitFrames.{covers_whole, one_part_covers}

-- the number of a page's part says which pages the part has
page_part : (k space first page : ℕ) → k < 3 → first % 8 ^ suc k ≡ 0 → first ≤ page → page < first + 8 ^ suc k
    → (first + page_at space page / 8 ^ k % 8 * 8 ^ k ≤ page) × (page < first + page_at space page / 8 ^ k % 8 * 8 ^ k + 8 ^ k)
page_part zero space first page small aligned low high = (omega arith, omega arith)
page_part (suc zero) space first page small aligned low high = (omega arith, omega arith)
page_part (suc (suc zero)) space first page small aligned low high = (omega arith, omega arith)
page_part (suc (suc (suc k))) space first page small aligned low high = absurd (omega arith)

-- by this test all places are used
abbrev pub all_used : ℕ → Bool
all_used frame = true

-- and all eight parts are reservations
kept_all : (r : Reservation) (i : ℕ) → kept_part all_used r i ≡ Some (part_of r i)
kept_all r i = elim (kept_cases all_used r i) [
  | inl empty ↦ absurd (false≢true (sym (unused_in all_used (part_of r i).frame (8 ^ (r.size - 1)) empty.1 (part_of r i).frame (omega arith)
      (omega (arith, eight_pos (r.size - 1))))))
  | inr whole ↦ whole
]

-- all parts of a reservation stand that may come into these records
abbrev pub with_parts : Reservation → List (Option Reservation) → List (Option Reservation)
with_parts r records = split_up_to 8 all_used r records

-- of the first n parts those without a used place went
abbrev pub looked : ℕ → (ℕ → Bool) → Reservation → List (Option Reservation) → List (Option Reservation)
looked n used r records = split_up_to n used r (with_parts r records)

module _ (r : Reservation) (records : List (Option Reservation)) (splits : 0 < r.size) (may : MayEnter records r) where
  abbrev with_it : List (Option Reservation)
  with_it = set records r.frame (Some r)

  abbrev all : List (Option Reservation)
  all = with_parts r records

  abbrev first : ℕ → ℕ
  first i = (part_of r i).frame

  -- a frame is the first one of a part, or of none
  which : (n id : ℕ) → ((i : ℕ) × (i < n) × (id ≡ first i)) ⊎ ((i : ℕ) → i < n → id ≡ first i → ⊥)
  which zero id = inr (λ i low _. omega (arith, low))
  which (suc n) id = elim (cases_eq id (first n)) [
    | inl here ↦ inl (n, omega arith, here)
    | inr other ↦ elim (which n id) [
      | inl part ↦ inl (part.0, omega (arith, part.1), part.2)
      | inr none ↦ inr (λ i low same. elim (cases_eq i n) [
        | inl last ↦ other (same ∙ ap first last)
        | inr apart ↦ none i (omega (arith, low, apart)) same
      ])
    ]
  ]

  at_part : (i : ℕ) → i < 8 → get_or all (first i) None ≡ Some (part_of r i)
  at_part i low = split_at all_used r records splits may.placed 8 i low (omega arith) ∙ kept_all r i

  at_other : (id : ℕ) → ((i : ℕ) → i < 8 → id ≡ first i → ⊥) → get_or all id None ≡ get_or records id None
  at_other id none = split_other all_used r records splits may.placed 8 id none

  not_first : (id : ℕ) → ((i : ℕ) → i < 8 → id ≡ first i → ⊥) → id ≢ r.frame
  not_first id none same = none 0 (omega arith) (omega (arith, same))

  -- the whole stood at its frame, and none at the other parts'
  pub whole_stands : get_or with_it r.frame None ≡ Some r
  whole_stands = get_or-set_same records r.frame (Some r) None (omega (arith, may.placed.within, eight_pos r.size))

  there : (id : ℕ) → id ≢ r.frame → get_or with_it id None ≡ get_or records id None
  there id other = get_or-set_other records r.frame id (Some r) None other

  pub part_inside_it : (i : ℕ) → i < 8 → has_frame (first i) (Some r) ≡ true
  part_inside_it i low = has_frame_from (first i) r (omega arith) (omega (arith, part_of_eight i r.size splits low, eight_pos (r.size - 1)))

  none_there : (i : ℕ) → i < 8 → get_or records (first i) None ≡ None
  none_there i low = may.none (first i) (part_inside_it i low)

  -- the pages of a part
  pub part_pages : (i : ℕ) → i < 8 → IsExtent (part_of r i).size (part_of r i).first
  part_pages i low = (part_placed (length records) i r may.placed splits low).pages_aligned

  -- the parts have as many places as the whole
  part_places : (n : ℕ) → n ≤ 8 → sum_by places_in (split_up_to n all_used r records) ≡ sum_by places_in records + n * 8 ^ (r.size - 1)
  part_places zero le = omega arith
  part_places (suc n) le =
      let before = split_up_to n all_used r records in
      let known : first n < length before = omega (
        arith,
        part_known all_used r records splits may.placed n (omega arith),
        length-split all_used r records splits may.placed n,
      ) in
      let none : get_or before (first n) None ≡ None =
      split_other all_used r records splits may.placed n (first n) (λ i low same. omega
      (arith, low, parts_apart all_used r records splits may.placed n i same)) ∙ none_there n (omega arith) in
      let change = sum_by-set places_in before (first n) (kept_part all_used r n) None known in
      let step : sum_by places_in (split_up_to (suc n) all_used r records) ≡ sum_by places_in (set before (first n) (kept_part all_used r n)) =
      ap (sum_by places_in) (split_suc n all_used r records) in
      omega (arith, step, change, ap places_in none, ap places_in (kept_all r n), part_places n (omega arith))

  whole_places : sum_by places_in with_it ≡ sum_by places_in all
  whole_places =
      let known : r.frame < length records = omega (arith, may.placed.within, eight_pos r.size) in
      let none : get_or records r.frame None ≡ None = may.none r.frame
      (has_frame_from r.frame r (omega arith) (omega (arith, eight_pos r.size))) in
      omega (
        arith,
        sum_by-set places_in records r.frame (Some r) None known,
        ap places_in none,
        part_places 8 (omega arith),
        eight_parts r.size splits,
      )

  -- ---- the parts come into the map

  module _ (m n : Populations) (ids : List ℕ) (mapped : IsMapped m with_it)
      (told : (i : ℕ) → i < 8 → slice_get ids i ≡ Some (first i)) (places : PlacesParts m n r.size (page_at r.space r.first) ids) where
    in_it : (s p : ℕ) → covers s p r ≡ true → page_at s p / 8 ^ r.size ≡ page_at r.space r.first / 8 ^ r.size
    in_it s p has = covered_in r may.placed.pages_aligned may.within s p has

    -- the extent of a size round a page is the reservation's, or its part's, or another
    where_at : (k s p : ℕ) → ((k ≡ r.size) × (covers s p r ≡ true)) ⊎ (((suc k ≡ r.size) × (covers s p r ≡ true))
        ⊎ (k ≡ r.size ⊎ suc k ≡ r.size → covers s p r ≡ true → ⊥))
    where_at k s p = elim (cases_Bool (covers s p r)) [
      | inr not ↦ inr (inr (λ _ has. false≢true (sym not ∙ has)))
      | inl has ↦ elim (cases_eq k r.size) [
        | inl whole ↦ inl (whole, has)
        | inr not_whole ↦ elim (cases_eq (suc k) r.size) [
          | inl part ↦ inr (inl (part, has))
          | inr not_part ↦ inr (inr (λ either _. elim either [ inl e ↦ not_whole e | inr e ↦ not_part e ]))
        ]
      ]
    ]

    id_whole : (k s p : ℕ) → k ≡ r.size → covers s p r ≡ true → id_of n k (page_at s p) ≡ None
    id_whole k s p same has = ap (λ j. id_of n j (page_at s p)) same ∙ places.whole (page_at s p) (in_it s p has)

    id_part : (k s p : ℕ) → suc k ≡ r.size → covers s p r ≡ true → id_of n k (page_at s p) ≡ Some (first (page_at s p / 8 ^ k % 8))
    id_part k s p next has = places.parts k (page_at s p) next (in_it s p has) ∙ told (page_at s p / 8 ^ k % 8) (omega arith)

    id_else : (k s p : ℕ) → k ≤ 3 → p < space_pages → (k ≡ r.size ⊎ suc k ≡ r.size → covers s p r ≡ true → ⊥)
        → id_of n k (page_at s p) ≡ id_of m k (page_at s p)
    id_else k s p small low else =
        places.others k (page_at s p) small
        (λ either same. else either (in_covered r may.placed.pages_aligned may.within s p low same))

    -- the part of that number has the page
    part_covers : (k s p : ℕ) → suc k ≡ r.size → covers s p r ≡ true → covers s p (part_of r (page_at s p / 8 ^ k % 8)) ≡ true
    part_covers k s p next has =
        let at = CoversPageOf-covers s p r has in
        let i = page_at s p / 8 ^ k % 8 in
        let size : r.size - 1 ≡ k = omega (arith, next) in
        let width : 8 ^ (r.size - 1) ≡ 8 ^ k = ap (λ e. 8 ^ e) size in
        let start : i * 8 ^ (r.size - 1) ≡ i * 8 ^ k = ap (λ e. i * 8 ^ e) size in
        let whole : 8 ^ r.size ≡ 8 ^ suc k = ap (λ e. 8 ^ e) (sym next) in
        let bounds = page_part k s r.first p (omega (arith, next, may.placed.pages_aligned.0))
        (subst (λ e. r.first % 8 ^ e ≡ 0) (sym next) may.placed.pages_aligned.1) at.low (omega (arith, at.high, whole)) in
        covers-CoversPageOf s p (part_of r i) (record {
          space_is = at.space_is;
          low = omega (arith, bounds.0, start);
          high = omega (arith, bounds.1, start, width);
        })

    id_to : (s p k j : ℕ) → s < 16 → p < space_pages → k ≤ 3 → id_of n k (page_at s p) ≡ Some j → HasAt k s p (get_or all j None)
    id_to s p k j known low small is = elim (where_at k s p) [
      | inl whole ↦ absurd (none-some j (sym (id_whole k s p whole.0 whole.1) ∙ is))
      | inr rest ↦ elim rest [
        | inl part ↦
            let i = page_at s p / 8 ^ k % 8 in
            let same = same_Some (first i) j (sym (id_part k s p part.0 part.1) ∙ is) in
            subst (HasAt k s p) (sym (ap (λ q. get_or all q None) (sym same) ∙ at_part i (omega arith)))
            (omega (arith, part.0), part_covers k s p part.0 part.1)
        | inr else ↦
            let was = (mapped.exact s p k j known low small).0 (sym (id_else k s p small low else) ∙ is) in
            elim (cases_eq j r.frame) [
              | inl same ↦
                  let own = subst (HasAt k s p) (ap (λ q. get_or with_it q None) same ∙ whole_stands) was in
                  absurd (else (inl (sym own.0)) own.1)
              | inr other ↦
                  let before = subst (HasAt k s p) (there j other) was in
                  elim (which 8 j) [
                    | inl part ↦ absurd (subst (HasAt k s p) (ap (λ q. get_or records q None) part.2 ∙ none_there part.0 part.1) before)
                    | inr none ↦ subst (HasAt k s p) (sym (at_other j none)) before
                  ]
            ]
      ]
    ]

    id_from : (s p k j : ℕ) → s < 16 → p < space_pages → k ≤ 3 → HasAt k s p (get_or all j None) → id_of n k (page_at s p) ≡ Some j
    id_from s p k j known low small has = elim (which 8 j) [
      | inl part ↦
          let i = part.0 in
          let own = subst (HasAt k s p) (ap (λ q. get_or all q None) part.2 ∙ at_part i part.1) has in
          let next : suc k ≡ r.size = omega (arith, own.0, splits) in
          let whole = covers_whole (r.size - 1) s p i r (omega arith) (omega (arith, part.1, eight_count r splits)) own.1 in
          let same = one_part_covers (r.size - 1) s p (page_at s p / 8 ^ k % 8) i r (part_covers k s p next whole) own.1 in
          id_part k s p next whole ∙ ap (λ q. Some (first q)) same ∙ ap Some (sym part.2)
      | inr none ↦
          let before = subst (HasAt k s p) (at_other j none) has in
          let q = found_record_and (get_or records j None) (λ t. (t.size ≡ k) × (covers s p t ≡ true)) before in
          let else : covers s p r ≡ true → ⊥ = λ also.
          let space = (CoversPageOf-covers s p r also).space_is in
          may.apart j p q.0 q.1 (subst (λ t. covers t p r ≡ true) (sym space) also) (subst (λ t. covers t p q.0 ≡ true) (sym space) q.2.1) in
          id_else k s p small low (λ _ also. else also)
          ∙ (mapped.exact s p k j known low small).1 (subst (HasAt k s p) (sym (there j (not_first j none))) before)
    ]

    pages_of_parts : (id : ℕ) (q : Reservation) → get_or all id None ≡ Some q → (q.space < 16) × (q.first < space_pages)
    pages_of_parts id q is = elim (which 8 id) [
      | inl part ↦
          let same = same_Some (part_of r part.0) q (sym (at_part part.0 part.1) ∙ ap (λ j. get_or all j None) (sym part.2) ∙ is) in
          let end = end_in_space r.size r.first may.placed.pages_aligned may.within in
          let ends = part_of_eight part.0 r.size splits part.1 in
          subst (λ (t : Reservation). (t.space < 16) × (t.first < space_pages)) same
          (may.known, omega (arith, end, ends, eight_pos (r.size - 1)))
      | inr none ↦ mapped.pages id q (there id (not_first id none) ∙ sym (at_other id none) ∙ is)
    ]

    pub IsMapped-parts : SameRoom m n → placed_pages n ≡ placed_pages m → IsMapped n all
    IsMapped-parts same count = record {
      spaces = ap (λ k. k / 2048) same.roots ∙ mapped.spaces;
      exact = λ s p k j known low small. (id_to s p k j known low small, id_from s p k j known low small);
      pages = pages_of_parts;
      room = ap (λ k. k / 3) same.room ∙ mapped.room ∙ length-set records r.frame (Some r)
          ∙ sym (length-split all_used r records splits may.placed 8);
      few = omega (arith, count, mapped.few, whole_places);
    }

  -- ---- and those without a used place go

  module _ (used : ℕ → Bool) where
    all_placed : IsPlaced (length all) r.frame r
    all_placed = subst (λ n. IsPlaced n r.frame r) (sym (length-split all_used r records splits may.placed 8)) may.placed

    -- the next part stands still
    pub part_stands : (i : ℕ) → i < 8 → get_or (looked i used r records) (first i) None ≡ Some (part_of r i)
    part_stands i low =
        split_other used r all splits all_placed i (first i) (λ j before same. omega
        (arith, before, parts_apart used r all splits all_placed i j same)) ∙ at_part i low

    -- and goes
    pub looked-gone : (i : ℕ) → is_part_empty used r i ≡ true → set (looked i used r records) (first i) None ≡ looked (i + 1) used r records
    looked-gone i empty = elim (kept_cases used r i) [
      | inl gone ↦ ap (set (looked i used r records) (first i)) (sym gone.0) ∙ sym (split_up_to-more i used r all)
      | inr kept ↦ absurd (none-some (part_of r i) (sym (cond-true _ _ _ empty) ∙ kept))
    ]

    -- or stays
    pub looked-kept : (i : ℕ) → i < 8 → is_part_empty used r i ≡ false → looked i used r records ≡ looked (i + 1) used r records
    looked-kept i low filled =
        sym (split_up_to-more i used r all
        ∙ ap (set (looked i used r records) (first i)) (cond-false _ _ _ filled ∙ sym (part_stands i low))
        ∙ set-get_or (looked i used r records) (first i) None)

    pub looked-all : looked 8 used r records ≡ split_records used r records
    looked-all =
        let long = length-split used r all splits all_placed 8 ∙ length-split all_used r records splits may.placed 8
        ∙ sym (length-split used r records splits may.placed 8) in
        ext_get_or None (looked 8 used r records) (split_up_to 8 used r records) long (λ id _. elim (which 8 id) [
          | inl part ↦
              ap (λ j. get_or (looked 8 used r records) j None) part.2 ∙ split_at used r all splits all_placed 8 part.0 part.1 (omega arith)
              ∙ sym (split_at used r records splits may.placed 8 part.0 part.1 (omega arith))
              ∙ ap (λ j. get_or (split_up_to 8 used r records) j None) (sym part.2)
          | inr none ↦
              split_other used r all splits all_placed 8 id none ∙ at_other id none
              ∙ sym (split_other used r records splits may.placed 8 id none)
        ])
