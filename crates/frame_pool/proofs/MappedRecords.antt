-- What the map has to be as reservations come and go.
use Rattle.std.proofs.Common.{◌≡◌, ◌≢◌, ℕ, ◌+◌, ◌/◌, ◌^◌, ◌<◌, ◌≤◌, ◌⊎◌, true, ◌&&◌, eqb, leb, ltb, replicate, List, length, get_or, set, sum_by, Option, Some, None, is_some, IsSomeAnd, inl, inr, refl, sym, ap, subst, ◌∙◌, arith}
use Rattle.std.proofs.lemmas.Bool.{cases_Bool, cases_eq, false≢true}
use Rattle.std.proofs.lemmas.List.{get_or-set_same, get_or-set_other, length-replicate, length-set}
use Rattle.std.proofs.lemmas.List.Sums.{sum_by-set}
use Rattle.std.proofs.lemmas.Option.{none-some, same_Some}
use Rattle.pager_model.specs.Bounds.{space_pages}
use Rattle.pager_model.specs.declared.reservation.Reservation.{Reservation}
use Rattle.pager_model.specs.Extents.{IsExtent}
use Rattle.pager_model.specs.FrameStates.{places_in}
use Rattle.pager_model.specs.Layouts.{covers}
use Rattle.pager_model.proofs.Lists.{get_or-alike, get_or_within, get_or-set_default, unset_before}
use Rattle.pager_model.proofs.Options.{none_from_never}
use Rattle.population_map.specs.Populations.{Populations, page_at, id_of, placed_pages, space_count, frame_count, IsInNone, SameRoom, PlacesOnly}
use Rattle.pager_model.proofs.ExtentLemmas.{eight_pos}
use Rattle.pager_model.proofs.RecordFrames.{has_frame_from}
use Rattle.frame_pool.specs.Mapped.{IsMapped, MayEnter}
use Rattle.frame_pool.proofs.ListsByFrame.{found_record_and}
use Rattle.frame_pool.proofs.MappedPages.{covered_in, in_covered, page_in}
use Rattle.pager_laws.proofs.PagePlaces.{CoversPageOf-covers, covers-CoversPageOf}

-- the reservation is of the size and has the page
abbrev pub HasAt : ℕ → ℕ → ℕ → Option Reservation → Type 0
HasAt k s p o = IsSomeAnd o (λ r. (r.size ≡ k) × (covers s p r ≡ true))

-- the extent of a size round a page is the reservation's, or another
its_own : (r : Reservation) (k s p : ℕ) → ((k ≡ r.size) × (covers s p r ≡ true)) ⊎ (k ≡ r.size → covers s p r ≡ true → ⊥)
its_own r k s p = elim (cases_eq k r.size) [
  | inr apart ↦ inr (λ same _. apart same)
  | inl same ↦ elim (cases_Bool (covers s p r)) [
    | inl has ↦ inl (same, has)
    | inr not ↦ inr (λ _ has. false≢true (sym not ∙ has))
  ]
]

-- ids after the extent of a reservation changed alone
module _ (m n : Populations) (r : Reservation) (pages : IsExtent r.size r.first) (low : r.first < space_pages) (o : Option ℕ)
    (places : PlacesOnly m n r.size (page_at r.space r.first) o) where
  id_here : (k s p : ℕ) → k ≡ r.size → covers s p r ≡ true → id_of n k (page_at s p) ≡ o
  id_here k s p same has = ap (λ j. id_of n j (page_at s p)) same ∙ places.changed (page_at s p) (covered_in r pages low s p has)

  id_else : (k s p : ℕ) → k ≤ 3 → p < space_pages → (k ≡ r.size → covers s p r ≡ true → ⊥) → id_of n k (page_at s p) ≡ id_of m k (page_at s p)
  id_else k s p small known else =
      places.others k (page_at s p) small
      (λ same at. else same
      (in_covered r pages low s p known (subst (λ j. page_at s p / 8 ^ j ≡ page_at r.space r.first / 8 ^ j) same at)))

-- ---- a reservation comes in

module _ (m : Populations) (records : List (Option Reservation)) (r : Reservation) (mapped : IsMapped m records) (may : MayEnter records r) where
  abbrev with_it : List (Option Reservation)
  with_it = set records r.frame (Some r)

  first_free : get_or records r.frame None ≡ None
  first_free = may.none r.frame (has_frame_from r.frame r (omega arith) (omega (arith, eight_pos r.size)))

  first_known : r.frame < length records
  first_known = omega (arith, may.placed.within, eight_pos r.size)

  -- the records with it
  here : (j : ℕ) → j ≡ r.frame → get_or with_it j None ≡ Some r
  here j same = ap (λ k. get_or with_it k None) same ∙ get_or-set_same records r.frame (Some r) None first_known

  there : (j : ℕ) → j ≢ r.frame → get_or with_it j None ≡ get_or records j None
  there j other = get_or-set_other records r.frame j (Some r) None other

  pages_with : (id : ℕ) (q : Reservation) → get_or with_it id None ≡ Some q → (q.space < 16) × (q.first < space_pages)
  pages_with id q is = elim (cases_eq id r.frame) [
    | inl same ↦ subst (λ (t : Reservation). (t.space < 16) × (t.first < space_pages)) (same_Some r q (sym (here id same) ∙ is))
        (may.known, may.within)
    | inr other ↦ mapped.pages id q (sym (there id other) ∙ is)
  ]

  places_with : sum_by places_in with_it ≡ sum_by places_in records + 8 ^ r.size
  places_with = omega (arith, sum_by-set places_in records r.frame (Some r) None first_known, ap places_in first_free)

  -- the exact ids: by the extent of the reservation, and by the others
  module _ (n : Populations) (places : PlacesOnly m n r.size (page_at r.space r.first) (Some r.frame)) where
    id_to : (s p k j : ℕ) → s < 16 → p < space_pages → k ≤ 3 → id_of n k (page_at s p) ≡ Some j → HasAt k s p (get_or with_it j None)
    id_to s p k j known low small is = elim (its_own r k s p) [
      | inl own ↦
          let same = same_Some r.frame j (sym (id_here m n r may.placed.pages_aligned may.within (Some r.frame) places k s p own.0 own.1)
          ∙ is) in
          subst (HasAt k s p) (sym (here j (sym same))) (sym own.0, own.1)
      | inr else ↦
          let was = (mapped.exact s p k j known low small).0
          (sym (id_else m n r may.placed.pages_aligned may.within (Some r.frame) places k s p small low else) ∙ is) in
          elim (cases_eq j r.frame) [
            | inl same ↦ absurd (subst (HasAt k s p) (ap (λ i. get_or records i None) same ∙ first_free) was)
            | inr other ↦ subst (HasAt k s p) (sym (there j other)) was
          ]
    ]

    id_from : (s p k j : ℕ) → s < 16 → p < space_pages → k ≤ 3 → HasAt k s p (get_or with_it j None) → id_of n k (page_at s p) ≡ Some j
    id_from s p k j known low small has = elim (cases_eq j r.frame) [
      | inl same ↦
          let own = subst (HasAt k s p) (here j same) has in
          id_here m n r may.placed.pages_aligned may.within (Some r.frame) places k s p (sym own.0) own.1 ∙ ap Some (sym same)
      | inr other ↦
          let was = subst (HasAt k s p) (there j other) has in
          let q = found_record_and (get_or records j None) (λ t. (t.size ≡ k) × (covers s p t ≡ true)) was in
          id_else m n r may.placed.pages_aligned may.within (Some r.frame) places k s p small low
          (λ _ also.
          let space = (CoversPageOf-covers s p r also).space_is in
          may.apart j p q.0 q.1 (subst (λ t. covers t p r ≡ true) (sym space) also) (subst (λ t. covers t p q.0 ≡ true) (sym space) q.2.1))
          ∙ (mapped.exact s p k j known low small).1 was
    ]

    pub IsMapped-entered : SameRoom m n → placed_pages n ≡ placed_pages m + 8 ^ r.size → IsMapped n with_it
    IsMapped-entered same count = record {
      spaces = ap (λ k. k / 2048) same.roots ∙ mapped.spaces;
      exact = λ s p k j known low small. (id_to s p k j known low small, id_from s p k j known low small);
      pages = pages_with;
      room = ap (λ k. k / 3) same.room ∙ mapped.room ∙ sym (length-set records r.frame (Some r));
      few = omega (arith, places_with, count, mapped.few);
    }

  -- what placing it requires
  pub entering_known : r.space < space_count m
  entering_known = omega (arith, may.known, mapped.spaces)

  pub entering_apart : (page : ℕ) → page / 8 ^ r.size ≡ page_at r.space r.first / 8 ^ r.size → IsInNone m page
  entering_apart page same k small =
      let at = page_in r.size r.space r.first page may.placed.pages_aligned may.within same in
      let covered = covers-CoversPageOf r.space at.0 r (record { space_is = refl; low = at.3; high = at.4 }) in
      ap (id_of m k) at.1 ∙ none_from_never (id_of m k (page_at r.space at.0))
      (λ j is.
      let q = found_record_and (get_or records j None) (λ t. (t.size ≡ k) × (covers r.space at.0 t ≡ true))
      ((mapped.exact r.space at.0 k j may.known at.2 small).0 is) in
      may.apart j at.0 q.0 q.1 covered q.2.1)

  pub entering_id : r.frame < frame_count m
  entering_id = omega (arith, first_known, mapped.room)

  pub entering_room : placed_pages m + 8 ^ r.size ≤ frame_count m
  entering_room = omega (arith, mapped.few, mapped.room, may.few)

-- ---- a reservation goes

module _ (m : Populations) (records : List (Option Reservation)) (id : ℕ) (r : Reservation) (mapped : IsMapped m records)
    (is : get_or records id None ≡ Some r) (pages : IsExtent r.size r.first) where
  abbrev without_it : List (Option Reservation)
  without_it = set records id None

  low_of : r.first < space_pages
  low_of = (mapped.pages id r is).1

  -- the records without it
  gone : (j : ℕ) → j ≡ id → get_or without_it j None ≡ None
  gone j same = get_or-set_default records id j None same

  stays : (j : ℕ) → j ≢ id → get_or without_it j None ≡ get_or records j None
  stays j other = get_or-set_other records id j None None other

  pages_without : (j : ℕ) (q : Reservation) → get_or without_it j None ≡ Some q → (q.space < 16) × (q.first < space_pages)
  pages_without j q at = mapped.pages j q (unset_before records id j None (Some q) (none-some q) at).1

  places_without : sum_by places_in without_it + 8 ^ r.size ≡ sum_by places_in records
  places_without = omega (arith, sum_by-set places_in records id None None (get_or_within records id r is), ap places_in is)

  -- its extent is placed with its id
  own_id : (k s p : ℕ) → s < 16 → p < space_pages → k ≡ r.size → covers s p r ≡ true → id_of m k (page_at s p) ≡ Some id
  own_id k s p known low same has = (mapped.exact s p k id known low (omega (arith, same, pages.0))).1
      (subst (HasAt k s p) (sym is) (sym same, has))

  -- what taking it out requires
  pub leaving_known : r.space < space_count m
  leaving_known = omega (arith, (mapped.pages id r is).0, mapped.spaces)

  pub leaving_placed : is_some (id_of m r.size (page_at r.space r.first)) ≡ true
  leaving_placed =
      let first = covers-CoversPageOf r.space r.first r
      (record { space_is = refl; low = omega arith; high = omega (arith, eight_pos r.size) }) in
      ap is_some (own_id r.size r.space r.first (mapped.pages id r is).0 low_of refl first)

  module _ (n : Populations) (places : PlacesOnly m n r.size (page_at r.space r.first) None) where
    left_to : (s p k j : ℕ) → s < 16 → p < space_pages → k ≤ 3 → id_of n k (page_at s p) ≡ Some j → HasAt k s p (get_or without_it j None)
    left_to s p k j known low small at = elim (its_own r k s p) [
      | inl own ↦ absurd (none-some j (sym (id_here m n r pages low_of None places k s p own.0 own.1) ∙ at))
      | inr else ↦
          let was = (mapped.exact s p k j known low small).0 (sym (id_else m n r pages low_of None places k s p small low else) ∙ at) in
          elim (cases_eq j id) [
            | inl same ↦
                let own = subst (HasAt k s p) (ap (λ i. get_or records i None) same ∙ is) was in
                absurd (else (sym own.0) own.1)
            | inr other ↦ subst (HasAt k s p) (sym (stays j other)) was
          ]
    ]

    left_from : (s p k j : ℕ) → s < 16 → p < space_pages → k ≤ 3 → HasAt k s p (get_or without_it j None) → id_of n k (page_at s p) ≡ Some j
    left_from s p k j known low small has = elim (cases_eq j id) [
      | inl same ↦ absurd (subst (HasAt k s p) (gone j same) has)
      | inr other ↦
          let was = (mapped.exact s p k j known low small).1 (subst (HasAt k s p) (stays j other) has) in
          id_else m n r pages low_of None places k s p small low (λ same also. other
          (same_Some j id (sym was ∙ own_id k s p known low same also))) ∙ was
    ]

    pub IsMapped-left : SameRoom m n → placed_pages n + 8 ^ r.size ≡ placed_pages m → IsMapped n without_it
    IsMapped-left same count = record {
      spaces = ap (λ k. k / 2048) same.roots ∙ mapped.spaces;
      exact = λ s p k j known low small. (left_to s p k j known low small, left_from s p k j known low small);
      pages = pages_without;
      room = ap (λ k. k / 3) same.room ∙ mapped.room ∙ sym (length-set records id None);
      few = omega (arith, places_without, count, mapped.few);
    }

-- ---- a reservation becomes younger, and none is at first

-- where one stands with the same pages, the map stays
pub IsMapped-alike : (m : Populations) (records : List (Option Reservation)) (id : ℕ) (r q : Reservation) → IsMapped m records
    → get_or records id None ≡ Some r → q.space ≡ r.space → q.first ≡ r.first → q.size ≡ r.size → IsMapped m (set records id (Some q))
IsMapped-alike m records id r q mapped is space first size = record {
  spaces = mapped.spaces;
  exact = λ s p k j known low small.
      let was = mapped.exact s p k j known low small in
      elim (cases_eq j id) [
        | inl same ↦
            let at_old = ap (λ i. get_or records i None) same ∙ is in
            let at_new = ap (λ i. get_or (set records id (Some q)) i None) same
            ∙ get_or-set_same records id (Some q) None (get_or_within records id r is) in (
              λ h. let own = subst (HasAt k s p) at_old (was.0 h) in subst (HasAt k s p) (sym at_new)
                  (size ∙ own.0, sym (alike s p) ∙ own.1),
              λ h. let own = subst (HasAt k s p) at_new h in was.1 (subst (HasAt k s p) (sym at_old) (sym size ∙ own.0, alike s p ∙ own.1)),
            )
        | inr other ↦
            let stays = get_or-set_other records id j (Some q) None other in
            (λ h. subst (HasAt k s p) (sym stays) (was.0 h), λ h. was.1 (subst (HasAt k s p) stays h))
      ];
  pages = λ j t at. elim (cases_eq j id) [
    | inl same ↦
        let at_new = ap (λ i. get_or (set records id (Some q)) i None) same
        ∙ get_or-set_same records id (Some q) None (get_or_within records id r is) in
        let was = mapped.pages id r is in
        subst (λ (u : Reservation). (u.space < 16) × (u.first < space_pages)) (same_Some q t (sym at_new ∙ at))
        (omega (arith, was.0, space), omega (arith, was.1, first))
    | inr other ↦ mapped.pages j t (sym (get_or-set_other records id j (Some q) None other) ∙ at)
  ];
  room = mapped.room ∙ sym (length-set records id (Some q));
  few =
      let change = sum_by-set places_in records id (Some q) None (get_or_within records id r is) in
      let same : 8 ^ q.size ≡ 8 ^ r.size = ap (λ k. 8 ^ k) size in
      omega (arith, change, same, ap places_in is, mapped.few);
}
  where
    alike : (s p : ℕ) → covers s p r ≡ covers s p q
    alike s p =
        ap (λ n. eqb n s && (leb r.first p && ltb p (r.first + 8 ^ r.size))) (sym space)
        ∙ ap (λ n. eqb q.space s && (leb n p && ltb p (n + 8 ^ r.size))) (sym first)
        ∙ ap (λ k. eqb q.space s && (leb q.first p && ltb p (q.first + 8 ^ k))) (sym size)

-- without a reservation no extent is placed
pub IsMapped-start : (m : Populations) (frames : ℕ) → ((size page : ℕ) → id_of m size page ≡ None) → placed_pages m ≡ 0 → space_count m ≡ 16
    → frame_count m ≡ frames → IsMapped m (replicate frames None)
IsMapped-start m frames no_extent no_page spaces room = record {
  spaces = spaces;
  exact = λ s p k j _ _ _. (
    λ is. absurd (none-some j (sym (no_extent k (page_at s p)) ∙ is)),
    λ has. absurd (subst (HasAt k s p) (get_or-alike frames j None) has),
  );
  pages = λ id r is. absurd (none-some r (sym (get_or-alike frames id None) ∙ is));
  room = room ∙ sym (length-replicate frames None);
  few = omega (arith, no_page);
}
