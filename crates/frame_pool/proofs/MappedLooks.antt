-- What the map answers of a page, and of an extent of pages.
use Rattle.std.proofs.Common.{◌≡◌, ℕ, ◌+◌, ◌/◌, ◌^◌, ◌<◌, ◌≤◌, suc, Bool, true, false, eqb, ltb, ◌&&◌, List, [], ◌∷◌, get_or, max, Option, Some, None, IsSomeAnd, refl, sym, ap, subst, ◌∙◌, inl, inr, arith}
use Rattle.std.specs.List.{list_any}
use Rattle.std.proofs.lemmas.Bool.{or_cases, and_parts, and_from, eq-eqb, eqb-true, lt-ltb, ltb-true, false≢true, false_from_ne_true}
use Rattle.std.proofs.lemmas.List.Folds.{list_any_at}
use Rattle.std.proofs.lemmas.Option.{none-some}
use Rattle.pager_model.specs.Bounds.{space_pages}
use Rattle.pager_model.specs.declared.extent.Extent.{Extent}
use Rattle.pager_model.specs.declared.reservation.Reservation.{Reservation}
use Rattle.pager_model.specs.Extents.{IsExtent}
use Rattle.pager_model.specs.Layouts.{covers, covering, meets, meets_any}
use Rattle.population_map.specs.Populations.{Populations, page_at, id_of, is_placed, IsInNone}
use Rattle.population_map.proofs.Marks.{placed_size}
use Rattle.pager_model.specs.RecordPlaces.{ArePlaced}
use Rattle.pager_model.proofs.ExtentLemmas.{eight_pos}
use Rattle.pager_model.proofs.Lists.{get_or_within}
use Rattle.pager_model.proofs.Options.{some_from_is_some}
use Rattle.frame_pool.specs.Mapped.{IsMapped, OneCovers}
use Rattle.frame_pool.proofs.ListsByFrame.{found_record_and}
use Rattle.frame_pool.proofs.MappedPages.{end_in_space, in_page, page_in}
use Rattle.pager_laws.proofs.PagePlaces.{CoversPageOf-covers, covers-CoversPageOf, covering-found, covering-none}

-- of one page
module _ (m : Populations) (records : List (Option Reservation)) (space page : ℕ) (mapped : IsMapped m records) (known : space < 16)
    (low : page < space_pages) where
  pub covering-looked : (size id : ℕ) → OneCovers records → size ≤ 3 → id_of m size (page_at space page) ≡ Some id
      → get_or records id None ≡ covering space page records
  covering-looked size id one small is =
      let q = found_record_and (get_or records id None) (λ r. (r.size ≡ size) × (covers space page r ≡ true))
      ((mapped.exact space page size id known low small).0 is) in
      q.1 ∙ at q.0 q.1 q.2.1 (covering space page records) refl
    where
      at : (r : Reservation) → get_or records id None ≡ Some r → covers space page r ≡ true → (o : Option Reservation)
          → covering space page records ≡ o → Some r ≡ covering space page records
      at r stands has None none = absurd (false≢true (sym (covering-none space page records none id r stands) ∙ has))
      at r stands has (Some q) found =
          let w = covering-found space page records q found in
          let same = one id w.0 space page r q stands w.2 has w.3 in
          sym stands ∙ ap (λ j. get_or records j None) same ∙ w.2 ∙ sym found

  pub covering-not_looked : ArePlaced records → IsInNone m (page_at space page) → covering space page records ≡ None
  covering-not_looked placed none = at (covering space page records) refl
    where
      at : (o : Option Reservation) → covering space page records ≡ o → covering space page records ≡ None
      at None is = is
      at (Some r) is =
          let w = covering-found space page records r is in
          let small = (placed w.0 r w.2).aligned.0 in
          let id = (mapped.exact space page r.size w.0 known low small).1
          (subst (λ o. IsSomeAnd o (λ q. (q.size ≡ r.size) × (covers space page q ≡ true))) (sym w.2) (refl, w.3)) in
          absurd (none-some w.0 (sym (none r.size small) ∙ id))

-- what any passes, one passes
any_one : {X : Type 0} (p : X → Bool) (xs : List X) (d : X) → list_any p xs ≡ true → (i : ℕ) × (p (get_or xs i d) ≡ true)
any_one p [] d is = absurd (false≢true is)
any_one p (x ∷ xs) d is = elim (or_cases (p x) (list_any p xs) is) [
  | inl here ↦ (0, here)
  | inr later ↦ let w = any_one p xs d later in (suc w.0, w.1)
]

-- an extent of pages of a space
module _ (space : ℕ) (e : Extent) where
  -- a reservation with a page of the extent meets it
  meets_by : (page : ℕ) (r : Reservation) → e.first ≤ page → page < e.first + 8 ^ e.size → covers space page r ≡ true
      → meets space e.size e.first (Some r) ≡ true
  meets_by page r above below has =
      let at = CoversPageOf-covers space page r has in
      and_from _ _ (eq-eqb r.space space at.space_is) (and_from _ _ (lt-ltb r.first (e.first + 8 ^ e.size) (omega (arith, at.low)))
      (lt-ltb e.first (r.first + 8 ^ r.size) (omega (arith, at.high))))

  -- and one that meets it has one
  meets_at : (r : Reservation) → meets space e.size e.first (Some r) ≡ true
      → (page : ℕ) × (e.first ≤ page) × (page < e.first + 8 ^ e.size) × (covers space page r ≡ true)
  meets_at r is =
      let parts = and_parts (eqb r.space space) (ltb r.first (e.first + 8 ^ e.size) && ltb e.first (r.first + 8 ^ r.size)) is in
      let bounds = and_parts (ltb r.first (e.first + 8 ^ e.size)) (ltb e.first (r.first + 8 ^ r.size)) parts.1 in
      let starts : r.first < e.first + 8 ^ e.size = ltb-true _ _ bounds.0 in
      let ends : e.first < r.first + 8 ^ r.size = ltb-true _ _ bounds.1 in
      let width : 0 < 8 ^ e.size = eight_pos e.size in
      let own : 0 < 8 ^ r.size = eight_pos r.size in (
        max e.first r.first,
        omega arith,
        omega arith,
        covers-CoversPageOf space (max e.first r.first) r
            (record { space_is = eqb-true _ _ parts.0; low = omega arith; high = omega arith }),
      )

-- no page of an extent that no reservation meets is in one
pub covering-apart : (records : List (Option Reservation)) (space : ℕ) (e : Extent) → meets_any space records e.size e.first ≡ false
    → (page : ℕ) → e.first ≤ page → page < e.first + 8 ^ e.size → covering space page records ≡ None
covering-apart records space e apart page low high = at (covering space page records) refl
  where
    at : (o : Option Reservation) → covering space page records ≡ o → covering space page records ≡ None
    at None is = is
    at (Some r) is =
        let w = covering-found space page records r is in
        absurd (false≢true (sym apart ∙ list_any_at (meets space e.size e.first) records w.0 None w.1
        (ap (meets space e.size e.first) w.2 ∙ meets_by space e page r low high w.3)))

-- it is an extent, and begins in the space
pub record IsOfSpace (e : Extent) : Type 0 where
  pub aligned : IsExtent e.size e.first
  pub within : e.first < space_pages

module _ (m : Populations) (records : List (Option Reservation)) (space : ℕ) (e : Extent) (mapped : IsMapped m records) (known : space < 16)
    (pages : IsOfSpace e) where
  pub meets_any-looked : (page : ℕ) → page / 8 ^ e.size ≡ page_at space e.first / 8 ^ e.size → is_placed m page ≡ true
      → meets_any space records e.size e.first ≡ true
  meets_any-looked page same placed =
      let at = page_in e.size space e.first page pages.aligned pages.within same in
      let by = placed_size m page placed in
      let id = some_from_is_some (id_of m by.0 page) by.2 in
      let here : id_of m by.0 (page_at space at.0) ≡ Some id.0 = ap (id_of m by.0) (sym at.1) ∙ id.1 in
      let q = found_record_and (get_or records id.0 None) (λ r. (r.size ≡ by.0) × (covers space at.0 r ≡ true))
      ((mapped.exact space at.0 by.0 id.0 known at.2 by.1).0 here) in
      list_any_at (meets space e.size e.first) records id.0 None (get_or_within records id.0 q.0 q.1)
      (ap (meets space e.size e.first) q.1 ∙ meets_by space e at.0 q.0 at.3 at.4 q.2.1)

  pub meets_any-not_looked : ArePlaced records → ((page : ℕ) → page / 8 ^ e.size ≡ page_at space e.first / 8 ^ e.size → IsInNone m page)
      → meets_any space records e.size e.first ≡ false
  meets_any-not_looked placed none = false_from_ne_true _ (λ any.
      let w = any_one (meets space e.size e.first) records None any in
      at w.0 (get_or records w.0 None) refl (w.1))
    where
      at : (id : ℕ) (o : Option Reservation) → get_or records id None ≡ o → meets space e.size e.first (get_or records id None) ≡ true → ⊥
      at id None is has = false≢true (sym (ap (meets space e.size e.first) is) ∙ has)
      at id (Some r) is has =
          let page = meets_at space e r (sym (ap (meets space e.size e.first) is) ∙ has) in
          let small = (placed id r is).aligned.0 in
          let end = end_in_space e.size e.first pages.aligned pages.within in
          let there = (mapped.exact space page.0 r.size id known (omega (arith, end, page.2)) small).1
          (subst (λ o. IsSomeAnd o (λ q. (q.size ≡ r.size) × (covers space page.0 q ≡ true))) (sym is) (refl, page.3)) in
          let inside = in_page e.size space e.first page.0 pages.aligned page.1 page.2 in
          none-some id (sym (none (page_at space page.0) inside r.size small) ∙ there)
