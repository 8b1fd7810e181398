-- Pages as they are counted over all spaces, and the extents of pages that reservations have.
use Rattle.std.proofs.Common.{◌≡◌, ℕ, ◌+◌, ◌-◌, ◌*◌, ◌/◌, ◌^◌, ◌<◌, ◌≤◌, true, arith}
use Rattle.pager_model.specs.Bounds.{space_pages}
use Rattle.pager_model.specs.declared.reservation.Reservation.{Reservation}
use Rattle.pager_model.specs.Extents.{IsExtent}
use Rattle.pager_model.specs.Layouts.{covers}
use Rattle.population_map.specs.Populations.{page_at}
use Rattle.pager_model.proofs.ExtentLemmas.{extent_within, in_extent, of_extent}
use Rattle.population_map.proofs.Placings.{aligned_at}
use Rattle.pager_laws.proofs.PagePlaces.{CoversPageOf-covers, covers-CoversPageOf}

-- an extent of a space's pages ends in the space
pub end_in_space : (size first : ℕ) → IsExtent size first → first < space_pages → first + 8 ^ size ≤ space_pages
end_in_space size first e low = omega (arith, extent_within size first 2048 e.0 e.1 (omega arith))

-- a page of the extent is one of the space
pub page_in : (size space first page : ℕ) → IsExtent size first → first < space_pages → page / 8 ^ size ≡ page_at space first / 8 ^ size
    → (p : ℕ) × (page ≡ page_at space p) × (p < space_pages) × (first ≤ p) × (p < first + 8 ^ size)
page_in size space first page e low same =
    let at = aligned_at size space first e in
    let in_it = of_extent size (page_at space first) page at.0 at.1 same in
    let end = end_in_space size first e low in
    (page - space_pages * space, omega (arith, in_it.0), omega (arith, in_it.1), omega (arith, in_it.0), omega (arith, in_it.1))

-- and a page from its first one on is in it
pub in_page : (size space first p : ℕ) → IsExtent size first → first ≤ p → p < first + 8 ^ size
    → page_at space p / 8 ^ size ≡ page_at space first / 8 ^ size
in_page size space first p e low high =
    let at = aligned_at size space first e in
    in_extent size (page_at space first) (page_at space p) at.0 at.1 (omega arith) (omega arith)

-- no page is of two spaces
pub same_page : (s t p q : ℕ) → p < space_pages → q < space_pages → page_at s p ≡ page_at t q → (s ≡ t) × (p ≡ q)
same_page s t p q low high same =
    let space : s ≡ t = omega arith in
    (space, omega arith)

-- the pages that a reservation has are those of its extent
module _ (r : Reservation) (pages : IsExtent r.size r.first) (low : r.first < space_pages) where
  pub covered_in : (s p : ℕ) → covers s p r ≡ true → page_at s p / 8 ^ r.size ≡ page_at r.space r.first / 8 ^ r.size
  covered_in s p has =
      let at = CoversPageOf-covers s p r has in
      in_extent r.size (page_at r.space r.first) (page_at s p) (aligned_at r.size r.space r.first pages).0
      (aligned_at r.size r.space r.first pages).1 (omega (arith, at.space_is, at.low)) (omega (arith, at.space_is, at.high))

  pub in_covered : (s p : ℕ) → p < space_pages → page_at s p / 8 ^ r.size ≡ page_at r.space r.first / 8 ^ r.size → covers s p r ≡ true
  in_covered s p small same =
      let at = page_in r.size r.space r.first (page_at s p) pages low same in
      let is = same_page s r.space p at.0 small at.2 at.1 in
      covers-CoversPageOf s p r
      (record { space_is = omega (arith, is.0); low = omega (arith, is.1, at.3); high = omega (arith, is.1, at.4) })
