-- The next region above a page.
use Rattle.std.proofs.Common.{◌≡◌, ℕ, ◌<◌, ◌≤◌, List, [], ◌∷◌, inl, inr, arith}
use Rattle.std.proofs.lemmas.Bool.{cases_lt, cond-true, cond-false, lt-ltb, le-ltb}
use Rattle.pager_model.specs.Bounds.{space_pages}
use Rattle.pager_model.specs.declared.region.Region.{Region}
use Rattle.pager_model.specs.Regions.{end_of, next_start}
use Rattle.region_table.specs.Table.{LieFrom}
use Rattle.region_table.proofs.TableLemmas.{LieFrom-within}

-- it begins above the page, and in the space or at its end
pub next_above : (low : ℕ) (rs : List Region) → LieFrom low rs → (page : ℕ) → page < space_pages
    → (page < next_start rs page) × (next_start rs page ≤ space_pages)
next_above low [] l page h = (h, omega arith)
next_above low (r ∷ rs) l page h =
    elim (cases_lt page r.first) [
      | inl above ↦
          let e : next_start (r ∷ rs) page ≡ r.first = cond-true _ _ _ (lt-ltb _ _ above) in
          let in_space = LieFrom-within (end_of r) rs l.2 in
          (omega (arith, e), omega (arith, e, in_space))
      | inr below ↦
          let e : next_start (r ∷ rs) page ≡ next_start rs page = cond-false _ _ _ (le-ltb _ _ below) in
          let f = next_above (end_of r) rs l.2 page h in
          (omega (arith, e, f.0), omega (arith, e, f.1))
    ]
