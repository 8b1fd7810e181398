-- What emptying extents of frames costs, and which is the cheapest.
use Rattle.std.specs.Prelude.{ℕ, ◌≡◌, ◌<◌, ◌≤◌, Bool, false, ◌||◌, not, if◌then◌else◌, List, [], ◌∷◌, count_by, Option, Some, None, is_some}
use Rattle.std.specs.List.{range_with_len, list_all, list_any, flat_map}
use Rattle.pager_model.specs.Options.{is_that}
use Rattle.contiguity_plan.specs.declared.cheapest.Candidate.{Candidate}
use Rattle.contiguity_plan.specs.declared.plan.PageOf.{PageOf}
use Rattle.contiguity_plan.specs.declared.table.Use.{Use}
use Rattle.contiguity_plan.specs.Tables.{use_in}

-- What a table tells of a frame.

-- its page is wired, or a processor claims it
abbrev pub is_kept : Option Use → Bool
is_kept None = false
is_kept (Some u) = u.wired || is_some u.claim

-- it stays where it is
abbrev pub stays : List (Option Use) → List (Option ℕ) → ℕ → Bool
stays uses held frame = is_kept (use_in uses frame) || list_any (is_that frame) held

abbrev pub has_use : List (Option Use) → ℕ → Bool
has_use uses frame = is_some (use_in uses frame)

-- the page that uses it, if one does
abbrev pub page_list : Option Use → List PageOf
page_list None = []
page_list (Some u) = u.page ∷ []

-- the pages that use some frames, in order
abbrev pub pages_in : List (Option Use) → List ℕ → List PageOf
pages_in uses frames = flat_map (λ f. page_list (use_in uses f)) frames

-- What emptying count frames from first on costs: an eviction for each used one, and it can't be done where one stays.
abbrev pub emptying : (ℕ → Bool) → (ℕ → Bool) → ℕ → ℕ → Option ℕ
emptying fixed used first count =
    if list_all (λ f. not (fixed f)) (range_with_len first count) then Some (count_by used (range_with_len first count)) else None

-- of the first so many costs, this is the least and the first of equal ones
pub record IsLeast (costs : ℕ → Option ℕ) (numbers number cost : ℕ) : Type 0 where
  pub below : number < numbers
  pub is : costs number ≡ Some cost
  pub least : (other more : ℕ) → other < numbers → costs other ≡ Some more → cost ≤ more
  pub first : (other : ℕ) → other < numbers → costs other ≡ Some cost → number ≤ other

-- or there is none
abbrev pub IsBest : (ℕ → Option ℕ) → ℕ → Option Candidate → Type 0
IsBest costs numbers None = (other : ℕ) → other < numbers → costs other ≡ None
IsBest costs numbers (Some c) = IsLeast costs numbers c.number c.cost
