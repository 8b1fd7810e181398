-- The text of a plan: the line of its extent, a line for each page that is to be evicted, and the line `end`.
use Rattle.std.specs.Prelude.{ℕ, List, [], ◌∷◌, ◌++◌, codes, decimal, flat_map, length, Option, Some, None}
use Rattle.pager_model.specs.TraceText.{line_of_words}
use Rattle.contiguity_plan.specs.declared.plan.PageOf.{PageOf}
use Rattle.contiguity_plan.specs.declared.plan.Plan.{Plan}

-- the extent's first frame, and how many pages are to be evicted
abbrev pub extent_line : Plan → List ℕ
extent_line plan = line_of_words (codes "plan" ∷ decimal plan.extent.first ∷ decimal (length plan.pages.items) ∷ [])

-- a page that is to be evicted: its space, and its number
abbrev pub page_line : PageOf → List ℕ
page_line page = line_of_words (decimal page.space ∷ decimal page.page ∷ [])

-- what is planned, or that there is nothing
abbrev pub planned_lines : Option Plan → List ℕ
planned_lines None = line_of_words (codes "plan" ∷ codes "none" ∷ [])
planned_lines (Some plan) = extent_line plan ++ flat_map page_line plan.pages.items

abbrev pub plan_text : Option Plan → List ℕ
plan_text planned = planned_lines planned ++ line_of_words (codes "end" ∷ [])
