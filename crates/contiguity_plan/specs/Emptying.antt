-- Which extent of frames could be emptied by the fewest evictions, and of which pages.
use Rattle.std.specs.Prelude.{ℕ, ◌≡◌, ◌+◌, ◌<◌, ◌≤◌, ◌^◌, ◌⊎◌, Bool, true, ◌||◌, not, List, count_by, filter, fold, length, map, Option, Some, None, is_some, IsPermutation}
use Rattle.std.specs.List.{range_with_len, list_all, list_any}
use Rattle.pager_model.specs.Bounds.{most_spaces, most_actors}
use Rattle.pager_model.specs.declared.entry.Entry.{Entry}
use Rattle.pager_model.specs.Agreement.{has_frame}
use Rattle.pager_model.specs.Extents.{IsExtent}
use Rattle.pager_model.specs.FrameStates.{FrameState, layout_of, used_at, frame_of, give_page, is_wired_place, is_claimed_place}
use Rattle.pager_model.specs.Layouts.{is_free}
use Rattle.pager_model.specs.Legal.{IsLegal}
use Rattle.pager_model.specs.Options.{is_that}
use Rattle.pager_model.specs.Settings.{Given}
use Rattle.contiguity_plan.specs.declared.plan.PageOf.{PageOf}
use Rattle.contiguity_plan.specs.declared.plan.Plan.{Plan}

-- a history of a setting with so many frames
pub record IsOver (frames : ℕ) (g : Given) (history : List Entry) : Type 0 where
  pub frames_are : g.frames ≡ frames
  pub processors : length g.marks ≤ most_actors
  pub spaces : length g.told ≤ most_spaces
  pub legal : IsLegal g history

-- the frame stays where it is: its page is wired, or a processor claims or holds it
abbrev pub is_fixed : FrameState → ℕ → Bool
is_fixed st frame = (is_wired_place (used_at st frame) || is_claimed_place (used_at st frame)) || list_any (is_that frame) st.held

abbrev pub is_used_frame : FrameState → ℕ → Bool
is_used_frame st frame = is_some (used_at st frame)

-- an extent of size k of so many frames that may be emptied: none of its frames is wired, claimed or held
pub record MayBeEmptied (st : FrameState) (frames k first : ℕ) : Type 0 where
  pub extent : IsExtent k first
  pub within : first + 8 ^ k ≤ frames
  pub loose : list_all (λ f. not (is_fixed st f)) (range_with_len first (8 ^ k)) ≡ true

-- what that costs: an eviction for each of its used frames
abbrev pub cost_of : FrameState → ℕ → ℕ → ℕ
cost_of st k first = count_by (is_used_frame st) (range_with_len first (8 ^ k))

-- The cheapest: of least cost among those that may be emptied, and the lowest of equal ones.
pub record IsCheapest (st : FrameState) (frames k first : ℕ) : Type 0 where
  pub may : MayBeEmptied st frames k first
  pub least : (other : ℕ) → MayBeEmptied st frames k other → cost_of st k first ≤ cost_of st k other
  pub lowest : (other : ℕ) → MayBeEmptied st frames k other → cost_of st k other ≡ cost_of st k first → first ≤ other

-- the pages of its used frames, ascending by frame
abbrev pub AreItsPages : FrameState → ℕ → ℕ → List PageOf → Type 0
AreItsPages st k first pages =
    map (λ (p : PageOf). frame_of st p.space p.page) pages ≡ map Some (filter (is_used_frame st) (range_with_len first (8 ^ k)))

-- what is planned for extents of size k: the cheapest and its pages, or nothing exactly where none may be emptied
abbrev pub IsPlanned : FrameState → ℕ → ℕ → Option Plan → Type 0
IsPlanned st frames k None = (first : ℕ) → MayBeEmptied st frames k first → ⊥
IsPlanned st frames k (Some plan) =
    (plan.extent.size ≡ k) × IsCheapest st frames k plan.extent.first × AreItsPages st k plan.extent.first plan.pages.items

-- What carrying it out does.

-- the pages give their frames up, one after another
abbrev pub given_up : FrameState → List PageOf → FrameState
given_up st pages = fold (λ s (p : PageOf). give_page s p.space p.page) st pages

-- the frame is free, or the unused place of a reservation
abbrev pub IsUnused : FrameState → ℕ → Type 0
IsUnused st frame =
    (is_free (layout_of st) frame ≡ true) ⊎ ((count_by (has_frame frame) st.records ≡ 1) × (used_at st frame ≡ None))

-- after the plan's pages gave their frames up, in whatever order, each frame of its extent is free or an unused place
abbrev pub Empties : FrameState → Plan → Type 0
Empties st plan =
    (order : List PageOf) (frame : ℕ) → IsPermutation plan.pages.items order
    → plan.extent.first ≤ frame → frame < plan.extent.first + 8 ^ plan.extent.size → IsUnused (given_up st order) frame
