-- What an entry of a history tells the stacks, where the pages of its space are followed.
use Rattle.std.specs.Prelude.{ℕ, ◌≡◌, ◌<◌, Bool, List, [], ◌∷◌, ◌++◌, length, slice_index_or, Option, Some, None}
use Rattle.followed_space.specs.Follows.{AnswersLine, Followed, Follows}
use Rattle.pager_model.specs.declared.entry.Entry.{Entry}
use Rattle.pager_model.specs.declared.tile.Tile.{Tile}
use Rattle.pager_model.specs.Legal.{IsLegal, space_at}
use Rattle.pager_model.specs.Scripts.{Script}
use Rattle.pager_model.specs.Settings.{Given}
use Rattle.pager_model.specs.Showing.{Shows, marks_of}
use Rattle.pager_model.specs.SizeSets.{SizeSet}
use Rattle.pager_model.specs.SpaceStates.{SpaceState, empty_state, pages_of, pages_after}
use Rattle.miss_curves.specs.declared.entries.Uses.{Uses}
use Rattle.lru_stack.specs.declared.stack.Use.{Use}
use Rattle.lru_stack.specs.Followers.{page_used}
use Rattle.miss_curves.specs.Curves.{base_alone}
use Rattle.miss_curves.specs.Rows.{Rows, StandAfter}
use Rattle.lru_stack.specs.Stacks.{IsUse}
use Rattle.tiles.specs.Resident.{Resident, frames_in, mapping_at}

-- What an entry of a space does: it takes the resident pages from these to those, and used a page so.
pub record Effect : Type 0 where
  pub entry : Entry
  pub old : Resident
  pub new : Resident
  pub uses : Uses

abbrev pub effect : (entry : Entry) (old new : Resident) (uses : Uses) → Effect
effect entry old new uses = record { entry = entry; old = old; new = new; uses = uses }

-- it does so in this space: by the sizes, and by base pages alone
pub record OnPages (st : SpaceState) (d : Effect) : Type 0 where
  pub before : pages_of st ≡ mapping_at d.old
  pub after : pages_after st d.entry.frames d.entry.what ≡ mapping_at d.new
  pub tile : IsUse d.uses.sizes (mapping_at d.old) (mapping_at d.new) (page_used d.entry.processor d.entry.what) d.uses.used
  pub base : IsUse base_alone (mapping_at d.old) (mapping_at d.new) (page_used d.entry.processor d.entry.what) d.uses.used_base

-- it does so in the space that it names, after a history with these sizes
pub record Told (g : Given) (history : List Entry) (d : Effect) : Type 0 where
  pub sizes : g.sizes ≡ d.uses.sizes
  pub on : (s : ℕ) → d.entry.space ≡ Some s → OnPages (space_at g history s) d

-- what a use was of a page with this tile before it and that one after it
abbrev pub use_of : Option Tile → Option Tile → Option Use
use_of before None = None
use_of before (Some t) = Some (record { before = before; after = t })

-- a space before its first entry, with room for its pages in so many frames
pub record IsNew (frames : ℕ) (kept : Followed) : Type 0 where
  pub frames_are : frames_in kept.pages ≡ frames
  pub follows : (sizes : SizeSet) (told : Bool) (faults : ℕ) → Follows kept (empty_state sizes told faults)

-- what is followed of each space is what a history leads to
pub record FollowEach (g : Given) (spaces : List Followed) (history : List Entry) : Type 0 where
  pub spaces_are : length spaces ≡ length g.told
  pub frames : (s : ℕ) (d : Followed) → s < length spaces → frames_in (slice_index_or spaces s d).pages ≡ g.frames
  pub each : (s : ℕ) (d : Followed) → s < length spaces → Follows (slice_index_or spaces s d) (space_at g history s)

-- the stacks stand for the history too, which is one with sizes z
pub record KeepsUp (z : SizeSet) (g : Given) (rows : Rows) (spaces : List Followed) (history : List Entry) : Type 0 where
  pub sizes : g.sizes ≡ z
  pub stands : StandAfter g rows history
  pub follow : FollowEach g spaces history

-- the entry comes legally, and an answer is of a line's call
pub record Comes (g : Given) (history : List Entry) (e : Entry) : Type 0 where
  pub legal : IsLegal g (history ++ e ∷ [])
  pub line : AnswersLine e.what

abbrev pub EachComes : Given → List Entry → Type 0
EachComes g history = (before after : List Entry) (e : Entry) → history ≡ before ++ e ∷ after → Comes g before e

-- a history of a run of a trace, whatever its stores tell and however often they had failed
pub record IsRunOf (script : Script) (g : Given) (history : List Entry) : Type 0 where
  pub frames : g.frames ≡ script.frames
  pub sizes : g.sizes ≡ script.sizes
  pub spaces : length g.told ≡ script.spaces
  pub marks : g.marks ≡ marks_of script
  pub legal : IsLegal g history
  pub shows : Shows script history

-- A count of misses in progress: by these sizes, with these rows and these spaces.
pub record Counting : Type 0 where
  pub sizes : SizeSet
  pub rows : Rows
  pub spaces : List Followed

-- it counts the misses of this history
pub record StandsFor (c : Counting) (g : Given) (history : List Entry) : Type 0 where
  pub legal : IsLegal g history
  pub keeps : KeepsUp c.sizes g c.rows c.spaces history

-- the setting of a run of the trace, as far as the misses go by it
pub record Begins (script : Script) (g : Given) : Type 0 where
  pub frames : g.frames ≡ script.frames
  pub sizes : g.sizes ≡ script.sizes
  pub spaces : length g.told ≡ script.spaces
