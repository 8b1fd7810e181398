-- A stack of places, each of which has a tile or is a hole: the images of all capacities at once.
use Rattle.std.specs.Prelude.{ℕ, ◌≡◌, ◌+◌, ◌-◌, ◌≤◌, Bool, false, if◌then◌else◌, List, [], ◌∷◌, length, take, map, sum, count_by, slice_index, slice_set, Option, Some, None, true, IfSome}
use Rattle.std.specs.List.{position, All}
use Rattle.pager_model.specs.declared.entry.Entry.{Entry}
use Rattle.pager_model.specs.declared.tile.Mapping.{Mapping}
use Rattle.pager_model.specs.declared.tile.Tile.{Tile}
use Rattle.pager_model.specs.SizeSets.{SizeSet}
use Rattle.pager_model.specs.SpaceStates.{SpaceState, empty_state, pages_of, pages_after, tile_at}
use Rattle.pager_model.specs.Tiles.{same_tile, is_tile_in}
use Rattle.lru_stack.specs.declared.stack.Use.{Use}
use Rattle.lru_stack.specs.Followers.{Follower, begun, page_used}

-- the tile stands at the place
abbrev pub is_at : Tile → Option Tile → Bool
is_at t None = false
is_at t (Some u) = same_tile t u

-- the place without the tile, which leaves a hole
abbrev pub left_by : Tile → Option Tile → Option Tile
left_by t place = if is_at t place then None else place

-- the place with what passes the test
abbrev pub kept_at : (Tile → Bool) → Option Tile → Option Tile
kept_at test None = None
kept_at test (Some t) = if test t then Some t else None

-- What is carried down a row of places: each place takes what comes and hands on what it had, but the used tile's earlier place hands on nothing,
-- as a hole does, and there the moving ends. The places behind stay, but where the tile's earlier place is among them it becomes a hole.
abbrev pub moved_down : Tile → Option Tile → List (Option Tile) → List (Option Tile)
moved_down t carried [] = []
moved_down t None (place ∷ places) = left_by t place ∷ moved_down t None places
moved_down t (Some c) (place ∷ places) = Some c ∷ moved_down t (left_by t place) places

-- the same where the tile was taken out before: what is carried goes to the first place, what stood there to the next one, and so on until a hole
-- takes it
abbrev pub shifted : Option Tile → List (Option Tile) → List (Option Tile)
shifted None places = places
shifted (Some c) [] = []
shifted (Some c) (place ∷ places) = Some c ∷ shifted place places

-- the row with a hole at a place, if there is one
abbrev pub hole_at : Option ℕ → List (Option Tile) → List (Option Tile)
hole_at None places = places
hole_at (Some place) places = slice_set places place None

-- no tile stands at two places
abbrev pub AreDistinct : List (Option Tile) → Type 0
AreDistinct places = (t : Tile) → count_by (is_at t) places ≤ 1

-- the tiles of a row, in order
abbrev pub tiles_in : List (Option Tile) → List Tile
tiles_in [] = []
tiles_in (None ∷ places) = tiles_in places
tiles_in (Some t ∷ places) = t ∷ tiles_in places

-- A stack with how many uses found their tile at each place, and how many uses there were.
pub record Kept : Type 0 where
  pub places : List (Option Tile)
  pub found : List ℕ
  pub uses : ℕ

-- a use more that found its tile at a place
abbrev pub found_at : Option ℕ → List ℕ → List ℕ
found_at None found = found
found_at (Some place) found = slice_set found place (slice_index found place + 1)

-- where the tile stands
abbrev pub position_of : Option Tile → List (Option Tile) → Option ℕ
position_of None places = None
position_of (Some t) places = position (is_at t) places

-- The stack stands for an image of this capacity of a space, and its misses: the image is what stands at the places up to the capacity, and
-- the uses are the misses and the uses that found their tile at one of these.
pub record StandsAt (kept : Kept) (st : SpaceState) (capacity : ℕ) (f : Follower) : Type 0 where
  pub space : f.space ≡ st
  pub image : f.image ≡ tiles_in (take capacity kept.places)
  pub misses : f.misses + sum (take capacity kept.found) ≡ kept.uses

-- so for every capacity up to the number of places
abbrev pub StandsFor : Kept → SpaceState → (ℕ → Follower) → Type 0
StandsFor kept st followers = (capacity : ℕ) → capacity ≤ length kept.places → StandsAt kept st capacity (followers capacity)

-- what a use was: of the page that was used, its tile before, and its tile after
abbrev pub IsUse : SizeSet → (ℕ → Option Mapping) → (ℕ → Option Mapping) → Option ℕ → Option Use → Type 0
IsUse z before after None used = used ≡ None
IsUse z before after (Some page) used =
    (t : Tile) × (tile_at z after (Some page) ≡ Some t) × (used ≡ Some (record { before = tile_at z before (Some page); after = t }))

-- The stack after an entry: the places whose tile fails the test are holes, and then the tile that was used is at the first.
abbrev pub kept_after : (Tile → Bool) → Option Use → Kept → Kept
kept_after test None kept = record { places = map (kept_at test) kept.places; found = kept.found; uses = kept.uses }
kept_after test (Some use') kept =
    record {
      places = moved_down use'.after (Some use'.after) (map (kept_at test) kept.places);
      found = found_at (position_of use'.before kept.places) kept.found;
      uses = kept.uses + 1;
    }

-- as many counts as places, no more uses that found their tile than uses, and each tile at one place at most
pub record IsKept (kept : Kept) : Type 0 where
  pub long : length kept.found ≡ length kept.places
  pub within : sum kept.found ≤ kept.uses
  pub distinct : AreDistinct kept.places

-- a place that is a hole, or whose tile passes the test
abbrev pub Passes : (Tile → Bool) → Option Tile → Type 0
Passes test place = IfSome place (λ t. test t ≡ true)

-- the stack stands for the images, and each of its tiles is one of the pages as they are
pub record Stands (z : SizeSet) (kept : Kept) (st : SpaceState) (followers : ℕ → Follower) : Type 0 where
  pub images : StandsFor kept st followers
  pub tiles : All (Passes (is_tile_in z (pages_of st))) kept.places

-- what a caller's closure answers of a tile that was one before is the test of it
abbrev pub AnswersFor : (Tile → Bool → Type 0) → (Tile → Bool) → (Tile → Bool) → Type 0
AnswersFor answers was test = (t : Tile) (b : Bool) → was t ≡ true → answers t b → b ≡ test t

-- What is told of an entry, by sizes z: of each tile before it whether it is one after it, and what was used.
pub record Tells (answers : Tile → Bool → Type 0) (z : SizeSet) (st : SpaceState) (e : Entry) (used : Option Use) : Type 0 where
  pub tiles : AnswersFor answers (is_tile_in z (pages_of st)) (is_tile_in z (pages_after st e.frames e.what))
  pub used_page : IsUse z (pages_of st) (pages_after st e.frames e.what) (page_used e.processor e.what) used

-- the same of an entry after which each tile is one still
pub record TellsSame (z : SizeSet) (st : SpaceState) (e : Entry) (used : Option Use) : Type 0 where
  pub tiles : (t : Tile) → is_tile_in z (pages_of st) t ≡ true → is_tile_in z (pages_after st e.frames e.what) t ≡ true
  pub used_page : IsUse z (pages_of st) (pages_after st e.frames e.what) (page_used e.processor e.what) used

-- a stack of so many places, which stands for the images of every space at its beginning
pub record IsBlank (n : ℕ) (kept : Kept) : Type 0 where
  pub places : length kept.places ≡ n
  pub unused : kept.uses ≡ 0
  pub stands : (z sizes : SizeSet) (told : Bool) (faults : ℕ) → Stands z kept (empty_state sizes told faults) (λ _. begun sizes told faults)

-- the misses at the capacity that ends with the place: the uses that found their tile neither there nor before
abbrev pub missed_at : ℕ → Kept → ℕ
missed_at place kept = kept.uses - sum (take (place + 1) kept.found)
