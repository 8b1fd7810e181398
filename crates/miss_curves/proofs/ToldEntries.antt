-- What is told of an entry from the pages that are followed.
use Rattle.std.proofs.Common.{◌≡◌, ℕ, zero, suc, Bool, true, false, ◌==◌, ◌||◌, not, List, [], ◌∷◌, Option, Some, None, option_map, inl, inr, refl, sym, ap, ◌∙◌, subst}
use Rattle.std.specs.List.{list_any}
use Rattle.std.specs.Option.{IfSome}
use Rattle.std.proofs.lemmas.Bool.{cases_Bool, eq-eqb, false_from_ne_true, true≢false}
use Rattle.pager_model.specs.declared.entry.Entry.{Entry}
use Rattle.pager_model.specs.declared.page_range.PageRange.{PageRange}
use Rattle.pager_model.specs.declared.tile.Mapping.{Mapping}
use Rattle.pager_model.specs.declared.tile.Tile.{Tile}
use Rattle.pager_model.specs.Extents.{extent_start}
use Rattle.pager_model.specs.Legal.{space_at}
use Rattle.pager_model.specs.Settings.{Given}
use Rattle.pager_model.specs.SizeSets.{SizeSet, all_sizes, size_within}
use Rattle.pager_model.specs.SpaceStates.{SpaceState, pages_of, pages_after}
use Rattle.pager_model.specs.Tiles.{cut_to, is_that_tile, is_tile, is_tile_in, same_tile, size_at, tile_in, tile_of}
use Rattle.pager_model.proofs.Options.{IfSome-from}
use Rattle.pager_model.proofs.TileParts.{same_tile-true}
use Rattle.pager_laws.proofs.ImageTiles.{tile_in-is_tile}
use Rattle.lru_stack.specs.declared.stack.Use.{Use}
use Rattle.lru_stack.specs.Followers.{page_used}
use Rattle.miss_curves.specs.Curves.{base_alone}
use Rattle.miss_curves.specs.Histories.{Effect, Told}
use Rattle.lru_stack.specs.Stacks.{AnswersFor, IsUse, Tells, TellsSame}
use Rattle.tiles.specs.Beside.{OthersSame}
use Rattle.tiles.specs.Changes.{AreChanges, Came, PageChange, gone_of}
use Rattle.tiles.specs.Resident.{Resident, mapping_at}
use Rattle.tiles.specs.Sized.{KeepsOutsideIn}
use Rattle.tiles.specs.Touched.{is_touched}
use Rattle.tiles.proofs.CutTiles.{tile_in-cut}
use Rattle.tiles.proofs.PageChanges.{stays_where}
use Rattle.tiles.proofs.SizedTiles.{tile_in_same}
use Rattle.tiles.proofs.TileLaws.{largest_tile, tile_largest}

-- what holds of the pages that these are equal to
of_pages : (P : (ℕ → Option Mapping) → (ℕ → Option Mapping) → Type 0) (before after old new : ℕ → Option Mapping) → before ≡ old
    → after ≡ new → P old new → P before after
of_pages P before after old new was is holds = subst (λ f. P f after) (sym was) (subst (P old) (sym is) holds)

-- each tile by sizes z is one still
abbrev StayIn : SizeSet → (ℕ → Option Mapping) → (ℕ → Option Mapping) → Type 0
StayIn z old new = (t : Tile) → is_tile_in z old t ≡ true → is_tile_in z new t ≡ true

-- what answers by the pages that are followed tells by sizes z
tells_by : (answers : Tile → Bool → Type 0) (z : SizeSet) (st : SpaceState) (e : Entry) (old new : ℕ → Option Mapping) (used : Option Use)
    → pages_of st ≡ old → pages_after st e.frames e.what ≡ new → IsUse z old new (page_used e.processor e.what) used
    → AnswersFor answers (is_tile_in z old) (is_tile_in z new)
    → Tells answers z st e used
tells_by answers z st e old new used was is use' tests = record {
  tiles = of_pages (λ f f'. AnswersFor answers (is_tile_in z f) (is_tile_in z f')) _ _ old new was is tests;
  used_page = of_pages (λ f f'. IsUse z f f' (page_used e.processor e.what) used) _ _ old new was is use';
}

-- and so it does where each tile is one still
same_by : (z : SizeSet) (st : SpaceState) (e : Entry) (old new : ℕ → Option Mapping) (used : Option Use)
    → pages_of st ≡ old → pages_after st e.frames e.what ≡ new → StayIn z old new → IsUse z old new (page_used e.processor e.what) used
    → TellsSame z st e used
same_by z st e old new used was is stay use' = record {
  tiles = of_pages (StayIn z) _ _ old new was is stay;
  used_page = of_pages (λ f f'. IsUse z f f' (page_used e.processor e.what) used) _ _ old new was is use';
}

pub tells_all : (left left_base : Tile → Bool → Type 0) (g : Given) (history : List Entry) (d : Effect) → Told g history d
    → AnswersFor left (is_tile_in d.uses.sizes (mapping_at d.old)) (is_tile_in d.uses.sizes (mapping_at d.new))
    → AnswersFor left_base (is_tile_in base_alone (mapping_at d.old)) (is_tile_in base_alone (mapping_at d.new))
    → IfSome d.entry.space (λ s. Tells left g.sizes (space_at g history s) d.entry d.uses.used
    × Tells left_base base_alone (space_at g history s) d.entry d.uses.used_base)
tells_all left left_base g history d told tests base_tests =
    IfSome-from d.entry.space
    (λ s. Tells left g.sizes (space_at g history s) d.entry d.uses.used
    × Tells left_base base_alone (space_at g history s) d.entry d.uses.used_base)
    (λ s is.
    let st = space_at g history s in
    let on = told.on s is in (
      subst (λ z. Tells left z st d.entry d.uses.used) (sym told.sizes)
          (tells_by left d.uses.sizes st d.entry (mapping_at d.old) (mapping_at d.new) d.uses.used on.before on.after on.tile tests),
      tells_by left_base base_alone st d.entry (mapping_at d.old) (mapping_at d.new) d.uses.used_base on.before on.after on.base base_tests,
    ))

-- Where the tile by all sizes that it is cut from is one still, so is a tile by any.

that_tile : (t : Tile) (o : Option Tile) → is_that_tile t o ≡ true → o ≡ Some t
that_tile t None is = absurd (true≢false (sym is))
that_tile t (Some u) is = ap Some (sym (same_tile-true t u is))

cut_still : (z : SizeSet) (old new : ℕ → Option Mapping) (t : Tile) → is_tile_in z old t ≡ true
    → ((u : Tile) → is_tile old u ≡ true → extent_start u.extent.size t.extent.first ≡ u.extent.first → is_tile new u ≡ true)
    → is_tile_in z new t ≡ true
cut_still z old new t was stays =
    let first = t.extent.first in
    elim (tile_of old first) as (λ o. tile_of old first ≡ o → is_tile_in z new t ≡ true) [
      | None ↦ λ none. absurd (true≢false (sym was ∙ ap (is_that_tile t) (tile_in-cut z old first ∙ ap (option_map (cut_to z first)) none)))
      | Some u ↦ λ at.
          let has = (tile_largest old first u at).1 in
          let still = that_tile u (tile_of new u.extent.first) (stays u (tile_in-is_tile all_sizes old first u at) has) in
          let here : tile_of new first ≡ Some u = largest_tile new first u (tile_largest new u.extent.first u still).0 has in
          let cut : tile_in z new first ≡ tile_in z old first = tile_in-cut z new first ∙ ap (option_map (cut_to z first)) (here ∙ sym at)
          ∙ sym (tile_in-cut z old first) in
          ap (is_that_tile t) cut ∙ was
    ] refl

still_in : (z : SizeSet) (old new : ℕ → Option Mapping) → StayIn all_sizes old new → StayIn z old new
still_in z old new stay t was = cut_still z old new t was (λ u is has. stay u is)

pub tells_still : (g : Given) (history : List Entry) (d : Effect)
    → ((t : Tile) → is_tile (mapping_at d.old) t ≡ true → is_tile (mapping_at d.new) t ≡ true) → Told g history d
    → IfSome d.entry.space (λ s. TellsSame g.sizes (space_at g history s) d.entry d.uses.used
    × TellsSame base_alone (space_at g history s) d.entry d.uses.used_base)
tells_still g history d stay told =
    IfSome-from d.entry.space
    (λ s. TellsSame g.sizes (space_at g history s) d.entry d.uses.used
    × TellsSame base_alone (space_at g history s) d.entry d.uses.used_base)
    (λ s is.
    let st = space_at g history s in
    let old = mapping_at d.old in
    let new = mapping_at d.new in
    let on = told.on s is in (
      subst (λ z. TellsSame z st d.entry d.uses.used) (sym told.sizes)
          (same_by d.uses.sizes st d.entry old new d.uses.used on.before on.after (still_in d.uses.sizes old new stay) on.tile),
      same_by base_alone st d.entry old new d.uses.used_base on.before on.after (still_in base_alone old new stay) on.base,
    ))

-- so where no page changed
pub tells_same : (g : Given) (history : List Entry) (d : Effect)
    → ((p : ℕ) → mapping_at d.new p ≡ mapping_at d.old p) → Told g history d
    → IfSome d.entry.space (λ s. TellsSame g.sizes (space_at g history s) d.entry d.uses.used
    × TellsSame base_alone (space_at g history s) d.entry d.uses.used_base)
tells_same g history d same told =
    let stay : mapping_at d.new ≡ mapping_at d.old = λ i p. same p i in
    tells_still g history d (λ t was. ap (λ (f : ℕ → Option Mapping). is_tile f t) stay ∙ was) told

-- A tile of which it isn't asked is one still.
left : (z : SizeSet) (new : ℕ → Option Mapping) (t : Tile) (asked b : Bool) → (asked ≡ false → is_tile_in z new t ≡ true)
    → b ≡ (not asked || is_tile_in z new t) → b ≡ is_tile_in z new t
left z new t true b still is = is
left z new t false b still is = is ∙ sym (still refl)

-- One page changed.

-- where none went each is one still
pub none_went : (old new : Resident) (changes : PageChange) → AreChanges old new changes → gone_of changes ≡ [] → (t : Tile)
    → is_tile (mapping_at old) t ≡ true → is_tile (mapping_at new) t ≡ true
none_went old new changes are none t was =
    sym (stays_where (mapping_at new) (mapping_at old) (gone_of changes) t are.gone was)
    ∙ ap (λ gone. not (list_any (same_tile t) gone)) none

-- what passes a test is none of those of which none does
none_among : (test : Tile → Bool) (t : Tile) (tiles : List Tile) → test t ≡ true → list_any test tiles ≡ false
    → list_any (same_tile t) tiles ≡ false
none_among test t [] passes none = refl
none_among test t (u ∷ us) passes none = elim (cases_Bool (test u)) [
  | inl is ↦ absurd (true≢false (sym (ap (λ b. b || list_any test us) is) ∙ none))
  | inr isnt ↦
      let other = false_from_ne_true (same_tile t u) (λ same. true≢false (sym (ap test (sym (same_tile-true t u same)) ∙ passes) ∙ isnt)) in
      ap (λ b. b || list_any (same_tile t) us) other ∙ none_among test t us passes (sym (ap (λ b. b || list_any test us) isnt) ∙ none)
]

-- what is answered of a tile where these went: it is one still, unless one of them had its first page
abbrev has_first : Tile → Tile → Bool
has_first t u = extent_start u.extent.size t.extent.first == u.extent.first

abbrev pub answer_at : SizeSet → (ℕ → Option Mapping) → List Tile → Tile → Bool
answer_at z new gone t = not (list_any (has_first t) gone) || is_tile_in z new t

pub tile_at_page : (z : SizeSet) (old new : ℕ → Option Mapping) (gone : List Tile) → Came new old gone → (t : Tile) (b : Bool)
    → is_tile_in z old t ≡ true
    → b ≡ answer_at z new gone t → b ≡ is_tile_in z new t
tile_at_page z old new gone went t b was is =
    left z new t (list_any (has_first t) gone) b
    (λ none. cut_still z old new t was (λ u tile here.
    sym (stays_where new old gone u went tile) ∙ ap not (none_among (has_first t) u gone
    (eq-eqb (extent_start u.extent.size t.extent.first) u.extent.first here) none)))
    is

-- a base page whose mapping stays has its tile still
within_base : (k : ℕ) → size_within base_alone k ≡ 0
within_base zero = refl
within_base (suc zero) = refl
within_base (suc (suc zero)) = refl
within_base (suc (suc (suc zero))) = refl
within_base (suc (suc (suc (suc k)))) = within_base (suc (suc (suc k)))

pub base_at_page : (page : ℕ) (old new : Resident) → OthersSame page (mapping_at old) (mapping_at new) → (t : Tile) (b : Bool)
    → is_tile_in base_alone (mapping_at old) t ≡ true
    → b ≡ (not (t.extent.first == page) || is_tile_in base_alone (mapping_at new) t) → b ≡ is_tile_in base_alone (mapping_at new) t
base_at_page page old new others t b was is =
    let first = t.extent.first in
    left base_alone (mapping_at new) t (first == page) b
    (λ apart.
    let same = others first (λ here. true≢false (sym (eq-eqb first page here) ∙ apart)) in
    ap (is_that_tile t) (tile_in_same base_alone (mapping_at old) (mapping_at new) first same
    (within_base (size_at (mapping_at new) first) ∙ sym (within_base (size_at (mapping_at old) first)))) ∙ was)
    is

-- Pages of a range changed.
pub tile_in_range : (z : SizeSet) (old new : ℕ → Option Mapping) (range : PageRange) → KeepsOutsideIn z range old new
    → (t : Tile) (b : Bool) → is_tile_in z old t ≡ true
    → b ≡ (not (is_touched range t.extent.first) || is_tile_in z new t) → b ≡ is_tile_in z new t
tile_in_range z old new range keeps t b was is = left z new t (is_touched range t.extent.first) b (keeps t was) is
