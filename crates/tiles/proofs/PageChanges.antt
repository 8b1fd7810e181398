-- What a change of one page does to the tiles, by the page's tile before it and after.
use Rattle.std.proofs.Common.{◌≡◌, ◌≢◌, ℕ, ◌+◌, ◌<◌, Bool, true, false, not, ◌&&◌, List, [], length, if◌then◌else◌, ◌-◌, ◌^◌, is_some, Option, Some, None, option_map, refl, sym, ap, inl, inr, ◌∙◌, ◌⊎◌, arith, subst}
use Rattle.std.specs.List.{list_any}
use Rattle.std.specs.Option.{IfSome}
use Rattle.std.proofs.lemmas.Bool.{cases_Bool, cond-true, cond-false, false_from_ne_true, true≢false}
use Rattle.std.proofs.lemmas.Option.{none-some, same_Some}
use Rattle.pager_model.specs.Bounds.{space_pages}
use Rattle.pager_model.specs.declared.tile.Mapping.{Mapping}
use Rattle.pager_model.specs.declared.tile.Tile.{Tile}
use Rattle.pager_model.specs.SizeSets.{size_within}
use Rattle.pager_model.specs.Tiles.{tile_of, size_in, size_at, is_tile, same_tile}
use Rattle.pager_model.proofs.ExtentLemmas.{eight_pos, eight_small}
use Rattle.pager_model.proofs.TileParts.{same_tile-true, same_tile-refl}
use Rattle.tiles.specs.declared.pages.TileChange.{TileChange}
use Rattle.tiles.specs.Beside.{OthersSame}
use Rattle.tiles.specs.Changes.{AreChanges, Came, HasPieces, IsRound, IsTileChange, are_same, coming, cut_round, frame_within, moves_between, moves_of, times, pieces}
use Rattle.tiles.specs.Kept.{ArePages}
use Rattle.tiles.specs.Resident.{Resident, mapping_at, frames_in, Maps}
use Rattle.tiles.specs.Sized.{AreMovesIn, size_by}
use Rattle.tiles.proofs.Extents.{starts_below}
use Rattle.tiles.proofs.Largest.{size_small, tile_absent, tile_by_own}
use Rattle.tiles.proofs.MoveCounts.{others_same, moves_one, moves_same}
use Rattle.tiles.proofs.Pieces.{came_none, came_pieces, cut_round-none, none_stands, one_stands}
use Rattle.tiles.proofs.SizeChanges.{others_back}
use Rattle.tiles.proofs.TileLaws.{tile_largest, tile_uniform}

-- a page's tile lies round it, in frames that there are
pub round_of : (r : Resident) → ArePages r → (page : ℕ) (o : Option Tile) → o ≡ tile_of (mapping_at r) page → IfSome o (IsRound page)
round_of r kept page None at = tt
round_of r kept page (Some t) at =
    let is = tile_largest (mapping_at r) page t (sym at) in
    let uniform = tile_uniform (mapping_at r) t is.0 in
    let frame : t.frame + 0 < frames_in r = kept.known (t.extent.first + 0) (t.frame + 0)
    (ap (option_map (λ (m : Mapping). m.frame)) (uniform.1 0 (eight_pos t.extent.size))) in
    record { low = is.0.extent.0; starts = is.1; fits = omega (arith, frame, kept.few, eight_small t.extent.size is.0.extent.0) }

pub tile_change_of : (r s : Resident) → ArePages r → ArePages s → (page : ℕ) (change : TileChange) → change.before ≡ tile_of (mapping_at r) page
    → change.after ≡ tile_of (mapping_at s) page → IsTileChange page r s change
tile_change_of r s kept later page change before after =
    record {
      before = before;
      after = after;
      before_round = round_of r kept page change.before before;
      after_round = round_of s later page change.after after;
    }

-- a page's tile tells its frame
pub frame_by_tile : (pages : ℕ → Option Mapping) (page : ℕ) → frame_within page (tile_of pages page) ≡ option_map
    (λ (m : Mapping). m.frame) (pages page)
frame_by_tile pages page = by (pages page) refl
  where
    by : (o : Option Mapping) → pages page ≡ o → frame_within page (tile_of pages page) ≡ option_map (λ (m : Mapping). m.frame) o
    by None at = ap (frame_within page) (tile_absent pages page at)
    by (Some m) at =
        let tile = tile_by_own pages page m at in
        let starts = starts_below (size_at pages page) page (size_small pages page) in
        ap (frame_within page) tile.is ∙ ap Some (omega (arith, starts.within, tile.from_frame))

-- and no frame by a tile round a page is too large
pub frame_fits : (page : ℕ) (t : Tile) → IsRound page t → t.frame + (page - t.extent.first) < 2 ^ 32
frame_fits page t round =
    let starts = starts_below t.extent.size page round.low in
    omega (arith, starts.first, starts.within, starts.short, round.starts, round.fits)

same_or_other : (a b : Option Tile) → (a ≡ b) ⊎ (a ≢ b)
same_or_other None None = inl refl
same_or_other None (Some u) = inr (none-some u)
same_or_other (Some t) None = inr (λ e. none-some t (sym e))
same_or_other (Some t) (Some u) = elim (cases_Bool (same_tile t u)) [
  | inl same ↦ inl (ap Some (same_tile-true t u same))
  | inr other ↦ inr (λ e. true≢false (sym (ap (same_tile t) (sym (same_Some t u e)) ∙ same_tile-refl t) ∙ other))
]

-- the test is right
are_same-true : (a b : Option Tile) → are_same a b ≡ true → a ≡ b
are_same-true None None same = refl
are_same-true None (Some u) same = absurd (true≢false (sym same))
are_same-true (Some t) None same = absurd (true≢false (sym same))
are_same-true (Some t) (Some u) same = ap Some (same_tile-true t u same)

are_same-refl : (a : Option Tile) → are_same a a ≡ true
are_same-refl None = refl
are_same-refl (Some t) = same_tile-refl t

-- the tiles that come have their pieces
pub has_pieces : (page : ℕ) (before after : Option Tile) → HasPieces page before after (coming page before after)
has_pieces page before after = record {
  same = λ same. cond-true _ _ _ (ap (are_same before) (sym same) ∙ are_same-refl before);
  other = λ other. cond-false _ _ _ (false_from_ne_true (are_same before after) (λ same. other (are_same-true before after same)));
}

-- and what has these pieces is these tiles
pub coming_is : (page : ℕ) (before after : Option Tile) (tiles : List Tile) → HasPieces page before after tiles
    → tiles ≡ coming page before after
coming_is page before after tiles has = elim (same_or_other before after) [
  | inl same ↦ has.same same ∙ sym ((has_pieces page before after).same same)
  | inr other ↦ has.other other ∙ sym ((has_pieces page before after).other other)
]

-- none go where a page had no tile and has one of one page at most
pub none_goes : (page : ℕ) (before after : Option Tile) → is_some before ≡ false → size_in after ≡ 0 → coming page after before ≡ []
none_goes page (Some u) after some small = absurd (true≢false some)
none_goes page None None none small = refl
none_goes page None (Some t) none small = ap (cut_round page t 0) {x = t.extent.size - 0} {y = 0} (omega (arith, small))
    ∙ cut_round-none page t 0

came_as : (old new : ℕ → Option Mapping) (tiles others : List Tile) → others ≡ tiles → Came old new tiles → Came old new others
came_as old new tiles others e came = record { each = λ t. ap (times t) e ∙ came.each t; few = omega (arith, ap length e, came.few) }

-- the tiles that came, from the page's tile
pub came_of : (old new : ℕ → Option Mapping) (page : ℕ) (before after : Option Tile) (tiles : List Tile) → OthersSame page old new
    → before ≡ tile_of old page → after ≡ tile_of new page → HasPieces page before after tiles → Came old new tiles
came_of old new page before after tiles others had has list = elim (same_or_other before after) [
  | inl same ↦ came_as old new [] tiles (list.same same) (came_none old new page others (sym had ∙ same ∙ has))
  | inr other ↦ came_as old new (pieces page (tile_of old page) (tile_of new page)) tiles
      (list.other other ∙ ap (λ o. pieces page o after) had ∙ ap (pieces page (tile_of old page)) has)
      (came_pieces old new page others (λ e. other (had ∙ e ∙ sym has)))
]

pub changes_of : (r s : Resident) (page : ℕ) (given : Option Mapping) (change : TileChange) → page < space_pages → Maps page given r s
    → IsTileChange page r s change
    → AreChanges r s (record { page = page; before = change.before; after = change.after })
changes_of r s page given change in_space maps changed =
    let others = others_same r s page given maps in
    record {
      gone = came_of (mapping_at s) (mapping_at r) page change.after change.before _
          (others_back (mapping_at r) (mapping_at s) page others) changed.after changed.before (has_pieces page change.after change.before);
      came = came_of (mapping_at r) (mapping_at s) page change.before change.after _ others changed.before changed.after
          (has_pieces page change.before change.after);
      moves_in = λ z.
          subst (λ o. AreMovesIn z (mapping_at r) (mapping_at s) (moves_of z (record { page = page; before = change.before; after = o })))
          (sym changed.after)
          (subst (λ b. AreMovesIn z (mapping_at r) (mapping_at s) (moves_between page change.before b (size_by z (mapping_at s) page)))
          (ap (λ o. size_within z (size_in o)) (sym changed.before))
          (moves_one z (mapping_at r) (mapping_at s) page others in_space change.before changed.before));
    }

-- nothing goes or comes where each page is as it was
pub changes_none : (r s : Resident) → ((p : ℕ) → mapping_at s p ≡ mapping_at r p)
    → AreChanges r s (record { page = 0; before = None; after = None })
changes_none r s same =
    let one : mapping_at s ≡ mapping_at r = λ i p. same p i in
    record {
      gone = came_none (mapping_at s) (mapping_at r) 0 (λ p _. sym (same p)) (ap (λ (pages : ℕ → Option Mapping). tile_of pages 0) one);
      came = came_none (mapping_at r) (mapping_at s) 0 (λ p _. same p) (ap (λ (pages : ℕ → Option Mapping). tile_of pages 0) (sym one));
      moves_in = λ z. moves_same z (mapping_at r) (mapping_at s) _ same refl refl (omega arith);
    }

-- what was a tile is one still where it isn't among those that went
pub stays_where : (new old : ℕ → Option Mapping) (gone : List Tile) (t : Tile) → Came new old gone → is_tile old t ≡ true
    → not (list_any (same_tile t) gone) ≡ is_tile new t
stays_where new old gone t went was = by (is_tile new t) refl
  where
    standing : (after : Bool) → is_tile new t ≡ after → times t gone ≡ (if not after then 1 else 0)
    standing after is = went.each t ∙ ap (λ b. if b && not (is_tile new t) then 1 else 0) was ∙ ap (λ b. if not b then 1 else 0) is

    by : (after : Bool) → is_tile new t ≡ after → not (list_any (same_tile t) gone) ≡ is_tile new t
    by true is = ap not (none_stands t gone (standing true is)) ∙ sym is
    by false is = ap not (one_stands t gone (omega (arith, standing false is))) ∙ sym is
