-- Which tiles come with a change of one page: the page's own, and what is cut from the one before down to its size.
use Rattle.std.proofs.Common.{◌≡◌, ◌≢◌, ℕ, zero, suc, ◌+◌, ◌-◌, ◌*◌, ◌/◌, ◌%◌, ◌^◌, ◌<◌, ◌≤◌, true, false, Option, Some, None, refl, sym, ap, inl, inr, ◌∙◌, ◌⊎◌, arith}
use Rattle.std.proofs.lemmas.Bool.{cases_eq, cases_lt, false_from_ne_true, false≢true, true≢false}
use Rattle.std.proofs.lemmas.Option.{none-some, same_Some}
use Rattle.pager_model.specs.declared.tile.Mapping.{Mapping}
use Rattle.pager_model.specs.declared.tile.Tile.{Tile}
use Rattle.pager_model.specs.Extents.{extent_start}
use Rattle.pager_model.specs.Tiles.{IsTile, tile_of, is_tile, is_that_tile, size_in, size_at, same_tile}
use Rattle.pager_model.proofs.ExtentLemmas.{coarser}
use Rattle.pager_model.proofs.TileParts.{same_tile-true, same_tile-refl}
use Rattle.tiles.specs.Beside.{OthersSame}
use Rattle.tiles.specs.Changes.{part_from, part_start, own_part}
use Rattle.tiles.proofs.Eligible.{whole_alike}
use Rattle.tiles.proofs.Extents.{starts_below}
use Rattle.tiles.proofs.Largest.{size_small, size_is, tile_absent, tile_by, tile_by_own, whole_within, whole_beyond, within_size}
use Rattle.tiles.proofs.SizeChanges.{whole_other}
use Rattle.tiles.proofs.TileLaws.{tile_largest, largest_tile}
use Rattle.tiles.proofs.TouchedTiles.{tile_same}

-- ---- the parts of an extent

-- a part of the extent of the next size round a page
pub record IsPartStart (level page part : ℕ) : Type 0 where
  pub starts : extent_start level (part_start level page part) ≡ part_start level page part
  pub joined : part_start level page part / 8 ^ suc level ≡ page / 8 ^ suc level
  pub apart : part ≢ own_part level page → part_start level page part / 8 ^ level ≢ page / 8 ^ level

pub part_starts : (level page part : ℕ) → suc level ≤ 3 → part < 8 → IsPartStart level page part
part_starts zero page part low few = record { starts = omega arith; joined = omega arith; apart = λ other same. other (omega arith) }
part_starts (suc zero) page part low few = record { starts = omega arith; joined = omega arith; apart = λ other same. other (omega arith) }
part_starts (suc (suc zero)) page part low few =
    record { starts = omega arith; joined = omega arith; apart = λ other same. other (omega arith) }
part_starts (suc (suc (suc level))) page part low few = absurd (omega arith)

-- an extent in the one of the next size round a page, without the page, is one of the parts
pub record IsOtherPart (level page first part : ℕ) : Type 0 where
  pub few : part < 8
  pub other : part ≢ own_part level page
  pub is : first ≡ part_start level page part

other_part : (level page first : ℕ) → suc level ≤ 3 → extent_start level first ≡ first → first / 8 ^ suc level ≡ page / 8 ^ suc level
    → first / 8 ^ level ≢ page / 8 ^ level → IsOtherPart level page first (first / 8 ^ level % 8)
other_part zero page first low starts joined apart = record { few = omega arith; other = λ e. apart (omega arith); is = omega arith }
other_part (suc zero) page first low starts joined apart = record { few = omega arith; other = λ e. apart (omega arith); is = omega arith }
other_part (suc (suc zero)) page first low starts joined apart =
    record { few = omega arith; other = λ e. apart (omega arith); is = omega arith }
other_part (suc (suc (suc level))) page first low starts joined apart = absurd (omega arith)

-- ---- tests of tiles

pub is_tile-of : (pages : ℕ → Option Mapping) (t : Tile) → is_tile pages t ≡ true → tile_of pages t.extent.first ≡ Some t
is_tile-of pages t is = by (tile_of pages t.extent.first) refl
  where
    by : (o : Option Tile) → tile_of pages t.extent.first ≡ o → tile_of pages t.extent.first ≡ Some t
    by None at = absurd (false≢true (sym (ap (is_that_tile t) at) ∙ is))
    by (Some u) at = at ∙ ap Some (sym (same_tile-true t u (sym (ap (is_that_tile t) at) ∙ is)))

pub of-is_tile : (pages : ℕ → Option Mapping) (t : Tile) → tile_of pages t.extent.first ≡ Some t → is_tile pages t ≡ true
of-is_tile pages t at = ap (is_that_tile t) at ∙ same_tile-refl t

-- the tile of a page is a tile
pub own_is_tile : (pages : ℕ → Option Mapping) (page : ℕ) (t : Tile) → tile_of pages page ≡ Some t → is_tile pages t ≡ true
own_is_tile pages page t at =
    let is = tile_largest pages page t at in
    let starts = starts_below t.extent.size t.extent.first is.0.extent.0 in
    of-is_tile pages t (largest_tile pages t.extent.first t is.0 (omega (arith, starts.first, is.0.extent.1)))

-- and a tile round a page is its own
pub tile_is_own : (pages : ℕ → Option Mapping) (page : ℕ) (t : Tile) → is_tile pages t ≡ true
    → extent_start t.extent.size page ≡ t.extent.first → tile_of pages page ≡ Some t
tile_is_own pages page t is round = largest_tile pages page t (tile_largest pages t.extent.first t (is_tile-of pages t is)).0 round

-- a page of a tile has it
tile_at : (pages : ℕ → Option Mapping) (page other : ℕ) (t : Tile) → tile_of pages page ≡ Some t
    → other / 8 ^ t.extent.size ≡ page / 8 ^ t.extent.size → tile_of pages other ≡ Some t
tile_at pages page other t at same =
    let is = tile_largest pages page t at in
    largest_tile pages other t is.0 (ap (λ n. n * 8 ^ t.extent.size) same ∙ is.1)

-- the tile of a size at a page that begins an extent of it is the part of the larger tile there
part_is : (level s page : ℕ) (m : Mapping) (large : Tile) → level ≤ s → s ≤ 3 → extent_start level page ≡ page → page % 8 ^ s ≤ m.frame
    → large ≡ tile_by s page m → tile_by level page m ≡ part_from level page large
part_is level s page m large below low starts from_frame is =
    let small = starts_below level page (omega arith) in
    let big = starts_below s page low in
    let rest : page % 8 ^ level ≡ 0 = omega (arith, small.first, small.within, starts) in
    let first : page - page % 8 ^ level ≡ page = omega (arith, rest) in
    let had : large.frame ≡ m.frame - page % 8 ^ s = ap (λ (t : Tile). t.frame) is in
    let from : large.extent.first ≡ page - page % 8 ^ s = ap (λ (t : Tile). t.extent.first) is in
    let frame : m.frame - page % 8 ^ level ≡ large.frame + (page - large.extent.first) =
    omega (arith, rest, had, from, from_frame, big.within) in
    let rights : m.rights ≡ large.rights = sym (ap (λ (t : Tile). t.rights) is) in
    let dirty : m.dirty ≡ large.dirty = sym (ap (λ (t : Tile). t.dirty) is) in
    λ i. record { extent = record { size = level; first = first i }; frame = frame i; rights = rights i; dirty = dirty i }

-- ---- a change of one page

-- a part beside a page, of a size, of the tile that the page had, where the page's own tile is no larger now
pub record IsCutPart (old new : ℕ → Option Mapping) (page : ℕ) (large : Tile) (level part : ℕ) : Type 0 where
  pub at : tile_of old page ≡ Some large
  pub from : size_at new page ≤ level
  pub below : level < large.extent.size
  pub few : part < 8
  pub other : part ≢ own_part level page

-- a tile by itself beside a page, in the tile that the page had, is the part there
pub record IsCut (old new : ℕ → Option Mapping) (page : ℕ) (t : Tile) : Type 0 where
  pub large : Tile
  pub part : ℕ
  pub cut : IsCutPart old new page large t.extent.size part
  pub is : t ≡ part_from t.extent.size (part_start t.extent.size page part) large

pub record IsNew (old new : ℕ → Option Mapping) (t : Tile) : Type 0 where
  pub after : is_tile new t ≡ true
  pub before : is_tile old t ≡ false

module _ (old new : ℕ → Option Mapping) (page : ℕ) (others : OthersSame page old new) where
  -- the page's own tile is new where it isn't the one before
  pub own_new : (t : Tile) → tile_of new page ≡ Some t → tile_of old page ≢ Some t → IsNew old new t
  own_new t at differs =
      record {
        after = own_is_tile new page t at;
        before = false_from_ne_true (is_tile old t) (λ is. differs (tile_is_own old page t is (tile_largest new page t at).1));
      }

  module _ (large : Tile) (level part : ℕ) (cut : IsCutPart old new page large level part) where
    open cut use {at as had, from, below, few, other}

    abbrev start : ℕ
    start = part_start level page part

    abbrev piece : Tile
    piece = part_from level start large

    size_had : large.extent.size ≡ size_at old page
    size_had = sym (ap size_in had)

    low : large.extent.size ≤ 3
    low = omega (arith, size_had, size_small old page)

    at : IsPartStart level page part
    at = part_starts level page part (omega (arith, low, below)) few

    had_there : tile_of old start ≡ Some large
    had_there = tile_at old page start large had (coarser (suc level) large.extent.size start page (omega (arith, below)) low at.joined)

    size_there : size_at old start ≡ large.extent.size
    size_there = ap size_in had_there

    size_new : size_at new start ≡ level
    size_new =
        size_is new start level (omega (arith, low, below))
        (λ positive. sym (whole_other old new page level start others (omega (arith, low, below)) (at.apart other))
        ∙ whole_within old start level positive (omega (arith, size_there, below)))
        (λ k more small. whole_alike new k page start (coarser (suc level) k start page (omega arith) small at.joined)
        ∙ whole_beyond new page k (omega (arith, from)) small)

    tile_there : (o : Option Mapping) → old start ≡ o → tile_of new start ≡ Some piece
    tile_there None gone = absurd (none-some large (sym (tile_absent old start gone) ∙ had_there))
    tile_there (Some m) is =
        let now : new start ≡ Some m = others start (λ e. at.apart other (ap (λ n. n / 8 ^ level) e)) ∙ is in
        let before = tile_by_own old start m is in
        let size : size_at old start ≡ large.extent.size = size_there in
        let was : large ≡ tile_by large.extent.size start m = same_Some large (tile_by large.extent.size start m)
        (sym had_there ∙ before.is ∙ ap (λ k. Some (tile_by k start m)) size) in
        let frames : start % 8 ^ large.extent.size ≤ m.frame = omega (arith, before.from_frame, ap (λ k. start % 8 ^ k) size) in
        (tile_by_own new start m now).is ∙ ap (λ k. Some (tile_by k start m)) size_new
        ∙ ap Some (part_is level large.extent.size start m large (omega (arith, below)) low at.starts frames was)

    pub part_new : IsNew old new piece
    part_new =
        record {
          after = of-is_tile new piece (tile_there (old start) refl);
          before = ap (is_that_tile piece) had_there ∙ false_from_ne_true (same_tile piece large)
              (λ same. absurd (let e : level ≡ large.extent.size = ap (λ (u : Tile). u.extent.size) (same_tile-true piece large same) in
              omega (arith, below)));
        }

  -- and there are no others
  module _ (t : Tile) (is : is_tile new t ≡ true) (was : is_tile old t ≡ false) where
    abbrev first : ℕ
    first = t.extent.first

    abbrev k : ℕ
    k = t.extent.size

    now : tile_of new first ≡ Some t
    now = is_tile-of new t is

    tile : IsTile new t × (extent_start k first ≡ first)
    tile = tile_largest new first t now

    size : size_at new first ≡ k
    size = ap size_in now

    here : first / 8 ^ k ≡ page / 8 ^ k → tile_of new page ≡ Some t
    here same = tile_at new first page t now (sym same)

    there : first / 8 ^ k ≢ page / 8 ^ k → IsCut old new page t
    there apart = with_mapping (new first) refl
      where
        same : new first ≡ old first
        same = others first (λ e. apart (ap (λ n. n / 8 ^ k) e))

        differs : size_at old first ≢ k
        differs e = false≢true (sym was ∙ ap (is_that_tile t) (sym (tile_same old new first same (size ∙ sym e))) ∙ is)

        with_mapping : (o : Option Mapping) → new first ≡ o → IsCut old new page t
        with_mapping None gone = absurd (none-some t (sym (tile_absent new first gone) ∙ now))
        with_mapping (Some m) at =
            let low : k ≤ 3 = tile.0.extent.0 in
            let at_least : k ≤ size_at old first = elim (cases_lt 0 k) [
              | inl positive ↦ within_size old first k low (whole_other old new page k first others low apart
                  ∙ whole_within new first k positive (omega (arith, size)))
              | inr none ↦ omega arith
            ] in
            let more : k < size_at old first = elim (cases_eq (size_at old first) k) [
              | inl e ↦ absurd (differs e)
              | inr n ↦
                  omega (arith, at_least)
            ] in
            let old_low = size_small old first in
            let joined : first / 8 ^ suc k ≡ page / 8 ^ suc k = elim (cases_eq (first / 8 ^ suc k) (page / 8 ^ suc k)) [
              | inl e ↦ e
              | inr n ↦ absurd (true≢false (sym (whole_within old first (suc k) (omega arith) (omega (arith, more)))
                  ∙ whole_other old new page (suc k) first others (omega (arith, more, old_low)) n
                  ∙ whole_beyond new first (suc k) (omega (arith, size)) (omega (arith, more, old_low))))
            ] in
            let before = tile_by_own old first m (sym same ∙ at) in
            let s = size_at old first in
            let large = tile_by s first m in
            let had : tile_of old page ≡ Some large = tile_at old first page large before.is
            (sym (coarser (suc k) s first page (omega (arith, more)) old_low joined)) in
            let from : size_at new page ≤ k = elim (cases_lt k (size_at new page)) [
              | inr within ↦ within
              | inl above ↦ absurd (true≢false (sym (whole_within new page (suc k) (omega arith) (omega (arith, above)))
                  ∙ sym (whole_alike new (suc k) page first joined) ∙ whole_beyond new first (suc k) (omega (arith, size))
                  (omega (arith, more, old_low))))
            ] in
            let other = other_part k page first (omega (arith, more, old_low)) tile.1 joined apart in
            let own : t ≡ tile_by k first m = same_Some t (tile_by k first m)
            (sym now ∙ (tile_by_own new first m at).is ∙ ap (λ j. Some (tile_by j first m)) size) in
            record {
              large = large;
              part = first / 8 ^ k % 8;
              cut = record { at = had; from = from; below = more; few = other.few; other = other.other };
              is = own ∙ part_is k s first m large (omega (arith, more)) old_low tile.1 before.from_frame refl
                  ∙ ap (λ n. part_from k n large) other.is;
            }

    pub new_is : (tile_of new page ≡ Some t) ⊎ IsCut old new page t
    new_is = elim (cases_eq (first / 8 ^ k) (page / 8 ^ k)) [ inl same ↦ inl (here same) | inr apart ↦ inr (there apart) ]
