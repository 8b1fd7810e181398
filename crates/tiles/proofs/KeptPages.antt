-- What the entries say of the pages that they map, and what a change of some pages keeps.
use Rattle.std.proofs.Common.{◌≡◌, ◌≢◌, ℕ, ◌+◌, ◌-◌, ◌/◌, ◌%◌, ◌^◌, ◌<◌, ◌≤◌, Bool, true, false, ◌||◌, ◌&&◌, if◌then◌else◌, max, eqb, Option, Some, None, option_map, is_some, refl, sym, ap, subst, inl, inr, ◌∙◌, arith}
use Rattle.std.specs.Option.{IfNone, IfSome}
use Rattle.std.proofs.lemmas.Bool.{cases_eq, eq-eqb, ne_eqb}
use Rattle.std.proofs.lemmas.Option.{none-some, same_Some}
use Rattle.tiles.specs.declared.entry.TableEntry.{TableEntry}
use Rattle.tiles.specs.TableEntries.{entry_at, mapping_at as said_at, mapping_of, pages_in, tile_of_entry, entry_count, is_first_of, AreEntries, IsNextEntry, NoneMapped}
use Rattle.tiles.proofs.Mappings.{first_is, within}
use Rattle.pager_model.specs.Bounds.{most_frames, space_pages}
use Rattle.pager_model.specs.declared.tile.Mapping.{Mapping}
use Rattle.pager_model.specs.declared.tile.Tile.{Tile}
use Rattle.pager_model.specs.Tiles.{begins_at, begins_tile, count_pages, moved_by, size_in, tile_of, tiles_of_size}
use Rattle.pager_model.proofs.CountLemmas.{weight}
use Rattle.pager_model.proofs.ExtentLemmas.{coarser, eight_pos, extent_of_frame, of_extent}
use Rattle.tiles.specs.Kept.{AreTiles, ArePages, FitsFrames, IsNextTile, MapsExtent}
use Rattle.tiles.specs.Resident.{Resident, mapping_at, frames_in, frame_of_page, Maps, NoneResident}
use Rattle.tiles.proofs.Counting.{count-is, count-sum, count_pages-is, count_pages_at}
use Rattle.tiles.proofs.EntryTiles.{entry_says, none_says, same_entry, tile_is}
use Rattle.tiles.proofs.Numbering.{few_with}

-- a page is mapped as its entry says
pub mapping_is : (r : Resident) (p : ℕ) → option_map (λ e. mapping_of e p) (entry_at r p) ≡ mapping_at r p
unfolding said_at
mapping_is r p = refl

frame_is : (r : Resident) (p : ℕ) (m : Mapping) → mapping_at r p ≡ Some m → frame_of_page r p ≡ Some m.frame
frame_is r p m at = ap (option_map (λ (m : Mapping). m.frame)) at

pages_are : (r : Resident) → pages_in r ≡ count_pages (λ p. is_some (entry_at r p))
unfolding pages_in
pages_are r = refl

-- ---- the extent of an entry

-- it says what each of its pages is mapped by
says : (r : Resident) → AreEntries r → (p other : ℕ) (e : TableEntry) → entry_at r p ≡ Some e → other / 8 ^ e.extent.size ≡ p / 8 ^ e.extent.size
    → mapping_at r other ≡ Some (mapping_of e other)
says r entries p other e at joined = entry_says r other e (same_entry r entries p other e at joined)

says_within : (r : Resident) → AreEntries r → (p other : ℕ) (e : TableEntry) → entry_at r p ≡ Some e → e.extent.first ≤ other
    → other < e.extent.first + 8 ^ e.extent.size → mapping_at r other ≡ Some (mapping_of e other)
says_within r entries p other e at from to =
    let first = first_is r p e entries at in
    says r entries p other e at (extent_of_frame (p / 8 ^ e.extent.size) (8 ^ e.extent.size) other (omega arith) (omega arith))

pub entry_fits : (r : Resident) → ArePages r → (p : ℕ) (e : TableEntry) → entry_at r p ≡ Some e → FitsFrames r p e
entry_fits r kept p e at =
    let entries = kept.tiles.entries in
    let inside = within r p e entries at in
    let last = e.extent.first + (8 ^ e.extent.size - 1) in
    let some = eight_pos e.extent.size in
    let said = says_within r entries p last e at (omega arith) (omega arith) in
    let known : e.mapping.frame + (last - e.extent.first) < frames_in r =
    kept.known last (e.mapping.frame + (last - e.extent.first)) (frame_is r last (mapping_of e last) said) in
    record {
      low = entries.low p e at;
      in_space = entries.in_space p e at;
      starts = first_is r p e entries at;
      from = inside.0;
      to = inside.1;
      frames = omega arith;
      few = kept.few;
      says = λ other. says_within r entries p other e at;
    }

pub found_fits : (r : Resident) → ArePages r → (p : ℕ) (o : Option TableEntry) → o ≡ entry_at r p → IfSome o (FitsFrames r p)
found_fits r kept p None at = tt
found_fits r kept p (Some e) at = entry_fits r kept p e (sym at)

-- ---- the next entry

pub next_tile : (r : Resident) → ArePages r → (from end : ℕ) (o : Option TableEntry) → IfSome o (IsNextEntry r from end)
    → IfSome o (IsNextTile r from end)
next_tile r kept from end None next = tt
next_tile r kept from end (Some e) next =
    let page = max from e.extent.first in
    record {
      next = next;
      fits = entry_fits r kept page e next.at;
      tile = tile_is r kept.tiles page ∙ ap (option_map tile_of_entry) next.at;
      lowest = λ p on before. none_says r p (next.lowest p on (omega arith));
    }

pub no_next : (r : Resident) (from end : ℕ) (o : Option TableEntry) → IfNone o (NoneMapped r from end)
    → IfNone o (NoneResident (mapping_at r) from end)
no_next r from end None none = λ p on before. none_says r p (none p on before)
no_next r from end (Some e) none = tt

-- ---- nothing is resident

pub fresh_kept : (r : Resident) → ((p : ℕ) → entry_at r p ≡ None) → frames_in r ≤ most_frames → ArePages r
fresh_kept r empty few = record {
  tiles = record {
    entries = record {
      low = λ p e at. absurd (none p e at);
      round = λ p e at. absurd (none p e at);
      one = λ p other e at _. absurd (none p e at);
      in_space = λ p e at. absurd (none p e at);
    };
    aligned = λ p e at. absurd (none p e at);
    largest = λ p size e at _ _. absurd (none p e at);
  };
  few = few;
  known = λ p n at. absurd (no_frame p n at);
  apart = λ p q n at _. absurd (no_frame p n at);
}
  where
    none : (p : ℕ) (e : TableEntry) → entry_at r p ≡ Some e → ⊥
    none p e at = none-some e (sym (empty p) ∙ at)

    no_frame : (p n : ℕ) → frame_of_page r p ≡ Some n → ⊥
    no_frame p n at = none-some n (sym (ap (option_map (λ (m : Mapping). m.frame)) (none_says r p (empty p))) ∙ at)

-- ---- the tiles

-- the tile of a page is its entry
pub tile_there : (r : Resident) (p : ℕ) (e : TableEntry) (t : Tile) → AreTiles r → entry_at r p ≡ Some e → t ≡ tile_of_entry e
    → Some t ≡ tile_of (mapping_at r) p
tile_there r p e t tiles at is = ap Some is ∙ sym (tile_is r tiles p ∙ ap (option_map tile_of_entry) at)

-- so there is one of each size for each entry of it
pub counts_are : (r : Resident) → AreTiles r → (size : ℕ) → entry_count r size ≡ tiles_of_size (mapping_at r) size
counts_are r tiles size = ap count_pages (let tests : (λ p. is_first_of size p (entry_at r p)) ≡ begins_tile
    (mapping_at r) size = λ i p. each p i in tests)
  where
    of : (p : ℕ) (o : Option TableEntry) → is_first_of size p o ≡ (begins_at p (option_map tile_of_entry o) && eqb
        (size_in (option_map tile_of_entry o)) size)
    of p None = refl
    of p (Some e) = refl

    each : (p : ℕ) → is_first_of size p (entry_at r p) ≡ begins_tile (mapping_at r) size p
    each p = of p (entry_at r p) ∙ ap (λ (o : Option Tile). begins_at p o && eqb (size_in o) size) (sym (tile_is r tiles p))

-- ---- a page is filled, in a frame that no page has

module _ (r : Resident) (kept : ArePages r) (page : ℕ) (given : Mapping) (absent : entry_at r page ≡ None)
    (known : given.frame < frames_in r) (others : (p : ℕ) → frame_of_page r p ≢ Some given.frame) where
  bare : (p : ℕ) → entry_at r p ≡ None → is_some (frame_of_page r p) ≡ false
  bare p none = ap (λ (o : Option Mapping). is_some (option_map (λ (m : Mapping). m.frame) o)) (none_says r p none)

  has : (p : ℕ) (e : TableEntry) → entry_at r p ≡ Some e → is_some (frame_of_page r p) ≡ true
  has p e is = ap (λ (o : Option Mapping). is_some (option_map (λ (m : Mapping). m.frame) o)) (entry_says r p e is)

  -- a page has a frame, or is this one
  one_more : (p : ℕ) (o : Option TableEntry) → entry_at r p ≡ o
      → weight (is_some (frame_of_page r p) || eqb p page) ≡ weight (is_some (entry_at r p)) + weight (eqb p page && true)
  one_more p None none = sums _ _ (eqb p page) (bare p none) (ap is_some none)
    where
      sums : (a b c : Bool) → a ≡ false → b ≡ false → weight (a || c) ≡ weight b + weight (c && true)
      sums a b true unframed unmapped = omega (arith, ap (λ x. weight (x || true)) unframed, ap weight unmapped)
      sums a b false unframed unmapped = omega (arith, ap (λ x. weight (x || false)) unframed, ap weight unmapped)
  one_more p (Some e) is = sums _ _ _ (has p e is) (ap is_some is) (ne_eqb p page
      (λ same. none-some e (sym absent ∙ ap (entry_at r) (sym same) ∙ is)))
    where
      sums : (a b c : Bool) → a ≡ true → b ≡ true → c ≡ false → weight (a || c) ≡ weight b + weight (c && true)
      sums a b c framed mapped other = omega (arith, ap (λ x. weight (x || c)) framed, ap weight mapped, ap (λ x. weight (x && true)) other)

  -- there is room for it
  pub room_for_one : page < space_pages → pages_in r < frames_in r
  room_for_one in_space = at space_pages refl
    where
      at : (many : ℕ) → many ≡ space_pages → pages_in r < frames_in r
      at many e =
          omega (
            arith,
            few_with (frame_of_page r) (frames_in r) page given.frame
                (record { known = known; others = λ p _. others p; within = kept.known; apart = kept.apart }) many,
            count-is (λ p. is_some (frame_of_page r p) || eqb p page) 0 many,
            count-sum (λ p. is_some (frame_of_page r p) || eqb p page) (λ p. is_some (entry_at r p)) (λ p. eqb p page && true) 0 many
                (λ p _ _. one_more p (entry_at r p) refl),
            pages_are r,
            count_pages-is (λ p. is_some (entry_at r p)) many e,
            count_pages-is (λ p. eqb p page && true) many e,
            count_pages_at page true in_space,
          )

  pub fill_kept : (s : Resident) → AreTiles s → Maps page (Some given) r s → ArePages s
  fill_kept s tiles maps = record {
    tiles = tiles;
    few = omega (arith, kept.few, maps.frames);
    known = λ p n at. elim (cases_eq p page) [
      | inl e ↦ omega (arith, here p n e at, known, maps.frames)
      | inr other ↦ omega (arith, kept.known p n (sym (there p other) ∙ at), maps.frames)
    ];
    apart = λ p q n at_p at_q. elim (cases_eq p page) [
      | inl e ↦ elim (cases_eq q page) [
        | inl f ↦ e ∙ sym f
        | inr other ↦ absurd (others q (sym (there q other) ∙ at_q ∙ ap Some (here p n e at_p)))
      ]
      | inr other ↦ elim (cases_eq q page) [
        | inl f ↦ absurd (others p (sym (there p other) ∙ at_p ∙ ap Some (here q n f at_q)))
        | inr another ↦ kept.apart p q n (sym (there p other) ∙ at_p) (sym (there q another) ∙ at_q)
      ]
    ];
  }
    where
      there : (p : ℕ) → p ≢ page → frame_of_page s p ≡ frame_of_page r p
      there p n = ap (option_map (λ (m : Mapping). m.frame)) (maps.at p
          ∙ ap (λ (b : Bool). if b then Some given else mapping_at r p) (ne_eqb p page n))

      here : (p n : ℕ) → p ≡ page → frame_of_page s p ≡ Some n → n ≡ given.frame
      here p n e at =
          let said = ap (option_map (λ (m : Mapping). m.frame)) (maps.at p
          ∙ ap (λ (b : Bool). if b then Some given else mapping_at r p) (eq-eqb p page e)) in
          sym (same_Some given.frame n (sym said ∙ at))

-- ---- pages keep their frames, or give them up

pub keeps_frames : (r s : Resident) → ArePages r → AreTiles s → frames_in s ≡ frames_in r
    → ((p n : ℕ) → frame_of_page s p ≡ Some n → frame_of_page r p ≡ Some n) → ArePages s
keeps_frames r s kept tiles frames had = record {
  tiles = tiles;
  few = omega (arith, kept.few, frames);
  known = λ p n at. omega (arith, kept.known p n (had p n at), frames);
  apart = λ p q n at_p at_q. kept.apart p q n (had p n at_p) (had q n at_q);
}

pub remove_kept : (r s : Resident) (page : ℕ) → ArePages r → AreTiles s → Maps page None r s → ArePages s
remove_kept r s page kept tiles maps = keeps_frames r s kept tiles maps.frames had
  where
    had : (p n : ℕ) → frame_of_page s p ≡ Some n → frame_of_page r p ≡ Some n
    had p n at = elim (cases_eq p page) [
      | inl e ↦ absurd (none-some n
          (sym (ap (option_map (λ (m : Mapping). m.frame)) (maps.at p
          ∙ ap (λ (b : Bool). if b then None else mapping_at r p) (eq-eqb p page e))) ∙ at))
      | inr other ↦ sym (ap (option_map (λ (m : Mapping). m.frame)) (maps.at p
          ∙ ap (λ (b : Bool). if b then None else mapping_at r p) (ne_eqb p page other))) ∙ at
    ]

-- the pages of a part of an entry have another mapping in their frames
pub set_kept : (r s : Resident) (size page : ℕ) (given : Mapping) (e : TableEntry) → ArePages r → entry_at r page ≡ Some e → size ≤ e.extent.size
    → page % 8 ^ size ≡ 0 → given.frame ≡ (mapping_of e page).frame
    → AreTiles s → MapsExtent size page given r s → ArePages s
set_kept r s size page given e kept at small aligned frame tiles maps =
    keeps_frames r s kept tiles maps.frames (λ p n is. sym (same p) ∙ is)
  where
    fits : FitsFrames r page e
    fits = entry_fits r kept page e at

    same : (p : ℕ) → frame_of_page s p ≡ frame_of_page r p
    same p = elim (cases_eq (p / 8 ^ size) (page / 8 ^ size)) [
      | inl joined ↦
          let from = of_extent size page p (omega (arith, small, fits.low)) aligned joined in
          let was = says r kept.tiles.entries page p e at (coarser size e.extent.size p page small fits.low joined) in
          let is = maps.at p ∙ ap (λ (b : Bool). if b then Some (moved_by (p - page) given) else mapping_at r p) (eq-eqb _ _ joined) in
          frame_is s p (moved_by (p - page) given) is ∙ ap Some (omega (arith, frame, from, fits.from))
          ∙ sym (frame_is r p (mapping_of e p) was)
      | inr apart ↦ ap (option_map (λ (m : Mapping). m.frame)) (maps.at p
          ∙ ap (λ (b : Bool). if b then Some (moved_by (p - page) given) else mapping_at r p) (ne_eqb _ _ apart))
    ]

-- the extent of one page
maps_page : (page : ℕ) (given : Mapping) (r s : Resident) → MapsExtent 0 page given r s → Maps page (Some given) r s
maps_page page given r s maps = record {
  frames = maps.frames;
  at = λ p. elim (cases_eq p page) [
    | inl e ↦
        maps.at p
        ∙ ap (λ (b : Bool). if b then Some (moved_by (p - page) given) else mapping_at r p)
        (eq-eqb (p / 8 ^ 0) (page / 8 ^ 0) (omega arith))
        ∙ ap (λ (f : ℕ). Some (record { frame = f; region = given.region; rights = given.rights; dirty = given.dirty })) {x = given.frame +
        (p - page)} {y = given.frame} (omega arith)
        ∙ sym (ap (λ (b : Bool). if b then Some given else mapping_at r p) (eq-eqb p page e))
    | inr n ↦
        let apart : p / 8 ^ 0 ≢ page / 8 ^ 0 = λ e. n (omega arith) in
        maps.at p
        ∙ ap (λ (b : Bool). if b then Some (moved_by (p - page) given) else mapping_at r p) (ne_eqb (p / 8 ^ 0) (page / 8 ^ 0) apart)
        ∙ sym (ap (λ (b : Bool). if b then Some given else mapping_at r p) (ne_eqb p page n))
  ];
}

pub maps_one : (size page : ℕ) (given : Mapping) (r s : Resident) → size ≡ 0 → MapsExtent size page given r s → Maps page (Some given) r s
maps_one size page given r s none maps = maps_page page given r s (subst (λ k. MapsExtent k page given r s) none maps)

-- a page has what it is given already
pub maps_same : (page : ℕ) (given : Option Mapping) (r : Resident) → given ≡ mapping_at r page → Maps page given r r
maps_same page given r is = record {
  frames = refl;
  at = λ p. elim (cases_eq p page) [
    | inl e ↦ ap (mapping_at r) e ∙ sym is ∙ sym (ap (λ (b : Bool). if b then given else mapping_at r p) (eq-eqb p page e))
    | inr n ↦ sym (ap (λ (b : Bool). if b then given else mapping_at r p) (ne_eqb p page n))
  ];
}

-- a page that isn't resident stays so, and one that is given its own mapping keeps it
pub given_same : (page : ℕ) (given : Mapping → Mapping) (o : Option Mapping) (r : Resident) → o ≡ mapping_at r page
    → option_map given o ≡ o → Maps page (option_map given (mapping_at r page)) r r
given_same page given o r at kept = maps_same page _ r (subst (λ (q : Option Mapping). option_map given q ≡ q) at kept)

-- a resident page is given another
pub given_other : (page : ℕ) (given : Mapping → Mapping) (m : Mapping) (r s : Resident) → Some m ≡ mapping_at r page
    → Maps page (Some (given m)) r s → Maps page (option_map given (mapping_at r page)) r s
given_other page given m r s at maps = subst (λ (q : Option Mapping). Maps page (option_map given q) r s) at maps
