-- What becomes of what a space and a state have in common of translations, as pages change and tiles are used.
use Rattle.std.proofs.Common.{◌≡◌, ℕ, ◌+◌, ◌<◌, ◌≤◌, Bool, true, false, ◌==◌, not, ◌||◌, nat_lt, min, if◌then◌else◌, List, [], ◌∷◌, filter, map, length, slice_index_or, Option, Some, None, is_some, option_map, refl, sym, ap, subst, inl, inr, ◌∙◌, ◌⊎◌, arith}
use Rattle.std.proofs.lemmas.Bool.{cases_Bool, cases_lt, cond-true, cond-false}
use Rattle.std.proofs.lemmas.Bool.Decides.{nat_tests}
use Rattle.std.proofs.lemmas.List.{get_or-map, length-map}
use Rattle.std.proofs.Math.Nat.{min-eq_left, min-eq_right}
use Rattle.pager_model.specs.declared.page_range.PageRange.{PageRange}
use Rattle.pager_model.specs.declared.region.Region.{Region}
use Rattle.pager_model.specs.declared.region.Rights.{Rights}
use Rattle.pager_model.specs.declared.tile.Mapping.{Mapping}
use Rattle.pager_model.specs.declared.tile.Tile.{Tile}
use Rattle.pager_model.specs.Images.{still_tiles, touched_by, images_with}
use Rattle.pager_model.specs.Regions.{region_at, rights_by}
use Rattle.pager_model.specs.SpaceStates.{SpaceState, last_count, pages_of}
use Rattle.pager_model.specs.SizeSets.{SizeSet}
use Rattle.pager_model.specs.Tiles.{mapping_with, is_tile_in, tile_in, promotions_in, demotions_in}
use Rattle.space_core.specs.Keeping.{IsMapped}
use Rattle.space_core.specs.Standing.{Kept, StandsFor, Translates, image_at, frame_at, dirty_at, rights_at}
use Rattle.space_core.specs.Tables.{Table, mapping_in, own_in}
use Rattle.space_core.specs.Translating.{Retouches, Touches, counted_up, untouched_tiles}
use Rattle.space_core.proofs.TableLemmas.{frame-absent, frame-mapped, dirty-mapped}
use Rattle.tiles.specs.declared.moves.Moves.{Moves}
use Rattle.tiles.specs.Resident.{with_flag}
use Rattle.tiles.specs.Sized.{AreMovesIn, KeepsOutsideIn}
use Rattle.tiles.specs.Touched.{is_touched}
use Rattle.tiles.proofs.Cleared.{no_promotions, no_demotions}
use Rattle.pager_laws.proofs.ImageTiles.{touched_if, still_again, used_at, IsUsed}

-- Lists of tiles.

untouched : (here : Bool) (ts : List Tile) → touched_by (if here then None else None) ts ≡ ts
untouched true ts = refl
untouched false ts = refl

-- a count that stands still at its type's end is the whole count, as long as that is in the type
counted_to : (last kept count by : ℕ) → (count ≤ last → kept ≡ count) → count + by ≤ last
    → (if nat_lt (kept + by) last then kept + by else last) ≡ count + by
counted_to last kept count by same within =
    let is = same (omega arith) in
    rw is (elim (cases_lt (count + by) last) [ inl l ↦ grind (arith, nat_tests) | inr past ↦ grind (arith, nat_tests) ])

-- and that is how a sum is cut at its type's end
pub saturated : (count by : ℕ) → min (count + by) last_count ≡ counted_up count by
saturated count by =
    elim (cases_lt (count + by) last_count) [
      | inl l ↦ let is : counted_up count by ≡ count + by = grind (arith, nat_tests) in min-eq_left (omega arith) ∙ sym is
      | inr past ↦ let is : counted_up count by ≡ last_count = grind (arith, nat_tests) in min-eq_right past ∙ sym is
    ]

-- a count to which nothing is added
same_count : (last kept count total by : ℕ) → by ≡ 0 → (count ≤ last → kept ≡ count) → total ≡ count + by → total ≤ last → kept ≡ total
same_count last kept count total by none same is low = omega (arith, same (omega (arith, none, is, low)), none, is)

-- What an entry of a processor makes of a state's translations: the images keep what is a tile still, the processor used this tile, or
-- none, and the moves of the pages are counted.
pub record Follows (st after : SpaceState) (c : ℕ) (tile : Option Tile) : Type 0 where
  pub sizes : after.sizes ≡ st.sizes
  pub images : after.images ≡ images_with st.sizes (pages_of after) c tile st.images
  pub promotions : after.promotions ≡ st.promotions + promotions_in st.sizes (pages_of st) (pages_of after)
  pub demotions : after.demotions ≡ st.demotions + demotions_in st.sizes (pages_of st) (pages_of after)

-- the same by these sizes
record FollowsIn (z : SizeSet) (st after : SpaceState) (c : ℕ) (tile : Option Tile) : Type 0 where
  sizes : after.sizes ≡ z
  images : after.images ≡ images_with z (pages_of after) c tile st.images
  promotions : after.promotions ≡ st.promotions + promotions_in z (pages_of st) (pages_of after)
  demotions : after.demotions ≡ st.demotions + demotions_in z (pages_of st) (pages_of after)

follows_in : (z : SizeSet) (st after : SpaceState) (c : ℕ) (tile : Option Tile) → st.sizes ≡ z → Follows st after c tile
    → FollowsIn z st after c tile
follows_in z st after c tile same f =
    record {
      sizes = f.sizes ∙ same;
      images = f.images ∙ ap (λ (y : SizeSet). images_with y (pages_of after) c tile st.images) same;
      promotions = f.promotions ∙ ap (λ (y : SizeSet). st.promotions + promotions_in y (pages_of st) (pages_of after)) same;
      demotions = f.demotions ∙ ap (λ (y : SizeSet). st.demotions + demotions_in y (pages_of st) (pages_of after)) same;
    }

-- the page sizes, the images and the counts are as before
pub record Still (old new : Kept) : Type 0 where
  pub sizes : new.table.sizes ≡ old.table.sizes
  pub images : new.images ≡ old.images
  pub promotions : new.promotions ≡ old.promotions
  pub demotions : new.demotions ≡ old.demotions

-- a state's translations are the space's where nothing becomes of either
pub same_translates : (old new : Kept) (st : SpaceState) → Still old new → Translates old st → Translates new st
same_translates old new st still s =
    record {
      sizes = s.sizes ∙ sym still.sizes;
      images = λ c within. s.images c (omega (arith, ap length still.images))
          ∙ ap (λ (is : List (List Tile)). slice_index_or is c []) (sym still.images);
      tiles = λ c within. ap (λ (z : SizeSet). still_tiles z (pages_of st) (st.images c)) still.sizes
          ∙ s.tiles c (omega (arith, ap length still.images));
      promotions = λ low. still.promotions ∙ s.promotions low;
      demotions = λ low. still.demotions ∙ s.demotions low;
    }

-- An entry leads from a state that the old space stands for to one of which the same is said, page by page, as of the new space.
pub record Leads (old new : Kept) (st after : SpaceState) (c : ℕ) (tile : Option Tile) : Type 0 where
  pub stands : StandsFor old st
  pub follows : Follows st after c tile
  pub pages : (p : ℕ) → pages_of after p ≡ mapping_in new.table p

-- the images of a space that a state stands for have tiles alone
tiles_before : (old : Kept) (st : SpaceState) → StandsFor old st → (i : ℕ) → i < length old.images
    → still_tiles old.table.sizes (mapping_in old.table) (image_at old i) ≡ image_at old i
tiles_before old st s i within =
    let pages : pages_of st ≡ mapping_in old.table = λ j p. s.pages p j in
    let images = s.translates.images i within in
    ap (λ (ps : ℕ → Option Mapping). still_tiles old.table.sizes ps (image_at old i)) (sym pages)
    ∙ ap (still_tiles old.table.sizes (pages_of st)) (sym images) ∙ s.translates.tiles i within ∙ images

-- So it does by the old space's sizes, which the new one has too, and the tile is one of the pages then.
record LeadsIn (old new : Kept) (st after : SpaceState) (c : ℕ) (tile : Option Tile) : Type 0 where
  leads : Leads old new st after c tile
  used : IsUsed old.table.sizes (pages_of after) tile
  sizes : new.table.sizes ≡ old.table.sizes

-- The pages of a state become the space's.
module _ (old new : Kept) (st after : SpaceState) (c : ℕ) (tile : Option Tile) (l : LeadsIn old new st after c tile) where
  abbrev z : SizeSet
  z = old.table.sizes

  abbrev s : Translates old st
  s = l.leads.stands.translates

  follows : FollowsIn z st after c tile
  follows = follows_in z st after c tile s.sizes l.leads.follows

  pages_before : pages_of st ≡ mapping_in old.table
  pages_before i p = l.leads.stands.pages p i

  pages_then : pages_of after ≡ mapping_in new.table
  pages_then i p = l.leads.pages p i

  between : promotions_in z (pages_of st) (pages_of after) ≡ promotions_in z (mapping_in old.table) (mapping_in new.table)
  between =
      ap (λ (ps : ℕ → Option Mapping). promotions_in z ps (pages_of after)) pages_before
      ∙ ap (λ (ps : ℕ → Option Mapping). promotions_in z (mapping_in old.table) ps) pages_then

  broken : demotions_in z (pages_of st) (pages_of after) ≡ demotions_in z (mapping_in old.table) (mapping_in new.table)
  broken =
      ap (λ (ps : ℕ → Option Mapping). demotions_in z ps (pages_of after)) pages_before
      ∙ ap (λ (ps : ℕ → Option Mapping). demotions_in z (mapping_in old.table) ps) pages_then

  image_then : (i : ℕ) → i < length old.images
      → after.images i ≡ touched_by (if i == c then tile else None) (still_tiles z (mapping_in new.table) (image_at old i))
  image_then i within =
      ap (λ (f : ℕ → List Tile). f i) follows.images
      ∙ ap (λ (ps : ℕ → Option Mapping). touched_by (if i == c then tile else None) (still_tiles z ps (st.images i))) pages_then
      ∙ ap (λ (ts : List Tile). touched_by (if i == c then tile else None) (still_tiles z (mapping_in new.table) ts)) (s.images i within)

  tiles_then : (i : ℕ) → still_tiles z (pages_of after) (after.images i) ≡ after.images i
  tiles_then i =
      let at : after.images i ≡ touched_by (if i == c then tile else None) (still_tiles z (pages_of after) (st.images i)) =
      ap (λ (f : ℕ → List Tile). f i) follows.images in
      let again = still_again z (pages_of after) (st.images i) in
      rw at (touched_if z (pages_of after) (i == c) tile (still_tiles z (pages_of after) (st.images i)) l.used again)

  -- the pages changed, and the moves were counted
  translates_moved : length new.images ≡ length old.images
      → ((i : ℕ) → i < length old.images
      → image_at new i ≡ touched_by (if i == c then tile else None) (still_tiles z (mapping_in new.table) (image_at old i)))
      → new.promotions ≡ counted_up old.promotions (promotions_in z (mapping_in old.table) (mapping_in new.table))
      → new.demotions ≡ counted_up old.demotions (demotions_in z (mapping_in old.table) (mapping_in new.table))
      → Translates new after
  translates_moved processors images promotions demotions =
      record {
        sizes = follows.sizes ∙ sym l.sizes;
        images = λ i within. image_then i (omega (arith, processors)) ∙ sym (images i (omega (arith, processors)));
        tiles = λ i within. ap (λ (y : SizeSet). still_tiles y (pages_of after) (after.images i)) l.sizes ∙ tiles_then i;
        promotions = λ low. promotions ∙ ap (counted_up old.promotions) (sym between)
            ∙ counted_to last_count old.promotions st.promotions _ s.promotions (omega (arith, follows.promotions, low))
            ∙ sym follows.promotions;
        demotions = λ low. demotions ∙ ap (counted_up old.demotions) (sym broken)
            ∙ counted_to last_count old.demotions st.demotions _ s.demotions (omega (arith, follows.demotions, low))
            ∙ sym follows.demotions;
      }

  -- the pages are as they were
  translates_still : length new.images ≡ length old.images → ((p : ℕ) → mapping_in new.table p ≡ mapping_in old.table p)
      → ((i : ℕ) → i < length old.images → image_at new i ≡ touched_by (if i == c then tile else None) (image_at old i))
      → new.promotions ≡ old.promotions → new.demotions ≡ old.demotions → Translates new after
  translates_still processors same images promotions demotions =
      let pages : (p : ℕ) → mapping_in new.table p ≡ pages_of st p = λ p. same p ∙ sym (l.leads.stands.pages p) in
      let whole : mapping_in new.table ≡ pages_of st = λ i p. pages p i in
      let kept : (i : ℕ) → i < length old.images → still_tiles z (mapping_in new.table) (image_at old i) ≡ image_at old i = λ i within.
      ap (λ (ps : ℕ → Option Mapping). still_tiles z ps (image_at old i)) whole ∙ ap (still_tiles z (pages_of st)) (sym (s.images i within))
      ∙ s.tiles i within ∙ s.images i within in
      let none : promotions_in z (pages_of st) (pages_of after) ≡ 0 =
      no_promotions z (pages_of st) (pages_of after) (λ p. l.leads.pages p ∙ pages p) in
      let none_broken : demotions_in z (pages_of st) (pages_of after) ≡ 0 =
      no_demotions z (pages_of st) (pages_of after) (λ p. l.leads.pages p ∙ pages p) in
      record {
        sizes = follows.sizes ∙ sym l.sizes;
        images = λ i within.
            let w : i < length old.images = omega (arith, processors) in
            image_then i w ∙ ap (touched_by (if i == c then tile else None)) (kept i w) ∙ sym (images i w);
        tiles = λ i within. ap (λ (y : SizeSet). still_tiles y (pages_of after) (after.images i)) l.sizes ∙ tiles_then i;
        promotions = λ low. promotions
            ∙ same_count last_count old.promotions st.promotions after.promotions _ none s.promotions follows.promotions low;
        demotions = λ low. demotions
            ∙ same_count last_count old.demotions st.demotions after.demotions _ none_broken s.demotions follows.demotions low;
      }

-- pages changed and the moves were counted, or nothing is said of any page that wasn't before
abbrev pub IsChanged : Kept → Kept → Type 0
IsChanged old new = Retouches old new ⊎ (Still old new × ((p : ℕ) → mapping_in new.table p ≡ mapping_in old.table p))

pub changed_processors : (old new : Kept) → IsChanged old new → length new.images ≡ length old.images
changed_processors old new changed = elim changed [ inl retouched ↦ retouched.processors | inr still ↦ ap length still.0.images ]

changed_sizes : (old new : Kept) → IsChanged old new → new.table.sizes ≡ old.table.sizes
changed_sizes old new changed = elim changed [ inl retouched ↦ retouched.sizes | inr still ↦ still.0.sizes ]

-- What becomes of spaces that changed as the code changes them, where no tile was used.
module _ (old new : Kept) (st after : SpaceState) (c : ℕ) (leads : Leads old new st after c None) where
  -- no page changed
  pub stays : Still old new → ((p : ℕ) → mapping_in new.table p ≡ mapping_in old.table p) → Translates new after
  stays still same =
      translates_still old new st after c None (record { leads = leads; used = tt; sizes = still.sizes }) (ap length still.images) same
      (λ i within. ap (λ (ts : List (List Tile)). slice_index_or ts i []) still.images ∙ sym (untouched (i == c) (image_at old i)))
      still.promotions still.demotions

  -- pages changed
  pub retouches : Retouches old new → Translates new after
  retouches retouched =
      translates_moved old new st after c None (record { leads = leads; used = tt; sizes = retouched.sizes }) retouched.processors
      (λ i within. retouched.images i within (tiles_before old st leads.stands i within)
      ∙ sym (untouched (i == c) (still_tiles old.table.sizes (mapping_in new.table) (image_at old i))))
      retouched.promotions retouched.demotions

  pub turns : IsChanged old new → Translates new after
  turns changed = elim changed [ inl retouched ↦ retouches retouched | inr still ↦ stays still.0 still.1 ]

-- The pages of a range were cleared one after another: the tiles that meet it were counted before, and the images keep what is a tile
-- still.
pub translates_cleared : (old new : Kept) (st after : SpaceState) (c lost : ℕ) → Follows st after c None → Translates old st
    → ((p : ℕ) → pages_of after p ≡ mapping_in new.table p) → new.table.sizes ≡ old.table.sizes
    → length new.images ≡ length old.images
    → ((i : ℕ) → i < length old.images → image_at new i ≡ still_tiles old.table.sizes (mapping_in new.table) (image_at old i))
    → promotions_in old.table.sizes (pages_of st) (pages_of after) ≡ 0 → demotions_in old.table.sizes (pages_of st) (pages_of after) ≡ lost
    → new.promotions ≡ old.promotions → new.demotions ≡ counted_up old.demotions lost → Translates new after
translates_cleared old new st after c lost known s is same_sizes processors images none broken promotions demotions =
    let follows : FollowsIn old.table.sizes st after c None = follows_in old.table.sizes st after c None s.sizes known in
    let whole : pages_of after ≡ mapping_in new.table = λ i p. is p i in
    let at : (i : ℕ) → after.images i ≡ still_tiles old.table.sizes (pages_of after) (st.images i) =
    λ i. ap (λ (f : ℕ → List Tile). f i) follows.images ∙ untouched (i == c) (still_tiles old.table.sizes (pages_of after) (st.images i)) in
    record {
      sizes = follows.sizes ∙ sym same_sizes;
      images = λ i within.
          let w : i < length old.images = omega (arith, processors) in
          at i ∙ ap (λ (ps : ℕ → Option Mapping). still_tiles old.table.sizes ps (st.images i)) whole
          ∙ ap (still_tiles old.table.sizes (mapping_in new.table)) (s.images i w) ∙ sym (images i w);
      tiles = λ i within. ap (λ (z : SizeSet). still_tiles z (pages_of after) (after.images i)) same_sizes
          ∙ rw (at i) (still_again old.table.sizes (pages_of after) (st.images i));
      promotions = λ low. promotions
          ∙ same_count last_count old.promotions st.promotions after.promotions _ none s.promotions follows.promotions low;
      demotions = λ low.
          let total : after.demotions ≡ st.demotions + lost = follows.demotions ∙ ap (λ n. st.demotions + n) broken in
          demotions ∙ counted_to last_count old.demotions st.demotions lost s.demotions (omega (arith, total, low)) ∙ sym total;
    }

-- The pages changed, and then the processor used the tile of a page.
pub record UsesTile (old new : Kept) (c page : ℕ) : Type 0 where
  pub mid : Kept
  pub changed : IsChanged old mid
  pub tile : Tile
  pub tile_is : tile_in mid.table.sizes (mapping_in mid.table) page ≡ Some tile
  pub touches : Touches mid new c (Some tile)

pub used_processors : (old new : Kept) (c page : ℕ) → UsesTile old new c page → length new.images ≡ length old.images
used_processors old new c page uses = uses.touches.processors ∙ changed_processors old uses.mid uses.changed

-- What becomes of a space then.
module _ (old new : Kept) (st after : SpaceState) (c page : ℕ) (uses : UsesTile old new c page) where
  abbrev mid : Kept
  mid = uses.mid

  abbrev used_tile : Option Tile
  used_tile = tile_in old.table.sizes (pages_of after) page

  mid_sizes : mid.table.sizes ≡ old.table.sizes
  mid_sizes = changed_sizes old mid uses.changed

  same_table : new.table ≡ mid.table
  same_table = ap (λ (k : Kept). k.table) uses.touches.same

  module _ (leads : Leads old new st after c (tile_in st.sizes (pages_of after) page)) where
    leads_in : LeadsIn old new st after c used_tile
    leads_in =
        record {
          leads = record {
            stands = leads.stands;
            follows = subst (λ (y : SizeSet). Follows st after c (tile_in y (pages_of after) page))
                leads.stands.translates.sizes leads.follows;
            pages = leads.pages;
          };
          used = used_at old.table.sizes (pages_of after) page used_tile refl;
          sizes = ap (λ (t : Table). t.sizes) same_table ∙ mid_sizes;
        }

    used_tile_is : tile_in mid.table.sizes (mapping_in mid.table) page ≡ used_tile
    used_tile_is =
        let whole : pages_of after ≡ mapping_in new.table = λ i p. leads.pages p i in
        ap (λ (y : SizeSet). tile_in y (mapping_in mid.table) page) mid_sizes
        ∙ ap (λ (t : Table). tile_in old.table.sizes (mapping_in t) page) (sym same_table)
        ∙ sym (ap (λ (ps : ℕ → Option Mapping). tile_in old.table.sizes ps page) whole)

    image_used : (i : ℕ) → i < length old.images → image_at new i ≡ touched_by (if i == c then used_tile else None) (image_at mid i)
    image_used i within =
        uses.touches.images i (omega (arith, changed_processors old mid uses.changed))
        ∙ ap (λ (o : Option Tile). touched_by (if i == c then o else None) (image_at mid i)) (sym uses.tile_is ∙ used_tile_is)

    still_used : Still old mid → ((p : ℕ) → mapping_in mid.table p ≡ mapping_in old.table p) → Translates new after
    still_used still same =
        translates_still old new st after c used_tile leads_in (used_processors old new c page uses)
        (λ p. ap (λ (t : Table). mapping_in t p) same_table ∙ same p)
        (λ i within. image_used i within
        ∙ ap (λ (ts : List (List Tile)). touched_by (if i == c then used_tile else None) (slice_index_or ts i [])) still.images)
        (ap (λ (k : Kept). k.promotions) uses.touches.same ∙ still.promotions)
        (ap (λ (k : Kept). k.demotions) uses.touches.same ∙ still.demotions)

    moved_used : Retouches old mid → Translates new after
    moved_used retouched =
        translates_moved old new st after c used_tile leads_in (used_processors old new c page uses)
        (λ i within. image_used i within ∙ ap (touched_by (if i == c then used_tile else None))
        (retouched.images i within (tiles_before old st leads.stands i within)
        ∙ ap (λ (t : Table). still_tiles old.table.sizes (mapping_in t) (image_at old i)) (sym same_table)))
        (ap (λ (k : Kept). k.promotions) uses.touches.same ∙ retouched.promotions
        ∙ ap (λ (t : Table). counted_up old.promotions (promotions_in old.table.sizes (mapping_in old.table) (mapping_in t)))
        (sym same_table))
        (ap (λ (k : Kept). k.demotions) uses.touches.same ∙ retouched.demotions
        ∙ ap (λ (t : Table). counted_up old.demotions (demotions_in old.table.sizes (mapping_in old.table) (mapping_in t)))
        (sym same_table))

    pub uses_translates : Translates new after
    uses_translates = elim uses.changed [ inl retouched ↦ moved_used retouched | inr still ↦ still_used still.0 still.1 ]

-- two tests that answer alike for what a third one passes keep the same of it
filter_alike : (passes test other : Tile → Bool) (ts : List Tile) → ((t : Tile) → passes t ≡ true → test t ≡ other t)
    → filter test (filter passes ts) ≡ filter other (filter passes ts)
filter_alike passes test other [] alike = refl
filter_alike passes test other (t ∷ ts) alike =
    let rest = filter_alike passes test other ts alike in
    elim (cases_Bool (passes t)) [
      | inl is ↦
          ap (filter test) (cond-true _ _ _ is)
          ∙ ap (λ b. if b then t ∷ filter test (filter passes ts) else filter test (filter passes ts)) (alike t is)
          ∙ ap (λ us. if other t then t ∷ us else us) rest ∙ sym (ap (filter other) (cond-true _ _ _ is))
      | inr isnt ↦ ap (filter test) (cond-false _ _ _ isnt) ∙ rest ∙ sym (ap (filter other) (cond-false _ _ _ isnt))
    ]

-- of an image that had tiles alone it is what is a tile still, where no other tile went
untouched_still : (z : SizeSet) (range : PageRange) (old new : ℕ → Option Mapping) (ts : List Tile) → KeepsOutsideIn z range old new
    → still_tiles z old ts ≡ ts → untouched_tiles z range new ts ≡ still_tiles z new ts
untouched_still z range old new ts keeps had =
    ap (untouched_tiles z range new) (sym had)
    ∙ filter_alike (is_tile_in z old) (λ t. not (is_touched range t.extent.first) || is_tile_in z new t) (is_tile_in z new) ts
    (λ t is. alike (is_touched range t.extent.first) (is_tile_in z new t) (keeps t is))
    ∙ ap (still_tiles z new) had
  where
    alike : (inside tile : Bool) → (inside ≡ false → tile ≡ true) → (not inside || tile) ≡ tile
    alike true tile keeps = refl
    alike false tile keeps = sym (keeps refl)

-- the moves were counted, and each image keeps what they left alone and what is a tile still
pub retouched_by : (old new : Kept) (moves : Moves) → new.table.sizes ≡ old.table.sizes
    → AreMovesIn old.table.sizes (mapping_in old.table) (mapping_in new.table) moves
    → new.images ≡ map (untouched_tiles new.table.sizes moves.touched (mapping_in new.table)) old.images
    → new.promotions ≡ counted_up old.promotions moves.promotions → new.demotions ≡ counted_up old.demotions moves.demotions
    → Retouches old new
retouched_by old new moves same_sizes are images promotions demotions =
    let kept = untouched_tiles old.table.sizes moves.touched (mapping_in new.table) in
    let images_are : new.images ≡ map kept old.images =
    images ∙ ap (λ (z : SizeSet). map (untouched_tiles z moves.touched (mapping_in new.table)) old.images) same_sizes in
    record {
      sizes = same_sizes;
      processors = ap length images_are ∙ length-map old.images kept;
      images = λ c within had. ap (λ (ts : List (List Tile)). slice_index_or ts c []) images_are ∙ get_or-map kept old.images c [] [] within
          ∙ untouched_still old.table.sizes moves.touched (mapping_in old.table) (mapping_in new.table) (image_at old c) are.outside had;
      promotions = promotions ∙ ap (counted_up old.promotions) are.promotions;
      demotions = demotions ∙ ap (counted_up old.demotions) are.demotions;
    }

-- What is said of a page after an entry.

-- its dirty flag alone may have changed
pub said_flag : (b d x : Bool) (o : Option ℕ) (r : Option Region) (rights : Rights)
    → mapping_with o r rights (if b then d else x) ≡
    (if b then option_map (with_flag d) (mapping_with o r rights x) else mapping_with o r rights x)
said_flag false d x o r rights = refl
said_flag true d x None r rights = refl
said_flag true d x (Some n) None rights = refl
said_flag true d x (Some n) (Some r) rights = refl

-- it may have given its frame up
pub said_gone : (b d : Bool) (o : Option ℕ) (r : Option Region) (rights : Rights)
    → mapping_with (if b then None else o) r rights d ≡ (if b then None else mapping_with o r rights d)
said_gone true d o r rights = refl
said_gone false d o r rights = refl

-- after its copy was written
pub said_out : (b d : Bool) (o : Option ℕ) (r : Option Region) (rights : Rights)
    → mapping_with (if b then None else o) r rights (if b then false else d) ≡ (if b then None else mapping_with o r rights d)
said_out true d o r rights = refl
said_out false d o r rights = refl

-- it is what is kept of the page, where the page's frame, region, rights and flag are
module _ (kept : Kept) (st : SpaceState) (p : ℕ) (regions : st.flat.regions ≡ kept.regions)
    (rights : is_some (region_at kept.regions p) ≡ true → st.flat.rights p ≡ rights_at kept p)
    (base : st.base p ≡ frame_at kept p)
    (dirty : (m : Mapping) → mapping_in kept.table p ≡ Some m → st.flat.dirty p ≡ dirty_at kept p) where
  said_none : mapping_in kept.table p ≡ None → pages_of st p ≡ None
  said_none none =
      ap (λ (o : Option ℕ). mapping_with o (region_at st.flat.regions p) (st.flat.rights p) (st.flat.dirty p))
      (base ∙ frame-absent kept.table p none)

  said_some : (m : Mapping) → mapping_in kept.table p ≡ Some m → IsMapped kept.regions kept.table p m → pages_of st p ≡ Some m
  said_some m at is =
      let region : region_at st.flat.regions p ≡ Some is.region = ap (λ rs. region_at rs p) regions ∙ is.at in
      let right : st.flat.rights p ≡ m.rights = rights (ap is_some is.at) ∙ ap (rights_by (own_in kept.table p)) is.at ∙ sym is.rights in
      let frame : st.base p ≡ Some m.frame = base ∙ frame-mapped kept.table p m at in
      let flag : st.flat.dirty p ≡ m.dirty = dirty m at ∙ dirty-mapped kept.table p m at in
      rw (frame, region, right, flag, ← is.first) refl

  said_of : (o : Option Mapping) → mapping_in kept.table p ≡ o
      → ((m : Mapping) → mapping_in kept.table p ≡ Some m → IsMapped kept.regions kept.table p m) → pages_of st p ≡ o
  said_of None at mapped = said_none at
  said_of (Some m) at mapped = said_some m at (mapped m at)

  pub pages_from : ((m : Mapping) → mapping_in kept.table p ≡ Some m → IsMapped kept.regions kept.table p m)
      → pages_of st p ≡ mapping_in kept.table p
  pages_from mapped = said_of (mapping_in kept.table p) refl mapped

-- the same is said of a page whose frame, region, rights and flag are the same
pub said_same : (st after : SpaceState) (p : ℕ) → after.flat.regions ≡ st.flat.regions → after.flat.rights p ≡ st.flat.rights p
    → after.flat.dirty p ≡ st.flat.dirty p → after.base p ≡ st.base p → pages_of after p ≡ pages_of st p
said_same st after p regions rights dirty base = rw (regions, rights, dirty, base) refl
