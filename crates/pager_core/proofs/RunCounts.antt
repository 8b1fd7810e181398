-- The counts of the spaces at the end of a run.
use Rattle.std.proofs.Common.{◌≡◌, ℕ, zero, suc, ◌+◌, ◌*◌, ◌^◌, ◌<◌, ◌≤◌, ◌&&◌, ◌==◌, not, List, [], ◌∷◌, length, take, fold, get_or, slice_get, Option, Some, refl, ap, sym, ◌∙◌, arith}
use Rattle.std.specs.List.{range_with_len, sum_by}
use Rattle.std.proofs.lemmas.List.Filters.{length-filter_both}
use Rattle.std.proofs.lemmas.List.FromFn.{length-range_with_len}
use Rattle.std.proofs.lemmas.List.Sums.{sum_by-cons, sum_by-take-le, sum_by_more, sum_by_more_le}
use Rattle.std.proofs.Math.Nat.{suc-mul}
use Rattle.pager_model.specs.Bounds.{space_pages}
use Rattle.pager_model.specs.declared.entry.Entry.{Entry}
use Rattle.pager_model.specs.declared.tile.Mapping.{Mapping}
use Rattle.pager_model.specs.declared.summary.Summary.{Summary}
use Rattle.pager_model.specs.Counts.{counts, hits_in, misses_in, over_spaces, tiles_after}
use Rattle.pager_model.specs.Entries.{names_space, space_part}
use Rattle.pager_model.specs.FrameStates.{FrameState, free_count, reserved_count, used_count}
use Rattle.pager_model.specs.Legal.{space_at, frames_at}
use Rattle.pager_model.specs.Settings.{Given, is_told, faults_at_entry}
use Rattle.pager_model.specs.SizeSets.{SizeSet}
use Rattle.pager_model.specs.SpaceStates.{SpaceState, empty_state, space_after, pages_of, pages_after}
use Rattle.pager_model.specs.Tiles.{tile_in, tile_count_in, tile_size_in, begins_at, count_pages, is_promoted_in}
use Rattle.space_core.specs.Standing.{Kept}
use Rattle.space_core.specs.Tables.{mapping_in}
use Rattle.tiles.proofs.Counting.{count_pages_most}
use Rattle.flight_core.specs.Counting.{most_in_history}
use Rattle.pager_core.specs.RunParts.{AreAtRest}
use Rattle.pager_core.specs.Sums.{AreFewer, tiles_in, promotions_in, demotions_in}

-- Sums.

-- a sum over a list is one over its places
sum_by-places : {X : Type 0} (f : X → ℕ) (g : ℕ → ℕ) (a : ℕ) (xs : List X) → ((s : ℕ) (x : X) → slice_get xs s ≡ Some x → f x ≡ g (a + s))
    → sum_by f xs ≡ sum_by g (range_with_len a (length xs))
sum_by-places f g a [] are = refl
sum_by-places f g a (x ∷ xs) are =
    let first : f x ≡ g a = are 0 x refl ∙ ap g (let e : a + 0 ≡ a = omega arith in e) in
    let rest = sum_by-places f g (a + 1) xs (λ s y at. are (suc s) y at ∙ ap g (let e : a + suc s ≡ a + 1 + s = omega arith in e)) in
    sum_by-cons f x xs ∙ ap (λ n. n + sum_by f xs) first ∙ ap (λ n. g a + n) rest
    ∙ sym (sum_by-cons g a (range_with_len (a + 1) (length xs)))

-- the sum of the first terms with the next one is that of one term more
pub sum-next : {X : Type 0} (f : X → ℕ) (xs : List X) (i : ℕ) (x : X) (sum term : ℕ) → i < length xs → x ≡ get_or xs i x
    → sum ≡ sum_by f (take i xs) → term ≡ f x → sum + term ≡ sum_by f (take (i + 1) xs)
sum-next f xs i x sum term below at sum_is term_is =
    let more = sum_by_more f xs i x below in
    omega (arith, more, ap f at, sum_is, term_is)

-- and at most the sum of all
pub sum-within : {X : Type 0} (f : X → ℕ) (xs : List X) (i : ℕ) (x : X) (sum term : ℕ) → i < length xs → x ≡ get_or xs i x
    → sum ≡ sum_by f (take i xs) → term ≡ f x → sum + term ≤ sum_by f xs
sum-within f xs i x sum term below at sum_is term_is =
    let within = sum_by_more_le f xs i x below in
    omega (arith, within, ap f at, sum_is, term_is)

-- so many terms, each at most so much
sum_by-most : {X : Type 0} (f : X → ℕ) (most : ℕ) (xs : List X) → ((x : X) → f x ≤ most) → sum_by f xs ≤ length xs * most
sum_by-most f most [] each = omega arith
sum_by-most f most (x ∷ xs) each =
    let cons = sum_by-cons f x xs in
    let rest = sum_by-most f most xs each in
    let all = suc-mul (length xs) most in
    omega (arith, cons, each x, rest, all)

-- Each page is the first of at most one tile, so an entry promotes and breaks few.
pub tiles_few : (z : SizeSet) (pages : ℕ → Option Mapping) (size : ℕ) → tile_count_in z pages size ≤ space_pages
tiles_few z pages size = count_pages_most (λ page. begins_at page (tile_in z pages page) && (tile_size_in z pages page == size))

four_fewer : (most a b c d : ℕ) → a < most → b < most → c < most → d < most → AreFewer (a ∷ b ∷ c ∷ d ∷ []) most
four_fewer most a b c d in_a in_b in_c in_d zero = in_a
four_fewer most a b c d in_a in_b in_c in_d (suc zero) = in_b
four_fewer most a b c d in_a in_b in_c in_d (suc (suc zero)) = in_c
four_fewer most a b c d in_a in_b in_c in_d (suc (suc (suc zero))) = in_d
four_fewer most a b c d in_a in_b in_c in_d (suc (suc (suc (suc size)))) = omega (arith, in_a)

-- one space's tiles, and those of some of few spaces
pub own_fewer : (z : SizeSet) (pages : ℕ → Option Mapping)
    → AreFewer (tile_count_in z pages 0 ∷ tile_count_in z pages 1 ∷ tile_count_in z pages 2 ∷ tile_count_in z pages 3 ∷ []) 1073741824
own_fewer z pages = four_fewer 1073741824 _ _ _ _ (below 0) (below 1) (below 2) (below 3)
  where
    below : (size : ℕ) → tile_count_in z pages size < 1073741824
    below size = (let few = tiles_few z pages size in omega (arith, few))

pub some_fewer : (spaces : List Kept) (n : ℕ) → length spaces ≤ 16
    → AreFewer (tiles_in (take n spaces) 0 ∷ tiles_in (take n spaces) 1 ∷ tiles_in (take n spaces) 2 ∷ tiles_in
    (take n spaces) 3 ∷ []) 1073741824
some_fewer spaces n few = four_fewer 1073741824 _ _ _ _ (below 0) (below 1) (below 2) (below 3)
  where
    below : (size : ℕ) → tiles_in (take n spaces) size < 1073741824
    below size =
        let part = sum_by-take-le (λ (k : Kept). tile_count_in k.table.sizes (mapping_in k.table) size) spaces n in
        let all = sum_by-most (λ (k : Kept). tile_count_in k.table.sizes (mapping_in k.table) size) space_pages spaces
        (λ k. tiles_few k.table.sizes (mapping_in k.table) size) in
        omega (arith, part, all, few)

promotions_few : (es : List Entry) (st : SpaceState) → (fold space_after st es).promotions ≤ st.promotions + space_pages * length es
promotions_few [] st = omega arith
promotions_few (e ∷ es) st =
    let rest = promotions_few es (space_after st e) in
    let one : count_pages (is_promoted_in st.sizes (pages_of st) (pages_after st e.frames e.what)) ≤ space_pages =
    count_pages_most (is_promoted_in st.sizes (pages_of st) (pages_after st e.frames e.what)) in
    let total : (space_after st e).promotions ≡ st.promotions + count_pages
    (is_promoted_in st.sizes (pages_of st) (pages_after st e.frames e.what)) = refl in
    omega (arith, rest, one, total)

demotions_few : (es : List Entry) (st : SpaceState) → (fold space_after st es).demotions ≤ st.demotions + space_pages * length es
demotions_few [] st = omega arith
demotions_few (e ∷ es) st =
    let rest = demotions_few es (space_after st e) in
    let one : count_pages (is_promoted_in st.sizes (pages_after st e.frames e.what) (pages_of st)) ≤ space_pages =
    count_pages_most (is_promoted_in st.sizes (pages_after st e.frames e.what) (pages_of st)) in
    let total : (space_after st e).demotions ≡ st.demotions + count_pages
    (is_promoted_in st.sizes (pages_after st e.frames e.what) (pages_of st)) = refl in
    omega (arith, rest, one, total)

-- a space's entries are some of the history's
part_few : (s : ℕ) (h : List Entry) → length (space_part s h) ≤ length h
part_few s h = (let both = length-filter_both (names_space s) (λ e. not (names_space s e)) (λ e. refl) h in omega (arith, both))

-- Of spaces at rest after a history of few entries.
module _ (given : Given) (h : List Entry) (spaces : List Kept) (pool : FrameState) (rest : AreAtRest given h spaces pool)
    (few : length h ≤ most_in_history) (few_spaces : length spaces ≤ 16) where
  promotions_at : (s : ℕ) → (space_at given h s).promotions ≤ 38280596832649216
  promotions_at s =
      let own = promotions_few (space_part s h) (empty_state given.sizes (is_told given s) (faults_at_entry given s)) in
      let part = part_few s h in
      omega (arith, own, part, few)

  demotions_at : (s : ℕ) → (space_at given h s).demotions ≤ 38280596832649216
  demotions_at s =
      let own = demotions_few (space_part s h) (empty_state given.sizes (is_told given s) (faults_at_entry given s)) in
      let part = part_few s h in
      omega (arith, own, part, few)

  -- a count of each space that its state has is the same over all
  summed : (f : Kept → ℕ) (count : SpaceState → ℕ)
      → ((s : ℕ) (kept : Kept) → slice_get spaces s ≡ Some kept → f kept ≡ count (space_at given h s))
      → sum_by f spaces ≡ over_spaces given h count
  summed f count are =
      sum_by-places f (λ s. count (space_at given h s)) 0 spaces (λ s kept at. are s kept at
      ∙ ap (λ k. count (space_at given h k)) (let e : s ≡ 0 + s = omega arith in e))
      ∙ ap (λ n. sum_by (λ s. count (space_at given h s)) (range_with_len 0 n)) rest.count

  tiles_summed : (size : ℕ) → tiles_in spaces size ≡ tiles_after given h size
  tiles_summed size =
      summed (λ (k : Kept). tile_count_in k.table.sizes (mapping_in k.table) size) (λ st. tile_count_in st.sizes (pages_of st) size)
      (λ s kept at. ap (λ (ps : ℕ → Option Mapping). tile_count_in kept.table.sizes ps size)
      (let same : mapping_in kept.table ≡ pages_of (space_at given h s) = λ i p. sym ((rest.spaces_rest s kept at).stands.pages p) i in
      same)
      ∙ ap (λ (z : SizeSet). tile_count_in z (pages_of (space_at given h s)) size)
      (sym (rest.spaces_rest s kept at).stands.translates.sizes))

  promotions_summed : promotions_in spaces ≡ over_spaces given h (λ st. st.promotions)
  promotions_summed =
      summed (λ (k : Kept). k.promotions) (λ st. st.promotions)
      (λ s kept at. (rest.spaces_rest s kept at).stands.translates.promotions (let few = promotions_at s in omega (arith, few)))

  demotions_summed : demotions_in spaces ≡ over_spaces given h (λ st. st.demotions)
  demotions_summed =
      summed (λ (k : Kept). k.demotions) (λ st. st.demotions)
      (λ s kept at. (rest.spaces_rest s kept at).stands.translates.demotions (let few = demotions_at s in omega (arith, few)))

  -- so the counts of all spaces are small
  all_small : (count : SpaceState → ℕ) → ((s : ℕ) → count (space_at given h s) ≤ 38280596832649216) → over_spaces given h count < 2 ^ 64
  all_small count each =
      let most = sum_by-most (λ s. count (space_at given h s)) 38280596832649216 (range_with_len 0 (length given.told)) each in
      let places = length-range_with_len 0 (length given.told) in
      omega (arith, most, places, rest.count, few_spaces)

  pub promotions_small : promotions_in spaces < 2 ^ 64
  promotions_small = (let same = promotions_summed in let all = all_small (λ st. st.promotions) promotions_at in omega (arith, same, all))

  pub demotions_small : demotions_in spaces < 2 ^ 64
  demotions_small = (let same = demotions_summed in let all = all_small (λ st. st.demotions) demotions_at in omega (arith, same, all))

  -- and the counts that were read of the spaces, the frames and the history are the run's
  pub counts_are : (s : Summary) → s.tiles ≡ tiles_in spaces 0 ∷ tiles_in spaces 1 ∷ tiles_in spaces 2 ∷ tiles_in spaces 3 ∷ []
      → s.promotions ≡ promotions_in spaces → s.demotions ≡ demotions_in spaces → s.preemptions ≡ pool.preemptions → s.hits ≡ hits_in h
      → s.misses ≡ misses_in h → s.free ≡ free_count pool → s.reserved ≡ reserved_count pool → s.used ≡ used_count pool → s ≡ counts given h
  counts_are s in_tiles in_promotions in_demotions in_preemptions in_hits in_misses in_free in_reserved in_used =
      let all_tiles : s.tiles ≡ tiles_after given h 0 ∷ tiles_after given h 1 ∷ tiles_after given h 2 ∷ tiles_after given h 3 ∷ [] =
      in_tiles ∙ (λ i. tiles_summed 0 i ∷ tiles_summed 1 i ∷ tiles_summed 2 i ∷ tiles_summed 3 i ∷ []) in
      let all_promotions = in_promotions ∙ promotions_summed in
      let all_demotions = in_demotions ∙ demotions_summed in
      let all_preemptions : s.preemptions ≡ (frames_at given h).preemptions =
      in_preemptions ∙ ap (λ (st : FrameState). st.preemptions) rest.pool_is in
      let all_free : s.free ≡ free_count (frames_at given h) = in_free ∙ ap free_count rest.pool_is in
      let all_reserved : s.reserved ≡ reserved_count (frames_at given h) = in_reserved ∙ ap reserved_count rest.pool_is in
      let all_used : s.used ≡ used_count (frames_at given h) = in_used ∙ ap used_count rest.pool_is in
      λ i. record {
        tiles = all_tiles i;
        promotions = all_promotions i;
        demotions = all_demotions i;
        preemptions = all_preemptions i;
        hits = in_hits i;
        misses = in_misses i;
        free = all_free i;
        reserved = all_reserved i;
        used = all_used i;
      }
