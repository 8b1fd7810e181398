-- What stands in the list of the tiles that come with a change of one page.
use Rattle.std.proofs.Common.{◌≡◌, ◌≢◌, ℕ, zero, suc, ◌+◌, ◌-◌, ◌*◌, ◌/◌, ◌^◌, ◌<◌, ◌≤◌, Bool, true, false, cond, not, ◌&&◌, ◌||◌, if◌then◌else◌, List, [], ◌∷◌, ◌++◌, length, Option, Some, None, refl, sym, ap, inl, inr, ◌∙◌, add-one, append_assoc, arith}
use Rattle.std.specs.List.{list_any}
use Rattle.std.specs.Option.{option_to_list}
use Rattle.std.proofs.Math.Nat.{mul-div_cancel}
use Rattle.std.proofs.lemmas.Bool.{cases_Bool, cases_eq, cases_lt, cond-true, cond-false, eq-eqb, ne_eqb, false_from_ne_true, false≢true, true≢false}
use Rattle.std.proofs.lemmas.List.{append-nil, length-append}
use Rattle.std.proofs.lemmas.List.Sums.{sum_by-append, sum_by-cons}
use Rattle.std.proofs.lemmas.Option.{none-some, same_Some}
use Rattle.pager_model.specs.declared.tile.Mapping.{Mapping}
use Rattle.pager_model.specs.declared.tile.Tile.{Tile}
use Rattle.pager_model.specs.Extents.{extent_start}
use Rattle.pager_model.specs.Tiles.{tile_of, is_tile, size_in, same_tile}
use Rattle.pager_model.proofs.CountLemmas.{weight}
use Rattle.pager_model.proofs.ExtentLemmas.{coarser, eight_pos, first_of_extent, range_of_extent}
use Rattle.pager_model.proofs.TileParts.{same_tile-true, same_tile-refl}
use Rattle.tiles.specs.Beside.{OthersSame}
use Rattle.tiles.specs.Changes.{Came, times, part_from, part_start, own_part, beside, cut_round, cut_from, pieces}
use Rattle.tiles.proofs.ChangedTiles.{IsCut, IsCutPart, IsNew, part_starts, own_is_tile, own_new, part_new, new_is}
use Rattle.tiles.proofs.Largest.{size_small}
use Rattle.tiles.proofs.TileLaws.{tile_largest}

-- ---- how often a tile stands in a list

times-append : (t : Tile) (xs ys : List Tile) → times t (xs ++ ys) ≡ times t xs + times t ys
times-append t xs ys = sum_by-append (λ x. cond (same_tile t x) 1 0) xs ys

times-one : (t x : Tile) → times t (x ∷ []) ≡ weight (same_tile t x)
times-one t x = omega (arith, sum_by-cons (λ y. cond (same_tile t y) 1 0) x [])

times-same : (t x : Tile) → t ≡ x → times t (x ∷ []) ≡ 1
times-same t x e = times-one t x ∙ ap weight (ap (λ y. same_tile t y) (sym e) ∙ same_tile-refl t)

times-other : (t x : Tile) → t ≢ x → times t (x ∷ []) ≡ 0
times-other t x differ = times-one t x ∙ ap weight (false_from_ne_true (same_tile t x) (λ h. differ (same_tile-true t x h)))

-- it stands in the list, or it doesn't
pub none_stands : (t : Tile) (ts : List Tile) → times t ts ≡ 0 → list_any (same_tile t) ts ≡ false
none_stands t [] none = refl
none_stands t (u ∷ us) none =
    let more = sum_by-cons (λ y. cond (same_tile t y) 1 0) u us in
    elim (cases_Bool (same_tile t u)) [
      | inl same ↦ absurd (omega (arith, none, more, ap weight same))
      | inr other ↦ ap (λ b. b || list_any (same_tile t) us) other ∙ none_stands t us (omega (arith, none, more, ap weight other))
    ]

pub one_stands : (t : Tile) (ts : List Tile) → 0 < times t ts → list_any (same_tile t) ts ≡ true
one_stands t [] some = absurd (omega (arith, some))
one_stands t (u ∷ us) some =
    let more = sum_by-cons (λ y. cond (same_tile t y) 1 0) u us in
    elim (cases_Bool (same_tile t u)) [
      | inl same ↦ ap (λ b. b || list_any (same_tile t) us) same
      | inr other ↦ ap (λ b. b || list_any (same_tile t) us) other ∙ one_stands t us (omega (arith, some, more, ap weight other))
    ]

-- ---- the parts of a level

abbrev piece : ℕ → ℕ → Tile → ℕ → Tile
piece level page large part = part_from level (part_start level page part) large

pub beside-none : (level page : ℕ) (large : Tile) → beside level page large 0 ≡ []
unfolding beside
beside-none level page large = refl

pub beside-own : (level page : ℕ) (large : Tile) (part : ℕ) → part ≡ own_part level page
    → beside level page large (suc part) ≡ beside level page large part
unfolding beside
beside-own level page large part own =
    ap (λ xs. beside level page large part ++ xs) (cond-true _ _ _ (eq-eqb part (own_part level page) own))
    ∙ append-nil (beside level page large part)

pub beside-other : (level page : ℕ) (large : Tile) (part : ℕ) → part ≢ own_part level page
    → beside level page large (suc part) ≡ beside level page large part ++ piece level page large part ∷ []
unfolding beside
beside-other level page large part other = ap (λ xs. beside level page large part ++ xs)
    (cond-false _ _ _ (ne_eqb part (own_part level page) other))

part_start-one : (level page part other : ℕ) → part_start level page part ≡ part_start level page other → part ≡ other
part_start-one level page part other e =
    let wide = eight_pos level in
    let same : part * 8 ^ level ≡ other * 8 ^ level = omega (arith, e) in
    sym (mul-div_cancel part wide) ∙ ap (λ n. n / 8 ^ level) same ∙ mul-div_cancel other wide

piece-first : (level page part other : ℕ) (large : Tile) → piece level page large part ≡ piece level page large other → part ≡ other
piece-first level page part other large e = part_start-one level page part other (ap (λ (t : Tile). t.extent.first) e)

beside-misses : (t : Tile) (level page : ℕ) (large : Tile) (n : ℕ)
    → ((part : ℕ) → part < n → part ≢ own_part level page → t ≢ piece level page large part) → times t (beside level page large n) ≡ 0
beside-misses t level page large zero misses = ap (times t) (beside-none level page large)
beside-misses t level page large (suc n) misses =
    let before = beside-misses t level page large n (λ part below. misses part (omega arith)) in
    elim (cases_eq n (own_part level page)) [
      | inl own ↦ ap (times t) (beside-own level page large n own) ∙ before
      | inr other ↦
          let one = times-other t (piece level page large n) (misses n (omega arith) other) in
          ap (times t) (beside-other level page large n other) ∙ times-append t (beside level page large n) (piece level page large n ∷ [])
          ∙ omega (arith, before, one)
    ]

beside-hits : (t : Tile) (level page : ℕ) (large : Tile) (n part : ℕ) → part < n → part ≢ own_part level page
    → t ≡ piece level page large part → times t (beside level page large n) ≡ 1
beside-hits t level page large zero part below other is = absurd (omega arith)
beside-hits t level page large (suc n) part below other is = elim (cases_eq n part) [
  | inl here ↦
      let differs : n ≢ own_part level page = λ own. other (sym here ∙ own) in
      let before = beside-misses t level page large n (λ q less _ same. absurd
      (let e = piece-first level page part q large (sym is ∙ same) in omega (arith, e))) in
      let one = times-same t (piece level page large n) (is ∙ ap (piece level page large) (sym here)) in
      ap (times t) (beside-other level page large n differs) ∙ times-append t (beside level page large n) (piece level page large n ∷ [])
      ∙ omega (arith, before, one)
  | inr elsewhere ↦
      let before = beside-hits t level page large n part (omega arith) other is in
      elim (cases_eq n (own_part level page)) [
        | inl own ↦ ap (times t) (beside-own level page large n own) ∙ before
        | inr differs ↦
            let one = times-other t (piece level page large n) (λ same. elsewhere
            (sym (piece-first level page part n large (sym is ∙ same)))) in
            ap (times t) (beside-other level page large n differs) ∙ times-append t (beside level page large n)
            (piece level page large n ∷ []) ∙ omega (arith, before, one)
      ]
]

-- at most one for each part, and one fewer past the page's own
pub record AreFew (level page n many : ℕ) : Type 0 where
  pub each : many ≤ n
  pub past : own_part level page < n → many < n

pub beside-few : (level page : ℕ) (large : Tile) (n : ℕ) → AreFew level page n (length (beside level page large n))
beside-few level page large zero =
    record { each = omega (arith, ap length (beside-none level page large)); past = λ less. absurd (omega arith) }
beside-few level page large (suc n) =
    let before = beside-few level page large n in
    elim (cases_eq n (own_part level page)) [
      | inl own ↦
          let long = ap length (beside-own level page large n own) in
          record { each = omega (arith, long, before.each); past = λ less. omega (arith, long, before.each) }
      | inr other ↦
          let long = ap length (beside-other level page large n other)
          ∙ length-append (beside level page large n) (piece level page large n ∷ []) in
          record { each = omega (arith, long, before.each); past = λ less. omega (arith, long, before.past (omega arith)) }
    ]

-- so there are fewer than seven before another part
pub fewer : (level page : ℕ) (large : Tile) (part : ℕ) → part < 8 → part ≢ own_part level page → length (beside level page large part) < 7
fewer level page large part few other =
    let bounds = beside-few level page large part in
    elim (cases_lt (own_part level page) part) [
      | inl less ↦ omega (arith, bounds.past less)
      | inr from ↦ let own : own_part level page < 8 = omega arith in omega (arith, bounds.each)
    ]

-- a part lies in each larger tile round the page
pub record LiesInside (s page start : ℕ) : Type 0 where
  pub from : extent_start s page ≤ start
  pub below : start < extent_start s page + 8 ^ s

pub part_inside : (s level page part : ℕ) → level < s → s ≤ 3 → part < 8 → LiesInside s page (part_start level page part)
part_inside s level page part below low few =
    let at = part_starts level page part (omega arith) few in
    let within = range_of_extent (page / 8 ^ s) (8 ^ s) (part_start level page part) (eight_pos s)
    (coarser (suc level) s (part_start level page part) page below low at.joined) in
    record { from = within.0; below = within.1 }

-- one part further
pub more-own : (xs ys : List Tile) (level page : ℕ) (large : Tile) (part : ℕ) → part ≡ own_part level page
    → ys ≡ xs ++ beside level page large part → ys ≡ xs ++ beside level page large (part + 1)
more-own xs ys level page large part own had = had ∙ ap (λ zs. xs ++ zs)
    (sym (ap (beside level page large) (add-one part) ∙ beside-own level page large part own))

pub more-other : (xs ys : List Tile) (level page : ℕ) (large : Tile) (part : ℕ) → part ≢ own_part level page
    → ys ≡ xs ++ beside level page large part → ys ++ piece level page large part ∷ [] ≡ xs ++ beside level page large (part + 1)
more-other xs ys level page large part other had =
    ap (λ us. us ++ piece level page large part ∷ []) had
    ∙ append_assoc xs (beside level page large part) (piece level page large part ∷ [])
    ∙ ap (λ us. xs ++ us) (sym (ap (beside level page large) (add-one part) ∙ beside-other level page large part other))

-- ---- the parts of some levels

pub cut_round-none : (page : ℕ) (large : Tile) (from : ℕ) → cut_round page large from 0 ≡ []
unfolding cut_round
cut_round-none page large from = refl

pub cut_round-more : (page : ℕ) (large : Tile) (from more : ℕ)
    → cut_round page large from (suc more) ≡ cut_round page large from more ++ beside (from + more) page large 8
unfolding cut_round
cut_round-more page large from more = refl

cut-misses : (t : Tile) (page : ℕ) (large : Tile) (from more : ℕ)
    → ((level part : ℕ) → from ≤ level → level < from + more → part < 8 → part ≢ own_part level page → t ≢ piece level page large part)
    → times t (cut_round page large from more) ≡ 0
cut-misses t page large from zero misses = ap (times t) (cut_round-none page large from)
cut-misses t page large from (suc more) misses =
    let before = cut-misses t page large from more (λ level part at below. misses level part at (omega arith)) in
    let last = beside-misses t (from + more) page large 8 (λ part few. misses (from + more) part (omega arith) (omega arith) few) in
    ap (times t) (cut_round-more page large from more) ∙ times-append t (cut_round page large from more)
    (beside (from + more) page large 8) ∙ omega (arith, before, last)

cut-hits : (t : Tile) (page : ℕ) (large : Tile) (from more level part : ℕ) → from ≤ level → level < from + more → part < 8
    → part ≢ own_part level page → t ≡ piece level page large part → times t (cut_round page large from more) ≡ 1
cut-hits t page large from zero level part at below few other is = absurd (omega arith)
cut-hits t page large from (suc more) level part at below few other is = elim (cases_eq level (from + more)) [
  | inl last ↦
      let before = cut-misses t page large from more (λ k q from_on less _ _ same. absurd
      (let e : level ≡ k = ap (λ (u : Tile). u.extent.size) (sym is ∙ same) in omega (arith, e))) in
      let here = beside-hits t level page large 8 part few other is in
      let one : times t (beside (from + more) page large 8) ≡ 1 = ap (λ k. times t (beside k page large 8)) (sym last) ∙ here in
      ap (times t) (cut_round-more page large from more) ∙ times-append t (cut_round page large from more)
      (beside (from + more) page large 8) ∙ omega (arith, before, one)
  | inr earlier ↦
      let before = cut-hits t page large from more level part at (omega arith) few other is in
      let none = beside-misses t (from + more) page large 8 (λ q _ _ same. earlier (ap (λ (u : Tile). u.extent.size) (sym is ∙ same))) in
      ap (times t) (cut_round-more page large from more) ∙ times-append t (cut_round page large from more)
      (beside (from + more) page large 8) ∙ omega (arith, before, none)
]

pub cut-few : (page : ℕ) (large : Tile) (from more : ℕ) → length (cut_round page large from more) ≤ 7 * more
cut-few page large from zero = omega (arith, ap length (cut_round-none page large from))
cut-few page large from (suc more) =
    let long = ap length (cut_round-more page large from more) ∙ length-append (cut_round page large from more)
    (beside (from + more) page large 8) in
    let own : own_part (from + more) page < 8 = omega arith in
    omega (arith, long, cut-few page large from more, (beside-few (from + more) page large 8).past own)

-- one level further
pub more-level : (xs ys zs : List Tile) (page : ℕ) (large : Tile) (from level : ℕ) → from ≤ level
    → ys ≡ xs ++ cut_round page large from (level - from) → zs ≡ ys ++ beside level page large 8
    → zs ≡ xs ++ cut_round page large from (level + 1 - from)
more-level xs ys zs page large from level at had added =
    let more : level + 1 - from ≡ suc (level - from) = omega arith in
    let here : level ≡ from + (level - from) = omega arith in
    added ∙ ap (λ us. us ++ beside level page large 8) had ∙ append_assoc xs (cut_round page large from (level - from))
    (beside level page large 8)
    ∙ ap (λ us. xs ++ us) (ap (λ k. cut_round page large from (level - from) ++ beside k page large 8) here
    ∙ sym (cut_round-more page large from (level - from)) ∙ ap (cut_round page large from) (sym more))

-- ---- the tiles that come

module _ (old new : ℕ → Option Mapping) (page : ℕ) (others : OthersSame page old new) where
  abbrev had : Option Tile
  had = tile_of old page

  abbrev own : Option Tile
  own = tile_of new page

  -- a tile round the page is none of the parts beside it
  not_beside : (t : Tile) (level part : ℕ) (large : Tile) → own ≡ Some t → level < 3 → part < 8 → part ≢ own_part level page
      → t ≢ piece level page large part
  not_beside t level part large is low few other same =
      let round = (tile_largest new page t is).1 in
      let at = part_starts level page part (omega arith) few in
      let size : t.extent.size ≡ level = ap (λ (u : Tile). u.extent.size) same in
      let first : extent_start level page ≡ part_start level page part = ap (λ k. extent_start k page) (sym size) ∙ round
      ∙ ap (λ (u : Tile). u.extent.first) same in
      at.apart other (ap (λ n. n / 8 ^ level) (sym first) ∙ first_of_extent level page)

  large_low : (large : Tile) → had ≡ Some large → large.extent.size ≤ 3
  large_low large at = omega (arith, ap size_in at, size_small old page)

  none_cut : (t : Tile) (o : Option Tile) → had ≡ o
      → ((large : Tile) (level part : ℕ) → IsCutPart old new page large level part → t ≢ piece level page large part)
      → times t (cut_from page o own) ≡ 0
  none_cut t None at misses = refl
  none_cut t (Some large) at misses =
      cut-misses t page large (size_in own) (large.extent.size - size_in own)
      (λ level part from below few other. misses large level part
      (record { at = at; from = from; below = omega (arith, from, below); few = few; other = other }))

  one_cut : (t : Tile) (o : Option Tile) → had ≡ o → IsCut old new page t → times t (cut_from page o own) ≡ 1
  one_cut t None at is = absurd (none-some is.large (sym at ∙ is.cut.at))
  one_cut t (Some large) at is =
      let same : is.large ≡ large = same_Some is.large large (sym is.cut.at ∙ at) in
      let size : is.large.extent.size ≡ large.extent.size = ap (λ (u : Tile). u.extent.size) same in
      cut-hits t page large (size_in own) (large.extent.size - size_in own) t.extent.size is.part is.cut.from
      (omega (arith, is.cut.from, is.cut.below, size)) is.cut.few is.cut.other
      (is.is ∙ ap (λ (u : Tile). piece t.extent.size page u is.part) same)

  none_own : (t : Tile) (o : Option Tile) → ((u : Tile) → o ≡ Some u → t ≢ u) → times t (option_to_list o) ≡ 0
  none_own t None misses = refl
  none_own t (Some u) misses = times-other t u (misses u refl)

  times_is : (t : Tile) → times t (pieces page had own) ≡ times t (option_to_list own) + times t (cut_from page had own)
  times_is t = times-append t (option_to_list own) (cut_from page had own)

  stands : (t : Tile) → IsNew old new t → times t (pieces page had own) ≡ 1
  stands t is = times_is t ∙ elim (new_is old new page others t is.after is.before) [
    | inl at ↦ omega (
      arith,
      ap (λ o. times t (option_to_list o)) at ∙ times-same t t refl,
      none_cut t had refl (λ large level part cut. not_beside t level part large at
          (omega (arith, cut.below, large_low large cut.at)) cut.few cut.other),
    )
    | inr is_cut ↦ let cut = is_cut.cut in omega (
      arith,
      none_own t own (λ u at same. not_beside u t.extent.size is_cut.part is_cut.large at
          (omega (arith, cut.below, large_low is_cut.large cut.at)) cut.few cut.other (sym same ∙ is_cut.is)),
      one_cut t had refl is_cut,
    )
  ]

  is_new : (t : Tile) → IsNew old new t → (u : Tile) → u ≡ t → IsNew old new u
  is_new t is u e = record { after = ap (is_tile new) e ∙ is.after; before = ap (is_tile old) e ∙ is.before }

  missing : (t : Tile) → had ≢ own → (IsNew old new t → ⊥) → times t (pieces page had own) ≡ 0
  missing t differ isnt = times_is t ∙ omega (
    arith,
    none_own t own (λ u at same. isnt (is_new u (own_new old new page others u at (λ before. differ (before ∙ sym at))) t same)),
    none_cut t had refl (λ large level part cut same. isnt
        (is_new (piece level page large part) (part_new old new page others large level part cut) t same)),
  )

  few_pieces : length (pieces page had own) ≤ 22
  few_pieces = omega (arith, length-append (option_to_list own) (cut_from page had own), one_own own, few_cut had refl)
    where
      one_own : (o : Option Tile) → length (option_to_list o) ≤ 1
      one_own None = omega arith
      one_own (Some u) = omega arith

      few_cut : (o : Option Tile) → had ≡ o → length (cut_from page o own) ≤ 21
      few_cut None at = omega arith
      few_cut (Some large) at = omega (arith, cut-few page large (size_in own) (large.extent.size - size_in own), large_low large at)

  -- the page's own tile and the parts beside it are all that came, each once
  pub came_pieces : had ≢ own → Came old new (pieces page had own)
  came_pieces differ = record { few = few_pieces; each = λ t. each t (is_tile new t) (is_tile old t) refl refl }
    where
      each : (t : Tile) (after before : Bool) → is_tile new t ≡ after → is_tile old t ≡ before
          → times t (pieces page had own) ≡ (if after && not before then 1 else 0)
      each t true false is was = stands t (record { after = is; before = was })
      each t true true is was = missing t differ (λ new_one. false≢true (sym new_one.before ∙ was))
      each t false before is was = missing t differ (λ new_one. false≢true (sym is ∙ new_one.after))

  -- and none came where the page's tile is the same
  pub came_none : had ≡ own → Came old new []
  came_none same = record { few = omega arith; each = λ t. each t (is_tile new t) (is_tile old t) refl refl }
    where
      stays : (t : Tile) → IsNew old new t → ⊥
      stays t is = elim (new_is old new page others t is.after is.before) [
        | inl at ↦ true≢false (sym (own_is_tile old page t (same ∙ at)) ∙ is.before)
        | inr is_cut ↦ absurd (let sizes : size_in had ≡ size_in own = ap size_in same in
            omega (arith, is_cut.cut.from, is_cut.cut.below, ap size_in is_cut.cut.at, sizes))
      ]

      each : (t : Tile) (after before : Bool) → is_tile new t ≡ after → is_tile old t ≡ before
          → times t [] ≡ (if after && not before then 1 else 0)
      each t true false is was = absurd (stays t (record { after = is; before = was }))
      each t true true is was = refl
      each t false before is was = refl
