-- What finding an extent of free frames for a reservation gives, and what taking it out leaves.
use Rattle.std.proofs.Common.{◌≡◌, ℕ, zero, suc, ◌+◌, ◌-◌, ◌^◌, ◌<◌, ◌≤◌, true, false, cond, length, Option, Some, None, option_map, refl, sym, ap, subst, ◌∙◌, arith}
use Rattle.std.specs.Option.{option_or, option_and_then, option_map_or, is_some, IfSome}
use Rattle.std.proofs.lemmas.Bool.{false≢true}
use Rattle.pager_model.proofs.FreeRuns.{IsExtent-choice, choice_within, run_free-choice, run_free_exactly}
use Rattle.pager_model.proofs.FreeRanges.{length-with_range, with_range_inside, with_range_outside, range_cases}
use Rattle.pager_model.specs.Agreement.{has_frame}
use Rattle.pager_model.specs.FreeBlocks.{choice}
use Rattle.pager_model.specs.Layouts.{Layout, FreeExtent, break_layout, broken_at, to_break, chosen, extent_of, largest_extent, record_at, is_free}
use Rattle.pager_model.specs.Records.{is_used}
use Rattle.pager_model.specs.SizeSets.{has_size}
use Rattle.pager_laws.specs.Laid.{IsLaid}
use Rattle.frame_pool.specs.Placed.{CanBreak, FindsExtent, without_extent, extent_there}
use Rattle.pager_laws.proofs.PartYields.{yield_less}
use Rattle.pager_laws.proofs.BreakYield.{choice-break}
use Rattle.pager_laws.proofs.AgeLists.{oldest_from-found}
use Rattle.reservation_lists.proofs.FirstLists.{option_or-some, option_or-none}
use Rattle.frame_pool.proofs.ReservedLayouts.{IsLaid-fewer}

-- An extent that was chosen in a sound layout.

module _ (found : FreeExtent) (laid : IsLaid found.layout) (is : choice found.layout.free found.size ≡ Some found.first) where
  within : found.first + 8 ^ found.size ≤ length found.layout.free
  within = choice_within found.layout.free found.size found.first is

  -- there are as many frames without it
  pub without-long : length (without_extent found).free ≡ length found.layout.free
  without-long = length-with_range found.layout.free found.first (8 ^ found.size) false within

  -- the layout without its frames is sound
  pub IsLaid-without : IsLaid (without_extent found)
  IsLaid-without = IsLaid-fewer found.layout (without_extent found).free laid without-long (λ f still.
      range_cases found.first (8 ^ found.size) (λ g. is_free (without_extent found) g ≡ true → is_free found.layout g ≡ true)
      (λ g out now. sym (with_range_outside found.layout.free found.first (8 ^ found.size) false within g out) ∙ now)
      (λ g low high now. absurd
      (false≢true (sym (with_range_inside found.layout.free found.first (8 ^ found.size) false within g low high) ∙ now)))
      f still)

  -- no reservation has a frame of it
  out_of_all : (frame id : ℕ) → found.first ≤ frame → frame < found.first + 8 ^ found.size
      → has_frame frame (record_at found.layout id) ≡ false
  out_of_all frame id low high =
      let free = (run_free_exactly found.layout.free found.first (8 ^ found.size)).0
      (run_free-choice found.layout.free found.size found.first is) frame low high in
      elim (has_frame frame (record_at found.layout id)) as (λ b. has_frame frame (record_at found.layout id) ≡ b → b ≡ false) [
        | true ↦ λ has. absurd (laid.not_free frame id free has)
        | false ↦ λ has. refl
      ] refl

  pub FindsExtent-chosen : (finds : Option FreeExtent) → found.broken ≤ 1 → finds ≡ Some found
      → FindsExtent (without_extent found) finds found.size found.first found.broken
  FindsExtent-chosen finds few found_is = record {
    found = found;
    is = found_is;
    layout = refl;
    same_size = refl;
    same_first = refl;
    same_broken = refl;
    few_broken = few;
    aligned = IsExtent-choice found.layout.free found.size found.first is;
    known = omega (arith, within, without-long);
    out = out_of_all;
  }

-- Where an extent is found.

-- an extent of free frames
pub extent_of-free : (size first : ℕ) (l : Layout) → choice l.free size ≡ Some first
    → extent_of size l ≡ Some (record { layout = l; size = size; first = first; broken = 0 })
extent_of-free size first l is =
    ap (λ o. option_or (option_map (λ f. record { layout = l; size = size; first = f; broken = 0 }) o)
    (option_and_then (λ id. chosen size 1 (broken_at id l)) (to_break l size))) is

-- and where there is none, one that breaking a reservation frees
pub extent_of-broken : (size id first : ℕ) (l new : Layout) → choice l.free size ≡ None → to_break l size ≡ Some id → new ≡ broken_at id l
    → choice new.free size ≡ Some first → extent_of size l ≡ Some (record { layout = new; size = size; first = first; broken = 1 })
extent_of-broken size id first l new none oldest broken is =
    let later : Option FreeExtent = option_and_then (λ i. chosen size 1 (broken_at i l)) (to_break l size) in
    ap (λ o. option_or (option_map (λ f. record { layout = l; size = size; first = f; broken = 0 }) o) later) none
    ∙ ap (option_and_then (λ i. chosen size 1 (broken_at i l))) oldest
    ∙ sym (ap (chosen size 1) broken)
    ∙ ap (option_map (λ f. record { layout = new; size = size; first = f; broken = 1 })) is

-- Where the oldest reservation of a list is broken.

module _ (l : Layout) (size id : ℕ) (laid : IsLaid l) (oldest : to_break l size ≡ Some id) where
  -- it can be broken
  pub CanBreak-oldest : IfSome (record_at l id) (CanBreak l)
  CanBreak-oldest =
      let w = oldest_from-found l size (3 - size) id laid.placed oldest in
      let some = laid.some_used id w.0 w.4 in
      let less = yield_less l.sizes (is_used l.used) w.0 w.1 some.0 some.1 some.2 w.5 in
      subst (λ o. IfSome o (CanBreak l)) (sym w.4) (record {
        stands = ap (record_at l) (laid.placed id w.0 w.4).named ∙ w.4;
        splits = omega (arith, less);
        yields = ap is_some w.5;
      })

  -- and then there is a choice
  pub choice-oldest : is_some (choice (broken_at id l).free size) ≡ true
  choice-oldest =
      let w = oldest_from-found l size (3 - size) id laid.placed oldest in
      let broken : broken_at id l ≡ break_layout w.0 l = ap (λ o. option_map_or (λ r. break_layout r l) o l) w.4 in
      elim (choice (broken_at id l).free size) as (λ o. choice (broken_at id l).free size ≡ o → is_some o ≡ true) [
        | None ↦ λ none. absurd (choice-break l id w.0 w.1 size laid w.4 w.5 w.2
            (sym (ap (λ (m : Layout). choice m.free size) broken) ∙ none))
        | Some first ↦ λ is. refl
      ] refl

-- Of the largest size.

-- the extent of the largest size below this one that has one
abbrev pub largest_below : ℕ → Layout → Option FreeExtent
largest_below zero l = None
largest_below (suc size) l = largest_extent size l

-- size by size
largest_step : (size : ℕ) (l : Layout) → largest_extent (suc size) l ≡ option_or (extent_there (suc size) l) (largest_extent size l)
largest_step size l =
    elim (has_size l.sizes (suc size)) as (λ b. cond b (option_or (extent_of (suc size) l) (largest_extent size l))
    (largest_extent size l) ≡ option_or (cond b (extent_of (suc size) l) None) (largest_extent size l)) [
      | true ↦ refl
      | false ↦ refl
    ]

pub largest_below-found : (l : Layout) (n size : ℕ) (found : FreeExtent) → n ≡ suc size → extent_there size l ≡ Some found
    → extent_there size l ≡ largest_below n l
largest_below-found l n zero found next is = sym (ap (λ m. largest_below m l) next)
largest_below-found l n (suc size) found next is =
    sym (option_or-some (extent_there (suc size) l) (largest_extent size l) (ap is_some is))
    ∙ sym (largest_step size l)
    ∙ sym (ap (λ m. largest_below m l) next)

pub largest_below-missed : (l : Layout) (n size : ℕ) → n ≡ suc size → extent_there size l ≡ None → largest_below n l ≡ largest_below size l
largest_below-missed l n zero next none = ap (λ m. largest_below m l) next ∙ none
largest_below-missed l n (suc size) next none =
    ap (λ m. largest_below m l) next
    ∙ largest_step size l
    ∙ option_or-none (extent_there (suc size) l) (largest_extent size l) (ap is_some none)
