-- What is counted of a history only grows.
use Rattle.std.proofs.Common.{◌≡◌, ℕ, ◌+◌, ◌≤◌, Bool, true, false, cond, List, [], ◌∷◌, ◌++◌, length, fold, is_some, Option, Some, None, map, refl, ap, sym, subst, ◌∙◌, arith, option_map}
use Rattle.std.specs.List.{range_with_len}
use Rattle.std.proofs.lemmas.List.Elements.{filter-append}
use Rattle.std.proofs.lemmas.List.Sums.{fold-append, sum_by-append, sum_by-le-sum_by}
use Rattle.pager_model.specs.declared.call.Call.{Call}
use Rattle.pager_model.specs.declared.call.Call.TheVariants.{Evict}
use Rattle.pager_model.specs.declared.entry.Entry.{Entry}
use Rattle.pager_model.specs.declared.entry.Want.{Want}
use Rattle.pager_model.specs.declared.entry.What.{What}
use Rattle.pager_model.specs.declared.entry.What.TheVariants.{Answer, Take, Give, Clear, UseHeld, DropHeld}
use Rattle.pager_model.specs.declared.reservation.Reservation.{Reservation}
use Rattle.pager_model.specs.Counts.{counts}
use Rattle.pager_model.specs.Entries.{frames_part, names_frames, names_space, space_part}
use Rattle.pager_model.specs.FrameStates.{FrameState, dropped, dropped_in, frame_of, frames_after, give_if_used, give_page, given_in, held_by, moved, moved_by_answer, named_space, start_frames, state_taken, taking}
use Rattle.pager_model.specs.Layouts.{Placing, covering, placing}
use Rattle.pager_model.specs.Legal.{frames_at, frames_state, space_at, state_of_space}
use Rattle.pager_model.specs.Settings.{Given, faults_at_entry, is_told}
use Rattle.pager_model.specs.SpaceStates.{SpaceState, empty_state, pages_after, pages_of, space_after}
use Rattle.pager_model.specs.Tiles.{demotions_in, promotions_in}
use Rattle.flight_core.specs.Counting.{evictions_in, is_eviction}

-- Promotions and demotions.

promotions_rise : (es : List Entry) (st : SpaceState) → st.promotions ≤ (fold space_after st es).promotions
promotions_rise [] st = omega arith
promotions_rise (e ∷ es) st =
    let rest = promotions_rise es (space_after st e) in
    let one : (space_after st e).promotions ≡ st.promotions + promotions_in st.sizes (pages_of st) (pages_after st e.frames e.what) = refl in
    omega (arith, rest, one)

demotions_rise : (es : List Entry) (st : SpaceState) → st.demotions ≤ (fold space_after st es).demotions
demotions_rise [] st = omega arith
demotions_rise (e ∷ es) st =
    let rest = demotions_rise es (space_after st e) in
    let one : (space_after st e).demotions ≡ st.demotions + demotions_in st.sizes (pages_of st) (pages_after st e.frames e.what) = refl in
    omega (arith, rest, one)

-- Preemptions.

-- a taking may break one
taken_rise : (st : FrameState) (want : Want) (place : Option Placing)
    → st.preemptions ≤ (state_taken st (option_map (taking st want) place)).preemptions
taken_rise st want None = omega arith
taken_rise st want (Some place) = omega arith

given_same : (st : FrameState) (page : ℕ) (r : Option Reservation) → (given_in st page r).preemptions ≡ st.preemptions
given_same st page None = refl
given_same st page (Some r) = refl

page_same : (st : FrameState) (space page : ℕ) → (give_page st space page).preemptions ≡ st.preemptions
page_same st space page = given_same st page (covering space page st.records)

used_by : (b : Bool) (st : FrameState) (space page : ℕ) → (cond b (give_page st space page) st).preemptions ≡ st.preemptions
used_by true st space page = page_same st space page
used_by false st space page = refl

range_same : (space : ℕ) (pages : List ℕ) (st : FrameState) → (fold (give_if_used space) st pages).preemptions ≡ st.preemptions
range_same space [] st = refl
range_same space (page ∷ pages) st =
    range_same space pages (give_if_used space st page) ∙ used_by (is_some (frame_of st space page)) st space page

dropped_same : (st : FrameState) (c : ℕ) (held : Option ℕ) → (dropped_in st c held).preemptions ≡ st.preemptions
dropped_same st c None = refl
dropped_same st c (Some frame) = refl

answer_same : (st : FrameState) (space : ℕ) (call : Call) → (moved_by_answer st space call).preemptions ≡ st.preemptions
answer_same st space (Evict s page) = page_same st space page
answer_same st space call = refl

moved_rise : (st : FrameState) (c : ℕ) (space : Option ℕ) (what : What) → st.preemptions ≤ (moved st c space what).preemptions
moved_rise st c space (Answer number call answered) = (let same = answer_same st (named_space space) call in omega (arith, same))
moved_rise st c space (Take page frame want) = taken_rise st want _
moved_rise st c space (Give page frame) = (let same = page_same st (named_space space) page in omega (arith, same))
moved_rise st c space (Clear first len) = (let same = range_same (named_space space) (range_with_len first len) st in omega (arith, same))
moved_rise st c space (UseHeld page frame want) =
    let same = dropped_same st c (held_by st c) in
    let more = taken_rise (dropped st c) want (placing (dropped st c).entries (named_space space) page want
    (record {
      sizes = (dropped st c).sizes;
      free = (dropped st c).free;
      records = (dropped st c).records;
      used = map is_some (dropped st c).used;
    })) in
    omega (arith, same, more)
moved_rise st c space (DropHeld frame) = (let same = dropped_same st c (held_by st c) in omega (arith, same))
moved_rise st c space what = omega arith

preemptions_rise : (es : List Entry) (st : FrameState) → st.preemptions ≤ (fold frames_after st es).preemptions
preemptions_rise [] st = omega arith
preemptions_rise (e ∷ es) st =
    let rest = preemptions_rise es (frames_after st e) in
    let one = moved_rise st e.processor e.space e.what in
    omega (arith, rest, one)

-- Over a history.
module _ (g : Given) (h piece : List Entry) where
  space_on : (s : ℕ) → space_at g (h ++ piece) s ≡ fold space_after (space_at g h s) (space_part s piece)
  space_on s = ap (state_of_space g s) (filter-append (names_space s) h piece)
      ∙ fold-append space_after (empty_state g.sizes (is_told g s) (faults_at_entry g s)) (space_part s h) (space_part s piece)

  frames_on : frames_at g (h ++ piece) ≡ fold frames_after (frames_at g h) (frames_part piece)
  frames_on = ap (frames_state g) (filter-append names_frames h piece)
      ∙ fold-append frames_after (start_frames g.sizes g.frames (length g.marks)) (frames_part h) (frames_part piece)

  pub more_promotions : (counts g h).promotions ≤ (counts g (h ++ piece)).promotions
  more_promotions = sum_by-le-sum_by (λ s. (space_at g h s).promotions) (λ s. (space_at g (h ++ piece) s).promotions)
      (range_with_len 0 (length g.told))
      (λ s. subst (λ (st : SpaceState). (space_at g h s).promotions ≤ st.promotions) (sym (space_on s))
      (promotions_rise (space_part s piece) (space_at g h s)))

  pub more_demotions : (counts g h).demotions ≤ (counts g (h ++ piece)).demotions
  more_demotions = sum_by-le-sum_by (λ s. (space_at g h s).demotions) (λ s. (space_at g (h ++ piece) s).demotions)
      (range_with_len 0 (length g.told))
      (λ s. subst (λ (st : SpaceState). (space_at g h s).demotions ≤ st.demotions) (sym (space_on s))
      (demotions_rise (space_part s piece) (space_at g h s)))

  pub more_preemptions : (counts g h).preemptions ≤ (counts g (h ++ piece)).preemptions
  more_preemptions = subst (λ (st : FrameState). (frames_at g h).preemptions ≤ st.preemptions) (sym frames_on)
      (preemptions_rise (frames_part piece) (frames_at g h))

-- evictions are counted entry by entry
pub more_evictions : (h piece : List Entry) → evictions_in h ≤ evictions_in (h ++ piece)
more_evictions h piece =
    let all = sum_by-append (λ (e : Entry). cond (is_eviction e) 1 0) h piece in
    omega (arith, all)
