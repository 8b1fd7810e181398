-- Entries on the frames: each is counted once, and a claim is one.
use Rattle.std.proofs.Common.{◌≡◌, ℕ, ◌+◌, Bool, true, false, cond, List, [], ◌∷◌, fold, Option, Some, None, is_some, option_map, refl, ap, ◌∙◌}
use Rattle.std.specs.List.{range_with_len}
use Rattle.pager_model.specs.declared.call.Call.{Call}
use Rattle.pager_model.specs.declared.call.Call.TheVariants.{Map, Grow, Unmap, Protect, Load, Store, Sync, Evict, Discard, Wire, Unwire}
use Rattle.pager_model.specs.declared.entry.Entry.{Entry}
use Rattle.pager_model.specs.declared.entry.Need.{Need}
use Rattle.pager_model.specs.declared.entry.Want.{Want}
use Rattle.pager_model.specs.declared.entry.What.{What}
use Rattle.pager_model.specs.declared.entry.What.TheVariants.{Answer, Out, Failed, Take, Give, Clear, Claim, UseHeld, DropHeld, Got, Unclaim, Refused, Pin, Kept, Rest}
use Rattle.pager_model.specs.declared.reservation.Reservation.{Reservation}
use Rattle.pager_model.specs.Entries.{ClaimIsOn}
use Rattle.pager_model.specs.Layouts.{Placing, covering, placing}
use Rattle.pager_model.specs.FrameStates.{FrameState, layout_of, frame_of, held_by, take_frame, taking, state_taken, given_in, give_page, give_if_used, dropped, dropped_in, named_space, moved, moved_by_answer, frames_after}

placed-entries : (st : FrameState) (want : Want) (o : Option Placing)
    → (state_taken st (option_map (taking st want) o)).entries ≡ st.entries
placed-entries st want None = refl
placed-entries st want (Some place) = refl

taken-entries : (st : FrameState) (s page : ℕ) (want : Want) → (state_taken st (take_frame st s page want)).entries ≡ st.entries
taken-entries st s page want = placed-entries st want (placing st.entries s page want (layout_of st))

-- a page that gives its frame up counts none
pub given_in-entries : (st : FrameState) (page : ℕ) (o : Option Reservation) → (given_in st page o).entries ≡ st.entries
given_in-entries st page None = refl
given_in-entries st page (Some r) = refl

give_page-entries : (st : FrameState) (s page : ℕ) → (give_page st s page).entries ≡ st.entries
give_page-entries st s page = given_in-entries st page (covering s page st.records)

give_if_used-entries : (st : FrameState) (s page : ℕ) → (give_if_used s st page).entries ≡ st.entries
give_if_used-entries st s page =
    elim (is_some (frame_of st s page)) as (λ b. (let x : FrameState = cond b (give_page st s page) st in x).entries ≡ st.entries)
    [ true ↦ give_page-entries st s page | false ↦ refl ]

fold-entries : (s : ℕ) (pages : List ℕ) (st : FrameState) → (fold (give_if_used s) st pages).entries ≡ st.entries
fold-entries s [] st = refl
fold-entries s (page ∷ pages) st = fold-entries s pages (give_if_used s st page) ∙ give_if_used-entries st s page

dropped_in-entries : (st : FrameState) (c : ℕ) (o : Option ℕ) → (dropped_in st c o).entries ≡ st.entries
dropped_in-entries st c None = refl
dropped_in-entries st c (Some frame) = refl

dropped-entries : (st : FrameState) (c : ℕ) → (dropped st c).entries ≡ st.entries
dropped-entries st c = dropped_in-entries st c (held_by st c)

answer-entries : (st : FrameState) (s : ℕ) (call : Call) → (moved_by_answer st s call).entries ≡ st.entries
answer-entries st s (Evict t page) = give_page-entries st s page
answer-entries st s (Map t page len kind rights) = refl
answer-entries st s (Grow t page by) = refl
answer-entries st s (Unmap t page) = refl
answer-entries st s (Protect t page len rights) = refl
answer-entries st s (Load t address) = refl
answer-entries st s (Store t address word) = refl
answer-entries st s (Sync t page) = refl
answer-entries st s (Discard t page len) = refl
answer-entries st s (Wire t page) = refl
answer-entries st s (Unwire t page) = refl

moved-entries : (st : FrameState) (c : ℕ) (space : Option ℕ) (what : What) → (moved st c space what).entries ≡ st.entries
moved-entries st c space (Take page frame want) = taken-entries st (named_space space) page want
moved-entries st c space (Answer number call answered) = answer-entries st (named_space space) call
moved-entries st c space (Out page written) = refl
moved-entries st c space (Failed page writing count) = refl
moved-entries st c space (Give page frame) = give_page-entries st (named_space space) page
moved-entries st c space (Clear first len) = fold-entries (named_space space) (range_with_len first len) st
moved-entries st c space (Claim victim page frame need) = refl
moved-entries st c space (UseHeld page frame want) = taken-entries (dropped st c) (named_space space) page want ∙ dropped-entries st c
moved-entries st c space (DropHeld frame) = dropped-entries st c
moved-entries st c space (Got frame) = refl
moved-entries st c space (Unclaim frame) = refl
moved-entries st c space (Refused wired claimed held) = refl
moved-entries st c space (Pin first len wired) = refl
moved-entries st c space (Kept first len page frame) = refl
moved-entries st c space (Rest short) = refl

-- an entry on the frames adds one to their count of entries
pub frames_after-entries : (st : FrameState) (e : Entry) → (frames_after st e).entries ≡ st.entries + 1
frames_after-entries st e = ap (λ n. n + 1) (moved-entries st e.processor e.space e.what)

-- a claim names the frames, with a need or without
pub claim_names : (need : Option Need) (space : Option ℕ) (frames : Bool) → ClaimIsOn need space frames → frames ≡ true
claim_names None space frames on = on.1
claim_names (Some need) space frames on = on.1
