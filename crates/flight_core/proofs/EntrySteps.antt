-- How a step that makes an entry leaves its space.
use Rattle.std.proofs.Common.{◌≡◌, ℕ, eqb, cond, Option, Some, None, IfSome, refl, ap, sym, subst, ◌∙◌, ◌⊎◌, inl, inr}
use Rattle.std.proofs.lemmas.Bool.{cond-true, eq-eqb}
use Rattle.pager_model.specs.declared.entry.Entry.{Entry}
use Rattle.pager_model.specs.Options.{is_that}
use Rattle.pager_model.specs.FrameStates.{FrameState}
use Rattle.pager_model.specs.Locks.{own_if}
use Rattle.pager_model.specs.SpaceStates.{SpaceState, Next, Anyone, MayGoOn, WhatAllowed, SpaceAllows, space_after}
use Rattle.space_core.specs.Beginning.{SameRegions, SameStore}
use Rattle.space_core.specs.Standing.{Kept, StandsFor, IsResting}
use Rattle.flight_core.specs.declared.flight.Flight.{Flight}
use Rattle.flight_core.specs.Flights.{Fits, LeftBy, PhaseStands}
use Rattle.flight_core.specs.Rows.{call_in, row_of}
use Rattle.flight_core.specs.Steps.{LeavesSpace, SameSpace}
use Rattle.flight_core.proofs.NextFlights.{keeps_under, own_if-cases}

-- what a step under both locks is made under
pub record SpaceAndFrames : Type 0 where
  pub space : Kept
  pub frames : FrameState

-- a space with the same regions and rights is the same
pub same_space : {was now : Kept} → SameRegions was now → SameSpace was now
same_space same = record { number = same.number; frames = same.frames; processors = same.processors }

pub same_space-on : {was mid now : Kept} → SameSpace was mid → SameSpace mid now → SameSpace was now
same_space-on first second =
    record {
      number = second.number ∙ first.number;
      frames = second.frames ∙ first.frames;
      processors = second.processors
          ∙ first.processors;
    }

-- its store is as it was after two steps that left it so
pub same_store-on : {was mid now : Kept} → SameStore was mid → SameStore mid now → SameStore was now
same_store-on first second =
    record { store = second.store ∙ first.store; unread = second.unread ∙ first.unread; unwritten = second.unwritten ∙ first.unwritten }

pub unchanged : (kept : Kept) → SameSpace kept kept
unchanged kept = record { number = refl; frames = refl; processors = refl }

-- the flight keeps the space's lock, or it keeps no lock, and then any flight may enter the space
abbrev pub KeepsOrRests : Flight → Kept → Type 0
KeepsOrRests f kept = ((row_of f).keeps ≡ Some kept.number) ⊎ (((row_of f).keeps ≡ None) × ((row_of f).next ≡ Anyone) × IsResting kept)

-- so it does where it keeps its own space alone, which may be another one
pub keeps_own_if : (new : Flight) (kept : Kept) (own : Option ℕ) (space : ℕ) → (row_of new).keeps ≡ own_if own space
    → (own_if own space ≡ Some space → space ≡ kept.number) → (row_of new).next ≡ Anyone → IsResting kept → KeepsOrRests new kept
keeps_own_if new kept own space keeps at next resting = elim (own_if-cases own space) [
  | inl here ↦ inl (keeps ∙ here ∙ ap Some (at here))
  | inr other ↦ inr (keeps ∙ other, next, resting)
]

-- Where its entry leads the flight fits, and what it found stands in the space, which stands for this state.
pub record IsLeft (new : Flight) (now : Kept) (st : SpaceState) : Type 0 where
  pub fits : Fits new
  pub stands : StandsFor now st
  pub next : st.next ≡ (row_of new).next
  pub found : PhaseStands (call_in new.purpose) now new.phase
  pub keeps : KeepsOrRests new now

pub LeftBy-left : (new : Flight) (now : Kept) (st : SpaceState) → IsLeft new now st → LeftBy (row_of new).keeps new now st
LeftBy-left new now st left = elim left.keeps [
  | inl kept ↦ subst (λ o. LeftBy o new now st) (sym kept) (
    refl,
    record {
      under = keeps_under new now.number kept;
      fits = left.fits;
      stands = left.stands;
      next = left.next;
      found = left.found;
    },
  )
  | inr none ↦ subst (λ o. LeftBy o new now st) (sym none.0) (
    left.fits,
    record { resting = none.2; stands = left.stands; next = left.next ∙ none.1 },
  )
]

-- So it leaves the space by an entry that names it, and that it allows.
pub Leaves-by : {new : Flight} {was now : Kept} {st : SpaceState} {next : Next} (e : Entry) → e.space ≡ Some was.number → SameSpace was now
    → st.next ≡ next → MayGoOn next e.processor e.what → WhatAllowed st e.frames e.processor e.what
    → LeftBy (row_of new).keeps new now (space_after st e) → LeavesSpace new was now st e
Leaves-by {new} {was} {now} {st} {next} e on same next_is goes_on allowed left = record {
  same_space = same;
  own_space = subst (λ o. IfSome o (λ s. s ≡ was.number)) (sym on) refl;
  space_allows = subst (λ o. IfSome o (λ s. SpaceAllows st e)) (sym on)
      (subst (λ n. MayGoOn n e.processor e.what) (sym next_is) goes_on, allowed);
  left = subst (LeftBy (row_of new).keeps new now)
      (sym (ap (λ o. cond (is_that was.number o) (space_after st e) st) on
      ∙ cond-true (eqb was.number was.number) (space_after st e) st (eq-eqb _ _ refl))) left;
}

pub Leaves-on : {new : Flight} {was now : Kept} {st : SpaceState} {next : Next} (e : Entry) → e.space ≡ Some was.number → SameSpace was now
    → st.next ≡ next → MayGoOn next e.processor e.what → WhatAllowed st e.frames e.processor e.what
    → IsLeft new now (space_after st e) → LeavesSpace new was now st e
Leaves-on {new} {was} {now} {st} {next} e on same next_is goes_on allowed left =
    Leaves-by e on same next_is goes_on allowed (LeftBy-left new now (space_after st e) left)

-- However it leaves the space, the flight fits.
pub Fits-left : (new : Flight) (now : Kept) (st : SpaceState) (o : Option ℕ) → LeftBy o new now st → Fits new
Fits-left new now st None left = left.0
Fits-left new now st (Some s) left = left.1.fits
