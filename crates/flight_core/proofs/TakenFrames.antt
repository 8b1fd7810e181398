-- A page that isn't resident takes a frame.
use Rattle.std.proofs.Common.{◌≡◌, ℕ, Bool, true, false, cond, is_some, Option, Some, None, refl, ap, sym, subst, ◌∙◌, inl, arith}
use Rattle.std.specs.Option.{IsSomeAnd}
use Rattle.std.proofs.lemmas.Bool.{false≢true}
use Rattle.std.proofs.lemmas.Option.{same_Some}
use Rattle.pager_model.specs.declared.entry.Want.{Want}
use Rattle.pager_model.specs.Flat.{space_of_call}
use Rattle.pager_model.specs.FrameStates.{FrameState, Taking, layout_of, used_at, frame_of, take_frame, state_taken, counted, HasNothing}
use Rattle.pager_model.specs.Agreement.{OwnsBy}
use Rattle.pager_model.specs.Order.{Progress, Filling}
use Rattle.pager_model.specs.Regions.{wanted}
use Rattle.pager_model.specs.SpaceStates.{SpaceState, Only, space_after}
use Rattle.pager_laws.proofs.PagePlaces.{frame_in-found}
use Rattle.pager_laws.proofs.StateSoundness.{is_used-layout_of}
use Rattle.space_core.specs.Beginning.{Places}
use Rattle.space_core.specs.Standing.{Kept, StandsFor, CanBegin, frame_at}
use Rattle.pager_model.specs.CallEntries.{take_entry}
use Rattle.flight_core.specs.declared.flight.Flight.{Flight}
use Rattle.flight_core.specs.declared.flight.Phase.TheVariants.{Frame, Fill}
use Rattle.flight_core.specs.Flights.{IsReady, WantsFrame}
use Rattle.flight_core.specs.Rows.{call_in, is_store, page_or_zero, row_of}
use Rattle.flight_core.specs.Steps.{Makes, AreAgreed}
use Rattle.flight_core.proofs.AnswerSteps.{allowed-same}
use Rattle.flight_core.proofs.EntrySteps.{IsLeft, Leaves-on, SpaceAndFrames, same_space}
use Rattle.flight_core.proofs.MadeEntries.{made_on_frames}
use Rattle.flight_core.proofs.Purposes.{in_phase, with_phase, same_work, by_ready}

-- the place of a page is a used place
place_is_used : (st : FrameState) (space page frame : ℕ) → frame_of st space page ≡ Some frame → is_some (used_at st frame) ≡ true
place_is_used st space page frame is = sym (is_used-layout_of st frame) ∙ (frame_in-found (layout_of st) space page frame is).used

-- so where space and frames agree no page has an unused frame
pub unused_elsewhere : (kept : Kept) (st : FrameState) (frame : ℕ) → AreAgreed kept st → is_some (used_at st frame) ≡ false → (p : ℕ)
    → frame_at kept p ≡ Some frame → ⊥
unused_elsewhere kept st frame agree unused p is = false≢true (sym unused ∙ place_is_used st kept.number p frame (sym (agree.pages p) ∙ is))

-- once its page has a frame, the access is read in next
pub IsLeft-placed : (f : Flight) (page frame : ℕ) (want : Want) (was now : Kept) (st : SpaceState) → CanBegin (call_in f.purpose)
    → space_of_call (call_in f.purpose) ≡ was.number → WantsFrame (call_in f.purpose) was page want → Places was now page frame
    → StandsFor now st → st.next ≡ Only f.processor → IsLeft (in_phase f (Fill page frame)) now st
IsLeft-placed f page frame want was now st can on wants places stands next = record {
  fits = record { kind = refl; can = can; phase = tt };
  stands = stands;
  next = next;
  found = record {
    lawful = record {
      page_is = wants.lacks.lawful.page_is;
      in_space = wants.lacks.lawful.in_space;
      allowed = allowed-same was now (call_in f.purpose) places.same ∙ wants.lacks.lawful.allowed;
    };
    pending = places.pending;
    none_clearing = places.same_clearing ∙ wants.lacks.resting.none_clearing;
    none_paged = places.same_paged ∙ wants.lacks.resting.none_paged;
    resident = places.resident;
  };
  keeps = inl (ap Some (on ∙ sym places.same.number));
}

-- The page gets the frame that is taken.
module _ (f : Flight) (page : ℕ) (want : Want) (was : SpaceAndFrames) (now : Kept) (t : Taking) where
  Makes-take :
      (st : SpaceState) → IsReady (in_phase f (Frame page want)) was.space st → AreAgreed was.space was.frames
      → HasNothing was.frames f.processor
      → take_frame was.frames (space_of_call (call_in f.purpose)) page want ≡ Some t → Places was.space now page t.frame
      → Makes (in_phase f (Frame page want)) (in_phase f (Fill page t.frame)) was.space now st was.frames (counted t.state)
      (take_entry f.processor (space_of_call (call_in f.purpose)) page t.frame want)
  Makes-take st ready agree nothing takes places =
      let own = space_of_call (call_in f.purpose) in
      let on : own ≡ was.space.number = same_Some _ _ ready.under in
      let absent : frame_at was.space page ≡ None = ready.found.lacks.absent in
      let goes : ℕ → Bool → Option Progress = λ p claimed. Some (record {
        made = f.number;
        doing = Filling (record { space = own; page = p; writing = cond claimed (Some (is_store (call_in f.purpose))) None }) t.frame;
      }) in
      record {
        entry = made_on_frames (record {
          same_work = same_work f (Frame page want) (Fill page t.frame);
          -- none was claimed, so it isn't told whether the access stores
          in_order = ap (λ p. goes p false) (ap page_or_zero (sym ready.found.lacks.lawful.page_is)) ∙ ap (goes _) (sym ready.fits.phase);
          fewer = omega arith;
          on_way = refl;
          no_answer = refl;
        }) ((own, refl), refl) (
          ap (λ s. frame_of was.frames s page) on ∙ sym (agree.pages page) ∙ absent,
          nothing,
          subst (λ o. IsSomeAnd o (λ (u : Taking). u.frame ≡ t.frame)) (sym takes) refl,
        ) (ap (λ o. counted (state_taken was.frames o)) (sym takes));
        space = Leaves-on (take_entry f.processor own page t.frame want) (ap Some on) (same_space places.same) ready.next tt
            (ap (λ rs. wanted rs page) ready.stands.beside.regions ∙ ready.found.wanted, ready.stands.base page ∙ absent)
            (IsLeft-placed f page t.frame want was.space now
            (space_after st (take_entry f.processor own page t.frame want)) ready.fits.can on ready.found places
            (places.stands st f.processor want ready.stands) refl);
      }

-- what a flight that wants a frame has: nothing
pub HasNothing-wanting : (f : Flight) (page : ℕ) (want : Want) (before : FrameState) → f.phase ≡ Frame page want
    → OwnsBy before f.processor (row_of f).progress.doing → HasNothing before f.processor
HasNothing-wanting f page want before phase owns =
    subst (λ p. OwnsBy before f.processor (row_of (with_phase f p)).progress.doing) phase owns

-- and the page that it wants one for is of its call's own space
pub own_wanting : (f : Flight) (page : ℕ) (want : Want) (kept : Kept) (st : SpaceState) → f.phase ≡ Frame page want → IsReady f kept st
    → space_of_call (call_in f.purpose) ≡ kept.number
own_wanting f page want kept st phase =
    by_ready f (Frame page want) kept st refl phase (λ g to. space_of_call (call_in g.purpose) ≡ kept.number)
    (λ ready. same_Some _ _ ready.under)

-- a frame, by its number, and what it is for: a page of a space, whose region wants this of it
pub record FrameFor : Type 0 where
  pub number : ℕ
  pub space : ℕ
  pub page : ℕ
  pub want : Want

-- The frame is taken, from frames and to those after it, and its page gets it.
pub record IsTaken (from : FrameState) (was now : SpaceAndFrames) (frame : FrameFor) : Type 0 where
  pub taking : Taking
  pub takes : take_frame from frame.space frame.page frame.want ≡ Some taking
  pub number_is : frame.number ≡ taking.frame
  pub after_is : now.frames ≡ counted taking.state
  pub places : Places was.space now.space frame.page taking.frame

-- what holds of what is taken for a space holds of the frame and of the frames after it
pub by_taking : {from : FrameState} {was now : SpaceAndFrames} {frame : FrameFor} {space : ℕ}
    → IsTaken from was now frame → frame.space ≡ space
    → (P : ℕ → ℕ → FrameState → Type 0) → ((t : Taking) → take_frame from space frame.page frame.want ≡ Some t
    → Places was.space now.space frame.page t.frame → P space t.frame (counted t.state))
    → P frame.space frame.number now.frames
by_taking {from} {was} {now} {frame} {space} taken same P holds =
    let t = taken.taking in
    subst (λ n. P frame.space n now.frames) (sym taken.number_is)
    (subst (P frame.space t.frame) (sym taken.after_is)
    (subst (λ s. P s t.frame (counted t.state)) (sym same)
    (holds t (ap (λ s. take_frame from s frame.page frame.want) (sym same) ∙ taken.takes) taken.places)))

pub frame_taken : (f : Flight) (frame : FrameFor) (was now : SpaceAndFrames) → f.phase ≡ Frame frame.page frame.want
    → frame.space ≡ space_of_call (call_in f.purpose) → AreAgreed was.space was.frames
    → OwnsBy was.frames f.processor (row_of f).progress.doing
    → IsTaken was.frames was now frame → (st : SpaceState) → IsReady f was.space st
    → Makes f (with_phase f (Fill frame.page frame.number)) was.space now.space st was.frames now.frames
    (take_entry f.processor frame.space frame.page frame.number frame.want)
frame_taken f frame was now phase same agree owns taken st =
    let page = frame.page in
    let want = frame.want in
    let nothing = HasNothing-wanting f page want was.frames phase owns in
    by_taking taken same
    (λ s n after. IsReady f was.space st
    → Makes f (with_phase f (Fill page n)) was.space now.space st was.frames after (take_entry f.processor s page n want))
    (λ t takes places. by_ready f (Frame page want) was.space st refl phase
    (λ g to. Makes g (to (Fill page t.frame)) was.space now.space st was.frames (counted t.state)
    (take_entry f.processor (space_of_call (call_in f.purpose)) page t.frame want))
    (λ ready. Makes-take f page want was now.space t st ready agree nothing takes places))
