-- A held frame is used for the page that it was claimed for.
use Rattle.std.proofs.Common.{◌≡◌, ℕ, ◌<◌, true, length, Some, None, refl, ap, sym, subst, ◌∙◌, arith}
use Rattle.std.specs.Option.{IsSomeAnd}
use Rattle.std.proofs.lemmas.Bool.{and_from, eq-eqb, false≢true}
use Rattle.std.proofs.lemmas.Option.{same_Some}
use Rattle.pager_model.specs.declared.entry.Victim.{Victim}
use Rattle.pager_laws.specs.Laid.{IsSound}
use Rattle.pager_laws.proofs.PagePlaces.{frame_in-found}
use Rattle.pager_laws.proofs.StateSoundness.{Takes, Takes-take_frame, IsSound-dropped, frame_of-dropped}
use Rattle.pager_model.specs.declared.entry.Entry.{Entry}
use Rattle.pager_model.specs.declared.entry.Want.{Want}
use Rattle.pager_model.specs.declared.entry.What.TheVariants.{UseHeld}
use Rattle.pager_model.specs.Agreement.{OwnsBy}
use Rattle.pager_model.specs.Flat.{space_of_call}
use Rattle.pager_model.specs.FrameStates.{FrameState, Taking, layout_of, held_by, frame_of, take_frame, state_taken, dropped, counted}
use Rattle.pager_model.specs.Order.{Filling, leads}
use Rattle.pager_model.specs.Regions.{wanted}
use Rattle.pager_model.specs.SpaceStates.{SpaceState, space_after}
use Rattle.space_core.specs.Beginning.{Places}
use Rattle.space_core.specs.Standing.{Kept, frame_at}
use Rattle.flight_core.specs.declared.flight.Flight.{Flight}
use Rattle.flight_core.specs.declared.flight.Phase.TheVariants.{Use, Fill}
use Rattle.flight_core.specs.Flights.{IsReady, WantsFrame}
use Rattle.flight_core.specs.Rows.{access_in, call_in, page_or_zero, row_of}
use Rattle.flight_core.specs.Steps.{AreAgreed, Makes}
use Rattle.flight_core.proofs.EntrySteps.{Leaves-on, SpaceAndFrames, same_space}
use Rattle.flight_core.proofs.MadeEntries.{made_on_frames}
use Rattle.flight_core.proofs.Purposes.{in_phase, with_phase, same_work, by_ready}
use Rattle.flight_core.proofs.TakenFrames.{FrameFor, IsLeft-placed, IsTaken, by_taking}

-- what stands where a held frame is used: the page of the call's own space lacks a frame
pub wants_still : (f : Flight) (page : ℕ) (want : Want) (v : Victim) (kept : Kept) (st : SpaceState) → f.phase ≡ Use page want v
    → IsReady f kept st → (space_of_call (call_in f.purpose) ≡ kept.number) × WantsFrame (call_in f.purpose) kept page want
wants_still f page want v kept st phase =
    by_ready f (Use page want v) kept st refl phase
    (λ g to. (space_of_call (call_in g.purpose) ≡ kept.number) × WantsFrame (call_in g.purpose) kept page want)
    (λ ready. (same_Some _ _ ready.under, ready.found))

-- A frame is taken for a page of the space without one, once the frame that the processor holds is free.
pub record TakesFreed (kept : Kept) (st : FrameState) (c page : ℕ) (t : Taking) : Type 0 where
  pub space : ℕ
  pub want : Want
  pub agree : AreAgreed kept st
  pub on : space ≡ kept.number
  pub absent : frame_at kept page ≡ None
  pub takes : take_frame (dropped st c) space page want ≡ Some t

-- Then it is a known one that no page has.
module _ (kept : Kept) (st : FrameState) (c page : ℕ) (t : Taking) (freed : TakesFreed kept st c page t) where
  free_sound : IsSound kept.frames (length st.held) (dropped st c)
  free_sound = IsSound-dropped kept.frames (length st.held) st c freed.agree.sound

  takes_free : Takes (dropped st c) freed.space page t
  takes_free =
      Takes-take_frame kept.frames (length st.held) (dropped st c) freed.space page freed.want t free_sound
      (frame_of-dropped kept.frames (length st.held) st c freed.space page freed.agree.sound ∙ ap (λ s. frame_of st s page) freed.on
      ∙ sym (freed.agree.pages page) ∙ freed.absent) freed.takes

  pub taken_known : t.frame < kept.frames
  taken_known = subst (λ n. t.frame < n) free_sound.known takes_free.places.known

  pub taken_elsewhere : (p : ℕ) → frame_at kept p ≡ Some t.frame → ⊥
  taken_elsewhere p is =
      let at = frame_of-dropped kept.frames (length st.held) st c kept.number p freed.agree.sound ∙ sym (freed.agree.pages p) ∙ is in
      let place = frame_in-found (layout_of (dropped st c)) kept.number p t.frame at in
      false≢true (sym takes_free.places.was_unused ∙ place.used)

abbrev pub use_entry : ℕ → ℕ → ℕ → ℕ → Want → Entry
use_entry c space page frame want = record { processor = c; space = Some space; frames = true; what = UseHeld page frame want }

-- Use: the page gets the frame that is taken once the held one is free
module _ (f : Flight) (page : ℕ) (want : Want) (v : Victim) (was : SpaceAndFrames) (now : Kept) (t : Taking) where
  Makes-use :
      (st : SpaceState) → IsReady (in_phase f (Use page want v)) was.space st → AreAgreed was.space was.frames
      → held_by was.frames f.processor ≡ Some v.frame
      → take_frame (dropped was.frames f.processor) (space_of_call (call_in f.purpose)) page want ≡ Some t
      → Places was.space now page t.frame
      → Makes (in_phase f (Use page want v)) (in_phase f (Fill page t.frame)) was.space now st was.frames (counted t.state)
      (use_entry f.processor (space_of_call (call_in f.purpose)) page t.frame want)
  Makes-use st ready agree holds takes places =
      let own = space_of_call (call_in f.purpose) in
      let on : own ≡ was.space.number = same_Some _ _ ready.under in
      let absent : frame_at was.space page ≡ None = ready.found.lacks.absent in
      record {
        entry = made_on_frames (record {
          same_work = same_work f (Use page want v) (Fill page t.frame);
          in_order = ap (λ b. leads b f.number (Filling (access_in f.purpose) t.frame))
              (and_from _ _ (eq-eqb own own refl) (eq-eqb page _ (ap page_or_zero (sym ready.found.lacks.lawful.page_is))));
          fewer = omega arith;
          on_way = refl;
          no_answer = refl;
        }) ((own, refl), refl) (
          ap (λ s. frame_of was.frames s page) on ∙ sym (agree.pages page) ∙ absent,
          (v.frame, holds),
          subst (λ o. IsSomeAnd o (λ (u : Taking). u.frame ≡ t.frame)) (sym takes) refl,
        ) (ap (λ o. counted (state_taken (dropped was.frames f.processor) o)) (sym takes));
        -- the space is left as a taking leaves it
        space = Leaves-on (use_entry f.processor own page t.frame want) (ap Some on) (same_space places.same) ready.next tt
            (ap (λ rs. wanted rs page) ready.stands.beside.regions ∙ ready.found.wanted, ready.stands.base page ∙ absent)
            (IsLeft-placed f page t.frame want was.space now
            (space_after st (use_entry f.processor own page t.frame want)) ready.fits.can on ready.found places
            (places.stands st f.processor want ready.stands) refl);
      }

pub held_used : (f : Flight) (frame : FrameFor) (was now : SpaceAndFrames) → ((v : Victim) × (f.phase ≡ Use frame.page frame.want v))
    → frame.space ≡ space_of_call (call_in f.purpose) → AreAgreed was.space was.frames
    → OwnsBy was.frames f.processor (row_of f).progress.doing
    → IsTaken (dropped was.frames f.processor) was now frame → (st : SpaceState) → IsReady f was.space st
    → Makes f (with_phase f (Fill frame.page frame.number)) was.space now.space st was.frames now.frames
    (use_entry f.processor frame.space frame.page frame.number frame.want)
held_used f frame was now phase same agree owns taken st =
    let page = frame.page in
    let want = frame.want in
    by_taking taken same
    (λ s n after. IsReady f was.space st
    → Makes f (with_phase f (Fill page n)) was.space now.space st was.frames after (use_entry f.processor s page n want))
    (λ t takes places ready. by_ready f (Use page want phase.0) was.space st refl phase.1
    (λ g to. OwnsBy was.frames f.processor (row_of g).progress.doing
    → Makes g (to (Fill page t.frame)) was.space now.space st was.frames (counted t.state)
    (use_entry f.processor (space_of_call (call_in f.purpose)) page t.frame want))
    (λ is holds. Makes-use f page want phase.0 was now.space t st is agree holds takes places) ready owns)
