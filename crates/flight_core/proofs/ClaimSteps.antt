-- A frame is claimed for an access whose page lacks one, and the claim is given up.
use Rattle.std.proofs.Common.{◌≡◌, ℕ, ◌<◌, Bool, true, false, ◌&&◌, cond, eqb, is_some, Option, Some, None, refl, ap, sym, subst, ◌∙◌, inl, inr, arith}
use Rattle.std.proofs.lemmas.Bool.{and_from, and_parts, eq-eqb, false≢true}
use Rattle.std.proofs.lemmas.Option.{same_Some}
use Rattle.pager_model.specs.declared.entry.Victim.{Victim}
use Rattle.pager_model.specs.Agreement.{ClaimsOrHolds, OwnsBy}
use Rattle.pager_model.specs.declared.call.Call.{Call}
use Rattle.pager_model.specs.declared.call.Call.TheVariants.{Map, Grow, Unmap, Protect, Load, Store, Sync, Evict, Discard, Wire, Unwire}
use Rattle.pager_model.specs.declared.entry.Entry.{Entry}
use Rattle.pager_model.specs.declared.entry.Want.{Want}
use Rattle.pager_model.specs.declared.entry.What.TheVariants.{Claim, Unclaim as UnclaimEntry}
use Rattle.pager_model.specs.Flat.{space_of_call}
use Rattle.pager_model.specs.FrameStates.{FrameState, HasNothing, IsFull, IsVictim, claim_in, claimed, counted, frame_of, layout_of, used_at}
use Rattle.pager_model.specs.Order.{Progress, ForAccess, Claiming, faulted_for, lacking_for, is_access, progress_after}
use Rattle.pager_model.specs.Regions.{region_at}
use Rattle.pager_model.specs.SpaceStates.{SpaceState, Anyone, IsNeeded, access_page, has_right, space_after}
use Rattle.pager_laws.proofs.PagePlaces.{frame_in-found}
use Rattle.space_core.specs.Standing.{Kept, StandsFor, frame_at, is_allowed, is_in, rights_at}
use Rattle.flight_core.specs.declared.flight.Flight.{Flight}
use Rattle.flight_core.specs.declared.flight.Phase.TheVariants.{Frame, Out, Unclaim}
use Rattle.flight_core.specs.declared.flight.Purpose.TheVariants.{Call as OfCall}
use Rattle.flight_core.specs.Flights.{HasVictim, IsLawfulAt, IsReady}
use Rattle.flight_core.specs.Rows.{call_in, claims_for, given_up, is_store, left_by, page_or_zero, row_of}
use Rattle.flight_core.specs.Steps.{AreAgreed, Makes, MakesEntry}
use Rattle.flight_core.proofs.AnswerSteps.{is_access_by_page}
use Rattle.flight_core.proofs.EntrySteps.{Leaves-by, Leaves-on, keeps_own_if, unchanged}
use Rattle.flight_core.proofs.Evictions.{LeftBy-given_up, ended_claim, given_up-row}
use Rattle.flight_core.proofs.MadeEntries.{made_on_frames}
use Rattle.flight_core.proofs.NextFlights.{own_if-some}
use Rattle.flight_core.proofs.Purposes.{by_ready, in_its_phase, in_phase, same_kind_of_work, with_phase}
use Rattle.flight_core.proofs.TakenFrames.{HasNothing-wanting}
use Rattle.flight_core.proofs.UnchangedSpaces.{unchanged_stands}

-- an access whose page has no frame is needed
needed : (kept : Kept) (st : SpaceState) (call : Call) (page : ℕ) → StandsFor kept st → access_page call ≡ Some page
    → is_allowed kept call ≡ true → frame_at kept page ≡ None → IsNeeded st (Some (record { page = page; writing = is_store call }))
needed kept st call page stands page_is allowed absent =
    let has = allowed_at call page_is allowed in (
      ap (λ rs. is_some (region_at rs page)) stands.beside.regions ∙ has.0,
      ap (has_right (is_store call)) (stands.beside.rights page has.0) ∙ has.1,
      stands.base page ∙ absent,
    )
  where
    allowed_at : (k : Call) → access_page k ≡ Some page → is_allowed kept k ≡ true
        → (is_some (region_at kept.regions page) ≡ true) × (has_right (is_store k) (rights_at kept page) ≡ true)
    allowed_at (Load space address) is may = subst (λ p. (is_some (region_at kept.regions p) ≡ true)
        × (has_right false (rights_at kept p) ≡ true)) (same_Some _ _ is) (and_parts _ _ may)
    allowed_at (Store space address word) is may = subst (λ p. (is_some (region_at kept.regions p) ≡ true)
        × (has_right true (rights_at kept p) ≡ true)) (same_Some _ _ is) (and_parts _ _ may)
    allowed_at (Map space p len kind rights) is may = absurd (false≢true may)
    allowed_at (Grow space p by) is may = absurd (false≢true may)
    allowed_at (Unmap space p) is may = absurd (false≢true may)
    allowed_at (Protect space p len rights) is may = absurd (false≢true may)
    allowed_at (Sync space p) is may = absurd (false≢true may)
    allowed_at (Evict space p) is may = absurd (false≢true may)
    allowed_at (Discard space p len) is may = absurd (false≢true may)
    allowed_at (Wire space p) is may = absurd (false≢true may)
    allowed_at (Unwire space p) is may = absurd (false≢true may)

-- a call that isn't a store is none
pub is_no_store : (call : Call) → ((space address word : ℕ) → call ≡ Store space address word → ⊥) → is_store call ≡ false
is_no_store (Load space address) other = refl
is_no_store (Store space address word) other = absurd (other space address word refl)
is_no_store (Map space page len kind rights) other = refl
is_no_store (Grow space page by) other = refl
is_no_store (Unmap space page) other = refl
is_no_store (Protect space page len rights) other = refl
is_no_store (Sync space page) other = refl
is_no_store (Evict space page) other = refl
is_no_store (Discard space page len) other = refl
is_no_store (Wire space page) other = refl
is_no_store (Unwire space page) other = refl

-- the flight, for which a frame is claimed now
abbrev pub claiming : Flight → Flight
claiming f = record { processor = f.processor; number = f.number; purpose = OfCall (call_in f.purpose) true; phase = f.phase }

abbrev pub claim_entry : Flight → ℕ → Victim → Bool → Entry
claim_entry f page v writing =
    record {
      processor = f.processor;
      space = Some (space_of_call (call_in f.purpose));
      frames = true;
      what = Claim v.space v.page v.frame (Some (record { page = page; writing = writing }));
    }

-- Frame: the victim's frame is claimed
module _ (f : Flight) (page : ℕ) (want : Want) (v : Victim) (kept : Kept) (st : SpaceState) (before : FrameState) where
  Makes-claim :
      IsReady (in_phase f (Frame page want)) kept st → HasNothing before f.processor → IsFull before
      → IsVictim before v.space v.page v.frame
      → Makes (in_phase f (Frame page want)) (in_phase (claiming f) (Out v)) kept kept st before
      (counted (claimed before v.frame (Some f.processor))) (claim_entry f page v (is_store (call_in f.purpose)))
  Makes-claim ready nothing full victim =
      let own = space_of_call (call_in f.purpose) in
      let on : own ≡ kept.number = same_Some _ _ ready.under in
      let lawful : IsLawfulAt (call_in f.purpose) kept page = ready.found.lacks.lawful in
      let e : Entry = claim_entry f page v (is_store (call_in f.purpose)) in
      record {
        entry = made_on_frames (record {
          same_work = record { processor = refl; number = refl; same_kind = refl; call = refl; mark = refl };
          in_order = ap (λ p. Some (let q : Progress = record {
            made = f.number;
            doing = Claiming (ForAccess (record { space = own; page = p; writing = Some (is_store (call_in f.purpose)) })) v;
          } in q)) (ap page_or_zero (sym lawful.page_is));
          fewer = omega arith;
          on_way = refl;
          no_answer = refl;
        }) ((own, refl), refl) (nothing, victim, full) refl;
        space = Leaves-on e (ap Some on) (unchanged kept) ready.next tt
            (needed kept st (call_in f.purpose) page ready.stands lawful.page_is lawful.allowed ready.found.lacks.absent)
            (record {
              fits = record { kind = refl; can = ready.fits.can; phase = is_access_by_page (call_in f.purpose) page lawful.page_is };
              stands = unchanged_stands kept st e ready.stands refl (λ p. refl) (λ p i. refl) refl refl;
              next = refl;
              found = ready.found.lacks.resting;
              keeps = keeps_own_if (in_phase (claiming f) (Out v)) kept (Some own) v.space refl
                  (λ here. sym (same_Some _ _ (own_if-some (Some own) v.space v.space here).0) ∙ on) refl ready.found.lacks.resting;
            });
      }

pub victim_claimed : (f : Flight) (page : ℕ) (want : Want) (v : Victim) (kept : Kept) (st : SpaceState) (before : FrameState)
    → f.phase ≡ Frame page want → OwnsBy before f.processor (row_of f).progress.doing → IsFull before
    → IsVictim before v.space v.page v.frame → IsReady f kept st
    → Makes f (in_phase (claiming f) (Out v)) kept kept st before (counted (claimed before v.frame (Some f.processor)))
    (claim_entry f page v (is_store (call_in f.purpose)))
victim_claimed f page want v kept st before phase owns full victim =
    by_ready f (Frame page want) kept st refl phase
    (λ g to. Makes g (in_phase (claiming f) (Out v)) kept kept st before (counted (claimed before v.frame (Some f.processor)))
    (claim_entry f page v (is_store (call_in f.purpose))))
    (λ ready. Makes-claim f page want v kept st before ready (HasNothing-wanting f page want before phase owns) full victim)

-- Unclaim: the victim's frame is claimed no longer

-- the frame of a page that is resident is claimed by who claims or holds it
claims_resident : (kept : Kept) (st : FrameState) (c : ℕ) (v : Victim) → AreAgreed kept st → v.space ≡ kept.number
    → frame_at kept v.page ≡ Some v.frame → ClaimsOrHolds st c v → claim_in (used_at st v.frame) ≡ Some c
claims_resident kept st c v agree on at owns = elim owns.frame [
  | inl holds ↦
      let place = frame_in-found (layout_of st) kept.number v.page v.frame (sym (agree.pages v.page) ∙ at) in
      absurd ((agree.sound.held_apart c v.frame holds).1 (inr (agree.sound.laid.places v.frame place.used)))
  | inr claims ↦ claims.0
]

abbrev pub unclaim_entry : ℕ → ℕ → ℕ → Entry
unclaim_entry c space frame = record { processor = c; space = Some space; frames = true; what = UnclaimEntry frame }

module _ (f : Flight) (v : Victim) (frame : ℕ) (kept : Kept) (st : SpaceState) (before : FrameState) where
  -- what the entry makes, wherever it leads
  made_by_unclaim :
      (fault : Option ℕ) → is_access (call_in f.purpose) ≡ true → frame ≡ v.frame → claim_in (used_at before frame) ≡ Some f.processor
      → ((page : ℕ) × (frame_of before v.space page ≡ Some frame))
      → MakesEntry (with_phase f (Unclaim v fault)) (with_phase f (given_up f.purpose v fault)) before
      (counted (claimed before frame None)) (unclaim_entry f.processor v.space frame)
  made_by_unclaim fault access is claims place =
      let row = given_up-row f v fault access in
      made_on_frames (record {
        same_work = same_kind_of_work f (Unclaim v fault) (given_up f.purpose v fault);
        in_order = led fault ∙ row.progress;
        fewer = less fault row.fewer;
        on_way = row.on_way;
        no_answer = refl;
      }) ((v.space, refl), refl) (claims, place) refl
    where
      here : (eqb v.space v.space && eqb frame v.frame) ≡ true
      here = and_from _ _ (eq-eqb v.space v.space refl) (eq-eqb frame v.frame is)

      led : (o : Option ℕ) → progress_after (row_of (with_phase f (Unclaim v o))).progress (Some v.space) (UnclaimEntry frame)
          ≡ ended_claim f.number (claims_for f.purpose) v.space o
      led None = ap (λ b. cond b (lacking_for f.number (claims_for f.purpose) v.space) None) here
      led (Some count) = ap (λ b. cond b (faulted_for f.number (claims_for f.purpose) v.space count) None) here

      less : (o : Option ℕ) {n : ℕ} → n < left_by f.purpose 6 2 4 → n < (row_of (with_phase f (Unclaim v o))).entries
      less None fewer = fewer
      less (Some count) fewer = fewer

  Makes-unclaim :
      (fault : Option ℕ) → IsReady (with_phase f (Unclaim v fault)) kept st → v.space ≡ kept.number → st.next ≡ Anyone
      → AreAgreed kept before → ClaimsOrHolds before f.processor v → claim_in (used_at before frame) ≡ Some f.processor
      → Makes (with_phase f (Unclaim v fault)) (with_phase f (given_up f.purpose v fault)) kept kept st before
      (counted (claimed before frame None)) (unclaim_entry f.processor v.space frame)
  Makes-unclaim fault ready on next agree owns claims =
      let has : HasVictim kept v = ready.found.has in
      let is : frame ≡ v.frame = agree.sound.claims_once frame v.frame f.processor claims
      (claims_resident kept before f.processor v agree on has.place owns) in
      let at : frame_at kept v.page ≡ Some frame = has.place ∙ ap Some (sym is) in
      let e : Entry = unclaim_entry f.processor v.space frame in
      record {
        entry = made_by_unclaim fault ready.fits.phase is claims (
          v.page,
          ap (λ s. frame_of before s v.page) on ∙ sym (agree.pages v.page)
              ∙ at,
        );
        space = Leaves-by e (ap Some on) (unchanged kept) next tt (
          v.page,
          ready.stands.base v.page ∙ at,
          ready.stands.beside.dirty v.page (ap (λ r. is_in r v.page) has.resting.none_clearing)
              ∙ ready.found.dirty,
        )
            (LeftBy-given_up f v fault kept (space_after st e) ready.fits on has.resting
            (unchanged_stands kept st e ready.stands refl (λ p. refl) (λ p i. refl) refl refl) refl);
      }

-- where the claim is given up, its processor claims or holds the victim, any may go on, and the victim's space is that of the step
at_unclaim : (f : Flight) (v : Victim) (fault : Option ℕ) (kept : Kept) (st : SpaceState) (before : FrameState)
    → IsReady (with_phase f (Unclaim v fault)) kept st → OwnsBy before f.processor (row_of (with_phase f (Unclaim v fault))).progress.doing
    → (v.space ≡ kept.number) × (st.next ≡ Anyone) × ClaimsOrHolds before f.processor v
at_unclaim f v None kept st before ready owns = (same_Some _ _ ready.under, ready.next, owns)
at_unclaim f v (Some count) kept st before ready owns = (same_Some _ _ ready.under, ready.next, owns)

pub claim_ended : (f : Flight) (v : Victim) (fault : Option ℕ) (frame : ℕ) (kept : Kept) (st : SpaceState) (before : FrameState)
    → f.phase ≡ Unclaim v fault → OwnsBy before f.processor (row_of f).progress.doing → claim_in (used_at before frame) ≡ Some f.processor
    → IsReady f kept st → AreAgreed kept before
    → Makes f (with_phase f (given_up f.purpose v fault)) kept kept st before (counted (claimed before frame None))
    (unclaim_entry f.processor v.space frame)
claim_ended f v fault frame kept st before phase owns claims ready agree =
    in_its_phase f (Unclaim v fault) phase
    (λ g. IsReady g kept st → OwnsBy before f.processor (row_of g).progress.doing
    → Makes g (with_phase f (given_up f.purpose v fault)) kept kept st before (counted (claimed before frame None))
    (unclaim_entry f.processor v.space frame))
    (λ is own. (let so = at_unclaim f v fault kept st before is own in
    Makes-unclaim f v frame kept st before fault is so.0 so.1 agree so.2 claims)) ready owns
