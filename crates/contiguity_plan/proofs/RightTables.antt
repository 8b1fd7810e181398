-- What each move of the frames does to a table that is right.
use Rattle.std.proofs.Common.{◌≡◌, ◌≤◌, ◌<◌, ℕ, zero, suc, Bool, true, false, is_some, cond, eqb, ◌&&◌, List, ◌∷◌, length, map, set, get_or, replicate, option_map, Option, Some, None, IsSome, IsSomeAnd, inl, inr, refl, sym, ap, subst, ◌∙◌, arith}
use Rattle.std.specs.BTreeMap.{BTreeMap}
use Rattle.std.specs.List.{range_with_len}
use Rattle.std.proofs.Math.ListN.{get_or-map}
use Rattle.std.proofs.lemmas.Bool.{cases_Bool, cases_eq, and_parts, and_from, cond-true, cond-false, eq-eqb, eqb-true}
use Rattle.std.proofs.lemmas.List.{same_lists, get_or_default, length-map, map-set, length-set, get_or-set_other, length-replicate}
use Rattle.std.proofs.lemmas.Grind.{get_or-set_at}
use Rattle.std.proofs.lemmas.Option.{none-some, same_Some}
use Rattle.pager_model.specs.declared.call.Call.{Call}
use Rattle.pager_model.specs.declared.call.Call.TheVariants.{Map, Grow, Unmap, Protect, Load, Store, Sync, Evict, Discard, Wire, Unwire}
use Rattle.pager_model.specs.declared.entry.Want.{Want}
use Rattle.pager_model.specs.declared.reservation.Used.{Used}
use Rattle.pager_model.specs.FrameStates.{FrameState, Taking, start_frames, layout_of, used_at, held_by, claim_in, frame_of, taken, take_frame, state_taken, held_given, give_page, give_if_used, with_claim, claimed, dropped, dropped_in, counted, give_range, with_wired, wire_page, pin_range, AllowsAnswer, moved_by_answer}
use Rattle.pager_model.specs.Layouts.{Placing, placing, frame_in}
use Rattle.pager_model.specs.Regions.{in_range}
use Rattle.pager_model.specs.SizeSets.{SizeSet}
use Rattle.pager_model.proofs.Lists.{get_or-alike, get_or-set_default, set_cases, unset_before}
use Rattle.pager_model.proofs.Options.{some_from_is_some}
use Rattle.pager_model.proofs.Ranges.{in_bounds, bounds_in}
use Rattle.pager_laws.specs.Laid.{IsLaid, IsSound}
use Rattle.pager_laws.proofs.GivenRanges.{give_if_used-none, give_if_used-some, give_range-lowest}
use Rattle.pager_laws.proofs.LayoutPlacing.{WasPlaced, WasPlaced-placing}
use Rattle.pager_laws.proofs.LegalHistories.{frame_of-start}
use Rattle.pager_laws.proofs.PinnedPlaces.{is_pinned, used_at-pinned, frame_of-pinned, same-places}
use Rattle.pager_laws.proofs.WiredPlaces.{is_pinned-place}
use Rattle.pager_laws.proofs.PageMoves.{GivesPage-give_page, frame_of-give_page}
use Rattle.pager_laws.proofs.StateSoundness.{taking_from, layout_of-taken, layout_of-claimed}
use Rattle.contiguity_plan.specs.declared.plan.PageOf.{PageOf}
use Rattle.contiguity_plan.specs.declared.table.Use.{Use}
use Rattle.contiguity_plan.specs.Places.{place_in}
use Rattle.contiguity_plan.specs.Tables.{Note, note_of, noted, use_in, use_for, claim_of, reclaimed, evicted, AreRight, pinned}

-- Notes.

-- alike at each frame
pub note_at : (uses : List (Option Use)) (used : List (Option Used)) → map (option_map note_of) uses ≡ map (option_map noted) used
    → (f : ℕ) → option_map note_of (get_or uses f None) ≡ option_map noted (get_or used f None)
note_at uses used same f =
    sym (get_or-map (option_map note_of) uses f None) ∙ ap (λ (ns : List (Option Note)). get_or ns f None) same
    ∙ get_or-map (option_map noted) used f None

-- written alike they stay alike
notes-set : (uses : List (Option Use)) (used : List (Option Used)) → map (option_map note_of) uses ≡ map (option_map noted) used
    → (f : ℕ) (u : Option Use) (v : Option Used) → option_map note_of u ≡ option_map noted v
    → map (option_map note_of) (set uses f u) ≡ map (option_map noted) (set used f v)
notes-set uses used same f u v alike =
    map-set (option_map note_of) uses f u
    ∙ ap (λ (ns : List (Option Note)). set ns f (option_map note_of u)) same
    ∙ ap (set (map (option_map noted) used) f) alike
    ∙ sym (map-set (option_map noted) used f v)

pub claims_alike : (u : Option Use) (v : Option Used) → option_map note_of u ≡ option_map noted v → claim_of u ≡ claim_in v
claims_alike None None same = refl
claims_alike None (Some v) same = absurd (none-some _ same)
claims_alike (Some u) None same = absurd (none-some _ (sym same))
claims_alike (Some u) (Some v) same = ap (λ (n : Note). n.claim) (same_Some _ _ same)

reclaimed_alike : (claim : Option ℕ) (u : Option Use) (v : Option Used) → option_map note_of u ≡ option_map noted v
    → option_map note_of (reclaimed claim u) ≡ option_map noted (with_claim claim v)
reclaimed_alike claim None None same = refl
reclaimed_alike claim None (Some v) same = absurd (none-some _ same)
reclaimed_alike claim (Some u) None same = absurd (none-some _ (sym same))
reclaimed_alike claim (Some u) (Some v) same = ap (λ (n : Note). Some (record { wired = n.wired; claim = claim })) (same_Some _ _ same)

-- a use with another claim is of the same page
claimed_before : (claim : Option ℕ) (o : Option Use) (u : Use) → reclaimed claim o ≡ Some u → (v : Use) × (o ≡ Some v) × (v.page ≡ u.page)
claimed_before claim None u is = absurd (none-some u is)
claimed_before claim (Some v) u is = (v, refl, ap (λ (w : Use). w.page) (same_Some _ u is))

length-held_given : (o : Option ℕ) (frame : ℕ) (held : List (Option ℕ)) → length (held_given o frame held) ≡ length held
length-held_given None frame held = refl
length-held_given (Some d) frame held = length-set held d (Some frame)

-- lists that are equal are as right
pub AreRight-as : (st : FrameState) (uses now_uses : List (Option Use)) (held now_held : List (Option ℕ))
    (places now_places : List (BTreeMap ℕ ℕ))
    → now_uses ≡ uses → now_held ≡ held → now_places ≡ places → AreRight st uses held places → AreRight st now_uses now_held now_places
AreRight-as st uses now_uses held now_held places now_places same also too right =
    subst (λ u. AreRight st u now_held now_places) (sym same) (subst (λ h. AreRight st uses h now_places) (sym also)
    (subst (AreRight st uses held) (sym too) right))

-- pinned where the page is one of the range, a use and what is noted of its frame stay alike
pinned_alike : (space first len : ℕ) (wired here : Bool) (o : Option Use) (v : Option Used) → option_map note_of o ≡ option_map noted v
    → ((u : Use) → o ≡ Some u → here ≡ (eqb u.page.space space && in_range first len u.page.page))
    → option_map note_of (pinned space first len wired o) ≡ option_map noted (cond here (with_wired wired v) v)
pinned_alike space first len wired here None None same at = by_here here
  where
    by_here : (b : Bool) → None ≡ option_map noted (cond b (with_wired wired None) None)
    by_here true = refl
    by_here false = refl
pinned_alike space first len wired here None (Some v) same at = absurd (none-some _ same)
pinned_alike space first len wired here (Some u) None same at = absurd (none-some _ (sym same))
pinned_alike space first len wired here (Some u) (Some v) same at =
    by_test (eqb u.page.space space && in_range first len u.page.page) ∙ ap (λ b. option_map noted (cond b (with_wired wired (Some v)) (Some v)))
    (sym (at u refl))
  where
    by_test : (b : Bool) → Some (note_of (cond b (record u { wired = wired }) u)) ≡ option_map noted (cond b (with_wired wired (Some v)) (Some v))
    by_test true = ap (λ (n : Note). Some (record { wired = wired; claim = n.claim })) (same_Some _ _ same)
    by_test false = same

-- a pinned use is of the same page
pinned_before : (space first len : ℕ) (wired : Bool) (o : Option Use) (u : Use) → pinned space first len wired o ≡ Some u
    → (v : Use) × (o ≡ Some v) × (v.page ≡ u.page)
pinned_before space first len wired None u is = absurd (none-some u is)
pinned_before space first len wired (Some v) u is =
    (v, refl, by_test (eqb v.page.space space && in_range first len v.page.page) (same_Some _ u is))
  where
    by_test : (b : Bool) → cond b (record v { wired = wired }) v ≡ u → v.page ≡ u.page
    by_test true same = ap (λ (w : Use). w.page) same
    by_test false same = ap (λ (w : Use). w.page) same

-- Moves.

module _ (st : FrameState) (uses : List (Option Use)) (held : List (Option ℕ)) (places : List (BTreeMap ℕ ℕ))
    (right : AreRight st uses held places) where
  -- an entry is counted
  pub AreRight-counted : AreRight (counted st) uses held places
  AreRight-counted =
      record { notes = right.notes; pages = right.pages; places_are = right.places_are; hands = right.hands; room = right.room }

  -- a frame is claimed, or no more
  pub AreRight-claimed : (frame : ℕ) (claim : Option ℕ) → AreRight (claimed st frame claim)
      (set uses frame (reclaimed claim (use_in uses frame))) held places
  AreRight-claimed frame claim = record {
    notes = notes-set uses st.used right.notes frame (reclaimed claim (use_in uses frame)) (with_claim claim (used_at st frame))
        (reclaimed_alike claim (use_in uses frame) (used_at st frame) (note_at uses st.used right.notes frame));
    pages = λ f u is.
        ap (λ l. frame_in l u.page.space u.page.page) (layout_of-claimed st frame claim)
        ∙ elim (set_cases uses frame f (reclaimed claim (use_in uses frame)) u is) [
          | inl here ↦
              let before = claimed_before claim (use_in uses frame) u here.1 in
              ap (λ (q : PageOf). frame_of st q.space q.page) (sym before.2) ∙ right.pages frame before.0 before.1 ∙ ap Some (sym here.0)
          | inr there ↦ right.pages f u there.1
        ];
    places_are = λ s p. right.places_are s p ∙ sym (ap (λ l. frame_in l s p) (layout_of-claimed st frame claim));
    hands = right.hands;
    room = right.room;
  }

  -- the places of a range are wired, or are no longer
  pub AreRight-pinned : IsLaid (layout_of st) → (space first len : ℕ) (wired : Bool) (new : List (Option Use)) → length new ≡ length uses
      → ((f : ℕ) → use_in new f ≡ pinned space first len wired (use_in uses f))
      → AreRight (pin_range st space first len wired) new held places
  AreRight-pinned laid space first len wired new long each =
      let after = pin_range st space first len wired in
      let alike : (f : ℕ) → option_map note_of (use_in new f) ≡ option_map noted (used_at after f) = λ f.
      ap (option_map note_of) (each f)
      ∙ pinned_alike space first len wired (is_pinned st space first len f) (use_in uses f) (used_at st f) (note_at uses st.used right.notes f)
      (λ u is. is_pinned-place st space first len laid u.page.space u.page.page f (right.pages f u is))
      ∙ sym (ap (option_map noted) (used_at-pinned st space first len wired f)) in
      let same_long : length after.used ≡ length st.used =
      sym (length-map after.used is_some) ∙ ap length (same-places st space wired (range_with_len first len) st.used)
      ∙ length-map st.used is_some in
      let longs : length (map (option_map note_of) new) ≡ length (map (option_map noted) after.used) =
      length-map new (option_map note_of) ∙ long ∙ sym (length-map uses (option_map note_of)) ∙ ap length right.notes
      ∙ length-map st.used (option_map noted) ∙ sym same_long ∙ sym (length-map after.used (option_map noted)) in
      record {
        notes = same_lists _ _ longs (λ k d below.
            get_or_default (map (option_map note_of) new) k d None below
            ∙ get_or-map (option_map note_of) new k None ∙ alike k ∙ sym (get_or-map (option_map noted) after.used k None)
            ∙ get_or_default (map (option_map noted) after.used) k None d (subst (λ n. k < n) longs below));
        pages = λ f u is.
            let before = pinned_before space first len wired (use_in uses f) u (sym (each f) ∙ is) in
            frame_of-pinned st space first len wired u.page.space u.page.page
            ∙ ap (λ (q : PageOf). frame_of st q.space q.page) (sym before.2) ∙ right.pages f before.0 before.1;
        places_are = λ s p. right.places_are s p ∙ sym (frame_of-pinned st space first len wired s p);
        hands = right.hands;
        room = right.room;
      }

  -- a processor lets its frame go
  pub AreRight-dropped : (c : ℕ) → AreRight (dropped st c) uses (set held c None) places
  AreRight-dropped c = elim (held_by st c) as (λ o. held_by st c ≡ o → AreRight (dropped_in st c o) uses (set held c None) places) [
    | None ↦ λ none. record {
      notes = right.notes;
      pages = right.pages;
      places_are = right.places_are;
      hands = λ d. elim (cases_eq d c) [
        | inl same ↦ get_or-set_default held c d None same ∙ sym none ∙ ap (held_by st) (sym same)
        | inr other ↦ get_or-set_other held c d None None other ∙ right.hands d
      ];
      room = let long = length-set held c None in omega (arith, right.room, long);
    }
    | Some frame ↦ λ holds. record {
      notes = right.notes;
      pages = right.pages;
      places_are = right.places_are;
      hands = λ d. elim (cases_eq d c) [
        | inl same ↦ get_or-set_default held c d None same ∙ sym (get_or-set_default st.held c d None same)
        | inr other ↦ get_or-set_other held c d None None other ∙ right.hands d ∙ sym (get_or-set_other st.held c d None None other)
      ];
      room = let long = length-set held c None in let also = length-set st.held c None in omega (arith, right.room, long, also);
    }
  ] refl

  -- a page is placed
  taken_right : (space page : ℕ) (want : Want) (place : Placing) (after : List (BTreeMap ℕ ℕ)) → frame_of st space page ≡ None
      → WasPlaced (layout_of st) place.layout space page place.frame
      → ((s p : ℕ) → place_in after s p ≡ cond (eqb space s && eqb p page) (Some place.frame) (place_in places s p))
      → AreRight (taken st want place) (set uses place.frame (Some (use_for (record { space = space; page = page }) want))) held after
  taken_right space page want place after none was placed =
      let pages : (s p : ℕ) → frame_of (taken st want place) s p ≡ cond (eqb space s && eqb p page) (Some place.frame) (frame_of st s p) =
      λ s p. ap (λ l. frame_in l s p) (layout_of-taken st space page want place was) ∙ was.pages s p in
      let value : Use = use_for (record { space = space; page = page }) want in
      record {
        notes = notes-set uses st.used right.notes place.frame (Some value)
            (Some (record { age = st.entries; wired = want.wired; claim = None })) refl;
        pages = λ f u is. elim (set_cases uses place.frame f (Some value) u is) [
          | inl here ↦
              subst (λ (x : Use). frame_of (taken st want place) x.page.space x.page.page ≡ Some f) (same_Some value u here.1)
              (pages space page ∙ cond-true _ _ _ (and_from _ _ (eq-eqb space space refl) (eq-eqb page page refl)) ∙ ap Some (sym here.0))
          | inr there ↦
              let at = right.pages f u there.1 in
              let apart : (eqb space u.page.space && eqb u.page.page page) ≡ false =
              elim (cases_Bool (eqb space u.page.space && eqb u.page.page page)) [
                | inl same ↦
                    let parts = and_parts _ _ same in
                    let here : frame_of st u.page.space u.page.page ≡ None =
                    subst (λ q. frame_of st u.page.space q ≡ None) (sym (eqb-true u.page.page page parts.1))
                    (subst (λ t. frame_of st t page ≡ None) (eqb-true space u.page.space parts.0) none) in
                    absurd (none-some f (sym here ∙ at))
                | inr apart ↦ apart
              ] in
              pages u.page.space u.page.page ∙ cond-false _ _ _ apart ∙ at
        ];
        places_are = λ s p. placed s p ∙ ap (cond (eqb space s && eqb p page) (Some place.frame)) (right.places_are s p) ∙ sym (pages s p);
        hands = right.hands;
        room = right.room;
      }

  module _ (frames processors : ℕ) (sound : IsSound frames processors st) where
    -- a page takes a frame
    pub AreRight-take : (space page frame : ℕ) (want : Want) (after : List (BTreeMap ℕ ℕ)) → frame_of st space page ≡ None
        → ((s p : ℕ) → place_in after s p ≡ cond (eqb space s && eqb p page) (Some frame) (place_in places s p))
        → IsSomeAnd (take_frame st space page want) (λ t. t.frame ≡ frame)
        → AreRight (state_taken st (take_frame st space page want)) (set uses frame
        (Some (use_for (record { space = space; page = page }) want))) held after
    AreRight-take space page frame want after none placed takes =
        elim (take_frame st space page want) as (λ o. take_frame st space page want ≡ o → IsSomeAnd o (λ t. t.frame ≡ frame)
        → AreRight (state_taken st o) (set uses frame (Some (use_for (record { space = space; page = page }) want))) held after) [
          | None ↦ λ _ no. absurd no
          | Some t ↦ λ is same.
              let found = taking_from st want (placing st.entries space page want (layout_of st)) t is in
              let was = WasPlaced-placing (layout_of st) st.entries space page want found.0 sound.laid none found.1 in
              subst (λ (u : Taking). u.frame ≡ frame → AreRight u.state
              (set uses frame (Some (use_for (record { space = space; page = page }) want))) held after) found.2
              (λ at. subst (λ f. ((s p : ℕ) → place_in after s p ≡ cond (eqb space s && eqb p page) (Some f) (place_in places s p))
              → AreRight (taken st want found.0) (set uses f (Some (use_for (record { space = space; page = page }) want))) held after) at
              (taken_right space page want found.0 after none was) placed)
              same
        ] refl takes

    hands_given : (o : Option ℕ) (frame : ℕ) → claim_in (used_at st frame) ≡ o → (c : ℕ)
        → get_or (held_given o frame held) c None ≡ get_or (held_given o frame st.held) c None
    hands_given None frame is c = right.hands c
    hands_given (Some d) frame is c =
        let known = (sound.claims_known frame d is).0 in
        elim (cases_eq c d) [
          | inl same ↦
              get_or-set_at held d c (Some frame) None same (omega (arith, known, right.room, sound.processors_known))
              ∙ sym (get_or-set_at st.held d c (Some frame) None same (omega (arith, known, sound.processors_known)))
          | inr other ↦ get_or-set_other held d c (Some frame) None other ∙ right.hands c
              ∙ sym (get_or-set_other st.held d c (Some frame) None other)
        ]

    given_right : (space page frame : ℕ) (after : List (BTreeMap ℕ ℕ)) → frame_of st space page ≡ Some frame
        → ((s p : ℕ) → place_in after s p ≡ cond (eqb space s && eqb p page) None (place_in places s p))
        → AreRight (give_page st space page) (set uses frame None) (held_given (claim_of (use_in uses frame)) frame held) after
    given_right space page frame after is placed =
        let gives = GivesPage-give_page st space page frame sound.laid is in
        let claim = claims_alike (use_in uses frame) (used_at st frame) (note_at uses st.used right.notes frame) in
        let long = length-held_given (claim_of (use_in uses frame)) frame held in
        let also = ap length gives.held ∙ length-held_given (claim_in (used_at st frame)) frame st.held in
        record {
          notes = notes-set uses st.used right.notes frame None None refl ∙ ap (map (option_map noted)) (sym gives.used);
          pages = λ f u at. let before = unset_before uses frame f None (Some u) (none-some u) at in
              (gives.pages u.page.space u.page.page f).1 (before.0, right.pages f u before.1);
          places_are = λ s p. placed s p ∙ ap (cond (eqb space s && eqb p page) None) (right.places_are s p)
              ∙ sym (frame_of-give_page st space page frame sound.laid is s p);
          hands = λ c.
              ap (λ o. get_or (held_given o frame held) c None) claim ∙ hands_given (claim_in (used_at st frame)) frame refl c
              ∙ sym (ap (λ h. get_or h c None) gives.held);
          room = omega (arith, right.room, long, also);
        }

    -- a page gives its frame up
    pub AreRight-given : (space page frame : ℕ) (after : List (BTreeMap ℕ ℕ)) → place_in places space page ≡ Some frame
        → ((s p : ℕ) → place_in after s p ≡ cond (eqb space s && eqb p page) None (place_in places s p))
        → AreRight (give_if_used space st page) (set uses frame None) (held_given (claim_of (use_in uses frame)) frame held) after
    AreRight-given space page frame after at placed =
        let is : frame_of st space page ≡ Some frame = sym (right.places_are space page) ∙ at in
        subst (λ s. AreRight s (set uses frame None) (held_given (claim_of (use_in uses frame)) frame held) after)
        (sym (give_if_used-some st space page frame is))
        (given_right space page frame after is placed)

    -- and one that has none does nothing
    pub AreRight-not_given : (space page : ℕ) (after : List (BTreeMap ℕ ℕ)) → place_in places space page ≡ None
        → ((s p : ℕ) → place_in after s p ≡ cond (eqb space s && eqb p page) None (place_in places s p))
        → AreRight (give_if_used space st page) uses held after
    AreRight-not_given space page after at placed =
        subst (λ s. AreRight s uses held after) (sym (give_if_used-none st space page (sym (right.places_are space page) ∙ at)))
        (record {
          notes = right.notes;
          pages = right.pages;
          places_are = λ s p. placed s p ∙ elim (cases_Bool (eqb space s && eqb p page)) [
            | inl here ↦
                let parts = and_parts _ _ here in
                let none : place_in places s p ≡ None =
                subst (λ q. place_in places s q ≡ None) (sym (eqb-true p page parts.1))
                (subst (λ t. place_in places t page ≡ None) (eqb-true space s parts.0) at) in
                cond-true _ _ _ here ∙ sym none ∙ right.places_are s p
            | inr other ↦ cond-false _ _ _ other ∙ right.places_are s p
          ];
          hands = right.hands;
          room = right.room;
        })

-- The start.

notes-none : (n : ℕ) → map (option_map note_of) (replicate n None) ≡ map (option_map noted) (replicate n None)
notes-none zero = refl
notes-none (suc n) = ap (λ ns. None ∷ ns) (notes-none n)

pub AreRight-start : (z : SizeSet) (frames processors hands : ℕ) (places : List (BTreeMap ℕ ℕ)) → processors ≤ hands
    → ((s p : ℕ) → place_in places s p ≡ None)
    → AreRight (start_frames z frames processors) (replicate frames None) (replicate hands None) places
AreRight-start z frames processors hands places few none = record {
  notes = notes-none frames;
  pages = λ f u is. absurd (none-some u (sym (get_or-alike frames f None) ∙ is));
  places_are = λ s p. none s p ∙ sym (frame_of-start z frames processors s p);
  hands = λ c. get_or-alike hands c None ∙ sym (get_or-alike processors c None);
  room =
      let one : length (replicate {A = Option ℕ} processors None) ≡ processors = length-replicate processors None in
      let two : length (replicate {A = Option ℕ} hands None) ≡ hands = length-replicate hands None in
      omega (arith, few, one, two);
}

-- Answers and ranges.

-- an answer that the frames allow is of an evict
pub answer-some : (st : FrameState) (space : ℕ) (call : Call) (page : ℕ) → Some page ≡ evicted call → AllowsAnswer st space call
    → give_if_used space st page ≡ moved_by_answer st space call
answer-some st space (Evict s p) page is allowed =
    ap (give_if_used space st) (same_Some page p is) ∙ give_if_used-some st space p allowed.0 allowed.1
answer-some st space (Map s p len kind rights) page is allowed = absurd allowed
answer-some st space (Grow s p by) page is allowed = absurd allowed
answer-some st space (Unmap s p) page is allowed = absurd allowed
answer-some st space (Protect s p len rights) page is allowed = absurd allowed
answer-some st space (Load s address) page is allowed = absurd allowed
answer-some st space (Store s address word) page is allowed = absurd allowed
answer-some st space (Sync s p) page is allowed = absurd allowed
answer-some st space (Discard s p len) page is allowed = absurd allowed
answer-some st space (Wire s p) page is allowed = absurd allowed
answer-some st space (Unwire s p) page is allowed = absurd allowed

pub answer-none : (st : FrameState) (space : ℕ) (call : Call) → None ≡ evicted call → AllowsAnswer st space call → ⊥
answer-none st space (Evict s p) is allowed = none-some p is
answer-none st space (Map s p len kind rights) is allowed = allowed
answer-none st space (Grow s p by) is allowed = allowed
answer-none st space (Unmap s p) is allowed = allowed
answer-none st space (Protect s p len rights) is allowed = allowed
answer-none st space (Load s address) is allowed = allowed
answer-none st space (Store s address word) is allowed = allowed
answer-none st space (Sync s p) is allowed = allowed
answer-none st space (Discard s p len) is allowed = allowed
answer-none st space (Wire s p) is allowed = allowed
answer-none st space (Unwire s p) is allowed = allowed

none_either : (b : Bool) (o : Option ℕ) → o ≡ None → cond b None o ≡ None
none_either true o none = refl
none_either false o none = none

-- the lowest page of a range with a frame may give it up first
pub lowest-gives : (st : FrameState) (places : List (BTreeMap ℕ ℕ)) (space first len page : ℕ) → IsLaid (layout_of st)
    → ((s p : ℕ) → place_in places s p ≡ frame_of st s p)
    → in_range first len page ≡ true → IsSome (place_in places space page)
    → ((p : ℕ) → p < page → in_range first len p ≡ true → place_in places space p ≡ None)
    → give_range (give_if_used space st page) space first len ≡ give_range st space first len
lowest-gives st places space first len page laid places_are within some lowest =
    let found = some_from_is_some (place_in places space page) some in
    let is : frame_of st space page ≡ Some found.0 = sym (places_are space page) ∙ found.1 in
    let bounds = in_bounds first len page within in
    let none : (p : ℕ) → first ≤ p → p < page → frame_of st space p ≡ None = λ p low below.
    sym (places_are space p) ∙ lowest p below (bounds_in first len p low (omega (arith, below, bounds.1))) in
    ap (λ s. give_range s space first len) (give_if_used-some st space page found.0 is)
    ∙ give_range-lowest space st first len page bounds.0 bounds.1 none (ap is_some is) (λ p low upto.
    frame_of-give_page st space page found.0 laid is space p ∙ elim (cases_eq p page) [
      | inl same ↦ cond-true _ _ _ (and_from _ _ (eq-eqb space space refl) (eq-eqb p page same))
      | inr other ↦ none_either (eqb space space && eqb p page) (frame_of st space p) (none p low (omega (arith, upto, other)))
    ])
