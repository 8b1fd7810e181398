-- The frames in hand, as pages take them and give them up.
use Rattle.std.proofs.Common.{◌≡◌, ◌≢◌, ◌<◌, ℕ, Bool, true, cond, List, length, get_or, replicate, set, is_some, Option, Some, None, option_map, inl, inr, refl, sym, ap, subst, ◌∙◌, arith, get_or-set_same, get_or-set_other}
use Rattle.std.proofs.lemmas.Bool.{cases_eq, cases_lt}
use Rattle.std.proofs.lemmas.List.{get_or_default, get_or_past, get_or-replicate, length-set, length-map, length-replicate}
use Rattle.pager_model.specs.declared.entry.Want.{Want}
use Rattle.pager_model.specs.declared.reservation.Used.{Used}
use Rattle.pager_model.specs.Frame.{Framed}
use Rattle.pager_model.specs.FrameStates.{FrameState, Taking, claimed, counted, with_claim, dropped, dropped_in, frame_of, give_page, held_by, layout_of, pin_range, start_frames, take_frame, taking, used_at}
use Rattle.pager_model.specs.Layouts.{Layout, Placing, placing}
use Rattle.pager_model.specs.Records.{is_used}
use Rattle.pager_model.specs.SizeSets.{SizeSet}
use Rattle.pager_laws.proofs.PageMoves.{GivesPage-give_page}
use Rattle.pager_laws.proofs.PagePlaces.{frame_in-found}
use Rattle.pager_laws.proofs.PinnedPlaces.{layout_of-pinned}
use Rattle.pager_laws.proofs.StateSoundness.{IsSound-dropped, IsSound-give_page, IsSound-take, Takes-take_frame, frame_of-dropped, is_used-layout_of, noted_if_used, taking_from}
use Rattle.followed_frames.specs.Ready.{AreInHand, IsReached, number_in}

-- of each frame something may be noted
used_known : (st : FrameState) → IsReached st → length st.used ≡ length st.free
used_known st reached = sym (length-map st.used is_some) ∙ reached.sound.laid.used_long

-- a frame comes into the hands with its note
hands_set : (hands : List (Option Framed)) (st after : FrameState) (at : ℕ) (frame : Framed) (u : Used) → IsReached st → AreInHand hands st
    → frame.number ≡ at → at < length st.free → length after.free ≡ length st.free → after.used ≡ set st.used at (Some u)
    → AreInHand (set hands at (Some frame)) after
hands_set hands st after at frame u reached in_hand number known same used = record {
  known = length-set hands at (Some frame) ∙ in_hand.known ∙ sym same;
  here = λ f within. elim (cases_eq f at) [
    | inl is ↦
        let there : get_or (set hands at (Some frame)) f None ≡ Some frame =
        rw is (let low : at < length hands = omega (arith, known, in_hand.known) in get_or-set_same hands at (Some frame) None low) in
        let noted : used_at after f ≡ Some u =
        rw (is, used) (let low : at < length st.used = omega (arith, known, used_known st reached) in get_or-set_same st.used at (Some u) None low) in
        ap number_in there ∙ ap Some (number ∙ sym is) ∙ sym (ap (λ o. cond (is_some o) (Some f) None) noted)
    | inr other ↦
        let there : get_or (set hands at (Some frame)) f None ≡ get_or hands f None = get_or-set_other hands at f (Some frame) None other in
        let noted : used_at after f ≡ used_at st f = rw used (get_or-set_other st.used at f (Some u) None other) in
        ap number_in there ∙ in_hand.here f (omega (arith, within, length-set hands at (Some frame)))
        ∙ sym (ap (λ o. cond (is_some o) (Some f) None) noted)
  ];
}

-- and goes with it
hands_unset : (hands : List (Option Framed)) (st after : FrameState) (at : ℕ) → IsReached st → AreInHand hands st
    → at < length st.free → length after.free ≡ length st.free → after.used ≡ set st.used at None
    → AreInHand (set hands at None) after
hands_unset hands st after at reached in_hand known same used = record {
  known = length-set hands at None ∙ in_hand.known ∙ sym same;
  here = λ f within. elim (cases_eq f at) [
    | inl is ↦
        let there : get_or (set hands at None) f None ≡ None =
        rw is (let low : at < length hands = omega (arith, known, in_hand.known) in get_or-set_same hands at None None low) in
        let noted : used_at after f ≡ None =
        rw (is, used) (let low : at < length st.used = omega (arith, known, used_known st reached) in get_or-set_same st.used at None None low) in
        ap number_in there ∙ sym (ap (λ o. cond (is_some o) (Some f) None) noted)
    | inr other ↦
        let there : get_or (set hands at None) f None ≡ get_or hands f None = get_or-set_other hands at f None None other in
        let noted : used_at after f ≡ used_at st f = rw used (get_or-set_other st.used at f None None other) in
        ap number_in there ∙ in_hand.here f (omega (arith, within, length-set hands at None))
        ∙ sym (ap (λ o. cond (is_some o) (Some f) None) noted)
  ];
}

-- what a taking notes
taken_note : (st : FrameState) (want : Want) (o : Option Placing) (t : Taking) → option_map (taking st want) o ≡ Some t
    → (u : Used) × (t.state.used ≡ set st.used t.frame (Some u))
taken_note st want o t takes =
    let found = taking_from st want o t takes in (
      record { age = st.entries; wired = want.wired; claim = None },
      subst (λ (s : Taking). s.state.used ≡ set st.used s.frame (Some (record { age = st.entries; wired = want.wired; claim = None }))) found.2 refl,
    )

pub counted_hands : (hands : List (Option Framed)) (st : FrameState) → AreInHand hands st → AreInHand hands (counted st)
counted_hands hands st in_hand = record { known = in_hand.known; here = in_hand.here }

-- A taking puts its frame into the hands.
pub hands_taken : (hands : List (Option Framed)) (st : FrameState) (space page : ℕ) (want : Want) (t : Taking) (frame : Framed) → IsReached st
    → AreInHand hands st → frame_of st space page ≡ None → take_frame st space page want ≡ Some t → frame.number ≡ t.frame
    → (t.frame < length hands) × AreInHand (set hands t.frame (Some frame)) (counted t.state)
hands_taken hands st space page want t frame reached in_hand none takes number =
    let placed = Takes-take_frame reached.frames reached.processors st space page want t reached.sound none takes in
    let known : t.frame < length st.free = omega (arith, placed.places.known, reached.sound.known) in
    let after = IsSound-take reached.frames reached.processors st space page want t reached.sound none takes in
    let note = taken_note st want (placing st.entries space page want (layout_of st)) t takes in (
      omega (arith, known, in_hand.known),
      counted_hands (set hands t.frame (Some frame)) t.state
          (hands_set hands st t.state t.frame frame note.0 reached in_hand number known (after.known ∙ sym reached.sound.known) note.1),
    )

dropped_used : (st : FrameState) (c : ℕ) (o : Option ℕ) → (dropped_in st c o).used ≡ st.used
dropped_used st c None = refl
dropped_used st c (Some frame) = refl

pub reached_dropped : (st : FrameState) (c : ℕ) → IsReached st → IsReached (dropped st c)
reached_dropped st c reached = record {
  frames = reached.frames;
  processors = reached.processors;
  sound = IsSound-dropped reached.frames reached.processors st c reached.sound;
}

pub unplaced_dropped : (st : FrameState) (c space page : ℕ) → IsReached st → frame_of st space page ≡ None → frame_of (dropped st c) space page ≡ None
unplaced_dropped st c space page reached none = frame_of-dropped reached.frames reached.processors st c space page reached.sound ∙ none

pub in_hand_dropped : (hands : List (Option Framed)) (st : FrameState) (c : ℕ) → IsReached st → AreInHand hands st → AreInHand hands (dropped st c)
in_hand_dropped hands st c reached in_hand =
    let after = IsSound-dropped reached.frames reached.processors st c reached.sound in
    let used : (dropped st c).used ≡ st.used = dropped_used st c (held_by st c) in record {
      known = in_hand.known ∙ reached.sound.known ∙ sym after.known;
      here = λ f within. in_hand.here f within ∙ ap (λ us. cond (is_some (get_or us f None)) (Some f) None) (sym used);
    }

-- a frame of a page is in hand
pub hands_have : (hands : List (Option Framed)) (st : FrameState) (space page frame : ℕ) → IsReached st → AreInHand hands st
    → frame_of st space page ≡ Some frame → (frame < length hands) × (number_in (get_or hands frame None) ≡ Some frame)
hands_have hands st space page frame reached in_hand is =
    let place = frame_in-found (layout_of st) space page frame is in
    let noted : used_at st frame ≢ None = noted_if_used st frame place.used in
    let low : frame < length st.used = elim (cases_lt frame (length st.used)) [
      | inl within ↦ within
      | inr past ↦ absurd (noted (get_or_past st.used frame None past))
    ] in
    let within : frame < length hands = omega (arith, low, used_known st reached, in_hand.known) in
    (within, in_hand.here frame within ∙ at (used_at st frame) noted)
  where
    at : (o : Option Used) → o ≢ None → cond (is_some o) (Some frame) None ≡ Some frame
    at None none = absurd (none refl)
    at (Some u) none = refl

pub hands_given : (hands : List (Option Framed)) (st : FrameState) (space page frame : ℕ) → IsReached st → AreInHand hands st
    → frame_of st space page ≡ Some frame → AreInHand (set hands frame None) (give_page st space page)
hands_given hands st space page frame reached in_hand is =
    let gives = GivesPage-give_page st space page frame reached.sound.laid is in
    let after = IsSound-give_page reached.frames reached.processors st space page frame reached.sound is in
    hands_unset hands st (give_page st space page) frame reached in_hand
    (omega (arith, (hands_have hands st space page frame reached in_hand is).0, in_hand.known))
    (after.known ∙ sym reached.sound.known) gives.used

-- what is read there is the page's frame
pub read_hand : (hands : List (Option Framed)) (st : FrameState) (space page frame : ℕ) (read : Option Framed) → IsReached st → AreInHand hands st
    → frame_of st space page ≡ Some frame → read ≡ get_or hands frame read → number_in read ≡ Some frame
read_hand hands st space page frame read reached in_hand is at =
    let have = hands_have hands st space page frame reached in_hand is in
    ap number_in (at ∙ get_or_default hands frame read None have.0) ∙ have.1

-- a claim changes no hand
noted_claim : (o : Option Used) (claim : Option ℕ) → is_some (with_claim claim o) ≡ is_some o
noted_claim None claim = refl
noted_claim (Some u) claim = refl

pub in_hand_claimed : (hands : List (Option Framed)) (st : FrameState) (frame : ℕ) (claim : Option ℕ) → AreInHand hands st
    → AreInHand hands (claimed st frame claim)
in_hand_claimed hands st frame claim in_hand = record {
  known = in_hand.known;
  here = λ f within.
      let same : is_some (used_at (claimed st frame claim) f) ≡ is_some (used_at st f) = at f (used_at (claimed st frame claim) f) refl in
      in_hand.here f within ∙ ap (λ b. cond b (Some f) None) (sym same);
}
  where
    at : (f : ℕ) (o : Option Used) → used_at (claimed st frame claim) f ≡ o → is_some (used_at (claimed st frame claim) f) ≡ is_some (used_at st f)
    at f o is = elim (cases_eq f frame) [
      | inl same ↦ elim (cases_lt frame (length st.used)) [
        | inl within ↦
            let here : used_at (claimed st frame claim) f ≡ with_claim claim (used_at st frame) =
            rw same (get_or-set_same st.used frame (with_claim claim (used_at st frame)) None within) in
            ap is_some here ∙ noted_claim (used_at st frame) claim ∙ ap (λ n. is_some (used_at st n)) (sym same)
        | inr past ↦
            let now : used_at (claimed st frame claim) f ≡ None =
            get_or_past (set st.used frame (with_claim claim (used_at st frame))) f None (omega (arith, past, same, length-set st.used frame (with_claim claim (used_at st frame)))) in
            let was : used_at st f ≡ None = get_or_past st.used f None (omega (arith, past, same)) in
            ap is_some now ∙ sym (ap is_some was)
      ]
      | inr other ↦ ap is_some (get_or-set_other st.used frame f (with_claim claim (used_at st frame)) None other)
    ]

-- nor does a pin
pub in_hand_pinned : (hands : List (Option Framed)) (st : FrameState) (space first len : ℕ) (wired : Bool) → AreInHand hands st
    → AreInHand hands (pin_range st space first len wired)
in_hand_pinned hands st space first len wired in_hand = record {
  known = in_hand.known;
  here = λ f within.
      let same : is_some (used_at (pin_range st space first len wired) f) ≡ is_some (used_at st f) =
      sym (is_used-layout_of (pin_range st space first len wired) f)
      ∙ ap (λ (l : Layout). is_used l.used f) (layout_of-pinned st space first len wired) ∙ is_used-layout_of st f in
      in_hand.here f within ∙ ap (λ b. cond b (Some f) None) (sym same);
}

-- at first none is in hand
pub in_hand_start : (z : SizeSet) (frames processors : ℕ) → AreInHand (replicate frames None) (start_frames z frames processors)
in_hand_start z frames processors = record {
  known = length-replicate {A = Option Framed} frames None ∙ sym (length-replicate frames true);
  here = λ f within.
      let low : f < frames = omega (arith, within, length-replicate {A = Option Framed} frames None) in
      let noted : used_at (start_frames z frames processors) f ≡ None = get_or-replicate frames f None None low in
      ap number_in (get_or-replicate frames f None None low) ∙ sym (ap (λ o. cond (is_some o) (Some f) None) noted);
}
