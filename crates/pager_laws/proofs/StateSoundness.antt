-- What every entry that the frames allow keeps of their state.
use Rattle.std.proofs.Common.{◌≡◌, ◌≢◌, ◌⊎◌, inl, inr, ℕ, ◌<◌, Bool, true, false, not, cond, List, [], ◌∷◌, get_or, set, map, fold, is_some, Option, Some, None, IsSomeAnd, option_map, refl, sym, ap, subst, ◌∙◌, arith}
use Rattle.std.proofs.lemmas.Bool.{cases_eq, false≢true, and_parts}
use Rattle.std.specs.Option.{is_none}
use Rattle.std.proofs.lemmas.List.{get_or-set_same, get_or-set_other, length-set, map-set}
use Rattle.std.proofs.Math.ListN.{get_or-map}
use Rattle.std.proofs.Math.Seq.{map-set_same}
use Rattle.std.specs.List.{range_with_len}
use Rattle.std.proofs.lemmas.Option.{none-some, same_Some}
use Rattle.pager_model.specs.declared.call.Call.{Call}
use Rattle.pager_model.specs.declared.call.Call.TheVariants.{Map, Grow, Unmap, Protect, Load, Store, Sync, Evict, Discard, Wire, Unwire}
use Rattle.pager_model.specs.declared.entry.Want.{Want}
use Rattle.pager_model.specs.declared.entry.What.{What}
use Rattle.pager_model.specs.declared.entry.What.TheVariants.{Answer, Out, Failed, Take, Give, Clear, Claim, UseHeld, DropHeld, Got, Unclaim, Refused, Pin, Kept, Rest}
use Rattle.pager_model.specs.declared.reservation.Reservation.{Reservation}
use Rattle.pager_model.specs.declared.reservation.Used.{Used}
use Rattle.pager_model.specs.Agreement.{has_frame}
use Rattle.pager_model.specs.FrameStates.{FrameState, Taking, layout_of, used_at, held_by, claim_in, frame_of, HasNothing, taken, taking, take_frame, state_taken, layout_given, held_given, given, given_in, give_page, give_if_used, with_claim, claimed, pin_range, lowest_claimed, is_evictable, is_wired_place, dropped, dropped_in, counted, named_space, moved, moved_by_answer, AllowsAnswer, FramesAllow}
use Rattle.pager_model.specs.Layouts.{Layout, Placing, placing, frame_for, record_at}
use Rattle.pager_model.specs.Records.{is_used}
use Rattle.pager_model.proofs.Lists.{get_or-set_default, set_cases, unset_before}
use Rattle.pager_model.proofs.RecordFrames.{has_frame_bounds}
use Rattle.pager_laws.specs.Laid.{IsLaid, IsSound, IsIn}
use Rattle.pager_laws.proofs.PinnedPlaces.{layout_of-pinned, claim-pinned, age-pinned, unwired-pinned}
use Rattle.pager_laws.proofs.PagePlaces.{has_frame_for, frame_in-found, covering-is}
use Rattle.pager_laws.proofs.LayoutPlacing.{WasPlaced, WasPlaced-placing}
use Rattle.pager_laws.proofs.LayoutRelease.{Gives, Gives-vacate, Gives-carve, PutsBack-put_back}

-- What is noted of the frames.

-- the layout tells the used places
pub is_used-layout_of : (st : FrameState) (f : ℕ) → is_used (layout_of st).used f ≡ is_some (used_at st f)
is_used-layout_of st f = get_or-map is_some st.used f None

-- a frame of which something is noted is a used place
pub used_if_noted : (st : FrameState) (f : ℕ) → used_at st f ≢ None → is_used (layout_of st).used f ≡ true
used_if_noted st f noted = is_used-layout_of st f ∙ is_noted (used_at st f) refl
  where
    is_noted : (o : Option Used) → used_at st f ≡ o → is_some o ≡ true
    is_noted None none = absurd (noted none)
    is_noted (Some u) is = refl

-- and of a used place something is noted
pub noted_if_used : (st : FrameState) (f : ℕ) → is_used (layout_of st).used f ≡ true → used_at st f ≢ None
noted_if_used st f used none = false≢true (sym (is_used-layout_of st f ∙ ap is_some none) ∙ used)

-- a layout with other used places is the same where these are the same
same_used : (l : Layout) (used : List Bool) → used ≡ l.used → record { sizes = l.sizes; free = l.free; records = l.records; used = used }
    ≡ l
same_used l used same = ap (λ u. record { sizes = l.sizes; free = l.free; records = l.records; used = u }) same

-- a claim is noted of a used place
pub claim_from : (o : Option Used) (c : ℕ) → claim_in o ≡ Some c → (u : Used) × (o ≡ Some u) × (u.claim ≡ Some c)
claim_from None c claims = absurd (none-some c claims)
claim_from (Some u) c claims = (u, refl, claims)

-- What stands in a list of options after one was written.

-- after None was written a value that stands somewhere stood there before, and None was written elsewhere
unset_cases : {A : Type 0} (xs : List (Option A)) (i j : ℕ) (x : A) → get_or (set xs i None) j None ≡ Some x
    → (j ≢ i) × (get_or xs j None ≡ Some x)
unset_cases xs i j x is = unset_before xs i j None (Some x) (none-some x) is

-- Taking.

-- what a taking does: the layout is that of the place, which is the page's in it
pub record Takes (before : FrameState) (space page : ℕ) (t : Taking) : Type 0 where
  pub place : Placing
  pub layout : layout_of t.state ≡ place.layout
  pub places : WasPlaced (layout_of before) place.layout space page t.frame
  pub entries : t.state.entries ≡ before.entries

-- a taking is one at a place that was found
pub taking_from : (st : FrameState) (want : Want) (o : Option Placing) (t : Taking) → option_map (taking st want) o ≡ Some t
    → (place : Placing) × (o ≡ Some place) × (taking st want place ≡ t)
taking_from st want None t takes = absurd (none-some t takes)
taking_from st want (Some place) t takes = (place, refl, same_Some (taking st want place) t takes)

-- the layout after a taking at a place is that of the place
pub layout_of-taken : (st : FrameState) (space page : ℕ) (want : Want) (place : Placing)
    → WasPlaced (layout_of st) place.layout space page place.frame → layout_of (taken st want place) ≡ place.layout
layout_of-taken st space page want place places =
    let note : Option Used = Some (record { age = st.entries; wired = want.wired; claim = None }) in
    same_used place.layout (map is_some (set st.used place.frame note)) (map-set is_some st.used place.frame note ∙ sym places.used)

pub Takes-take_frame : (frames processors : ℕ) (st : FrameState) (space page : ℕ) (want : Want) (t : Taking) → IsSound frames processors st
    → frame_of st space page ≡ None → take_frame st space page want ≡ Some t → Takes st space page t
Takes-take_frame frames processors st space page want t sound none takes =
    let found = taking_from st want (placing st.entries space page want (layout_of st)) t takes in
    let place = found.0 in
    let places = WasPlaced-placing (layout_of st) st.entries space page want place sound.laid none found.1 in
    subst (Takes st space page) found.2
    (record { place = place; layout = layout_of-taken st space page want place places; places = places; entries = refl })

-- each move keeps the state sound, with the entry counted

pub IsSound-counted : (frames processors : ℕ) (st : FrameState) → IsSound frames processors st → IsSound frames processors (counted st)
IsSound-counted frames processors st sound = record {
  known = sound.known;
  processors_known = sound.processors_known;
  laid = sound.laid;
  accounted = sound.accounted;
  held_apart = sound.held_apart;
  held_once = sound.held_once;
  ages_past = λ f u is. let below = sound.ages_past f u is in omega (arith, below);
  ages_differ = sound.ages_differ;
  claims_once = sound.claims_once;
  claims_known = sound.claims_known;
  claims_unwired = sound.claims_unwired;
}

-- a frame that was taken is claimed by nobody, and of those that are claimed the same is noted as before
still_noted : (st : FrameState) (want : Want) (place : Placing) (f c : ℕ) → claim_in (used_at (taken st want place) f) ≡ Some c
    → used_at (taken st want place) f ≡ used_at st f
still_noted st want place f c claims =
    let note : Used = record { age = st.entries; wired = want.wired; claim = None } in
    let noted = claim_from (used_at (taken st want place) f) c claims in
    elim (set_cases st.used place.frame f (Some note) noted.0 noted.1) [
      | inl here ↦ absurd (none-some c (ap (λ u. u.claim) (same_Some note noted.0 here.1) ∙ noted.2))
      | inr there ↦ noted.1 ∙ sym there.1
    ]

pub claim_taken : (st : FrameState) (want : Want) (place : Placing) (f c : ℕ) → claim_in (used_at (taken st want place) f) ≡ Some c
    → claim_in (used_at st f) ≡ Some c
claim_taken st want place f c claims = ap claim_in (sym (still_noted st want place f c claims)) ∙ claims

-- the state after a taking at a place
IsSound-taken : (frames processors : ℕ) (st : FrameState) (space page : ℕ) (want : Want) (place : Placing) → IsSound frames processors st
    → WasPlaced (layout_of st) place.layout space page place.frame → IsSound frames processors (counted (taken st want place))
IsSound-taken frames processors st space page want place sound places =
    let note : Used = record { age = st.entries; wired = want.wired; claim = None } in
    let age_of : (u : Used) → Some note ≡ Some u → st.entries ≡ u.age = λ u e. ap (λ v. v.age) (same_Some note u e) in
    record {
      known = places.long ∙ sound.known;
      processors_known = sound.processors_known;
      laid = subst IsLaid (sym (layout_of-taken st space page want place places)) places.laid;
      accounted = λ f known. elim (sound.accounted f known) [ inl within ↦ inl ((places.within f).1 within) | inr holds ↦ inr holds ];
      held_apart = λ c f holds. let apart = sound.held_apart c f holds in (apart.0, λ within. apart.1 ((places.within f).0 within));
      held_once = sound.held_once;
      ages_past = λ f u is. elim (set_cases st.used place.frame f (Some note) u is) [
        | inl here ↦ let age = age_of u here.1 in omega (arith, age)
        | inr there ↦ let below = sound.ages_past f u there.1 in omega (arith, below)
      ];
      ages_differ = λ f other u v is also same. elim (set_cases st.used place.frame f (Some note) u is) [
        | inl here ↦ elim (set_cases st.used place.frame other (Some note) v also) [
          | inl both ↦ here.0 ∙ sym both.0
          | inr older ↦ let age = age_of u here.1 in let below = sound.ages_past other v older.1 in absurd (omega (arith, age, below, same))
        ]
        | inr there ↦ elim (set_cases st.used place.frame other (Some note) v also) [
          | inl younger ↦ let age = age_of v younger.1 in let below = sound.ages_past f u there.1 in
              absurd (omega (arith, age, below, same))
          | inr both ↦ sound.ages_differ f other u v there.1 both.1 same
        ]
      ];
      claims_once = λ f other c one two. sound.claims_once f other c (claim_taken st want place f c one)
          (claim_taken st want place other c two);
      claims_known = λ f c claims. sound.claims_known f c (claim_taken st want place f c claims);
      claims_unwired = λ f c claims. ap is_wired_place (still_noted st want place f c claims)
          ∙ sound.claims_unwired f c (claim_taken st want place f c claims);
    }

pub IsSound-take : (frames processors : ℕ) (st : FrameState) (space page : ℕ) (want : Want) (t : Taking) → IsSound frames processors st
    → frame_of st space page ≡ None → take_frame st space page want ≡ Some t → IsSound frames processors (counted t.state)
IsSound-take frames processors st space page want t sound none takes =
    let found = taking_from st want (placing st.entries space page want (layout_of st)) t takes in
    let places = WasPlaced-placing (layout_of st) st.entries space page want found.0 sound.laid none found.1 in
    subst (λ u. IsSound frames processors (counted u.state)) found.2
    (IsSound-taken frames processors st space page want found.0 sound places)

-- Giving.

-- the state after a frame was given up that this processor, or nobody, claims
abbrev given_by : Option ℕ → FrameState → ℕ → Reservation → FrameState
given_by claim st frame r =
    record {
      sizes = (layout_given claim frame r (layout_of st)).sizes;
      free = (layout_given claim frame r (layout_of st)).free;
      records = (layout_given claim frame r (layout_of st)).records;
      used = set st.used frame None;
      held = held_given claim frame st.held;
      entries = st.entries;
      preemptions = st.preemptions;
    }

-- what was given up has no claim, and of the others that are claimed the same is noted as before
kept_noted : (st : FrameState) (frame f c : ℕ) → claim_in (get_or (set st.used frame None) f None) ≡ Some c
    → (f ≢ frame) × (get_or (set st.used frame None) f None ≡ used_at st f)
kept_noted st frame f c claims =
    let noted = claim_from (get_or (set st.used frame None) f None) c claims in
    let before = unset_cases st.used frame f noted.0 noted.1 in
    (before.0, noted.1 ∙ sym before.1)

pub claim_given : (st : FrameState) (frame f c : ℕ) → claim_in (get_or (set st.used frame None) f None) ≡ Some c
    → (f ≢ frame) × (claim_in (used_at st f) ≡ Some c)
claim_given st frame f c claims =
    let kept = kept_noted st frame f c claims in
    (kept.0, ap claim_in (sym kept.1) ∙ claims)

-- and so none of a wired place
unwired_given : (frames processors : ℕ) (st : FrameState) (frame f c : ℕ) → IsSound frames processors st
    → claim_in (get_or (set st.used frame None) f None) ≡ Some c → is_wired_place (get_or (set st.used frame None) f None) ≡ false
unwired_given frames processors st frame f c sound claims =
    ap is_wired_place (kept_noted st frame f c claims).1 ∙ sound.claims_unwired f c (claim_given st frame f c claims).1

-- the layout after a frame was given up is the one that the giving makes
pub layout_of-given : (l : Layout) (st : FrameState) (frame : ℕ) (in_after : ℕ → Type 0) → Gives (layout_of st) l frame in_after
    → record { sizes = l.sizes; free = l.free; records = l.records; used = map is_some (set st.used frame None) } ≡ l
layout_of-given l st frame in_after gives = same_used l (map is_some (set st.used frame None))
    (map-set is_some st.used frame None ∙ sym gives.used)

-- a used place of a reservation, with its note, in a state of the frames that is sound
pub record IsNotedPlace (frames processors : ℕ) (st : FrameState) (id frame : ℕ) (r : Reservation) : Type 0 where
  pub sound : IsSound frames processors st
  pub is : record_at (layout_of st) id ≡ Some r
  pub has : has_frame frame (Some r) ≡ true
  pub noted : used_at st frame ≢ None

module _ (frames processors : ℕ) (st : FrameState) (id frame : ℕ) (r : Reservation)
    (place : IsNotedPlace frames processors st id frame r) where
  -- the frame is in the layout
  frame_in_layout : IsIn (layout_of st) frame
  frame_in_layout = inr (id, ap (has_frame frame) place.is ∙ place.has)

  -- nobody holds it
  frame_not_held : (c : ℕ) → held_by st c ≡ Some frame → ⊥
  frame_not_held c holds = (place.sound.held_apart c frame holds).1 frame_in_layout

  frame_known : frame < frames
  frame_known =
      let bounds = has_frame_bounds frame r place.has in
      let placed = place.sound.laid.placed id r place.is in
      omega (arith, bounds.1, placed.within, place.sound.laid.records_long, place.sound.known)

  IsSound-vacated : IsSound frames processors (given_by None st frame r)
  IsSound-vacated =
      let gives = Gives-vacate (layout_of st) id frame r place.sound.laid place.is place.has (used_if_noted st frame place.noted) in
      record {
        known = gives.long ∙ place.sound.known;
        processors_known = place.sound.processors_known;
        laid = subst IsLaid (sym (layout_of-given _ st frame _ gives)) gives.laid;
        accounted = λ f known. elim (place.sound.accounted f known)
            [ inl within ↦ inl ((gives.within f).1 within) | inr holds ↦ inr holds ];
        held_apart = λ c f holds. let apart = place.sound.held_apart c f holds in (apart.0, λ within. apart.1 ((gives.within f).0 within));
        held_once = place.sound.held_once;
        ages_past = λ f u at. place.sound.ages_past f u (unset_cases st.used frame f u at).1;
        ages_differ = λ f other u v at also. place.sound.ages_differ f other u v (unset_cases st.used frame f u at).1
            (unset_cases st.used frame other v also).1;
        claims_once = λ f other c one two. place.sound.claims_once f other c (claim_given st frame f c one).1
            (claim_given st frame other c two).1;
        claims_known = λ f c claims. place.sound.claims_known f c (claim_given st frame f c claims).1;
        claims_unwired = λ f c claims. unwired_given frames processors st frame f c place.sound claims;
      }

  IsSound-carved : (c : ℕ) → claim_in (used_at st frame) ≡ Some c → IsSound frames processors (given_by (Some c) st frame r)
  IsSound-carved c claims =
      let gives = Gives-carve (layout_of st) id frame r place.sound.laid place.is place.has (used_if_noted st frame place.noted) in
      let had = place.sound.claims_known frame c claims in
      let holds_it : held_by (given_by (Some c) st frame r) c ≡ Some frame =
      get_or-set_same st.held c (Some frame) None (omega (arith, had.0, place.sound.processors_known)) in
      record {
        known = gives.long ∙ place.sound.known;
        processors_known = length-set st.held c (Some frame) ∙ place.sound.processors_known;
        laid = subst IsLaid (sym (layout_of-given _ st frame _ gives)) gives.laid;
        accounted = λ f known. elim (cases_eq f frame) [
          | inl here ↦ inr (c, holds_it ∙ ap Some (sym here))
          | inr other ↦ elim (place.sound.accounted f known) [
            | inl within ↦ inl ((gives.within f).1 (within, other))
            | inr holds ↦
                let another : holds.0 ≢ c = λ same. none-some f (sym had.1 ∙ ap (held_by st) (sym same) ∙ holds.1) in
                inr (holds.0, get_or-set_other st.held c holds.0 (Some frame) None another ∙ holds.1)
          ]
        ];
        held_apart = λ d f holds. elim (set_cases st.held c d (Some frame) f holds) [
          | inl now ↦
              let same : frame ≡ f = same_Some frame f now.1 in
              (subst (λ g. g < frames) same frame_known, λ within. ((gives.within f).0 within).1 (sym same))
          | inr before ↦ let apart = place.sound.held_apart d f before.1 in (apart.0, λ within. apart.1 ((gives.within f).0 within).0)
        ];
        held_once = λ d e f holds also. elim (set_cases st.held c d (Some frame) f holds) [
          | inl now ↦ elim (set_cases st.held c e (Some frame) f also) [
            | inl both ↦ now.0 ∙ sym both.0
            | inr before ↦ absurd (frame_not_held e (before.1 ∙ sym now.1))
          ]
          | inr before ↦ elim (set_cases st.held c e (Some frame) f also) [
            | inl now ↦ absurd (frame_not_held d (before.1 ∙ sym now.1))
            | inr both ↦ place.sound.held_once d e f before.1 both.1
          ]
        ];
        ages_past = λ f u at. place.sound.ages_past f u (unset_cases st.used frame f u at).1;
        ages_differ = λ f other u v at also. place.sound.ages_differ f other u v (unset_cases st.used frame f u at).1
            (unset_cases st.used frame other v also).1;
        claims_once = λ f other d one two. place.sound.claims_once f other d (claim_given st frame f d one).1
            (claim_given st frame other d two).1;
        claims_known = λ f d still.
            let before = claim_given st frame f d still in
            let known = place.sound.claims_known f d before.1 in
            let another : d ≢ c = λ same. before.0 (place.sound.claims_once f frame c (before.1 ∙ ap Some same) claims) in
            (known.0, get_or-set_other st.held c d (Some frame) None another ∙ known.1);
        claims_unwired = λ f d still. unwired_given frames processors st frame f d place.sound still;
      }

pub IsSound-given : (frames processors : ℕ) (st : FrameState) (id frame : ℕ) (r : Reservation) → IsSound frames processors st
    → record_at (layout_of st) id ≡ Some r → has_frame frame (Some r) ≡ true → used_at st frame ≢ None
    → IsSound frames processors (given st frame r)
IsSound-given frames processors st id frame r sound is has used =
    let place : IsNotedPlace frames processors st id frame r = record { sound = sound; is = is; has = has; noted = used } in
    elim (claim_in (used_at st frame)) as (λ o. claim_in (used_at st frame) ≡ o → IsSound frames processors (given_by o st frame r)) [
      | None ↦ λ unclaimed. IsSound-vacated frames processors st id frame r place
      | Some c ↦ λ claims. IsSound-carved frames processors st id frame r place c claims
    ] refl

pub IsSound-give_page : (frames processors : ℕ) (st : FrameState) (space page frame : ℕ) → IsSound frames processors st
    → frame_of st space page ≡ Some frame → IsSound frames processors (give_page st space page)
IsSound-give_page frames processors st space page frame sound is =
    let place = frame_in-found (layout_of st) space page frame is in
    let r = place.reservation in
    let used : is_used (layout_of st).used (frame_for page r) ≡ true = ap (is_used (layout_of st).used) (sym place.frame) ∙ place.used in
    let covered = covering-is (layout_of st) space page place.id r sound.laid place.is place.covers_page in
    subst (λ o. IsSound frames processors (given_in st page o)) (sym covered)
    (IsSound-given frames processors st place.id (frame_for page r) r sound place.is (has_frame_for space page r place.covers_page)
    (noted_if_used st (frame_for page r) used))

-- Claiming.

-- a claim doesn't change the layout
pub layout_of-claimed : (st : FrameState) (frame : ℕ) (claim : Option ℕ) → layout_of (claimed st frame claim) ≡ layout_of st
layout_of-claimed st frame claim =
    same_used (layout_of st) (map is_some (set st.used frame (with_claim claim (used_at st frame))))
    (map-set_same is_some st.used frame (with_claim claim (used_at st frame)) None (still (used_at st frame)))
  where
    still : (o : Option Used) → is_some (with_claim claim o) ≡ is_some o
    still None = refl
    still (Some u) = refl

-- a note with a claim written into it has the age that it had
noted_before : (claim : Option ℕ) (o : Option Used) (u : Used) → with_claim claim o ≡ Some u → (v : Used) × (o ≡ Some v) × (v.age ≡ u.age)
noted_before claim None u is = absurd (none-some u is)
noted_before claim (Some v) u is = (v, refl, ap (λ w. w.age) (same_Some _ u is))

-- and has this claim
claim_written : (claim : Option ℕ) (o : Option Used) (c : ℕ) → claim_in (with_claim claim o) ≡ Some c → claim ≡ Some c
claim_written claim None c claims = absurd (none-some c claims)
claim_written claim (Some v) c claims = claims

-- a claim changes no age
age_claimed : (st : FrameState) (frame : ℕ) (claim : Option ℕ) (f : ℕ) (u : Used) → used_at (claimed st frame claim) f ≡ Some u
    → (v : Used) × (used_at st f ≡ Some v) × (v.age ≡ u.age)
age_claimed st frame claim f u is = elim (set_cases st.used frame f (with_claim claim (used_at st frame)) u is) [
  | inl here ↦ let before = noted_before claim (used_at st frame) u here.1 in (before.0, ap (used_at st) here.0 ∙ before.1, before.2)
  | inr there ↦ (u, there.1, refl)
]

-- what is claimed then is the frame, with this claim, or was claimed before
pub claim_claimed : (st : FrameState) (frame : ℕ) (claim : Option ℕ) (f c : ℕ) → claim_in (used_at (claimed st frame claim) f) ≡ Some c
    → ((f ≡ frame) × (claim ≡ Some c)) ⊎ ((f ≢ frame) × (claim_in (used_at st f) ≡ Some c))
claim_claimed st frame claim f c claims =
    let noted = claim_from (used_at (claimed st frame claim) f) c claims in
    elim (set_cases st.used frame f (with_claim claim (used_at st frame)) noted.0 noted.1) [
      | inl here ↦ inl (here.0, claim_written claim (used_at st frame) c (ap claim_in here.1 ∙ noted.2))
      | inr there ↦ inr (there.0, ap claim_in there.1 ∙ noted.2)
    ]

-- a claim doesn't wire a place
wired_with_claim : (claim : Option ℕ) (o : Option Used) → is_wired_place (with_claim claim o) ≡ is_wired_place o
wired_with_claim claim None = refl
wired_with_claim claim (Some u) = refl

-- what is claimed then is the frame, with this claim and wired as it was, or the same is noted of it as before
claim_renoted : (st : FrameState) (frame : ℕ) (claim : Option ℕ) (f c : ℕ) → claim_in (used_at (claimed st frame claim) f) ≡ Some c
    → ((claim ≡ Some c) × (is_wired_place (used_at (claimed st frame claim) f) ≡ is_wired_place (used_at st frame)))
    ⊎ (used_at (claimed st frame claim) f ≡ used_at st f)
claim_renoted st frame claim f c claims =
    let noted = claim_from (used_at (claimed st frame claim) f) c claims in
    elim (set_cases st.used frame f (with_claim claim (used_at st frame)) noted.0 noted.1) [
      | inl here ↦ inl (
        claim_written claim (used_at st frame) c (ap claim_in here.1 ∙ noted.2),
        ap is_wired_place (noted.1 ∙ sym here.1) ∙ wired_with_claim claim (used_at st frame),
      )
      | inr there ↦ inr (noted.1 ∙ sym there.1)
    ]

-- a place that may be paged out is not wired
unwired_evictable : (o : Option Used) → is_evictable o ≡ true → is_wired_place o ≡ false
unwired_evictable None may = refl
unwired_evictable (Some u) may = by_wired u.wired (and_parts (not u.wired) (is_none u.claim) may).0
  where
    by_wired : (wired : Bool) → not wired ≡ true → wired ≡ false
    by_wired true is = absurd (false≢true is)
    by_wired false is = refl

-- a claim by nobody, or by a processor with nothing, and of a place that isn't wired
IsSound-reclaimed : (frames processors : ℕ) (st : FrameState) (frame : ℕ) (claim : Option ℕ) → IsSound frames processors st
    → ((c : ℕ) → claim ≡ Some c → (c < processors) × HasNothing st c × (is_wired_place (used_at st frame) ≡ false))
    → IsSound frames processors (claimed st frame claim)
IsSound-reclaimed frames processors st frame claim sound may = record {
  known = sound.known;
  processors_known = sound.processors_known;
  laid = subst IsLaid (sym (layout_of-claimed st frame claim)) sound.laid;
  accounted = sound.accounted;
  held_apart = sound.held_apart;
  held_once = sound.held_once;
  ages_past = λ f u is.
      let before = age_claimed st frame claim f u is in
      subst (λ age. age < st.entries) before.2 (sound.ages_past f before.0 before.1);
  ages_differ = λ f other u v is also same.
      let one = age_claimed st frame claim f u is in
      let two = age_claimed st frame claim other v also in
      sound.ages_differ f other one.0 two.0 one.1 two.1 (one.2 ∙ same ∙ sym two.2);
  claims_once = λ f other c one two. elim (claim_claimed st frame claim f c one) [
    | inl here ↦ elim (claim_claimed st frame claim other c two) [
      | inl both ↦ here.0 ∙ sym both.0
      | inr before ↦ absurd ((may c here.1).1.claims_none other before.1)
    ]
    | inr there ↦ elim (claim_claimed st frame claim other c two) [
      | inl now ↦ absurd ((may c now.1).1.claims_none f there.1)
      | inr both ↦ sound.claims_once f other c there.1 both.1
    ]
  ];
  claims_known = λ f c claims. elim (claim_claimed st frame claim f c claims) [
    | inl here ↦ ((may c here.1).0, (may c here.1).1.holds_none)
    | inr there ↦ sound.claims_known f c there.1
  ];
  claims_unwired = λ f c claims. elim (claim_renoted st frame claim f c claims) [
    | inl here ↦ here.1 ∙ (may c here.0).2
    | inr same ↦ ap is_wired_place same ∙ sound.claims_unwired f c (ap claim_in (sym same) ∙ claims)
  ];
}

-- a claim of a frame that may be paged out, by a processor with nothing, and the end of one
pub IsSound-claimed : (frames processors : ℕ) (st : FrameState) (frame c : ℕ) → IsSound frames processors st → c < processors
    → HasNothing st c → is_evictable (used_at st frame) ≡ true → IsSound frames processors (claimed st frame (Some c))
IsSound-claimed frames processors st frame c sound known nothing may =
    IsSound-reclaimed frames processors st frame (Some c) sound
    (λ d is. subst (λ e. (e < processors) × HasNothing st e × (is_wired_place (used_at st frame) ≡ false)) (same_Some c d is)
    (known, nothing, unwired_evictable (used_at st frame) may))

pub IsSound-unclaimed : (frames processors : ℕ) (st : FrameState) (frame : ℕ) → IsSound frames processors st
    → IsSound frames processors (claimed st frame None)
IsSound-unclaimed frames processors st frame sound =
    IsSound-reclaimed frames processors st frame None sound (λ c is. absurd (none-some c is))

-- Pinning.

-- the places of a range are wired, or are no longer: where they are to be, none is claimed
pub IsSound-pinned : (frames processors : ℕ) (st : FrameState) (space first len : ℕ) (wired : Bool) → IsSound frames processors st
    → (wired ≡ true → lowest_claimed st space first len ≡ None) → IsSound frames processors (pin_range st space first len wired)
IsSound-pinned frames processors st space first len wired sound may = record {
  known = sound.known;
  processors_known = sound.processors_known;
  laid = subst IsLaid (sym (layout_of-pinned st space first len wired)) sound.laid;
  accounted = sound.accounted;
  held_apart = sound.held_apart;
  held_once = sound.held_once;
  ages_past = λ f u is.
      let before = age-pinned st space first len wired f u is in
      subst (λ age. age < st.entries) before.2 (sound.ages_past f before.0 before.1);
  ages_differ = λ f other u v is also same.
      let one = age-pinned st space first len wired f u is in
      let two = age-pinned st space first len wired other v also in
      sound.ages_differ f other one.0 two.0 one.1 two.1 (one.2 ∙ same ∙ sym two.2);
  claims_once = λ f other c one two. sound.claims_once f other c (sym (claim-pinned st space first len wired f) ∙ one)
      (sym (claim-pinned st space first len wired other) ∙ two);
  claims_known = λ f c claims. sound.claims_known f c (sym (claim-pinned st space first len wired f) ∙ claims);
  claims_unwired = λ f c claims.
      let before = sym (claim-pinned st space first len wired f) ∙ claims in
      unwired-pinned st space first len wired f c may before (sound.claims_unwired f c before);
}

-- Dropping.

-- a processor drops the frame that it holds
IsSound-dropped_in : (frames processors : ℕ) (st : FrameState) (c frame : ℕ) → IsSound frames processors st → held_by st c ≡ Some frame
    → IsSound frames processors (dropped_in st c (Some frame))
IsSound-dropped_in frames processors st c frame sound holds =
    let apart = sound.held_apart c frame holds in
    let puts = PutsBack-put_back (layout_of st) frame sound.laid (omega (arith, apart.0, sound.known)) apart.1 in
    record {
      known = puts.long ∙ sound.known;
      processors_known = length-set st.held c None ∙ sound.processors_known;
      laid = puts.laid;
      accounted = λ f known. elim (sound.accounted f known) [
        | inl within ↦ inl ((puts.within f).1 (inl within))
        | inr held ↦ elim (cases_eq held.0 c) [
          | inl here ↦ inl ((puts.within f).1 (inr (same_Some f frame (sym held.1 ∙ ap (held_by st) here ∙ holds))))
          | inr other ↦ inr (held.0, get_or-set_other st.held c held.0 None None other ∙ held.1)
        ]
      ];
      held_apart = λ d f still.
          let before = unset_cases st.held c d f still in
          let was = sound.held_apart d f before.1 in (
            was.0,
            λ within. elim ((puts.within f).0 within) [
              | inl in_before ↦ was.1 in_before
              | inr same ↦ before.0 (sound.held_once d c frame (before.1 ∙ ap Some same) holds)
            ],
          );
      held_once = λ d e f still also. sound.held_once d e f (unset_cases st.held c d f still).1 (unset_cases st.held c e f also).1;
      ages_past = sound.ages_past;
      ages_differ = sound.ages_differ;
      claims_once = sound.claims_once;
      claims_known = λ f d claims.
          let known = sound.claims_known f d claims in (
            known.0,
            elim (cases_eq d c) [
              | inl here ↦ get_or-set_default st.held c d None here
              | inr other ↦ get_or-set_other st.held c d None None other ∙ known.1
            ],
          );
      claims_unwired = sound.claims_unwired;
    }

pub IsSound-dropped : (frames processors : ℕ) (st : FrameState) (c : ℕ) → IsSound frames processors st
    → IsSound frames processors (dropped st c)
IsSound-dropped frames processors st c sound =
    elim (held_by st c) as (λ o. held_by st c ≡ o → IsSound frames processors (dropped_in st c o)) [
      | None ↦ λ none. sound
      | Some frame ↦ λ holds. IsSound-dropped_in frames processors st c frame sound holds
    ] refl

-- dropping a held frame leaves every page its frame
pub frame_of-dropped : (frames processors : ℕ) (st : FrameState) (c space page : ℕ) → IsSound frames processors st
    → frame_of (dropped st c) space page ≡ frame_of st space page
frame_of-dropped frames processors st c space page sound =
    elim (held_by st c) as (λ o. frame_of (dropped_in st c o) space page ≡ frame_of st space page) [ None ↦ refl | Some frame ↦ refl ]

-- Moving.

-- a page that has a frame gives it up
pub IsSound-give_if_used : (frames processors : ℕ) (st : FrameState) (space page : ℕ) → IsSound frames processors st
    → IsSound frames processors (give_if_used space st page)
IsSound-give_if_used frames processors st space page sound = by_place (frame_of st space page) refl
  where
    by_place : (o : Option ℕ) → frame_of st space page ≡ o → IsSound frames processors (give_if_used space st page)
    by_place None none = subst (λ o. IsSound frames processors (cond (is_some o) (give_page st space page) st)) (sym none) sound
    by_place (Some frame) is = subst (λ o. IsSound frames processors (cond (is_some o) (give_page st space page) st)) (sym is)
        (IsSound-give_page frames processors st space page frame sound is)

-- and so does each of a list of pages
pub IsSound-give_each : (frames processors : ℕ) (space : ℕ) (pages : List ℕ) (st : FrameState) → IsSound frames processors st
    → IsSound frames processors (fold (give_if_used space) st pages)
IsSound-give_each frames processors space [] st sound = sound
IsSound-give_each frames processors space (page ∷ pages) st sound =
    IsSound-give_each frames processors space pages (give_if_used space st page)
    (IsSound-give_if_used frames processors st space page sound)

-- a taking of some frame
IsSound-take_some : (frames processors : ℕ) (st : FrameState) (space page : ℕ) (want : Want) (P : Taking → Type 0)
    → IsSound frames processors st → frame_of st space page ≡ None → IsSomeAnd (take_frame st space page want) P
    → IsSound frames processors (counted (state_taken st (take_frame st space page want)))
IsSound-take_some frames processors st space page want P sound none takes =
    elim (take_frame st space page want) as (λ o. take_frame st space page want ≡ o → IsSomeAnd o P
    → IsSound frames processors (counted (state_taken st o))) [
      | None ↦ λ _ no. absurd no
      | Some t ↦ λ is _. IsSound-take frames processors st space page want t sound none is
    ] refl takes

-- an answer that the frames allow is of an evict
IsSound-answer : (frames processors : ℕ) (st : FrameState) (space : ℕ) (call : Call) → IsSound frames processors st
    → AllowsAnswer st space call → IsSound frames processors (counted (moved_by_answer st space call))
IsSound-answer frames processors st space (Evict s page) sound allowed =
    IsSound-counted frames processors _ (IsSound-give_page frames processors st space page allowed.0 sound allowed.1)
IsSound-answer frames processors st space (Map s page len kind rights) sound allowed = absurd allowed
IsSound-answer frames processors st space (Grow s page by) sound allowed = absurd allowed
IsSound-answer frames processors st space (Unmap s page) sound allowed = absurd allowed
IsSound-answer frames processors st space (Protect s page len rights) sound allowed = absurd allowed
IsSound-answer frames processors st space (Load s address) sound allowed = absurd allowed
IsSound-answer frames processors st space (Store s address word) sound allowed = absurd allowed
IsSound-answer frames processors st space (Sync s page) sound allowed = absurd allowed
IsSound-answer frames processors st space (Discard s page len) sound allowed = absurd allowed
IsSound-answer frames processors st space (Wire s page) sound allowed = absurd allowed
IsSound-answer frames processors st space (Unwire s page) sound allowed = absurd allowed

-- Whatever the frames allow keeps them sound.
pub IsSound-moved : (frames processors : ℕ) (st : FrameState) (mark c : ℕ) (space : Option ℕ) (what : What) → IsSound frames processors st
    → c < processors → FramesAllow st mark c space what → IsSound frames processors (counted (moved st c space what))
IsSound-moved frames processors st mark c space (Answer number call answered) sound known allowed =
    IsSound-answer frames processors st (named_space space) call sound allowed
IsSound-moved frames processors st mark c space (Out page written) sound known allowed = absurd allowed
IsSound-moved frames processors st mark c space (Failed page writing count) sound known allowed = absurd allowed
IsSound-moved frames processors st mark c space (Take page frame want) sound known allowed =
    IsSound-take_some frames processors st (named_space space) page want (λ t. t.frame ≡ frame) sound allowed.0 allowed.2
IsSound-moved frames processors st mark c space (Give page frame) sound known allowed =
    IsSound-counted frames processors _ (IsSound-give_page frames processors st (named_space space) page frame sound allowed)
IsSound-moved frames processors st mark c space (Clear first len) sound known allowed =
    IsSound-counted frames processors _ (IsSound-give_each frames processors (named_space space) (range_with_len first len) st sound)
IsSound-moved frames processors st mark c space (Claim victim page frame need) sound known allowed =
    IsSound-counted frames processors _ (IsSound-claimed frames processors st frame c sound known allowed.0 allowed.1.evictable)
IsSound-moved frames processors st mark c space (UseHeld page frame want) sound known allowed =
    let none = frame_of-dropped frames processors st c (named_space space) page sound ∙ allowed.0 in
    IsSound-take_some frames processors (dropped st c) (named_space space) page want (λ t. t.frame ≡ frame)
    (IsSound-dropped frames processors st c sound) none allowed.2
IsSound-moved frames processors st mark c space (DropHeld frame) sound known allowed =
    IsSound-counted frames processors _ (IsSound-dropped frames processors st c sound)
IsSound-moved frames processors st mark c space (Got frame) sound known allowed = IsSound-counted frames processors st sound
IsSound-moved frames processors st mark c space (Unclaim frame) sound known allowed =
    IsSound-counted frames processors _ (IsSound-unclaimed frames processors st frame sound)
IsSound-moved frames processors st mark c space (Refused wired claims held) sound known allowed = IsSound-counted frames processors st sound
IsSound-moved frames processors st mark c space (Pin first len wired) sound known allowed =
    IsSound-counted frames processors _ (IsSound-pinned frames processors st (named_space space) first len wired sound allowed)
IsSound-moved frames processors st mark c space (Kept first len page frame) sound known allowed =
    IsSound-counted frames processors st sound
IsSound-moved frames processors st mark c space (Rest short) sound known allowed = IsSound-counted frames processors st sound
