-- After every legal history a used place is wired exactly where its page's region is, or where a pin said so just before; and none is both
-- wired and claimed.
use Rattle.std.proofs.Common.{◌≡◌, ◌≢◌, ◌⊎◌, ℕ, zero, suc, ◌+◌, ◌<◌, Bool, true, false, cond, eqb, ◌&&◌, ◌||◌, List, [], ◌∷◌, ◌++◌, length, get_or, fold, is_some, Option, Some, None, IfSome, IsSomeAnd, refl, sym, ap, subst, inl, inr, ◌∙◌, arith}
use Rattle.std.specs.List.{range_with_len, list_any}
use Rattle.std.proofs.lemmas.Bool.{cases_Bool, cases_eq, cases_lt, and_parts, and_from, eq-eqb, eqb-true, cond-true, cond-false, false≢true, true≢false}
use Rattle.std.proofs.lemmas.List.{get_or-set_same, get_or-set_other, set_past, length-map}
use Rattle.std.proofs.lemmas.Option.{none-some, same_Some}
use Rattle.pager_model.specs.Options.{is_that}
use Rattle.pager_model.specs.declared.call.Call.{Call}
use Rattle.pager_model.specs.declared.call.Call.TheVariants.{Map, Grow, Unmap, Protect, Load, Store, Sync, Evict, Discard, Wire, Unwire}
use Rattle.pager_model.specs.declared.entry.Entry.{Entry}
use Rattle.pager_model.specs.declared.entry.Want.{Want}
use Rattle.pager_model.specs.declared.entry.What.{What}
use Rattle.pager_model.specs.declared.entry.What.TheVariants.{Answer, Out, Failed, Take, Give, Clear, Claim, UseHeld, DropHeld, Got, Unclaim, Refused, Pin, Kept, Rest}
use Rattle.pager_model.specs.declared.reservation.Used.{Used}
use Rattle.pager_model.specs.Entries.{names_space, IsOn}
use Rattle.pager_model.specs.FrameStates.{FrameState, FramesAllow, AllowsAnswer, layout_of, used_at, frame_of, held_by, claim_in, is_wired_place, taken, take_frame, state_taken, give_page, give_if_used, with_claim, claimed, with_wired, pin_range, dropped, dropped_in, counted, moved, moved_by_answer}
use Rattle.pager_model.specs.Laws.{KeepsWires, is_wired_by}
use Rattle.pager_model.specs.Layouts.{Placing, placing, frame_in}
use Rattle.pager_model.specs.Legal.{IsLegal, MayFollow, space_at, frames_at}
use Rattle.pager_model.specs.Records.{is_used}
use Rattle.pager_model.specs.Regions.{in_range}
use Rattle.pager_model.specs.Settings.{Given, mark_of}
use Rattle.pager_model.specs.SpaceStates.{SpaceState, SpaceAllows}
use Rattle.pager_model.proofs.Histories.{space_at-named, space_at-other, frames_at-named, frames_at-other, IsLegal-push, IsLegal-keeps}
use Rattle.pager_model.proofs.Options.{none_from_never}
use Rattle.pager_model.proofs.Ranges.{in_bounds, bounds_in}
use Rattle.pager_laws.specs.Laid.{IsLaid, IsSound}
use Rattle.pager_laws.proofs.LayoutPlacing.{WasPlaced, WasPlaced-placing}
use Rattle.pager_laws.proofs.LegalHistories.{IsKept, IsKept-legal, frame_of-start, names-is}
use Rattle.pager_laws.proofs.PageMoves.{GivesPage-give_page, one_page}
use Rattle.pager_laws.proofs.PagePlaces.{frame_in-found}
use Rattle.pager_laws.proofs.PinnedPlaces.{is_pinned, used_at-pinned, frame_of-pinned, wired_place}
use Rattle.pager_laws.proofs.StateSoundness.{is_used-layout_of, taking_from, layout_of-taken, layout_of-claimed, frame_of-dropped, IsSound-dropped, IsSound-give_if_used}
use Rattle.pager_laws.proofs.RegionsApart.{AreApart}
use Rattle.pager_laws.proofs.WiredRegions.{KeepsRegions, GivesFlag, LeavesFlag, GoesOn, GoesOn-after, KeepsRegions-start}

-- whether the place is wired
abbrev flag : FrameState → ℕ → Bool
flag st f = is_wired_place (used_at st f)

-- Moves that give no page a place.

-- each page that has a place had it, and it is wired as it was
abbrev KeepsFlags : FrameState → FrameState → Type 0
KeepsFlags st after = (s p f : ℕ) → frame_of after s p ≡ Some f → (frame_of st s p ≡ Some f) × (flag after f ≡ flag st f)

KeepsFlags-then : (one two three : FrameState) → KeepsFlags one two → KeepsFlags two three → KeepsFlags one three
KeepsFlags-then one two three first second s p f is =
    let later = second s p f is in
    let earlier = first s p f later.0 in
    (earlier.0, later.1 ∙ earlier.1)

KeepsFlags-give_page : (st : FrameState) (space page frame : ℕ) → IsLaid (layout_of st) → frame_of st space page ≡ Some frame
    → KeepsFlags st (give_page st space page)
KeepsFlags-give_page st space page frame laid is s p f now =
    let gives = GivesPage-give_page st space page frame laid is in
    let before = (gives.pages s p f).0 now in (
      before.1,
      ap (λ used. is_wired_place (get_or used f None)) gives.used
          ∙ ap is_wired_place (get_or-set_other st.used frame f None None before.0),
    )

KeepsFlags-give_if_used : (st : FrameState) (space page : ℕ) → IsLaid (layout_of st) → KeepsFlags st (give_if_used space st page)
KeepsFlags-give_if_used st space page laid = by_place (frame_of st space page) refl
  where
    by_place : (o : Option ℕ) → frame_of st space page ≡ o → KeepsFlags st (give_if_used space st page)
    by_place None none = subst (λ o. KeepsFlags st (cond (is_some o) (give_page st space page) st)) (sym none) (λ s p f is. (is, refl))
    by_place (Some frame) is = subst (λ o. KeepsFlags st (cond (is_some o) (give_page st space page) st)) (sym is)
        (KeepsFlags-give_page st space page frame laid is)

KeepsFlags-give_each : (frames processors space : ℕ) (pages : List ℕ) (st : FrameState) → IsSound frames processors st
    → KeepsFlags st (fold (give_if_used space) st pages)
KeepsFlags-give_each frames processors space [] st sound = λ s p f is. (is, refl)
KeepsFlags-give_each frames processors space (page ∷ pages) st sound =
    let next = give_if_used space st page in
    KeepsFlags-then st next (fold (give_if_used space) next pages) (KeepsFlags-give_if_used st space page sound.laid)
    (KeepsFlags-give_each frames processors space pages next (IsSound-give_if_used frames processors st space page sound))

-- a claim doesn't wire a place
claim-flag : (claim : Option ℕ) (o : Option Used) → is_wired_place (with_claim claim o) ≡ is_wired_place o
claim-flag claim None = refl
claim-flag claim (Some u) = refl

flag-claimed : (st : FrameState) (frame : ℕ) (claim : Option ℕ) (f : ℕ) → flag (claimed st frame claim) f ≡ flag st f
flag-claimed st frame claim f = elim (cases_eq f frame) [
  | inl same ↦
      subst (λ k. flag (claimed st frame claim) k ≡ flag st k) (sym same) (elim (cases_lt frame (length st.used)) [
        | inl known ↦
            ap is_wired_place (get_or-set_same st.used frame (with_claim claim (used_at st frame)) None known)
            ∙ claim-flag claim (used_at st frame)
        | inr past ↦ ap (λ used. is_wired_place (get_or used frame None))
            (set_past st.used frame (with_claim claim (used_at st frame)) past)
      ])
  | inr other ↦ ap is_wired_place (get_or-set_other st.used frame f (with_claim claim (used_at st frame)) None other)
]

KeepsFlags-claimed : (st : FrameState) (frame : ℕ) (claim : Option ℕ) → KeepsFlags st (claimed st frame claim)
KeepsFlags-claimed st frame claim s p f is = (
  sym (ap (λ l. frame_in l s p) (layout_of-claimed st frame claim)) ∙ is,
  flag-claimed st frame claim f,
)

KeepsFlags-dropped : (frames processors : ℕ) (st : FrameState) (c : ℕ) → IsSound frames processors st → KeepsFlags st (dropped st c)
KeepsFlags-dropped frames processors st c sound s p f is = (
  sym (frame_of-dropped frames processors st c s p sound) ∙ is,
  elim (held_by st c) as (λ o. flag (dropped_in st c o) f ≡ flag st f) [ None ↦ refl | Some frame ↦ refl ],
)

-- Takings.

-- the page's place is wired as its want says, and the others as they were
abbrev TakesFlag : FrameState → FrameState → ℕ → ℕ → Want → Type 0
TakesFlag st after space page want = (s p f : ℕ) → frame_of after s p ≡ Some f
    → ((frame_of st s p ≡ Some f) × (flag after f ≡ flag st f)) ⊎ ((space ≡ s) × (page ≡ p) × (flag after f ≡ want.wired))

TakesFlag-taken : (st : FrameState) (space page : ℕ) (want : Want) (place : Placing) → IsLaid (layout_of st)
    → WasPlaced (layout_of st) place.layout space page place.frame → TakesFlag st (taken st want place) space page want
TakesFlag-taken st space page want place laid places s p f is =
    let note : Used = record { age = st.entries; wired = want.wired; claim = None } in
    let pages : frame_of (taken st want place) s p ≡ cond (eqb space s && eqb p page) (Some place.frame) (frame_of st s p) =
    ap (λ l. frame_in l s p) (layout_of-taken st space page want place places) ∙ places.pages s p in
    let known : place.frame < length st.used = (let long = laid.used_long in let same = length-map st.used is_some in
    let within = places.known in omega (arith, long, same, within)) in
    elim (cases_Bool (eqb space s && eqb p page)) [
      | inl here ↦
          let parts = and_parts _ _ here in
          let at : place.frame ≡ f = same_Some place.frame f (sym (pages ∙ cond-true _ (Some place.frame) (frame_of st s p) here) ∙ is) in
          inr (
            eqb-true space s parts.0,
            sym (eqb-true p page parts.1),
            ap (flag (taken st want place)) (sym at) ∙ ap is_wired_place (get_or-set_same st.used place.frame (Some note) None known),
          )
      | inr apart ↦
          let was : frame_of st s p ≡ Some f = sym (pages ∙ cond-false _ (Some place.frame) (frame_of st s p) apart) ∙ is in
          let other : f ≢ place.frame = λ same. false≢true (sym places.was_unused ∙ ap (is_used (layout_of st).used) (sym same)
          ∙ (frame_in-found (layout_of st) s p f was).used) in
          inl (was, ap is_wired_place (get_or-set_other st.used place.frame f (Some note) None other))
    ]

TakesFlag-take : (st : FrameState) (space page frame : ℕ) (want : Want) → IsLaid (layout_of st) → frame_of st space page ≡ None
    → IsSomeAnd (take_frame st space page want) (λ t. t.frame ≡ frame)
    → TakesFlag st (state_taken st (take_frame st space page want)) space page want
TakesFlag-take st space page frame want laid none takes =
    elim (take_frame st space page want) as (λ o. take_frame st space page want ≡ o → IsSomeAnd o (λ t. t.frame ≡ frame)
    → TakesFlag st (state_taken st o) space page want) [
      | None ↦ λ _ fails. absurd fails
      | Some t ↦ λ is _.
          let found = taking_from st want (placing st.entries space page want (layout_of st)) t is in
          let places = WasPlaced-placing (layout_of st) st.entries space page want found.0 laid none found.1 in
          subst (λ u. TakesFlag st u.state space page want) found.2 (TakesFlag-taken st space page want found.0 laid places)
    ] refl takes

-- Pins.

-- a number of a range that passes, and none that does
some_passes : (test : ℕ → Bool) (a n : ℕ) → list_any test (range_with_len a n) ≡ true
    → (i : ℕ) × (in_range a n i ≡ true) × (test i ≡ true)
some_passes test a zero any = absurd (false≢true any)
some_passes test a (suc n) any = elim (cases_Bool (test a)) [
  | inl here ↦ (a, bounds_in a (suc n) a (omega arith) (omega arith), here)
  | inr there ↦
      let later = some_passes test (a + 1) n (sym (ap (λ b. b || list_any test (range_with_len (a + 1) n)) there) ∙ any) in
      let bounds = in_bounds (a + 1) n later.0 later.1 in
      (later.0, bounds_in a (suc n) later.0 (omega (arith, bounds.0)) (omega (arith, bounds.1)), later.2)
]

none_passes : (test : ℕ → Bool) (a n i : ℕ) → list_any test (range_with_len a n) ≡ false → in_range a n i ≡ true → test i ≡ false
none_passes test a zero i none inside = absurd (let b = in_bounds a 0 i inside in omega (arith, b.0, b.1))
none_passes test a (suc n) i none inside =
    let bounds = in_bounds a (suc n) i inside in
    elim (cases_Bool (test a)) [
      | inl here ↦ absurd (true≢false (sym (ap (λ b. b || list_any test (range_with_len (a + 1) n)) here) ∙ none))
      | inr there ↦ elim (cases_eq a i) [
        | inl same ↦ ap test (sym same) ∙ there
        | inr other ↦ none_passes test (a + 1) n i (sym (ap (λ b. b || list_any test (range_with_len (a + 1) n)) there) ∙ none)
            (bounds_in (a + 1) n i (omega (arith, bounds.0, other)) (omega (arith, bounds.1)))
      ]
    ]

-- the place of a page is one of those of a range exactly where the page is in the range
pub is_pinned-place : (st : FrameState) (space first len : ℕ) → IsLaid (layout_of st) → (s p f : ℕ) → frame_of st s p ≡ Some f
    → is_pinned st space first len f ≡ (eqb s space && in_range first len p)
is_pinned-place st space first len laid s p f was =
    let test : ℕ → Bool = λ q. is_that f (frame_of st space q) in
    elim (cases_Bool (is_pinned st space first len f)) [
      | inl here ↦
          let at = some_passes test first len here in
          let same = one_page (layout_of st) space at.0 s p f laid (names-is (frame_of st space at.0) f at.2) was in
          here ∙ sym (and_from _ _ (eq-eqb s space (sym same.0)) (subst (λ q. in_range first len q ≡ true) same.1 at.1))
      | inr other ↦ elim (cases_Bool (eqb s space && in_range first len p)) [
        | inl inside ↦
            let parts = and_parts _ _ inside in
            let at : frame_of st space p ≡ Some f = subst (λ t. frame_of st t p ≡ Some f) (eqb-true s space parts.0) was in
            absurd (false≢true (sym (none_passes test first len p other parts.1) ∙ ap (is_that f) at ∙ eq-eqb f f refl))
        | inr outside ↦ other ∙ sym outside
      ]
    ]

-- a used place is something
place_is_some : (st : FrameState) (s p f : ℕ) → frame_of st s p ≡ Some f → is_some (used_at st f) ≡ true
place_is_some st s p f is = sym (is_used-layout_of st f) ∙ (frame_in-found (layout_of st) s p f is).used

-- the places of the pages of the range are wired as the pin says, and the others as they were
PinsFlag : (st : FrameState) (space first len : ℕ) (wired : Bool) → IsLaid (layout_of st) → (s p f : ℕ)
    → frame_of (pin_range st space first len wired) s p ≡ Some f
    → ((frame_of st s p ≡ Some f) × (flag (pin_range st space first len wired) f ≡ flag st f) × (space ≡ s → in_range first len p ≡ false))
    ⊎ ((space ≡ s) × (in_range first len p ≡ true) × (flag (pin_range st space first len wired) f ≡ wired))
PinsFlag st space first len wired laid s p f now =
    let was : frame_of st s p ≡ Some f = sym (frame_of-pinned st space first len wired s p) ∙ now in
    elim (cases_Bool (is_pinned st space first len f)) [
      | inl here ↦
          let at = some_passes (λ q. is_that f (frame_of st space q)) first len here in
          let same = one_page (layout_of st) space at.0 s p f laid (names-is (frame_of st space at.0) f at.2) was in
          inr (
            same.0,
            subst (λ q. in_range first len q ≡ true) same.1 at.1,
            ap is_wired_place (used_at-pinned st space first len wired f)
                ∙ ap (λ b. is_wired_place (cond b (with_wired wired (used_at st f)) (used_at st f))) here
                ∙ wired_place wired (used_at st f) (place_is_some st s p f was),
          )
      | inr other ↦ inl (
        was,
        ap is_wired_place (used_at-pinned st space first len wired f)
            ∙ ap (λ b. is_wired_place (cond b (with_wired wired (used_at st f)) (used_at st f))) other,
        λ same. elim (cases_Bool (in_range first len p)) [
          | inl inside ↦
              absurd (false≢true (sym (none_passes (λ q. is_that f (frame_of st space q)) first len p other inside)
              ∙ ap (is_that f) (subst (λ t. frame_of st t p ≡ Some f) (sym same) was) ∙ eq-eqb f f refl))
          | inr outside ↦ outside
        ],
      )
    ]

-- Entries on the frames.

-- a page that has a place had it, wired as it is, and the entry leaves it so; or the entry, on its space, wires it so
abbrev FlagGoes : FrameState → FrameState → Option ℕ → What → ℕ → ℕ → ℕ → Type 0
FlagGoes st after space what s p f =
    ((frame_of st s p ≡ Some f) × (flag after f ≡ flag st f) × (space ≡ Some s → LeavesFlag what p))
    ⊎ ((space ≡ Some s) × GivesFlag what p (flag after f))

abbrev FlagsGo : FrameState → FrameState → Option ℕ → What → Type 0
FlagsGo st after space what = (s p f : ℕ) → frame_of after s p ≡ Some f → FlagGoes st after space what s p f

module _ (frames processors : ℕ) (st : FrameState) (mark c : ℕ) (sound : IsSound frames processors st) where
  answer-flags : (s number : ℕ) (call : Call) → AllowsAnswer st s call → KeepsFlags st (counted (moved_by_answer st s call))
  answer-flags s number (Evict t page) allowed = KeepsFlags-give_page st s page allowed.0 sound.laid allowed.1
  answer-flags s number (Map t page len kind rights) allowed = absurd allowed
  answer-flags s number (Grow t page by) allowed = absurd allowed
  answer-flags s number (Unmap t page) allowed = absurd allowed
  answer-flags s number (Protect t page len rights) allowed = absurd allowed
  answer-flags s number (Load t address) allowed = absurd allowed
  answer-flags s number (Store t address word) allowed = absurd allowed
  answer-flags s number (Sync t page) allowed = absurd allowed
  answer-flags s number (Discard t page len) allowed = absurd allowed
  answer-flags s number (Wire t page) allowed = absurd allowed
  answer-flags s number (Unwire t page) allowed = absurd allowed

  FlagsGo-moved : (space : Option ℕ) (what : What) → FramesAllow st mark c space what → IsOn space true what
      → FlagsGo st (counted (moved st c space what)) space what
  FlagsGo-moved None (Answer number call answered) allowed names s p f now = absurd (none-some _ names)
  FlagsGo-moved (Some t) (Answer number call answered) allowed names s p f now =
      let kept = answer-flags t number call allowed s p f now in
      inl (kept.0, kept.1, λ _. tt)
  FlagsGo-moved space (Out page written) allowed names s p f now = absurd allowed
  FlagsGo-moved space (Failed page writing count) allowed names s p f now = absurd allowed
  FlagsGo-moved None (Take page frame want) allowed names s p f now = absurd (none-some names.0.0 names.0.1)
  FlagsGo-moved (Some t) (Take page frame want) allowed names s p f now =
      elim (TakesFlag-take st t page frame want sound.laid allowed.0 allowed.2 s p f now) [
        | inl old ↦ inl (old.0, old.1, λ _. tt)
        | inr new ↦ inr (ap Some new.0, (new.1, new.2))
      ]
  FlagsGo-moved None (Give page frame) allowed names s p f now = absurd (none-some names.0.0 names.0.1)
  FlagsGo-moved (Some t) (Give page frame) allowed names s p f now =
      let kept = KeepsFlags-give_page st t page frame sound.laid allowed s p f now in
      inl (kept.0, kept.1, λ _. tt)
  FlagsGo-moved None (Clear first len) allowed names s p f now = absurd (none-some names.0.0 names.0.1)
  FlagsGo-moved (Some t) (Clear first len) allowed names s p f now =
      let kept = KeepsFlags-give_each frames processors t (range_with_len first len) st sound s p f now in
      inl (kept.0, kept.1, λ _. tt)
  FlagsGo-moved space (Claim victim page frame need) allowed names s p f now =
      let kept = KeepsFlags-claimed st frame (Some c) s p f now in
      inl (kept.0, kept.1, λ _. tt)
  FlagsGo-moved None (UseHeld page frame want) allowed names s p f now = absurd (none-some names.0.0 names.0.1)
  FlagsGo-moved (Some t) (UseHeld page frame want) allowed names s p f now =
      let drops = dropped st c in
      let none = frame_of-dropped frames processors st c t page sound ∙ allowed.0 in
      elim (TakesFlag-take drops t page frame want (IsSound-dropped frames processors st c sound).laid none allowed.2 s p f now) [
        | inl old ↦
            let kept = KeepsFlags-dropped frames processors st c sound s p f old.0 in
            inl (kept.0, old.1 ∙ kept.1, λ _. tt)
        | inr new ↦ inr (ap Some new.0, (new.1, new.2))
      ]
  FlagsGo-moved space (DropHeld frame) allowed names s p f now =
      let kept = KeepsFlags-dropped frames processors st c sound s p f now in
      inl (kept.0, kept.1, λ _. tt)
  FlagsGo-moved space (Got frame) allowed names s p f now = inl (now, refl, λ _. tt)
  FlagsGo-moved None (Unclaim frame) allowed names s p f now = absurd (none-some names.0.0 names.0.1)
  FlagsGo-moved (Some t) (Unclaim frame) allowed names s p f now =
      let kept = KeepsFlags-claimed st frame None s p f now in
      inl (kept.0, kept.1, λ _. tt)
  FlagsGo-moved space (Refused wired claims held) allowed names s p f now = inl (now, refl, λ _. tt)
  FlagsGo-moved None (Pin first len wired) allowed names s p f now = absurd (none-some names.0.0 names.0.1)
  FlagsGo-moved (Some t) (Pin first len wired) allowed names s p f now =
      elim (PinsFlag st t first len wired sound.laid s p f now) [
        | inl old ↦ inl (old.0, old.1, λ same. old.2 (same_Some t s same))
        | inr new ↦ inr (ap Some new.0, (new.1, new.2))
      ]
  FlagsGo-moved space (Kept first len page frame) allowed names s p f now = inl (now, refl, λ _. tt)
  FlagsGo-moved space (Rest short) allowed names s p f now = inl (now, refl, λ _. tt)

-- an entry that doesn't name the frames leaves every flag
leaves-alone : (space : Option ℕ) (what : What) (p : ℕ) → IsOn space false what → LeavesFlag what p
leaves-alone space (Pin first len wired) p names = absurd (false≢true names.1)
leaves-alone space what p names = tt

-- Histories.

-- the regions of each space are apart and have its resident pages, and each place is wired as it is to be
record WiresKept (g : Given) (h : List Entry) : Type 0 where
  pub regions : (s : ℕ) → KeepsRegions (space_at g h s)
  pub flags : (s p f : ℕ) → frame_of (frames_at g h) s p ≡ Some f
      → flag (frames_at g h) f ≡ is_wired_by (space_at g h s).next (space_at g h s).flat.regions p

-- what holds of the space that an entry names
of_named : (space : Option ℕ) (s : ℕ) (P : ℕ → Type 0) → is_that s space ≡ true → IfSome space P → P s
of_named None s P named holds = absurd (false≢true named)
of_named (Some t) s P named holds = subst P (eqb-true t s named) holds

module _ (g : Given) (h : List Entry) (e : Entry) (kept : IsKept g h) (was : WiresKept g h) (may : MayFollow g h e) where
  goes : (s : ℕ) → names_space s e ≡ true → GoesOn (space_at g h s) e e.what
  goes s named =
      let st = space_at g h s in
      let allowed = of_named e.space s (λ t. SpaceAllows (space_at g h t) e) named may.by_space in
      GoesOn-after st e (was.regions s) e.what allowed.0 allowed.1

  regions-more : (s : ℕ) → KeepsRegions (space_at g (h ++ e ∷ []) s)
  regions-more s = elim (cases_Bool (names_space s e)) [
    | inl named ↦ subst KeepsRegions (sym (space_at-named g h e s named)) (goes s named).keeps
    | inr other ↦ subst KeepsRegions (sym (space_at-other g h e s other)) (was.regions s)
  ]

  -- what the entry does to the flags
  flags-go : (s p f : ℕ) → frame_of (frames_at g (h ++ e ∷ [])) s p ≡ Some f
      → FlagGoes (frames_at g h) (frames_at g (h ++ e ∷ [])) e.space e.what s p f
  flags-go s p f now = by_frames e.frames refl
    where
      by_frames : (b : Bool) → e.frames ≡ b → FlagGoes (frames_at g h) (frames_at g (h ++ e ∷ [])) e.space e.what s p f
      by_frames true names =
          let moves = frames_at-named g h e names in
          subst (λ after. FlagGoes (frames_at g h) after e.space e.what s p f) (sym moves)
          (FlagsGo-moved g.frames (length g.marks) (frames_at g h) (mark_of g e.processor) e.processor kept.sound e.space e.what
          (may.by_frames names) (subst (λ b. IsOn e.space b e.what) names may.parts) s p f
          (sym (ap (λ after. frame_of after s p) moves) ∙ now))
      by_frames false none =
          let same = frames_at-other g h e none in
          inl (
            sym (ap (λ after. frame_of after s p) same) ∙ now,
            ap (λ after. flag after f) same,
            λ _. leaves-alone e.space e.what p (subst (λ b. IsOn e.space b e.what) none may.parts),
          )

  flags-more : (s p f : ℕ) → frame_of (frames_at g (h ++ e ∷ [])) s p ≡ Some f
      → flag (frames_at g (h ++ e ∷ [])) f
      ≡ is_wired_by (space_at g (h ++ e ∷ []) s).next (space_at g (h ++ e ∷ []) s).flat.regions p
  flags-more s p f now = elim (cases_Bool (names_space s e)) [
    | inl named ↦
        let here = goes s named in
        let after : (st : SpaceState) → Bool = λ st. is_wired_by st.next st.flat.regions p in
        elim (flags-go s p f now) [
          | inl old ↦
              let base = kept.agrees s p ∙ old.0 in
              old.1 ∙ was.flags s p f old.0 ∙ sym (here.old p f base (old.2 (names-is e.space s named)))
              ∙ sym (ap after (space_at-named g h e s named))
          | inr new ↦ sym (here.given p (flag (frames_at g (h ++ e ∷ [])) f) new.1) ∙ sym (ap after (space_at-named g h e s named))
        ]
    | inr other ↦
        let after : (st : SpaceState) → Bool = λ st. is_wired_by st.next st.flat.regions p in
        elim (flags-go s p f now) [
          | inl old ↦ old.1 ∙ was.flags s p f old.0 ∙ sym (ap after (space_at-other g h e s other))
          | inr new ↦ absurd (false≢true (sym other ∙ ap (is_that s) new.0 ∙ eq-eqb s s refl))
        ]
  ]

WiresKept-legal : (g : Given) (history : List Entry) → IsLegal g history → WiresKept g history
WiresKept-legal g history legal =
    let P : List Entry → Type 0 = λ h. IsLegal g h × WiresKept g h in
    (IsLegal-keeps g P (λ h e was may. (
      IsLegal-push g h e was.0 may,
      record {
        regions = regions-more g h e (IsKept-legal g h was.0) was.1 may;
        flags = flags-more g h e (IsKept-legal g h was.0) was.1 may;
      },
    )) (
      tt,
      record {
        regions = λ s. KeepsRegions-start (space_at g [] s) tt (λ p. refl);
        flags = λ s p f is. absurd (none-some f (sym (frame_of-start g.sizes g.frames (length g.marks) s p) ∙ is));
      },
    ) history legal).1

-- no page of a space is in two regions
pub AreApart-legal : (g : Given) (history : List Entry) → IsLegal g history → (s : ℕ) → AreApart (space_at g history s).flat.regions
AreApart-legal g history legal s = ((WiresKept-legal g history legal).regions s).apart

pub KeepsWires-legal : (g : Given) (history : List Entry) → IsLegal g history → KeepsWires g history
KeepsWires-legal g history legal =
    let wires = WiresKept-legal g history legal in
    let sound = (IsKept-legal g history legal).sound in
    record {
      places = λ s page frame known is. wires.flags s page frame is;
      unclaimed = λ frame is. none_from_never (claim_in (used_at (frames_at g history) frame))
          (λ c claims. true≢false (sym is ∙ sound.claims_unwired frame c claims));
    }
