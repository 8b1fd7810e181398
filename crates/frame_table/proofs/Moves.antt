-- What each move keeps true of a table.
use Rattle.std.proofs.Common.{◌≡◌, ℕ, ◌<◌, Bool, true, false, cond, List, length, get_or, set, map, Option, Some, None, replicate, refl, sym, ap, subst, ◌∙◌, inl, inr, arith}
use Rattle.std.specs.List.{range_with_len}
use Rattle.std.specs.Option.{is_some, IfSome, IfNone}
use Rattle.std.proofs.Math.ListN.{get_or-map}
use Rattle.std.proofs.Math.Seq.{map-set_same}
use Rattle.std.proofs.lemmas.Bool.{cases_eq, cases_lt}
use Rattle.std.proofs.lemmas.List.{get_or-set_same, get_or-set_other, get_or_past, length-map, length-replicate, length-set}
use Rattle.std.proofs.lemmas.Option.{none-some}
use Rattle.pager_model.specs.SizeSets.{SizeSet}
use Rattle.pager_model.specs.Frame.{Framed}
use Rattle.pager_model.specs.declared.entry.Want.{Want}
use Rattle.pager_model.specs.declared.reservation.Used.{Used}
use Rattle.pager_model.specs.FrameStates.{FrameState, start_frames, layout_of, used_at, held_by, frame_of, HasNothing, Taking, take_frame, counted, give_page, given_in, with_claim, claimed, pin_range, lowest_claimed, dropped, dropped_in, IsVictim}
use Rattle.pager_model.specs.Layouts.{placing}
use Rattle.pager_model.proofs.Lists.{get_or-alike}
use Rattle.frame_pool.specs.declared.pins.Kept.{Kept}
use Rattle.frame_pool.specs.Pooled.{number_in}
use Rattle.pager_laws.specs.Laid.{IsSound}
use Rattle.pager_laws.proofs.LayoutPlacing.{WasPlaced-placing}
use Rattle.pager_laws.proofs.PagePlaces.{frame_in-found, covering-is}
use Rattle.pager_laws.proofs.PinnedPlaces.{same-places}
use Rattle.pager_laws.proofs.StartStates.{IsSound-start}
use Rattle.pager_laws.proofs.StateSoundness.{taking_from, is_used-layout_of, IsSound-take, IsSound-counted, IsSound-give_page, IsSound-claimed, IsSound-unclaimed, IsSound-pinned, IsSound-dropped}
use Rattle.frame_table.specs.Tables.{AreOut, IsTable}

-- of each frame it is noted whether it is used
pub used_long : (out : List (Option Framed)) (st : FrameState) → IsTable out st → length st.used ≡ length out
used_long out st table = sym (length-map st.used is_some) ∙ table.sound.laid.used_long ∙ sym table.known

-- a place and its frame are written together
AreOut-set : (out : List (Option Framed)) (used : List (Option Used)) (at : ℕ) (frame : Option Framed) (place : Option Used)
    → AreOut out used → at < length out → length used ≡ length out → number_in frame ≡ cond (is_some place) (Some at) None
    → AreOut (set out at frame) (set used at place)
AreOut-set out used at frame place exact known long fits = λ f.
    elim (cases_eq f at) [
      | inl same ↦
          let at_out : get_or (set out at frame) f None ≡ frame = ap (λ k. get_or (set out at frame) k None) same
          ∙ get_or-set_same out at frame None known in
          let at_used : get_or (set used at place) f None ≡ place = ap (λ k. get_or (set used at place) k None) same
          ∙ get_or-set_same used at place None (omega (arith, known, long)) in
          ap number_in at_out ∙ fits ∙ ap (λ k. cond (is_some place) (Some k) None) (sym same)
          ∙ ap (λ o. cond (is_some o) (Some f) None) (sym at_used)
      | inr other ↦
          ap number_in (get_or-set_other out at f frame None other) ∙ exact f
          ∙ ap (λ o. cond (is_some o) (Some f) None) (sym (get_or-set_other used at f place None other))
    ]

-- which places are used is all that counts
AreOut-same : (out : List (Option Framed)) (used after : List (Option Used)) → AreOut out used → map is_some after ≡ map is_some used
    → AreOut out after
AreOut-same out used after exact same = λ f.
    let still : is_some (get_or used f None) ≡ is_some (get_or after f None) = sym (get_or-map is_some used f None)
    ∙ sym (ap (λ us. get_or us f false) same) ∙ get_or-map is_some after f None in
    exact f ∙ ap (λ b. cond b (Some f) None) still

-- what a move leaves is a table, where the state stays sound and the used frames are out
IsTable-after : (out moved : List (Option Framed)) (st after : FrameState) → IsTable out st
    → IsSound (length st.free) (length st.held) after → length moved ≡ length out → AreOut moved after.used → IsTable moved after
IsTable-after out moved st after table sound long exact = record {
  sound = subst (λ n. IsSound n (length after.held) after) (sym sound.known)
      (subst (λ n. IsSound (length st.free) n after) (sym sound.processors_known) sound);
  known = long ∙ table.known ∙ sym sound.known;
  exact = exact;
}

-- at first no frame is out
pub IsTable-start : (z : SizeSet) (n processors : ℕ) → IsTable (replicate n None) (start_frames z n processors)
IsTable-start z n processors =
    let frames_long = length-replicate n true in
    let held_long = length-replicate {A = Option ℕ} processors None in
    record {
      sound =
          subst (λ k. IsSound k (length (start_frames z n processors).held) (start_frames z n processors)) (sym frames_long)
          (subst (λ k. IsSound n k (start_frames z n processors)) (sym held_long) (IsSound-start z n processors));
      known = length-replicate {A = Option Framed} n None ∙ sym frames_long;
      exact = λ f. ap number_in (get_or-alike n f None) ∙ ap (λ o. cond (is_some o) (Some f) None) (sym (get_or-alike n f None));
    }

-- what is taken becomes a used place
taken_used : (st : FrameState) (space page : ℕ) (want : Want) (t : Taking) → take_frame st space page want ≡ Some t
    → t.state.used ≡ set st.used t.frame (Some (record { age = st.entries; wired = want.wired; claim = None }))
taken_used st space page want t takes =
    let place = taking_from st want (placing st.entries space page want (layout_of st)) t takes in
    subst (λ u. u.state.used ≡ set st.used u.frame (Some (record { age = st.entries; wired = want.wired; claim = None }))) place.2 refl

-- and is one of the frames that there are
pub taken_known : (out : List (Option Framed)) (st : FrameState) (space page : ℕ) (want : Want) (t : Taking) → IsTable out st
    → frame_of st space page ≡ None → take_frame st space page want ≡ Some t → t.frame < length out
taken_known out st space page want t table none takes =
    let place = taking_from st want (placing st.entries space page want (layout_of st)) t takes in
    let places = WasPlaced-placing (layout_of st) st.entries space page want place.0 table.sound.laid none place.1 in
    omega (arith, places.known, ap (λ u. u.frame) place.2, table.known)

-- a frame is taken for a page, and is out then
pub IsTable-taken : (out : List (Option Framed)) (st : FrameState) (space page : ℕ) (want : Want) (t : Taking) (frame : Framed)
    → IsTable out st → frame_of st space page ≡ None → take_frame st space page want ≡ Some t → frame.number ≡ t.frame
    → IsTable (set out frame.number (Some frame)) (counted t.state)
IsTable-taken out st space page want t frame table none takes same =
    let known : frame.number < length out = omega (arith, same, taken_known out st space page want t table none takes) in
    IsTable-after out (set out frame.number (Some frame)) st (counted t.state) table
    (IsSound-take _ _ st space page want t table.sound none takes) (length-set out frame.number (Some frame))
    (subst (AreOut (set out frame.number (Some frame)))
    (ap (λ k. set st.used k (Some (record { age = st.entries; wired = want.wired; claim = None }))) same
    ∙ sym (taken_used st space page want t takes))
    (AreOut-set out st.used frame.number (Some frame) (Some (record { age = st.entries; wired = want.wired; claim = None }))
    table.exact known (used_long out st table) refl))

-- a processor drops what it holds, and no used place changes
pub used-dropped : (st : FrameState) (c : ℕ) → (dropped st c).used ≡ st.used
used-dropped st c = of_held (held_by st c)
  where
    of_held : (o : Option ℕ) → (dropped_in st c o).used ≡ st.used
    of_held None = refl
    of_held (Some frame) = refl

pub IsTable-dropped : (out : List (Option Framed)) (st : FrameState) (c : ℕ) → IsTable out st → IsTable out (dropped st c)
IsTable-dropped out st c table =
    IsTable-after out out st (dropped st c) table (IsSound-dropped _ _ st c table.sound) refl
    (subst (AreOut out) (sym (used-dropped st c)) table.exact)

pub IsTable-counted : (out : List (Option Framed)) (st : FrameState) → IsTable out st → IsTable out (counted st)
IsTable-counted out st table =
    IsTable-after out out st (counted st) table (IsSound-counted _ _ st table.sound) refl table.exact

-- what is noted of a frame is used whoever claims it
used_claimed : (claim : Option ℕ) (o : Option Used) → is_some (with_claim claim o) ≡ is_some o
used_claimed claim None = refl
used_claimed claim (Some u) = refl

IsTable-reclaimed : (out : List (Option Framed)) (st : FrameState) (at : ℕ) (claim : Option ℕ) → IsTable out st
    → IsSound (length st.free) (length st.held) (claimed st at claim) → IsTable out (claimed st at claim)
IsTable-reclaimed out st at claim table sound =
    IsTable-after out out st (claimed st at claim) table sound refl
    (AreOut-same out st.used (set st.used at (with_claim claim (used_at st at))) table.exact
    (map-set_same is_some st.used at (with_claim claim (used_at st at)) None (used_claimed claim (used_at st at))))

pub IsTable-claimed : (out : List (Option Framed)) (st : FrameState) (space page frame c : ℕ) → IsTable out st → c < length st.held
    → HasNothing st c → IsVictim st space page frame → IsTable out (counted (claimed st frame (Some c)))
IsTable-claimed out st space page frame c table known nothing victim =
    IsTable-counted out (claimed st frame (Some c)) (IsTable-reclaimed out st frame (Some c) table
    (IsSound-claimed _ _ st frame c table.sound known nothing victim.evictable))

pub IsTable-unclaimed : (out : List (Option Framed)) (st : FrameState) (frame : ℕ) → IsTable out st
    → IsTable out (counted (claimed st frame None))
IsTable-unclaimed out st frame table =
    IsTable-counted out (claimed st frame None) (IsTable-reclaimed out st frame None table (IsSound-unclaimed _ _ st frame table.sound))

pub IsTable-pinned : (out : List (Option Framed)) (st : FrameState) (space first len : ℕ) (wired : Bool) → IsTable out st
    → (wired ≡ true → lowest_claimed st space first len ≡ None) → IsTable out (counted (pin_range st space first len wired))
IsTable-pinned out st space first len wired table may =
    let after = pin_range st space first len wired in
    IsTable-counted out after (IsTable-after out out st after table (IsSound-pinned _ _ st space first len wired table.sound may) refl
    (AreOut-same out st.used after.used table.exact (same-places st space wired (range_with_len first len) st.used)))

-- the frame of a page is out, at its number
pub page_out : (out : List (Option Framed)) (st : FrameState) (space page frame : ℕ) → IsTable out st
    → frame_of st space page ≡ Some frame → number_in (get_or out frame None) ≡ Some frame
page_out out st space page frame table is =
    let noted : is_some (used_at st frame) ≡ true = sym (is_used-layout_of st frame) ∙ (frame_in-found (layout_of st) space page frame is).used in
    table.exact frame ∙ ap (λ b. cond b (Some frame) None) noted

-- what is there has a place
number_known : (out : List (Option Framed)) (f n : ℕ) → number_in (get_or out f None) ≡ Some n → f < length out
number_known out f n is = elim (cases_lt f (length out)) [
  | inl within ↦ within
  | inr past ↦ absurd (none-some n (sym (ap number_in (get_or_past out f None past)) ∙ is))
]

-- a page gives its frame up, which goes back to the pool
pub IsTable-given : (out : List (Option Framed)) (st : FrameState) (space page frame : ℕ) → IsTable out st
    → frame_of st space page ≡ Some frame → IsTable (set out frame None) (give_page st space page)
IsTable-given out st space page frame table is =
    let known = number_known out frame frame (page_out out st space page frame table is) in
    let place = frame_in-found (layout_of st) space page frame is in
    let used : (give_page st space page).used ≡ set st.used frame None = ap (λ o. (given_in st page o).used)
    (covering-is (layout_of st) space page place.id place.reservation table.sound.laid place.is place.covers_page)
    ∙ ap (λ k. set st.used k None) (sym place.frame) in
    IsTable-after out (set out frame None) st (give_page st space page) table
    (IsSound-give_page _ _ st space page frame table.sound is) (length-set out frame None)
    (subst (AreOut (set out frame None)) (sym used) (AreOut-set out st.used frame None None table.exact known (used_long out st table) refl))

-- wiring either counts the change alone, or wires the range
pub IsTable-tried : (out : List (Option Framed)) (st after : FrameState) (space first len : ℕ) (wired : Bool) (kept : Option Kept)
    → IsTable out st
    → IfSome kept (λ k. (wired ≡ true) × (lowest_claimed st space first len ≡ Some k.page)
    × (frame_of st space k.page ≡ Some k.frame) × (after ≡ counted st))
    → IfNone kept ((wired ≡ true → lowest_claimed st space first len ≡ None) × (after ≡ counted (pin_range st space first len wired)))
    → IsTable out after
IsTable-tried out st after space first len wired None table some none =
    rw none.1 (IsTable-pinned out st space first len wired table none.0)
IsTable-tried out st after space first len wired (Some k) table some none = rw some.3 (IsTable-counted out st table)
