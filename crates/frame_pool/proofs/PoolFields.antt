-- What each move keeps true of a pool's fields.
use Rattle.std.proofs.Common.{◌≡◌, ◌≢◌, ℕ, ◌+◌, ◌<◌, ◌≤◌, Bool, true, false, cond, List, length, get_or, set, map, Option, Some, None, option_map, replicate, refl, sym, ap, subst, ◌∙◌, inl, inr, arith}
use Rattle.std.specs.List.{range_with_len}
use Rattle.std.specs.Option.{is_some, IsSome, IfSome}
use Rattle.std.proofs.Math.ListN.{get_or-map}
use Rattle.std.proofs.Math.Seq.{map-set_same}
use Rattle.std.proofs.lemmas.Bool.{cases_eq, cases_lt, false≢true}
use Rattle.std.proofs.lemmas.List.{get_or-set_same, get_or-set_other, get_or_past, get_or_read, length-map, length-replicate, length-set, map-set}
use Rattle.std.proofs.lemmas.List.{get_or-map as get_or_map_within}
use Rattle.std.proofs.lemmas.List.FromFn.{get_or-map-range_with_len, length-range_with_len}
use Rattle.pager_model.specs.Bounds.{most_frames}
use Rattle.pager_model.specs.SizeSets.{SizeSet}
use Rattle.pager_model.specs.Frame.{Framed, zero_frame}
use Rattle.pager_model.specs.declared.entry.Want.{Want}
use Rattle.pager_model.specs.declared.reservation.Reservation.{Reservation}
use Rattle.pager_model.specs.declared.reservation.Used.{Used}
use Rattle.pager_model.specs.Agreement.{has_frame}
use Rattle.pager_model.specs.FrameStates.{FrameState, start_frames, layout_of, used_at, held_by, claim_in, frame_of, HasNothing, taking, Taking, take_frame, counted, layout_given, held_given, given, give_page, given_in, with_claim, claimed, pin_range, lowest_claimed, dropped_in, is_evictable}
use Rattle.pager_model.specs.Layouts.{Layout, start_layout, placing, put_back, record_at}
use Rattle.pager_model.specs.Records.{is_used}
use Rattle.pager_model.proofs.Lists.{get_or-alike}
use Rattle.pager_model.proofs.Options.{none_from_is_some}
use Rattle.frame_pool.specs.declared.layout.Place.{Place}
use Rattle.frame_pool.specs.declared.pool.Pool.TheInside.{Inside}
use Rattle.pager_laws.specs.Laid.{IsLaid, IsSound}
use Rattle.frame_pool.specs.Placed.{IsPageAt, PlacesPage}
use Rattle.frame_pool.specs.PoolState.{state_of}
use Rattle.frame_pool.specs.Pooled.{IsPool, number_in}
use Rattle.frame_pool.proofs.PlacingResult.{Asked}
use Rattle.pager_laws.proofs.PagePlaces.{covers-CoversPageOf, has_frame_for, HasPlace, frame_in-from, frame_in-found, covering-is}
use Rattle.pager_laws.proofs.LayoutRelease.{Gives-vacate, Gives-carve}
use Rattle.pager_laws.proofs.LayoutPlacing.{WasPlaced-placing}
use Rattle.pager_laws.proofs.StateSoundness.{is_used-layout_of, used_if_noted, IsSound-take, IsSound-counted, IsSound-give_page, IsSound-claimed, IsSound-unclaimed, IsSound-pinned, IsSound-dropped}
use Rattle.pager_laws.proofs.PinnedPlaces.{same-places}
use Rattle.pager_laws.proofs.StartStates.{IsSound-start, nothing_used}

-- The frames that are there.

-- each frame is there exactly where its place isn't used
abbrev pub AreHere : List (Option Framed) → List (Option Used) → Type 0
AreHere frames used = (f : ℕ) → f < length frames → number_in (get_or frames f None) ≡ cond (is_some (get_or used f None)) None (Some f)

-- a place and its frame are written together
AreHere-set : (frames : List (Option Framed)) (used : List (Option Used)) (at : ℕ) (frame : Option Framed) (place : Option Used)
    → AreHere frames used → length used ≡ length frames → number_in frame ≡ cond (is_some place) None (Some at)
    → AreHere (set frames at frame) (set used at place)
AreHere-set frames used at frame place here long fits = λ f known.
    let within : f < length frames = omega (arith, length-set frames at frame) in
    elim (cases_eq f at) [
      | inl same ↦
          let at_frames : get_or (set frames at frame) f None ≡ frame = ap (λ k. get_or (set frames at frame) k None) same
          ∙ get_or-set_same frames at frame None (omega (arith, same)) in
          let at_used : get_or (set used at place) f None ≡ place = ap (λ k. get_or (set used at place) k None) same
          ∙ get_or-set_same used at place None (omega (arith, same)) in
          ap number_in at_frames ∙ fits ∙ ap (λ k. cond (is_some place) None (Some k)) (sym same)
          ∙ ap (λ o. cond (is_some o) None (Some f)) (sym at_used)
      | inr other ↦
          ap number_in (get_or-set_other frames at f frame None other) ∙ here f within
          ∙ ap (λ o. cond (is_some o) None (Some f)) (sym (get_or-set_other used at f place None other))
    ]

-- which places are used is all that counts
AreHere-same : (frames : List (Option Framed)) (used after : List (Option Used)) → AreHere frames used
    → map is_some after ≡ map is_some used → AreHere frames after
AreHere-same frames used after here same = λ f known.
    let still : is_some (get_or used f None) ≡ is_some (get_or after f None) = sym (get_or-map is_some used f None)
    ∙ sym (ap (λ us. get_or us f false) same) ∙ get_or-map is_some after f None in
    here f known ∙ ap (λ b. cond b None (Some f)) still

-- A pool after a move.

-- the layout of a pool is that of its state
pub layout_of-pool : (p : Inside) → IsPool p.frames.items p.layout p.used.processors (state_of p) → layout_of (state_of p) ≡ p.layout
layout_of-pool p pool = ap (λ us. record { sizes = p.layout.sizes; free = p.layout.free; records = p.layout.records; used = us })
    (sym pool.same_used)

-- so this layout is sound
laid : (p : Inside) → IsPool p.frames.items p.layout p.used.processors (state_of p) → IsLaid p.layout
laid p pool = subst IsLaid (layout_of-pool p pool) pool.sound.laid

-- of each frame it is noted whether it is used
pub used_long : (frames : List (Option Framed)) (l : Layout) (claimers : ℕ) (st : FrameState) → IsPool frames l claimers st
    → length st.used ≡ length frames
used_long frames l claimers st pool = sym (length-map st.used is_some) ∙ pool.sound.laid.used_long ∙ sym pool.frames_known

-- what a move leaves is a pool, where the state stays sound and the frames are there as it says
IsPool-after : (frames : List (Option Framed)) (l : Layout) (claimers : ℕ) (st : FrameState) (moved : List (Option Framed)) (m : Layout)
    (after : FrameState)
    → IsPool frames l claimers st → IsSound (length st.free) (length st.held) after → m.used ≡ map is_some after.used
    → length moved ≡ length frames → AreHere moved after.used → after.preemptions ≤ after.entries → IsPool moved m claimers after
IsPool-after frames l claimers st moved m after pool sound same long here few = record {
  sound = subst (λ n. IsSound n (length after.held) after) (sym sound.known)
      (subst (λ n. IsSound (length st.free) n after) (sym sound.processors_known) sound);
  same_used = same;
  few_frames = omega (arith, sound.known, pool.few_frames);
  few_processors = omega (arith, sound.processors_known, pool.few_processors);
  claimers_known = pool.claimers_known ∙ sym sound.processors_known;
  frames_known = long ∙ pool.frames_known ∙ sym sound.known;
  here = here;
  few_broken = few;
}

-- what is noted of a frame is used whoever claims it
used_claimed : (claim : Option ℕ) (o : Option Used) → is_some (with_claim claim o) ≡ is_some o
used_claimed claim None = refl
used_claimed claim (Some u) = refl

-- a frame is claimed by a processor that has nothing, or by none, and the entry is counted
IsPool-reclaimed : (frames : List (Option Framed)) (l : Layout) (claimers : ℕ) (st : FrameState) (at : ℕ) (claim : Option ℕ)
    → IsPool frames l claimers st → IsSound (length st.free) (length st.held) (claimed st at claim)
    → IsPool frames l claimers (counted (claimed st at claim))
IsPool-reclaimed frames l claimers st at claim pool sound =
    let still = map-set_same is_some st.used at (with_claim claim (used_at st at)) None (used_claimed claim (used_at st at)) in
    IsPool-after frames l claimers st frames l (counted (claimed st at claim)) pool (IsSound-counted _ _ (claimed st at claim) sound)
    (pool.same_used ∙ sym still) refl
    (AreHere-same frames st.used (set st.used at (with_claim claim (used_at st at))) pool.here still)
    (omega (arith, pool.few_broken))

pub IsPool-claimed : (frames : List (Option Framed)) (l : Layout) (claimers : ℕ) (st : FrameState) (at c : ℕ) → IsPool frames l claimers st
    → c < length st.held → HasNothing st c → is_evictable (used_at st at) ≡ true
    → IsPool frames l claimers (counted (claimed st at (Some c)))
IsPool-claimed frames l claimers st at c pool known nothing may =
    IsPool-reclaimed frames l claimers st at (Some c) pool (IsSound-claimed _ _ st at c pool.sound known nothing may)

pub IsPool-unclaimed : (frames : List (Option Framed)) (l : Layout) (claimers : ℕ) (st : FrameState) (at : ℕ) → IsPool frames l claimers st
    → IsPool frames l claimers (counted (claimed st at None))
IsPool-unclaimed frames l claimers st at pool = IsPool-reclaimed frames l claimers st at None pool (IsSound-unclaimed _ _ st at pool.sound)

-- the places of a range are wired, or are no longer
pub IsPool-pinned : (frames : List (Option Framed)) (l : Layout) (claimers : ℕ) (st : FrameState) (space first len : ℕ) (wired : Bool)
    → IsPool frames l claimers st → (wired ≡ true → lowest_claimed st space first len ≡ None)
    → IsPool frames l claimers (counted (pin_range st space first len wired))
IsPool-pinned frames l claimers st space first len wired pool may =
    let after = pin_range st space first len wired in
    let still = same-places st space wired (range_with_len first len) st.used in
    IsPool-after frames l claimers st frames l (counted after) pool
    (IsSound-counted _ _ after (IsSound-pinned _ _ st space first len wired pool.sound may))
    (pool.same_used ∙ sym still) refl (AreHere-same frames st.used after.used pool.here still) (omega (arith, pool.few_broken))

-- a processor that holds a frame is one of those that there are
pub held_known : (st : FrameState) (c : ℕ) → IsSome (held_by st c) → c < length st.held
held_known st c holds = elim (cases_lt c (length st.held)) [
  | inl within ↦ within
  | inr past ↦ absurd (false≢true (subst IsSome (get_or_past st.held c None past) holds))
]

-- what is read where a processor holds a frame is the frame
pub read_held : (st : FrameState) (c : ℕ) (read : Option ℕ) → IsSome (held_by st c) → read ≡ get_or st.held c read → held_by st c ≡ read
read_held st c read holds is = sym (get_or_read st.held c read (held_known st c holds) is None)

-- a held frame is put back
pub IsPool-dropped : (frames : List (Option Framed)) (l : Layout) (claimers : ℕ) (st : FrameState) (c frame : ℕ)
    → IsPool frames l claimers st → held_by st c ≡ Some frame → IsPool frames (put_back frame l) claimers (dropped_in st c (Some frame))
IsPool-dropped frames l claimers st c frame pool holds =
    let sound = subst (λ o. IsSound (length st.free) (length st.held) (dropped_in st c o)) holds (IsSound-dropped _ _ st c pool.sound) in
    IsPool-after frames l claimers st frames (put_back frame l) (dropped_in st c
    (Some frame)) pool sound pool.same_used refl pool.here pool.few_broken

-- At first all frames are there.

abbrev pub all_frames : ℕ → List (Option Framed)
all_frames n = map (λ f. Some f) (map zero_frame (range_with_len 0 n))

length-all_frames : (n : ℕ) → length (all_frames n) ≡ n
length-all_frames n = simp (length-map, length-range_with_len)

AreHere-start : (n : ℕ) → AreHere (all_frames n) (replicate n None)
AreHere-start n = λ f known.
    let below : f < n = omega (arith, length-all_frames n) in
    let within : f < length (map zero_frame (range_with_len 0 n)) = simp (length-map, length-range_with_len) below in
    let at : get_or (all_frames n) f None ≡ Some (zero_frame f) =
    get_or_map_within (λ g. Some g) _ f (zero_frame 0) None within
    ∙ ap (λ g. Some g) (get_or-map-range_with_len zero_frame 0 n f f (zero_frame 0) below (omega arith)) in
    ap number_in at ∙ ap (λ o. cond (is_some o) None (Some f)) (sym (get_or-alike n f None))

pub IsPool-start : (z : SizeSet) (n processors : ℕ) → n ≤ most_frames → processors ≤ 17
    → IsPool (all_frames n) (start_layout z n) processors (start_frames z n processors)
IsPool-start z n processors few few_processors =
    let frames_long = length-replicate n true in
    let held_long = length-replicate {A = Option ℕ} processors None in
    record {
      sound =
          subst (λ k. IsSound k (length (start_frames z n processors).held) (start_frames z n processors)) (sym frames_long)
          (subst (λ k. IsSound n k (start_frames z n processors)) (sym held_long) (IsSound-start z n processors));
      same_used = sym (nothing_used n);
      few_frames = omega (arith, frames_long);
      few_processors = omega (arith, held_long);
      claimers_known = sym held_long;
      frames_known = length-all_frames n ∙ sym frames_long;
      here = AreHere-start n;
      few_broken = omega arith;
    }

-- What a pool's answers tell.

-- what may be paged out is noted
pub noted_evictable : (st : FrameState) (frame : ℕ) → is_evictable (used_at st frame) ≡ true → used_at st frame ≢ None
noted_evictable st frame may none = false≢true (sym (ap is_evictable none) ∙ may)

-- the page that its reservation joins to a used place has it
pub page_of : (st : FrameState) (frame page : ℕ) (r : Reservation) → IsLaid (layout_of st) → record_at (layout_of st) r.frame ≡ Some r
    → used_at st frame ≢ None → IsPageAt r frame page → frame_of st r.space page ≡ Some frame
page_of st frame page r laid is noted at =
    frame_in-from (layout_of st) r.space page frame laid (record {
      id = r.frame;
      reservation = r;
      is = is;
      covers_page = covers-CoversPageOf r.space page r (record { space_is = refl; low = at.has.0; high = at.has.1 });
      frame = sym at.joined;
      used = used_if_noted st frame noted;
    })

-- Taking.

-- the state once a page has its place in this layout, with the entry counted
abbrev pub state_taken : FrameState → Layout → Want → ℕ → ℕ → FrameState
state_taken st m want frame broken =
    record {
      sizes = m.sizes;
      free = m.free;
      records = m.records;
      used = set st.used frame (Some (record { age = st.entries; wired = want.wired; claim = None }));
      held = st.held;
      entries = st.entries + 1;
      preemptions = st.preemptions + broken;
    }

-- A page has its place in a layout, whose frame is taken out of the pool.
module _ (p : Inside) (a : Asked) (m : Layout) (place : Place) (pool : IsPool p.frames.items p.layout p.used.processors (state_of p))
    (none : frame_of (state_of p) a.space a.page ≡ None)
    (placed : PlacesPage p.layout m (placing p.entries a.space a.page a.want p.layout) place.frame place.broken) where
  abbrev pub taking_of : Taking
  taking_of = taking (state_of p) a.want placed.place

  -- the placing is of the state's layout as well
  placing_is : placing p.entries a.space a.page a.want (layout_of (state_of p)) ≡ Some placed.place
  placing_is = ap (placing p.entries a.space a.page a.want) (layout_of-pool p pool) ∙ placed.is

  pub take_frame-placed : take_frame (state_of p) a.space a.page a.want ≡ Some taking_of
  take_frame-placed = ap (option_map (taking (state_of p) a.want)) placing_is

  pub state_taken-is : state_taken (state_of p) m a.want place.frame place.broken ≡ counted taking_of.state
  state_taken-is = rw (placed.layout, placed.same_frame, placed.same_broken) refl

  -- the frame is known, and wasn't used
  pub frame_known : place.frame < length p.frames.items
  frame_known =
      let l = layout_of (state_of p) in
      let places = WasPlaced-placing l p.entries a.space a.page a.want placed.place pool.sound.laid none placing_is in
      omega (arith, places.known, placed.same_frame, pool.frames_known)

  was_unused : is_some (used_at (state_of p) place.frame) ≡ false
  was_unused =
      sym (is_used-layout_of (state_of p) place.frame)
      ∙ ap (λ k. is_used k.used place.frame) (layout_of-pool p pool)
      ∙ placed.unused

  pub nothing_noted : used_at (state_of p) place.frame ≡ None
  nothing_noted = none_from_is_some (used_at (state_of p) place.frame) was_unused

  pub frame_out : (place.frame < length (state_of p).free) × (is_some (used_at (state_of p) place.frame) ≡ false)
  frame_out = (omega (arith, frame_known, pool.frames_known), was_unused)

  -- so it is there
  pub frame_there : (read : Option Framed) → read ≡ get_or p.frames.items place.frame read → number_in read ≡ Some place.frame
  frame_there read is =
      ap number_in (get_or_read p.frames.items place.frame read frame_known is None) ∙ pool.here place.frame frame_known
      ∙ ap (λ b. cond b None (Some place.frame)) was_unused

  pub IsPool-taken : IsPool (set p.frames.items place.frame None) m p.used.processors
      (state_taken (state_of p) m a.want place.frame place.broken)
  IsPool-taken =
      let st = state_of p in
      let noted : Option Used = Some (record { age = p.entries; wired = a.want.wired; claim = None }) in
      let sound = IsSound-take _ _ st a.space a.page a.want taking_of pool.sound none take_frame-placed in
      IsPool-after p.frames.items p.layout p.used.processors st (set p.frames.items place.frame None) m
      (state_taken st m a.want place.frame place.broken) pool
      (subst (IsSound (length st.free) (length st.held)) (sym state_taken-is) sound)
      (placed.used ∙ ap (λ us. set us place.frame true) pool.same_used ∙ sym (map-set is_some st.used place.frame noted))
      (length-set p.frames.items place.frame None)
      (AreHere-set p.frames.items st.used place.frame None noted pool.here
      (used_long p.frames.items p.layout p.used.processors st pool) refl)
      (omega (arith, pool.few_broken, placed.few_broken))

-- Giving up.

-- the state once a frame was given up in this layout, with these held frames
abbrev pub state_given : FrameState → Layout → ℕ → List (Option ℕ) → FrameState
state_given st m frame held =
    record {
      sizes = m.sizes;
      free = m.free;
      records = m.records;
      used = set st.used frame None;
      held = held;
      entries = st.entries;
      preemptions = st.preemptions;
    }

-- A page gives its frame up, and the layout is moved by the claim that was read.
module _ (p : Inside) (space page frame : ℕ) (pool : IsPool p.frames.items p.layout p.used.processors (state_of p))
    (is : frame_of (state_of p) space page ≡ Some frame) where
  place : HasPlace (layout_of (state_of p)) space page frame
  place = frame_in-found (layout_of (state_of p)) space page frame is

  -- the reservation that has the frame
  abbrev giver : Reservation
  giver = place.reservation

  giver_has : has_frame frame (Some giver) ≡ true
  giver_has = ap (λ f. has_frame f (Some giver)) place.frame ∙ has_frame_for space page giver place.covers_page

  pub giver_used : is_used p.layout.used frame ≡ true
  giver_used = ap (λ k. is_used k.used frame) (sym (layout_of-pool p pool)) ∙ place.used

  -- so something is noted of it
  pub frame_noted : is_some (used_at (state_of p) frame) ≡ true
  frame_noted = sym (is_used-layout_of (state_of p) frame) ∙ place.used

  -- the frame is no used place of the layout any more
  used_given : (claim : Option ℕ) → (layout_given claim frame giver p.layout).used ≡ set p.layout.used frame false
  used_given None = (Gives-vacate p.layout place.id frame giver (laid p pool) place.is giver_has giver_used).used
  used_given (Some c) = (Gives-carve p.layout place.id frame giver (laid p pool) place.is giver_has giver_used).used

  module _ (claim : Option ℕ) (m : Layout) (claims : claim ≡ claim_in (used_at (state_of p) frame))
      (moves : (id : ℕ) → IfSome (record_at p.layout id)
      (λ r. has_frame frame (Some r) ≡ true → m ≡ layout_given claim frame r p.layout)) where
    moved : m ≡ layout_given claim frame giver p.layout
    moved = subst (λ o. IfSome o (λ r. has_frame frame (Some r) ≡ true → m ≡ layout_given claim frame r p.layout)) place.is
        (moves place.id) giver_has

    pub give_page-is : state_given (state_of p) m frame (held_given claim frame p.held.items) ≡ give_page (state_of p) space page
    give_page-is =
        let st = state_of p in
        ap (λ k. state_given st k frame (held_given claim frame st.held))
        (moved ∙ ap (layout_given claim frame giver) (sym (layout_of-pool p pool)))
        ∙ ap (λ o. state_given st (layout_given o frame giver (layout_of st)) frame (held_given o frame st.held)) claims
        ∙ ap (λ f. given st f giver) place.frame
        ∙ sym (ap (given_in st page) (covering-is (layout_of st) space page place.id giver pool.sound.laid place.is place.covers_page))

    pub IsPool-given : (back : Framed) → back.number ≡ frame → IsPool (set p.frames.items frame (Some back)) m p.used.processors
        (state_given (state_of p) m frame (held_given claim frame p.held.items))
    IsPool-given back numbered =
        let st = state_of p in
        IsPool-after p.frames.items p.layout p.used.processors st (set p.frames.items frame (Some back)) m
        (state_given st m frame (held_given claim frame st.held)) pool
        (subst (IsSound (length st.free) (length st.held)) (sym give_page-is) (IsSound-give_page _ _ st space page frame pool.sound is))
        (ap (λ k. k.used) moved ∙ used_given claim ∙ ap (λ us. set us frame false) pool.same_used
        ∙ sym (map-set is_some st.used frame None))
        (length-set p.frames.items frame (Some back))
        (AreHere-set p.frames.items st.used frame (Some back) None pool.here (used_long p.frames.items p.layout p.used.processors st pool)
        (ap Some numbered))
        pool.few_broken
