-- The state of the frames: their layout, what is noted of each used place, and the frames that processors hold; which entries it
-- allows, and what each does to it.
use Rattle.std.specs.Prelude.{ℕ, zero, suc, ◌≡◌, ◌+◌, ◌-◌, ◌<◌, ◌≤◌, ◌^◌, Bool, true, false, ◌&&◌, not, nat_lt, if◌then◌else◌, List, replicate, slice_index_or, slice_set, map, fold, find, sum_by, count_by, option_map, Option, Some, None, is_some, is_none, IsSomeAnd}
use Rattle.std.specs.List.{range_with_len, list_any}
use Rattle.pager_model.specs.declared.call.Call.{Call}
use Rattle.pager_model.specs.declared.call.Call.TheVariants.{Evict}
use Rattle.pager_model.specs.declared.entry.Entry.{Entry}
use Rattle.pager_model.specs.declared.entry.Want.{Want}
use Rattle.pager_model.specs.declared.entry.What.{What}
use Rattle.pager_model.specs.declared.entry.What.TheVariants.{Answer, Take, Give, Clear, Claim, UseHeld, DropHeld, Got, Unclaim, Refused, Pin, Kept, Rest}
use Rattle.pager_model.specs.declared.reservation.Reservation.{Reservation}
use Rattle.pager_model.specs.declared.reservation.Used.{Used}
use Rattle.pager_model.specs.SizeSets.{SizeSet}
use Rattle.pager_model.specs.Layouts.{Layout, Placing, covering, frame_for, frame_in, placing, is_full, vacate_layout, carve_layout, put_back}

pub record FrameState : Type 0 where
  -- which page sizes there are
  pub sizes : SizeSet
  -- for each frame whether it is free
  pub free : List Bool
  -- for each frame the reservation that begins at it, where one does
  pub records : List (Option Reservation)
  -- for each frame what is noted of it as a used place, where it is one
  pub used : List (Option Used)
  -- for each processor the frame that it holds, where it holds one
  pub held : List (Option ℕ)
  -- how many entries on the frames there were
  pub entries : ℕ
  -- how many takings broke a reservation
  pub preemptions : ℕ

-- at first all frames are free
abbrev pub start_frames : SizeSet → ℕ → ℕ → FrameState
start_frames z frames processors =
    record {
      sizes = z;
      free = replicate frames true;
      records = replicate frames None;
      used = replicate frames None;
      held = replicate processors None;
      entries = 0;
      preemptions = 0;
    }

-- the layout of the frames
abbrev pub layout_of : FrameState → Layout
layout_of st = record { sizes = st.sizes; free = st.free; records = st.records; used = map is_some st.used }

abbrev pub used_at : FrameState → ℕ → Option Used
used_at st frame = slice_index_or st.used frame None

-- the frame that a processor holds
abbrev pub held_by : FrameState → ℕ → Option ℕ
held_by st processor = slice_index_or st.held processor None

-- the frame that is the used place of the page, where there is one
abbrev pub frame_of : FrameState → ℕ → ℕ → Option ℕ
frame_of st space page = frame_in (layout_of st) space page

abbrev pub claim_in : Option Used → Option ℕ
claim_in None = None
claim_in (Some u) = u.claim

-- the processor neither holds a frame nor claims one
pub record HasNothing (st : FrameState) (processor : ℕ) : Type 0 where
  pub holds_none : held_by st processor ≡ None
  pub claims_none : (frame : ℕ) → claim_in (used_at st frame) ≡ Some processor → ⊥

-- one entry more
abbrev pub counted : FrameState → FrameState
counted st = record st { entries = st.entries + 1 }

-- Taking.

-- The state after a taking, and the frame taken.
pub record Taking : Type 0 where
  pub state : FrameState
  pub frame : ℕ

-- the page has its place: its age is the count of entries
abbrev pub taken : FrameState → Want → Placing → FrameState
taken st want place =
    record st {
      sizes = place.layout.sizes;
      free = place.layout.free;
      records = place.layout.records;
      used = slice_set st.used place.frame (Some (record { age = st.entries; wired = want.wired; claim = None }));
      preemptions = st.preemptions + place.broken;
    }

abbrev pub taking : FrameState → Want → Placing → Taking
taking st want place = record { state = taken st want place; frame = place.frame }

-- Taking a frame for a page, which has none, at the count of entries.
abbrev pub take_frame : FrameState → ℕ → ℕ → Want → Option Taking
take_frame st space page want = option_map (taking st want) (placing st.entries space page want (layout_of st))

-- no frame can be had: none is free, and every reservation is full
abbrev pub IsFull : FrameState → Type 0
IsFull st = is_full (layout_of st) ≡ true

abbrev pub state_taken : FrameState → Option Taking → FrameState
state_taken st None = st
state_taken st (Some t) = t.state

-- Giving up.

-- the layout after a used frame of a reservation is given up, by whether a processor claims it
abbrev pub layout_given : Option ℕ → ℕ → Reservation → Layout → Layout
layout_given None frame r l = vacate_layout frame r l
layout_given (Some processor) frame r l = carve_layout frame r l

-- who claims the frame holds it then
abbrev pub held_given : Option ℕ → ℕ → List (Option ℕ) → List (Option ℕ)
held_given None frame held = held
held_given (Some processor) frame held = slice_set held processor (Some frame)

-- A used frame of a reservation is given up. Where nobody claims it, its place is unused, and a reservation without a used place
-- is free; where a processor claims it, it is carved out of its reservation, and the processor holds it.
abbrev pub given : FrameState → ℕ → Reservation → FrameState
given st frame r =
    record st {
      sizes = (layout_given (claim_in (used_at st frame)) frame r (layout_of st)).sizes;
      free = (layout_given (claim_in (used_at st frame)) frame r (layout_of st)).free;
      records = (layout_given (claim_in (used_at st frame)) frame r (layout_of st)).records;
      used = slice_set st.used frame None;
      held = held_given (claim_in (used_at st frame)) frame st.held;
    }

abbrev pub given_in : FrameState → ℕ → Option Reservation → FrameState
given_in st page None = st
given_in st page (Some r) = given st (frame_for page r) r

-- the page gives its frame up
abbrev pub give_page : FrameState → ℕ → ℕ → FrameState
give_page st space page = given_in st page (covering space page st.records)

abbrev pub give_if_used : ℕ → FrameState → ℕ → FrameState
give_if_used space st page = if is_some (frame_of st space page) then give_page st space page else st

-- each page of a range that has a frame gives it up, ascending by page
abbrev pub give_range : FrameState → ℕ → ℕ → ℕ → FrameState
give_range st space first len = fold (give_if_used space) st (range_with_len first len)

-- Claiming and holding.

abbrev pub with_claim : Option ℕ → Option Used → Option Used
with_claim claim None = None
with_claim claim (Some u) = Some (record u { claim = claim })

-- the used frame is claimed by this processor, or by none
abbrev pub claimed : FrameState → ℕ → Option ℕ → FrameState
claimed st frame claim =
    record st { used = slice_set st.used frame (with_claim claim (used_at st frame)) }

abbrev pub dropped_in : FrameState → ℕ → Option ℕ → FrameState
dropped_in st processor None = st
dropped_in st processor (Some frame) =
    record st { free = (put_back frame (layout_of st)).free; held = slice_set st.held processor None }

-- the frame that the processor holds is free
abbrev pub dropped : FrameState → ℕ → FrameState
dropped st processor = dropped_in st processor (held_by st processor)

-- Wiring.

abbrev pub with_wired : Bool → Option Used → Option Used
with_wired wired None = None
with_wired wired (Some u) = Some (record u { wired = wired })

-- a used place, where there is one, is wired, or is no longer
abbrev pub wire_place : Bool → List (Option Used) → Option ℕ → List (Option Used)
wire_place wired used None = used
wire_place wired used (Some frame) = slice_set used frame (with_wired wired (slice_index_or used frame None))

-- the page's
abbrev pub wire_page : Layout → ℕ → Bool → List (Option Used) → ℕ → List (Option Used)
wire_page l space wired used page = wire_place wired used (frame_in l space page)

-- each used place of a range of pages is wired, or is no longer
abbrev pub pin_range : FrameState → ℕ → ℕ → ℕ → Bool → FrameState
pin_range st space first len wired =
    record st { used = fold (wire_page (layout_of st) space wired) st.used (range_with_len first len) }

abbrev pub is_claimed_in : List (Option Used) → Option ℕ → Bool
is_claimed_in used None = false
is_claimed_in used (Some frame) = is_some (claim_in (slice_index_or used frame None))

-- the page has a used place, which a processor claims
abbrev pub is_claimed_page : Layout → List (Option Used) → ℕ → ℕ → Bool
is_claimed_page l used space page = is_claimed_in used (frame_in l space page)

-- the lowest page of a range whose used place is claimed
abbrev pub lowest_claimed : FrameState → ℕ → ℕ → ℕ → Option ℕ
lowest_claimed st space first len = find (is_claimed_page (layout_of st) st.used space) (range_with_len first len)

-- a used place that may be paged out: its page is in no wired region, and no processor claims it
abbrev pub is_evictable : Option Used → Bool
is_evictable None = false
is_evictable (Some u) = not u.wired && is_none u.claim

-- some used frame may be claimed
abbrev pub has_evictable : FrameState → Bool
has_evictable st = list_any is_evictable st.used

abbrev pub age_in : Option Used → ℕ
age_in None = 0
age_in (Some u) = u.age

-- The victim: of the used places that may be paged out the one of least age, which is this page's.
pub record IsVictim (st : FrameState) (space page frame : ℕ) : Type 0 where
  pub place : frame_of st space page ≡ Some frame
  pub evictable : is_evictable (used_at st frame) ≡ true
  pub least : (other : ℕ) → is_evictable (used_at st other) ≡ true → age_in (used_at st frame) ≤ age_in (used_at st other)

-- Counts.

-- how many frames are free, used places, and unused places
abbrev pub free_count : FrameState → ℕ
free_count st = count_by (λ free. free) st.free

abbrev pub used_count : FrameState → ℕ
used_count st = count_by is_some st.used

abbrev pub places_in : Option Reservation → ℕ
places_in None = 0
places_in (Some r) = 8 ^ r.size

abbrev pub reserved_count : FrameState → ℕ
reserved_count st = sum_by places_in st.records - used_count st

-- a used place of a page in a wired region
abbrev pub is_wired_place : Option Used → Bool
is_wired_place None = false
is_wired_place (Some u) = u.wired

-- a used place whose frame a processor claims
abbrev pub is_claimed_place : Option Used → Bool
is_claimed_place place = is_some (claim_in place)

abbrev pub wired_count : FrameState → ℕ
wired_count st = count_by is_wired_place st.used

abbrev pub claimed_count : FrameState → ℕ
claimed_count st = count_by is_claimed_place st.used

-- how many processors hold a frame
abbrev pub held_count : FrameState → ℕ
held_count st = count_by is_some st.held

-- free frames and unused places are fewer than a low mark
abbrev pub is_short : FrameState → ℕ → Bool
is_short st mark = nat_lt (free_count st + reserved_count st) mark

-- What entries do.

-- the space that an entry names; None never comes, since an entry that takes or gives names one
abbrev pub named_space : Option ℕ → ℕ
named_space None = 0
named_space (Some s) = s

-- an answer that names the frames is of an evict, whose page gives its frame up
abbrev pub moved_by_answer : FrameState → ℕ → Call → FrameState
moved_by_answer st space (Evict s page) = give_page st space page
moved_by_answer st space call = st

-- what an entry of a processor does to the frames, but for the count
abbrev pub moved : FrameState → ℕ → Option ℕ → What → FrameState
moved st c space (Answer number call answered) = moved_by_answer st (named_space space) call
moved st c space (Take page frame want) = state_taken st (take_frame st (named_space space) page want)
moved st c space (Give page frame) = give_page st (named_space space) page
moved st c space (Clear first len) = give_range st (named_space space) first len
moved st c space (Claim victim page frame need) = claimed st frame (Some c)
moved st c space (UseHeld page frame want) = state_taken (dropped st c) (take_frame (dropped st c) (named_space space) page want)
moved st c space (DropHeld frame) = dropped st c
moved st c space (Unclaim frame) = claimed st frame None
moved st c space (Pin first len wired) = pin_range st (named_space space) first len wired
moved st c space what = st

abbrev pub frames_after : FrameState → Entry → FrameState
frames_after st e = counted (moved st e.processor e.space e.what)

-- a processor that makes calls claims where no frame can be had, and a daemon where frames are short by its mark
abbrev pub MayClaim : FrameState → ℕ → Type 0
MayClaim st zero = IsFull st
MayClaim st (suc n) = is_short st (suc n) ≡ true

-- No frame can be had, and no used frame may be claimed; so many are wired, claimed and held.
pub record IsRefused (st : FrameState) (wired claimed held : ℕ) : Type 0 where
  pub full : IsFull st
  pub no_victim : has_evictable st ≡ false
  pub wired_are : wired ≡ wired_count st
  pub claimed_are : claimed ≡ claimed_count st
  pub held_are : held ≡ held_count st

abbrev pub AllowsAnswer : FrameState → ℕ → Call → Type 0
AllowsAnswer st space (Evict s page) = (frame : ℕ) × (frame_of st space page ≡ Some frame)
AllowsAnswer st space call = ⊥

-- Which entries of a processor with this mark the frames allow.
abbrev pub FramesAllow : FrameState → ℕ → ℕ → Option ℕ → What → Type 0
FramesAllow st mark c space (Answer number call answered) = AllowsAnswer st (named_space space) call
FramesAllow st mark c space (Take page frame want) =
    (frame_of st (named_space space) page ≡ None) × HasNothing st c × IsSomeAnd (take_frame st (named_space space) page want)
    (λ t. t.frame ≡ frame)
FramesAllow st mark c space (Give page frame) = frame_of st (named_space space) page ≡ Some frame
FramesAllow st mark c space (Clear first len) = Unit {0}
FramesAllow st mark c space (Claim victim page frame need) = HasNothing st c × IsVictim st victim page frame × MayClaim st mark
FramesAllow st mark c space (UseHeld page frame want) =
    (frame_of st (named_space space) page ≡ None) × ((h : ℕ) × (held_by st c ≡ Some h))
    × IsSomeAnd (take_frame (dropped st c) (named_space space) page want) (λ t. t.frame ≡ frame)
FramesAllow st mark c space (DropHeld frame) = held_by st c ≡ Some frame
FramesAllow st mark c space (Got frame) = held_by st c ≡ Some frame
FramesAllow st mark c space (Unclaim frame) =
    (claim_in (used_at st frame) ≡ Some c) × ((page : ℕ) × (frame_of st (named_space space) page ≡ Some frame))
FramesAllow st mark c space (Refused wired claimed held) = HasNothing st c × IsRefused st wired claimed held
FramesAllow st mark c space (Pin first len wired) = wired ≡ true → lowest_claimed st (named_space space) first len ≡ None
FramesAllow st mark c space (Kept first len page frame) =
    (lowest_claimed st (named_space space) first len ≡ Some page) × (frame_of st (named_space space) page ≡ Some frame)
FramesAllow st mark c space (Rest short) = HasNothing st c × (0 < mark) × (short ≡ (is_short st mark && has_evictable st))
FramesAllow st mark c space what = ⊥
