-- The table of steps, one row a phase: what the next step is made under, which space's lock the flight keeps, where its processor is
-- in the order of its entries, who makes the next entry of the space, how much is left to do, and what came of it. The two spaces come from
-- the one table of locks, by the place in the order and by whether an entry led to the phase.
use Rattle.std.specs.Prelude.{ℕ, ◌+◌, ◌-◌, ◌*◌, Bool, true, false, not, if◌then◌else◌, Option, Some, None}
use Rattle.pager_model.specs.declared.call.Call.{Call}
use Rattle.pager_model.specs.declared.call.Call.TheVariants.{Load, Store, Wire, Unwire}
use Rattle.pager_model.specs.declared.entry.Victim.{Victim}
use Rattle.pager_model.specs.declared.reply.Reply.{Reply}
use Rattle.pager_model.specs.Flat.{space_of_call}
use Rattle.pager_model.specs.Locks.{under_in, keeps_in}
use Rattle.pager_model.specs.Order.{Access, Purpose as Claims, ForAccess, ForTurn, Doing, Idle, Looking, Cleared, Pinned, Blocked, Uncopied, Filling, Unfilling, Claiming, Emptied, Unwritten, Holding, Late as AnswersLate, Faulted, Lacking, Refusing, Progress}
use Rattle.pager_model.specs.SpaceStates.{Next, Anyone, Only, AfterClear, AfterPin, access_page}
use Rattle.flight_core.specs.declared.flight.Flight.{Flight}
use Rattle.flight_core.specs.declared.flight.Phase.{Phase}
use Rattle.flight_core.specs.declared.flight.Phase.TheVariants.{Start, Evict, Clear, Pin, Busy, Gone, Frame, Short, Fill, Unfill, Out, Write, Hand, Unclaim, Back, Drop, Late, Use, Fault, Lack, Look, Rested, Ended}
use Rattle.flight_core.specs.declared.flight.Needs.{Needs}
use Rattle.flight_core.specs.declared.flight.Needs.TheVariants.{Space, Both, Frames, Ended as NoneNeeded}
use Rattle.flight_core.specs.declared.flight.Purpose.{Purpose}
use Rattle.flight_core.specs.declared.flight.Purpose.TheVariants.{Call as OfCall, Turn as OfTurn}
use Rattle.space_core.specs.Standing.{copied_page}

-- Purposes.

-- The call of a flight, and whether a frame was claimed for it. A turn has no call: some call stands here, and what is said of a flight's
-- call is said of flights of calls alone (`is_of_call`).
abbrev pub call_in : Purpose → Call
call_in (OfCall call claimed) = call
call_in (OfTurn mark evictions) = Load 0 0

abbrev pub claimed_in : Purpose → Bool
claimed_in (OfCall call claimed) = claimed
claimed_in (OfTurn mark evictions) = false

abbrev pub is_of_call : Purpose → Bool
is_of_call (OfCall call claimed) = true
is_of_call (OfTurn mark evictions) = false

-- the space of its call; a turn has none of its own
abbrev pub own_space : Purpose → Option ℕ
own_space (OfCall call claimed) = Some (space_of_call call)
own_space (OfTurn mark evictions) = None

-- the mark of its processor
abbrev pub mark_in : Purpose → ℕ
mark_in (OfCall call claimed) = 0
mark_in (OfTurn mark evictions) = mark

-- how many evictions a turn has made
abbrev pub evictions_in : Purpose → ℕ
evictions_in (OfCall call claimed) = 0
evictions_in (OfTurn mark evictions) = evictions

-- the page of a load or a store; 0 never comes for one
abbrev pub page_or_zero : Option ℕ → ℕ
page_or_zero None = 0
page_or_zero (Some page) = page

abbrev pub is_store : Call → Bool
is_store (Store space address word) = true
is_store call = false

-- The access that a call makes. Its entries have told whether it is a store once a frame was claimed for it.
abbrev pub access_of : Call → Bool → Access
access_of call claimed =
    record { space = space_of_call call; page = page_or_zero (access_page call); writing = if claimed then Some (is_store call) else None }

abbrev pub access_in : Purpose → Access
access_in purpose = access_of (call_in purpose) (claimed_in purpose)

-- whether a call pins its region or leaves it pinned no longer, where it does either
abbrev pub pins : Call → Option Bool
pins (Wire space page) = Some true
pins (Unwire space page) = Some false
pins call = None

-- what it claims a frame for
abbrev pub claims_for : Purpose → Claims
claims_for (OfCall call claimed) = ForAccess (access_of call claimed)
claims_for (OfTurn mark evictions) = ForTurn mark evictions

-- where a turn is that looks for frames to free
abbrev pub looking : Purpose → Doing
looking (OfCall call claimed) = Idle
looking (OfTurn mark evictions) = Looking mark evictions

-- What a flight does with the victim's frame once it holds it: a call looks again whether it needs the frame, and a turn lets it go free.
abbrev pub won : Purpose → Victim → Phase
won (OfCall call claimed) v = Back v
won (OfTurn mark evictions) v = Drop v

-- What a flight does once it gave its claim up: a call is answered, with its store's fault or for want of memory, and a turn has ended.
abbrev pub given_up : Purpose → Victim → Option ℕ → Phase
given_up (OfCall call claimed) v None = Lack v.space
given_up (OfCall call claimed) v (Some count) = Fault v.space count
given_up (OfTurn mark evictions) v fault = Rested

-- What a flight does once the frame that it held goes free: a call is answered late, and a turn looks again.
abbrev pub let_go : Purpose → Phase
let_go (OfCall call claimed) = Late
let_go (OfTurn mark evictions) = Look

-- How much is left at most: of a call so much; of a turn so much of the eviction that it is in, that of a whole one for each that it may make
-- after this, and one for its end.
abbrev pub left_by : Purpose → ℕ → ℕ → ℕ → ℕ
left_by (OfCall call claimed) of_call of_eviction each = of_call
left_by (OfTurn mark evictions) of_call of_eviction each = of_eviction + each * (mark - (evictions + 1)) + 1

-- of a turn that looks for frames to free
abbrev pub left_looking : Purpose → ℕ → ℕ
left_looking purpose each = each * (mark_in purpose - evictions_in purpose) + 1

-- Rows.

-- what came of a flight: it goes on, the turn of a daemon has ended, or the call was answered
pub data Outcome : Type 0 where
  Going : Outcome
  TurnEnded : Outcome
  Answered : Reply → Outcome

abbrev pub has_ended : Outcome → Bool
has_ended Going = false
has_ended TurnEnded = true
has_ended (Answered reply) = true

-- the reply, once the call was answered
abbrev pub reply_in : Outcome → Option Reply
reply_in Going = None
reply_in TurnEnded = None
reply_in (Answered reply) = Some reply

pub record Row : Type 0 where
  pub needs : Needs
  -- the space whose lock the flight keeps between the last step and the next
  pub keeps : Option ℕ
  -- how many calls the processor has answered, or turns it has made, and where it is in the next
  pub progress : Progress
  -- who makes the next entry of the space that the step is made under
  pub next : Next
  -- at most how many steps, and how many entries, are left
  pub steps : ℕ
  pub entries : ℕ
  pub outcome : Outcome

abbrev pub at : ℕ → Doing → Progress
at made doing = record { made = made; doing = doing }

-- a step under a space's lock alone, and one under that and the frames'; where there is no space it is made under the frames'
abbrev pub alone : Option ℕ → Needs
alone None = Frames
alone (Some s) = Space s

abbrev pub both : Option ℕ → Needs
both None = Frames
both (Some s) = Both s

-- the row of a phase that an entry led to, or the first: it keeps what the table of locks says of its place
abbrev pub placed : (Option ℕ → Needs) → Option ℕ → Progress → Next → ℕ → ℕ → Row
placed made own p next steps entries =
    record {
      needs = made (under_in own p.doing);
      keeps = keeps_in own p.doing;
      progress = p;
      next = next;
      steps = steps;
      entries = entries;
      outcome = Going;
    }

-- the row of a phase that a step without an entry led to: it keeps the space that this step was made under, where the next is made too
abbrev pub found : (Option ℕ → Needs) → Option ℕ → Progress → Next → ℕ → ℕ → Row
found made own p next steps entries =
    record {
      needs = made (under_in own p.doing);
      keeps = under_in own p.doing;
      progress = p;
      next = next;
      steps = steps;
      entries = entries;
      outcome = Going;
    }

-- where a processor is whose store failed: a sync or an evict failed by itself, and an access by a page's read or a victim's write
abbrev pub faulted : Access → ℕ → ℕ → Option ℕ → Doing
faulted access space count None = Faulted access space count
faulted access space count (Some page) = Uncopied space page count

-- Where a processor is whose call is done next: the range that it was for is cleared, or it is pinned, or is no longer.
abbrev pub readied : ℕ → ℕ → ℕ → Option Bool → Doing
readied space first len None = Cleared space first len
readied space first len (Some wired) = Pinned space first len wired

-- and who makes the next entry of the space then: that call's answer alone
abbrev pub next_readied : ℕ → ℕ → ℕ → Option Bool → Next
next_readied c first len None = AfterClear c first len
next_readied c first len (Some wired) = AfterPin c first len wired

-- the row of a victim's page that can't be paged out, which an entry led to where the write failed
abbrev pub unclaiming : Option ℕ → ℕ → Purpose → Victim → Option ℕ → Row
unclaiming own n purpose v None = found both own (at n (Claiming (claims_for purpose) v)) Anyone (left_by purpose 2 2 5)
    (left_by purpose 6 2 4)
unclaiming own n purpose v (Some count) =
    placed both own (at n (Unwritten (claims_for purpose) v count)) Anyone (left_by purpose 2 2 5) (left_by purpose 6 2 4)

-- the space whose lock is kept while a held frame is to go free: a call found under its own that it is, and an entry of a turn led to it
abbrev pub kept_dropping : Option ℕ → Purpose → Victim → Option ℕ
kept_dropping own (OfCall call claimed) v = own
kept_dropping own (OfTurn mark evictions) v = keeps_in own (Holding (ForTurn mark evictions) v)

abbrev pub dropping : Option ℕ → ℕ → Purpose → Victim → Row
dropping own n purpose v =
    record {
      needs = both own;
      keeps = kept_dropping own purpose v;
      progress = at n (Holding (claims_for purpose) v);
      next = Anyone;
      steps = left_by purpose 2 1 5;
      entries = left_by purpose 5 1 4;
      outcome = Going;
    }

-- the row of a phase, for the flight of a processor with this many calls answered or turns made, in this space of its own and for this
-- purpose
abbrev pub row_in : ℕ → ℕ → Option ℕ → Purpose → Phase → Row
row_in c n own purpose Start = placed alone own (at n Idle) Anyone 10 8
row_in c n own purpose (Evict page) = found both own (at n Idle) Anyone 1 8
row_in c n own purpose (Clear first len) = found both own (at n Idle) Anyone 2 8
row_in c n own purpose (Pin first len wired) = found both own (at n Idle) Anyone 2 8
row_in c n own purpose (Busy first len page) = placed alone own (at n (Blocked (space_of_call (call_in purpose)) first len page)) (Only c) 1 7
row_in c n own purpose (Gone first len) =
    placed alone own (at n (readied (space_of_call (call_in purpose)) first len (pins (call_in purpose))))
    (next_readied c first len (pins (call_in purpose))) 1 7
row_in c n own purpose (Frame page want) = found both own (at n Idle) Anyone 9 8
row_in c n own purpose (Short wired claims held) = placed alone own (at n (Refusing wired claims held)) Anyone 1 7
row_in c n own purpose (Out v) = placed both own (at n (Claiming (claims_for purpose) v)) Anyone (left_by purpose 8 4 5)
    (left_by purpose 7 3 4)
row_in c n own purpose (Write v) = found alone own (at n (Claiming (claims_for purpose) v)) Anyone (left_by purpose 7 3 5)
    (left_by purpose 7 3 4)
row_in c n own purpose (Hand v) = placed both own (at n (Emptied (claims_for purpose) v)) (Only c) (left_by purpose 6 2 5)
    (left_by purpose 6 2 4)
row_in c n own purpose (Unclaim v fault) = unclaiming own n purpose v fault
row_in c n own purpose (Back v) = placed alone own (at n (Holding (claims_for purpose) v)) Anyone 5 5
row_in c n own purpose (Drop v) = dropping own n purpose v
row_in c n own purpose Late = placed alone own (at n (AnswersLate (access_in purpose))) Anyone 1 4
row_in c n own purpose (Use page want v) = found both own (at n (Holding (claims_for purpose) v)) Anyone 4 5
row_in c n own purpose (Fill page frame) = placed alone own (at n (Filling (access_in purpose) frame)) (Only c) 3 4
row_in c n own purpose (Unfill page frame count) = placed both own (at n (Unfilling (access_in purpose) frame count)) (Only c) 2 3
row_in c n own purpose (Fault space count) = placed alone own
    (at n (faulted (access_in purpose) space count (copied_page (call_in purpose)))) Anyone 1 2
row_in c n own purpose (Lack space) = placed alone own (at n (Lacking (access_in purpose) space)) Anyone 1 2
row_in c n own purpose Look =
    record {
      needs = alone own;
      keeps = None;
      progress = at n (looking purpose);
      next = Anyone;
      steps = left_looking purpose 5;
      entries = left_looking purpose 4;
      outcome = Going;
    }
row_in c n own purpose Rested =
    record {
      needs = NoneNeeded;
      keeps = None;
      progress = at (n + 1) (Looking (mark_in purpose) 0);
      next = Anyone;
      steps = 0;
      entries = 0;
      outcome = TurnEnded;
    }
row_in c n own purpose (Ended reply) =
    record { needs = NoneNeeded; keeps = None; progress = at (n + 1) Idle; next = Anyone; steps = 0; entries = 0; outcome = Answered reply }

-- a processor's turn of this number and low mark, of which nothing was done
abbrev pub new_turn : ℕ → ℕ → ℕ → Flight
new_turn c number mark = record { processor = c; number = number; purpose = OfTurn mark 0; phase = Look }

-- a processor's call of this number, of which nothing was done
abbrev pub new_flight : ℕ → ℕ → Call → Flight
new_flight c number call = record { processor = c; number = number; purpose = OfCall call false; phase = Start }

abbrev pub row_of : Flight → Row
row_of f = row_in f.processor f.number (own_space f.purpose) f.purpose f.phase

-- The phase is one that an entry leads to, or the first: between two turns of its processor a flight is in no other. A turn of a daemon
-- comes to a held frame that goes free by an entry, and a call finds that it does.
abbrev pub is_between : Purpose → Phase → Bool
is_between purpose (Evict page) = false
is_between purpose (Clear first len) = false
is_between purpose (Pin first len wired) = false
is_between purpose (Frame page want) = false
is_between purpose (Write v) = false
is_between purpose (Unclaim v None) = false
is_between purpose (Drop v) = not (is_of_call purpose)
is_between purpose (Use page want v) = false
is_between purpose phase = true

-- the space whose lock a step is made under, where it is made under one
abbrev pub space_under : Needs → Option ℕ
space_under (Space s) = Some s
space_under (Both s) = Some s
space_under Frames = None
space_under NoneNeeded = None
