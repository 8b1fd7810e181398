-- The order of a processor's entries. The list of a processor that makes calls is a row of sequences, one for each call, each of
-- which ends with its answer. The list of a paging daemon is a row of turns. Where a list leads is a place in such a sequence or
-- turn, and an entry leads from one place to the next, or nowhere where it breaks the order.
--
-- The sequences of a call, with the place that each entry leads to:
--
--   answered alone    Answer
--   cleared           Clear Cleared, Answer
--   pinned            Pin Pinned, Answer
--   blocked           Kept Blocked, Answer
--   not copied        Failed Uncopied, Answer
--   filled            Take Filling, Answer
--   not filled        Take Filling, Failed Unfilling, Give Faulted, Answer
--   refused           Refused Refusing, Answer
--   paged for         Claim Claiming, and then
--                       Out Emptied, Give Holding     the victim's page is paged out, or
--                       Got Holding                   it gave the frame up meanwhile, or
--                       Failed Unwritten, Unclaim Faulted, Answer      its store failed, or
--                       Unclaim Lacking, Answer                        there was no memory to write it;
--                     from Holding on
--                       DropHeld Late, Answer         the frame isn't needed any more, or
--                       UseHeld Filling, and on as filled or not filled
--
-- A turn of a daemon is a row of evictions, at most as many as its mark, and then one of two ends:
--
--   evicted           Claim Claiming, and then
--                       Out Emptied, Give Holding     the victim's page is paged out, or
--                       Got Holding                   it gave the frame up meanwhile;
--                     DropHeld Looking                and the frame goes free
--   rested            Rest                            short only after as many evictions as the mark
--   given up          Claim Claiming, and then
--                       Failed Unwritten, Unclaim     its store failed, or
--                       Unclaim                       there was no memory to write it
use Rattle.std.specs.Prelude.{ℕ, zero, suc, ◌≡◌, ◌+◌, Bool, true, false, ◌&&◌, ◌||◌, ◌==◌, not, nat_lt, if◌then◌else◌, List, [], ◌∷◌, Option, Some, None}
use Rattle.std.specs.Option.{option_and_then}
use Rattle.pager_model.specs.declared.call.Call.{Call}
use Rattle.pager_model.specs.declared.call.Call.TheVariants.{Unmap, Load, Store, Sync, Evict, Discard, Wire, Unwire}
use Rattle.pager_model.specs.declared.entry.Entry.{Entry}
use Rattle.pager_model.specs.declared.entry.Need.{Need}
use Rattle.pager_model.specs.declared.entry.Victim.{Victim}
use Rattle.pager_model.specs.declared.entry.What.{What}
use Rattle.pager_model.specs.declared.entry.What.TheVariants.{Answer, Out, Failed, Take, Give, Clear, Claim, UseHeld, DropHeld, Got, Unclaim, Refused, Pin, Kept, Rest}
use Rattle.pager_model.specs.declared.reply.Reply.{Reply}
use Rattle.pager_model.specs.declared.reply.Reply.TheVariants.{Done, Value, Unmapped, Denied, NoFrames, StoreFault, NoMemory, Busy}
use Rattle.pager_model.specs.Flat.{page_of}
use Rattle.pager_model.specs.Regions.{in_range}

-- A load or a store at a page of a space, and whether it is a store, where its entries have told that.
pub record Access : Type 0 where
  pub space : ℕ
  pub page : ℕ
  pub writing : Option Bool

-- What a frame is claimed for: an access, or a daemon's turn of this low mark, with so many evictions made before.
pub data Purpose : Type 0 where
  ForAccess : Access → Purpose
  ForTurn : (mark evictions : ℕ) → Purpose

-- Where a processor is in the sequence of a call, or in a turn.
pub data Doing : Type 0 where
  -- no call is in progress
  Idle : Doing
  -- a daemon of this low mark looks for frames to free, with so many evictions made in the turn
  Looking : (mark evictions : ℕ) → Doing
  -- the pages of the range gave their frames up, and the unmap or the discard is done next
  Cleared : (space first len : ℕ) → Doing
  -- the frames of the range's pages are wired, or no longer, and the wire or unwire is done next
  Pinned : (space first len : ℕ) → (wired : Bool) → Doing
  -- the frame of this page of the range is claimed, and the answer of the wire says so next
  Blocked : (space first len page : ℕ) → Doing
  -- the write of a sync or an evict failed, and its answer says so next
  Uncopied : (space page count : ℕ) → Doing
  -- the page has this frame, and its copy is read in next
  Filling : Access → (frame : ℕ) → Doing
  -- the read failed, and the page gives the frame up next
  Unfilling : Access → (frame count : ℕ) → Doing
  -- the victim's frame is claimed, and its page is paged out next
  Claiming : Purpose → Victim → Doing
  -- the victim's page is equal to its copy, and gives its frame up next
  Emptied : Purpose → Victim → Doing
  -- the write of the victim's page failed, and its frame is claimed no longer next
  Unwritten : Purpose → Victim → (count : ℕ) → Doing
  -- the victim's frame is held
  Holding : Purpose → Victim → Doing
  -- the held frame was not needed any more, and the access is answered next
  Late : Access → Doing
  -- a store failed, of this space and for the count-th time, and the answer says so next
  Faulted : Access → (space count : ℕ) → Doing
  -- there was no memory to page out the victim, and the answer says so next; it was of this space, which tells whether the lock of
  -- the call's own space is still kept
  Lacking : Access → (space : ℕ) → Doing
  -- no frame could be had, of which so many are wired, claimed and held, and the answer says so next
  Refusing : (wired claimed held : ℕ) → Doing

-- how many calls a processor has answered, or turns it has made, and where it is in the next
pub record Progress : Type 0 where
  pub made : ℕ
  pub doing : Doing

-- between two calls, and between two turns of a daemon
abbrev pub between : ℕ → Doing
between zero = Idle
between (suc n) = Looking (suc n) 0

-- so many calls or turns of a processor with this mark are made, and none is begun
abbrev pub at_rest : ℕ → ℕ → Progress
at_rest mark made = record { made = made; doing = between mark }

-- the test holds, and it goes on there
abbrev pub leads : Bool → ℕ → Doing → Option Progress
leads holds made doing = if holds then Some (record { made = made; doing = doing }) else None

-- Replies.

-- what an access to a page with a frame is answered
abbrev pub is_served : Reply → Bool
is_served Done = true
is_served (Value word) = true
is_served reply = false

-- the replies that no other entry of the call has to come before
abbrev pub is_plain : Reply → Bool
is_plain (NoFrames wired claimed held) = false
is_plain (StoreFault space count) = false
is_plain NoMemory = false
is_plain (Busy page) = false
is_plain reply = true

abbrev pub is_no_frames : ℕ → ℕ → ℕ → Reply → Bool
is_no_frames wired claimed held (NoFrames w c h) = (w == wired) && ((c == claimed) && (h == held))
is_no_frames wired claimed held reply = false

abbrev pub is_store_fault : ℕ → ℕ → Reply → Bool
is_store_fault space count (StoreFault s n) = (s == space) && (n == count)
is_store_fault space count reply = false

abbrev pub is_no_memory : Reply → Bool
is_no_memory NoMemory = true
is_no_memory reply = false

abbrev pub is_unmapped : Reply → Bool
is_unmapped Unmapped = true
is_unmapped reply = false

-- a range that lies in no single region, and a region that is wired
abbrev pub is_refusal : Reply → Bool
is_refusal Unmapped = true
is_refusal Denied = true
is_refusal reply = false

abbrev pub is_busy : ℕ → Reply → Bool
is_busy page (Busy p) = p == page
is_busy page reply = false

abbrev pub is_done : Reply → Bool
is_done Done = true
is_done reply = false

-- Calls.

-- the call loads or stores
abbrev pub is_access : Call → Bool
is_access (Load s address) = true
is_access (Store s address word) = true
is_access call = false

-- it is a store, or a load, where that was told
abbrev pub is_told_as : Bool → Option Bool → Bool
is_told_as writing None = true
is_told_as writing (Some w) = if writing then w else not w

-- the call is this access
abbrev pub is_access_at : Access → Call → Bool
is_access_at a (Load s address) = ((s == a.space) && (page_of address == a.page)) && is_told_as false a.writing
is_access_at a (Store s address word) = ((s == a.space) && (page_of address == a.page)) && is_told_as true a.writing
is_access_at a call = false

-- the call is a sync or an evict of this page
abbrev pub is_copying : ℕ → ℕ → Call → Bool
is_copying space page (Sync s p) = (s == space) && (p == page)
is_copying space page (Evict s p) = (s == space) && (p == page)
is_copying space page call = false

-- the call is an unmap of a page of the range, or a discard of the range
abbrev pub is_clearing : ℕ → ℕ → ℕ → Call → Bool
is_clearing space first len (Unmap s page) = (s == space) && in_range first len page
is_clearing space first len (Discard s page n) = (s == space) && ((page == first) && (n == len))
is_clearing space first len call = false

-- the call is a wire of a page of the range, or an unwire of one
abbrev pub is_pinning : ℕ → ℕ → ℕ → Bool → Call → Bool
is_pinning space first len wired (Wire s page) = wired && ((s == space) && in_range first len page)
is_pinning space first len wired (Unwire s page) = not wired && ((s == space) && in_range first len page)
is_pinning space first len wired call = false

-- a call that is answered by one entry alone: one that clears or pins only where it is refused, and want of memory comes only to
-- those that write a copy
abbrev pub is_answered_alone : Call → Reply → Bool
is_answered_alone (Unmap s page) reply = is_unmapped reply
is_answered_alone (Discard s page len) reply = is_refusal reply
is_answered_alone (Wire s page) reply = is_unmapped reply
is_answered_alone (Unwire s page) reply = is_refusal reply
is_answered_alone (Sync s page) reply = is_plain reply || is_no_memory reply
is_answered_alone (Evict s page) reply = is_plain reply || is_no_memory reply
is_answered_alone call reply = is_plain reply

-- the answer ends the call where its processor is
abbrev pub may_answer : Doing → Call → Reply → Bool
may_answer Idle call reply = is_answered_alone call reply
may_answer (Cleared space first len) call reply = is_clearing space first len call && is_done reply
may_answer (Pinned space first len wired) call reply = is_pinning space first len wired call && is_done reply
may_answer (Blocked space first len page) call reply = is_pinning space first len true call && is_busy page reply
may_answer (Uncopied space page count) call reply = is_copying space page call && is_store_fault space count reply
may_answer (Filling a frame) call reply = is_access_at a call && is_served reply
may_answer (Late a) call reply = is_access_at a call && is_plain reply
may_answer (Faulted a space count) call reply = is_access_at a call && is_store_fault space count reply
may_answer (Lacking a space) call reply = is_access_at a call && is_no_memory reply
may_answer (Refusing wired claimed held) call reply = is_access call && is_no_frames wired claimed held reply
may_answer doing call reply = false

-- Where each kind of entry leads, from each place.

abbrev pub after_answer : Progress → ℕ → Call → Reply → Option Progress
after_answer p number call reply = leads ((number == p.made) && may_answer p.doing call reply) (p.made + 1) Idle

-- a frame is taken for an access, of which it isn't told whether it is a store
abbrev pub after_take : ℕ → Doing → ℕ → ℕ → ℕ → Option Progress
after_take made Idle space page frame = leads true made (Filling (record { space = space; page = page; writing = None }) frame)
after_take made doing space page frame = None

-- the held frame is used for the access that it was claimed for
abbrev pub after_use : ℕ → Doing → ℕ → ℕ → ℕ → Option Progress
after_use made (Holding (ForAccess a) victim) space page frame = leads ((space == a.space) && (page == a.page)) made (Filling a frame)
after_use made doing space page frame = None

abbrev pub after_clear : ℕ → Doing → ℕ → ℕ → ℕ → Option Progress
after_clear made Idle space first len = leads true made (Cleared space first len)
after_clear made doing space first len = None

abbrev pub after_pin : ℕ → Doing → ℕ → ℕ → ℕ → Bool → Option Progress
after_pin made Idle space first len wired = leads true made (Pinned space first len wired)
after_pin made doing space first len wired = None

abbrev pub after_kept : ℕ → Doing → ℕ → ℕ → ℕ → ℕ → Option Progress
after_kept made Idle space first len page = leads true made (Blocked space first len page)
after_kept made doing space first len page = None

abbrev pub is_victim : Victim → ℕ → ℕ → Bool
is_victim victim space page = (space == victim.space) && (page == victim.page)

-- a victim's page is paged out
abbrev pub after_out : ℕ → Doing → ℕ → ℕ → Option Progress
after_out made (Claiming purpose victim) space page = leads (is_victim victim space page) made (Emptied purpose victim)
after_out made doing space page = None

-- a write of a sync or an evict fails, or of a victim's page; or a read of a page that just got its frame
abbrev pub after_failure : ℕ → Doing → ℕ → ℕ → Bool → ℕ → Option Progress
after_failure made Idle space page writing count = leads writing made (Uncopied space page count)
after_failure made (Claiming purpose victim) space page writing count =
    leads (writing && is_victim victim space page) made (Unwritten purpose victim count)
after_failure made (Filling a frame) space page writing count = leads (not writing && ((space == a.space) && (page == a.page))) made
    (Unfilling a frame count)
after_failure made doing space page writing count = None

-- the page whose read failed gives its frame up, or the victim's page does
abbrev pub after_give : ℕ → Doing → ℕ → ℕ → ℕ → Option Progress
after_give made (Unfilling a own count) space page frame = leads (((space == a.space) && (page == a.page)) && (frame == own)) made
    (Faulted a space count)
after_give made (Emptied purpose victim) space page frame = leads (is_victim victim space page && (frame == victim.frame)) made
    (Holding purpose victim)
after_give made doing space page frame = None

-- an access claims a frame for its page; a turn claims one for no page, while it has made fewer evictions than its mark
abbrev pub after_claim : ℕ → Doing → Option ℕ → Victim → Option Need → Option Progress
after_claim made Idle (Some space) victim (Some need) =
    leads true made (Claiming (ForAccess (record { space = space; page = need.page; writing = Some need.writing })) victim)
after_claim made (Looking mark evictions) None victim None = leads (nat_lt evictions mark) made (Claiming (ForTurn mark evictions) victim)
after_claim made doing space victim need = None

-- the victim's frame came to the hand of its claimer meanwhile
abbrev pub after_got : ℕ → Doing → ℕ → Option Progress
after_got made (Claiming purpose victim) frame = leads (frame == victim.frame) made (Holding purpose victim)
after_got made doing frame = None

-- Giving the claim up ends a turn; an access is answered next, for want of memory or, where the write failed, with that store's
-- fault.
abbrev pub lacking_for : ℕ → Purpose → ℕ → Option Progress
lacking_for made (ForAccess a) space = leads true made (Lacking a space)
lacking_for made (ForTurn mark evictions) space = leads true (made + 1) (Looking mark 0)

abbrev pub faulted_for : ℕ → Purpose → ℕ → ℕ → Option Progress
faulted_for made (ForAccess a) space count = leads true made (Faulted a space count)
faulted_for made (ForTurn mark evictions) space count = leads true (made + 1) (Looking mark 0)

abbrev pub after_unclaim : ℕ → Doing → ℕ → ℕ → Option Progress
after_unclaim made (Claiming purpose victim) space frame =
    if (space == victim.space) && (frame == victim.frame) then lacking_for made purpose space else None
after_unclaim made (Unwritten purpose victim count) space frame =
    if (space == victim.space) && (frame == victim.frame) then faulted_for made purpose space count else None
after_unclaim made doing space frame = None

-- a held frame goes free: an access is late, and a turn has made one eviction more
abbrev pub dropped_for : ℕ → Purpose → Option Progress
dropped_for made (ForAccess a) = leads true made (Late a)
dropped_for made (ForTurn mark evictions) = leads true made (Looking mark (evictions + 1))

abbrev pub after_drop : ℕ → Doing → ℕ → Option Progress
after_drop made (Holding purpose victim) frame = if frame == victim.frame then dropped_for made purpose else None
after_drop made doing frame = None

abbrev pub after_refusal : ℕ → Doing → ℕ → ℕ → ℕ → Option Progress
after_refusal made Idle wired claimed held = leads true made (Refusing wired claimed held)
after_refusal made doing wired claimed held = None

-- a turn ends, and is short only where it made as many evictions as its mark
abbrev pub after_rest : ℕ → Doing → Bool → Option Progress
after_rest made (Looking mark evictions) short = leads (not short || (evictions == mark)) (made + 1) (Looking mark 0)
after_rest made doing short = None

-- Where an entry on these parts leads, where it keeps the order.
abbrev pub progress_after : Progress → Option ℕ → What → Option Progress
progress_after p space (Answer number call answered) = after_answer p number call answered.reply
progress_after p space (Out page written) = option_and_then (λ s. after_out p.made p.doing s page) space
progress_after p space (Failed page writing count) = option_and_then (λ s. after_failure p.made p.doing s page writing count) space
progress_after p space (Take page frame want) = option_and_then (λ s. after_take p.made p.doing s page frame) space
progress_after p space (Give page frame) = option_and_then (λ s. after_give p.made p.doing s page frame) space
progress_after p space (Clear first len) = option_and_then (λ s. after_clear p.made p.doing s first len) space
progress_after p space (Claim victim page frame need) =
    after_claim p.made p.doing space (record { space = victim; page = page; frame = frame }) need
progress_after p space (UseHeld page frame want) = option_and_then (λ s. after_use p.made p.doing s page frame) space
progress_after p space (DropHeld frame) = after_drop p.made p.doing frame
progress_after p space (Got frame) = after_got p.made p.doing frame
progress_after p space (Unclaim frame) = option_and_then (λ s. after_unclaim p.made p.doing s frame) space
progress_after p space (Refused wired claimed held) = after_refusal p.made p.doing wired claimed held
progress_after p space (Pin first len wired) = option_and_then (λ s. after_pin p.made p.doing s first len wired) space
progress_after p space (Kept first len page frame) = option_and_then (λ s. after_kept p.made p.doing s first len page) space
progress_after p space (Rest short) = after_rest p.made p.doing short

abbrev pub progress_by : Option Progress → Entry → Option Progress
progress_by None e = None
progress_by (Some p) e = progress_after p e.space e.what

abbrev pub progress_from : Option Progress → List Entry → Option Progress
progress_from p [] = p
progress_from p (e ∷ es) = progress_from (progress_by p e) es

-- where the list of a processor with this mark leads, where it is ordered
abbrev pub progress_of : ℕ → List Entry → Option Progress
progress_of mark entries = progress_from (Some (at_rest mark 0)) entries

-- the list is whole: each call or turn that was begun has ended
abbrev pub IsWhole : ℕ → List Entry → Type 0
IsWhole mark entries = (made : ℕ) × (progress_of mark entries ≡ Some (at_rest mark made))

-- Which frame is a processor's there: it claims the victim's frame or, where the page gave it up meanwhile, holds it.
abbrev pub victim_in : Doing → Option Victim
victim_in (Claiming purpose victim) = Some victim
victim_in (Emptied purpose victim) = Some victim
victim_in (Unwritten purpose victim count) = Some victim
victim_in (Holding purpose victim) = Some victim
victim_in doing = None

-- it surely holds the frame
abbrev pub is_holding : Doing → Bool
is_holding (Holding purpose victim) = true
is_holding doing = false
