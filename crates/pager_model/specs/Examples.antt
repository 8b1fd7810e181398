-- Small values on which the definitions are computed.
use Rattle.std.specs.Prelude.{ℕ, ◌+◌, ◌%◌, ◌==◌, Bool, true, false, nat_lt, if◌then◌else◌, List, [], ◌∷◌, fold, Option, Some, None, option_map}
use Rattle.pager_model.specs.declared.call.Call.{Call}
use Rattle.pager_model.specs.declared.call.Call.TheVariants.{Map, Load, Store, Evict, Discard, Wire, Unwire}
use Rattle.pager_model.specs.declared.entry.Entry.{Entry}
use Rattle.pager_model.specs.declared.entry.Want.{Want}
use Rattle.pager_model.specs.declared.entry.What.{What}
use Rattle.pager_model.specs.declared.entry.What.TheVariants.{Answer, Out, Failed, Take, Give, Claim, DropHeld, Got, Unclaim, Pin, Kept, Clear, Rest}
use Rattle.pager_model.specs.declared.region.Kind.{Kind}
use Rattle.pager_model.specs.declared.region.Kind.TheVariants.{Fixed, Growing, Wired}
use Rattle.pager_model.specs.declared.region.Rights.TheVariants.{Read, Write}
use Rattle.pager_model.specs.declared.reply.Reply.{Reply}
use Rattle.pager_model.specs.declared.reply.Reply.TheVariants.{Done, Value, Unmapped, Denied, StoreFault, Busy}
use Rattle.pager_model.specs.declared.reservation.Reservation.{Reservation}
use Rattle.pager_model.specs.Flat.{Flat, empty_space, after_call}
use Rattle.pager_model.specs.FrameStates.{FrameState, start_frames, take_frame, state_taken, give_page, claimed, pin_range, counted}
use Rattle.pager_model.specs.Scripts.{Script}
use Rattle.pager_model.specs.Settings.{Given}
use Rattle.pager_model.specs.SizeSets.{SizeSet, all_sizes}
use Rattle.pager_model.specs.SpaceStates.{SpaceState, empty_state, space_after}
use Rattle.pager_model.specs.Tiles.{tile_with}
use Rattle.pager_model.specs.declared.tile.Mapping.{Mapping}
use Rattle.pager_model.specs.declared.tile.Tile.{Tile}

-- base pages and superpages of one size alone, and all sizes but that of eight pages
abbrev pub base_and_64 : SizeSet
base_and_64 = record { one = false; two = true; three = false }

abbrev pub base_and_512 : SizeSet
base_and_512 = record { one = false; two = false; three = true }

abbrev pub all_but_8 : SizeSet
all_but_8 = record { one = false; two = true; three = true }

-- eight pages that may be written, from page 0 on
abbrev pub map_eight : Call
map_eight = Map 0 0 8 Fixed Write

abbrev pub eight_pages : Flat
eight_pages = after_call empty_space map_eight

-- the same pinned, and eight of the other kinds
abbrev pub eight_pinned : Flat
eight_pinned = after_call eight_pages (Wire 0 3)

abbrev pub eight_growing : Flat
eight_growing = after_call (after_call empty_space (Map 0 0 8 Growing Write)) (Wire 0 3)

abbrev pub eight_wired : Flat
eight_wired = after_call empty_space (Map 0 0 8 Wired Write)

-- pages 1 and 2 were stored to, and then page 2 is discarded
abbrev pub one_discarded : Flat
one_discarded = after_call (after_call (after_call eight_pages (Store 0 8192 5)) (Store 0 16384 6)) (Discard 0 2 1)

-- where a reservation in these pages may lie
abbrev pub want_eight : Want
want_eight = record { low = 0; high = 8; cap = 8; wired = false }

-- what a taking leaves, with the entry counted
abbrev pub after_taking : FrameState → ℕ → ℕ → FrameState
after_taking st space page = counted (state_taken st (take_frame st space page want_eight))

-- eight frames, of which the first taking reserves all, and one that a second space's page takes from them
abbrev pub eight_frames : FrameState
eight_frames = start_frames all_sizes 8 1

abbrev pub one_taken : FrameState
one_taken = after_taking eight_frames 0 3

abbrev pub one_broken : FrameState
one_broken = after_taking one_taken 1 0

-- the used place is given up; and the same where processor 0 claims its frame
abbrev pub one_given : FrameState
one_given = counted (give_page one_taken 0 3)

abbrev pub one_carved : FrameState
one_carved = counted (give_page (counted (claimed one_taken 3 (Some 0))) 0 3)

-- the used place is wired, and is no longer; and a processor claims its frame
abbrev pub one_wired : FrameState
one_wired = pin_range one_taken 0 0 8 true

abbrev pub one_unwired : FrameState
one_unwired = pin_range one_wired 0 0 8 false

abbrev pub one_claimed : FrameState
one_claimed = claimed one_taken 3 (Some 0)

-- two frames, which are too few for a reservation of eight
abbrev pub two_frames : FrameState
two_frames = start_frames all_sizes 2 1

abbrev pub both_taken : FrameState
both_taken = after_taking (after_taking two_frames 0 3) 0 5

abbrev pub small_setting : Given
small_setting = record { sizes = all_sizes; frames = 2; marks = 0 ∷ []; told = true ∷ []; faults = 0 ∷ [] }

abbrev pub answer_with : Option ℕ → ℕ → Call → Reply → Entry
answer_with size number call reply =
    record { processor = 0; space = Some 0; frames = false; what = Answer number call (record { reply = reply; hit = false; size = size }) }

abbrev pub answer : ℕ → Call → Reply → Entry
answer number call reply = answer_with None number call reply

-- that of an access, whose translation is of one page and was not there
abbrev pub missed : ℕ → Call → Reply → Entry
missed number call reply = answer_with (Some 0) number call reply

abbrev pub take_page_one : Entry
take_page_one = record { processor = 0; space = Some 0; frames = true; what = Take 1 0 want_eight }

-- a map, a store for which a frame is taken, and a load past the region
abbrev pub legal_history : List Entry
legal_history = answer 0 map_eight Done ∷ take_page_one ∷ missed 1 (Store 0 8192 5) Done ∷ answer 2 (Load 0 65536) Unmapped ∷ []

-- the same, with the store answered before its frame is taken
abbrev pub exchanged_history : List Entry
exchanged_history = answer 0 map_eight Done ∷ missed 1 (Store 0 8192 5) Done ∷ take_page_one ∷ answer 2 (Load 0 65536) Unmapped ∷ []

-- the page is discarded after its store, and loaded as a new one
abbrev pub clear_page_one : Entry
clear_page_one = record { processor = 0; space = Some 0; frames = true; what = Clear 1 1 }

abbrev pub discarding_history : List Entry
discarding_history =
    answer 0 map_eight Done ∷ take_page_one ∷ missed 1 (Store 0 8192 5) Done
    ∷ clear_page_one ∷ answer 2 (Discard 0 1 1) Done
    ∷ take_page_one ∷ missed 3 (Load 0 8192) (Value 0) ∷ []

-- the page is wired after its store, so that it isn't evicted, and then is wired no longer
abbrev pub pin_all : Bool → Entry
pin_all wired = record { processor = 0; space = Some 0; frames = true; what = Pin 0 8 wired }

abbrev pub wiring_history : List Entry
wiring_history =
    answer 0 map_eight Done ∷ take_page_one ∷ missed 1 (Store 0 8192 5) Done
    ∷ pin_all true ∷ answer 2 (Wire 0 3) Done ∷ answer 3 (Evict 0 1) Denied
    ∷ pin_all false ∷ answer 4 (Unwire 0 3) Done ∷ []

-- a trace of two calls
abbrev pub small_script : Script
small_script =
    record {
      version = 1;
      sizes = all_sizes;
      frames = 512;
      processors = 1;
      spaces = 1;
      daemon = None;
      calls = record { processor = 0; call = map_eight } ∷ record { processor = 0; call = Store 0 8192 5 } ∷ [];
    }

-- a reservation of eight places at page 8 and frame 16, of an age of 7
abbrev pub eight_places : Reservation
eight_places = record { space = 0; first = 8; size = 1; frame = 16; stamp = 7 }

-- sixty-four frames, of which the first taking reserves all; and each further page of that extent is in another of its eight parts
abbrev pub want_all : Want
want_all = record { low = 0; high = 64; cap = 64; wired = false }

abbrev pub after_taking_all : FrameState → ℕ → FrameState
after_taking_all st page = counted (state_taken st (take_frame st 0 page want_all))

abbrev pub eight_parts_used : FrameState
eight_parts_used = fold after_taking_all (start_frames all_sizes 64 1) (0 ∷ 8 ∷ 16 ∷ 24 ∷ 32 ∷ 40 ∷ 48 ∷ 56 ∷ [])

-- sixty-four frames without superpages of eight, of which the first taking reserves all
abbrev pub one_of_sixty_four : FrameState
one_of_sixty_four = after_taking_all (start_frames base_and_64 64 1) 3

abbrev pub sixty_four_places : Reservation
sixty_four_places = record { space = 0; first = 0; size = 2; frame = 0; stamp = 0 }

-- a reservation of 512 places, where in the first part of 64 each eighth place is used, and in each other part the first one
abbrev pub all_places : Reservation
all_places = record { space = 0; first = 0; size = 3; frame = 0; stamp = 0 }

abbrev pub is_spread : ℕ → Bool
is_spread frame = if nat_lt frame 64 then frame % 8 == 0 else frame % 64 == 0

-- an entry on the frames alone, on a space alone, and on both
abbrev pub on_frames : What → Entry
on_frames what = record { processor = 0; space = None; frames = true; what = what }

abbrev pub on_space : ℕ → What → Entry
on_space s what = record { processor = 0; space = Some s; frames = false; what = what }

abbrev pub on_both : ℕ → What → Entry
on_both s what = record { processor = 0; space = Some s; frames = true; what = what }

-- Two processors and two frames, which pages 0 and 1 have. While the second one claims the first page's frame for page 2, the first goes on
-- by these entries.
abbrev pub two_processors : Given
two_processors = record small_setting { marks = 0 ∷ 0 ∷ [] }

abbrev pub claim_page_zero : Entry
claim_page_zero =
    record {
      processor = 1;
      space = Some 0;
      frames = true;
      what = Claim 0 0 0 (Some (record { page = 2; writing = false }));
    }

abbrev pub while_claimed : List Entry → List Entry
while_claimed more =
    answer 0 map_eight Done
    ∷ on_both 0 (Take 0 0 want_eight) ∷ missed 1 (Load 0 0) (Value 0)
    ∷ on_both 0 (Take 1 1 want_eight) ∷ missed 2 (Load 0 8192) (Value 0)
    ∷ claim_page_zero ∷ more

-- that page is found, and then these
abbrev pub after_finding : List Entry → List Entry
after_finding more = while_claimed (on_both 0 (Kept 0 8 0 0) ∷ more)

-- a paging out of the claimed page by the second one
abbrev pub out_page_zero : Entry
out_page_zero = record { processor = 1; space = Some 0; frames = false; what = Out 0 false }

-- a region of eight pages, and then these
abbrev pub after_map : Kind → List Entry → List Entry
after_map kind more = answer 0 (Map 0 0 8 kind Write) Done ∷ more

-- a daemon's turn that evicts one page, of space 1, and rests
abbrev pub one_turn : List Entry
one_turn =
    on_frames (Claim 1 6 2 None) ∷ on_space 1 (Out 6 true) ∷ on_both 1 (Give 6 2) ∷ on_frames (DropHeld 2) ∷ on_frames (Rest false) ∷ []

-- one that got the frame since the page gave it up meanwhile
abbrev pub got_turn : List Entry
got_turn = on_frames (Claim 1 6 2 None) ∷ on_frames (Got 2) ∷ on_frames (DropHeld 2) ∷ on_frames (Rest false) ∷ []

-- one whose write fails
abbrev pub failing_turn : List Entry
failing_turn = on_frames (Claim 1 6 2 None) ∷ on_space 1 (Failed 6 true 3) ∷ on_both 1 (Unclaim 2) ∷ []

-- one that rests at once, short of frames or not
abbrev pub idle_turn : Bool → List Entry
idle_turn short = on_frames (Rest short) ∷ []

-- one that evicts one page, and rests though frames are short
abbrev pub spent_turn : List Entry
spent_turn =
    on_frames (Claim 1 6 2 None) ∷ on_space 1 (Out 6 true) ∷ on_both 1 (Give 6 2) ∷ on_frames (DropHeld 2) ∷ on_frames (Rest true) ∷ []

-- one that evicts one page and claims another
abbrev pub second_claim : List Entry
second_claim =
    on_frames (Claim 1 6 2 None) ∷ on_frames (Got 2) ∷ on_frames (DropHeld 2) ∷ on_frames (Claim 1 7 3 None) ∷ []

-- one that claims another page after its write failed
abbrev pub goes_on_failing : List Entry
goes_on_failing = on_frames (Claim 1 6 2 None) ∷ on_space 1 (Failed 6 true 3) ∷ on_frames (Claim 1 7 3 None) ∷ []

-- a load of page 1 of space 0 that claims a frame of space 1, whose write fails
abbrev pub failing_load : List Entry
failing_load =
    on_both 0 (Claim 1 6 2 (Some (record { page = 1; writing = false })))
    ∷ on_space 1 (Failed 6 true 3)
    ∷ on_both 1 (Unclaim 2)
    ∷ answer 0 (Load 0 8192) (StoreFault 1 3)
    ∷ []

-- the same with another count in the answer
abbrev pub made_up_fault : List Entry
made_up_fault =
    on_both 0 (Claim 1 6 2 (Some (record { page = 1; writing = false })))
    ∷ on_space 1 (Failed 6 true 3)
    ∷ on_both 1 (Unclaim 2)
    ∷ answer 0 (Load 0 8192) (StoreFault 1 4)
    ∷ []

-- a wire of page 3 of eight, done or kept from it by a page of this number; and a discard of page 2 after so many pages from there on gave
-- their frames up
abbrev pub wire_done : List Entry
wire_done = on_both 0 (Pin 0 8 true) ∷ answer 0 (Wire 0 3) Done ∷ []

abbrev pub wire_busy : ℕ → List Entry
wire_busy page = on_both 0 (Kept 0 8 5 2) ∷ answer 0 (Wire 0 3) (Busy page) ∷ []

abbrev pub discard_after : ℕ → List Entry
discard_after len = on_both 0 (Clear 2 len) ∷ answer 0 (Discard 0 2 1) Done ∷ []

-- a space whose store tells nothing, with a page that was stored to after it was filled
abbrev pub untold_space : SpaceState
untold_space = fold space_after (empty_state all_sizes false 0) (answer 0 map_eight Done ∷ take_page_one ∷ missed 1
    (Store 0 8192 5) Done ∷ [])

-- a page of one region that may be written, in this frame
abbrev pub writable : ℕ → Bool → Mapping
writable frame dirty = record { frame = frame; region = 0; rights = Write; dirty = dirty }

-- the pages from 0 to before an end, in frames from one on; a page is dirty or none is
abbrev pub run_of_pages : ℕ → ℕ → ℕ → Option Mapping
run_of_pages frame end page = if nat_lt page end then Some (writable (frame + page) false) else None

abbrev pub with_dirty : ℕ → (ℕ → Option Mapping) → ℕ → Option Mapping
with_dirty dirty pages page = if page == dirty then Some (writable (16 + page) true) else pages page

-- a page that may only be read, and one of another region
abbrev pub with_read : ℕ → (ℕ → Option Mapping) → ℕ → Option Mapping
with_read read pages page = if page == read then Some
    (record { frame = 16 + page; region = 0; rights = Read; dirty = false }) else pages page

abbrev pub with_region : ℕ → (ℕ → Option Mapping) → ℕ → Option Mapping
with_region first pages page = if nat_lt page first then pages page else option_map (λ (m : Mapping). record m { region = first })
    (pages page)

-- a translation of one page
abbrev pub small_tile : ℕ → Tile
small_tile page = tile_with 0 page (writable (16 + page) false)
