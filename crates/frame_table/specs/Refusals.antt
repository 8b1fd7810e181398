-- Why a call is refused, where it is: of its causes the first one that holds.
use Rattle.std.specs.Prelude.{ℕ, ◌^◌, ◌+◌, ◌%◌, Bool, false, ◌&&◌, ◌==◌, not, nat_le, nat_lt, if◌then◌else◌, length, Option, Some, None, is_some, is_none}
use Rattle.std.specs.List.{list_any}
use Rattle.pager_model.specs.Bounds.{most_frames, most_actors, most_spaces, space_pages}
use Rattle.pager_model.specs.declared.entry.Want.{Want}
use Rattle.pager_model.specs.FrameStates.{FrameState, layout_of, frame_of, held_by, claim_in, has_evictable}
use Rattle.pager_model.specs.Layouts.{is_full}
use Rattle.frame_table.specs.declared.refusal.Refusal.{Refusal}
use Rattle.frame_table.specs.declared.refusal.Refusal.TheVariants.{Range, Placed, Unplaced, Full, NoVictim, Busy, Idle, Counted}

-- What is tested.

-- the frames are a multiple of 512, and at most so many, as are the processors
abbrev pub is_setting : ℕ → ℕ → Bool
is_setting frames processors = (frames % 512 == 0) && (nat_le frames most_frames && nat_le processors most_actors)

-- there are the space and the page
abbrev pub is_page : ℕ → ℕ → Bool
is_page space page = nat_lt space most_spaces && nat_lt page space_pages

-- there is the space, and the want is one for the page
abbrev pub is_wanted : ℕ → ℕ → Want → Bool
is_wanted space page want =
    (nat_lt space most_spaces && (nat_le want.low page && nat_lt page want.high)) && (nat_le want.high space_pages && nat_lt 0 want.cap)

-- there are the space and the pages of the range
abbrev pub is_range : ℕ → ℕ → ℕ → Bool
is_range space first len = nat_lt space most_spaces && nat_le (first + len) space_pages

-- there is the processor
abbrev pub is_processor : FrameState → ℕ → Bool
is_processor st c = nat_lt c (length st.held)

-- no further change can be counted
abbrev pub is_counted : FrameState → Bool
is_counted st = nat_le (2 ^ 45) st.entries

abbrev pub is_number : ℕ → Option ℕ → Bool
is_number n None = false
is_number n (Some m) = m == n

-- the processor claims a frame
abbrev pub claims_any : FrameState → ℕ → Bool
claims_any st c = list_any (λ o. is_number c (claim_in o)) st.used

-- the processor holds a frame
abbrev pub holds_any : FrameState → ℕ → Bool
holds_any st c = is_some (held_by st c)

-- What is refused.

abbrev pub take_refusal : FrameState → ℕ → ℕ → Want → Option Refusal
take_refusal st space page want =
    if not (is_wanted space page want) then Some Range else (
    if is_some (frame_of st space page) then Some Placed else (
    if is_counted st then Some Counted else (
    if is_full (layout_of st) then Some Full else None)))

-- what asks for the size that a page prefers
abbrev pub want_refusal : ℕ → ℕ → Want → Option Refusal
want_refusal space page want = if not (is_wanted space page want) then Some Range else None

-- what asks for a page's frame
abbrev pub page_refusal : FrameState → ℕ → ℕ → Option Refusal
page_refusal st space page =
    if not (is_page space page) then Some Range else (
    if is_none (frame_of st space page) then Some Unplaced else None)

abbrev pub claim_refusal : FrameState → ℕ → Option Refusal
claim_refusal st c =
    if not (is_processor st c) then Some Range else (
    if holds_any st c then Some Busy else (
    if claims_any st c then Some Busy else (
    if is_counted st then Some Counted else (
    if not (has_evictable st) then Some NoVictim else None))))

abbrev pub unclaim_refusal : FrameState → ℕ → Option Refusal
unclaim_refusal st c =
    if not (is_processor st c) then Some Range else (
    if not (claims_any st c) then Some Idle else (
    if is_counted st then Some Counted else None))

abbrev pub collect_refusal : FrameState → ℕ → Option Refusal
collect_refusal st c =
    if not (is_processor st c) then Some Range else (
    if holds_any st c then None else (
    if claims_any st c then None else Some Idle))

abbrev pub drop_refusal : FrameState → ℕ → Option Refusal
drop_refusal st c =
    if not (is_processor st c) then Some Range else (
    if not (holds_any st c) then Some Idle else (
    if is_counted st then Some Counted else None))

abbrev pub use_refusal : FrameState → ℕ → ℕ → ℕ → Want → Option Refusal
use_refusal st c space page want =
    if not (is_processor st c) then Some Range else (
    if not (is_wanted space page want) then Some Range else (
    if not (holds_any st c) then Some Idle else (
    if is_some (frame_of st space page) then Some Placed else (
    if is_counted st then Some Counted else None))))

abbrev pub pin_refusal : FrameState → ℕ → ℕ → ℕ → Option Refusal
pin_refusal st space first len =
    if not (is_range space first len) then Some Range else (
    if is_counted st then Some Counted else None)
