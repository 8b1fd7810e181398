-- The trace that is made from a number, of version 1, so with all four page sizes. Each space gets a region of 4,096 pages, and then calls are drawn, most of them at the first 512
-- pages: in 64 draws 40 loads, 18 stores, two syncs, two evicts and two protects of eight pages. A draw leads to the next state, from which
-- the one after it is made.
use Rattle.std.specs.Prelude.{ℕ, zero, suc, ◌≡◌, ◌+◌, ◌-◌, ◌*◌, ◌%◌, ◌==◌, ◌≤◌, nat_lt, if◌then◌else◌, List, [], ◌∷◌, ◌++◌, map, None}
use Rattle.std.specs.List.{range_with_len}
use Rattle.pager_model.specs.declared.call.Call.{Call}
use Rattle.pager_model.specs.declared.call.Call.TheVariants.{Map, Protect, Load, Store, Sync, Evict}
use Rattle.pager_model.specs.declared.call.Line.{Line}
use Rattle.pager_model.specs.declared.region.Kind.TheVariants.{Fixed}
use Rattle.pager_model.specs.declared.region.Rights.{Rights}
use Rattle.pager_model.specs.declared.region.Rights.TheVariants.{Read, Write}
use Rattle.pager_model.specs.Bounds.{most_calls, most_frames, most_processors, most_spaces}
use Rattle.pager_model.specs.Scripts.{Script}
use Rattle.pager_model.specs.SizeSets.{all_sizes}
use Rattle.pager_model.specs.Schedules.{next_state, drawn}

-- what a trace can be made of: a multiple of 512 frames from 512 to 32,768, one to sixteen processors and spaces, and at least as many calls as
-- spaces, up to 262,144
pub record CanMake (calls processors spaces frames : ℕ) : Type 0 where
  pub frames_in : (512 ≤ frames) × (frames ≤ most_frames)
  pub frames_whole : frames % 512 ≡ 0
  pub processors_in : (1 ≤ processors) × (processors ≤ most_processors)
  pub spaces_in : (1 ≤ spaces) × (spaces ≤ most_spaces)
  pub calls_in : (spaces ≤ calls) × (calls ≤ most_calls)

-- the map of a space's region, by the processor whose turn it is
unfoldable pub map_line : ℕ → ℕ → Line
map_line processors space = record { processor = space % processors; call = Map space 0 4096 Fixed Write }

-- one page in eight draws is any of the region, and each other is one of the first 512
unfoldable pub drawn_page : ℕ → ℕ
drawn_page x = drawn (next_state x) (if drawn x 8 == 0 then 4096 else 512)

-- the address of a word of the page
unfoldable pub drawn_address : ℕ → ℕ → ℕ
drawn_address page x = page * 8192 + 8 * drawn x 1024

abbrev pub drawn_rights : ℕ → Rights
drawn_rights x = if drawn x 2 == 0 then Read else Write

-- the first of the eight pages round this one that begin at a multiple of eight
abbrev pub first_of_eight : ℕ → ℕ
first_of_eight page = page - page % 8

-- the call of this kind, of which there are 64, at a page of a space; what else it needs is drawn from the state
abbrev pub call_of_kind : (space page kind x : ℕ) → Call
call_of_kind space page kind x =
    if nat_lt kind 40 then Load space (drawn_address page x) else
    if nat_lt kind 58 then Store space (drawn_address page x) (next_state (next_state x)) else
    if nat_lt kind 60 then Sync space page else
    if nat_lt kind 62 then Evict space page else
    Protect space (first_of_eight page) 8 (if nat_lt kind 63 then drawn_rights x else Write)

-- the state after that
abbrev pub after_kind : (kind x : ℕ) → ℕ
after_kind kind x =
    if nat_lt kind 40 then next_state x else
    if nat_lt kind 58 then next_state (next_state x) else
    if nat_lt kind 62 then x else
    if nat_lt kind 63 then next_state x else x

-- a call at this page of a space, and the state after it
unfoldable pub drawn_call : (space page x : ℕ) → Call
drawn_call space page x = call_of_kind space page (drawn x 64) (next_state x)

unfoldable pub after_call : ℕ → ℕ
after_call x = after_kind (drawn x 64) (next_state x)

-- A line: its processor, its space, its page and its call are drawn one after another.
unfoldable pub drawn_line : (processors spaces x : ℕ) → Line
drawn_line processors spaces x =
    record {
      processor = drawn x processors;
      call = drawn_call (drawn (next_state x) spaces) (drawn_page (next_state (next_state x)))
          (next_state (next_state (next_state (next_state x))));
    }

unfoldable pub after_line : ℕ → ℕ
after_line x = after_call (next_state (next_state (next_state (next_state x))))

-- so many lines
abbrev pub drawn_lines : (processors spaces count x : ℕ) → List Line
drawn_lines processors spaces zero x = []
drawn_lines processors spaces (suc n) x = drawn_line processors spaces x ∷ drawn_lines processors spaces n (after_line x)

-- the maps, and then lines that are drawn from the number
abbrev pub made_calls : (number calls processors spaces : ℕ) → List Line
made_calls number calls processors spaces =
    map (map_line processors) (range_with_len 0 spaces) ++ drawn_lines processors spaces (calls - spaces) number

-- the trace that is made from this number, of so many calls
abbrev pub made : (number calls processors spaces frames : ℕ) → Script
made number calls processors spaces frames =
    record {
      version = 1;
      frames = frames;
      processors = processors;
      spaces = spaces;
      sizes = all_sizes;
      daemon = None;
      calls = made_calls number calls processors spaces;
    }
