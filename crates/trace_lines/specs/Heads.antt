-- What a first line, a daemon's line and a call's name and line say.
use Rattle.std.specs.Prelude.{◌≡◌, ◌%◌, ◌≤◌, Bool, true, false, List, ℕ, Some, Result, IfOk, IfErr, codes}
use Rattle.trace_lines.specs.declared.cause.LineCause.{LineCause}
use Rattle.trace_lines.specs.declared.line.Head.{Head}
use Rattle.trace_lines.specs.declared.line.Name.{Name}
use Rattle.trace_lines.specs.declared.line.Name.TheVariants.{Map, Grow, Unmap, Protect, Load, Store, Sync, Evict, Discard, Wire, Unwire}
use Rattle.pager_model.specs.declared.call.Line.{Line}
use Rattle.pager_model.specs.Bounds.{most_frames, most_processors, most_spaces}
use Rattle.pager_model.specs.TraceText.{IsLine, IsVersion, line_words}
use Rattle.trace_lines.specs.Forms.{Place, line_fault}

-- a version that fits the page sizes, a multiple of 512 frames from 512 to 32,768, and one to sixteen processors and spaces
abbrev pub IsInRange : Head → Type 0
IsInRange head =
    IsVersion head.version head.sizes × ((512 ≤ head.frames) × (head.frames ≤ most_frames)) × (head.frames % 512 ≡ 0)
    × ((1 ≤ head.processors) × (head.processors ≤ most_processors)) × ((1 ≤ head.spaces) × (head.spaces ≤ most_spaces))

abbrev pub word_of_name : Name → List ℕ
word_of_name Map = codes "map"
word_of_name Grow = codes "grow"
word_of_name Unmap = codes "unmap"
word_of_name Protect = codes "protect"
word_of_name Load = codes "load"
word_of_name Store = codes "store"
word_of_name Sync = codes "sync"
word_of_name Evict = codes "evict"
word_of_name Discard = codes "discard"
word_of_name Wire = codes "wire"
word_of_name Unwire = codes "unwire"

-- the names of calls from version 3 on alone
abbrev pub is_later : Name → Bool
is_later Discard = true
is_later Wire = true
is_later Unwire = true
is_later name = false

-- a text of this version has calls of this name
abbrev pub HasName : ℕ → Name → Type 0
HasName version name = is_later name ≡ true → 3 ≤ version

-- in these forms, behind this first line, the words are read as a line that has them, or refused for their fault
pub record IsRead (head : Head) (forms : List (List Place)) (words : List (List ℕ)) (line : Result Line LineCause) : Type 0 where
  pub range : IfOk line (λ l. IsLine head.version head.processors head.spaces l)
  pub text : IfOk line (λ l. words ≡ line_words l)
  pub err : IfErr line (λ cause. line_fault forms words ≡ Some cause)
