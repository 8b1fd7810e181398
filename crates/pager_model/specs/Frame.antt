-- A frame as contracts see it: its number and its words.
use Rattle.std.specs.Prelude.{ℕ, ◌==◌, List, length, replicate, if◌then◌else◌}

pub record Framed : Type 0 where
  pub number : ℕ
  pub words : List ℕ

-- the words of a frame that keeps these: zero words where it keeps none
abbrev pub words_or_zeros : List ℕ → List ℕ
words_or_zeros ws = if length ws == 0 then replicate 1024 0 else ws

-- the frame of this number, with zero words
abbrev pub zero_frame : ℕ → Framed
zero_frame n = record { number = n; words = replicate 1024 0 }
