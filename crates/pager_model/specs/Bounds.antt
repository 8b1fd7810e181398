-- The bounds that sizes and counts have, by name.
use Rattle.std.specs.Prelude.{ℕ}

-- how many pages a space has
abbrev pub space_pages : ℕ
space_pages = 1048576

-- how many addresses a space has: the bytes of its pages
abbrev pub space_bytes : ℕ
space_bytes = 8589934592

-- at most how many frames there are
abbrev pub most_frames : ℕ
most_frames = 32768

-- at most how many calls a trace has
abbrev pub most_calls : ℕ
most_calls = 262144

-- at most how many spaces a program has
abbrev pub most_spaces : ℕ
most_spaces = 16

-- at most how many processors a trace has
abbrev pub most_processors : ℕ
most_processors = 16

-- at most how many actors there are: the processors of a trace, and its daemon
abbrev pub most_actors : ℕ
most_actors = 17
