-- An index or none, in one number.
use Rattle.std.specs.Prelude.{ℕ, ◌==◌, if◌then◌else◌, Option, Some, None}

-- the number that stands for none: the largest of 32 bits
abbrev pub no_index : ℕ
no_index = 4294967295

-- the index that a number stands for
abbrev pub index_in : ℕ → Option ℕ
index_in kept = if kept == no_index then None else Some kept

-- the number that stands for an index, or for none
abbrev pub kept_index : Option ℕ → ℕ
kept_index None = no_index
kept_index (Some index) = index
