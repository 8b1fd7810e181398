-- The words of the program that a line accesses.
use Rattle.std.specs.Prelude.{ℕ, Bool, true, nat_lt, List, [], length, if◌then◌else◌, Option, Some, None}
use Rattle.lackey_lines.specs.declared.access.Access.{Access}
use Rattle.lackey_lines.specs.declared.access.AccessKind.{AccessKind}
use Rattle.lackey_lines.specs.declared.access.AccessKind.TheVariants.{Instruction, Load, Store, Change}
use Rattle.lackey_lines.specs.Accesses.{told_access}
use Rattle.lackey_regions.specs.LineCalls.{Word, words_of}

-- an access of this kind becomes calls, where instructions are to be loaded or not
abbrev pub is_wanted : Bool → AccessKind → Bool
is_wanted instructions Instruction = instructions
is_wanted instructions Load = true
is_wanted instructions Store = true
is_wanted instructions Change = true

-- the words that an access is of, where it is told and wanted
abbrev pub told_words : Bool → Option Access → List Word
told_words instructions None = []
told_words instructions (Some a) = if is_wanted instructions a.kind then words_of a else []

abbrev pub line_words : Bool → List ℕ → List Word
line_words instructions line = told_words instructions (told_access line)

-- the words that a line of a log accesses: one of 4,096 bytes or more tells nothing
abbrev pub log_words : Bool → List ℕ → List Word
log_words instructions line = if nat_lt (length line) 4096 then line_words instructions line else []
