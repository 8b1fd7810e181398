-- The lines of a log, and how far it was read.
use Rattle.std.specs.Prelude.{ℕ, ◌≡◌, ◌+◌, ◌≤◌, ◌==◌, Bool, true, false, List, [], ◌∷◌, ◌++◌, length, flat_map, Option, Some, IfSome}
use Rattle.std.specs.List.{AllByRecursion, slice_split}
use Rattle.line_source.specs.Lines.{HasNoFeed}

-- of the pieces between line feeds, the last one is no line where it is empty
abbrev pub without_empty_end : List (List ℕ) → List (List ℕ)
without_empty_end [] = []
without_empty_end ([] ∷ []) = []
without_empty_end (line ∷ lines) = line ∷ without_empty_end lines

-- The lines of a log: its bytes cut at each line feed, and what stands behind the last one where something does.
abbrev pub lines_of : List ℕ → List (List ℕ)
lines_of bytes = without_empty_end (slice_split (λ b. b == 10) bytes)

-- the bytes of lines, each with its line feed
abbrev pub ended : List (List ℕ) → List ℕ
ended lines = flat_map (λ line. line ++ 10 ∷ []) lines

-- the log begins with these lines
abbrev pub BeginsWith : List (List ℕ) → List ℕ → Type 0
BeginsWith lines bytes = (others : List (List ℕ)) × (lines_of bytes ≡ lines ++ others)

-- these lines were read, each with its line feed, and a part of the next one; the others are to come
abbrev pub IsReadTo : List (List ℕ) → (left : Option (List ℕ)) → List ℕ → Type 0
IsReadTo lines left bytes =
    (part : List ℕ) × (rest : List ℕ) × (bytes ≡ ended lines ++ (part ++ rest)) × (left ≡ Some rest) × AllByRecursion HasNoFeed lines × HasNoFeed part

-- of a line that is too long so many bytes were passed, and of another none
abbrev pub IsLongBy : Bool → List ℕ → Type 0
IsLongBy true part = 4096 ≤ length part
IsLongBy false part = part ≡ []

-- So many bytes of a log at least were passed: these lines, each with its line feed, and a part of the next one where that is too long. What is ahead comes next.
pub record Passed (n : ℕ) (before : Option (List ℕ)) (lines : List (List ℕ)) (long : Bool) (ahead : List ℕ) (left : Option (List ℕ)) : Type 0 where
  pub part : List ℕ
  pub no_feeds : AllByRecursion HasNoFeed lines
  pub no_feed : HasNoFeed part
  pub by : IsLongBy long part
  pub enough : n ≤ length (ended lines) + length part
  pub split : IfSome before (λ bytes. (rest : List ℕ) × (left ≡ Some rest) × (bytes ≡ ended lines ++ (part ++ (ahead ++ rest))))
