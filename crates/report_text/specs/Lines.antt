-- A text as it is written, and the words that are added to its last line.
use Rattle.std.specs.Prelude.{ℕ, ◌≡◌, ◌+◌, ◌≤◌, List, ◌∷◌, ◌++◌, flat_map, length}
use Rattle.report_text.specs.Bytes.{Bytes}
use Rattle.report_text.specs.declared.text.TheConstants.{SIZE}

-- there is room for so many bytes more
abbrev pub HasRoom : ℕ → Bytes → Type 0
HasRoom more text = length text.items + more ≤ SIZE

-- these bytes were put
abbrev pub Gains : List ℕ → Bytes → Bytes → Type 0
Gains bytes old new = new.items ≡ old.items ++ bytes

-- words, a space before each
abbrev pub spaced : List (List ℕ) → List ℕ
spaced words = flat_map (λ (word : List ℕ). 32 ∷ word) words

-- these words were added
abbrev pub Adds : List (List ℕ) → Bytes → Bytes → Type 0
Adds words old new = new.items ≡ old.items ++ spaced words

-- the text grew by so many bytes at most
abbrev pub GrowsBy : ℕ → Bytes → Bytes → Type 0
GrowsBy most old new = length new.items ≤ length old.items + most
