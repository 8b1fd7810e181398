-- Lists of words and of numbers as a reader sees them.
use Rattle.std.specs.Prelude.{◌≡◌, ℕ, ◌==◌, ◌<◌, ◌≤◌, List, ◌∷◌, flat_map, length, slice_index, map}
use Rattle.std.specs.Int.{IsInRange}
use Rattle.std.specs.List.{slice_split}
use denote.Ref.{Bor}

-- the words of a line, of which one between two spaces or at an end may be empty
abbrev pub words_of : List ℕ → List (List ℕ)
words_of line = slice_split (λ b. b == 32) line

-- words that lie in a text
abbrev pub seen : List (Bor (List ℕ)) → List (List ℕ)
seen words = map (λ word. word.now) words

-- a word has a byte, and no zero before others
abbrev pub IsPlain : List ℕ → Type 0
IsPlain word = (0 < length word) × (slice_index word 0 ≡ 48 → length word ≤ 1)

-- the first so many bytes of a text are digits
abbrev pub AreDigits : List ℕ → ℕ → Type 0
AreDigits text count = (j : ℕ) → j < count → IsInRange 48 57 (slice_index text j)

-- words, a space before each
abbrev pub spaced : List (List ℕ) → List ℕ
spaced words = flat_map (λ (word : List ℕ). 32 ∷ word) words
