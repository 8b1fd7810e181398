-- Which piece of a program's memory has each place of a space, and where a page is by that.
use Rattle.std.specs.Prelude.{ℕ, ◌≡◌, ◌≢◌, ◌/◌, ◌%◌, ◌<◌, List, length, slice_index_or, Option, Some, None}

-- the piece that has a place
abbrev pub piece_at : List (Option ℕ) → ℕ → Option ℕ
piece_at places i = slice_index_or places i None

-- the piece has this place
abbrev pub HasPiece : List (Option ℕ) → ℕ → ℕ → Type 0
HasPiece places piece i = (i < 2048) × (piece_at places i ≡ Some piece)

-- the piece has none
abbrev pub HasNone : List (Option ℕ) → ℕ → Type 0
HasNone places piece = (i : ℕ) → piece_at places i ≢ Some piece

-- no piece has this place
abbrev pub IsFree : List (Option ℕ) → ℕ → Type 0
IsFree places i = (i < 2048) × (piece_at places i ≡ None)

-- each place has a piece
abbrev pub AreTaken : List (Option ℕ) → Type 0
AreTaken places = (i : ℕ) → i < 2048 → piece_at places i ≢ None

-- a piece has one place at most
abbrev pub OneEach : List (Option ℕ) → Type 0
OneEach places = (i j piece : ℕ) → piece_at places i ≡ Some piece → piece_at places j ≡ Some piece → i ≡ j

-- there are 2,048 places, and a piece has one at most
abbrev pub AreWhole : List (Option ℕ) → Type 0
AreWhole places = (length places ≡ 2048) × OneEach places

-- a piece that had a place has it still
abbrev pub Keeps : List (Option ℕ) → List (Option ℕ) → Type 0
Keeps before after = (i piece : ℕ) → piece_at before i ≡ Some piece → piece_at after i ≡ Some piece

-- The page of the program is at this page of the space: at the place of its piece, and as far in it as in the piece.
abbrev pub IsPageAt : List (Option ℕ) → ℕ → ℕ → Type 0
IsPageAt places page at = (at < 1048576) × (at % 512 ≡ page % 512) × (piece_at places (at / 512) ≡ Some (page / 512))
