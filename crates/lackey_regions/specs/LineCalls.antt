-- The calls that a line becomes, and the accesses among them.
use Rattle.std.specs.Prelude.{ℕ, ◌≡◌, ◌+◌, ◌*◌, ◌/◌, ◌%◌, Bool, true, false, nat_lt, if◌then◌else◌, List, [], ◌∷◌, ◌++◌, flat_map, map, Option, Some}
use Rattle.std.specs.List.{AllByRecursion}
use Rattle.pager_model.specs.declared.call.Call.{Call}
use Rattle.pager_model.specs.declared.call.Call.TheVariants.{Load, Store}
use Rattle.pager_model.specs.declared.call.Line.{Line}
use Rattle.pager_model.specs.TraceText.{IsLine}
use Rattle.lackey_layout.specs.Places.{piece_at}
use Rattle.lackey_lines.specs.declared.access.Access.{Access}
use Rattle.lackey_lines.specs.declared.access.AccessKind.{AccessKind}
use Rattle.lackey_lines.specs.declared.access.AccessKind.TheVariants as kinds

-- A word that is loaded or stored: whether it is stored, and its address.
pub record Word : Type 0 where
  pub stores : Bool
  pub address : ℕ

abbrev pub word : Bool → ℕ → Word
word stores address = record { stores = stores; address = address }

-- the word that a call loads or stores, where it is a load or a store
abbrev pub accesses_of : Call → List Word
accesses_of (Load space address) = word false address ∷ []
accesses_of (Store space address value) = word true address ∷ []
accesses_of call = []

-- the words that the calls of lines load and store, in order
abbrev pub accesses : List Line → List Word
accesses lines = flat_map (λ line. accesses_of line.call) lines

-- Calls were added: these words are what the added ones load and store, and each is a line that a trace of version 3 of one processor and one space may hold.
pub record Adds (before after : List Line) (made : List Word) : Type 0 where
  pub made_so : accesses after ≡ accesses before ++ made
  pub in_range : AllByRecursion (IsLine 3 1 1) before → AllByRecursion (IsLine 3 1 1) after

-- whether an access of this kind stores: each time that it is made
abbrev pub stores_of : AccessKind → List Bool
stores_of kinds.Instruction = false ∷ []
stores_of kinds.Load = false ∷ []
stores_of kinds.Store = true ∷ []
stores_of kinds.Change = false ∷ true ∷ []

-- so many accesses of a word of the program
abbrev pub each_at : List Bool → ℕ → List Word
each_at stores address = map (λ s. word s address) stores

-- The words of the program that an access is of: that of its first byte, and where it goes on in the next page that one's first.
abbrev pub words_of : Access → List Word
words_of a = each_at (stores_of a.kind) (a.address / 8 * 8) ++
    (if nat_lt 8192 (a.address % 8192 + a.size) then each_at (stores_of a.kind) ((a.address / 8192 + 1) * 8192) else [])

-- The word of the program is at this word of the space: at the place of its piece of 4 MiB, and as far in it as in the piece.
abbrev pub IsWordAt : List (Option ℕ) → Word → Word → Type 0
IsWordAt places program space = (space.stores ≡ program.stores) × (space.address % 4194304 ≡ program.address % 4194304)
    × (piece_at places (space.address / 4194304) ≡ Some (program.address / 4194304))

-- each of these words is at the one of the same number among those, and there are as many
abbrev pub AreAt : List (Option ℕ) → List Word → List Word → Type 0
AreAt places [] [] = Unit {0}
AreAt places [] (m ∷ ms) = ⊥
AreAt places (w ∷ ws) [] = ⊥
AreAt places (w ∷ ws) (m ∷ ms) = IsWordAt places w m × AreAt places ws ms

-- Calls were added, and what they load and store are these words of the program, at the places that pieces have.
pub record MadeAt (places : List (Option ℕ)) (before after : List Line) (program : List Word) : Type 0 where
  pub made : List Word
  pub adds : Adds before after made
  pub at : AreAt places program made
