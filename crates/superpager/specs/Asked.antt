-- The words before a command's own.
use Rattle.std.specs.Prelude.{ℕ, ◌≡◌, ◌≤◌, List, ◌∷◌, codes, decimal}
use Rattle.std.specs.Borrow.{Bor}
use Rattle.pager_command.specs.Forms.{are_of}

-- the words ask for copies in this folder, and go on with the rest
abbrev pub AsksFolder : List (Bor (List ℕ)) → List ℕ → List (List ℕ) → Type 0
AsksFolder words folder rest = are_of words ≡ codes "--folder" ∷ folder ∷ rest

-- the words ask for copies in so many slots for each space, and go on with the rest
pub record AsksSlots (words : List (Bor (List ℕ))) (slots : ℕ) (rest : List (List ℕ)) : Type 0 where
  pub are : are_of words ≡ codes "--swap" ∷ decimal slots ∷ rest
  pub some : 1 ≤ slots
  pub few : slots ≤ 4096
