-- A part of a list that is written over.
use Rattle.std.proofs.Common.{◌≡◌, ℕ, ◌+◌, ◌-◌, ◌<◌, ◌≤◌, ◌++◌, List, length, get_or, take, ◌∙◌, arith}
use Rattle.std.proofs.lemmas.List.{get_or_append_left, get_or-append_right, get_or-take, length-take}

-- what stands before it stays
pub get_or-before : {X : Type 0} (xs rest : List X) (from i : ℕ) (d : X) → from ≤ length xs → i < from
    → get_or (take from xs ++ rest) i d ≡ get_or xs i d
get_or-before xs rest from i d within before =
    get_or_append_left (take from xs) rest d i (omega (arith, length-take from xs)) ∙ get_or-take from xs i d before

-- and in it stands what was written
pub get_or-within : {X : Type 0} (xs part rest : List X) (from i : ℕ) (d : X) → from ≤ length xs → from ≤ i → i < from + length part
    → get_or (take from xs ++ (part ++ rest)) i d ≡ get_or part (i - from) d
get_or-within xs part rest from i d within on before =
    get_or-append_right (take from xs) (part ++ rest) from i d (omega (arith, length-take from xs)) on
    ∙ get_or_append_left part rest d (i - from) (omega arith)
