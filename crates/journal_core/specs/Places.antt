-- Entries put at their places in a list.
use Rattle.std.specs.Prelude.{ℕ, ◌<◌, List, fold, slice_set}
use Rattle.std.specs.List.{All}
use Rattle.pager_model.specs.declared.entry.Numbered.{Numbered}

-- one entry is put at its place
abbrev pub put : List Numbered → Numbered → List Numbered
put history n = slice_set history n.number n

abbrev pub placed : List Numbered → List Numbered → List Numbered
placed history log = fold put history log

abbrev pub placed_all : List Numbered → List (List Numbered) → List Numbered
placed_all history logs = fold placed history logs

-- the places are below this
abbrev pub IsPlaced : ℕ → List Numbered → Type 0
IsPlaced long log = All (λ (n : Numbered). n.number < long) log
