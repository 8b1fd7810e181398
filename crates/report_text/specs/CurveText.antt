-- What miss curves print: a line for each capacity, with its misses by the tiles of the run and by base pages alone; and the end.
use Rattle.std.specs.Prelude.{ℕ, ◌+◌, List, [], ◌∷◌, ◌++◌, codes, decimal, flat_map, length, slice_index}
use Rattle.std.specs.List.{range_with_len}
use Rattle.pager_model.specs.TraceText.{line_of_words}

-- the line of the capacity at this place, of which the first is 1
abbrev pub curve_line : (tiles pages : List ℕ) → ℕ → List ℕ
curve_line tiles pages place =
    line_of_words (decimal (place + 1) ∷ decimal (slice_index tiles place) ∷ decimal (slice_index pages place) ∷ [])

-- curves of misses by tiles and by base pages, each from capacity 1 on
abbrev pub curves_text : (tiles pages : List ℕ) → List ℕ
curves_text tiles pages = flat_map (curve_line tiles pages) (range_with_len 0 (length tiles)) ++ line_of_words (codes "end" ∷ [])
