-- A text is cut at its first comma.
use Rattle.std.proofs.Common.{ℕ, ◌≡◌, ◌+◌, ◌-◌, ◌==◌, List, ◌∷◌, ◌++◌, length, take, drop, Some}
use Rattle.std.specs.List.{position}
use Rattle.trace_lines.proofs.Splits.{at_first, rest_of}

-- what stands up to it and behind it
pub at_comma : (text : List ℕ) (i : ℕ) → position (λ b. b == 44) text ≡ Some i → text ≡ take i text ++ 44 ∷ drop (i + 1) text
at_comma text i e = (at_first 44 text i e).0

-- what stands behind it, as a range up to the end
pub behind_comma : (text : List ℕ) (n : ℕ) → take (length text - n) (drop n text) ≡ drop n text
behind_comma text n = rest_of n text
