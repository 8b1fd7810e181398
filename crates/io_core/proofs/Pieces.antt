-- Bytes that are taken piece by piece.
use Rattle.std.proofs.Common.{◌≡◌, ℕ, ◌+◌, ◌-◌, List, ◌++◌, length, take, drop, append_assoc}
use Rattle.std.proofs.lemmas.List.{take_rest}
use Rattle.std.proofs.Math.Seq.{take-add}

-- the first i of the bytes, and then the first n of the rest
pub append_piece : (had bytes : List ℕ) (i n : ℕ) → had ++ take i bytes ++ take n (take (length bytes - i) (drop i bytes)) ≡ had ++ take
    (i + n) bytes
append_piece had bytes i n = rw (take-add, take_rest bytes i) (append_assoc had (take i bytes) (take n (drop i bytes)))
