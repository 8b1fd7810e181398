-- Which frames a set has after a range went in or out.
use Rattle.std.proofs.Common.{◌≡◌, ℕ, ◌+◌, ◌<◌, ◌≤◌, Bool, false, List, length, get_or, ◌⊎◌, inl, inr, arith}
use Rattle.std.proofs.lemmas.Bool.{cases_lt}
use Rattle.std.proofs.lemmas.List.{places, length-append, length-take, length-drop, length-replicate}
use Rattle.pager_model.specs.FreeBlocks.{with_range}

pub length-with_range : (free : List Bool) (first count : ℕ) (value : Bool) → first + count ≤ length free
    → length (with_range free first count value) ≡ length free
length-with_range free first count value h = simp (length-append, length-take, length-replicate, length-drop) (omega arith)

pub with_range_inside : (free : List Bool) (first count : ℕ) (value : Bool) → first + count ≤ length free → (frame : ℕ) → first ≤ frame
    → frame < first + count → get_or (with_range free first count value) frame false ≡ value
with_range_inside free first count value h frame low high = grind (arith, places)

pub with_range_outside : (free : List Bool) (first count : ℕ) (value : Bool) → first + count ≤ length free → (frame : ℕ)
    → (frame < first) ⊎ (first + count ≤ frame) → get_or (with_range free first count value) frame false ≡ get_or free frame false
with_range_outside free first count value h frame (inl before) = grind (arith, places)
with_range_outside free first count value h frame (inr behind) = grind (arith, places)

pub range_cases : (first count : ℕ) (P : ℕ → Type 0) → ((frame : ℕ) → (frame < first) ⊎ (first + count ≤ frame) → P frame)
    → ((frame : ℕ) → first ≤ frame → frame < first + count → P frame) → (frame : ℕ) → P frame
range_cases first count P outside inside frame =
    elim (cases_lt frame first) [
      | inl before ↦ outside frame (inl before)
      | inr low ↦ elim (cases_lt frame (first + count)) [
        | inl high ↦ inside frame low high
        | inr behind ↦ outside frame (inr behind)
      ]
    ]
