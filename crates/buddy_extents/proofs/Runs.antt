-- Runs of free frames, maximal blocks, and the choice.
use Rattle.std.proofs.Common.{◌≡◌, ℕ, suc, ◌+◌, ◌-◌, ◌*◌, ◌^◌, ◌<◌, ◌≤◌, Bool, true, false, List, length, Option, Some, None, refl, sym, ◌∙◌, arith}
use Rattle.std.proofs.lemmas.Bool.{and_parts, false≢true}
use Rattle.std.proofs.lemmas.Nat.{pow_pos}
use Rattle.pager_model.specs.FreeBlocks.{is_maximal, lowest_block, least_block}
use Rattle.pager_model.proofs.Ranges.{find_passes, find_first}
use Rattle.pager_model.proofs.FreeRuns.{run_free_within}

-- the look at one order more
pub least_here : (free : List Bool) (n f : ℕ) → n < 10 → lowest_block free n ≡ Some f → least_block free n (10 - n) ≡ Some f
least_here free n f h e = let count : 10 - n ≡ suc (9 - n) = omega arith in rw (count, e)

pub least_later : (free : List Bool) (n : ℕ) → n < 10 → lowest_block free n ≡ None
    → least_block free n (10 - n) ≡ least_block free (n + 1) (10 - (n + 1))
least_later free n h e =
    let count : 10 - n ≡ suc (10 - (n + 1)) = omega arith in rw (count, e)

-- no block of the order begins before the multiple of its frames with this number
abbrev pub NoneBefore : List Bool → ℕ → ℕ → Type 0
NoneBefore free order block = (f : ℕ) → f < block * 2 ^ order → is_maximal free order f ≡ false

-- the first one from 0 on is the lowest
pub lowest_block-first : (free : List Bool) (order block first : ℕ) → NoneBefore free order block → first ≡ block * 2 ^ order
    → is_maximal free order first ≡ true → lowest_block free order ≡ Some first
lowest_block-first free order block first none at is =
    let within = run_free_within free first (2 ^ order) (and_parts _ _ (and_parts _ _ is).1).0 (pow_pos order) in
    find_first (is_maximal free order) 0 (length free) first (λ k _ below. none k (omega arith)) (omega arith)
    (omega (arith, within, pow_pos order)) is

-- and where none begins before a multiple past the last frame, there is none
pub lowest_block-none : (free : List Bool) (order block : ℕ) → NoneBefore free order block → length free ≤ block * 2 ^ order
    → lowest_block free order ≡ None
lowest_block-none free order block none past = at (lowest_block free order) refl
  where
    at : (o : Option ℕ) → lowest_block free order ≡ o → lowest_block free order ≡ None
    at None is = is
    at (Some f) is =
        let passes = find_passes (is_maximal free order) 0 (length free) f is in
        let within = run_free_within free f (2 ^ order) (and_parts _ _ (and_parts _ _ passes).1).0 (pow_pos order) in
        absurd (false≢true (sym (none f (omega (arith, within, pow_pos order, past))) ∙ passes))
