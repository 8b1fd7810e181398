-- A level of bits above another: its bit of a number is set where a bit of that word below is.
use Rattle.std.specs.Prelude.{ℕ, ◌≡◌, ◌*◌, ◌/◌, ◌≤◌, Bool, true, false, List, length, slice_index_or}
use Rattle.bit_set.specs.Bits.{HasInWord}

pub record Sums (below above : List Bool) : Type 0 where
  pub up : (n : ℕ) → slice_index_or below n false ≡ true → slice_index_or above (n / 64) false ≡ true
  pub down : (word : ℕ) → slice_index_or above word false ≡ true → HasInWord below word

-- three levels, the last of one word
pub record AreLevels (bits words groups : List Bool) : Type 0 where
  pub bits_in_words : Sums bits words
  pub words_in_groups : Sums words groups
  pub a_word_each : length bits ≤ 64 * length words
  pub a_group_each : length words ≤ 64 * length groups
  pub one_word : length groups ≤ 64
