-- What is kept of the rights of pages.
use Rattle.std.specs.Prelude.{ℕ, ◌≡◌, ◌<◌, List, [], ◌∷◌, ◌++◌, length, slice_set, Option, Some, None, is_some}
use Rattle.std.specs.List.{count_by}
use Rattle.pager_model.specs.declared.region.Rights.{Rights}
use Rattle.page_rights.specs.Rights.{RightsTree, number_at}

-- There are 2,048 blocks and as many leaves as there are blocks with one. The leaf of a block is there, and no two blocks have one leaf.
pub record IsTree (tree : RightsTree) : Type 0 where
  pub blocks : length tree.blocks ≡ 2048
  pub numbers : length tree.numbers ≡ 2048
  pub count : length tree.leaves ≡ count_by is_some tree.numbers
  pub known : (b n : ℕ) → number_at tree b ≡ Some n → n < length tree.leaves
  pub apart : (b c n : ℕ) → number_at tree b ≡ Some n → number_at tree c ≡ Some n → b ≡ c

-- the leaves with this one written, or as a new one where it has no number yet
abbrev pub with_leaf : Option ℕ → List (Option Rights) → List (List (Option Rights)) → List (List (Option Rights))
with_leaf None leaf leaves = leaves ++ leaf ∷ []
with_leaf (Some n) leaf leaves = slice_set leaves n leaf
