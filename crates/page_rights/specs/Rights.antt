-- The rights that the pages of a space have of their own. Contracts look at them only through those of a page.
use Rattle.std.specs.Prelude.{ℕ, ◌/◌, ◌%◌, List, [], slice_index_or, Option, Some, None}
use Rattle.pager_model.specs.declared.region.Rights.{Rights}
use Rattle.pager_model.specs.declared.region.Rights.TheVariants.{NoAccess, Read, Write}
use Rattle.page_rights.specs.declared.block.Block.{Block}
use Rattle.page_rights.specs.declared.block.Block.TheVariants.{Unset, Closed, Reads, Writes, Mixed}

pub record RightsTree : Type 0 where
  -- of each block of 512 pages the rights that they all have, or that they differ
  pub blocks : List Block
  -- of each block the number of its leaf, where it has one
  pub numbers : List (Option ℕ)
  -- of each leaf the rights of its pages
  pub leaves : List (List (Option Rights))

-- a block of which all pages have these rights
abbrev pub uniform : Option Rights → Block
uniform None = Unset
uniform (Some NoAccess) = Closed
uniform (Some Read) = Reads
uniform (Some Write) = Writes

-- the rights that all pages of a block have, where no leaf says them
abbrev pub all_of : Block → Option Rights
all_of Unset = None
all_of Closed = Some NoAccess
all_of Reads = Some Read
all_of Writes = Some Write
all_of Mixed = None

-- the leaf that says the rights of a block's pages, where they differ
abbrev pub leaf_in : Block → Option ℕ → Option ℕ
leaf_in Unset number = None
leaf_in Closed number = None
leaf_in Reads number = None
leaf_in Writes number = None
leaf_in Mixed number = number

abbrev pub block_at : RightsTree → ℕ → Block
block_at tree block = slice_index_or tree.blocks block Unset

abbrev pub number_at : RightsTree → ℕ → Option ℕ
number_at tree block = slice_index_or tree.numbers block None

abbrev pub leaf_of : RightsTree → ℕ → Option ℕ
leaf_of tree block = leaf_in (block_at tree block) (number_at tree block)

abbrev pub leaf_at : RightsTree → ℕ → List (Option Rights)
leaf_at tree leaf = slice_index_or tree.leaves leaf []

-- the rights of a page at a place of a block: those in the leaf, or those of all its pages
abbrev pub rights_by : RightsTree → Option ℕ → Option Rights → ℕ → Option Rights
rights_by tree None all place = all
rights_by tree (Some leaf) all place = slice_index_or (leaf_at tree leaf) place None

-- the rights of a page, and none past the last one
unfoldable pub rights_of : RightsTree → ℕ → Option Rights
rights_of tree page = rights_by tree (leaf_of tree (page / 512)) (all_of (block_at tree (page / 512))) (page % 512)
