-- What a history is legal for.
use Rattle.std.specs.Prelude.{ℕ, Bool, false, List, slice_index_or}
use Rattle.pager_model.specs.SizeSets.{SizeSet}

pub record Given : Type 0 where
  -- how many frames there are
  pub frames : ℕ
  -- which page sizes there are
  pub sizes : SizeSet
  -- for each processor 0 where it makes calls, and a daemon's low mark
  pub marks : List ℕ
  -- for each space whether its store tells its copies, which were zero at entry
  pub told : List Bool
  -- for each space its store's count of faults at entry
  pub faults : List ℕ

-- the mark of a processor
abbrev pub mark_of : Given → ℕ → ℕ
mark_of g c = slice_index_or g.marks c 0

-- whether the words of a space are told
abbrev pub is_told : Given → ℕ → Bool
is_told g s = slice_index_or g.told s false

-- the count of faults of a space's store at entry
abbrev pub faults_at_entry : Given → ℕ → ℕ
faults_at_entry g s = slice_index_or g.faults s 0
