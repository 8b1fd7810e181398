-- The spaces as they go behind their locks and as they come back, each with the author of its part.
use Rattle.std.specs.Prelude.{ℕ, ◌≡◌, ◌+◌, ◌<◌, ◌≤◌, Bool, true, List, [], length, slice_get, Some}
use Rattle.std.specs.List.{All}
use Rattle.journal_core.specs.Journals.{JournalName, AuthorState}
use Rattle.space_core.specs.Standing.{Kept}
use Rattle.pager_locks.specs.Locked.{IsLockedSpace}

-- Which of the four locks from this number on are there: at least those below the count.
pub record AreThere (count from : ℕ) (s0 s1 s2 s3 : Bool) : Type 0 where
  pub there0 : from + 0 < count → s0 ≡ true
  pub there1 : from + 1 < count → s1 ≡ true
  pub there2 : from + 2 < count → s2 ≡ true
  pub there3 : from + 3 < count → s3 ≡ true

-- the spaces from this number on, the last first, each with its author
pub record AreLeft (j : JournalName) (from : ℕ) (spaces : List Kept) (authors : List AuthorState) : Type 0 where
  pub same_count : length authors ≡ length spaces
  pub all : from < length j.setting.told → from + length spaces ≡ length j.setting.told
  pub none : length j.setting.told ≤ from → spaces ≡ []
  pub each : (i s : ℕ) (kept : Kept) (a : AuthorState) → i + s + 1 ≡ length j.setting.told → slice_get spaces i ≡ Some kept
      → slice_get authors i ≡ Some a → IsLockedSpace j s kept (Some a)

-- a space, with its author, who is there
pub record IsPart (j : JournalName) (authors : List AuthorState) (s : ℕ) (kept : Kept) : Type 0 where
  pub author : AuthorState
  pub at : slice_get authors s ≡ Some author
  pub locked : IsLockedSpace j s kept (Some author)

-- the spaces below this number, as far as there are any, with their authors
pub record AreParts (j : JournalName) (below : ℕ) (spaces : List Kept) (authors : List AuthorState) : Type 0 where
  pub same_count : length authors ≡ length spaces
  pub no_more : length spaces ≤ below
  pub known : length spaces ≤ length j.setting.told
  pub all : length spaces < length j.setting.told → length spaces ≡ below
  pub journals : All (λ (a : AuthorState). a.journal ≡ j) authors
  pub each : (s : ℕ) (kept : Kept) → slice_get spaces s ≡ Some kept → IsPart j authors s kept
