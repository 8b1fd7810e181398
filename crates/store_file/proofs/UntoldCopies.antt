-- A store that tells none of its copies and keeps every page.
use Rattle.std.proofs.Common.{◌≡◌, ℕ, true, List, Option, inl, inr, refl, arith}
use Rattle.std.proofs.lemmas.Bool.{cases_lt, false≢true}
use Rattle.pager_model.specs.SpaceStates.{Rises, last_count}
use Rattle.pager_model.specs.Stored.{keeps_at, SameCopies, SetsCopy}
use Rattle.store_core.specs.MemoryState.{one_more}
use Rattle.store_file.specs.FileState.{untold}

-- whatever it does, its copies are the same, since it tells none
pub same_copies : (faults more : ℕ) → SameCopies (untold faults) (untold more)
unfolding keeps_at
same_copies faults more = record { tells = refl; copies = λ told p. absurd (false≢true told); keeps = λ p. refl }

-- likewise a page has any copy
pub sets_copy : (page : ℕ) (copy : Option (List ℕ)) (faults more : ℕ) → SetsCopy page copy (untold faults) (untold more)
unfolding keeps_at
sets_copy page copy faults more =
    record { tells = refl; copies = λ told p. absurd (false≢true told); keeps = λ p kept. refl; others = λ p apart. refl }

-- it keeps the page
pub keeps_page : (page faults : ℕ) → keeps_at (untold faults) page ≡ true
unfolding keeps_at
keeps_page page faults = refl

-- one fault more
pub rises : (faults : ℕ) → Rises faults (one_more faults)
rises faults = elim (cases_lt faults last_count) [ inl low ↦ inl (omega arith) | inr high ↦ inr (omega arith) ]
