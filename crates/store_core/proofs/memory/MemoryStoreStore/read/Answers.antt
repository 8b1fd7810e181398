use Rattle.std.proofs.Common.{◌≡◌, ℕ, List, Option, Some, None, IfSome, unwrap_or, ap, ◌∙◌}
use Rattle.pager_model.specs.Stored.{copy_in, copy_at, zero_words}
use Rattle.store_core.proofs.CopyLemmas.{same_copies}
use Rattle.store_core.proofs.memory.MemoryStoreStore.read.Goals as goal

-- words that are those of a copy, else zero, are those of a copy that is known
known : (copy : Option (List ℕ)) (words : List ℕ) → words ≡ unwrap_or copy zero_words → IfSome copy (λ w. words ≡ w)
known (Some w) words is = is
known None words is = tt

pub returns-then-contains-clause-same : goal.returns-then-contains-clause-same
returns-then-contains-clause-same c = same_copies _ _ _ _ (ap (λ s. s.copies) c.self.view_is)

pub returns-clause-gave : goal.returns-clause-gave
unfolding copy_at
returns-clause-gave c = c.read_copy.ensures ∙ ap (λ s. unwrap_or (copy_in s.copies c.args.page) zero_words) c.self.view_is

pub returns-clause-read : goal.returns-clause-read
unfolding copy_at
returns-clause-read c = λ _. known _ _ (c.read_copy.ensures ∙ ap (λ s. unwrap_or (copy_in s.copies c.args.page) zero_words) c.self.view_is)
