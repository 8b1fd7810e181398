-- The answer that a brief says: its entry is of the brief's processor, whatever it says.
use Rattle.std.proofs.Common.{◌≡◌, ◌≢◌, ◌∙◌, ℕ, List, None, if◌then◌else◌, refl, ap, sym, eq-eqb, ne_eqb}
use Rattle.pager_model.specs.declared.entry.Entry.{Entry}
use Rattle.run_history.specs.declared.brief.Brief.{Brief}
use Rattle.run_history.specs.declared.brief.Said.{Said}
use Rattle.run_history.specs.declared.brief.Said.TheVariants.{Accessed, Filled, Given, PagedOut, Claimed, Whole}
use Rattle.run_history.specs.Answers.{answer_in, answer_of}
use Rattle.run_history.specs.Briefs.{entry_by, entry_of}

made_by : (whole : List Entry) (c space : ℕ) (said : Said) → (entry_by whole c space said).processor ≡ c
made_by whole c space (Accessed store hit size number address word) = refl
made_by whole c space (Filled held wired page frame low high cap) = refl
made_by whole c space (Given page frame) = refl
made_by whole c space (PagedOut written page) = refl
made_by whole c space (Claimed writing owner page frame wanted) = refl
made_by whole c space (Whole place) = refl

-- by its own processor, and by another
pub answer_of-own : (whole : List Entry) (b : Brief) (c : ℕ) → b.processor ≡ c
    → answer_of c (entry_of whole b) ≡ answer_in (entry_of whole b).what
answer_of-own whole b c own =
    ap (λ t. if t then answer_in (entry_of whole b).what else None) (eq-eqb (entry_of whole b).processor c
    (made_by whole b.processor b.space b.said ∙ own))

pub answer_of-other : (whole : List Entry) (b : Brief) (c : ℕ) → b.processor ≢ c → answer_of c (entry_of whole b) ≡ None
answer_of-other whole b c other =
    ap (λ t. if t then answer_in (entry_of whole b).what else None)
    (ne_eqb (entry_of whole b).processor c (λ same. other (sym (made_by whole b.processor b.space b.said) ∙ same)))
