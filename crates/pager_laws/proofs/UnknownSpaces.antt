-- A space that isn't known has no entries, and so no resident page.
use Rattle.std.proofs.Common.{◌≡◌, ℕ, ◌<◌, ◌≤◌, false, List, length, Option, Some, None, IfSome, refl, ap, ◌∙◌, arith}
use Rattle.std.proofs.lemmas.Bool.{ne_eqb}
use Rattle.pager_model.specs.Options.{is_that}
use Rattle.pager_model.specs.declared.entry.Entry.{Entry}
use Rattle.pager_model.specs.Legal.{IsLegal, space_at}
use Rattle.pager_model.specs.Settings.{Given}
use Rattle.pager_model.specs.SpaceStates.{SpaceState}
use Rattle.pager_model.proofs.Histories.{space_at-other, IsLegal-keeps}

unnamed_past : (o : Option ℕ) (n s : ℕ) → IfSome o (λ t. t < n) → n ≤ s → is_that s o ≡ false
unnamed_past None n s below past = refl
unnamed_past (Some t) n s below past = ne_eqb t s (λ is. absurd (omega (arith, below, past, is)))

pub base-unknown : (g : Given) (h : List Entry) → IsLegal g h → (s page : ℕ) → length g.told ≤ s → (space_at g h s).base page ≡ None
base-unknown g h legal = IsLegal-keeps g (λ h. (s page : ℕ) → length g.told ≤ s → (space_at g h s).base page ≡ None)
    (λ h e before may s page past. ap (λ (st : SpaceState). st.base page)
    (space_at-other g h e s (unnamed_past e.space (length g.told) s may.space past)) ∙ before s page past)
    (λ s page past. refl) h legal
