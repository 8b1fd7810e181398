use Rattle.std.proofs.Common.{◌≡◌, ◌∷◌, [], ℕ, zero, suc, ◌≤◌, slice_index, None, subst, sym, ap, ◌∙◌, refl, arith}
use Rattle.std.proofs.lemmas.Slice.Eq.{bytes_eq-Decides}
use Rattle.tiles.specs.TableEntries.{entry_at}
use Rattle.tiles.proofs.EntryChanges.{kept_entries}
use Rattle.tiles.proofs.CountChanges.{are_four}
use Rattle.tiles.proofs.EntryCounts.{none_counted, none_is_counted}
use Rattle.tiles.proofs.mixed.Mixed.is_empty.Goals as goal

zeros : (size : ℕ) → size ≤ 3 → slice_index (0 ∷ 0 ∷ 0 ∷ 0 ∷ []) size ≡ 0
zeros zero low = refl
zeros (suc zero) low = refl
zeros (suc (suc zero)) low = refl
zeros (suc (suc (suc zero))) low = refl
zeros (suc (suc (suc (suc size)))) low = absurd (omega arith)

pub returns-clause-true_where_none : goal.returns-clause-true_where_none
returns-clause-true_where_none c none =
    let counts = c.self.inside.counts in
    let are = c.self.invariant.1 in
    let zero : (size : ℕ) → size ≤ 3 → slice_index counts size ≡ 0 = λ size low. are.each size low
    ∙ none_is_counted c.self.inside.tree size (subst (λ m. (page : ℕ) → entry_at m page ≡ None) (sym c.self.view_is) none) in
    c.eq.ensures ∙ (bytes_eq-Decides counts (0 ∷ 0 ∷ 0 ∷ 0 ∷ [])).1 (are_four counts 0 0 0 0 are.four (zero 0 (omega arith))
    (zero 1 (omega arith)) (zero 2 (omega arith)) (zero 3 (omega arith)))

pub returns-clause-none_where_true : goal.returns-clause-none_where_true
returns-clause-none_where_true c empty =
    let none = 0 ∷ 0 ∷ 0 ∷ 0 ∷ [] in
    let is : c.self.inside.counts ≡ none = (bytes_eq-Decides c.self.inside.counts none).0 (sym c.eq.ensures ∙ empty) in
    subst (λ m. (page : ℕ) → entry_at m page ≡ None) c.self.view_is
    (none_counted c.self.inside.tree c.self.inside.counts (kept_entries c.self.inside.tree c.self.invariant.0) c.self.invariant.1
    (λ size low. ap (λ l. slice_index l size) is ∙ zeros size low))
