-- The first entry of a history that may not follow those before it.
use Rattle.std.proofs.Common.{◌≡◌, ℕ, ◌+◌, ◌<◌, List, [], ◌∷◌, ◌++◌, length, take, get_or, sym, ap, subst, ◌∙◌, arith}
use Rattle.std.proofs.lemmas.List.{length-map, map_more, take-map}
use Rattle.pager_model.specs.declared.entry.Numbered.{Numbered}
use Rattle.pager_model.specs.Legal.{IsLegal, MayFollow, entries_in}
use Rattle.pager_model.specs.Settings.{Given}
use Rattle.pager_laws.proofs.LegalPrefixes.{IsLegal-at}
use Rattle.history_check.specs.Verdicts.{IsFirstBad}

-- the entries up to a place, and the entry there
pub entries-more : (history : List Numbered) (i : ℕ) (x : Numbered) → i < length history → x ≡ get_or history i x
    → entries_in (take (i + 1) history) ≡ entries_in (take i history) ++ x.entry ∷ []
entries-more history i x known is =
    map_more (λ (n : Numbered). n.entry) history i x known ∙ ap (λ (n : Numbered). entries_in (take i history) ++ n.entry ∷ []) (sym is)

pub IsFirstBad-at : (g : Given) (history : List Numbered) (i : ℕ) (x : Numbered) → i < length history → x ≡ get_or history i x
    → IsLegal g (entries_in (take i history)) → (MayFollow g (entries_in (take i history)) x.entry → ⊥) → IsFirstBad g (entries_in history) i
IsFirstBad-at g history i x known is legal never = record {
  within = omega (arith, known, length-map history (λ (n : Numbered). n.entry));
  legal = subst (IsLegal g) (sym (take-map (λ (n : Numbered). n.entry) i history)) legal;
  bad = λ more.
      let with_it = subst (IsLegal g) (take-map (λ (n : Numbered). n.entry) (i + 1) history ∙ entries-more history i x known is) more in
      never (IsLegal-at g (entries_in (take i history)) [] x.entry with_it).1;
}
