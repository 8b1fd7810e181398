-- A numbered history as far as it was followed.
use Rattle.std.proofs.Common.{◌≡◌, ◌<◌, ℕ, suc, List, ◌∷◌, ◌++◌, length, take, drop, get_or, Option, None, Some, IfSome, sym, ap, subst, ◌∙◌, arith}
use Rattle.std.specs.List.{All}
use Rattle.std.proofs.Math.Seq.{drop-cons}
use Rattle.std.proofs.lemmas.List.{take-append-drop, map-append}
use Rattle.pager_model.specs.declared.entry.Numbered.{Numbered}
use Rattle.pager_model.specs.FrameStates.{named_space}
use Rattle.pager_model.specs.Legal.{IsLegal, MayFollow, entries_in}
use Rattle.pager_model.specs.Settings.{Given}
use Rattle.pager_laws.proofs.LegalPrefixes.{IsLegal-at}
use Rattle.contiguity_plan.specs.Emptying.{IsOver}

-- of a legal history those before an entry are one, which the entry may follow
pub legal-before : (g : Given) (history : List Numbered) (i : ℕ) (d : Numbered) → i < length history → IsLegal g (entries_in history)
    → IsLegal g (entries_in (take i history)) × MayFollow g (entries_in (take i history)) (get_or history i d).entry
legal-before g history i d known legal =
    let rest = drop-cons history i d known in
    let split : history ≡ take i history ++ get_or history i d ∷ drop (suc i) history = sym (take-append-drop i history)
    ∙ ap (λ l. take i history ++ l) rest in
    let entries : entries_in history ≡ entries_in (take i history) ++ (get_or history i d).entry ∷ entries_in (drop (suc i) history) =
    ap entries_in split ∙ map-append (λ (n : Numbered). n.entry) (take i history) (get_or history i d ∷ drop (suc i) history) in
    IsLegal-at g (entries_in (take i history)) (entries_in (drop (suc i) history)) (get_or history i d).entry
    (subst (IsLegal g) entries legal)

-- the space that an entry of such a history names is one of 16
pub known-spaces : (g : Given) (frames : ℕ) (history : List Numbered) → IsOver frames g (entries_in history)
    → All (λ (n : Numbered). named_space n.entry.space < 16) history
known-spaces g frames history over = λ k d known. below (get_or history k d).entry.space
    (legal-before g history k d known over.legal).1.space
  where
    below : (o : Option ℕ) → IfSome o (λ s. s < length g.told) → named_space o < 16
    below None is = omega arith
    below (Some s) is = omega (arith, is, over.spaces)
