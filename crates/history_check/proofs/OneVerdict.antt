-- A history has one verdict.
use Rattle.std.proofs.Common.{◌≡◌, ℕ, ◌+◌, ◌<◌, List, [], ◌∷◌, ◌++◌, take, drop, inl, inr, refl, sym, ap, ◌∙◌, subst, arith}
use Rattle.std.proofs.lemmas.Bool.{cases_order}
use Rattle.std.proofs.lemmas.List.{take-append-drop, take-take}
use Rattle.pager_model.specs.declared.entry.Entry.{Entry}
use Rattle.pager_model.specs.Legal.{AllFollow, IsLegal}
use Rattle.pager_model.specs.Scripts.{Script}
use Rattle.pager_model.specs.Settings.{Given}
use Rattle.history_check.specs.declared.verdict.Verdict.{Verdict}
use Rattle.history_check.specs.declared.verdict.Verdict.TheVariants.{Yes, No}
use Rattle.history_check.specs.Verdicts.{IsVerdict, IsFirstBad, told_setting}

-- the first entries of those that may follow may follow
AllFollow-front : (g : Given) (before xs ys : List Entry) → AllFollow g before (xs ++ ys) → AllFollow g before xs
AllFollow-front g before [] ys all = tt
AllFollow-front g before (e ∷ es) ys all = (all.0, AllFollow-front g (before ++ e ∷ []) es ys all.1)

IsLegal-take : (g : Given) (history : List Entry) (n : ℕ) → IsLegal g history → IsLegal g (take n history)
IsLegal-take g history n legal = AllFollow-front g [] (take n history) (drop n history) (subst (IsLegal g) (sym (take-append-drop n history)) legal)

earlier : (g : Given) (history : List Entry) (n m : ℕ) → n < m → IsFirstBad g history n → IsLegal g (take m history) → ⊥
earlier g history n m below one legal = one.bad (subst (IsLegal g) (take-take (n + 1) m history (omega arith)) (IsLegal-take g (take m history) (n + 1) legal))

same_bad : (g : Given) (history : List Entry) (n m : ℕ) → IsFirstBad g history n → IsFirstBad g history m → n ≡ m
same_bad g history n m one other = elim (cases_order n m) [
  | inl same ↦ same
  | inr apart ↦ elim apart [
    | inl below ↦ absurd (earlier g history n m below one other.legal)
    | inr above ↦ absurd (earlier g history m n above other one.legal)
  ]
]

never : (g : Given) (history : List Entry) (n : ℕ) → IsFirstBad g history n → IsLegal g history → ⊥
never g history n one legal = one.bad (IsLegal-take g history (n + 1) legal)

pub one_verdict : (script : Script) (history : List Entry) (one other : Verdict) → IsVerdict script history one → IsVerdict script history other → one ≡ other
one_verdict script history Yes Yes first second = refl
one_verdict script history Yes (No m) first second = elim second [
  | inl bad ↦ absurd (never (told_setting script) history m bad first.0)
  | inr another ↦ absurd (another.other first.1)
]
one_verdict script history (No n) Yes first second = elim first [
  | inl bad ↦ absurd (never (told_setting script) history n bad second.0)
  | inr another ↦ absurd (another.other second.1)
]
one_verdict script history (No n) (No m) first second = elim first [
  | inl bad ↦ elim second [
    | inl also ↦ ap (λ k. No k) (same_bad (told_setting script) history n m bad also)
    | inr another ↦ absurd (never (told_setting script) history n bad another.legal)
  ]
  | inr another ↦ elim second [
    | inl bad ↦ absurd (never (told_setting script) history m bad another.legal)
    | inr also ↦ ap (λ k. No k) (another.all ∙ sym also.all)
  ]
]
