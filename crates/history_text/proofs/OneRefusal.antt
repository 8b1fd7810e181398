-- A text has one refusal.
use Rattle.std.proofs.Common.{◌≡◌, ℕ, ◌+◌, List, [], ◌∷◌, inl, inr, sym, ◌∙◌}
use Rattle.std.proofs.lemmas.Bool.{false≢true}
use Rattle.pager_model.specs.Scripts.{Script}
use Rattle.history_text.specs.declared.fault.HistoryFault.{HistoryFault}
use Rattle.history_text.specs.Refusals.{IsRefused, RefusedAtEnd, RefusedFrom}
use Rattle.trace_reader.specs.Refusals.{lines_of}

at_end : (number : ℕ) (lines : List (List ℕ)) (one other : HistoryFault) → RefusedAtEnd number lines one → RefusedAtEnd number lines other → one ≡ other
at_end number [] one other first second = first ∙ sym second
at_end number ([] ∷ []) one other first second = absurd first
at_end number ([] ∷ (line ∷ lines)) one other first second = first ∙ sym second
at_end number ((b ∷ line) ∷ lines) one other first second = first ∙ sym second

from_line : (script : Script) (n : ℕ) (lines : List (List ℕ)) (one other : HistoryFault) → RefusedFrom script n lines one → RefusedFrom script n lines other
    → one ≡ other
from_line script n [] one other first second = first ∙ sym second
from_line script n (line ∷ []) one other first second = first ∙ sym second
from_line script n (line ∷ (next ∷ lines)) one other first second = elim first [
  | inl ends ↦ elim second [
    | inl also ↦ at_end (n + 1) (next ∷ lines) one other ends.1 also.1
    | inr goes ↦ elim goes [
      | inl bad ↦ absurd (false≢true (sym bad.0 ∙ ends.0))
      | inr good ↦ absurd (false≢true (sym good.0 ∙ ends.0))
    ]
  ]
  | inr goes ↦ elim goes [
    | inl bad ↦ elim second [
      | inl ends ↦ absurd (false≢true (sym bad.0 ∙ ends.0))
      | inr more ↦ elim more [
        | inl also ↦ bad.2 ∙ sym also.2
        | inr good ↦ absurd (bad.1 good.1)
      ]
    ]
    | inr good ↦ elim second [
      | inl ends ↦ absurd (false≢true (sym good.0 ∙ ends.0))
      | inr more ↦ elim more [
        | inl bad ↦ absurd (bad.1 good.1)
        | inr also ↦ from_line script (n + 1) (next ∷ lines) one other good.2 also.2
      ]
    ]
  ]
]

pub one_refusal : (script : Script) (text : List ℕ) (one other : HistoryFault) → IsRefused script text one → IsRefused script text other → one ≡ other
one_refusal script text one other first second = from_line script 0 (lines_of text) one other first second
