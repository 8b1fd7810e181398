-- What it does to the frames that the pages of a range give theirs up.
use Rattle.std.proofs.Common.{◌≡◌, ℕ, zero, suc, ◌+◌, ◌<◌, ◌≤◌, true, cond, fold, is_some, Some, None, refl, ap, sym, ◌∙◌, inl, inr, arith}
use Rattle.std.specs.List.{range_with_len}
use Rattle.std.proofs.lemmas.Bool.{cases_eq}
use Rattle.pager_model.specs.FrameStates.{FrameState, frame_of, give_page, give_if_used, give_range}

-- a page without a place gives none up, and one with a place does
pub give_if_used-none : (st : FrameState) (space page : ℕ) → frame_of st space page ≡ None → give_if_used space st page ≡ st
give_if_used-none st space page none = ap (λ o. cond (is_some o) (give_page st space page) st) none

pub give_if_used-some : (st : FrameState) (space page frame : ℕ) → frame_of st space page ≡ Some frame
    → give_if_used space st page ≡ give_page st space page
give_if_used-some st space page frame is = ap (λ o. cond (is_some o) (give_page st space page) st) is

-- a range of such pages does
pub give_range-none : (space : ℕ) (st : FrameState) (first len : ℕ) → ((p : ℕ) → first ≤ p → p < first + len → frame_of st space p ≡ None)
    → give_range st space first len ≡ st
give_range-none space st first zero none = refl
give_range-none space st first (suc len) none =
    ap (λ t. fold (give_if_used space) t (range_with_len (first + 1) len))
    (give_if_used-none st space first (none first (omega arith) (omega arith)))
    ∙ give_range-none space st (first + 1) len (λ p low high. none p (omega arith) (omega arith))

-- the lowest page with a place gives it up first
pub give_range-lowest : (space : ℕ) (st : FrameState) (first len page : ℕ) → first ≤ page → page < first + len
    → ((p : ℕ) → first ≤ p → p < page → frame_of st space p ≡ None) → is_some (frame_of st space page) ≡ true
    → ((p : ℕ) → first ≤ p → p ≤ page → frame_of (give_page st space page) space p ≡ None)
    → give_range (give_page st space page) space first len ≡ give_range st space first len
give_range-lowest space st first zero page low high none has gone = absurd (omega arith)
give_range-lowest space st first (suc len) page low high none has gone =
    elim (cases_eq page first) [
      | inl same ↦
          ap (λ t. fold (give_if_used space) t (range_with_len (first + 1) len))
          (give_if_used-none (give_page st space page) space first (gone first (omega arith) (omega arith))
          ∙ ap (give_page st space) same
          ∙ sym (ap (λ b. cond b (give_page st space first) st) (ap (λ p. is_some (frame_of st space p)) (sym same) ∙ has)))
      | inr other ↦
          ap (λ t. fold (give_if_used space) t (range_with_len (first + 1) len))
          (give_if_used-none (give_page st space page) space first (gone first (omega arith) low))
          ∙ give_range-lowest space st (first + 1) len page (omega (arith, low, other)) (omega (arith, high))
          (λ p over under. none p (omega (arith, over)) under) has (λ p over under. gone p (omega (arith, over)) under)
          ∙ ap (λ t. fold (give_if_used space) t (range_with_len (first + 1) len))
          (sym (give_if_used-none st space first (none first (omega arith) (omega (arith, low, other)))))
    ]
