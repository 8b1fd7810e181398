-- The words of parts.
use Rattle.std.proofs.Common.{◌≡◌, ◌≢◌, ℕ, ◌^◌, ◌<◌, ◌≤◌, Bool, true, false, List, [], ◌∷◌, ◌++◌, codes, decimal, get_or, Option, Some, None, ap, sym, subst, ◌∙◌, arith}
use Rattle.std.specs.Str.Parse.{AllDigits}
use Rattle.std.proofs.lemmas.List.{append_cancel_right}
use Rattle.std.proofs.lemmas.Str.Parse.{digit_from_value}
use Rattle.trace_lines.proofs.Numbers.{all_digits}
use Rattle.pager_model.specs.PrintedText.{part_word}
use Rattle.history_text.specs.HistoryText.{IsPart}

-- a word of two parts, by what stands between the first letter and the last two
pub both_parts : (word behind digits s f number : List ℕ) → word ≡ s ++ behind → s ≡ codes "s" → behind ≡ digits ++ f → f ≡ codes "+f"
    → digits ≡ number → word ≡ 115 ∷ (number ++ 43 ∷ 102 ∷ [])
both_parts word behind digits s f number front is_s back is_f is =
    front ∙ ap (λ x. x ++ behind) is_s ∙ ap (λ x. 115 ∷ x) (back ∙ ap (λ x. digits ++ x) is_f ∙ ap (λ x. x ++ codes "+f") is)

ends_in_digits : (front : List ℕ) → AllDigits 10 (front ++ 43 ∷ 102 ∷ []) → ⊥
ends_in_digits [] h = (let r = digit_from_value 43 h.0 in omega arith)
ends_in_digits (b ∷ front) h = ends_in_digits front h.1

-- no number ends in these letters
pub not_digits : (front : List ℕ) (n : ℕ) → n < 2 ^ 64 → decimal n ≡ front ++ 43 ∷ 102 ∷ [] → ⊥
not_digits front n small is = ends_in_digits front (subst (AllDigits 10) is (all_digits n small))

-- it names no space that there isn't
pub no_such_space : (word digits : List ℕ) (spaces : ℕ) → spaces ≤ 2 ^ 64 → word ≡ 115 ∷ (digits ++ 43 ∷ 102 ∷ [])
    → ((n : ℕ) → n < spaces → digits ≢ decimal n) → (space : Option ℕ) (frames : Bool) → IsPart spaces space frames → word ≢ part_word space frames
no_such_space word digits spaces few is none None frames part same = omega (arith, ap (λ (l : List ℕ). get_or l 0 0) (sym is ∙ same))
no_such_space word digits spaces few is none (Some space) true part same =
    let equal : digits ++ 43 ∷ 102 ∷ [] ≡ decimal space ++ 43 ∷ 102 ∷ [] = cc in
    none space part (append_cancel_right digits (decimal space) (43 ∷ 102 ∷ []) equal)
no_such_space word digits spaces few is none (Some space) false part same =
    let equal : decimal space ≡ digits ++ 43 ∷ 102 ∷ [] = cc in
    not_digits digits space (omega (arith, part)) equal
