-- Words that are numbers.
use Rattle.std.proofs.Common.{◌≡◌, ℕ, ◌^◌, ◌<◌, ◌==◌, ◌↔◌, IsTrue, List, decimal, ap, sym, ◌∙◌}
use Rattle.std.specs.Str.Parse.{digits_value}
use Rattle.std.proofs.lemmas.Bool.{eq-eqb, eqb-true}
use Rattle.trace_lines.proofs.Numbers.{decimal_value}

-- a word is one number at most
pub one_number : (word : List ℕ) (a b : ℕ) → a < 2 ^ 64 → b < 2 ^ 64 → word ≡ decimal a → word ≡ decimal b → a ≡ b
one_number word a b small low is also =
    sym (decimal_value a small) ∙ ap (digits_value 10) (sym is ∙ also) ∙ decimal_value b low

pub number_test : (word : List ℕ) (found number : ℕ) → found < 2 ^ 64 → number < 2 ^ 64 → word ≡ decimal found
    → IsTrue (found == number) ↔ word ≡ decimal number
number_test word found number small low is =
    (λ same. is ∙ ap decimal (eqb-true found number same), λ also. eq-eqb found number (one_number word found number small low is also))
