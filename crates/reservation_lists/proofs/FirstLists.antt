-- The first list that isn't empty.
use Rattle.std.proofs.Common.{◌≡◌, ℕ, ◌+◌, ◌<◌, suc, zero, true, false, List, Option, Some, None, refl, sym, ap, ◌∙◌, arith}
use Rattle.std.specs.Option.{is_some, option_or}
use Rattle.std.proofs.lemmas.Bool.{false≢true}
use Rattle.pager_model.specs.Ages.{Member, first_oldest, oldest_in}

pub option_or-some : {A : Type 0} (a b : Option A) → is_some a ≡ true → option_or a b ≡ a
option_or-some None b some = absurd (false≢true some)
option_or-some (Some x) b some = refl

pub option_or-none : {A : Type 0} (a b : Option A) → is_some a ≡ false → option_or a b ≡ b
option_or-none None b none = refl
option_or-none (Some x) b none = absurd (false≢true (sym none))

-- where the first list isn't empty, its oldest is taken
pub first_oldest-some : (list : ℕ → List Member) (k count : ℕ) → 0 < count → is_some (oldest_in (list k)) ≡ true
    → first_oldest list k count ≡ oldest_in (list k)
first_oldest-some list k zero more some = absurd (omega arith)
first_oldest-some list k (suc count) more some =
    option_or-some (oldest_in (list k)) (first_oldest list (k + 1) count) some

-- and where it is, the lists after it are looked at
pub first_oldest-later : (list : ℕ → List Member) (k count rest : ℕ) → count ≡ suc rest → is_some (oldest_in (list k)) ≡ false
    → first_oldest list k count ≡ first_oldest list (k + 1) rest
first_oldest-later list k count rest more none =
    ap (first_oldest list k) more ∙ option_or-none (oldest_in (list k)) (first_oldest list (k + 1) rest) none
