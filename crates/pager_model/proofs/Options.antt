-- What an option is, by its tests and by what it may hold.
use Rattle.std.proofs.Common.{◌≡◌, ◌⊎◌, true, false, Option, None, Some, is_some, is_none, inl, inr, refl, sym, subst}
use Rattle.std.specs.Option.{IfSome}
use Rattle.std.proofs.lemmas.Bool.{false≢true}

pub cases_Option : {A : Type 0} (o : Option A) → (o ≡ None) ⊎ ((a : A) × (o ≡ Some a))
cases_Option None = inl refl
cases_Option (Some a) = inr (a, refl)

pub some_from_is_some : {A : Type 0} (o : Option A) → is_some o ≡ true → (a : A) × (o ≡ Some a)
some_from_is_some None is = absurd (false≢true is)
some_from_is_some (Some a) is = (a, refl)

pub none_from_is_some : {A : Type 0} (o : Option A) → is_some o ≡ false → o ≡ None
none_from_is_some None is = refl
none_from_is_some (Some a) is = absurd (false≢true (sym is))

pub none_from_is_none : {A : Type 0} (o : Option A) → is_none o ≡ true → o ≡ None
none_from_is_none None is = refl
none_from_is_none (Some a) is = absurd (false≢true is)

-- an option that is `Some` of nothing
pub none_from_never : {A : Type 0} (o : Option A) → ((a : A) → o ≡ Some a → ⊥) → o ≡ None
none_from_never None never = refl
none_from_never (Some a) never = absurd (never a refl)

-- what holds of whatever it may hold, holds of what it holds
pub in_some : {A : Type 0} (P : A → Type 0) (o : Option A) (a : A) → o ≡ Some a → IfSome o P → P a
in_some P o a is holds = subst (λ p. IfSome p P) is holds

-- what holds of whatever it may hold
pub IfSome-from : {A : Type 0} (o : Option A) (P : A → Type 0) → ((a : A) → o ≡ Some a → P a) → IfSome o P
IfSome-from None P all = tt
IfSome-from (Some a) P all = all a refl
