-- Words that fit no form.
use Rattle.std.proofs.Common.{◌≡◌, ℕ, ltb, ◌<◌, ◌≤◌, Bool, true, false, cond, List, [], ◌∷◌, ◌++◌, length, Some, codes, refl, sym, ◌∙◌, arith, inl, inr}
use Rattle.std.specs.Str.{bytes_eq}
use Rattle.std.proofs.lemmas.Bool.{cases_Bool, and_parts, ltb-false, false≢true}
use Rattle.trace_lines.specs.declared.cause.LineCause.TheVariants as causes
use Rattle.trace_lines.specs.declared.line.Name.{Name}
use Rattle.trace_lines.specs.declared.line.Name.TheVariants.{Map, Grow, Unmap, Protect, Load, Store, Sync, Evict, Discard, Wire, Unwire}
use Rattle.trace_lines.specs.Forms.{Place, may_stand, fits, line_fault, early_forms, later_forms, call_forms}
use Rattle.trace_lines.specs.Heads.{HasName, is_later, word_of_name}

-- a word that names no call
pub no_name : (version processors spaces : ℕ) (processor word : List ℕ) (arguments : List (List ℕ))
    → ((name : Name) → HasName version name → bytes_eq word (word_of_name name) ≡ false)
    → line_fault (call_forms version processors spaces) (processor ∷ word ∷ arguments) ≡ Some causes.Form
no_name version processors spaces processor word arguments none = by_age (ltb version 3) refl
  where
    old : (name : Name) → is_later name ≡ false → bytes_eq word (word_of_name name) ≡ false
    old name is = none name (λ later. absurd (false≢true (sym is ∙ later)))

    by_age : (early : Bool) → ltb version 3 ≡ early
        → line_fault (early_forms processors spaces ++ cond early [] (later_forms processors spaces)) (processor ∷ word ∷ arguments)
        ≡ Some causes.Form
    by_age true age =
        let map : bytes_eq word (codes "map") ≡ false = old Map refl in
        let grow : bytes_eq word (codes "grow") ≡ false = old Grow refl in
        let unmap : bytes_eq word (codes "unmap") ≡ false = old Unmap refl in
        let protect : bytes_eq word (codes "protect") ≡ false = old Protect refl in
        let load : bytes_eq word (codes "load") ≡ false = old Load refl in
        let store : bytes_eq word (codes "store") ≡ false = old Store refl in
        let sync : bytes_eq word (codes "sync") ≡ false = old Sync refl in
        let evict : bytes_eq word (codes "evict") ≡ false = old Evict refl in
        rw (map, grow, unmap, protect, load, store, sync, evict) refl
    by_age false age =
        let map : bytes_eq word (codes "map") ≡ false = old Map refl in
        let grow : bytes_eq word (codes "grow") ≡ false = old Grow refl in
        let unmap : bytes_eq word (codes "unmap") ≡ false = old Unmap refl in
        let protect : bytes_eq word (codes "protect") ≡ false = old Protect refl in
        let load : bytes_eq word (codes "load") ≡ false = old Load refl in
        let store : bytes_eq word (codes "store") ≡ false = old Store refl in
        let sync : bytes_eq word (codes "sync") ≡ false = old Sync refl in
        let evict : bytes_eq word (codes "evict") ≡ false = old Evict refl in
        let discard : bytes_eq word (codes "discard") ≡ false = none Discard (λ _. ltb-false version 3 age) in
        let wire : bytes_eq word (codes "wire") ≡ false = none Wire (λ _. ltb-false version 3 age) in
        let unwire : bytes_eq word (codes "unwire") ≡ false = none Unwire (λ _. ltb-false version 3 age) in
        rw (map, grow, unmap, protect, load, store, sync, evict, discard, wire, unwire) refl

-- as many words as places
pub fits_length : (form : List Place) (words : List (List ℕ)) → fits form words ≡ true → length form ≡ length words
fits_length [] [] e = refl
fits_length [] (word ∷ words) e = absurd cc
fits_length (place ∷ form) [] e = absurd cc
fits_length (place ∷ form) (word ∷ words) e =
    omega (arith, fits_length form words (and_parts (may_stand place word) (fits form words) e).1)

-- forms of at most so many places
abbrev pub AreShort : ℕ → List (List Place) → Type 0
AreShort most [] = Unit {0}
AreShort most (form ∷ forms) = (length form ≤ most) × AreShort most forms

pub too_many_words : (most : ℕ) (forms : List (List Place)) (words : List (List ℕ)) → AreShort most forms → most < length words
    → line_fault forms words ≡ Some causes.Form
too_many_words most [] words short more = refl
too_many_words most (form ∷ forms) words short more =
    elim (cases_Bool (fits form words)) [
      | inl fit ↦ absurd (omega (arith, fits_length form words fit, short.0))
      | inr unfit ↦ rw unfit (too_many_words most forms words short.1 more)
    ]

pub call_too_long : (version processors spaces : ℕ) (words : List (List ℕ)) → 7 < length words
    → line_fault (call_forms version processors spaces) words ≡ Some causes.Form
call_too_long version processors spaces words more = too_many_words 7 (call_forms version processors spaces) words (by_age (ltb version 3)) more
  where
    by_age : (early : Bool) → AreShort 7 (early_forms processors spaces ++ cond early [] (later_forms processors spaces))
    by_age true = (
      omega arith,
      (omega arith, (omega arith, (omega arith, (omega arith, (omega arith, (omega arith, (omega arith, tt))))))),
    )
    by_age false = (
      omega arith,
      (
        omega arith,
        (
          omega arith,
          (omega arith, (omega arith, (omega arith, (omega arith, (omega arith, (omega arith, (omega arith, (omega arith, tt)))))))),
        ),
      ),
    )
