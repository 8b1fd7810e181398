-- Lists of bytes that are cut at a byte.
use Rattle.std.proofs.Common.{◌-◌, ◌≡◌, ℕ, ◌+◌, ◌<◌, ◌≤◌, true, false, cond, ltb, eqb, List, [], ◌∷◌, ◌++◌, length, get_or, take, drop, drop-cons, add-one, Some, None, refl, sym, ap, subst, ◌∙◌, arith, inl, inr}
use Rattle.std.specs.List.{position, position_or_len, slice_split, onto_first, AllByRecursion}
use Rattle.std.proofs.lemmas.Bool.{eqb-true, cases_Bool}
use Rattle.std.proofs.lemmas.Bool.Decides.{nat_tests}
use Rattle.std.proofs.lemmas.Option.{cond_some}
use Rattle.std.proofs.Math.Seq.{take-length}
use Rattle.std.proofs.lemmas.List.{take-append-drop, length-drop}
use Rattle.std.proofs.lemmas.List.Elements.{All-from_recursion}
use Rattle.std.proofs.lemmas.List.Quantifiers.{position-Some}
use Rattle.std.proofs.lemmas.List.Splits.{slice_split_none, slice_split_first}

-- the pieces of a list that is cut at each such byte
abbrev pub pieces : ℕ → List ℕ → List (List ℕ)
pieces byte bytes = slice_split (λ b. eqb b byte) bytes

-- there is always a first piece
pub some_piece : (byte : ℕ) (bytes : List ℕ) → (first : List ℕ) × (others : List (List ℕ)) × (pieces byte bytes ≡ first ∷ others)
some_piece byte [] = ([], [], refl)
some_piece byte (b ∷ bytes) =
    let p = some_piece byte bytes in
    elim (eqb b byte) as (λ t. (first : List ℕ) × (others : List (List ℕ))
    × (cond t ([] ∷ pieces byte bytes) (onto_first b (pieces byte bytes)) ≡ first ∷ others)) [
      | true ↦ ([], pieces byte bytes, refl)
      | false ↦ rw p.2 (b ∷ p.0, p.1, refl)
    ]

-- where a byte stands first, and where it doesn't stand
pub at_first : (byte : ℕ) (bytes : List ℕ) (i : ℕ) → position (λ b. eqb b byte) bytes ≡ Some i
    → (bytes ≡ take i bytes ++ byte ∷ drop (i + 1) bytes) × (pieces byte bytes ≡ take i bytes ∷ pieces byte (drop (i + 1) bytes))
at_first byte bytes i e =
    let at = position-Some (λ b. eqb b byte) bytes i 0 e in
    let is : get_or bytes i 0 ≡ byte = eqb-true _ _ at.1 in
    let place : position_or_len (λ b. eqb b byte) bytes ≡ i =
    (cond_some (ltb (position_or_len (λ b. eqb b byte) bytes) (length bytes)) _ i e).1 in
    let within : i < length bytes = at.0 in
    let tail : drop i bytes ≡ byte ∷ drop (i + 1) bytes = rw (add-one, drop-cons bytes i 0, is) refl in (
      sym (take-append-drop i bytes) ∙ ap (λ (x : List ℕ). take i bytes ++ x) tail,
      subst (λ (k : ℕ). pieces byte bytes ≡ take k bytes ∷ pieces byte (drop (k + 1) bytes)) place
          (slice_split_first (λ b. eqb b byte) bytes 0 (omega (arith, at.0))),
    )

none_passes : (byte : ℕ) (bytes : List ℕ) → length bytes ≤ position_or_len (λ b. eqb b byte) bytes
    → AllByRecursion (λ b. eqb b byte ≡ false) bytes
none_passes byte [] le = tt
none_passes byte (b ∷ bytes) le =
    elim (cases_Bool (eqb b byte)) [
      | inl same ↦ absurd (let none : length (b ∷ bytes) ≤ 0 = rw same at le in omega arith)
      | inr other ↦ (
        other,
        none_passes byte bytes (let more : length (b ∷ bytes) ≤ 1 + position_or_len
            (λ b. eqb b byte) bytes = rw other at le in omega arith),
      )
    ]

pub at_none : (byte : ℕ) (bytes : List ℕ) → position (λ b. eqb b byte) bytes ≡ None → pieces byte bytes ≡ bytes ∷ []
at_none byte bytes e =
    let le : length bytes ≤ position_or_len (λ b. eqb b byte) bytes = grind (arith, nat_tests) in
    slice_split_none (λ b. eqb b byte) bytes (All-from_recursion _ bytes (none_passes byte bytes le))

-- what is left behind a place, as a range up to the end
pub rest_of : (n : ℕ) (bytes : List ℕ) → take (length bytes - n) (drop n bytes) ≡ drop n bytes
rest_of n bytes = ap (λ (k : ℕ). take k (drop n bytes)) (sym (length-drop n bytes)) ∙ take-length (drop n bytes)
