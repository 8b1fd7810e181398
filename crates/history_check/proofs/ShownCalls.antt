-- The calls of a processor that are left, and what an entry answers of them.
use Rattle.std.proofs.Common.{◌≡◌, ◌≢◌, ◌↔◌, ℕ, ◌+◌, ◌<◌, ◌≤◌, ◌==◌, Bool, true, false, if◌then◌else◌, List, [], ◌∷◌, length, drop, get_or, filter, map, Option, Some, None, refl, sym, ap, ◌∙◌, add-one}
use Rattle.std.specs.List.{enumerate_from, cons_option}
use Rattle.std.proofs.Math.Seq.{drop-cons}
use Rattle.std.proofs.Math.ListN.{drop_of_length-le}
use Rattle.std.proofs.lemmas.Bool.{cond-true, cond-false, eq-eqb, ne_eqb}
use Rattle.pager_model.specs.declared.call.Call.{Call}
use Rattle.pager_model.specs.declared.call.Call.TheVariants.{Load}
use Rattle.pager_model.specs.declared.call.Line.{Line}
use Rattle.pager_model.specs.declared.entry.Entry.{Entry}
use Rattle.pager_model.specs.Entries.{entries_of, is_of}
use Rattle.pager_model.specs.Showing.{answer_in, answers_in, calls_of}
use Rattle.history_check.specs.declared.shows.Awaited.{Awaited}
use Rattle.history_check.specs.Shown.{IsNextLine, RestShown}

module _ (c : ℕ) (lines : List Line) where
  -- the lines from a place on, where there is one
  split : (i : ℕ) (d : Line) → i < length lines → drop i lines ≡ get_or lines i d ∷ drop (i + 1) lines
  split i d within = drop-cons lines i d within ∙ ap (λ n. get_or lines i d ∷ drop n lines) (sym (add-one i))

  -- a line of the processor is the first of its calls that are left
  pub calls-own : (i : ℕ) (d : Line) → i < length lines → (get_or lines i d).processor ≡ c
      → calls_of c (drop i lines) ≡ (get_or lines i d).call ∷ calls_of c (drop (i + 1) lines)
  calls-own i d within own =
      ap (calls_of c) (split i d within)
      ∙ ap (map (λ (l : Line). l.call))
      (cond-true ((get_or lines i d).processor == c) (get_or lines i d ∷ filter (λ (l : Line). l.processor == c) (drop (i + 1) lines))
      (filter (λ (l : Line). l.processor == c) (drop (i + 1) lines)) (eq-eqb (get_or lines i d).processor c own))

  -- and a line of another is none of them
  pub calls-other : (i : ℕ) (d : Line) → i < length lines → (get_or lines i d).processor ≢ c
      → calls_of c (drop i lines) ≡ calls_of c (drop (i + 1) lines)
  calls-other i d within other =
      ap (calls_of c) (split i d within)
      ∙ ap (map (λ (l : Line). l.call))
      (cond-false ((get_or lines i d).processor == c) (get_or lines i d ∷ filter (λ (l : Line). l.processor == c) (drop (i + 1) lines))
      (filter (λ (l : Line). l.processor == c) (drop (i + 1) lines)) (ne_eqb (get_or lines i d).processor c other))

  -- behind the last line none is left
  pub calls-past : (i : ℕ) → length lines ≤ i → calls_of c (drop i lines) ≡ []
  calls-past i past = ap (calls_of c) (drop_of_length-le lines past)

-- An entry's answer.

-- of this processor, where it is one
abbrev pub answer_by : ℕ → Entry → Option (ℕ × Call)
answer_by c e = if is_of c e then answer_in e.what else None

pub answers-more : (c : ℕ) (e : Entry) (rest : List Entry)
    → answers_in (entries_of c (e ∷ rest)) ≡ cons_option (answer_by c e) (answers_in (entries_of c rest))
answers-more c e rest = by_owner (is_of c e)
  where
    by_owner : (b : Bool) → answers_in (if b then e ∷ entries_of c rest else entries_of c rest)
        ≡ cons_option (if b then answer_in e.what else None) (answers_in (entries_of c rest))
    by_owner true = refl
    by_owner false = refl

-- the parts of lists that are equal
same_head : {A : Type 0} (x y : A) (xs ys : List A) → (x ∷ xs) ≡ (y ∷ ys) → (x ≡ y) × (xs ≡ ys)
same_head x y xs ys same = (cc, cc)

no_head : {A : Type 0} (x : A) (xs : List A) → (x ∷ xs) ≡ [] → ⊥
no_head x xs same = cc

module _ (c : ℕ) (lines : List Line) (awaited : Awaited) (e : Entry) where
  -- no answer of the processor leaves its calls
  pub rest-none : answer_by c e ≡ None → (rest : List Entry)
      → RestShown c lines awaited (e ∷ rest) ↔ RestShown c lines awaited rest
  rest-none none rest =
      let same : answers_in (entries_of c (e ∷ rest)) ≡ answers_in (entries_of c rest) =
      answers-more c e rest ∙ ap (λ o. cons_option o (answers_in (entries_of c rest))) none in
      (λ shown. sym same ∙ shown, λ shown. same ∙ shown)

  -- an answer needs a call
  pub rest-missing : (a : ℕ × Call) → answer_by c e ≡ Some a → calls_of c (drop awaited.place lines) ≡ [] → (rest : List Entry)
      → RestShown c lines awaited (e ∷ rest) → ⊥
  rest-missing a is none rest shown =
      no_head a (answers_in (entries_of c rest))
      (sym (answers-more c e rest ∙ ap (λ o. cons_option o (answers_in (entries_of c rest))) is) ∙ shown
      ∙ ap (enumerate_from awaited.number) none)

  module _ (number : ℕ) (call : Call) (is : answer_by c e ≡ Some (number, call)) (place : ℕ) (line : IsNextLine c lines awaited.place place) (d : Line) where
    both : (rest : List Entry) → RestShown c lines awaited (e ∷ rest)
        → ((number, call) ∷ answers_in (entries_of c rest))
        ≡ ((awaited.number, (get_or lines place d).call) ∷ enumerate_from (awaited.number + 1) (calls_of c (drop (place + 1) lines)))
    both rest shown =
        sym (answers-more c e rest ∙ ap (λ o. cons_option o (answers_in (entries_of c rest))) is) ∙ shown
        ∙ ap (enumerate_from awaited.number) (line.next d)

    -- which is the next one of this number
    pub rest-other : ((number ≡ awaited.number) → call ≡ (get_or lines place d).call → ⊥) → (rest : List Entry)
        → RestShown c lines awaited (e ∷ rest) → ⊥
    rest-other never rest shown =
        let same = (same_head (number, call) (awaited.number, (get_or lines place d).call) _ _ (both rest shown)).0 in
        never (ap (λ (x : ℕ × Call). x.0) same) (ap (λ (x : ℕ × Call). x.1) same)

    pub rest-next : number ≡ awaited.number → call ≡ (get_or lines place d).call → (rest : List Entry)
        → RestShown c lines awaited (e ∷ rest) ↔ RestShown c lines (record { place = place + 1; number = number + 1 }) rest
    rest-next same_number same_call rest = (
      λ shown. (same_head (number, call) (awaited.number, (get_or lines place d).call) _ _ (both rest shown)).1
          ∙ ap (λ n. enumerate_from (n + 1) (calls_of c (drop (place + 1) lines))) (sym same_number),
      λ shown.
          answers-more c e rest ∙ ap (λ o. cons_option o (answers_in (entries_of c rest))) is
          ∙ ap (λ l. (number, call) ∷ l) shown
          ∙ ap (λ n. (number, call) ∷ enumerate_from (n + 1) (calls_of c (drop (place + 1) lines))) same_number
          ∙ ap (λ n. (n, call) ∷ enumerate_from (awaited.number + 1) (calls_of c (drop (place + 1) lines))) same_number
          ∙ ap (λ k. (awaited.number, k) ∷ enumerate_from (awaited.number + 1) (calls_of c (drop (place + 1) lines))) same_call
          ∙ sym (ap (enumerate_from awaited.number) (line.next d)),
    )

-- a call that is left is shown by no entry
pub rest-left : (c : ℕ) (lines : List Line) (awaited : Awaited) (place : ℕ) → IsNextLine c lines awaited.place place
    → RestShown c lines awaited [] → ⊥
rest-left c lines awaited place line shown =
    let first : Line = record { processor = 0; call = Load 0 0 } in
    no_head (awaited.number, (get_or lines place first).call) _ (sym (shown ∙ ap (enumerate_from awaited.number) (line.next first)))
