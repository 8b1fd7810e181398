-- The answers of a processor, entry by entry.
use Rattle.std.proofs.Common.{◌≡◌, ◌+◌, ◌≤◌, ℕ, zero, suc, false, length, take, get_or, IfSome, subst, arith, List, [], ◌∷◌, ◌++◌, flat_map, Option, None, Some, if◌then◌else◌, inl, inr, ap, refl, ◌∙◌, sym, eq-eqb, ne_eqb}
use Rattle.std.specs.Fmt.{decimal}
use Rattle.std.specs.Option.{option_and_then, option_to_list}
use Rattle.std.proofs.lemmas.Bool.{cases_eq}
use Rattle.std.proofs.lemmas.List.{append-nil, take_more}
use Rattle.std.proofs.lemmas.Option.{slice_get_cases}
use Rattle.std.proofs.lemmas.Grind.{flat_map-append}
use Rattle.std.proofs.lemmas.List.Elements.{filter-append}
use Rattle.pager_model.specs.declared.entry.Numbered.{Numbered}
use Rattle.pager_model.specs.declared.entry.What.{What}
use Rattle.pager_model.specs.declared.entry.What.TheVariants.{Answer}
use Rattle.pager_model.specs.declared.reply.Answered.{Answered}
use Rattle.pager_model.specs.Entries.{is_of, entries_of}
use Rattle.pager_model.specs.Legal.{entries_in}
use Rattle.pager_model.specs.PrintedText.{answer_line, answered_words, answers_of, entry_text}
use Rattle.pager_model.specs.TraceText.{line_of_words}
use Rattle.run_history.specs.Answers.{answer_in, answer_by}
use Rattle.run_history.specs.Places.{NoneIn, is_by}

-- what an entry adds to them
abbrev pub answer_of : ℕ → Numbered → List ℕ
answer_of c n = answers_of (n.entry ∷ []) c

pub answers-by_entry : (c : ℕ) (history : List Numbered) → flat_map (answer_of c) history ≡ answers_of (entries_in history) c
answers-by_entry c [] = refl
answers-by_entry c (n ∷ ns) =
    ap (λ l. answer_of c n ++ l) (answers-by_entry c ns)
    ∙ sym (flat_map-append entry_text (entries_of c (n.entry ∷ [])) (entries_of c (entries_in ns)))
    ∙ ap (flat_map entry_text) (sym (filter-append (is_of c) (n.entry ∷ []) (entries_in ns)))

-- the line of an answer, where there is one
abbrev pub line_of : ℕ → Option (ℕ × Answered) → List ℕ
line_of c None = []
line_of c (Some (number, answered)) = line_of_words (decimal c ∷ decimal number ∷ answered_words answered)

answer_line-is : (c : ℕ) (what : What) → answer_line c what ≡ line_of c (answer_in what)
answer_line-is c (Answer number call answered) = refl
answer_line-is c what = refl

answer_of-is : (c : ℕ) (n : Numbered) → answer_of c n ≡ line_of c (answer_by c n)
answer_of-is c n = elim (cases_eq n.entry.processor c) [
  | inl own ↦
      let is = eq-eqb n.entry.processor c own in
      ap (λ b. flat_map entry_text (if b then n.entry ∷ [] else [])) is
      ∙ append-nil (answer_line n.entry.processor n.entry.what)
      ∙ ap (λ p. answer_line p n.entry.what) own
      ∙ answer_line-is c n.entry.what
      ∙ sym (ap (λ b. line_of c (if b then answer_in n.entry.what else None)) is)
  | inr other ↦
      let is = ne_eqb n.entry.processor c other in
      ap (λ b. flat_map entry_text (if b then n.entry ∷ [] else [])) is
      ∙ sym (ap (λ b. line_of c (if b then answer_in n.entry.what else None)) is)
]

-- the answer at a place, where there is one
pub answers-at : (c : ℕ) (o : Option Numbered) → answers_of (entries_in (option_to_list o)) c ≡ line_of c (option_and_then (answer_by c) o)
answers-at c None = refl
answers-at c (Some n) = answer_of-is c n

-- an entry of another adds nothing
nothing_of : (c : ℕ) (n : Numbered) → is_by c n ≡ false → answer_of c n ≡ []
nothing_of c n other = ap (λ b. flat_map entry_text (if b then n.entry ∷ [] else [])) other

-- nor do several
pub nothing_between : (c : ℕ) (history : List Numbered) (from k : ℕ) → from + k ≤ length history
    → NoneIn (is_by c) history from (from + k)
    → flat_map (answer_of c) (take (from + k) history) ≡ flat_map (answer_of c) (take from history)
nothing_between c history from zero within none = ap (λ i. flat_map (answer_of c) (take i history)) (omega arith)
nothing_between c history from (suc k) within none = elim (slice_get_cases history (from + k)).1 [
  | inl found ↦
      let n = found.0 in
      let other : is_by c n ≡ false = subst (λ o. IfSome o (λ x. is_by c x ≡ false)) found.2 (none (from + k) (omega arith) (omega arith)) in
      ap (λ i. flat_map (answer_of c) (take i history)) {x = from + suc k} {y = from + k + 1} (omega arith)
      ∙ ap (flat_map (answer_of c)) (take_more history (from + k) n (omega (arith, within)))
      ∙ flat_map-append (answer_of c) (take (from + k) history) (get_or history (from + k) n ∷ [])
      ∙ ap (λ x. flat_map (answer_of c) (take (from + k) history) ++ (answer_of c x ++ [])) found.3
      ∙ ap (λ l. flat_map (answer_of c) (take (from + k) history) ++ (l ++ [])) (nothing_of c n other)
      ∙ append-nil (flat_map (answer_of c) (take (from + k) history))
      ∙ nothing_between c history from k (omega (arith, within)) (λ p low high. none p low (omega (arith, high)))
  | inr past ↦ absurd (omega (arith, past, within))
]
