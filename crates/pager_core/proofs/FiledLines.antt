-- The lines of a trace and the turns between them, and the pieces of a history that they make.
use Rattle.std.proofs.Common.{◌≡◌, ◌≢◌, ℕ, zero, suc, ◌+◌, ◌≤◌, ◌==◌, true, false, cond, List, [], ◌∷◌, ◌++◌, length, filter, map, refl, sym, ap, ◌∙◌, arith}
use Rattle.std.proofs.lemmas.Bool.Decides.{nat_tests}
use Rattle.std.proofs.lemmas.List.{append-nil, append_assoc, map-append}
use Rattle.std.proofs.lemmas.List.Elements.{filter-append}
use Rattle.std.specs.List.{AllByRecursion}
use Rattle.pager_model.specs.declared.call.Line.{Line}
use Rattle.pager_model.specs.declared.entry.Entry.{Entry}
use Rattle.pager_model.specs.Entries.{is_of, entries_of}
use Rattle.pager_model.specs.Showing.{calls_of, IsSequence, IsTurn, AreTurns, FilesLines}

-- Sequences and turns, and the pieces of a history.

-- a history that is filed goes on by the next line's sequence, where no more turns than lines are due before it
pub FilesLines-line : (c mark n : ℕ) (lines : List Line) (line : Line) (h piece : List Entry) → n ≤ length lines + 1
    → FilesLines c mark n lines h → IsSequence line piece → FilesLines c mark n (lines ++ line ∷ []) (h ++ piece)
FilesLines-line c mark zero [] line h piece few filed is = (piece, [], ap (λ l. l ++ piece) filed ∙ sym (append-nil piece), is, refl)
FilesLines-line c mark (suc zero) [] line h piece few filed is = (
  filed.0,
  piece,
  [],
  ap (λ l. l ++ piece) (filed.2 ∙ ap (λ l. filed.0 ++ l) filed.4 ∙ append-nil filed.0) ∙ ap (λ l. filed.0 ++ l) (sym (append-nil piece)),
  filed.3,
  is,
  refl,
)
FilesLines-line c mark (suc (suc n)) [] line h piece few filed is = absurd (omega (arith, few))
FilesLines-line c mark zero (l ∷ lines) line h piece few filed is = (
  filed.0,
  filed.1 ++ piece,
  ap (λ k. k ++ piece) filed.2 ∙ append_assoc filed.0 filed.1 piece,
  filed.3,
  FilesLines-line c mark zero lines line filed.1 piece (omega arith) filed.4 is,
)
FilesLines-line c mark (suc n) (l ∷ lines) line h piece few filed is = (
  filed.0,
  filed.1,
  filed.2 ++ piece,
  ap (λ k. k ++ piece) filed.3 ∙ append_assoc filed.0 (filed.1 ++ filed.2) piece
      ∙ ap (λ k. filed.0 ++ k) (append_assoc filed.1 filed.2 piece),
  filed.4,
  filed.5,
  FilesLines-line c mark n lines line filed.2 piece (omega (arith, few)) filed.6 is,
)

AreTurns-turn : (c mark n : ℕ) (h turn : List Entry) → AreTurns c mark n h → IsTurn c mark turn → AreTurns c mark (suc n) (h ++ turn)
AreTurns-turn c mark zero h turn filed is = (turn, [], ap (λ l. l ++ turn) filed ∙ sym (append-nil turn), is, refl)
AreTurns-turn c mark (suc n) h turn filed is = (
  filed.0,
  filed.1 ++ turn,
  ap (λ k. k ++ turn) filed.2 ∙ append_assoc filed.0 filed.1 turn,
  filed.3,
  AreTurns-turn c mark n filed.1 turn filed.4 is,
)

-- and by one turn more, where there was one before each line
pub FilesLines-turn : (c mark n : ℕ) (lines : List Line) (h turn : List Entry) → length lines ≤ n → FilesLines c mark n lines h
    → IsTurn c mark turn → FilesLines c mark (suc n) lines (h ++ turn)
FilesLines-turn c mark n [] h turn many filed is = AreTurns-turn c mark n h turn filed is
FilesLines-turn c mark zero (l ∷ lines) h turn many filed is = absurd (omega (arith, many))
FilesLines-turn c mark (suc n) (l ∷ lines) h turn many filed is = (
  filed.0,
  filed.1,
  filed.2 ++ turn,
  ap (λ k. k ++ turn) filed.3 ∙ append_assoc filed.0 (filed.1 ++ filed.2) turn ∙ ap (λ k. filed.0 ++ k) (append_assoc filed.1 filed.2 turn),
  filed.4,
  filed.5,
  FilesLines-turn c mark n lines filed.2 turn (omega (arith, many)) filed.6 is,
)

-- entries that are all of one processor are its entries
pub own_entries : (c : ℕ) (es : List Entry) → AllByRecursion (λ (e : Entry). e.processor ≡ c) es → entries_of c es ≡ es
own_entries c [] own = refl
own_entries c (e ∷ es) own =
    let here : is_of c e ≡ true = (let same : e.processor ≡ c = own.0 in grind (arith, nat_tests)) in
    ap (λ b. cond b (e ∷ filter (is_of c) es) (filter (is_of c) es)) here ∙ ap (λ l. e ∷ l) (own_entries c es own.1)

-- a processor's entries in a history that goes on by its own
pub entries_on : (c : ℕ) (h piece : List Entry) → AllByRecursion (λ (e : Entry). e.processor ≡ c) piece
    → entries_of c (h ++ piece) ≡ entries_of c h ++ piece
entries_on c h piece own = filter-append (is_of c) h piece ∙ ap (λ l. entries_of c h ++ l) (own_entries c piece own)

-- the calls of a processor, of lines one after another
pub calls_of-append : (c : ℕ) (xs ys : List Line) → calls_of c (xs ++ ys) ≡ calls_of c xs ++ calls_of c ys
calls_of-append c xs ys =
    ap (map (λ (l : Line). l.call)) (filter-append (λ (l : Line). l.processor == c) xs ys) ∙ map-append (λ (l : Line). l.call) _ _

pub calls_of-own : (c : ℕ) (line : Line) → line.processor ≡ c → calls_of c (line ∷ []) ≡ line.call ∷ []
calls_of-own c line same =
    let here : (line.processor == c) ≡ true = grind (arith, nat_tests) in
    ap (λ b. map (λ (l : Line). l.call) (cond b (line ∷ []) [])) here

pub calls_of-other : (c : ℕ) (line : Line) → line.processor ≢ c → calls_of c (line ∷ []) ≡ []
calls_of-other c line differs =
    let away : (line.processor == c) ≡ false = grind (arith, nat_tests) in
    ap (λ b. map (λ (l : Line). l.call) (cond b (line ∷ []) [])) away
