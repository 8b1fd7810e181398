-- The calls of lines, dealt out to their processors one after the other.
use Rattle.std.proofs.Common.{◌≡◌, ◌≢◌, ℕ, ◌+◌, ◌^◌, ◌<◌, ◌≤◌, ◌==◌, List, [], ◌∷◌, ◌++◌, length, map, take, get_or, slice_get, None, refl, ap, sym, ◌∙◌, inl, inr, arith}
use Rattle.std.specs.List.{All, AllByRecursion}
use Rattle.std.proofs.lemmas.Bool.{cases_eq, cases_lt, cases_Bool, eq-eqb, ne_eqb}
use Rattle.std.proofs.lemmas.List.{get_or-set_same, get_or-set_other, get_or_append_left, length_push, map_push, take_more}
use Rattle.std.proofs.lemmas.List.Elements.{recursion_from_All}
use Rattle.std.proofs.lemmas.Option.{slice_get_past}
use Rattle.std.proofs.Math.ListN.{length-set, set}
use Rattle.std.proofs.Math.Seq.{get_or-append_seam}
use Rattle.pager_model.specs.declared.call.Call.{Call}
use Rattle.pager_model.specs.declared.call.Line.{Line}
use Rattle.pager_model.specs.Scripts.{Script}
use Rattle.pager_model.specs.Showing.{calls_of}
use Rattle.pager_model.specs.TraceText.{HasText, IsLine}
use Rattle.pager_model.proofs.Histories.{filter-push_in, filter-push_out}
use Rattle.history_text.specs.Calls.{AreDealt}
use Rattle.history_text.specs.HistoryText.{call_at}

-- Rows without calls.

module _ {V : Type 0} (items : V → List Call) where
  pub none_dealt : (own : List V) → own ≡ [] → AreDealt items 0 [] own
  none_dealt own none = record { many = ap length none; calls = λ c d below. absurd (omega (arith, below)) }

  pub one_row_more : (rows : ℕ) (own : List V) (v : V) → AreDealt items rows [] own → items v ≡ [] → AreDealt items (rows + 1) [] (own ++ v ∷ [])
  one_row_more rows own v were empty = record {
    many = length_push own v ∙ ap (λ n. n + 1) were.many;
    calls = λ c d below. elim (cases_lt c rows) [
      | inl earlier ↦ ap items (get_or_append_left own (v ∷ []) d c (omega (arith, earlier, were.many))) ∙ were.calls c d earlier
      | inr last ↦
          let here : c ≡ length own = omega (arith, last, below, were.many) in
          ap (λ k. items (get_or (own ++ v ∷ []) k d)) here ∙ ap items (get_or-append_seam own v [] d) ∙ empty
    ];
  }

-- The calls of one line more are one more of its processor, and none more of another.
module _ (lines : List Line) (n : ℕ) (d : Line) (below : n < length lines) where
  abbrev line : Line
  line = get_or lines n d

  own_more : (c : ℕ) → line.processor ≡ c → calls_of c (take (n + 1) lines) ≡ calls_of c (take n lines) ++ line.call ∷ []
  own_more c own =
      ap (calls_of c) (take_more lines n d below)
      ∙ ap (map (λ (x : Line). x.call)) (filter-push_in (λ (x : Line). x.processor == c) (take n lines) line (eq-eqb line.processor c own))
      ∙ map_push (λ (x : Line). x.call) _ line

  other_more : (c : ℕ) → line.processor ≢ c → calls_of c (take (n + 1) lines) ≡ calls_of c (take n lines)
  other_more c other =
      ap (calls_of c) (take_more lines n d below)
      ∙ ap (map (λ (x : Line). x.call)) (filter-push_out (λ (x : Line). x.processor == c) (take n lines) line (ne_eqb line.processor c other))

  pub row_known : {V : Type 0} (items : V → List Call) (processors : ℕ) (own : List V) → AreDealt items processors (take n lines) own
      → All (λ (l : Line). l.processor < processors) lines → (m : ℕ) → m ≡ length own → line.processor < m
  row_known items processors own were within m is =
      let known = within n d below in
      let many = were.many in
      omega (arith, known, many, is)

  pub dealt_more : {V : Type 0} (items : V → List Call) (processors : ℕ) (own : List V) → AreDealt items processors (take n lines) own
      → line.processor < processors → (v v' : V) → v ≡ get_or own line.processor v → items v' ≡ items v ++ line.call ∷ []
      → AreDealt items processors (take (n + 1) lines) (set own line.processor v')
  dealt_more items processors own were known v v' read pushed = record {
    many = length-set own line.processor v' ∙ were.many;
    calls = λ c e within. elim (cases_eq c line.processor) [
      | inl here ↦
          ap (λ k. items (get_or (set own line.processor v') k e)) here
          ∙ ap items (get_or-set_same own line.processor v' e (omega (arith, known, were.many)))
          ∙ pushed
          ∙ ap (λ l. l ++ line.call ∷ []) (ap items read ∙ were.calls line.processor v known)
          ∙ sym (own_more line.processor refl)
          ∙ ap (λ k. calls_of k (take (n + 1) lines)) (sym here)
      | inr other ↦
          ap items (get_or-set_other own line.processor c v' e other)
          ∙ were.calls c e within ∙ sym (other_more c (λ same. other (sym same)))
    ];
  }

-- Calls that there are.

past_all : (version processors spaces c : ℕ) (lines : List Line) → AllByRecursion (IsLine version processors spaces) lines → processors ≤ c
    → calls_of c lines ≡ []
past_all version processors spaces c [] are past = refl
past_all version processors spaces c (l ∷ lines) are past =
    rw (ne_eqb l.processor c (λ same. omega (arith, are.0.0, same, past))) (past_all version processors spaces c lines are.1 past)

-- none but the processors make calls
pub past_processors : (script : Script) (c n : ℕ) → HasText script → script.processors ≤ c → call_at script c n ≡ None
past_processors script c n has past =
    ap (λ (l : List Call). slice_get l n)
    (past_all script.version script.processors script.spaces c script.calls (recursion_from_All _ script.calls has.lines) past)

few_of : (c : ℕ) (lines : List Line) → length (calls_of c lines) ≤ length lines
few_of c [] = omega arith
few_of c (l ∷ lines) = elim (cases_Bool (l.processor == c)) [
  | inl own ↦ rw own (omega (arith, few_of c lines))
  | inr other ↦ rw other (omega (arith, few_of c lines))
]

-- their numbers are small
pub small_number : (script : Script) (c n : ℕ) → HasText script → call_at script c n ≢ None → n < 2 ^ 32
small_number script c n has there =
    elim (cases_lt n (length (calls_of c script.calls))) [
      | inl below ↦ omega (arith, below, few_of c script.calls, has.few)
      | inr past ↦ absurd (there (slice_get_past (calls_of c script.calls) n past))
    ]
