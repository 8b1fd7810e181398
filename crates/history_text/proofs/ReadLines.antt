-- A history that is read line by line.
use Rattle.std.proofs.Common.{◌≡◌, ◌≢◌, ℕ, suc, ◌+◌, ◌-◌, ◌≤◌, List, [], ◌∷◌, ◌++◌, length, All, codes, Option, Some, None, true, false, refl, sym, ap, subst, ◌∙◌, append_assoc, length-append, inl, inr, arith}
use Rattle.std.specs.List.{join_with_byte}
use Rattle.std.specs.Option.{option_map}
use Rattle.std.specs.Str.{bytes_eq}
use Rattle.std.proofs.lemmas.Grind.{flat_map-append}
use Rattle.std.proofs.lemmas.List.{append-nil, length-map, map_push}
use Rattle.std.proofs.lemmas.List.Concat.{flat_map-cons}
use Rattle.std.proofs.lemmas.List.Elements.{All-nil, All-push}
use Rattle.std.proofs.lemmas.List.Splits.{join_with_byte-slice_split}
use Rattle.std.proofs.lemmas.Slice.Eq.{bytes_eq-Decides}
use Rattle.run_history.specs.Kept.{placed_from}
use Rattle.pager_model.specs.declared.entry.Entry.{Entry}
use Rattle.pager_model.specs.declared.entry.Numbered.{Numbered}
use Rattle.pager_model.specs.Legal.{entries_in}
use Rattle.pager_model.specs.Scripts.{Script}
use Rattle.pager_model.specs.PrintedText.{history_line, history_text}
use Rattle.pager_model.specs.TraceText.{line_of_words}
use Rattle.trace_lines.specs.Words.{words_of}
use Rattle.trace_lines.proofs.Splits.{some_piece}
use Rattle.trace_reader.specs.Refusals.{lines_of}
use Rattle.trace_reader.proofs.Refusals.{line_is}
use Rattle.history_text.specs.declared.fault.HistoryFault.{HistoryFault}
use Rattle.history_text.specs.declared.fault.HistoryFault.TheVariants.{Line, NoEnd, NoMemory}
use Rattle.history_text.specs.HistoryText.{IsEntryOf, IsHistoryOf, IsHistoryText, entry_words}
use Rattle.history_text.specs.Refusals.{IsCause, IsLineCause, Keeps, MayStand, RefusedAtEnd, RefusedFrom, end_in}

-- ---- the entries so far

placed-push : (n : ℕ) (es : List Entry) (e : Entry) → placed_from n (es ++ e ∷ []) ≡ placed_from n es ++ record {
  number = n + length es;
  entry = e;
} ∷ []
unfolding placed_from
placed-push n [] e = ap (λ k. record { number = k; entry = e } ∷ []) (omega arith)
placed-push n (x ∷ es) e =
    ap (λ rest. record { number = n; entry = x } ∷ rest)
    (placed-push (suc n) es e ∙ ap (λ k. placed_from (suc n) es ++ record { number = k; entry = e } ∷ []) (omega arith))

pub no_entries : (script : Script) → IsHistoryOf script []
unfolding placed_from
no_entries script = record { numbered = refl; entries = All-nil (IsEntryOf script) }

one_more : (script : Script) (history : List Numbered) (e : Entry) → IsHistoryOf script history → IsEntryOf script e
    → IsHistoryOf script (history ++ record { number = length history; entry = e } ∷ [])
one_more script history e so_far is =
    let last : Numbered = record { number = length history; entry = e } in
    let entries : entries_in (history ++ last ∷ []) ≡ entries_in history ++ e ∷ [] = map_push (λ (n : Numbered). n.entry) history last in
    let many : length (entries_in history) ≡ length history = length-map history (λ (n : Numbered). n.entry) in
    record {
      numbered =
          ap (λ l. l ++ last ∷ []) so_far.numbered
          ∙ ap (λ k. placed_from 0 (entries_in history) ++ record { number = k; entry = e } ∷ []) (omega (arith, many))
          ∙ sym (placed-push 0 (entries_in history) e)
          ∙ ap (placed_from 0) (sym entries);
      entries = subst (All (IsEntryOf script)) (sym entries) (All-push (IsEntryOf script) (entries_in history) e so_far.entries is);
    }

-- ---- the text so far

text_more : (history : List Numbered) (n : Numbered) → history_text (history ++ n ∷ []) ≡ history_text history ++ history_line n
text_more history n =
    flat_map-append history_line history (n ∷ []) ∙ ap (λ (x : List ℕ). history_text history ++ x)
    (flat_map-cons history_line n [] ∙ append-nil (history_line n))

parts_more : (bytes rest line after : List ℕ) (history : List Numbered) (e : Entry) → bytes ≡ history_text history ++ rest
    → rest ≡ line ++ 10 ∷ after → words_of line ≡ entry_words (length history) e
    → bytes ≡ history_text (history ++ record { number = length history; entry = e } ∷ []) ++ after
parts_more bytes rest line after history e so_far cut words =
    let last : Numbered = record { number = length history; entry = e } in
    let next : rest ≡ history_line last ++ after = line_is rest line after (entry_words (length history) e) cut words in
    so_far ∙ ap (λ (x : List ℕ). history_text history ++ x) next ∙ sym (append_assoc (history_text history) (history_line last) after)
    ∙ ap (λ (x : List ℕ). x ++ after) (sym (text_more history last))

-- ---- what the next line decides

-- no line is left
pub no_line : (script : Script) (n : ℕ) (rest : List ℕ) → lines_of rest ≡ rest ∷ [] → RefusedFrom script n (lines_of rest) NoEnd
no_line script n rest last = rw last refl

pub at_end : (script : Script) (n : ℕ) (rest line after : List ℕ) (fault : HistoryFault) → lines_of rest ≡ line ∷ lines_of after
    → bytes_eq line (codes "end") ≡ true → RefusedAtEnd (n + 1) (lines_of after) fault → RefusedFrom script n (lines_of rest) fault
at_end script n rest line after fault first same refused =
    let p = some_piece 10 after in
    rw (first, p.2) (inl (same, subst (λ ls. RefusedAtEnd (n + 1) ls fault) p.2 refused))

bad_line : (script : Script) (n : ℕ) (rest line after : List ℕ) → lines_of rest ≡ line ∷ lines_of after → bytes_eq line (codes "end") ≡ false
    → (MayStand script n line → ⊥) → RefusedFrom script n (lines_of rest) (Line (n + 1))
bad_line script n rest line after first other never =
    let p = some_piece 10 after in
    rw (first, p.2) (inr (inl (other, never, refl)))

good_line : (script : Script) (n : ℕ) (rest line after : List ℕ) (fault : HistoryFault) → lines_of rest ≡ line ∷ lines_of after
    → bytes_eq line (codes "end") ≡ false → MayStand script n line → RefusedFrom script (n + 1) (lines_of after) fault
    → RefusedFrom script n (lines_of rest) fault
good_line script n rest line after fault first other may refused =
    let p = some_piece 10 after in
    rw (first, p.2) (inr (inr (other, may, subst (λ ls. RefusedFrom script (n + 1) ls fault) p.2 refused)))

-- behind the line `end` something stands
something : (number : ℕ) (text first : List ℕ) (others : List (List ℕ)) → lines_of text ≡ first ∷ others → text ≢ []
    → RefusedAtEnd number (first ∷ others) (Line (number + 1))
something number text [] [] e some = absurd (some (sym (join_with_byte-slice_split 10 text) ∙ ap (join_with_byte 10) e))
something number text [] (line ∷ others) e some = refl
something number text (b ∷ first) others e some = refl

pub behind_end : (number : ℕ) (text : List ℕ) → text ≢ [] → RefusedAtEnd number (lines_of text) (Line (number + 1))
behind_end number text some =
    let p = some_piece 10 text in
    rw p.2 (something number text p.0 p.1 p.2 some)

-- ---- the reader's loop

-- what is known before a line
pub record ReadSoFar (script : Script) (bytes : List ℕ) (history : List Numbered) (rest : List ℕ) : Type 0 where
  pub history_is : IsHistoryOf script history
  pub parts : bytes ≡ history_text history ++ rest
  pub refusal : (fault : HistoryFault) → RefusedFrom script (length history) (lines_of rest) fault → RefusedFrom script 0 (lines_of bytes) fault

pub nothing_read : (script : Script) (bytes : List ℕ) (history : List Numbered) → history ≡ [] → ReadSoFar script bytes history bytes
nothing_read script bytes history none = rw none (record { history_is = no_entries script; parts = refl; refusal = λ fault refused. refused })

pub read_on : (script : Script) (bytes : List ℕ) (before after : List Numbered) (rest line behind : List ℕ) → ReadSoFar script bytes before rest
    → rest ≡ line ++ 10 ∷ behind → lines_of rest ≡ line ∷ lines_of behind → bytes_eq line (codes "end") ≡ false
    → Keeps script before line after → ReadSoFar script bytes after behind
read_on script bytes before after rest line behind so_far cut first other keeps =
    let many : length after ≡ length before + 1 =
    ap length keeps.kept ∙ length-append before _ in
    record {
      history_is = subst (IsHistoryOf script) (sym keeps.kept) (one_more script before keeps.entry so_far.history_is keeps.is);
      parts = subst (λ (l : List Numbered). bytes ≡ history_text l ++ behind) (sym keeps.kept)
          (parts_more bytes rest line behind before keeps.entry so_far.parts cut keeps.words);
      refusal = λ fault refused. so_far.refusal fault
          (good_line script (length before) rest line behind fault first other
          (record { entry = keeps.entry; is = keeps.is; words = keeps.words })
          (subst (λ (n : ℕ). RefusedFrom script n (lines_of behind) fault) many refused));
    }

-- a line that isn't kept
pub refused_there : (script : Script) (bytes : List ℕ) (history : List Numbered) (rest line behind : List ℕ) (fault : HistoryFault)
    → ReadSoFar script bytes history rest → lines_of rest ≡ line ∷ lines_of behind → bytes_eq line (codes "end") ≡ false
    → IsLineCause script (length history) line fault → IsCause script bytes fault
refused_there script bytes history rest line behind NoMemory so_far first other cause = tt
refused_there script bytes history rest line behind NoEnd so_far first other cause = so_far.refusal NoEnd
    (subst (RefusedFrom script (length history) (lines_of rest)) (sym cause.0) (bad_line script (length history) rest line behind first other cause.1))
refused_there script bytes history rest line behind (Line number) so_far first other cause = so_far.refusal (Line number)
    (subst (RefusedFrom script (length history) (lines_of rest)) (sym cause.0) (bad_line script (length history) rest line behind first other cause.1))

-- nothing but the line `end` is left
pub whole_text : (script : Script) (bytes : List ℕ) (history : List Numbered) (rest line behind : List ℕ) → ReadSoFar script bytes history rest
    → rest ≡ line ++ 10 ∷ behind → bytes_eq line (codes "end") ≡ true → behind ≡ [] → IsHistoryText script bytes history
whole_text script bytes history rest line behind so_far cut same none =
    let is_end : line ≡ codes "end" = (bytes_eq-Decides line (codes "end")).0 same in
    let left : rest ≡ codes "end\n" = cut ∙ ap (λ (x : List ℕ). x ++ 10 ∷ behind) is_end ∙ ap (λ (x : List ℕ). codes "end" ++ 10 ∷ x) none in
    (so_far.history_is, so_far.parts ∙ ap (λ (x : List ℕ). history_text history ++ x) left)

-- the last line is `end`, and behind it something stands
pub refused_behind : (script : Script) (bytes : List ℕ) (history : List Numbered) (rest line behind : List ℕ) (fault : HistoryFault)
    → ReadSoFar script bytes history rest → lines_of rest ≡ line ∷ lines_of behind → bytes_eq line (codes "end") ≡ true
    → RefusedAtEnd (length history + 1) (lines_of behind) fault → IsCause script bytes fault
refused_behind script bytes history rest line behind NoMemory so_far first same refused = tt
refused_behind script bytes history rest line behind NoEnd so_far first same refused =
    so_far.refusal NoEnd (at_end script (length history) rest line behind NoEnd first same refused)
refused_behind script bytes history rest line behind (Line number) so_far first same refused =
    so_far.refusal (Line number) (at_end script (length history) rest line behind (Line number) first same refused)

-- ---- as many entries as bytes at most

line_is_some : (n : Numbered) → 1 ≤ length (history_line n)
line_is_some n = let many = length-append (join_with_byte 32 (entry_words n.number n.entry)) (10 ∷ []) in omega (arith, many)

few_lines : (history : List Numbered) → length history ≤ length (history_text history)
few_lines [] = omega arith
few_lines (n ∷ history) =
    let whole = ap length (flat_map-cons history_line n history) ∙ length-append (history_line n) (history_text history) in
    omega (arith, whole, few_lines history, line_is_some n)

pub few_entries : (script : Script) (bytes : List ℕ) (history : List Numbered) → IsHistoryText script bytes history → length history ≤ length bytes
few_entries script bytes history is =
    let whole = ap length is.1 ∙ length-append (history_text history) (line_of_words (codes "end" ∷ [])) in
    omega (arith, whole, few_lines history)

-- ---- the first line `end`

no_end_left : (rest : List ℕ) → lines_of rest ≡ rest ∷ [] → end_in (lines_of rest) ≡ None
no_end_left rest last = rw last refl

pub end_here : (rest line after : List ℕ) → lines_of rest ≡ line ∷ lines_of after → bytes_eq line (codes "end") ≡ true
    → end_in (lines_of rest) ≡ Some 4
end_here rest line after first same = let p = some_piece 10 after in rw (first, p.2, same) refl

pub end_later : (rest line after : List ℕ) → lines_of rest ≡ line ∷ lines_of after → bytes_eq line (codes "end") ≡ false
    → end_in (lines_of rest) ≡ option_map (λ n. length line + 1 + n) (end_in (lines_of after))
end_later rest line after first other = let p = some_piece 10 after in rw (first, p.2, other) refl

map_twice : (a b c : ℕ) (o : Option ℕ) → a + b ≡ c → option_map (λ n. a + n) (option_map (λ n. b + n) o) ≡ option_map (λ n. c + n) o
map_twice a b c None same = refl
map_twice a b c (Some n) same = ap Some (omega (arith, same))

-- what is known before a line is looked at
pub record NoEndBefore (bytes rest : List ℕ) : Type 0 where
  pub within : length rest ≤ length bytes
  pub same : end_in (lines_of bytes) ≡ option_map (λ n. length bytes - length rest + n) (end_in (lines_of rest))

map_none : (o : Option ℕ) (a : ℕ) → a ≡ 0 → o ≡ option_map (λ n. a + n) o
map_none None a none = refl
map_none (Some n) a none = ap Some (omega (arith, none))

pub none_before : (bytes : List ℕ) → NoEndBefore bytes bytes
none_before bytes = record { within = omega arith; same = map_none (end_in (lines_of bytes)) (length bytes - length bytes) (omega arith) }

pub end_found : (bytes rest line after : List ℕ) → NoEndBefore bytes rest → rest ≡ line ++ 10 ∷ after → lines_of rest ≡ line ∷ lines_of after
    → bytes_eq line (codes "end") ≡ true → Some (length bytes - length after) ≡ end_in (lines_of bytes)
end_found bytes rest line after before cut first same =
    let is_end : line ≡ codes "end" = (bytes_eq-Decides line (codes "end")).0 same in
    let long = ap length cut ∙ length-append line (10 ∷ after) in
    let three : length line ≡ 3 = ap length is_end in
    let within = before.within in
    ap Some (omega (arith, long, three, within))
    ∙ sym (before.same ∙ ap (option_map (λ n. length bytes - length rest + n)) (end_here rest line after first same))

pub end_is_later : (bytes rest line after : List ℕ) → NoEndBefore bytes rest → rest ≡ line ++ 10 ∷ after → lines_of rest ≡ line ∷ lines_of after
    → bytes_eq line (codes "end") ≡ false → NoEndBefore bytes after
end_is_later bytes rest line after before cut first other =
    let long = ap length cut ∙ length-append line (10 ∷ after) in
    let within = before.within in
    record {
      within = omega (arith, long, within);
      same = before.same ∙ ap (option_map (λ n. length bytes - length rest + n)) (end_later rest line after first other)
          ∙ map_twice (length bytes - length rest) (length line + 1) (length bytes - length after) (end_in (lines_of after))
          (omega (arith, long, within));
    }

pub no_end : (bytes rest : List ℕ) → NoEndBefore bytes rest → lines_of rest ≡ rest ∷ [] → None ≡ end_in (lines_of bytes)
no_end bytes rest before last =
    sym (before.same ∙ ap (option_map (λ n. length bytes - length rest + n)) (no_end_left rest last))
