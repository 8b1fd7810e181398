-- Text, word by word.
use Rattle.std.proofs.Common.{◌≡◌, ℕ, List, [], ◌∷◌, ◌++◌, ap, sym, ◌∙◌, append_assoc}
use Rattle.std.specs.List.{join_with_byte}
use Rattle.std.proofs.lemmas.List.{append-nil}
use Rattle.std.proofs.lemmas.Grind.{flat_map-append}
use Rattle.pager_model.specs.TraceText.{line_of_words}
use Rattle.report_text.specs.Bytes.{Bytes}
use Rattle.report_text.specs.Lines.{Adds, Gains, spaced}

-- bytes, and then more
pub gains-more : (a b c : Bytes) (bytes more : List ℕ) → Gains bytes a b → Gains more b c → Gains (bytes ++ more) a c
gains-more a b c bytes more first then = then ∙ ap (λ l. l ++ more) first ∙ append_assoc a.items bytes more

-- words, and then more
pub adds-more : (a b c : Bytes) (words more : List (List ℕ)) → Adds words a b → Adds more b c → Adds (words ++ more) a c
adds-more a b c words more first then =
    then ∙ ap (λ l. l ++ spaced more) first ∙ append_assoc a.items (spaced words) (spaced more)
    ∙ ap (λ l. a.items ++ l) (sym (flat_map-append (λ (word : List ℕ). 32 ∷ word) words more))

words-joined : (word : List ℕ) (rest : List (List ℕ)) → join_with_byte 32 (word ∷ rest) ≡ word ++ spaced rest
words-joined word [] = sym (append-nil word)
words-joined word (w ∷ ws) = ap (λ l. word ++ (32 ∷ l)) (words-joined w ws)

-- the first word of a line, the others, and the line's end
pub line-gained : (a b c d : Bytes) (word : List ℕ) (rest : List (List ℕ)) → Gains word a b → Adds rest b c → Gains (10 ∷ []) c d
    → Gains (line_of_words (word ∷ rest)) a d
line-gained a b c d word rest first words end =
    end ∙ ap (λ l. l ++ 10 ∷ []) (words ∙ ap (λ l. l ++ spaced rest) first ∙ append_assoc a.items word (spaced rest)
    ∙ ap (λ l. a.items ++ l) (sym (words-joined word rest)))
    ∙ append_assoc a.items (join_with_byte 32 (word ∷ rest)) (10 ∷ [])
