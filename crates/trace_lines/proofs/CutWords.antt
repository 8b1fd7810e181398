-- Lines that words were joined to are cut into the same words.
use Rattle.std.proofs.Common.{◌≡◌, ℕ, ◌^◌, ◌<◌, ◌≤◌, true, false, eqb, ltb, List, [], ◌∷◌, ◌++◌, decimal, codes, refl, sym, ap, ◌∙◌, arith, lit≤}
use Rattle.std.specs.List.{join_with_byte, All, AllByRecursion, list_all}
use Rattle.std.specs.Str.Parse.{AllDigits}
use Rattle.std.proofs.lemmas.Bool.{and_parts, ltb-true, ne_eqb}
use Rattle.std.proofs.lemmas.List.{append-nil}
use Rattle.std.proofs.lemmas.List.Elements.{All-from_recursion}
use Rattle.std.proofs.lemmas.List.Splits.{slice_split_at, slice_split_none}
use Rattle.std.proofs.lemmas.Str.Parse.{digit_from_value}
use Rattle.pager_model.specs.declared.call.Call.{Call}
use Rattle.pager_model.specs.declared.call.Call.TheVariants.{Map, Grow, Unmap, Protect, Load, Store, Sync, Evict, Discard, Wire, Unwire}
use Rattle.pager_model.specs.declared.call.Line.{Line}
use Rattle.pager_model.specs.declared.region.Kind.{Kind}
use Rattle.pager_model.specs.declared.region.Kind.TheVariants.{Fixed, Growing, Wired}
use Rattle.pager_model.specs.declared.region.Rights.{Rights}
use Rattle.pager_model.specs.declared.region.Rights.TheVariants.{NoAccess, Read, Write}
use Rattle.pager_model.specs.TraceText.{kind_word, rights_word, call_words, line_words, IsCall, IsLine}
use Rattle.trace_lines.specs.Words.{spaced, words_of}
use Rattle.trace_lines.proofs.Numbers.{all_digits}

-- ---- words without a space and a line feed

-- each byte is above that of a space
abbrev pub IsWord : List ℕ → Type 0
IsWord word = AllByRecursion (λ b. 32 < b) word

-- for a word that is written out
pub is_word : (word : List ℕ) → list_all (λ b. ltb 32 b) word ≡ true → IsWord word
is_word [] e = tt
is_word (b ∷ word) e =
    let p = and_parts (ltb 32 b) (list_all (λ c. ltb 32 c) word) e in
    (ltb-true 32 b p.0, is_word word p.1)

digits_are : (word : List ℕ) → AllDigits 10 word → IsWord word
digits_are [] h = tt
digits_are (b ∷ word) h = (let r = digit_from_value b h.0 in omega arith, digits_are word h.1)

pub decimal_is : (n : ℕ) → n < 2 ^ 64 → IsWord (decimal n)
decimal_is n small = digits_are (decimal n) (all_digits n small)

kind_is : (kind : Kind) → IsWord (kind_word kind)
kind_is Fixed = is_word (codes "fixed") refl
kind_is Growing = is_word (codes "growing") refl
kind_is Wired = is_word (codes "wired") refl

rights_are : (rights : Rights) → IsWord (rights_word rights)
rights_are NoAccess = is_word (codes "none") refl
rights_are Read = is_word (codes "read") refl
rights_are Write = is_word (codes "write") refl

call_words_are : (spaces : ℕ) (call : Call) → spaces ≤ 2 ^ 64 → IsCall spaces call → AllByRecursion IsWord (call_words call)
call_words_are spaces (Map space page len kind rights) few is = (
  is_word (codes "map") refl,
  (
    decimal_is space (omega arith),
    (
      decimal_is page (omega arith),
      (decimal_is len (omega arith), (kind_is kind, (rights_are rights, tt))),
    ),
  ),
)
call_words_are spaces (Grow space page by) few is =
    (is_word (codes "grow") refl, (decimal_is space (omega arith), (decimal_is page (omega arith), (decimal_is by (omega arith), tt))))
call_words_are spaces (Unmap space page) few is =
    (is_word (codes "unmap") refl, (decimal_is space (omega arith), (decimal_is page (omega arith), tt)))
call_words_are spaces (Protect space page len rights) few is = (
  is_word (codes "protect") refl,
  (
    decimal_is space (omega arith),
    (decimal_is page (omega arith), (decimal_is len (omega arith), (rights_are rights, tt))),
  ),
)
call_words_are spaces (Load space address) few is =
    (is_word (codes "load") refl, (decimal_is space (omega arith), (decimal_is address (omega arith), tt)))
call_words_are spaces (Store space address word) few is =
    (is_word (codes "store") refl, (decimal_is space (omega arith), (decimal_is address (omega arith), (decimal_is word is.3, tt))))
call_words_are spaces (Sync space page) few is =
    (is_word (codes "sync") refl, (decimal_is space (omega arith), (decimal_is page (omega arith), tt)))
call_words_are spaces (Evict space page) few is =
    (is_word (codes "evict") refl, (decimal_is space (omega arith), (decimal_is page (omega arith), tt)))
call_words_are spaces (Discard space page len) few is =
    (is_word (codes "discard") refl, (decimal_is space (omega arith), (decimal_is page (omega arith), (decimal_is len (omega arith), tt))))
call_words_are spaces (Wire space page) few is =
    (is_word (codes "wire") refl, (decimal_is space (omega arith), (decimal_is page (omega arith), tt)))
call_words_are spaces (Unwire space page) few is =
    (is_word (codes "unwire") refl, (decimal_is space (omega arith), (decimal_is page (omega arith), tt)))

pub line_words_are : (version processors spaces : ℕ) (line : Line) → processors ≤ 2 ^ 64 → spaces ≤ 2 ^ 64 → IsLine version processors spaces line
    → AllByRecursion IsWord (line_words line)
line_words_are version processors spaces line some few is =
    (decimal_is line.processor (omega (arith, is.0)), call_words_are spaces line.call few is.1)

-- ---- what was joined is cut again

-- a byte at most that of a space isn't in a word
lacks : (byte : ℕ) (word : List ℕ) → byte ≤ 32 → IsWord word → AllByRecursion (λ b. eqb b byte ≡ false) word
lacks byte [] low is = tt
lacks byte (b ∷ word) low is = (ne_eqb b byte (λ e. omega (arith, is.0)), lacks byte word low is.1)

pub lacks_all : (byte : ℕ) (word : List ℕ) → byte ≤ 32 → IsWord word → All (λ b. eqb b byte ≡ false) word
lacks_all byte word low is = All-from_recursion _ word (lacks byte word low is)

-- the words of a line that was joined of some
pub words_again : (word : List ℕ) (words : List (List ℕ)) → AllByRecursion IsWord (word ∷ words)
    → words_of (join_with_byte 32 (word ∷ words)) ≡ word ∷ words
words_again word [] are = slice_split_none (λ b. eqb b 32) word (lacks_all 32 word (lit≤ tt) are.0)
words_again word (next ∷ words) are =
    slice_split_at (λ b. eqb b 32) word 32 (join_with_byte 32 (next ∷ words)) (lacks_all 32 word (lit≤ tt) are.0) refl
    ∙ ap (λ (x : List (List ℕ)). word ∷ x) (words_again next words are.1)

pub call_words_again : (version processors spaces : ℕ) (call : Line) → processors ≤ 2 ^ 64 → spaces ≤ 2 ^ 64 → IsLine version processors spaces call
    → words_of (join_with_byte 32 (line_words call)) ≡ line_words call
call_words_again version processors spaces call some few is = words_again (decimal call.processor) (call_words call.call)
    (line_words_are version processors spaces call some few is)

-- words that are joined, the first and the others with a space before each
pub words_joined : (word : List ℕ) (words : List (List ℕ)) → join_with_byte 32 (word ∷ words) ≡ word ++ spaced words
words_joined word [] = sym (append-nil word)
words_joined word (next ∷ words) = ap (λ l. word ++ (32 ∷ l)) (words_joined next words)
