-- Words one by one.
use Rattle.std.proofs.Common.{◌≡◌, ◌≢◌, ℕ, ◌-◌, ◌^◌, ◌<◌, ◌≤◌, Bool, IsTrue, List, [], ◌∷◌, codes, decimal, length, take, drop, get_or, Option, Some, None, IfSome, IfNone, refl, ap, sym, subst, ◌∙◌, arith}
use Rattle.std.proofs.lemmas.Fmt.{decimal_injective}
use Rattle.std.specs.Borrow.{Bor}
use Rattle.std.specs.Str.{bytes_eq}
use Rattle.std.specs.Cmp.Lexicographic.{bytes_decides}
use Rattle.std.proofs.lemmas.List.{get_or-map, take_all}
use Rattle.std.proofs.lemmas.Option.{none-some, same_Some}
use Rattle.stream_run.specs.declared.report.StreamReport.{StreamReport}
use Rattle.pager_command.specs.declared.form.Making.{Making}
use Rattle.pager_command.specs.declared.form.Form.{Form}
use Rattle.pager_command.specs.declared.form.Order.{Order}
use Rattle.pager_command.specs.declared.form.Order.TheVariants.{InOneThread, Threads}
use Rattle.pager_command.specs.declared.form.Report.{Report}
use Rattle.pager_command.specs.declared.form.Report.TheVariants.{Answers as Answered, Plan as Planned, Curves}
use Rattle.pager_command.specs.declared.form.Schedule.TheVariants.{Lines, Drawn}
use Rattle.pager_command.specs.Forms.{AreBehind, AreStreamWords, AreWords, IsForm, Spell, are_of, making_words, parts_words, words_of}

-- a list of one word is this word exactly where the word's bytes are equal
pub one_word : (words : List (Bor (List ℕ))) (d : Bor (List ℕ)) (text : List ℕ) (b : Bool)
    → 1 ≤ length words → length words < 2 → b ≡ bytes_eq (get_or words 0 d).now text
    → (IsTrue b → are_of words ≡ text ∷ []) × (are_of words ≡ text ∷ [] → IsTrue b)
one_word [] d text b some few is = absurd (omega arith)
one_word (w ∷ []) d text b some few is =
    let decides = bytes_decides w.now text in
    (λ yes_is. ap (λ l. l ∷ []) (decides.0 (sym is ∙ yes_is)), λ same. is ∙ decides.1 (let e : w.now ∷ [] ≡ text ∷ [] = same in cc))
one_word (w ∷ x ∷ words) d text b some few is = absurd (omega arith)

-- one word alone
pub just_one_word : (words : List (Bor (List ℕ))) (d : Bor (List ℕ)) → 1 ≤ length words → length words < 2
    → are_of words ≡ (get_or words 0 d).now ∷ []
just_one_word [] d some few = absurd (omega arith)
just_one_word (w ∷ []) d some few = refl
just_one_word (w ∷ x ∷ words) d some few = absurd (omega arith)

-- the size that it names, or that it names none
pub size_alone : (o : Option ℕ) (words : List (Bor (List ℕ))) (word : List ℕ) → are_of words ≡ word ∷ []
    → IfSome o (λ size. (word ≡ decimal size) × (1 ≤ size) × (size ≤ 3))
    → IfSome o (λ size. (are_of words ≡ decimal size ∷ []) × (1 ≤ size) × (size ≤ 3))
size_alone None words word one found = tt
size_alone (Some size) words word one found = (one ∙ ap (λ (l : List ℕ). l ∷ []) found.0, found.1, found.2)

pub no_size_alone : (o : Option ℕ) (words : List (Bor (List ℕ))) (word : List ℕ) → are_of words ≡ word ∷ []
    → IfNone o ((size : ℕ) → 1 ≤ size → size ≤ 3 → word ≢ decimal size)
    → IfNone o ((size : ℕ) → 1 ≤ size → size ≤ 3 → are_of words ≢ decimal size ∷ [])
no_size_alone None words word one none = λ size some few same.
    none size some few (let e : word ∷ [] ≡ decimal size ∷ [] = sym one ∙ same in cc)
no_size_alone (Some size) words word one none = tt

-- a word that is a number's is no other one's
pub another_number : (word : List ℕ) (found number : ℕ) → found < 2 ^ 32 → number < 2 ^ 32
    → word ≡ decimal found → found ≢ number → word ≢ decimal number
another_number word found number below other is differ = λ same.
    differ (decimal_injective found number (omega (arith, below)) (omega (arith, other)) (sym is ∙ same))

-- two words: the bytes of the first are equal to these, and the other is this
pub two_words : (words : List (Bor (List ℕ))) (d : Bor (List ℕ)) (first second : List ℕ) (b : Bool)
    → 2 ≤ length words → length words < 3 → b ≡ bytes_eq (get_or words 0 d).now first → IsTrue b
    → (get_or words 1 d).now ≡ second → are_of words ≡ first ∷ second ∷ []
two_words [] d first second b some few is holds then = absurd (omega arith)
two_words (v ∷ []) d first second b some few is holds then = absurd (omega arith)
two_words (v ∷ w ∷ []) d first second b some few is holds then = (let equal = (bytes_decides v.now first).0 (sym is ∙ holds) in cc)
two_words (v ∷ w ∷ x ∷ ws) d first second b some few is holds then = absurd (omega arith)

-- three words: the bytes of the first are equal to these, and the others are these
pub three_words : (words : List (Bor (List ℕ))) (d : Bor (List ℕ)) (first second third : List ℕ) (b : Bool)
    → 3 ≤ length words → length words < 4 → b ≡ bytes_eq (get_or words 0 d).now first → IsTrue b
    → (get_or words 1 d).now ≡ second → (get_or words 2 d).now ≡ third → are_of words ≡ first ∷ second ∷ third ∷ []
three_words [] d first second third b some few is holds then last = absurd (omega arith)
three_words (v ∷ []) d first second third b some few is holds then last = absurd (omega arith)
three_words (v ∷ w ∷ []) d first second third b some few is holds then last = absurd (omega arith)
three_words (v ∷ w ∷ x ∷ []) d first second third b some few is holds then last =
    (let equal = (bytes_decides v.now first).0 (sym is ∙ holds) in cc)
three_words (v ∷ w ∷ x ∷ y ∷ ws) d first second third b some few is holds then last = absurd (omega arith)

-- and six, that ask for a trace to be made
pub making_of_six : (words : List (Bor (List ℕ))) (d : Bor (List ℕ)) (m : Making) (b : Bool) → 6 ≤ length words → length words < 7
    → b ≡ bytes_eq (get_or words 0 d).now (codes "make") → IsTrue b
    → (get_or words 1 d).now ≡ decimal m.number → (get_or words 2 d).now ≡ decimal m.calls
    → (get_or words 3 d).now ≡ decimal m.processors → (get_or words 4 d).now ≡ decimal m.spaces
    → (get_or words 5 d).now ≡ decimal m.frames → are_of words ≡ making_words m
making_of_six [] d m b some few is holds at1 at2 at3 at4 at5 = absurd (omega arith)
making_of_six (u ∷ []) d m b some few is holds at1 at2 at3 at4 at5 = absurd (omega arith)
making_of_six (u ∷ v ∷ []) d m b some few is holds at1 at2 at3 at4 at5 = absurd (omega arith)
making_of_six (u ∷ v ∷ w ∷ []) d m b some few is holds at1 at2 at3 at4 at5 = absurd (omega arith)
making_of_six (u ∷ v ∷ w ∷ x ∷ []) d m b some few is holds at1 at2 at3 at4 at5 = absurd (omega arith)
making_of_six (u ∷ v ∷ w ∷ x ∷ y ∷ []) d m b some few is holds at1 at2 at3 at4 at5 = absurd (omega arith)
making_of_six (u ∷ v ∷ w ∷ x ∷ y ∷ z ∷ []) d m b some few is holds at1 at2 at3 at4 at5 =
    (let equal = (bytes_decides u.now (codes "make")).0 (sym is ∙ holds) in cc)
making_of_six (u ∷ v ∷ w ∷ x ∷ y ∷ z ∷ t ∷ ws) d m b some few is holds at1 at2 at3 at4 at5 = absurd (omega arith)

-- the word at a place
pub word_at : (words : List (Bor (List ℕ))) (d : Bor (List ℕ)) (all : List (List ℕ)) (i : ℕ) → i < length words → are_of words ≡ all
    → (get_or words i d).now ≡ get_or all i []
word_at words d all i some is =
    sym (get_or-map (λ (w : Bor (List ℕ)). w.now) words i d [] some) ∙ ap (λ (ws : List (List ℕ)). get_or ws i []) is

-- a first word, and the words behind it
pub split_first : (words : List (Bor (List ℕ))) (d : Bor (List ℕ)) (first : List ℕ) → 1 ≤ length words → (get_or words 0 d).now ≡ first
    → are_of words ≡ first ∷ are_of (take (length words - 1) (drop 1 words))
split_first [] d first some is = absurd (omega arith)
split_first (w ∷ ws) d first some is =
    let all : take (length (w ∷ ws) - 1) ws ≡ ws = take_all (length (w ∷ ws) - 1) ws (omega arith) in
    ap (λ (l : List ℕ). l ∷ are_of ws) is ∙ ap (λ (ls : List (List ℕ)). first ∷ ls) (ap are_of (sym all))

-- words are of a form where those behind their first one are
pub form_behind : (o : Option Form) (words : List (Bor (List ℕ))) (d : Bor (List ℕ)) (first : List ℕ)
    → 1 ≤ length words → (get_or words 0 d).now ≡ first
    → IfSome o (AreBehind first (take (length words - 1) (drop 1 words))) → IfSome o (AreWords words)
form_behind None words d first some is found = tt
form_behind (Some form) words d first some is found = subst (λ ws. Spell ws form) (sym (split_first words d first some is)) found

pub no_form_behind : (o : Option Form) (words : List (Bor (List ℕ))) (d : Bor (List ℕ)) (first : List ℕ)
    → 1 ≤ length words → (get_or words 0 d).now ≡ first
    → IfNone o ((form : Form) → AreBehind first (take (length words - 1) (drop 1 words)) form → ⊥) → IfNone o (IsForm words → ⊥)
no_form_behind None words d first some is none = λ form.
    none form.0 (subst (λ ws. Spell ws form.0) (split_first words d first some is) form.1)
no_form_behind (Some form) words d first some is none = tt

-- the words of a form begin with one of five
pub none_of_five : (words : List (Bor (List ℕ))) (d : Bor (List ℕ)) → 1 ≤ length words
    → (get_or words 0 d).now ≢ codes "order" → (get_or words 0 d).now ≢ codes "turns" → (get_or words 0 d).now ≢ codes "replay"
    → (get_or words 0 d).now ≢ codes "plan" → (get_or words 0 d).now ≢ codes "curve" → (form : Form) → AreWords words form → ⊥
none_of_five words d some not_order not_turns not_replay not_plan not_curve form is = none form.order form.report is.are
  where
    first : (all : List (List ℕ)) → Some all ≡ Some (are_of words) → (get_or words 0 d).now ≡ get_or all 0 []
    first all same = word_at words d all 0 (omega (arith, some)) (sym (same_Some all (are_of words) same))

    none : (order : Order) (report : Report) → words_of order report ≡ Some (are_of words) → ⊥
    none (InOneThread Lines) (Answered parts) are = not_order (first (codes "order" ∷ parts_words parts) are)
    none (InOneThread (Drawn n)) (Answered parts) are = not_turns (first (codes "turns" ∷ decimal n ∷ parts_words parts) are)
    none Threads (Answered parts) are = not_replay (first (codes "replay" ∷ parts_words parts) are)
    none (InOneThread Lines) (Planned n) are = not_plan (first (codes "plan" ∷ decimal n ∷ []) are)
    none (InOneThread Lines) Curves are = not_curve (first (codes "curve" ∷ []) are)
    none order report are = absurd (none-some (are_of words) are)

-- what the word behind `stream` asks for, the words do
pub report_behind : (o : Option StreamReport) (words : List (Bor (List ℕ))) (word : List ℕ) → are_of words ≡ codes "stream" ∷ word ∷ []
    → IfSome o (λ report. (all : List (Bor (List ℕ))) → are_of all ≡ codes "stream" ∷ word ∷ [] → AreStreamWords all report)
    → IfSome o (AreStreamWords words)
report_behind None words word are is = tt
report_behind (Some report) words word are is = is words are
