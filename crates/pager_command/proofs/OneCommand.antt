-- Words are of one command: what they ask for is read off them.
use Rattle.std.proofs.Common.{◌≡◌, ℕ, ◌==◌, ◌||◌, ◌<◌, ◌≤◌, ◌^◌, if◌then◌else◌, Bool, false, List, [], ◌∷◌, codes, decimal, drop, get_or, length, None, Some, IfSome, sym, ap, subst, refl, ◌∙◌, arith}
use Rattle.std.proofs.lemmas.Bool.{false≢true}
use Rattle.std.proofs.lemmas.Fmt.{decimal_injective, decimal_is_IsNumeral}
use Rattle.std.proofs.lemmas.Option.{none-some, same_Some}
use Rattle.std.specs.Borrow.{Bor}
use Rattle.std.specs.Str.Parse.{IsNumeral, digits_value}
use Rattle.report_text.specs.declared.report.Parts.{Parts}
use Rattle.report_text.specs.declared.report.Parts.TheVariants.{Answers, AnswersAndHistory}
use Rattle.pager_command.specs.declared.form.Command.{Command}
use Rattle.pager_command.specs.declared.form.Command.TheVariants.{Run, Make, Large, Check, Stream}
use Rattle.pager_command.specs.declared.form.Form.{Form}
use Rattle.pager_command.specs.declared.form.Making.{Making}
use Rattle.pager_command.specs.declared.form.Order.{Order}
use Rattle.pager_command.specs.declared.form.Order.TheVariants.{InOneThread, Threads}
use Rattle.pager_command.specs.declared.form.Report.{Report}
use Rattle.pager_command.specs.declared.form.Report.TheVariants.{Answers as Answered, Plan as Planned, Curves}
use Rattle.pager_command.specs.declared.form.Schedule.TheVariants.{Lines, Drawn}
use Rattle.pager_command.specs.Forms.{AreCheckWords, AreLargeWords, AreMakingWords, AreOfCommand, AreStreamWords, AreWords, IsSeedInRange, IsSizeInRange, Spell, are_of, large_words, making_words, parts_words, words_of}
use Rattle.stream_run.specs.declared.report.StreamReport.{StreamReport}
use Rattle.stream_run.specs.declared.report.StreamReport.TheVariants.{Counts as StreamCounts, Curves as StreamCurves}
use Rattle.stream_run.specs.Reports.{every_in}
use Rattle.trace_make.specs.Made.{CanMake}

abbrev asked : Order → Report → Form
asked order report = record { order = order; report = report }

-- the parts that the words behind an order ask for
abbrev parts_by : List (List ℕ) → Parts
parts_by [] = Answers
parts_by (word ∷ words) = AnswersAndHistory

back_parts : (parts : Parts) → parts_by (parts_words parts) ≡ parts
back_parts Answers = refl
back_parts AnswersAndHistory = refl

back_number : (n : ℕ) → n < 2 ^ 64 → digits_value 10 (decimal n) ≡ n
back_number n below = (decimal_is_IsNumeral n below).1

-- the first letter, by which the commands differ
abbrev letter : List (List ℕ) → ℕ
letter words = get_or (get_or words 0 []) 0 0

-- the form that words ask for, if they are a form's
abbrev form_by : List (List ℕ) → Form
form_by words =
    if letter words == 111 then asked (InOneThread Lines) (Answered (parts_by (drop 1 words)))
    else if letter words == 116 then asked (InOneThread (Drawn (digits_value 10 (get_or words 1 [])))) (Answered (parts_by (drop 2 words)))
    else if letter words == 114 then asked Threads (Answered (parts_by (drop 1 words)))
    else if letter words == 112 then asked (InOneThread Lines) (Planned (digits_value 10 (get_or words 1 [])))
    else asked (InOneThread Lines) Curves

back : (order : Order) (report : Report) (words : List (List ℕ)) → words_of order report ≡ Some words → IsSeedInRange order
    → IsSizeInRange report → form_by words ≡ asked order report
back (InOneThread Lines) (Answered parts) words are seed size =
    let same : codes "order" ∷ parts_words parts ≡ words = same_Some _ words are in
    subst (λ ws. form_by ws ≡ asked (InOneThread Lines) (Answered parts)) same (ap (λ p. asked (InOneThread Lines) (Answered p)) (back_parts parts))
back (InOneThread (Drawn n)) (Answered parts) words are seed size =
    let same : codes "turns" ∷ decimal n ∷ parts_words parts ≡ words = same_Some _ words are in
    subst (λ ws. form_by ws ≡ asked (InOneThread (Drawn n)) (Answered parts)) same
    (ap (λ k. asked (InOneThread (Drawn k)) (Answered (parts_by (parts_words parts)))) (back_number n seed)
    ∙ ap (λ p. asked (InOneThread (Drawn n)) (Answered p)) (back_parts parts))
back Threads (Answered parts) words are seed size =
    let same : codes "replay" ∷ parts_words parts ≡ words = same_Some _ words are in
    subst (λ ws. form_by ws ≡ asked Threads (Answered parts)) same (ap (λ p. asked Threads (Answered p)) (back_parts parts))
back (InOneThread Lines) (Planned n) words are seed size =
    let same : codes "plan" ∷ decimal n ∷ [] ≡ words = same_Some _ words are in
    subst (λ ws. form_by ws ≡ asked (InOneThread Lines) (Planned n)) same
    (ap (λ k. asked (InOneThread Lines) (Planned k)) (back_number n (omega (arith, size.1))))
back (InOneThread Lines) Curves words are seed size =
    let same : codes "curve" ∷ [] ≡ words = same_Some _ words are in
    subst (λ ws. form_by ws ≡ asked (InOneThread Lines) Curves) same refl
back order report words are seed size = absurd (none-some words are)

back_form : (words : List (List ℕ)) (form : Form) → Spell words form → form_by words ≡ form
back_form words form is = back form.order form.report words is.are is.seed is.size

one_form : (words : List (List ℕ)) (a b : Form) → Spell words a → Spell words b → a ≡ b
one_form words a b is also = sym (back_form words a is) ∙ back_form words b also

-- the words of three other commands begin with letters of their own
abbrev is_others : ℕ → Bool
is_others n = (n == 108) || ((n == 109) || (n == 115))

begins : (order : Order) (report : Report) (words : List (List ℕ)) → words_of order report ≡ Some words → is_others (letter words) ≡ false
begins (InOneThread Lines) (Answered parts) words are =
    ap (λ ws. is_others (letter ws)) (sym (same_Some (codes "order" ∷ parts_words parts) words are))
begins (InOneThread (Drawn n)) (Answered parts) words are =
    ap (λ ws. is_others (letter ws)) (sym (same_Some (codes "turns" ∷ decimal n ∷ parts_words parts) words are))
begins Threads (Answered parts) words are =
    ap (λ ws. is_others (letter ws)) (sym (same_Some (codes "replay" ∷ parts_words parts) words are))
begins (InOneThread Lines) (Planned n) words are =
    ap (λ ws. is_others (letter ws)) (sym (same_Some (codes "plan" ∷ decimal n ∷ []) words are))
begins (InOneThread Lines) Curves words are =
    ap (λ ws. is_others (letter ws)) (sym (same_Some (codes "curve" ∷ []) words are))
begins order report words are = absurd (none-some words are)

making_is_no_form : (words : List (Bor (List ℕ))) (m : Making) → AreMakingWords words m → (form : Form) → AreWords words form → ⊥
making_is_no_form words m is form spelled =
    false≢true (sym (begins form.order form.report (are_of words) spelled.are) ∙ ap (λ ws. is_others (letter ws)) is.are)

large_is_no_form : (words : List (Bor (List ℕ))) (number seed : ℕ) → AreLargeWords words number seed → (form : Form) → AreWords words form → ⊥
large_is_no_form words number seed is form spelled =
    false≢true (sym (begins form.order form.report (are_of words) spelled.are) ∙ ap (λ ws. is_others (letter ws)) is.are)

making_is_not_large : (words : List (Bor (List ℕ))) (m : Making) (number seed : ℕ) → AreMakingWords words m
    → AreLargeWords words number seed → ⊥
making_is_not_large words m number seed is large =
    let same : 109 ≡ 108 = ap letter (sym is.are ∙ large.are) in
    omega (arith, same)

-- digits are of one number
one_number : (m n : ℕ) → m < 2 ^ 32 → n < 2 ^ 32 → decimal m ≡ decimal n → m ≡ n
one_number m n below other = decimal_injective m n (omega (arith, below)) (omega (arith, other))

-- what can be made has numbers of at most 32 bits
pub below_32_bits : (calls processors spaces frames : ℕ) → CanMake calls processors spaces frames
    → (calls < 2 ^ 32) × (processors < 2 ^ 32) × (spaces < 2 ^ 32) × (frames < 2 ^ 32)
below_32_bits calls processors spaces frames can =
    (omega (arith, can.calls_in.1), omega (arith, can.processors_in.1), omega (arith, can.spaces_in.1), omega (arith, can.frames_in.1))

abbrev making_of : (number calls processors spaces frames : ℕ) → Making
making_of number calls processors spaces frames =
    record { number = number; calls = calls; processors = processors; spaces = spaces; frames = frames }

-- the same words ask for the same trace
pub same_making : (a b : Making) → a.number < 2 ^ 64 → b.number < 2 ^ 64 → a.calls < 2 ^ 32 → a.processors < 2 ^ 32 → a.spaces < 2 ^ 32
    → a.frames < 2 ^ 32 → CanMake b.calls b.processors b.spaces b.frames → making_words a ≡ making_words b → a ≡ b
same_making a b number also calls processors spaces frames can same =
    let below = below_32_bits b.calls b.processors b.spaces b.frames can in
    let at : (i : ℕ) → get_or (making_words a) i [] ≡ get_or (making_words b) i [] =
    λ i. ap (λ (ws : List (List ℕ)). get_or ws i []) same in
    let number_is : a.number ≡ b.number = decimal_injective a.number b.number number also (at 1) in
    let calls_are : a.calls ≡ b.calls = one_number a.calls b.calls calls below.0 (at 2) in
    let processors_are : a.processors ≡ b.processors = one_number a.processors b.processors processors below.1 (at 3) in
    let spaces_are : a.spaces ≡ b.spaces = one_number a.spaces b.spaces spaces below.2 (at 4) in
    let frames_are : a.frames ≡ b.frames = one_number a.frames b.frames frames below.3 (at 5) in
    ap (λ n. making_of n a.calls a.processors a.spaces a.frames) number_is
    ∙ ap (λ n. making_of b.number n a.processors a.spaces a.frames) calls_are
    ∙ ap (λ n. making_of b.number b.calls n a.spaces a.frames) processors_are
    ∙ ap (λ n. making_of b.number b.calls b.processors n a.frames) spaces_are
    ∙ ap (making_of b.number b.calls b.processors b.spaces) frames_are

one_making : (words : List (Bor (List ℕ))) (a b : Making) → AreMakingWords words a → AreMakingWords words b → a ≡ b
one_making words a b is also =
    let below = below_32_bits a.calls a.processors a.spaces a.frames is.can in
    same_making a b is.number also.number below.0 below.1 below.2 below.3 also.can (sym is.are ∙ also.are)

-- the same words ask for the same number and seed
one_large : (words : List (Bor (List ℕ))) (number seed number' seed' : ℕ) → AreLargeWords words number seed
    → AreLargeWords words number' seed' → (number ≡ number') × (seed ≡ seed')
one_large words number seed number' seed' is also =
    let at : (i : ℕ) → get_or (large_words number seed) i [] ≡ get_or (large_words number' seed') i [] =
    λ i. ap (λ (ws : List (List ℕ)). get_or ws i []) (sym is.are ∙ also.are) in
    (decimal_injective number number' is.number_in also.number_in (at 1), decimal_injective seed seed' is.seed_in also.seed_in (at 2))

-- the second letter of the first word, which only `check` has
abbrev second : List (List ℕ) → ℕ
second words = get_or (get_or words 0 []) 1 0

begins_otherwise : (order : Order) (report : Report) (words : List (List ℕ)) → words_of order report ≡ Some words → (second words == 104) ≡ false
begins_otherwise (InOneThread Lines) (Answered parts) words are =
    ap (λ ws. second ws == 104) (sym (same_Some (codes "order" ∷ parts_words parts) words are))
begins_otherwise (InOneThread (Drawn n)) (Answered parts) words are =
    ap (λ ws. second ws == 104) (sym (same_Some (codes "turns" ∷ decimal n ∷ parts_words parts) words are))
begins_otherwise Threads (Answered parts) words are =
    ap (λ ws. second ws == 104) (sym (same_Some (codes "replay" ∷ parts_words parts) words are))
begins_otherwise (InOneThread Lines) (Planned n) words are =
    ap (λ ws. second ws == 104) (sym (same_Some (codes "plan" ∷ decimal n ∷ []) words are))
begins_otherwise (InOneThread Lines) Curves words are =
    ap (λ ws. second ws == 104) (sym (same_Some (codes "curve" ∷ []) words are))
begins_otherwise order report words are = absurd (none-some words are)

check_is_no_form : (words : List (Bor (List ℕ))) → AreCheckWords words → (form : Form) → AreWords words form → ⊥
check_is_no_form words is form spelled =
    false≢true (sym (begins_otherwise form.order form.report (are_of words) spelled.are) ∙ ap (λ ws. second ws == 104) is)

check_is_not_making : (words : List (Bor (List ℕ))) → AreCheckWords words → (m : Making) → AreMakingWords words m → ⊥
check_is_not_making words is m making =
    let same : 99 ≡ 109 = ap letter (sym is ∙ making.are) in
    omega (arith, same)

check_is_not_large : (words : List (Bor (List ℕ))) → AreCheckWords words → (number seed : ℕ) → AreLargeWords words number seed → ⊥
check_is_not_large words is number seed large =
    let same : 99 ≡ 108 = ap letter (sym is ∙ large.are) in
    omega (arith, same)

-- the words of a stream

stream_letter : (words : List (Bor (List ℕ))) (report : StreamReport) → AreStreamWords words report → letter (are_of words) ≡ 115
stream_letter words (StreamCounts None) is = ap letter is
stream_letter words (StreamCounts (Some every)) is = ap letter is.0
stream_letter words StreamCurves is = ap letter is

stream_is_no_form : (words : List (Bor (List ℕ))) (report : StreamReport) → AreStreamWords words report → (form : Form) → AreWords words form → ⊥
stream_is_no_form words report is form spelled =
    false≢true (sym (begins form.order form.report (are_of words) spelled.are) ∙ ap is_others (stream_letter words report is))

stream_is_not_making : (words : List (Bor (List ℕ))) (report : StreamReport) → AreStreamWords words report → (m : Making) → AreMakingWords words m → ⊥
stream_is_not_making words report is m making =
    let same : 115 ≡ 109 = sym (stream_letter words report is) ∙ ap letter making.are in
    omega (arith, same)

stream_is_not_large : (words : List (Bor (List ℕ))) (report : StreamReport) → AreStreamWords words report → (number seed : ℕ)
    → AreLargeWords words number seed → ⊥
stream_is_not_large words report is number seed large =
    let same : 115 ≡ 108 = sym (stream_letter words report is) ∙ ap letter large.are in
    omega (arith, same)

stream_is_not_check : (words : List (Bor (List ℕ))) (report : StreamReport) → AreStreamWords words report → AreCheckWords words → ⊥
stream_is_not_check words report is check =
    let same : 115 ≡ 99 = sym (stream_letter words report is) ∙ ap letter check in
    omega (arith, same)

-- the second of them
second_word : (words : List (Bor (List ℕ))) (a b : List ℕ) → are_of words ≡ codes "stream" ∷ a ∷ [] → are_of words ≡ codes "stream" ∷ b ∷ [] → a ≡ b
second_word words a b is also = ap (λ (ws : List (List ℕ)). get_or ws 1 []) (sym is ∙ also)

-- which isn't there beside one that is
no_second : (words : List (Bor (List ℕ))) (a : List ℕ) → are_of words ≡ codes "stream" ∷ [] → are_of words ≡ codes "stream" ∷ a ∷ [] → ⊥
no_second words a is also = (let same : 1 ≡ 2 = ap length (sym is ∙ also) in omega (arith, same))

-- no number has this word
no_curve : (every : ℕ) → every < 2 ^ 32 → decimal every ≡ codes "curve" → ⊥
no_curve every few is = (let digits = subst (IsNumeral 10) is (decimal_is_IsNumeral every (omega (arith, few))).0 in omega (arith, digits.1.0))

-- the same words ask for the same of a stream
one_stream : (words : List (Bor (List ℕ))) (a b : StreamReport) → AreStreamWords words a → AreStreamWords words b → a ≡ b
one_stream words (StreamCounts None) (StreamCounts None) is also = refl
one_stream words (StreamCounts None) (StreamCounts (Some b)) is also = absurd (no_second words (decimal b) is also.0)
one_stream words (StreamCounts None) StreamCurves is also = absurd (no_second words (codes "curve") is also)
one_stream words (StreamCounts (Some a)) (StreamCounts None) is also = absurd (no_second words (decimal a) also is.0)
one_stream words (StreamCounts (Some a)) (StreamCounts (Some b)) is also =
    ap (λ n. StreamCounts (Some n)) (one_number a b is.2 also.2 (second_word words (decimal a) (decimal b) is.0 also.0))
one_stream words (StreamCounts (Some a)) StreamCurves is also =
    absurd (no_curve a is.2 (second_word words (decimal a) (codes "curve") is.0 also))
one_stream words StreamCurves (StreamCounts None) is also = absurd (no_second words (codes "curve") also is)
one_stream words StreamCurves (StreamCounts (Some b)) is also =
    absurd (no_curve b also.2 (second_word words (decimal b) (codes "curve") also.0 is))
one_stream words StreamCurves StreamCurves is also = refl

-- words that ask for the counts so far do so after one call at least
pub stream_some : (words : List (Bor (List ℕ))) (report : StreamReport) → AreStreamWords words report → IfSome (every_in report) (λ n. 1 ≤ n)
stream_some words (StreamCounts None) is = tt
stream_some words (StreamCounts (Some every)) is = is.1
stream_some words StreamCurves is = tt

-- words are of one command
pub one_command : (words : List (Bor (List ℕ))) (a b : Command) → AreOfCommand words a → AreOfCommand words b → a ≡ b
one_command words (Run a) (Run b) is also = ap Run (one_form (are_of words) a b is also)
one_command words (Run a) (Make m) is also = absurd (making_is_no_form words m also a is)
one_command words (Run a) (Large number seed) is also = absurd (large_is_no_form words number seed also a is)
one_command words (Make m) (Run b) is also = absurd (making_is_no_form words m is b also)
one_command words (Make m) (Make k) is also = ap Make (one_making words m k is also)
one_command words (Make m) (Large number seed) is also = absurd (making_is_not_large words m number seed is also)
one_command words (Large number seed) (Run b) is also = absurd (large_is_no_form words number seed is b also)
one_command words (Large number seed) (Make m) is also = absurd (making_is_not_large words m number seed also is)
one_command words (Large number seed) (Large number' seed') is also =
    let same = one_large words number seed number' seed' is also in
    ap (λ n. Large n seed) same.0 ∙ ap (Large number') same.1
one_command words (Run a) Check is also = absurd (check_is_no_form words also a is)
one_command words (Make m) Check is also = absurd (check_is_not_making words also m is)
one_command words (Large number seed) Check is also = absurd (check_is_not_large words also number seed is)
one_command words Check (Run a) is also = absurd (check_is_no_form words is a also)
one_command words Check (Make m) is also = absurd (check_is_not_making words is m also)
one_command words Check (Large number seed) is also = absurd (check_is_not_large words is number seed also)
one_command words Check Check is also = refl
one_command words (Stream a) (Stream b) is also = ap Stream (one_stream words a b is also)
one_command words (Stream a) (Run b) is also = absurd (stream_is_no_form words a is b also)
one_command words (Stream a) (Make m) is also = absurd (stream_is_not_making words a is m also)
one_command words (Stream a) (Large number seed) is also = absurd (stream_is_not_large words a is number seed also)
one_command words (Stream a) Check is also = absurd (stream_is_not_check words a is also)
one_command words (Run a) (Stream b) is also = absurd (stream_is_no_form words b also a is)
one_command words (Make m) (Stream b) is also = absurd (stream_is_not_making words b also m is)
one_command words (Large number seed) (Stream b) is also = absurd (stream_is_not_large words b also number seed is)
one_command words Check (Stream b) is also = absurd (stream_is_not_check words b also is)
