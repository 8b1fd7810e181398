use Rattle.std.proofs.Common.{◌≡◌, ◌≤◌, ℕ, List, [], ◌∷◌, Some, Result, Ok, Err, IfOk, codes, decimal, refl, arith, ◌∙◌}
use Rattle.std.proofs.lemmas.Bool.{eq-eqb, ne_eqb}
use Rattle.pager_model.specs.SizeSets.{SizeSet}
use Rattle.pager_model.specs.TraceText.{first_words, sizes_word}
use Rattle.trace_lines.specs.declared.line.Head.{Head}
use Rattle.trace_lines.specs.Forms.{leftmost, line_fault, first_forms, first_places}
use Rattle.trace_lines.specs.Words.{seen}
use Rattle.trace_lines.specs.declared.cause.LineCause.{LineCause}
use Rattle.trace_lines.proofs.Calls.{word_at, four, five, told, told_on}
use Rattle.trace_lines.proofs.line.first_words.Goals as goal
use denote.Ref.{Bor}

abbrev AtFault : List (Bor (List ℕ)) → LineCause → Type 0
AtFault words cause = line_fault first_forms (codes "trace" ∷ seen words) ≡ Some cause

-- of the words behind that of the version
abbrev AtFaultBehind : List (Bor (List ℕ)) → LineCause → Type 0
AtFaultBehind words cause = leftmost (first_places []) (word_at words 1 ∷ word_at words 2 ∷ word_at words 3 ∷ []) ≡ Some cause

pub returns-in_err-version-in-len4-clause-err : goal.returns-in_err-version-in-len4-clause-err
returns-in_err-version-in-len4-clause-err c =
    let words = c.args.words.now in
    told (AtFault words) c.from_residual.result c.in_err-version-in-len4.field-0.0 c.from_residual.ensures.1
    (rw (four words c.in-len4.len_at_least c.in-len4.len_below, ← c.in_err-version-in-len4.ensures.exact) refl)

pub returns-in_ok-version-in-len4-clause-err : goal.returns-in_ok-version-in-len4-clause-err
returns-in_ok-version-in-len4-clause-err c =
    let words = c.args.words.now in
    told_on (AtFaultBehind words) (AtFault words) c.head_of.result
    (λ cause fault. rw (four words c.in-len4.len_at_least c.in-len4.len_below, ← c.in_ok-version-in-len4.ensures.exact) fault)
    c.head_of.ensures.err

pub returns-in_err-version-in-len5-clause-err : goal.returns-in_err-version-in-len5-clause-err
returns-in_err-version-in-len5-clause-err c =
    let words = c.args.words.now in
    told (AtFault words) c.from_residual-in_err-version-in-len5.result c.in_err-version-in-len5.field-0.0
    c.from_residual-in_err-version-in-len5.ensures.1
    (rw (
      five words c.in-len5.len_at_least c.in-len5.len_below,
      c.in-Some.ensures.some,
      ← c.in_err-version-in-len5.ensures.exact,
    ) refl)

pub returns-in_ok-version-in-len5-clause-err : goal.returns-in_ok-version-in-len5-clause-err
returns-in_ok-version-in-len5-clause-err c =
    let words = c.args.words.now in
    told_on (AtFaultBehind words) (AtFault words) c.head_of-in-len5.result
    (λ cause fault. rw (
      five words c.in-len5.len_at_least c.in-len5.len_below,
      c.in-Some.ensures.some,
      ← c.in_ok-version-in-len5.ensures.exact,
    ) fault)
    c.head_of-in-len5.ensures.err

both_on : (P Q R : Head → Type 0) (r : Result Head LineCause) → ((head : Head) → P head → Q head → R head) → IfOk r P → IfOk r Q → IfOk r R
both_on P Q R (Ok head) more p q = more head p q
both_on P Q R (Err e) more p q = tt

abbrev IsOwn : ℕ → SizeSet → Head → Type 0
IsOwn version sizes head = (head.version ≡ version) × (head.sizes ≡ sizes)

abbrev SaysCounts : List (Bor (List ℕ)) → Head → Type 0
SaysCounts words head =
    word_at words 1 ∷ word_at words 2 ∷ word_at words 3 ∷ [] ≡ decimal head.frames ∷ decimal head.processors ∷ decimal head.spaces ∷ []

abbrev Says : List (List ℕ) → Head → Type 0
Says words head = codes "trace" ∷ words ≡ first_words head.version head.frames head.processors head.spaces head.sizes

says_one : (head : Head) (version : ℕ) (word first second third : List ℕ) → head.version ≡ version → version ≡ 1 → word ≡ decimal version
    → first ∷ second ∷ third ∷ [] ≡ decimal head.frames ∷ decimal head.processors ∷ decimal head.spaces ∷ []
    → Says (word ∷ first ∷ second ∷ third ∷ []) head
says_one head version word first second third own one is counts = rw (eq-eqb head.version 1 (own ∙ one)) cc

says_two : (head : Head) (version : ℕ) (sizes : SizeSet) (word first second third fourth : List ℕ) → head.version ≡ version
    → head.sizes ≡ sizes → 2 ≤ version → word ≡ decimal version → fourth ≡ sizes_word sizes
    → first ∷ second ∷ third ∷ [] ≡ decimal head.frames ∷ decimal head.processors ∷ decimal head.spaces ∷ []
    → Says (word ∷ first ∷ second ∷ third ∷ fourth ∷ []) head
says_two head version sizes word first second third fourth own same later is named counts =
    let other : fourth ≡ sizes_word head.sizes = rw same named in
    rw (ne_eqb head.version 1 (λ e. omega (arith, e))) cc

pub returns-in_ok-version-in-len4-clause-text : goal.returns-in_ok-version-in-len4-clause-text
returns-in_ok-version-in-len4-clause-text c =
    let words = c.args.words.now in
    let version = c.in_ok-version-in-len4.version in
    let found = c.in_ok-version-in-len4.ensures.found in
    rw (four words c.in-len4.len_at_least c.in-len4.len_below)
    (both_on (IsOwn version c.all.result) (SaysCounts words)
    (Says (word_at words 0 ∷ word_at words 1 ∷ word_at words 2 ∷ word_at words 3 ∷ [])) c.head_of.result
    (λ head own counts.
    says_one head version (word_at words 0) (word_at words 1) (word_at words 2) (word_at words 3) own.0 (omega (arith, found)) found.0 counts)
    c.head_of.ensures.own c.head_of.ensures.text)

pub returns-in_ok-version-in-len5-clause-text : goal.returns-in_ok-version-in-len5-clause-text
returns-in_ok-version-in-len5-clause-text c =
    let words = c.args.words.now in
    let version = c.in_ok-version-in-len5.version in
    let found = c.in_ok-version-in-len5.ensures.found in
    rw (five words c.in-len5.len_at_least c.in-len5.len_below)
    (both_on (IsOwn version c.in-Some.sizes) (SaysCounts words)
    (Says (word_at words 0 ∷ word_at words 1 ∷ word_at words 2 ∷ word_at words 3 ∷ word_at words 4 ∷ [])) c.head_of-in-len5.result
    (λ head own counts.
    says_two head version c.in-Some.sizes (word_at words 0) (word_at words 1) (word_at words 2) (word_at words 3) (word_at words 4)
    own.0 own.1 (omega (arith, found)) found.0 c.in-Some.ensures.named counts)
    c.head_of-in-len5.ensures.own c.head_of-in-len5.ensures.text)
