-- The line that comes next of a text of which a part was read, and why it is refused.
use Rattle.std.proofs.Common.{◌≡◌, ℕ, ◌+◌, ◌<◌, ◌≤◌, Bool, true, false, cond, eqb, ltb, List, [], ◌∷◌, ◌++◌, All, length, take, drop, Option, Some, None, IfSome, subst, sym, ap, refl, ◌∙◌, append_assoc, arith, length-append}
use Rattle.std.specs.List.{AllByRecursion}
use Rattle.std.proofs.lemmas.Bool.{le-ltb, lt-ltb, ne_eqb}
use Rattle.std.proofs.lemmas.List.{append-nil}
use Rattle.std.proofs.lemmas.List.Elements.{All-from_recursion}
use Rattle.std.proofs.lemmas.List.Splits.{slice_split_at, slice_split_none}
use Rattle.std.proofs.lemmas.Option.{IfSome_then}
use Rattle.std.proofs.Math.Seq.{drop-append-add, take-append_seam}
use Rattle.line_source.specs.Lines.{HasNoFeed, IsLineAt, IsNext, seen}
use Rattle.line_source.specs.declared.Next.{Next}
use Rattle.line_source.specs.declared.Next.TheVariants as next
use Rattle.trace_lines.specs.declared.cause.LineCause.TheVariants as causes
use Rattle.trace_lines.proofs.Splits.{some_piece}
use Rattle.trace_reader.specs.declared.fault.TraceFault.{TraceFault}
use Rattle.trace_reader.specs.declared.fault.TraceFault.TheVariants.{ReadFault, TooLong, Line, LongLine, NoEnd, TooManyCalls, TooFewStores, OneProcessor, HistoryLine, HistoryNoEnd, NoMemory}
use Rattle.trace_reader.specs.Refusals.{IsCause, end_refusal, lines_of}
use Rattle.trace_reader.proofs.Refusals.{something}
use Rattle.trace_stream.specs.Streams.{missing, unless_long}

-- ---- what was read of the bytes, and what is left of them

-- of the bytes some are ahead, and the source has more
abbrev pub AreAhead : List ℕ → Option (List ℕ) → List ℕ → Type 0
AreAhead ahead left bytes = (more : List ℕ) × (left ≡ Some more) × (bytes ≡ ahead ++ more)

pub are_ahead : (left left' : Option (List ℕ)) (first ahead : List ℕ) → IfSome left (λ _. seen ahead left' ≡ seen first left)
    → IfSome (seen first left) (AreAhead ahead left')
are_ahead None left' first ahead same = tt
are_ahead (Some bytes) None first ahead same = cc
are_ahead (Some bytes) (Some more) first ahead same = let all : first ++ bytes ≡ ahead ++ more = cc in (more, refl, all)

-- none is lost
pub are_seen : (left left' : Option (List ℕ)) (first ahead : List ℕ) → IfSome left (λ _. seen ahead left' ≡ seen first left)
    → IfSome (seen first left) (λ bytes. seen ahead left' ≡ Some bytes)
are_seen None left' first ahead same = tt
are_seen (Some bytes) left' first ahead same = same

-- ---- lines

no_feed_is : (line : List ℕ) → HasNoFeed line → AllByRecursion (λ b. eqb b 10 ≡ false) line
no_feed_is [] none = tt
no_feed_is (b ∷ line) none = (ne_eqb b 10 none.0, no_feed_is line none.1)

no_feeds : (line : List ℕ) → HasNoFeed line → All (λ b. eqb b 10 ≡ false) line
no_feeds line none = All-from_recursion _ line (no_feed_is line none)

pub first_of : (line rest : List ℕ) → HasNoFeed line → lines_of (line ++ 10 ∷ rest) ≡ line ∷ lines_of rest
first_of line rest none = slice_split_at (λ b. eqb b 10) line 10 rest (no_feeds line none) refl

pub rest_alone : (rest : List ℕ) → HasNoFeed rest → lines_of rest ≡ rest ∷ []
rest_alone rest none = slice_split_none (λ b. eqb b 10) rest (no_feeds rest none)

-- the first line begins with bytes that have no line feed
pub begins : (front more first : List ℕ) (others : List (List ℕ)) → HasNoFeed front → lines_of more ≡ first ∷ others
    → lines_of (front ++ more) ≡ (front ++ first) ∷ others
begins [] more first others none is = is
begins (b ∷ front) more first others none is = rw (ne_eqb b 10 none.0, begins front more first others none.1 is) refl

-- The bytes begin with this line, and those behind its line feed are to come.
pub record IsCut (line : List ℕ) (then : Option (List ℕ)) (bytes : List ℕ) : Type 0 where
  pub rest : List ℕ
  pub parts : bytes ≡ line ++ 10 ∷ rest
  pub first : lines_of bytes ≡ line ∷ lines_of rest
  pub to_come : then ≡ Some rest

pub is_cut : (ahead line behind : List ℕ) (n : ℕ) (left : Option (List ℕ)) (bytes : List ℕ) → IsLineAt n ahead → line ≡ take n ahead
    → behind ≡ drop (n + 1) ahead → AreAhead ahead left bytes → IsCut line (seen behind left) bytes
is_cut ahead line behind n left bytes at shown passed are =
    let begin = at.0 in
    let end = at.1 in
    let long : length begin ≡ n = at.3 in
    let same : line ≡ begin =
    shown ∙ ap (take n) at.2 ∙ ap (λ (k : ℕ). take k (begin ++ 10 ∷ end)) (sym long) ∙ take-append_seam begin (10 ∷ end) in
    let back : behind ≡ end =
    passed ∙ ap (drop (n + 1)) at.2 ∙ ap (λ (k : ℕ). drop (k + 1) (begin ++ 10 ∷ end)) (sym long) ∙ drop-append-add begin (10 ∷ end) 1 in
    let whole : bytes ≡ begin ++ 10 ∷ (end ++ are.0) =
    are.2 ∙ ap (λ (l : List ℕ). l ++ are.0) at.2 ∙ append_assoc begin (10 ∷ end) are.0 in
    record {
      rest = end ++ are.0;
      parts = rw same whole;
      first = rw (same, whole) (first_of begin (end ++ are.0) at.4);
      to_come = rw (are.1, back) refl;
    }

-- what was shown has as many bytes as it should
pub is_long : (ahead line : List ℕ) (n : ℕ) → IsLineAt n ahead → line ≡ take n ahead → length line ≡ n
is_long ahead line n at shown =
    let same : line ≡ at.0 =
    shown ∙ ap (take n) at.2 ∙ ap (λ (k : ℕ). take k (at.0 ++ 10 ∷ at.1)) (sym at.3) ∙ take-append_seam at.0 (10 ∷ at.1) in
    ap length same ∙ at.3

-- of the bytes that are kept at most, a line has one fewer
pub is_short : (ahead line : List ℕ) (n : ℕ) → IsLineAt n ahead → line ≡ take n ahead → length ahead ≤ 4096 → length line ≤ 4095
is_short ahead line n at shown few =
    omega (arith, is_long ahead line n at shown, ap length at.2, length-append at.0 (10 ∷ at.1), at.3)

pub no_feed_shown : (ahead line : List ℕ) (n : ℕ) → IsLineAt n ahead → line ≡ take n ahead → HasNoFeed line
no_feed_shown ahead line n at shown =
    let same : line ≡ at.0 =
    shown ∙ ap (take n) at.2 ∙ ap (λ (k : ℕ). take k (at.0 ++ 10 ∷ at.1)) (sym at.3) ∙ take-append_seam at.0 (10 ∷ at.1) in
    subst HasNoFeed (sym same) at.4

-- ---- refusals

-- a refusal that is another's
pub cause_as : (r s : Option TraceFault) (fault : TraceFault) → (r ≡ Some fault → s ≡ Some fault) → IsCause r fault → IsCause s fault
cause_as r s ReadFault same cause = tt
cause_as r s NoMemory same cause = tt
cause_as r s TooLong same cause = same cause
cause_as r s (Line number c) same cause = same cause
cause_as r s (LongLine number) same cause = same cause
cause_as r s NoEnd same cause = same cause
cause_as r s TooManyCalls same cause = same cause
cause_as r s (TooFewStores stores spaces) same cause = cause
cause_as r s (OneProcessor processors) same cause = cause
cause_as r s (HistoryLine number) same cause = cause
cause_as r s HistoryNoEnd same cause = cause

pub unless_long-short : (number : ℕ) (line : List ℕ) (r : Option TraceFault) → length line ≤ 4095 → unless_long number line r ≡ r
unless_long-short number line r short = rw (le-ltb 4095 (length line) short) refl

pub unless_long-long : (number : ℕ) (line : List ℕ) (r : Option TraceFault) → 4095 < length line → unless_long number line r ≡ Some (LongLine number)
unless_long-long number line r long = rw (lt-ltb 4095 (length line) long) refl

-- what is refused for its length alone is refused whatever else is
pub unless_long-any : (number : ℕ) (line : List ℕ) (r : Option TraceFault) (fault : TraceFault) → unless_long number line None ≡ Some fault
    → unless_long number line r ≡ Some fault
unless_long-any number line r fault = by (ltb 4095 (length line))
  where
    by : (t : Bool) → cond t (Some (LongLine number)) None ≡ Some fault → cond t (Some (LongLine number)) r ≡ Some fault
    by true is = is
    by false is = cc

-- a whole piece without a line feed
pub long_is : (number : ℕ) (ahead : List ℕ) (left : Option (List ℕ)) (bytes : List ℕ) → (length ahead ≡ 4096) × HasNoFeed ahead
    → AreAhead ahead left bytes
    → (first : List ℕ) × (others : List (List ℕ)) × (lines_of bytes ≡ first ∷ others) × (4095 < length first)
long_is number ahead left bytes long are =
    let p = some_piece 10 are.0 in
    (ahead ++ p.0, p.1, ap lines_of are.2 ∙ begins ahead are.0 p.0 p.1 long.1 p.2, omega (arith, length-append ahead p.0, long.0))

missing_by : (number : ℕ) (first : List ℕ) (others : List (List ℕ)) → 4095 < length first → missing number (first ∷ others) ≡ Some (LongLine number)
missing_by number first [] long = unless_long-long number first (Some NoEnd) long
missing_by number first (next ∷ others) long = unless_long-long number first None long

pub missing_long : (number : ℕ) (ahead : List ℕ) (left : Option (List ℕ)) (bytes : List ℕ) → (length ahead ≡ 4096) × HasNoFeed ahead
    → AreAhead ahead left bytes → missing number (lines_of bytes) ≡ Some (LongLine number)
missing_long number ahead left bytes long are =
    let p = long_is number ahead left bytes long are in rw p.2 (missing_by number p.0 p.1 p.3)

-- the bytes are what was read, where the source has no more
pub all_read : (ahead bytes : List ℕ) (left : Option (List ℕ)) → left ≡ Some [] → AreAhead ahead left bytes → bytes ≡ ahead
all_read ahead bytes left end are =
    let none : are.0 ≡ [] = let e : Some are.0 ≡ Some [] = sym are.1 ∙ end in cc in
    are.2 ∙ ap (λ (l : List ℕ). ahead ++ l) none ∙ append-nil ahead

pub missing_rest : (number n : ℕ) (ahead : List ℕ) (left : Option (List ℕ)) (bytes : List ℕ) → length ahead ≡ n → n ≤ 4095 → HasNoFeed ahead
    → left ≡ Some [] → AreAhead ahead left bytes → missing number (lines_of bytes) ≡ Some NoEnd
missing_rest number n ahead left bytes long short none end are =
    rw (all_read ahead bytes left end are, rest_alone ahead none) (unless_long-short number ahead (Some NoEnd) (omega arith))

-- as `look` tells it

pub refused_long : (number : ℕ) (left left' : Option (List ℕ)) (first ahead : List ℕ) (n : Next)
    → IfSome left (λ _. seen ahead left' ≡ seen first left) → IsNext n ahead left left' → n ≡ next.Long
    → IfSome (seen first left) (λ bytes. missing number (lines_of bytes) ≡ Some (LongLine number))
refused_long number left left' first ahead n same is long =
    let at = subst (λ (m : Next). IsNext m ahead left left') long is in
    IfSome_then (seen first left) (are_ahead left left' first ahead same) (λ bytes are. missing_long number ahead left' bytes at are)

pub refused_rest : (number k : ℕ) (left left' : Option (List ℕ)) (first ahead : List ℕ) (n : Next)
    → IfSome left (λ _. seen ahead left' ≡ seen first left) → IsNext n ahead left left' → n ≡ next.Rest k
    → IfSome (seen first left) (λ bytes. missing number (lines_of bytes) ≡ Some NoEnd)
refused_rest number k None left' first ahead n same is rest = tt
refused_rest number k (Some bytes) left' first ahead n same is rest =
    let at = subst (λ (m : Next). IsNext m ahead (Some bytes) left') rest is in
    missing_rest number k ahead left' (first ++ bytes) at.0 at.1 at.2 at.3 (are_ahead (Some bytes) left' first ahead same)

-- ---- behind the end

-- where no byte is ahead, none is to come
pub none_next : (n : Next) (ahead : List ℕ) (before now : Option (List ℕ)) → IsNext n ahead before now → ahead ≡ [] → IfSome before
    (λ _. now ≡ Some [])
none_next (next.Line k) ahead before now is none = absurd (omega (arith, ap length (sym none ∙ is.2), length-append is.0 (10 ∷ is.1)))
none_next next.Long ahead before now is none = absurd (omega (arith, is.0, ap length none))
none_next (next.Rest k) ahead before now is none = is.3

pub all_behind : (left left' : Option (List ℕ)) (first ahead : List ℕ) (n : Next) → IfSome left (λ _. seen ahead left' ≡ seen first left)
    → IsNext n ahead left left' → ahead ≡ [] → IfSome (seen first left) (λ bytes. (bytes ≡ []) × (seen ahead left' ≡ Some []))
all_behind None left' first ahead n same is none = tt
all_behind (Some bytes) left' first ahead n same is none =
    let end = none_next n ahead (Some bytes) left' is none in
    (all_read ahead (first ++ bytes) left' end (are_ahead (Some bytes) left' first ahead same) ∙ none, rw (end, none) refl)

pub after_end : (number : ℕ) (ahead : List ℕ) (left : Option (List ℕ)) (bytes : List ℕ) → (ahead ≡ [] → ⊥) → AreAhead ahead left bytes
    → end_refusal number (lines_of bytes) ≡ Some (Line (number + 1) causes.After)
after_end number ahead left bytes some are =
    let p = some_piece 10 bytes in
    rw p.2 (something number bytes p.0 p.1 p.2 (λ none. some (front_none ahead are.0 (sym are.2 ∙ none))))
  where
    front_none : (front rest : List ℕ) → front ++ rest ≡ [] → front ≡ []
    front_none [] rest none = refl
    front_none (b ∷ front) rest none = cc

pub refused_after : (number : ℕ) (left left' : Option (List ℕ)) (first ahead : List ℕ)
    → IfSome left (λ _. seen ahead left' ≡ seen first left) → (ahead ≡ [] → ⊥)
    → IfSome (seen first left) (λ bytes. end_refusal number (lines_of bytes) ≡ Some (Line (number + 1) causes.After))
refused_after number left left' first ahead same some =
    IfSome_then (seen first left) (are_ahead left left' first ahead same) (λ bytes are. after_end number ahead left' bytes some are)
