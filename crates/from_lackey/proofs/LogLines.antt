-- The lines of a log, one behind another.
use Rattle.std.proofs.Common.{◌≡◌, ℕ, ◌+◌, ◌≤◌, false, eqb, List, [], ◌∷◌, ◌++◌, All, length, take, drop, subst, sym, ap, refl, ◌∙◌, append_assoc, arith, length-append}
use Rattle.std.specs.List.{AllByRecursion}
use Rattle.std.proofs.lemmas.Bool.{ne_eqb}
use Rattle.std.proofs.lemmas.List.{append-nil}
use Rattle.std.proofs.lemmas.List.Elements.{All-from_recursion}
use Rattle.std.proofs.lemmas.List.Splits.{slice_split_at, slice_split_none}
use Rattle.std.proofs.lemmas.Grind.{flat_map-append}
use Rattle.std.proofs.Math.Seq.{drop-append-add, take-append_seam}
use Rattle.trace_lines.proofs.Splits.{some_piece}
use Rattle.line_source.specs.Lines.{HasNoFeed, IsLineAt}
use Rattle.from_lackey.specs.Log.{ended, lines_of, without_empty_end}

no_feed_is : (line : List ℕ) → HasNoFeed line → AllByRecursion (λ b. eqb b 10 ≡ false) line
no_feed_is [] none = tt
no_feed_is (b ∷ line) none = (ne_eqb b 10 none.0, no_feed_is line none.1)

no_feeds : (line : List ℕ) → HasNoFeed line → All (λ b. eqb b 10 ≡ false) line
no_feeds line none = All-from_recursion _ line (no_feed_is line none)

pub none_in_both : (front rest : List ℕ) → HasNoFeed front → HasNoFeed rest → HasNoFeed (front ++ rest)
none_in_both [] rest first last = last
none_in_both (b ∷ front) rest first last = (first.0, none_in_both front rest first.1 last)

-- a piece before others is a line
before_others : (line first : List ℕ) (others : List (List ℕ)) → without_empty_end (line ∷ first ∷ others) ≡ line ∷ without_empty_end (first ∷ others)
before_others [] first others = refl
before_others (b ∷ line) first others = refl

-- the first line
pub first_of : (line rest : List ℕ) → HasNoFeed line → lines_of (line ++ 10 ∷ rest) ≡ line ∷ lines_of rest
first_of line rest none =
    let p = some_piece 10 rest in
    ap without_empty_end (slice_split_at (λ b. eqb b 10) line 10 rest (no_feeds line none) refl ∙ ap (λ (ls : List (List ℕ)). line ∷ ls) p.2)
    ∙ before_others line p.0 p.1 ∙ ap (λ (ls : List (List ℕ)). line ∷ without_empty_end ls) (sym p.2)

-- what stands behind the last line feed is a line where it is something
abbrev pub last_line : List ℕ → List (List ℕ)
last_line [] = []
last_line (b ∷ bytes) = (b ∷ bytes) ∷ []

pub last_of : (rest : List ℕ) → HasNoFeed rest → lines_of rest ≡ last_line rest
last_of [] none = refl
last_of (b ∷ rest) none = ap without_empty_end (slice_split_none (λ b. eqb b 10) (b ∷ rest) (no_feeds (b ∷ rest) none))

-- the lines of bytes that begin with these lines
pub lines_behind : (lines : List (List ℕ)) (rest : List ℕ) → AllByRecursion HasNoFeed lines → lines_of (ended lines ++ rest) ≡ lines ++ lines_of rest
lines_behind [] rest none = refl
lines_behind (line ∷ lines) rest none =
    let split : ((line ++ 10 ∷ []) ++ ended lines) ++ rest ≡ line ++ 10 ∷ (ended lines ++ rest) =
    ap (λ (l : List ℕ). l ++ rest) (append_assoc line (10 ∷ []) (ended lines)) ∙ append_assoc line (10 ∷ ended lines) rest in
    ap lines_of split ∙ first_of line (ended lines ++ rest) none.0 ∙ ap (λ (ls : List (List ℕ)). line ∷ ls) (lines_behind lines rest none.1)

-- one line more
pub ended_more : (lines : List (List ℕ)) (line : List ℕ) → ended (lines ++ line ∷ []) ≡ ended lines ++ (line ++ 10 ∷ [])
ended_more lines line =
    flat_map-append (λ (l : List ℕ). l ++ 10 ∷ []) lines (line ∷ []) ∙ ap (λ (l : List ℕ). ended lines ++ l) (append-nil (line ++ 10 ∷ []))

pub all_and_one : (lines : List (List ℕ)) (line : List ℕ) → AllByRecursion HasNoFeed lines → HasNoFeed line → AllByRecursion HasNoFeed (lines ++ line ∷ [])
all_and_one [] line all one = (one, tt)
all_and_one (l ∷ lines) line all one = (all.0, all_and_one lines line all.1 one)

-- ---- a line at the front of bytes

-- it is what is shown, and behind its line feed are the others
pub record IsFront (ahead line behind : List ℕ) : Type 0 where
  pub parts : ahead ≡ line ++ 10 ∷ behind
  pub none : HasNoFeed line

pub is_front : (n : ℕ) (ahead : List ℕ) → IsLineAt n ahead → IsFront ahead (take n ahead) (drop (n + 1) ahead)
is_front n ahead at =
    let line = at.0 in
    let rest = at.1 in
    let shown : take n ahead ≡ line =
    ap (take n) at.2 ∙ ap (λ (k : ℕ). take k (line ++ 10 ∷ rest)) (sym at.3) ∙ take-append_seam line (10 ∷ rest) in
    let back : drop (n + 1) ahead ≡ rest =
    ap (drop (n + 1)) at.2 ∙ ap (λ (k : ℕ). drop (k + 1) (line ++ 10 ∷ rest)) (sym at.3) ∙ drop-append-add line (10 ∷ rest) 1 in
    record {
      parts = at.2 ∙ ap (λ (l : List ℕ). l ++ 10 ∷ rest) (sym shown) ∙ ap (λ (l : List ℕ). take n ahead ++ 10 ∷ l) (sym back);
      none = subst HasNoFeed (sym shown) at.4;
    }

-- and they are among the bytes
pub line_fits : (n : ℕ) (ahead : List ℕ) → IsLineAt n ahead → n + 1 ≤ length ahead
line_fits n ahead at = omega (arith, at.3, ap length at.2, length-append at.0 (10 ∷ at.1))
