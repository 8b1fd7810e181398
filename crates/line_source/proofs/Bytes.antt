-- Bytes that were read, the line feed among them, and those that are left.
use Rattle.std.proofs.Common.{◌≡◌, ℕ, zero, suc, ◌+◌, ◌-◌, ◌<◌, ◌≤◌, List, [], ◌∷◌, ◌++◌, length, take, drop, get_or, Option, Some, None, IfSome, subst, sym, ap, refl, ◌∙◌, append_assoc, arith, length-take-le, length-drop, drop-drop, take_all}
use lib.Seq.{paste}
use Rattle.std.specs.Prelude.{slice_range}
use Rattle.std.proofs.lemmas.Bool.{eqb-true, eq-eqb}
use Rattle.std.proofs.lemmas.List.{take-append-drop, drop-take, drop_more, get_or-drop, take-append-le}
use Rattle.std.proofs.lemmas.List.Edits.{take-paste}
use Rattle.std.proofs.Math.Seq.{take-add, take-append-add}
use Rattle.memchr.specs.Find.{Nowhere, Passes, is_byte}
use Rattle.line_source.specs.Lines.{HasNoFeed, IsLineAt, seen}

-- ---- the first line feed

pub none_before : (hay : List ℕ) (n : ℕ) → n ≤ length hay → Nowhere (Passes (is_byte 10) hay) 0 n → HasNoFeed (take n hay)
none_before hay zero within none = tt
none_before [] (suc n) within none = tt
none_before (b ∷ hay) (suc n) within none = (
  λ feed. none 0 (omega arith) (omega arith) (eq-eqb b 10 feed),
  none_before hay n (omega arith) (λ k low high. none (suc k) (omega arith) (omega arith)),
)

pub no_feed-append : (front rest : List ℕ) → HasNoFeed front → HasNoFeed rest → HasNoFeed (front ++ rest)
no_feed-append [] rest first last = last
no_feed-append (b ∷ front) rest first last = (first.0, no_feed-append front rest first.1 last)

-- no byte of the bytes is one, where none is among the first so many, nor behind them
pub none_searched : (bytes hay : List ℕ) (searched n : ℕ) → hay ≡ drop searched bytes → n ≤ length hay → HasNoFeed (take searched bytes)
    → Nowhere (Passes (is_byte 10) hay) 0 n → HasNoFeed (take (searched + n) bytes)
none_searched bytes hay searched n is within before none =
    rw (take-add searched n bytes) (no_feed-append (take searched bytes) (take n (drop searched bytes)) before
    (subst (λ (l : List ℕ). HasNoFeed (take n l)) is (none_before hay n within none)))

-- nor in all of them
pub none_in_all : (bytes hay : List ℕ) (searched : ℕ) → hay ≡ drop searched bytes → searched ≤ length bytes → HasNoFeed (take searched bytes)
    → Nowhere (Passes (is_byte 10) hay) 0 (length hay) → HasNoFeed bytes
none_in_all bytes hay searched is within before none =
    let all : length hay ≡ length bytes - searched = ap length is ∙ length-drop searched bytes in
    subst HasNoFeed (take_all (searched + length hay) bytes (omega arith)) (none_searched bytes hay searched (length hay) is (omega arith) before none)

-- a line ends at the first one
pub line_at : (bytes : List ℕ) (k : ℕ) → k < length bytes → HasNoFeed (take k bytes) → get_or bytes k 0 ≡ 10 → IsLineAt k bytes
line_at bytes k within none feed = (
  take k bytes,
  drop (k + 1) bytes,
  sym (take-append-drop k bytes) ∙ ap (λ (l : List ℕ). take k bytes ++ l)
      (drop_more bytes k 0 within ∙ ap (λ (b : ℕ). b ∷ drop (k + 1) bytes) feed),
  length-take-le k bytes (omega arith),
  none,
)

-- and the first one behind those that were searched is the first of all
pub line_searched : (bytes hay : List ℕ) (searched n : ℕ) → hay ≡ drop searched bytes → searched ≤ length bytes → n < length hay
    → HasNoFeed (take searched bytes) → Nowhere (Passes (is_byte 10) hay) 0 n → Passes (is_byte 10) hay n → IsLineAt (searched + n) bytes
line_searched bytes hay searched n is within some before none feed =
    let all : length hay ≡ length bytes - searched = ap length is ∙ length-drop searched bytes in
    line_at bytes (searched + n) (omega arith) (none_searched bytes hay searched n is (omega arith) before none)
    (sym (get_or-drop searched bytes n 0) ∙ ap (λ (l : List ℕ). get_or l n 0) (sym is) ∙ eqb-true (get_or hay n 0) 10 feed)

pub view_long : (bytes view : List ℕ) (from to : ℕ) → view ≡ drop from (take to bytes) → to ≤ length bytes → length view ≡ to - from
view_long bytes view from to is within =
    ap length is ∙ length-drop from (take to bytes) ∙ ap (λ (n : ℕ). n - from) (length-take-le to bytes within)

-- the bytes that are searched
pub hay_is : (bytes view : List ℕ) (from searched to : ℕ) → view ≡ drop from (take to bytes) → to ≤ length bytes → from ≤ to
    → searched ≤ length view → slice_range bytes (from + searched) to ≡ drop searched view
hay_is bytes view from searched to is within order some =
    let long = view_long bytes view from to is within in
    let whole : (from + searched) + (to - (from + searched)) ≡ to = omega arith in
    sym (ap (drop searched) is ∙ drop-drop searched from (take to bytes) ∙ ap (λ (n : ℕ). drop (from + searched) (take n bytes)) (sym whole)
    ∙ drop-take (from + searched) (to - (from + searched)) bytes)

-- ---- room

pub moved_by : (bytes : List ℕ) (from to : ℕ) → from ≤ to → to ≤ length bytes
    → take (to - from) (paste bytes 0 (drop from bytes) (to - from)) ≡ drop from (take to bytes)
moved_by bytes from to order within =
    let whole : from + (to - from) ≡ to = omega arith in
    let none : to - from ≡ 0 + (to - from) = omega arith in
    ap (λ (n : ℕ). take n (paste bytes 0 (drop from bytes) (to - from))) none
    ∙ take-paste bytes 0 (drop from bytes) (to - from) (omega arith) (omega (arith, length-drop from bytes))
    ∙ sym (ap (λ (n : ℕ). drop from (take n bytes)) (sym whole) ∙ drop-take from (to - from) bytes)

-- what was read behind the bytes that are there
pub came_behind : (bytes into post ahead : List ℕ) (a n : ℕ) → take a bytes ≡ ahead → length ahead ≡ a → n ≤ length into
    → take (a + n) (take a bytes ++ (into ++ post)) ≡ ahead ++ take n into
came_behind bytes into post ahead a n is long within =
    rw (is, ← long) (take-append-add ahead (into ++ post) n ∙ ap (λ (l : List ℕ). ahead ++ l) (take-append-le n into post within))

-- ---- what a read says of the bytes that are to come

-- what it gave stands behind the bytes that were there, before those that are left
pub seen_more : (left left' : Option (List ℕ)) (ahead into now : List ℕ) (n : ℕ) → now ≡ ahead ++ take n into
    → IfSome left (λ bytes. take n into ≡ take n bytes) → IfSome left (λ bytes. left' ≡ Some (drop n bytes))
    → IfSome left (λ _. seen now left' ≡ seen ahead left)
seen_more None left' ahead into now n is gave rest = tt
seen_more (Some bytes) left' ahead into now n is gave rest =
    rw (rest, is, gave) (ap Some (append_assoc ahead (take n bytes) (drop n bytes) ∙ ap (λ (l : List ℕ). ahead ++ l) (take-append-drop n bytes)))

pub seen_same : (left left' : Option (List ℕ)) (ahead now : List ℕ) → now ≡ ahead → left' ≡ left → IfSome left (λ _. seen now left' ≡ seen ahead left)
seen_same None left' ahead now is same = tt
seen_same (Some bytes) left' ahead now is same = rw (is, same) refl

-- a read of no byte was the last
pub none_came : (left left' : Option (List ℕ)) (n : ℕ) → n ≡ 0 → IfSome left (λ bytes. bytes ≡ []) → IfSome left (λ bytes. left' ≡ Some (drop n bytes))
    → IfSome left (λ _. left' ≡ Some [])
none_came None left' n none end rest = tt
none_came (Some bytes) left' n none end rest = rw (rest, none, end) refl

-- so none is left of those of the beginning
pub none_left : (before now after : Option (List ℕ)) (ahead first : List ℕ) → IfSome before (λ _. seen ahead now ≡ seen first before)
    → IfSome now (λ _. after ≡ Some []) → IfSome before (λ _. after ≡ Some [])
none_left None now after ahead first same end = tt
none_left (Some bytes) None after ahead first same end = cc
none_left (Some bytes) (Some more) after ahead first same end = end

-- nothing came, so the bytes are as they were
pub none_more : (now ahead : List ℕ) (n : ℕ) → take (length ahead) now ≡ ahead → length now ≡ length ahead + n → n ≡ 0 → now ≡ ahead
none_more now ahead n kept count none = sym (take_all (length ahead) now (omega arith)) ∙ kept
