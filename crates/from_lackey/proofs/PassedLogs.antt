-- What was passed of a log, step by step.
use Rattle.std.proofs.Common.{◌≡◌, ℕ, ◌+◌, ◌≤◌, Bool, true, false, List, [], ◌∷◌, ◌++◌, length, Option, Some, None, IfSome, sym, ap, refl, ◌∙◌, append_assoc, arith, length-append}
use Rattle.std.proofs.lemmas.List.{append-nil}
use Rattle.std.proofs.lemmas.Option.{IfSome_then}
use Rattle.line_source.specs.Lines.{HasNoFeed, seen}
use Rattle.from_lackey.specs.Log.{BeginsWith, IsReadTo, Passed, ended, lines_of}
use Rattle.from_lackey.proofs.LogLines.{IsFront, all_and_one, ended_more, last_line, last_of, lines_behind, none_in_both}

-- of a log these bytes are ahead, and the source has others
abbrev Ahead : List ℕ → Option (List ℕ) → List ℕ → Type 0
Ahead ahead left bytes = (rest : List ℕ) × (left ≡ Some rest) × (bytes ≡ ahead ++ rest)

looked : (left left' : Option (List ℕ)) (ahead ahead' rest : List ℕ) → IfSome left (λ _. seen ahead' left' ≡ seen ahead left) → left ≡ Some rest
    → Ahead ahead' left' (ahead ++ rest)
looked None left' ahead ahead' rest same is = cc
looked (Some bytes) None ahead ahead' rest same is = cc
looked (Some bytes) (Some more) ahead ahead' rest same is = let all : ahead ++ rest ≡ ahead' ++ more = cc in (more, refl, all)

-- looking ahead passes nothing
pub passed_looked : (n : ℕ) (before left left' : Option (List ℕ)) (lines : List (List ℕ)) (long : Bool) (ahead ahead' : List ℕ) →
    Passed n before lines long ahead left → IfSome left (λ _. seen ahead' left' ≡ seen ahead left) → Passed n before lines long ahead' left'
passed_looked n before left left' lines long ahead ahead' p same = record {
  part = p.part;
  no_feeds = p.no_feeds;
  no_feed = p.no_feed;
  by = p.by;
  enough = p.enough;
  split = IfSome_then before p.split (λ bytes at.
      let are = looked left left' ahead ahead' at.0 same at.1 in
      (are.0, are.1, at.2 ∙ ap (λ (l : List ℕ). ended lines ++ (p.part ++ l)) are.2));
}

-- a line is passed, which ends what was passed of it before
pub passed_line : (n : ℕ) (before left : Option (List ℕ)) (lines : List (List ℕ)) (long : Bool) (ahead line behind : List ℕ) →
    (p : Passed n before lines long ahead left) → IsFront ahead line behind → Passed (n + 1) before (lines ++ (p.part ++ line) ∷ []) false behind left
passed_line n before left lines long ahead line behind p front =
    let whole : List ℕ = p.part ++ line in
    let more : ended (lines ++ whole ∷ []) ≡ ended lines ++ (whole ++ 10 ∷ []) = ended_more lines whole in
    let long_more : length (ended (lines ++ whole ∷ [])) ≡ length (ended lines) + (length p.part + length line + 1) =
    ap length more ∙ length-append (ended lines) (whole ++ 10 ∷ []) ∙ ap (λ (k : ℕ). length (ended lines) + k)
    (length-append whole (10 ∷ []) ∙ ap (λ (k : ℕ). k + 1) (length-append p.part line)) in
    record {
      part = [];
      no_feeds = all_and_one lines whole p.no_feeds (none_in_both p.part line p.no_feed front.none);
      no_feed = tt;
      by = refl;
      enough = omega (arith, p.enough, long_more);
      split = IfSome_then before p.split (λ bytes at.
          let rest = at.0 in
          let shown : p.part ++ (ahead ++ rest) ≡ (whole ++ 10 ∷ []) ++ (behind ++ rest) =
          ap (λ (l : List ℕ). p.part ++ (l ++ rest)) front.parts
          ∙ ap (λ (l : List ℕ). p.part ++ l) (append_assoc line (10 ∷ behind) rest)
          ∙ sym (append_assoc p.part line (10 ∷ (behind ++ rest)))
          ∙ sym (append_assoc whole (10 ∷ []) (behind ++ rest)) in (
            rest,
            at.1,
            at.2 ∙ ap (λ (l : List ℕ). ended lines ++ l) shown ∙ sym (append_assoc (ended lines) (whole ++ 10 ∷ []) (behind ++ rest))
                ∙ ap (λ (l : List ℕ). l ++ (behind ++ rest)) (sym more),
          ));
    }

-- a piece of a line that is too long is passed
pub passed_piece : (n : ℕ) (before left : Option (List ℕ)) (lines : List (List ℕ)) (long : Bool) (ahead behind : List ℕ) →
    Passed n before lines long ahead left → length ahead ≡ 4096 → HasNoFeed ahead → behind ≡ [] → Passed (n + 1) before lines true behind left
passed_piece n before left lines long ahead behind p full none gone =
    let more : length (p.part ++ ahead) ≡ length p.part + 4096 = length-append p.part ahead ∙ ap (λ (k : ℕ). length p.part + k) full in
    record {
      part = p.part ++ ahead;
      no_feeds = p.no_feeds;
      no_feed = none_in_both p.part ahead p.no_feed none;
      by = omega (arith, more);
      enough = omega (arith, p.enough, more);
      split = IfSome_then before p.split (λ bytes at. (
        at.0,
        at.1,
        at.2 ∙ ap (λ (l : List ℕ). ended lines ++ l)
            (sym (append_assoc p.part ahead at.0) ∙ ap (λ (l : List ℕ). (p.part ++ ahead) ++ (l ++ at.0)) (sym gone)),
      ));
    }

-- nothing is left behind what is ahead, which has no line feed
pub all_passed : (n : ℕ) (before left : Option (List ℕ)) (lines : List (List ℕ)) (long : Bool) (ahead : List ℕ) → (p : Passed n before lines long ahead left) →
    HasNoFeed ahead → IfSome before (λ _. left ≡ Some []) → IfSome before (λ bytes. (lines_of bytes ≡ lines ++ last_line (p.part ++ ahead)) × (left ≡ Some []))
all_passed n None left lines long ahead p none end = tt
all_passed n (Some bytes) left lines long ahead p none end =
    let at = p.split in
    let empty : at.0 ≡ [] = cc (at.1, end) in
    let last : p.part ++ (ahead ++ at.0) ≡ p.part ++ ahead = ap (λ (l : List ℕ). p.part ++ l) (ap (λ (l : List ℕ). ahead ++ l) empty ∙ append-nil ahead) in (
      ap lines_of (at.2 ∙ ap (λ (l : List ℕ). ended lines ++ l) last) ∙ lines_behind lines (p.part ++ ahead) p.no_feeds
          ∙ ap (λ (ls : List (List ℕ)). lines ++ ls) (last_of (p.part ++ ahead) (none_in_both p.part ahead p.no_feed none)),
      end,
    )

-- the log begins with what was passed
pub begins_with : (n : ℕ) (before left : Option (List ℕ)) (lines : List (List ℕ)) (long : Bool) (ahead : List ℕ) → Passed n before lines long ahead left →
    IfSome before (λ bytes. BeginsWith lines bytes × (n ≤ length bytes))
begins_with n before left lines long ahead p = IfSome_then before p.split (λ bytes at.
    let rest : List ℕ = p.part ++ (ahead ++ at.0) in (
      (lines_of rest, ap lines_of at.2 ∙ lines_behind lines rest p.no_feeds),
      omega (arith, p.enough, ap length at.2, length-append (ended lines) rest, length-append p.part (ahead ++ at.0)),
    ))

-- a read failed, and what is ahead has no line feed
pub read_to : (n : ℕ) (before left : Option (List ℕ)) (lines : List (List ℕ)) (long : Bool) (ahead : List ℕ) → Passed n before lines long ahead left →
    HasNoFeed ahead → IfSome before (IsReadTo lines left)
read_to n before left lines long ahead p none = IfSome_then before p.split (λ bytes at. (
  p.part ++ ahead,
  at.0,
  at.2 ∙ ap (λ (l : List ℕ). ended lines ++ l) (sym (append_assoc p.part ahead at.0)),
  at.1,
  p.no_feeds,
  none_in_both p.part ahead p.no_feed none,
))
