-- What a step takes, and why it stops.
use Rattle.std.proofs.Common.{◌≡◌, ℕ, ◌+◌, ◌-◌, ◌^◌, ◌<◌, ◌≤◌, Bool, true, false, if◌then◌else◌, List, [], ◌∷◌, ◌++◌, length, take, drop, flat_map, Option, Some, None, IfSome, IfErr, Result, Ok, Err, subst, sym, ap, refl, ◌∙◌, append_assoc, arith, length-append, length-drop, take_all}
use Rattle.std.specs.Result.{IsErrAnd}
use Rattle.std.proofs.lemmas.Bool.{le-ltb, lt-ltb}
use Rattle.std.proofs.lemmas.List.{append-nil}
use Rattle.std.proofs.lemmas.Option.{IfSome_then}
use Rattle.io_core.specs.Faults.{one_more}
use Rattle.pager_model.specs.declared.call.Line.{Line}
use Rattle.line_source.specs.Lines.{HasNoFeed, IsLineAt}
use Rattle.lackey_regions.specs.declared.refusal.Refusal.{Refusal}
use Rattle.lackey_regions.specs.LineCalls.{MadeAt, Word}
use Rattle.from_lackey.specs.declared.convert.Converter.{Converter}
use Rattle.from_lackey.specs.declared.log.Log.{Log}
use Rattle.from_lackey.specs.declared.log.Taken.TheVariants.{Part, All}
use Rattle.from_lackey.specs.declared.stop.Stop.{Stop}
use Rattle.from_lackey.specs.declared.stop.Stop.TheVariants.{Usage, Line as AtLine, ReadFault, WriteFault, NoMemory, TooLong}
use Rattle.from_lackey.specs.Converted.{GoesOnWithout, IsRefused, StopsReading}
use Rattle.from_lackey.specs.LineWords.{line_words, log_words}
use Rattle.from_lackey.specs.Log.{IsLongBy, Passed, ended, lines_of}
use Rattle.from_lackey.specs.Taken.{IsOfLog, IsRefusedAt, Took}
use Rattle.from_lackey.proofs.LogLines.{first_of, is_front, last_line, lines_behind}
use Rattle.from_lackey.proofs.MadeLines.{made_nothing}
use Rattle.from_lackey.proofs.PassedLogs.{all_passed, passed_line, passed_piece, read_to}

short_words : (instructions : Bool) (line : List ℕ) → length line ≤ 4095 → log_words instructions line ≡ line_words instructions line
short_words instructions line short =
    ap (λ (b : Bool). if b then line_words instructions line else []) (lt-ltb (length line) 4096 (omega (arith, short)))

long_words : (instructions : Bool) (line : List ℕ) → 4096 ≤ length line → log_words instructions line ≡ []
long_words instructions line long =
    ap (λ (b : Bool). if b then line_words instructions line else []) (le-ltb (length line) 4096 long)

-- the words of the line that a part and these bytes are: the line's own, or none where it is too long
words_by : (instructions long : Bool) (part line : List ℕ) → IsLongBy long part → length line ≤ 4095 →
    flat_map (log_words instructions) ((part ++ line) ∷ []) ≡ (if long then [] else line_words instructions line)
words_by instructions true part line by short =
    append-nil (log_words instructions (part ++ line)) ∙ long_words instructions (part ++ line) (omega (arith, by, length-append part line))
words_by instructions false part line by short =
    append-nil (log_words instructions (part ++ line)) ∙ ap (λ (l : List ℕ). log_words instructions (l ++ line)) by ∙ short_words instructions line short

made_by : (instructions long : Bool) (places : List (Option ℕ)) (before calls : List Line) (part line : List ℕ) → before ≡ [] → IsLongBy long part →
    length line ≤ 4095 → MadeAt places before calls (if long then [] else line_words instructions line) →
    MadeAt places [] calls (flat_map (log_words instructions) ((part ++ line) ∷ []))
made_by instructions long places before calls part line none by short made =
    subst (λ (ws : List Word). MadeAt places [] calls ws) (sym (words_by instructions long part line by short))
    (subst (λ (xs : List Line). MadeAt places xs calls (if long then [] else line_words instructions line)) none made)

-- no call is made
pub made_no_calls : (places : List (Option ℕ)) (calls : List Line) → calls ≡ [] → MadeAt places [] calls []
made_no_calls places calls none = subst (λ (xs : List Line). MadeAt places [] xs []) (sym none) (made_nothing places [])

length-none : (l : List ℕ) → length l ≡ 0 → l ≡ []
length-none [] is = refl
length-none (x ∷ l) is = absurd (let bad : length (x ∷ l) ≡ 0 = is in omega (arith, bad))

drop_whole : (l : List ℕ) (k : ℕ) → length l ≡ k → drop k l ≡ []
drop_whole l k is = length-none (drop k l) (omega (arith, length-drop k l, is))

-- the source has no more where it had told its bytes before, as it did where any were passed
pub end_before : (n : ℕ) (before left left' : Option (List ℕ)) (lines : List (List ℕ)) (long : Bool) (ahead : List ℕ) → Passed n before lines long ahead left →
    IfSome left (λ _. left' ≡ Some []) → IfSome before (λ _. left' ≡ Some [])
end_before n None left left' lines long ahead p end = tt
end_before n (Some bytes) None left' lines long ahead p end = let at = p.split in cc (at.1)
end_before n (Some bytes) (Some more) left' lines long ahead p end = end

-- ---- what is taken

module _ (n : ℕ) (before left : Option (List ℕ)) (lines : List (List ℕ)) (long : Bool) (ahead : List ℕ) (old new : Converter) where
  pub took_line : (k : ℕ) (behind : List ℕ) → Passed n before lines long ahead left → IsLineAt k ahead → length ahead ≤ 4096 →
      behind ≡ drop (k + 1) ahead → MadeAt new.memory.layout [] new.calls.items (if long then [] else line_words old.instructions (take k ahead)) →
      (old.counts.lines < 2 ^ 64 - 1 → new.counts.lines ≡ old.counts.lines + 1) →
      Took Part n before lines (record { ahead = behind; long = false }) left old new
  took_line k behind p at few gone made counts =
      let front = is_front k ahead at in
      let line : List ℕ = take k ahead in
      let short : length line ≤ 4095 = omega (arith, ap length front.parts, length-append line (10 ∷ drop (k + 1) ahead), few) in
      record {
        more = (p.part ++ line) ∷ [];
        one = omega arith;
        is_taken = subst (λ (l : List ℕ). Passed (n + 1) before (lines ++ (p.part ++ line) ∷ []) false l left) (sym gone)
            (passed_line n before left lines long ahead line (drop (k + 1) ahead) p front);
        made = made_by old.instructions long new.memory.layout [] new.calls.items p.part line refl p.by short made;
        counts = counts;
      }

  pub took_piece : (behind : List ℕ) → Passed n before lines long ahead left → length ahead ≡ 4096 → HasNoFeed ahead → behind ≡ drop 4096 ahead →
      new.calls.items ≡ [] → new.counts.lines ≡ old.counts.lines → Took Part n before lines (record { ahead = behind; long = true }) left old new
  took_piece behind p full none gone empty same =
      let nothing : behind ≡ [] = gone ∙ drop_whole ahead 4096 full in
      record {
        more = [];
        one = omega arith;
        is_taken = subst (λ (ls : List (List ℕ)). Passed (n + 1) before ls true behind left) (sym (append-nil lines))
            (passed_piece n before left lines long ahead behind p full none nothing);
        made = made_no_calls new.memory.layout new.calls.items empty;
        counts = λ _. omega (arith, same);
      }

  -- nothing is left, and no part of a line was passed
  pub took_nothing : (log : Log) → Passed n before lines long ahead left → long ≡ false → length ahead ≡ 0 → HasNoFeed ahead →
      IfSome before (λ _. left ≡ Some []) → new.calls.items ≡ [] → new.counts.lines ≡ old.counts.lines → Took All n before lines log left old new
  took_nothing log p whole none feedless end empty same =
      let both : p.part ++ ahead ≡ [] = length-none (p.part ++ ahead) (omega (arith, length-append p.part ahead, none, part_none long p.part p.by whole)) in
      record {
        more = [];
        one = omega arith;
        is_taken = IfSome_then before (all_passed n before left lines long ahead p feedless end) (λ bytes all.
            (all.0 ∙ ap (λ (l : List ℕ). lines ++ last_line l) both, all.1));
        made = made_no_calls new.memory.layout new.calls.items empty;
        counts = λ _. omega (arith, same);
      }
    where
      part_none : (long : Bool) (part : List ℕ) → IsLongBy long part → long ≡ false → length part ≡ 0
      part_none true part by is = cc
      part_none false part by is = ap length by

  -- the rest is a line, or ends one that is too long
  pub took_rest : (k : ℕ) (log : Log) → Passed n before lines long ahead left → length ahead ≡ k → k ≤ 4095 → HasNoFeed ahead →
      IfSome before (λ _. left ≡ Some []) → (k ≡ 0 → long ≡ true) →
      MadeAt new.memory.layout [] new.calls.items (if long then [] else line_words old.instructions (take k ahead)) →
      (old.counts.lines < 2 ^ 64 - 1 → new.counts.lines ≡ old.counts.lines + 1) → Took All n before lines log left old new
  took_rest k log p shown short feedless end some made counts =
      let line : List ℕ = take k ahead in
      let same : line ≡ ahead = ap (λ (m : ℕ). take m ahead) (sym shown) ∙ take_all (length ahead) ahead (omega arith) in
      let few : length line ≤ 4095 = omega (arith, ap length same, shown, short) in
      let nonempty : length (p.part ++ ahead) ≡ 0 → ⊥ = λ none.
      not_short long p.part p.by (some (omega (arith, none, length-append p.part ahead, shown))) (omega (arith, none, length-append p.part ahead)) in
      record {
        more = (p.part ++ line) ∷ [];
        one = omega arith;
        is_taken = IfSome_then before (all_passed n before left lines long ahead p feedless end) (λ bytes all. (
          all.0 ∙ ap (λ (ls : List (List ℕ)). lines ++ ls) (alone (p.part ++ ahead) nonempty)
              ∙ ap (λ (l : List ℕ). lines ++ (p.part ++ l) ∷ []) (sym same),
          all.1,
        ));
        made = made_by old.instructions long new.memory.layout [] new.calls.items p.part line refl p.by few made;
        counts = counts;
      }
    where
      not_short : (long : Bool) (part : List ℕ) → IsLongBy long part → long ≡ true → length part ≡ 0 → ⊥
      not_short true part by is none = omega (arith, by, none)
      not_short false part by is none = cc

      alone : (l : List ℕ) → (length l ≡ 0 → ⊥) → last_line l ≡ l ∷ []
      alone [] some = absurd (some refl)
      alone (x ∷ l) some = refl

-- ---- why it stops

module _ (places : List (Option ℕ)) (n : ℕ) (before left : Option (List ℕ)) (lines : List (List ℕ)) (long : Bool) (ahead : List ℕ) (failed faults : ℕ) where
  -- a read failed
  pub stops_for_read : Passed n before lines long ahead left → HasNoFeed ahead → faults ≡ one_more failed →
      StopsReading places lines before left failed faults ReadFault
  stops_for_read p none rose = (rose, read_to n before left lines long ahead p none)

  -- a line becomes no calls, whose line feed is ahead
  refused_line : (k : ℕ) (refusal : Refusal) → Passed n before lines long ahead left → IsLineAt k ahead → long ≡ false → IsRefused places refusal (take k ahead) →
      IfSome before (GoesOnWithout places refusal lines)
  refused_line k refusal p at short refused =
      let front = is_front k ahead at in
      let line : List ℕ = take k ahead in
      let none : p.part ≡ [] = no_part long p.part p.by short in
      IfSome_then before p.split (λ bytes here.
      let rest : List ℕ = drop (k + 1) ahead ++ here.0 in
      let split : p.part ++ (ahead ++ here.0) ≡ line ++ 10 ∷ rest =
      ap (λ (l : List ℕ). l ++ (ahead ++ here.0)) none ∙ ap (λ (l : List ℕ). l ++ here.0) front.parts ∙ append_assoc line (10 ∷ drop (k + 1) ahead) here.0 in (
        line,
        lines_of rest,
        ap lines_of (here.2 ∙ ap (λ (l : List ℕ). ended lines ++ l) split) ∙ lines_behind lines (line ++ 10 ∷ rest) p.no_feeds
            ∙ ap (λ (ls : List (List ℕ)). lines ++ ls) (first_of line rest front.none),
        refused,
      ))
    where
      no_part : (long : Bool) (part : List ℕ) → IsLongBy long part → long ≡ false → part ≡ []
      no_part true part by is = cc
      no_part false part by is = by

  -- or the last one
  refused_rest : (k : ℕ) (refusal : Refusal) → Passed n before lines long ahead left → length ahead ≡ k → HasNoFeed ahead → IfSome before (λ _. left ≡ Some []) →
      (k ≡ 0 → long ≡ true) → long ≡ false → IsRefused places refusal (take k ahead) → IfSome before (GoesOnWithout places refusal lines)
  refused_rest k refusal p shown feedless end some short refused =
      let same : take k ahead ≡ ahead = ap (λ (m : ℕ). take m ahead) (sym shown) ∙ take_all (length ahead) ahead (omega arith) in
      let none : p.part ≡ [] = no_part long p.part p.by short in
      let alone : last_line (p.part ++ ahead) ≡ ahead ∷ [] = ap (λ (l : List ℕ). last_line (l ++ ahead)) none
      ∙ only ahead (λ empty. let bad : true ≡ false = sym (some (sym shown ∙ empty)) ∙ short in absurd (cc (bad))) in
      IfSome_then before (all_passed n before left lines long ahead p feedless end) (λ bytes all.
      (ahead, [], all.0 ∙ ap (λ (ls : List (List ℕ)). lines ++ ls) alone, subst (IsRefused places refusal) same refused))
    where
      no_part : (long : Bool) (part : List ℕ) → IsLongBy long part → long ≡ false → part ≡ []
      no_part true part by is = cc
      no_part false part by is = by

      only : (l : List ℕ) → (length l ≡ 0 → ⊥) → last_line l ≡ l ∷ []
      only [] some = absurd (some refl)
      only (x ∷ l) some = refl

  -- so it stops at that line
  stops_at : (counted : ℕ) (stop : Stop) (line : List ℕ) → IsRefusedAt counted places long line stop → length lines ≡ counted → length lines < 2 ^ 64 - 1 →
      faults ≡ failed → ((refusal : Refusal) → long ≡ false → IsRefused places refusal line → IfSome before (GoesOnWithout places refusal lines)) →
      StopsReading places lines before left failed faults stop
  stops_at counted (AtLine number refusal) line at is few same goes = (same, at.1 (omega (arith, is, few)) ∙ ap (λ (k : ℕ). k + 1) (sym is), goes refusal at.0 at.2)
  stops_at counted ReadFault line at is few same goes = absurd at
  stops_at counted WriteFault line at is few same goes = absurd at
  stops_at counted NoMemory line at is few same goes = absurd at
  stops_at counted TooLong line at is few same goes = absurd at
  stops_at counted Usage line at is few same goes = absurd at

  pub stops_at_line : (counted k : ℕ) (stop : Stop) → IsRefusedAt counted places long (take k ahead) stop → length lines ≡ counted → length lines < 2 ^ 64 - 1 →
      faults ≡ failed → Passed n before lines long ahead left → IsLineAt k ahead → StopsReading places lines before left failed faults stop
  stops_at_line counted k stop refused is few same p at =
      stops_at counted stop (take k ahead) refused is few same (λ refusal short. refused_line k refusal p at short)

  pub stops_at_rest : (counted k : ℕ) (stop : Stop) → IsRefusedAt counted places long (take k ahead) stop → length lines ≡ counted → length lines < 2 ^ 64 - 1 →
      faults ≡ failed → Passed n before lines long ahead left → length ahead ≡ k → HasNoFeed ahead → IfSome before (λ _. left ≡ Some []) →
      (k ≡ 0 → long ≡ true) → StopsReading places lines before left failed faults stop
  stops_at_rest counted k stop refused is few same p shown feedless end some =
      stops_at counted stop (take k ahead) refused is few same (λ refusal short. refused_rest k refusal p shown feedless end some short)

-- ---- what a result says

pub err_is : {T : Type 0} (P : Stop → Type 0) (r : Result T Stop) (stop : Stop) → IsErrAnd r (λ e. e ≡ stop) → P stop → IfErr r P
err_is P (Ok done) stop is here = tt
err_is P (Err e) stop is here = subst P (sym is) here

pub of_line : (counted : ℕ) (places : List (Option ℕ)) (long : Bool) (line : List ℕ) (stop : Stop) → IsRefusedAt counted places long line stop → IsOfLog stop
of_line counted places long line (AtLine number refusal) at = tt
of_line counted places long line ReadFault at = tt
of_line counted places long line WriteFault at = absurd at
of_line counted places long line NoMemory at = absurd at
of_line counted places long line TooLong at = absurd at
of_line counted places long line Usage at = absurd at
