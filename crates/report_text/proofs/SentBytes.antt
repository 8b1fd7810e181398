-- Bytes that go out one after another.
use Rattle.std.proofs.Common.{◌≡◌, ℕ, ◌+◌, ◌<◌, List, [], ◌∷◌, ◌++◌, length, take, drop, get_or, flat_map, Option, Some, None, IfSome, refl, Result, Ok, Err, IsErr, ap, sym, subst, ◌∙◌, append_assoc, arith}
use Rattle.std.specs.List.{range_with_len}
use Rattle.std.proofs.Math.Seq.{take-append-add}
use Rattle.std.proofs.lemmas.List.{append-nil, flat_map_more, length-append, take-append-le, take-append-drop, take_more}
use Rattle.std.proofs.lemmas.List.FromFn.{get_or-range_with_len, length-range_with_len}
use Rattle.std.proofs.lemmas.Bool.{false≢true}
use Rattle.std.proofs.lemmas.Option.{IfSome_then}
use Rattle.std.proofs.lemmas.Grind.{flat_map-append}
use Rattle.io_core.specs.Faults.{one_more}
use Rattle.report_text.specs.Writing.{Outgoing, outgoing, Sent, SentPart, Puts}

-- of what waited and these bytes a beginning went out, behind what the sink had, and the rest waits
abbrev Gone : Outgoing → Outgoing → List ℕ → List ℕ → Type 0
Gone old new bytes had = (gone : List ℕ) × (new.taken ≡ Some (had ++ gone)) × (gone ++ new.waiting ≡ old.waiting ++ bytes)

abbrev GonePart : Option (List ℕ) → List ℕ → List ℕ → Type 0
GonePart taken bytes had = (k : ℕ) × (k < length bytes) × (taken ≡ Some (had ++ take k bytes))

-- Where the sink tells what it has taken.
module _ (a b c : Outgoing) (x y had : List ℕ) (first : Gone a b x had) where
  whole : first.0 ++ (b.waiting ++ y) ≡ a.waiting ++ (x ++ y)
  whole = sym (append_assoc first.0 b.waiting y) ∙ ap (λ l. l ++ y) first.2 ∙ append_assoc a.waiting x y

  gone_gone : IfSome b.taken (Gone b c y) → Gone a c (x ++ y) had
  gone_gone more =
      let then : Gone b c y (had ++ first.0) = subst (λ o. IfSome o (Gone b c y)) first.1 more in (
        first.0 ++ then.0,
        then.1 ∙ ap Some (append_assoc had first.0 then.0),
        append_assoc first.0 then.0 c.waiting
            ∙ ap (λ l. first.0 ++ l) then.2 ∙ whole,
      )

  gone_part : IfSome b.taken (GonePart c.taken (b.waiting ++ y)) → GonePart c.taken (a.waiting ++ (x ++ y)) had
  gone_part more =
      let then : GonePart c.taken (b.waiting ++ y) (had ++ first.0) = subst (λ o. IfSome o (GonePart c.taken (b.waiting ++ y))) first.1 more in
      let long : length first.0 + length (b.waiting ++ y) ≡ length (a.waiting ++ (x ++ y)) =
      sym (length-append first.0 (b.waiting ++ y)) ∙ ap length whole in (
        length first.0 + then.0,
        omega (arith, long, then.1),
        then.2 ∙ ap Some (append_assoc had first.0 (take then.0 (b.waiting ++ y))
            ∙ ap (λ l. had ++ l) (sym (take-append-add first.0 (b.waiting ++ y) then.0) ∙ ap (take (length first.0 + then.0)) whole)),
      )

part_more : (taken : Option (List ℕ)) (bytes rest had : List ℕ) → GonePart taken bytes had → GonePart taken (bytes ++ rest) had
part_more taken bytes rest had part = (
  part.0,
  omega (arith, part.1, length-append bytes rest),
  part.2 ∙ ap (λ l. Some (had ++ l))
      (sym (take-append-le part.0 bytes rest (omega (arith, part.1)))),
)

-- how many bytes there are behind what waits
longer : (a b : Outgoing) (x y : List ℕ)
    → (length (a.waiting ++ (x ++ y)) ≡ length (a.waiting ++ x) + length y) × (length (b.waiting ++ y) ≡ length b.waiting + length y)
longer a b x y = (ap length (sym (append_assoc a.waiting x y)) ∙ length-append (a.waiting ++ x) y, length-append b.waiting y)

-- bytes, and then more
pub sent_sent : {a b c : Outgoing} (x y : List ℕ) → Sent a b x → Sent b c y → Sent a c (x ++ y)
sent_sent {a = a} {b = b} {c = c} x y first more = record {
  told = IfSome_then a.taken first.told (λ had gone. gone_gone a b c x y had gone more.told);
  few_writes = omega (arith, first.few_writes, more.few_writes, longer a b x y);
  unfailed = more.unfailed ∙ first.unfailed;
}

pub sent_part : {a b c : Outgoing} (x y : List ℕ) → Sent a b x → SentPart b c y → SentPart a c (x ++ y)
sent_part {a = a} {b = b} {c = c} x y first more = record {
  told = IfSome_then a.taken first.told (λ had gone. gone_part a b c x y had gone more.told);
  few_writes = omega (arith, first.few_writes, more.few_writes, longer a b x y);
  rose = more.rose ∙ ap one_more first.unfailed;
}

-- bytes, and then what the result says
pub puts_then : {E : Type 0} (r : Result (Unit {0}) E) (a b c : Outgoing) (x y : List ℕ) → Sent a b x → Puts r b c y → Puts r a c (x ++ y)
puts_then (Ok done) a b c x y first more = sent_sent x y first more
puts_then (Err e) a b c x y first more = sent_part x y first more

-- a text and others after it
abbrev pub and_then : List ℕ → List (List ℕ) → List ℕ
and_then x [] = x
and_then x (y ∷ ys) = and_then (x ++ y) ys

-- a part of a text is a part of one that goes on from it
pub puts_failed : {E : Type 0} (r : Result (Unit {0}) E) {a b : Outgoing} (x : List ℕ) (rest : List (List ℕ)) → IsErr r → SentPart a b x
    → Puts r a b (and_then x rest)
puts_failed (Ok done) x rest is part = absurd (false≢true is)
puts_failed (Err e) {a = a} {b = b} x rest is part = further x rest part
  where
    further : (x : List ℕ) (rest : List (List ℕ)) → SentPart a b x → SentPart a b (and_then x rest)
    further x [] part = part
    further x (y ∷ rest) part = further (x ++ y) rest (record {
      told = IfSome_then a.taken part.told
          (λ had gone. subst (λ l. GonePart b.taken l had) (append_assoc a.waiting x y) (part_more b.taken (a.waiting ++ x) y had gone));
      few_writes = omega (arith, part.few_writes, ap length (append_assoc a.waiting x y), length-append (a.waiting ++ x) y);
      rose = part.rose;
    })

-- nothing went out, and these bytes wait behind those that waited
puts_behind : (taken : Option (List ℕ)) (had now bytes : List ℕ) → now ≡ had ++ bytes
    → IfSome taken (λ gone_before. (gone : List ℕ) × (taken ≡ Some (gone_before ++ gone)) × (gone ++ now ≡ had ++ bytes))
puts_behind None had now bytes is = tt
puts_behind (Some before) had now bytes is = ([], ap Some (sym (append-nil before)), is)

-- room was made, and then these bytes put
pub room_put : (a : Outgoing) (taken : Option (List ℕ)) (writes faults : ℕ) (had now bytes : List ℕ)
    → Sent a (outgoing taken writes faults had) [] → now ≡ had ++ bytes → Sent a (outgoing taken writes faults now) bytes
room_put a taken writes faults had now bytes made is =
    sent_sent {a = a} {b = outgoing taken writes faults had} {c = outgoing taken writes faults now} [] bytes made (record {
      told = puts_behind taken had now bytes is;
      few_writes = omega (arith, ap length is);
      unfailed = refl;
    })

-- or no room could be made for them
pub room_failed : {E : Type 0} (r : Result (Unit {0}) E) (a b : Outgoing) (bytes : List ℕ) → IsErr r → SentPart a b [] → Puts r a b bytes
room_failed r a b bytes fails part = puts_failed r [] (bytes ∷ []) fails part

pub ruleset into_room = (room_put, room_failed)

-- texts that are joined from the last on
pub joined : (x : List ℕ) (rest : List (List ℕ)) → x ++ flat_map (λ (text : List ℕ). text) rest ≡ and_then x rest
joined x [] = append-nil x
joined x (y ∷ rest) = sym (append_assoc x y (flat_map (λ (text : List ℕ). text) rest)) ∙ joined (x ++ y) rest

-- Texts of a list's elements, one after another, behind a text before them. This is that of the element at hand.
pub record IsTextAt {X : Type 0} (f : X → List ℕ) (xs : List X) (i : ℕ) (text : List ℕ) : Type 0 where
  pub default : X
  pub within : i < length xs
  pub is : text ≡ f (get_or xs i default)

module _ {X : Type 0} (f : X → List ℕ) (xs : List X) (i : ℕ) (text before : List ℕ) (here : IsTextAt f xs i text) where
  so_far : (before ++ flat_map f (take i xs)) ++ text ≡ before ++ flat_map f (take (i + 1) xs)
  so_far =
      ap (λ l. (before ++ flat_map f (take i xs)) ++ l) here.is ∙ flat_map_more f before (take i xs) (get_or xs i here.default)
      ∙ ap (λ l. before ++ flat_map f l) (sym (take_more xs i here.default here.within))

  all : (before ++ flat_map f (take (i + 1) xs)) ++ flat_map f (drop (i + 1) xs) ≡ before ++ flat_map f xs
  all =
      append_assoc before (flat_map f (take (i + 1) xs)) (flat_map f (drop (i + 1) xs))
      ∙ ap (λ l. before ++ l) (sym (flat_map-append f (take (i + 1) xs) (drop (i + 1) xs)) ∙ ap (flat_map f) (take-append-drop (i + 1) xs))

  -- one more
  pub sent_next : {a b c : Outgoing} → Sent a b (before ++ flat_map f (take i xs)) → Sent b c text
      → Sent a c (before ++ flat_map f (take (i + 1) xs))
  sent_next {a = a} {c = c} first more = subst (λ l. Sent a c l) so_far (sent_sent _ text first more)

  -- or it went out in part, and other texts come after all
  pub next_failed : {E : Type 0} (r : Result (Unit {0}) E) {a b c : Outgoing} (rest : List (List ℕ)) → IsErr r
      → Sent a b (before ++ flat_map f (take i xs)) → SentPart b c text → Puts r a c (and_then (before ++ flat_map f xs) rest)
  next_failed r {a = a} {c = c} rest fails first part =
      subst (λ l. Puts r a c (and_then l rest)) (ap (λ l. l ++ flat_map f (drop (i + 1) xs)) so_far ∙ all)
      (puts_failed r _ (flat_map f (drop (i + 1) xs) ∷ rest) fails (sent_part _ text first part))

-- the text of the number at a place of a range from 0 on
pub text_at : (f : ℕ → List ℕ) (n i : ℕ) (text : List ℕ) → i < n → text ≡ f i → IsTextAt f (range_with_len 0 n) i text
text_at f n i text below is = record {
  default = 0;
  within = omega (arith, below, length-range_with_len 0 n);
  is = is ∙ ap f (let number : i ≡ get_or (range_with_len 0 n) i 0 = omega (arith, get_or-range_with_len 0 n i 0 below) in number);
}
