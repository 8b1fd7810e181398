-- The counts that were told, and a call more.
use Rattle.std.proofs.Common.{◌≡◌, ℕ, ◌+◌, ◌*◌, ◌<◌, ◌≤◌, true, false, List, [], ◌∷◌, ◌++◌, length, Option, Some, None, IfSome, inl, inr, ap, sym, subst, ◌∙◌, append_assoc, arith}
use Rattle.std.proofs.Math.Nat.{mul-le-mul_right, le_refl}
use Rattle.std.proofs.lemmas.Grind.{flat_map-append}
use Rattle.std.proofs.lemmas.List.{append-nil, length_push, take-append-le, take_all}
use Rattle.std.proofs.lemmas.Option.{slice_get_within}
use Rattle.pager_model.specs.declared.call.Line.{Line}
use Rattle.pager_model.specs.declared.entry.Entry.{Entry}
use Rattle.pager_model.specs.Counts.{counts}
use Rattle.pager_model.specs.Scripts.{Script}
use Rattle.pager_model.specs.Settings.{Given}
use Rattle.pager_model.specs.Showing.{IsFiled}
use Rattle.pager_model.specs.Stored.{Stored}
use Rattle.pager_core.proofs.Lists.{slice_get-push}
use Rattle.report_text.specs.declared.so_far_line.SoFar.{SoFar}
use Rattle.report_text.specs.SoFarText.{so_far_text}
use Rattle.report_text.specs.Written.{WroteAll, WrotePart}
use Rattle.flight_core.specs.Counting.{evictions_in, unserved_in}
use Rattle.stream_core.specs.Streaming.{IsAfter, Streaming, front_of}
use Rattle.stream_core.proofs.Fronts.{FilesBy-part, part_is_front}
use Rattle.stream_run.specs.Steps.{ComesNext, CountsCall, EachTold}
use Rattle.stream_run.specs.Streams.{AreToldBy, IsSoFar, WrotePartBehind, told_text}

-- Counts of a front.

-- the history of a stream is filed by the front that its calls end
pub IsFiled-front : (script : Script) (stores : List Stored) (calls : List Line) (h : List Entry) (s : Streaming) → IsAfter script stores calls h s
    → IsFiled (front_of script calls) h
IsFiled-front script stores calls h s after =
    subst (λ p. IsFiled p h) (part_is_front script calls s.turns after.turns)
    (FilesBy-part script calls script.daemon s.turns h after.at.few_turns after.at.filed)

-- those of all of the history
pub IsSoFar-all : (g : Given) (script : Script) (calls : List Line) (h : List Entry) (s : SoFar) → IsFiled (front_of script calls) h
    → s.calls ≡ length calls → s.summary ≡ counts g h → s.evictions ≡ evictions_in h → s.unserved ≡ unserved_in h
    → IsSoFar g script calls h (length calls) s
IsSoFar-all g script calls h s filed calls_are summary evictions unserved = record {
  front = h;
  rest = [];
  split = sym (append-nil h);
  filed = subst (λ l. IsFiled (front_of script l) h) (sym (take_all (length calls) calls (le_refl (length calls)))) filed;
  calls_are = calls_are;
  summary_is = summary;
  evictions_are = evictions;
  unserved_are = unserved;
}

-- a longer history, of the same calls or of one more, has the same fronts
pub IsSoFar-longer : (g : Given) (script : Script) (calls : List Line) (h piece : List Entry) (k : ℕ) (s : SoFar) → IsSoFar g script calls h k s
    → IsSoFar g script calls (h ++ piece) k s
IsSoFar-longer g script calls h piece k s is = record {
  front = is.front;
  rest = is.rest ++ piece;
  split = ap (λ l. l ++ piece) is.split ∙ append_assoc is.front is.rest piece;
  filed = is.filed;
  calls_are = is.calls_are;
  summary_is = is.summary_is;
  evictions_are = is.evictions_are;
  unserved_are = is.unserved_are;
}

pub IsSoFar-more : (g : Given) (script : Script) (calls : List Line) (line : Line) (h : List Entry) (k : ℕ) (s : SoFar) → k ≤ length calls
    → IsSoFar g script calls h k s → IsSoFar g script (calls ++ line ∷ []) h k s
IsSoFar-more g script calls line h k s few is = record {
  front = is.front;
  rest = is.rest;
  split = is.split;
  filed = subst (λ l. IsFiled (front_of script l) is.front) (sym (take-append-le k calls (line ∷ []) few)) is.filed;
  calls_are = is.calls_are;
  summary_is = is.summary_is;
  evictions_are = is.evictions_are;
  unserved_are = is.unserved_are;
}

-- Each time that counts were told.

-- it was within the calls
within : (every calls told left i : ℕ) → calls + left ≡ (told + 1) * every → left ≤ every → i < told → (i + 1) * every ≤ calls
within every calls told left i is few below =
    let most = mul-le-mul_right {m = i + 1} {n = told} every (omega arith) in
    omega (arith, most, is, few)

pub EachTold-more : (g : Given) (script : Script) (calls : List Line) (line : Line) (h piece : List Entry) (every : Option ℕ) (told : List SoFar)
    (left : ℕ) → ComesNext every (length calls) (length told) left → EachTold g script calls h every told
    → EachTold g script (calls ++ line ∷ []) (h ++ piece) every told
EachTold-more g script calls line h piece None told left next each = each
EachTold-more g script calls line h piece (Some every) told left next each = λ i s at.
    IsSoFar-more g script calls line (h ++ piece) ((i + 1) * every) s
    (within every (length calls) (length told) left i next.0 next.2 (slice_get_within told i s at))
    (IsSoFar-longer g script calls h piece ((i + 1) * every) s (each i s at))

-- one time more
each_push : (g : Given) (script : Script) (calls : List Line) (h : List Entry) (every : ℕ) (told : List SoFar) (last : SoFar)
    → EachTold g script calls h (Some every) told → IsSoFar g script calls h ((length told + 1) * every) last
    → EachTold g script calls h (Some every) (told ++ last ∷ [])
each_push g script calls h every told last each is = λ i s at.
    elim (slice_get-push told last i s at) [
      | inl before ↦ each i s before
      | inr here ↦
          rw here.0 (subst (IsSoFar g script calls h ((length told + 1) * every)) here.1 is)
    ]

-- Calls that are to come before the next time.

pub next_of : (every : Option ℕ) (left : ℕ) → IfSome every (λ n. 1 ≤ n) → IfSome every (λ n. left ≡ n) → ComesNext every 0 0 left
next_of None left some is = tt
next_of (Some every) left some is = (omega (arith, is), omega (arith, some, is), omega (arith, is))

pub next_some : (every : Option ℕ) (calls told left : ℕ) → ComesNext every calls told left → IfSome every (λ n. 1 ≤ left)
next_some None calls told left next = tt
next_some (Some every) calls told left next = next.1

pub next_not_due : (every : Option ℕ) (calls calls' told left left' : ℕ) → calls' ≡ calls + 1 → CountsCall every left left' false
    → ComesNext every calls told left → ComesNext every calls' told left'
next_not_due None calls calls' told left left' more counts next = tt
next_not_due (Some every) calls calls' told left left' more counts next =
    (omega (arith, more, counts, next), counts.1, omega (arith, counts, next))

-- Where it is time.

module _ (g : Given) (script : Script) (calls : List Line) (h : List Entry) (told : List SoFar) (last : SoFar) where
  module _ (every before left left' : ℕ) (more : length calls ≡ before + 1) (counts : CountsCall (Some every) left left' true)
      (next : ComesNext (Some every) before (length told) left) where
    times : length calls ≡ (length told + 1) * every
    times = omega (arith, more, counts, next)

    due_each : EachTold g script calls h (Some every) told → IsSoFar g script calls h (length calls) last
        → EachTold g script calls h (Some every) (told ++ last ∷ [])
    due_each each is = each_push g script calls h every told last each (subst (λ k. IsSoFar g script calls h k last) times is)

    due_next : ComesNext (Some every) (length calls) (length (told ++ last ∷ [])) left'
    due_next =
        let longer = length_push told last in
        let at = times in (
          rw longer (omega (arith, at, counts)),
          omega (arith, counts, next),
          omega (arith, counts),
        )

  pub told_due : (every : Option ℕ) (before left left' : ℕ) → length calls ≡ before + 1 → CountsCall every left left' true
      → ComesNext every before (length told) left → EachTold g script calls h every told → IsSoFar g script calls h (length calls) last
      → EachTold g script calls h every (told ++ last ∷ []) × ComesNext every (length calls) (length (told ++ last ∷ [])) left'
  told_due None before left left' more counts next each is = absurd (let e : true ≡ false = counts in cc)
  told_due (Some every) before left left' more counts next each is =
      (due_each every before left left' more counts next each is, due_next every before left left' more counts next)

-- Where calls end.

pub AreToldBy-of : (g : Given) (script : Script) (calls : List Line) (h : List Entry) (every : Option ℕ) (told : List SoFar) (left : ℕ)
    → ComesNext every (length calls) (length told) left → EachTold g script calls h every told → AreToldBy g script calls h every told
AreToldBy-of g script calls h None told left next each = each
AreToldBy-of g script calls h (Some every) told left next each = record {
  fewer = omega (arith, next);
  no_more = omega (arith, next);
  each = each;
}

pub AreToldBy-longer : (g : Given) (script : Script) (calls : List Line) (h piece : List Entry) (every : Option ℕ) (told : List SoFar)
    → AreToldBy g script calls h every told → AreToldBy g script calls (h ++ piece) every told
AreToldBy-longer g script calls h piece None told are = are
AreToldBy-longer g script calls h piece (Some every) told are = record {
  fewer = are.fewer;
  no_more = are.no_more;
  each = λ i s at. IsSoFar-longer g script calls h piece ((i + 1) * every) s (are.each i s at);
}

-- What was written.

pub wrote_none : (had : Option (List ℕ)) → WroteAll (told_text []) had had
wrote_none None = tt
wrote_none (Some bytes) = ap (λ l. Some l) (sym (append-nil bytes))

pub wrote_more : (first then : List ℕ) (had mid now : Option (List ℕ)) → WroteAll first had mid → WroteAll then mid now
    → WroteAll (first ++ then) had now
wrote_more first then None mid now wrote writes = tt
wrote_more first then (Some bytes) mid now wrote writes =
    subst (λ (o : Option (List ℕ)). WroteAll then o now) wrote writes ∙ ap (λ l. Some l) (append_assoc bytes first then)

told_more : (told : List SoFar) (last : SoFar) → told_text (told ++ last ∷ []) ≡ told_text told ++ so_far_text last
told_more told last =
    flat_map-append so_far_text told (last ∷ []) ∙ ap (λ l. told_text told ++ l) (append-nil (so_far_text last))

pub wrote_told : (told : List SoFar) (last : SoFar) (had mid now : Option (List ℕ)) → WroteAll (told_text told) had mid
    → WroteAll (so_far_text last) mid now → WroteAll (told_text (told ++ last ∷ [])) had now
wrote_told told last had mid now wrote writes =
    subst (λ text. WroteAll text had now) (sym (told_more told last))
    (wrote_more (told_text told) (so_far_text last) had mid now wrote writes)

pub wrote_part : (text last : List ℕ) (had mid now : Option (List ℕ)) → WroteAll text had mid → WrotePart last mid now
    → WrotePartBehind text last had now
wrote_part text last None mid now wrote writes = tt
wrote_part text last (Some bytes) mid now wrote writes =
    subst (λ (o : Option (List ℕ)). WrotePart last o now) wrote writes
