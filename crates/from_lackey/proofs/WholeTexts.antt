-- The text of a whole trace, before and behind the lines of its calls.
use Rattle.std.proofs.Common.{ℕ, zero, suc, ◌≡◌, Bool, List, [], ◌∷◌, ◌++◌, length, Option, Some, None, IfSome, Err, codes, flat_map, replicate, sym, subst, refl, ap, ◌∙◌}
use Rattle.std.specs.Prelude.{slice_index_or}
use Rattle.std.proofs.lemmas.List.{append-nil, length-replicate}
use Rattle.pager_model.specs.declared.call.Line.{Line}
use Rattle.pager_model.specs.SizeSets.{SizeSet}
use Rattle.pager_model.specs.TraceText.{call_line, first_line, line_of_words, text_of}
use Rattle.report_text.specs.Writing.{Outgoing, Sent, SentPart}
use Rattle.report_text.proofs.SentBytes.{puts_failed, sent_part, sent_sent}
use Rattle.lackey_layout.specs.Places.{AreWhole, piece_at}
use Rattle.from_lackey.specs.declared.stop.Stop.{Stop}
use Rattle.from_lackey.specs.declared.stop.Stop.TheVariants.{Usage, Line as AtLine, ReadFault, WriteFault, NoMemory, TooLong}
use Rattle.from_lackey.specs.Converted.{Converted, Stopped, StopsWriting, ports, text_so_far, trace_of}
use Rattle.from_lackey.specs.Log.{BeginsWith, lines_of}
use Rattle.from_lackey.proofs.BecameCalls.{became_none}

-- no piece has a place
none_at : (n i : ℕ) → slice_index_or {A = Option ℕ} (replicate n None) i None ≡ None
none_at zero i = refl
none_at (suc n) zero = refl
none_at (suc n) (suc i) = none_at n i

none_are_whole : (places : List (Option ℕ)) → places ≡ replicate 2048 None → AreWhole places
none_are_whole places is = (
  ap length is ∙ length-replicate {A = Option ℕ} 2048 None,
  λ i j piece at _. let none : piece_at places i ≡ None = ap (λ (l : List (Option ℕ)). slice_index_or l i None) is ∙ none_at 2048 i in cc (at, none),
)

-- the line that ends a text
abbrev end : List ℕ
end = line_of_words (codes "end" ∷ [])

module _ (frames : ℕ) (z : SizeSet) where
  abbrev whole : List Line → List ℕ
  whole calls = text_of (trace_of frames z calls)

  -- the whole text is that so far, and the last line
  whole_is : (calls : List Line) → text_so_far frames z calls ++ end ≡ whole calls
  whole_is calls = ap (λ (l : List ℕ). (l ++ flat_map call_line calls) ++ end) (sym (append-nil (first_line (trace_of frames z calls))))

  -- a part of a text so far is one of the whole
  part_of_whole : {a b : Outgoing} (calls : List Line) → SentPart a b (text_so_far frames z calls) → SentPart a b (whole calls)
  part_of_whole {a = a} {b = b} calls part =
      subst (λ (l : List ℕ). SentPart a b l) (whole_is calls) (puts_failed {E = Unit {0}} (Err tt) (text_so_far frames z calls) (end ∷ []) refl part)

  -- where the first line was sent before
  pub stopped_behind : (instructions : Bool) (left left' : Option (List ℕ)) (failed faults : ℕ) (from mid to : Outgoing) (stop : Stop) →
      Sent from mid (first_line (trace_of frames z [])) →
      Stopped (flat_map call_line) (flat_map call_line) instructions (ports left failed mid) (ports left' faults to) stop →
      Stopped (text_so_far frames z) (λ calls. text_of (trace_of frames z calls)) instructions (ports left failed from) (ports left' faults to) stop
  stopped_behind instructions left left' failed faults from mid to stop sent s = record {
    places = s.places;
    are_whole = s.are_whole;
    lines = s.lines;
    calls = s.calls;
    became = s.became;
    reading = s.reading;
    writing = behind stop s.writing;
  }
    where
      head : Sent from mid (first_line (trace_of frames z s.calls))
      head = sent

      behind : (t : Stop) → StopsWriting (flat_map call_line s.calls) (flat_map call_line s.calls) (ports left failed mid) (ports left' faults to) t →
          StopsWriting (text_so_far frames z s.calls) (whole s.calls) (ports left failed from) (ports left' faults to) t
      behind WriteFault w = part_of_whole s.calls (sent_part (first_line (trace_of frames z s.calls)) (flat_map call_line s.calls) head w)
      behind ReadFault w = sent_sent (first_line (trace_of frames z s.calls)) (flat_map call_line s.calls) head w
      behind (AtLine number refusal) w = sent_sent (first_line (trace_of frames z s.calls)) (flat_map call_line s.calls) head w
      behind NoMemory w = sent_sent (first_line (trace_of frames z s.calls)) (flat_map call_line s.calls) head w
      behind TooLong w = sent_sent (first_line (trace_of frames z s.calls)) (flat_map call_line s.calls) head w
      behind Usage w = sent_sent (first_line (trace_of frames z s.calls)) (flat_map call_line s.calls) head w

  any_begins : (left : Option (List ℕ)) → IfSome left (BeginsWith [])
  any_begins None = tt
  any_begins (Some bytes) = (lines_of bytes, refl)

  -- where the first line wasn't sent
  pub stopped_first : (instructions : Bool) (left : Option (List ℕ)) (failed : ℕ) (from to : Outgoing) → SentPart from to (first_line (trace_of frames z [])) →
      Stopped (text_so_far frames z) (λ calls. text_of (trace_of frames z calls)) instructions (ports left failed from) (ports left failed to) WriteFault
  stopped_first instructions left failed from to part = record {
    places = replicate 2048 None;
    are_whole = none_are_whole _ refl;
    lines = [];
    calls = [];
    became = became_none instructions _;
    reading = (refl, any_begins left);
    writing = part_of_whole [] (subst (λ (l : List ℕ). SentPart from to l) (sym (append-nil (first_line (trace_of frames z [])))) part);
  }

  -- where there was no memory behind it
  pub stopped_early : (instructions : Bool) (left : Option (List ℕ)) (failed : ℕ) (from to : Outgoing) → Sent from to (first_line (trace_of frames z [])) →
      Stopped (text_so_far frames z) (λ calls. text_of (trace_of frames z calls)) instructions (ports left failed from) (ports left failed to) NoMemory
  stopped_early instructions left failed from to sent = record {
    places = replicate 2048 None;
    are_whole = none_are_whole _ refl;
    lines = [];
    calls = [];
    became = became_none instructions _;
    reading = (refl, any_begins left);
    writing = subst (λ (l : List ℕ). Sent from to l) (sym (append-nil (first_line (trace_of frames z [])))) sent;
  }

  module _ (instructions : Bool) (left left' : Option (List ℕ)) (failed faults count : ℕ) (from mid to last : Outgoing) (sent : Sent from mid (first_line (trace_of frames z [])))
      (c : Converted (flat_map call_line) instructions (ports left failed mid) (ports left' faults to) count) where
    so_far_sent : Sent from to (text_so_far frames z c.calls)
    so_far_sent = sent_sent (first_line (trace_of frames z c.calls)) (flat_map call_line c.calls) sent c.sent

    -- the whole text was sent
    pub converted_whole : Sent to last end →
        Converted (λ calls. text_of (trace_of frames z calls)) instructions (ports left failed from) (ports left' faults last) count
    converted_whole ended = record {
      places = c.places;
      are_whole = c.are_whole;
      lines = c.lines;
      calls = c.calls;
      became = c.became;
      all = c.all;
      read = c.read;
      sent = subst (λ (l : List ℕ). Sent from last l) (whole_is c.calls)
          (sent_sent (text_so_far frames z c.calls) end so_far_sent ended);
      counted = c.counted;
    }

    all_begin : (o : Option (List ℕ)) → IfSome o (λ bytes. (lines_of bytes ≡ c.lines) × (left' ≡ Some [])) → IfSome o (BeginsWith c.lines)
    all_begin None all = tt
    all_begin (Some bytes) all = ([], all.0 ∙ sym (append-nil c.lines))

    -- or the last line wasn't
    pub stopped_last : SentPart to last end →
        Stopped (text_so_far frames z) (λ calls. text_of (trace_of frames z calls)) instructions (ports left failed from) (ports left' faults last) WriteFault
    stopped_last part = record {
      places = c.places;
      are_whole = c.are_whole;
      lines = c.lines;
      calls = c.calls;
      became = c.became;
      reading = (c.read, all_begin left c.all);
      writing = subst (λ (l : List ℕ). SentPart from last l) (whole_is c.calls)
          (sent_part (text_so_far frames z c.calls) end so_far_sent part);
    }
