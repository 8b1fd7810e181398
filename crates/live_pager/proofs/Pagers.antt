-- A call more of a pager to which calls come one at a time.
use Rattle.std.proofs.Common.{◌≡◌, ℕ, ◌+◌, ◌-◌, ◌<◌, ◌≤◌, List, [], ◌∷◌, ◌++◌, length, Some, None, refl, ap, sym, subst, ◌∙◌, append_assoc, arith}
use Rattle.std.proofs.lemmas.List.Sums.{fold-append}
use Rattle.std.proofs.lemmas.Option.{none-some, same_Some}
use Rattle.pager_model.specs.declared.call.Line.{Line}
use Rattle.pager_model.specs.declared.entry.Entry.{Entry}
use Rattle.pager_model.specs.declared.reply.Answered.{Answered}
use Rattle.pager_model.specs.declared.summary.Summary.{Summary}
use Rattle.pager_model.specs.Bounds.{most_spaces}
use Rattle.pager_model.specs.Counts.{counts}
use Rattle.pager_model.specs.FrameStates.{FrameState}
use Rattle.pager_model.specs.Legal.{IsLegal, frames_at}
use Rattle.pager_model.specs.Scripts.{Script}
use Rattle.pager_model.specs.Settings.{Given}
use Rattle.pager_model.specs.Stored.{Stored}
use Rattle.pager_model.specs.Stores.{setting_over}
use Rattle.pager_model.specs.TraceText.{IsCall, IsLine}
use Rattle.pager_laws.proofs.FaultReplies.{AllAnswered-legal}
use Rattle.pager_laws.proofs.KeptLaws.{KeepsLawsAllAlong-legal}
use Rattle.pager_laws.proofs.KeptWires.{KeepsRightly-legal}
use Rattle.pager_laws.proofs.LegalHistories.{Agrees-legal, IsPartition-legal}
use Rattle.pager_laws.proofs.OldestBroken.{PreemptsOldest-legal}
use Rattle.pager_laws.proofs.OrderedRefusals.{IsNeverShort-legal, RefusesRightly-legal}
use Rattle.pager_core.proofs.ShownReplays.{told-over}
use Rattle.flight_core.specs.Counting.{evictions_in}
use Rattle.stream_core.specs.Streaming.{CanStand, IsAfter, IsMadeAlone, IsNext, Streaming, most_calls_made}
use Rattle.stream_core.specs.Tallies.{last_answered, remembered}
use Rattle.live_pager.specs.declared.told.Told.{Told}
use Rattle.live_pager.specs.Live.{AreMoves, IsAnsweredBy, IsCounted, IsLive, IsTold, KeepsAll, WasLive, frame_told}
use Rattle.live_pager.proofs.Answers.{HasAnswer, has_answer}
use Rattle.live_pager.proofs.Moves.{more_demotions, more_evictions, more_preemptions, more_promotions}

-- what holds of every legal history
pub KeepsAll-legal : (g : Given) (h : List Entry) → IsLegal g h → KeepsAll g h
KeepsAll-legal g h legal =
    record {
      answered = AllAnswered-legal g h legal;
      refusals = RefusesRightly-legal g h legal;
      never_short = IsNeverShort-legal g h legal;
      kept = KeepsRightly-legal g h legal;
      oldest = PreemptsOldest-legal g h legal;
      laws = KeepsLawsAllAlong-legal g h legal;
      partition = IsPartition-legal g h legal;
      agrees = Agrees-legal g h legal;
    }

-- a count that grew, by what it was read as
grew : (a b before after : ℕ) → a ≡ before → b ≡ after → before ≤ after → a ≤ b
grew a b before after is_a is_b more = omega arith

grew_by : (a b before after : ℕ) → a ≡ before → b ≡ after → before ≤ after → after ≡ before + (b - a)
grew_by a b before after is_a is_b more = omega arith

-- A call that was made alone.
module _ (script : Script) (stores : List Stored) (calls : List Line) (h : List Entry) (s : Streaming) (live : IsLive script stores calls h s)
    (line : Line) where
  pub spaces_are : length s.spaces ≡ script.spaces
  spaces_are = live.after.at.rest.count ∙ told-over script stores live.after.at.enough

  pub next : IsLine 3 s.processors (length s.spaces) line → s.calls < most_calls_made → IsNext script calls line
  next is few = record {
    range = subst (λ n. IsLine script.version script.processors n line) spaces_are
        (subst (λ n. IsLine script.version n (length s.spaces) line) live.after.at.daemon_behind
        (subst (λ n. IsLine n s.processors (length s.spaces) line) (sym live.version) is));
    few = subst (λ n. n < most_calls_made) live.after.at.calls_are few;
  }

  module _ (s' : Streaming) (made : IsMadeAlone script stores calls line h s') where
    pub live_then : IsLive script stores (calls ++ line ∷ []) (h ++ made.piece) s'
    live_then = record { after = made.after; version = live.version; alone = live.alone }

    pub spaces_then : length s'.spaces ≡ script.spaces
    spaces_then = made.after.at.rest.count ∙ told-over script stores made.after.at.enough

    abbrev has : HasAnswer made.piece made.sequence.made line.call
    has = has_answer made.piece made.sequence.made line.call made.sequence.answer

    -- what was remembered is the answer
    last_is : s'.tally.last ≡ Some has.answered
    last_is = made.after.at.tallied.last ∙ fold-append remembered None h made.piece ∙ has.last (last_answered h)

    pub some_last : s'.tally.last ≡ None → ⊥
    some_last none = none-some has.answered (sym none ∙ last_is)

    module _ (answered : Answered) (last : s'.tally.last ≡ Some answered) where
      answered_by : IsAnsweredBy (setting_over script stores) h made.piece line.call answered
      answered_by = subst (IsAnsweredBy (setting_over script stores) h made.piece line.call) (same_Some has.answered answered (sym last_is ∙ last))
          (record {
            before = has.before;
            entry = has.entry;
            after = has.after;
            split = has.split;
            number = made.sequence.made;
            says = has.says;
            served = AllAnswered-legal (setting_over script stores) (h ++ made.piece) made.after.at.legal (h ++ has.before) has.after has.entry
                made.sequence.made line.call has.answered
                (ap (λ l. h ++ l) has.split ∙ sym (append_assoc h has.before (has.entry ∷ has.after))) has.says;
          })

      pub IsTold-made : (told : Told) → told.answered ≡ answered → told.frame ≡ frame_told s'.pool line.call answered.reply
          → AreMoves (setting_over script stores) h made.piece told → IsTold script stores calls line h told s'
      IsTold-made told says frame moves =
          record {
            piece = made.piece;
            live = live_then;
            sequence = made.sequence;
            answered = subst (IsAnsweredBy (setting_over script stores) h made.piece line.call) (sym says) answered_by;
            keeps = KeepsAll-legal (setting_over script stores) (h ++ made.piece) made.after.at.legal;
            frame = frame ∙ ap (λ (st : FrameState). frame_told st line.call answered.reply) made.after.at.rest.pool_is
                ∙ ap (λ (a : Answered). frame_told (frames_at (setting_over script stores) (h ++ made.piece)) line.call a.reply) (sym says);
            moves = moves;
          }

    -- the counts before and after it
    module _ (before after : Summary) (was : before ≡ counts (setting_over script stores) h)
        (is : after ≡ counts (setting_over script stores) (h ++ made.piece)) where
      pub promotions_grew : before.promotions ≤ after.promotions
      promotions_grew = grew _ _ _ _ (ap (λ (x : Summary). x.promotions) was) (ap (λ (x : Summary). x.promotions) is)
          (more_promotions (setting_over script stores) h made.piece)

      pub demotions_grew : before.demotions ≤ after.demotions
      demotions_grew = grew _ _ _ _ (ap (λ (x : Summary). x.demotions) was) (ap (λ (x : Summary). x.demotions) is)
          (more_demotions (setting_over script stores) h made.piece)

      pub preemptions_grew : before.preemptions ≤ after.preemptions
      preemptions_grew = grew _ _ _ _ (ap (λ (x : Summary). x.preemptions) was) (ap (λ (x : Summary). x.preemptions) is)
          (more_preemptions (setting_over script stores) h made.piece)

      pub are_moves : (told : Told) → told.promotions ≡ after.promotions - before.promotions → told.demotions ≡ after.demotions - before.demotions
          → told.preemptions ≡ after.preemptions - before.preemptions
          → told.evictions ≡ s'.tally.counted.evictions - s.tally.counted.evictions → AreMoves (setting_over script stores) h made.piece told
      are_moves told promotions demotions preemptions evictions =
          record {
            promotions = grew_by _ _ _ _ (ap (λ (x : Summary). x.promotions) was) (ap (λ (x : Summary). x.promotions) is)
                (more_promotions (setting_over script stores) h made.piece)
                ∙ ap (λ n. (counts (setting_over script stores) h).promotions + n) (sym promotions);
            demotions = grew_by _ _ _ _ (ap (λ (x : Summary). x.demotions) was) (ap (λ (x : Summary). x.demotions) is)
                (more_demotions (setting_over script stores) h made.piece)
                ∙ ap (λ n. (counts (setting_over script stores) h).demotions + n) (sym demotions);
            preemptions = grew_by _ _ _ _ (ap (λ (x : Summary). x.preemptions) was) (ap (λ (x : Summary). x.preemptions) is)
                (more_preemptions (setting_over script stores) h made.piece)
                ∙ ap (λ n. (counts (setting_over script stores) h).preemptions + n) (sym preemptions);
            evictions = grew_by _ _ _ _ live.after.at.tallied.counted.evictions made.after.at.tallied.counted.evictions (more_evictions h made.piece)
                ∙ ap (λ n. evictions_in h + n) (sym evictions);
          }

    pub evictions_grew : s.tally.counted.evictions ≤ s'.tally.counted.evictions
    evictions_grew = grew _ _ _ _ live.after.at.tallied.counted.evictions made.after.at.tallied.counted.evictions (more_evictions h made.piece)

-- that the stream goes on by this call alone, wherever it stands
abbrev pub Goes : Line → Streaming → Streaming → Type 0
Goes line s s' = (script : Script) (stores : List Stored) (calls : List Line) (h : List Entry) → IsAfter script stores calls h s → IsNext script calls line
    → script.daemon ≡ None → IsMadeAlone script stores calls line h s'

-- that these are its counts, wherever it stands
abbrev pub Counts : Streaming → Summary → Type 0
Counts s summary = (script : Script) (stores : List Stored) (calls : List Line) (h : List Entry) → IsLive script stores calls h s
    → summary ≡ counts (setting_over script stores) h

-- A pager's stream that stood somewhere, as a call sees it, and went on by the call.
module _ (s s' value : Streaming) (line : Line) (view_is : s ≡ value) (was : WasLive s)
    (line_in : IsLine 3 value.processors (length value.spaces) line) (few_made : value.calls < most_calls_made) (goes : Goes line s s') where
  is : IsLine 3 s.processors (length s.spaces) line
  is = subst (λ (x : Streaming). IsLine 3 x.processors (length x.spaces) line) (sym view_is) line_in

  few : s.calls < most_calls_made
  few = subst (λ (x : Streaming). x.calls < most_calls_made) (sym view_is) few_made

  abbrev went : IsMadeAlone was.script was.stores was.calls line was.history s'
  went = goes was.script was.stores was.calls was.history was.live.after
      (next was.script was.stores was.calls was.history s was.live line is few) was.live.alone

  pub stands : CanStand s'
  stands = record {
    script = was.script;
    stores = was.stores;
    calls = was.calls ++ line ∷ [];
    history = was.history ++ went.piece;
    after = went.after;
  }

  pub was_then : WasLive s'
  was_then = record {
    script = was.script;
    stores = was.stores;
    calls = was.calls ++ line ∷ [];
    history = was.history ++ went.piece;
    live = live_then was.script was.stores was.calls was.history s was.live line s' went;
  }

  pub answers : s'.tally.last ≡ None → ⊥
  answers = some_last was.script was.stores was.calls was.history s was.live line s' went

  pub call_in : IsCall (length s'.spaces) line.call × (length s'.spaces ≤ most_spaces)
  call_in =
      let there = spaces_then was.script was.stores was.calls was.history s was.live line s' went in
      let same : length s.spaces ≡ length s'.spaces = spaces_are was.script was.stores was.calls was.history s was.live line ∙ sym there in (
        subst (λ n. IsCall n line.call) same is.1,
        subst (λ n. n ≤ most_spaces) (sym there) went.after.at.opening.has.spaces_in.1,
      )

  pub evicted : s.tally.counted.evictions ≤ s'.tally.counted.evictions
  evicted = evictions_grew was.script was.stores was.calls was.history s was.live line s' went

  -- and its counts before and after
  module _ (before after : Summary) (were : Counts s before) (are : (script : Script) (stores : List Stored) (calls : List Line) (h : List Entry)
      → IsAfter script stores calls h s' → after ≡ counts (setting_over script stores) h) where
    first : before ≡ counts (setting_over was.script was.stores) was.history
    first = were was.script was.stores was.calls was.history was.live

    last : after ≡ counts (setting_over was.script was.stores) (was.history ++ went.piece)
    last = are was.script was.stores (was.calls ++ line ∷ []) (was.history ++ went.piece) went.after

    pub promoted : before.promotions ≤ after.promotions
    promoted = promotions_grew was.script was.stores was.calls was.history s was.live line s' went before after first last

    pub demoted : before.demotions ≤ after.demotions
    demoted = demotions_grew was.script was.stores was.calls was.history s was.live line s' went before after first last

    pub preempted : before.preemptions ≤ after.preemptions
    preempted = preemptions_grew was.script was.stores was.calls was.history s was.live line s' went before after first last

    pub counted : IsCounted s' after
    counted = record { was = was_then; counts_are = λ script stores calls h live. are script stores calls h live.after }

    -- what is told of it is so, whatever history it stood for
    pub tells : (told : Told) → s'.tally.last ≡ Some told.answered → told.frame ≡ frame_told s'.pool line.call told.answered.reply
        → told.promotions ≡ after.promotions - before.promotions → told.demotions ≡ after.demotions - before.demotions
        → told.preemptions ≡ after.preemptions - before.preemptions
        → told.evictions ≡ s'.tally.counted.evictions - s.tally.counted.evictions
        → (script : Script) (stores : List Stored) (calls : List Line) (h : List Entry) → IsLive script stores calls h value
        → IsTold script stores calls line h told s'
    tells told last_is frame promotions demotions preemptions evictions = λ script stores calls h standing.
        let live = subst (IsLive script stores calls h) (sym view_is) standing in
        let made = goes script stores calls h live.after (next script stores calls h s live line is few) live.alone in
        IsTold-made script stores calls h s live line s' made told.answered last_is told refl frame
        (are_moves script stores calls h s live line s' made before after (were script stores calls h live)
        (are script stores (calls ++ line ∷ []) (h ++ made.piece) made.after) told promotions demotions preemptions evictions)
