-- A call with the turn before it, and the two ends of a stream.
use Rattle.std.proofs.Common.{◌≡◌, ◌≢◌, ℕ, ◌+◌, ◌≤◌, min, Bool, List, [], ◌∷◌, ◌++◌, length, drop, Option, Some, None, refl, ap, sym, subst, ◌∙◌, inl, inr, arith}
use Rattle.std.proofs.Math.Nat.{min-eq_left, min-eq_right, min-le_right}
use Rattle.std.proofs.lemmas.Bool.{cases_lt}
use Rattle.std.proofs.lemmas.List.{append-nil, append_assoc, length_push}
use Rattle.std.specs.Option.{IfSome}
use Rattle.miss_curves.specs.declared.stacks.Curves.{Curves}
use Rattle.miss_curves.specs.Curves.{AnswersAlone, AreCurves, stream_capacities}
use Rattle.miss_curves.proofs.FollowedEntries.{AnswersAlone-legal}
use Rattle.pager_model.specs.declared.call.Line.{Line}
use Rattle.pager_model.specs.declared.entry.Entry.{Entry}
use Rattle.pager_model.specs.declared.entry.Numbered.{Numbered}
use Rattle.pager_model.specs.declared.reply.Reply.TheVariants.{NoMemory}
use Rattle.pager_model.specs.declared.summary.Summary.{Summary}
use Rattle.pager_model.specs.Counts.{counts}
use Rattle.pager_model.specs.FrameStates.{FrameState}
use Rattle.pager_model.specs.Legal.{IsLegal, entries_in}
use Rattle.pager_model.specs.Scripts.{Script}
use Rattle.pager_model.specs.Settings.{Given}
use Rattle.pager_model.specs.Showing.{IsFiled}
use Rattle.pager_model.specs.Stored.{Stored}
use Rattle.pager_model.specs.Stores.{StoresEnd, setting_over}
use Rattle.pager_core.specs.RunParts.{AreAtRest}
use Rattle.flight_core.specs.Steps.{reply_said}
use Rattle.pager_core.specs.Replays.{IsReplay}
use Rattle.flight_core.proofs.Lists.{all-append}
use Rattle.pager_core.proofs.ShownReplays.{IsReplay-numbered, told-over}
use Rattle.stream_core.specs.Streaming.{IsAfter, IsAt, IsCalled, IsDue, IsMade, IsMadeAlone, IsRunTo, IsRunWhole, Streaming, TookTurns, turns_in, with_calls}
use Rattle.stream_core.proofs.Fronts.{FilesBy-part, part_is_front, part_is_whole, part_of, setting_of_part}

-- Turns before calls.

-- after each call as many turns were made, or none is left
pub due_after : (script : Script) (stores : List Stored) (calls : List Line) (h : List Entry) (s : Streaming) → IsAfter script stores calls h s
    → IsDue script calls s.turns
due_after script stores calls h s after = elim (cases_lt (turns_in script.daemon) (length calls)) [
  | inl fewer ↦ inr (after.turns ∙ min-eq_left (omega (arith, fewer)))
  | inr most ↦ (let all = after.turns ∙ min-eq_right most in inl (omega (arith, all)))
]

-- so one more comes before the next call
turns_then : (all turns calls then : ℕ) → turns ≡ min all calls → then ≡ min all (turns + 1) → then ≡ min all (calls + 1)
turns_then all turns calls then was is = elim (cases_lt all calls) [
  | inl fewer ↦
      let had : turns ≡ all = was ∙ min-eq_left (omega (arith, fewer)) in
      is ∙ min-eq_left (omega (arith, had)) ∙ sym (min-eq_left (omega (arith, fewer)))
  | inr most ↦ is ∙ ap (λ k. min all (k + 1)) (was ∙ min-eq_right most)
]

pub few_before : (script : Script) (stores : List Stored) (calls : List Line) (h : List Entry) (s s' : Streaming) → IsAfter script stores calls h s
    → TookTurns script stores calls h s.turns 1 s' → s'.turns ≤ length calls + 1
few_before script stores calls h s s' after took =
    let all = turns_then (turns_in script.daemon) s.turns (length calls) s'.turns after.turns took.turns in
    let most = min-le_right (turns_in script.daemon) (length calls + 1) in
    omega (arith, all, most)

pub IsMade-then : (lasts : Bool) (script : Script) (stores : List Stored) (calls : List Line) (h : List Entry) (line : Line) (s s' s'' : Streaming)
    → IsAfter script stores calls h s → (took : TookTurns script stores calls h s.turns 1 s')
    → IsCalled lasts script stores calls line (h ++ took.piece) s'.turns s'' → IsMade lasts script stores (calls ++ line ∷ []) h s''
IsMade-then lasts script stores calls h line s s' s'' after took called =
    record {
      piece = took.piece ++ called.piece;
      after = record {
        at = subst (λ l. IsAt script stores (calls ++ line ∷ []) l s'') (append_assoc h took.piece called.piece) called.at;
        turns = called.turns ∙ turns_then (turns_in script.daemon) s.turns (length calls) s'.turns after.turns took.turns
            ∙ ap (min (turns_in script.daemon)) (sym (length_push calls line));
      };
      lasting = λ is. all-append (λ (e : Entry). reply_said e.what ≢ Some NoMemory) took.piece called.piece took.lacks (called.lasting is);
    }

-- without a daemon nothing but the call
pub IsMadeAlone-then : (lasts : Bool) (script : Script) (stores : List Stored) (calls : List Line) (h : List Entry) (line : Line) (s s' s'' : Streaming)
    → IsAfter script stores calls h s → script.daemon ≡ None → (took : TookTurns script stores calls h s.turns 1 s')
    → IsCalled lasts script stores calls line (h ++ took.piece) s'.turns s'' → IsMadeAlone script stores calls line h s''
IsMadeAlone-then lasts script stores calls h line s s' s'' after alone took called =
    record {
      piece = called.piece;
      after = record {
        at = subst (λ l. IsAt script stores (calls ++ line ∷ []) (l ++ called.piece) s'') (ap (λ l. h ++ l) (took.none alone) ∙ append-nil h) called.at;
        turns = called.turns ∙ turns_then (turns_in script.daemon) s.turns (length calls) s'.turns after.turns took.turns
            ∙ ap (min (turns_in script.daemon)) (sym (length_push calls line));
      };
      sequence = called.sequence;
    }

-- one more after some
pub TookTurns-more : (script : Script) (stores : List Stored) (calls : List Line) (h : List Entry) (before more : ℕ) (s s' : Streaming)
    → (took : TookTurns script stores calls h before more s) → TookTurns script stores calls (h ++ took.piece) s.turns 1 s'
    → TookTurns script stores calls h before (more + 1) s'
TookTurns-more script stores calls h before more s s' took one =
    record {
      piece = took.piece ++ one.piece;
      at = subst (λ l. IsAt script stores calls l s') (append_assoc h took.piece one.piece) one.at;
      turns = turns_then (turns_in script.daemon) s.turns (before + more) s'.turns took.turns one.turns
          ∙ ap (min (turns_in script.daemon)) (let e : before + more + 1 ≡ before + (more + 1) = omega arith in e);
      lacks = all-append (λ (e : Entry). reply_said e.what ≢ Some NoMemory) took.piece one.piece took.lacks one.lacks;
      none = λ alone. ap (λ l. l ++ one.piece) (took.none alone) ∙ one.none alone;
    }

-- as many as were left are all
pub TookTurns-whole : (script : Script) (stores : List Stored) (calls : List Line) (h : List Entry) (before more : ℕ) (s : Streaming)
    → turns_in script.daemon ≤ before + more → TookTurns script stores calls h before more s
    → TookTurns script stores calls h before (turns_in script.daemon) s
TookTurns-whole script stores calls h before more s enough took =
    record {
      piece = took.piece;
      at = took.at;
      turns = took.turns ∙ min-eq_left enough ∙ sym (min-eq_left (omega arith));
      lacks = took.lacks;
      none = took.none;
    }

-- the next one still may come
pub due_still : (script : Script) (stores : List Stored) (calls : List Line) (h : List Entry) (before more : ℕ) (s : Streaming)
    → IsDue script calls before → TookTurns script stores calls h before more s → IsDue script calls s.turns
due_still script stores calls h before more s due took = elim (cases_lt (turns_in script.daemon) (before + more)) [
  | inl fewer ↦ inr (took.turns ∙ min-eq_left (omega (arith, fewer)))
  | inr most ↦
      let all : s.turns ≡ before + more = took.turns ∙ min-eq_right most in
      elim due [
        | inl many ↦ inl (omega (arith, all, many))
        | inr none ↦ inr (omega (arith, all, none, most))
      ]
]

-- The ends.

module _ (script : Script) (stores : List Stored) (calls : List Line) (h : List Entry) (s : Streaming) (at : IsAt script stores calls h s)
    (after : List Stored) (ends : (given : Given) (history : List Numbered) (pool : FrameState) → AreAtRest given (entries_in history) s.spaces pool
    → StoresEnd given history after) (unused : drop (length s.spaces) after ≡ s.unused) where
  unused_same : drop script.spaces after ≡ drop script.spaces stores
  unused_same = ap (λ n. drop n after) (sym (at.rest.count ∙ told-over script stores at.enough)) ∙ unused ∙ at.unused_are

  same_setting : setting_over script stores ≡ setting_over (part_of script calls s.turns) stores
  same_setting = sym (setting_of_part script stores calls s.turns)

  pub replay : (history : List Numbered) × (entries_in history ≡ h) × IsReplay (part_of script calls s.turns) stores history after
  replay = IsReplay-numbered (part_of script calls s.turns) stores after h at.enough at.capped
      (subst (λ g. IsLegal g h) same_setting at.legal) at.shows
      (λ history is. subst (λ g. StoresEnd g history after) same_setting
      (ends (setting_over script stores) history s.pool
      (subst (λ l. AreAtRest (setting_over script stores) l s.spaces s.pool) (sym is) at.rest))) unused_same

  filed : IsFiled (part_of script calls s.turns) h
  filed = FilesBy-part script calls script.daemon s.turns h at.few_turns at.filed

  pub IsRunTo-at : s.turns ≡ min (turns_in script.daemon) (length calls) → IsRunTo script stores calls h after
  IsRunTo-at turns =
      let same = part_is_front script calls s.turns turns in
      record {
        history = replay.0;
        entries = replay.1;
        run = subst (λ p. IsReplay p stores replay.0 after) same replay.2;
        filed = subst (λ p. IsFiled p h) same filed;
      }

  module _ (turns : s.turns ≡ turns_in script.daemon) where
    pub run_whole : IsReplay (with_calls script calls) stores replay.0 after
    run_whole = subst (λ p. IsReplay p stores replay.0 after) (part_is_whole script calls s.turns turns) replay.2

    pub filed_whole : IsFiled (with_calls script calls) h
    filed_whole = subst (λ p. IsFiled p h) (part_is_whole script calls s.turns turns) filed

-- with all turns made
pub IsRunWhole-took : (lasts : Bool) (script : Script) (stores : List Stored) (calls : List Line) (h : List Entry) (before : ℕ) (s : Streaming)
    (after : List Stored) (summary : Summary) (curves : Option Curves) (took : TookTurns script stores calls h before (turns_in script.daemon) s)
    → ((given : Given) (history : List Numbered) (pool : FrameState) → AreAtRest given (entries_in history) s.spaces pool
    → StoresEnd given history after) → drop (length s.spaces) after ≡ s.unused
    → summary ≡ counts (setting_over script stores) (h ++ took.piece)
    → (AnswersAlone (h ++ took.piece)
    → IfSome curves (λ c. AreCurves stream_capacities (setting_over script stores) (h ++ took.piece) c.tiles.items c.pages.items))
    → IsRunWhole lasts script stores calls h summary curves after
IsRunWhole-took lasts script stores calls h before s after summary curves took ends unused are curved =
    let all : s.turns ≡ turns_in script.daemon = took.turns ∙ min-eq_left (omega arith) in
    let run = replay script stores calls (h ++ took.piece) s took.at after ends unused in
    record {
      piece = took.piece;
      history = run.0;
      entries = run.1;
      run = run_whole script stores calls (h ++ took.piece) s took.at after ends unused all;
      filed = filed_whole script stores calls (h ++ took.piece) s took.at after ends unused all;
      counts_are = are;
      curves_are = λ one. curved (AnswersAlone-legal script (setting_over script stores) (h ++ took.piece) took.at.opening.has.daemon_in refl
          took.at.legal one);
      lasting = λ is. took.lacks;
    }
