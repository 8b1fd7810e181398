-- The entry half of a step: what the entries of all steps have alike, and what a step says of its own.
use Rattle.std.proofs.Common.{◌≡◌, ℕ, ◌<◌, Bool, true, false, ◌&&◌, not, is_some, Option, Some, None, refl, ap, sym, ◌∙◌}
use Rattle.std.proofs.lemmas.Bool.{and_parts, false≢true}
use Rattle.std.proofs.lemmas.Option.{none-some}
use Rattle.pager_model.specs.declared.entry.What.{What}
use Rattle.pager_model.specs.declared.entry.What.TheVariants.{Answer}
use Rattle.pager_model.specs.Entries.{IsOn}
use Rattle.pager_model.specs.FrameStates.{FrameState, FramesAllow, frames_after}
use Rattle.pager_model.specs.Order.{progress_after}
use Rattle.pager_model.specs.Showing.{answer_in}
use Rattle.flight_core.specs.declared.flight.Flight.{Flight}
use Rattle.flight_core.specs.Rows.{is_between, mark_in, reply_in, row_of}
use Rattle.flight_core.specs.Steps.{MakesEntry, SameWork, after_frames, answer_made, reply_said}

-- the flight is in a phase that an entry leads to, and its call isn't answered
abbrev pub is_on_way : Flight → Bool
is_on_way f = is_between f.purpose f.phase && not (is_some (reply_in (row_of f).outcome))

-- Where an entry that is no answer leads a flight: it goes on with the same work, in its processor's order, and fewer entries are left.
pub record LeadsOn (old new : Flight) (space : Option ℕ) (what : What) : Type 0 where
  pub same_work : SameWork old new
  pub in_order : progress_after (row_of old).progress space what ≡ Some (row_of new).progress
  pub fewer : (row_of new).entries < (row_of old).entries
  pub on_way : is_on_way new ≡ true
  pub no_answer : reply_said what ≡ None

no_reply : (f : Flight) → is_on_way f ≡ true → reply_in (row_of f).outcome ≡ None
no_reply f on_way = none (reply_in (row_of f).outcome) (and_parts _ _ on_way).1
  where
    none : {X : Type 0} (o : Option X) → not (is_some o) ≡ true → o ≡ None
    none None is = refl
    none (Some x) is = absurd (false≢true is)

says_none : (what : What) → reply_said what ≡ None → answer_in what ≡ None
says_none (Answer number call answered) is = absurd (none-some _ (sym is))
says_none what is = refl

-- its entry, where the frames before and after it are as they should
made : (old new : Flight) (space : Option ℕ) (named : Bool) (what : What) (before after : FrameState) → LeadsOn old new space what
    → IsOn space named what
    → (named ≡ true → FramesAllow before (mark_in old.purpose) old.processor space what)
    → after ≡ after_frames before (record { processor = old.processor; space = space; frames = named; what = what })
    → MakesEntry old new before after (record { processor = old.processor; space = space; frames = named; what = what })
made old new space named what before after leads on allowed moved =
    let none = no_reply new leads.on_way in
    record {
      same_work = leads.same_work;
      processor = refl;
      parts = on;
      frames_allow = allowed;
      frames_after = moved;
      in_order = leads.in_order;
      reply = leads.no_answer ∙ sym none;
      answer = says_none what leads.no_answer ∙ ap (answer_made new) (sym none);
      between = (and_parts _ _ leads.on_way).0;
      fewer = leads.fewer;
    }

-- one that names its space alone leaves the frames
pub made_in_space : {old new : Flight} {space : ℕ} {what : What} {frames : FrameState} → LeadsOn old new (Some space) what
    → IsOn (Some space) false what
    → MakesEntry old new frames frames (record { processor = old.processor; space = Some space; frames = false; what = what })
made_in_space {old} {new} {space} {what} {frames} leads on =
    made old new (Some space) false what frames frames leads on (λ named. absurd (false≢true named)) refl

-- one that names the frames, with a space or alone, is one that they allow, and they are one entry further then
pub made_on_frames : {old new : Flight} {space : Option ℕ} {what : What} {before after : FrameState} → LeadsOn old new space what
    → IsOn space true what → FramesAllow before (mark_in old.purpose) old.processor space what
    → after ≡ frames_after before (record { processor = old.processor; space = space; frames = true; what = what })
    → MakesEntry old new before after (record { processor = old.processor; space = space; frames = true; what = what })
made_on_frames {old} {new} {space} {what} {before} {after} leads on allowed moved =
    made old new space true what before after leads on (λ named. allowed) moved
