-- An entry on the frames alone may follow a legal history exactly where its parts, its order and the frames say so.
use Rattle.std.proofs.Common.{◌≡◌, ◌+◌, ◌≤◌, ℕ, Bool, true, List, length, Option, Some, None, refl, sym, ap, subst, ◌∙◌}
use Rattle.std.specs.Option.{IfSome}
use Rattle.std.proofs.lemmas.Bool.{eq-eqb}
use Rattle.std.proofs.lemmas.Option.{none-some}
use Rattle.pager_model.specs.declared.entry.Entry.{Entry}
use Rattle.pager_model.specs.declared.entry.What.{What}
use Rattle.pager_model.specs.declared.entry.What.TheVariants.{Answer, Out, Failed, Take, Give, Clear, Claim, UseHeld, DropHeld, Got, Unclaim, Refused, Pin, Kept, Rest}
use Rattle.pager_model.specs.Entries.{IsOn, NamesItsParts}
use Rattle.pager_model.specs.FrameStates.{FrameState, FramesAllow, frames_after}
use Rattle.pager_model.specs.Legal.{MayFollow}
use Rattle.pager_model.specs.Order.{Progress, progress_by}
use Rattle.pager_model.specs.Settings.{Given, mark_of}
use Rattle.pager_model.proofs.Histories.{frames_at-named, progress_at-own}
use Rattle.pager_laws.proofs.LegalHistories.{IsKept-legal}
use Rattle.followed_frames.specs.Ready.{IsReached, IsReady}
use Rattle.followed_space.specs.Follows.{AnswersLine}
use Rattle.told_space.specs.Told.{WantsFor}
use Rattle.history_check.proofs.ReadyFrames.{Clears, ready}
use Rattle.history_check.specs.Ready.{CameSoFar}
use Rattle.history_check.specs.Standing.{GoesOn, StandsAlone}

none_if : (o : Option ℕ) (P : ℕ → Type 0) → o ≡ None → IfSome o P
none_if None P is = tt
none_if (Some s) P is = absurd (none-some s (sym is))

-- an entry without a space answers nothing, clears nothing and wants nothing
plain : (g : Given) (history : List Entry) (c : ℕ) (space : Option ℕ) (what : What) → space ≡ None → IsOn space true what
    → AnswersLine what × WantsFor what × (Clears g history c what → ⊥)
plain g history c space (Answer number call answered) is names = absurd (none-some _ (sym is ∙ names))
plain g history c space (Out page written) is names = (tt, tt, λ no_clear. no_clear)
plain g history c space (Failed page writing count) is names = (tt, tt, λ no_clear. no_clear)
plain g history c space (Take page frame want) is names = absurd (none-some _ (sym is ∙ names.0.1))
plain g history c space (Give page frame) is names = (tt, tt, λ no_clear. no_clear)
plain g history c space (Clear first len) is names = absurd (none-some _ (sym is ∙ names.0.1))
plain g history c space (Claim victim page frame need) is names = (tt, tt, λ no_clear. no_clear)
plain g history c space (UseHeld page frame want) is names = absurd (none-some _ (sym is ∙ names.0.1))
plain g history c space (DropHeld frame) is names = (tt, tt, λ no_clear. no_clear)
plain g history c space (Got frame) is names = (tt, tt, λ no_clear. no_clear)
plain g history c space (Unclaim frame) is names = (tt, tt, λ no_clear. no_clear)
plain g history c space (Refused wired claimed held) is names = (tt, tt, λ no_clear. no_clear)
plain g history c space (Pin first len wired) is names = absurd (none-some _ (sym is ∙ names.0.1))
plain g history c space (Kept first len page frame) is names = absurd (none-some _ (sym is ∙ names.0.1))
plain g history c space (Rest short) is names = (tt, tt, λ no_clear. no_clear)

-- an entry without a space names the frames
named : (frames : Bool) (what : What) → IsOn None frames what → frames ≡ true
named frames (Answer number call answered) names = absurd (none-some _ names)
named frames (Out page written) names = absurd (none-some _ names.0.1)
named frames (Failed page writing count) names = absurd (none-some _ names.0.1)
named frames (Claim victim page frame None) names = names.1
named frames (Claim victim page frame (Some need)) names = names.1
named frames (Take page frame want) names = names.1
named frames (Give page frame) names = names.1
named frames (Clear first len) names = names.1
named frames (UseHeld page frame want) names = names.1
named frames (DropHeld frame) names = names.1
named frames (Got frame) names = names.1
named frames (Unclaim frame) names = names.1
named frames (Refused wired claimed held) names = names.1
named frames (Pin first len wired) names = names.1
named frames (Kept first len page frame) names = names.1
named frames (Rest short) names = names.1

module _ (g : Given) (history : List Entry) (frames : FrameState) (before : Progress) (mark : ℕ) (e : Entry)
    (at : StandsAlone g history frames before mark e) (on : e.space ≡ None) where
  pub reached : IsReached frames
  reached = subst IsReached (sym at.frames_are)
      (record { frames = g.frames; processors = length g.marks; sound = (IsKept-legal g history at.legal).sound })

  pub no_order : progress_by (Some before) e ≡ None → MayFollow g history e → ⊥
  no_order breaks may = none-some may.ordered.0 (sym breaks ∙ ap (λ o. progress_by o e) (sym at.at) ∙ may.ordered.1)

  module _ (parts : NamesItsParts e) where
    on_frames : e.frames ≡ true
    on_frames = named e.frames e.what (subst (λ o. IsOn o e.frames e.what) on parts)

    pub no_frames : (FramesAllow frames mark e.processor e.space e.what → ⊥) → MayFollow g history e → ⊥
    no_frames never may_follow =
        never (subst (λ m. FramesAllow frames m e.processor e.space e.what) (sym at.mark_is)
        (subst (λ st. FramesAllow st (mark_of g e.processor) e.processor e.space e.what) (sym at.frames_are) (may_follow.by_frames on_frames)))

    module _ (q : Progress) (goes : progress_by (Some before) e ≡ Some q) where
      pub is_ready : IsReady frames e
      is_ready =
          let facts = plain g history e.processor e.space e.what on (subst (λ b. IsOn e.space b e.what) on_frames parts) in
          let came : CameSoFar g history e = record {
            legal = at.legal;
            parts = parts;
            processor = at.processor;
            space = none_if e.space _ on;
            few = at.spaces_few;
            before = before;
            at = at.at;
            after = q;
            goes = goes;
            by_space = none_if e.space _ on;
            line = facts.0;
            wants = facts.1;
          } in
          subst (λ st. IsReady st e) (sym at.frames_are) (ready g history e on_frames facts.2 came)

      pub goes_on : FramesAllow frames mark e.processor e.space e.what → (new : FrameState) → new ≡ frames_after frames e
          → q.made ≤ before.made + 1 → GoesOn g history e new before q
      goes_on by_frames new is made = record {
        may = record {
          parts = parts;
          processor = at.processor;
          space = none_if e.space _ on;
          by_space = none_if e.space _ on;
          by_frames = λ _. subst (λ st. FramesAllow st (mark_of g e.processor) e.processor e.space e.what) at.frames_are
              (subst (λ m. FramesAllow frames m e.processor e.space e.what) at.mark_is by_frames);
          ordered = (q, ap (λ o. progress_by o e) at.at ∙ goes);
        };
        frames_are = is ∙ ap (λ st. frames_after st e) at.frames_are ∙ sym (frames_at-named g history e on_frames);
        at = progress_at-own g history e e.processor (eq-eqb e.processor e.processor refl) ∙ ap (λ o. progress_by o e) at.at ∙ goes;
        made = made;
      }
