-- What an entry names.
use Rattle.std.proofs.Common.{◌≡◌, ℕ, Bool, true, false, cond, Option, Some, None, IfSome, refl, ap, sym, subst, ◌∙◌, inl, inr, ◌⊎◌, arith}
use Rattle.std.proofs.lemmas.Bool.{false≢true}
use Rattle.std.proofs.lemmas.Option.{none-some, same_Some}
use Rattle.pager_model.specs.declared.call.Call.{Call}
use Rattle.pager_model.specs.declared.entry.Entry.{Entry}
use Rattle.pager_model.specs.declared.entry.What.{What}
use Rattle.pager_model.specs.declared.entry.What.TheVariants.{Answer, Out, Failed, Take, Give, Clear, Claim, UseHeld, DropHeld, Got, Unclaim, Refused, Pin, Kept as KeptEntry, Rest}
use Rattle.pager_model.specs.declared.reply.Reply.{Reply}
use Rattle.pager_model.specs.Entries.{NamesItsParts, IsOn}
use Rattle.pager_model.specs.Flat.{space_of_call}
use Rattle.pager_model.specs.FrameStates.{FrameState, frames_after, start_frames}
use Rattle.pager_model.specs.SizeSets.{all_sizes}
use Rattle.pager_model.specs.Showing.{answer_in}
use Rattle.pager_model.specs.SpaceStates.{SpaceState}
use Rattle.pager_model.proofs.FrameEntries.{frames_after-entries}
use Rattle.space_core.specs.Standing.{Kept, CanBegin}
use Rattle.flight_core.specs.declared.flight.Flight.{Flight}
use Rattle.flight_core.specs.Flights.{Fits}
use Rattle.flight_core.specs.Rows.{call_in, reply_in, row_of}
use Rattle.flight_core.specs.Steps.{Makes, MakesEntry, answer_made}
use Rattle.flight_core.specs.Taken.{AnswersCall}

-- an entry names a space, or it names the frames
pub names_some : (space : Option ℕ) (frames : Bool) (what : What) → IsOn space frames what → ((s : ℕ) × (space ≡ Some s)) ⊎ (frames ≡ true)
names_some space frames (Answer number call answered) names = inl (space_of_call call, names)
names_some space frames (Out page written) names = inl names.0
names_some space frames (Failed page writing count) names = inl names.0
names_some space frames (Take page frame want) names = inr names.1
names_some space frames (Give page frame) names = inr names.1
names_some space frames (Clear first len) names = inr names.1
names_some space frames (Claim victim page frame None) names = inr names.1
names_some space frames (Claim victim page frame (Some need)) names = inr names.1
names_some space frames (UseHeld page frame want) names = inr names.1
names_some space frames (DropHeld frame) names = inr names.1
names_some space frames (Got frame) names = inr names.1
names_some space frames (Unclaim frame) names = inr names.1
names_some space frames (Refused wired claimed held) names = inr names.1
names_some space frames (Pin first len wired) names = inr names.1
names_some space frames (KeptEntry first len page frame) names = inr names.1
names_some space frames (Rest short) names = inr names.1

pub on_space : (e : Entry) (part : ℕ) → NamesItsParts e → IfSome e.space (λ s. s ≡ part) → e.frames ≡ false → e.space ≡ Some part
on_space e part names own none =
    elim (names_some e.space e.frames e.what names) [
      | inl some ↦ some.1 ∙ ap Some (subst (λ o. IfSome o (λ s. s ≡ part)) some.1 own)
      | inr frames ↦ absurd (false≢true (sym none ∙ frames))
    ]

pub on_frames : (e : Entry) → NamesItsParts e → e.space ≡ None → e.frames ≡ true
on_frames e names none =
    elim (names_some e.space e.frames e.what names) [
      | inl some ↦ absurd (none-some some.0 (sym none ∙ some.1))
      | inr frames ↦ frames
    ]

-- an entry of a step that leaves whatever state of the frames doesn't name them
pub no_frames : (f f' : Flight) (was now : Kept) (st : SpaceState) (e : Entry)
    → ((frames : FrameState) → Makes f f' was now st frames frames e) → e.frames ≡ false
no_frames f f' was now st e makes = by e.frames refl
  where
    by : (b : Bool) → e.frames ≡ b → e.frames ≡ false
    by false is = is
    by true is =
        let start : FrameState = start_frames all_sizes 0 0 in
        let same : start ≡ frames_after start e = (makes start).entry.frames_after ∙ ap (λ b. cond b (frames_after start e) start) is in
        let one = frames_after-entries start e in
        let count : start.entries ≡ (frames_after start e).entries = ap (λ (st : FrameState). st.entries) same in
        absurd (omega (arith, one, count))

-- the answer of a flight is of its call, which can be begun
pub answers_call : (f f' : Flight) (before after : FrameState) (e : Entry) → MakesEntry f f' before after e → Fits f' → AnswersCall e.what
answers_call f f' before after e makes fits = of_what e.what makes.answer
  where
    of_call : (number : ℕ) (call : Call) (reply : Option Reply) → Some (number, call) ≡ answer_made f' reply → CanBegin call
    of_call number call None is = absurd (none-some _ (sym is))
    of_call number call (Some reply) is =
        subst CanBegin (sym (ap (λ (x : ℕ × Call). x.1) (same_Some (number, call) (f'.number, call_in f'.purpose) is))) fits.can

    of_what : (what : What) → answer_in what ≡ answer_made f' (reply_in (row_of f').outcome) → AnswersCall what
    of_what (Answer number call answered) is = of_call number call (reply_in (row_of f').outcome) is
    of_what what is = tt
