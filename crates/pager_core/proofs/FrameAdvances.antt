-- A turn whose step is made under the frames' lock alone, which changes no space.
use Rattle.std.proofs.Common.{◌≡◌, ◌≢◌, ℕ, List, [], ◌∷◌, ◌++◌, slice_get, Option, Some, None, refl, sym, subst, ◌∙◌, inl, inr}
use Rattle.std.specs.List.{AllByRecursion}
use Rattle.std.proofs.lemmas.Bool.{cases_eq}
use Rattle.std.proofs.lemmas.Option.{none-some, same_Some}
use Rattle.pager_model.specs.declared.entry.Entry.{Entry}
use Rattle.pager_model.specs.FrameStates.{FrameState}
use Rattle.pager_model.specs.Legal.{entries_in}
use Rattle.pager_model.specs.Settings.{Given, mark_of}
use Rattle.space_core.specs.Standing.{Kept}
use Rattle.flight_core.specs.declared.flight.Flight.{Flight}
use Rattle.flight_core.specs.Flights.{IsReady, IsAtRest}
use Rattle.flight_core.specs.Rows.{row_of, space_under}
use Rattle.flight_core.proofs.NextFlights.{keeps_none}
use Rattle.flight_core.specs.Flying.{since}
use Rattle.flight_core.specs.Logged.{SteppedOnFrames}
use Rattle.flight_core.proofs.WholeFlights.{nowhere-all}
use Rattle.pager_core.specs.Running.{flight_at, jobs_at}
use Rattle.pager_core.proofs.Lands.{Lands}
use Rattle.pager_core.proofs.Lists.{one_in}
use Rattle.pager_core.proofs.Advances.{Goes, Grows, Grows-by, IsWhole, Keeps, MachineParts, Step, history_is, state_then, state_was, step_by}

-- The actor's flight makes an entry under the frames' lock alone, in a machine that is whole.
pub record AdvancesOnFrames (m : MachineParts) (step : Step) : Type 0 where
  pub whole : IsWhole m
  pub flies : flight_at m.run.flights step.actor ≡ Some step.old
  pub under : space_under (row_of step.old).needs ≡ None
  pub grows : Grows m step
  pub no_space : step.entry.space ≡ None
  pub keeps_none : (row_of step.new).keeps ≡ None

module _ (m : MachineParts) (step : Step) (advances : AdvancesOnFrames m step) where
  same_state : (t : ℕ) → state_then m step t ≡ state_was m t
  same_state t = nowhere-all m.run.given t (entries_in m.run.history) (step.entry ∷ []) (advances.no_space, tt)

  keeps_no : (t : ℕ) → Keeps step.new t → ⊥
  keeps_no t keeps = none-some t (sym advances.keeps_none ∙ keeps)

  -- nor did it keep one before
  kept_no : (t : ℕ) → (row_of step.old).keeps ≡ Some t → ⊥
  kept_no t keeps = none-some t (sym (keeps_none step.old advances.under) ∙ keeps)

  rest : (t : ℕ) (kept : Kept) → slice_get m.spaces t ≡ Some kept
      → ((d : ℕ) (g : Flight) → d ≢ step.actor → flight_at m.run.flights d ≡ Some g → (row_of g).keeps ≢ Some t)
      → IsAtRest kept (state_then m step t)
  rest t kept at none =
      subst (IsAtRest kept) (sym (same_state t))
      (advances.whole.rest t kept at
      (λ d g flies' keeps. elim (cases_eq d step.actor) [
        | inl is ↦
            let same : step.old ≡ g = same_Some step.old g (sym advances.flies ∙ subst (λ n. flight_at m.run.flights n ≡ Some g) is flies') in
            kept_no t (subst (λ (x : Flight). (row_of x).keeps ≡ Some t) (sym same) keeps)
        | inr other ↦ none d g other flies' keeps
      ]))

  pub Goes-on_frames : (o : Option Flight) → Lands (mark_of m.run.given step.actor) (jobs_at m.run.jobs step.actor) step.new o
      → Goes m step m.spaces o
  Goes-on_frames o lands = record {
    flies = advances.flies;
    grows = advances.grows;
    lands = lands;
    count = refl;
    spaces_are = advances.whole.space_is;
    apart = λ t d g keeps other flies' own. keeps_no t keeps;
    own_ready = λ t kept keeps at. absurd (keeps_no t keeps);
    others_ready = λ t d g kept other flies' keeps at. subst (λ st. IsReady g kept st) (sym (same_state t))
        ((advances.whole.flights d g flies').keeps t kept keeps at);
    rest = λ t kept at own none. rest t kept at none;
  }

-- A step on the frames, whose entry the log took.
module _ {L : Type 0} (stands : L → Given → List Entry → Type 0) (m : MachineParts) (c : ℕ) (old new : Flight) (after : FrameState) (log : L)
    (stepped : SteppedOnFrames stands (since m.run.given (entries_in m.run.history) 0) log old new after) where
  abbrev pub step_on : Step
  step_on = step_by m c old new after stepped.piece stepped.history stepped.one stepped.grown

  pub stands_on : stands log m.run.given (entries_in m.run.history ++ step_on.entry ∷ [])
  stands_on =
      subst (stands log m.run.given) (history_is m c old new after stepped.piece stepped.history stepped.one stepped.grown) stepped.stands_for

  pub AdvancesOnFrames-of : IsWhole m → flight_at m.run.flights c ≡ Some old → space_under (row_of old).needs ≡ None → AdvancesOnFrames m step_on
  AdvancesOnFrames-of whole flies under =
      record {
        whole = whole;
        flies = flies;
        under = under;
        grows = Grows-by m c old new after stepped.piece stepped.history stepped.one stepped.grown stepped.legal stepped.flying stepped.frames
            stepped.added stepped.between;
        no_space = (subst (AllByRecursion (λ (e : Entry). e.space ≡ None)) (one_in stepped.piece stepped.one).1 stepped.nowhere).0;
        keeps_none = stepped.keeps_none;
      }
