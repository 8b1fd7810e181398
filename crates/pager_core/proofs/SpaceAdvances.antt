-- A turn whose step is made under a space's lock.
use Rattle.std.proofs.Common.{◌≡◌, ◌≢◌, ℕ, ◌<◌, true, List, [], ◌∷◌, ◌++◌, length, slice_get, Option, Some, None, IfSome, refl, ap, sym, subst, ◌∙◌, inl, inr}
use Rattle.std.specs.List.{AllByRecursion}
use Rattle.std.proofs.lemmas.Bool.{cases_eq}
use Rattle.std.proofs.lemmas.Option.{same_Some, slice_get_within}
use Rattle.std.proofs.Math.ListN.{set, length-set}
use Rattle.pager_model.specs.declared.entry.Entry.{Entry}
use Rattle.pager_model.specs.FrameStates.{FrameState}
use Rattle.pager_model.specs.Legal.{entries_in, space_at}
use Rattle.pager_model.specs.Settings.{Given, mark_of}
use Rattle.space_core.specs.Standing.{Kept}
use Rattle.flight_core.specs.declared.flight.Flight.{Flight}
use Rattle.flight_core.specs.Flights.{IsReady, IsAtRest, LeftBy}
use Rattle.flight_core.specs.Rows.{row_of, space_under}
use Rattle.flight_core.specs.Steps.{SameSpace}
use Rattle.flight_core.proofs.NextFlights.{keeps_under}
use Rattle.flight_core.specs.Flying.{in_space, since}
use Rattle.flight_core.specs.Logged.{Stepped}
use Rattle.flight_core.proofs.Lists.{slice_get-set_same, slice_get-set_other}
use Rattle.flight_core.proofs.WholeFlights.{elsewhere-all}
use Rattle.pager_core.specs.Machines.{IsSpaceOf}
use Rattle.pager_core.specs.Running.{flight_at, jobs_at, IsKeptByOther}
use Rattle.pager_core.proofs.Lands.{Lands}
use Rattle.pager_core.proofs.Lists.{one_in}
use Rattle.pager_core.proofs.Advances.{Goes, Grows, Grows-by, IsWhole, Keeps, MachineParts, Step, history_is, state_then, state_was, step_by}

-- The actor's flight makes an entry in a space that no other flight keeps, in a machine that is whole.
pub record Advances (m : MachineParts) (step : Step) (s : ℕ) (was now : Kept) : Type 0 where
  pub whole : IsWhole m
  pub flies : flight_at m.run.flights step.actor ≡ Some step.old
  pub under : space_under (row_of step.old).needs ≡ Some s
  pub at : slice_get m.spaces s ≡ Some was
  pub unkept : IsKeptByOther m.run.flights step.actor s → ⊥
  pub grows : Grows m step
  pub left : LeftBy (row_of step.new).keeps step.new now (state_then m step now.number)
  pub elsewhere : IfSome step.entry.space (λ t. t ≡ was.number)
  pub same_space : SameSpace was now

module _ (m : MachineParts) (step : Step) (s : ℕ) (was now : Kept) (advances : Advances m step s was now) where
  was_number : was.number ≡ s
  was_number = (advances.whole.space_is s was advances.at).number

  now_number : now.number ≡ s
  now_number = advances.same_space.number ∙ was_number

  within : s < length m.spaces
  within = slice_get_within m.spaces s was advances.at

  space_here : (kept : Kept) → slice_get (set m.spaces s now) s ≡ Some kept → now ≡ kept
  space_here kept at = same_Some now kept (sym (slice_get-set_same m.spaces s now within) ∙ at)

  left_by : (o : Option ℕ) → (row_of step.new).keeps ≡ o → LeftBy o step.new now (state_then m step now.number)
  left_by o keeps = subst (λ x. LeftBy x step.new now (state_then m step now.number)) keeps advances.left

  -- what the flight keeps is the space that it stepped under
  pub keeps_here : (t : ℕ) → Keeps step.new t → t ≡ s
  keeps_here t keeps = (left_by (Some t) keeps).0 ∙ now_number

  state_elsewhere : (t : ℕ) → t ≢ s → state_then m step t ≡ state_was m t
  state_elsewhere t other =
      elsewhere-all m.run.given was.number t (λ is. other (is ∙ was_number)) (entries_in m.run.history) (step.entry ∷ []) (advances.elsewhere, tt)

  -- another flight keeps another space
  keeps_other : (t d : ℕ) (g : Flight) → d ≢ step.actor → flight_at m.run.flights d ≡ Some g → (row_of g).keeps ≡ Some t → t ≢ s
  keeps_other t d g other flies keeps = λ is. advances.unkept
      (record { other = d; differs = other; flight = g; flies = flies; keeps = keeps ∙ ap Some is })

  at_elsewhere : (t : ℕ) (kept : Kept) → t ≢ s → slice_get (set m.spaces s now) t ≡ Some kept → slice_get m.spaces t ≡ Some kept
  at_elsewhere t kept other at = sym (slice_get-set_other m.spaces s t now other) ∙ at

  spaces_are : (t : ℕ) (kept : Kept) → slice_get (set m.spaces s now) t ≡ Some kept → IsSpaceOf m.run t kept
  spaces_are t kept at = elim (cases_eq t s) [
    | inl here ↦
        let before = advances.whole.space_is s was advances.at in
        subst (IsSpaceOf m.run t) (space_here kept (subst (λ k. slice_get (set m.spaces s now) k ≡ Some kept) here at))
        (record {
          number = now_number ∙ sym here;
          frames = advances.same_space.frames ∙ before.frames;
          processors = advances.same_space.processors ∙ before.processors;
        })
    | inr elsewhere ↦ advances.whole.space_is t kept (at_elsewhere t kept elsewhere at)
  ]

  own_ready : (t : ℕ) (kept : Kept) → Keeps step.new t → slice_get (set m.spaces s now) t ≡ Some kept
      → IsReady step.new kept (state_then m step t)
  own_ready t kept keeps at =
      let here = keeps_here t keeps in
      subst (λ n. IsReady step.new kept (state_then m step n)) (now_number ∙ sym here)
      (subst (λ k. IsReady step.new k (state_then m step now.number))
      (space_here kept (subst (λ k. slice_get (set m.spaces s now) k ≡ Some kept) here at)) (left_by (Some t) keeps).1)

  others_ready : (t d : ℕ) (g : Flight) (kept : Kept) → d ≢ step.actor → flight_at m.run.flights d ≡ Some g → (row_of g).keeps ≡ Some t
      → slice_get (set m.spaces s now) t ≡ Some kept → IsReady g kept (state_then m step t)
  others_ready t d g kept other flies keeps at =
      let elsewhere = keeps_other t d g other flies keeps in
      subst (IsReady g kept) (sym (state_elsewhere t elsewhere))
      ((advances.whole.flights d g flies).keeps t kept keeps (at_elsewhere t kept elsewhere at))

  -- where it keeps no space it leaves this one at rest
  rest_here : (o : Option ℕ) → (row_of step.new).keeps ≡ o → o ≢ Some s → IsAtRest now (state_then m step s)
  rest_here None keeps other =
      subst (λ n. IsAtRest now (state_then m step n)) now_number (left_by None keeps).1
  rest_here (Some t) keeps other = absurd (other (ap Some (keeps_here t keeps)))

  rest : (t : ℕ) (kept : Kept) → slice_get (set m.spaces s now) t ≡ Some kept → (row_of step.new).keeps ≢ Some t
      → ((d : ℕ) (g : Flight) → d ≢ step.actor → flight_at m.run.flights d ≡ Some g → (row_of g).keeps ≢ Some t)
      → IsAtRest kept (state_then m step t)
  rest t kept at own none = elim (cases_eq t s) [
    | inl here ↦
        subst (λ k. IsAtRest kept (state_then m step k)) (sym here)
        (subst (λ k. IsAtRest k (state_then m step s)) (space_here kept (subst (λ k. slice_get (set m.spaces s now) k ≡ Some kept) here at))
        (rest_here (row_of step.new).keeps refl (λ is. own (is ∙ ap Some (sym here)))))
    | inr elsewhere ↦
        subst (IsAtRest kept) (sym (state_elsewhere t elsewhere))
        (advances.whole.rest t kept (at_elsewhere t kept elsewhere at)
        (λ d g flies keeps. elim (cases_eq d step.actor) [
          | inl is ↦
              let same : step.old ≡ g = same_Some step.old g (sym advances.flies ∙ subst (λ n. flight_at m.run.flights n ≡ Some g) is flies) in
              let kept_was : (row_of step.old).keeps ≡ Some t = subst (λ (x : Flight). (row_of x).keeps ≡ Some t) (sym same) keeps in
              elsewhere (same_Some t s (sym (keeps_under step.old t kept_was) ∙ advances.under))
          | inr other ↦ none d g other flies keeps
        ]))
  ]

  pub Goes-in : (o : Option Flight) → Lands (mark_of m.run.given step.actor) (jobs_at m.run.jobs step.actor) step.new o
      → Goes m step (set m.spaces s now) o
  Goes-in o lands = record {
    flies = advances.flies;
    grows = advances.grows;
    lands = lands;
    count = length-set m.spaces s now;
    spaces_are = spaces_are;
    apart = λ t d g keeps other flies own. keeps_other t d g other flies own (keeps_here t keeps);
    own_ready = own_ready;
    others_ready = others_ready;
    rest = rest;
  }

-- A step in a space, of which the log took an entry.
module _ {L : Type 0} (stands : L → Given → List Entry → Type 0) (m : MachineParts) (c : ℕ) (old new : Flight) (s : ℕ) (was now : Kept)
    (after : FrameState) (log : L)
    (stepped : Stepped stands (since m.run.given (entries_in m.run.history) 0) log true (in_space old was) (in_space new now) after) where
  abbrev pub step_in : Step
  step_in = step_by m c old new after stepped.piece stepped.history stepped.one stepped.grown

  pub stands_in : stands log m.run.given (entries_in m.run.history ++ step_in.entry ∷ [])
  stands_in =
      subst (stands log m.run.given) (history_is m c old new after stepped.piece stepped.history stepped.one stepped.grown) stepped.stands_for

  pub Advances-of : IsWhole m → flight_at m.run.flights c ≡ Some old → space_under (row_of old).needs ≡ Some s → slice_get m.spaces s ≡ Some was
      → (IsKeptByOther m.run.flights c s → ⊥) → Advances m step_in s was now
  Advances-of whole flies under at unkept =
      record {
        whole = whole;
        flies = flies;
        under = under;
        at = at;
        unkept = unkept;
        grows = Grows-by m c old new after stepped.piece stepped.history stepped.one stepped.grown stepped.left.legal stepped.left.flying
            stepped.frames stepped.added (stepped.between refl);
        left = subst (λ h. LeftBy (row_of new).keeps new now (space_at m.run.given h now.number))
            (history_is m c old new after stepped.piece stepped.history stepped.one stepped.grown) stepped.left.left;
        elsewhere = (subst (AllByRecursion (λ (e : Entry). IfSome e.space (λ t. t ≡ was.number))) (one_in stepped.piece stepped.one).1
            stepped.elsewhere).0;
        same_space = stepped.same_space;
      }
