-- For each space the processor whose flight keeps it.
use Rattle.std.proofs.Common.{◌≡◌, ◌≢◌, ℕ, ◌<◌, List, length, replicate, get_or, Option, Some, None, option_map, slice_get, refl, ap, sym, subst, ◌∙◌, inl, inr, arith}
use Rattle.std.proofs.lemmas.Bool.{cases_eq, cases_lt}
use Rattle.std.proofs.lemmas.List.{get_or_past, get_or_read_under, get_or-set_same, get_or-set_other}
use Rattle.std.proofs.lemmas.List.FromFn.{get_or-map-range_with_len, length-map-range_with_len}
use Rattle.std.proofs.lemmas.Option.{none-some, same_Some}
use Rattle.std.proofs.Math.ListN.{length-replicate, length-set, set}
use Rattle.pager_model.specs.declared.trace.Job.{Job}
use Rattle.pager_model.specs.declared.trace.Job.TheVariants.{Call as MakesCall, Turn}
use Rattle.pager_model.proofs.Lists.{get_or-alike, get_or_within, set_cases}
use Rattle.flight_core.specs.declared.flight.Flight.{Flight}
use Rattle.pager_core.specs.Machines.{IsOther, AreKeepers}
use Rattle.flight_core.specs.Rows.{row_of}
use Rattle.pager_core.specs.Running.{flight_at, flight_for, flight_of, first_flights, jobs_at, kept_by, IsKeptByOther}

-- At the start no flight keeps one.

none_yet : (c n : ℕ) (o : Option Job) → kept_by (option_map (flight_for c n) o) ≡ None
none_yet c n None = refl
none_yet c n (Some (MakesCall call)) = refl
none_yet c n (Some (Turn mark)) = refl

none_keeps : (jobs : List (List Job)) (c : ℕ) → kept_by (flight_at (first_flights jobs) c) ≡ None
none_keeps jobs c = elim (cases_lt c (length jobs)) [
  | inl below ↦
      ap kept_by (get_or-map-range_with_len (λ k. flight_of k 0 (jobs_at jobs k)) 0 (length jobs) c c None below (omega arith))
      ∙ none_yet c 0 (slice_get (jobs_at jobs c) 0)
  | inr past ↦ ap kept_by
      (get_or_past (first_flights jobs) c None (let all = length-map-range_with_len (λ k. flight_of k 0 (jobs_at jobs k)) 0
      (length jobs) in omega (arith, all, past)))
]

pub AreKeepers-start : (jobs : List (List Job)) (flights : List (Option Flight)) (spaces : ℕ) (keepers : List (Option ℕ))
    → flights ≡ first_flights jobs → keepers ≡ replicate spaces None → AreKeepers flights spaces keepers
AreKeepers-start jobs flights spaces keepers first none = record {
  count = ap length none ∙ length-replicate spaces None;
  is_keeper = λ s c is. absurd (none-some c (sym (ap (λ l. get_or l s None) none ∙ get_or-alike spaces s None) ∙ is));
  has_keeper = λ s c keeps. absurd (none-some s (sym (ap (λ l. kept_by (flight_at l c)) first ∙ none_keeps jobs c) ∙ keeps));
}

module _ (flights : List (Option Flight)) (spaces : ℕ) (keepers : List (Option ℕ)) (are : AreKeepers flights spaces keepers) where
  -- where another keeps the space, the list says so, and otherwise none does

  flight_kept : (d s : ℕ) (o : Option Flight) → flight_at flights d ≡ o → kept_by o ≡ Some s
      → (g : Flight) × (flight_at flights d ≡ Some g) × ((row_of g).keeps ≡ Some s)
  flight_kept d s None flies keeps = absurd (none-some s keeps)
  flight_kept d s (Some g) flies keeps = (g, flies, keeps)

  kept_too : (actor s : ℕ) → IsOther (get_or keepers s None) actor → IsKeptByOther flights actor s
  kept_too actor s other =
      let g = flight_kept other.other s (flight_at flights other.other) refl (are.is_keeper s other.other other.is) in
      record { other = other.other; differs = other.differs; flight = g.0; flies = g.1; keeps = g.2 }

  other_keeps : (actor s : ℕ) → IsKeptByOther flights actor s → IsOther (get_or keepers s None) actor
  other_keeps actor s kept =
      record { other = kept.other; is = are.has_keeper s kept.other (ap kept_by kept.flies ∙ kept.keeps); differs = kept.differs }

  -- what an index gives
  read : (s : ℕ) (x : Option ℕ) → s < spaces → x ≡ get_or keepers s x → x ≡ get_or keepers s None
  read s x within at = get_or_read_under keepers s spaces x None at within (sym are.count)

  pub kept_if : (actor s : ℕ) (x : Option ℕ) → s < spaces → x ≡ get_or keepers s x → IsOther x actor → IsKeptByOther flights actor s
  kept_if actor s x within at other = kept_too actor s (subst (λ k. IsOther k actor) (read s x within at) other)

  pub other_if : (actor s : ℕ) (x : Option ℕ) → s < spaces → x ≡ get_or keepers s x → IsKeptByOther flights actor s → IsOther x actor
  other_if actor s x within at kept = subst (λ k. IsOther k actor) (sym (read s x within at)) (other_keeps actor s kept)

  -- a flight that keeps none goes on as one that keeps none
  module _ (c : ℕ) (f : Flight) (o : Option Flight) (flies : flight_at flights c ≡ Some f) where
    own : flight_at (set flights c o) c ≡ o
    own = get_or-set_same flights c o None (get_or_within flights c f flies)

    other : (d : ℕ) → d ≢ c → flight_at (set flights c o) d ≡ flight_at flights d
    other d differs = get_or-set_other flights c d o None differs

    pub AreKeepers-same : (row_of f).keeps ≡ None → kept_by o ≡ None → AreKeepers (set flights c o) spaces keepers
    AreKeepers-same before after = record {
      count = are.count;
      is_keeper = λ s d is.
          let kept = are.is_keeper s d is in
          elim (cases_eq d c) [
            | inl here ↦ absurd (none-some s (sym before ∙ sym (ap kept_by flies) ∙ ap (λ k. kept_by (flight_at flights k)) (sym here)
                ∙ kept))
            | inr differs ↦ ap kept_by (other d differs) ∙ kept
          ];
      has_keeper = λ s d keeps. elim (cases_eq d c) [
        | inl here ↦ absurd (none-some s (sym after ∙ sym (ap kept_by own) ∙ ap (λ k. kept_by (flight_at (set flights c o) k)) (sym here)
            ∙ keeps))
        | inr differs ↦ are.has_keeper s d (sym (ap kept_by (other d differs)) ∙ keeps)
      ];
    }

    -- one that steps under a space that no other keeps, goes on as one that keeps that one or none
    module _ (s : ℕ) (x : Option ℕ) (within : s < spaces) (before : (t : ℕ) → (row_of f).keeps ≡ Some t → t ≡ s)
        (after : (t : ℕ) → kept_by o ≡ Some t → t ≡ s) (unkept : IsKeptByOther flights c s → ⊥)
        (is_now : x ≡ option_map (λ (t : ℕ). c) (kept_by o)) where
      now_kept : (d : ℕ) (k : Option ℕ) → kept_by o ≡ k → option_map (λ (t : ℕ). c) k ≡ Some d → (d ≡ c) × (kept_by o ≡ Some s)
      now_kept d None is at = absurd (none-some d at)
      now_kept d (Some t) is at = (sym (same_Some c d at), is ∙ ap Some (after t is))

      is_keeper : (t d : ℕ) → get_or (set keepers s x) t None ≡ Some d → kept_by (flight_at (set flights c o) d) ≡ Some t
      is_keeper t d at = elim (set_cases keepers s t x d at) [
        | inl here ↦
            let own_kept = now_kept d (kept_by o) refl (sym is_now ∙ here.1) in
            ap (λ k. kept_by (flight_at (set flights c o) k)) own_kept.0 ∙ ap kept_by own ∙ own_kept.1 ∙ ap Some (sym here.0)
        | inr elsewhere ↦
            let kept = are.is_keeper t d elsewhere.1 in
            let differs : d ≢ c = λ is. elsewhere.0
            (before t (sym (ap kept_by flies) ∙ ap (λ k. kept_by (flight_at flights k)) (sym is) ∙ kept)) in
            ap kept_by (other d differs) ∙ kept
      ]

      has_keeper : (t d : ℕ) → kept_by (flight_at (set flights c o) d) ≡ Some t → get_or (set keepers s x) t None ≡ Some d
      has_keeper t d keeps = elim (cases_eq d c) [
        | inl here ↦
            let own_keeps : kept_by o ≡ Some t = sym (ap kept_by own) ∙ ap (λ k. kept_by (flight_at (set flights c o) k)) (sym here)
            ∙ keeps in
            ap (λ k. get_or (set keepers s x) k None) (after t own_keeps)
            ∙ get_or-set_same keepers s x None (let all = are.count in omega (arith, within, all))
            ∙ is_now ∙ ap (option_map (λ (t : ℕ). c)) own_keeps ∙ ap Some (sym here)
        | inr differs ↦
            let kept = sym (ap kept_by (other d differs)) ∙ keeps in
            let g = flight_kept d t (flight_at flights d) refl kept in
            let elsewhere : t ≢ s = λ is. unkept
            (record { other = d; differs = differs; flight = g.0; flies = g.1; keeps = g.2 ∙ ap Some is }) in
            get_or-set_other keepers s t x None elsewhere ∙ are.has_keeper t d kept
      ]

      pub AreKeepers-moved : AreKeepers (set flights c o) spaces (set keepers s x)
      AreKeepers-moved = record { count = length-set keepers s x ∙ are.count; is_keeper = is_keeper; has_keeper = has_keeper }
