-- Where a frame is refused the wired places, the claimed ones and the frames that are held are all frames, each in one of these roles; and as
-- the refused processor has none and each other one at most, the wired places and the processors are more than the frames.
use Rattle.std.proofs.Common.{◌≡◌, ◌≢◌, ℕ, ◌+◌, ◌<◌, ◌≤◌, Bool, true, false, ◌||◌, length, get_or, sum_by, count_by, is_some, Option, Some, None, inl, inr, refl, sym, ap, subst, ◌∙◌, arith}
use Rattle.std.specs.List.{range_with_len}
use Rattle.std.proofs.lemmas.Bool.{cases_eq, false≢true, ne_eqb}
use Rattle.std.proofs.lemmas.List.FromFn.{length-range_with_len}
use Rattle.std.proofs.lemmas.Option.{none-some, same_Some}
use Rattle.pager_model.specs.Options.{is_that}
use Rattle.pager_model.specs.declared.reservation.Used.{Used}
use Rattle.pager_model.specs.FrameStates.{FrameState, used_at, held_by, claim_in, is_wired_place, is_claimed_place, wired_count, claimed_count, held_count, HasNothing, IsRefused}
use Rattle.pager_model.specs.Headline.{is_kept_place, NoneToHave, IsOutOfFrames}
use Rattle.pager_model.specs.Settings.{Given}
use Rattle.pager_model.proofs.CountLemmas.{weight}
use Rattle.pager_laws.specs.Laid.{IsSound}
use Rattle.pager_laws.proofs.FrameCounts.{sum_by-plus, sum_by-le_at, sum_by-same_at, sum_by-ones, exchange, count-indexes, count-held, count-one_most, below, all_held, used_long}
use Rattle.pager_laws.proofs.Partition.{count-nowhere, is_that-same, none_holds, one_holds}
use Rattle.pager_laws.proofs.RefusedFrames.{NoneToHave-refused}
use Rattle.pager_laws.proofs.StateSoundness.{used_if_noted}

-- a kept place is wired or claimed, and not both where no wired place is claimed
one_kept : (o : Option Used) → is_kept_place o ≡ true → ((c : ℕ) → claim_in o ≡ Some c → is_wired_place o ≡ false)
    → weight (is_wired_place o) + weight (is_claimed_place o) ≡ 1
one_kept None kept apart = absurd (false≢true kept)
one_kept (Some u) kept apart = by_claim u.wired u.claim kept apart
  where
    by_claim : (wired : Bool) (claim : Option ℕ) → (wired || is_some claim) ≡ true → ((c : ℕ) → claim ≡ Some c → wired ≡ false)
        → weight wired + weight (is_some claim) ≡ 1
    by_claim true None kept apart = refl
    by_claim true (Some c) kept apart = absurd (false≢true (sym (apart c refl)))
    by_claim false None kept apart = absurd (false≢true kept)
    by_claim false (Some c) kept apart = refl

module _ (frames processors : ℕ) (st : FrameState) (sound : IsSound frames processors st) where
  -- of a frame that is held nothing is noted as of a used place
  unused_if_held : (c f : ℕ) → held_by st c ≡ Some f → used_at st f ≡ None
  unused_if_held c f holds = at (used_at st f) refl
    where
      at : (o : Option Used) → used_at st f ≡ o → used_at st f ≡ None
      at None none = none
      at (Some u) is = absurd
          ((sound.held_apart c f holds).1 (inr (sound.laid.places f (used_if_noted st f (λ none. none-some u (sym none ∙ is))))))

  -- where none can be had a frame is wired, claimed or held, in one way alone
  one_way : (f : ℕ) → f < frames → NoneToHave frames st
      → weight (is_wired_place (used_at st f)) + weight (is_claimed_place (used_at st f)) + count_by (is_that f) st.held ≡ 1
  one_way f known none = elim (none f known) [
    | inl holds ↦
        let unused = unused_if_held holds.0 f holds.1 in
        let not_wired : weight (is_wired_place (used_at st f)) ≡ 0 = ap (λ o. weight (is_wired_place o)) unused in
        let not_claimed : weight (is_claimed_place (used_at st f)) ≡ 0 = ap (λ o. weight (is_claimed_place o)) unused in
        omega (arith, not_wired, not_claimed, one_holds frames processors st sound f holds.0 holds.1)
    | inr kept ↦
        let noted : used_at st f ≢ None = λ unused. false≢true (sym (ap is_kept_place unused) ∙ kept) in
        let place = sound.laid.places f (used_if_noted st f noted) in
        omega (arith, one_kept (used_at st f) kept (sound.claims_unwired f), none_holds frames processors st sound f (inr place))
  ]

  -- so these are all frames
  all_kept : NoneToHave frames st → wired_count st + claimed_count st + held_count st ≡ frames
  all_kept none =
      let fs = range_with_len 0 frames in
      let wired : ℕ → ℕ = λ f. weight (is_wired_place (used_at st f)) in
      let claimed : ℕ → ℕ = λ f. weight (is_claimed_place (used_at st f)) in
      let held : ℕ → ℕ = λ f. count_by (is_that f) st.held in
      let ones = sum_by-same_at (λ f. wired f + claimed f + held f) (λ f. 1) fs 0
      (λ i within. one_way (get_or fs i 0) (below frames processors st sound i within) none) in
      let all_wired : sum_by wired fs ≡ wired_count st = count-indexes is_wired_place st.used None frames
      (used_long frames processors st sound) in
      let all_claimed : sum_by claimed fs ≡ claimed_count st = count-indexes is_claimed_place st.used None frames
      (used_long frames processors st sound) in
      let parts = sum_by-plus (λ f. wired f + claimed f) held fs in
      let more_parts = sum_by-plus wired claimed fs in
      omega (
        arith,
        ones,
        sum_by-ones fs,
        length-range_with_len 0 frames,
        all_wired,
        all_claimed,
        all_held frames processors st sound,
        parts,
        more_parts,
      )

  -- how many frames a processor claims
  abbrev claims : ℕ → ℕ
  claims c = count_by (λ o. is_that c (claim_in o)) st.used

  -- over all processors the places that they claim are the claimed ones
  all_claims : sum_by claims (range_with_len 0 processors) ≡ claimed_count st
  all_claims =
      exchange (λ c (o : Option Used). is_that c (claim_in o)) st.used (range_with_len 0 processors)
      ∙ sum_by-same_at (λ (o : Option Used). count_by (λ c. is_that c (claim_in o)) (range_with_len 0 processors))
      (λ (o : Option Used). weight (is_claimed_place o)) st.used None
      (λ i _. count-held processors (claim_in (get_or st.used i None)) (λ c is. (sound.claims_known i c is).0))

  -- a processor that claims no frame, frame by frame, is counted none
  no_claims : (c : ℕ) → ((f : ℕ) → claim_in (used_at st f) ≡ Some c → ⊥) → claims c ≡ 0
  no_claims c never = count-nowhere (λ o. is_that c (claim_in o)) st.used None
      (λ i is. never i (is_that-same c (claim_in (used_at st i)) is))

  -- a processor claims one frame or holds one, at most
  one_most : (c : ℕ) → claims c + weight (is_some (held_by st c)) ≤ 1
  one_most c = at (held_by st c) refl
    where
      at : (o : Option ℕ) → held_by st c ≡ o → claims c + weight (is_some (held_by st c)) ≤ 1
      at None none =
          let holds : weight (is_some (held_by st c)) ≡ 0 = ap (λ o. weight (is_some o)) none in
          let most =
          count-one_most (λ o. is_that c (claim_in o)) st.used None
          (λ i j one two. sound.claims_once i j c (is_that-same c (claim_in (used_at st i)) one)
          (is_that-same c (claim_in (used_at st j)) two)) in
          omega (arith, holds, most)
      at (Some f) is =
          let holds : weight (is_some (held_by st c)) ≡ 1 = ap (λ o. weight (is_some o)) is in
          let none = no_claims c (λ i claimed. none-some f (sym (sound.claims_known i c claimed).1 ∙ is)) in
          omega (arith, holds, none)

  -- and none where it has nothing
  none_mine : (c : ℕ) → HasNothing st c → claims c + weight (is_some (held_by st c)) ≡ 0
  none_mine c nothing =
      let holds : weight (is_some (held_by st c)) ≡ 0 = ap (λ o. weight (is_some o)) nothing.holds_none in
      omega (arith, no_claims c nothing.claims_none, holds)

  -- beside a processor that has nothing, each has one at most
  beside : (c mine : ℕ) → HasNothing st mine → claims c + weight (is_some (held_by st c)) + weight (is_that c (Some mine)) ≤ 1
  beside c mine nothing = elim (cases_eq mine c) [
    | inl same ↦
        let none = none_mine c (subst (HasNothing st) same nothing) in
        let few : weight (is_that c (Some mine)) ≤ 1 = weight-most (is_that c (Some mine)) in
        omega (arith, none, few)
    | inr other ↦
        let not : weight (is_that c (Some mine)) ≡ 0 = ap weight (ne_eqb mine c other) in
        omega (arith, one_most c, not)
  ]
    where
      weight-most : (b : Bool) → weight b ≤ 1
      weight-most true = omega arith
      weight-most false = omega arith

  -- so fewer frames are claimed or held than there are processors
  few_owned : (mine : ℕ) → mine < processors → HasNothing st mine → claimed_count st + held_count st < processors
  few_owned mine known nothing =
      let cs = range_with_len 0 processors in
      let holds : ℕ → ℕ = λ c. weight (is_some (held_by st c)) in
      let is_mine : ℕ → ℕ = λ c. weight (is_that c (Some mine)) in
      let each = sum_by-le_at (λ c. claims c + holds c + is_mine c) (λ c. 1) cs 0 (λ i _. beside (get_or cs i 0) mine nothing) in
      let all_holders : sum_by holds cs ≡ held_count st = count-indexes is_some st.held None processors sound.processors_known in
      let own : sum_by is_mine cs ≡ 1 = count-held processors (Some mine)
      (λ c is. subst (λ n. n < processors) (same_Some mine c is) known) in
      let parts = sum_by-plus (λ c. claims c + holds c) is_mine cs in
      let more_parts = sum_by-plus claims holds cs in
      omega (arith, each, sum_by-ones cs, length-range_with_len 0 processors, all_claims, all_holders, own, parts, more_parts)

-- a refusal that the frames allow
pub IsOutOfFrames-refused : (g : Given) (st : FrameState) (c wired claimed held : ℕ) → IsSound g.frames (length g.marks) st
    → c < length g.marks → HasNothing st c → IsRefused st wired claimed held → IsOutOfFrames g st wired claimed held
IsOutOfFrames-refused g st c wired claimed held sound known nothing refused =
    let none = NoneToHave-refused g.frames (length g.marks) st wired claimed held sound refused in
    let all = all_kept g.frames (length g.marks) st sound none in
    let few = few_owned g.frames (length g.marks) st sound c known nothing in
    record {
      wired_are = refused.wired_are;
      all = omega (arith, all, refused.wired_are, refused.claimed_are, refused.held_are);
      above = omega (arith, all, few, refused.wired_are);
    }
