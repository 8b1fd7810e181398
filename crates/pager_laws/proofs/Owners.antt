-- Which frames processors claim and hold, before a move of the frames' state and after it.
use Rattle.std.proofs.Common.{◌≡◌, ◌≢◌, ◌⊎◌, inl, inr, ℕ, ◌<◌, Bool, true, false, cond, eqb, ◌&&◌, List, [], ◌∷◌, length, get_or, fold, is_some, Option, Some, None, refl, sym, ap, subst, ◌∙◌, arith}
use Rattle.std.proofs.lemmas.Bool.{cases_Bool, cases_eq, cases_lt, and_parts, false≢true, cond-false, eqb-true}
use Rattle.std.proofs.lemmas.List.{get_or-set_same, get_or-set_other, get_or_past}
use Rattle.std.proofs.lemmas.Option.{none-some, same_Some}
use Rattle.pager_model.specs.declared.entry.Victim.{Victim}
use Rattle.pager_model.specs.declared.entry.Want.{Want}
use Rattle.pager_model.specs.declared.reservation.Used.{Used}
use Rattle.pager_model.specs.Agreement.{ClaimsOrHolds, OwnsVictim}
use Rattle.pager_model.specs.FrameStates.{FrameState, Taking, layout_of, used_at, held_by, claim_in, frame_of, HasNothing, IsVictim, taken, take_frame, held_given, give_page, give_if_used, with_claim, claimed, pin_range, dropped, dropped_in, counted, is_evictable}
use Rattle.pager_model.specs.Layouts.{Placing, placing, frame_in}
use Rattle.pager_model.proofs.Options.{none_from_is_none}
use Rattle.pager_laws.specs.Laid.{IsSound}
use Rattle.pager_laws.proofs.PageMoves.{GivesPage, GivesPage-give_page, place_in_layout}
use Rattle.pager_laws.proofs.PinnedPlaces.{claim-pinned, frame_of-pinned}
use Rattle.pager_laws.proofs.LayoutPlacing.{WasPlaced, WasPlaced-placing}
use Rattle.pager_model.proofs.Lists.{get_or-set_default}
use Rattle.pager_laws.proofs.StateSoundness.{used_if_noted, claim_from, claim_taken, claim_given, claim_claimed, taking_from, layout_of-taken, layout_of-claimed, IsSound-give_if_used}

-- What a move leaves of a processor's frame: where it has nothing it still has nothing, a held frame stays held, and a claimed
-- frame stays claimed, as the place of its page, or is held.
pub record Keeps (st after : FrameState) (c : ℕ) : Type 0 where
  pub nothing : HasNothing st c → HasNothing after c
  pub holds : (f : ℕ) → held_by st c ≡ Some f → held_by after c ≡ Some f
  pub claims : (f s p : ℕ) → claim_in (used_at st f) ≡ Some c → frame_of st s p ≡ Some f
      → (held_by after c ≡ Some f) ⊎ ((claim_in (used_at after f) ≡ Some c) × (frame_of after s p ≡ Some f))

-- so what it owns it still owns
pub Keeps-owns : (st after : FrameState) (c : ℕ) (holding : Bool) (victim : Option Victim) → Keeps st after c
    → OwnsVictim st c holding victim → OwnsVictim after c holding victim
Keeps-owns st after c true None keeps owns = keeps.nothing owns
Keeps-owns st after c false None keeps owns = keeps.nothing owns
Keeps-owns st after c true (Some victim) keeps owns = keeps.holds victim.frame owns
Keeps-owns st after c false (Some victim) keeps owns = elim owns.frame [
  | inl holds ↦ record { frame = inl (keeps.holds victim.frame holds) }
  | inr claims ↦ record { frame = keeps.claims victim.frame victim.space victim.page claims.0 claims.1 }
]

pub Keeps-same : (st : FrameState) (c : ℕ) → Keeps st st c
Keeps-same st c = record { nothing = λ nothing. nothing; holds = λ f holds. holds; claims = λ f s p claims is. inr (claims, is) }

-- one move after another
pub Keeps-then : (one two three : FrameState) (c : ℕ) → Keeps one two c → Keeps two three c → Keeps one three c
Keeps-then one two three c first second = record {
  nothing = λ nothing. second.nothing (first.nothing nothing);
  holds = λ f holds. second.holds f (first.holds f holds);
  claims = λ f s p claims is. elim (first.claims f s p claims is) [
    | inl holds ↦ inl (second.holds f holds)
    | inr still ↦ second.claims f s p still.0 still.1
  ];
}

-- a count of entries is no move
pub HasNothing-counted : (st : FrameState) (c : ℕ) → HasNothing st c → HasNothing (counted st) c
HasNothing-counted st c nothing = record { holds_none = nothing.holds_none; claims_none = nothing.claims_none }

pub Keeps-counted : (st : FrameState) (c : ℕ) → Keeps st (counted st) c
Keeps-counted st c = record { nothing = HasNothing-counted st c; holds = λ f holds. holds; claims = λ f s p claims is. inr (claims, is) }

-- Taking.

Keeps-taken : (st : FrameState) (space page : ℕ) (want : Want) (place : Placing) (c : ℕ) → frame_of st space page ≡ None
    → WasPlaced (layout_of st) place.layout space page place.frame → Keeps st (taken st want place) c
Keeps-taken st space page want place c none places = record {
  nothing = λ nothing. record {
    holds_none = nothing.holds_none;
    claims_none = λ f claims. nothing.claims_none f (claim_taken st want place f c claims);
  };
  holds = λ f holds. holds;
  claims = λ f s p claims is.
      let noted = claim_from (used_at st f) c claims in
      let other : f ≢ place.frame = λ same. (
      let used = used_if_noted st f (λ no_note. none-some noted.0 (sym no_note ∙ noted.1)) in
      false≢true (sym places.was_unused ∙ ap (λ k. get_or (layout_of st).used k false) (sym same) ∙ used)) in
      let apart : (eqb space s && eqb p page) ≡ false = elim (cases_Bool (eqb space s && eqb p page)) [
        | inl same ↦
            let parts = and_parts _ _ same in
            let here : frame_of st s p ≡ None = subst (λ q. frame_of st s q ≡ None) (sym (eqb-true p page parts.1))
            (subst (λ t. frame_of st t page ≡ None) (eqb-true space s parts.0) none) in
            absurd (none-some f (sym here ∙ is))
        | inr apart ↦ apart
      ] in
      let still : frame_of (taken st want place) s p ≡ frame_of st s p =
      ap (λ l. frame_in l s p) (layout_of-taken st space page want place places) ∙ places.pages s p
      ∙ cond-false _ (Some place.frame) (frame_of st s p) apart in
      inr (ap claim_in (get_or-set_other st.used place.frame f _ None other) ∙ claims, still ∙ is);
}

pub Keeps-take : (frames processors : ℕ) (st : FrameState) (space page : ℕ) (want : Want) (t : Taking) → IsSound frames processors st
    → frame_of st space page ≡ None → take_frame st space page want ≡ Some t → (c : ℕ) → Keeps st t.state c
Keeps-take frames processors st space page want t sound none takes c =
    let found = taking_from st want (placing st.entries space page want (layout_of st)) t takes in
    let places = WasPlaced-placing (layout_of st) st.entries space page want found.0 sound.laid none found.1 in
    subst (λ u. Keeps st u.state c) found.2 (Keeps-taken st space page want found.0 c none places)

-- Giving.

-- who claimed the frame holds it, and nobody else's hand changes
held_given-own : (o : Option ℕ) (frame : ℕ) (held : List (Option ℕ)) (c : ℕ) → o ≡ Some c → c < length held
    → get_or (held_given o frame held) c None ≡ Some frame
held_given-own o frame held c is known = ap (λ p. get_or (held_given p frame held) c None) is
    ∙ get_or-set_same held c (Some frame) None known

held_given-other : (o : Option ℕ) (frame : ℕ) (held : List (Option ℕ)) (c : ℕ) → (o ≡ Some c → ⊥)
    → get_or (held_given o frame held) c None ≡ get_or held c None
held_given-other None frame held c other = refl
held_given-other (Some d) frame held c other = get_or-set_other held d c (Some frame) None (λ same. other (ap Some (sym same)))

-- a page has the frame, in a state of the frames that is sound
pub record HasItsFrame (st : FrameState) (space page frame : ℕ) : Type 0 where
  pub frames : ℕ
  pub processors : ℕ
  pub sound : IsSound frames processors st
  pub is : frame_of st space page ≡ Some frame

module _ (st : FrameState) (space page frame c : ℕ) (has : HasItsFrame st space page frame) where
  gives : GivesPage st (give_page st space page) frame
  gives = GivesPage-give_page st space page frame has.sound.laid has.is

  held_now : held_by (give_page st space page) c ≡ get_or (held_given (claim_in (used_at st frame)) frame st.held) c None
  held_now = ap (λ held. get_or held c None) gives.held

  -- who claims the frame holds it then
  holds_claimed : claim_in (used_at st frame) ≡ Some c → held_by (give_page st space page) c ≡ Some frame
  holds_claimed claims =
      held_now ∙ held_given-own (claim_in (used_at st frame)) frame st.held c claims
      (omega (arith, (has.sound.claims_known frame c claims).0, has.sound.processors_known))

  pub Keeps-give_page : Keeps st (give_page st space page) c
  Keeps-give_page = record {
    nothing = λ nothing. record {
      holds_none = held_now ∙ held_given-other (claim_in (used_at st frame)) frame st.held c (nothing.claims_none frame)
          ∙ nothing.holds_none;
      claims_none = λ f claims. nothing.claims_none f (claim_given st frame f c
          (ap (λ used. claim_in (get_or used f None)) (sym gives.used) ∙ claims)).1;
    };
    holds = λ f holds.
        let no_claim : claim_in (used_at st frame) ≡ Some c → ⊥ =
        λ claims. none-some f (sym (has.sound.claims_known frame c claims).1 ∙ holds) in
        held_now ∙ held_given-other (claim_in (used_at st frame)) frame st.held c no_claim ∙ holds;
    claims = λ f s p claims at. elim (cases_eq f frame) [
      | inl same ↦ inl (holds_claimed (ap (λ g. claim_in (used_at st g)) (sym same) ∙ claims) ∙ ap Some (sym same))
      | inr other ↦
          let still : claim_in (used_at (give_page st space page) f) ≡ Some c =
          ap (λ used. claim_in (get_or used f None)) gives.used ∙ ap claim_in (get_or-set_other st.used frame f None None other) ∙ claims in
          inr (still, (gives.pages s p f).1 (other, at))
    ];
  }

  -- the victim's page gives its frame up, and its claimer holds it
  pub holds-given : (victim : Victim) → frame ≡ victim.frame → ClaimsOrHolds st c victim
      → held_by (give_page st space page) c ≡ Some victim.frame
  holds-given victim same owns = elim owns.frame [
    | inl holds ↦
        absurd ((has.sound.held_apart c victim.frame holds).1
        (place_in_layout (layout_of st) space page victim.frame (has.is ∙ ap Some same)))
    | inr claims ↦ holds_claimed (ap (λ f. claim_in (used_at st f)) same ∙ claims.0) ∙ ap Some same
  ]

Keeps-give_if_used : (frames processors : ℕ) (st : FrameState) (space page c : ℕ) → IsSound frames processors st
    → Keeps st (give_if_used space st page) c
Keeps-give_if_used frames processors st space page c sound = by_place (frame_of st space page) refl
  where
    by_place : (o : Option ℕ) → frame_of st space page ≡ o → Keeps st (give_if_used space st page) c
    by_place None none = subst (λ o. Keeps st (cond (is_some o) (give_page st space page) st) c) (sym none) (Keeps-same st c)
    by_place (Some frame) is =
        subst (λ o. Keeps st (cond (is_some o) (give_page st space page) st) c) (sym is)
        (Keeps-give_page st space page frame c (record { frames = frames; processors = processors; sound = sound; is = is }))

pub Keeps-give_each : (frames processors : ℕ) (space : ℕ) (pages : List ℕ) (st : FrameState) (c : ℕ) → IsSound frames processors st
    → Keeps st (fold (give_if_used space) st pages) c
Keeps-give_each frames processors space [] st c sound = Keeps-same st c
Keeps-give_each frames processors space (page ∷ pages) st c sound =
    let next = give_if_used space st page in
    Keeps-then st next (fold (give_if_used space) next pages) c (Keeps-give_if_used frames processors st space page c sound)
    (Keeps-give_each frames processors space pages next c (IsSound-give_if_used frames processors st space page sound))

-- Claiming.

-- a claim, or the end of one, of a frame that isn't this processor's
Keeps-reclaimed : (st : FrameState) (frame : ℕ) (claim : Option ℕ) (c : ℕ) → (claim ≡ Some c → ⊥)
    → (claim_in (used_at st frame) ≡ Some c → ⊥) → Keeps st (claimed st frame claim) c
Keeps-reclaimed st frame claim c not_now not_before = record {
  nothing = λ nothing. record {
    holds_none = nothing.holds_none;
    claims_none = λ f claims. elim (claim_claimed st frame claim f c claims) [
      | inl now ↦ not_now now.1
      | inr before ↦
          nothing.claims_none f before.1
    ];
  };
  holds = λ f holds. holds;
  claims = λ f s p claims is.
      let other : f ≢ frame = λ same. not_before (ap (λ g. claim_in (used_at st g)) (sym same) ∙ claims) in
      inr (
        ap claim_in (get_or-set_other st.used frame f _ None other) ∙ claims,
        ap (λ l. frame_in l s p) (layout_of-claimed st frame claim) ∙ is,
      );
}

-- a used place that may be paged out has no claim
pub unclaimed_place : (o : Option Used) → is_evictable o ≡ true → claim_in o ≡ None
unclaimed_place None evictable = refl
unclaimed_place (Some u) evictable = none_from_is_none u.claim (and_parts _ _ evictable).1

-- another processor claims its victim
pub Keeps-claimed : (st : FrameState) (space page frame d c : ℕ) → IsVictim st space page frame → c ≢ d
    → Keeps st (claimed st frame (Some d)) c
Keeps-claimed st space page frame d c victim other =
    Keeps-reclaimed st frame (Some d) c (λ same. other (sym (same_Some d c same)))
    (λ claims. none-some c (sym (unclaimed_place (used_at st frame) victim.evictable) ∙ claims))

-- another processor's claim ends
pub Keeps-unclaimed : (st : FrameState) (frame d c : ℕ) → claim_in (used_at st frame) ≡ Some d → c ≢ d → Keeps st (claimed st frame None) c
Keeps-unclaimed st frame d c claims other =
    Keeps-reclaimed st frame None c (λ none. none-some c none) (λ also. other (same_Some c d (sym also ∙ claims)))

-- a processor claims its victim
pub claims-claimed : (st : FrameState) (space page frame c : ℕ) → IsVictim st space page frame
    → ClaimsOrHolds (claimed st frame (Some c)) c (record { space = space; page = page; frame = frame })
claims-claimed st space page frame c victim =
    record {
      frame = inr (
        by_place (used_at st frame) refl,
        ap (λ l. frame_in l space page) (layout_of-claimed st frame (Some c))
            ∙ victim.place,
      );
    }
  where
    by_place : (o : Option Used) → used_at st frame ≡ o → claim_in (used_at (claimed st frame (Some c)) frame) ≡ Some c
    by_place None none = absurd (false≢true (sym (ap is_evictable none) ∙ victim.evictable))
    by_place (Some u) is =
        let known : frame < length st.used = elim (cases_lt frame (length st.used)) [
          | inl known ↦ known
          | inr past ↦ absurd (none-some u (sym (get_or_past st.used frame None past) ∙ is))
        ] in
        ap claim_in (get_or-set_same st.used frame (with_claim (Some c) (used_at st frame)) None known)
        ∙ ap (λ o. claim_in (with_claim (Some c) o)) is

-- a processor whose claim ended has nothing
pub nothing-unclaimed : (frames processors : ℕ) (st : FrameState) (frame c : ℕ) → IsSound frames processors st
    → claim_in (used_at st frame) ≡ Some c → HasNothing (claimed st frame None) c
nothing-unclaimed frames processors st frame c sound claims = record {
  holds_none = (sound.claims_known frame c claims).1;
  claims_none = λ f still. elim (claim_claimed st frame None f c still) [
    | inl now ↦ none-some c now.1
    | inr before ↦ before.0 (sound.claims_once f frame c before.1 claims)
  ];
}

-- Pinning.

-- a pin leaves every processor what it claims and holds
pub Keeps-pinned : (st : FrameState) (space first len : ℕ) (wired : Bool) (c : ℕ) → Keeps st (pin_range st space first len wired) c
Keeps-pinned st space first len wired c = record {
  nothing = λ nothing. record {
    holds_none = nothing.holds_none;
    claims_none = λ f claims. nothing.claims_none f (sym (claim-pinned st space first len wired f) ∙ claims);
  };
  holds = λ f holds. holds;
  claims = λ f s p claims is. inr (
    claim-pinned st space first len wired f ∙ claims,
    frame_of-pinned st space first len wired s p ∙ is,
  );
}

-- Dropping.

pub Keeps-dropped : (st : FrameState) (d c : ℕ) → c ≢ d → Keeps st (dropped st d) c
Keeps-dropped st d c other = by_hand (held_by st d)
  where
    by_hand : (o : Option ℕ) → Keeps st (dropped_in st d o) c
    by_hand None = Keeps-same st c
    by_hand (Some frame) =
        let still = get_or-set_other st.held d c None None other in
        record {
          nothing = λ nothing. record { holds_none = still ∙ nothing.holds_none; claims_none = nothing.claims_none };
          holds = λ f holds. still ∙ holds;
          claims = λ f s p claims is. inr (claims, is);
        }

-- a processor that dropped its frame has nothing
pub nothing-dropped : (frames processors : ℕ) (st : FrameState) (c frame : ℕ) → IsSound frames processors st → held_by st c ≡ Some frame
    → HasNothing (dropped st c) c
nothing-dropped frames processors st c frame sound holds =
    let hand : held_by (dropped_in st c (Some frame)) c ≡ None = get_or-set_default st.held c c None refl in
    subst (λ o. HasNothing (dropped_in st c o) c) (sym holds)
    (record { holds_none = hand; claims_none = λ f claims. none-some frame (sym (sound.claims_known f c claims).1 ∙ holds) })
