-- What the pool does itself tells of an entry whether the frames allow it.
use Rattle.std.proofs.Common.{◌≡◌, ◌<◌, ℕ, true, false, length, Option, Some, None, option_map, inl, inr, sym, ap, ◌∙◌, subst, arith}
use Rattle.std.specs.Option.{IsSomeAnd}
use Rattle.std.proofs.lemmas.Bool.{cases_lt, false≢true}
use Rattle.std.proofs.lemmas.List.{get_or_past}
use Rattle.std.proofs.lemmas.List.Folds.{list_any_at}
use Rattle.std.proofs.lemmas.Option.{none-some}
use Rattle.pager_model.specs.declared.entry.Victim.{Victim}
use Rattle.pager_model.specs.declared.entry.Want.{Want}
use Rattle.pager_model.specs.Agreement.{ClaimsOrHolds}
use Rattle.pager_model.specs.FrameStates.{FrameState, IsFull, IsVictim, Taking, taking, age_in, claim_in, frame_of, has_evictable, held_by, is_evictable, layout_of, take_frame, used_at}
use Rattle.pager_model.proofs.Options.{cases_Option}
use Rattle.pager_laws.proofs.LayoutPlacing.{placing-full}
use Rattle.pager_laws.proofs.PageMoves.{one_page}
use Rattle.followed_frames.specs.Ready.{IsReached}

pub full-takes_none : (st : FrameState) (space page frame : ℕ) (want : Want) → IsReached st → frame_of st space page ≡ None → IsFull st
    → IsSomeAnd (take_frame st space page want) (λ (t : Taking). t.frame ≡ frame) → ⊥
full-takes_none st space page frame want reached none full takes =
    let fails : take_frame st space page want ≡ None =
    ap (option_map (taking st want)) (placing-full (layout_of st) st.entries space page want reached.sound.laid none full) in
    subst (λ o. IsSomeAnd o (λ (t : Taking). t.frame ≡ frame)) fails takes

pub takes_other : (o : Option Taking) (frame : ℕ) (t : Taking) → o ≡ Some t → (t.frame ≡ frame → ⊥)
    → IsSomeAnd o (λ (u : Taking). u.frame ≡ frame) → ⊥
takes_other o frame t is differs takes = differs (subst (λ p. IsSomeAnd p (λ (u : Taking). u.frame ≡ frame)) is takes)

pub takes_this : (o : Option Taking) (frame : ℕ) (t : Taking) → o ≡ Some t → t.frame ≡ frame → IsSomeAnd o (λ (u : Taking). u.frame ≡ frame)
takes_this o frame t is same = subst (λ p. IsSomeAnd p (λ (u : Taking). u.frame ≡ frame)) (sym is) same

-- a place of which nothing is noted isn't evictable
noted_evictable : (st : FrameState) (frame : ℕ) → is_evictable (used_at st frame) ≡ true → used_at st frame ≡ None → ⊥
noted_evictable st frame may none = false≢true (sym (ap is_evictable none) ∙ may)

-- there is one victim
pub one_victim : (st : FrameState) (space page frame s p f : ℕ) → IsReached st → IsVictim st space page frame → IsVictim st s p f
    → (space ≡ s) × (page ≡ p) × (frame ≡ f)
one_victim st space page frame s p f reached one other =
    elim (cases_Option (used_at st frame)) [
      | inl none ↦ absurd (noted_evictable st frame one.evictable none)
      | inr some ↦ elim (cases_Option (used_at st f)) [
        | inl none ↦ absurd (noted_evictable st f other.evictable none)
        | inr also ↦
            let age : some.0.age ≡ also.0.age =
            omega (arith, one.least f other.evictable, other.least frame one.evictable, ap age_in some.1, ap age_in also.1) in
            let same : frame ≡ f = reached.sound.ages_differ frame f some.0 also.0 some.1 also.1 age in
            let pages = one_page (layout_of st) space page s p frame reached.sound.laid one.place (other.place ∙ ap Some (sym same)) in
            (pages.0, pages.1, same)
      ]
    ]

-- who claims a frame holds none
pub claimed-not_held : (st : FrameState) (c f frame : ℕ) → IsReached st → claim_in (used_at st f) ≡ Some c → held_by st c ≡ Some frame → ⊥
claimed-not_held st c f frame reached claims holds = none-some frame (sym ((reached.sound.claims_known f c claims).1) ∙ holds)

-- a frame that is claimed still is its page's
pub claimed-still : (st : FrameState) (c : ℕ) (victim : Victim) → IsReached st → ClaimsOrHolds st c victim → claim_in (used_at st victim.frame) ≡ Some c
    → frame_of st victim.space victim.page ≡ Some victim.frame
claimed-still st c victim reached owns claims = elim owns.frame [
  | inl held ↦ absurd (claimed-not_held st c victim.frame victim.frame reached claims held)
  | inr also ↦ also.1
]

-- where none may be claimed there is no victim
pub none_evictable : (st : FrameState) (space page frame : ℕ) → has_evictable st ≡ false → IsVictim st space page frame → ⊥
none_evictable st space page frame none victim =
    let known : frame < length st.used = elim (cases_lt frame (length st.used)) [
      | inl within ↦ within
      | inr past ↦ absurd (noted_evictable st frame victim.evictable (get_or_past st.used frame None past))
    ] in
    false≢true (sym none ∙ list_any_at is_evictable st.used frame None known victim.evictable)
