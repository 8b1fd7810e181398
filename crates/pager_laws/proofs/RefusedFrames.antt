-- Where a frame is refused none can be had: each is held, or under a page that is wired or whose frame is claimed.
use Rattle.std.proofs.Common.{◌≡◌, ◌≢◌, ◌<◌, ℕ, Bool, true, false, not, ◌&&◌, ◌||◌, List, length, get_or, is_some, Option, Some, None, inl, inr, refl, sym, ap, ◌∙◌}
use Rattle.std.specs.Option.{is_none}
use Rattle.std.proofs.lemmas.Bool.{cases_lt, false≢true, false_from_ne_true}
use Rattle.std.proofs.lemmas.List.{get_or_past}
use Rattle.std.proofs.lemmas.List.Folds.{list_any_at}
use Rattle.pager_model.specs.declared.reservation.Reservation.{Reservation}
use Rattle.pager_model.specs.declared.reservation.Used.{Used}
use Rattle.pager_model.specs.Agreement.{has_frame}
use Rattle.pager_model.specs.FrameStates.{FrameState, layout_of, used_at, is_evictable, IsRefused}
use Rattle.pager_model.specs.Headline.{is_kept_place, NoneToHave}
use Rattle.pager_model.specs.Layouts.{Layout, record_at}
use Rattle.pager_model.specs.Records.{is_used}
use Rattle.pager_laws.specs.Laid.{IsSound}
use Rattle.pager_laws.proofs.FullLayout.{EachFull, EachFull-from, used-full}
use Rattle.pager_laws.proofs.StateSoundness.{noted_if_used}

-- each place of a full layout is used
used_in_full : (l : Layout) (frame id : ℕ) → EachFull l → has_frame frame (record_at l id) ≡ true → is_used l.used frame ≡ true
used_in_full l frame id full has = at (record_at l id) refl
  where
    at : (o : Option Reservation) → record_at l id ≡ o → is_used l.used frame ≡ true
    at None none = absurd (false≢true (sym (ap (has_frame frame) none) ∙ has))
    at (Some r) is = used-full l frame id r full is (sym (ap (has_frame frame) is) ∙ has)

-- a used place that isn't evictable is wired or claimed
kept_place-from : (o : Option Used) → o ≢ None → is_evictable o ≡ false → is_kept_place o ≡ true
kept_place-from None noted kept = absurd (noted refl)
kept_place-from (Some u) noted kept = by_claim u.wired u.claim kept
  where
    by_claim : (wired : Bool) (claim : Option ℕ) → (not wired && is_none claim) ≡ false → (wired || is_some claim) ≡ true
    by_claim true claim is = refl
    by_claim false None is = absurd (false≢true (sym is))
    by_claim false (Some c) is = refl

-- a place that may be paged out is known
known_evictable : (used : List (Option Used)) (at : ℕ) → is_evictable (get_or used at None) ≡ true → at < length used
known_evictable used at may = elim (cases_lt at (length used)) [
  | inl known ↦ known
  | inr past ↦ absurd (false≢true (ap is_evictable (sym (get_or_past used at None past)) ∙ may))
]

-- where none may be claimed no place is evictable
not_evictable : (st : FrameState) (wired claimed held frame : ℕ) → IsRefused st wired claimed held → is_evictable (used_at st frame) ≡ false
not_evictable st wired claimed held frame refused =
    false_from_ne_true _ (λ may. false≢true (sym refused.no_victim ∙ list_any_at is_evictable st.used frame None
    (known_evictable st.used frame may) may))

pub NoneToHave-refused : (frames processors : ℕ) (st : FrameState) (wired claimed held : ℕ) → IsSound frames processors st
    → IsRefused st wired claimed held → NoneToHave frames st
NoneToHave-refused frames processors st wired claimed held sound refused frame known =
    let full = EachFull-from (layout_of st) refused.full in
    elim (sound.accounted frame known) [
      | inl within ↦ elim within [
        | inl free ↦ absurd (false≢true (sym (full.taken frame) ∙ free))
        | inr place ↦
            let noted = noted_if_used st frame (used_in_full (layout_of st) frame place.0 full place.1) in
            inr (kept_place-from (used_at st frame) noted (not_evictable st wired claimed held frame refused))
      ]
      | inr holds ↦ inl holds
    ]
