-- What a pin does to the used places of a range: it wires them, or does so no longer, and changes nothing else of them.
use Rattle.std.proofs.Common.{◌≡◌, ℕ, Bool, true, false, cond, ◌||◌, find, List, [], ◌∷◌, length, get_or, set, map, fold, is_some, Option, Some, None, inl, inr, refl, sym, ap, subst, ◌∙◌}
use Rattle.std.specs.List.{range_with_len, list_any}
use Rattle.std.proofs.Math.Seq.{map-set_same}
use Rattle.std.proofs.lemmas.Bool.{cases_Bool, cases_eq, cases_lt, eq-eqb, ne_eqb, false≢true}
use Rattle.std.proofs.lemmas.List.{get_or-set_same, get_or-set_other, get_or_past, set_past}
use Rattle.std.proofs.lemmas.Option.{none-some, same_Some}
use Rattle.pager_model.specs.Options.{is_that}
use Rattle.pager_model.specs.declared.reservation.Used.{Used}
use Rattle.pager_model.specs.FrameStates.{FrameState, layout_of, used_at, claim_in, frame_of, is_wired_place, with_wired, wire_place, wire_page, pin_range, is_claimed_page, is_claimed_in, lowest_claimed}
use Rattle.pager_model.specs.Layouts.{Layout, frame_in}

-- Notes.

-- wired twice is wired once
wired_twice : (wired : Bool) (o : Option Used) → with_wired wired (with_wired wired o) ≡ with_wired wired o
wired_twice wired None = refl
wired_twice wired (Some u) = refl

-- a place keeps its claim
pub claim-wired : (wired : Bool) (o : Option Used) → claim_in (with_wired wired o) ≡ claim_in o
claim-wired wired None = refl
claim-wired wired (Some u) = refl

still_some : (wired : Bool) (o : Option Used) → is_some (with_wired wired o) ≡ is_some o
still_some wired None = refl
still_some wired (Some u) = refl

-- and its age
age-wired : (wired : Bool) (o : Option Used) (u : Used) → with_wired wired o ≡ Some u → (v : Used) × (o ≡ Some v) × (v.age ≡ u.age)
age-wired wired None u is = absurd (none-some u is)
age-wired wired (Some v) u is = (v, refl, ap (λ w. w.age) (same_Some _ u is))

-- one that is wired no longer isn't
unwired : (o : Option Used) → is_wired_place (with_wired false o) ≡ false
unwired None = refl
unwired (Some u) = refl

-- and a used one that was wired is
pub wired_place : (wired : Bool) (o : Option Used) → is_some o ≡ true → is_wired_place (with_wired wired o) ≡ wired
wired_place wired None some = absurd (false≢true some)
wired_place wired (Some u) some = refl

-- Lists of notes.

-- what is noted of a frame that was written
at_frame : (wired : Bool) (used : List (Option Used)) (g : ℕ)
    → get_or (set used g (with_wired wired (get_or used g None))) g None ≡ with_wired wired (get_or used g None)
at_frame wired used g = elim (cases_lt g (length used)) [
  | inl known ↦ get_or-set_same used g (with_wired wired (get_or used g None)) None known
  | inr past ↦
      ap (λ us. get_or us g None) (set_past used g (with_wired wired (get_or used g None)) past) ∙ get_or_past used g None past
      ∙ sym (ap (with_wired wired) (get_or_past used g None past))
]

-- the same frames are used places
pub same-place : (wired : Bool) (used : List (Option Used)) (o : Option ℕ) → map is_some (wire_place wired used o) ≡ map is_some used
same-place wired used None = refl
same-place wired used (Some g) =
    map-set_same is_some used g (with_wired wired (get_or used g None)) None (still_some wired (get_or used g None))

-- the frame is the used place of one of the pages
abbrev pub is_place_of : FrameState → ℕ → List ℕ → ℕ → Bool
is_place_of st space pages f = list_any (λ p. is_that f (frame_of st space p)) pages

-- what is noted of a frame then: it is wired, or no longer, where it is such a place
module _ (st : FrameState) (space : ℕ) (wired : Bool) where
  noted-pages : (pages : List ℕ) (used : List (Option Used)) (f : ℕ)
      → get_or (fold (wire_page (layout_of st) space wired) used pages) f None
      ≡ cond (is_place_of st space pages f) (with_wired wired (get_or used f None)) (get_or used f None)
  noted-pages [] used f = refl
  noted-pages (page ∷ pages) used f =
      noted-pages pages (wire_page (layout_of st) space wired used page) f ∙ by_place (frame_of st space page)
    where
      once : (b : Bool) (o : Option Used) → cond b (with_wired wired (with_wired wired o)) (with_wired wired o) ≡ with_wired wired o
      once true o = wired_twice wired o
      once false o = refl

      by_place : (o : Option ℕ)
          → cond (is_place_of st space pages f) (with_wired wired (get_or (wire_place wired used o) f None)) (get_or (wire_place wired used o) f None)
          ≡ cond (is_that f o || is_place_of st space pages f) (with_wired wired (get_or used f None)) (get_or used f None)
      by_place None = refl
      by_place (Some g) = elim (cases_eq g f) [
        | inl same ↦
            let now : get_or (wire_place wired used (Some g)) f None ≡ with_wired wired (get_or used f None) =
            subst (λ k. get_or (set used g (with_wired wired (get_or used g None))) k None ≡ with_wired wired (get_or used k None)) same
            (at_frame wired used g) in
            ap (λ o. cond (is_place_of st space pages f) (with_wired wired o) o) now
            ∙ once (is_place_of st space pages f) (get_or used f None)
            ∙ sym (ap (λ b. cond (b || is_place_of st space pages f) (with_wired wired (get_or used f None)) (get_or used f None)) (eq-eqb g f same))
        | inr other ↦
            ap (λ o. cond (is_place_of st space pages f) (with_wired wired o) o)
            (get_or-set_other used g f (with_wired wired (get_or used g None)) None (λ same. other (sym same)))
            ∙ sym (ap (λ b. cond (b || is_place_of st space pages f) (with_wired wired (get_or used f None)) (get_or used f None)) (ne_eqb g f other))
      ]

  -- the same frames are used places
  pub same-places : (pages : List ℕ) (used : List (Option Used))
      → map is_some (fold (wire_page (layout_of st) space wired) used pages) ≡ map is_some used
  same-places [] used = refl
  same-places (page ∷ pages) used =
      same-places pages (wire_page (layout_of st) space wired used page) ∙ same-place wired used (frame_of st space page)

  abbrev NoneClaimed : List ℕ → ℕ → Type 0
  NoneClaimed pages f = find (is_claimed_page (layout_of st) st.used space) pages ≡ None → is_place_of st space pages f ≡ true → claim_in (used_at st f) ≡ None

  -- no place is claimed where no page has a claimed one
  none-claimed : (pages : List ℕ) (f : ℕ) → NoneClaimed pages f
  none-claimed [] f none is = absurd (false≢true is)
  none-claimed (page ∷ pages) f none is = by_claim (none-claimed pages f) (is_claimed_page (layout_of st) st.used space page) refl none
    where
      no_claim : (o : Option ℕ) → is_some o ≡ false → o ≡ None
      no_claim None is = refl
      no_claim (Some c) is = absurd (false≢true (sym is))

      by_place : NoneClaimed pages f → (o : Option ℕ) → is_claimed_in st.used o ≡ false → find (is_claimed_page (layout_of st) st.used space) pages ≡ None
          → (is_that f o || is_place_of st space pages f) ≡ true → claim_in (used_at st f) ≡ None
      by_place later None free none at = later none at
      by_place later (Some g) free none at = elim (cases_eq g f) [
        | inl same ↦ ap (λ k. claim_in (used_at st k)) (sym same) ∙ no_claim (claim_in (used_at st g)) free
        | inr other ↦ later none (sym (ap (λ b. b || is_place_of st space pages f) (ne_eqb g f other)) ∙ at)
      ]

      by_claim : NoneClaimed pages f → (b : Bool) → is_claimed_page (layout_of st) st.used space page ≡ b
          → cond b (Some page) (find (is_claimed_page (layout_of st) st.used space) pages) ≡ None
          → claim_in (used_at st f) ≡ None
      by_claim later true claimed found = absurd (none-some page (sym found))
      by_claim later false free found = by_place later (frame_of st space page) free found is

-- Pins.

-- the used place of one of the pages of a range
abbrev pub is_pinned : FrameState → ℕ → ℕ → ℕ → ℕ → Bool
is_pinned st space first len f = is_place_of st space (range_with_len first len) f

module _ (st : FrameState) (space first len : ℕ) (wired : Bool) where
  abbrev pinned : FrameState
  pinned = pin_range st space first len wired

  pub used_at-pinned : (f : ℕ) → used_at pinned f
      ≡ cond (is_pinned st space first len f) (with_wired wired (used_at st f)) (used_at st f)
  used_at-pinned f = noted-pages st space wired (range_with_len first len) st.used f

  -- a pin doesn't change the layout
  pub layout_of-pinned : layout_of pinned ≡ layout_of st
  layout_of-pinned =
      ap (λ used. record { sizes = st.sizes; free = st.free; records = st.records; used = used })
      (same-places st space wired (range_with_len first len) st.used)

  pub frame_of-pinned : (s p : ℕ) → frame_of pinned s p ≡ frame_of st s p
  frame_of-pinned s p = ap (λ (l : Layout). frame_in l s p) layout_of-pinned

  -- nor a claim
  pub claim-pinned : (f : ℕ) → claim_in (used_at pinned f) ≡ claim_in (used_at st f)
  claim-pinned f = ap claim_in (used_at-pinned f) ∙ by_place (is_pinned st space first len f)
    where
      by_place : (b : Bool) → claim_in (cond b (with_wired wired (used_at st f)) (used_at st f)) ≡ claim_in (used_at st f)
      by_place true = claim-wired wired (used_at st f)
      by_place false = refl

  -- nor an age
  pub age-pinned : (f : ℕ) (u : Used) → used_at pinned f ≡ Some u → (v : Used) × (used_at st f ≡ Some v) × (v.age ≡ u.age)
  age-pinned f u is = by_place (is_pinned st space first len f) (sym (used_at-pinned f) ∙ is)
    where
      by_place : (b : Bool) → cond b (with_wired wired (used_at st f)) (used_at st f) ≡ Some u
          → (v : Used) × (used_at st f ≡ Some v) × (v.age ≡ u.age)
      by_place true is = age-wired wired (used_at st f) u is
      by_place false is = (u, is, refl)

  -- a claimed place isn't wired by a pin that finds none claimed
  pub unwired-pinned : (f c : ℕ) → (wired ≡ true → lowest_claimed st space first len ≡ None) → claim_in (used_at st f) ≡ Some c
      → is_wired_place (used_at st f) ≡ false → is_wired_place (used_at pinned f) ≡ false
  unwired-pinned f c may claims was =
      ap is_wired_place (used_at-pinned f) ∙ elim (cases_Bool (is_pinned st space first len f)) [
        | inl here ↦
            ap (λ b. is_wired_place (cond b (with_wired wired (used_at st f)) (used_at st f))) here
            ∙ by_flag wired refl here
        | inr other ↦ ap (λ b. is_wired_place (cond b (with_wired wired (used_at st f)) (used_at st f))) other ∙ was
      ]
    where
      by_flag : (b : Bool) → wired ≡ b → is_pinned st space first len f ≡ true → is_wired_place (with_wired wired (used_at st f)) ≡ false
      by_flag true is here =
          absurd (none-some c (sym (none-claimed st space wired (range_with_len first len) f (may is) here) ∙ claims))
      by_flag false is here = ap (λ b. is_wired_place (with_wired b (used_at st f))) is ∙ unwired (used_at st f)
