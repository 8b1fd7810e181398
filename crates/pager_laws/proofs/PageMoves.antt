-- What moves of the frames' state do to the places of pages.
use Rattle.std.proofs.Common.{◌≡◌, ◌≢◌, ◌↔◌, ℕ, zero, suc, ◌+◌, Bool, true, false, cond, eqb, ltb, ◌&&◌, set, map, fold, is_some, Option, Some, None, inl, inr, refl, sym, ap, subst, ◌∙◌, arith}
use Rattle.std.specs.List.{range_with_len}
use Rattle.std.proofs.lemmas.Bool.{cases_Bool, cases_eq, cases_lt, and_parts, and_from, false≢true, cond-true, cond-false, eq-eqb, eqb-true, ne_eqb, le-leb, lt-leb, lt-ltb, le-ltb}
use Rattle.std.proofs.lemmas.Option.{none-some, same_Some}
use Rattle.pager_model.specs.declared.reservation.Reservation.{Reservation}
use Rattle.pager_model.specs.Agreement.{has_frame}
use Rattle.pager_model.specs.FrameStates.{FrameState, layout_of, used_at, claim_in, frame_of, layout_given, held_given, given, given_in, give_page, give_if_used}
use Rattle.pager_model.specs.Layouts.{Layout, covers, frame_for, frame_in, record_at}
use Rattle.pager_model.specs.Records.{is_used}
use Rattle.pager_model.specs.Regions.{in_range}
use Rattle.pager_laws.specs.Laid.{IsLaid, IsSound, IsIn}
use Rattle.pager_laws.proofs.PagePlaces.{CoversPageOf-covers, has_frame_for, covering-is, frame_in-found, same_option}
use Rattle.pager_laws.proofs.LayoutRelease.{Gives, Gives-vacate, Gives-carve}
use Rattle.pager_laws.proofs.StateSoundness.{layout_of-given, IsSound-give_if_used}

-- a page's place is in the layout
pub place_in_layout : (l : Layout) (space page frame : ℕ) → frame_in l space page ≡ Some frame → IsIn l frame
place_in_layout l space page frame is =
    let place = frame_in-found l space page frame is in
    let mine = has_frame_for space page place.reservation place.covers_page in
    inr (place.id, ap (has_frame frame) place.is ∙ ap (λ f. has_frame f (Some place.reservation)) place.frame ∙ mine)

-- a place is that of one page
pub one_page : (l : Layout) (space page s p frame : ℕ) → IsLaid l → frame_in l space page ≡ Some frame → frame_in l s p ≡ Some frame
    → (space ≡ s) × (page ≡ p)
one_page l space page s p frame laid is also =
    let one = frame_in-found l space page frame is in
    let two = frame_in-found l s p frame also in
    let r = one.reservation in
    let has_one = ap (has_frame frame) one.is ∙ ap (λ f. has_frame f (Some r)) one.frame ∙ has_frame_for space page r one.covers_page in
    let has_two = ap (has_frame frame) two.is ∙ ap (λ f. has_frame f (Some two.reservation)) two.frame
    ∙ has_frame_for s p two.reservation two.covers_page in
    let same : two.reservation ≡ r = same_Some two.reservation r (sym two.is
    ∙ ap (record_at l) (laid.apart frame two.id one.id has_two has_one) ∙ one.is) in
    let first = CoversPageOf-covers space page r one.covers_page in
    let second = CoversPageOf-covers s p r (ap (covers s p) (sym same) ∙ two.covers_page) in
    let joined : frame_for page r ≡ frame_for p r = sym one.frame ∙ two.frame ∙ ap (frame_for p) same in
    (sym first.space_is ∙ second.space_is, omega (arith, joined, first.low, second.low))

-- A page's frame was given up: every other place stays its page's, and a processor that claimed it holds it.
pub record GivesPage (st after : FrameState) (frame : ℕ) : Type 0 where
  pub pages : (s p f : ℕ) → (frame_of after s p ≡ Some f) ↔ ((f ≢ frame) × (frame_of st s p ≡ Some f))
  pub used : after.used ≡ set st.used frame None
  pub held : after.held ≡ held_given (claim_in (used_at st frame)) frame st.held

GivesPage-given : (st : FrameState) (id frame : ℕ) (r : Reservation) → IsLaid (layout_of st) → record_at (layout_of st) id ≡ Some r
    → has_frame frame (Some r) ≡ true → is_used (layout_of st).used frame ≡ true → GivesPage st (given st frame r) frame
GivesPage-given st id frame r laid is has used = record { pages = by_claim (claim_in (used_at st frame)); used = refl; held = refl }
  where
    same : (in_after : ℕ → Type 0) (l : Layout) → Gives (layout_of st) l frame in_after → (s p f : ℕ)
        → (frame_in (record {
          sizes = l.sizes;
          free = l.free;
          records = l.records;
          used = map is_some (set st.used frame None);
        }) s p ≡ Some f) ↔ ((f ≢ frame) × (frame_of st s p ≡ Some f))
    same in_after l gives s p f =
        subst (λ m. (frame_in m s p ≡ Some f) ↔ ((f ≢ frame) × (frame_of st s p ≡ Some f)))
        (sym (layout_of-given l st frame in_after gives)) (gives.pages s p f)

    by_claim : (claim : Option ℕ) (s p f : ℕ)
        → (frame_in (record {
          sizes = (layout_given claim frame r (layout_of st)).sizes;
          free = (layout_given claim frame r (layout_of st)).free;
          records = (layout_given claim frame r (layout_of st)).records;
          used = map is_some (set st.used frame None);
        }) s p ≡ Some f) ↔ ((f ≢ frame) × (frame_of st s p ≡ Some f))
    by_claim None = same _ _ (Gives-vacate (layout_of st) id frame r laid is has used)
    by_claim (Some c) = same _ _ (Gives-carve (layout_of st) id frame r laid is has used)

pub GivesPage-give_page : (st : FrameState) (space page frame : ℕ) → IsLaid (layout_of st) → frame_of st space page ≡ Some frame
    → GivesPage st (give_page st space page) frame
GivesPage-give_page st space page frame laid is =
    let place = frame_in-found (layout_of st) space page frame is in
    let r = place.reservation in
    let covered = covering-is (layout_of st) space page place.id r laid place.is place.covers_page in
    let used : is_used (layout_of st).used (frame_for page r) ≡ true = ap (is_used (layout_of st).used) (sym place.frame) ∙ place.used in
    subst (λ o. GivesPage st (given_in st page o) frame) (sym covered)
    (subst (GivesPage st (given st (frame_for page r) r)) (sym place.frame)
    (GivesPage-given st place.id (frame_for page r) r laid place.is (has_frame_for space page r place.covers_page) used))

-- so the page has no place, and every other page keeps its own
pub frame_of-give_page : (st : FrameState) (space page frame : ℕ) → IsLaid (layout_of st) → frame_of st space page ≡ Some frame → (s p : ℕ)
    → frame_of (give_page st space page) s p ≡ cond (eqb space s && eqb p page) None (frame_of st s p)
frame_of-give_page st space page frame laid is s p =
    let gives = GivesPage-give_page st space page frame laid is in
    elim (cases_Bool (eqb space s && eqb p page)) [
      | inl here ↦
          let parts = and_parts _ _ here in
          let was : frame_of st s p ≡ Some frame =
          subst (λ t. frame_of st t p ≡ Some frame) (eqb-true space s parts.0)
          (subst (λ q. frame_of st space q ≡ Some frame) (sym (eqb-true p page parts.1)) is) in
          same_option (frame_of (give_page st space page) s p) None
          (λ f now. absurd (let had = (gives.pages s p f).0 now in had.0 (same_Some f frame (sym had.1 ∙ was))))
          (λ f none. absurd (none-some f none))
          ∙ sym (cond-true _ _ _ here)
      | inr other ↦
          same_option (frame_of (give_page st space page) s p) (frame_of st s p)
          (λ f now. ((gives.pages s p f).0 now).1)
          (λ f was. (gives.pages s p f).1 (
            λ same.
                let at = one_page (layout_of st) space page s p frame laid is (was ∙ ap Some same) in
                false≢true (sym other ∙ and_from _ _ (eq-eqb space s at.0) (eq-eqb p page (sym at.1))),
            was,
          ))
          ∙ sym (cond-false _ _ _ other)
    ]

-- a page that has a place gives it up
pub frame_of-give_if_used : (st : FrameState) (space page : ℕ) → IsLaid (layout_of st) → (s p : ℕ)
    → frame_of (give_if_used space st page) s p ≡ cond (eqb space s && eqb p page) None (frame_of st s p)
frame_of-give_if_used st space page laid s p = by_place (frame_of st space page) refl
  where
    by_place : (o : Option ℕ) → frame_of st space page ≡ o → frame_of (give_if_used space st page) s p
        ≡ cond (eqb space s && eqb p page) None (frame_of st s p)
    by_place (Some frame) is =
        subst (λ o. frame_of (cond (is_some o) (give_page st space page) st) s p ≡ cond (eqb space s && eqb p page) None (frame_of st s p))
        (sym is)
        (frame_of-give_page st space page frame laid is s p)
    by_place None none =
        subst (λ o. frame_of (cond (is_some o) (give_page st space page) st) s p ≡ cond (eqb space s && eqb p page) None (frame_of st s p))
        (sym none)
        (elim (cases_Bool (eqb space s && eqb p page)) [
          | inl here ↦
              let parts = and_parts _ _ here in
              subst (λ t. frame_of st t p ≡ None) (eqb-true space s parts.0)
              (subst (λ q. frame_of st space q ≡ None) (sym (eqb-true p page parts.1)) none)
              ∙ sym (cond-true _ _ _ here)
          | inr other ↦ sym (cond-false _ _ _ other)
        ])

-- an empty range has no page, and another one is its first page and the rest
in_range-none : (first p : ℕ) → in_range first 0 p ≡ false
in_range-none first p = elim (cases_lt p first) [
  | inl before ↦ ap (λ b. b && ltb p (first + 0)) (lt-leb first p before)
  | inr past ↦ ap (λ b. b && ltb p (first + 0)) (le-leb first p past) ∙ le-ltb p (first + 0) (omega (arith, past))
]

in_range-first : (first len p : ℕ) → p ≡ first → in_range first (suc len) p ≡ true
in_range-first first len p same = and_from _ _ (le-leb first p (omega (arith, same))) (lt-ltb p (first + suc len) (omega (arith, same)))

in_range-rest : (first len p : ℕ) → p ≢ first → in_range (first + 1) len p ≡ in_range first (suc len) p
in_range-rest first len p other = elim (cases_lt p first) [
  | inl before ↦ ap (λ b. b && ltb p (first + 1 + len)) (lt-leb (first + 1) p (omega (arith, before)))
      ∙ sym (ap (λ b. b && ltb p (first + suc len)) (lt-leb first p before))
  | inr past ↦
      let end : first + 1 + len ≡ first + suc len = omega arith in
      ap (λ b. b && ltb p (first + 1 + len)) (le-leb (first + 1) p (omega (arith, past, other)))
      ∙ ap (ltb p) end
      ∙ sym (ap (λ b. b && ltb p (first + suc len)) (le-leb first p past))
]

-- each page of a range gives its place up, where it has one
pub frame_of-give_each : (frames processors space first len : ℕ) (st : FrameState) → IsSound frames processors st → (s p : ℕ)
    → frame_of (fold (give_if_used space) st (range_with_len first len)) s p
    ≡ cond (eqb space s && in_range first len p) None (frame_of st s p)
frame_of-give_each frames processors space first zero st sound s p = by_space (eqb space s)
  where
    by_space : (b : Bool) → frame_of st s p ≡ cond (b && in_range first 0 p) None (frame_of st s p)
    by_space true = sym (cond-false (in_range first 0 p) None (frame_of st s p) (in_range-none first p))
    by_space false = refl
frame_of-give_each frames processors space first (suc len) st sound s p =
    frame_of-give_each frames processors space (first + 1) len (give_if_used space st first)
    (IsSound-give_if_used frames processors st space first sound) s p
    ∙ ap (cond (eqb space s && in_range (first + 1) len p) None) (frame_of-give_if_used st space first sound.laid s p)
    ∙ by_space (eqb space s)
  where
    by_page : (o : Option ℕ) → cond (in_range (first + 1) len p) None (cond (eqb p first) None o) ≡ cond (in_range first (suc len) p) None o
    by_page o = elim (cases_eq p first) [
      | inl same ↦
          ap (cond (in_range (first + 1) len p) None) (cond-true _ None o (eq-eqb p first same)) ∙ both (in_range (first + 1) len p) None
          ∙ sym (cond-true _ None o (in_range-first first len p same))
      | inr other ↦
          ap (cond (in_range (first + 1) len p) None) (cond-false _ None o (ne_eqb p first other))
          ∙ ap (λ b. cond b None o) (in_range-rest first len p other)
    ]
      where
        both : (b : Bool) (n : Option ℕ) → cond b n n ≡ n
        both true n = refl
        both false n = refl

    by_space : (b : Bool) → cond (b && in_range (first + 1) len p) None (cond (b && eqb p first) None (frame_of st s p))
        ≡ cond (b && in_range first (suc len) p) None (frame_of st s p)
    by_space true = by_page (frame_of st s p)
    by_space false = refl
