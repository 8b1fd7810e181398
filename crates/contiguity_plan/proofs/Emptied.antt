-- What carrying out a plan does: after its pages gave their frames up each frame of its extent is free or an unused place.
use Rattle.std.proofs.Common.{◌≡◌, ◌≢◌, ◌≤◌, ◌<◌, ℕ, zero, suc, ◌+◌, ◌^◌, Bool, true, false, ◌||◌, not, List, [], ◌∷◌, length, get_or, map, filter, count_by, is_some, Option, Some, None, IfSome, inl, inr, refl, sym, ap, subst, ◌∙◌, arith}
use Rattle.std.specs.List.{range_with_len, list_any}
use Rattle.std.specs.List.Sorted.{IsPermutation}
use Rattle.std.proofs.lemmas.Bool.{cases_Bool, cases_eq, cases_lt, cond-true, cond-false, eq-eqb, ne_eqb, false≢true}
use Rattle.std.proofs.lemmas.List.{get_or-set_other, get_or_past}
use Rattle.std.proofs.lemmas.List.Folds.{list_any_at}
use Rattle.std.proofs.lemmas.List.Sorted.{sum_by-IsPermutation}
use Rattle.std.proofs.lemmas.List.Sums.{sum_by-cons}
use Rattle.std.proofs.lemmas.Option.{none-some}
use Rattle.pager_model.specs.Agreement.{has_frame}
use Rattle.pager_model.specs.FrameStates.{FrameState, layout_of, used_at, held_by, claim_in, frame_of, held_given, give_page, is_wired_place, is_claimed_place}
use Rattle.pager_model.specs.Options.{is_that}
use Rattle.pager_model.proofs.CountLemmas.{weight}
use Rattle.pager_model.proofs.Lists.{get_or-set_default}
use Rattle.pager_model.proofs.Ranges.{list_all-range}
use Rattle.pager_laws.specs.Laid.{IsLaid, IsSound}
use Rattle.pager_laws.proofs.PageMoves.{GivesPage, GivesPage-give_page}
use Rattle.pager_laws.proofs.Partition.{count-once, is_that-same}
use Rattle.pager_laws.proofs.StateSoundness.{IsSound-give_page}
use Rattle.contiguity_plan.specs.declared.plan.PageOf.{PageOf}
use Rattle.contiguity_plan.specs.declared.plan.Plan.{Plan}
use Rattle.contiguity_plan.specs.Emptying.{is_fixed, is_used_frame, MayBeEmptied, AreItsPages, IsPlanned, given_up, Empties}

count-cons : {X : Type 0} (p : X → Bool) (x : X) (xs : List X) → count_by p (x ∷ xs) ≡ weight (p x) + count_by p xs
count-cons p x xs = sum_by-cons (λ y. weight (p y)) x xs

count-map : {X Y : Type 0} (p : Y → Bool) (f : X → Y) (xs : List X) → count_by p (map f xs) ≡ count_by (λ x. p (f x)) xs
count-map p f [] = refl
count-map p f (x ∷ xs) = count-cons p (f x) (map f xs) ∙ ap (λ n. weight (p (f x)) + n) (count-map p f xs)
    ∙ sym (count-cons (λ y. p (f y)) x xs)

-- how many of the pages have the frame
abbrev having : FrameState → ℕ → List PageOf → ℕ
having st f ps = count_by (λ q. is_that f (frame_of st q.space q.page)) ps

-- each of the pages has a frame that nobody claims and that none of those after it has
AreLoose : FrameState → List PageOf → Type 0
AreLoose st [] = Unit {0}
AreLoose st (p ∷ ps) = (f : ℕ) × (frame_of st p.space p.page ≡ Some f) × (claim_in (used_at st f) ≡ None) × (having st f ps ≡ 0)
    × AreLoose st ps

-- the page has no frame, or one that is claimed
is_bad : FrameState → Option ℕ → Bool
is_bad st None = true
is_bad st (Some f) = is_some (claim_in (used_at st f))

AreLoose-from : (st : FrameState) (ps : List PageOf) → ((f : ℕ) → having st f ps ≤ 1)
    → count_by (λ (q : PageOf). is_bad st (frame_of st q.space q.page)) ps ≡ 0 → AreLoose st ps
unfolding AreLoose is_bad
AreLoose-from st [] once good = tt
AreLoose-from st (p ∷ ps) once good = by_place (frame_of st p.space p.page) refl
    (AreLoose-from st ps
    (λ f.
    let all = once f in
    let split = count-cons (λ (q : PageOf). is_that f (frame_of st q.space q.page)) p ps in
    omega (arith, all, split))
    (let split = count-cons (λ (q : PageOf). is_bad st (frame_of st q.space q.page)) p ps in omega (arith, good, split)))
  where
    head : weight (is_bad st (frame_of st p.space p.page)) ≡ 0
    head = let split = count-cons (λ (q : PageOf). is_bad st (frame_of st q.space q.page)) p ps in omega (arith, good, split)

    light : (b : Bool) → weight b ≡ 0 → b ≡ false
    light true h = absurd (omega (arith, h))
    light false h = refl

    unclaimed : (o : Option ℕ) → is_some o ≡ false → o ≡ None
    unclaimed None h = refl
    unclaimed (Some c) h = absurd (false≢true (sym h))

    by_place : (o : Option ℕ) → frame_of st p.space p.page ≡ o → AreLoose st ps → AreLoose st (p ∷ ps)
    by_place None is rest = absurd (let h : weight true ≡ 0 = ap (λ o. weight (is_bad st o)) (sym is) ∙ head in omega (arith, h))
    by_place (Some f) is rest =
        let free = light (is_some (claim_in (used_at st f))) (ap (λ o. weight (is_bad st o)) (sym is) ∙ head) in
        let all = once f in
        let split = count-cons (λ (q : PageOf). is_that f (frame_of st q.space q.page)) p ps in
        let mine : weight (is_that f (frame_of st p.space p.page)) ≡ 1 = ap (λ o. weight (is_that f o)) is ∙ ap weight (eq-eqb f f refl) in
        (f, is, unclaimed (claim_in (used_at st f)) free, omega (arith, all, split, mine), rest)

-- What one page's giving up leaves.
module _ (st : FrameState) (p : PageOf) (f : ℕ) (laid : IsLaid (layout_of st))
    (is : frame_of st p.space p.page ≡ Some f) (free : claim_in (used_at st f) ≡ None) where
  gives : GivesPage st (give_page st p.space p.page) f
  gives = GivesPage-give_page st p.space p.page f laid is

  held_same : (give_page st p.space p.page).held ≡ st.held
  held_same = gives.held ∙ ap (λ o. held_given o f st.held) free

  none_stays : (g : ℕ) → used_at st g ≡ None → used_at (give_page st p.space p.page) g ≡ None
  none_stays g none = ap (λ u. get_or u g None) gives.used ∙ elim (cases_eq g f) [
    | inl same ↦ get_or-set_default st.used f g None same
    | inr other ↦ get_or-set_other st.used f g None None other ∙ none
  ]

  none_here : used_at (give_page st p.space p.page) f ≡ None
  none_here = ap (λ u. get_or u f None) gives.used ∙ get_or-set_default st.used f f None refl

  other_used : (g : ℕ) → g ≢ f → used_at (give_page st p.space p.page) g ≡ used_at st g
  other_used g other = ap (λ u. get_or u g None) gives.used ∙ get_or-set_other st.used f g None None other

  same_that : (g : ℕ) (q : PageOf) → g ≢ f
      → is_that g (frame_of (give_page st p.space p.page) q.space q.page) ≡ is_that g (frame_of st q.space q.page)
  same_that g q other = elim (cases_Bool (is_that g (frame_of st q.space q.page))) [
    | inl passes ↦
        let at = (gives.pages q.space q.page g).1 (other, is_that-same g (frame_of st q.space q.page) passes) in
        ap (is_that g) at ∙ eq-eqb g g refl ∙ sym passes
    | inr fails ↦ elim (cases_Bool (is_that g (frame_of (give_page st p.space p.page) q.space q.page))) [
      | inl now ↦
          let was = ((gives.pages q.space q.page g).0 (is_that-same g (frame_of (give_page st p.space p.page) q.space q.page) now)).1 in
          absurd (false≢true (sym fails ∙ ap (is_that g) was ∙ eq-eqb g g refl))
      | inr not_now ↦ not_now ∙ sym fails
    ]
  ]

  having_same : (g : ℕ) (qs : List PageOf) → g ≢ f → having (give_page st p.space p.page) g qs ≡ having st g qs
  having_same g [] other = refl
  having_same g (q ∷ qs) other =
      count-cons (λ (r : PageOf). is_that g (frame_of (give_page st p.space p.page) r.space r.page)) q qs
      ∙ ap (λ b. weight b + having (give_page st p.space p.page) g qs) (same_that g q other)
      ∙ ap (λ n. weight (is_that g (frame_of st q.space q.page)) + n) (having_same g qs other)
      ∙ sym (count-cons (λ (r : PageOf). is_that g (frame_of st r.space r.page)) q qs)

  loose_after : (qs : List PageOf) → having st f qs ≡ 0 → AreLoose st qs → AreLoose (give_page st p.space p.page) qs
  unfolding AreLoose
  loose_after [] apart loose = tt
  loose_after (q ∷ qs) apart loose =
      let split = count-cons (λ (r : PageOf). is_that f (frame_of st r.space r.page)) q qs in
      let g = loose.0 in
      let other : g ≢ f = λ same.
      (let mine : weight (is_that f (frame_of st q.space q.page)) ≡ 1 = ap (λ o. weight (is_that f o)) (loose.1 ∙ ap Some same)
      ∙ ap weight (eq-eqb f f refl) in
      absurd (omega (arith, apart, split, mine))) in (
        g,
        (gives.pages q.space q.page g).1 (other, loose.1),
        ap claim_in (other_used g other) ∙ loose.2,
        having_same g qs other ∙ loose.3,
        loose_after qs (omega (arith, apart, split)) loose.4,
      )

-- What the giving up of all of them leaves.
record GivenUp (frames processors : ℕ) (st after : FrameState) (ps : List PageOf) : Type 0 where
  pub sound : IsSound frames processors after
  pub held : after.held ≡ st.held
  pub none : (g : ℕ) → used_at st g ≡ None → used_at after g ≡ None
  pub given : (g : ℕ) → 1 ≤ having st g ps → used_at after g ≡ None

GivenUp-all : (frames processors : ℕ) (ps : List PageOf) (st : FrameState) → IsSound frames processors st → AreLoose st ps
    → GivenUp frames processors st (given_up st ps) ps
unfolding AreLoose
GivenUp-all frames processors [] st sound loose =
    record { sound = sound; held = refl; none = λ g none. none; given = λ g some. absurd (omega (arith, some)) }
GivenUp-all frames processors (p ∷ ps) st sound loose =
    let f = loose.0 in
    let next = give_page st p.space p.page in
    let rest = GivenUp-all frames processors ps next (IsSound-give_page frames processors st p.space p.page f sound loose.1)
    (loose_after st p f sound.laid loose.1 loose.2 ps loose.3 loose.4) in
    record {
      sound = rest.sound;
      held = rest.held ∙ held_same st p f sound.laid loose.1 loose.2;
      none = λ g none. rest.none g (none_stays st p f sound.laid loose.1 loose.2 g none);
      given = λ g some. elim (cases_eq g f) [
        | inl same ↦ rest.none g (ap (used_at next) same ∙ none_here st p f sound.laid loose.1 loose.2)
        | inr other ↦
            let split = count-cons (λ (r : PageOf). is_that g (frame_of st r.space r.page)) p ps in
            let elsewhere : weight (is_that g (frame_of st p.space p.page)) ≡ 0 = ap (λ o. weight (is_that g o)) loose.1
            ∙ ap weight (ne_eqb f g (λ same. other (sym same))) in
            let same = having_same st p f sound.laid loose.1 loose.2 g ps other in
            rest.given g (omega (arith, some, split, elsewhere, same))
      ];
    }

-- Counts over the used frames of an extent.

-- where no used frame of the range is bad, none is counted
good_in : (used : ℕ → Bool) (bad : Option ℕ → Bool) (a n : ℕ) → ((f : ℕ) → a ≤ f → f < a + n → bad (Some f) ≡ false)
    → count_by bad (map Some (filter used (range_with_len a n))) ≡ 0
good_in used bad a zero good = refl
good_in used bad a (suc n) good =
    let rest = filter used (range_with_len (a + 1) n) in
    let later = good_in used bad (a + 1) n (λ f low high. good f (omega (arith, low)) (omega (arith, high))) in
    elim (cases_Bool (used a)) [
      | inl passes ↦
          let split = ap (λ l. count_by bad (map Some l)) (cond-true (used a) (a ∷ rest) rest passes)
          ∙ count-cons bad (Some a) (map Some rest) in
          let mine : weight (bad (Some a)) ≡ 0 = ap weight (good a (omega arith) (omega arith)) in
          omega (arith, split, mine, later)
      | inr fails ↦ ap (λ l. count_by bad (map Some l)) (cond-false (used a) (a ∷ rest) rest fails) ∙ later
    ]

-- a frame of a range is counted once where it is used, and no frame twice
once_in : (used : ℕ → Bool) (f a n : ℕ)
    → (count_by (is_that f) (map Some (filter used (range_with_len a n))) ≤ 1)
    × (a ≤ f → f < a + n → used f ≡ true → 1 ≤ count_by (is_that f) (map Some (filter used (range_with_len a n))))
once_in used f a zero = (omega arith, λ low high is. absurd (omega (arith, low, high)))
once_in used f a (suc n) = elim (cases_Bool (used a)) [
  | inl passes ↦
      let rest = filter used (range_with_len (a + 1) n) in
      let split = ap (λ l. count_by (is_that f) (map Some l)) (cond-true (used a) (a ∷ rest) rest passes)
      ∙ count-cons (is_that f) (Some a) (map Some rest) in
      elim (cases_eq a f) [
        | inl same ↦
            let mine : weight (is_that f (Some a)) ≡ 1 = ap weight (eq-eqb a f same) in
            let after = good_in used (is_that f) (a + 1) n (λ g low high. ne_eqb g f (λ here. absurd (omega (arith, same, here, low)))) in
            (omega (arith, split, mine, after), λ low high is. omega (arith, split, mine, after))
        | inr other ↦
            let mine : weight (is_that f (Some a)) ≡ 0 = ap weight (ne_eqb a f other) in
            let later = once_in used f (a + 1) n in (
              omega (arith, split, mine, later.0),
              λ low high is. let some = later.1 (omega (arith, low, other)) (omega (arith, high)) is in
                  omega (arith, split, mine, some),
            )
      ]
  | inr fails ↦
      let rest = filter used (range_with_len (a + 1) n) in
      let split = ap (λ l. count_by (is_that f) (map Some l)) (cond-false (used a) (a ∷ rest) rest fails) in
      let later = once_in used f (a + 1) n in (
        omega (arith, split, later.0),
        λ low high is.
            let other : a ≢ f = λ same. false≢true (sym fails ∙ ap used same ∙ is) in
            let some = later.1 (omega (arith, low, other)) (omega (arith, high)) is in omega (arith, split, some),
      )
]

any_held : (held : List (Option ℕ)) (c f : ℕ) → get_or held c None ≡ Some f → list_any (is_that f) held ≡ true
any_held held c f is = elim (cases_lt c (length held)) [
  | inl below ↦ list_any_at (is_that f) held c None below (ap (is_that f) is ∙ eq-eqb f f refl)
  | inr past ↦ absurd (none-some f (sym (get_or_past held c None past) ∙ is))
]

-- a frame that isn't fixed is neither claimed nor held
loose_parts : (a b c : Bool) → not ((a || b) || c) ≡ true → (b ≡ false) × (c ≡ false)
loose_parts false false false h = (refl, refl)
loose_parts false false true h = absurd (false≢true h)
loose_parts false true c h = absurd (false≢true h)
loose_parts true b c h = absurd (false≢true h)

module _ (frames processors : ℕ) (st : FrameState) (sound : IsSound frames processors st) (plan : Plan)
    (may : MayBeEmptied st frames plan.extent.size plan.extent.first)
    (its : AreItsPages st plan.extent.size plan.extent.first plan.pages.items) where
  loose_at : (f : ℕ) → plan.extent.first ≤ f → f < plan.extent.first + 8 ^ plan.extent.size
      → (is_claimed_place (used_at st f) ≡ false) × (list_any (is_that f) st.held ≡ false)
  loose_at f low high = loose_parts (is_wired_place (used_at st f)) (is_claimed_place (used_at st f)) (list_any (is_that f) st.held)
      ((list_all-range (λ g. not (is_fixed st g)) plan.extent.first (8 ^ plan.extent.size)).0 may.loose f low high)

  counted_in : (test : Option ℕ → Bool) (order : List PageOf) → IsPermutation plan.pages.items order
      → count_by (λ (q : PageOf). test (frame_of st q.space q.page)) order
      ≡ count_by test (map Some (filter (is_used_frame st) (range_with_len plan.extent.first (8 ^ plan.extent.size))))
  counted_in test order permuted =
      sum_by-IsPermutation (λ (q : PageOf). weight (test (frame_of st q.space q.page))) plan.pages.items order permuted
      ∙ sym (count-map test (λ (q : PageOf). frame_of st q.space q.page) plan.pages.items)
      ∙ ap (count_by test) its

  emptied : Empties st plan
  unfolding is_bad
  emptied order frame permuted low high =
      let used = is_used_frame st in
      let loose = AreLoose-from st order
      (λ f. let same = counted_in (is_that f) order permuted in let one = (once_in used f plan.extent.first (8 ^ plan.extent.size)).0 in
      omega (arith, same, one))
      (counted_in (is_bad st) order permuted ∙ good_in used (is_bad st) plan.extent.first (8 ^ plan.extent.size)
      (λ f low high. (loose_at f low high).0)) in
      let all = GivenUp-all frames processors order st sound loose in
      let after = given_up st order in
      let unused : used_at after frame ≡ None = by_use (used_at st frame) refl all in
      elim (all.sound.accounted frame (omega (arith, high, may.within))) [
        | inl within ↦ elim within [
          | inl free ↦ inl free
          | inr place ↦ inr (
            count-once (has_frame frame) after.records None place.0 refl place.1
                (λ other also. all.sound.laid.apart frame other place.0 also place.1),
            unused,
          )
        ]
        | inr holds ↦
            let was : held_by st holds.0 ≡ Some frame = ap (λ h. get_or h holds.0 None) (sym all.held) ∙ holds.1 in
            absurd (false≢true (sym (loose_at frame low high).1 ∙ any_held st.held holds.0 frame was))
      ]
    where
      by_use : (o : _) → used_at st frame ≡ o → GivenUp frames processors st (given_up st order) order
          → used_at (given_up st order) frame ≡ None
      by_use None none all = all.none frame none
      by_use (Some u) is all =
          let same = counted_in (is_that frame) order permuted in
          let one = (once_in (is_used_frame st) frame plan.extent.first (8 ^ plan.extent.size)).1 low high (ap is_some is) in
          all.given frame (omega (arith, same, one))

-- what is planned empties its extent
pub empties-planned : (frames processors : ℕ) (st : FrameState) (k : ℕ) (plan : Option Plan) → IsSound frames processors st
    → IsPlanned st frames k plan → IfSome plan (Empties st)
empties-planned frames processors st k None sound planned = tt
empties-planned frames processors st k (Some plan) sound planned =
    let may = subst (λ s. MayBeEmptied st frames s plan.extent.first) (sym planned.0) planned.1.may in
    let its = subst (λ s. AreItsPages st s plan.extent.first plan.pages.items) (sym planned.0) planned.2 in
    emptied frames processors st sound plan may its
