-- The lists by age, as reservations come and go.
use Rattle.std.proofs.Common.{◌≡◌, ◌≢◌, ℕ, zero, suc, ◌+◌, ◌<◌, ◌≤◌, Bool, true, false, cond, List, [], ◌∷◌, set, get_or, Option, Some, None, refl, sym, ap, subst, ◌∙◌, inl, inr, arith}
use Rattle.std.specs.List.{All}
use Rattle.std.specs.Option.{option_or}
use Rattle.std.proofs.lemmas.Bool.{cases_eq, cond-true, eq-eqb}
use Rattle.std.proofs.lemmas.List.Elements.{All-nil, All-head}
use Rattle.std.proofs.lemmas.Option.{none-some, same_Some}
use Rattle.pager_model.specs.declared.reservation.Reservation.{Reservation}
use Rattle.pager_model.specs.Ages.{Lists, Member, is_before, list_at, with_list, with_member, oldest_in}
use Rattle.pager_model.specs.Agreement.{has_frame}
use Rattle.pager_model.specs.Headline.{member_of}
use Rattle.pager_model.specs.Layouts.{Layout, list_of, with_listed, oldest_of, oldest_from}
use Rattle.pager_model.specs.Records.{is_used, yield_in, same_size}
use Rattle.pager_model.specs.SizeSets.{SizeSet}
use Rattle.pager_model.proofs.AgeOrder.{All-with_member}
use Rattle.pager_model.specs.RecordPlaces.{ArePlaced}
use Rattle.pager_laws.proofs.PartYields.{same_size_from}
use Rattle.pager_laws.specs.Listed.{AreListed}
use Rattle.pager_laws.proofs.MemberOrder.{with_member-swap}
use Rattle.pager_laws.proofs.YieldByPlaces.{yield_in-agree}

-- a reservation is in the list of its yield
pub with_listed-in : (z : SizeSet) (used : List Bool) (k : ℕ) (r : Reservation) (ms : List Member) → yield_in z (is_used used) r ≡ Some k
    → with_listed z used k (Some r) ms ≡ with_member (member_of r) ms
with_listed-in z used k r ms yields = cond-true _ _ _ (ap (λ o. same_size o (Some k)) yields ∙ eq-eqb k k refl)

-- and in no other
pub with_listed-out : (z : SizeSet) (used : List Bool) (k : ℕ) (r : Reservation) (ms : List Member)
    → (yield_in z (is_used used) r ≡ Some k → ⊥) → with_listed z used k (Some r) ms ≡ ms
with_listed-out z used k r ms other =
    elim (same_size (yield_in z (is_used used) r) (Some k)) as (λ v. same_size (yield_in z (is_used used) r) (Some k) ≡ v
    → cond v (with_member (member_of r) ms) ms ≡ ms) [
      | true ↦ λ same. absurd (other (same_size_from _ k same))
      | false ↦ λ differs. refl
    ] refl

-- it doesn't matter which of two records goes into a list first
with_listed-swap : (z : SizeSet) (used : List Bool) (k : ℕ) (o p : Option Reservation) (ms : List Member)
    → with_listed z used k o (with_listed z used k p ms) ≡ with_listed z used k p (with_listed z used k o ms)
with_listed-swap z used k None p ms = refl
with_listed-swap z used k (Some r) None ms = refl
with_listed-swap z used k (Some r) (Some q) ms =
    let in_list : Reservation → Bool = λ x. same_size (yield_in z (is_used used) x) (Some k) in
    let with_r : List Member → List Member = with_member (member_of r) in
    let with_q : List Member → List Member = with_member (member_of q) in
    elim (in_list r) as (λ v. cond v (with_r (cond (in_list q) (with_q ms) ms)) (cond (in_list q) (with_q ms) ms)
    ≡ cond (in_list q) (with_q (cond v (with_r ms) ms)) (cond v (with_r ms) ms)) [
      | true ↦ elim (in_list q) as (λ w. with_r (cond w (with_q ms) ms) ≡ cond w (with_q (with_r ms)) (with_r ms)) [
        | true ↦ with_member-swap (member_of r) (member_of q) ms
        | false ↦ refl
      ]
      | false ↦ refl
    ]

-- a list is the list without a reservation, and with it again
pub list_of-open : (z : SizeSet) (used : List Bool) (k : ℕ) (records : List (Option Reservation)) (id : ℕ) (r : Reservation)
    → get_or records id None ≡ Some r → list_of z used k records ≡ with_listed z used k (Some r) (list_of z used k (set records id None))
list_of-open z used k [] id r is = absurd (none-some r is)
list_of-open z used k (o ∷ rs) zero r is = ap (λ p. with_listed z used k p (list_of z used k rs)) is
list_of-open z used k (o ∷ rs) (suc id) r is =
    ap (with_listed z used k o) (list_of-open z used k rs id r is)
    ∙ with_listed-swap z used k o (Some r) (list_of z used k (set rs id None))

-- a record is listed alike where its places are used alike
with_listed-used : (z : SizeSet) (used new : List Bool) (k : ℕ) (o : Option Reservation) (ms : List Member)
    → ((frame : ℕ) → has_frame frame o ≡ true → is_used new frame ≡ is_used used frame)
    → with_listed z new k o ms ≡ with_listed z used k o ms
with_listed-used z used new k None ms same = refl
with_listed-used z used new k (Some r) ms same =
    ap (λ y. cond (same_size y (Some k)) (with_member (member_of r) ms) ms) (yield_in-agree (is_used new) (is_used used) r same z)

-- yields are told by the places of the reservations alone
pub list_of-used : (z : SizeSet) (used new : List Bool) (k : ℕ) (records : List (Option Reservation))
    → ((frame id : ℕ) → has_frame frame (get_or records id None) ≡ true → is_used new frame ≡ is_used used frame)
    → list_of z new k records ≡ list_of z used k records
list_of-used z used new k [] same = refl
list_of-used z used new k (o ∷ rs) same =
    with_listed-used z used new k o (list_of z new k rs) (λ frame has. same frame 0 has)
    ∙ ap (with_listed z used k o) (list_of-used z used new k rs (λ frame id has. same frame (suc id) has))

-- what holds of every reservation of a yield holds of every member of the yield's list
pub All-list_of : (z : SizeSet) (P : Member → Type 0) (used : List Bool) (k : ℕ) (records : List (Option Reservation))
    → ((id : ℕ) (r : Reservation) → get_or records id None ≡ Some r → yield_in z (is_used used) r ≡ Some k → P (member_of r))
    → All P (list_of z used k records)
All-list_of z P used k [] holds = All-nil P
All-list_of z P used k (None ∷ rs) holds = All-list_of z P used k rs (λ id r is yields. holds (suc id) r is yields)
All-list_of z P used k (Some r ∷ rs) holds =
    let rest = All-list_of z P used k rs (λ id q is yields. holds (suc id) q is yields) in
    elim (same_size (yield_in z (is_used used) r) (Some k)) as
    (λ v. same_size (yield_in z (is_used used) r) (Some k) ≡ v
    → All P (cond v (with_member (member_of r) (list_of z used k rs)) (list_of z used k rs))) [
      | true ↦ λ same. All-with_member P (member_of r) (list_of z used k rs) (holds 0 r refl (same_size_from _ k same)) rest
      | false ↦ λ differs. rest
    ] refl

-- at the frame begins a reservation of the yield
abbrev Yields : SizeSet → List Bool → ℕ → List (Option Reservation) → ℕ → Type 0
Yields z used k records id = (r : Reservation) × (get_or records id None ≡ Some r) × (yield_in z (is_used used) r ≡ Some k)

-- what holds of all members holds of the first
oldest_in-holds : (P : ℕ → Type 0) (ms : List Member) (id : ℕ) → All (λ m. P m.frame) ms → oldest_in ms ≡ Some id → P id
oldest_in-holds P [] id all found = absurd (none-some id found)
oldest_in-holds P (m ∷ ms) id all found = subst P (same_Some m.frame id found) (All-head (λ n. P n.frame) m ms all)

-- a list with a member has a first one
oldest_in-with_member : (new : Member) (ms : List Member) → oldest_in (with_member new ms) ≡ None → ⊥
oldest_in-with_member new [] none = none-some new.frame (sym none)
oldest_in-with_member new (m ∷ ms) none =
    elim (is_before new m) as (λ v. oldest_in (cond v (new ∷ (m ∷ ms)) (m ∷ with_member new ms)) ≡ None → ⊥) [
      | true ↦ λ h. none-some new.frame (sym h)
      | false ↦ λ h. none-some m.frame (sym h)
    ] none

-- what stands first in a list has the list's yield, and where nothing does no reservation has it
pub oldest_in-found : (z : SizeSet) (used : List Bool) (k : ℕ) (records : List (Option Reservation)) (id : ℕ) → ArePlaced records
    → oldest_in (list_of z used k records) ≡ Some id
    → (r : Reservation) × (get_or records id None ≡ Some r) × (yield_in z (is_used used) r ≡ Some k)
oldest_in-found z used k records id placed found =
    oldest_in-holds (Yields z used k records) (list_of z used k records) id
    (All-list_of z (λ m. Yields z used k records m.frame) used k records
    (λ at r is yields. (r, ap (λ n. get_or records n None) (placed at r is).named ∙ is, yields)))
    found

pub oldest_in-none : (z : SizeSet) (used : List Bool) (k : ℕ) (records : List (Option Reservation)) (id : ℕ) (r : Reservation)
    → oldest_in (list_of z used k records) ≡ None → get_or records id None ≡ Some r → yield_in z (is_used used) r ≡ Some k → ⊥
oldest_in-none z used k records id r none is yields =
    let rest = list_of z used k (set records id None) in
    let whole = list_of-open z used k records id r is ∙ with_listed-in z used k r rest yields in
    oldest_in-with_member (member_of r) rest (sym (ap oldest_in whole) ∙ none)

-- a list that was put in is there, and the others are as before
list_at-same : (lists : Lists) (k : ℕ) (ms : List Member) → list_at (with_list lists k ms) k ≡ ms
list_at-same lists zero ms = refl
list_at-same lists (suc zero) ms = refl
list_at-same lists (suc (suc k)) ms = refl

list_at-other : (lists : Lists) (k j : ℕ) (ms : List Member) → k < 3 → j < 3 → j ≢ k → list_at (with_list lists k ms) j ≡ list_at lists j
list_at-other lists zero zero ms k_small j_small other = absurd (other refl)
list_at-other lists zero (suc zero) ms k_small j_small other = refl
list_at-other lists zero (suc (suc j)) ms k_small j_small other = refl
list_at-other lists (suc zero) zero ms k_small j_small other = refl
list_at-other lists (suc zero) (suc zero) ms k_small j_small other = absurd (other refl)
list_at-other lists (suc zero) (suc (suc j)) ms k_small j_small other = refl
list_at-other lists (suc (suc k)) zero ms k_small j_small other = refl
list_at-other lists (suc (suc k)) (suc zero) ms k_small j_small other = refl
list_at-other lists (suc (suc k)) (suc (suc j)) ms k_small j_small other = absurd (other (omega arith))

-- the lists of another yield are the same without the reservation
list_of-out : (z : SizeSet) (used : List Bool) (k : ℕ) (records : List (Option Reservation)) (id : ℕ) (r : Reservation)
    → get_or records id None ≡ Some r → (yield_in z (is_used used) r ≡ Some k → ⊥)
    → list_of z used k records ≡ list_of z used k (set records id None)
list_of-out z used k records id r is other = list_of-open z used k records id r is
    ∙ with_listed-out z used k r (list_of z used k (set records id None)) other

-- a reservation has one yield
one_yield : (z : SizeSet) (used : List Bool) (r : Reservation) (k j : ℕ) → yield_in z (is_used used) r ≡ Some k → j ≢ k
    → yield_in z (is_used used) r ≡ Some j → ⊥
one_yield z used r k j yields other also = other (same_Some j k (sym also ∙ yields))

-- the lists after a reservation comes in
pub AreListed-with : (z : SizeSet) (lists : Lists) (used : List Bool) (records : List (Option Reservation)) (id k : ℕ) (r : Reservation)
    → AreListed z lists used (set records id None) → get_or records id None ≡ Some r → yield_in z (is_used used) r ≡ Some k → k < 3
    → AreListed z (with_list lists k (with_member (member_of r) (list_at lists k))) used records
AreListed-with z lists used records id k r are is yields small =
    let rest = list_of z used k (set records id None) in
    let whole = list_of-open z used k records id r is ∙ with_listed-in z used k r rest yields in
    let with_r = with_member (member_of r) (list_at lists k) in
    let here : with_r ≡ list_of z used k records = ap (with_member (member_of r)) (are k small) ∙ sym whole in
    λ j j_small. elim (cases_eq j k) [
      | inl same ↦ subst (λ n. list_at (with_list lists k with_r) n ≡ list_of z used n records) (sym same)
          (list_at-same lists k with_r ∙ here)
      | inr other ↦ list_at-other lists k j with_r small j_small other ∙ are j j_small
          ∙ sym (list_of-out z used j records id r is (one_yield z used r k j yields other))
    ]

-- a full reservation, and one without a used place of the largest size, stands in no list
pub AreListed-full : (z : SizeSet) (lists : Lists) (used : List Bool) (records : List (Option Reservation)) (id : ℕ) (r : Reservation)
    → AreListed z lists used (set records id None) → get_or records id None ≡ Some r
    → ((k : ℕ) → yield_in z (is_used used) r ≡ Some k → 3 ≤ k) → AreListed z lists used records
AreListed-full z lists used records id r are is full k small =
    are k small ∙ sym (list_of-out z used k records id r is (λ yields. omega (arith, full k yields)))

-- the first frame of the first list from k on that isn't empty is that of a reservation with a yield of at least k
pub oldest_from-found : (l : Layout) (k count id : ℕ) → ArePlaced l.records → oldest_from l k count ≡ Some id
    → (r : Reservation) × (j : ℕ) × (k ≤ j) × (j < k + count) × (get_or l.records id None ≡ Some r)
    × (yield_in l.sizes (is_used l.used) r ≡ Some j)
oldest_from-found l k zero id placed found = absurd (none-some id found)
oldest_from-found l k (suc count) id placed found =
    elim (oldest_of l k) as (λ o. oldest_of l k ≡ o → option_or o (oldest_from l (k + 1) count) ≡ Some id
    → (r : Reservation) × (j : ℕ) × (k ≤ j) × (j < k + suc count) × (get_or l.records id None ≡ Some r) ×
    (yield_in l.sizes (is_used l.used) r ≡ Some j)) [
      | None ↦ λ none later.
          let w = oldest_from-found l (k + 1) count id placed later in
          (w.0, w.1, omega (arith, w.2), omega (arith, w.3), w.4, w.5)
      | Some first ↦ λ is here.
          let w = oldest_in-found l.sizes l.used k l.records id placed (is ∙ here) in
          (w.0, k, omega arith, omega arith, w.1, w.2)
    ] refl found

-- where these lists are empty, no reservation has such a yield
pub oldest_from-none : (l : Layout) (k count : ℕ) → oldest_from l k count ≡ None → (j : ℕ) → k ≤ j → j < k + count
    → (id : ℕ) (r : Reservation) → get_or l.records id None ≡ Some r → yield_in l.sizes (is_used l.used) r ≡ Some j → ⊥
oldest_from-none l k zero none j low high id r is yields = absurd (omega arith)
oldest_from-none l k (suc count) none j low high id r is yields =
    elim (oldest_of l k) as (λ o. oldest_of l k ≡ o → option_or o (oldest_from l (k + 1) count) ≡ None → ⊥) [
      | None ↦ λ empty later. elim (cases_eq j k) [
        | inl same ↦ oldest_in-none l.sizes l.used k l.records id r empty is (yields ∙ ap Some same)
        | inr other ↦ oldest_from-none l (k + 1) count later j (omega arith) (omega arith) id r is yields
      ]
      | Some first ↦ λ is here. none-some first (sym here)
    ] refl none
