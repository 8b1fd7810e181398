-- What breaking a reservation keeps, and what narrowing one down to a used frame leaves.
use Rattle.std.proofs.Common.{◌≡◌, ℕ, zero, suc, ◌+◌, ◌-◌, ◌^◌, ◌<◌, ◌≤◌, Bool, true, false, get_or, Option, Some, None, find, option_map, inl, inr, refl, sym, ap, subst, ◌∙◌, arith}
use Rattle.std.specs.List.{range_with_len}
use Rattle.std.specs.Option.{option_map_or}
use Rattle.std.proofs.lemmas.Bool.{cases_Bool, cases_lt, cond-true, cond-false, false≢true, lt-ltb, le-ltb}
use Rattle.std.proofs.lemmas.List.FromFn.{get_or-range_with_len, length-range_with_len}
use Rattle.std.proofs.lemmas.List.Folds.{list_any_at}
use Rattle.std.proofs.lemmas.Option.{none-some, same_Some}
use Rattle.pager_model.specs.declared.reservation.Reservation.{Reservation}
use Rattle.pager_model.specs.Agreement.{has_frame}
use Rattle.pager_model.specs.Layouts.{Layout, parted, split_layout, break_layout, part_with, narrows_to, narrow_layout, split_on, record_at}
use Rattle.pager_model.specs.Records.{is_used, has_empty, yield_in, part_size, part_count, part_at, is_empty_at, kept_at, same_size, lowest_as_wide, goes_on_in, goes_on_at}
use Rattle.pager_model.specs.SizeSets.{SizeSet}
use Rattle.pager_model.proofs.ExtentLemmas.{extent_of_frame}
use Rattle.pager_model.proofs.SizeFloors.{within_at_most}
use Rattle.pager_model.proofs.RecordFrames.{has_frame_bounds}
use Rattle.pager_laws.specs.Laid.{IsLaid}
use Rattle.pager_laws.proofs.PartsAt.{kept_at-cases, parted_at, which_part, used_part}
use Rattle.pager_laws.proofs.LayoutSplit.{Settles, Settles-parted, placed_own}

-- One splitting after another.

-- a layout settles into itself
pub Settles-same : (l : Layout) → IsLaid l → Settles l l
Settles-same l laid = record {
  laid = laid;
  long = refl;
  used = refl;
  sizes = refl;
  within = λ frame. (λ is. is, λ is. is);
  pages = λ space page. refl;
  covered = λ id space page r is has. (id, r, is, has);
}

-- one settling after another is a settling
pub Settles-then : (a b c : Layout) → Settles a b → Settles b c → Settles a c
Settles-then a b c first then' = record {
  laid = then'.laid;
  long = then'.long ∙ first.long;
  used = then'.used ∙ first.used;
  sizes = then'.sizes ∙ first.sizes;
  within = λ frame. (λ is. (first.within frame).0 ((then'.within frame).0 is), λ is. (then'.within frame).1 ((first.within frame).1 is));
  pages = λ space page. then'.pages space page ∙ first.pages space page;
  covered = λ id space page r is has. let w = then'.covered id space page r is has in first.covered w.0 space page w.1 w.2 w.3;
}

-- the parts of a split are no larger than the whole, and smaller where it has more than one frame
pub part_size-most : (z : SizeSet) (r : Reservation) → part_size z r ≤ r.size
part_size-most z r = omega (arith, within_at_most z (r.size - 1))

pub part_size-less : (z : SizeSet) (r : Reservation) → 0 < r.size → part_size z r < r.size
part_size-less z r splits = omega (arith, within_at_most z (r.size - 1))

pub Settles-split : (l : Layout) (id : ℕ) (r : Reservation) → IsLaid l → record_at l id ≡ Some r → Settles l (split_layout r l)
Settles-split l id r laid is = Settles-parted (part_size l.sizes r) l id r laid is (part_size-most l.sizes r)

-- a part that is kept stands in the split layout
pub record_at-part : (k : ℕ) (l : Layout) (id : ℕ) (r : Reservation) → IsLaid l → record_at l id ≡ Some r → (i : ℕ) → k ≤ r.size
    → i < part_count k r → kept_at k (is_used l.used) r i ≡ Some (part_at k r i)
    → record_at (parted k r l) (part_at k r i).frame ≡ Some (part_at k r i)
record_at-part k l id r laid is i le one kept = parted_at k (is_used l.used) r l.records le (placed_own l id r laid is)
    (part_count k r) i one (omega arith) ∙ kept

-- Breaking.

-- where no part is empty each is kept
pub kept_each : (k : ℕ) (used : ℕ → Bool) (r : Reservation) (i : ℕ) → i < part_count k r → has_empty used r k ≡ false
    → kept_at k used r i ≡ Some (part_at k r i)
kept_each k used r i one none = elim (kept_at-cases k used r i) [
  | inl empty ↦
      let all = range_with_len 0 (part_count k r) in
      let here : get_or all i 0 ≡ i = get_or-range_with_len 0 (part_count k r) i 0 one ∙ omega arith in
      let some = list_any_at (is_empty_at k used r) all i 0 (omega (arith, length-range_with_len 0 (part_count k r)))
      (ap (is_empty_at k used r) here ∙ empty.1) in
      absurd (false≢true (sym none ∙ some))
  | inr kept ↦ kept.0
]

-- the first number of a range that passes is one of the range
pub find_below : (p : ℕ → Bool) (a n i : ℕ) → find p (range_with_len a n) ≡ Some i → i < a + n
find_below p a zero i found = absurd (none-some i found)
find_below p a (suc n) i found = elim (cases_Bool (p a)) [
  | inl here ↦ let same = same_Some a i (sym (cond-true _ _ _ here) ∙ found) in omega (arith, same)
  | inr missed ↦ let rest = find_below p (a + 1) n i (sym (cond-false _ _ _ missed) ∙ found) in omega (arith, rest)
]

-- a breaking goes on at a part that is kept
pub record IsKeptPart (k : ℕ) (used : ℕ → Bool) (r p : Reservation) : Type 0 where
  pub part : ℕ
  pub below : part < part_count k r
  pub is : part_at k r part ≡ p
  pub kept : kept_at k used r part ≡ Some (part_at k r part)

pub goes_on_part : (z : SizeSet) (k : ℕ) (used : ℕ → Bool) (r p : Reservation) → goes_on_in z k used r ≡ Some p → IsKeptPart k used r p
goes_on_part z k used r p goes = elim (cases_Bool (has_empty used r k)) [
  | inl empty ↦ absurd (none-some p (sym (cond-true _ _ _ empty) ∙ goes))
  | inr none ↦
      elim (lowest_as_wide z k used r) as (λ o. lowest_as_wide z k used r ≡ o → option_map (part_at k r) o ≡ Some p
      → IsKeptPart k used r p) [
        | None ↦ λ no_one at. absurd (none-some p at)
        | Some i ↦ λ found at.
            let below = find_below (λ m. same_size (yield_in z used (part_at k r m)) (yield_in z used r)) 0 (part_count k r) i found in
            let one : i < part_count k r = omega (arith, below) in
            record { part = i; below = one; is = same_Some (part_at k r i) p at; kept = kept_each k used r i one none }
      ] refl (sym (cond-false _ _ _ none) ∙ goes)
]

-- and at one of more than one frame
pub record GoesOn (z : SizeSet) (used : ℕ → Bool) (r p : Reservation) : Type 0 where
  pub large : 0 < part_size z r
  pub goes : goes_on_in z (part_size z r) used r ≡ Some p

pub goes_on_large : (z : SizeSet) (used : ℕ → Bool) (r p : Reservation) → goes_on_at z used r ≡ Some p → GoesOn z used r p
goes_on_large z used r p goes = elim (cases_lt 0 (part_size z r)) [
  | inl large ↦ record { large = large; goes = sym (cond-true _ _ _ (lt-ltb 0 (part_size z r) large)) ∙ goes }
  | inr small ↦ absurd (none-some p (sym (cond-false _ _ _ (le-ltb 0 (part_size z r) small)) ∙ goes))
]

-- a reservation broken over some levels
pub Settles-break_over : (levels : ℕ) (l : Layout) (id : ℕ) (r : Reservation) → IsLaid l → record_at l id ≡ Some r
    → Settles l (split_on (goes_on_at l.sizes (is_used l.used)) levels r l)
Settles-break_over zero l id r laid is = Settles-same l laid
Settles-break_over (suc n) l id r laid is =
    let z = l.sizes in
    let k = part_size z r in
    let next = split_layout r l in
    let split = Settles-split l id r laid is in
    let step : Option Reservation → Layout = λ o. option_map_or (λ part. split_on (goes_on_at z (is_used l.used)) n part next) o next in
    elim (goes_on_at z (is_used l.used) r) as (λ o. goes_on_at z (is_used l.used) r ≡ o → Settles l (step o)) [
      | None ↦ λ stops. split
      | Some p ↦ λ goes.
          let part = goes_on_part z k (is_used l.used) r p (goes_on_large z (is_used l.used) r p goes).goes in
          let stands = record_at-part k l id r laid is part.part (part_size-most z r) part.below part.kept in
          subst (λ q. Settles l (step (Some q))) part.is
          (Settles-then l next _ split (Settles-break_over n next (part_at k r part.part).frame (part_at k r part.part) split.laid stands))
    ] refl

-- breaking a reservation settles
pub Settles-break : (l : Layout) (id : ℕ) (r : Reservation) → IsLaid l → record_at l id ≡ Some r → Settles l (break_layout r l)
Settles-break l id r laid is = Settles-break_over r.size l id r laid is

-- The levels of a splitting.

-- from a reservation a rule leads to smaller ones of more than one frame alone
unfoldable pub Falls : (Reservation → Option Reservation) → Type 0
Falls next = (r p : Reservation) → next r ≡ Some p → 0 < r.size → (0 < p.size) × (p.size < r.size)

pub Falls-goes_on : (z : SizeSet) (used : ℕ → Bool) → Falls (goes_on_at z used)
unfolding Falls
Falls-goes_on z used r p goes splits =
    let on = goes_on_large z used r p goes in
    let size : part_size z r ≡ p.size = ap (λ (q : Reservation). q.size) (goes_on_part z (part_size z r) used r p on.goes).is in
    (omega (arith, on.large, size), omega (arith, size, part_size-less z r splits))

pub Falls-narrows : (z : SizeSet) (frame : ℕ) → Falls (narrows_to z frame)
unfolding Falls
Falls-narrows z frame r p goes splits = elim (cases_lt 0 (part_size z r)) [
  | inl large ↦
      let is = same_Some (part_with (part_size z r) frame r) p (sym (cond-true _ _ _ (lt-ltb 0 (part_size z r) large)) ∙ goes) in
      let size : part_size z r ≡ p.size = ap (λ (q : Reservation). q.size) is in
      (omega (arith, large, size), omega (arith, size, part_size-less z r splits))
  | inr small ↦ absurd (none-some p (sym (cond-false _ _ _ (le-ltb 0 (part_size z r) small)) ∙ goes))
]

-- as many levels as the size are enough
pub split_on-enough : (next : Reservation → Option Reservation) → Falls next → (a b : ℕ) (r : Reservation) (l : Layout) → 0 < r.size
    → r.size ≤ a → r.size ≤ b → split_on next a r l ≡ split_on next b r l
unfolding Falls
split_on-enough next falls zero b r l splits low high = absurd (omega arith)
split_on-enough next falls (suc a) zero r l splits low high = absurd (omega arith)
split_on-enough next falls (suc a) (suc b) r l splits low high =
    let after = split_layout r l in
    let on : ℕ → Option Reservation → Layout = λ n o. option_map_or (λ p. split_on next n p after) o after in
    elim (next r) as (λ o. next r ≡ o → on a o ≡ on b o) [
      | None ↦ λ stops. refl
      | Some p ↦ λ goes. let less = falls r p goes splits in split_on-enough next falls a b p after less.0 (omega (arith, less.1))
          (omega (arith, less.1))
    ] refl

-- Narrowing.

-- what narrowing a reservation down to a used frame leaves there
pub record Narrows (old new : Layout) (frame : ℕ) : Type 0 where
  pub settles : Settles old new
  pub alone : Reservation
  pub is : record_at new frame ≡ Some alone
  pub one : alone.size ≡ 0

-- the part that a narrowing names is one of the parts, and has the frame
pub part_with-has : (k : ℕ) (l : Layout) (id frame : ℕ) (r : Reservation) → k ≤ r.size → has_frame frame (Some r) ≡ true
    → (i : ℕ) × (i < part_count k r) × (part_at k r i ≡ part_with k frame r) × (has_frame frame (Some (part_at k r i)) ≡ true)
part_with-has k l id frame r le has =
    let at = which_part k r le frame has in
    let bounds = has_frame_bounds frame (part_at k r at.0) at.2 in
    let index = extent_of_frame at.0 (8 ^ k) (frame - r.frame) (omega (arith, bounds.0)) (omega (arith, bounds.0, bounds.1)) in
    (at.0, at.1, ap (part_at k r) (sym index), at.2)

-- a reservation of one frame is narrowed already
Narrows-one : (l : Layout) (id frame : ℕ) (r : Reservation) → r.size ≡ 0 → IsLaid l → record_at l id ≡ Some r
    → has_frame frame (Some r) ≡ true → Narrows l l frame
Narrows-one l id frame r none laid is has =
    let bounds = has_frame_bounds frame r has in
    let one : 8 ^ r.size ≡ 1 = ap (λ m. 8 ^ m) none in
    let here : frame ≡ id = omega (arith, bounds.0, bounds.1, one, (laid.placed id r is).named) in
    record { settles = Settles-same l laid; alone = r; is = ap (record_at l) here ∙ is; one = none }

-- a reservation narrowed over enough levels
pub Narrows-narrow_over : (levels : ℕ) (l : Layout) (id frame : ℕ) (r : Reservation) → r.size ≤ levels → IsLaid l → record_at l id ≡ Some r
    → has_frame frame (Some r) ≡ true → is_used l.used frame ≡ true → Narrows l (split_on (narrows_to l.sizes frame) levels r l) frame
Narrows-narrow_over zero l id frame r size laid is has used = Narrows-one l id frame r (omega arith) laid is has
Narrows-narrow_over (suc n) l id frame r size laid is has used =
    let z = l.sizes in
    let k = part_size z r in
    let le = part_size-most z r in
    let next = split_layout r l in
    let split = Settles-split l id r laid is in
    let part = part_with-has k l id frame r le has in
    let mine = part_at k r part.0 in
    let kept = used_part k r (is_used l.used) frame part.0 used part.3 in
    let stands = record_at-part k l id r laid is part.0 le part.1 kept in
    let step : Option Reservation → Layout = λ o. option_map_or (λ p. split_on (narrows_to z frame) n p next) o next in
    elim (cases_lt 0 k) [
      | inl more ↦
          let rest = Narrows-narrow_over n next mine.frame frame mine
          (omega (arith, within_at_most z (r.size - 1))) split.laid stands part.3 used in
          let both : Narrows l (split_on (narrows_to z frame) n mine next) frame =
          record { settles = Settles-then l next _ split rest.settles; alone = rest.alone; is = rest.is; one = rest.one } in
          let goes : narrows_to z frame r ≡ Some (part_with k frame r) = cond-true _ _ _ (lt-ltb 0 k more) in
          subst (λ o. Narrows l (step o) frame) (sym goes) (subst (λ p. Narrows l (step (Some p)) frame) part.2 both)
      | inr most ↦
          let stops : narrows_to z frame r ≡ None = cond-false _ _ _ (le-ltb 0 k most) in
          let last = Narrows-one next mine.frame frame mine (omega arith) split.laid stands part.3 in
          subst (λ o. Narrows l (step o) frame) (sym stops)
          (record { settles = Settles-then l next _ split last.settles; alone = last.alone; is = last.is; one = last.one })
    ]

-- narrowing down to a used frame leaves a reservation of this frame alone
pub Narrows-narrow : (l : Layout) (id frame : ℕ) (r : Reservation) → IsLaid l → record_at l id ≡ Some r → has_frame frame (Some r) ≡ true
    → is_used l.used frame ≡ true → Narrows l (narrow_layout frame r l) frame
Narrows-narrow l id frame r laid is has used = Narrows-narrow_over r.size l id frame r (omega arith) laid is has used
