-- Which reservation is broken for an extent, and where its breaking goes on.
use Rattle.std.proofs.Common.{◌≡◌, ℕ, zero, suc, ◌+◌, ◌-◌, ◌<◌, ◌≤◌, Bool, true, false, cond, nat_lt, inl, inr, List, Option, Some, None, option_map, refl, sym, ap, subst, ◌∙◌, arith}
use Rattle.std.specs.Option.{option_or, option_map_or, IfSome, IfNone, IsSome, is_some}
use Rattle.std.proofs.lemmas.Bool.{cases_Bool, cases_eq, cond-true, cond-false, lt-ltb, le-ltb, eq-eqb, false≢true}
use Rattle.pager_model.proofs.Ranges.{find_passes}
use Rattle.pager_model.specs.declared.reservation.Reservation.{Reservation}
use Rattle.pager_model.specs.Ages.{Lists, first_oldest, list_at, oldest_in}
use Rattle.pager_model.specs.Layouts.{Layout, split_layout, break_layout, oldest_of, oldest_from, split_on, record_at}
use Rattle.pager_model.specs.Records.{is_used, has_empty, yield_in, part_size, part_count, part_at, same_size, lowest_as_wide, goes_on_at}
use Rattle.pager_model.specs.SizeSets.{SizeSet}
use Rattle.pager_model.proofs.SizeFloors.{has_within, within_largest}
use Rattle.pager_laws.proofs.PartYields.{IsWidest, IsWidest-from, from_widest, whole_not_empty}
use Rattle.pager_laws.specs.Laid.{IsLaid}
use Rattle.pager_laws.specs.Listed.{AreListed}
use Rattle.frame_pool.specs.ReservedChanges.{with_free}
use Rattle.frame_pool.specs.Placed.{CanBreak}
use Rattle.pager_laws.proofs.LayoutBreak.{Falls, Falls-goes_on, split_on-enough, part_size-most, record_at-part, kept_each, find_below}

-- Which reservation is broken.

-- what holds where there is no value
pub IfNone-holds : {A : Type 0} (o : Option A) (P : Type 0) → is_some o ≡ false → IfNone o P → P
IfNone-holds None P none holds = holds
IfNone-holds (Some x) P none holds = absurd (false≢true (sym none))

-- the lists that are kept are those of the reservations
pub first_oldest-listed : (l : Layout) (lists : Lists) → AreListed l.sizes lists l.used l.records → (k count : ℕ) → count ≤ 3 - k
    → first_oldest (list_at lists) k count ≡ oldest_from l k count
first_oldest-listed l lists listed k zero few = refl
first_oldest-listed l lists listed k (suc count) few =
    ap (λ ms. option_or (oldest_in ms) (first_oldest (list_at lists) (k + 1) count)) (listed k (omega arith))
    ∙ ap (option_or (oldest_of l k)) (first_oldest-listed l lists listed (k + 1) count (omega arith))

-- which frames are free is no matter of the lists
pub oldest_from-free : (free : List Bool) (l : Layout) (k count : ℕ) → oldest_from (with_free free l) k count ≡ oldest_from l k count
oldest_from-free free l k zero = refl
oldest_from-free free l k (suc count) = ap (option_or (oldest_of l k)) (oldest_from-free free l (k + 1) count)

-- Where the breaking goes on.

-- a reservation that isn't full is split into parts of which none is empty
pub record Fills (l : Layout) (r : Reservation) : Type 0 where
  pub laid : IsLaid l
  pub can : CanBreak l r
  pub large : 0 < part_size l.sizes r
  pub none : has_empty (is_used l.used) r (part_size l.sizes r) ≡ false

-- where it has another yield than the parts' size, none of the parts is empty
pub none_empty : (z : SizeSet) (used : ℕ → Bool) (r : Reservation) → same_size (yield_in z used r) (Some (part_size z r)) ≡ false
    → has_empty used r r.size ≡ false → has_empty used r (part_size z r) ≡ false
none_empty z used r other whole = elim (cases_Bool (has_empty used r (part_size z r))) [
  | inr none ↦ none
  | inl some ↦
      let m = part_size z r in
      let widest : IsWidest z used r r.size m = record {
        low = part_size-most z r;
        size = has_within z (r.size - 1);
        has = some;
        wider = λ j above below one. elim (cases_eq j r.size) [
          | inl at ↦ ap (has_empty used r) at ∙ whole
          | inr less ↦ absurd (omega (arith, above, within_largest z (r.size - 1) j one (omega arith)))
        ];
      } in
      let is = from_widest z used r r.size m widest in
      absurd (false≢true (sym other ∙ ap (λ o. same_size o (Some m)) is ∙ eq-eqb m m refl))
]

-- where it has this one, the breaking goes on nowhere
pub stops_there : (z : SizeSet) (used : ℕ → Bool) (r : Reservation) → yield_in z used r ≡ Some (part_size z r) → goes_on_at z used r ≡ None
stops_there z used r is =
    let widest = IsWidest-from z used r r.size (part_size z r) is in
    at (nat_lt 0 (part_size z r)) (cond-true _ _ _ widest.has)
  where
    at : {o : Option Reservation} (b : Bool) → o ≡ None → cond b o None ≡ None
    at true none = none
    at false none = refl

pub stops_small : (z : SizeSet) (used : ℕ → Bool) (r : Reservation) → part_size z r ≡ 0 → goes_on_at z used r ≡ None
stops_small z used r small = cond-false _ _ _ (le-ltb 0 (part_size z r) (omega arith))

pub Fills-from : (l : Layout) (r : Reservation) → IsLaid l → CanBreak l r → 0 < part_size l.sizes r
    → same_size (yield_in l.sizes (is_used l.used) r) (Some (part_size l.sizes r)) ≡ false → Fills l r
Fills-from l r laid can large other =
    let some = laid.some_used r.frame r can.stands in
    record {
      laid = laid;
      can = can;
      large = large;
      none = none_empty l.sizes (is_used l.used) r other (whole_not_empty (is_used l.used) r some.0 some.1 some.2);
    }

module _ (l : Layout) (r : Reservation) (fills : Fills l r) where
  abbrev m : ℕ
  m = part_size l.sizes r

  abbrev z : SizeSet
  z = l.sizes

  -- each part stands
  pub part_stands : (i : ℕ) → i < part_count m r → record_at (split_layout r l) (part_at m r i).frame ≡ Some (part_at m r i)
  part_stands i one = record_at-part m l r.frame r fills.laid fills.can.stands i (part_size-most z r) one
      (kept_each m (is_used l.used) r i one fills.none)

  -- the breaking goes on at the lowest part with the yield of the whole
  pub goes_on-lowest : option_map (part_at m r) (lowest_as_wide z m (is_used l.used) r) ≡ goes_on_at z (is_used l.used) r
  goes_on-lowest = sym (cond-true _ _ _ (lt-ltb 0 m fills.large) ∙ cond-false _ _ _ fills.none)

  -- whether a part has the yield of the whole
  as_wide : ℕ → Bool
  as_wide i = same_size (yield_in z (is_used l.used) (part_at m r i)) (yield_in z (is_used l.used) r)

  -- which isn't full, and has more than one frame
  part_breaks : (i : ℕ) → lowest_as_wide z m (is_used l.used) r ≡ Some i → CanBreak (split_layout r l) (part_at m r i)
  unfolding as_wide
  part_breaks i found =
      let below = find_below as_wide 0 (part_count m r) i found in
      record {
        stands = part_stands i (omega (arith, below));
        splits = fills.large;
        yields = same_some _ _ (find_passes as_wide 0 (part_count m r) i found) fills.can.yields;
      }
    where
      same_some : (a b : Option ℕ) → same_size a b ≡ true → IsSome b → IsSome a
      same_some (Some a) b same some = refl
      same_some None None same some = some
      same_some None (Some b) same some = absurd (false≢true same)

  pub CanBreak-goes_on : IfSome (goes_on_at z (is_used l.used) r) (CanBreak (split_layout r l))
  CanBreak-goes_on =
      subst (λ o. IfSome o (CanBreak (split_layout r l))) goes_on-lowest
      (elim (lowest_as_wide z m (is_used l.used) r) as (λ o. lowest_as_wide z m (is_used l.used) r ≡ o
      → IfSome (option_map (part_at m r) o) (CanBreak (split_layout r l))) [
        | None ↦ λ no_one. tt
        | Some i ↦ part_breaks i
      ] refl)

-- the layout after the breaking went on at this reservation, or nowhere
abbrev pub broken_on : Option Reservation → Layout → Layout
broken_on part l = option_map_or (λ r. break_layout r l) part l

-- the size of the reservation at which the breaking goes on
abbrev pub size_on : Option Reservation → ℕ
size_on part = option_map_or (λ (r : Reservation). r.size) part 0

-- one step of a breaking, from which it goes on with a smaller reservation
module _ (l : Layout) (r : Reservation) (splits : 0 < r.size) where
  abbrev next_of : Reservation → Option Reservation
  next_of = goes_on_at l.sizes (is_used l.used)

  pub broken_step : broken_on (next_of r) (split_layout r l) ≡ break_layout r l
  unfolding Falls
  broken_step =
      let new = split_layout r l in
      let on : ℕ → Reservation → Layout = λ levels p. split_on next_of levels p new in
      let levels : suc (r.size - 1) ≡ r.size = omega arith in
      elim (next_of r) as (λ o. next_of r ≡ o → option_map_or (λ q. on q.size q) o new ≡ option_map_or (λ q. on (r.size - 1) q) o new) [
        | None ↦ λ stops. refl
        | Some p ↦ λ named.
            let less = Falls-goes_on l.sizes (is_used l.used) r p named splits in
            split_on-enough next_of (Falls-goes_on l.sizes (is_used l.used)) p.size (r.size - 1) p new less.0 (omega arith)
            (omega (arith, less.1))
      ] refl
      ∙ ap (λ n. split_on next_of n r l) levels

  pub size_falls : size_on (next_of r) < r.size
  unfolding Falls
  size_falls = elim (next_of r) as (λ o. next_of r ≡ o → size_on o < r.size) [
    | None ↦ λ stops. splits
    | Some p ↦ λ named. (Falls-goes_on l.sizes (is_used l.used) r p named splits).1
  ] refl
