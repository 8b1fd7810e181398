-- Breaking a reservation frees an extent of its yield.
use Rattle.std.proofs.Common.{◌≡◌, ◌≢◌, ℕ, zero, suc, ◌+◌, ◌-◌, ◌*◌, ◌%◌, ◌^◌, ◌<◌, ◌≤◌, ◌⊎◌, Bool, true, false, cond, nat_lt, length, Option, Some, None, inl, inr, refl, sym, ap, subst, ◌∙◌, arith}
use Rattle.std.specs.Option.{option_map_or}
use Rattle.std.proofs.Math.Nat.{pow-le-pow_right}
use Rattle.std.proofs.lemmas.Bool.{cases_Bool, cases_eq, cases_lt, cond-true, lt-ltb, false≢true, false_from_ne_true}
use Rattle.pager_model.specs.declared.reservation.Reservation.{Reservation}
use Rattle.pager_model.specs.Agreement.{has_frame}
use Rattle.pager_model.specs.FreeBlocks.{choice}
use Rattle.pager_model.specs.Layouts.{Layout, parted, split_layout, break_layout, split_on, record_at, is_free}
use Rattle.pager_model.specs.Records.{is_used, has_empty, yield_in, part_size, part_count, part_at, is_empty_at, goes_on_at}
use Rattle.pager_model.specs.SizeSets.{SizeSet}
use Rattle.pager_model.proofs.SizeFloors.{has_within, within_largest}
use Rattle.pager_model.proofs.FreeRuns.{run_free_exactly, run_free_part, no_choice_exactly}
use Rattle.pager_model.specs.RecordPlaces.{IsPlaced}
use Rattle.pager_model.proofs.ExtentLemmas.{eight_pos, aligned_part, part_inside}
use Rattle.pager_model.proofs.RecordFrames.{has_frame_bounds, has_frame_from}
use Rattle.pager_laws.specs.Breaking.{KeepsPlace, Breaks}
use Rattle.pager_laws.specs.Laid.{IsLaid}
use Rattle.pager_laws.proofs.LayoutBreak.{Settles-split, part_size-most, part_size-less, record_at-part, kept_each}
use Rattle.pager_laws.proofs.PartsAt.{part_ends, part_at-placed, outside_parts}
use Rattle.pager_laws.proofs.PartYields.{IsWidest, IsWidest-from, has_empty_some, part_as_wide, lowest_found, goes_on, yield_less}
use Rattle.pager_laws.proofs.LayoutSplit.{placed_own, used_stands, Replaces-split}
use Rattle.pager_laws.proofs.SplitFrames.{IsSplit, IsSplit-parted}

-- a part joins its frames to the pages that the whole joins them to
keeps_part : (k : ℕ) (r : Reservation) (f j : ℕ) → has_frame f (Some (part_at k r j)) ≡ true → KeepsPlace r (part_at k r j) f
keeps_part k r f j has =
    let bounds = has_frame_bounds f (part_at k r j) has in
    record { has = has; space = refl; page = omega (arith, bounds.0); stamp = refl }

module _ (m : ℕ) (l : Layout) (r : Reservation) (laid : IsLaid l) (is : record_at l r.frame ≡ Some r) (le : m ≤ r.size) where
  abbrev used : ℕ → Bool
  used = is_used l.used

  abbrev count : ℕ
  count = part_count m r

  placed : IsPlaced (length l.records) r.frame r
  placed = placed_own l r.frame r laid is

  split : IsSplit m l (parted m r l) r
  split = IsSplit-parted m l r laid.records_long placed le

  -- a used frame is one of a part that stands after the split
  part_stands : (f : ℕ) → has_frame f (Some r) ≡ true → used f ≡ true
      → (j : ℕ) × (has_frame f (Some (part_at m r j)) ≡ true) × (record_at (parted m r l) (part_at m r j).frame ≡ Some (part_at m r j))
  part_stands = used_stands m l (parted m r l) r laid is split

  others_split : (id : ℕ) → (id < r.frame) ⊎ (r.frame + 8 ^ r.size ≤ id) → record_at (parted m r l) id ≡ record_at l id
  others_split id out = split.others id (outside_parts m r le id out)

  -- beside the reservation no frame becomes free or taken
  others_free_split : (f : ℕ) → (f < r.frame) ⊎ (r.frame + 8 ^ r.size ≤ f) → is_free (parted m r l) f ≡ is_free l f
  others_free_split f out = (Replaces-split m l (parted m r l) r laid is split).free f (false_from_ne_true _ (λ has.
      let bounds = has_frame_bounds f r has in
      elim out [ inl before ↦ omega (arith, bounds.0, before) | inr past ↦ omega (arith, bounds.1, past) ]))

  -- a part without a used place is freed
  Breaks-now : IsLaid (parted m r l) → (i : ℕ) → i < count → is_empty_at m used r i ≡ true → Breaks r m l (parted m r l)
  Breaks-now sound i one empty = record {
    laid = sound;
    freed = (
      (part_at m r i).frame,
      record {
        extent = (part_at-placed (length l.records) m i r placed le one).aligned;
        begins = omega arith;
        ends = omega (arith, part_ends m i r le one);
        unused = empty;
        free = (run_free_exactly (parted m r l).free (part_at m r i).frame (8 ^ m)).1
            (λ f low high. split.free_part i f one empty (has_frame_from f (part_at m r i) low high));
      },
    );
    kept = λ f has uses.
        let at = part_stands f has uses in
        (part_at m r at.0, at.2, keeps_part m r f at.0 at.1);
    used = refl;
    others = others_split;
    others_free = others_free_split;
  }

  -- breaking a part of those that a split leaves
  Breaks-part : (i k : ℕ) (after : Layout) → i < count → Breaks (part_at m r i) k (parted m r l) after → Breaks r k l after
  Breaks-part i k after one breaks =
      let freed = breaks.freed.1 in
      let ends = part_ends m i r le one in
      let beside : (n : ℕ) → (n < r.frame) ⊎ (r.frame + 8 ^ r.size ≤ n)
      → (n < (part_at m r i).frame) ⊎ ((part_at m r i).frame + 8 ^ m ≤ n) =
      λ n out. elim out [ inl before ↦ inl (omega (arith, before)) | inr past ↦ inr (omega (arith, ends, past)) ] in
      record {
        laid = breaks.laid;
        freed = (
          breaks.freed.0,
          record {
            extent = freed.extent;
            begins = omega (arith, freed.begins);
            ends = omega (arith, freed.ends, ends);
            unused = freed.unused;
            free = freed.free;
          },
        );
        kept = λ f has uses.
            let at = part_stands f has uses in
            elim (cases_eq at.0 i) [
              | inl here ↦
                  let in_part = subst (λ n. has_frame f (Some (part_at m r n)) ≡ true) here at.1 in
                  let part = breaks.kept f in_part uses in
                  let place = part.2 in (
                    part.0,
                    part.1,
                    record {
                      has = place.has;
                      space = place.space;
                      page = place.page ∙ (keeps_part m r f i in_part).page;
                      stamp = place.stamp;
                    },
                  )
              | inr other ↦ (
                part_at m r at.0,
                breaks.others (part_at m r at.0).frame (apart at.0 other) ∙ at.2,
                keeps_part m r f at.0 at.1,
              )
            ];
        used = breaks.used;
        others = λ id out. breaks.others id (beside id out) ∙ others_split id out;
        others_free = λ f out. breaks.others_free f (beside f out) ∙ others_free_split f out;
      }
    where
      apart : (j : ℕ) → j ≢ i → ((part_at m r j).frame < (part_at m r i).frame) ⊎ ((part_at m r i).frame + 8 ^ m ≤ (part_at m r j).frame)
      apart j other =
          let w = 8 ^ m in
          let pos = eight_pos m in
          elim (cases_lt j i) [
            | inl before ↦ inl (omega (arith, part_inside j w i before, pos))
            | inr after' ↦ inr (omega (arith, part_inside i w j (omega arith)))
          ]

-- the yield is at most the size of the parts
yield_in_parts : (z : SizeSet) (used : ℕ → Bool) (r : Reservation) (k : ℕ) → IsWidest z used r r.size k → k < r.size → k ≤ part_size z r
yield_in_parts z used r k widest narrow = within_largest z (r.size - 1) k widest.size (omega arith)

Breaks-break_over : (levels : ℕ) (l : Layout) (r : Reservation) (k : ℕ) → r.size ≤ levels → IsLaid l → record_at l r.frame ≡ Some r
    → yield_in l.sizes (is_used l.used) r ≡ Some k → k < r.size → Breaks r k l (split_on (goes_on_at l.sizes (is_used l.used)) levels r l)
Breaks-break_over zero l r k le laid is yields narrow = absurd (omega arith)
Breaks-break_over (suc levels) l r k le laid is yields narrow =
    let z = l.sizes in
    let used = is_used l.used in
    let m = part_size z r in
    let small = part_size-most z r in
    let after = split_layout r l in
    let sound = (Settles-split l r.frame r laid is).laid in
    let step : Option Reservation → Layout = λ o. option_map_or (λ part. split_on (goes_on_at z used) levels part after) o after in
    let widest = IsWidest-from z used r r.size k yields in
    let within = yield_in_parts z used r k widest narrow in
    elim (cases_Bool (has_empty used r m)) [
      | inl empty ↦
          let found = has_empty_some used r m empty in
          let size : m ≡ k = elim (cases_lt k m) [
            | inl less ↦ absurd (false≢true (sym (widest.wider m less small (has_within z (r.size - 1))) ∙ empty))
            | inr most ↦ omega arith
          ] in
          let stops : goes_on_at z used r ≡ None = stops_at (nat_lt 0 m) (cond-true _ _ _ empty) in
          subst (λ o. Breaks r k l (step o)) (sym stops)
          (subst (λ n. Breaks r n l after) size (Breaks-now m l r laid is small sound found.0 found.1 found.2))
      | inr none ↦
          let less : k < m = elim (cases_eq k m) [
            | inl most ↦ absurd (false≢true (sym none ∙ ap (has_empty used r) (sym most) ∙ widest.has))
            | inr other ↦ omega arith
          ] in
          let wide = part_as_wide z used r k m small widest within in
          let found = lowest_found z used r k m wide.0 yields wide.1 wide.2 in
          let part = part_at m r found.0 in
          let stands : record_at after part.frame ≡ Some part = record_at-part m l r.frame r laid is found.0 small found.2
          (kept_each m used r found.0 found.2 none) in
          let rest = Breaks-break_over levels after part k (omega (arith, part_size-less z r (omega arith))) sound stands found.3 less in
          let goes : goes_on_at z used r ≡ Some part = cond-true _ _ _ (lt-ltb 0 m (omega arith))
          ∙ goes_on z m used r found.0 none found.1 in
          subst (λ o. Breaks r k l (step o)) (sym {b = Some part} goes)
          (Breaks-part m l r laid is small found.0 k _ found.2 rest)
    ]
  where
    stops_at : {o : Option Reservation} (b : Bool) → o ≡ None → cond b o None ≡ None
    stops_at true none = none
    stops_at false none = refl

-- a reservation that isn't full is broken
pub Breaks-break : (l : Layout) (r : Reservation) (k : ℕ) → IsLaid l → record_at l r.frame ≡ Some r
    → yield_in l.sizes (is_used l.used) r ≡ Some k → Breaks r k l (break_layout r l)
Breaks-break l r k laid is yields =
    let some = laid.some_used r.frame r is in
    Breaks-break_over r.size l r k (omega arith) laid is yields (yield_less l.sizes (is_used l.used) r k some.0 some.1 some.2 yields)

-- breaking a reservation makes a choice for every size up to its yield
pub choice-break : (l : Layout) (id : ℕ) (r : Reservation) (k size : ℕ) → IsLaid l → record_at l id ≡ Some r
    → yield_in l.sizes (is_used l.used) r ≡ Some k → size ≤ k → choice (break_layout r l).free size ≡ None → ⊥
choice-break l id r k size laid is yields le none =
    let breaks = Breaks-break l r k laid (ap (record_at l) (laid.placed id r is).named ∙ is) yields in
    let first = breaks.freed.0 in
    let freed = breaks.freed.1 in
    let positive : 0 < 8 = omega arith in
    let run = run_free_part (break_layout r l).free first (8 ^ k) (8 ^ size) freed.free (pow-le-pow_right positive le) in
    let start : first + 0 * 8 ^ size ≡ first = omega arith in
    let aligned : first % 8 ^ size ≡ 0 = ap (λ n. n % 8 ^ size) (sym start) ∙ aligned_part size k first 0 le freed.extent.1 in
    let fails = (no_choice_exactly (break_layout r l).free size (omega (arith, freed.extent.0))).0 none first aligned in
    false≢true (sym fails ∙ run)
