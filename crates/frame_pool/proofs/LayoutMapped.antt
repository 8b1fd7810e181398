-- That reservations of a sound layout may come into the map.
use Rattle.std.proofs.Common.{◌≡◌, ℕ, ◌<◌, true, false, List, Option, length, get_or, set, Some, None, inl, inr, sym, ap, subst, ◌∙◌, arith}
use Rattle.std.proofs.lemmas.Bool.{cases_Bool, cases_eq}
use Rattle.std.proofs.lemmas.List.{get_or-set_same, get_or-set_other, length-set, set-set, set-get_or}
use Rattle.std.proofs.lemmas.List.Sums.{sum_by-set}
use Rattle.std.proofs.lemmas.Option.{none-some}
use Rattle.pager_model.specs.Bounds.{space_pages}
use Rattle.pager_model.specs.declared.reservation.Reservation.{Reservation}
use Rattle.pager_model.specs.Agreement.{has_frame}
use Rattle.pager_model.specs.FrameStates.{places_in}
use Rattle.pager_model.specs.Layouts.{Layout, record_at}
use Rattle.pager_model.specs.Records.{is_used, split_records}
use Rattle.population_map.specs.Populations.{Populations}
use Rattle.pager_model.specs.RecordPlaces.{IsPlaced}
use Rattle.pager_model.proofs.ExtentLemmas.{eight_pos}
use Rattle.pager_model.proofs.Lists.{get_or_within, unset_before}
use Rattle.pager_model.proofs.RecordFrames.{has_frame_from}
use Rattle.reservations.specs.declared.part.Part.{Part}
use Rattle.reservations.specs.Parts.{told_parts}
use Rattle.reservations.proofs.FrameIds.{none_begins}
use Rattle.reservations.proofs.SplitLemmas.{split_records-open}
use Rattle.pager_laws.specs.Laid.{IsLaid}
use Rattle.frame_pool.specs.Mapped.{IsMapped, MayEnter, WasSplitFrom}
use Rattle.frame_pool.specs.Placed.{with_reservation}
use Rattle.pager_laws.proofs.FrameCounts.{places_few}
use Rattle.frame_pool.proofs.LayoutInOrder.{rest_placed}
use Rattle.pager_laws.proofs.LayoutRelease.{not_in_rest}

-- a reservation of frames that are in none, with which the layout is sound
pub MayEnter-added : (l : Layout) (r : Reservation) (page : ℕ) → IsLaid l → IsPlaced (length l.records) r.frame r → r.space < 16
    → r.first < space_pages → ((frame id : ℕ) → has_frame frame (Some r) ≡ true → has_frame frame (record_at l id) ≡ false)
    → IsLaid (with_reservation r page l) → MayEnter l.records r
MayEnter-added l r page laid placed few within apart after =
    let known : r.frame < length l.records = omega (arith, placed.within, eight_pos r.size) in
    let none = none_begins l.records r.frame laid.placed (apart r.frame r.frame
    (has_frame_from r.frame r (omega arith) (omega (arith, eight_pos r.size)))) in
    record {
      placed = placed;
      known = few;
      within = within;
      none = λ frame has. none_begins l.records frame laid.placed (apart frame frame has);
      apart = λ id p q is has also. elim (cases_eq id r.frame) [
        | inl same ↦ none-some q (sym none ∙ ap (record_at l) (sym same) ∙ is)
        | inr other ↦
            let there = get_or-set_other l.records r.frame id (Some r) None other ∙ is in
            other (after.one_cover id r.frame r.space p q r there (get_or-set_same l.records r.frame (Some r) None known) also has)
      ];
      few = omega (
        arith,
        sum_by-set places_in l.records r.frame (Some r) None known,
        ap places_in none,
        places_few (with_reservation r page l) after,
        laid.records_long,
      );
    }

-- a reservation of the layout that was taken out
module _ (l : Layout) (id : ℕ) (r : Reservation) (laid : IsLaid l) (is : record_at l id ≡ Some r) where
  MayEnter-again : (r.space < 16) × (r.first < space_pages) → MayEnter (set l.records id None) r
  MayEnter-again pages =
      let placed = laid.placed id r is in
      let long = length-set l.records id None in
      record {
        placed = subst (λ n. IsPlaced n r.frame r) (sym long) (subst (λ k. IsPlaced (length l.records) k r) (sym placed.named) placed);
        known = pages.0;
        within = pages.1;
        none = λ frame has. none_begins (set l.records id None) frame (rest_placed l id r laid is)
            (elim (cases_Bool (has_frame frame (get_or (set l.records id None) frame None))) [
              | inl also ↦ absurd (not_in_rest l id r laid is frame frame has also)
              | inr not ↦ not
            ]);
        apart = λ j p q at has also. let w = unset_before l.records id j None (Some q) (none-some q) at in
            w.0 (laid.one_cover j id r.space p q r w.1 is also has);
        few = omega (
          arith,
          sum_by-set places_in l.records id None None (get_or_within l.records id r is),
          ap places_in is,
          places_few l laid,
          laid.records_long,
          long,
        );
      }

  -- and is split
  pub WasSplitFrom-left : (map : Populations) (after : List (Option Reservation)) (parts : List Part) → IsMapped map l.records
      → after ≡ split_records (is_used l.used) r l.records → parts ≡ told_parts (is_used l.used) r → WasSplitFrom map after parts r
  WasSplitFrom-left map after parts mapped split told =
      let named = (laid.placed id r is).named in
      let again : set (set l.records id None) r.frame (Some r) ≡ l.records = ap (λ k. set (set l.records id None) k (Some r)) named
      ∙ set-set l.records id None (Some r) ∙ ap (set l.records id) (sym is) ∙ set-get_or l.records id None in
      record {
        records = set l.records id None;
        used = is_used l.used;
        mapped = subst (IsMapped map) (sym again) mapped;
        enters = MayEnter-again (mapped.pages id r is);
        parts = told;
        split = split ∙ sym (split_records-open (is_used l.used) r id l.records named);
      }
