use Rattle.std.proofs.Common.{◌≡◌, ℕ, ◌+◌, ◌-◌, ◌*◌, ◌^◌, Bool, List, Option, arith, ap, sym, subst, ◌∙◌, set, length, inl, inr}
use Rattle.std.proofs.lemmas.Bool.{cases_lt}
use Rattle.pager_model.specs.declared.reservation.Reservation.{Reservation}
use Rattle.pager_model.specs.Records.{is_used, part_of, kept_part}
use Rattle.pager_model.specs.RecordPlaces.{IsPlaced}
use Rattle.pager_model.proofs.ExtentLemmas.{eight_parts, eight_pos, eight_small, part_of_eight, aligned_end}
use Rattle.reservations.specs.Kept.{AreNoted}
use Rattle.reservations.proofs.SplitLemmas.{kept_cases, split_up_to, split_up_to-more, ArePlaced-part, AreNoted-part}
use Rattle.reservations.proofs.write_parts.Goals as goal

pub overflow_mul-first : goal.overflow_mul-first
overflow_mul-first c =
    let r = c.args.whole.now in
    let pages : c.pages.result ≡ 8 ^ (r.size - 1) = c.pages.ensures ∙ ap (λ k. 8 ^ k) c.smaller-size.ensures in
    rw pages (omega (
      arith,
      part_of_eight c.loop-i.i r.size c.requires.splits c.loop-i-test.true,
      eight_small r.size c.requires.whole_placed.aligned.0,
    ))

pub overflow_add-first : goal.overflow_add-first
overflow_add-first c =
    let r = c.args.whole.now in
    let pages : c.pages.result ≡ 8 ^ (r.size - 1) = c.pages.ensures ∙ ap (λ k. 8 ^ k) c.smaller-size.ensures in
    let ends = part_of_eight c.loop-i.i r.size c.requires.splits c.loop-i-test.true in
    let last = aligned_end r.size r.frame c.requires.whole_placed.aligned.0 c.requires.whole_placed.aligned.1 (omega arith) in
    rw pages (omega (arith, ends, last, eight_pos (r.size - 1)))

pub write-requires-clause-known : goal.write-requires-clause-known
write-requires-clause-known c =
    let r = c.args.whole.now in
    let pages : c.pages.result ≡ 8 ^ (r.size - 1) = c.pages.ensures ∙ ap (λ k. 8 ^ k) c.smaller-size.ensures in
    let ends = part_of_eight c.loop-i.i r.size c.requires.splits c.loop-i-test.true in
    rw pages (omega (arith, ends, c.requires.whole_placed.within, c.requires.records_long, c.loop-i.auto.records, eight_pos (r.size - 1)))

pub write-requires-clause-numbered : goal.write-requires-clause-numbered
write-requires-clause-numbered c =
    let r = c.args.whole.now in
    let ends = part_of_eight c.loop-i.i r.size c.requires.splits c.loop-i-test.true in
    rw c.kept_part.ensures (elim (kept_cases (is_used c.args.used.now) r c.loop-i.i) [
      | inl empty ↦ rw empty.0 tt
      | inr whole ↦ rw whole (omega (arith, ends, c.requires.whole_placed.within, c.requires.numbered, eight_pos (r.size - 1)))
    ])

pub loop-i-preserved : goal.loop-i-preserved
loop-i-preserved c =
    let r = c.args.whole.now in
    let used = c.args.used.now in
    let i = c.loop-i.i in
    let was = c.loop-i.invariant in
    let pages : c.pages.result ≡ 8 ^ (r.size - 1) = c.pages.ensures ∙ ap (λ k. 8 ^ k) c.smaller-size.ensures in
    let long : length c.loop-i.records ≡ length used = omega (arith, c.loop-i.auto.records, c.requires.records_long) in
    let whole_placed = subst (λ n. IsPlaced n r.frame r) (sym long) c.requires.whole_placed in
    let noted = rw (pages, c.kept_part.ensures) at c.write.ensures.records in
    let filled = rw (pages, c.smaller-size.ensures, c.kept_part.ensures) at c.write.ensures.ids in
    record {
      split =
          noted ∙ ap (λ rs. set rs (part_of r i).frame (kept_part (is_used used) r i)) was.split
          ∙ sym (split_up_to-more i (is_used used) r c.args.records.now);
      placed = rw noted (ArePlaced-part c.loop-i.records used r i c.requires.splits c.loop-i-test.true whole_placed was.placed);
      noted = rw noted (AreNoted-part c.loop-i.records used r i c.requires.splits c.loop-i-test.true whole_placed _ _ was.placed was.noted
          filled);
    }

closed_gap : (records : List (Option Reservation)) (ids : List (Option ℕ)) (used : List Bool) (at : ℕ)
    → AreNoted records ids used at at → AreNoted records ids used 0 0
closed_gap records ids used at noted = record {
  exact = λ f id _. noted.exact f id (cases_lt f at);
  idle = λ f _. noted.idle f (cases_lt f at);
  gap = λ f id low high _. absurd (omega arith);
}

pub returns-clause-records : goal.returns-clause-records
returns-clause-records c =
    let all : c.loop-i.i ≡ 8 = omega arith in
    c.loop-i.invariant.split ∙ ap (λ (n : ℕ). split_up_to n (is_used c.args.used.now) c.args.whole.now c.args.records.now) all

pub returns-clause-noted : goal.returns-clause-noted
returns-clause-noted c =
    let r = c.args.whole.now in
    let all : c.loop-i.i ≡ 8 = omega arith in
    let wide : r.frame + 8 * 8 ^ (r.size - 1) ≡ r.frame + 8 ^ r.size = ap (λ (n : ℕ). r.frame + n) (sym (eight_parts r.size c.requires.splits)) in
    let ends : r.frame + c.loop-i.i * 8 ^ (r.size - 1) ≡ r.frame + 8 ^ r.size = ap (λ (n : ℕ). r.frame + n * 8 ^ (r.size - 1)) all ∙ wide in
    closed_gap c.loop-i.records c.loop-i.ids c.args.used.now (r.frame + 8 ^ r.size)
    (subst (λ (n : ℕ). AreNoted c.loop-i.records c.loop-i.ids c.args.used.now n (r.frame + 8 ^ r.size)) ends c.loop-i.invariant.noted)
