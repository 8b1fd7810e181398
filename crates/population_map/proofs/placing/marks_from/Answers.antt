use Rattle.std.proofs.Common.{◌≡◌, ◌≢◌, ℕ, ◌<◌, List, Some, length, set, inl, inr, refl, sym, ap, ◌∙◌, option_map, arith}
use Rattle.std.specs.List.{slice_get}
use Rattle.std.proofs.lemmas.Bool.{cases_eq}
use Rattle.std.proofs.lemmas.List.{get_or-set_same, get_or-set_other, length-set}
use Rattle.std.proofs.lemmas.Option.{slice_get-get_or}
use Rattle.population_map.specs.declared.mark.Mark.{Mark}
use Rattle.population_map.specs.Populations.{placed_mark}
use Rattle.population_map.proofs.placing.marks_from.Goals as goal

written : (marks : List Mark) (part : ℕ) (mark : Mark) → part < length marks → slice_get (set marks part mark) part ≡ Some mark
written marks part mark within =
    slice_get-get_or (set marks part mark) part mark (omega (arith, length-set marks part mark))
    ∙ ap (λ m. Some m) (get_or-set_same marks part mark mark within)

kept : (marks : List Mark) (part other : ℕ) (mark : Mark) → other < length marks → other ≢ part
    → slice_get (set marks part mark) other ≡ slice_get marks other
kept marks part other mark within apart =
    slice_get-get_or (set marks part mark) other mark (omega (arith, length-set marks part mark))
    ∙ ap (λ m. Some m) (get_or-set_other marks part other mark mark apart) ∙ sym (slice_get-get_or marks other mark within)

pub loop-part-init : goal.loop-part-init
loop-part-init c = record { eight = refl; marks = λ part below. absurd (omega arith) }

pub loop-part-preserved : goal.loop-part-preserved
loop-part-preserved c =
    let ids = c.args.ids.now in
    let marks = c.loop-part.marks in
    let part = c.loop-part.part in
    let so_far = c.loop-part.invariant in
    let mark : Mark = record { id = c.of.result; some = 0; full = 0 } in
    let is : mark ≡ placed_mark _ = ap (λ id. (let m : Mark = record { id = id; some = 0; full = 0 } in m)) c.of.ensures in
    record {
      eight = length-set marks part mark ∙ so_far.eight;
      marks = λ other below. elim (cases_eq other part) [
        | inl same ↦ rw same (written marks part mark (omega arith) ∙ ap (λ m. Some m) is
            ∙ sym (ap (option_map placed_mark) (slice_get-get_or ids part 0 (omega (arith, c.told-ids)))))
        | inr apart ↦ kept marks part other mark (omega arith) apart ∙ so_far.marks other (omega arith)
      ];
    }

pub returns : goal.returns
returns c = λ part below. c.loop-part.invariant.marks part (omega arith)
