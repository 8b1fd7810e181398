use Rattle.std.proofs.Common.{◌≡◌, ℕ, ◌+◌, ◌<◌, ◌≤◌, List, Option, Some, None, Bor, length, get_or, set, inl, inr, refl, sym, ap, ◌∙◌, arith}
use Rattle.std.specs.List.{HoldsAt, slice_get}
use Rattle.std.specs.Option.{IfSome, MatchOption, option_copied}
use Rattle.std.proofs.lemmas.Bool.{cases_eq}
use Rattle.std.proofs.lemmas.List.{get_or_default, get_or-set_other, get_or-set_same, length-set}
use Rattle.std.proofs.lemmas.Option.{slice_get_past, slice_get_read}
use Rattle.extent_tree.specs.declared.spot.Spot.{Spot}
use Rattle.extent_tree.specs.Kept.{WritesValues}
use Rattle.extent_tree.specs.Rows.{blank}
use Rattle.extent_tree.proofs.store.write_eight.Goals as goal

-- what `get` found, copied
got : {V : Type 0} (found : Option (Bor V)) (values : List V) (part : ℕ) → IfSome found (λ x. x.now ≡ get_or values part x.now)
    → MatchOption found (length values ≤ part) (λ x. (part < length values) × HoldsAt (λ y. x.now ≡ y) values part)
    → option_copied found ≡ slice_get values part
got None values part here within = sym (slice_get_past values part within)
got (Some x) values part here within = sym (slice_get_read values (length values) part x.now refl within.0 here)

-- one place more is written
writes_more : {V : Type 0} (old new : List (Spot V)) (first part : ℕ) (values : List V) (value : Option V) (was : Spot V)
    → first + part < length new → WritesValues old new first part values → value ≡ slice_get values part
    → was ≡ get_or new (first + part) was
    → WritesValues old (set new (first + part) (record { value = value; node = was.node })) first (part + 1) values
writes_more old new first part values value was within so_far is here =
    let now : Spot _ = record { value = value; node = was.node } in
    let node : was.node ≡ (get_or old (first + part) blank).node = ap (λ s. s.node)
    (here ∙ get_or_default new (first + part) was blank within ∙ so_far.others (first + part) (inr (omega arith))) in
    let written : now ≡ record { value = slice_get values part; node = (get_or old (first + part) blank).node } = cc in
    record {
      places = length-set new (first + part) now ∙ so_far.places;
      written = λ k below. elim (cases_eq k part) [
        | inl same ↦ rw same (get_or-set_same new (first + part) now blank within ∙ written)
        | inr other ↦ get_or-set_other new (first + part) (first + k) now blank (λ e. other (omega arith)) ∙ so_far.written k (omega arith)
      ];
      others = λ place apart. get_or-set_other new (first + part) place now blank (elim apart [ inl low ↦ λ e. omega arith | inr high ↦ λ e. omega arith ])
          ∙ so_far.others place (elim apart [ inl low ↦ inl low | inr high ↦ inr (omega arith) ]);
    }

pub loop-part-preserved : goal.loop-part-preserved
loop-part-preserved g c =
    let found = c.get.ensures.lookup in
    record {
      room = c.loop-part.invariant.room;
      values = writes_more c.args.spots.now.items c.loop-part.spots.items c.args.first c.loop-part.part c.args.values.now
          c.copied-value.result c.index.result.now
          (omega (arith, c.requires, c.loop-part.invariant.values.places, c.loop-part-test.true)) c.loop-part.invariant.values
          (c.copied-value.ensures ∙ got c.get.result c.args.values.now c.loop-part.part found.1 found.3) c.index.ensures;
    }
