use Rattle.std.proofs.Common.{max, option_map, inl, inr, ap, sym, ◌∙◌, arith}
use Rattle.std.proofs.lemmas.Bool.{cases_lt}
use Rattle.tiles.specs.Resident.{mapping_at, with_rights}
use Rattle.tiles.proofs.Behind.{end_fits, keeps_within}
use Rattle.tiles.proofs.base.Base.any_has_other_rights.Goals as goal

pub behind-from-requires : goal.behind-from-requires
behind-from-requires g c = end_fits c.args.self.now _ c.in-Some.entry c.in-Some.ensures.some.fits

pub loop-entry-smaller : goal.loop-entry-smaller
loop-entry-smaller g c =
    let next = c.in-Some.ensures.some in
    omega (arith, c.behind-from.ensures, next.fits.to, next.next.before_end)

pub loop-entry-preserved : goal.loop-entry-preserved
loop-entry-preserved g c =
    let pages = mapping_at c.args.self.now in
    let rights = c.args.rights in
    let e = c.in-Some.entry in
    let next = c.in-Some.ensures.some in
    let same = c.has_other_rights.ensures.same c.if-has_other_rights.false in
    record {
      from_on = omega (arith, c.loop-entry.invariant.from_on, c.behind-from.ensures, next.fits.to);
      keeps = λ p low before. elim (cases_lt p c.loop-entry.from) [
        | inl earlier ↦ c.loop-entry.invariant.keeps p low earlier
        | inr on ↦ elim (cases_lt p (max c.loop-entry.from e.extent.first)) [
          | inl bare ↦ let none = next.lowest p on bare in ap (option_map (with_rights rights)) none ∙ sym none
          | inr after ↦ keeps_within rights c.args.self.now _ e next.fits same p (omega arith) (omega (arith, before, c.behind-from.ensures))
        ]
      ];
      cost = omega (
        arith,
        c.loop-entry.invariant.cost,
        c.in-Some.ensures.cost,
        c.behind-from.ensures,
        next.fits.to,
        next.next.before_end,
      );
    }

pub returns-then-has_other_rights-clause-cost : goal.returns-then-has_other_rights-clause-cost
returns-then-has_other_rights-clause-cost g c =
    omega (arith, c.loop-entry.invariant.cost, c.in-Some.ensures.cost, c.in-Some.ensures.some.next.before_end)

pub returns-clause-cost : goal.returns-clause-cost
returns-clause-cost g c = omega (arith, c.loop-entry.invariant.cost, c.in_default.ensures.cost)
