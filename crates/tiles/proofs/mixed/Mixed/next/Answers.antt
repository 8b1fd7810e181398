use Rattle.std.proofs.Common.{◌+◌, ◌*◌, ◌/◌, max, sym, ap, subst, arith}
use Rattle.std.specs.Option.{IfNone}
use Rattle.tiles.specs.TableEntries.{entry_with, IsNextEntry, NoneMapped}
use Rattle.tiles.specs.declared.entry.TableEntry.{TableEntry}
use Rattle.tiles.proofs.NextEntries.{next_entry, none_mapped, none_split, page_is}
use Rattle.tiles.proofs.mixed.Mixed.next.Goals as goal

pub returns-in_err-row-clause-none : goal.returns-in_err-row-clause-none
returns-in_err-row-clause-none g c =
    subst (λ o. IfNone o (NoneMapped c.args.self.now c.args.from c.args.end)) (sym c.from_residual.ensures)
    (subst (λ t. NoneMapped t c.args.from c.args.end) c.self.view_is
    (none_mapped c.self.inside.tree c.args.from c.args.end c.in_err-row.ensures.none))

pub returns-in_err-row-clause-empty : goal.returns-in_err-row-clause-empty
returns-in_err-row-clause-empty g c ordered none =
    c.in_err-row.ensures.roots ordered (none_split c.self.inside.tree c.args.from c.args.end c.self.invariant.0
    (subst (λ t. NoneMapped t (c.args.from / 512 * 512) ((c.args.end + 511) / 512 * 512)) (sym c.self.view_is) none))

pub returns-clause-some : goal.returns-clause-some
returns-clause-some g c =
    let row = c.in_ok-row.row in
    let is = next_entry c.self.inside.tree c.args.from c.args.end row c.self.invariant.0 c.in_ok-row.ensures.some in
    subst (IsNextEntry c.args.self.now c.args.from c.args.end) (sym c.round.ensures)
    (subst (λ t. IsNextEntry t c.args.from c.args.end (entry_with row.size row.page row.value)) c.self.view_is is)

pub returns-clause-cost : goal.returns-clause-cost
returns-clause-cost g c =
    omega (
      arith,
      c.in_ok-row.ensures.cost,
      c.in_ok-row.ensures.some.from_on,
      page_is c.self.inside.tree c.args.from c.args.end c.in_ok-row.row c.self.invariant.0 c.in_ok-row.ensures.some,
      ap (λ (e : TableEntry). max c.args.from e.extent.first) c.round.ensures,
    )

pub returns-clause-empty : goal.returns-clause-empty
returns-clause-empty g c ordered none =
    c.in_ok-row.ensures.roots ordered (none_split c.self.inside.tree c.args.from c.args.end c.self.invariant.0
    (subst (λ t. NoneMapped t (c.args.from / 512 * 512) ((c.args.end + 511) / 512 * 512)) (sym c.self.view_is) none))
