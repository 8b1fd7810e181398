use Rattle.std.proofs.Common.{sym, arith, rules}
use Rattle.std.proofs.lemmas.List.Sorted.{IsPartitionPoint-from_clause, IsPartitionedBy-leb}
use Rattle.std.proofs.lemmas.List.Sums.{prefix_len_is}
use Rattle.region_table.specs.Table.{LieFrom}
use Rattle.region_table.proofs.TableLemmas.{begins_by, first-rises, blank}
use Rattle.region_table.proofs.Regions.count_up_to.Goals as goal

pub returns-clause-value : goal.returns-clause-value
returns-clause-value c =
    let items = c.deref.result.now in
    let l : LieFrom 0 items = rw c.deref.ensures.0 c.self.invariant.in_order in
    let parted = IsPartitionedBy-leb (λ r. r.first) items c.args.page (first-rises 0 items l) in
    let point = IsPartitionPoint-from_clause (begins_by c.args.page) items _ c.partition_point.ensures.partitioned parted
    (λ a r q k. search rules) in
    rw (sym c.self.view_is) (rw (sym c.deref.ensures.0)
    (sym (prefix_len_is (begins_by c.args.page) items _ blank c.partition_point.ensures.bound (λ k h. point.0 k blank (omega arith) h)
    (λ h. point.1 _ blank (omega arith) h))))
