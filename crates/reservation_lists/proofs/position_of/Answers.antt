use Rattle.std.proofs.Common.{Bool, rules, arith, refl, sym, ◌∙◌}
use Rattle.std.proofs.lemmas.List.Sums.{prefix_len_is}
use Rattle.std.proofs.lemmas.List.Sorted.{IsPartitionPoint-from_clause}
use Rattle.pager_model.specs.Ages.{Member, is_before}
use Rattle.reservation_lists.proofs.Places.{IsPartitionedBy-before, place_at_end}
use Rattle.reservation_lists.proofs.position_of.Goals as goal

pub returns-in-Some : goal.returns-in-Some
returns-in-Some c =
    let list = c.args.list.now in
    c.len.ensures ∙ sym (place_at_end c.args.member.now c.in-Some.last.now list.items list.len c.requires list.ok.0
    (c.in-Some.ensures.variant.0 refl) c.in-Some.ensures.lookup (search rules))

pub returns-in_default : goal.returns-in_default
returns-in_default c =
    let list = c.args.list.now in
    let before : Member → Bool = λ m. is_before m c.args.member.now in
    let parted = IsPartitionedBy-before c.args.member.now list.items c.requires in
    let point = IsPartitionPoint-from_clause before _ _ c.partition_point.ensures.partitioned parted (λ a r q k. search rules) in
    let d : Member = record { stamp = 0; frame = 0 } in
    sym (prefix_len_is before list.items c.partition_point.result d (omega (arith, c.partition_point.ensures.bound, list.ok.0))
    (λ k below. point.0 k d (omega arith) below) (λ below. point.1 _ d (omega arith) below))
