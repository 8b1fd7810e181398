use Rattle.std.proofs.Common.{◌∙◌, ap, arith, sym}
use Rattle.std.specs.List.{insert}
use Rattle.std.proofs.lemmas.List.Edits.{insert_end}
use Rattle.std.proofs.lemmas.List.Sums.{prefix_len-le-length}
use Rattle.pager_model.specs.Ages.{is_before}
use Rattle.reservation_lists.proofs.Members.{none_of_frame}
use Rattle.reservation_lists.proofs.Places.{with_member_at_place}
use Rattle.reservation_lists.proofs.insert_in.Goals as goal

pub insert-requires : goal.insert-requires
insert-requires c =
    let list = c.args.list.now in
    omega (arith, prefix_len-le-length (λ m. is_before m c.args.new) list.items, c.position_of-place.ensures, list.ok.0)

pub returns-then-place-len-clause-items : goal.returns-then-place-len-clause-items
returns-then-place-len-clause-items c =
    let list = c.args.list.now in
    let at_end = sym c.position_of-place.ensures ∙ c.if-place-len.true ∙ c.len.ensures ∙ list.ok.0 in
    let inserted = with_member_at_place c.args.new list.items (none_of_frame c.args.new.frame list.items c.requires.unlisted) in
    c.push_back_reserved.ensures.items
    ∙ sym (inserted ∙ ap (λ place. insert list.items place c.args.new) at_end ∙ insert_end list.items c.args.new)

pub returns-else-place-len-clause-items : goal.returns-else-place-len-clause-items
returns-else-place-len-clause-items c =
    let list = c.args.list.now.items in
    let inserted = rw (c.unwrap.ensures, c.position_of-place.ensures) at c.insert.ensures.items in
    inserted ∙ sym (with_member_at_place c.args.new list (none_of_frame c.args.new.frame list c.requires.unlisted))
