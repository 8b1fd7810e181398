use Rattle.std.proofs.Common.{◌≡◌, ◌<◌, ◌++◌, ◌∷◌, [], get_or, length, take, sym, ap, subst, ◌∙◌, arith}
use Rattle.std.proofs.lemmas.List.{map_more}
use Rattle.std.proofs.lemmas.Option.{get_or_from_slice_get}
use Rattle.pager_model.specs.declared.entry.Numbered.{Numbered}
use Rattle.pager_model.specs.Legal.{MayFollow, frames_at, entries_in}
use Rattle.contiguity_plan.specs.Tables.{IsRight}
use Rattle.contiguity_plan.proofs.Followed.{legal-before}
use Rattle.contiguity_plan.proofs.table.Table.follow.Goals as goal

pub loop-place-preserved : goal.loop-place-preserved
loop-place-preserved c = record {
  spaces = c.follow_one.ensures.spaces ∙ c.loop-place.invariant.spaces;
  right = λ g legal start.
      let history = c.args.history.now.items in
      let i = c.loop-place.place in
      let x = c.in-Some.numbered in
      let is : x ≡ get_or history i x = sym (get_or_from_slice_get history i x x (sym c.in-Some.ensures)) in
      let known : i < length history = omega arith in
      let before = legal-before g history i x known legal in
      let may = subst (λ (n : Numbered). MayFollow g (entries_in (take i history)) n.entry) (sym is) before.1 in
      let more = map_more (λ (n : Numbered). n.entry) history i x known
      ∙ ap (λ (n : Numbered). entries_in (take i history) ++ n.entry ∷ []) (sym is) in
      subst (λ h. IsRight (frames_at g h) c.follow_one.new.self) (sym more)
      (c.in_ok-follow_one.ensures.right g (entries_in (take i history)) before.0 may (c.loop-place.invariant.right g legal start));
}
