use Rattle.std.proofs.Common.{◌≤◌, ◌≡◌, ◌++◌, ◌∷◌, [], Some, map, length, arith, subst, sym, ap, ◌∙◌}
use Rattle.std.specs.List.{AllByRecursion}
use Rattle.std.proofs.lemmas.List.{map-append}
use Rattle.std.proofs.lemmas.List.Elements.{All-pop}
use Rattle.journal_core.specs.Journals.{PassState}
use Rattle.journal_core.specs.Seats.{own_of}
use Rattle.journal_core.proofs.TakenPasses.{last_is_next, with_pass}
use Rattle.journal_core.proofs.ViewTotals.{each_append}
use Rattle.journal_core.proofs.gather.board_passes.Goals as goal

pub loop-pass-preserved : goal.loop-pass-preserved
loop-pass-preserved c =
    let i = c.loop-pass.invariant in
    let pass = c.in-Some.pass in
    let all = c.in-Some.ensures.items in
    let parts = c.into_parts-log.ensures in
    let me = with_pass _ _ _ _ _ pass i.1 parts.seat.1 c.board.ensures.1 in
    let logs = ap (map (λ v. v.items)) c.push_reserved.ensures.items ∙ map-append (λ v. v.items) _ _
    ∙ ap (λ l. map (λ v. v.items) c.loop-pass.logs.items ++ l ∷ []) parts.log.1 in (
      c.board.ensures.0 ∙ i.0,
      me.0,
      last_is_next own_of _ _ _ _ _ pass all me.1 i.2,
      (All-pop (λ (p : PassState). p.journal.table ≡ c.args.word.now.table_id) _ _ (Some pass) all i.3).0,
      last_is_next (λ (p : PassState). p.entries) _ _ _ _ _ pass all logs i.4,
      omega (arith, c.in-Some.ensures.len, c.push_reserved.ensures.len),
      λ rest. i.6 (subst (AllByRecursion (λ (p : PassState). length p.entries ≤ p.room)) (sym all)
          (each_append (λ (p : PassState). length p.entries ≤ p.room) _ (pass ∷ []) rest (parts.pass.room, tt))),
    )
