use Rattle.std.proofs.Common.{◌≡◌, true, find, fold, None, refl, sym, ap, subst, ◌∙◌}
use Rattle.std.specs.List.{range_with_len}
use Rattle.std.proofs.lemmas.Bool.{true≢false}
use Rattle.std.proofs.lemmas.Option.{IfSome_then}
use Rattle.pager_model.specs.FrameStates.{counted, is_claimed_page, lowest_claimed, wire_page}
use Rattle.pager_model.specs.Layouts.{Layout, frame_in}
use Rattle.frame_pool.specs.PoolState.{state_of}
use Rattle.frame_pool.specs.Pooled.{IsPool}
use Rattle.frame_pool.proofs.BreakSteps.{IfNone-holds}
use Rattle.frame_pool.proofs.PoolFields.{layout_of-pool, IsPool-pinned}
use Rattle.frame_pool.proofs.pool.Pool.pin.Goals as goal
use Rattle.frame_pool.proofs.pool.Pool.pin.Goals.{then-wired+else-is_some, else-wired}

pub returns-then-is_some-clause-kept : goal.returns-then-is_some-clause-kept
returns-then-is_some-clause-kept c =
    let p = c.self.inside in
    let st = state_of p in
    let same = layout_of-pool p c.self.invariant in
    let pages = range_with_len c.args.first c.args.length in
    rw (← c.self.view_is)
    (IfSome_then c.lowest_claimed-kept.result c.lowest_claimed-kept.ensures.found (λ k is. (
      c.if-wired.true,
      ap (λ l. find (is_claimed_page l st.used c.args.space) pages) same ∙ is.0,
      ap (λ l. frame_in l c.args.space k.page) same ∙ is.1,
      refl,
    )))

pub invariant_of-self-2 : goal.invariant_of-self-2
invariant_of-self-2 c =
    let p = c.self.inside in
    let st = state_of p in
    let space = c.args.space in
    let same = layout_of-pool p c.self.invariant in
    let pages = range_with_len c.args.first c.args.length in
    let none : c.args.wired ≡ true → lowest_claimed st space c.args.first c.args.length ≡ None =
    elim c.if-wired.branch [
      | then-wired+else-is_some w ↦ λ on. ap (λ l. find (is_claimed_page l st.used space) pages) same
          ∙ IfNone-holds w.lowest_claimed-kept.result (find (is_claimed_page p.layout st.used space) pages ≡ None)
          (sym w.is_some.ensures ∙ w.if-is_some.false) w.lowest_claimed-kept.ensures.none
      | else-wired w ↦ λ on. absurd (true≢false (sym on ∙ w.if-wired.false))
    ] in
    rw c.wire_range.ensures
    (subst (λ (l : Layout). IsPool p.frames.items p.layout p.used.processors
    (counted (record st { used = fold (wire_page l space c.args.wired) st.used pages }))) same
    (IsPool-pinned p.frames.items p.layout p.used.processors st space c.args.first c.args.length c.args.wired c.self.invariant none))
