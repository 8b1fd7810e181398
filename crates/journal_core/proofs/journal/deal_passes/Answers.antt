use Rattle.std.proofs.Common.{arith, ℕ, [], ◌∷◌, ◌++◌, take, length, get_or, vec_capacity, Vec, Global, ◌∙◌, ap, ap₂, subst, sym, length-take-le}
use Rattle.std.proofs.lemmas.List.{take_more}
use Rattle.pager_model.specs.declared.entry.Numbered.{Numbered}
use Rattle.journal_core.specs.Journals.{PassState, new_pass, new_passes}
use Rattle.journal_core.specs.Seats.{IsPass, name_of, pass_of}
use Rattle.journal_core.proofs.DealtSeats.{pass_rest, pass_seat, pass_dealt, pass_is, new_passes-push}
use Rattle.journal_core.proofs.journal.deal_passes.Goals as goal

pub of-requires : goal.of-requires
of-requires c =
    let i = c.loop-processor.invariant in
    let made = c.in_ok-entries.ensures in
    let seat = c.alight_pass.result in
    let n = c.loop-processor.processor in
    let log = ap₂ (λ (p : ℕ) (es : Vec Numbered Global). pass_of seat.table_id seat.me.0 p es.items
    (vec_capacity es)) c.new-log.ensures.0 c.new-log.ensures.1 in
    subst (λ (p : PassState). IsPass p seat.me) (sym log)
    (pass_dealt c.args.seat.now.me.0.setting n _ _ _ _ (let all = c.requires.rooms.1 in omega (arith, all))
    (omega (arith, made.exact, c.requires.rooms.2 n 0 (omega arith)))
    (pass_seat c.args.seat.now.me.0.setting n _ (vec_capacity c.in_ok-entries.entries) seat.table_id _ _
    (omega arith) i.1 c.alight_pass.ensures.pass.1) made.items)

pub loop-processor-preserved : goal.loop-processor-preserved
loop-processor-preserved c =
    let i = c.loop-processor.invariant in
    let s = c.alight_pass.ensures in
    let seat = c.args.seat.now in
    let rooms = c.args.rooms.now in
    let n = c.loop-processor.processor in
    let name = name_of seat.table_id seat.me.0 in
    let own = c.alight_pass.result in
    let log = ap₂ (λ (p : ℕ) (es : Vec Numbered Global). pass_of own.table_id own.me.0 p es.items
    (vec_capacity es)) c.new-log.ensures.0 c.new-log.ensures.1 in
    let made = c.of.ensures
    ∙ log
    ∙ pass_is seat.me.0.setting n _ _ _ _
    (pass_seat seat.me.0.setting n (length rooms) (vec_capacity c.in_ok-entries.entries) own.table_id _ _ (omega arith) i.1 s.pass.1)
    c.in_ok-entries.ensures.items
    ∙ ap₂ (λ t room. new_pass (name_of t seat.me.0) n room) (s.pass.0 ∙ i.0) c.in_ok-entries.ensures.exact in
    let more = new_passes-push name (take n rooms) (get_or rooms n 0) n (length-take-le n rooms (omega arith)) in (
      s.rest.0 ∙ i.0,
      pass_rest _ _ _ _ _ (omega arith) i.1 s.rest.1,
      c.push_reserved.ensures.items ∙ ap₂ (λ xs x. xs ++ x ∷ []) i.2 made ∙ sym more
          ∙ ap (new_passes name 0) (sym (take_more rooms n 0 (omega arith))),
      c.push_reserved.ensures.capacity ∙ i.3,
      omega arith,
    )
