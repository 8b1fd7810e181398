use Rattle.std.proofs.Common.{sym, subst, ◌∙◌}
use Rattle.pager_model.proofs.Options.{in_some}
use Rattle.miss_curves.specs.Histories.{StandsFor}
use Rattle.stream_core.specs.Tallies.{IsTallied}
use Rattle.stream_core.proofs.Tallies.{Comes-next, last_then}
use Rattle.stream_core.proofs.tally.TallyLog.add.Goals as goal
use Rattle.stream_core.proofs.tally.TallyLog.add.Goals.{in-Some, in_default}

pub follow-requires-clause-comes : goal.follow-requires-clause-comes
follow-requires-clause-comes c =
    let may = c.requires.may in
    let was = subst (λ t. IsTallied t may.0 may.1) (sym c.self.view_is) may.2 in
    let stands = in_some (λ k. StandsFor k may.0 may.1) c.self.inside.curves c.in-Some.curves c.in-Some.is was.curves in
    (may.0, may.1, stands, Comes-next may.0 may.1 c.args.entry.now stands.legal may.3 c.requires.line)

pub returns-clause-stands : goal.returns-clause-stands
returns-clause-stands c = λ g h is may.
    let was = subst (λ t. IsTallied t g h) (sym c.self.view_is) is in
    let counted = c.add.ensures.stands g h was.counted may in
    let last = c.remembered-self-inside.ensures ∙ last_then h c.args.entry.now _ was.last in
    elim c.match-self.branch [
      | in-Some w ↦
          let stands = in_some (λ k. StandsFor k g h) c.self.inside.curves w.in-Some.curves w.in-Some.is was.curves in
          rw w.self-inside-is (record {
            counted = counted;
            last = last;
            curves = w.follow.ensures.stands g h stands (Comes-next g h c.args.entry.now stands.legal may c.requires.line);
          })
      | in_default w ↦ rw (w.self-inside-is, w.in_default.is) (record { counted = counted; last = last; curves = tt })
    ]
