use Rattle.std.proofs.Common.{◌<◌, get_or, sym, ap, subst, ◌∙◌}
use Rattle.pager_model.specs.Order.{at_rest}
use Rattle.history_check.proofs.Rested.{idle_whole, no_turns, turns_made, whole_idle}
use Rattle.history_check.proofs.checker.Checker.is_at_rest.Goals as goal

pub returns-then-not-are_idle-clause-other : goal.returns-then-not-are_idle-clause-other
returns-then-not-are_idle-clause-other c = λ _ history stands rest.
    let script = c.args.trace.now in
    c.are_idle.ensures.other c.if-not-are_idle.true
    (λ p d known.
    let below = subst (λ n. p < n) c.processors.ensures.processors known in
    idle_whole script history c.args.self.now stands p d below (rest.calls p below))

pub returns-in-Some-clause-rest : goal.returns-in-Some-clause-rest
returns-in-Some-clause-rest c = λ turned history stands.
    let script = c.args.trace.now in
    let is = sym c.daemon.ensures.daemon ∙ c.in-Some.is in
    record {
      calls = λ p known.
          whole_idle script history c.args.self.now stands p (at_rest 0 0) known
          (c.are_idle.ensures.idle c.if-not-are_idle.false p (at_rest 0 0) (subst (λ n. p < n) (sym c.processors.ensures.processors) known));
      turns = turns_made script history c.args.self.now stands c.in-Some.daemon is (at_rest 0 0)
          (ap (λ n. get_or c.args.self.now.progress.items n (at_rest 0 0)) (sym c.processors-in-Some.ensures.processors)
          ∙ c.has_turned.ensures.turned turned (at_rest 0 0));
    }

pub returns-in-None-clause-rest : goal.returns-in-None-clause-rest
returns-in-None-clause-rest c = λ _ history stands.
    let script = c.args.trace.now in
    record {
      calls = λ p known.
          whole_idle script history c.args.self.now stands p (at_rest 0 0) known
          (c.are_idle.ensures.idle c.if-not-are_idle.false p (at_rest 0 0) (subst (λ n. p < n) (sym c.processors.ensures.processors) known));
      turns = no_turns script history c.args.self.now stands (sym c.daemon.ensures.daemon ∙ c.in-None.is);
    }
