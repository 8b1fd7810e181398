use Rattle.std.proofs.Common.{◌≤◌, List, ap, sym, subst, arith}
use Rattle.pager_model.specs.declared.entry.Numbered.{Numbered}
use Rattle.pager_model.specs.Legal.{entries_in}
use Rattle.pager_locks.specs.declared.daemon.Turned.{Turned}
use Rattle.pager_locks.specs.Counts.{faults_in, unclaims_in}
use Rattle.pager_locks.proofs.TurnCounts.{TurnCounts, TurnCounts-since, sliced}
use Rattle.pager_locks.proofs.daemon.turn.Goals as goal

pub count-turned-requires-clause-given_up : goal.count-turned-requires-clause-given_up
count-turned-requires-clause-given_up g c =
    subst (λ (l : List Numbered). faults_in (entries_in l) ≤ unclaims_in (entries_in l))
    (sym (sliced c.args.pass.entries c.turn-pass.result.entries c.entries-before.result.now c.entries.result.now c.entries-before.ensures.entries c.entries.ensures.entries))
    (TurnCounts-since c.args.pass c.turn-pass.result c.args.low c.requires.pass.some c.turn-pass.ensures).faults

pub returns-clause-few : goal.returns-clause-few
returns-clause-few g c =
    let counts = subst (λ (l : List Numbered). TurnCounts c.args.low (entries_in l))
    (sym (sliced c.args.pass.entries c.turn-pass.result.entries c.entries-before.result.now c.entries.result.now c.entries-before.ensures.entries c.entries.ensures.entries))
    (TurnCounts-since c.args.pass c.turn-pass.result c.args.low c.requires.pass.some c.turn-pass.ensures) in
    let written = ap (λ (t : Turned). t.written) c.count-turned.ensures in
    let clean = ap (λ (t : Turned). t.clean) c.count-turned.ensures in
    let faults = ap (λ (t : Turned). t.faults) c.count-turned.ensures in
    let memory = ap (λ (t : Turned). t.memory) c.count-turned.ensures in
    let outs = counts.outs in
    let unclaims = counts.unclaims in
    let given_up = counts.faults in
    (omega (arith, written, clean, outs), omega (arith, faults, memory, unclaims, given_up))
