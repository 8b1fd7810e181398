use Rattle.std.proofs.Common.{length, replicate, None, ap, sym, ◌∙◌}
use Rattle.std.proofs.lemmas.List.FromFn.{length-map-range_with_len}
use Rattle.pager_model.specs.Showing.{actors, jobs_of}
use Rattle.pager_core.proofs.machine.parts_of.Goals as goal

pub first_of_each-requires : goal.first_of_each-requires
first_of_each-requires g c =
    ap length c.in_ok-jobs.ensures.jobs ∙ length-map-range_with_len (λ k. jobs_of k c.args.trace.now) 0 (actors c.args.trace.now)
    ∙ sym c.actors.ensures.actors

pub returns-clause-keepers : goal.returns-clause-keepers
returns-clause-keepers g c = c.in_ok-keepers.ensures ∙ ap (λ n. replicate n None) c.spaces-spaces.ensures.spaces
