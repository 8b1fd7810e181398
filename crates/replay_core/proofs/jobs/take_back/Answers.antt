use Rattle.std.proofs.Common.{◌≡◌, ◌≢◌, ◌∙◌, ◌++◌, ◌∷◌, [], Some, get_or, map, take, ap, sym, arith}
use Rattle.std.proofs.lemmas.List.{map_push, map_more, get_or-set_other}
use Rattle.replay_core.proofs.JobLemmas.{pass_of}
use Rattle.replay_core.proofs.jobs.take_back.Goals as goal

pub unreachable-requires : goal.unreachable-requires
unreachable-requires c =
    let n = c.loop-worker.worker-index in
    let d = c.worker-item.result in
    let has = c.requires.there n d c.loop-worker-test.true in
    c.in_default.not-Some has.0 (c.take.ensures.value ∙ ap pass_of (c.loop-worker.invariant.rest n d (omega arith)) ∙ has.1)

pub loop-worker-preserved : goal.loop-worker-preserved
loop-worker-preserved c =
    let was = c.loop-worker.invariant in
    let workers = c.args.workers.now in
    let n = c.loop-worker.worker-index in
    let d = c.worker-item.result in
    let p = c.in-Some.pass in
    let own : Some p ≡ (get_or workers n d).pass = sym c.in-Some.is ∙ c.take.ensures.value ∙ ap pass_of (was.rest n d (omega arith)) in
    let count = was.count in
    record {
      passes =
          ap (map Some) c.push_reserved.ensures.items
          ∙ map_push Some c.loop-worker.passes.items p
          ∙ ap (λ l. l ++ Some p ∷ []) was.passes
          ∙ ap (λ o. map pass_of (take n workers) ++ o ∷ []) own
          ∙ sym (map_more pass_of workers n d c.loop-worker-test.true);
      rest = λ k e above. (let other : k ≢ n = omega (arith, above) in get_or-set_other c.loop-worker.worker-items n k _ e other
          ∙ was.rest k e (omega (arith, above)));
      count = omega (arith, count, c.push_reserved.ensures.len);
      room = c.push_reserved.ensures.capacity ∙ was.room;
    }
