use Rattle.std.proofs.Common.{◌≡◌, ◌∙◌, ◌<◌, ◌++◌, Option, Some, None, IsSome, option_to_list, get_or, length, map, reverse, take, ap, refl, arith}
use Rattle.std.proofs.lemmas.List.{length-reverse, map_push, reverse-reverse, take_more_set}
use Rattle.std.proofs.Math.Seq.{map-set_same}
use Rattle.journal_core.specs.Journals.{PassState}
use Rattle.replay_core.specs.declared.jobs.Worker.{Worker}
use Rattle.replay_core.proofs.JobLemmas.{pass_of, handed}
use Rattle.replay_core.proofs.jobs.hand_out.Goals as goal

one_in : (o : Option PassState) → IsSome o → length (option_to_list o) ≡ 1
one_in None some = cc
one_in (Some p) some = refl

pub loop-worker-init : goal.loop-worker-init
loop-worker-init c =
    let turned = c.reverse.ensures.items in
    let long = ap length turned ∙ length-reverse c.args.passes.now.items in
    record {
      passes = ap (λ l. map Some (reverse l)) turned ∙ ap (map Some) (reverse-reverse c.args.passes.now.items);
      same_jobs = refl;
      left = omega (arith, long);
      room = c.reverse.ensures.capacity;
    }

pub loop-worker-preserved : goal.loop-worker-preserved
loop-worker-preserved c =
    let was = c.loop-worker.invariant in
    let items = c.loop-worker.worker-items in
    let n = c.loop-worker.worker-index in
    let left = was.left in
    let below : n < length items = omega arith in
    let some : 0 < length c.loop-worker.passes.items = omega arith in
    let there = c.pop.ensures.variant.1 (omega arith) in
    let worker : Worker = record { pass = c.pop.result; jobs = (get_or items n c.worker-item.result).jobs } in
    let fewer = c.pop.ensures.items in
    record {
      passes =
          ap (λ l. map pass_of l ++ map Some (reverse c.pop.new.self.items)) (take_more_set items n worker below)
          ∙ ap (λ l. l ++ map Some (reverse c.pop.new.self.items)) (map_push pass_of (take n items) worker)
          ∙ handed (map pass_of (take n items)) _ c.loop-worker.passes.items c.pop.new.self.items c.pop.result was.passes fewer there;
      same_jobs = map-set_same (λ (w : Worker). w.jobs.items) items n worker c.worker-item.result refl ∙ was.same_jobs;
      left = omega (arith, one_in c.pop.result there, c.pop.ensures.len);
      room = c.pop.ensures.capacity ∙ was.room;
    }
