use Rattle.std.proofs.Common.{◌≤◌, length, map, inl, inr, refl, subst, arith}
use Rattle.std.proofs.lemmas.List.{length-map}
use Rattle.pager_model.specs.Scripts.{Script}
use Rattle.stream_run.specs.Reports.{Admits}
use Rattle.stream_run.specs.Streams.{RanSome, ports}
use Rattle.stream_run.proofs.ReadText.{was_opened}
use Rattle.stream_run.proofs.run.run_ahead.Goals as goal

pub returns : goal.returns
returns g c =
    let ok = c.in-Ok.ensures in
    let stores = map g.S.Store.seen c.args.stores.items in
    let longer = length-map c.args.stores.items g.S.Store.seen in
    let own = ok.enough in
    let enough : c.in-Ok.opening.trace.spaces ≤ length stores = omega (arith, longer, own) in
    inl (record {
      why = was_opened (λ (p : Script). Admits c.args.report p × (p.spaces ≤ length stores)) (g.T.Source.left c.args.source.now)
          (g.T.Source.left c.opening_to_run.new.source) c.opening_to_run.new.ahead c.in-Ok.opening.head c.in-Ok.opening.trace ok.opening
          ok.few_ahead (ok.admitted, enough) ok.reads;
      read_fault = ok.unfailed;
      unwritten = refl;
      no_write_fault = refl;
      same_stores = c.in-Err-create.ensures.back;
    })

pub returns-in-Ok-create : goal.returns-in-Ok-create
returns-in-Ok-create g c =
    let left = g.T.Source.left c.args.source.now in
    let stores = map g.S.Store.seen c.args.stores.items in
    let ran = c.run_calls.ensures left stores c.in-Ok-create.ensures.starts c.in-Ok.ensures.reads in
    inr (subst
    (λ n. RanSome g.S.Store.lasts c.args.report (ports left n (g.K.Sink.taken c.args.sink.now) (g.K.Sink.faults c.args.sink.now))
    (ports (g.T.Source.left c.run_calls.new.source) (g.T.Source.faults c.run_calls.new.source) (g.K.Sink.taken c.run_calls.new.sink)
    (g.K.Sink.faults c.run_calls.new.sink))
    stores (map g.S.Store.seen c.run_calls.result.stores.items) c.run_calls.result.ending)
    c.in-Ok.ensures.unfailed ran)
