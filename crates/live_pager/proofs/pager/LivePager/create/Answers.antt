use Rattle.std.proofs.Common.{◌≡◌, [], map, refl, ap, subst, ◌∙◌}
use Rattle.stream_core.specs.Streaming.{IsAfter, with_calls}
use Rattle.live_pager.specs.Live.{script_of}
use Rattle.live_pager.proofs.pager.LivePager.create.Goals as goal

pub invariant_of-result : goal.invariant_of-result
invariant_of-result g c =
    let is : c.of-opening.result ≡ script_of c.args.frames c.args.processors c.args.spaces c.args.sizes =
    c.of-opening.ensures ∙ ap (with_calls (script_of c.args.frames c.args.processors c.args.spaces c.args.sizes)) c.new.ensures.items in
    record {
      was = record {
        script = script_of c.args.frames c.args.processors c.args.spaces c.args.sizes;
        stores = map g.S.Store.seen c.args.stores.items;
        calls = [];
        history = [];
        live = record {
          after = subst (λ p. IsAfter p (map g.S.Store.seen c.args.stores.items) [] [] c.in-Ok.stream) is c.in-Ok.ensures.starts;
          version = refl;
          alone = refl;
        };
      };
      counts_are = λ script stores calls h live. c.summary-counts.ensures script stores calls h live.after;
    }
