use Rattle.std.proofs.Common.{length, map, replicate, ap, sym, ◌∙◌}
use Rattle.std.proofs.Math.ListN.{length-map}
use Rattle.pager_core.proofs.Stores.{AreRoomsOver-made}
use Rattle.pager_core.proofs.run_parts.RunRoom.create.Goals as goal

pub returns-clause-spaces : goal.returns-clause-spaces
returns-clause-spaces g c =
    AreRoomsOver-made c.args.frames c.args.sizes c.args.marks.now
    (map g.S.Store.seen c.args.stores.now) c.in_ok-setting.setting c.in_ok-spaces.spaces c.in_ok-setting.ensures.given
    (c.in_ok-spaces.ensures ∙ ap (λ n. replicate n (record {
      frames = c.args.frames;
      processors = length c.args.marks.now;
      sizes = c.args.sizes;
    })) (sym (length-map c.args.stores.now g.S.Store.seen)))
    c.in_ok-setting.ensures.told
