use Rattle.std.proofs.Common.{◌≡◌, [], replicate, Some, sym, subst}
use Rattle.std.specs.Option.{IfSome}
use Rattle.guarded_pager.specs.Guards.{zero_store}
use Rattle.live_pager.specs.Live.{IsLive, script_of}
use Rattle.superpager_machine.specs.Asked.{sizes_of}
use Rattle.superpager_machine.proofs.superpager_machine_open.Goals as goal

pub returns-in-Ok-new-clause-opened : goal.returns-in-Ok-new-clause-opened
returns-in-Ok-new-clause-opened c = λ done.
    let set = c.args.setting in
    let is : c.put_in.new.self.kept.state ≡ Some c.in-Ok.pager = cc (c.put_in.ensures, c.in-Ok-new.ensures.ok) in
    subst (λ o. IfSome o (λ s. IsLive (script_of set.frames set.processors set.spaces (sizes_of set)) (replicate set.spaces zero_store) [] [] s))
    (sym is)
    (subst (λ z. IsLive (script_of set.frames set.processors set.spaces z) (replicate set.spaces zero_store) [] [] c.in-Ok.pager) c.sizes.ensures
    c.in-Ok.ensures.created.1)
