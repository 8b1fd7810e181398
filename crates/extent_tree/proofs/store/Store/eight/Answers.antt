use Rattle.std.proofs.Common.{◌+◌, ◌*◌, ◌-◌, drop, get_or, ap, ◌∙◌, arith}
use Rattle.std.proofs.lemmas.List.{get_or-drop, get_or-take}
use Rattle.extent_tree.specs.Rows.{blank, spot_at}
use Rattle.extent_tree.proofs.store.Store.eight.Goals as goal

pub returns-clause-spots : goal.returns-clause-spots
returns-clause-spots g c = λ part below.
    let spots = c.deref.result.now in
    let first = c.self.inside.roots + 8 * c.args.node in
    get_or-take (first + 8 - first) (drop first spots) part blank (omega arith) ∙ get_or-drop first spots part blank
    ∙ ap (λ s. get_or s (first + part) blank) c.deref.ensures.value
    ∙ ap (λ t. spot_at t (t.roots + 8 * c.args.node + part)) c.self.view_is
