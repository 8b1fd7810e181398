use Rattle.std.proofs.Common.{◌≡◌, ◌-◌, ◌∙◌, None, length, replicate, take, drop, get_or, ◌++◌, ap, rules, arith}
use Rattle.std.proofs.lemmas.List.{length-take, length-drop}
use Rattle.pager_model.proofs.Lists.{filled_at}
use Rattle.page_rights.proofs.set_places.Goals as goal

pub returns : goal.returns
returns c i =
    let xs = c.args.leaf.now in
    let k = c.args.end - c.args.from in
    let count : length (take k (drop c.args.from xs)) ≡ k = omega (
      arith,
      length-take k (drop c.args.from xs),
      length-drop c.args.from xs,
    ) in
    let filled = c.fill.ensures.after (λ y same. search rules) ∙ ap (λ n. replicate n c.args.rights) count in
    ap (λ part. get_or (take c.args.from xs ++ (part ++ drop k (drop c.args.from xs))) i None) filled
    ∙ filled_at xs c.args.from c.args.end c.args.rights None i c.requires.range (omega arith)
