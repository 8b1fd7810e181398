use Rattle.std.proofs.Common.{◌≡◌, ◌++◌, ◌∷◌, [], ap, length, ◌∙◌, arith, List}
use Rattle.pager_model.specs.declared.entry.Numbered.{Numbered}
use Rattle.run_history.specs.Kept.{Kept, items_in}
use Rattle.run_history.proofs.KeptEntries.{IsKept-push, items_in-push, length-items, AreCounted-push}
use Rattle.run_history.proofs.History.push.Goals as goal

pub keep-brief-requires : goal.keep-brief-requires
keep-brief-requires c =
    let h = c.self.inside in
    let seen = ap (λ (k : Kept). length k.items) c.self.view_is in
    let room = ap (λ (k : Kept). k.room) c.self.view_is in
    omega (arith, length-items h.listed.items h.whole.items h.briefs.items, c.self.invariant.0.few)

pub push_reserved-requires : goal.push_reserved-requires
push_reserved-requires c =
    let h = c.self.inside in
    let seen = ap (λ (k : Kept). length k.items) c.self.view_is in
    let room = ap (λ (k : Kept). k.room) c.self.view_is in
    omega (arith, length-items h.listed.items h.whole.items h.briefs.items)

-- the entries before and after
abbrev before : goal.After-push_reserved → List Numbered
before c = items_in c.self.inside.listed.items c.self.inside.whole.items c.self.inside.briefs.items

abbrev after : goal.After-push_reserved → List Numbered
after c = items_in c.self.inside.listed.items c.keep-brief.new.whole.items c.push_reserved.new.self.items

-- the entry comes behind the others
more : (c : goal.After-push_reserved) → after c ≡ before c ++ record { number = length (before c); entry = c.args.entry.now } ∷ []
more c =
    let h = c.self.inside in
    ap (items_in h.listed.items c.keep-brief.new.whole.items) c.push_reserved.ensures.items
    ∙ items_in-push h.listed.items h.whole.items c.keep-brief.new.whole.items h.briefs.items c.args.entry.now c.keep-brief.result c.self.invariant.0 c.keep-brief.ensures.keeps

pub invariant_of-self : goal.invariant_of-self
invariant_of-self c =
    let h = c.self.inside in (
      rw c.push_reserved.ensures.items
          (IsKept-push h.whole.items c.keep-brief.new.whole.items h.briefs.items c.args.entry.now c.keep-brief.result c.self.invariant.0 c.keep-brief.ensures.keeps),
      omega (arith, c.self.invariant.1),
      omega (arith, c.self.invariant.2),
      AreCounted-push h.accesses c.count.new.self (before c) _ _ c.self.invariant.3 (more c) c.count.ensures.hits c.count.ensures.misses,
    )

pub returns : goal.returns
returns c =
    let old = c.self.view_is in
    let items = ap (λ (k : Kept). k.items ++ record { number = length k.items; entry = c.args.entry.now } ∷ []) old in
    let room = ap (λ (k : Kept). k.room) old in
    ap (λ (l : List Numbered). record { items = l; room = c.self.inside.room }) (more c ∙ items)
    ∙ ap (λ n. record {
      items = c.args.self.now.items ++ record { number = length c.args.self.now.items; entry = c.args.entry.now } ∷ [];
      room = n;
    }) room
