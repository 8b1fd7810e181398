use Rattle.std.proofs.Common.{rules, ◌≡◌, None, replicate, refl}
use Rattle.contiguity_plan.proofs.RightTables.{AreRight-as, AreRight-start}
use Rattle.contiguity_plan.proofs.table.Table.create.Goals as goal

pub returns-clause-right : goal.returns-clause-right
returns-clause-right c = λ z processors few.
    let uses : c.in_ok-vec.field-0.items ≡ replicate c.args.frames None =
    c.in_ok-vec.ensures.items_if_clones_equal (λ y same. search rules) in
    let held : c.in_ok-vec-2.field-0.items ≡ replicate 17 None = c.in_ok-vec-2.ensures.items_if_clones_equal (λ y same. search rules) in
    AreRight-as _ _ _ _ _ _ _ uses held refl
    (AreRight-start z c.args.frames processors 17 c.in_ok-create.field-0.items few c.in_ok-create.ensures.none)
