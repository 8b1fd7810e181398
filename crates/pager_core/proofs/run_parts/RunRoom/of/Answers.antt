use Rattle.std.proofs.Common.{◌≡◌, ℕ, List, map, take, slice_get, subst, ap, sym, ◌∙◌, arith}
use Rattle.std.proofs.lemmas.List.{length-take-le, take-map}
use Rattle.std.proofs.lemmas.Result.{IfOk-weaker}
use Rattle.pager_model.specs.Showing.{marks_of}
use Rattle.pager_model.specs.Stored.{Stored}
use Rattle.pager_model.specs.Stores.{given_over}
use Rattle.pager_core.specs.RunParts.{AreRoomsOver}
use Rattle.pager_core.proofs.Stores.{slice_get-take}
use Rattle.pager_core.proofs.run_parts.RunRoom.of.Goals as goal

-- the stores of the spaces are the first
first : {P : Type 0} (seen : P → Stored) (stores : List P) (n m : ℕ) → n ≡ m → map seen (take n stores) ≡ take m (map seen stores)
first seen stores n m same = sym (take-map seen n stores) ∙ ap (λ k. take k (map seen stores)) same

pub returns-clause-setting : goal.returns-clause-setting
returns-clause-setting g c =
    let script = c.args.trace.now in
    let marks : c.as_slice.result.now ≡ marks_of script = c.as_slice.ensures.value ∙ c.in_ok-marks.ensures in
    let own = first g.S.Store.seen c.args.stores.now c.spaces-spaces.result script.spaces c.spaces-spaces.ensures.spaces in
    IfOk-weaker c.create.result _ _
    (λ room is. is ∙ (λ i. given_over (c.frames.ensures.frames i) (c.sizes.ensures.sizes i) (marks i) (own i)))
    c.create.ensures.setting

pub returns-clause-spaces : goal.returns-clause-spaces
returns-clause-spaces g c =
    let own = first g.S.Store.seen c.args.stores.now c.spaces-spaces.result c.args.trace.now.spaces c.spaces-spaces.ensures.spaces in
    IfOk-weaker c.create.result _ _ (λ room. subst (λ l. AreRoomsOver room.setting l room.spaces) own) c.create.ensures.spaces

pub returns-clause-capped : goal.returns-clause-capped
returns-clause-capped g c =
    let same = c.spaces-spaces.ensures.spaces in
    let long = length-take-le c.spaces-spaces.result c.args.stores.now (omega (arith, same, c.requires.enough)) in
    IfOk-weaker c.create.result _ _ (λ room capped s store below at.
    capped s store (omega (arith, long, same, below))
    (ap (λ l. slice_get l s) (first g.S.Store.seen c.args.stores.now c.spaces-spaces.result c.args.trace.now.spaces same)
    ∙ slice_get-take c.args.trace.now.spaces (map g.S.Store.seen c.args.stores.now) s below ∙ at)) c.create.ensures.capped
