use Rattle.std.proofs.Common.{◌≡◌, ℕ, ◌+◌, ◌∷◌, ◌++◌, [], Bool, List, Option, cond, option_to_list, take, take_all, true, length, sym, ap, arith, ◌∙◌}
use Rattle.std.specs.List.{count_by}
use Rattle.std.specs.Result.{is_ok}
use Rattle.std.proofs.lemmas.Bool.{cond-true}
use Rattle.std.proofs.lemmas.Grind.{common_steps}
use Rattle.std.proofs.lemmas.List.{append-nil}
use Rattle.std.proofs.lemmas.List.Sums.{sum_by-append}
use Rattle.pager_model.specs.declared.tile.Tile.{Tile}
use Rattle.tlb_images.proofs.ImageLemmas.{touched-absent}
use Rattle.tlb_images.proofs.image.Image.put.Goals as goal
use Rattle.tlb_images.proofs.image.Image.put.Goals.{then-len-eq-CAPACITY, else-len-eq-CAPACITY}

pub returns-clause-touched : goal.returns-clause-touched
returns-clause-touched c =
    let old = c.args.self.now in
    let done : is_ok c.insert.result ≡ true = ap is_ok c.unwrap.ensures in
    let rest : c.if-len-eq-CAPACITY.self-inside.tiles.items ≡ take 127 old = elim c.if-len-eq-CAPACITY.branch [
      | then-len-eq-CAPACITY w ↦ grind (arith, common_steps)
      | else-len-eq-CAPACITY w ↦ ap (λ i. i.tiles.items) w.self-inside-is ∙ c.self.view_is
          ∙ sym (take_all 127 old
          (omega (
            arith,
            c.self.invariant.0.at_most,
            c.self.inside.tiles.ok,
            w.if-len-eq-CAPACITY.false,
            c.len.ensures,
            ap length c.self.view_is,
          )))
    ] in
    rw (c.insert.ensures.items ∙ cond-true _ _ _ done, rest) (touched-absent c.args.tile old c.requires)

-- the image with a tile more, and without the last one
ones : (f : Tile → Bool) (t : Tile) (rest old : List Tile) (last : Option Tile) → rest ++ option_to_list last ≡ old
    → count_by f (t ∷ rest) + count_by f (option_to_list last) ≡ count_by f old + count_by f (t ∷ [])
ones f t rest old last is =
    let one : Tile → ℕ = λ u. cond (f u) 1 0 in
    omega (arith, ap (count_by f) is, sum_by-append one rest (option_to_list last), sum_by-append one (t ∷ []) rest)

pub returns-clause-ones : goal.returns-clause-ones
returns-clause-ones c = λ f.
    let old = c.args.self.now in
    let put = c.if-len-eq-CAPACITY in
    let was = c.self.inside.tiles.items in
    let done : is_ok c.insert.result ≡ true = ap is_ok c.unwrap.ensures in
    let whole : put.self-inside.tiles.items ++ option_to_list put.last ≡ old = elim put.branch [
      | then-len-eq-CAPACITY w ↦ ap (λ i. i.tiles.items ++ option_to_list put.last) w.self-inside-is
          ∙ ap (λ o. w.pop-last.new.self.items ++ option_to_list o) w.last-is ∙ sym w.pop-last.ensures.items ∙ c.self.view_is
      | else-len-eq-CAPACITY w ↦ ap (λ i. i.tiles.items ++ option_to_list put.last) w.self-inside-is
          ∙ ap (λ o. was ++ option_to_list o) w.last-is ∙ append-nil was ∙ c.self.view_is
    ] in
    rw (c.insert.ensures.items ∙ cond-true _ _ _ done) (ones f c.args.tile put.self-inside.tiles.items old put.last whole)
