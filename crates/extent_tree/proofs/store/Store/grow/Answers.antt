use Rattle.std.proofs.Common.{◌≡◌, ℕ, ◌+◌, ◌-◌, cond, List, [], ◌∷◌, ◌++◌, length, take, replicate, Result, take_all, ap, ◌∙◌, arith}
use Rattle.std.specs.Result.{IsOk, is_ok}
use Rattle.extent_tree.specs.Kept.{grown}
use Rattle.extent_tree.specs.declared.spot.Spot.{Spot}
use Rattle.extent_tree.specs.Rows.{Arena, blank}
use Rattle.extent_tree.proofs.store.Store.grow.Goals as goal

-- what a write that succeeds makes
if_ok : {A T E : Type 0} (r : Result T E) (after before : A) → IsOk r → cond (is_ok r) after before ≡ after
if_ok r after before ok = ap (λ b. cond b after before) ok

-- eight elements more
eight_more : {A : Type 0} (xs : List A) (count before : ℕ) (x y : A) → count ≡ before + 8 → before ≡ length xs → x ≡ y
    → take count xs ++ replicate (count - before) x ≡ xs ++ replicate 8 y
eight_more xs count before x y counted long same =
    let all : take count xs ≡ xs = take_all count xs (omega arith) in
    let eight : count - before ≡ 8 = omega arith in
    cc

-- a tree with one node more
grown_is : {V : Type 0} (v t : Arena V) (spots : List (Spot V)) (above spare : List ℕ) → v ≡ t → spots ≡ v.spots ++ replicate 8 blank
    → above ≡ v.above ++ 0 ∷ [] → spare ≡ v.spare ++ length v.above ∷ []
    → record { spots = spots; above = above; spare = spare; roots = v.roots; room = v.room } ≡ grown t
grown_is v t spots above spare is more_spots more_above more_spare = cc

pub returns : goal.returns
returns g c =
    let was = c.self.inside in
    let now = c.args.self.now in
    let roots : was.roots ≡ now.roots = ap (λ t. t.roots) c.self.view_is in
    let room : was.room ≡ now.room = ap (λ t. t.room) c.self.view_is in
    let spots : length was.spots.items ≡ length now.spots = ap (λ t. length t.spots) c.self.view_is in
    let above : length was.above.items ≡ length now.above = ap (λ t. length t.above) c.self.view_is in
    let spare : length was.spare.items ≡ length now.spare = ap (λ t. length t.spare) c.self.view_is in
    grown_is _ now c.resize.new.self.items c.push.new.self.items c.push-2.new.self.items c.self.view_is
    (c.resize.ensures.items ∙ if_ok c.resize.result _ _ (c.resize.ensures.succeeds (omega arith))
    ∙ eight_more was.spots.items _ was.spots.len c.blank.result blank (ap (λ n. n + 8) c.len-places.ensures) was.spots.ok.0 c.blank.ensures)
    (c.push.ensures.items ∙ if_ok c.push.result _ _ (c.push.ensures.succeeds (omega arith)))
    (c.push-2.ensures.items ∙ if_ok c.push-2.result _ _ (c.push-2.ensures.succeeds (omega arith))
    ∙ ap (λ n. was.spare.items ++ n ∷ []) (c.len-node.ensures ∙ was.above.ok.0))
