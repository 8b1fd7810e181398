use Rattle.std.proofs.Common.{◌≡◌, ℕ, Bool, true, false, if◌then◌else◌, List, Option, Some, None, IfSome, subst, ◌∙◌}
use Rattle.swap_slots.proofs.memory.slot.Slot.read.Goals as goal

-- words that are those of a slot are so where they are known
where_known : (is_known : Bool) (kept words : List ℕ) → words ≡ kept
    → IfSome (if is_known then Some kept else None) (λ known. words ≡ known)
where_known true kept words is = is
where_known false kept words is = tt

pub returns : goal.returns
returns c =
    let inside = c.self.inside in
    let words = c.copy_from_slice.new.self in
    let P : Option (List ℕ) → Type 0 = λ o. IfSome o (λ known. words ≡ known) in
    let is = c.copy_from_slice.ensures.after ∙ c.words-kept.ensures.words in
    subst P c.self.view_is (where_known inside.is_known inside.frame.words words is)
