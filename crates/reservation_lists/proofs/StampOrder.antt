-- Members, and lists of them, are in order of stamp and then of frame.
use Rattle.std.proofs.Common.{◌≡◌, ◌≢◌, true, false, not, suc, List, ◌∷◌, subst, arith}
use Rattle.std.specs.Bool.{Decides}
use Rattle.std.specs.List.{All}
use Rattle.std.proofs.lemmas.Bool.Decides.{nat_tests}
use Rattle.std.proofs.lemmas.List.Elements.{All-cons, All-weaker}
use Rattle.pager_model.specs.Ages.{Member, is_before}
use Rattle.reservation_lists.specs.Kept.{IsInOrder, same_member}
use Rattle.pager_model.proofs.AgeOrder.{is_before-same, is_before-later}

-- of two members with frames that differ exactly one is before the other
pub is_before-apart : (a b : Member) → b.frame ≢ a.frame → is_before a b ≡ not (is_before b a)
is_before-apart a b other = grind (arith, nat_tests)

pub Decides-same_member : (a b : Member) → Decides (same_member a b) (a ≡ b)
Decides-same_member a b = (
  λ same. is_before-same a b (grind (arith, nat_tests)) (grind (arith, nat_tests)),
  λ is. subst (λ m. same_member a m ≡ true) is (grind (arith, nat_tests)),
)

-- a member is none that is before it or that it is before
pub same_member-before : (a b : Member) → is_before b a ≡ true → same_member a b ≡ false
same_member-before a b before = grind (arith, nat_tests)

pub same_member-after : (a b : Member) → is_before a b ≡ true → same_member a b ≡ false
same_member-after a b after = grind (arith, nat_tests)

pub IsInOrder-tail : (m : Member) (ms : List Member) → IsInOrder (m ∷ ms) → IsInOrder ms
IsInOrder-tail m ms ordered = λ i j d lt below. ordered (suc i) (suc j) d (omega arith) (omega arith)

-- in a list in order all come after the first, and after what is before it
pub all_behind : (m : Member) (ms : List Member) → IsInOrder (m ∷ ms) → All (λ n. is_before m n ≡ true) ms
all_behind m ms ordered = λ k d below. ordered 0 (suc k) d (omega arith) (omega arith)

pub all_later : (first m : Member) (ms : List Member) → is_before first m ≡ true → IsInOrder (m ∷ ms)
    → All (λ n. is_before first n ≡ true) (m ∷ ms)
all_later first m ms before ordered =
    All-cons (λ n. is_before first n ≡ true) m ms before
    (All-weaker (λ n. is_before m n ≡ true) (λ n. is_before first n ≡ true) (λ n behind. is_before-later first m n before behind) ms
    (all_behind m ms ordered))
