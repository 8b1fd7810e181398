-- The place of a member in a list in order: behind those that come before it.
use Rattle.std.proofs.Common.{◌≡◌, ◌≢◌, ◌<◌, ℕ, zero, suc, ◌+◌, ◌-◌, true, false, not, cond, List, [], ◌∷◌, length, get_or, take, Some, refl, ap, sym, ◌∙◌, arith, subst, inl, inr}
use Rattle.std.proofs.Math.Numerals.{one-add}
use Rattle.std.specs.List.{All, insert, remove, prefix_len, slice_get}
use Rattle.std.specs.List.Sorted.{IsPartitionedBy}
use Rattle.std.proofs.lemmas.Bool.{cases_eq, cond-true, cond-false}
use Rattle.std.proofs.lemmas.List.Elements.{All-head, All-tail}
use Rattle.std.proofs.lemmas.List.Sums.{prefix_len_is}
use Rattle.pager_model.specs.Ages.{Member, is_before, with_member}
use Rattle.reservation_lists.specs.Kept.{IsInOrder, without_member}
use Rattle.pager_model.proofs.AgeOrder.{is_before-later, is_before-same}
use Rattle.reservation_lists.proofs.StampOrder.{is_before-apart, Decides-same_member, same_member-before, same_member-after, IsInOrder-tail, all_behind, all_later}

-- how many members of the list come before the member, up to the first that doesn't
abbrev pub place_in : Member → List Member → ℕ
place_in member ms = prefix_len (λ m. is_before m member) ms

-- those that come before a member stand in front of the others
pub IsPartitionedBy-before : (member : Member) (ms : List Member) → IsInOrder ms → IsPartitionedBy (λ m. is_before m member) ms
IsPartitionedBy-before member ms ordered = λ i j d le below before.
    elim (cases_eq i j) [
      | inl same ↦ subst (λ k. is_before (get_or ms k d) member ≡ true) (sym same) before
      | inr other ↦ is_before-later (get_or ms i d) (get_or ms j d) member (ordered i j d (omega arith) below) before
    ]

-- where the last comes before a member, all do
pub place_at_end : (member last : Member) (ms : List Member) (n : ℕ) → IsInOrder ms → n ≡ length ms → 0 < n
    → last ≡ get_or ms (n - 1) last → is_before last member ≡ true → place_in member ms ≡ n
place_at_end member last ms n ordered long some ends before =
    let behind = subst (λ m. is_before m member ≡ true) ends before in
    prefix_len_is (λ m. is_before m member) ms n last (omega arith)
    (λ k below. IsPartitionedBy-before member ms ordered k (n - 1) last (omega arith) (omega arith) behind) (λ beyond. absurd (omega arith))

-- a new member goes in at its place
pub with_member_at_place : (new : Member) (ms : List Member) → All (λ m. m.frame ≢ new.frame) ms
    → with_member new ms ≡ insert ms (place_in new ms) new
with_member_at_place new [] others = refl
with_member_at_place new (m ∷ ms) others =
    let later : (n : ℕ) → m ∷ insert ms n new ≡ insert (m ∷ ms) (1 + n) new = λ n. rw one-add refl in
    let rest = with_member_at_place new ms (All-tail (λ n. n.frame ≢ new.frame) m ms others) in
    rw (is_before-apart new m (All-head (λ n. n.frame ≢ new.frame) m ms others))
    (elim (is_before m new) as (λ b. cond (not b) (new ∷ (m ∷ ms)) (m ∷ with_member new ms) ≡ insert (m ∷ ms)
    (cond b (1 + place_in new ms) 0) new) [
      | true ↦ ap (λ tail. m ∷ tail) rest ∙ later (place_in new ms)
      | false ↦ refl
    ])

-- a list whose members all come after a member is without it
without_member-after : (gone : Member) (ms : List Member) → All (λ m. is_before gone m ≡ true) ms → without_member gone ms ≡ ms
without_member-after gone [] after = refl
without_member-after gone (m ∷ ms) after =
    cond-true _ _ _ (ap not (same_member-after gone m (All-head (λ n. is_before gone n ≡ true) m ms after)))
    ∙ ap (λ rest. m ∷ rest) (without_member-after gone ms (All-tail (λ n. is_before gone n ≡ true) m ms after))

-- a member that stands at the end goes out there
pub without_member_at_end : (gone : Member) (ms : List Member) (n : ℕ) → IsInOrder ms → length ms ≡ suc n → get_or ms n gone ≡ gone
    → without_member gone ms ≡ take n ms
without_member_at_end gone [] n ordered long ends = absurd (omega arith)
without_member_at_end gone (m ∷ []) zero ordered long ends = cond-false _ _ _ (ap not ((Decides-same_member gone m).1 (sym ends)))
without_member_at_end gone (m ∷ k ∷ ms) zero ordered long ends = absurd (omega arith)
without_member_at_end gone (m ∷ ms) (suc n) ordered long ends =
    let before = subst (λ last. is_before m last ≡ true) ends (ordered 0 (suc n) gone (omega arith) (omega arith)) in
    cond-true _ _ _ (ap not (same_member-before gone m before))
    ∙ ap (λ tail. m ∷ tail) (without_member_at_end gone ms n (IsInOrder-tail m ms ordered) (omega arith) ends)

-- a member that stands at its place goes out there
pub without_member_at_place : (gone : Member) (ms : List Member) → IsInOrder ms → slice_get ms (place_in gone ms) ≡ Some gone
    → without_member gone ms ≡ remove ms (place_in gone ms)
without_member_at_place gone [] ordered there = absurd (cc)
without_member_at_place gone (m ∷ ms) ordered there =
    elim (is_before m gone) as (λ b. is_before m gone ≡ b → slice_get (m ∷ ms) (cond b (1 + place_in gone ms) 0) ≡ Some gone
    → without_member gone (m ∷ ms) ≡ remove (m ∷ ms) (cond b (1 + place_in gone ms) 0)) [
      | true ↦ λ before there.
          let rest = without_member_at_place gone ms (IsInOrder-tail m ms ordered) (rw one-add at there) in
          cond-true _ _ _ (ap not (same_member-before gone m before)) ∙ ap (λ tail. m ∷ tail) rest ∙ rw one-add refl
      | false ↦ λ behind there.
          let same : m ≡ gone = cc in
          cond-false _ _ _ (ap not ((Decides-same_member gone m).1 (sym same)))
          ∙ without_member-after gone ms (subst (λ n. All (λ k. is_before n k ≡ true) ms) same (all_behind m ms ordered))
    ] refl there

-- a list with another member at the place, or none, is without the member
pub without_member_elsewhere : (gone : Member) (ms : List Member) → IsInOrder ms → slice_get ms (place_in gone ms) ≢ Some gone
    → without_member gone ms ≡ ms
without_member_elsewhere gone [] ordered other = refl
without_member_elsewhere gone (m ∷ ms) ordered other =
    elim (is_before m gone) as (λ b. is_before m gone ≡ b → slice_get (m ∷ ms) (cond b (1 + place_in gone ms) 0) ≢ Some gone
    → without_member gone (m ∷ ms) ≡ m ∷ ms) [
      | true ↦ λ before other.
          cond-true _ _ _ (ap not (same_member-before gone m before))
          ∙ ap (λ tail. m ∷ tail) (without_member_elsewhere gone ms (IsInOrder-tail m ms ordered) (rw one-add at other))
      | false ↦ λ behind other. elim (is_before gone m) as (λ b. is_before gone m ≡ b → without_member gone (m ∷ ms) ≡ m ∷ ms) [
        | true ↦ λ after. without_member-after gone (m ∷ ms) (all_later gone m ms after ordered)
        | false ↦ λ not_after. absurd (other (ap (λ n. Some n) (is_before-same m gone behind not_after)))
      ] refl
    ] refl other
