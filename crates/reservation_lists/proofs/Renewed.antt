-- The last member of a list in order, where it goes out and comes in again no older: it is put in place.
use Rattle.std.proofs.Common.{◌==◌, ◌≡◌, ◌≢◌, ◌<◌, ◌≤◌, ℕ, zero, suc, Bool, true, false, not, if◌then◌else◌, List, [], ◌∷◌, length, get_or, set, Option, Some, None, refl, sym, ap, subst, ◌∙◌, arith}
use Rattle.std.proofs.lemmas.Bool.{cond-true, cond-false, eq-eqb, ne_eqb, eqb-true}
use Rattle.std.proofs.lemmas.Bool.Decides.{nat_tests}
use Rattle.std.proofs.lemmas.List.{set-set, set-get_or}
use Rattle.std.proofs.lemmas.List.Folds.{Any-from_list_any, list_any_at}
use Rattle.pager_model.specs.Ages.{Member, Lists, is_before, list_at, with_list, with_member}
use Rattle.reservation_lists.specs.declared.listed.Listed.{Listed}
use Rattle.reservation_lists.specs.Kept.{AreTold, Differ, HasRoom, IsInOrder, IsTold, KeptLists, has_member_of, moved_to, same_member, tells, without_frame, without_member_of}
use Rattle.reservation_lists.proofs.StampOrder.{Decides-same_member, IsInOrder-tail}
use Rattle.reservation_lists.proofs.Members.{Differ-tail, HasRoom-filter, HasRoom-with_member, IsUnlisted-from_false, has_member_of-without, is_listed-without, none_of_frame}
use Rattle.reservation_lists.proofs.ToldMembers.{AreTold-with, AreTold-without, without-untold}

-- what comes before a member isn't behind one of its frame that is no older
not_behind : (m last new : Member) → is_before m last ≡ true → last.frame ≡ new.frame → last.stamp ≤ new.stamp → is_before new m ≡ false
not_behind m last new before same young = grind (arith, nat_tests)

pub renewed_last : (new last : Member) (ms : List Member) (n : ℕ) → IsInOrder ms → Differ ms → length ms ≡ suc n
    → get_or ms n last ≡ last → last.frame ≡ new.frame → last.stamp ≤ new.stamp
    → with_member new (without_member_of new.frame ms) ≡ set ms n new
renewed_last new last [] n ordered differ long ends same young = absurd (omega arith)
renewed_last new last (m ∷ []) zero ordered differ long ends same young =
    ap (with_member new) (cond-false _ _ _ (ap not (eq-eqb m.frame new.frame (ap (λ (k : Member). k.frame) ends ∙ same))))
renewed_last new last (m ∷ k ∷ ms) zero ordered differ long ends same young = absurd (omega arith)
renewed_last new last (m ∷ ms) (suc n) ordered differ long ends same young =
    let apart : m.frame ≢ new.frame =
    λ is. differ 0 (suc n) last (omega arith) (omega arith) (is ∙ sym (ap (λ (k : Member). k.frame) ends ∙ same)) in
    let before : is_before m last ≡ true =
    sym (ap (is_before m) ends) ∙ ordered 0 (suc n) last (omega arith) (omega arith) in
    ap (with_member new) (cond-true _ _ _ (ap not (ne_eqb m.frame new.frame apart)))
    ∙ cond-false _ _ _ (not_behind m last new before same young)
    ∙ ap (λ rest. m ∷ rest) (renewed_last new last ms n (IsInOrder-tail m ms ordered) (Differ-tail m ms differ)
    (omega arith) ends same young)

-- a list as it is left, where the member was put in place or wasn't
abbrev pub renewed_in : Bool → Member → List Member → List Member
renewed_in renewed new ms = if renewed then with_member new (without_member_of new.frame ms) else ms

pub HasRoom-renewed : (renewed : Bool) (frames capacity more : ℕ) (new : Member) (ms : List Member) → HasRoom frames capacity ms
    → more ≡ capacity → new.frame < frames → HasRoom frames more (renewed_in renewed new ms)
HasRoom-renewed true frames capacity more new ms has same known =
    HasRoom-with_member frames capacity more new (without_member_of new.frame ms)
    (HasRoom-filter frames capacity (λ m. not (m.frame == new.frame)) ms has) (omega arith) known
    (none_of_frame new.frame _ (has_member_of-without new.frame ms))
HasRoom-renewed false frames capacity more new ms has same known = subst (λ n. HasRoom frames n ms) (sym same) has

-- what is kept for one frame tells of one list alone
tells_one : (o : Option Listed) (size k a b : ℕ) → k ≢ size → tells size a o ≡ true → tells k b o ≡ false
tells_one None size k a b other told = refl
tells_one (Some l) size k a b other told = grind (arith, nat_tests)

-- where a list has a member of the frame, another has none
none_elsewhere : (listed : List (Option Listed)) (frame size k : ℕ) (ms others : List Member) → IsTold listed size ms
    → IsTold listed k others → k ≢ size → has_member_of frame ms ≡ true → without_member_of frame others ≡ others
none_elsewhere listed frame size k ms others told told_others other has =
    let found = Any-from_list_any (λ (m : Member). m.frame == frame) ms has in
    let m = found.1 in
    let here : tells size m.stamp (get_or listed m.frame None) ≡ true =
    sym (told m)
    ∙ list_any_at (same_member m) ms found.0 m found.2 (ap (same_member m) found.3 ∙ (Decides-same_member m m).1 refl) in
    without-untold listed frame k others told_others (λ stamp.
    tells_one (get_or listed frame None) size k m.stamp stamp other
    (sym (ap (λ f. tells size m.stamp (get_or listed f None)) (eqb-true m.frame frame found.4)) ∙ here))

-- the last member of the list of the size was put in place, or nothing was
module _ (frames : ℕ) (listed : List (Option Listed)) (lists : Lists) (new : Member) (told : AreTold frames listed lists) where
  abbrev kept : KeptLists
  kept = record { lists = lists; frames = frames }

  -- the lists are as after it went out and came in again, since no other list has it
  pub moved_kept : (renewed : Bool) (size : ℕ) → size < 3 → (renewed ≡ true → has_member_of new.frame (list_at lists size) ≡ true)
      → record { lists = with_list lists size (renewed_in renewed new (list_at lists size)); frames = frames } ≡
      (if renewed then moved_to size new kept else kept)
  moved_kept false zero below stood = refl
  moved_kept false (suc zero) below stood = refl
  moved_kept false (suc (suc n)) below stood = refl
  moved_kept true zero below stood =
      let small = none_elsewhere listed new.frame 0 1 lists.base lists.small told.base told.small (λ e. omega (arith, e)) (stood refl) in
      let middle = none_elsewhere listed new.frame 0 2 lists.base lists.middle told.base told.middle (λ e. omega (arith, e)) (stood refl) in
      rw (small, middle) refl
  moved_kept true (suc zero) below stood =
      let base = none_elsewhere listed new.frame 1 0 lists.small lists.base told.small told.base (λ e. omega (arith, e)) (stood refl) in
      let middle = none_elsewhere listed new.frame 1 2 lists.small lists.middle told.small told.middle (λ e. omega (arith, e)) (stood refl) in
      rw (base, middle) refl
  moved_kept true (suc (suc n)) below stood =
      let base = none_elsewhere listed new.frame 2 0 lists.middle lists.base told.middle told.base (λ e. omega (arith, e)) (stood refl) in
      let small = none_elsewhere listed new.frame 2 1 lists.middle lists.small told.middle told.small (λ e. omega (arith, e)) (stood refl) in
      rw (base, small) refl

  abbrev note : Bool → ℕ → Option Listed → List (Option Listed)
  note renewed size old = set listed new.frame (if renewed then Some (record { size = size; stamp = new.stamp }) else old)

  AreTold-moved : (renewed : Bool) (size : ℕ) (old : Option Listed) → size < 3 → new.frame < frames
      → old ≡ get_or listed new.frame None
      → AreTold frames (note renewed size old) (if renewed then moved_to size new kept else kept).lists
  AreTold-moved true size old below known was =
      let rest = without_frame new.frame lists in
      subst (λ l. AreTold frames l (moved_to size new kept).lists) (set-set listed new.frame None _)
      (AreTold-with frames (set listed new.frame None) rest size new (AreTold-without frames listed lists new.frame told) below known
      (IsUnlisted-from_false new.frame rest (is_listed-without new.frame lists)))
  AreTold-moved false size old below known was =
      subst (λ l. AreTold frames l lists) (sym (ap (set listed new.frame) was ∙ set-get_or listed new.frame None)) told

  -- what is kept for each frame tells them
  pub AreTold-renewed : (renewed : Bool) (size : ℕ) (old : Option Listed) → size < 3 → new.frame < frames
      → old ≡ get_or listed new.frame None → (renewed ≡ true → has_member_of new.frame (list_at lists size) ≡ true)
      → AreTold frames (note renewed size old) (with_list lists size (renewed_in renewed new (list_at lists size)))
  AreTold-renewed renewed size old below known was stood =
      subst (λ (k : KeptLists). AreTold frames (note renewed size old) k.lists) (sym (moved_kept renewed size below stood))
      (AreTold-moved renewed size old below known was)
