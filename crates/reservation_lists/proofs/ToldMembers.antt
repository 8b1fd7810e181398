-- What is kept for each frame tells the members of the lists, as one goes in or out.
use Rattle.std.proofs.Common.{◌==◌, ◌&&◌, ◌||◌, suc, zero, ◌≡◌, ◌≢◌, ◌<◌, ℕ, Bool, true, false, not, cond, if◌then◌else◌, List, [], ◌∷◌, length, get_or, set, replicate, Option, Some, None, refl, sym, ap, subst, ◌∙◌, inl, inr, arith}
use Rattle.std.specs.List.{All, list_any}
use Rattle.std.specs.Option.{IfSome}
use Rattle.std.proofs.lemmas.Bool.{cases_eq, eq-eqb, ne_eqb, eqb-true, false≢true, false_from_ne_true}
use Rattle.std.proofs.lemmas.Bool.Decides.{nat_tests}
use Rattle.std.proofs.lemmas.List.{get_or-set_same, get_or-set_other, length-set, length-replicate}
use Rattle.std.proofs.lemmas.List.Elements.{All-head, All-tail}
use Rattle.std.proofs.lemmas.List.Folds.{list_any_at, list_any_none}
use Rattle.std.proofs.lemmas.Map.Views.{any-filter_same}
use Rattle.pager_model.specs.Ages.{Member, Lists, is_before, list_at, with_list, with_member}
use Rattle.pager_model.proofs.Lists.{get_or-alike, get_or-set_default, set_cases}
use Rattle.pager_model.proofs.Options.{in_some, IfSome-from}
use Rattle.reservation_lists.specs.declared.listed.Listed.{Listed}
use Rattle.reservation_lists.specs.Kept.{AreTold, IsTold, tells, without_member_of, without_frame, no_members, same_member, without_member}
use Rattle.reservation_lists.proofs.StampOrder.{Decides-same_member}
use Rattle.reservation_lists.proofs.Members.{IsUnlisted, without_member_of-none}

same_member-frame : (m n : Member) → same_member m n ≡ true → n.frame ≡ m.frame
same_member-frame m n same = ap (λ (k : Member). k.frame) (sym ((Decides-same_member m n).0 same))

-- what holds of all that is kept holds still where something else is kept for a frame
IfSome-set : (P : Listed → Type 0) (listed : List (Option Listed)) (frame : ℕ) (o : Option Listed) → IfSome o P
    → ((f : ℕ) → IfSome (get_or listed f None) P) → (f : ℕ) → IfSome (get_or (set listed frame o) f None) P
IfSome-set P listed frame o here holds f =
    IfSome-from _ P (λ l is. elim (set_cases listed frame f o l is) [
      | inl now ↦ in_some P o l now.1 here
      | inr was ↦ in_some P _ l was.1 (holds f)
    ])

-- what holds of each member that is told holds of all
All-told : (P : Member → Type 0) (listed : List (Option Listed)) (size : ℕ) (ms : List Member) → IsTold listed size ms
    → ((m : Member) → tells size m.stamp (get_or listed m.frame None) ≡ true → P m) → All P ms
All-told P listed size ms told holds k d within =
    let m = get_or ms k d in
    holds m (sym (told m) ∙ list_any_at (same_member m) ms k d within ((Decides-same_member m m).1 refl))

or_swap : (a b c : Bool) → (a || (b || c)) ≡ (b || (a || c))
or_swap true true c = refl
or_swap true false c = refl
or_swap false b c = refl

-- a list with a member more has that one too
with_member-has : (m new : Member) (ms : List Member) → list_any (same_member m) (with_member new ms) ≡
    (same_member m new || list_any (same_member m) ms)
with_member-has m new [] = refl
with_member-has m new (n ∷ ms) =
    elim (is_before new n) as (λ b. list_any (same_member m) (cond b (new ∷ (n ∷ ms)) (n ∷ with_member new ms)) ≡
    (same_member m new || (same_member m n || list_any (same_member m) ms))) [
      | true ↦ refl
      | false ↦ ap (λ b. same_member m n || b) (with_member-has m new ms)
          ∙ or_swap (same_member m n) (same_member m new) (list_any (same_member m) ms)
    ]

-- nothing is told at first
IsTold-none : (frames size : ℕ) → IsTold (replicate frames None) size []
IsTold-none frames size m = sym (ap (tells size m.stamp) (get_or-alike frames m.frame None))

pub AreTold-none : (frames : ℕ) → AreTold frames (replicate frames None) no_members
AreTold-none frames = record {
  long = length-replicate frames None;
  known = λ frame. subst (λ o. IfSome o (λ l. l.size < 3)) (sym (get_or-alike frames frame None)) tt;
  base = IsTold-none frames 0;
  small = IsTold-none frames 1;
  middle = IsTold-none frames 2;
}

-- a member goes into a list
module _ (listed : List (Option Listed)) (size : ℕ) (new : Member) (known : new.frame < length listed) where
  abbrev note : List (Option Listed)
  note = set listed new.frame (Some (record { size = size; stamp = new.stamp }))

  told_here : (m : Member) (k : ℕ) → m.frame ≡ new.frame → tells k m.stamp (get_or note m.frame None) ≡
      ((size == k) && (new.stamp == m.stamp))
  told_here m k same = ap (tells k m.stamp) (ap (λ f. get_or note f None) same ∙ get_or-set_same listed new.frame _ None known)

  told_there : (m : Member) (k : ℕ) → m.frame ≢ new.frame → tells k m.stamp (get_or note m.frame None) ≡ tells k m.stamp
      (get_or listed m.frame None)
  told_there m k other = ap (tells k m.stamp) (get_or-set_other listed new.frame m.frame _ None other)

  none_here : (m : Member) (ms : List Member) → All (λ n. n.frame ≢ new.frame) ms → m.frame ≡ new.frame
      → list_any (same_member m) ms ≡ false
  none_here m ms others same = list_any_none (same_member m) ms (λ k d within. false_from_ne_true _
      (λ is. others k d within (same_member-frame m (get_or ms k d) is ∙ same)))

  -- it is in the list of the size, and the others are as before
  IsTold-with : (k : ℕ) (ms : List Member) → All (λ n. n.frame ≢ new.frame) ms → IsTold listed k ms
      → IsTold note k (if size == k then with_member new ms else ms)
  IsTold-with k ms others told m =
      elim (cases_eq m.frame new.frame) [
        | inl same ↦ elim (size == k) as (λ b. list_any (same_member m) (cond b (with_member new ms) ms) ≡ (b && (new.stamp == m.stamp))) [
          | true ↦ with_member-has m new ms ∙ ap (λ b. same_member m new || b) (none_here m ms others same) ∙ grind (arith, nat_tests)
          | false ↦ none_here m ms others same
        ] ∙ sym (told_here m k same)
        | inr other ↦ elim (size == k) as (λ b. list_any (same_member m) (cond b (with_member new ms) ms) ≡ list_any (same_member m) ms) [
          | true ↦ with_member-has m new ms ∙ grind (arith, nat_tests)
          | false ↦ refl
        ] ∙ told m ∙ sym (told_there m k other)
      ]

-- the lists with a change of one of them
abbrev changed : (List Member → List Member) → ℕ → Lists → Lists
changed change size lists = record {
  base = if size == 0 then change lists.base else lists.base;
  small = if size == 1 then change lists.small else lists.small;
  middle = if size == 2 then change lists.middle else lists.middle;
}

with_list-changed : (change : List Member → List Member) (size : ℕ) (lists : Lists) → size < 3
    → with_list lists size (change (list_at lists size)) ≡ changed change size lists
with_list-changed change zero lists below = refl
with_list-changed change (suc zero) lists below = refl
with_list-changed change (suc (suc n)) lists below = (let two : suc (suc n) ≡ 2 = omega arith in rw two refl)

-- a member went into the list of the size
pub AreTold-with : (frames : ℕ) (listed : List (Option Listed)) (lists : Lists) (size : ℕ) (new : Member) → AreTold frames listed lists
    → size < 3 → new.frame < frames → IsUnlisted new.frame lists
    → AreTold frames (set listed new.frame (Some (record { size = size; stamp = new.stamp })))
    (with_list lists size (with_member new (list_at lists size)))
AreTold-with frames listed lists size new told below known none =
    let within : new.frame < length listed = omega (arith, told.long) in
    subst (AreTold frames (set listed new.frame (Some (record { size = size; stamp = new.stamp }))))
    (sym (with_list-changed (with_member new) size lists below)) (record {
      long = length-set listed new.frame _ ∙ told.long;
      known = IfSome-set (λ (l : Listed). l.size < 3) listed new.frame _ below told.known;
      base = IsTold-with listed size new within 0 lists.base none.base told.base;
      small = IsTold-with listed size new within 1 lists.small none.small told.small;
      middle = IsTold-with listed size new within 2 lists.middle none.middle told.middle;
    })

-- a list without those of a frame has the others
IsTold-without : (listed : List (Option Listed)) (frame size : ℕ) (ms : List Member) → IsTold listed size ms
    → IsTold (set listed frame None) size (without_member_of frame ms)
IsTold-without listed frame size ms told m =
    any-filter_same (same_member m) (λ n. not (n.frame == frame)) (not (m.frame == frame))
    (λ n same. ap (λ f. not (f == frame)) (same_member-frame m n same)) ms
    ∙ elim (cases_eq m.frame frame) [
      | inl same ↦
          ap (λ b. not b && list_any (same_member m) ms) (eq-eqb m.frame frame same)
          ∙ sym (ap (tells size m.stamp) (get_or-set_default listed frame m.frame None same))
      | inr other ↦
          ap (λ b. not b && list_any (same_member m) ms) (ne_eqb m.frame frame other)
          ∙ told m
          ∙ sym (ap (tells size m.stamp) (get_or-set_other listed frame m.frame None None other))
    ]

-- the members of a frame went out of the lists
pub AreTold-without : (frames : ℕ) (listed : List (Option Listed)) (lists : Lists) (frame : ℕ) → AreTold frames listed lists
    → AreTold frames (set listed frame None) (without_frame frame lists)
AreTold-without frames listed lists frame told = record {
  long = length-set listed frame None ∙ told.long;
  known = IfSome-set (λ (l : Listed). l.size < 3) listed frame None tt told.known;
  base = IsTold-without listed frame 0 lists.base told.base;
  small = IsTold-without listed frame 1 lists.small told.small;
  middle = IsTold-without listed frame 2 lists.middle told.middle;
}

-- where none of the list is told of the frame, none goes out of it
pub without-untold : (listed : List (Option Listed)) (frame size : ℕ) (ms : List Member) → IsTold listed size ms
    → ((stamp : ℕ) → tells size stamp (get_or listed frame None) ≡ false) → without_member_of frame ms ≡ ms
without-untold listed frame size ms told none =
    without_member_of-none frame ms
    (All-told (λ m. m.frame ≢ frame) listed size ms told
    (λ m tell same. false≢true (sym (none m.stamp) ∙ sym (ap (λ f. tells size m.stamp (get_or listed f None)) same) ∙ tell)))

-- where nothing is told of the frame, none goes out of any
pub without_frame-untold : (frames : ℕ) (listed : List (Option Listed)) (lists : Lists) (frame : ℕ) → AreTold frames listed lists
    → get_or listed frame None ≡ None → without_frame frame lists ≡ lists
without_frame-untold frames listed lists frame told none =
    let untold : (size stamp : ℕ) → tells size stamp (get_or listed frame None) ≡ false = λ size stamp. ap (tells size stamp) none in
    let base = without-untold listed frame 0 lists.base told.base (untold 0) in
    let small = without-untold listed frame 1 lists.small told.small (untold 1) in
    let middle = without-untold listed frame 2 lists.middle told.middle (untold 2) in
    rw (base, small, middle) refl

-- where one is told, it is the one that goes out
without_told : (gone : Member) (ms : List Member) → All (λ m. m.frame ≡ gone.frame → m.stamp ≡ gone.stamp) ms
    → without_member gone ms ≡ without_member_of gone.frame ms
without_told gone [] only = refl
without_told gone (m ∷ ms) only =
    let one = All-head (λ n. n.frame ≡ gone.frame → n.stamp ≡ gone.stamp) m ms only in
    let rest = without_told gone ms (All-tail (λ n. n.frame ≡ gone.frame → n.stamp ≡ gone.stamp) m ms only) in
    let same : same_member gone m ≡ (m.frame == gone.frame) = grind (arith, nat_tests) in
    rw (same, rest) refl

gone_told : (listed : List (Option Listed)) (gone : Member) (size k : ℕ) (ms : List Member) → IsTold listed k ms
    → get_or listed gone.frame None ≡ Some (record { size = size; stamp = gone.stamp })
    → (if size == k then without_member gone ms else ms) ≡ without_member_of gone.frame ms
gone_told listed gone size k ms told is =
    let tell : (stamp : ℕ) → tells k stamp (get_or listed gone.frame None) ≡ ((size == k) && (gone.stamp == stamp)) =
    λ stamp. ap (tells k stamp) is in
    elim (size == k) as (λ b. ((stamp : ℕ) → tells k stamp (get_or listed gone.frame None) ≡ (b && (gone.stamp == stamp)))
    → cond b (without_member gone ms) ms ≡ without_member_of gone.frame ms) [
      | true ↦ λ at. without_told gone ms
          (All-told (λ m. m.frame ≡ gone.frame → m.stamp ≡ gone.stamp) listed k ms told
          (λ m has same. sym (eqb-true gone.stamp m.stamp (sym (ap (λ f. tells k m.stamp (get_or listed f None)) same ∙ at m.stamp)
          ∙ has))))
      | false ↦ λ at. sym (without-untold listed gone.frame k ms told at)
    ] tell

-- it goes out of its list, and of no other
pub without_frame-told : (frames : ℕ) (listed : List (Option Listed)) (lists : Lists) (size : ℕ) (gone : Member)
    → AreTold frames listed lists → get_or listed gone.frame None ≡ Some (record { size = size; stamp = gone.stamp })
    → with_list lists size (without_member gone (list_at lists size)) ≡ without_frame gone.frame lists
without_frame-told frames listed lists size gone told is =
    let below = in_some (λ l. l.size < 3) _ _ is (told.known gone.frame) in
    let base = gone_told listed gone size 0 lists.base told.base is in
    let small = gone_told listed gone size 1 lists.small told.small is in
    let middle = gone_told listed gone size 2 lists.middle told.middle is in
    with_list-changed (without_member gone) size lists below ∙ rw (base, small, middle) refl
