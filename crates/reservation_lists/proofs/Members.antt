-- What stays true of a list of members as one goes in or out.
use Rattle.std.proofs.Common.{◌==◌, ◌||◌, suc, zero, ◌≡◌, ◌≢◌, ◌<◌, ◌≤◌, ℕ, Bool, true, false, not, cond, eqb, List, [], ◌∷◌, length, get_or, map, refl, sym, ap, ◌∙◌, arith}
use Rattle.std.proofs.lemmas.List.{length-map, get_or-map}
use Rattle.std.specs.List.{All, filter}
use Rattle.std.proofs.lemmas.List.Elements.{All-cons, All-head, All-tail, All-filter, All-map}
use Rattle.std.proofs.lemmas.List.Folds.{Any-from_list_any, list_any_at}
use Rattle.std.proofs.lemmas.List.Kept.{AllPairs-cons, AllPairs-filter}
use Rattle.std.proofs.lemmas.Bool.{eqb-true, ne_eqb, eq-eqb, or_parts, or_from, false≢true, cond-true, cond-false}
use Rattle.std.proofs.lemmas.Map.Keys.{IsDistinct-from_apart}
use Rattle.std.proofs.lemmas.Map.Views.{any-filter_same}
use Rattle.std.proofs.lemmas.Map.Steps.{length-le_from_distinct_below}
use Rattle.pager_model.specs.Ages.{Member, Lists, is_before, with_member}
use Rattle.reservation_lists.specs.Kept.{Differ, HasRoom, IsInOrder, has_member_of, is_listed, without_member_of, without_frame}
use Rattle.reservation_lists.proofs.StampOrder.{is_before-apart, IsInOrder-tail, all_behind, all_later}
use Rattle.pager_model.proofs.AgeOrder.{All-with_member}

pub Differ-tail : (m : Member) (ms : List Member) → Differ (m ∷ ms) → Differ ms
Differ-tail m ms differ = λ i j d lt below. differ (suc i) (suc j) d (omega arith) (omega arith)

Differ-with_member : (new : Member) (ms : List Member) → All (λ m. m.frame ≢ new.frame) ms → Differ ms → Differ (with_member new ms)
Differ-with_member new [] other differ = λ i j d lt below _. absurd (omega arith)
Differ-with_member new (m ∷ ms) other differ =
    let rest = Differ-with_member new ms (All-tail (λ n. n.frame ≢ new.frame) m ms other) (Differ-tail m ms differ) in
    let behind : All (λ n. m.frame ≢ n.frame) ms = λ k d below. differ 0 (suc k) d (omega arith) (omega arith) in
    elim (is_before new m) as (λ b. Differ (cond b (new ∷ (m ∷ ms)) (m ∷ with_member new ms))) [
      | true ↦ AllPairs-cons (λ a b. a.frame ≢ b.frame) new (m ∷ ms) (λ k d below same. other k d below (sym same)) differ
      | false ↦ AllPairs-cons (λ a b. a.frame ≢ b.frame) m (with_member new ms)
          (All-with_member (λ n. m.frame ≢ n.frame) new ms (other 0 m (omega arith)) behind) rest
    ]

-- a new member is before those behind the first one that it is before
IsInOrder-with_member : (new : Member) (ms : List Member) → All (λ m. m.frame ≢ new.frame) ms → IsInOrder ms
    → IsInOrder (with_member new ms)
IsInOrder-with_member new [] other ordered = λ i j d lt below. absurd (omega arith)
IsInOrder-with_member new (m ∷ ms) other ordered =
    let before : Member → Member → Type 0 = λ a b. is_before a b ≡ true in
    let rest = IsInOrder-with_member new ms (All-tail (λ n. n.frame ≢ new.frame) m ms other) (IsInOrder-tail m ms ordered) in
    let apart = is_before-apart new m (All-head (λ n. n.frame ≢ new.frame) m ms other) in
    elim (is_before new m) as (λ b. is_before new m ≡ b → IsInOrder (cond b (new ∷ (m ∷ ms)) (m ∷ with_member new ms))) [
      | true ↦ λ first. AllPairs-cons before new (m ∷ ms) (all_later new m ms first ordered) ordered
      | false ↦ λ later. AllPairs-cons before m (with_member new ms) (All-with_member (before m) new ms (grind (arith, apart, later))
          (all_behind m ms ordered)) rest
    ] refl

frames_apart : (frame : ℕ) (ms : List Member) → All (λ m. m.frame ≢ frame) ms → Differ ms → (i j d : ℕ) → i < j → j < suc (length ms)
    → eqb (get_or (frame ∷ map (λ (m : Member). m.frame) ms) i d) (get_or (frame ∷ map (λ (m : Member). m.frame) ms) j d) ≡ false
frames_apart frame ms other differ i zero d lt below = absurd (omega arith)
frames_apart frame ms other differ zero (suc j) d lt below =
    let m : Member = record { stamp = 0; frame = 0 } in
    let at = get_or-map (λ (n : Member). n.frame) ms j m d (omega arith) in
    ne_eqb _ _ (λ same. other j m (omega arith) (sym at ∙ sym same))
frames_apart frame ms other differ (suc i) (suc j) d lt below =
    let m : Member = record { stamp = 0; frame = 0 } in
    let at_i = get_or-map (λ (n : Member). n.frame) ms i m d (omega arith) in
    let at_j = get_or-map (λ (n : Member). n.frame) ms j m d (omega arith) in
    ne_eqb _ _ (λ same. differ i j m (omega arith) (omega arith) (sym at_i ∙ same ∙ at_j))

-- frames that differ and are known leave room for one more that is known and not there
pub room_for_one : (frames capacity frame : ℕ) (ms : List Member) → HasRoom frames capacity ms → frame < frames
    → All (λ m. m.frame ≢ frame) ms → length ms < frames
room_for_one frames capacity frame ms has known other =
    let all : List ℕ = frame ∷ map (λ (m : Member). m.frame) ms in
    let below : All (λ n. n < frames) all =
    All-cons (λ n. n < frames) frame (map (λ (m : Member). m.frame) ms) known
    (All-map (λ n. n < frames) (λ (m : Member). m.frame) ms has.known) in
    let long = length-map ms (λ (m : Member). m.frame) in
    let distinct = IsDistinct-from_apart eqb all (λ i j d lt within. frames_apart frame ms other has.differ i j d lt (omega arith)) in
    let most = length-le_from_distinct_below all frames distinct (λ q h.
    let found = Any-from_list_any (eqb q) all h in
    omega (arith, below found.0 found.1 found.2, found.3, eqb-true q found.1 found.4)) in
    omega arith

pub HasRoom-with_member : (frames capacity more : ℕ) (new : Member) (ms : List Member) → HasRoom frames capacity ms → capacity ≤ more
    → new.frame < frames → All (λ m. m.frame ≢ new.frame) ms → HasRoom frames more (with_member new ms)
HasRoom-with_member frames capacity more new ms has le known other = record {
  ordered = IsInOrder-with_member new ms other has.ordered;
  room = omega (arith, has.room);
  known = All-with_member (λ m. m.frame < frames) new ms known has.known;
  differ = Differ-with_member new ms other has.differ;
}

pub HasRoom-filter : (frames capacity : ℕ) (p : Member → Bool) (ms : List Member) → HasRoom frames capacity ms
    → HasRoom frames capacity (filter p ms)
HasRoom-filter frames capacity p ms has = record {
  ordered = AllPairs-filter (λ a b. is_before a b ≡ true) p ms has.ordered;
  room = has.room;
  known = All-filter p (λ m. m.frame < frames) ms has.known;
  differ = AllPairs-filter (λ a b. a.frame ≢ b.frame) p ms has.differ;
}

-- a list without a member of the frame
pub none_of_frame : (frame : ℕ) (ms : List Member) → has_member_of frame ms ≡ false → All (λ m. m.frame ≢ frame) ms
none_of_frame frame ms none k d within same =
    false≢true (sym none ∙ list_any_at (λ (m : Member). m.frame == frame) ms k d within (eq-eqb _ _ same))

-- no list has a member of the frame
pub record IsUnlisted (frame : ℕ) (lists : Lists) : Type 0 where
  pub base : All (λ m. m.frame ≢ frame) lists.base
  pub small : All (λ m. m.frame ≢ frame) lists.small
  pub middle : All (λ m. m.frame ≢ frame) lists.middle

pub IsUnlisted-from_false : (frame : ℕ) (lists : Lists) → is_listed frame lists ≡ false → IsUnlisted frame lists
IsUnlisted-from_false frame lists none =
    let small_middle = has_member_of frame lists.small || has_member_of frame lists.middle in
    let first = or_parts (has_member_of frame lists.base) small_middle none in
    let later = or_parts (has_member_of frame lists.small) (has_member_of frame lists.middle) first.1 in
    record {
      base = none_of_frame frame lists.base first.0;
      small = none_of_frame frame lists.small later.0;
      middle = none_of_frame frame lists.middle later.1;
    }

-- a list without a member of the frame stays as it is without one, and so does one that got its only one
pub without_member_of-none : (frame : ℕ) (ms : List Member) → All (λ m. m.frame ≢ frame) ms → without_member_of frame ms ≡ ms
without_member_of-none frame [] other = refl
without_member_of-none frame (m ∷ ms) other =
    cond-true _ _ _ (ap not (ne_eqb _ _ (All-head (λ n. n.frame ≢ frame) m ms other)))
    ∙ ap (λ rest. m ∷ rest) (without_member_of-none frame ms (All-tail (λ n. n.frame ≢ frame) m ms other))

pub without_member_of-with : (frame : ℕ) (new : Member) (ms : List Member) → new.frame ≡ frame → All (λ m. m.frame ≢ frame) ms
    → without_member_of frame (with_member new ms) ≡ ms
without_member_of-with frame new [] same other = cond-false _ _ _ (ap not (eq-eqb new.frame frame same))
without_member_of-with frame new (m ∷ ms) same other =
    elim (is_before new m) as (λ b. without_member_of frame (cond b (new ∷ (m ∷ ms)) (m ∷ with_member new ms)) ≡ m ∷ ms) [
      | true ↦ cond-false _ _ _ (ap not (eq-eqb new.frame frame same)) ∙ without_member_of-none frame (m ∷ ms) other
      | false ↦
          cond-true _ _ _ (ap not (ne_eqb _ _ (All-head (λ n. n.frame ≢ frame) m ms other)))
          ∙ ap (λ rest. m ∷ rest) (without_member_of-with frame new ms same (All-tail (λ n. n.frame ≢ frame) m ms other))
    ]

-- lists that have no member of a frame stay as they are without it
pub without_unlisted : (frame : ℕ) (lists : Lists) → is_listed frame lists ≡ false → without_frame frame lists ≡ lists
without_unlisted frame lists unlisted =
    let none = IsUnlisted-from_false frame lists unlisted in
    let base = without_member_of-none frame lists.base none.base in
    let small = without_member_of-none frame lists.small none.small in
    let middle = without_member_of-none frame lists.middle none.middle in
    rw (base, small, middle) refl

-- a list without a frame has no member of it, nor have the lists
pub has_member_of-without : (frame : ℕ) (ms : List Member) → has_member_of frame (without_member_of frame ms) ≡ false
has_member_of-without frame ms =
    any-filter_same (λ (m : Member). m.frame == frame) (λ m. not (m.frame == frame)) false (λ m has. ap not has) ms

pub is_listed-without : (frame : ℕ) (lists : Lists) → is_listed frame (without_frame frame lists) ≡ false
is_listed-without frame lists =
    or_from _ _ (has_member_of-without frame lists.base)
    (or_from _ _ (has_member_of-without frame lists.small) (has_member_of-without frame lists.middle))
