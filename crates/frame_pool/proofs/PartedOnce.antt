-- A reservation that is split and split again, down to one size, was split into its extents of that size: the layout is the same.
use Rattle.std.proofs.Common.{◌≡◌, ◌≢◌, ℕ, ◌+◌, ◌-◌, ◌*◌, ◌/◌, ◌^◌, ◌<◌, ◌≤◌, ◌⊎◌, inl, inr, Bool, true, false, List, length, Option, Some, None, refl, sym, ap, subst, ◌∙◌, arith}
use Rattle.std.proofs.lemmas.Bool.{cases_eq, cases_lt}
use Rattle.std.proofs.lemmas.List.{ext_get_or}
use Rattle.std.proofs.lemmas.Option.{none-some, same_Some}
use Rattle.std.proofs.lemmas.Nat.{div_below}
use Rattle.pager_model.specs.declared.reservation.Reservation.{Reservation}
use Rattle.pager_model.specs.Agreement.{has_frame}
use Rattle.pager_model.specs.Layouts.{Layout, parted, record_at, is_free}
use Rattle.pager_model.specs.Records.{is_used, part_count, part_at, kept_at}
use Rattle.pager_model.proofs.ExtentLemmas.{eight_pos, eight_split, part_inside, extent_of_frame}
use Rattle.pager_model.specs.SizeSets.{SizeSet}
use Rattle.pager_model.proofs.RecordFrames.{has_frame_bounds, has_frame_from}
use Rattle.pager_laws.specs.Laid.{IsLaid}
use Rattle.pager_laws.proofs.PartsAt.{part_ends, same_part, kept_at-cases}
use Rattle.pager_laws.proofs.SplitFrames.{IsSplit-parted}
use Rattle.pager_laws.proofs.LayoutReplaced.{holder}
use Rattle.pager_laws.proofs.LayoutSplit.{Settles, Settles-parted, placed_own, who_stands}
use Rattle.pager_laws.proofs.LayoutBreak.{Settles-same, Settles-then}

-- the reservation is an extent inside r, of size k or larger
pub record IsPartOf (k : ℕ) (r q : Reservation) : Type 0 where
  pub low : k ≤ q.size
  pub high : q.size ≤ r.size
  pub index : ℕ
  pub below : index < part_count q.size r
  pub is : part_at q.size r index ≡ q

abbrev pub IsBeside : Reservation → ℕ → Type 0
IsBeside r id = (id < r.frame) ⊎ (r.frame + 8 ^ r.size ≤ id)

-- From a layout in which r stands, r was split, perhaps again and again: what stands in it is of size k or larger, and of size k below a
-- frame.
pub record IsDown (k next : ℕ) (l cur : Layout) (r : Reservation) : Type 0 where
  pub settles : Settles l cur
  pub records_long : length cur.records ≡ length l.records
  pub beside : (id : ℕ) → IsBeside r id → record_at cur id ≡ record_at l id
  pub parts : (id : ℕ) (q : Reservation) → r.frame ≤ id → id < r.frame + 8 ^ r.size → record_at cur id ≡ Some q → IsPartOf k r q
  pub done : (id : ℕ) (q : Reservation) → r.frame ≤ id → id < next → record_at cur id ≡ Some q → q.size ≡ k

-- ---- parts of parts

pub part_at-again : (m s j i : ℕ) (r : Reservation) → m ≤ s → part_at m (part_at s r j) i ≡ part_at m r (j * 8 ^ (s - m) + i)
part_at-again m s j i r le =
    let u = 8 ^ (s - m) in
    let split : j * 8 ^ s ≡ j * (u * 8 ^ m) = ap (λ n. j * n) (eight_split m s le) in
    let pages : r.first + j * 8 ^ s + i * 8 ^ m ≡ r.first + (j * u + i) * 8 ^ m = omega (arith, split) in
    let frames : r.frame + j * 8 ^ s + i * 8 ^ m ≡ r.frame + (j * u + i) * 8 ^ m = omega (arith, split) in
    ap (λ (n : ℕ). let q : Reservation = record {
      space = r.space;
      first = n;
      size = m;
      frame = r.frame + j * 8 ^ s + i * 8 ^ m;
      stamp = r.stamp;
    } in q) pages
    ∙ ap (λ (n : ℕ). let q : Reservation = record {
      space = r.space;
      first = r.first + (j * u + i) * 8 ^ m;
      size = m;
      frame = n;
      stamp = r.stamp;
    } in q) frames

part_below : (m s j i : ℕ) (r : Reservation) → m ≤ s → s ≤ r.size → j < part_count s r → i < 8 ^ (s - m)
    → j * 8 ^ (s - m) + i < part_count m r
part_below m s j i r le low one two =
    let less : r.size - m - (s - m) ≡ r.size - s = omega arith in
    let whole : 8 ^ (r.size - m) ≡ 8 ^ (r.size - s) * 8 ^ (s - m) = eight_split (s - m) (r.size - m) (omega arith)
    ∙ ap (λ n. 8 ^ n * 8 ^ (s - m)) less in
    omega (arith, whole, part_inside j (8 ^ (s - m)) (8 ^ (r.size - s)) one, two)

-- the whole is a part of itself
part_at-whole : (r : Reservation) → part_at r.size r 0 ≡ r
part_at-whole r =
    let pages : r.first + 0 * 8 ^ r.size ≡ r.first = omega arith in
    let frames : r.frame + 0 * 8 ^ r.size ≡ r.frame = omega arith in
    ap (λ (n : ℕ). let q : Reservation = record {
      space = r.space;
      first = n;
      size = r.size;
      frame = r.frame + 0 * 8 ^ r.size;
      stamp = r.stamp;
    } in q) pages
    ∙ ap (λ (n : ℕ). let q : Reservation = record { space = r.space; first = r.first; size = r.size; frame = n; stamp = r.stamp } in
    q) frames

IsPartOf-whole : (k : ℕ) (r : Reservation) → k ≤ r.size → IsPartOf k r r
IsPartOf-whole k r le = record { low = le; high = omega arith; index = 0; below = eight_pos (r.size - r.size); is = part_at-whole r }

-- a part ends inside the whole
part_bounds : (k : ℕ) (r q : Reservation) → IsPartOf k r q → (r.frame ≤ q.frame) × (q.frame + 8 ^ q.size ≤ r.frame + 8 ^ r.size)
part_bounds k r q part =
    let at : r.frame + part.index * 8 ^ q.size ≡ q.frame = ap (λ (p : Reservation). p.frame) part.is in
    (omega (arith, at), omega (arith, at, part_ends q.size part.index r part.high part.below))

module _ (k : ℕ) (l : Layout) (r : Reservation) (laid : IsLaid l) (is : record_at l r.frame ≡ Some r) where
  abbrev end : ℕ
  end = r.frame + 8 ^ r.size

  -- what stands at a frame of r is r
  own : (id : ℕ) (q : Reservation) → r.frame ≤ id → id < end → record_at l id ≡ Some q → (id ≡ r.frame) × (q ≡ r)
  own id q low high stands =
      let placed = laid.placed id q stands in
      let mine = has_frame_from id r low high in
      let here = laid.apart id id r.frame (ap (has_frame id) stands ∙ has_frame_from id q (omega (arith, placed.named))
      (omega (arith, placed.named, eight_pos q.size))) (ap (has_frame id) is ∙ mine) in
      (here, same_Some q r (sym stands ∙ ap (record_at l) here ∙ is))

  pub IsDown-start : k ≤ r.size → Settles l l → IsDown k r.frame l l r
  IsDown-start le settles = record {
    settles = settles;
    records_long = refl;
    beside = λ id out. refl;
    parts = λ id q low high stands. subst (IsPartOf k r) (sym (own id q low high stands).1) (IsPartOf-whole k r le);
    done = λ id q low below stands. absurd (omega arith);
  }

  -- split at once
  pub IsDown-parted : k ≤ r.size → IsDown k end l (parted k r l) r
  IsDown-parted le =
      let split = IsSplit-parted k l r laid.records_long (placed_own l r.frame r laid is) le in
      let who : (id : ℕ) (q : Reservation) → r.frame ≤ id → id < end → record_at (parted k r l) id ≡ Some q
      → IsPartOf k r q × (q.size ≡ k) =
      λ id q low high stands. elim (who_stands k l (parted k r l) r laid is split id q stands) [
        | inl still ↦ absurd (still.0 (own id q low high still.1).0)
        | inr part ↦
            let size : k ≡ q.size = ap (λ (p : Reservation). p.size) part.2 in (
              subst (IsPartOf k r) part.2 (record { low = omega arith; high = le; index = part.0; below = part.1.below; is = refl }),
              sym size,
            )
      ] in
      record {
        settles = Settles-parted k l r.frame r laid is le;
        records_long = split.records_long;
        beside = λ id out. split.others id (λ i one same.
            let ends = part_ends k i r le one in
            elim out [ inl before ↦ omega (arith, same) | inr past ↦ omega (arith, same, ends, eight_pos k) ]);
        parts = λ id q low high stands. (who id q low high stands).0;
        done = λ id q low below stands. (who id q low below stands).1;
      }

  module _ (next : ℕ) (cur : Layout) (down : IsDown k next l cur r) where
    -- a part of more than the size is split
    pub IsDown-split : (s j m : ℕ) → record_at cur (part_at s r j).frame ≡ Some (part_at s r j) → j < part_count s r → s ≤ r.size → k ≤ m
        → m ≤ s → next ≤ (part_at s r j).frame → IsDown k next l (parted m (part_at s r j) cur) r
    IsDown-split s j m stands one low from le above =
        let q = part_at s r j in
        let sound = down.settles.laid in
        let new = parted m q cur in
        let split = IsSplit-parted m cur q sound.records_long (placed_own cur q.frame q sound stands) le in
        let inside = part_ends s j r low one in
        record {
          settles = Settles-then l cur new down.settles (Settles-parted m cur q.frame q sound stands le);
          records_long = split.records_long ∙ down.records_long;
          beside = λ id out. split.others id (λ i two same.
              let ends = part_ends m i q le two in
              elim out [ inl before ↦ omega (arith, same) | inr past ↦ omega (arith, same, ends, inside, eight_pos m) ])
              ∙ down.beside id out;
          parts = λ id t at below now. elim (who_stands m cur new q sound stands split id t now) [
            | inl still ↦ down.parts id t at below still.1
            | inr part ↦
                let i = part.0 in
                let two = part.1.below in
                subst (IsPartOf k r) part.2 (record {
                  low = from;
                  high = omega arith;
                  index = j * 8 ^ (s - m) + i;
                  below = part_below m s j i r le low one two;
                  is = sym (part_at-again m s j i r le);
                })
          ];
          done = λ id t at below now. elim (who_stands m cur new q sound stands split id t now) [
            | inl still ↦ down.done id t at below still.1
            | inr part ↦ let here = part.1.at in absurd (omega arith)
          ];
        }

    -- at a frame at which nothing larger stands the next part is looked at
    pub IsDown-next : (c : ℕ) → next ≡ r.frame + c * 8 ^ k → next + 8 ^ k ≤ end
        → ((q : Reservation) → record_at cur next ≡ Some q → q.size ≡ k) → IsDown k (next + 8 ^ k) l cur r
    IsDown-next c multiple ends small = record {
      settles = down.settles;
      records_long = down.records_long;
      beside = down.beside;
      parts = down.parts;
      done = λ id q low below stands. elim (cases_lt id next) [
        | inl before ↦ down.done id q low before stands
        | inr from ↦ elim (cases_eq id next) [
          | inl here ↦ small q (ap (record_at cur) (sym here) ∙ stands)
          | inr after ↦ absurd (elsewhere id q low from after below stands)
        ]
      ];
    }
      where
        elsewhere : (id : ℕ) (q : Reservation) → r.frame ≤ id → next ≤ id → id ≢ next → id < next + 8 ^ k → record_at cur id ≡ Some q → ⊥
        elsewhere id q low from after below stands =
            let part = down.parts id q low (omega (arith, below, ends)) stands in
            let named = (down.settles.laid.placed id q stands).named in
            let at : r.frame + part.index * 8 ^ q.size ≡ id = ap (λ (p : Reservation). p.frame) part.is ∙ named in
            let u = 8 ^ (q.size - k) in
            let w = 8 ^ k in
            let split : part.index * 8 ^ q.size ≡ part.index * (u * w) = ap (λ n. part.index * n) (eight_split k q.size part.low) in
            let x = part.index * u in
            let whole : r.frame + x * w ≡ id = omega (arith, at, split) in
            let by_next : x * w / w ≡ c = extent_of_frame c w (x * w) (omega (arith, multiple, whole)) (omega (arith, multiple, whole)) in
            let by_own : x * w / w ≡ x = extent_of_frame x w (x * w) (omega arith) (omega (arith, eight_pos k)) in
            let same : x ≡ c = sym by_own ∙ by_next in
            after (sym whole ∙ ap (λ n. r.frame + n * w) same ∙ sym multiple)

  -- the next part ends inside the whole
  pub next_ends : (c : ℕ) → k ≤ r.size → c * 8 ^ k < 8 ^ r.size → c * 8 ^ k + 8 ^ k ≤ 8 ^ r.size
  next_ends c le below =
      let w = 8 ^ k in
      let n = 8 ^ (r.size - k) in
      let index : c * w / w ≡ c = extent_of_frame c w (c * w) (omega arith) (omega (arith, eight_pos k)) in
      let one : c * w / w < n = div_below (c * w) w n (eight_pos k) (omega (arith, below, eight_split k r.size le)) in
      part_ends k c r le (omega (arith, one, index))

  -- Two layouts in which r was split down to one size are the same.
  module _ (a b : Layout) (down : IsDown k end l a r) (other : IsDown k end l b r) where
    -- what stands inside r in one of them stands in the other
    carried : (id : ℕ) (q : Reservation) → r.frame ≤ id → id < end → record_at a id ≡ Some q → record_at b id ≡ Some q
    carried id q low high stands =
        let part = down.parts id q low high stands in
        let size = down.done id q low high stands in
        let some = down.settles.laid.some_used id q stands in
        let f = some.0 in
        let bounds = has_frame_bounds f q some.1 in
        let inside = part_bounds k r q part in
        let used : is_used b.used f ≡ true = ap (λ u. is_used u f) (other.settles.used ∙ sym down.settles.used) ∙ some.2 in
        let place = other.settles.laid.places f used in
        let who = holder f (record_at b place.0) place.1 in
        let in_who = has_frame_bounds f who.0 who.2 in
        let named = (other.settles.laid.placed place.0 who.0 who.1).named in
        elim (cases_lt place.0 r.frame) [
          | inl before ↦ absurd (beside_not place.0 f (inl before) (ap (has_frame f) (sym (other.beside place.0 (inl before))) ∙ place.1)
              (omega (arith, bounds.0, inside.0)) (omega (arith, bounds.1, inside.1)))
          | inr from ↦ elim (cases_lt place.0 end) [
            | inr past ↦ absurd (beside_not place.0 f (inr past) (ap (has_frame f) (sym (other.beside place.0 (inr past))) ∙ place.1)
                (omega (arith, bounds.0, inside.0)) (omega (arith, bounds.1, inside.1)))
            | inl within ↦
                let also = other.parts place.0 who.0 from within who.1 in
                let also_size = other.done place.0 who.0 from within who.1 in
                let mine : part_at k r part.index ≡ q = ap (λ n. part_at n r part.index) (sym size) ∙ part.is in
                let its : part_at k r also.index ≡ who.0 = ap (λ n. part_at n r also.index) (sym also_size) ∙ also.is in
                let index = same_part k r f part.index also.index (ap (λ p. has_frame f (Some p)) mine ∙ some.1)
                (ap (λ p. has_frame f (Some p)) its ∙ who.2) in
                let one : who.0 ≡ q = sym its ∙ ap (part_at k r) (sym index) ∙ mine in
                let here : place.0 ≡ id = sym named ∙ ap (λ (p : Reservation). p.frame) one
                ∙ (down.settles.laid.placed id q stands).named in
                ap (record_at b) (sym here) ∙ who.1 ∙ ap Some one
          ]
        ]
      where
        beside_not : (j f : ℕ) → IsBeside r j → has_frame f (record_at l j) ≡ true → r.frame ≤ f → f < end → ⊥
        beside_not j f out has low high =
            let here = laid.apart f j r.frame has (ap (has_frame f) is ∙ has_frame_from f r low high) in
            elim out [ inl before ↦ omega (arith, here, before) | inr past ↦ omega (arith, here, past, eight_pos r.size) ]

  -- at every frame the same stands in them
  module _ (a b : Layout) (down : IsDown k end l a r) (other : IsDown k end l b r) where
    same_record : (id : ℕ) → record_at a id ≡ record_at b id
    same_record id = elim (cases_lt id r.frame) [
      | inl before ↦ down.beside id (inl before) ∙ sym (other.beside id (inl before))
      | inr low ↦ elim (cases_lt id end) [
        | inr past ↦ down.beside id (inr past) ∙ sym (other.beside id (inr past))
        | inl high ↦ inside (record_at a id) (record_at b id) refl refl low high
      ]
    ]
      where
        inside : (o p : Option Reservation) → record_at a id ≡ o → record_at b id ≡ p → r.frame ≤ id → id < end
            → record_at a id ≡ record_at b id
        inside (Some q) p at also low high = at ∙ sym (carried a b down other id q low high at)
        inside None (Some q) at also low high = absurd (none-some q (sym at ∙ carried b a other down id q low high also))
        inside None None at also low high = at ∙ sym also

-- a frame that is free in one of them is free in the other
free_also : (l a b : Layout) → Settles l a → Settles l b → ((id : ℕ) → record_at a id ≡ record_at b id) → (f : ℕ) → is_free a f ≡ true
    → is_free b f ≡ true
free_also l a b first second same f free = elim ((second.within f).1 ((first.within f).0 (inl free))) [
  | inl is ↦ is
  | inr has ↦ absurd (first.laid.not_free f has.0 free (ap (has_frame f) (same has.0) ∙ has.1))
]

same_bool : (x y : Bool) → (x ≡ true → y ≡ true) → (y ≡ true → x ≡ true) → x ≡ y
same_bool true y there back = sym (there refl)
same_bool false true there back = back refl
same_bool false false there back = refl

same_layout : (a b : Layout) → a.sizes ≡ b.sizes → a.free ≡ b.free → a.records ≡ b.records → a.used ≡ b.used → a ≡ b
same_layout a b z f r u =
    ap (λ (x : SizeSet). let l : Layout = record { sizes = x; free = a.free; records = a.records; used = a.used } in l) z
    ∙ ap (λ (x : List Bool). let l : Layout = record { sizes = b.sizes; free = x; records = a.records; used = a.used } in l) f
    ∙ ap (λ (x : List (Option Reservation)). let l : Layout = record { sizes = b.sizes; free = b.free; records = x; used = a.used } in l) r
    ∙ ap (λ (x : List Bool). let l : Layout = record { sizes = b.sizes; free = b.free; records = b.records; used = x } in l) u

pub down_once : (k : ℕ) (l : Layout) (r : Reservation) → IsLaid l → record_at l r.frame ≡ Some r → (a b : Layout)
    → IsDown k (r.frame + 8 ^ r.size) l a r → IsDown k (r.frame + 8 ^ r.size) l b r → a ≡ b
down_once k l r laid is a b down other =
    let same = same_record k l r laid is a b down other in
    same_layout a b (down.settles.sizes ∙ sym other.settles.sizes)
    (ext_get_or false a.free b.free (down.settles.long ∙ sym other.settles.long)
    (λ f _. same_bool (is_free a f) (is_free b f) (free_also l a b down.settles other.settles same f)
    (free_also l b a other.settles down.settles (λ id. sym (same id)) f)))
    (ext_get_or None a.records b.records (down.records_long ∙ sym other.records_long) (λ id _. same id))
    (down.settles.used ∙ sym other.settles.used)

-- so what a reservation is split down to is what splitting it at once gives
pub down_parted : (k : ℕ) (l cur : Layout) (r : Reservation) → IsLaid l → record_at l r.frame ≡ Some r → k ≤ r.size
    → IsDown k (r.frame + 8 ^ r.size) l cur r → cur ≡ parted k r l
down_parted k l cur r laid is le down = down_once k l r laid is cur (parted k r l) down (IsDown-parted k l r laid is le)

-- ---- going through the frames of a reservation

-- the size of what stands there
abbrev pub size_there : Option Reservation → ℕ
size_there None = 0
size_there (Some q) = q.size

-- From a layout in which a reservation stands it is split down to a size, up to a frame of it.
pub record IsGoing (size next : ℕ) (r : Reservation) (l cur : Layout) : Type 0 where
  pub is : record_at l r.frame ≡ Some r
  pub laid : IsLaid l
  pub less : size < r.size
  pub down : IsDown size next l cur r
  pub index : ℕ
  pub at : next ≡ r.frame + index * 8 ^ size
  pub low : next ≤ r.frame + 8 ^ r.size

pub IsGoing-start : (size : ℕ) (r : Reservation) (l : Layout) → IsLaid l → record_at l r.frame ≡ Some r → size < r.size
    → IsGoing size r.frame r l l
IsGoing-start size r l laid is less = record {
  is = is;
  laid = laid;
  less = less;
  down = IsDown-start size l r laid is (omega arith) (Settles-same l laid);
  index = 0;
  at = omega arith;
  low = omega arith;
}

module _ (size next : ℕ) (r : Reservation) (l cur : Layout) (going : IsGoing size next r l cur) where
  -- what stands at the frame is a part that begins there
  part_there : next < r.frame + 8 ^ r.size → (q : Reservation) → record_at cur next ≡ Some q → IsPartOf size r q
  part_there inside q stands = going.down.parts next q (omega (arith, going.at)) inside stands

  pub IsGoing-skip : next < r.frame + 8 ^ r.size → ((q : Reservation) → record_at cur next ≡ Some q → q.size ≤ size)
      → IsGoing size (next + 8 ^ size) r l cur
  IsGoing-skip inside small =
      let fits = next_ends size l r going.laid going.is going.index (omega (arith, going.less)) (omega (arith, inside, going.at)) in
      record {
        is = going.is;
        laid = going.laid;
        less = going.less;
        down = IsDown-next size l r going.laid going.is next cur going.down going.index going.at (omega (arith, fits, going.at))
            (λ q stands. let part = part_there inside q stands in omega (arith, part.low, small q stands));
        index = going.index + 1;
        at = omega (arith, going.at);
        low = omega (arith, fits, going.at);
      }

  pub going_done : r.frame + 8 ^ r.size ≤ next → cur ≡ parted size r l
  going_done past =
      let all : next ≡ r.frame + 8 ^ r.size = omega (arith, past, going.low) in
      let down = subst (λ n. IsDown size n l cur r) all going.down in
      down_parted size l cur r going.laid going.is (omega (arith, going.less)) down

  -- and stands at its own frame
  pub stands_there : (q : Reservation) → record_at cur next ≡ Some q → record_at cur q.frame ≡ Some q
  stands_there q is = ap (record_at cur) (going.down.settles.laid.placed next q is).named ∙ is

  -- a larger one is split
  module _ (q : Reservation) (is : record_at cur next ≡ Some q) (larger : size < q.size) (inside : next < r.frame + 8 ^ r.size) where
    pub IsGoing-split : IsGoing size next r l (parted (q.size - 1) q cur)
    IsGoing-split =
        let part = part_there inside q is in
        let named : q.frame ≡ next = (going.down.settles.laid.placed next q is).named in
        let at_part : record_at cur (part_at q.size r part.index).frame ≡ Some (part_at q.size r part.index) =
        ap (λ (p : Reservation). record_at cur p.frame) part.is ∙ stands_there q is ∙ ap Some (sym part.is) in
        let begins : next ≤ (part_at q.size r part.index).frame = omega (arith, ap (λ (p : Reservation). p.frame) part.is, named) in
        let down = IsDown-split size l r going.laid going.is next cur going.down q.size part.index (q.size - 1) at_part part.below part.high
        (omega (arith, larger)) (omega arith) begins in
        record {
          is = going.is;
          laid = going.laid;
          less = going.less;
          down = subst (λ p. IsDown size next l (parted (q.size - 1) p cur) r) part.is down;
          index = going.index;
          at = going.at;
          low = going.low;
        }

    -- so what begins there is smaller then
    pub split_nearer : size_there (record_at (parted (q.size - 1) q cur) next) < q.size
    split_nearer =
        let named : q.frame ≡ next = (going.down.settles.laid.placed next q is).named in
        let sound = going.down.settles.laid in
        let split_is = IsSplit-parted (q.size - 1) cur q sound.records_long (placed_own cur next q sound is) (omega arith) in
        let first : (part_at (q.size - 1) q 0).frame ≡ next = omega (arith, named) in
        let there : record_at (parted (q.size - 1) q cur) next ≡ kept_at (q.size - 1) (is_used cur.used) q 0 =
        ap (record_at (parted (q.size - 1) q cur)) (sym first) ∙ split_is.parts 0 (eight_pos (q.size - (q.size - 1))) in
        elim (kept_at-cases (q.size - 1) (is_used cur.used) q 0) [
          | inl none ↦ let now : size_there (record_at (parted (q.size - 1) q cur) next) ≡ 0 = ap size_there (there ∙ none.0) in
              omega (arith, now, larger)
          | inr kept ↦ let now : size_there (record_at (parted (q.size - 1) q cur) next) ≡ q.size - 1 = ap size_there (there ∙ kept.0) in
              omega (arith, now, larger)
        ]

-- at most size 3 stands anywhere
pub size_there-small : (l : Layout) (id : ℕ) → IsLaid l → size_there (record_at l id) ≤ 3
size_there-small l id laid = at (record_at l id) refl
  where
    at : (o : Option Reservation) → record_at l id ≡ o → size_there o ≤ 3
    at None none = omega arith
    at (Some q) is = (laid.placed id q is).aligned.0
