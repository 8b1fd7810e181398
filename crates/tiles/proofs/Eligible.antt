-- Eligible extents: each of their pages has its first page's mapping, moved.
use Rattle.std.proofs.Common.{◌≡◌, ℕ, zero, suc, ◌+◌, ◌-◌, ◌*◌, ◌/◌, ◌%◌, ◌^◌, ◌<◌, ◌≤◌, Bool, true, false, cond, ◌&&◌, eqb, Option, Some, None, is_some, refl, sym, ap, inl, inr, ◌∙◌, arith, subst}
use Rattle.std.specs.Cmp.{both_ways}
use Rattle.std.proofs.lemmas.Bool.{cases_eq, and_parts, and_from, eqb-true, eq-eqb}
use Rattle.std.proofs.lemmas.Option.{none-some, cond_some}
use Rattle.pager_model.specs.declared.region.Rights.{Rights}
use Rattle.pager_model.specs.declared.tile.Mapping.{Mapping}
use Rattle.pager_model.specs.declared.tile.Tile.{Tile}
use Rattle.pager_model.specs.Extents.{extent_start}
use Rattle.tiles.specs.Beside.{whole}
use Rattle.pager_model.specs.Tiles.{moved_by, same_rights, same_flag, is_mapping, is_eligible, tile_with, eligible_with, eligible_at}
use Rattle.pager_model.proofs.ExtentLemmas.{eight_pos, extent_of_frame, range_of_extent, first_of_extent}
use Rattle.pager_model.proofs.Ranges.{list_all-range}
use Rattle.pager_model.proofs.TileParts.{same_rights-true, same_flag-true, same_rights-refl, same_flag-refl}
use Rattle.pager_model.proofs.Options.{some_from_is_some, none_from_is_some}
use Rattle.tiles.proofs.Extents.{lies_in}

-- ---- mappings

pub same_mapping : (n m : Mapping) → n.frame ≡ m.frame → n.region ≡ m.region → n.rights ≡ m.rights → n.dirty ≡ m.dirty → n ≡ m
same_mapping n m a b c d =
    ap (λ (x : ℕ). let r : Mapping = record { frame = x; region = n.region; rights = n.rights; dirty = n.dirty } in r) a
    ∙ ap (λ (x : ℕ). let r : Mapping = record { frame = m.frame; region = x; rights = n.rights; dirty = n.dirty } in r) b
    ∙ ap (λ (x : Rights). let r : Mapping = record { frame = m.frame; region = m.region; rights = x; dirty = n.dirty } in r) c
    ∙ ap (λ (x : Bool). let r : Mapping = record { frame = m.frame; region = m.region; rights = m.rights; dirty = x } in r) d

mapping_one : (m : Mapping) (o : Option Mapping) → is_mapping m o ≡ true → o ≡ Some m
mapping_one m None h = absurd (cc)
mapping_one m (Some n) h =
    let parts = and_parts (eqb n.frame m.frame && eqb n.region m.region) (same_rights n.rights m.rights && same_flag n.dirty m.dirty) h in
    let places = and_parts (eqb n.frame m.frame) (eqb n.region m.region) parts.0 in
    let flags = and_parts (same_rights n.rights m.rights) (same_flag n.dirty m.dirty) parts.1 in
    let a = eqb-true n.frame m.frame places.0 in
    let b = eqb-true n.region m.region places.1 in
    let c = same_rights-true n.rights m.rights flags.0 in
    let d = same_flag-true n.dirty m.dirty flags.1 in
    ap Some (same_mapping n m a b c d)

mapping_same : (m : Mapping) → is_mapping m (Some m) ≡ true
mapping_same m =
    and_from _ _ (and_from _ _ (eq-eqb m.frame m.frame refl) (eq-eqb m.region m.region refl))
    (and_from _ _ (same_rights-refl m.rights) (same_flag-refl m.dirty))

-- ---- an eligible extent round a page

-- each page of the extent has the first one's mapping, moved
pub record IsWhole (pages : ℕ → Option Mapping) (k first : ℕ) (m : Mapping) : Type 0 where
  pub aligned : m.frame % 8 ^ k ≡ 0
  pub uniform : (i : ℕ) → i < 8 ^ k → pages (first + i) ≡ Some (moved_by i m)

eligible_whole : (pages : ℕ → Option Mapping) (k first : ℕ) (m : Mapping) → is_eligible pages k first m ≡ true → IsWhole pages k first m
eligible_whole pages k first m h = record {
  aligned = eqb-true _ _ (and_parts _ _ h).0;
  uniform = λ i low.
      let all = (list_all-range (λ i. is_mapping (moved_by i m) (pages (first + i))) 0 (8 ^ k)).0
      (and_parts (eqb (m.frame % 8 ^ k) 0) _ h).1 in
      mapping_one (moved_by i m) (pages (first + i)) (all i (omega arith) (omega arith));
}

whole_eligible : (pages : ℕ → Option Mapping) (k first : ℕ) (m : Mapping) → IsWhole pages k first m → is_eligible pages k first m ≡ true
whole_eligible pages k first m w =
    and_from _ _ (eq-eqb _ _ w.aligned)
    ((list_all-range (λ i. is_mapping (moved_by i m) (pages (first + i))) 0 (8 ^ k)).1
    (λ i _ low. ap (is_mapping (moved_by i m)) (w.uniform i (omega arith)) ∙ mapping_same (moved_by i m)))

-- the extent of a size round a page is eligible, and its first page has this mapping
pub record HasExtent (pages : ℕ → Option Mapping) (k page : ℕ) : Type 0 where
  pub head : Mapping
  pub begins : pages (extent_start k page) ≡ Some head
  pub is : IsWhole pages k (extent_start k page) head

pub eligible_is : (pages : ℕ → Option Mapping) (k page : ℕ) (h : HasExtent pages k page)
    → eligible_at pages k page ≡ Some (tile_with k (extent_start k page) h.head)
eligible_is pages k page h =
    ap (eligible_with pages k (extent_start k page)) h.begins
    ∙ ap (λ (b : Bool). cond b (Some (tile_with k (extent_start k page) h.head)) None)
    (whole_eligible pages k (extent_start k page) h.head h.is)

has_with : (pages : ℕ → Option Mapping) (k first : ℕ) (o : Option Mapping) (t : Tile) → eligible_with pages k first o ≡ Some t
    → (m : Mapping) × (o ≡ Some m) × IsWhole pages k first m
has_with pages k first None t h = absurd (none-some t h)
has_with pages k first (Some m) t h =
    (m, refl, eligible_whole pages k first m (cond_some (is_eligible pages k first m) (tile_with k first m) t h).0)

pub eligible_has : (pages : ℕ → Option Mapping) (k page : ℕ) (t : Tile) → eligible_at pages k page ≡ Some t → HasExtent pages k page
eligible_has pages k page t h =
    let w = has_with pages k (extent_start k page) (pages (extent_start k page)) t h in
    record { head = w.0; begins = w.1; is = w.2 }

pub whole_has : (pages : ℕ → Option Mapping) (k page : ℕ) → whole pages k page ≡ true → HasExtent pages k page
unfolding whole
whole_has pages k page h = let t = some_from_is_some (eligible_at pages k page) h in eligible_has pages k page t.0 t.1

pub has_whole : (pages : ℕ → Option Mapping) (k page : ℕ) → HasExtent pages k page → whole pages k page ≡ true
unfolding whole
has_whole pages k page h = ap is_some (eligible_is pages k page h)

pub whole_none : (pages : ℕ → Option Mapping) (k page : ℕ) → whole pages k page ≡ false → eligible_at pages k page ≡ None
unfolding whole
whole_none pages k page h = none_from_is_some (eligible_at pages k page) h

pub none_whole : (pages : ℕ → Option Mapping) (k page : ℕ) → eligible_at pages k page ≡ None → whole pages k page ≡ false
unfolding whole
none_whole pages k page h = ap is_some h

-- pages of one extent have it
pub whole_alike : (pages : ℕ → Option Mapping) (k page other : ℕ) → other / 8 ^ k ≡ page / 8 ^ k → whole pages k other ≡ whole pages k page
unfolding whole
whole_alike pages k page other same = ap (λ n. is_some (eligible_with pages k (n * 8 ^ k) (pages (n * 8 ^ k)))) same

-- the mapping of a page in it
pub page_in : (pages : ℕ → Option Mapping) (k page other : ℕ) (h : HasExtent pages k page) → k ≤ 3 → other / 8 ^ k ≡ page / 8 ^ k
    → pages other ≡ Some (moved_by (other - extent_start k page) h.head)
page_in pages k page other h low same =
    let at = range_of_extent (page / 8 ^ k) (8 ^ k) other (eight_pos k) same in
    let e : extent_start k page + (other - extent_start k page) ≡ other = omega (arith, at.0) in
    ap pages (sym e) ∙ h.is.uniform (other - extent_start k page) (omega (arith, at))

moved_twice : (by i n : ℕ) (m : Mapping) → by + i ≡ n → moved_by n m ≡ moved_by i (moved_by by m)
moved_twice by i n m e = ap
    (λ f. record { frame = f; region = m.region; rights = m.rights; dirty = m.dirty }) {x = m.frame + n} {y = m.frame + by + i}
    (omega arith)

-- ---- smaller and larger extents

-- a part of an eligible extent is eligible
one_smaller : (pages : ℕ → Option Mapping) (k page : ℕ) → suc k ≤ 3 → HasExtent pages (suc k) page → HasExtent pages k page
one_smaller pages k page low h =
    let by = extent_start k page - extent_start (suc k) page in
    let lies = lies_in k page low in
    record {
      head = moved_by by h.head;
      begins = ap pages lies.moved ∙ h.is.uniform by (omega (arith, lies.within, eight_pos k));
      is = record {
        aligned = lies.aligned h.head.frame h.is.aligned;
        uniform = λ i within.
            let e : extent_start k page + i ≡ extent_start (suc k) page + (by + i) = omega (arith, lies.moved) in
            ap pages e ∙ h.is.uniform (by + i) (omega (arith, lies.within)) ∙ ap Some (moved_twice by i (by + i) h.head refl);
      };
    }

pub smaller : (pages : ℕ → Option Mapping) (j k page : ℕ) → j ≤ k → k ≤ 3 → HasExtent pages k page → HasExtent pages j page
smaller pages j zero page less low h =
    let e : 0 ≡ j = omega arith in
    subst (λ (i : ℕ). HasExtent pages i page) e h
smaller pages j (suc k) page less low h = elim (cases_eq (suc k) j) [
  | inl e ↦ subst (λ (i : ℕ). HasExtent pages i page) e h
  | inr n ↦ smaller pages j k page (omega arith) (omega arith) (one_smaller pages k page low h)
]

-- a resident page is an eligible extent by itself, and only a resident one is
pub page_whole : (pages : ℕ → Option Mapping) (page : ℕ) (m : Mapping) → pages page ≡ Some m → HasExtent pages 0 page
page_whole pages page m at = record {
  head = m;
  begins = ap pages {x = extent_start 0 page} {y = page} (omega arith) ∙ at;
  is = record {
    aligned = omega arith;
    uniform = λ i within. ap pages {x = extent_start 0 page + i} {y = page} (omega arith) ∙ at
        ∙ ap (λ f. Some (record { frame = f; region = m.region; rights = m.rights; dirty = m.dirty })) {x = m.frame} {y = m.frame + i}
        (omega arith);
  };
}

-- an extent is eligible by its pages alone
local_one : (old new : ℕ → Option Mapping) (k page : ℕ) → k ≤ 3 → ((other : ℕ) → other / 8 ^ k ≡ page / 8 ^ k → old other ≡ new other)
    → whole old k page ≡ true → whole new k page ≡ true
local_one old new k page low same is =
    let h = whole_has old k page is in
    has_whole new k page (record {
      head = h.head;
      begins = sym (same (extent_start k page) (first_of_extent k page)) ∙ h.begins;
      is = record {
        aligned = h.is.aligned;
        uniform = λ i within. sym
            (same (extent_start k page + i) (extent_of_frame (page / 8 ^ k) (8 ^ k) (extent_start k page + i) (omega arith) (omega arith)))
            ∙ h.is.uniform i within;
      };
    })

pub whole_local : (old new : ℕ → Option Mapping) (k page : ℕ) → k ≤ 3 → ((other : ℕ) → other / 8 ^ k ≡ page / 8 ^ k → old other ≡ new other)
    → whole old k page ≡ whole new k page
whole_local old new k page low same =
    both_ways (whole old k page) (whole new k page) (local_one old new k page low same)
    (local_one new old k page low (λ other at. sym (same other at)))
