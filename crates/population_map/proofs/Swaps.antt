-- The marks after the ids of some extents changed, and no bit did.
use Rattle.std.proofs.Common.{◌≡◌, ℕ, suc, ◌/◌, ◌%◌, ◌^◌, ◌<◌, ◌≤◌, ◌⊎◌, ◌↔◌, true, unwrap_or, is_some, inl, inr, sym, ap, subst, ◌∙◌, arith}
use Rattle.std.specs.Cmp.{both_ways}
use Rattle.std.specs.Int.{bit_at}
use Rattle.extent_tree.specs.Rows.{Arena, row, SplitsAreRowsBelow}
use Rattle.population_map.specs.declared.mark.Mark.{Mark}
use Rattle.population_map.specs.Bits.{HasBit}
use Rattle.population_map.specs.Kept.{AreMarks}
use Rattle.population_map.specs.Populations.{mark_of, id_of, is_placed, is_populated, unmarked}
use Rattle.population_map.proofs.Masks.{no_bit}
use Rattle.population_map.proofs.Marks.{bit_of_page, page_of_bit}

-- A tree after the ids of some extents changed: bits of marks are as before, and what is kept is right.
pub record ChangesIds (m n : Arena Mark) : Type 0 where
  pub splits : SplitsAreRowsBelow n
  pub some : (size page part : ℕ) → size ≤ 3 → part < 8 → (bit_at (mark_of n size page).some part ≡ 1) ↔
      (bit_at (mark_of m size page).some part ≡ 1)
  pub full : (size page part : ℕ) → size ≤ 3 → part < 8 → (bit_at (mark_of n size page).full part ≡ 1) ↔
      (bit_at (mark_of m size page).full part ≡ 1)
  pub no_parts : (page : ℕ) → ((mark_of n 0 page).some ≡ 0) × ((mark_of n 0 page).full ≡ 0)
  pub pages_full : (page : ℕ) → (mark_of n 1 page).full ≡ (mark_of n 1 page).some
  pub in_use : (size page : ℕ) → size ≤ 3 → is_some (row n size page) ≡ true
      → (is_some (id_of n size page) ≡ true) ⊎ (HasBit (mark_of n size page).some ⊎ HasBit (mark_of n size page).full)
  pub placed : (page : ℕ) → is_populated n page ≡ true → is_placed n page ≡ true
  pub apart : (a b page : ℕ) → a ≤ 3 → b ≤ 3 → is_some (id_of n a page) ≡ true → is_some (id_of n b page) ≡ true → a ≡ b

pub marks_with_ids : (m n : Arena Mark) → AreMarks m → ChangesIds m n → AreMarks n
marks_with_ids m n marks c = record {
  splits = c.splits;
  in_use = c.in_use;
  no_parts = c.no_parts;
  pages_full = c.pages_full;
  some = λ size page low less.
      let old = marks.some size page low less in
      let bit = c.some (suc size) page (page / 8 ^ size % 8) (omega arith) (omega arith) in (
        λ h. let x = old.0 (bit.0 h) in (x.0, x.1, (c.some size page x.0 (omega arith) x.1).1 x.2),
        λ h. bit.1 (old.1 (h.0, h.1, (c.some size page h.0 (omega arith) h.1).0 h.2)),
      );
  full = λ size page low less.
      let old = marks.full size page low less in
      let bit = c.full (suc size) page (page / 8 ^ size % 8) (omega arith) (omega arith) in (
        λ h. let x = old.0 (bit.0 h) in (λ part small. (c.full size page part (omega arith) small).1 (x part small)),
        λ h. bit.1 (old.1 (λ part small. (c.full size page part (omega arith) small).0 (h part small))),
      );
  placed = c.placed;
  apart = c.apart;
}

-- the same pages are populated
same_pages : (m n : Arena Mark) (page : ℕ)
    → (bit_at (mark_of n 1 page).some (page % 8) ≡ 1) ↔ (bit_at (mark_of m 1 page).some (page % 8) ≡ 1)
    → is_populated n page ≡ is_populated m page
same_pages m n page bit =
    both_ways (is_populated n page) (is_populated m page)
    (λ h. page_of_bit m page (bit.0 (bit_of_page n page h))) (λ h. page_of_bit n page (bit.1 (bit_of_page m page h)))

-- the mark of an extent had no bit and has none afterwards, and has an id where there is a row
pub record IsSwapped (m n : Arena Mark) (size page : ℕ) : Type 0 where
  pub some_now : (mark_of n size page).some ≡ 0
  pub full_now : (mark_of n size page).full ≡ 0
  pub some_before : HasBit (mark_of m size page).some → ⊥
  pub full_before : HasBit (mark_of m size page).full → ⊥
  pub use_now : is_some (row n size page) ≡ true → is_some (id_of n size page) ≡ true

-- or its row is as before
abbrev pub IsSwappedOrSame : Arena Mark → Arena Mark → ℕ → ℕ → Type 0
IsSwappedOrSame m n size page = IsSwapped m n size page ⊎ (row n size page ≡ row m size page)

pub same_mark : (m n : Arena Mark) (size page : ℕ) → row n size page ≡ row m size page → mark_of n size page ≡ mark_of m size page
unfolding mark_of
same_mark m n size page same = ap (λ v. unwrap_or v unmarked) same

pub same_id : (m n : Arena Mark) (size page : ℕ) → row n size page ≡ row m size page → id_of n size page ≡ id_of m size page
unfolding id_of
same_id m n size page same = ap (λ v. v.id) (same_mark m n size page same)

module _ (m n : Arena Mark) (each : (size page : ℕ) → size ≤ 3 → IsSwappedOrSame m n size page) where
  some_bits : (size page part : ℕ) → size ≤ 3 → part < 8
      → (bit_at (mark_of n size page).some part ≡ 1) ↔ (bit_at (mark_of m size page).some part ≡ 1)
  some_bits size page part small low = elim (each size page small) [
    | inl s ↦ (λ h. absurd (no_bit _ s.some_now (part, low, h)), λ h. absurd (s.some_before (part, low, h)))
    | inr same ↦ let at = ap (λ v. bit_at v.some part) (same_mark m n size page same) in (λ h. sym at ∙ h, λ h. at ∙ h)
  ]

  full_bits : (size page part : ℕ) → size ≤ 3 → part < 8
      → (bit_at (mark_of n size page).full part ≡ 1) ↔ (bit_at (mark_of m size page).full part ≡ 1)
  full_bits size page part small low = elim (each size page small) [
    | inl s ↦ (λ h. absurd (no_bit _ s.full_now (part, low, h)), λ h. absurd (s.full_before (part, low, h)))
    | inr same ↦ let at = ap (λ v. bit_at v.full part) (same_mark m n size page same) in (λ h. sym at ∙ h, λ h. at ∙ h)
  ]

  -- the same pages are populated
  pub pages_kept : (page : ℕ) → is_populated n page ≡ is_populated m page
  pages_kept page = same_pages m n page (some_bits 1 page (page % 8) (omega arith) (omega arith))

  in_use_after : AreMarks m → (size page : ℕ) → size ≤ 3 → is_some (row n size page) ≡ true
      → (is_some (id_of n size page) ≡ true) ⊎ (HasBit (mark_of n size page).some ⊎ HasBit (mark_of n size page).full)
  in_use_after marks size page small has = elim (each size page small) [
    | inl s ↦ inl (s.use_now has)
    | inr same ↦
        let at = same_mark m n size page same in
        elim (marks.in_use size page small (ap is_some (sym same) ∙ has)) [
          | inl id ↦ inl (ap is_some (same_id m n size page same) ∙ id)
          | inr bits ↦ elim bits [
            | inl bit ↦ inr (inl (subst (λ v. HasBit v.some) (sym at) bit))
            | inr bit ↦ inr (inr (subst (λ v. HasBit v.full) (sym at) bit))
          ]
        ]
  ]

  -- what is kept is right where the placed pages are
  pub ids_swapped : AreMarks m → SplitsAreRowsBelow n → ((page : ℕ) → is_populated n page ≡ true → is_placed n page ≡ true)
      → ((a b page : ℕ) → a ≤ 3 → b ≤ 3 → is_some (id_of n a page) ≡ true → is_some (id_of n b page) ≡ true → a ≡ b)
      → ChangesIds m n
  ids_swapped marks splits placed apart = record {
    splits = splits;
    some = some_bits;
    full = full_bits;
    no_parts = λ page. elim (each 0 page (omega arith)) [
      | inl s ↦ (s.some_now, s.full_now)
      | inr same ↦ rw (same_mark m n 0 page same) (marks.no_parts page)
    ];
    pages_full = λ page. elim (each 1 page (omega arith)) [
      | inl s ↦ s.full_now ∙ sym s.some_now
      | inr same ↦ rw (same_mark m n 1 page same) (marks.pages_full page)
    ];
    in_use = in_use_after marks;
    placed = placed;
    apart = apart;
  }
