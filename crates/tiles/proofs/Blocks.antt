-- A change of rights in the blocks of a range, and how its moves are counted.
use Rattle.std.proofs.Common.{◌≡◌, ◌≢◌, ℕ, zero, suc, ◌+◌, ◌-◌, ◌*◌, ◌/◌, ◌%◌, ◌^◌, ◌<◌, ◌≤◌, Bool, true, false, eqb, ltb, if◌then◌else◌, ◌&&◌, nat_le, nat_lt, Option, Some, None, option_map, refl, sym, ap, inl, inr, ◌∙◌, arith}
use Rattle.std.proofs.lemmas.Bool.{and_from, cases_eq, cases_lt, eq-eqb, le-leb, lt-ltb, ne_eqb}
use Rattle.std.proofs.lemmas.Bool.Decides.{nat_tests}
use Rattle.pager_model.specs.Bounds.{space_pages}
use Rattle.pager_model.specs.declared.page_range.PageRange.{PageRange}
use Rattle.pager_model.specs.declared.region.Rights.{Rights}
use Rattle.pager_model.specs.declared.tile.Mapping.{Mapping}
use Rattle.pager_model.specs.Regions.{in_range}
use Rattle.pager_model.specs.SizeSets.{SizeSet}
use Rattle.pager_model.specs.Tiles.{moved_by, is_promoted_in, promotions_in, count_pages}
use Rattle.tiles.specs.declared.entry.TableEntry.{TableEntry}
use Rattle.tiles.specs.TableEntries.{mapping_of}
use Rattle.pager_model.proofs.CountLemmas.{weight}
use Rattle.pager_model.proofs.ExtentLemmas.{coarser, eight_pos, in_extent, of_extent, range_of_extent}
use Rattle.tiles.specs.declared.moves.Moves.{Moves}
use Rattle.tiles.specs.Blocks.{ProtectsInBlock, ProtectsTo, OutsideSame, is_grown_at}
use Rattle.tiles.specs.Kept.{FitsFrames, MapsExtent}
use Rattle.tiles.specs.Resident.{NoneResident, Resident, mapping_at, frames_in, with_rights, Protects}
use Rattle.tiles.specs.Sized.{AreMovesIn, size_by}
use Rattle.tiles.specs.Touched.{IsInSpace}
use Rattle.tiles.proofs.Counting.{count, count-zero, count-suc, count-apart, count-none, count-same, count_pages-is}
use Rattle.tiles.proofs.MoveCounts.{LieApart}
use Rattle.tiles.proofs.SizedTiles.{by_small, local_by, none_grown, promoted_test}
use Rattle.tiles.proofs.TouchedTiles.{outside_block}

-- ---- the pages that get rights

abbrev protected : Bool → Rights → Option Mapping → Option Mapping
protected b rights m = if b then option_map (with_rights rights) m else m

outside_same : (block first len : ℕ) (rights : Rights) (r s : Resident) → ProtectsInBlock block first len rights r s
    → OutsideSame block (mapping_at r) (mapping_at s)
outside_same block first len rights r s protects p apart =
    protects.at p ∙ ap (λ b. protected b rights (mapping_at r p)) (no_right (in_range first len p) (eqb (p / 512) block)
    (ne_eqb (p / 512) block apart))
  where
    no_right : (a b : Bool) → b ≡ false → (a && b) ≡ false
    no_right true b h = h
    no_right false b h = refl

protects_none : (b : Bool) (rights : Rights) → protected b rights None ≡ None
protects_none true rights = refl
protects_none false rights = refl

right_alike : (a : Bool) (b c : Bool) → b ≡ c → (a && b) ≡ (a && c)
right_alike a b c e = ap (λ x. a && x) e

-- where no page is resident none has rights
pub protects_bare : (first from end : ℕ) (rights : Rights) (r s : Resident) → from ≤ end → NoneResident (mapping_at s) from end
    → ProtectsTo first from rights r s → ProtectsTo first end rights r s
protects_bare first from end rights r s on none so_far = record {
  frames = so_far.frames;
  at = λ p. elim (cases_lt p from) [
    | inl before ↦ so_far.at p ∙ ap (λ b. protected b rights (mapping_at r p))
        (right_alike (nat_le first p) (nat_lt p from) (nat_lt p end) (lt_alike p before))
    | inr after ↦ elim (cases_lt p end) [
      | inl within ↦
          let bare : mapping_at r p ≡ None = sym (so_far.at p ∙ ap (λ b. protected b rights (mapping_at r p))
          (right_past (nat_le first p) p from after)) ∙ none p after within in
          none p after within ∙ sym (ap (λ m. protected (nat_le first p && nat_lt p end) rights m) bare
          ∙ protects_none (nat_le first p && nat_lt p end) rights)
      | inr past ↦ so_far.at p ∙ ap (λ b. protected b rights (mapping_at r p))
          (right_past (nat_le first p) p from after ∙ sym (right_past (nat_le first p) p end past))
    ]
  ];
}
  where
    lt_alike : (p : ℕ) → p < from → nat_lt p from ≡ nat_lt p end
    lt_alike p h = grind (arith, nat_tests)

    right_past : (a : Bool) (m n : ℕ) → n ≤ m → (a && nat_lt m n) ≡ false
    right_past true m n h = grind (arith, nat_tests)
    right_past false m n h = refl

-- a part of an entry gets rights
pub protects_part : (size page : ℕ) (rights : Rights) (given : Mapping) (e : TableEntry) (r s : Resident) → FitsFrames r page e
    → size ≤ e.extent.size → page % 8 ^ size ≡ 0 → given ≡ with_rights rights (mapping_of e page) → MapsExtent size page given r s
    → ProtectsTo page (page + 8 ^ size) rights r s
protects_part size page rights given e r s fits small aligned is maps = record { frames = maps.frames; at = at }
  where
    at : (p : ℕ) → mapping_at s p ≡ protected (nat_le page p && nat_lt p (page + 8 ^ size)) rights (mapping_at r p)
    at p = elim (cases_eq (p / 8 ^ size) (page / 8 ^ size)) [
      | inl joined ↦
          let low : size ≤ 3 = omega (arith, small, fits.low) in
          let range = of_extent size page p low aligned joined in
          let whole = range_of_extent (page / 8 ^ e.extent.size) (8 ^ e.extent.size) p (eight_pos e.extent.size)
          (coarser size e.extent.size p page small fits.low joined) in
          let said = fits.says p (omega (arith, fits.starts, whole)) (omega (arith, fits.starts, whole)) in
          let in_it : (nat_le page p && nat_lt p (page + 8 ^ size)) ≡ true =
          and_from _ _ (le-leb page p range.0) (lt-ltb p (page + 8 ^ size) range.1) in
          maps.at p
          ∙ ap (λ (b : Bool). if b then Some (moved_by (p - page) given) else mapping_at r p) (eq-eqb _ _ joined)
          ∙ ap (λ m. Some (moved_by (p - page) m)) is
          ∙ ap (λ (f : ℕ). Some (record { frame = f; region = e.mapping.region; rights = rights; dirty = e.mapping.dirty }))
          {x = e.mapping.frame + (page - e.extent.first) + (p - page)} {y = e.mapping.frame + (p - e.extent.first)}
          (omega (arith, range, fits.from))
          ∙ sym (ap (λ b. protected b rights (mapping_at r p)) in_it ∙ ap (option_map (with_rights rights)) said)
      | inr apart ↦
          let out : (nat_le page p && nat_lt p (page + 8 ^ size)) ≡ false = elim (cases_lt p page) [
            | inl before ↦ grind (arith, nat_tests)
            | inr on ↦ elim (cases_lt p (page + 8 ^ size)) [
              | inl within ↦ absurd (apart (in_extent size page p (omega (arith, small, fits.low)) aligned on within))
              | inr past ↦ grind (arith, nat_tests)
            ]
          ] in
          maps.at p
          ∙ ap (λ (b : Bool). if b then Some (moved_by (p - page) given) else mapping_at r p) (ne_eqb _ _ apart)
          ∙ sym (ap (λ b. protected b rights (mapping_at r p)) out)
    ]

-- a further part gets them
pub protects_on : (first page end : ℕ) (rights : Rights) (r s t : Resident) → first ≤ page → page ≤ end → ProtectsTo first page rights r s
    → ProtectsTo page end rights s t → ProtectsTo first end rights r t
protects_on first page end rights r s t from on so_far more = record {
  frames = more.frames ∙ so_far.frames;
  at = λ p. elim (cases_lt p page) [
    | inl before ↦
        let out : (nat_le page p && nat_lt p end) ≡ false = grind (arith, nat_tests) in
        let same : (nat_le first p && nat_lt p page) ≡ (nat_le first p && nat_lt p end) =
        alike (nat_le first p) (nat_lt p page) (nat_lt p end) (both p before) in
        more.at p ∙ ap (λ b. protected b rights (mapping_at s p)) out ∙ so_far.at p ∙ ap (λ b. protected b rights (mapping_at r p)) same
    | inr after ↦
        let out : (nat_le first p && nat_lt p page) ≡ false = past (nat_le first p) p page after in
        let same : (nat_le page p && nat_lt p end) ≡ (nat_le first p && nat_lt p end) = grind (arith, nat_tests) in
        more.at p ∙ ap (λ m. protected (nat_le page p && nat_lt p end) rights m)
        (so_far.at p ∙ ap (λ b. protected b rights (mapping_at r p)) out) ∙ ap (λ b. protected b rights (mapping_at r p)) same
  ];
}
  where
    past : (a : Bool) (m n : ℕ) → n ≤ m → (a && nat_lt m n) ≡ false
    past true m n h = grind (arith, nat_tests)
    past false m n h = refl

    both : (p : ℕ) → p < page → nat_lt p page ≡ nat_lt p end
    both p h = grind (arith, nat_tests)

    alike : (a b c : Bool) → b ≡ c → (a && b) ≡ (a && c)
    alike a b c e = ap (λ x. a && x) e

pub outside_part : (block from end : ℕ) (rights : Rights) (r s : Resident) → block * 512 ≤ from → end ≤ block * 512 + 512
    → ProtectsTo from end rights r s → OutsideSame block (mapping_at r) (mapping_at s)
outside_part block from end rights r s low high protects p apart =
    let none : (nat_le from p && nat_lt p end) ≡ false = elim (cases_lt p from) [
      | inl before ↦ grind (arith, nat_tests)
      | inr after ↦ elim (cases_lt p end) [
        | inl within ↦ absurd (apart (omega arith))
        | inr past ↦ grind (arith, nat_tests)
      ]
    ] in
    protects.at p ∙ ap (λ b. protected b rights (mapping_at r p)) none

-- the rights of the range's pages in the blocks before one
pub record ProtectsBlocks (to first len : ℕ) (rights : Rights) (old new : Resident) : Type 0 where
  pub frames : frames_in new ≡ frames_in old
  pub at : (p : ℕ) → mapping_at new p ≡ protected (in_range first len p && nat_lt (p / 512) to) rights (mapping_at old p)

pub blocks_none : (first len : ℕ) (rights : Rights) (r : Resident) → ProtectsBlocks (first / 512) first len rights r r
blocks_none first len rights r = record { frames = refl; at = λ p. sym (ap (λ b. protected b rights (mapping_at r p)) (none p)) }
  where
    none : (p : ℕ) → (in_range first len p && nat_lt (p / 512) (first / 512)) ≡ false
    none p = elim (cases_lt p first) [
      | inl before ↦ grind (arith, nat_tests)
      | inr after ↦ let t : first / 512 ≤ p / 512 = omega arith in grind (arith, nat_tests)
    ]

pub blocks_more : (to first len : ℕ) (rights : Rights) (r s t : Resident) → ProtectsBlocks to first len rights r s
    → ProtectsInBlock to first len rights s t → ProtectsBlocks (to + 1) first len rights r t
blocks_more to first len rights r s t so_far protects = record {
  frames = protects.frames ∙ so_far.frames;
  at = λ p. elim (cases_eq (p / 512) to) [
    | inl e ↦
        let before : (in_range first len p && nat_lt (p / 512) to) ≡ false = right_no (in_range first len p) (p / 512) to (omega arith) in
        let after : (in_range first len p && eqb (p / 512) to) ≡ (in_range first len p && nat_lt (p / 512) (to + 1)) =
        right_same (in_range first len p) (eqb (p / 512) to) (nat_lt (p / 512) (to + 1))
        (eq-eqb (p / 512) to e ∙ sym (lt_yes (p / 512) (to + 1) (omega arith))) in
        let here : mapping_at s p ≡ mapping_at r p = so_far.at p ∙ ap (λ b. protected b rights (mapping_at r p)) before in
        protects.at p ∙ ap (λ m. protected (in_range first len p && eqb (p / 512) to) rights m) here
        ∙ ap (λ b. protected b rights (mapping_at r p)) after
    | inr apart ↦
        let same : (in_range first len p && nat_lt (p / 512) to) ≡ (in_range first len p && nat_lt (p / 512) (to + 1)) =
        right_same (in_range first len p) (nat_lt (p / 512) to) (nat_lt (p / 512) (to + 1)) (lt_more (p / 512) to apart) in
        outside_same to first len rights s t protects p apart ∙ so_far.at p ∙ ap (λ b. protected b rights (mapping_at r p)) same
  ];
}
  where
    right_no : (a : Bool) (m n : ℕ) → n ≤ m → (a && nat_lt m n) ≡ false
    right_no true m n h = grind (arith, nat_tests)
    right_no false m n h = refl

    right_same : (a b c : Bool) → b ≡ c → (a && b) ≡ (a && c)
    right_same a b c e = ap (λ x. a && x) e

    lt_yes : (a b : ℕ) → a < b → nat_lt a b ≡ true
    lt_yes a b h = grind (arith, nat_tests)

    lt_more : (m n : ℕ) → m ≢ n → nat_lt m n ≡ nat_lt m (n + 1)
    lt_more m n h = grind (arith, nat_tests)

-- and where no page of further blocks is resident they are those before a further one
pub blocks_bare : (to next first len : ℕ) (rights : Rights) (r s : Resident) → to ≤ next
    → NoneResident (mapping_at s) (to * 512) (next * 512) → ProtectsBlocks to first len rights r s → ProtectsBlocks next first len rights r s
blocks_bare to next first len rights r s on none so_far = record {
  frames = so_far.frames;
  at = λ p. elim (cases_lt (p / 512) to) [
    | inl before ↦ so_far.at p ∙ ap (λ b. protected b rights (mapping_at r p)) (right_alike (in_range first len p) _ _ (both p before))
    | inr after ↦
        let was : mapping_at s p ≡ mapping_at r p = so_far.at p ∙ ap (λ b. protected b rights (mapping_at r p)) (out p to after) in
        elim (cases_lt (p / 512) next) [
          | inl within ↦
              let gone = none p (omega arith) (omega arith) in
              gone ∙ sym (ap (protected (in_range first len p && nat_lt (p / 512) next) rights) (sym was ∙ gone)
              ∙ protects_none (in_range first len p && nat_lt (p / 512) next) rights)
          | inr past ↦ was ∙ sym (ap (λ b. protected b rights (mapping_at r p)) (out p next past))
        ]
  ];
}
  where
    both : (p : ℕ) → p / 512 < to → nat_lt (p / 512) to ≡ nat_lt (p / 512) next
    both p before = grind (arith, nat_tests)

    out : (p end : ℕ) → end ≤ p / 512 → (in_range first len p && nat_lt (p / 512) end) ≡ false
    out p end past = right_no (in_range first len p) (p / 512) end past
      where
        right_no : (a : Bool) (m n : ℕ) → n ≤ m → (a && nat_lt m n) ≡ false
        right_no true m n h = grind (arith, nat_tests)
        right_no false m n h = refl

-- the pages in the blocks before that one are as before in it
pub block_untouched : (to first len : ℕ) (rights : Rights) (r s : Resident) → ProtectsBlocks to first len rights r s → (p : ℕ) → p / 512 ≡ to
    → mapping_at s p ≡ mapping_at r p
block_untouched to first len rights r s so_far p e = so_far.at p ∙ ap (λ b. protected b rights (mapping_at r p))
    (right_no (in_range first len p) (p / 512) to (omega arith))
  where
    right_no : (a : Bool) (m n : ℕ) → n ≤ m → (a && nat_lt m n) ≡ false
    right_no true m n h = grind (arith, nat_tests)
    right_no false m n h = refl

pub blocks_all : (to first len : ℕ) (rights : Rights) (r s : Resident) → first + len ≤ to * 512 → ProtectsBlocks to first len rights r s
    → Protects first len rights r s
blocks_all to first len rights r s past so_far =
    record { frames = so_far.frames; at = λ p. so_far.at p ∙ ap (λ b. protected b rights (mapping_at r p)) (all p) }
  where
    all : (p : ℕ) → (in_range first len p && nat_lt (p / 512) to) ≡ in_range first len p
    all p = elim (cases_lt p (first + len)) [
      | inl within ↦ let t : p / 512 < to = omega arith in right_yes (in_range first len p) (p / 512) to t
      | inr beyond ↦ let f : in_range first len p ≡ false = range_past first len p beyond in ap (λ b. b && nat_lt (p / 512) to) f ∙ sym f
    ]
      where
        right_yes : (a : Bool) (m n : ℕ) → m < n → (a && nat_lt m n) ≡ a
        right_yes true m n h = grind (arith, nat_tests)
        right_yes false m n h = refl

        range_past : (first len p : ℕ) → first + len ≤ p → in_range first len p ≡ false
        range_past first len p high = grind (arith, nat_tests)

-- ---- the moves

-- the change in a block lies apart from those in the blocks before
pub blocks_apart : (to first len : ℕ) (rights : Rights) (r s t : Resident) → ProtectsBlocks to first len rights r s
    → ProtectsInBlock to first len rights s t → LieApart (mapping_at r) (mapping_at s) (mapping_at t)
blocks_apart to first len rights r s t before protects block = elim (cases_eq block to) [
  | inl here ↦ inl (λ p at. block_untouched to first len rights r s before p (at ∙ here))
  | inr apart ↦ inr (λ p at. outside_same to first len rights s t protects p (λ same. apart (sym at ∙ same)))
]

-- ---- moves counted at the first of each eight pages

not_eighth : (q a b : ℕ) → b ≤ 3 → q % 8 ≢ 0 → is_grown_at q a b ≡ false
not_eighth q a zero low apart = let t : ltb a 0 ≡ false = grind (arith, nat_tests) in ap (λ x. x && eqb (q % 8 ^ 0) 0) t
not_eighth q a (suc zero) low apart = and_no (ltb a 1) (q % 8) apart
  where
    and_no : (x : Bool) (n : ℕ) → n ≢ 0 → (x && eqb n 0) ≡ false
    and_no true n h = grind (arith, nat_tests)
    and_no false n h = refl
not_eighth q a (suc (suc zero)) low apart = let t : q % 64 ≢ 0 = λ e. apart (omega arith) in and_no (ltb a 2) (q % 64) t
  where
    and_no : (x : Bool) (n : ℕ) → n ≢ 0 → (x && eqb n 0) ≡ false
    and_no true n h = grind (arith, nat_tests)
    and_no false n h = refl
not_eighth q a (suc (suc (suc zero))) low apart = let t : q % 512 ≢ 0 = λ e. apart (omega arith) in and_no (ltb a 3) (q % 512) t
  where
    and_no : (x : Bool) (n : ℕ) → n ≢ 0 → (x && eqb n 0) ≡ false
    and_no true n h = grind (arith, nat_tests)
    and_no false n h = refl
not_eighth q a (suc (suc (suc (suc b)))) low apart = absurd (omega arith)

eighth_alone : (z : SizeSet) (old new : ℕ → Option Mapping) (q : ℕ) → q % 8 ≢ 0 → is_promoted_in z old new q ≡ false
eighth_alone z old new q apart = promoted_test z old new q ∙ not_eighth q (size_by z old q) (size_by z new q) (by_small z new q) apart

-- eight pages more
count_eight : (z : SizeSet) (old new : ℕ → Option Mapping) (from i : ℕ) → from % 8 ≡ 0
    → count (is_promoted_in z old new) from (8 * (i + 1)) ≡ count (is_promoted_in z old new) from (8 * i) + weight
    (is_grown_at (from + 8 * i) (size_by z old (from + 8 * i)) (size_by z new (from + 8 * i)))
count_eight z old new from i whole =
    let f = is_promoted_in z old new in
    let q = from + 8 * i in
    omega (
      arith,
      ap (count f from) {x = 8 * (i + 1)} {y = 8 * i + 8} (omega arith),
      count-apart f from (8 * i) 8 q refl,
      ap (count f q) {x = 8} {y = suc 7} refl,
      count-suc f q 7,
      count-none f (q + 1) 7 (λ n low high. eighth_alone z old new n (apart from i n whole low high)),
      ap weight (promoted_test z old new q),
    )
  where
    apart : (from i n : ℕ) → from % 8 ≡ 0 → from + 8 * i + 1 ≤ n → n < from + 8 * i + 1 + 7 → n % 8 ≢ 0
    apart from i n whole low high e = omega arith

-- the moves of a block are all
count_block : (z : SizeSet) (old new : ℕ → Option Mapping) (block : ℕ) → block < 2048 → OutsideSame block old new
    → count (is_promoted_in z old new) (block * 512) 512 ≡ promotions_in z old new
count_block z old new block known outside = at space_pages refl
  where
    none : (q : ℕ) → q / 512 ≢ block → is_promoted_in z old new q ≡ false
    none q apart = none_grown z old new q (omega (arith, local_by z old new q (λ p joined. outside p (λ e. apart (sym joined ∙ e)))))

    at : (many : ℕ) → many ≡ space_pages → count (is_promoted_in z old new) (block * 512) 512 ≡ promotions_in z old new
    at many e =
        let f = is_promoted_in z old new in
        let rest = many - (block * 512 + 512) in
        let zero_from : 0 + block * 512 ≡ block * 512 = omega arith in
        omega (
          arith,
          count_pages-is f many e,
          ap (count f 0) {x = many} {y = block * 512 + (512 + rest)} (omega arith),
          count-apart f 0 (block * 512) (512 + rest) (block * 512) zero_from,
          count-apart f (block * 512) 512 rest (block * 512 + 512) refl,
          count-none f 0 (block * 512) (λ n low high. none n (λ same. omega arith)),
          count-none f (block * 512 + 512) rest (λ n low high. none n (λ same. omega arith)),
        )

-- The moves so far at the first of each eight pages of a block.
pub record CountsTo (z : SizeSet) (block i : ℕ) (old new : ℕ → Option Mapping) (moves : Moves) : Type 0 where
  pub promotions : moves.promotions ≡ count (is_promoted_in z old new) (block * 512) (8 * i)
  pub demotions : moves.demotions ≡ count (is_promoted_in z new old) (block * 512) (8 * i)

pub counts_none : (z : SizeSet) (block : ℕ) (old new : ℕ → Option Mapping) (moves : Moves) → moves.promotions ≡ 0 → moves.demotions ≡ 0
    → CountsTo z block 0 old new moves
counts_none z block old new moves p d = record {
  promotions = p ∙ sym (ap (count (is_promoted_in z old new) (block * 512)) {x = 8 * 0} {y = 0} refl
      ∙ count-zero (is_promoted_in z old new) (block * 512));
  demotions = d ∙ sym (ap (count (is_promoted_in z new old) (block * 512)) {x = 8 * 0} {y = 0} refl
      ∙ count-zero (is_promoted_in z new old) (block * 512));
}

pub counts_more : (z : SizeSet) (block i : ℕ) (old new : ℕ → Option Mapping) (so_far all : Moves) → CountsTo z block i old new so_far
    → (let q = block * 512 + 8 * i in all.promotions ≡ so_far.promotions + weight (is_grown_at q (size_by z old q) (size_by z new q)))
    → (let q = block * 512 + 8 * i in all.demotions ≡ so_far.demotions + weight (is_grown_at q (size_by z new q) (size_by z old q)))
    → CountsTo z block (i + 1) old new all
counts_more z block i old new so_far all counts promoted demoted =
    let whole : block * 512 % 8 ≡ 0 = omega arith in
    record {
      promotions = omega (arith, promoted, counts.promotions, count_eight z old new (block * 512) i whole);
      demotions = omega (arith, demoted, counts.demotions, count_eight z new old (block * 512) i whole);
    }

-- What is counted at a page of which the tile had one level and has another is added.
pub record Adds (page had has : ℕ) (so_far all : Moves) : Type 0 where
  pub promotions : all.promotions ≡ so_far.promotions + weight (is_grown_at page had has)
  pub demotions : all.demotions ≡ so_far.demotions + weight (is_grown_at page has had)
  pub in_space : IsInSpace all.touched

-- that is nothing where both are one
pub adds_none : (page had has : ℕ) (moves : Moves) → had ≡ has → IsInSpace moves.touched → Adds page had has moves moves
adds_none page had has moves same inside =
    record { promotions = omega (arith, none had has same); demotions = omega (arith, none has had (sym same)); in_space = inside }
  where
    none : (a b : ℕ) → a ≡ b → weight (is_grown_at page a b) ≡ 0
    none a b e = let t : ltb a b ≡ false = grind (arith, nat_tests) in ap (λ x. weight (x && eqb (page % 8 ^ b) 0)) t

-- and they are in it
pub counts_all : (z : SizeSet) (block : ℕ) (old new : ℕ → Option Mapping) (moves : Moves) → block < 2048 → OutsideSame block old new
    → CountsTo z block 64 old new moves → moves.touched ≡ record { first = block * 512; length = 512 } → AreMovesIn z old new moves
counts_all z block old new moves known outside counts touched = record {
  promotions = counts.promotions ∙ count_block z old new block known outside;
  demotions = counts.demotions ∙ count_block z new old block known (λ p apart. sym (outside p apart));
  in_space = omega (arith, ap (λ (r : PageRange). r.first) touched, ap (λ (r : PageRange). r.length) touched);
  outside = outside_block z old new block moves.touched outside touched;
}

pub one_most : (b : Bool) → weight b ≤ 1
one_most true = omega arith
one_most false = omega arith

-- a count of the pages of a range
pub count_in_range : (f : ℕ → Bool) (first len : ℕ) → first + len ≤ space_pages
    → count_pages (λ p. in_range first len p && f p) ≡ count f first len
count_in_range f first len known = at space_pages refl
  where
    g : ℕ → Bool
    g p = in_range first len p && f p

    inside : (p : ℕ) → first ≤ p → p < first + len → (in_range first len p && f p) ≡ f p
    inside p low high = let t : in_range first len p ≡ true = grind (arith, nat_tests) in ap (λ b. b && f p) t

    before : (p : ℕ) → p < first → (in_range first len p && f p) ≡ false
    before p low = let t : in_range first len p ≡ false = grind (arith, nat_tests) in ap (λ b. b && f p) t

    past : (p : ℕ) → first + len ≤ p → (in_range first len p && f p) ≡ false
    past p high = let t : in_range first len p ≡ false = grind (arith, nat_tests) in ap (λ b. b && f p) t

    at : (many : ℕ) → many ≡ space_pages → count_pages (λ p. in_range first len p && f p) ≡ count f first len
    at many e =
        let h : ℕ → Bool = λ p. in_range first len p && f p in
        let rest = many - (first + len) in
        let zero_from : 0 + first ≡ first = omega arith in
        omega (
          arith,
          count_pages-is h many e,
          ap (count h 0) {x = many} {y = first + (len + rest)} (omega arith),
          count-apart h 0 first (len + rest) first zero_from,
          count-apart h first len rest (first + len) refl,
          count-none h 0 first (λ n low high. before n (omega arith)),
          count-same h f first len (λ n low high. inside n low high),
          count-none h (first + len) rest (λ n low high. past n low),
        )
