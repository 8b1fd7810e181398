-- What becomes of the marks as an extent is placed, or taken out once its pages are evicted; and what a walk finds.
use Rattle.std.proofs.Common.{◌≡◌, ◌≢◌, ℕ, zero, suc, ◌+◌, ◌-◌, ◌*◌, ◌/◌, ◌%◌, ◌^◌, ◌<◌, ◌≤◌, ◌⊎◌, ◌↔◌, ◌==◌, ◌||◌, Bool, true, false, Option, Some, None, unwrap_or, is_some, MatchOption, inl, inr, refl, sym, ap, subst, ◌∙◌, arith}
use Rattle.std.specs.Int.{bit_at}
use Rattle.std.specs.List.{range_with_len, count_by}
use Rattle.std.proofs.lemmas.Bool.{cases_eq, cases_lt, false≢true, false_from_ne_true, or_left, or_right, eq-eqb, eqb-true}
use Rattle.extent_tree.specs.declared.spot.Spot.{Spot}
use Rattle.extent_tree.specs.Rows.{Arena, row, spot_of, is_split, ChangesOnly, SplitsAreRowsBelow}
use Rattle.extent_tree.specs.Counts.{splits_with}
use Rattle.pager_model.proofs.CountLemmas.{count_block, count-agree, count-none}
use Rattle.pager_model.proofs.ExtentLemmas.{coarser, in_extent, of_extent, extent_within}
use Rattle.pager_model.proofs.Options.{none_from_is_some}
use Rattle.extent_tree.proofs.Rooms.{room_for}
use Rattle.extent_tree.proofs.Rows.{split_alike}
use Rattle.pager_model.specs.Extents.{IsExtent}
use Rattle.population_map.specs.declared.mark.Mark.{Mark}
use Rattle.population_map.specs.Bits.{HasBit}
use Rattle.population_map.specs.Kept.{AreMarks, IsPopulation}
use Rattle.population_map.specs.Populations.{mark_of, id_of, is_placed, is_populated, placed_pages, unmarked, IsInNone, SameRoom, PlacesOnly, EmptiesOnly, SomePopulated, AllPopulated, page_at}
use Rattle.population_map.proofs.Masks.{no_bit}
use Rattle.population_map.proofs.Marks.{mark_alike, id_alike, placed_by, placed_size, rows_placed, row_if_id, some_page, full_page, all_pages, pages_all, bits_over, bit_of_page, page_of_bit}
use Rattle.population_map.proofs.Swaps.{ChangesIds, marks_with_ids, IsSwapped, IsSwappedOrSame, pages_kept, ids_swapped}
use Rattle.population_map.proofs.Ways.{placed_alike}

some_or_none : {X : Type 0} (o : Option X) → (o ≡ None) ⊎ (is_some o ≡ true)
some_or_none None = inl refl
some_or_none (Some x) = inr refl

-- no placed extent has a page where none has an id there
pub in_none : (m : Arena Mark) (page : ℕ) → IsInNone m page → is_placed m page ≡ false
in_none m page none = false_from_ne_true _ (λ is. let at = placed_size m page is in false≢true (sym (ap is_some (none at.0 at.1)) ∙ at.2))

-- ---- the marks after one row changed

mark_here : (m n : Arena Mark) (size page : ℕ) (value : Option Mark) → ChangesOnly m n size page value → (other : ℕ)
    → other / 8 ^ size ≡ page / 8 ^ size → mark_of n size other ≡ unwrap_or value unmarked
unfolding mark_of
mark_here m n size page value c other same = ap (λ v. unwrap_or v unmarked) (c.changed other same)

mark_else : (m n : Arena Mark) (size page : ℕ) (value : Option Mark) → ChangesOnly m n size page value → (part other : ℕ) → part ≤ 3
    → (part ≡ size → other / 8 ^ part ≡ page / 8 ^ part → ⊥) → mark_of n part other ≡ mark_of m part other
unfolding mark_of
mark_else m n size page value c part other less apart = ap (λ v. unwrap_or v unmarked) (c.others part other less apart)

-- the extent, or another
here_or_not : (size page part other : ℕ) → ((part ≡ size) × (other / 8 ^ part ≡ page / 8 ^ part))
    ⊎ (part ≡ size → other / 8 ^ part ≡ page / 8 ^ part → ⊥)
here_or_not size page part other = elim (cases_eq part size) [
  | inr apart ↦ inr (λ e _. apart e)
  | inl e ↦ elim (cases_eq (other / 8 ^ part) (page / 8 ^ part)) [ inl same ↦ inl (e, same) | inr apart ↦ inr (λ _ same. apart same) ]
]

at_size : (size page part other : ℕ) → part ≡ size → other / 8 ^ part ≡ page / 8 ^ part → other / 8 ^ size ≡ page / 8 ^ size
at_size size page part other e same = subst (λ k. other / 8 ^ k ≡ page / 8 ^ k) e same

-- What one row's change has to be that changes an id and no bit: of a mark without bits, from one without bits.
pub record SwapsId (m n : Arena Mark) (size page : ℕ) (value : Option Mark) : Type 0 where
  pub small : size ≤ 3
  pub changes : ChangesOnly m n size page value
  pub splits : SplitsAreRowsBelow n
  pub some_now : let v : Mark = unwrap_or value unmarked in v.some ≡ 0
  pub full_now : let v : Mark = unwrap_or value unmarked in v.full ≡ 0
  pub some_before : (other : ℕ) → other / 8 ^ size ≡ page / 8 ^ size → HasBit (mark_of m size other).some → ⊥
  pub full_before : (other : ℕ) → other / 8 ^ size ≡ page / 8 ^ size → HasBit (mark_of m size other).full → ⊥
  pub use_now : is_some value ≡ true → let v : Mark = unwrap_or value unmarked in is_some v.id ≡ true

pub swapped_ids : (m n : Arena Mark) (size page : ℕ) (value : Option Mark) → SwapsId m n size page value
    → (PlacesOnly m n size page (let v : Mark = unwrap_or value unmarked in v.id))
unfolding id_of
swapped_ids m n size page value s = record {
  changed = λ other same. ap (λ v. v.id) (mark_here m n size page value s.changes other same);
  others = λ part other less apart. ap (λ v. v.id) (mark_else m n size page value s.changes part other less apart);
}

swapped_each : (m n : Arena Mark) (size page : ℕ) (value : Option Mark) → SwapsId m n size page value → (part other : ℕ) → part ≤ 3
    → IsSwappedOrSame m n part other
swapped_each m n size page value s part other less = elim (here_or_not size page part other) [
  | inr else ↦ inr (s.changes.others part other less else)
  | inl here ↦
      let there = at_size size page part other here.0 here.1 in
      let at = mark_here m n size page value s.changes other there in
      inl (subst (λ k. IsSwapped m n k other) (sym here.0) (record {
        some_now = ap (λ v. v.some) at ∙ s.some_now;
        full_now = ap (λ v. v.full) at ∙ s.full_now;
        some_before = s.some_before other there;
        full_before = s.full_before other there;
        use_now = λ has. ap is_some ((swapped_ids m n size page value s).changed other there)
            ∙ s.use_now (ap is_some (sym (s.changes.changed other there)) ∙ has);
      }))
]

-- the same pages are populated
swapped_pages : (m n : Arena Mark) (size page : ℕ) (value : Option Mark) → SwapsId m n size page value → (other : ℕ)
    → is_populated n other ≡ is_populated m other
swapped_pages m n size page value s = pages_kept m n (swapped_each m n size page value s)

-- what is kept is right where the placed pages are
pub swapped : (m n : Arena Mark) (size page : ℕ) (value : Option Mark) → AreMarks m → SwapsId m n size page value
    → ((other : ℕ) → is_populated n other ≡ true → is_placed n other ≡ true)
    → ((a b other : ℕ) → a ≤ 3 → b ≤ 3 → is_some (id_of n a other) ≡ true → is_some (id_of n b other) ≡ true → a ≡ b)
    → ChangesIds m n
swapped m n size page value marks s = ids_swapped m n (swapped_each m n size page value s) marks s.splits

-- ---- pages of an extent

-- one map has an extent placed that another has not, of none of whose pages the other has one placed
pub one_more : (m n : Arena Mark) (size first : ℕ) → size ≤ 3 → first % 8 ^ size ≡ 0 → first < 512 * m.roots → n.roots ≡ m.roots
    → ((page : ℕ) → page / 8 ^ size ≡ first / 8 ^ size → (is_placed m page ≡ false) × (is_placed n page ≡ true))
    → ((page : ℕ) → page / 8 ^ size ≢ first / 8 ^ size → is_placed n page ≡ is_placed m page)
    → placed_pages n ≡ placed_pages m + 8 ^ size
unfolding placed_pages
one_more m n size first small aligned low roots inside outside =
    ap (λ r. count_by (is_placed n) (range_with_len 0 (512 * r))) roots
    ∙ count_block (is_placed m) (is_placed n) (512 * m.roots) first (8 ^ size) (extent_within size first m.roots small aligned low)
    (λ page a b. inside page (in_extent size first page small aligned a b))
    (λ page out. outside page (λ same. let at = of_extent size first page small aligned same in out at.0 at.1))

-- ids of pages beside the extent are as before
pub beside : (m n : Arena Mark) (size first : ℕ) (id : Option ℕ) → PlacesOnly m n size first id → (page : ℕ)
    → page / 8 ^ size ≢ first / 8 ^ size → (part : ℕ) → part ≤ 3 → id_of n part page ≡ id_of m part page
beside m n size first id places page apart part less = places.others part page less (λ e same. apart (at_size size first part page e same))

-- ---- an extent is placed

-- there is room for its nodes
pub place_room : (m : Arena Mark) (size first : ℕ) → AreMarks m → size ≤ 3 → first % 8 ^ size ≡ 0 → first < 512 * m.roots
    → ((page : ℕ) → page / 8 ^ size ≡ first / 8 ^ size → IsInNone m page) → 3 * (placed_pages m + 8 ^ size) ≤ m.room
    → splits_with m size first ≤ m.room
unfolding placed_pages
place_room m size first marks small aligned low apart room =
    let most = room_for m (λ q. is_placed m q || (q / 8 ^ size == first / 8 ^ size)) size first
    (record {
      splits = marks.splits;
      pages = λ part page less has. let q = rows_placed m marks part page less has in
          (q.0, q.1, or_left _ _ q.2);
    })
    (or_right (is_placed m first) _ (eq-eqb _ _ refl)) in
    let count = count_block (is_placed m) (λ q. is_placed m q || (q / 8 ^ size == first / 8 ^ size)) (512 * m.roots) first (8 ^ size)
    (extent_within size first m.roots small aligned low)
    (λ page a b. let same = in_extent size first page small aligned a b in
    (in_none m page (apart page same), or_right (is_placed m page) _ (eq-eqb _ _ same)))
    (λ page out. beside_test (is_placed m page) (page / 8 ^ size == first / 8 ^ size)
    (false_from_ne_true _ (λ same. let at = of_extent size first page small aligned (eqb-true _ _ same) in out at.0 at.1))) in
    omega (arith, most, count, room)
  where
    beside_test : (a b : Bool) → b ≡ false → (a || b) ≡ a
    beside_test true b e = refl
    beside_test false b e = e

-- what is kept afterwards, and what changed
pub record Placed (m n : Arena Mark) (size first : ℕ) (id : Option ℕ) : Type 0 where
  pub marks : AreMarks n
  pub placed : PlacesOnly m n size first id
  pub empty : EmptiesOnly m n size first

pub placed_extent : (m n : Arena Mark) (size first id : ℕ) → AreMarks m → size ≤ 3
    → ((page : ℕ) → page / 8 ^ size ≡ first / 8 ^ size → IsInNone m page)
    → ChangesOnly m n size first (Some (record { id = Some id; some = 0; full = 0 })) → SplitsAreRowsBelow n
    → Placed m n size first (Some id)
placed_extent m n size first id marks small apart changes splits = record {
  marks = marks_with_ids m n marks (swapped m n size first value marks swaps placed_after apart_after);
  placed = ids;
  empty = record {
    emptied = λ other same. pages other ∙ false_from_ne_true _ (λ is. false≢true
        (sym (in_none m other (apart other same)) ∙ marks.placed other is));
    others = λ other _. pages other;
  };
}
  where
    value : Option Mark
    value = Some (record { id = Some id; some = 0; full = 0 })

    not_in : (other q : ℕ) → other / 8 ^ size ≡ first / 8 ^ size → q / 8 ^ size ≡ other / 8 ^ size → is_populated m q ≡ true → ⊥
    not_in other q same in_it is = false≢true (sym (in_none m q (apart q (in_it ∙ same))) ∙ marks.placed q is)

    swaps : SwapsId m n size first (Some (record { id = Some id; some = 0; full = 0 }))
    swaps = record {
      small = small;
      changes = changes;
      splits = splits;
      some_now = refl;
      full_now = refl;
      some_before = λ other same has. let q = some_page m marks size other small has in not_in other q.0 same q.1 q.2;
      full_before = λ other same has. let q = full_page m marks size other small has in not_in other q.0 same q.1 q.2;
      use_now = λ _. refl;
    }

    ids : PlacesOnly m n size first (Some id)
    ids = swapped_ids m n size first (Some (record { id = Some id; some = 0; full = 0 })) swaps

    pages : (other : ℕ) → is_populated n other ≡ is_populated m other
    pages = swapped_pages m n size first (Some (record { id = Some id; some = 0; full = 0 })) swaps

    still : (part other : ℕ) → part ≤ 3 → is_some (id_of m part other) ≡ true → is_some (id_of n part other) ≡ true
    still part other less has = elim (here_or_not size first part other) [
      | inl here ↦ subst (λ k. is_some (id_of n k other) ≡ true) (sym here.0)
          (ap is_some (ids.changed other (at_size size first part other here.0 here.1)))
      | inr else ↦ ap is_some (ids.others part other less else) ∙ has
    ]

    placed_after : (other : ℕ) → is_populated n other ≡ true → is_placed n other ≡ true
    placed_after other is =
        let at = placed_size m other (marks.placed other (sym (pages other) ∙ is)) in
        placed_by n at.0 other at.1 (still at.0 other at.1 at.2)

    -- an id that isn't the new one was there before
    was : (part other : ℕ) → part ≤ 3 → (part ≡ size → other / 8 ^ part ≡ first / 8 ^ part → ⊥) → is_some (id_of n part other) ≡ true
        → is_some (id_of m part other) ≡ true
    was part other less else has = ap is_some (sym (ids.others part other less else)) ∙ has

    alone : (part other : ℕ) → part ≤ 3 → other / 8 ^ size ≡ first / 8 ^ size → is_some (id_of m part other) ≡ true → ⊥
    alone part other less same has = false≢true (sym (ap is_some (apart other same part less)) ∙ has)

    apart_after : (a b other : ℕ) → a ≤ 3 → b ≤ 3 → is_some (id_of n a other) ≡ true → is_some (id_of n b other) ≡ true → a ≡ b
    apart_after a b other x y p q = elim (here_or_not size first a other) [
      | inl a_here ↦ elim (here_or_not size first b other) [
        | inl b_here ↦ a_here.0 ∙ sym b_here.0
        | inr b_else ↦ absurd (alone b other y (at_size size first a other a_here.0 a_here.1) (was b other y b_else q))
      ]
      | inr a_else ↦ elim (here_or_not size first b other) [
        | inl b_here ↦ absurd (alone a other x (at_size size first b other b_here.0 b_here.1) (was a other x a_else p))
        | inr b_else ↦ marks.apart a b other x y (was a other x a_else p) (was b other y b_else q)
      ]
    ]

pub placed_count : (m n : Arena Mark) (size first id : ℕ) → size ≤ 3 → first % 8 ^ size ≡ 0 → first < 512 * m.roots → n.roots ≡ m.roots
    → ((page : ℕ) → page / 8 ^ size ≡ first / 8 ^ size → IsInNone m page)
    → PlacesOnly m n size first (Some id) → placed_pages n ≡ placed_pages m + 8 ^ size
placed_count m n size first id small aligned low roots apart ids =
    one_more m n size first small aligned low roots
    (λ page same. (in_none m page (apart page same), placed_by n size page small (ap is_some (ids.changed page same))))
    (λ page out. placed_alike m n page (beside m n size first (Some id) ids page out))

-- ---- an extent is taken out, once none of its pages is populated

pub removed_extent : (m n : Arena Mark) (size first : ℕ) → AreMarks m → size ≤ 3
    → ((page : ℕ) → page / 8 ^ size ≡ first / 8 ^ size → is_populated m page ≡ false)
    → ChangesOnly m n size first None → SplitsAreRowsBelow n → Placed m n size first None
removed_extent m n size first marks small empty changes splits = record {
  marks = marks_with_ids m n marks (swapped m n size first None marks swaps placed_after
      (λ a b other x y p q. marks.apart a b other x y (was a other x p) (was b other y q)));
  placed = ids;
  empty = record { emptied = λ other same. pages other ∙ empty other same; others = λ other _. pages other };
}
  where
    not_in : (other q : ℕ) → other / 8 ^ size ≡ first / 8 ^ size → q / 8 ^ size ≡ other / 8 ^ size → is_populated m q ≡ true → ⊥
    not_in other q same in_it is = false≢true (sym (empty q (in_it ∙ same)) ∙ is)

    swaps : SwapsId m n size first None
    swaps = record {
      small = small;
      changes = changes;
      splits = splits;
      some_now = refl;
      full_now = refl;
      some_before = λ other same has. let q = some_page m marks size other small has in not_in other q.0 same q.1 q.2;
      full_before = λ other same has. let q = full_page m marks size other small has in not_in other q.0 same q.1 q.2;
      use_now = λ h. absurd (false≢true h);
    }

    ids : PlacesOnly m n size first None
    ids = swapped_ids m n size first None swaps

    pages : (other : ℕ) → is_populated n other ≡ is_populated m other
    pages = swapped_pages m n size first None swaps

    was : (part other : ℕ) → part ≤ 3 → is_some (id_of n part other) ≡ true → is_some (id_of m part other) ≡ true
    was part other less has = elim (here_or_not size first part other) [
      | inl here ↦ absurd (false≢true (sym (ap is_some (ids.changed other (at_size size first part other here.0 here.1)))
          ∙ subst (λ k. is_some (id_of n k other) ≡ true) here.0 has))
      | inr else ↦ ap is_some (sym (ids.others part other less else)) ∙ has
    ]

    placed_after : (other : ℕ) → is_populated n other ≡ true → is_placed n other ≡ true
    placed_after other is =
        let before = sym (pages other) ∙ is in
        placed_alike m n other (beside m n size first None ids other (λ same. false≢true (sym (empty other same) ∙ before)))
        ∙ marks.placed other before

pub removed_count : (m n : Arena Mark) (size first : ℕ) → AreMarks m → size ≤ 3 → first % 8 ^ size ≡ 0 → first < 512 * m.roots
    → n.roots ≡ m.roots → is_some (id_of m size first) ≡ true
    → PlacesOnly m n size first None → placed_pages m ≡ placed_pages n + 8 ^ size
removed_count m n size first marks small aligned low roots has ids =
    one_more n m size first small aligned (omega (arith, low, roots)) (sym roots)
    (λ page same. (in_none n page (gone page same), placed_by m size page small (there page same)))
    (λ page out. sym (placed_alike m n page (beside m n size first None ids page out)))
  where
    there : (page : ℕ) → page / 8 ^ size ≡ first / 8 ^ size → is_some (id_of m size page) ≡ true
    there page same = ap is_some (id_alike m size page first small same) ∙ has

    gone : (page : ℕ) → page / 8 ^ size ≡ first / 8 ^ size → IsInNone n page
    gone page same part less = elim (here_or_not size first part page) [
      | inl here ↦ subst (λ k. id_of n k page ≡ None) (sym here.0) (ids.changed page same)
      | inr else ↦ elim (some_or_none (id_of m part page)) [
        | inl none ↦ ids.others part page less else ∙ none
        | inr some ↦ let e = marks.apart part size page less small some (there page same) in
            absurd (else e (ap (λ k. page / 8 ^ k) e ∙ (same ∙ ap (λ k. first / 8 ^ k) (sym e))))
      ]
    ]

-- ---- what a walk finds

-- the id at what a walk sees
pub spot_id : (m : Arena Mark) (height page : ℕ) (s : Spot Mark) (mark : Mark) → height ≤ 3 → s ≡ spot_of m height page
    → mark ≡ unwrap_or s.value unmarked → mark.id ≡ id_of m (3 - height) page
unfolding id_of mark_of row
spot_id m height page s mark small seen is =
    let back : 3 - (3 - height) ≡ height = omega arith in
    ap (λ v. v.id) is ∙ (ap (λ s. (let v : Mark = unwrap_or s.value unmarked in v.id)) seen
    ∙ ap (λ h. (let v : Mark = unwrap_or (spot_of m h page).value unmarked in v.id)) (sym back))

-- what is split has a placed page
pub split_is_placed : (m : Arena Mark) (size page : ℕ) → AreMarks m → size ≤ 3 → is_split m size page ≡ true
    → (other : ℕ) × (other / 8 ^ size ≡ page / 8 ^ size) × (is_placed m other ≡ true)
split_is_placed m size page marks small split =
    let below = marks.splits.below size page small split in
    let q = rows_placed m marks below.0 below.1 (omega (arith, below.2)) below.4 in
    (q.0, coarser below.0 size q.0 below.1 (omega (arith, below.2)) small q.1 ∙ below.3, q.2)

-- where no extent round a page is placed and it isn't split, none has a page of it
pub none_met : (m : Arena Mark) (size page : ℕ) → AreMarks m → size ≤ 3
    → ((whole : ℕ) → size ≤ whole → whole ≤ 3 → id_of m whole page ≡ None) → is_split m size page ≡ false → (other : ℕ)
    → other / 8 ^ size ≡ page / 8 ^ size → IsInNone m other
none_met m size page marks small none split other same part less = elim (some_or_none (id_of m part other)) [
  | inl none_there ↦ none_there
  | inr some ↦ elim (cases_lt part size) [
    | inl below ↦ absurd (false≢true
        (sym split ∙ (sym (split_alike m size other page small same) ∙ marks.splits.above size part other below small
        (row_if_id m part other some))))
    | inr from ↦ id_alike m part other page less (coarser size part other page from less same) ∙ none part from less
  ]
]

-- an id that was found is the one of a placed extent
pub found : (m : Arena Mark) (size page : ℕ) (id : Option ℕ) → size ≤ 3 → id ≡ id_of m size page → is_some id ≡ true
    → MatchOption id (IsInNone m page) (λ n. (k : ℕ) × (k ≤ 3) × (id_of m k page ≡ Some n))
found m size page None small is has = absurd (false≢true has)
found m size page (Some n) small is has = (size, small, sym is)

-- and so is the last one, where no larger extent round the page is placed
pub found_last : (m : Arena Mark) (page : ℕ) (id : Option ℕ) → id ≡ id_of m 0 page
    → ((size : ℕ) → 0 < size → size ≤ 3 → id_of m size page ≡ None)
    → MatchOption id (IsInNone m page) (λ n. (k : ℕ) × (k ≤ 3) × (id_of m k page ≡ Some n))
found_last m page (Some n) is none = (0, omega arith, sym is)
found_last m page None is none = all
  where
    all : (size : ℕ) → size ≤ 3 → id_of m size page ≡ None
    all zero small = sym is
    all (suc size) small = none (suc size) (omega arith) small

-- one size more of which none round the page is placed
pub none_further : (m : Arena Mark) (page below : ℕ) (id : Option ℕ) → below < 3 → id ≡ id_of m (3 - below) page → is_some id ≡ false
    → ((size : ℕ) → 3 < size + below → size ≤ 3 → id_of m size page ≡ None)
    → (size : ℕ) → 3 < size + (below + 1) → size ≤ 3 → id_of m size page ≡ None
none_further m page below id low is fails none size far small = elim (cases_eq size (3 - below)) [
  | inl here ↦ ap (λ k. id_of m k page) here ∙ (sym is ∙ none_from_is_some id fails)
  | inr apart ↦ none size (omega arith) small
]

-- where the same extents are placed, as many pages are
pub same_count : (m n : Arena Mark) → n.roots ≡ m.roots → ((size page : ℕ) → size ≤ 3 → id_of n size page ≡ id_of m size page)
    → placed_pages n ≡ placed_pages m
unfolding placed_pages
same_count m n roots ids =
    ap (λ r. count_by (is_placed n) (range_with_len 0 (512 * r))) roots
    ∙ count-agree (is_placed n) (is_placed m) 0 (512 * m.roots) (λ page _ _. placed_alike m n page (λ size. ids size page))

-- and a population with as much room still is one
pub population_kept : (spaces : ℕ) (m n : Arena Mark) → IsPopulation spaces m → AreMarks n → SameRoom m n
    → ((size page : ℕ) → size ≤ 3 → id_of n size page ≡ id_of m size page) → IsPopulation spaces n
population_kept spaces m n was marks room ids = record {
  marks = marks;
  few = omega (arith, same_count m n room.roots ids, was.few, room.room);
  thirds = omega (arith, was.thirds, room.room);
  whole = omega (arith, was.whole, room.roots);
  known = omega (arith, was.known, room.roots);
  small = omega (arith, was.small, room.room);
}

-- whether what a walk sees is split
pub spot_split : (m : Arena Mark) (size height page : ℕ) (s : Spot Mark) (b : Bool) → height ≡ 3 - size → s ≡ spot_of m height page
    → b ≡ is_some s.node → b ≡ is_split m size page
unfolding is_split
spot_split m size height page s b at seen is = is ∙ (ap (λ s. is_some s.node) seen ∙ ap (λ h. is_some (spot_of m h page).node) at)

-- ---- the map

-- a map without rows
pub start_marks : (m : Arena Mark) → ((size page : ℕ) → row m size page ≡ None) → SplitsAreRowsBelow m → AreMarks m
unfolding mark_of id_of
start_marks m empty splits = record {
  splits = splits;
  in_use = λ size page _ has. absurd (false≢true (sym (ap is_some (empty size page)) ∙ has));
  no_parts = λ page. (
    ap (λ o. (let v : Mark = unwrap_or o unmarked in v.some)) (empty 0 page),
    ap (λ o. (let v : Mark = unwrap_or o unmarked in v.full)) (empty 0 page),
  );
  pages_full = λ page. ap (λ o. (let v : Mark = unwrap_or o unmarked in v.full)) (empty 1 page)
      ∙ sym (ap (λ o. (let v : Mark = unwrap_or o unmarked in v.some)) (empty 1 page));
  some = λ size page low less.
      let whole = ap (λ o. (let v : Mark = unwrap_or o unmarked in v.some)) (empty (suc size) page) in
      let part = ap (λ o. (let v : Mark = unwrap_or o unmarked in v.some)) (empty size page) in
      (λ bit. absurd (no_bit _ whole (page / 8 ^ size % 8, omega arith, bit)), λ has. absurd (no_bit _ part has));
  full = λ size page low less.
      let whole = ap (λ o. (let v : Mark = unwrap_or o unmarked in v.full)) (empty (suc size) page) in
      let part = ap (λ o. (let v : Mark = unwrap_or o unmarked in v.full)) (empty size page) in (
        λ bit. absurd (no_bit _ whole (page / 8 ^ size % 8, omega arith, bit)),
        λ all. absurd (no_bit _ part (0, omega arith, all 0 (omega arith))),
      );
  placed = λ page is. absurd (false≢true (sym (no_page m empty page) ∙ is));
  apart = λ a b page _ _ has _. absurd
      (false≢true (sym (ap (λ o. (let v : Mark = unwrap_or o unmarked in is_some v.id)) (empty a page)) ∙ has));
}
  where
    no_page : (m : Arena Mark) → ((size page : ℕ) → row m size page ≡ None) → (page : ℕ) → is_populated m page ≡ false
    no_page m empty page = false_from_ne_true _ (λ is. no_bit _ (ap (λ o. (let v : Mark = unwrap_or o unmarked in v.some)) (empty 1 page))
        (page % 8, omega arith, bit_of_page m page is))

pub start_ids : (m : Arena Mark) → ((size page : ℕ) → row m size page ≡ None) → (size page : ℕ) → id_of m size page ≡ None
unfolding mark_of id_of
start_ids m empty size page = ap (λ o. (let v : Mark = unwrap_or o unmarked in v.id)) (empty size page)

pub start_pages : (m : Arena Mark) → ((size page : ℕ) → id_of m size page ≡ None) → AreMarks m → (page : ℕ) → is_populated m page ≡ false
start_pages m none marks page = false_from_ne_true _ (λ is. false≢true
    (sym (in_none m page (λ size _. none size page)) ∙ marks.placed page is))

pub start_count : (m : Arena Mark) → ((size page : ℕ) → id_of m size page ≡ None) → placed_pages m ≡ 0
unfolding placed_pages
start_count m none = count-none (is_placed m) 0 (512 * m.roots) (λ page _ _. in_none m page (λ size _. none size page))

-- an extent of a space is one over all spaces
pub aligned_at : (size space first : ℕ) → IsExtent size first → IsExtent size (page_at space first)
aligned_at zero space first e = (omega arith, omega arith)
aligned_at (suc zero) space first e = (omega arith, omega (arith, e.1))
aligned_at (suc (suc zero)) space first e = (omega arith, omega (arith, e.1))
aligned_at (suc (suc (suc zero))) space first e = (omega arith, omega (arith, e.1))
aligned_at (suc (suc (suc (suc size)))) space first e = absurd (omega (arith, e.0))

-- what the bits of a mark say
pub some_says : (m : Arena Mark) (size page : ℕ) → AreMarks m → 0 < size → size ≤ 3
    → (bit_at (mark_of m size page).some (page / 8 ^ (size - 1) % 8) ≡ 1) ↔ SomePopulated m (size - 1) page
some_says m zero page marks low small = absurd (omega arith)
some_says m (suc zero) page marks low small =
    let part : page / 1 % 8 ≡ page % 8 = omega arith in (
      λ bit. (page, refl, page_of_bit m page (ap (bit_at (mark_of m 1 page).some) (sym part) ∙ bit)),
      λ q. let same : q.0 ≡ page = omega (arith, q.1) in ap (bit_at (mark_of m 1 page).some) part
          ∙ bit_of_page m page (ap (is_populated m) (sym same) ∙ q.2),
    )
some_says m (suc (suc size)) page marks low small =
    let less : suc (suc size) - 1 ≡ suc size = omega arith in
    let says = marks.some (suc size) page (omega arith) (omega arith) in
    subst (λ k. (bit_at (mark_of m (suc (suc size)) page).some (page / 8 ^ k % 8) ≡ 1) ↔ SomePopulated m k page) (sym less) (
      λ bit. some_page m marks (suc size) page (omega arith) (says.0 bit),
      λ q. says.1 (subst (λ v. HasBit v.some) (mark_alike m (suc size) q.0 page (omega arith) q.1)
          (bits_over m marks (suc size) q.0 (omega arith) (omega arith) q.2)),
    )

pub full_says : (m : Arena Mark) (size page : ℕ) → AreMarks m → 0 < size → size ≤ 3
    → (bit_at (mark_of m size page).full (page / 8 ^ (size - 1) % 8) ≡ 1) ↔ AllPopulated m (size - 1) page
full_says m zero page marks low small = absurd (omega arith)
full_says m (suc zero) page marks low small =
    let part : page / 1 % 8 ≡ page % 8 = omega arith in
    let same_bits = ap (λ n. bit_at n (page / 1 % 8)) (marks.pages_full page) in (
      λ bit. λ q at. let same : page ≡ q = omega (arith, at) in ap (is_populated m) (sym same)
          ∙ page_of_bit m page (ap (bit_at (mark_of m 1 page).some) (sym part) ∙ (sym same_bits ∙ bit)),
      λ all. same_bits ∙ (ap (bit_at (mark_of m 1 page).some) part ∙ bit_of_page m page (all page refl)),
    )
full_says m (suc (suc size)) page marks low small =
    let less : suc (suc size) - 1 ≡ suc size = omega arith in
    let says = marks.full (suc size) page (omega arith) (omega arith) in
    subst (λ k. (bit_at (mark_of m (suc (suc size)) page).full (page / 8 ^ k % 8) ≡ 1) ↔ AllPopulated m k page) (sym less) (
      λ bit. all_pages m marks (suc size) page (omega arith) (omega arith) (says.0 bit),
      λ all. says.1 (pages_all m marks (suc size) page (omega arith) (omega arith) all),
    )
