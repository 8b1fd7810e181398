-- What becomes of the marks over a page as it is populated or evicted.
use Rattle.std.proofs.Common.{◌≡◌, ◌≢◌, ℕ, zero, suc, ◌/◌, ◌%◌, ◌^◌, ◌<◌, ◌≤◌, ◌⊎◌, ◌↔◌, ◌==◌, ◌&&◌, ◌||◌, Bool, true, false, not, cond, Option, Some, None, unwrap_or, is_some, is_none, inl, inr, refl, sym, ap, subst, ◌∙◌, arith}
use Rattle.std.specs.Int.{bit_at}
use Rattle.std.proofs.lemmas.Bool.{and_parts, cases_eq, cases_Bool, false≢true, eqb-true, eq-eqb}
use Rattle.extent_tree.specs.Rows.{Arena, row, ChangesOnly, SplitsAreRowsBelow}
use Rattle.pager_model.proofs.ExtentLemmas.{coarser}
use Rattle.pager_model.proofs.Options.{none_from_is_none}
use Rattle.extent_tree.proofs.Rooms.{RowsIn}
use Rattle.population_map.specs.declared.mark.Mark.{Mark}
use Rattle.population_map.specs.declared.way.Way.{Way}
use Rattle.population_map.specs.Bits.{HasBit, HasAllBits, WithBit}
use Rattle.population_map.specs.Kept.{AreMarks, IsCarried, WritesWay, kept}
use Rattle.population_map.specs.Populations.{mark_of, id_of, is_placed, is_populated, unmarked, PopulatesOnly}
use Rattle.population_map.proofs.Masks.{bit_of_test, has_bit, no_bit}
use Rattle.population_map.proofs.Marks.{mark_alike, bits_over, row_if_bit}

-- ---- three marks are written

-- the marks over a page are those of the way afterwards
abbrev pub Writes : Arena Mark → Arena Mark → ℕ → Way → Type 0
Writes m n page way = WritesWay m n page way.small way.middle way.large

pub way_written : (m a b n : Arena Mark) (page : ℕ) (way : Way) → ChangesOnly m a 1 page (kept way.small)
    → ChangesOnly a b 2 page (kept way.middle) → ChangesOnly b n 3 page (kept way.large) → SplitsAreRowsBelow n → Writes m n page way
way_written m a b n page way first second third splits = record {
  splits = splits;
  roots = third.roots ∙ (second.roots ∙ first.roots);
  room = third.room ∙ (second.room ∙ first.room);
  of_8 = λ other same. third.others 1 other (omega arith) (λ e _. absurd (omega (arith, e)))
      ∙ (second.others 1 other (omega arith) (λ e _. absurd (omega (arith, e))) ∙ first.changed other same);
  of_64 = λ other same. third.others 2 other (omega arith) (λ e _. absurd (omega (arith, e))) ∙ second.changed other same;
  of_512 = third.changed;
  others = λ size other less apart.
      third.others size other less (λ e same. apart (omega (arith, e)) same)
      ∙ (second.others size other less (λ e same. apart (omega (arith, e)) same)
      ∙ first.others size other less (λ e same. apart (omega (arith, e)) same));
}

-- each tree on the way has its rows round pages that pass
pub rows_in_after : (m n : Arena Mark) (size page : ℕ) (value : Option Mark) (test : ℕ → Bool) → RowsIn m test
    → ChangesOnly m n size page value → SplitsAreRowsBelow n → test page ≡ true → RowsIn n test
rows_in_after m n size page value test rows changes splits passes = record { splits = splits; pages = pages }
  where
    pages : (part other : ℕ) → part ≤ 3 → is_some (row n part other) ≡ true → (q : ℕ) × (q / 8 ^ part ≡ other / 8 ^ part) × (test q ≡ true)
    pages part other less has = elim (cases_eq part size) [
      | inr apart ↦ rows.pages part other less (ap is_some (sym (changes.others part other less (λ e _. apart e))) ∙ has)
      | inl e ↦ elim (cases_eq (other / 8 ^ part) (page / 8 ^ part)) [
        | inl same ↦ (page, sym same, passes)
        | inr apart ↦ rows.pages part other less (ap is_some (sym (changes.others part other less (λ _ same. apart same))) ∙ has)
      ]
    ]

-- a mark is what was kept of it
kept_mark : (mark : Mark) → unwrap_or (kept mark) unmarked ≡ mark
kept_mark mark = elim (cases_Bool (is_none mark.id && mark.some == 0 && mark.full == 0)) [
  | inr says ↦ ap (λ b. unwrap_or (cond b None (Some mark)) unmarked) says
  | inl nothing ↦
      let parts = and_parts (is_none mark.id && mark.some == 0) (mark.full == 0) nothing in
      let more = and_parts (is_none mark.id) (mark.some == 0) parts.0 in
      ap (λ b. unwrap_or (cond b None (Some mark)) unmarked) nothing ∙ sym
      (all_none mark (none_from_is_none mark.id more.0) (eqb-true _ _ more.1) (eqb-true _ _ parts.1))
]
  where
    all_none : (v : Mark) → v.id ≡ None → v.some ≡ 0 → v.full ≡ 0 → v ≡ unmarked
    all_none v a b c =
        ap (λ i. record { id = i; some = v.some; full = v.full }) a ∙ (ap (λ s. record { id = None; some = s; full = v.full }) b
        ∙ ap (λ f. record { id = None; some = 0; full = f }) c)

-- a mark that is kept says something
kept_says : (mark : Mark) → mark.some < 256 → mark.full < 256 → is_some (kept mark) ≡ true
    → (is_some mark.id ≡ true) ⊎ (HasBit mark.some ⊎ HasBit mark.full)
kept_says mark a b is = elim (cases_eq mark.some 0) [
  | inr some ↦ inr (inl (has_bit mark.some a some))
  | inl zero_some ↦ elim (cases_eq mark.full 0) [
    | inr full ↦ inr (inr (has_bit mark.full b full))
    | inl zero_full ↦ inl (of_id mark.id mark.some mark.full zero_some zero_full is)
  ]
]
  where
    of_id : (o : Option ℕ) (s f : ℕ) → s ≡ 0 → f ≡ 0 → is_some (let v : Option Mark = cond (is_none o && s == 0 && f == 0) None
        (Some mark) in v) ≡ true → is_some o ≡ true
    of_id (Some n) s f x y h = refl
    of_id None s f x y h =
        let e = ap (λ b. is_some (let v : Option Mark = cond (true && b && f == 0) None (Some mark) in v)) (sym (eq-eqb s 0 x)) in
        let d = ap (λ b. is_some (let v : Option Mark = cond b None (Some mark) in v)) (sym (eq-eqb f 0 y)) in
        d ∙ (e ∙ h)

-- ---- the marks afterwards

-- What a page's change asks of the marks over it.
pub record Asks (m : Arena Mark) (page : ℕ) (is_in : Bool) (way : Way) : Type 0 where
  pub small_id : way.small.id ≡ (mark_of m 1 page).id
  pub small_some : WithBit (mark_of m 1 page).some way.small.some (page % 8) is_in
  pub small_full : way.small.full ≡ way.small.some
  pub middle_is : IsCarried (mark_of m 2 page) way.middle (page / 8 % 8) way.small
  pub large_is : IsCarried (mark_of m 3 page) way.large (page / 64 % 8) way.middle

-- And what it does.
pub record ChangesPage (m n : Arena Mark) (page : ℕ) (is_in : Bool) (way : Way) : Type 0 where
  pub writes : Writes m n page way
  pub asks : Asks m page is_in way

here_8 : (m n : Arena Mark) (page : ℕ) (way : Way) → Writes m n page way → (other : ℕ) → other / 8 ≡ page / 8
    → mark_of n 1 other ≡ way.small
unfolding mark_of
here_8 m n page way writes other same = ap (λ v. unwrap_or v unmarked) (writes.of_8 other same) ∙ kept_mark way.small

here_64 : (m n : Arena Mark) (page : ℕ) (way : Way) → Writes m n page way → (other : ℕ) → other / 64 ≡ page / 64
    → mark_of n 2 other ≡ way.middle
unfolding mark_of
here_64 m n page way writes other same = ap (λ v. unwrap_or v unmarked) (writes.of_64 other same) ∙ kept_mark way.middle

here_512 : (m n : Arena Mark) (page : ℕ) (way : Way) → Writes m n page way → (other : ℕ) → other / 512 ≡ page / 512
    → mark_of n 3 other ≡ way.large
unfolding mark_of
here_512 m n page way writes other same = ap (λ v. unwrap_or v unmarked) (writes.of_512 other same) ∙ kept_mark way.large

elsewhere : (m n : Arena Mark) (page : ℕ) (way : Way) → Writes m n page way → (size other : ℕ) → size ≤ 3
    → (0 < size → other / 8 ^ size ≡ page / 8 ^ size → ⊥) → mark_of n size other ≡ mark_of m size other
unfolding mark_of
elsewhere m n page way writes size other less apart = ap (λ v. unwrap_or v unmarked) (writes.others size other less apart)

-- the same extents are placed
pub same_ids : (m n : Arena Mark) (page : ℕ) (is_in : Bool) (way : Way) → ChangesPage m n page is_in way
    → (size other : ℕ) → size ≤ 3 → id_of n size other ≡ id_of m size other
unfolding id_of
same_ids m n page is_in way c zero other less = ap (λ v. v.id)
    (elsewhere m n page way c.writes 0 other less (λ low _. omega (arith, low)))
same_ids m n page is_in way c (suc zero) other less = elim (cases_eq (other / 8) (page / 8)) [
  | inl same ↦ ap (λ v. v.id) (here_8 m n page way c.writes other same)
      ∙ (c.asks.small_id ∙ ap (λ v. v.id) (mark_alike m 1 page other (omega arith) (sym same)))
  | inr apart ↦ ap (λ v. v.id) (elsewhere m n page way c.writes 1 other less (λ _ same. apart same))
]
same_ids m n page is_in way c (suc (suc zero)) other less = elim (cases_eq (other / 64) (page / 64)) [
  | inl same ↦ ap (λ v. v.id) (here_64 m n page way c.writes other same)
      ∙ (c.asks.middle_is.id ∙ ap (λ v. v.id) (mark_alike m 2 page other (omega arith) (sym same)))
  | inr apart ↦ ap (λ v. v.id) (elsewhere m n page way c.writes 2 other less (λ _ same. apart same))
]
same_ids m n page is_in way c (suc (suc (suc zero))) other less = elim (cases_eq (other / 512) (page / 512)) [
  | inl same ↦ ap (λ v. v.id) (here_512 m n page way c.writes other same)
      ∙ (c.asks.large_is.id ∙ ap (λ v. v.id) (mark_alike m 3 page other (omega arith) (sym same)))
  | inr apart ↦ ap (λ v. v.id) (elsewhere m n page way c.writes 3 other less (λ _ same. apart same))
]
same_ids m n page is_in way c (suc (suc (suc (suc size)))) other less = absurd (omega arith)

pub placed_alike : (m n : Arena Mark) (other : ℕ) → ((size : ℕ) → size ≤ 3 → id_of n size other ≡ id_of m size other)
    → is_placed n other ≡ is_placed m other
unfolding is_placed
placed_alike m n other ids =
    ap (λ o. is_some o || is_some (id_of n 1 other) || is_some (id_of n 2 other) || is_some (id_of n 3 other)) (ids 0 (omega arith))
    ∙ (ap (λ o. is_some (id_of m 0 other) || is_some o || is_some (id_of n 2 other) || is_some (id_of n 3 other)) (ids 1 (omega arith))
    ∙ (ap (λ o. is_some (id_of m 0 other) || is_some (id_of m 1 other) || is_some o || is_some (id_of n 3 other)) (ids 2 (omega arith))
    ∙ ap (λ o. is_some (id_of m 0 other) || is_some (id_of m 1 other) || is_some (id_of m 2 other) || is_some o) (ids 3 (omega arith))))

-- the page is populated as was asked, and the others as before
pub populates : (m n : Arena Mark) (page : ℕ) (is_in : Bool) (way : Way) → ChangesPage m n page is_in way
    → PopulatesOnly m n page is_in
unfolding is_populated
populates m n page is_in way c = record {
  changed = ap (λ v. bit_at v.some (page % 8) == 1) (here_8 m n page way c.writes page refl)
      ∙ (ap (λ b. b == 1) c.asks.small_some.same ∙ bit_of_test is_in);
  others = λ other apart. elim (cases_eq (other / 8) (page / 8)) [
    | inr elsewhere' ↦ ap (λ v. bit_at v.some (other % 8) == 1) (elsewhere m n page way c.writes 1 other (omega arith)
        (λ _ same. elsewhere' same))
    | inl same ↦
        let part : other % 8 ≢ page % 8 = omega arith in
        ap (λ v. bit_at v.some (other % 8) == 1) (here_8 m n page way c.writes other same)
        ∙ (ap (λ b. b == 1) (c.asks.small_some.others (other % 8) (omega arith) part)
        ∙ ap (λ v. bit_at v.some (other % 8) == 1) (mark_alike m 1 page other (omega arith) (sym same)))
  ];
  ids = same_ids m n page is_in way c;
}

-- the bits of the marks of a size say what the marks of their parts say
record StepOver (m n : Arena Mark) (page size : ℕ) : Type 0 where
  carried : IsCarried (mark_of m (suc size) page) (mark_of n (suc size) page) (page / 8 ^ size % 8) (mark_of n size page)
  other_parts : (other : ℕ) → other / 8 ^ size ≢ page / 8 ^ size → mark_of n size other ≡ mark_of m size other
  other_wholes : (other : ℕ) → other / 8 ^ suc size ≢ page / 8 ^ suc size → mark_of n (suc size) other ≡ mark_of m (suc size) other

-- pages of one extent whose parts have one number are of one part
same_part : (size p q : ℕ) → size < 3 → p / 8 ^ suc size ≡ q / 8 ^ suc size → p / 8 ^ size % 8 ≡ q / 8 ^ size % 8
    → p / 8 ^ size ≡ q / 8 ^ size
same_part zero p q low whole part = omega (arith, whole, part)
same_part (suc zero) p q low whole part = omega (arith, whole, part)
same_part (suc (suc zero)) p q low whole part = omega (arith, whole, part)
same_part (suc (suc (suc size))) p q low whole part = absurd (omega arith)

-- The bit of a part says something of the part's mark, by the mask of some pages or by that of all.
abbrev Tells : (Mark → ℕ) → (ℕ → Type 0) → Arena Mark → ℕ → ℕ → Type 0
Tells mask Holds m size page = (bit_at (mask (mark_of m (suc size) page)) (page / 8 ^ size % 8) ≡ 1) ↔ Holds (mask (mark_of m size page))

-- it does afterwards, where it did and the bit over the page does
tells_after : (mask : Mark → ℕ) (Holds : ℕ → Type 0) (m n : Arena Mark) (page size : ℕ) → size < 3 → StepOver m n page size
    → Tells mask Holds n size page
    → ((part : ℕ) → part < 8 → part ≢ page / 8 ^ size % 8
    → bit_at (mask (mark_of n (suc size) page)) part ≡ bit_at (mask (mark_of m (suc size) page)) part)
    → (other : ℕ) → Tells mask Holds m size other → Tells mask Holds n size other
tells_after mask Holds m n page size small step here others other was = elim (cases_eq (other / 8 ^ size) (page / 8 ^ size)) [
  | inl same ↦
      let whole = mark_alike n (suc size) other page (omega arith) (coarser size (suc size) other page (omega arith) (omega arith) same) in
      let part = mark_alike n size other page (omega arith) same in
      rw (whole, part, same) here
  | inr apart ↦ elim (cases_eq (other / 8 ^ suc size) (page / 8 ^ suc size)) [
    | inr far ↦ rw (step.other_wholes other far, step.other_parts other apart) was
    | inl same ↦
        let number : other / 8 ^ size % 8 ≢ page / 8 ^ size % 8 = λ e. apart (same_part size other page small same e) in
        let bit = ap (λ v. bit_at (mask v) (other / 8 ^ size % 8)) (mark_alike n (suc size) other page (omega arith) same)
        ∙ (others (other / 8 ^ size % 8) (omega arith) number
        ∙ ap (λ v. bit_at (mask v) (other / 8 ^ size % 8)) (mark_alike m (suc size) page other (omega arith) (sym same))) in
        rw (bit, step.other_parts other apart) was
  ]
]

-- the steps from 8 to 64 pages and from 64 to 512
step_over : (m n : Arena Mark) (page : ℕ) (is_in : Bool) (way : Way) → ChangesPage m n page is_in way
    → (size : ℕ) → 0 < size → size < 3 → StepOver m n page size
step_over m n page is_in way c zero low less = absurd (omega arith)
step_over m n page is_in way c (suc zero) low less = record {
  carried = rw (
    here_8 m n page way c.writes page refl,
    here_64 m n page way c.writes page refl,
  ) c.asks.middle_is;
  other_parts = λ other apart. elsewhere m n page way c.writes 1 other (omega arith) (λ _ same. apart same);
  other_wholes = λ other apart. elsewhere m n page way c.writes 2 other (omega arith) (λ _ same. apart same);
}
step_over m n page is_in way c (suc (suc zero)) low less = record {
  carried = rw (
    here_64 m n page way c.writes page refl,
    here_512 m n page way c.writes page refl,
  ) c.asks.large_is;
  other_parts = λ other apart. elsewhere m n page way c.writes 2 other (omega arith) (λ _ same. apart same);
  other_wholes = λ other apart. elsewhere m n page way c.writes 3 other (omega arith) (λ _ same. apart same);
}
step_over m n page is_in way c (suc (suc (suc size))) low less = absurd (omega arith)

-- a mark says something
abbrev Says : Mark → Type 0
Says v = (is_some v.id ≡ true) ⊎ (HasBit v.some ⊎ HasBit v.full)

-- a row afterwards says something
says : (m n : Arena Mark) (page : ℕ) (is_in : Bool) (way : Way) → AreMarks m → ChangesPage m n page is_in way
    → (size other : ℕ) → size ≤ 3 → is_some (row n size other) ≡ true
    → (is_some (id_of n size other) ≡ true) ⊎ (HasBit (mark_of n size other).some ⊎ HasBit (mark_of n size other).full)
unfolding id_of
says m n page is_in way marks c size other less has = elim (cases_eq (other / 8 ^ size) (page / 8 ^ size)) [
  | inr apart ↦
      subst Says (sym (elsewhere m n page way c.writes size other less (λ _ same. apart same)))
      (marks.in_use size other less (ap is_some (sym (c.writes.others size other less (λ _ same. apart same))) ∙ has))
  | inl same ↦ at size same less has
]
  where
    at : (size : ℕ) → other / 8 ^ size ≡ page / 8 ^ size → size ≤ 3 → is_some (row n size other) ≡ true
        → (is_some (mark_of n size other).id ≡ true) ⊎ (HasBit (mark_of n size other).some ⊎ HasBit (mark_of n size other).full)
    at zero same less has =
        subst Says (sym (elsewhere m n page way c.writes 0 other less (λ low _. omega (arith, low))))
        (marks.in_use 0 other less (ap is_some (sym (c.writes.others 0 other less (λ low _. omega (arith, low)))) ∙ has))
    at (suc zero) same less has =
        subst Says (sym (here_8 m n page way c.writes other same))
        (kept_says way.small c.asks.small_some.small (omega (arith, c.asks.small_some.small, c.asks.small_full))
        (ap is_some (sym (c.writes.of_8 other same)) ∙ has))
    at (suc (suc zero)) same less has =
        subst Says (sym (here_64 m n page way c.writes other same))
        (kept_says way.middle c.asks.middle_is.small.0 c.asks.middle_is.small.1 (ap is_some (sym (c.writes.of_64 other same)) ∙ has))
    at (suc (suc (suc zero))) same less has =
        subst Says (sym (here_512 m n page way c.writes other same))
        (kept_says way.large c.asks.large_is.small.0 c.asks.large_is.small.1 (ap is_some (sym (c.writes.of_512 other same)) ∙ has))
    at (suc (suc (suc (suc size)))) same less has = absurd (omega arith)

pub marks_after : (m n : Arena Mark) (page : ℕ) (is_in : Bool) (way : Way) → AreMarks m → is_placed m page ≡ true
    → ChangesPage m n page is_in way → AreMarks n
marks_after m n page is_in way marks placed c = record {
  splits = c.writes.splits;
  in_use = says m n page is_in way marks c;
  no_parts = λ other. rw (elsewhere m n page way c.writes 0 other (omega arith) (λ low _. omega (arith, low)))
      (marks.no_parts other);
  pages_full = λ other. elim (cases_eq (other / 8) (page / 8)) [
    | inl same ↦ rw (here_8 m n page way c.writes other same) c.asks.small_full
    | inr apart ↦ rw (elsewhere m n page way c.writes 1 other (omega arith) (λ _ same. apart same)) (marks.pages_full other)
  ];
  some = λ size other low less.
      let step = step_over m n page is_in way c size low less in
      tells_after (λ v. v.some) HasBit m n page size less step step.carried.some
      (λ part few apart. (step.carried.others part few apart).0) other (marks.some size other low less);
  full = λ size other low less.
      let step = step_over m n page is_in way c size low less in
      tells_after (λ v. v.full) HasAllBits m n page size less step step.carried.full
      (λ part few apart. (step.carried.others part few apart).1) other (marks.full size other low less);
  placed = λ other is. placed_alike m n other (λ size. ids size other) ∙ elim (cases_eq other page) [
    | inl same ↦ ap (is_placed m) same ∙ placed
    | inr apart ↦ marks.placed other (sym (did.others other apart) ∙ is)
  ];
  apart = λ a b other x y p q. marks.apart a b other x y (ap is_some (sym (ids a other x)) ∙ p) (ap is_some (sym (ids b other y)) ∙ q);
}
  where
    ids : (size other : ℕ) → size ≤ 3 → id_of n size other ≡ id_of m size other
    ids = same_ids m n page is_in way c

    did : PopulatesOnly m n page is_in
    did = populates m n page is_in way c

-- ---- which marks go

-- a mark with a bit is kept
kept_bit : (v : Mark) → HasBit v.some → kept v ≡ None → ⊥
kept_bit v has none = elim (cases_Bool (is_none v.id && v.some == 0 && v.full == 0)) [
  | inr says_so ↦ absurd (let e = ap (λ b. cond b None (Some v)) says_so in cc)
  | inl nothing ↦ no_bit v.some (zero_of (is_none v.id) (v.some == 0) (v.full == 0) nothing (eqb-true _ _)) has
]
  where
    zero_of : (a b d : Bool) → (a && b && d) ≡ true → (b ≡ true → v.some ≡ 0) → v.some ≡ 0
    zero_of true true d h f = f refl
    zero_of true false d h f = absurd (false≢true h)
    zero_of false b d h f = absurd (false≢true h)

-- A mark goes only where it was: a page is populated that wasn't, or evicted that was.
pub may_go : (m : Arena Mark) (page : ℕ) (is_in : Bool) (way : Way) → AreMarks m → is_populated m page ≡ not is_in
    → Asks m page is_in way
    → (kept way.small ≡ None → is_some (row m 1 page) ≡ true) × (kept way.middle ≡ None → is_some (row m 2 page) ≡ true)
    × (kept way.large ≡ None → is_some (row m 3 page) ≡ true)
may_go m page false way marks before asks = (
  λ _. row_if_bit m 1 page (bits_over m marks 1 page (omega arith) (omega arith) before),
  λ _. row_if_bit m 2 page (bits_over m marks 2 page (omega arith) (omega arith) before),
  λ _. row_if_bit m 3 page (bits_over m marks 3 page (omega arith) (omega arith) before),
)
may_go m page true way marks before asks =
    let low : HasBit way.small.some = (page % 8, omega arith, asks.small_some.same) in
    let mid : HasBit way.middle.some = (page / 8 % 8, omega arith, asks.middle_is.some.1 low) in
    let high : HasBit way.large.some = (page / 64 % 8, omega arith, asks.large_is.some.1 mid) in (
      λ none. absurd (kept_bit way.small low none),
      λ none. absurd (kept_bit way.middle mid none),
      λ none. absurd (kept_bit way.large high none),
    )
