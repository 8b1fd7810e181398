-- The stacks of all spaces after an entry, and the sums of what they tell.
use Rattle.std.proofs.Common.{◌≡◌, ◌≢◌, ℕ, zero, suc, ◌+◌, ◌-◌, ◌^◌, ◌<◌, ◌≤◌, true, false, List, [], ◌∷◌, ◌++◌, length, get_or, set, take, Some, None, inl, inr, refl, sym, ap, ◌∙◌, subst, take_all, arith}
use Rattle.std.specs.List.{All, sum_by, range_with_len}
use Rattle.std.proofs.lemmas.Bool.{cases_eq, eq-eqb, ne_eqb}
use Rattle.std.proofs.lemmas.List.{get_or-set_same, get_or-set_other, length-set}
use Rattle.std.proofs.lemmas.List.Elements.{All-get_or, All-set}
use Rattle.std.proofs.lemmas.List.Sums.{fold-append, sum_by-le, sum_by-set, sum_by_more, sum_by_more_le, sum_by_push}
use Rattle.pager_model.specs.declared.entry.Entry.{Entry}
use Rattle.pager_model.specs.Entries.{names_space, space_part}
use Rattle.pager_model.specs.Legal.{space_at}
use Rattle.pager_model.specs.Settings.{Given, is_told, faults_at_entry}
use Rattle.pager_model.specs.SizeSets.{SizeSet}
use Rattle.pager_model.specs.SpaceStates.{SpaceState, space_after}
use Rattle.pager_model.proofs.Histories.{filter-push_in, filter-push_out, space_at-named, space_at-other}
use Rattle.pager_model.proofs.Ranges.{range_with_len-more}
use Rattle.lru_stack.specs.Followers.{Follower, follow, begun}
use Rattle.miss_curves.specs.Curves.{base_alone, followed, misses_by}
use Rattle.miss_curves.specs.Rows.{AreRows, AreStacks, Rows, StandAfter, StandEach}
use Rattle.lru_stack.specs.Stacks.{Kept, IsBlank, Stands, missed_at}

-- One entry more.

-- what the entry does to a follower of a space that it names, and of one that it doesn't
pub followed-named : (z : SizeSet) (g : Given) (history : List Entry) (e : Entry) (s : ℕ) → names_space s e ≡ true
    → followed z g s (space_part s (history ++ e ∷ [])) ≡ (λ capacity. follow z capacity (followed z g s (space_part s history) capacity) e)
followed-named z g history e s named =
    ap (followed z g s) (filter-push_in (names_space s) history e named)
    ∙ (λ i capacity. fold-append (follow z capacity) (begun g.sizes (is_told g s) (faults_at_entry g s)) (space_part s history) (e ∷ []) i)

pub followed-other : (z : SizeSet) (g : Given) (history : List Entry) (e : Entry) (s : ℕ) → names_space s e ≡ false
    → followed z g s (space_part s (history ++ e ∷ [])) ≡ followed z g s (space_part s history)
followed-other z g history e s other = ap (followed z g s) (filter-push_out (names_space s) history e other)

stands-other : (z : SizeSet) (g : Given) (history : List Entry) (e : Entry) (s : ℕ) (kept : Kept) → names_space s e ≡ false
    → Stands z kept (space_at g history s) (followed z g s (space_part s history))
    → Stands z kept (space_at g (history ++ e ∷ []) s) (followed z g s (space_part s (history ++ e ∷ [])))
stands-other z g history e s kept other stands =
    rw (space_at-other g history e s other, followed-other z g history e s other) stands

stands-named : (z : SizeSet) (g : Given) (history : List Entry) (e : Entry) (s : ℕ) (kept : Kept) → names_space s e ≡ true
    → Stands z kept (space_after (space_at g history s) e)
    (λ capacity. follow z capacity (followed z g s (space_part s history) capacity) e)
    → Stands z kept (space_at g (history ++ e ∷ []) s) (followed z g s (space_part s (history ++ e ∷ [])))
stands-named z g history e s kept named stands =
    rw (space_at-named g history e s named, followed-named z g history e s named) stands

-- an entry of a space changes its stack alone
pub StandEach-named : (z : SizeSet) (g : Given) (history : List Entry) (e : Entry) (s : ℕ) (stacks : List Kept) (new : Kept)
    → s < length stacks → e.space ≡ Some s
    → Stands z new (space_after (space_at g history s) e) (λ capacity. follow z capacity (followed z g s (space_part s history) capacity) e)
    → StandEach z g stacks history → StandEach z g (set stacks s new) (history ++ e ∷ [])
StandEach-named z g history e s stacks new within names stands each = record {
  spaces = length-set stacks s new ∙ each.spaces;
  each = λ t d below. elim (cases_eq t s) [
    | inl same ↦
        subst (λ n. Stands z (get_or (set stacks s new) n d) (space_at g (history ++ e ∷ []) n)
        (followed z g n (space_part n (history ++ e ∷ [])))) (sym same)
        (rw (get_or-set_same stacks s new d within) (stands-named z g history e s new (named s refl) stands))
    | inr other ↦
        rw (get_or-set_other stacks s t new d other)
        (stands-other z g history e t (get_or stacks t d) (apart t other) (each.each t d (omega (arith, length-set stacks s new))))
  ];
}
  where
    named : (t : ℕ) → t ≡ s → names_space t e ≡ true
    named t is = rw names (eq-eqb s t (sym is))

    apart : (t : ℕ) → t ≢ s → names_space t e ≡ false
    apart t other = rw names (ne_eqb s t (λ is. other (sym is)))

-- so where the stack that it had follows the entry
abbrev Follows : SizeSet → Given → List Entry → Entry → ℕ → List Kept → Kept → Type 0
Follows z g history e s stacks new =
    (old : Kept) × (old ≡ get_or stacks s old)
    × (Stands z old (space_at g history s) (followed z g s (space_part s history))
    → Stands z new (space_after (space_at g history s) e)
    (λ capacity. follow z capacity (followed z g s (space_part s history) capacity) e))

StandEach-followed : (z : SizeSet) (g : Given) (history : List Entry) (e : Entry) (s : ℕ) (stacks : List Kept) (new : Kept)
    → s < length stacks → e.space ≡ Some s → Follows z g history e s stacks new
    → StandEach z g stacks history → StandEach z g (set stacks s new) (history ++ e ∷ [])
StandEach-followed z g history e s stacks new within names follows each =
    StandEach-named z g history e s stacks new within names
    (follows.2 (subst (λ k. Stands z k (space_at g history s) (followed z g s (space_part s history))) (sym follows.1)
    (each.each s follows.0 within))) each

-- an entry without a space changes none
StandEach-none : (z : SizeSet) (g : Given) (history : List Entry) (e : Entry) (stacks : List Kept) → e.space ≡ None
    → StandEach z g stacks history → StandEach z g stacks (history ++ e ∷ [])
StandEach-none z g history e stacks none each = record {
  spaces = each.spaces;
  each = λ s d below. stands-other z g history e s (get_or stacks s d) (rw none refl) (each.each s d below);
}

-- The same of the rows, of both of which the space's stack follows the entry.
pub StandAfter-followed : (g : Given) (history : List Entry) (e : Entry) (s : ℕ) (rows : Rows) (tile page : Kept)
    → s < length rows.tiles → s < length rows.pages → e.space ≡ Some s
    → Follows g.sizes g history e s rows.tiles tile → Follows base_alone g history e s rows.pages page → StandAfter g rows history
    → (places entries : ℕ)
    → StandAfter g (record { tiles = set rows.tiles s tile; pages = set rows.pages s page; places = places; entries = entries }) (history ++ e ∷ [])
StandAfter-followed g history e s rows tile page within within_pages names tiles pages stands places entries = record {
  tiles = StandEach-followed g.sizes g history e s rows.tiles tile within names tiles stands.tiles;
  pages = StandEach-followed base_alone g history e s rows.pages page within_pages names pages stands.pages;
}

pub StandAfter-none : (g : Given) (history : List Entry) (e : Entry) (rows : Rows) → e.space ≡ None → StandAfter g rows history
    → StandAfter g rows (history ++ e ∷ [])
StandAfter-none g history e rows none stands = record {
  tiles = StandEach-none g.sizes g history e rows.tiles none stands.tiles;
  pages = StandEach-none base_alone g history e rows.pages none stands.pages;
}

-- before any entry blank stacks stand
pub StandEach-blank : (z : SizeSet) (g : Given) (places : ℕ) (stacks : List Kept) → length stacks ≡ length g.told → All (IsBlank places) stacks
    → StandEach z g stacks []
StandEach-blank z g places stacks same blank = record {
  spaces = same;
  each = λ s d below. (All-get_or (IsBlank places) stacks s d below blank).stands z g.sizes (is_told g s) (faults_at_entry g s);
}

-- stacks of one entry more
AreStacks-set : (n places entries : ℕ) (stacks : List Kept) (i : ℕ) (d new : Kept) → i < length stacks
    → length new.places ≡ length (get_or stacks i d).places → new.uses ≤ (get_or stacks i d).uses + 1
    → AreStacks n places entries stacks → AreStacks n places (entries + 1) (set stacks i new)
AreStacks-set n places entries stacks i d new within same uses are = record {
  spaces = length-set stacks i new ∙ are.spaces;
  places_are = All-set (λ (k : Kept). length k.places ≡ places) stacks i new
      (same ∙ All-get_or (λ (k : Kept). length k.places ≡ places) stacks i d within are.places_are) are.places_are;
  uses = omega (arith, are.uses, sum_by-set (λ (k : Kept). k.uses) stacks i new d within);
}

-- stacks of no entry
pub AreStacks-blank : (n places : ℕ) (stacks : List Kept) → length stacks ≡ n → All (IsBlank places) stacks → AreStacks n places 0 stacks
AreStacks-blank n places stacks same blank = record {
  spaces = same;
  places_are = λ s d below. (blank s d below).places;
  uses = omega (arith, sum_by-le (λ (k : Kept). k.uses) 0 stacks (λ s d below. omega (arith, (blank s d below).unused)));
}

-- stacks of no more entries than another number
pub AreStacks-more : (n places most entries : ℕ) (stacks : List Kept) → entries ≤ most → AreStacks n places entries stacks
    → AreStacks n places most stacks
AreStacks-more n places most entries stacks few are = record { spaces = are.spaces; places_are = are.places_are; uses = omega (arith, are.uses) }

-- a stack of them has no more uses than there were entries
pub uses-within : (n places entries : ℕ) (stacks : List Kept) (i : ℕ) (stack : Kept) → i < length stacks → stack ≡ get_or stacks i stack
    → AreStacks n places entries stacks → stack.uses ≤ entries
uses-within n places entries stacks i stack within is are =
    omega (arith, ap (λ (k : Kept). k.uses) is, sum_by_more_le (λ (k : Kept). k.uses) stacks i stack within, are.uses)

-- a stack after another entry has as many places, and a use more at most
abbrev IsStackAfter : Kept → Kept → Type 0
IsStackAfter old new = (length new.places ≡ length old.places) × (new.uses ≤ old.uses + 1)

-- rows of one entry more
pub AreRows-followed : (rows : Rows) (s : ℕ) (tile page new_tile new_page : Kept) → AreRows rows → rows.entries < 2 ^ 64 - 1
    → s < length rows.tiles → tile ≡ get_or rows.tiles s tile → page ≡ get_or rows.pages s page → IsStackAfter tile new_tile
    → IsStackAfter page new_page
    → AreRows (record { tiles = set rows.tiles s new_tile; pages = set rows.pages s new_page; places = rows.places; entries = rows.entries + 1 })
AreRows-followed rows s tile page new_tile new_page are room within is_tile is_page tiles pages =
    let long = length-set rows.tiles s new_tile in
    record {
      counted = omega arith;
      few = rw long are.few;
      tiles = rw long (AreStacks-set (length rows.tiles) rows.places rows.entries rows.tiles s tile new_tile within
          (tiles.0 ∙ ap (λ (k : Kept). length k.places) is_tile) (omega (arith, tiles.1, ap (λ (k : Kept). k.uses) is_tile)) are.tiles);
      pages = rw long (AreStacks-set (length rows.tiles) rows.places rows.entries rows.pages s page new_page (omega (arith, within, are.pages.spaces))
          (pages.0 ∙ ap (λ (k : Kept). length k.places) is_page) (omega (arith, pages.1, ap (λ (k : Kept). k.uses) is_page)) are.pages);
    }

-- Sums.

-- a sum over a list is one over its places
sum-so_far : {A : Type 0} (f : A → ℕ) (h : ℕ → ℕ) (xs : List A) (d : A) → ((i : ℕ) → i < length xs → f (get_or xs i d) ≡ h i)
    → (n : ℕ) → n ≤ length xs → sum_by f (take n xs) ≡ sum_by h (range_with_len 0 n)
sum-so_far f h xs d each zero within = refl
sum-so_far f h xs d each (suc n) within =
    let more : suc n ≡ n + 1 = omega arith in
    let first : sum_by f (take (suc n) xs) ≡ sum_by f (take (n + 1) xs) = ap (λ m. sum_by f (take m xs)) more in
    let last : sum_by h (range_with_len 0 (suc n)) ≡ sum_by h (range_with_len 0 n ++ n ∷ []) = ap (λ m. sum_by h (range_with_len 0 m)) more
    ∙ ap (sum_by h) (range_with_len-more n) in
    omega (
      arith,
      first,
      last,
      sum_by_more f xs n d (omega arith),
      sum-so_far f h xs d each n (omega arith),
      each n (omega arith),
      sum_by_push h (range_with_len 0 n) n,
    )

-- what a stack that stands tells of a capacity
missed-is : (z : SizeSet) (st : SpaceState) (kept : Kept) (followers : ℕ → Follower) (k : ℕ) → k < length kept.places
    → Stands z kept st followers
    → missed_at k kept ≡ (followers (k + 1)).misses
missed-is z st kept followers k within stands = omega (arith, (stands.images (k + 1) (omega arith)).misses)

pub missed-all : (z : SizeSet) (g : Given) (history : List Entry) (stacks : List Kept) (places k : ℕ) → k < places
    → All (λ (s : Kept). length s.places ≡ places) stacks → StandEach z g stacks history
    → sum_by (missed_at k) stacks ≡ misses_by z g history (k + 1)
missed-all z g history stacks places k within are each =
    let d : Kept = record { places = []; found = []; uses = 0 } in
    let h : ℕ → ℕ = λ s. (followed z g s (space_part s history) (k + 1)).misses in
    let whole : sum_by (missed_at k) (take (length stacks) stacks) ≡ sum_by h (range_with_len 0 (length stacks)) =
    sum-so_far (missed_at k) h stacks d
    (λ s below. missed-is z (space_at g history s) (get_or stacks s d) (followed z g s (space_part s history)) k
    (omega (arith, All-get_or (λ (x : Kept). length x.places ≡ places) stacks s d below are)) (each.each s d below))
    (length stacks) (omega arith) in
    ap (sum_by (missed_at k)) (sym (take_all (length stacks) stacks (omega arith))) ∙ whole
    ∙ ap (λ n. sum_by h (range_with_len 0 n)) each.spaces

-- no more misses than uses
pub missed-le : (k : ℕ) (s : Kept) → missed_at k s ≤ s.uses
missed-le k s = omega arith
