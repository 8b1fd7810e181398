-- The journal's start: the first seat has every author and every pass, and deals them out.
use Rattle.std.proofs.Common.{◌≡◌, ℕ, zero, suc, ◌+◌, ◌-◌, ◌<◌, ◌≤◌, true, List, [], ◌∷◌, ◌++◌, map, length, take, drop, refl, sym, ap, subst, ◌∙◌, arith, true≢false}
use mathlib.Core.Option.{some, some-injective, some-ne-none}
use lib.ListN.{get_elem?}
use Rattle.std.specs.List.{sum_by, AllByRecursion, range_with_len}
use Rattle.std.proofs.lemmas.Bool.Decides.{nat_tests}
use Rattle.std.proofs.lemmas.List.Sums.{sum_by-cons}
use Rattle.pager_model.specs.Bounds.{most_actors}
use Rattle.atomic_table.specs.Seated.{TableId}
use Rattle.atomic_table.specs.Table.{Me}
use Rattle.pager_model.specs.declared.entry.Numbered.{Numbered}
use Rattle.pager_model.specs.Settings.{Given}
use Rattle.journal_core.specs.declared.view.View.{View}
use Rattle.journal_core.specs.declared.view.Part.{Part}
use Rattle.journal_core.specs.declared.view.Own.{Own}
use Rattle.journal_core.specs.Journals.{JournalName, new_author, new_pass, new_passes}
use Rattle.journal_core.specs.Parts.{part_list, own_list}
use Rattle.journal_core.specs.Seats.{author_view, pass_view, author_of, pass_of, IsAuthor, IsPass}
use Rattle.journal_core.specs.Views.{most_entries, one_below, blank_part, blank_own, Knows, Stands, opener, first_author, without_author, first_pass, without_pass, words_of}
use Rattle.journal_core.proofs.HistoryLength.{hit, one_below-more}
use Rattle.journal_core.proofs.HistoryLists.{part_list-nil}

-- a list made from the numbers from a on, one by one
module _ {X : Type 0} (f : X → ℕ) (make : ℕ → X) (is : (n : ℕ) → f (make n) ≡ n) where
  -- of each number from a to before b there is one
  counted : (k a n b : ℕ) → a + n ≡ b → sum_by (λ x. hit (f x) k) (map make (range_with_len a n)) + one_below a k ≡ one_below b k
  counted k a zero b end = let same : a ≡ b = omega arith in omega (arith, ap (λ m. one_below m k) same)
  counted k a (suc n) b end =
      omega (
        arith,
        sum_by-cons (λ x. hit (f x) k) (make a) (map make (range_with_len (a + 1) n)),
        counted k (a + 1) n b (omega arith),
        one_below-more a k,
        ap (λ x. hit x k) (is a),
      )

  counted_once : (k n : ℕ) → sum_by (λ x. hit (f x) k) (map make (range_with_len 0 n)) ≡ one_below n k
  counted_once k n = let none : one_below 0 k ≡ 0 = grind (arith, nat_tests) in omega (arith, counted k 0 n n (omega arith))

blank_parts : (spaces a n : ℕ) → AllByRecursion (λ (p : Part). p.entries ≡ part_list spaces p.part []) (map blank_part (range_with_len a n))
blank_parts spaces a zero = tt
blank_parts spaces a (suc n) = (sym (part_list-nil spaces a), blank_parts spaces (a + 1) n)

blank_owns : (a n : ℕ) → AllByRecursion (λ (o : Own). o.entries ≡ own_list o.processor []) (map blank_own (range_with_len a n))
blank_owns a zero = tt
blank_owns a (suc n) = (refl, blank_owns (a + 1) n)

opener_knows : (g : Given) → Knows g [] (opener g)
opener_knows g = record {
  setting = λ live. refl;
  spent_has_none = λ spent. absurd (true≢false spent);
  authors = blank_parts (length g.told) 0 (length g.told + 1);
  passes = blank_owns 0 (length g.marks);
}

alone : (g : Given) (seat : ℕ) (v : View) → get_elem? (opener g ∷ []) seat ≡ some v → Knows g [] v
alone g zero v is = subst (Knows g []) (some-injective _ _ is) (opener_knows g)
alone g (suc seat) v is = absurd (some-ne-none v (sym is))

-- the empty history meets the rule
pub begins : (g : Given) → length g.marks ≤ most_actors → Stands g (words_of 0) (opener g ∷ [])
begins g few = record {
  history = [];
  word = refl;
  legal = tt;
  few = few;
  short = λ c. omega arith;
  one_author = λ part. omega (arith, counted_once (λ (p : Part). p.part) blank_part (λ n. refl) part (length g.told + 1));
  one_pass = λ c. omega (arith, counted_once (λ (o : Own). o.processor) blank_own (λ n. refl) c (length g.marks));
  known = alone g;
}

deal_rest : {X : Type 0} (f : ℕ → X) (i n : ℕ) → i < n → drop 1 (map f (range_with_len i (n - i)))
    ≡ map f (range_with_len (i + 1) (n - (i + 1)))
deal_rest f i n below = let e : n - i ≡ suc (n - (i + 1)) = omega arith in rw e

deal_first : {X : Type 0} (f : ℕ → X) (i n : ℕ) → i < n → take 1 (map f (range_with_len i (n - i))) ≡ f i ∷ []
deal_first f i n below = let e : n - i ≡ suc (n - (i + 1)) = omega arith in rw e

-- the seat that still has the authors from i on, and the passes
abbrev pub authors_left : Given → List Own → ℕ → ℕ → Me Unit View
authors_left g passes i n = (record { live = true; setting = g; authors = map blank_part (range_with_len i (n - i)); passes = passes }, [])

pub author_rest : (g : Given) (passes : List Own) (i n : ℕ) (m k : Me Unit View) → i < n → m ≡ authors_left g passes i n
    → k ≡ (without_author m.0, m.1) → k ≡ authors_left g passes (i + 1) n
author_rest g passes i n m k below before is =
    is
    ∙ ap (λ (x : Me Unit View). (without_author x.0, x.1)) before
    ∙ ap (λ (ps : List Part). (record { live = true; setting = g; authors = ps; passes = passes }, [])) (deal_rest blank_part i n below)

author_seat : (g : Given) (passes : List Own) (i n : ℕ) (table : TableId) (m k : Me Unit View) → i < n → m ≡ authors_left g passes i n
    → k ≡ (first_author m.0, []) → k ≡ (author_view (new_author (record { table = table; setting = g }) i), [])
author_seat g passes i n table m k below before is =
    is
    ∙ ap (λ (x : Me Unit View). (first_author x.0, [])) before
    ∙ ap (λ (ps : List Part). (record { live = true; setting = g; authors = ps; passes = [] }, [])) (deal_first blank_part i n below)

pub author_dealt : (g : Given) (passes : List Own) (i n : ℕ) (table : TableId) (m k : Me Unit View) → i < n → n ≤ length g.told + 1
    → m ≡ authors_left g passes i n → k ≡ (first_author m.0, []) → IsAuthor table k
author_dealt g passes i n table m k below parts before is =
    subst (IsAuthor table) (sym (author_seat g passes i n table m k below before is)) (record { seat = refl; part = omega arith })

pub author_is : (g : Given) (passes : List Own) (i n : ℕ) (table : TableId) (m k : Me Unit View) → i < n → m ≡ authors_left g passes i n
    → k ≡ (first_author m.0, []) → author_of table k.0 ≡ new_author (record { table = table; setting = g }) i
author_is g passes i n table m k below before is = ap (λ (x : Me Unit View). author_of table x.0)
    (author_seat g passes i n table m k below before is)

-- the seat that still has the passes from i on
abbrev pub passes_left : Given → ℕ → ℕ → Me Unit View
passes_left g i n = (record { live = true; setting = g; authors = []; passes = map blank_own (range_with_len i (n - i)) }, [])

pub pass_rest : (g : Given) (i n : ℕ) (m k : Me Unit View) → i < n → m ≡ passes_left g i n → k ≡ (without_pass m.0, m.1)
    → k ≡ passes_left g (i + 1) n
pass_rest g i n m k below before is =
    is
    ∙ ap (λ (x : Me Unit View). (without_pass x.0, x.1)) before
    ∙ ap (λ (os : List Own). (record { live = true; setting = g; authors = []; passes = os }, [])) (deal_rest blank_own i n below)

pub pass_seat : (g : Given) (i n room : ℕ) (table : TableId) (m k : Me Unit View) → i < n → m ≡ passes_left g i n → k ≡ (first_pass m.0, [])
    → k ≡ (pass_view (new_pass (record { table = table; setting = g }) i room), [])
pass_seat g i n room table m k below before is =
    is
    ∙ ap (λ (x : Me Unit View). (first_pass x.0, [])) before
    ∙ ap (λ (os : List Own). (record { live = true; setting = g; authors = []; passes = os }, [])) (deal_first blank_own i n below)

pub pass_is : (g : Given) (i : ℕ) (table : TableId) (k : Me Unit View) (entries : List Numbered) (room : ℕ)
    → k ≡ (pass_view (new_pass (record { table = table; setting = g }) i room), []) → entries ≡ []
    → pass_of table k.0 i entries room ≡ new_pass (record { table = table; setting = g }) i room
pass_is g i table k entries room is none =
    ap (λ (x : Me Unit View). pass_of table x.0 i entries room) is ∙ ap (λ es. pass_of table (pass_view (new_pass (record {
      table = table;
      setting = g;
    }) i room)) i es room) none

pub pass_dealt : (g : Given) (i : ℕ) (table : TableId) (k : Me Unit View) (entries : List Numbered) (room : ℕ) → i < length g.marks
    → room ≤ most_entries → k ≡ (pass_view (new_pass (record { table = table; setting = g }) i room), []) → entries ≡ []
    → IsPass (pass_of table k.0 i entries room) k
pass_dealt g i table k entries room below most is none =
    let p = new_pass (record { table = table; setting = g }) i room in
    subst (λ q. IsPass q k) (sym (pass_is g i table k entries room is none))
    (subst (IsPass p) (sym is) (record { seat = refl; room = omega arith; most = most; processor = omega arith }))

new_passes-push_at : (name : JournalName) (c : ℕ) (rooms : List ℕ) (room n : ℕ) → c + length rooms ≡ n
    → new_passes name c (rooms ++ room ∷ []) ≡ new_passes name c rooms ++ new_pass name n room ∷ []
new_passes-push_at name c [] room n is = let same : c ≡ n = omega arith in ap (λ k. new_pass name k room ∷ []) same
new_passes-push_at name c (r ∷ rs) room n is = ap (λ l. new_pass name c r ∷ l) (new_passes-push_at name (suc c) rs room n (omega arith))

-- one pass more
pub new_passes-push : (name : JournalName) (rooms : List ℕ) (room n : ℕ) → length rooms ≡ n
    → new_passes name 0 (rooms ++ room ∷ []) ≡ new_passes name 0 rooms ++ new_pass name n room ∷ []
new_passes-push name rooms room n is = new_passes-push_at name 0 rooms room n (omega arith)
