-- Each step keeps the rule.
use Rattle.std.proofs.Common.{◌≡◌, ◌≢◌, ℕ, ◌+◌, true, false, cond, eqb, List, [], ◌∷◌, ◌++◌, take, drop, length, set, refl, sym, ap, subst, ◌∙◌, arith, ⊎_elim, true≢false}
use Rattle.std.specs.Prelude.{slice_index, slice_set}
use mathlib.Core.Option.{some}
use lib.ListN.{get_elem?}
use Rattle.std.proofs.lemmas.List.Sums.{sum_by-append, sum_by_push}
use Rattle.atomic_table.specs.Table.{Me, Step, Splits, Joins, Allows, Enters}
use Rattle.atomic_table.specs.Table.Act.{keeps}
use Rattle.atomic_table.proofs.Lists.{at_set, at_snoc, set_again}
use Rattle.pager_model.specs.declared.entry.Entry.{Entry}
use Rattle.pager_model.specs.Settings.{Given}
use Rattle.journal_core.specs.declared.view.View.{View}
use Rattle.journal_core.specs.declared.view.Part.{Part}
use Rattle.journal_core.specs.declared.view.Own.{Own}
use Rattle.journal_core.specs.Views.{authors_of, passes_of, Knows, Stands, Holds, Meets, Looks, first_author, without_author, first_pass, without_pass, joined, spent, rest_view, opener, Entered}
use Rattle.journal_core.proofs.ViewTotals.{total_set, each_append, each_take, each_drop, count_take_drop}

off : false ≡ true → ⊥
off e = true≢false (sym e)

-- a seat's view is cut in two
splits : (g : Given) (words : List ℕ) (views : List View) (seat : ℕ) (v left right : View) → Stands g words views
    → get_elem? views seat ≡ some v
    → ((history : List Entry) → Knows g history v → Knows g history left × Knows g history right)
    → ((part : ℕ) → authors_of part left + authors_of part right ≡ authors_of part v)
    → ((c : ℕ) → passes_of c left + passes_of c right ≡ passes_of c v)
    → Stands g words (set views seat left ++ right ∷ [])
splits g words views seat v left right s at cut authors passes = record {
  history = s.history;
  word = s.word;
  legal = s.legal;
  few = s.few;
  short = s.short;
  one_author = λ part. omega (
    arith,
    sum_by_push (authors_of part) (set views seat left) right,
    total_set (authors_of part) views seat v left at,
    s.one_author part,
    authors part,
  );
  one_pass = λ c. omega (
    arith,
    sum_by_push (passes_of c) (set views seat left) right,
    total_set (passes_of c) views seat v left at,
    s.one_pass c,
    passes c,
  );
  known = λ j u is. let both = cut s.history (s.known seat v at) in
      ⊎_elim
      (λ (old : get_elem? (set views seat left) j ≡ some u). ⊎_elim
      (λ (t : (j ≡ seat) × (left ≡ u)). subst (Knows g s.history) t.1 both.0)
      (λ (t : (j ≢ seat) × (get_elem? views j ≡ some u)). s.known j u t.1)
      (at_set views seat j left u old))
      (λ (new : right ≡ u). subst (Knows g s.history) new both.1)
      (at_snoc (set views seat left) right u j is);
}

pub author_splits : (g : Given) (seat : ℕ) (v : View) → Splits (Holds g) seat v (without_author v) (first_author v)
author_splits g seat v st s at = splits g st.words st.views seat v (without_author v) (first_author v) s at
    (λ history k. (
      record {
        setting = k.setting;
        spent_has_none = λ spent. let none = k.spent_has_none spent in (ap (drop 1) none.0, none.1);
        authors = each_drop _ 1 v.authors k.authors;
        passes = k.passes;
      },
      record {
        setting = k.setting;
        spent_has_none = λ spent. (ap (take 1) (k.spent_has_none spent).0, refl);
        authors = each_take _ 1 v.authors k.authors;
        passes = tt;
      },
    ))
    (λ part. omega (arith, count_take_drop (λ (p : Part). cond (eqb p.part part) 1 0) 1 v.authors))
    (λ c. omega arith)

pub pass_splits : (g : Given) (seat : ℕ) (v : View) → Splits (Holds g) seat v (without_pass v) (first_pass v)
pass_splits g seat v st s at = splits g st.words st.views seat v (without_pass v) (first_pass v) s at
    (λ history k. (
      record {
        setting = k.setting;
        spent_has_none = λ spent. let none = k.spent_has_none spent in (none.0, ap (drop 1) none.1);
        authors = k.authors;
        passes = each_drop _ 1 v.passes k.passes;
      },
      record {
        setting = k.setting;
        spent_has_none = λ spent. (refl, ap (take 1) (k.spent_has_none spent).1);
        authors = tt;
        passes = each_take _ 1 v.passes k.passes;
      },
    ))
    (λ part. omega arith)
    (λ c. omega (arith, count_take_drop (λ (o : Own). cond (eqb o.processor c) 1 0) 1 v.passes))

-- a seat takes in another's view
pub joins : (g : Given) (seat : ℕ) (v : View) (other : ℕ) (w : View) → v.live ≡ true → Joins (Holds g) seat v other w (joined v w) spent
joins g seat v other w live st s at apart there = record {
  history = s.history;
  word = s.word;
  legal = s.legal;
  few = s.few;
  short = s.short;
  one_author = λ part. omega (
    arith,
    total_set (authors_of part) (set st.views seat (joined v w)) other w spent there,
    total_set
        (authors_of part) st.views seat v (joined v w) at,
    sum_by-append
        (λ (p : Part). cond (eqb p.part part) 1 0) v.authors w.authors,
    s.one_author part,
  );
  one_pass = λ c. omega (
    arith,
    total_set (passes_of c) (set st.views seat (joined v w)) other w spent there,
    total_set
        (passes_of c) st.views seat v (joined v w) at,
    sum_by-append
        (λ (o : Own). cond (eqb o.processor c) 1 0) v.passes w.passes,
    s.one_pass c,
  );
  known = λ j u is. ⊎_elim
      (λ (t : (j ≡ other) × (spent ≡ u)). subst (Knows g s.history) t.1
      (record { setting = λ on. absurd (off on); spent_has_none = λ _. (refl, refl); authors = tt; passes = tt }))
      (λ (t : (j ≢ other) × (get_elem? (set st.views seat (joined v w)) j ≡ some u)). ⊎_elim
      (λ (r : (j ≡ seat) × (joined v w ≡ u)). subst (Knows g s.history) r.1 both)
      (λ (r : (j ≢ seat) × (get_elem? st.views j ≡ some u)). s.known j u r.1)
      (at_set st.views seat j (joined v w) u t.1))
      (at_set (set st.views seat (joined v w)) other j spent u is);
}
  where
    theirs : Knows g s.history w
    theirs = ⊎_elim
        (λ (t : (other ≡ seat) × (joined v w ≡ w)). absurd (apart t.0))
        (λ (t : (other ≢ seat) × (get_elem? st.views other ≡ some w)). s.known other w t.1)
        (at_set st.views seat other (joined v w) w there)

    both : Knows g s.history (joined v w)
    both = let mine = s.known seat v at in record {
      setting = mine.setting;
      spent_has_none = λ spent. absurd (true≢false (sym live ∙ spent));
      authors = each_append _ v.authors w.authors mine.authors theirs.authors;
      passes = each_append _ v.passes w.passes mine.passes theirs.passes;
    }

-- a new seat
pub enters_keep : (g : Given) (slots : ℕ) (st : Step Unit) → Enters (Holds g) slots 0 (λ n w. Entered st (opener g, []) n (w, []))
enters_keep g slots st x s wide _ = (
  rest_view g,
  record {
    history = s.history;
    word = s.word;
    legal = s.legal;
    few = s.few;
    short = s.short;
    one_author = λ part. omega (arith, sum_by_push (authors_of part) x.views (rest_view g), s.one_author part);
    one_pass = λ c. omega (arith, sum_by_push (passes_of c) x.views (rest_view g), s.one_pass c);
    known = λ j u is. ⊎_elim (λ (old : get_elem? x.views j ≡ some u). s.known j u old)
        (λ (new : rest_view g ≡ u). subst (Knows g s.history) new
        (record { setting = λ _. refl; spent_has_none = λ spent. (refl, refl); authors = tt; passes = tt }))
        (at_snoc x.views (rest_view g) u j is);
  },
  refl,
)

pub found_is : (g : Given) (words : List ℕ) (views : List View) (s : Stands g words views) → slice_index words 16 ≡ length s.history
found_is g words views s = ap (λ ws. slice_index ws 16) s.word

pub meets : (g : Given) (words : List ℕ) (views : List View) (seat : ℕ) (v : View) (s : Stands g words views) → v.live ≡ true
    → get_elem? views seat ≡ some v → Meets v.setting (slice_index words 16) v
meets g words views seat v s live at =
    let k = s.known seat v at in
    subst (λ h. Meets h (slice_index words 16) v) (sym (k.setting live))
    (record { history = s.history; long_is = sym (found_is g words views s); legal = s.legal; few = s.few; short = s.short; known = k })

pub looks : (g : Given) (slots seat : ℕ) (me : Me Unit View) (st : Step Unit) → me.0.live ≡ true
    → Allows (Holds g) slots seat me 16 (λ n. n) (Looks st me)
looks g slots seat me st live x s wide at _ = (
  me.0,
  keeps,
  tt,
  subst (Stands g _) (sym (set_again x.views seat me.0 at)) (record {
    history = s.history;
    word = ap (λ ws. slice_set ws 16 (slice_index ws 16)) s.word;
    legal = s.legal;
    few = s.few;
    short = s.short;
    one_author = s.one_author;
    one_pass = s.one_pass;
    known = s.known;
  }),
  (refl, meets g x.words x.views seat me.0 s live at),
)
