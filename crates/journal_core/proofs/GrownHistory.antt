-- A commit keeps the rule.
use Rattle.std.proofs.Common.{◌≡◌, ◌≢◌, ℕ, ◌+◌, ◌*◌, ◌%◌, ◌^◌, ◌<◌, ◌≤◌, Bool, true, false, cond, eqb, List, [], ◌∷◌, ◌++◌, map, length, set, refl, sym, ap, subst, ◌∙◌, arith, ⊎_elim, mod-eq_of_lt, mul-le-mul_right, eq-eqb, eqb-true, true≢false}
use Rattle.std.specs.Prelude.{slice_index, slice_set}
use mathlib.Core.Option.{some}
use lib.ListN.{get_elem?}
use Rattle.std.specs.List.{count_by, AllByRecursion}
use Rattle.std.proofs.lemmas.Bool.{false_from_ne_true}
use Rattle.std.proofs.lemmas.List.{length_push}
use Rattle.std.proofs.lemmas.List.Sums.{sum_by-cons}
use Rattle.atomic_table.specs.Table.{Me, Step, Allows}
use Rattle.atomic_table.specs.Table.Act.{keeps}
use Rattle.atomic_table.proofs.Lists.{at_set}
use Rattle.pager_model.specs.declared.entry.Entry.{Entry}
use Rattle.pager_model.specs.Entries.{entries_of, is_of}
use Rattle.pager_model.specs.Settings.{Given}
use Rattle.journal_core.specs.declared.view.View.{View}
use Rattle.journal_core.specs.declared.view.Part.{Part}
use Rattle.journal_core.specs.declared.view.Own.{Own}
use Rattle.journal_core.specs.Parts.{part_list, names_part, own_list}
use Rattle.journal_core.specs.Views.{most_entries, is_part, is_own, authors_of, passes_of, Knows, Stands, Holds, MayGrow, Commits, part_grown, own_grown, grown, words_of}
use Rattle.journal_core.proofs.ViewTotals.{total_set, total_two}
use Rattle.pager_model.proofs.Histories.{IsLegal-push}
use Rattle.journal_core.proofs.HistoryLists.{part_list-push, part_list-same, own_list-push, own_list-same, entries_of-push, entries_of-same}
use Rattle.journal_core.proofs.HistoryLength.{length_bound, hit-same, one_below-le}
use Rattle.journal_core.proofs.RuleSteps.{found_is, meets}

-- growing changes no count
parts_counted : (e : Entry) (part : ℕ) (ps : List Part) → count_by (is_part part) (map (part_grown e) ps) ≡ count_by (is_part part) ps
parts_counted e part [] = refl
parts_counted e part (p ∷ ps) =
    let weight : Part → ℕ = λ q. cond (eqb q.part part) 1 0 in
    omega (arith, sum_by-cons weight (part_grown e p) (map (part_grown e) ps), sum_by-cons weight p ps, parts_counted e part ps)

owns_counted : (place : ℕ) (e : Entry) (c : ℕ) (os : List Own) → count_by (is_own c) (map (own_grown place e) os) ≡ count_by (is_own c) os
owns_counted place e c [] = refl
owns_counted place e c (o ∷ os) =
    let weight : Own → ℕ = λ q. cond (eqb q.processor c) 1 0 in
    omega (arith, sum_by-cons weight (own_grown place e o) (map (own_grown place e) os), sum_by-cons weight o os, owns_counted place e c os)

head_counts : (part : ℕ) (p : Part) (ps : List Part) → p.part ≡ part → 0 < count_by (is_part part) (p ∷ ps)
head_counts part p ps is = omega (arith, hit-same p.part part is, sum_by-cons (λ (q : Part). cond (eqb q.part part) 1 0) p ps)

tail_counts : (part : ℕ) (p : Part) (ps : List Part) → 0 < count_by (is_part part) ps → 0 < count_by (is_part part) (p ∷ ps)
tail_counts part p ps h = omega (arith, sum_by-cons (λ (q : Part). cond (eqb q.part part) 1 0) p ps)

head_owns : (c : ℕ) (o : Own) (os : List Own) → o.processor ≡ c → 0 < count_by (is_own c) (o ∷ os)
head_owns c o os is = omega (arith, hit-same o.processor c is, sum_by-cons (λ (q : Own). cond (eqb q.processor c) 1 0) o os)

tail_owns : (c : ℕ) (o : Own) (os : List Own) → 0 < count_by (is_own c) os → 0 < count_by (is_own c) (o ∷ os)
tail_owns c o os h = omega (arith, sum_by-cons (λ (q : Own). cond (eqb q.processor c) 1 0) o os)

module _ (spaces : ℕ) (history : List Entry) (e : Entry) where
  -- the lists of the authors that commit
  own_parts : (ps : List Part) → AllByRecursion (λ (p : Part). names_part spaces p.part e ≡ true) ps
      → AllByRecursion (λ (p : Part). p.entries ≡ part_list spaces p.part history) ps
      → AllByRecursion (λ (p : Part). p.entries ≡ part_list spaces p.part (history ++ e ∷ [])) (map (part_grown e) ps)
  own_parts [] named k = tt
  own_parts (p ∷ ps) named k = (ap (λ l. l ++ e ∷ []) k.0 ∙ sym (part_list-push spaces p.part history e named.0), own_parts ps named.1 k.1)

  -- the lists of the other authors
  other_parts : (ps : List Part) → ((part : ℕ) → 0 < count_by (is_part part) ps → names_part spaces part e ≡ false)
      → AllByRecursion (λ (p : Part). p.entries ≡ part_list spaces p.part history) ps
      → AllByRecursion (λ (p : Part). p.entries ≡ part_list spaces p.part (history ++ e ∷ [])) ps
  other_parts [] none k = tt
  other_parts (p ∷ ps) none k = (
    k.0 ∙ sym (part_list-same spaces p.part history e (none p.part (head_counts p.part p ps refl))),
    other_parts ps (λ part h. none part (tail_counts part p ps h)) k.1,
  )

  own_owns : (place : ℕ) → place ≡ length history → (os : List Own) → AllByRecursion (λ (o : Own). o.processor ≡ e.processor) os
      → AllByRecursion (λ (o : Own). o.entries ≡ own_list o.processor history) os
      → AllByRecursion (λ (o : Own). o.entries ≡ own_list o.processor (history ++ e ∷ [])) (map (own_grown place e) os)
  own_owns place at [] own k = tt
  own_owns place at (o ∷ os) own k = (
    ap (λ l. l ++ record { number = place; entry = e } ∷ []) k.0
        ∙ ap (λ n. own_list o.processor history ++ record {
          number = n;
          entry = e;
        } ∷ []) at ∙ sym (own_list-push o.processor history e (eq-eqb e.processor o.processor (sym own.0))),
    own_owns place at os own.1 k.1,
  )

  other_owns : (os : List Own) → ((c : ℕ) → 0 < count_by (is_own c) os → is_of c e ≡ false)
      → AllByRecursion (λ (o : Own). o.entries ≡ own_list o.processor history) os
      → AllByRecursion (λ (o : Own). o.entries ≡ own_list o.processor (history ++ e ∷ [])) os
  other_owns [] none k = tt
  other_owns (o ∷ os) none k = (
    k.0 ∙ sym (own_list-same o.processor history e (none o.processor (head_owns o.processor o os refl))),
    other_owns os (λ c h. none c (tail_owns c o os h)) k.1,
  )

-- every processor still has room
short_by : (history : List Entry) (e : Entry) (c : ℕ) → length (entries_of e.processor history) < most_entries
    → length (entries_of c history) ≤ most_entries → (b : Bool) → is_of c e ≡ b → length (entries_of c (history ++ e ∷ [])) ≤ most_entries
short_by history e c room short true is =
    let same =
    ap (λ d. length (entries_of d history)) (eqb-true e.processor c is) in
    omega (arith, ap length (entries_of-push c history e is), length_push (entries_of c history) e)
short_by history e c room short false is = omega (arith, ap length (entries_of-same c history e is))

-- the view at a seat may grow by an entry
pub record GrowsAt (views : List View) (seat : ℕ) (v : View) (e : Entry) : Type 0 where
  pub at : get_elem? views seat ≡ some v
  pub may : MayGrow v e

module _ (words : List ℕ) (views : List View) (seat : ℕ) (v : View) (e : Entry) (s : Stands v.setting words views)
    (by : GrowsAt views seat v e) where
  place : ℕ
  place = slice_index words 16

  mine : Knows v.setting s.history v
  mine = s.known seat v by.at

  fits : length s.history < 17 * 2 ^ 31 + 1
  fits = let b = length_bound v.setting s.history most_entries s.legal s.short in let f = s.few in
      omega (arith, mul-le-mul_right most_entries f)

  grown_word : slice_set words 16 ((slice_index words 16 + 1) % 18446744073709551616) ≡ words_of (length (s.history ++ e ∷ []))
  grown_word =
      let f = fits in
      ap (λ ws. slice_set ws 16 ((slice_index ws 16 + 1) % 18446744073709551616)) s.word
      ∙ ap words_of (mod-eq_of_lt (omega arith) ∙ sym (length_push s.history e))

  grown_knows : Knows v.setting (s.history ++ e ∷ []) (grown (slice_index words 16) e v)
  grown_knows = record {
    setting = λ live. refl;
    spent_has_none = λ spent. absurd (true≢false (sym by.may.live ∙ spent));
    authors = own_parts (length v.setting.told) s.history e v.authors by.may.named mine.authors;
    passes = own_owns (length v.setting.told) s.history e (slice_index words 16)
        (found_is v.setting words views s) v.passes by.may.own mine.passes;
  }

  other_knows : (j : ℕ) (u : View) → j ≢ seat → get_elem? views j ≡ some u → Knows v.setting (s.history ++ e ∷ []) u
  other_knows j u apart there = let k = s.known j u there in record {
    setting = k.setting;
    spent_has_none = k.spent_has_none;
    authors = other_parts (length v.setting.told) s.history e u.authors
        (λ part h. false_from_ne_true _
        (λ names. let m = by.may.has_parts part names in let t = total_two (authors_of part) views seat j v u apart by.at there in
        let o = s.one_author part in let one = one_below-le (length v.setting.told + 1) part in absurd (omega arith)))
        k.authors;
    passes = other_owns (length v.setting.told) s.history e u.passes
        (λ c h. false_from_ne_true _ (λ own. let m = by.may.has_pass in let is = eqb-true e.processor c own in
        let same =
        ap (λ (d : ℕ). passes_of d v) is in let t = total_two (passes_of c) views seat j v u apart by.at there in let o = s.one_pass c in
        let one = one_below-le (length v.setting.marks) c in absurd (omega arith)))
        k.passes;
  }

  grows : Stands v.setting (slice_set words 16 ((slice_index words 16 + 1) % 18446744073709551616))
      (set views seat (grown (slice_index words 16) e v))
  grows = record {
    history = s.history ++ e ∷ [];
    word = grown_word;
    legal = IsLegal-push v.setting s.history e s.legal (by.may.follows s.history mine);
    few = s.few;
    short = λ c. short_by s.history e c (by.may.room s.history mine) (s.short c) (is_of c e) refl;
    one_author = λ part. omega (
      arith,
      total_set (authors_of part) views seat v
          (grown (slice_index words 16) e v) by.at,
      parts_counted e part v.authors,
      s.one_author part,
    );
    one_pass = λ c. omega (
      arith,
      total_set (passes_of c) views seat v (grown (slice_index words 16) e v) by.at,
      owns_counted
          (slice_index words 16) e c v.passes,
      s.one_pass c,
    );
    known = λ j u is. ⊎_elim
        (λ (t : (j ≡ seat) × (grown (slice_index words 16) e v ≡ u)). subst (Knows v.setting (s.history ++ e ∷ [])) t.1 grown_knows)
        (λ (t : (j ≢ seat) × (get_elem? views j ≡ some u)). other_knows j u t.0 t.1)
        (at_set views seat j (grown (slice_index words 16) e v) u is);
  }

pub writes : (g : Given) (slots seat : ℕ) (me : Me Unit View) (e : Entry) (st : Step Unit) → MayGrow me.0 e
    → Allows (Holds g) slots seat me 16 (λ n. (n + 1) % 18446744073709551616) (Commits e st me)
writes g slots seat me e st may x s wide at _ =
    let is = (s.known seat me.0 at).setting may.live in
    let s' : Stands me.0.setting x.words x.views = subst (λ h. Stands h x.words x.views) (sym is) s in (
      grown (slice_index x.words 16) e me.0,
      keeps,
      tt,
      subst (λ h. Stands h (slice_set x.words 16 ((slice_index x.words 16 + 1) % 18446744073709551616))
          (set x.views seat (grown (slice_index x.words 16) e me.0))) is (grows x.words x.views seat me.0 e s' (record {
            at = at;
            may = may;
          })),
      (refl, meets g x.words x.views seat me.0 s may.live at),
    )
