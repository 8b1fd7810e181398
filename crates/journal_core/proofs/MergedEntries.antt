-- A merge that puts each entry at its place makes the history.
use Rattle.std.proofs.Common.{◌≡◌, ◌≢◌, ◌⊎◌, ℕ, zero, suc, ◌+◌, ◌<◌, ◌≤◌, Bool, true, false, List, [], ◌∷◌, ◌++◌, map, reverse, length, get_or, filter, refl, sym, ap, subst, ◌∙◌, arith, inl, inr, ⊎_elim, append_assoc, length-append, length-set, eq-eqb, get_or-set_same, get_or-set_other}
use native.Mathlib.Decide.{ℕ_discrete}
use Rattle.std.specs.List.{AllByRecursion, range_with_len, sum}
use Rattle.std.proofs.lemmas.List.{get_or_at, same_lists, reverse-append, reverse-reverse, length-map}
use Rattle.std.proofs.lemmas.List.Sums.{fold-append, sum_by-cons}
use Rattle.pager_model.specs.declared.entry.Entry.{Entry}
use Rattle.pager_model.specs.declared.entry.Numbered.{Numbered}
use Rattle.pager_model.specs.Entries.{entries_of}
use Rattle.pager_model.specs.Legal.{entries_in}
use Rattle.journal_core.specs.Journals.{PassState}
use Rattle.journal_core.specs.Parts.{is_numbered_of, own_list}
use Rattle.pager_model.specs.Legal.{numbered_from, numbered}
use Rattle.journal_core.specs.Places.{put, placed, placed_all}
use Rattle.journal_core.proofs.HistoryLength.{up_from, count_of}
use Rattle.journal_core.proofs.HistoryLists.{own_entries}
use Rattle.journal_core.proofs.ViewTotals.{each_append}

module _ {A : Type 0} (P : A → Type 0) where
  each_filter_by : (p : A → Bool) (x : A) (xs : List A) (b : Bool) → p x ≡ b → P x → AllByRecursion P (filter p xs)
      → AllByRecursion P (filter p (x ∷ xs))
  each_filter_by p x xs true is h k = rw is (h, k)
  each_filter_by p x xs false is h k = rw is k

  pub each_filter : (p : A → Bool) (xs : List A) → AllByRecursion P xs → AllByRecursion P (filter p xs)
  each_filter p [] k = tt
  each_filter p (x ∷ xs) k = each_filter_by p x xs (p x) refl k.0 (each_filter p xs k.1)

  pub each_reverse : (xs : List A) → AllByRecursion P xs → AllByRecursion P (reverse xs)
  each_reverse [] k = k
  each_reverse (x ∷ xs) k = subst (AllByRecursion P) (sym (reverse-append (x ∷ []) xs))
      (each_append P (reverse xs) (x ∷ []) (each_reverse xs k.1) (k.0, tt))

  pub each_unreverse : (xs : List A) → AllByRecursion P (reverse xs) → AllByRecursion P xs
  each_unreverse xs k = subst (AllByRecursion P) (reverse-reverse xs) (each_reverse (reverse xs) k)

  pub each_unmap : {B : Type 0} (f : B → A) (xs : List B) → AllByRecursion P (map f xs) → AllByRecursion (λ x. P (f x)) xs
  each_unmap f [] k = tt
  each_unmap f (x ∷ xs) k = (k.0, each_unmap f xs k.1)

-- the entry stands in the list at its own place
abbrev pub IsAt : List Numbered → Numbered → Type 0
IsAt all n = (n.number < length all) × ((d : Numbered) → get_or all n.number d ≡ n)

-- some entry of the list has this place
abbrev pub HasPlace : ℕ → List Numbered → Type 0
HasPlace i [] = ⊥
HasPlace i (n ∷ ns) = (n.number ≡ i) ⊎ HasPlace i ns

has_left : (i : ℕ) (xs ys : List Numbered) → HasPlace i xs → HasPlace i (xs ++ ys)
has_left i [] ys h = absurd h
has_left i (x ∷ xs) ys h = ⊎_elim (λ (e : x.number ≡ i). inl e) (λ (k : HasPlace i xs). inr (has_left i xs ys k)) h

has_right : (i : ℕ) (xs ys : List Numbered) → HasPlace i ys → HasPlace i (xs ++ ys)
has_right i [] ys h = h
has_right i (x ∷ xs) ys h = inr (has_right i xs ys h)

numbered_at_from : (all before : List Numbered) (place : ℕ) (es : List Entry) → length before ≡ place
    → all ≡ before ++ numbered_from place es → AllByRecursion (IsAt all) (numbered_from place es)
numbered_at_from all before place [] long is = tt
numbered_at_from all before place (e ∷ es) long is =
    let n : Numbered = record { number = place; entry = e } in (
      (
        omega (arith, ap length is, length-append before (n ∷ numbered_from (suc place) es)),
        λ d. ap (λ l. get_or l place d) is ∙ get_or_at before n (numbered_from (suc place) es) d place long,
      ),
      numbered_at_from all (before ++ n ∷ []) (suc place) es (omega (arith, length-append before (n ∷ [])))
          (is ∙ sym (append_assoc before (n ∷ []) (numbered_from (suc place) es))),
    )

-- each processor's entries stand at their places
pub own_at : (c : ℕ) (history : List Entry) → AllByRecursion (IsAt (numbered history)) (own_list c history)
own_at c history = each_filter (IsAt (numbered history)) (is_numbered_of c) (numbered history)
    (numbered_at_from (numbered history) [] 0 history refl refl)

length-numbered_from : (place : ℕ) (es : List Entry) → length (numbered_from place es) ≡ length es
length-numbered_from place [] = refl
length-numbered_from place (e ∷ es) = ap suc (length-numbered_from (suc place) es)

pub length-numbered : (history : List Entry) → length (numbered history) ≡ length history
length-numbered history = length-numbered_from 0 history

has_more : (i c : ℕ) (n : Numbered) (ns : List Numbered) (b : Bool) → is_numbered_of c n ≡ b → HasPlace i (filter (is_numbered_of c) ns)
    → HasPlace i (filter (is_numbered_of c) (n ∷ ns))
has_more i c n ns true is h = rw is (inr h)
has_more i c n ns false is h = rw is h

has_first : (i c : ℕ) (n : Numbered) (ns : List Numbered) → n.number ≡ i → n.entry.processor ≡ c
    → HasPlace i (filter (is_numbered_of c) (n ∷ ns))
has_first i c n ns at own = rw (eq-eqb n.entry.processor c own) (inl at)

-- which processor has the entry at a place
abbrev Covered : ℕ → ℕ → List Entry → ℕ → Type 0
Covered processors place es i = (c : ℕ) × (c < processors) × HasPlace i (filter (is_numbered_of c) (numbered_from place es))

covered_by : (processors place : ℕ) (e : Entry) (es : List Entry) (i : ℕ) → e.processor < processors
    → (place ≢ i → Covered processors (suc place) es i) → Dec (place ≡ i) → Covered processors place (e ∷ es) i
covered_by processors place e es i own later (yes at) =
    (e.processor, own, has_first i e.processor (record { number = place; entry = e }) (numbered_from (suc place) es) at refl)
covered_by processors place e es i own later (no apart) =
    let l = later apart in
    (l.0, l.1, has_more i l.0 (record { number = place; entry = e }) (numbered_from (suc place) es) _ refl l.2)

covered_from : (processors place : ℕ) (es : List Entry) (i : ℕ) → AllByRecursion (λ (e : Entry). e.processor < processors) es → place ≤ i
    → i < place + length es → Covered processors place es i
covered_from processors place [] i all low high = absurd (omega arith)
covered_from processors place (e ∷ es) i all low high =
    covered_by processors place e es i all.0 (λ apart. covered_from processors (suc place) es i all.1 (omega arith) (omega arith))
    (ℕ_discrete place i)

-- the lists, one behind the other
abbrev pub flat : List (List Numbered) → List Numbered
flat [] = []
flat (l ∷ ls) = l ++ flat ls

placed_flat : (m : List Numbered) (logs : List (List Numbered)) → placed_all m logs ≡ placed m (flat logs)
placed_flat m [] = refl
placed_flat m (l ∷ ls) = placed_flat (placed m l) ls ∙ sym (fold-append put m l (flat ls))

pub length-placed : (m xs : List Numbered) → length (placed m xs) ≡ length m
length-placed m [] = refl
length-placed m (x ∷ xs) = length-placed (put m x) xs ∙ length-set m x.number x

placed_at : (all m xs : List Numbered) (i : ℕ) (d : Numbered) → length m ≡ length all → AllByRecursion (IsAt all) xs → i < length all
    → (get_or m i d ≡ get_or all i d) ⊎ HasPlace i xs → get_or (placed m xs) i d ≡ get_or all i d
placed_at all m [] i d long k below here = ⊎_elim (λ (e : get_or m i d ≡ get_or all i d). e) (λ (h : ⊥). absurd h) here
placed_at all m (x ∷ xs) i d long k below here = placed_at all (put m x) xs i d (length-set m x.number x ∙ long) k.1 below
    (next (ℕ_discrete i x.number))
  where
    next : Dec (i ≡ x.number) → (get_or (put m x) i d ≡ get_or all i d) ⊎ HasPlace i xs
    next (yes at) = inl (ap (λ j. get_or (put m x) j d) at ∙ get_or-set_same m x.number x d (omega arith) ∙ sym (k.0.1 d)
        ∙ ap (λ j. get_or all j d) (sym at))
    next (no apart) = ⊎_elim
        (λ (e : get_or m i d ≡ get_or all i d). inl (get_or-set_other m x.number i x d apart ∙ e))
        (λ (h : HasPlace i (x ∷ xs)). ⊎_elim (λ (e : x.number ≡ i). absurd (apart (sym e))) (λ (r : HasPlace i xs). inr r) h)
        here

-- entries that stand at their places, among them one for each place, make the whole
pub placed_is : (all m : List Numbered) (logs : List (List Numbered)) → length m ≡ length all → AllByRecursion (IsAt all) (flat logs)
    → ((i : ℕ) → i < length all → HasPlace i (flat logs)) → placed_all m logs ≡ all
placed_is all m logs long k covered =
    placed_flat m logs
    ∙ same_lists (placed m (flat logs)) all (length-placed m (flat logs) ∙ long)
    (λ i d below. placed_at all m (flat logs) i d long k (omega (arith, length-placed m (flat logs)))
    (inr (covered i (omega (arith, length-placed m (flat logs))))))

-- the passes of a history, in any order
module _ (history : List Entry) where
  abbrev pub Owns : PassState → Type 0
  Owns p = p.entries ≡ own_list p.processor history

  abbrev pub HasPass : ℕ → List PassState → Type 0
  HasPass c [] = ⊥
  HasPass c (p ∷ ps) = (p.processor ≡ c) ⊎ HasPass c ps

  pass_left : (c : ℕ) (ps qs : List PassState) → HasPass c ps → HasPass c (ps ++ qs)
  pass_left c [] qs h = absurd h
  pass_left c (p ∷ ps) qs h = ⊎_elim (λ (e : p.processor ≡ c). inl e) (λ (k : HasPass c ps). inr (pass_left c ps qs k)) h

  pass_right : (c : ℕ) (ps qs : List PassState) → HasPass c qs → HasPass c (ps ++ qs)
  pass_right c [] qs h = h
  pass_right c (p ∷ ps) qs h = inr (pass_right c ps qs h)

  pass_reverse : (c : ℕ) (ps : List PassState) → HasPass c ps → HasPass c (reverse ps)
  pass_reverse c [] h = absurd h
  pass_reverse c (p ∷ ps) h = subst (HasPass c) (sym (reverse-append (p ∷ []) ps))
      (⊎_elim (λ (e : p.processor ≡ c). pass_right c (reverse ps) (p ∷ []) (inl e))
      (λ (k : HasPass c ps). pass_left c (reverse ps) (p ∷ []) (pass_reverse c ps k)) h)

  pass_of_each_by : (p : PassState) (ps : List PassState) (a c : ℕ) → p.processor ≡ a → (a ≢ c → HasPass c ps) → Dec (a ≡ c)
      → HasPass c (p ∷ ps)
  pass_of_each_by p ps a c head later (yes e) = inl (head ∙ e)
  pass_of_each_by p ps a c head later (no apart) = inr (later apart)

  -- passes in order, one for each processor
  pass_of_each : (ps : List PassState) (a n c : ℕ) → map (λ (p : PassState). p.processor) ps ≡ range_with_len a n → a ≤ c → c < a + n
      → HasPass c ps
  pass_of_each [] a zero c is low high = absurd (omega arith)
  pass_of_each [] a (suc n) c is low high = absurd (cc is)
  pass_of_each (p ∷ ps) a zero c is low high = absurd (cc is)
  pass_of_each (p ∷ ps) a (suc n) c is low high =
      let head : p.processor ≡ a = cc is in
      let rest : map (λ (q : PassState). q.processor) ps ≡ range_with_len (a + 1) n = cc is in
      pass_of_each_by p ps a c head (λ apart. pass_of_each ps (a + 1) n c rest (omega arith) (omega arith)) (ℕ_discrete a c)

  abbrev pub logs_of : List PassState → List (List Numbered)
  logs_of ps = map (λ (p : PassState). p.entries) ps

  pub logs_at : (ps : List PassState) → AllByRecursion Owns ps → AllByRecursion (IsAt (numbered history)) (flat (logs_of ps))
  logs_at [] k = tt
  logs_at (p ∷ ps) k = each_append (IsAt (numbered history)) p.entries (flat (logs_of ps))
      (subst (AllByRecursion (IsAt (numbered history))) (sym k.0) (own_at p.processor history)) (logs_at ps k.1)

  has_in : (i c : ℕ) (ps : List PassState) → AllByRecursion Owns ps → HasPass c ps → HasPlace i (own_list c history)
      → HasPlace i (flat (logs_of ps))
  has_in i c [] k h at = absurd h
  has_in i c (p ∷ ps) k h at = ⊎_elim
      (λ (e : p.processor ≡ c). has_left i p.entries (flat (logs_of ps))
      (subst (HasPlace i) (ap (λ b. own_list b history) (sym e) ∙ sym k.0) at))
      (λ (r : HasPass c ps). has_right i p.entries (flat (logs_of ps)) (has_in i c ps k.1 r at))
      h

  -- every place is in some pass
  pub all_in : (processors : ℕ) (ps : List PassState) → AllByRecursion (λ (e : Entry). e.processor < processors) history
      → AllByRecursion Owns (reverse ps) → map (λ (p : PassState). p.processor) ps ≡ range_with_len 0 processors
      → (i : ℕ) → i < length (numbered history) → HasPlace i (flat (logs_of (reverse ps)))
  all_in processors ps all k in_order i below =
      let c = covered_from processors 0 history i all (omega arith) (omega (arith, length-numbered history)) in
      has_in i c.0 (reverse ps) k (pass_reverse c.0 ps (pass_of_each ps 0 processors c.0 in_order (omega arith) (omega (arith, c.1)))) c.2

  -- the passes have room for the history
  pub counts_fit : (ps : List PassState) (a n : ℕ) → map (λ (p : PassState). p.processor) ps ≡ range_with_len a n → AllByRecursion Owns ps
      → AllByRecursion (λ (p : PassState). length p.entries ≤ p.room) ps
      → up_from (count_of history) a n ≤ sum (map (λ (p : PassState). p.room) ps)
  counts_fit [] a zero is k rooms = omega arith
  counts_fit [] a (suc n) is k rooms = absurd (cc is)
  counts_fit (p ∷ ps) a zero is k rooms = absurd (cc is)
  counts_fit (p ∷ ps) a (suc n) is k rooms =
      let head : p.processor ≡ a = cc is in
      let rest : map (λ (q : PassState). q.processor) ps ≡ range_with_len (a + 1) n = cc is in
      let own = ap entries_in k.0 ∙ own_entries p.processor history ∙ ap (λ c. entries_of c history) head in
      omega (
        arith,
        rooms.0,
        ap length own,
        length-map p.entries (λ (m : Numbered). m.entry),
        counts_fit ps (a + 1) n rest k.1 rooms.1,
        sum_by-cons (λ (x : ℕ). x) p.room (map (λ (q : PassState). q.room) ps),
      )
