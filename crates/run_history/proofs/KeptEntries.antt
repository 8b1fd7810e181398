-- Entries with their places, and what stays of them when one more is kept.
use Rattle.std.proofs.Common.{◌≡◌, ◌+◌, ◌-◌, ◌≤◌, ◌<◌, ◌⊎◌, ℕ, zero, suc, inl, inr, List, [], ◌∷◌, ◌++◌, length, get_or, map, count_by, None, Some, refl, sym, ap, subst, Bool, ◌∙◌, append_assoc, arith, if◌then◌else◌, All}
use Rattle.std.specs.List.{slice_get}
use Rattle.std.specs.Option.{option_map}
use Rattle.std.proofs.lemmas.List.{length-append, length-map, length_push, map-append, get_or_append_left, append-nil}
use Rattle.std.proofs.lemmas.List.Elements.{All-nil, All-push, All-head, All-tail, All-weaker}
use Rattle.std.proofs.lemmas.List.Sums.{fold-append}
use Rattle.std.proofs.lemmas.Option.{slice_get-map, slice_get_past, slice_get_read}
use Rattle.pager_model.specs.declared.entry.Entry.{Entry}
use Rattle.pager_model.specs.declared.entry.Numbered.{Numbered}
use Rattle.pager_model.specs.Counts.{hits_in, misses_in, is_hit_in, is_miss_in}
use Rattle.pager_model.specs.Legal.{entries_in}
use Rattle.run_history.specs.declared.Accesses.{Accesses}
use Rattle.run_history.specs.declared.brief.Brief.{Brief}
use Rattle.run_history.specs.declared.brief.Said.{Said}
use Rattle.run_history.specs.declared.brief.Said.TheVariants.{Whole}
use Rattle.run_history.specs.Briefs.{FitsIn, Keeps, entry_by, entry_of, no_entry, fits}
use Rattle.run_history.specs.Kept.{IsKept, AreCounted, placed_from, items_in}

pub length-placed : (n : ℕ) (es : List Entry) → length (placed_from n es) ≡ length es
unfolding placed_from
length-placed n [] = refl
length-placed n (e ∷ es) = ap suc (length-placed (suc n) es)

-- an entry's place is the number of those before it
pub get-placed : (n : ℕ) (es : List Entry) (i : ℕ) → slice_get (placed_from n es) i ≡ option_map
    (λ e. record { number = n + i; entry = e }) (slice_get es i)
unfolding placed_from
get-placed n [] i = refl
get-placed n (e ∷ es) zero = ap (λ k. Some (record { number = k; entry = e })) (omega arith)
get-placed n (e ∷ es) (suc i) = get-placed (suc n) es i ∙ ap (λ k. option_map (λ x. record { number = k; entry = x }) (slice_get es i))
    (omega arith)

placed-push : (n : ℕ) (es : List Entry) (e : Entry)
    → placed_from n (es ++ e ∷ []) ≡ placed_from n es ++ record { number = n + length es; entry = e } ∷ []
unfolding placed_from
placed-push n [] e = ap (λ k. record { number = k; entry = e } ∷ []) (omega arith)
placed-push n (x ∷ es) e =
    ap (λ rest. record { number = n; entry = x } ∷ rest)
    (placed-push (suc n) es e ∙ ap (λ k. placed_from (suc n) es ++ record { number = k; entry = e } ∷ []) (omega arith))

-- of two lists a place is of the first
pub slice_get-append_left : {A : Type 0} (xs ys : List A) (i : ℕ) → i < length xs → slice_get (xs ++ ys) i ≡ slice_get xs i
slice_get-append_left [] ys i h = absurd (omega (arith, h))
slice_get-append_left (x ∷ xs) ys zero h = refl
slice_get-append_left (x ∷ xs) ys (suc i) h = slice_get-append_left xs ys i (omega (arith, h))

-- behind the first list a place is counted from its end
pub slice_get-append_right : {A : Type 0} (xs ys : List A) (i : ℕ) → length xs ≤ i → slice_get (xs ++ ys) i ≡ slice_get ys (i - length xs)
slice_get-append_right [] ys i h = ap (slice_get ys) (omega arith)
slice_get-append_right (x ∷ xs) ys zero h = absurd (omega arith)
slice_get-append_right (x ∷ xs) ys (suc i) h = slice_get-append_right xs ys i (omega arith) ∙ ap (slice_get ys) (omega arith)

-- an entry kept whole behind the others leaves those of earlier briefs as they were
entry_by-more : (whole : List Entry) (e : Entry) (c space : ℕ) (said : Said) → fits (length whole) said
    → entry_by (whole ++ e ∷ []) c space said ≡ entry_by whole c space said
entry_by-more whole e c space (Whole place) fit = ap (λ (w : Entry). record w { processor = c })
    (get_or_append_left whole (e ∷ []) no_entry place fit)
entry_by-more whole e c space said fit = refl

fits-more : (n : ℕ) (said : Said) → fits n said → fits (n + 1) said
fits-more n (Whole place) fit = omega arith
fits-more n said fit = fit

map-more : (whole : List Entry) (e : Entry) (bs : List Brief) → All (FitsIn (length whole)) bs
    → map (entry_of (whole ++ e ∷ [])) bs ≡ map (entry_of whole) bs
map-more whole e [] fit = refl
map-more whole e (b ∷ bs) fit =
    let first : entry_of (whole ++ e ∷ []) b ≡ entry_of whole b = entry_by-more whole e b.processor b.space b.said
    (All-head (FitsIn (length whole)) b bs fit) in
    let rest : map (entry_of (whole ++ e ∷ [])) bs ≡ map (entry_of whole) bs =
    map-more whole e bs (All-tail (FitsIn (length whole)) b bs fit) in
    cc

-- what stays of earlier briefs, where a later entry is kept
record Stays (before after : List Entry) (bs : List Brief) : Type 0 where
  entries : map (entry_of after) bs ≡ map (entry_of before) bs
  fit : All (FitsIn (length after)) bs
  few : length after ≤ length bs + 1

stays : (before after : List Entry) (bs : List Brief) (e : Entry) → IsKept before bs → (after ≡ before) ⊎ (after ≡ before ++ e ∷ [])
    → Stays before after bs
stays before after bs e kept (inl same) = subst (λ l. Stays before l bs) (sym same)
    (record { entries = refl; fit = kept.fit; few = omega (arith, kept.few) })
stays before after bs e kept (inr more) =
    let long : length (before ++ e ∷ []) ≡ length before + 1 = length_push before e in
    subst (λ l. Stays before l bs) (sym more) (record {
      entries = map-more before e bs kept.fit;
      fit = All-weaker (FitsIn (length before)) (FitsIn (length (before ++ e ∷ [])))
          (λ b fit. rw long (fits-more (length before) b.said fit)) bs kept.fit;
      few = omega (arith, kept.few);
    })

pub IsKept-push : (before after : List Entry) (bs : List Brief) (e : Entry) (b : Brief) → IsKept before bs → Keeps e before after b
    → IsKept after (bs ++ b ∷ [])
IsKept-push before after bs e b kept keeps =
    let still = stays before after bs e kept keeps.grown in
    record {
      fit = All-push (FitsIn (length after)) bs b still.fit keeps.fits;
      few = omega (arith, still.few, length_push bs b);
    }

-- the entry comes behind the others, with its place
pub items_in-push : (listed : List Numbered) (before after : List Entry) (bs : List Brief) (e : Entry) (b : Brief) → IsKept before bs
    → Keeps e before after b → items_in listed after (bs ++ b ∷ []) ≡ items_in listed before bs ++ record {
      number = length
          (items_in listed before bs);
      entry = e;
    } ∷ []
items_in-push listed before after bs e b kept keeps =
    let es = map (entry_of before) bs in
    let n = length listed in
    let still = stays before after bs e kept keeps.grown in
    let one : entry_of after b ≡ e = keeps.entry in
    let same : map (entry_of after) bs ≡ es = still.entries in
    let all : map (entry_of after) (bs ++ b ∷ []) ≡ es ++ e ∷ [] = map-append (entry_of after) bs (b ∷ []) ∙ (cc) in
    let place : n + length es ≡ length (items_in listed before bs) = omega
    (arith, length-append listed (placed_from n es), length-placed n es) in
    ap (λ l. listed ++ placed_from n l) all
    ∙ ap (λ l. listed ++ l) (placed-push n es e)
    ∙ ap (λ k. listed ++ (placed_from n es ++ record { number = k; entry = e } ∷ [])) place
    ∙ sym (append_assoc listed (placed_from n es) (record { number = length (items_in listed before bs); entry = e } ∷ []))

pub length-items : (listed : List Numbered) (whole : List Entry) (bs : List Brief)
    → length (items_in listed whole bs) ≡ length listed + length bs
length-items listed whole bs =
    let es = map (entry_of whole) bs in
    omega (arith, length-append listed (placed_from (length listed) es), length-placed (length listed) es, length-map bs (entry_of whole))

-- the entry at a place behind those that were listed is its brief's, and behind the last brief there is none
pub item_at : (listed : List Numbered) (whole : List Entry) (bs : List Brief) (i : ℕ) (b : Brief) → length listed ≤ i
    → i - length listed < length bs → b ≡ get_or bs (i - length listed) b
    → slice_get (items_in listed whole bs) i ≡ Some (record { number = i; entry = entry_of whole b })
item_at listed whole bs i b past within is =
    let es = map (entry_of whole) bs in
    let place = i - length listed in
    slice_get-append_right listed (placed_from (length listed) es) i past
    ∙ get-placed (length listed) es place
    ∙ ap (option_map (λ e. record { number = length listed + place; entry = e })) (slice_get-map (entry_of whole) bs place)
    ∙ ap (λ o. option_map (λ e. record { number = length listed + place; entry = e }) (option_map (entry_of whole) o))
    (slice_get_read bs (length bs) place b refl within is)
    ∙ ap (λ n. Some (record { number = n; entry = entry_of whole b })) {y = i} (omega arith)

pub item_past : (listed : List Numbered) (whole : List Entry) (bs : List Brief) (i : ℕ) → length bs ≤ i - length listed → length listed ≤ i
    → slice_get (items_in listed whole bs) i ≡ None
item_past listed whole bs i none past = slice_get_past (items_in listed whole bs) i (omega (arith, length-items listed whole bs))

-- one entry more among the counted
count-push : {A : Type 0} (p : A → Bool) (xs : List A) (x : A) → count_by p (xs ++ x ∷ []) ≡ count_by p xs + (if p x then 1 else 0)
count-push p xs x = fold-append (λ n y. n + (if p y then 1 else 0)) 0 xs (x ∷ [])

-- where there is no brief yet
pub IsKept-none : (whole : List Entry) (bs : List Brief) → whole ≡ [] → bs ≡ [] → IsKept whole bs
IsKept-none whole bs none new =
    subst (λ w. IsKept w bs) (sym none)
    (subst (λ b. IsKept [] b) (sym new) (record { fit = All-nil (FitsIn 0); few = omega arith }))

pub items_in-none : (listed : List Numbered) (whole : List Entry) (bs : List Brief) → bs ≡ [] → items_in listed whole bs ≡ listed
unfolding placed_from
items_in-none listed whole bs new = ap (λ b. items_in listed whole b) new ∙ append-nil listed

-- what was counted, and one entry more
pub AreCounted-push : (before after : Accesses) (items more : List Numbered) (n : Numbered) → AreCounted before items
    → more ≡ items ++ n ∷ [] → after.hits ≡ before.hits + (if is_hit_in n.entry.what then 1 else 0)
    → after.misses ≡ before.misses + (if is_miss_in n.entry.what then 1 else 0) → AreCounted after more
AreCounted-push before after items more n counted is hits misses =
    let es = entries_in items in
    let all : entries_in more ≡ es ++ n.entry ∷ [] = ap entries_in is ∙ map-append (λ (n : Numbered). n.entry) items (n ∷ []) in
    record {
      hits = hits ∙ ap (λ k. k + (if is_hit_in n.entry.what then 1 else 0)) counted.hits
          ∙ sym (count-push (λ (e : Entry). is_hit_in e.what) es n.entry) ∙ sym (ap hits_in all);
      misses = misses ∙ ap (λ k. k + (if is_miss_in n.entry.what then 1 else 0)) counted.misses
          ∙ sym (count-push (λ (e : Entry). is_miss_in e.what) es n.entry) ∙ sym (ap misses_in all);
    }
