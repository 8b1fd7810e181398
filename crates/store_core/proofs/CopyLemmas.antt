-- Copies that are the entries of a map, and what a change of the map does to them.
use Rattle.std.proofs.Common.{◌≡◌, ◌≢◌, ℕ, Bool, true, false, cond, not, ◌==◌, ◌||◌, List, [], ◌∷◌, map, filter, Option, Some, None, is_some, unwrap_or, refl, sym, ap, ◌∙◌, arith}
use Rattle.std.specs.BTreeMap.{is_at}
use Rattle.std.specs.Cmp.{unsigned_tied}
use Rattle.std.specs.List.{list_any}
use Rattle.std.specs.Map.{lookup, remove_entry}
use Rattle.std.specs.Ordering.{nat_cmp}
use Rattle.std.proofs.lemmas.Bool.{eqb-true}
use Rattle.std.proofs.lemmas.Bool.Decides.{nat_tests}
use Rattle.std.proofs.lemmas.Map.Entries.{lookup-filter-keys}
use Rattle.std.proofs.lemmas.Option.{none-some}
use Rattle.pager_model.specs.Regions.{in_range}
use Rattle.pager_model.specs.Stored.{Copy, Stored, copy_in, copy_at, keeps_at, zero_words, SameCopies, SetsCopy, DropsCopies, TellsZero}
use Rattle.store_core.specs.MemoryState.{copies_of, stored_copies}

-- the entries of a map from pages to words
abbrev pub Entries : Type 0
Entries = List (ℕ × Option (List ℕ))

-- what the map has at a page
abbrev pub look : Entries → ℕ → Option (Option (List ℕ))
look es page = lookup (is_at (nat_cmp page)) es

-- the words of a page are what the map has there, else zero
pub copy_in_entries : (page : ℕ) (es : Entries) → copy_in (copies_of es) page ≡ unwrap_or (look es page) (Some zero_words)
copy_in_entries page [] = refl
copy_in_entries page (e ∷ es) = rw (copy_in_entries page es, unsigned_tied page e.0)
    (found (page == e.0) e.1 (look es page) (Some zero_words))
  where
    found : (b : Bool) (x : Option (List ℕ)) (rest : Option (Option (List ℕ))) (d : Option (List ℕ))
        → cond b x (unwrap_or rest d) ≡ unwrap_or (cond b (Some x) rest) d
    found true x rest d = refl
    found false x rest d = refl

-- a page is among those of the entries where the map has it
pub kept_entries : (page : ℕ) (es : Entries) → list_any (λ p. page == p) (map (λ c. c.page) (copies_of es)) ≡ is_some (look es page)
kept_entries page [] = refl
kept_entries page (e ∷ es) = rw (kept_entries page es, unsigned_tied page e.0) (found (page == e.0) e.1 (look es page))
  where
    found : (b : Bool) (x : Option (List ℕ)) (rest : Option (Option (List ℕ))) → (b || is_some rest) ≡ is_some (cond b (Some x) rest)
    found true x rest = refl
    found false x rest = refl

-- the same of a store with these copies
copy_at-look : (copies : List Copy) (faults : ℕ) (es : Entries) → copies_of es ≡ copies
    → (page : ℕ) → copy_at (stored_copies copies faults) page ≡ unwrap_or (look es page) (Some zero_words)
unfolding copy_at
copy_at-look copies faults es is page = ap (λ cs. copy_in cs page) (sym is) ∙ copy_in_entries page es

pub keeps_at-look : (copies : List Copy) (faults : ℕ) (es : Entries) → copies_of es ≡ copies
    → (page : ℕ) → keeps_at (stored_copies copies faults) page ≡ is_some (look es page)
unfolding keeps_at
keeps_at-look copies faults es is page = ap (λ cs. list_any (λ p. page == p) (map (λ c. c.page) cs)) (sym is) ∙ kept_entries page es

-- a store with the same copies
pub same_copies : (copies more : List Copy) (faults rose : ℕ) → more ≡ copies
    → SameCopies (stored_copies copies faults) (stored_copies more rose)
unfolding copy_at keeps_at
same_copies copies more faults rose is = record {
  tells = refl;
  copies = λ _ p. ap (λ cs. copy_in cs p) is;
  keeps = λ p. ap (λ cs. list_any (λ q. p == q) (map (λ c. c.page) cs)) is;
}

-- a store that tells no copy of its own tells that all are zero
pub tells_zero : (copies : List Copy) (faults : ℕ) → copies ≡ [] → TellsZero (stored_copies copies faults)
unfolding copy_at
tells_zero copies faults none = record { tells = refl; zero = λ p. ap (λ cs. copy_in cs p) none }

-- a store's copies are the entries es, and after a change of the map the entries fs
module _ (copies : List Copy) (faults rose : ℕ) (es fs : Entries) (was : copies_of es ≡ copies) where
  abbrev before : Stored
  before = stored_copies copies faults

  abbrev after : Stored
  after = stored_copies (copies_of fs) rose

  -- an update at a page sets its copy, and keeps it
  pub sets_copy : (page : ℕ) (copy : Option (List ℕ)) → ((p : ℕ) → look fs p ≡ cond (is_at (nat_cmp page) p) (Some copy) (look es p))
      → SetsCopy page copy before after × (keeps_at after page ≡ true)
  sets_copy page copy updates = (record { tells = refl; copies = λ _ p. sets p; keeps = keeps; others = others }, here)
    where
      at : (p : ℕ) → look fs p ≡ cond (p == page) (Some copy) (look es p)
      at p = updates p ∙ ap (λ b. cond b (Some copy) (look es p)) (unsigned_tied page p ∙ grind (arith, nat_tests))

      chosen : (b : Bool) (rest : Option (Option (List ℕ))) (d : Option (List ℕ))
          → unwrap_or (cond b (Some copy) rest) d ≡ cond b copy (unwrap_or rest d)
      chosen true rest d = refl
      chosen false rest d = refl

      sets : (p : ℕ) → copy_at after p ≡ cond (p == page) copy (copy_at before p)
      sets p = rw (copy_at-look (copies_of fs) rose fs refl p, copy_at-look copies faults es was p, at p)
          (chosen (p == page) (look es p) (Some zero_words))

      kept : (b : Bool) (rest : Option (Option (List ℕ))) → is_some rest ≡ true → is_some (cond b (Some copy) rest) ≡ true
      kept true rest h = refl
      kept false rest h = h

      keeps : (p : ℕ) → keeps_at before p ≡ true → keeps_at after p ≡ true
      keeps p h = rw (keeps_at-look (copies_of fs) rose fs refl p, at p)
          (kept (p == page) (look es p) (sym (keeps_at-look copies faults es was p) ∙ h))

      others : (p : ℕ) → p ≢ page → keeps_at after p ≡ keeps_at before p
      others p apart =
          let off : (p == page) ≡ false = grind (arith, nat_tests)
          in rw (keeps_at-look (copies_of fs) rose fs refl p, keeps_at-look copies faults es was p, at p, off) refl

      here : keeps_at after page ≡ true
      here =
          let on : (page == page) ≡ true = grind (arith, nat_tests)
          in rw (keeps_at-look (copies_of fs) rose fs refl page, at page, on) refl

  -- what is left without the pages of a range has dropped their copies
  pub drops_copies : (first len : ℕ) → fs ≡ filter (λ e. not (in_range first len e.0)) es → rose ≡ faults
      → DropsCopies first len before after
  drops_copies first len left same = record { tells = refl; copies = λ _ p. drops p; keeps = keeps; faults = same }
    where
      at : (p : ℕ) → look fs p ≡ cond (not (in_range first len p)) (look es p) None
      at p =
          ap (λ xs. look xs p) left
          ∙ lookup-filter-keys (is_at (nat_cmp p)) (λ k. not (in_range first len k)) (not (in_range first len p))
          (λ k h. ap (λ q. not (in_range first len q)) (sym (eqb-true p k (sym (unsigned_tied p k) ∙ h)))) es

      chosen : (b : Bool) (rest : Option (Option (List ℕ))) (d : Option (List ℕ))
          → unwrap_or (cond (not b) rest None) d ≡ cond b d (unwrap_or rest d)
      chosen true rest d = refl
      chosen false rest d = refl

      drops : (p : ℕ) → copy_at after p ≡ cond (in_range first len p) (Some zero_words) (copy_at before p)
      drops p = rw (copy_at-look (copies_of fs) rose fs refl p, copy_at-look copies faults es was p, at p)
          (chosen (in_range first len p) (look es p) (Some zero_words))

      keeps : (p : ℕ) → in_range first len p ≡ false → keeps_at after p ≡ keeps_at before p
      keeps p off = rw (keeps_at-look (copies_of fs) rose fs refl p, keeps_at-look copies faults es was p, at p, off) refl

-- what a test of the pages leaves of the entries
pub copies_of_filter : (p : ℕ → Bool) (es : Entries) → copies_of (filter (λ e. p e.0) es) ≡ filter (λ c. p c.page) (copies_of es)
copies_of_filter p [] = refl
copies_of_filter p (e ∷ es) = kept (p e.0) e _ _ (copies_of_filter p es)
  where
    kept : (b : Bool) (e : ℕ × Option (List ℕ)) (rest : Entries) (copies : List Copy) → copies_of rest ≡ copies
        → copies_of (cond b (e ∷ rest) rest) ≡ cond b (record { page = e.0; words = e.1 } ∷ copies) copies
    kept true e rest copies h = ap (λ more. record { page = e.0; words = e.1 } ∷ more) h
    kept false e rest copies h = h

-- taking out a page that a test refuses leaves what passes it
pub filter_without : (test p : ℕ → Bool) (es : Entries) → ((page : ℕ) → test page ≡ true → p page ≡ false)
    → filter (λ e. p e.0) (remove_entry test es) ≡ filter (λ e. p e.0) es
filter_without test p [] refused = refl
filter_without test p (e ∷ es) refused = without (test e.0) (remove_entry test es) (refused e.0) (filter_without test p es refused)
  where
    without : (b : Bool) (left : Entries) → (b ≡ true → p e.0 ≡ false) → filter (λ f. p f.0) left ≡ filter (λ f. p f.0) es
        → filter (λ f. p f.0) (cond b es (e ∷ left)) ≡ cond (p e.0) (e ∷ filter (λ f. p f.0) es) (filter (λ f. p f.0) es)
    without true left refuses same = sym (ap (λ c. cond c (e ∷ filter (λ f. p f.0) es) (filter (λ f. p f.0) es)) (refuses refl))
    without false left refuses same = ap (λ fs. cond (p e.0) (e ∷ fs) fs) same

-- where the map has no page that a test refuses, all entries pass it
pub filter_whole : (p : ℕ → Bool) (es : Entries) → ((page : ℕ) → p page ≡ false → look es page ≡ None) → filter (λ e. p e.0) es ≡ es
filter_whole p [] none = refl
filter_whole p (e ∷ es) none = passes (p e.0) refl (filter_whole p es
    (λ page refused. later (is_at (nat_cmp page) e.0) (look es page) (none page refused)))
  where
    here : is_at (nat_cmp e.0) e.0 ≡ true
    here = unsigned_tied e.0 e.0 ∙ grind (arith, nat_tests)

    later : (b : Bool) (x : Option (Option (List ℕ))) → cond b (Some e.1) x ≡ None → x ≡ None
    later true x h = absurd (none-some e.1 (sym h))
    later false x h = h

    passes : (b : Bool) → p e.0 ≡ b → filter (λ f. p f.0) es ≡ es → cond b (e ∷ filter (λ f. p f.0) es) (filter (λ f. p f.0) es) ≡ e ∷ es
    passes true is rest = ap (λ fs. e ∷ fs) rest
    passes false is rest = absurd (none-some e.1 (sym (none e.0 is) ∙ ap (λ b. cond b (Some e.1) (look es e.0)) here))
