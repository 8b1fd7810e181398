-- What a space stands for page by page: what is seen the same of a page stands as before.
use Rattle.std.proofs.Common.{nat_lt, ◌≡◌, ◌≢◌, ℕ, ◌≤◌, Bool, true, false, ◌&&◌, if◌then◌else◌, Option, Some, None, is_some, length, refl, sym, ap, inl, inr, ◌∙◌, arith, subst}
use Rattle.std.proofs.lemmas.Bool.{cases_Bool, cases_eq, cond-true, cond-false, cond_both}
use Rattle.pager_model.specs.Options.{is_that}
use Rattle.pager_model.specs.declared.page_range.PageRange.{PageRange}
use Rattle.pager_model.specs.Regions.{region_at}
use Rattle.pager_model.specs.SpaceStates.{SpaceState, Rises, pages_of}
use Rattle.pager_model.specs.Stores.{IsCopy}
use Rattle.pager_model.specs.Stored.{copy_at}
use Rattle.space_core.specs.Beginning.{SameRegions}
use Rattle.space_core.specs.Standing.{Kept, StandsBeside, StandsFor, Translates, IsCopied, IsResting, frame_at, rights_at, dirty_at, is_in, is_settled, is_behind, word_at, word_in_copy}
use Rattle.space_core.specs.Tables.{mapping_in, word_in, own_in}
use Rattle.space_core.specs.Translating.{ChangesPages}
use Rattle.space_core.proofs.Translations.{Follows, Still, same_translates, stays}

-- the space with another's table of pages, its images and its counts of moves
abbrev pub with_pages_of : Kept → Kept → Kept
with_pages_of other kept =
    record kept { table = other.table; images = other.images; promotions = other.promotions; demotions = other.demotions }

-- the space as its fields are, which is what contracts see of it
abbrev pub as_fields : {fields seen : Kept} → fields ≡ seen → Kept
as_fields {fields} is = fields

-- what a space and a state have in common of one page, but for its frame
pub record BesideAt (aside : Bool) (kept : Kept) (st : SpaceState) (p : ℕ) : Type 0 where
  pub dirty : aside ≡ false → st.flat.dirty p ≡ dirty_at kept p
  pub words : st.told ≡ true → aside ≡ false → (i : ℕ) → st.flat.words p i ≡ word_at kept p i
  pub copies : st.told ≡ true → aside ≡ false → is_that p kept.paged ≡ false → IsCopy (st.flat.copies p) (copy_at kept.store p)
  pub copied : st.told ≡ true → aside ≡ false → is_behind kept p ≡ false → IsCopied kept p
  pub tied : (i word : ℕ) → st.tied p i ≡ Some word → is_settled kept p ≡ true → word_in kept.table p i ≡ word
  pub untied : (i : ℕ) → is_that p kept.pending ≡ true → st.tied p i ≡ None

beside_at : (aside : ℕ → Bool) (kept : Kept) (st : SpaceState) → StandsBeside aside kept st → (p : ℕ) → BesideAt (aside p) kept st p
beside_at aside kept st s p =
    record {
      dirty = s.dirty p;
      words = λ told out i. (s.told told).words p i out;
      copies = λ told. (s.told told).copies p;
      copied = λ told. (s.told told).copied p;
      tied = s.tied p;
      untied = s.untied p;
    }

-- what is seen of no one page is the same, and the count of faults isn't lower
pub record SameWhole (old new : Kept) : Type 0 where
  pub regions : new.regions ≡ old.regions
  pub rights : (p : ℕ) → rights_at new p ≡ rights_at old p
  pub tells : new.store.tells ≡ old.store.tells
  pub faults : old.store.faults ≤ new.store.faults

-- what a state has of no one page is the same
pub record SameRest (old new : SpaceState) : Type 0 where
  pub regions : new.flat.regions ≡ old.flat.regions
  pub rights : (p : ℕ) → new.flat.rights p ≡ old.flat.rights p
  pub told : new.told ≡ old.told

-- a space stands for a state where each page does, and the regions and their rights are the same
pub beside_each : (aside : ℕ → Bool) (kept : Kept) (st : SpaceState) → st.flat.regions ≡ kept.regions
    → ((p : ℕ) → is_some (region_at kept.regions p) ≡ true → st.flat.rights p ≡ rights_at kept p)
    → (st.told ≡ true → kept.store.tells ≡ true)
    → st.highest ≤ kept.store.faults → ((p : ℕ) → BesideAt (aside p) kept st p) → StandsBeside aside kept st
beside_each aside kept st regions rights tells highest at =
    record {
      regions = regions;
      rights = rights;
      dirty = λ p. (at p).dirty;
      told = λ told. record {
        tells = tells told;
        words = λ p i out. (at p).words told out i;
        copies = λ p. (at p).copies told;
        copied = λ p. (at p).copied told;
      };
      tied = λ p. (at p).tied;
      untied = λ p. (at p).untied;
      highest = highest;
    }

pub beside_from : (aside : ℕ → Bool) (old new : Kept) (st after : SpaceState) → SameWhole old new → SameRest st after
    → after.highest ≤ new.store.faults
    → StandsBeside aside old st → ((p : ℕ) → BesideAt (aside p) new after p) → StandsBeside aside new after
beside_from aside old new st after same rest highest s at =
    beside_each aside new after (rest.regions ∙ s.regions ∙ sym same.regions)
    (λ p has. rest.rights p ∙ s.rights p (ap (λ rs. is_some (region_at rs p)) (sym same.regions) ∙ has) ∙ sym (same.rights p))
    (λ told. same.tells ∙ (s.told (sym rest.told ∙ told)).tells) highest at

-- the page is seen the same
pub record SameAt (old new : Kept) (p : ℕ) : Type 0 where
  pub frame : frame_at new p ≡ frame_at old p
  pub dirty : dirty_at new p ≡ dirty_at old p
  pub pending : is_that p new.pending ≡ is_that p old.pending
  pub paged : is_that p new.paged ≡ is_that p old.paged
  pub word : (i : ℕ) → is_settled old p ≡ true → word_in new.table p i ≡ word_in old.table p i
  pub copy : old.store.tells ≡ true → copy_at new.store p ≡ copy_at old.store p

-- a state has the same of the page
pub record SameStateAt (old new : SpaceState) (p : ℕ) : Type 0 where
  pub dirty : new.flat.dirty p ≡ old.flat.dirty p
  pub words : (i : ℕ) → new.flat.words p i ≡ old.flat.words p i
  pub copies : new.flat.copies p ≡ old.flat.copies p
  pub tied : (i : ℕ) → new.tied p i ≡ old.tied p i

-- a resident page that isn't pending is settled
pub settled_from : (kept : Kept) (p : ℕ) → frame_at kept p ≢ None → kept.pending ≡ None → is_settled kept p ≡ true
settled_from kept p resident none = rw none (is_there (frame_at kept p) resident)
  where
    is_there : (o : Option ℕ) → o ≢ None → (is_some o && true) ≡ true
    is_there None n = absurd (n refl)
    is_there (Some x) n = refl

same_settled : (old new : Kept) (p : ℕ) → SameAt old new p → is_settled new p ≡ is_settled old p
same_settled old new p same = rw (same.frame, same.pending) refl

same_word : (old new : Kept) (p : ℕ) → SameAt old new p → old.store.tells ≡ true → (i : ℕ) → word_at new p i ≡ word_at old p i
same_word old new p same tells i =
    let settled = same_settled old new p same in
    elim (cases_Bool (is_settled old p)) [
      | inl is ↦ cond-true _ _ _ (settled ∙ is) ∙ same.word i is ∙ sym (cond-true _ _ _ is)
      | inr isnt ↦ cond-false _ _ _ (settled ∙ isnt) ∙ ap (λ copy. word_in_copy copy i) (same.copy tells) ∙ sym (cond-false _ _ _ isnt)
    ]

-- a page stands as before where it is seen the same
pub same_at : (aside : ℕ → Bool) (old new : Kept) (st after : SpaceState) → StandsBeside aside old st → after.told ≡ st.told → (p : ℕ)
    → SameAt old new p → SameStateAt st after p → BesideAt (aside p) new after p
same_at aside old new st after s same_told p same state =
    let was = beside_at aside old st s p in
    let tells : after.told ≡ true → old.store.tells ≡ true = λ told. (s.told (sym same_told ∙ told)).tells in
    record {
      dirty = λ out. state.dirty ∙ was.dirty out ∙ sym same.dirty;
      words = λ told out i. state.words i ∙ was.words (sym same_told ∙ told) out i ∙ sym (same_word old new p same (tells told) i);
      copies = λ told out paged. rw (state.copies, same.copy (tells told)) (was.copies (sym same_told ∙ told) out (sym same.paged ∙ paged));
      copied = λ told out behind.
          let copied = was.copied (sym same_told ∙ told) out (rw (sym same.dirty, sym same.paged) behind) in
          record {
            words = copied.words;
            known = same.copy (tells told) ∙ copied.known;
            equal = λ i. same_word old new p same (tells told) i ∙ copied.equal i;
          };
      tied = λ i word tied settled.
          let was_settled = sym (same_settled old new p same) ∙ settled in
          same.word i was_settled ∙ was.tied i word (sym (state.tied i) ∙ tied) was_settled;
      untied = λ i pending. state.tied i ∙ was.untied i (sym same.pending ∙ pending);
    }

-- A space that is seen the same on every page stands for a state with the same of every page, whose highest count may have risen.
pub raised_stands : (old new : Kept) (st after : SpaceState) → SameWhole old new → new.clearing ≡ old.clearing → SameRest st after
    → after.highest ≤ new.store.faults
    → ((p : ℕ) → SameAt old new p) → ((p : ℕ) → SameStateAt st after p) → ((p : ℕ) → after.base p ≡ st.base p)
    → StandsFor old st → ((p : ℕ) → pages_of after p ≡ mapping_in new.table p) → Translates new after → StandsFor new after
raised_stands old new st after same clearing rest within at unmoved base s pages translates =
    record {
      beside =
          subst (λ (r : Option PageRange). StandsBeside (is_in r) new after) (sym clearing)
          (beside_from (is_in old.clearing) old new st after same rest within s.beside
          (λ p. same_at (is_in old.clearing) old new st after s.beside rest.told p (at p) (unmoved p)));
      base = λ p. base p ∙ s.base p ∙ sym ((at p).frame);
      pages = pages;
      translates = translates;
    }

pub same_stands : (old new : Kept) (st : SpaceState) → SameWhole old new → new.clearing ≡ old.clearing → ((p : ℕ) → SameAt old new p)
    → ((p : ℕ) → mapping_in new.table p ≡ mapping_in old.table p) → Still old new → StandsFor old st → StandsFor new st
same_stands old new st same clearing at mapping still s =
    raised_stands old new st st same clearing (record { regions = refl; rights = λ p. refl; told = refl })
    (omega (arith, s.beside.highest, same.faults)) at
    (λ p. record {
      dirty = refl;
      words = λ i. refl;
      copies = refl;
      tied = λ i. refl;
    }) (λ p. refl) s (λ p. s.pages p ∙ sym (mapping p)) (same_translates old new st still s.translates)

-- an entry that changes nothing but who makes the next one
pub next_stands : (k : Kept) (st after : SpaceState) (c : ℕ) → SameRest st after → ((p : ℕ) → SameStateAt st after p)
    → ((p : ℕ) → after.base p ≡ st.base p) → after.highest ≡ st.highest
    → ((p : ℕ) → pages_of after p ≡ pages_of st p) → Follows st after c None → StandsFor k st → StandsFor k after
next_stands k st after c rest at base highest pages follows s =
    let is : (p : ℕ) → pages_of after p ≡ mapping_in k.table p = λ p. pages p ∙ s.pages p in
    raised_stands k k st after (record {
      regions = refl;
      rights = λ p. refl;
      tells = refl;
      faults = omega arith;
    }) refl rest (omega (arith, highest, s.beside.highest))
    (λ p. record { frame = refl; dirty = refl; pending = refl; paged = refl; word = λ i _. refl; copy = λ _. refl }) at base s is
    (stays k k st after c (record {
      stands = s;
      follows = follows;
      pages = is;
    }) (record { sizes = refl; images = refl; promotions = refl; demotions = refl }) (λ p. refl))

-- A space where one page changed stands for a state where nothing but that page did.
pub one_stands : (old new : Kept) (st after : SpaceState) (page : ℕ) → SameWhole old new → new.clearing ≡ old.clearing → SameRest st after
    → after.highest ≤ new.store.faults
    → ((p : ℕ) → p ≢ page → SameAt old new p) → ((p : ℕ) → p ≢ page → SameStateAt st after p)
    → ((p : ℕ) → p ≢ page → after.base p ≡ st.base p)
    → StandsFor old st → BesideAt (is_in old.clearing page) new after page → after.base page ≡ frame_at new page
    → ((p : ℕ) → pages_of after p ≡ mapping_in new.table p) → Translates new after → StandsFor new after
one_stands old new st after page same clearing rest highest at state base s here resident pages translates =
    record {
      beside =
          subst (λ (r : Option PageRange). StandsBeside (is_in r) new after) (sym clearing)
          (beside_from (is_in old.clearing) old new st after same rest highest s.beside (λ p. elim (cases_eq p page) [
            | inl e ↦ rw e here
            | inr n ↦ same_at (is_in old.clearing) old new st after s.beside rest.told p (at p n) (state p n)
          ]));
      base = λ p. elim (cases_eq p page) [
        | inl e ↦ rw e resident
        | inr n ↦ base p n ∙ s.base p ∙ sym ((at p n).frame)
      ];
      pages = pages;
      translates = translates;
    }

-- a count that rises over the store's is above each fault that was told
pub rises_told : (highest before count : ℕ) → highest ≤ before → Rises before count → Rises highest count
rises_told highest before count within rises = elim rises [ inl l ↦ inl (omega arith) | inr e ↦ inr e ]

-- the highest count stays within the store's
pub within_faults : (highest count faults : ℕ) → highest ≤ faults → count ≡ faults
    → (if nat_lt highest count then count else highest) ≤ faults
within_faults highest count faults within is =
    cond_both (nat_lt highest count) count highest (λ n. n ≤ faults) (λ _. omega arith) (λ _. within)

-- the space's number, its regions and their rights are the same where the table's own rights are
pub same_regions : (old new : Kept) → new.number ≡ old.number → new.frames ≡ old.frames → length new.images ≡ length old.images
    → new.regions ≡ old.regions → ((p : ℕ) → own_in new.table p ≡ own_in old.table p) → SameRegions old new
same_regions old new number frames processors regions own =
    record { number = number; frames = frames; processors = processors; regions = regions; rights = λ p. rw (own p, regions) refl }

-- A resting space has no page that is set aside, pending or being evicted.
module _ (old : Kept) (resting : IsResting old) where
  pub none_in : (p : ℕ) → is_in old.clearing p ≡ false
  none_in p = ap (λ (r : Option PageRange). is_in r p) resting.none_clearing

  pub none_pending : (p : ℕ) → is_that p old.pending ≡ false
  none_pending p = ap (is_that p) resting.none_pending

  pub none_paged : (p : ℕ) → is_that p old.paged ≡ false
  none_paged p = ap (is_that p) resting.none_paged

-- What a space keeps whose pages, images and counts of moves alone changed.
module _ (old new : Kept) (changes : ChangesPages old new) where
  pub changed_resting : IsResting old → IsResting new
  changed_resting resting =
      record {
        none_pending = ap (λ (k : Kept). k.pending) changes ∙ resting.none_pending;
        none_clearing = ap (λ (k : Kept). k.clearing) changes ∙ resting.none_clearing;
        none_paged = ap (λ (k : Kept). k.paged) changes ∙ resting.none_paged;
      }

  module _ (own : (p : ℕ) → own_in new.table p ≡ own_in old.table p) where
    pub changed_regions : length new.images ≡ length old.images → SameRegions old new
    changed_regions processors =
        same_regions old new (ap (λ (k : Kept). k.number) changes) (ap (λ (k : Kept). k.frames) changes) processors
        (ap (λ (k : Kept). k.regions) changes) own

    pub changed_whole : SameWhole old new
    changed_whole =
        record {
          regions = ap (λ (k : Kept). k.regions) changes;
          rights = λ p. rw (own p, ap (λ (k : Kept). k.regions) changes) refl;
          tells = ap (λ (k : Kept). k.store.tells) changes;
          faults = omega (arith, ap (λ (k : Kept). k.store.faults) changes);
        }
