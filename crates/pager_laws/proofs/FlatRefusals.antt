-- A refused call changes nothing in the flat memory.
use Rattle.std.proofs.Common.{◌≡◌, ℕ, Bool, true, false, if◌then◌else◌, List, [], ◌∷◌, Option, Some, None, not, refl, sym, ap, inl, inr, ◌∙◌}
use Rattle.std.proofs.lemmas.Bool.{cases_Bool, cond-true, cond-false}
use Rattle.std.proofs.lemmas.Option.{none-some}
use Rattle.pager_model.specs.declared.call.Call.{Call}
use Rattle.pager_model.specs.declared.call.Call.TheVariants.{Map, Grow, Unmap, Protect, Load, Store, Sync, Evict, Discard, Wire, Unwire}
use Rattle.pager_model.specs.declared.region.Region.{Region}
use Rattle.pager_model.specs.declared.reply.Reply.TheVariants.{Done, Unmapped}
use Rattle.pager_model.specs.Flat.{Flat, reply_of, is_lawful, after_call}
use Rattle.pager_model.specs.Regions.{has_page, region_at, range_in, without_region, pinned_regions, unmap_reply_at, wire_reply_at}

-- the same regions, and each page with the same rights, words, copy and flag
pub record Unmoved (f g : Flat) : Type 0 where
  pub regions : g.regions ≡ f.regions
  pub rights : (p : ℕ) → g.rights p ≡ f.rights p
  pub words : (p i : ℕ) → g.words p i ≡ f.words p i
  pub copies : (p : ℕ) → g.copies p ≡ f.copies p
  pub dirty : (p : ℕ) → g.dirty p ≡ f.dirty p

-- no region has the page, so none goes
without-none : (page : ℕ) (rs : List Region) → region_at rs page ≡ None → without_region page rs ≡ rs
without-none page [] h = refl
without-none page (r ∷ rs) h =
    elim (cases_Bool (has_page page r)) [
      | inl has ↦ absurd (none-some r (sym h ∙ cond-true _ _ _ has))
      | inr hasnt ↦ cond-true _ _ _ (ap not hasnt) ∙ ap (λ xs. r ∷ xs) (without-none page rs (sym (cond-false _ _ _ hasnt) ∙ h))
    ]

-- and none is pinned
pinned-none : (page : ℕ) (pinned : Bool) (rs : List Region) → region_at rs page ≡ None → pinned_regions page pinned rs ≡ rs
pinned-none page pinned [] h = refl
pinned-none page pinned (r ∷ rs) h =
    elim (cases_Bool (has_page page r)) [
      | inl has ↦ absurd (none-some r (sym h ∙ cond-true _ _ _ has))
      | inr hasnt ↦
          ap (λ q. q ∷ pinned_regions page pinned rs) (cond-false (has_page page r) (record r { pinned = pinned }) r hasnt)
          ∙ ap (λ xs. r ∷ xs) (pinned-none page pinned rs (sym (cond-false _ _ _ hasnt) ∙ h))
    ]

unwired-none : (o : Option Region) → is_lawful (wire_reply_at o) ≡ false → o ≡ None
unwired-none None h = refl
unwired-none (Some r) h = cc

unmapped-none : (o : Option Region) → is_lawful (unmap_reply_at o) ≡ false → o ≡ None
unmapped-none None h = refl
unmapped-none (Some r) h = cc

range_refused : (b : Bool) → is_lawful (if b then Done else Unmapped) ≡ false → b ≡ false
range_refused true h = cc
range_refused false h = refl

pub after_refusal : (f : Flat) (call : Call) → is_lawful (reply_of f call) ≡ false → Unmoved f (after_call f call)
after_refusal f (Map space page len kind rights) h =
    record { regions = cond-false _ _ _ h; rights = λ p. rw h refl; words = λ p i. refl; copies = λ p. refl; dirty = λ p. refl }
after_refusal f (Grow space page by) h =
    record { regions = cond-false _ _ _ h; rights = λ p. cond-false _ _ _ h; words = λ p i. refl; copies = λ p. refl; dirty = λ p. refl }
after_refusal f (Unmap space page) h =
    let none = unmapped-none (region_at f.regions page) h in
    record {
      regions = without-none page f.regions none;
      rights = λ p. refl;
      words = λ p i. rw none refl;
      copies = λ p. rw none refl;
      dirty = λ p. rw none refl;
    }
after_refusal f (Protect space page len rights) h =
    let out = range_refused (range_in page len (region_at f.regions page)) h in
    record { regions = refl; rights = λ p. rw out refl; words = λ p i. refl; copies = λ p. refl; dirty = λ p. refl }
after_refusal f (Load space address) h =
    record { regions = refl; rights = λ p. refl; words = λ p i. refl; copies = λ p. refl; dirty = λ p. refl }
after_refusal f (Store space address word) h =
    record { regions = refl; rights = λ p. refl; words = λ p i. rw h refl; copies = λ p. refl; dirty = λ p. rw h refl }
after_refusal f (Sync space page) h =
    record { regions = refl; rights = λ p. refl; words = λ p i. refl; copies = λ p. rw h refl; dirty = λ p. rw h refl }
after_refusal f (Evict space page) h =
    record { regions = refl; rights = λ p. refl; words = λ p i. refl; copies = λ p. rw h refl; dirty = λ p. rw h refl }
after_refusal f (Discard space page len) h =
    record { regions = refl; rights = λ p. refl; words = λ p i. rw h refl; copies = λ p. rw h refl; dirty = λ p. rw h refl }
after_refusal f (Wire space page) h =
    record {
      regions = pinned-none page true f.regions (unwired-none (region_at f.regions page) h);
      rights = λ p. refl;
      words = λ p i. refl;
      copies = λ p. refl;
      dirty = λ p. refl;
    }
after_refusal f (Unwire space page) h =
    record { regions = cond-false _ _ _ h; rights = λ p. refl; words = λ p i. refl; copies = λ p. refl; dirty = λ p. refl }
