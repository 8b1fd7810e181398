-- What an answer did to what is followed, where it is lawful, and where it isn't.
use Rattle.std.proofs.Common.{◌≡◌, ℕ, Bool, true, false, ◌&&◌, ◌==◌, if◌then◌else◌, Option, Some, None, is_some, option_map, refl, sym, ap, inl, inr, ◌∙◌, subst}
use Rattle.std.proofs.lemmas.Bool.{ne_eqb, eq-eqb, cond-true, cond-false, true≢false}
use Rattle.pager_model.specs.declared.call.Call.{Call}
use Rattle.pager_model.specs.declared.call.Call.TheVariants.{Load, Store, Sync, Evict}
use Rattle.pager_model.specs.declared.entry.Entry.{Entry}
use Rattle.pager_model.specs.declared.reply.Reply.{Reply}
use Rattle.pager_model.specs.Flat.{Flat, after_call, reply_of, is_lawful, page_of}
use Rattle.pager_model.specs.Regions.{region_at}
use Rattle.pager_model.specs.SpaceStates.{SpaceState, HasItsPages, ReplyAllowed, answered_flat, base_after, base_after_answer, flat_after, space_after}
use Rattle.pager_model.specs.Tiles.{mapping_with}
use Rattle.pager_laws.proofs.CopyLaws.{answer_is, answered_same, same_base, unlawful}
use Rattle.pager_laws.proofs.FlatRefusals.{Unmoved, after_refusal}
use Rattle.followed_space.specs.Follows.{AnswersBy, Followed, Follows, IsNext, Keeps, MapsOne, Serves}
use Rattle.followed_space.proofs.Keeping.{keeps_one, keeps_flag, keeps_same}
use Rattle.tiles.specs.Resident.{mapping_at, with_flag}

-- What is known of a lawful answer: the call did in the flat memory what it does.
pub record Served (st : SpaceState) (e : Entry) (call : Call) : Type 0 where
  pub flat : flat_after st.flat e.what ≡ after_call st.flat call
  pub asked : is_lawful (reply_of st.flat call) ≡ true
  pub pages : HasItsPages st e.processor call
  pub base : (p : ℕ) → base_after st.base e.frames e.what p ≡ base_after_answer st.base e.frames call p

pub served : (kept : Followed) (st : SpaceState) (e : Entry) (call : Call) → Serves e call → IsNext kept st e → Served st e call
served kept st e call by next =
    let allowed = rw by.is at next.allowed.1 in
    elim (answer_is st e.processor call by.answered.reply allowed.reply) [
      | inl without ↦ absurd (true≢false (sym by.lawful ∙ unlawful by.answered.reply without))
      | inr is ↦ record {
        flat = rw by.is is.does;
        asked = sym is.lawful ∙ by.lawful;
        pages = is.pages by.lawful;
        base = rw by.is (λ p. refl);
      }
    ]

-- A refusal, and an answer for want of a frame, of a store or of memory, changes nothing.

still : (st : SpaceState) (c : ℕ) (call : Call) (r : Reply) → is_lawful r ≡ false → ReplyAllowed st c call r
    → Unmoved st.flat (answered_flat st.flat call r)
still st c call r h allowed =
    elim (answer_is st c call r allowed) [
      | inl without ↦
          subst (Unmoved st.flat) (sym (answered_same st.flat call r without))
          (record { regions = refl; rights = λ p. refl; words = λ p i. refl; copies = λ p. refl; dirty = λ p. refl })
      | inr is ↦ subst (Unmoved st.flat) (sym is.does) (after_refusal st.flat call (sym is.lawful ∙ h))
    ]

pub follows_refused : (kept : Followed) (call : Call) (reply : Reply) → is_lawful reply ≡ false
    → (st : SpaceState) (e : Entry) → AnswersBy e call reply → IsNext kept st e → Follows kept (space_after st e)
follows_refused kept call reply not_lawful st e by next =
    let allowed = rw by.is at next.allowed.1 in
    let r = by.answered.reply in
    let h : is_lawful r ≡ false = ap is_lawful by.reply_is ∙ not_lawful in
    let same = still st e.processor call r h allowed.reply in
    rw by.is (keeps_same kept st.flat (answered_flat st.flat call r) st.base
    (base_after_answer st.base e.frames call) next.follows same.regions same.rights same.dirty
    (same_base st e.frames call r h allowed.parts))

-- Lawful answers of pages.

-- a call that changes no flag and no frame
pub follows_loaded : (kept : Followed) (space address : ℕ)
    → (st : SpaceState) (e : Entry) → Serves e (Load space address) → IsNext kept st e → Follows kept (space_after st e)
follows_loaded kept space address st e by next =
    let s = served kept st e (Load space address) by next in
    subst (λ (g : Flat). Keeps kept g (base_after st.base e.frames e.what)) (sym s.flat)
    (keeps_same kept st.flat (after_call st.flat (Load space address)) st.base (base_after st.base e.frames e.what) next.follows refl
    (λ p. refl) (λ p. refl) s.base)

-- a store makes its page dirty
pub follows_stored : (old new : Followed) (space address word page : ℕ) → page ≡ page_of address
    → MapsOne page (option_map (with_flag true) (mapping_at old.pages page)) old new
    → (st : SpaceState) (e : Entry) → Serves e (Store space address word) → IsNext old st e → Follows new (space_after st e)
follows_stored old new space address word page is moves st e by next =
    let s = served old st e (Store space address word) by next in
    subst (λ (g : Flat). Keeps new g (base_after st.base e.frames e.what)) (sym s.flat)
    (keeps_flag old new st (record st { flat = after_call st.flat (Store space address word); base = base_after st.base e.frames e.what })
    page true next.follows moves refl (λ p. refl) s.base
    (λ p n. rw (s.asked, ← is) (cond-false _ _ _ (ne_eqb p page n))) (rw (s.asked, ← is) (cond-true _ _ _ (eq-eqb page page refl))))

-- a sync makes it clean
pub follows_synced : (old new : Followed) (space page : ℕ)
    → MapsOne page (option_map (with_flag false) (mapping_at old.pages page)) old new
    → (st : SpaceState) (e : Entry) → Serves e (Sync space page) → IsNext old st e → Follows new (space_after st e)
follows_synced old new space page moves st e by next =
    let s = served old st e (Sync space page) by next in
    subst (λ (g : Flat). Keeps new g (base_after st.base e.frames e.what)) (sym s.flat)
    (keeps_flag old new st (record st { flat = after_call st.flat (Sync space page); base = base_after st.base e.frames e.what })
    page false next.follows moves refl (λ p. refl) s.base
    (λ p n. rw s.asked (cond-false _ _ _ (ne_eqb p page n))) (rw s.asked (cond-true _ _ _ (eq-eqb page page refl))))

-- an evict takes the page's frame, if it has one
pub follows_evicted : (old new : Followed) (space page : ℕ) → MapsOne page None old new
    → (st : SpaceState) (e : Entry) → Serves e (Evict space page) → IsNext old st e → Follows new (space_after st e)
follows_evicted old new space page moves st e by next =
    let s = served old st e (Evict space page) by next in
    let allowed = rw by.is at next.allowed.1 in
    let none : base_after st.base e.frames e.what page ≡ None =
    s.base page ∙ none_left e.frames (st.base page) (page == page) (eq-eqb page page refl) (allowed.parts ∙ rw by.lawful refl) in
    subst (λ (g : Flat). Keeps new g (base_after st.base e.frames e.what)) (sym s.flat)
    (keeps_one old new st (record st { flat = after_call st.flat (Evict space page); base = base_after st.base e.frames e.what })
    page None next.follows moves refl (λ p. refl)
    (λ p n. s.base p ∙ cond-false (e.frames && (p == page)) None (st.base p) (rw (ne_eqb p page n) (and_none e.frames)))
    (λ p n. rw s.asked (cond-false _ _ _ (ne_eqb p page n)))
    none (ap (λ o. mapping_with o (region_at st.flat.regions page) (st.flat.rights page)
    ((after_call st.flat (Evict space page)).dirty page)) none))
  where
    none_left : (frames : Bool) (o : Option ℕ) (this : Bool) → this ≡ true → frames ≡ is_some o
        → (if frames && this then None else o) ≡ None
    none_left true o this is has = cond-true _ _ _ is
    none_left false None this is has = refl
    none_left false (Some n) this is has = cc

    and_none : (b : Bool) → (b && false) ≡ false
    and_none true = refl
    and_none false = refl
