-- A refusal changes nothing that a space shows.
use Rattle.std.proofs.Common.{◌≡◌, ◌≢◌, ℕ, Bool, true, false, if◌then◌else◌, List, Option, Some, None, is_some, option_map, refl, sym, ap, ◌∙◌, ◌||◌, subst}
use Rattle.std.proofs.lemmas.Bool.{cond-false, true≢false, and_parts}
use Rattle.std.proofs.lemmas.Option.{none-some, same_Some}
use Rattle.pager_model.specs.declared.call.Call.{Call}
use Rattle.pager_model.specs.declared.call.Call.TheVariants.{Map, Grow, Unmap, Protect, Load, Store, Sync, Evict, Discard, Wire, Unwire}
use Rattle.pager_model.specs.declared.entry.What.TheVariants.{Answer}
use Rattle.pager_model.specs.declared.region.Region.{Region}
use Rattle.pager_model.specs.declared.reply.Reply.{Reply}
use Rattle.pager_model.specs.declared.reply.Reply.TheVariants.{Done, Unmapped, Denied, Overlap, OutOfSpace, NotGrowing, RegionsFull, NoMemory}
use Rattle.pager_model.specs.declared.tile.Tile.{Tile}
use Rattle.pager_model.specs.Images.{is_in_image, images_with}
use Rattle.pager_model.specs.Flat.{Flat, reply_of, is_lawful, after_call, access_reply, page_of, can_read, can_write}
use Rattle.pager_model.specs.Order.{is_plain, is_no_memory, is_unmapped, is_answered_alone, is_refusal as is_denial}
use Rattle.pager_model.specs.Regions.{region_at, map_reply, grow_reply, grow_reply_at, rights_by}
use Rattle.pager_model.specs.SpaceStates.{SpaceState, answered_flat, ReplyAllowed, access_page, pages_of, pages_after, tile_at, space_after}
use Rattle.pager_model.proofs.SpaceEntries.{base-unnamed, frees-unlawful, said-unlawful, served-unlawful}
use Rattle.pager_model.specs.Stores.{IsCopy}
use Rattle.pager_laws.proofs.FlatRefusals.{after_refusal}
use Rattle.space_core.specs.Beginning.{BeginsAnswered, NeedsNoFrame}
use Rattle.space_core.specs.Standing.{Kept, StandsFor, IsResting, CanBegin, is_allowed, rights_at}
use Rattle.pager_model.specs.CallEntries.{answer_entry}
use Rattle.pager_model.specs.Stored.{copy_at}
use Rattle.space_core.specs.Pages.{permits}
use Rattle.space_core.specs.Tables.{mapping_in, own_in}
use Rattle.space_core.proofs.Translations.{stays, said_same}

-- the refusals of a call that needs no frame and no store
abbrev pub is_refusal : Reply → Bool
is_refusal Unmapped = true
is_refusal Denied = true
is_refusal Overlap = true
is_refusal OutOfSpace = true
is_refusal NotGrowing = true
is_refusal RegionsFull = true
is_refusal reply = false

refusal-lawful : (r : Reply) → is_refusal r ≡ true → is_lawful r ≡ false
refusal-lawful Unmapped h = refl
refusal-lawful Denied h = refl
refusal-lawful Overlap h = refl
refusal-lawful OutOfSpace h = refl
refusal-lawful NotGrowing h = refl
refusal-lawful RegionsFull h = refl
refusal-lawful r h = cc

answered_refused : (f : Flat) (call : Call) (r : Reply) → is_refusal r ≡ true → reply_of f call ≡ r
    → answered_flat f call r ≡ after_call f call
answered_refused f call Unmapped h e = refl
answered_refused f call Denied h e = refl
answered_refused f call Overlap h e = refl
answered_refused f call OutOfSpace h e = refl
answered_refused f call NotGrowing h e = refl
answered_refused f call RegionsFull h e = refl
answered_refused f call r h e = cc

allowed_refused : (st : SpaceState) (c : ℕ) (call : Call) (r : Reply) → is_refusal r ≡ true → reply_of st.flat call ≡ r
    → ReplyAllowed st c call r
allowed_refused st c call Unmapped h e = (e, λ l. cc)
allowed_refused st c call Denied h e = (e, λ l. cc)
allowed_refused st c call Overlap h e = (e, λ l. cc)
allowed_refused st c call OutOfSpace h e = (e, λ l. cc)
allowed_refused st c call NotGrowing h e = (e, λ l. cc)
allowed_refused st c call RegionsFull h e = (e, λ l. cc)
allowed_refused st c call r h e = cc

plain_refusal : (r : Reply) → is_refusal r ≡ true → is_plain r ≡ true
plain_refusal Unmapped h = refl
plain_refusal Denied h = refl
plain_refusal Overlap h = refl
plain_refusal OutOfSpace h = refl
plain_refusal NotGrowing h = refl
plain_refusal RegionsFull h = refl
plain_refusal r h = cc

-- an unmap and a wire are refused by one reply alone, a discard and an unwire by two
abbrev pub IsAlone : Call → Reply → Type 0
IsAlone (Unmap space page) r = r ≡ Unmapped
IsAlone (Discard space page len) r = is_denial r ≡ true
IsAlone (Wire space page) r = r ≡ Unmapped
IsAlone (Unwire space page) r = is_denial r ≡ true
IsAlone call r = Unit {0}

alone_from : (call : Call) (r : Reply) → CanBegin call → is_refusal r ≡ true → IsAlone call r → is_answered_alone call r ≡ true
alone_from (Map space page len kind rights) r can h a = plain_refusal r h
alone_from (Grow space page by) r can h a = plain_refusal r h
alone_from (Unmap space page) r can h a = ap is_unmapped a
alone_from (Protect space page len rights) r can h a = plain_refusal r h
alone_from (Load space address) r can h a = plain_refusal r h
alone_from (Store space address word) r can h a = plain_refusal r h
alone_from (Sync space page) r can h a = ap (λ b. b || is_no_memory r) (plain_refusal r h)
alone_from (Evict space page) r can h a = ap (λ b. b || is_no_memory r) (plain_refusal r h)
alone_from (Discard space page len) r can h a = a
alone_from (Wire space page) r can h a = ap is_unmapped a
alone_from (Unwire space page) r can h a = a

no_memory_refused : (r : Reply) → is_refusal r ≡ true → r ≢ NoMemory
no_memory_refused r h e = true≢false (sym h ∙ ap is_refusal e)

pub begins_refused : (old : Kept) (c : ℕ) (call : Call) (r : Reply) → CanBegin call → IsResting old → is_refusal r ≡ true → IsAlone call r
    → ((st : SpaceState) → StandsFor old st → reply_of st.flat call ≡ r)
    → BeginsAnswered old old c call (record { reply = r; hit = false; size = None })
begins_refused old c call r can resting refused alone asked =
    record {
      alone = alone_from call r can refused alone;
      same_number = refl;
      same_frames = refl;
      same_processors = refl;
      unread = refl;
      unfailed = refl;
      resting = resting;
      answers = record {
        allowed = λ st s number. record {
          reply = allowed_refused st c call r refused (asked st s);
          parts = frees-unlawful st call r (refusal-lawful r refused);
          hit = ap (λ o. is_in_image (st.images c) (tile_at st.sizes (pages_of st) o))
              (sym (served-unlawful call r (refusal-lawful r refused)));
          size = ap (λ o. option_map (λ (t : Tile). t.extent.size) (tile_at st.sizes (pages_after st false (Answer number call (record {
            reply = r;
            hit = false;
            size = None;
          }))) o)) (sym (served-unlawful call r (refusal-lawful r refused)));
        };
        stands = λ st s number.
            let after = space_after st (answer_entry c number call (record { reply = r; hit = false; size = None })) in
            let e = answered_refused st.flat call r refused (asked st s) in
            let u = after_refusal st.flat call (ap is_lawful (asked st s) ∙ refusal-lawful r refused) in
            let is : (p : ℕ) → pages_of after p ≡ mapping_in old.table p = λ p.
            said_same st after p (ap (λ f. f.regions) e ∙ u.regions) (ap (λ f. f.rights p) e ∙ u.rights p)
            (ap (λ f. f.dirty p) e ∙ u.dirty p) (base-unnamed st.base call p) ∙ s.pages p in
            record {
              beside = record {
                regions = ap (λ f. f.regions) e ∙ u.regions ∙ s.beside.regions;
                rights = λ p has. ap (λ f. f.rights p) e ∙ u.rights p ∙ s.beside.rights p has;
                dirty = λ p out. ap (λ f. f.dirty p) e ∙ u.dirty p ∙ s.beside.dirty p out;
                told = λ tells. let w = s.beside.told tells in record {
                  tells = w.tells;
                  words = λ p i out. ap (λ f. f.words p i) e ∙ u.words p i ∙ w.words p i out;
                  copies = λ p out staying. subst (λ (o : Option (ℕ → ℕ)). IsCopy o (copy_at old.store p))
                      (sym (ap (λ f. f.copies p) e ∙ u.copies p)) (w.copies p out staying);
                  copied = w.copied;
                };
                tied = λ p i word said. s.beside.tied p i word
                    (sym (said-unlawful p i call r (st.tied p i) (refusal-lawful r refused)) ∙ said);
                untied = λ p i pending. said-unlawful p i call r (st.tied p i) (refusal-lawful r refused) ∙ s.beside.untied p i pending;
                highest = s.beside.highest;
              };
              base = λ p. base-unnamed st.base call p ∙ s.base p;
              pages = is;
              translates = stays old old st after c
                  (record {
                    stands = s;
                    follows = record {
                      sizes = refl;
                      images = ap (λ o. images_with st.sizes (pages_of after) c (tile_at st.sizes (pages_of after) o) st.images)
                          (served-unlawful call r (refusal-lawful r refused));
                      promotions = refl;
                      demotions = refl;
                    };
                    pages = is;
                  })
                  (record { sizes = refl; images = refl; promotions = refl; demotions = refl }) (λ p. refl);
            };
      };
      memory = λ lacking. absurd (no_memory_refused r refused lacking);
    }

access_denied : (o : Option Region) (allowed : Bool) (reply : Reply) → is_some o ≡ true → allowed ≡ false
    → access_reply o allowed reply ≡ Denied
access_denied None allowed reply has refused = cc
access_denied (Some r) allowed reply has refused = cond-false _ _ _ refused

pub rights_here : (old : Kept) (q page : ℕ) (r : Region) → q ≡ page → region_at old.regions page ≡ Some r
    → (is_some (region_at old.regions q) ≡ true) × (rights_at old q ≡ rights_by (own_in old.table page) (Some r))
rights_here old q page r same at = rw same (ap is_some at, ap (rights_by (own_in old.table page)) at)

-- an access without the right is denied
pub begins_denied : (old : Kept) (c : ℕ) (call : Call) (page : ℕ) (r : Region) → CanBegin call → IsResting old
    → access_page call ≡ Some page → region_at old.regions page ≡ Some r → permits (rights_by (own_in old.table page) (Some r)) call ≡ false
    → BeginsAnswered old old c call (record { reply = Denied; hit = false; size = None })
begins_denied old c (Load space address) page r can resting is at refused =
    let here = rights_here old (page_of address) page r (same_Some _ _ is) at in
    begins_refused old c (Load space address) Denied can resting refl tt (λ st s.
    access_denied _ _ _ (ap (λ rs. is_some (region_at rs (page_of address))) s.beside.regions ∙ here.0)
    (ap can_read (s.beside.rights (page_of address) here.0 ∙ here.1) ∙ refused))
begins_denied old c (Store space address word) page r can resting is at refused =
    let here = rights_here old (page_of address) page r (same_Some _ _ is) at in
    begins_refused old c (Store space address word) Denied can resting refl tt (λ st s.
    access_denied _ _ _ (ap (λ rs. is_some (region_at rs (page_of address))) s.beside.regions ∙ here.0)
    (ap can_write (s.beside.rights (page_of address) here.0 ∙ here.1) ∙ refused))
begins_denied old c call page r can resting is at refused = absurd (none-some page is)

-- an access to a page without a region is unmapped
access_unmapped : (o : Option Region) (allowed : Bool) (reply : Reply) → o ≡ None → access_reply o allowed reply ≡ Unmapped
access_unmapped None allowed reply none = refl
access_unmapped (Some r) allowed reply none = absurd (none-some r (sym none))

pub begins_unmapped : (old : Kept) (c : ℕ) (call : Call) (page : ℕ) → CanBegin call → IsResting old → access_page call ≡ Some page
    → region_at old.regions page ≡ None → BeginsAnswered old old c call (record { reply = Unmapped; hit = false; size = None })
begins_unmapped old c (Load space address) page can resting is none =
    begins_refused old c (Load space address) Unmapped can resting refl tt (λ st s.
    access_unmapped _ _ _ (ap (λ rs. region_at rs (page_of address)) s.beside.regions ∙ ap (region_at old.regions) (same_Some _ _ is)
    ∙ none))
begins_unmapped old c (Store space address word) page can resting is none =
    begins_refused old c (Store space address word) Unmapped can resting refl tt (λ st s.
    access_unmapped _ _ _ (ap (λ rs. region_at rs (page_of address)) s.beside.regions ∙ ap (region_at old.regions) (same_Some _ _ is)
    ∙ none))
begins_unmapped old c call page can resting is none = absurd (none-some page is)

-- and neither needs a frame, as an access that isn't allowed
allowed_at : (kept : Kept) (call : Call) (page : ℕ) → access_page call ≡ Some page → is_allowed kept call ≡ true
    → (is_some (region_at kept.regions page) ≡ true) × (permits (rights_at kept page) call ≡ true)
allowed_at kept (Load space address) page is allowed =
    subst (λ p. (is_some (region_at kept.regions p) ≡ true) × (permits (rights_at kept p) (Load space address) ≡ true)) (same_Some _ _ is)
    (and_parts _ _ allowed)
allowed_at kept (Store space address word) page is allowed =
    subst (λ p. (is_some (region_at kept.regions p) ≡ true) × (permits (rights_at kept p) (Store space address word) ≡ true))
    (same_Some _ _ is) (and_parts _ _ allowed)
allowed_at kept call page is allowed = absurd (none-some page is)

pub unmapped_needs_none : (kept : Kept) (call : Call) (page : ℕ) → access_page call ≡ Some page → region_at kept.regions page ≡ None
    → NeedsNoFrame kept call
unmapped_needs_none kept call page is none allowed = absurd (true≢false (sym (allowed_at kept call page is allowed).0 ∙ ap is_some none))

pub denied_needs_none : (kept : Kept) (call : Call) (page : ℕ) (r : Region) → access_page call ≡ Some page
    → region_at kept.regions page ≡ Some r → permits (rights_by (own_in kept.table page) (Some r)) call ≡ false → NeedsNoFrame kept call
denied_needs_none kept call page r is at refused allowed =
    absurd (true≢false (sym (allowed_at kept call page is allowed).1 ∙ ap (λ o. permits (rights_by (own_in kept.table page) o) call) at
    ∙ refused))

refused_if : (b : Bool) (x y : Reply) → is_refusal x ≡ true → (y ≢ Done → is_refusal y ≡ true) → (if b then x else y) ≢ Done
    → is_refusal (if b then x else y) ≡ true
refused_if true x y hx hy n = hx
refused_if false x y hx hy n = hy n

-- a map and a growth that aren't done are refused
pub map_refused : (rs : List Region) (page len : ℕ) → map_reply rs page len ≢ Done → is_refusal (map_reply rs page len) ≡ true
map_refused rs page len =
    refused_if _ OutOfSpace _ refl (refused_if _ Overlap _ refl (refused_if _ RegionsFull Done refl (λ n. absurd (n refl))))

grow_refused_at : (rs : List Region) (by : ℕ) (o : Option Region) → grow_reply_at rs by o ≢ Done → is_refusal (grow_reply_at rs by o) ≡ true
grow_refused_at rs by None n = refl
grow_refused_at rs by (Some r) n =
    refused_if _ NotGrowing _ refl (refused_if _ OutOfSpace _ refl (refused_if _ Overlap Done refl (λ n. absurd (n refl)))) n

pub grow_refused : (rs : List Region) (page by : ℕ) → grow_reply rs page by ≢ Done → is_refusal (grow_reply rs page by) ≡ true
grow_refused rs page by = grow_refused_at rs by (region_at rs page)
