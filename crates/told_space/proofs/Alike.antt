-- Two states of a told space that are alike in what an entry is judged by allow the same.
use Rattle.std.proofs.Common.{◌≡◌, ℕ, Bool, true, false, ◌&&◌, is_some, Option, Some, None, refl, sym, ap, subst, ◌∙◌}
use Rattle.pager_model.specs.declared.call.Call.{Call}
use Rattle.pager_model.specs.declared.call.Call.TheVariants.{Map, Grow, Unmap, Protect, Load, Store, Sync, Evict, Discard, Wire, Unwire}
use Rattle.pager_model.specs.declared.region.Region.{Region}
use Rattle.pager_model.specs.declared.reply.Reply.{Reply}
use Rattle.pager_model.specs.declared.reply.Reply.TheVariants.{Done, Value, Clean, Written, Unmapped, Denied, Overlap, OutOfSpace, NotGrowing, RegionsFull, NoFrames, StoreFault, NoMemory, Busy}
use Rattle.pager_model.specs.Flat.{is_lawful, page_of, reply_of}
use Rattle.pager_model.specs.Regions.{region_at}
use Rattle.pager_model.specs.SpaceStates.{SpaceState, HasItsPages, IsAsked, IsClearedAt, IsPinnedAt, IsResident, LacksItsPage, MayFail, ReplyAllowed, access_page, frees_its_page, tied_word, IsWord}

-- Alike for an answer of a call: the flat memory answers the same, and the pages, who goes on, and the images are the same.
pub record AreAlike (one other : SpaceState) (call : Call) : Type 0 where
  pub reply : reply_of one.flat call ≡ reply_of other.flat call
  pub regions : one.flat.regions ≡ other.flat.regions
  pub base : (p : ℕ) → one.base p ≡ other.base p
  pub next : one.next ≡ other.next
  pub told : one.told ≡ true
  pub told_too : other.told ≡ true

pub alike_back : {one other : SpaceState} {call : Call} → AreAlike one other call → AreAlike other one call
alike_back alike = record {
  reply = sym alike.reply;
  regions = sym alike.regions;
  base = λ p. sym (alike.base p);
  next = sym alike.next;
  told = alike.told_too;
  told_too = alike.told;
}

resident : (one other : SpaceState) (call : Call) → AreAlike one other call → (page : ℕ) → IsResident one.base page → IsResident other.base page
resident one other call alike page is = (is.0, sym (alike.base page) ∙ is.1)

lacks : (one other : SpaceState) (call : Call) → AreAlike one other call → (o : Option ℕ) → LacksItsPage one.base o → LacksItsPage other.base o
lacks one other call alike None is = is
lacks one other call alike (Some page) is = sym (alike.base page) ∙ is

cleared : (one other : SpaceState) (call : Call) → AreAlike one other call → (c : ℕ) (o : Option Region) → IsClearedAt one c o → IsClearedAt other c o
cleared one other call alike c None is = is
cleared one other call alike c (Some r) is =
    record { next = sym alike.next ∙ is.next; none = λ p within. sym (alike.base p) ∙ is.none p within }

pinned : (one other : SpaceState) (call : Call) → AreAlike one other call → (c : ℕ) (wired : Bool) (o : Option Region) → IsPinnedAt one c wired o
    → IsPinnedAt other c wired o
pinned one other call alike c wired None is = is
pinned one other call alike c wired (Some r) is = sym alike.next ∙ is

has_pages : (one other : SpaceState) (call : Call) → AreAlike one other call → (c : ℕ) → HasItsPages one c call → HasItsPages other c call
has_pages one other (Load s address) alike c is = resident one other (Load s address) alike (page_of address) is
has_pages one other (Store s address word) alike c is = resident one other (Store s address word) alike (page_of address) is
has_pages one other (Unmap s page) alike c is =
    subst (λ rs. IsClearedAt other c (region_at rs page)) alike.regions
    (cleared one other (Unmap s page) alike c (region_at one.flat.regions page) is)
has_pages one other (Map a b d e f) alike c is = is
has_pages one other (Grow a b d) alike c is = is
has_pages one other (Protect a b d e) alike c is = is
has_pages one other (Sync a b) alike c is = is
has_pages one other (Evict a b) alike c is = is
has_pages one other (Discard s page len) alike c is = λ p within. sym (alike.base p) ∙ is p within
has_pages one other (Wire s page) alike c is =
    subst (λ rs. IsPinnedAt other c true (region_at rs page)) alike.regions
    (pinned one other (Wire s page) alike c true (region_at one.flat.regions page) is)
has_pages one other (Unwire s page) alike c is =
    subst (λ rs. IsPinnedAt other c false (region_at rs page)) alike.regions
    (pinned one other (Unwire s page) alike c false (region_at one.flat.regions page) is)

may_fail : (one other : SpaceState) (call : Call) → AreAlike one other call → MayFail one call → MayFail other call
may_fail one other (Load s address) alike is = is
may_fail one other (Store s address word) alike is = is
may_fail one other (Unmap s page) alike is = is
may_fail one other (Map a b d e f) alike is = is
may_fail one other (Grow a b d) alike is = is
may_fail one other (Protect a b d e) alike is = is
may_fail one other (Sync a b) alike is = sym alike.reply ∙ is
may_fail one other (Evict a b) alike is = sym alike.reply ∙ is
may_fail one other (Discard a b d) alike is = is
may_fail one other (Wire a b) alike is = is
may_fail one other (Unwire a b) alike is = is

-- a word that the flat memory of a told space gives
word_asked : (one other : SpaceState) (call : Call) → AreAlike one other call → (word : ℕ) → IsAsked one call (Value word) → IsAsked other call (Value word)
word_asked one other call alike word is =
    let told : reply_of one.flat call ≡ Value word =
    subst (λ b. IsWord b (reply_of one.flat call) (tied_word one call) word) alike.told is in
    subst (λ b. IsWord b (reply_of other.flat call) (tied_word other call) word) (sym alike.told_too) (sym alike.reply ∙ told)

pub reply_alike : (one other : SpaceState) (call : Call) → AreAlike one other call → (c : ℕ) (reply : Reply) → ReplyAllowed one c call reply
    → ReplyAllowed other c call reply
reply_alike one other call alike c (NoFrames w k h) is =
    (ap is_lawful (sym alike.reply) ∙ is.0, lacks one other call alike (access_page call) is.1)
reply_alike one other call alike c (StoreFault s n) is = may_fail one other call alike is
reply_alike one other call alike c NoMemory is = may_fail one other call alike is
reply_alike one other call alike c (Busy page) is = is
reply_alike one other call alike c (Value word) is = (word_asked one other call alike word is.0, λ lawful. has_pages one other call alike c (is.1 lawful))
reply_alike one other call alike c Done is = (sym alike.reply ∙ is.0, λ lawful. has_pages one other call alike c (is.1 lawful))
reply_alike one other call alike c Clean is = (sym alike.reply ∙ is.0, λ lawful. has_pages one other call alike c (is.1 lawful))
reply_alike one other call alike c Written is = (sym alike.reply ∙ is.0, λ lawful. has_pages one other call alike c (is.1 lawful))
reply_alike one other call alike c Unmapped is = (sym alike.reply ∙ is.0, λ lawful. has_pages one other call alike c (is.1 lawful))
reply_alike one other call alike c Denied is = (sym alike.reply ∙ is.0, λ lawful. has_pages one other call alike c (is.1 lawful))
reply_alike one other call alike c Overlap is = (sym alike.reply ∙ is.0, λ lawful. has_pages one other call alike c (is.1 lawful))
reply_alike one other call alike c OutOfSpace is = (sym alike.reply ∙ is.0, λ lawful. has_pages one other call alike c (is.1 lawful))
reply_alike one other call alike c NotGrowing is = (sym alike.reply ∙ is.0, λ lawful. has_pages one other call alike c (is.1 lawful))
reply_alike one other call alike c RegionsFull is = (sym alike.reply ∙ is.0, λ lawful. has_pages one other call alike c (is.1 lawful))

pub frees_alike : (one other : SpaceState) → ((p : ℕ) → one.base p ≡ other.base p) → (call : Call) (reply : Reply)
    → frees_its_page one call reply ≡ frees_its_page other call reply
frees_alike one other base (Evict s page) reply = ap (λ o. is_lawful reply && is_some o) (base page)
frees_alike one other base (Map a b d e f) reply = refl
frees_alike one other base (Grow a b d) reply = refl
frees_alike one other base (Unmap a b) reply = refl
frees_alike one other base (Protect a b d e) reply = refl
frees_alike one other base (Load a b) reply = refl
frees_alike one other base (Store a b d) reply = refl
frees_alike one other base (Sync a b) reply = refl
frees_alike one other base (Discard a b d) reply = refl
frees_alike one other base (Wire a b) reply = refl
frees_alike one other base (Unwire a b) reply = refl
