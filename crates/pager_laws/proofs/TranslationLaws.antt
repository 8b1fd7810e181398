-- Laws of tiles and images, whatever a space keeps.
use Rattle.std.proofs.Common.{◌≡◌, ℕ, Bool, true, false, ◌==◌, List, Option, Some, None, inl, inr, refl, sym, subst, ◌∙◌}
use Rattle.std.proofs.lemmas.Bool.{cases_Bool, false≢true}
use Rattle.pager_model.specs.declared.call.Call.{Call}
use Rattle.pager_model.specs.declared.call.Call.TheVariants.{Map, Grow, Unmap, Protect, Load, Store, Sync, Evict, Discard, Wire, Unwire}
use Rattle.pager_model.specs.declared.entry.Entry.{Entry}
use Rattle.pager_model.specs.declared.entry.What.{What}
use Rattle.pager_model.specs.declared.entry.What.TheVariants.{Answer}
use Rattle.pager_model.specs.declared.region.Region.{Region}
use Rattle.pager_model.specs.declared.reply.Answered.{Answered}
use Rattle.pager_model.specs.declared.reply.Reply.{Reply}
use Rattle.pager_model.specs.declared.reply.Reply.TheVariants.{Value, NoFrames, StoreFault, NoMemory, Busy}
use Rattle.pager_model.specs.declared.tile.Mapping.{Mapping}
use Rattle.pager_model.specs.declared.tile.Tile.{Tile}
use Rattle.pager_model.specs.Entries.{names_space}
use Rattle.pager_model.specs.Images.{is_in_image, still_tiles}
use Rattle.pager_model.specs.Legal.{IsLegal, space_at}
use Rattle.pager_model.specs.Regions.{region_at}
use Rattle.pager_model.specs.Settings.{Given}
use Rattle.pager_model.specs.SpaceStates.{SpaceState, SpaceAllows, WhatAllowed, ReplyAllowed, IsClearedAt, IsPinnedAt, pages_of, pages_after, served_page, tile_at, used_tile, space_after}
use Rattle.pager_model.specs.SizeSets.{SizeSet}
use Rattle.pager_model.specs.Tiles.{tile_in}
use Rattle.pager_model.proofs.Histories.{space_at-named, space_at-other, IsLegal-keeps}
use Rattle.pager_laws.specs.Hits.{HasHit, retiled}
use Rattle.pager_laws.proofs.ImageTiles.{IsUsed, still_again, touched_if, used_at}

-- Images.

used_served : (z : SizeSet) (pages : ℕ → Option Mapping) (served : Option ℕ) → IsUsed z pages (tile_at z pages served)
used_served z pages None = tt
used_served z pages (Some page) = used_at z pages page (tile_in z pages page) refl

used_by : (z : SizeSet) (pages : ℕ → Option Mapping) (what : What) → IsUsed z pages (used_tile z pages what)
used_by z pages (Answer number call answered) = used_served z pages (served_page call answered.reply)
used_by z pages what = tt

-- the images have tiles of the pages alone
abbrev HaveTiles : SpaceState → Type 0
HaveTiles st = (c : ℕ) → still_tiles st.sizes (pages_of st) (st.images c) ≡ st.images c

HaveTiles-after : (st : SpaceState) (e : Entry) → HaveTiles (space_after st e)
HaveTiles-after st e c =
    let pages = pages_after st e.frames e.what in
    touched_if st.sizes pages (c == e.processor) (used_tile st.sizes pages e.what) (still_tiles st.sizes pages (st.images c))
    (used_by st.sizes pages e.what) (still_again st.sizes pages (st.images c))

pub HaveTiles-legal : (g : Given) (history : List Entry) (s : ℕ) → IsLegal g history → HaveTiles (space_at g history s)
HaveTiles-legal g history s legal =
    IsLegal-keeps g (λ h. HaveTiles (space_at g h s))
    (λ before e have may.
    elim (cases_Bool (names_space s e)) [
      | inl named ↦ subst HaveTiles (sym (space_at-named g before e s named)) (HaveTiles-after (space_at g before s) e)
      | inr other ↦ subst HaveTiles (sym (space_at-other g before e s other)) have
    ])
    (λ c. refl) history legal

-- Hits.

hit_of : (st : SpaceState) (c : ℕ) (served : Option ℕ) → is_in_image (st.images c) (tile_at st.sizes (pages_of st) served) ≡ true
    → HasHit st c served
hit_of st c None hit = absurd (false≢true hit)
hit_of st c (Some page) hit = of_tile (tile_in st.sizes (pages_of st) page) refl hit
  where
    of_tile : (o : Option Tile) → tile_in st.sizes (pages_of st) page ≡ o → is_in_image (st.images c) o ≡ true → HasHit st c (Some page)
    of_tile None at is = absurd (false≢true is)
    of_tile (Some t) at is = record { tile = t; at = at; in_image = is }

pub HasHit-answer : (st : SpaceState) (e : Entry) (number : ℕ) (call : Call) (a : Answered) → SpaceAllows st e
    → e.what ≡ Answer number call a → a.hit ≡ true → HasHit st e.processor (served_page call a.reply)
HasHit-answer st e number call a allowed what hit =
    let answer = subst (WhatAllowed st e.frames e.processor) what allowed.1 in
    hit_of st e.processor (served_page call a.reply) (sym answer.hit ∙ hit)

-- Replies.

module _ (st : SpaceState) (images : ℕ → List Tile) (promotions demotions : ℕ) where
  same_cleared : (c : ℕ) (o : Option Region) → IsClearedAt st c o → IsClearedAt (retiled st images promotions demotions) c o
  same_cleared c None is = is
  same_cleared c (Some r) is = record { next = is.next; none = is.none }

  same_pinned : (c : ℕ) (wired : Bool) (o : Option Region) → IsPinnedAt st c wired o
      → IsPinnedAt (retiled st images promotions demotions) c wired o
  same_pinned c wired None is = is
  same_pinned c wired (Some r) is = is

  pub same_replies : (c : ℕ) (call : Call) (reply : Reply) → ReplyAllowed st c call reply
      → ReplyAllowed (retiled st images promotions demotions) c call reply
  same_replies c (Unmap space page) (NoFrames wired claimed held) allowed = allowed
  same_replies c (Unmap space page) (StoreFault at count) allowed = allowed
  same_replies c (Unmap space page) NoMemory allowed = allowed
  same_replies c (Unmap space page) (Busy at) allowed = allowed
  same_replies c (Unmap space page) (Value word) allowed =
      (allowed.0, λ lawful. same_cleared c (region_at st.flat.regions page) (allowed.1 lawful))
  same_replies c (Unmap space page) reply allowed =
      (allowed.0, λ lawful. same_cleared c (region_at st.flat.regions page) (allowed.1 lawful))
  same_replies c (Map space page len kind rights) NoMemory allowed = allowed
  same_replies c (Map space page len kind rights) reply allowed = allowed
  same_replies c (Grow space page by) NoMemory allowed = allowed
  same_replies c (Grow space page by) reply allowed = allowed
  same_replies c (Protect space page len rights) NoMemory allowed = allowed
  same_replies c (Protect space page len rights) reply allowed = allowed
  same_replies c (Load space address) NoMemory allowed = allowed
  same_replies c (Load space address) reply allowed = allowed
  same_replies c (Store space address word) NoMemory allowed = allowed
  same_replies c (Store space address word) reply allowed = allowed
  same_replies c (Sync space page) NoMemory allowed = allowed
  same_replies c (Sync space page) reply allowed = allowed
  same_replies c (Evict space page) NoMemory allowed = allowed
  same_replies c (Evict space page) reply allowed = allowed
  same_replies c (Discard space page len) NoMemory allowed = allowed
  same_replies c (Discard space page len) reply allowed = allowed
  same_replies c (Wire space page) (NoFrames wired claimed held) allowed = allowed
  same_replies c (Wire space page) (StoreFault at count) allowed = allowed
  same_replies c (Wire space page) NoMemory allowed = allowed
  same_replies c (Wire space page) (Busy at) allowed = allowed
  same_replies c (Wire space page) (Value word) allowed =
      (allowed.0, λ lawful. same_pinned c true (region_at st.flat.regions page) (allowed.1 lawful))
  same_replies c (Wire space page) reply allowed =
      (allowed.0, λ lawful. same_pinned c true (region_at st.flat.regions page) (allowed.1 lawful))
  same_replies c (Unwire space page) (NoFrames wired claimed held) allowed = allowed
  same_replies c (Unwire space page) (StoreFault at count) allowed = allowed
  same_replies c (Unwire space page) NoMemory allowed = allowed
  same_replies c (Unwire space page) (Busy at) allowed = allowed
  same_replies c (Unwire space page) (Value word) allowed =
      (allowed.0, λ lawful. same_pinned c false (region_at st.flat.regions page) (allowed.1 lawful))
  same_replies c (Unwire space page) reply allowed =
      (allowed.0, λ lawful. same_pinned c false (region_at st.flat.regions page) (allowed.1 lawful))
