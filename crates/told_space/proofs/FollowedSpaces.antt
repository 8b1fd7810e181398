-- What is kept of a space after its next entry.
use Rattle.std.proofs.Common.{◌≡◌, ◌<◌, ℕ, Bool, true, false, ◌==◌, if◌then◌else◌, List, [], length, replicate, unwrap_or, Option, Some, None, refl, sym, ap, ◌∙◌, subst, arith}
use Rattle.std.specs.BTreeMap.{is_at}
use Rattle.std.specs.Map.{lookup}
use Rattle.std.specs.Ordering.{nat_cmp}
use Rattle.std.proofs.lemmas.Bool.{false≢true}
use Rattle.pager_model.proofs.Lists.{get_or-alike}
use Rattle.pager_model.specs.declared.call.Call.{Call}
use Rattle.pager_model.specs.declared.entry.Entry.{Entry}
use Rattle.pager_model.specs.declared.entry.What.{What}
use Rattle.pager_model.specs.declared.entry.What.TheVariants.{Answer, Out, Failed, Take, Give, Clear, Claim, UseHeld, DropHeld, Got, Unclaim, Refused, Pin, Kept as KeptBack, Rest}
use Rattle.pager_model.specs.declared.reply.Answered.{Answered}
use Rattle.pager_model.specs.declared.tile.Mapping.{Mapping}
use Rattle.pager_model.specs.declared.tile.Tile.{Tile}
use Rattle.pager_model.specs.Images.{still_tiles, touched_by}
use Rattle.pager_model.specs.Laws.{KeepsCopies}
use Rattle.pager_model.specs.SizeSets.{SizeSet}
use Rattle.pager_model.specs.SpaceStates as states
use Rattle.pager_model.specs.SpaceStates.{SpaceState, MayGoOn, SpaceAllows, WhatAllowed, empty_state, flat_after, highest_after, next_after, pages_after, served_page, size_after, space_after, tile_at, used_tile}
use Rattle.pager_laws.proofs.ImageTiles.{IsUsed, still_again, touched_if, used_at}
use Rattle.followed_space.specs.Follows.{AnswersBy, AnswersLine, Followed, Follows, IsNext}
use Rattle.tiles.specs.Resident.{mapping_at}
use Rattle.told_space.specs.Told.{AllowsReply, AllowsWhat, HasSize, HasWords, IsNextButSize, IsToldNext, Kept, Stands, key_of}
use Rattle.told_space.specs.Translations.{AreTiles, AreTouched, KeepTiles, image_in}

-- The size of an answer.

what_allowed : (st : SpaceState) (frames : Bool) (c : ℕ) (what : What) → AllowsWhat st frames c what
    → HasSize what (used_tile st.sizes (pages_after st frames what) what) → WhatAllowed st frames c what
what_allowed st frames c (Answer number call answered) is has = record { reply = is.reply; parts = is.parts; hit = is.hit; size = has }
what_allowed st frames c (Out page written) is size = is
what_allowed st frames c (Failed page writing count) is size = is
what_allowed st frames c (Take page frame want) is size = is
what_allowed st frames c (Give page frame) is size = is
what_allowed st frames c (Clear first len) is size = is
what_allowed st frames c (Claim victim page frame need) is size = is
what_allowed st frames c (UseHeld page frame want) is size = is
what_allowed st frames c (DropHeld frame) is size = is
what_allowed st frames c (Got frame) is size = is
what_allowed st frames c (Unclaim frame) is size = is
what_allowed st frames c (Refused wired claimed held) is size = is
what_allowed st frames c (Pin first len wired) is size = is
what_allowed st frames c (KeptBack first len page frame) is size = is
what_allowed st frames c (Rest short) is size = is

has_size : (st : SpaceState) (frames : Bool) (c : ℕ) (what : What) → WhatAllowed st frames c what
    → HasSize what (used_tile st.sizes (pages_after st frames what) what)
has_size st frames c (Answer number call answered) is = is.size
has_size st frames c (Out page written) is = tt
has_size st frames c (Failed page writing count) is = tt
has_size st frames c (Take page frame want) is = tt
has_size st frames c (Give page frame) is = tt
has_size st frames c (Clear first len) is = tt
has_size st frames c (Claim victim page frame need) is = tt
has_size st frames c (UseHeld page frame want) is = tt
has_size st frames c (DropHeld frame) is = tt
has_size st frames c (Got frame) is = tt
has_size st frames c (Unclaim frame) is = tt
has_size st frames c (Refused wired claimed held) is = tt
has_size st frames c (Pin first len wired) is = tt
has_size st frames c (KeptBack first len page frame) is = tt
has_size st frames c (Rest short) is = tt

-- The pages.

-- who goes on with an answer doesn't look at its size
goes_on : (next : states.Next) (c number : ℕ) (call : Call) (answered : Answered) (size : Option ℕ) → MayGoOn next c (Answer number call answered)
    → MayGoOn next c (Answer number call (record answered { size = size }))
goes_on states.Next.Anyone c number call answered size is = is
goes_on (states.Next.Only d) c number call answered size is = is
goes_on (states.Next.AfterClear d first len) c number call answered size is = is
goes_on (states.Next.AfterPin d first len wired) c number call answered size is = is

abbrev is_answer : What → Bool
is_answer (Answer number call answered) = true
is_answer what = false

-- the same answer with the right size
abbrev pub with_size : Entry → ℕ → Call → Answered → Option ℕ → Entry
with_size e number call answered size = record e { what = Answer number call (record answered { size = size }) }

-- The right answer comes after what is followed of a space, and leads to the same state.
module _ (kept : Followed) (st : SpaceState) (e : Entry) (number : ℕ) (call : Call) (answered : Answered) (is : e.what ≡ Answer number call answered)
    (next : IsNextButSize kept st e) where
  abbrev right_size : Option ℕ
  right_size = size_after st e.frames (Answer number call answered)

  had : MayGoOn st.next e.processor (Answer number call answered) × AllowsReply st e.frames e.processor call answered
  had = subst (λ what. MayGoOn st.next e.processor what × AllowsWhat st e.frames e.processor what) is next.allowed

  pub right : Entry
  right = with_size e number call answered right_size

  pub right_answers : AnswersBy right call answered.reply
  unfolding right
  right_answers = record { number = number; answered = record answered { size = right_size }; is = refl; reply_is = refl }

  pub right_next : IsNext kept st right
  unfolding right
  right_next = record {
    follows = next.follows;
    allowed = (
      goes_on st.next e.processor number call answered right_size had.0,
      record { reply = had.1.reply; parts = had.1.parts; hit = had.1.hit; size = refl },
    );
    copies = next.copies;
    unused = tt;
    line = subst AnswersLine is next.line;
  }

  pub right_after : space_after st right ≡ space_after st e
  unfolding right
  right_after =
      let same : space_after st (record e { what = Answer number call answered }) ≡ space_after st e =
      ap (λ what. space_after st (record e { what = what })) (sym is) in same

-- any other entry
other_allowed : (st : SpaceState) (frames : Bool) (c : ℕ) (what : What) → is_answer what ≡ false → AllowsWhat st frames c what
    → WhatAllowed st frames c what
other_allowed st frames c (Answer number call answered) other is = cc
other_allowed st frames c (Out page written) other is = is
other_allowed st frames c (Failed page writing count) other is = is
other_allowed st frames c (Take page frame want) other is = is
other_allowed st frames c (Give page frame) other is = is
other_allowed st frames c (Clear first len) other is = is
other_allowed st frames c (Claim victim page frame need) other is = is
other_allowed st frames c (UseHeld page frame want) other is = is
other_allowed st frames c (DropHeld frame) other is = is
other_allowed st frames c (Got frame) other is = is
other_allowed st frames c (Unclaim frame) other is = is
other_allowed st frames c (Refused wired claimed held) other is = is
other_allowed st frames c (Pin first len wired) other is = is
other_allowed st frames c (KeptBack first len page frame) other is = is
other_allowed st frames c (Rest short) other is = is

pub other_next : (kept : Followed) (st : SpaceState) (e : Entry) → is_answer e.what ≡ false → IsNextButSize kept st e → IsNext kept st e
other_next kept st e other next = record {
  follows = next.follows;
  allowed = (next.allowed.0, other_allowed st e.frames e.processor e.what other next.allowed.1);
  copies = next.copies;
  unused = next.unused;
  line = next.line;
}

-- What is kept.

used_is : (z : SizeSet) (pages : ℕ → Option Mapping) (what : What) → IsUsed z pages (used_tile z pages what)
used_is z pages (Answer number call answered) = at (served_page call answered.reply)
  where
    at : (o : Option ℕ) → IsUsed z pages (tile_at z pages o)
    at None = tt
    at (Some page) = used_at z pages page (tile_at z pages (Some page)) refl
used_is z pages what = tt

pub pages_next : (old : Kept) (st : SpaceState) (e : Entry) → IsToldNext old st e → IsNextButSize old.space st e
pages_next old st e next = record {
  follows = next.stands.follows;
  allowed = next.allowed;
  copies = next.stands.copies;
  unused = next.unused;
  line = next.line;
}

-- What becomes of each part of what is kept.
pub record BecomesBy (old new : Kept) (e : Entry) (between : List (List Tile)) : Type 0 where
  pub sizes : new.sizes ≡ old.sizes
  pub follows : (st : SpaceState) → IsNextButSize old.space st e → Follows new.space (space_after st e)
  pub words : (st : SpaceState) (frames : Bool) (c : ℕ) → st.flat.regions ≡ old.space.regions → AllowsWhat st frames c e.what
      → HasWords old.words st.flat.words → HasWords new.words (flat_after st.flat e.what).words
  pub tiles : KeepTiles old.sizes (mapping_at new.space.pages) old.images between
  pub used : AreTouched e.processor (used_tile old.sizes (mapping_at new.space.pages) e.what) between new.images
  pub next : new.next ≡ next_after e.processor e.what
  pub highest : new.highest ≡ highest_after old.highest e.what

module _ (old new : Kept) (e : Entry) (between : List (List Tile)) (becomes : BecomesBy old new e between) (st : SpaceState)
    (at : IsToldNext old st e) where
  abbrev z : SizeSet
  z = old.sizes

  abbrev pages : ℕ → Option Mapping
  pages = mapping_at new.space.pages

  abbrev used : Option Tile
  used = used_tile z pages e.what

  follows_then : Follows new.space (space_after st e)
  follows_then = becomes.follows st (pages_next old st e at)

  pages_then : pages_after st e.frames e.what ≡ pages
  pages_then = λ i p. follows_then.pages p i

  processors : length new.images ≡ length old.images
  processors = becomes.used.processors ∙ becomes.tiles.processors

  image_then : (c : ℕ) → c < length new.images
      → image_in new.images c ≡ touched_by (if c == e.processor then used else None) (still_tiles z pages (image_in old.images c))
  image_then c known =
      becomes.used.images c (omega (arith, becomes.used.processors))
      ∙ ap (touched_by (if c == e.processor then used else None)) (becomes.tiles.images c (omega (arith, processors)))

  images_then : (c : ℕ) → c < length new.images → (space_after st e).images c ≡ image_in new.images c
  images_then c known =
      let own : ℕ → SizeSet → (ℕ → Option Mapping) → List Tile → List Tile =
      λ i y ps image. touched_by (if i == e.processor then used_tile y ps e.what else None) (still_tiles y ps image) in
      ap (λ y. own c y (pages_after st e.frames e.what) (st.images c)) at.stands.sizes
      ∙ ap (λ ps. own c z ps (st.images c)) pages_then
      ∙ ap (own c z pages) (at.stands.images c (omega (arith, processors)))
      ∙ sym (image_then c known)

  tiles_then : AreTiles z pages new.images
  tiles_then c known =
      rw (image_then c known)
      (touched_if z pages (c == e.processor) used (still_tiles z pages (image_in old.images c)) (used_is z pages e.what)
      (still_again z pages (image_in old.images c)))

  pub stands_after : KeepsCopies (space_after st e) → Stands new (space_after st e)
  stands_after copies = record {
    follows = follows_then;
    sizes = at.stands.sizes ∙ sym becomes.sizes;
    told = at.stands.told;
    words = becomes.words st e.frames e.processor at.stands.follows.regions at.allowed.1 at.stands.words;
    images = images_then;
    tiles = subst (λ y. AreTiles y pages new.images) (sym becomes.sizes) tiles_then;
    next = sym becomes.next;
    highest = ap (λ n. highest_after n e.what) at.stands.highest ∙ sym becomes.highest;
    copies = copies;
  }

  used_then : used_tile st.sizes (pages_after st e.frames e.what) e.what ≡ used
  used_then = ap (λ y. used_tile y (pages_after st e.frames e.what) e.what) at.stands.sizes ∙ ap (λ ps. used_tile z ps e.what) pages_then

  -- with the size of the tile that was used the entry is allowed, and only so
  pub allowed_after : HasSize e.what used → SpaceAllows st e
  allowed_after size =
      (at.allowed.0, what_allowed st e.frames e.processor e.what at.allowed.1 (subst (HasSize e.what) (sym used_then) size))

  pub has_size_after : SpaceAllows st e → HasSize e.what used
  has_size_after allowed = subst (HasSize e.what) used_then (has_size st e.frames e.processor e.what allowed.1)

-- A space before its first entry.
pub Stands-new : (kept : Kept) (processors : ℕ) → Follows kept.space (empty_state kept.sizes true 0) → kept.words.entries ≡ []
    → kept.images ≡ replicate processors [] → kept.next ≡ states.Next.Anyone → kept.highest ≡ 0
    → Stands kept (empty_state kept.sizes true 0)
Stands-new kept processors follows_it empty blank anyone none =
    let image : (c : ℕ) → image_in kept.images c ≡ [] =
    λ c. ap (λ images. image_in images c) blank ∙ get_or-alike processors c [] in
    record {
      follows = follows_it;
      sizes = refl;
      told = refl;
      words = λ p i low. sym (ap (λ (entries : List (ℕ × ℕ)). unwrap_or (lookup (is_at (nat_cmp (key_of p i))) entries) 0) empty);
      images = λ c known. sym (image c);
      tiles = λ c known. ap (still_tiles kept.sizes (mapping_at kept.space.pages)) (image c) ∙ sym (image c);
      next = sym anyone;
      highest = sym none;
      copies = record {
        clean = λ p is. record { copy = λ i. 0; known = refl; equal = λ i. refl };
        dirty = λ p is. absurd (false≢true is);
      };
    }
