-- What is kept of a told space, and when it is what its list of entries leads to.
use Rattle.std.specs.Prelude.{ℕ, ◌≡◌, ◌+◌, ◌*◌, ◌<◌, Bool, true, false, List, length, option_map, unwrap_or, Option, Some, None}
use Rattle.std.specs.BTreeMap.{BTreeMap, get}
use Rattle.std.specs.Ordering.{nat_cmp}
use Rattle.followed_space.specs.Follows.{AnswersLine, FillsUnused, Followed, Follows, filled, rights_at}
use Rattle.pager_model.specs.declared.call.Call.{Call}
use Rattle.pager_model.specs.declared.entry.Entry.{Entry}
use Rattle.pager_model.specs.declared.entry.What.{What}
use Rattle.pager_model.specs.declared.entry.What.TheVariants.{Answer, Take, UseHeld}
use Rattle.pager_model.specs.declared.reply.Answered.{Answered}
use Rattle.pager_model.specs.declared.tile.Mapping.{Mapping}
use Rattle.pager_model.specs.declared.tile.Tile.{Tile}
use Rattle.pager_model.specs.Flat.{Flat}
use Rattle.pager_model.specs.Laws.{KeepsCopies}
use Rattle.pager_model.specs.PreferredSize.{IsWanted}
use Rattle.pager_model.specs.SizeSets.{SizeSet}
use Rattle.pager_model.specs.SpaceStates as states
use Rattle.pager_model.specs.SpaceStates.{SpaceState, MayGoOn, ReplyAllowed, WhatAllowed, frees_its_page, is_hit}
use Rattle.told_space.specs.declared.space.ToldSpace.{ToldSpace}
use Rattle.told_space.specs.declared.next.Next.{Next}
use Rattle.told_space.specs.declared.next.Next.TheVariants.{Anyone, Only, AfterClear, AfterPin}
use Rattle.told_space.specs.Translations.{AreTiles, image_in}
use Rattle.tiles.specs.Resident.{mapping_at, frame_of_page, frames_in}

-- the places of the code as those of the definitions
abbrev pub next_of : Next → states.Next
next_of Anyone = states.Next.Anyone
next_of (Only processor) = states.Next.Only processor
next_of (AfterClear processor first len) = states.Next.AfterClear processor first len
next_of (AfterPin processor first len wired) = states.Next.AfterPin processor first len wired

-- the key of a word, by its page and its place in it
abbrev pub key_of : ℕ → ℕ → ℕ
key_of page place = page * 1024 + place

-- the word that a map of words has: those that no store wrote are zero
abbrev pub word_in : BTreeMap ℕ ℕ → ℕ → ℕ → ℕ
word_in words page place = unwrap_or (get nat_cmp words (key_of page place)) 0

-- the map has these words
abbrev pub HasWords : BTreeMap ℕ ℕ → (ℕ → ℕ → ℕ) → Type 0
HasWords map words = (p i : ℕ) → i < 1024 → words p i ≡ word_in map p i

pub record Kept : Type 0 where
  pub sizes : SizeSet
  pub space : Followed
  -- the words that stores wrote
  pub words : BTreeMap ℕ ℕ
  -- of each processor its image
  pub images : List (List Tile)
  pub next : states.Next
  -- the highest count of faults so far
  pub highest : ℕ

-- the same, by the fields of the code
abbrev pub kept_of : ToldSpace → Kept
kept_of s =
    record { sizes = s.sizes; space = s.space; words = s.words; images = s.images; next = next_of s.next; highest = s.highest }

abbrev pub dirty_in : Option Mapping → Bool
dirty_in None = false
dirty_in (Some m) = m.dirty

-- The state of a space that is kept so, but for what no entry is judged by: its copies, what is tied and the moves.
abbrev pub flat_in : Kept → Flat
flat_in kept =
    record {
      regions = kept.space.regions;
      rights = rights_at kept.space;
      words = word_in kept.words;
      copies = λ p. None;
      dirty = λ p. dirty_in (mapping_at kept.space.pages p);
    }

abbrev pub state_in : Kept → SpaceState
state_in kept =
    record {
      sizes = kept.sizes;
      flat = flat_in kept;
      base = frame_of_page kept.space.pages;
      next = kept.next;
      told = true;
      tied = λ p i. None;
      highest = kept.highest;
      images = λ c. image_in kept.images c;
      promotions = 0;
      demotions = 0;
    }

-- it is what a list of entries leads to
pub record Stands (kept : Kept) (st : SpaceState) : Type 0 where
  pub follows : Follows kept.space st
  pub sizes : st.sizes ≡ kept.sizes
  pub told : st.told ≡ true
  pub words : HasWords kept.words st.flat.words
  pub images : (c : ℕ) → c < length kept.images → st.images c ≡ image_in kept.images c
  pub tiles : AreTiles kept.sizes (mapping_at kept.space.pages) kept.images
  pub next : st.next ≡ kept.next
  pub highest : st.highest ≡ kept.highest
  pub copies : KeepsCopies st

-- A space allows an answer, as far as can be told before it: all but the size of its tile, which is that after it.
pub record AllowsReply (st : SpaceState) (frames : Bool) (c : ℕ) (call : Call) (answered : Answered) : Type 0 where
  pub reply : ReplyAllowed st c call answered.reply
  pub parts : frames ≡ frees_its_page st call answered.reply
  pub hit : answered.hit ≡ is_hit st c call answered.reply

abbrev pub AllowsWhat : SpaceState → Bool → ℕ → What → Type 0
AllowsWhat st frames c (Answer number call answered) = AllowsReply st frames c call answered
AllowsWhat st frames c what = WhatAllowed st frames c what

abbrev pub AllowsBefore : SpaceState → Entry → Type 0
AllowsBefore st e = MayGoOn st.next e.processor e.what × AllowsWhat st e.frames e.processor e.what

-- an answer tells the size of the tile that its processor used, where it used one, and else none
abbrev pub HasSize : What → Option Tile → Type 0
HasSize (Answer number call answered) tile = answered.size ≡ option_map (λ (t : Tile). t.extent.size) tile
HasSize what tile = Unit {0}

-- What is known of the next entry of a space that is followed, before an answer's size is looked at.
pub record IsNextButSize (kept : Followed) (st : SpaceState) (e : Entry) : Type 0 where
  pub follows : Follows kept st
  pub allowed : AllowsBefore st e
  pub copies : KeepsCopies st
  pub unused : FillsUnused (frames_in kept.pages) st (filled e.what)
  pub line : AnswersLine e.what

-- What is known of the next entry, where the state stands for what is kept: the space allows it but for an answer's size, its processor has an
-- image, a frame that comes under a page is under no other, and a call is one of a trace.
pub record IsToldNext (kept : Kept) (st : SpaceState) (e : Entry) : Type 0 where
  pub stands : Stands kept st
  pub allowed : AllowsBefore st e
  pub known : e.processor < length kept.images
  pub unused : FillsUnused (frames_in kept.space.pages) st (filled e.what)
  pub line : AnswersLine e.what

-- the page is the only one that may have the frame
abbrev pub IsOwner : Kept → ℕ → ℕ → Type 0
IsOwner kept frame page = (p : ℕ) → frame_of_page kept.space.pages p ≡ Some frame → p ≡ page

-- the want of a taking is one for its page
abbrev pub WantsFor : What → Type 0
WantsFor (Take page frame want) = IsWanted want page
WantsFor (UseHeld page frame want) = IsWanted want page
WantsFor what = Unit {0}
