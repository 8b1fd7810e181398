-- What follows the spaces of a history tells the stacks of each entry.
use Rattle.std.proofs.Common.{◌≡◌, ℕ, suc, ◌+◌, ◌<◌, Bool, true, false, ◌&&◌, ◌==◌, if◌then◌else◌, List, [], ◌∷◌, ◌++◌, length, get_or, set, take, drop, Option, Some, None, is_some, option_map, inl, inr, refl, sym, ap, ◌∙◌, subst, arith}
use Rattle.std.specs.List.{All}
use Rattle.std.proofs.Math.Seq.{split_at}
use Rattle.std.proofs.lemmas.Bool.{cases_eq, eq-eqb, ne_eqb}
use Rattle.std.proofs.lemmas.List.{get_or-set_same, get_or-set_other, length-set, map-append, map_more}
use Rattle.std.proofs.lemmas.Option.{none-some, same_Some}
use Rattle.pager_model.specs.declared.entry.Entry.{Entry}
use Rattle.pager_model.specs.declared.entry.Numbered.{Numbered}
use Rattle.pager_model.specs.declared.entry.What.{What}
use Rattle.pager_model.specs.declared.entry.What.TheVariants.{Answer}
use Rattle.pager_model.specs.declared.tile.Mapping.{Mapping}
use Rattle.pager_model.specs.declared.tile.Tile.{Tile}
use Rattle.pager_model.specs.Legal.{IsLegal, entries_in, space_at}
use Rattle.pager_model.specs.Options.{is_that}
use Rattle.pager_model.specs.Scripts.{Script}
use Rattle.pager_model.specs.Settings.{Given, is_told, faults_at_entry}
use Rattle.pager_model.specs.Showing.{Shows, marks_of}
use Rattle.pager_model.specs.SizeSets.{SizeSet}
use Rattle.pager_model.specs.SpaceStates.{SpaceState, WhatAllowed, pages_after, served_page, space_after, tile_at}
use Rattle.pager_model.specs.Tiles.{cut_to, tile_in, tile_of}
use Rattle.pager_model.specs.TraceText.{HasText, IsDaemon}
use Rattle.pager_model.proofs.Histories.{IsLegal-push, space_at-named, space_at-other}
use Rattle.pager_model.proofs.Options.{in_some}
use Rattle.pager_laws.proofs.LegalPrefixes.{IsLegal-at}
use Rattle.followed_space.specs.Follows.{Followed, Follows, IsNext}
use Rattle.followed_space.proofs.AnsweredLines.{AnswersLine-run, processor-legal}
use Rattle.followed_space.proofs.LegalEntries.{IsNext-legal}
use Rattle.tiles.specs.Resident.{frames_in, mapping_at}
use Rattle.tiles.proofs.CutTiles.{tile_in-cut}
use Rattle.miss_curves.specs.declared.entries.Uses.{Uses}
use Rattle.lru_stack.specs.declared.stack.Use.{Use}
use Rattle.lru_stack.specs.Followers.{page_used}
use Rattle.miss_curves.specs.Curves.{AnswersAlone, base_alone, is_answer}
use Rattle.miss_curves.specs.Histories.{Begins, Comes, Counting, EachComes, FollowEach, IsNew, IsRunOf, KeepsUp, StandsFor, Told, effect, use_of}
use Rattle.miss_curves.specs.Rows.{Rows, StandAfter}
use Rattle.lru_stack.specs.Stacks.{IsUse}
use Rattle.miss_curves.proofs.Usual.{sizes-of}

-- The page that was used.

-- a page whose tile has a size has a tile
tile_some : (o : Option Tile) (n : ℕ) → Some n ≡ option_map (λ (t : Tile). t.extent.size) o → (t : Tile) × (o ≡ Some t)
tile_some None n h = absurd (none-some n (sym h))
tile_some (Some t) n h = (t, refl)

served_tile : (own : Bool) (served size : Option ℕ) (z : SizeSet) (pages : ℕ → Option Mapping) (p : ℕ)
    → size ≡ option_map (λ (t : Tile). t.extent.size) (tile_at z pages served)
    → (if own && is_some size then served else None) ≡ Some p → (t : Tile) × (tile_in z pages p ≡ Some t)
served_tile false served size z pages p is used = absurd (none-some p used)
served_tile true served None z pages p is used = absurd (none-some p used)
served_tile true None (Some n) z pages p is used = absurd (none-some p used)
served_tile true (Some q) (Some n) z pages p is used =
    subst (λ x. (t : Tile) × (tile_in z pages x ≡ Some t)) (same_Some q p used) (tile_some (tile_in z pages q) n is)

has_tile : (st : SpaceState) (b : Bool) (c : ℕ) (what : What) (p : ℕ) → page_used c what ≡ Some p → WhatAllowed st b c what
    → (t : Tile) × (tile_in st.sizes (pages_after st b what) p ≡ Some t)
has_tile st b c (Answer number call answered) p used allowed =
    served_tile (c == 0) (served_page call answered.reply) answered.size st.sizes
    (pages_after st b (Answer number call answered)) p allowed.size used
has_tile st b c what p used allowed = cc

-- a page with a tile by some sizes has one by any others
has_other : (y z : SizeSet) (pages : ℕ → Option Mapping) (p : ℕ) (t : Tile) → tile_in y pages p ≡ Some t
    → (u : Tile) × (tile_in z pages p ≡ Some u)
has_other y z pages p t is =
    elim (tile_of pages p) as (λ o. tile_of pages p ≡ o → (u : Tile) × (tile_in z pages p ≡ Some u)) [
      | None ↦ λ none. absurd (none-some t (sym (tile_in-cut y pages p ∙ ap (option_map (cut_to y p)) none) ∙ is))
      | Some whole ↦ λ at. (cut_to z p whole, tile_in-cut z pages p ∙ ap (option_map (cut_to z p)) at)
    ] refl

is_use : (z : SizeSet) (before after : ℕ → Option Mapping) (page : Option ℕ)
    → ((p : ℕ) → page ≡ Some p → (t : Tile) × (tile_in z after p ≡ Some t))
    → IsUse z before after page (use_of (tile_at z before page) (tile_at z after page))
is_use z before after None has = refl
is_use z before after (Some p) has =
    let t = has p refl in (t.0, t.1, ap (use_of (tile_in z before p)) t.1)

use_is : (z : SizeSet) (before after : ℕ → Option Mapping) (page own : Option ℕ) (used : Option Use) → own ≡ page
    → used ≡ use_of (tile_at z before own) (tile_at z after own) → ((p : ℕ) → page ≡ Some p → (t : Tile) × (tile_in z after p ≡ Some t))
    → IsUse z before after page used
use_is z before after page own used same is has =
    subst (IsUse z before after page) (sym (is ∙ ap (λ q. use_of (tile_at z before q) (tile_at z after q)) same))
    (is_use z before after page has)

-- what follows a space tells of an entry what it did to the pages, and which page it used
pub Told-followed : (g : Given) (history : List Entry) (e : Entry) (old new : Followed) (page : Option ℕ) (uses : Uses)
    → g.sizes ≡ uses.sizes
    → ((s : ℕ) → e.space ≡ Some s → IsNext old (space_at g history s) e)
    → ((st : SpaceState) → IsNext old st e → Follows new (space_after st e))
    → page ≡ page_used e.processor e.what
    → uses.used ≡ use_of (tile_at uses.sizes (mapping_at old.pages) page) (tile_at uses.sizes (mapping_at new.pages) page)
    → uses.used_base ≡ use_of (tile_at base_alone (mapping_at old.pages) page) (tile_at base_alone (mapping_at new.pages) page)
    → Told g history (effect e old.pages new.pages uses)
Told-followed g history e old new page uses sizes next follows page_is used_is base_is = record {
  sizes = sizes;
  on = λ s named.
      let z = uses.sizes in
      let st = space_at g history s in
      let on = next s named in
      let after : pages_after st e.frames e.what ≡ mapping_at new.pages = λ i p. (follows st on).pages p i in
      let used_page = page_used e.processor e.what in
      let tile : (p : ℕ) → used_page ≡ Some p → (t : Tile) × (tile_in z (mapping_at new.pages) p ≡ Some t) =
      λ p is. subst (λ (f : ℕ → Option Mapping). (t : Tile) × (tile_in z f p ≡ Some t)) after
      (subst (λ y. (t : Tile) × (tile_in y (pages_after st e.frames e.what) p ≡ Some t)) (sizes-of g history s ∙ sizes)
      (has_tile st e.frames e.processor e.what p is on.allowed.1)) in
      record {
        before = λ i p. on.follows.pages p i;
        after = after;
        tile = use_is z (mapping_at old.pages) (mapping_at new.pages) used_page page uses.used page_is used_is tile;
        base = use_is base_alone (mapping_at old.pages) (mapping_at new.pages) used_page page uses.used_base page_is base_is
            (λ p is. has_other z base_alone (mapping_at new.pages) p (tile p is).0 (tile p is).1);
      };
}

-- One entry more.

-- the space that the next entry names is one of those that are followed, and may be followed
pub record Named (rows : Rows) (spaces : List Followed) (e : Entry) (s : ℕ) (st : SpaceState) : Type 0 where
  pub within : s < length spaces
  pub stack : s < length rows.tiles
  pub next : (d : Followed) → IsNext (get_or spaces s d) st e

pub named_next : (z : SizeSet) (g : Given) (history : List Entry) (rows : Rows) (spaces : List Followed) (e : Entry) (s : ℕ)
    → e.space ≡ Some s
    → KeepsUp z g rows spaces history → Comes g history e → Named rows spaces e s (space_at g history s)
named_next z g history rows spaces e s named keeps comes =
    let parts = IsLegal-at g history [] e comes.legal in
    let told : s < length g.told = in_some (λ n. n < length g.told) e.space s named parts.1.space in
    let within : s < length spaces = omega (arith, told, keeps.follow.spaces_are) in
    record {
      within = within;
      stack = omega (arith, told, keeps.stands.tiles.spaces);
      next = λ d. IsNext-legal g history e s (get_or spaces s d) comes.legal named comes.line (keeps.follow.frames s d within)
          (keeps.follow.each s d within);
    }

-- an entry of a space leads what follows this one on
pub FollowEach-named : (g : Given) (history : List Entry) (e : Entry) (s : ℕ) (spaces : List Followed) (new : Followed) → s < length spaces
    → e.space ≡ Some s
    → frames_in new.pages ≡ g.frames → Follows new (space_after (space_at g history s) e)
    → FollowEach g spaces history → FollowEach g (set spaces s new) (history ++ e ∷ [])
FollowEach-named g history e s spaces new within names frames follows each = record {
  spaces_are = length-set spaces s new ∙ each.spaces_are;
  frames = λ t d below. elim (cases_eq t s) [
    | inl same ↦
        subst (λ n. frames_in (get_or (set spaces s new) n d).pages ≡ g.frames) (sym same)
        (ap (λ (k : Followed). frames_in k.pages) (get_or-set_same spaces s new d within) ∙ frames)
    | inr other ↦
        ap (λ (k : Followed). frames_in k.pages) (get_or-set_other spaces s t new d other)
        ∙ each.frames t d (omega (arith, length-set spaces s new))
  ];
  each = λ t d below. elim (cases_eq t s) [
    | inl same ↦
        subst (λ n. Follows (get_or (set spaces s new) n d) (space_at g (history ++ e ∷ []) n)) (sym same)
        (subst (λ k. Follows k (space_at g (history ++ e ∷ []) s)) (sym (get_or-set_same spaces s new d within))
        (subst (Follows new) (sym (space_at-named g history e s (ap (is_that s) names ∙ eq-eqb s s refl))) follows))
    | inr other ↦
        subst (λ k. Follows k (space_at g (history ++ e ∷ []) t)) (sym (get_or-set_other spaces s t new d other))
        (subst (Follows (get_or spaces t d)) (sym (space_at-other g history e t (ap (is_that t) names ∙ ne_eqb s t (λ is. other (sym is)))))
        (each.each t d (omega (arith, length-set spaces s new))))
  ];
}

-- one without a space leads none on
pub FollowEach-none : (g : Given) (history : List Entry) (e : Entry) (spaces : List Followed) → e.space ≡ None → FollowEach g spaces history
    → FollowEach g spaces (history ++ e ∷ [])
FollowEach-none g history e spaces none each = record {
  spaces_are = each.spaces_are;
  frames = each.frames;
  each = λ s d below. subst (Follows (get_or spaces s d)) (sym (space_at-other g history e s (ap (is_that s) none))) (each.each s d below);
}

-- new spaces are followed to the beginning
pub FollowEach-new : (g : Given) (spaces : List Followed) → length spaces ≡ length g.told → All (IsNew g.frames) spaces
    → FollowEach g spaces []
FollowEach-new g spaces same new = record {
  spaces_are = same;
  frames = λ s d below. (new s d below).frames_are;
  each = λ s d below. (new s d below).follows g.sizes (is_told g s) (faults_at_entry g s);
}

-- and so the stacks and the spaces of a run begin
pub StandsFor-new : (script : Script) (g : Given) (c : Counting) → Begins script g → c.sizes ≡ script.sizes → StandAfter g c.rows []
    → length c.spaces ≡ script.spaces → All (IsNew script.frames) c.spaces → StandsFor c g []
StandsFor-new script g c begins sizes stands same new = record {
  legal = tt;
  keeps = record {
    sizes = begins.sizes ∙ sym sizes;
    stands = stands;
    follow = FollowEach-new g c.spaces (same ∙ sym begins.spaces) (subst (λ n. All (IsNew n) c.spaces) (sym begins.frames) new);
  };
}

-- Whole histories.

-- the next entry comes so after those before it
pub comes-at : (g : Given) (history : List Numbered) (i : ℕ) (x : Numbered) → i < length history → x ≡ get_or history i x
    → EachComes g (entries_in history)
    → Comes g (entries_in (take i history)) x.entry
comes-at g history i x known is each =
    subst (λ (n : Numbered). Comes g (entries_in (take i history)) n.entry) (sym is)
    (each (entries_in (take i history)) (entries_in (drop (suc i) history)) (get_or history i x).entry
    (ap entries_in (split_at history i x known) ∙ map-append (λ (n : Numbered). n.entry) (take i history)
    (get_or history i x ∷ drop (suc i) history)))

-- and with them it is what stands before the one after it
pub entries-more : (history : List Numbered) (i : ℕ) (x : Numbered) → i < length history → x ≡ get_or history i x
    → entries_in (take (i + 1) history) ≡ entries_in (take i history) ++ x.entry ∷ []
entries-more history i x known is =
    map_more (λ (n : Numbered). n.entry) history i x known ∙ ap (λ (n : Numbered). entries_in (take i history) ++ n.entry ∷ []) (sym is)

-- each entry of a run comes so
pub EachComes-run : (script : Script) (g : Given) (history : List Entry) → HasText script → IsRunOf script g history → EachComes g history
EachComes-run script g history text run = λ before after e is.
    let legal = subst (IsLegal g) is run.legal in
    let parts = IsLegal-at g before after e legal in
    record {
      legal = IsLegal-push g before e parts.0 parts.1;
      line = AnswersLine-run script g before after e text run.marks legal (subst (Shows script) is run.shows);
    }

-- with the marks of a trace of one processor this one alone answers
answered_by : (script : Script) (g : Given) (before after : List Entry) (e : Entry) (what : What) → e.what ≡ what → IsDaemon script.daemon
    → g.marks ≡ marks_of script → IsLegal g (before ++ e ∷ after) → is_answer what ≡ true → e.processor < script.processors
answered_by script g before after e (Answer number call answered) is daemon marks legal answers =
    processor-legal script g before after e daemon marks legal number call answered is
answered_by script g before after e what is daemon marks legal answers = cc

pub AnswersAlone-legal : (script : Script) (g : Given) (history : List Entry) → IsDaemon script.daemon → g.marks ≡ marks_of script → IsLegal g history
    → script.processors ≡ 1 → AnswersAlone history
AnswersAlone-legal script g history daemon marks legal one = λ i d known answers.
    let e = get_or history i d in
    let below = answered_by script g (take i history) (drop (suc i) history) e e.what refl daemon marks
    (subst (IsLegal g) (split_at history i d known) legal) answers in
    omega (arith, below, one)

-- and it begins so
pub Begins-run : (script : Script) (g : Given) (history : List Entry) → IsRunOf script g history → Begins script g
Begins-run script g history run = record { frames = run.frames; sizes = run.sizes; spaces = run.spaces }
