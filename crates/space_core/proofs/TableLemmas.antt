-- What becomes of a table of pages when a page gets a frame, loses it, has its words written, or is marked dirty or clean, and when a
-- range gets rights.
use Rattle.std.proofs.Common.{◌≡◌, ◌≢◌, ℕ, ◌<◌, ◌≤◌, true, false, ◌==◌, ◌&&◌, if◌then◌else◌, List, Bool, Option, Some, None, length, replicate, slice_index_or, slice_set, option_map, refl, sym, ap, ap₂, inl, inr, ◌∙◌, arith, subst, IfSome, IfNone}
use Rattle.std.specs.Option.{option_and_then, IfSome, IfNone}
use Rattle.std.proofs.lemmas.Bool.{cases_eq, cond-true, cond-false, eq-eqb, ne_eqb}
use Rattle.pager_model.specs.Bounds.{most_frames}
use Rattle.pager_model.specs.Regions.{in_range}
use Rattle.std.proofs.lemmas.List.{get_or-set_other, get_or-set_same, length-set, length-replicate}
use Rattle.std.proofs.lemmas.Option.{none-some, same_Some}
use Rattle.pager_model.specs.declared.region.Rights.{Rights}
use Rattle.pager_model.specs.declared.tile.Mapping.{Mapping}
use Rattle.pager_model.specs.Frame.{Framed}
use Rattle.pager_model.proofs.Lists.{get_or_within}
use Rattle.page_rights.specs.Rights.{RightsTree, rights_of}
use Rattle.space_core.specs.Pages.{IsFrameAt, IsPaged, IsFresh, Maps, Refills, HasWords, SetsWord, Writes, Cleans, Protects, Forgets, IsFirstResident, NoneFrom}
use Rattle.space_core.specs.Tables.{Table, mapping_in, frame_in, word_in, word_in_frame, own_in, flag_in, dirty_in}
use Rattle.tiles.specs.Resident.{Resident, IsNextResident, NoneResident, mapping_at, frames_in, with_flag, with_rights, Maps as MapsTo, Protects as ProtectsIn}

-- the number of what is said of a page
abbrev pub number_of : Option Mapping → Option ℕ
number_of o = option_map (λ (m : Mapping). m.frame) o

pub frame_in-is : (t : Table) (p : ℕ) → frame_in t p ≡ number_of (mapping_in t p)
unfolding frame_in
frame_in-is t p = refl

pub own_in-is : (t : Table) (p : ℕ) → own_in t p ≡ rights_of t.own p
unfolding own_in
own_in-is t p = refl

pub dirty_in-is : (t : Table) (p : ℕ) → dirty_in t p ≡ flag_in (mapping_in t p)
unfolding dirty_in
dirty_in-is t p = refl

unnumbered : (o : Option Mapping) → number_of o ≡ None → o ≡ None
unnumbered None h = refl
unnumbered (Some m) h = absurd (none-some m.frame (sym h))

-- nothing is said of a page without a frame
pub mapping-absent : (t : Table) (p : ℕ) → frame_in t p ≡ None → mapping_in t p ≡ None
mapping-absent t p h = unnumbered (mapping_in t p) (sym (frame_in-is t p) ∙ h)

pub frame-absent : (t : Table) (p : ℕ) → mapping_in t p ≡ None → frame_in t p ≡ None
frame-absent t p h = frame_in-is t p ∙ ap number_of h

pub frame-mapped : (t : Table) (p : ℕ) (m : Mapping) → mapping_in t p ≡ Some m → frame_in t p ≡ Some m.frame
frame-mapped t p m h = frame_in-is t p ∙ ap number_of h

pub dirty-mapped : (t : Table) (p : ℕ) (m : Mapping) → mapping_in t p ≡ Some m → dirty_in t p ≡ m.dirty
dirty-mapped t p m h = dirty_in-is t p ∙ ap flag_in h

pub dirty_in-absent : (t : Table) (p : ℕ) → frame_in t p ≡ None → dirty_in t p ≡ false
dirty_in-absent t p h = dirty_in-is t p ∙ ap flag_in (mapping-absent t p h)

-- what the mapping of a page tells, where it has one, and where it has none
pub mapped_so : (t : Table) (p : ℕ) (o : Option Mapping) → o ≡ mapping_in t p
    → IfSome o (λ m. (frame_in t p ≡ Some m.frame) × (dirty_in t p ≡ m.dirty))
mapped_so t p None is = tt
mapped_so t p (Some m) is = (frame-mapped t p m (sym is), dirty-mapped t p m (sym is))

pub unmapped : (t : Table) (p : ℕ) (o : Option Mapping) → o ≡ mapping_in t p → IfNone o ((frame_in t p ≡ None) × (dirty_in t p ≡ false))
unmapped t p None is = (frame-absent t p (sym is), dirty_in-absent t p (frame-absent t p (sym is)))
unmapped t p (Some m) is = tt

-- a page of which the same is said
pub frame-same : (t u : Table) (p : ℕ) → mapping_in u p ≡ mapping_in t p → frame_in u p ≡ frame_in t p
frame-same t u p h = frame_in-is u p ∙ ap number_of h ∙ sym (frame_in-is t p)

pub dirty-same : (t u : Table) (p : ℕ) → mapping_in u p ≡ mapping_in t p → dirty_in u p ≡ dirty_in t p
dirty-same t u p h = dirty_in-is u p ∙ ap flag_in h ∙ sym (dirty_in-is t p)

picked : {A B : Type 0} (f : A → B) (b : Bool) (x y : A) → f (if b then x else y) ≡ (if b then f x else f y)
picked f true x y = refl
picked f false x y = refl

same_both : {A : Type 0} (b : Bool) (x : A) → (if b then x else x) ≡ x
same_both true x = refl
same_both false x = refl

-- What is seen of frames and flags where what is said of pages changed.

frame-picked : (t u : Table) (p : ℕ) (b : Bool) (x : Option Mapping) → mapping_in u p ≡ (if b then x else mapping_in t p)
    → frame_in u p ≡ (if b then number_of x else frame_in t p)
frame-picked t u p b x h =
    frame_in-is u p ∙ ap number_of h ∙ picked number_of b x (mapping_in t p)
    ∙ ap (λ o. if b then number_of x else o) (sym (frame_in-is t p))

dirty-picked : (t u : Table) (p : ℕ) (b : Bool) (x : Option Mapping) → mapping_in u p ≡ (if b then x else mapping_in t p)
    → dirty_in u p ≡ (if b then flag_in x else dirty_in t p)
dirty-picked t u p b x h =
    dirty_in-is u p ∙ ap flag_in h ∙ picked flag_in b x (mapping_in t p) ∙ ap (λ d. if b then flag_in x else d) (sym (dirty_in-is t p))

pub maps_frame : (page : ℕ) (given : Option Mapping) (t u : Table) → Maps page given t u → (p : ℕ)
    → frame_in u p ≡ (if p == page then number_of given else frame_in t p)
maps_frame page given t u maps p = frame-picked t u p (p == page) given (maps.mapping p)

pub maps_dirty : (page : ℕ) (given : Option Mapping) (t u : Table) → Maps page given t u → (p : ℕ)
    → dirty_in u p ≡ (if p == page then flag_in given else dirty_in t p)
maps_dirty page given t u maps p = dirty-picked t u p (p == page) given (maps.mapping p)

number_flagged : (d : Bool) (o : Option Mapping) → number_of (option_map (with_flag d) o) ≡ number_of o
number_flagged d None = refl
number_flagged d (Some m) = refl

-- a flag leaves the frames
pub flagged_frame : (d b : Bool) (t u : Table) (p : ℕ)
    → mapping_in u p ≡ (if b then option_map (with_flag d) (mapping_in t p) else mapping_in t p) → frame_in u p ≡ frame_in t p
flagged_frame d b t u p h =
    frame-picked t u p b _ h ∙ ap (λ o. if b then o else frame_in t p) (number_flagged d (mapping_in t p) ∙ sym (frame_in-is t p))
    ∙ same_both b (frame_in t p)

flag_cleaned : (o : Option Mapping) → flag_in (option_map (with_flag false) o) ≡ false
flag_cleaned None = refl
flag_cleaned (Some m) = refl

flag_set : (o : Option Mapping) → number_of o ≢ None → flag_in (option_map (with_flag true) o) ≡ true
flag_set None n = absurd (n refl)
flag_set (Some m) n = refl

pub cleans_frame : (page : ℕ) (t u : Table) → Cleans page t u → (p : ℕ) → frame_in u p ≡ frame_in t p
cleans_frame page t u cleans p = flagged_frame false (p == page) t u p (cleans.mapping p)

pub cleans_dirty : (page : ℕ) (t u : Table) → Cleans page t u → (p : ℕ) → dirty_in u p ≡ (if p == page then false else dirty_in t p)
cleans_dirty page t u cleans p =
    dirty-picked t u p (p == page) _ (cleans.mapping p) ∙ ap (λ d. if p == page then d else dirty_in t p) (flag_cleaned (mapping_in t p))

pub writes_frame : (page index word : ℕ) (t u : Table) → Writes page index word t u → (p : ℕ) → frame_in u p ≡ frame_in t p
writes_frame page index word t u writes p = flagged_frame true (p == page) t u p (writes.mapping p)

pub writes_dirty : (page index word : ℕ) (t u : Table) → Writes page index word t u → frame_in t page ≢ None → (p : ℕ)
    → dirty_in u p ≡ (if p == page then true else dirty_in t p)
writes_dirty page index word t u writes resident p =
    dirty-picked t u p (p == page) _ (writes.mapping p) ∙ elim (cases_eq p page) [
      | inl e ↦
          rw e (ap (λ d. if page == page then d else dirty_in t page)
          (flag_set (mapping_in t page) (λ none. resident (frame_in-is t page ∙ none))))
      | inr n ↦ cond-false _ _ _ (ne_eqb p page n) ∙ sym (cond-false _ _ _ (ne_eqb p page n))
    ]

number_with : (r : Rights) (o : Option Mapping) → number_of (option_map (with_rights r) o) ≡ number_of o
number_with r None = refl
number_with r (Some m) = refl

flag_with : (r : Rights) (o : Option Mapping) → flag_in (option_map (with_rights r) o) ≡ flag_in o
flag_with r None = refl
flag_with r (Some m) = refl

pub protects_frame : (first len : ℕ) (rights : Rights) (t u : Table) → Protects first len rights t u → (p : ℕ) → frame_in u p ≡ frame_in t p
protects_frame first len rights t u protects p =
    frame-picked t u p (in_range first len p) _ (protects.mapping p)
    ∙ ap (λ o. if in_range first len p then o else frame_in t p) (number_with rights (mapping_in t p) ∙ sym (frame_in-is t p))
    ∙ same_both _ (frame_in t p)

pub protects_dirty : (first len : ℕ) (rights : Rights) (t u : Table) → Protects first len rights t u → (p : ℕ) → dirty_in u p ≡ dirty_in t p
protects_dirty first len rights t u protects p =
    dirty-picked t u p (in_range first len p) _ (protects.mapping p)
    ∙ ap (λ d. if in_range first len p then d else dirty_in t p) (flag_with rights (mapping_in t p) ∙ sym (dirty_in-is t p))
    ∙ same_both _ (dirty_in t p)

-- the frame of a number, where the page has one
abbrev pub frame_of : List (Option Framed) → Option ℕ → Option Framed
frame_of frames o = option_and_then (λ number. slice_index_or frames number None) o

pub word_in-is : (t : Table) (p i : ℕ) → word_in t p i ≡ word_in_frame (frame_of t.frames (frame_in t p)) i
unfolding word_in
word_in-is t p i = refl

pub word_in-found : (t : Table) (p i number : ℕ) → frame_in t p ≡ Some number
    → word_in t p i ≡ word_in_frame (slice_index_or t.frames number None) i
word_in-found t p i number h = word_in-is t p i ∙ ap (λ o. word_in_frame (frame_of t.frames o) i) h

-- the words of a resident page are those of its frame
pub has_words : (t : Table) (page k : ℕ) (f : Framed) → frame_in t page ≡ Some k → slice_index_or t.frames k None ≡ Some f
    → HasWords t page f.words
has_words t page k f has is i = word_in-found t page i k has ∙ ap (λ o. word_in_frame o i) is

-- a write at a number leaves the words of the pages with another
word-other : (frames : List (Option Framed)) (k : ℕ) (f : Option Framed) (o : Option ℕ) (i : ℕ) → o ≢ Some k
    → word_in_frame (frame_of (slice_set frames k f) o) i ≡ word_in_frame (frame_of frames o) i
word-other frames k f None i h = refl
word-other frames k f (Some n) i h = ap (λ x. word_in_frame x i) (get_or-set_other frames k n f None (λ e. h (ap Some e)))

found_within : (t : Table) → IsPaged t → (p number : ℕ) → frame_in t p ≡ Some number → number < length t.frames
found_within t paged p number h = get_or_within t.frames number _ (paged.found p number h).is

-- a resident page's number names a frame of that number
pub frame-number : (t : Table) → IsPaged t → (p number : ℕ) (f : Framed) → frame_in t p ≡ Some number
    → slice_index_or t.frames number None ≡ Some f → f.number ≡ number
frame-number t paged p number f has is =
    let at = paged.found p number has in
    ap (λ (g : Framed). g.number) (same_Some f at.frame (sym is ∙ at.is)) ∙ at.number_is

pub frame-there : (t : Table) → IsPaged t → (p number : ℕ) → frame_in t p ≡ Some number → slice_index_or t.frames number None ≢ None
frame-there t paged p number has none = none-some _ (sym none ∙ (paged.found p number has).is)

frame_at-other : (t u : Table) (k n : ℕ) (f : Option Framed) → u.frames ≡ slice_set t.frames k f → n ≢ k → IsFrameAt t n → IsFrameAt u n
frame_at-other t u k n f e other at =
    record {
      frame = at.frame;
      is = ap (λ fs. slice_index_or fs n None) e ∙ get_or-set_other t.frames k n f None other ∙ at.is;
      number_is = at.number_is;
    }

-- What is kept of a table stays where each page keeps its frame, and each frame its number.
pub kept_paged : (t u : Table) → IsPaged t → frames_in u.pages ≡ frames_in t.pages → length u.frames ≡ length t.frames
    → ((p : ℕ) → frame_in u p ≡ frame_in t p) → ((n : ℕ) → IsFrameAt t n → IsFrameAt u n) → IsPaged u
kept_paged t u paged pages frames frame at =
    record {
      count = pages ∙ paged.count ∙ sym frames;
      few = omega (arith, frames, paged.few);
      found = λ p n h. at n (paged.found p n (sym (frame p) ∙ h));
      apart = λ p q n hp hq. paged.apart p q n (sym (frame p) ∙ hp) (sym (frame q) ∙ hq);
    }

frame_at-same : (t u : Table) (n : ℕ) → u.frames ≡ t.frames → IsFrameAt t n → IsFrameAt u n
frame_at-same t u n e at = record { frame = at.frame; is = ap (λ fs. slice_index_or fs n None) e ∙ at.is; number_is = at.number_is }

-- the words are the same where the frames are
pub word-same : (t u : Table) (p i : ℕ) → u.frames ≡ t.frames → frame_in u p ≡ frame_in t p → word_in u p i ≡ word_in t p i
word-same t u p i e same =
    word_in-is u p i ∙ ap (λ fs. word_in_frame (frame_of fs (frame_in u p)) i) e ∙ ap (λ o. word_in_frame (frame_of t.frames o) i) same
    ∙ sym (word_in-is t p i)

-- This is said of a page from now on, or nothing, and no other page has the number.
pub record SaysOf (t : Table) (page k : ℕ) (given : Option Mapping) (pages : Resident) : Type 0 where
  pub paged : IsPaged t
  pub maps : MapsTo page given t.pages pages
  pub others : (p : ℕ) → p ≢ page → frame_in t p ≢ Some k

-- And what stands at the number is written.
module _ (t : Table) (page k : ℕ) (given : Option Mapping) (f : Option Framed) (pages : Resident) (says : SaysOf t page k given pages) where
  abbrev pub moved : Table
  moved = record t { pages = pages; frames = slice_set t.frames k f }

  frame_moved-other : (p : ℕ) → p ≢ page → frame_in moved p ≡ frame_in t p
  frame_moved-other p n = frame-same t moved p (says.maps.at p ∙ cond-false _ _ _ (ne_eqb p page n))

  frame_moved-same : frame_in moved page ≡ number_of given
  frame_moved-same = frame_in-is moved page ∙ ap number_of (says.maps.at page ∙ cond-true _ _ _ (eq-eqb page page refl))

  word_moved : (p i : ℕ) → p ≢ page → word_in moved p i ≡ word_in t p i
  word_moved p i n =
      word_in-is moved p i ∙ ap (λ o. word_in_frame (frame_of (slice_set t.frames k f) o) i) (frame_moved-other p n)
      ∙ word-other t.frames k f (frame_in t p) i (says.others p n) ∙ sym (word_in-is t p i)

  pub moved_maps : Maps page given t moved
  moved_maps =
      record {
        same = record { sizes = refl; count = length-set t.frames k f; own = λ p. own_in-is moved p ∙ sym (own_in-is t p) };
        mapping = says.maps.at;
        word = word_moved;
      }

  -- the page's new number, if it has one, is that which was written, and its frame is there
  pub moved_paged : ((n : ℕ) → number_of given ≡ Some n → n ≡ k) → (number_of given ≡ Some k → IsFrameAt moved k) → IsPaged moved
  moved_paged only there =
      record {
        count = says.maps.frames ∙ says.paged.count ∙ sym (length-set t.frames k f);
        few = omega (arith, length-set t.frames k f, says.paged.few);
        found = λ p n h.
            elim (cases_eq p page) [
              | inl e ↦
                  let g : number_of given ≡ Some n = sym frame_moved-same ∙ ap (λ q. frame_in moved q) (sym e) ∙ h in
                  let same = only n g in
                  subst (λ (m : ℕ). IsFrameAt moved m) (sym same) (there (g ∙ ap Some same))
              | inr other ↦
                  let was : frame_in t p ≡ Some n = sym (frame_moved-other p other) ∙ h in
                  frame_at-other t moved k n f refl (λ e. says.others p other (was ∙ ap Some e)) (says.paged.found p n was)
            ];
        apart = λ p q n hp hq.
            elim (cases_eq p page) [
              | inl e ↦ elim (cases_eq q page) [
                | inl d ↦ e ∙ sym d
                | inr other ↦
                    let g : number_of given ≡ Some n = sym frame_moved-same ∙ ap (λ r. frame_in moved r) (sym e) ∙ hp in
                    absurd (says.others q other (sym (frame_moved-other q other) ∙ hq ∙ ap Some (only n g)))
              ]
              | inr other ↦ elim (cases_eq q page) [
                | inl d ↦
                    let g : number_of given ≡ Some n = sym frame_moved-same ∙ ap (λ r. frame_in moved r) (sym d) ∙ hq in
                    absurd (says.others p other (sym (frame_moved-other p other) ∙ hp ∙ ap Some (only n g)))
                | inr other' ↦ says.paged.apart p q n (sym (frame_moved-other p other) ∙ hp) (sym (frame_moved-other q other') ∙ hq)
              ]
            ];
      }

-- A page that has no frame gets this one, which no page has.
pub record PutsFrame (t : Table) (page : ℕ) (m : Mapping) (f : Framed) (pages : Resident) : Type 0 where
  pub paged : IsPaged t
  pub maps : MapsTo page (Some m) t.pages pages
  pub number : m.frame ≡ f.number
  pub known : f.number < length t.frames
  pub other : (p : ℕ) → frame_in t p ≢ Some f.number

module _ (t : Table) (page : ℕ) (m : Mapping) (f : Framed) (pages : Resident) (puts : PutsFrame t page m f pages) where
  abbrev pub put_table : Table
  put_table = record t { pages = pages; frames = slice_set t.frames f.number (Some f) }

  put_says : SaysOf t page f.number (Some m) pages
  put_says = record { paged = puts.paged; maps = puts.maps; others = λ p _. puts.other p }

  pub put_paged : IsPaged put_table
  put_paged =
      moved_paged t page f.number (Some m) (Some f) pages put_says (λ n h. sym (same_Some _ _ h) ∙ puts.number)
      (λ _. record { frame = f; is = get_or-set_same t.frames f.number (Some f) None puts.known; number_is = refl })

  pub put_maps : Maps page (Some m) t put_table
  put_maps = moved_maps t page f.number (Some m) (Some f) pages put_says

pub others_apart : (t : Table) → IsPaged t → (page k : ℕ) → frame_in t page ≡ Some k → (p : ℕ) → p ≢ page → frame_in t p ≢ Some k
others_apart t paged page k has p n e = n (paged.apart p page k e has)

-- a resident page loses its frame
module _ (t : Table) (paged : IsPaged t) (page k : ℕ) (pages : Resident) (maps : MapsTo page None t.pages pages)
    (has : frame_in t page ≡ Some k) where
  abbrev pub taken : Table
  taken = record t { pages = pages; frames = slice_set t.frames k None }

  take_says : SaysOf t page k None pages
  take_says = record { paged = paged; maps = maps; others = others_apart t paged page k has }

  pub take_paged : IsPaged taken
  take_paged = moved_paged t page k None None pages take_says (λ n e. absurd (none-some n e)) (λ e. absurd (none-some k e))

  pub take_maps : Maps page None t taken
  take_maps = moved_maps t page k None None pages take_says

-- The words of a resident page's frame are written.
module _ (t : Table) (paged : IsPaged t) (page k : ℕ) (f : Framed) (has : frame_in t page ≡ Some k) (number : f.number ≡ k) where
  abbrev pub rewritten : Table
  rewritten = record t { frames = slice_set t.frames k (Some f) }

  known : k < length t.frames
  known = found_within t paged page k has

  frame_rewritten : (p : ℕ) → frame_in rewritten p ≡ frame_in t p
  frame_rewritten p = frame-same t rewritten p refl

  there : IsFrameAt rewritten k
  there = record { frame = f; is = get_or-set_same t.frames k (Some f) None known; number_is = number }

  frame_at_rewritten : (n : ℕ) → IsFrameAt t n → IsFrameAt rewritten n
  frame_at_rewritten n at =
      elim (cases_eq n k) [
        | inl e ↦ subst (λ (m : ℕ). IsFrameAt rewritten m) (sym e) there
        | inr other ↦ frame_at-other t rewritten k n (Some f) refl other at
      ]

  pub rewritten_paged : IsPaged rewritten
  rewritten_paged = kept_paged t rewritten paged refl (length-set t.frames k (Some f)) frame_rewritten frame_at_rewritten

  pub rewritten_has : HasWords rewritten page f.words
  unfolding there
  rewritten_has = has_words rewritten page k f (frame_rewritten page ∙ has) there.is

  pub refills : Refills page t rewritten
  refills =
      record {
        same = record { sizes = refl; count = length-set t.frames k (Some f); own = λ p. own_in-is rewritten p ∙ sym (own_in-is t p) };
        mapping = λ p. refl;
        word = λ p i n.
            word_in-is rewritten p i ∙ ap (λ o. word_in_frame (frame_of (slice_set t.frames k (Some f)) o) i) (frame_rewritten p)
            ∙ word-other t.frames k (Some f) (frame_in t p) i (others_apart t paged page k has p n) ∙ sym (word_in-is t p i);
      }

  -- one word of them alone
  pub sets_word : (index w : ℕ) (g : Framed) → slice_index_or t.frames k None ≡ Some g → f.words ≡ slice_set g.words index w
      → index < length g.words
      → SetsWord page index w t rewritten
  sets_word index w g was set in_page =
      record {
        same = refills.same;
        pages = refl;
        word = λ p i. elim (cases_eq p page) [
          | inl e ↦
              let old : word_in t page i ≡ slice_index_or g.words i 0 = word_in-found t page i k has ∙ ap (λ x. word_in_frame x i) was in
              rw e (rewritten_has i ∙ ap (λ (ws : List ℕ). slice_index_or ws i 0) set ∙ elim (cases_eq i index) [
                | inl at ↦
                    ap (λ (j : ℕ). slice_index_or (slice_set g.words index w) j 0) at ∙ get_or-set_same g.words index w 0 in_page
                    ∙ sym (ap₂ (λ (a b : Bool). if a && b then w else word_in t page i) (eq-eqb page page refl) (eq-eqb i index at))
                | inr off ↦
                    get_or-set_other g.words index i w 0 off ∙ sym old
                    ∙ sym (ap₂ (λ (a b : Bool). if a && b then w else word_in t page i) (eq-eqb page page refl) (ne_eqb i index off))
              ])
          | inr n ↦ refills.word p i n ∙ sym (ap (λ (b : Bool). if b && (i == index) then w else word_in t p i) (ne_eqb p page n))
        ];
      }

-- What is said of pages changed, and each keeps its frame.
module _ (t : Table) (paged : IsPaged t) (pages : Resident) (count : frames_in pages ≡ frames_in t.pages) where
  abbrev pub said : Table
  said = record t { pages = pages }

  pub said_paged : ((p : ℕ) → frame_in said p ≡ frame_in t p) → IsPaged said
  said_paged frame = kept_paged t said paged count refl frame (λ n at. frame_at-same t said n refl at)

-- a page without a frame is given none, and all is as before
module _ (t : Table) (page : ℕ) (pages : Resident) (maps : MapsTo page None t.pages pages) (none : frame_in t page ≡ None) where
  abbrev pub untaken : Table
  untaken = record t { pages = pages }

  frame_untaken : (p : ℕ) → frame_in untaken p ≡ frame_in t p
  frame_untaken p = frame-same t untaken p (maps.at p ∙ elim (cases_eq p page) [
    | inl e ↦ rw e (cond-true _ _ _ (eq-eqb page page refl) ∙ sym (mapping-absent t page none))
    | inr n ↦ cond-false _ _ _ (ne_eqb p page n)
  ])

  pub untaken_paged : IsPaged t → IsPaged untaken
  untaken_paged paged = said_paged t paged pages maps.frames frame_untaken

  pub untaken_maps : Maps page None t untaken
  untaken_maps =
      record {
        same = record { sizes = refl; count = refl; own = λ p. own_in-is untaken p ∙ sym (own_in-is t p) };
        mapping = maps.at;
        word = λ p i n. word-same t untaken p i refl (frame_untaken p);
      }

-- the flag of a page is written, where it is resident
module _ (t : Table) (page : ℕ) (flag : Bool) (pages : Resident)
    (maps : MapsTo page (option_map (with_flag flag) (mapping_at t.pages page)) t.pages pages) where
  abbrev flagged : Table
  flagged = record t { pages = pages }

  pub mapping_flagged : (p : ℕ)
      → mapping_in flagged p ≡ (if p == page then option_map (with_flag flag) (mapping_in t p) else mapping_in t p)
  mapping_flagged p = maps.at p ∙ elim (cases_eq p page) [
    | inl e ↦ rw e refl
    | inr n ↦ cond-false _ _ _ (ne_eqb p page n) ∙ sym (cond-false _ _ _ (ne_eqb p page n))
  ]

  pub frame_flagged : (p : ℕ) → frame_in flagged p ≡ frame_in t p
  frame_flagged p = flagged_frame flag (p == page) t flagged p (mapping_flagged p)

  pub word_flagged : (p i : ℕ) → word_in flagged p i ≡ word_in t p i
  word_flagged p i = word-same t flagged p i refl (frame_flagged p)

-- and each keeps its frame
pub flagged_paged : (t : Table) → IsPaged t
    → (page : ℕ) (flag : Bool) (pages : Resident) (maps : MapsTo page (option_map (with_flag flag) (mapping_at t.pages page)) t.pages pages)
    → IsPaged (record t { pages = pages })
flagged_paged t paged page flag pages maps = said_paged t paged pages maps.frames (frame_flagged t page flag pages maps)

pub cleans : (t : Table) (page : ℕ) (pages : Resident)
    (maps : MapsTo page (option_map (with_flag false) (mapping_at t.pages page)) t.pages pages)
    → Cleans page t (record t { pages = pages })
cleans t page pages maps =
    record {
      same = record { sizes = refl; count = refl; own = λ p. own_in-is _ p ∙ sym (own_in-is t p) };
      mapping = mapping_flagged t page false pages maps;
      word = word_flagged t page false pages maps;
    }

-- a clean page is clean as it is
pub cleans_none : (t : Table) (page : ℕ) → dirty_in t page ≡ false → Cleans page t t
cleans_none t page clean =
    record {
      same = record { sizes = refl; count = refl; own = λ p. refl };
      mapping = λ p. elim (cases_eq p page) [
        | inl e ↦ rw e (sym (cond-true _ _ _ (eq-eqb page page refl) ∙ unflagged (mapping_in t page) (sym (dirty_in-is t page) ∙ clean)))
        | inr n ↦ sym (cond-false _ _ _ (ne_eqb p page n))
      ];
      word = λ p i. refl;
    }
  where
    unflagged : (o : Option Mapping) → flag_in o ≡ false → option_map (with_flag false) o ≡ o
    unflagged None h = refl
    unflagged (Some m) h = ap (λ d. Some (with_flag d m)) (sym h)

-- so a dirty page has it, and is dirty still
pub sets_dirty : (page index w : ℕ) (t u : Table) → dirty_in t page ≡ true → SetsWord page index w t u → Writes page index w t u
sets_dirty page index w t u dirty sets =
    record {
      same = sets.same;
      mapping = λ p. ap (λ (r : Resident). mapping_at r p) sets.pages ∙ elim (cases_eq p page) [
        | inl e ↦
            rw e (sym (cond-true _ _ _ (eq-eqb page page refl) ∙ flagged_already (mapping_in t page) (sym (dirty_in-is t page) ∙ dirty)))
        | inr n ↦ sym (cond-false _ _ _ (ne_eqb p page n))
      ];
      word = sets.word;
    }
  where
    flagged_already : (o : Option Mapping) → flag_in o ≡ true → option_map (with_flag true) o ≡ o
    flagged_already None h = refl
    flagged_already (Some m) h = ap (λ d. Some (with_flag d m)) (sym h)

-- and a page that becomes dirty first has it then
pub sets_flagged : (t : Table) (page index w : ℕ) (pages : Resident)
    (maps : MapsTo page (option_map (with_flag true) (mapping_at t.pages page)) t.pages pages) (u : Table)
    → SetsWord page index w (record t { pages = pages }) u → Writes page index w t u
sets_flagged t page index w pages maps u sets =
    record {
      same = record { sizes = sets.same.sizes; count = sets.same.count; own = λ p. sets.same.own p ∙ own_in-is _ p ∙ sym (own_in-is t p) };
      mapping = λ p. ap (λ (r : Resident). mapping_at r p) sets.pages ∙ mapping_flagged t page true pages maps p;
      word = λ p i. sets.word p i ∙ ap (λ n. if (p == page) && (i == index) then w else n) (word_flagged t page true pages maps p i);
    }

-- A table of empty places, in which no page is resident, and none has rights of its own.
pub record HasNothing (t : Table) (frames : ℕ) : Type 0 where
  pub count : frames_in t.pages ≡ frames
  pub none : (p : ℕ) → mapping_at t.pages p ≡ None
  pub own : (p : ℕ) → rights_of t.own p ≡ None
  pub places : t.frames ≡ replicate frames None

module _ (t : Table) (frames : ℕ) (nothing : HasNothing t frames) where
  none_resident : (p : ℕ) → frame_in t p ≡ None
  none_resident p = frame-absent t p (nothing.none p)

  place_count : length t.frames ≡ frames
  place_count = ap length nothing.places ∙ length-replicate {A = Option Framed} frames None

  pub fresh : IsFresh frames t.sizes t
  fresh =
      record {
        sizes = refl;
        count = place_count;
        none_resident = nothing.none;
        none_own = λ p. own_in-is t p ∙ nothing.own p;
      }

  pub fresh_paged : frames ≤ most_frames → IsPaged t
  fresh_paged few =
      record {
        count = nothing.count ∙ sym place_count;
        few = omega (arith, place_count);
        found = λ p n h. absurd (none-some n (sym (none_resident p) ∙ h));
        apart = λ p q n h _. absurd (none-some n (sym (none_resident p) ∙ h));
      }

-- the pages of a range get these rights of their own, or none
module _ (t : Table) (first len : ℕ) (rights : Option Rights) (own : RightsTree)
    (set : (p : ℕ) → rights_of own p ≡ (if in_range first len p then rights else rights_of t.own p)) where
  abbrev pub owning : Table
  owning = record t { own = own }

  frame_owning : (p : ℕ) → frame_in owning p ≡ frame_in t p
  frame_owning p = frame-same t owning p refl

  word_owning : (p i : ℕ) → word_in owning p i ≡ word_in t p i
  word_owning p i = word-same t owning p i refl (frame_owning p)

  own_owning : (p : ℕ) → own_in owning p ≡ (if in_range first len p then rights else own_in t p)
  own_owning p = own_in-is owning p ∙ set p ∙ ap (λ o. if in_range first len p then rights else o) (sym (own_in-is t p))

  pub owning_paged : IsPaged t → IsPaged owning
  owning_paged paged = kept_paged t owning paged refl refl frame_owning (λ n at. frame_at-same t owning n refl at)

-- no page of the range keeps rights of its own
pub forgets : (t : Table) (first len : ℕ) (own : RightsTree)
    (set : (p : ℕ) → rights_of own p ≡ (if in_range first len p then None else rights_of t.own p))
    → Forgets first len t (owning t first len None own set)
forgets t first len own set =
    record {
      sizes = refl;
      count = refl;
      mapping = λ p. refl;
      word = word_owning t first len None own set;
      own = own_owning t first len None own set;
    }

-- The pages of a range have rights of their own, and it is said of the resident ones.
pub record SetsRights (t : Table) (first len : ℕ) (rights : Rights) (own : RightsTree) (pages : Resident) : Type 0 where
  pub set : (p : ℕ) → rights_of own p ≡ (if in_range first len p then Some rights else rights_of t.own p)
  pub protects : ProtectsIn first len rights t.pages pages

module _ (t : Table) (first len : ℕ) (rights : Rights) (own : RightsTree) (pages : Resident)
    (sets : SetsRights t first len rights own pages) where
  abbrev mid : Table
  mid = owning t first len (Some rights) own sets.set

  abbrev pub protected : Table
  protected = record t { pages = pages; own = own }

  frame_protected : (p : ℕ) → frame_in protected p ≡ frame_in mid p
  frame_protected p =
      frame-picked mid protected p (in_range first len p) _ (sets.protects.at p)
      ∙ ap (λ o. if in_range first len p then o else frame_in mid p) (number_with rights (mapping_in mid p) ∙ sym (frame_in-is mid p))
      ∙ same_both _ (frame_in mid p)

  pub protects_range : Protects first len rights t protected
  protects_range =
      record {
        sizes = refl;
        count = refl;
        mapping = sets.protects.at;
        word = λ p i. word-same mid protected p i refl (frame_protected p) ∙ word_owning t first len (Some rights) own sets.set p i;
        own = λ p. own_in-is protected p ∙ sym (own_in-is mid p) ∙ own_owning t first len (Some rights) own sets.set p;
      }

  pub protected_paged : IsPaged t → IsPaged protected
  protected_paged paged =
      said_paged mid (owning_paged t first len (Some rights) own sets.set paged) pages sets.protects.frames frame_protected

-- the next resident page is that which has a frame
pub next_some : (t : Table) (from end : ℕ) (o : Option ℕ) → IfSome o (IsNextResident (mapping_in t) from end)
    → IfSome o (IsFirstResident t from end)
next_some t from end None h = tt
next_some t from end (Some page) h =
    record {
      from_on = h.from_on;
      before_end = h.before_end;
      resident = λ none. h.resident (mapping-absent t page none);
      lowest = λ p low high. frame-absent t p (h.lowest p low high);
    }

pub next_none : (t : Table) (from end : ℕ) (o : Option ℕ) → IfNone o (NoneResident (mapping_in t) from end) → IfNone o (NoneFrom t from end)
next_none t from end None h = λ p low high. frame-absent t p (h p low high)
next_none t from end (Some page) h = tt
