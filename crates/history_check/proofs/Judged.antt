-- An entry of a space may follow a legal history exactly where its parts, its order, its space and the frames say so.
use Rattle.std.proofs.Common.{◌≡◌, ◌+◌, ◌<◌, ◌≤◌, ℕ, Bool, true, cond, List, [], ◌∷◌, ◌++◌, length, Option, Some, None, refl, sym, ap, subst, ◌∙◌, inl, inr, arith}
use Rattle.std.specs.Option.{IfSome}
use Rattle.std.proofs.lemmas.Bool.{cases_Bool, eq-eqb, false≢true, leb-true}
use Rattle.std.proofs.lemmas.Option.{none-some}
use Rattle.pager_model.specs.declared.entry.Entry.{Entry}
use Rattle.pager_model.specs.declared.entry.Victim.{Victim}
use Rattle.pager_model.specs.declared.entry.What.{What}
use Rattle.pager_model.specs.declared.entry.What.TheVariants.{Answer, Take, Clear, UseHeld, Unclaim}
use Rattle.pager_model.specs.declared.region.Region.{Region}
use Rattle.pager_model.specs.Agreement.{ClaimsOrHolds}
use Rattle.pager_model.specs.Bounds.{space_pages}
use Rattle.pager_model.specs.Entries.{NamesItsParts}
use Rattle.pager_model.specs.FrameStates.{FrameState, frame_of, frames_after, layout_of, named_space}
use Rattle.pager_model.specs.Laws.{KeepsCopies}
use Rattle.pager_model.specs.Legal.{MayFollow, frames_at, progress_at, space_at}
use Rattle.pager_model.specs.Options.{is_that}
use Rattle.pager_model.specs.Order.{Progress, after_unclaim, progress_after, progress_by, victim_in}
use Rattle.pager_model.specs.Regions.{end_of, range_in, region_at}
use Rattle.pager_model.specs.Settings.{Given, mark_of}
use Rattle.pager_model.specs.SpaceStates.{SpaceAllows, SpaceState, WhatAllowed, space_after}
use Rattle.pager_model.proofs.Histories.{IsLegal-push, frames_at-named, frames_at-other, progress_at-own, space_at-named}
use Rattle.pager_laws.proofs.CopyLaws.{KeepsCopies-legal}
use Rattle.pager_laws.proofs.LegalHistories.{IsKept, IsKept-legal}
use Rattle.pager_laws.specs.Laid.{IsSound}
use Rattle.pager_laws.proofs.PageMoves.{one_page, place_in_layout}
use Rattle.followed_frames.specs.Ready.{IsReached, IsReady}
use Rattle.followed_space.specs.Follows.{FillsUnused, filled}
use Rattle.followed_space.proofs.LegalEntries.{IsNext-legal}
use Rattle.tiles.specs.Resident.{frame_of_page, frames_in}
use Rattle.told_space.proofs.Standing.{allows_kept, allows_told}
use Rattle.told_space.specs.declared.space.ToldSpace.{ToldSpace}
use Rattle.told_space.specs.Told.{AllowsBefore, AllowsWhat, IsOwner, IsToldNext, Kept, Stands, WantsFor, kept_of, state_in}
use Rattle.history_check.proofs.RegionsWithin.{EndWithin, EndWithin-legal, found_within}
use Rattle.history_check.proofs.ReadyFrames.{Clears, from_unclaim, ready}
use Rattle.history_check.specs.Ready.{CameSoFar, FramesMay, IsReadyHere, IsReadyWhat, frames_next}
use Rattle.history_check.specs.Standing.{GoesOn, IsKeptAfter, StandsAt, page_in}

-- a fact of the space that an entry names
if_named : (o : Option ℕ) (P : ℕ → Type 0) (s : ℕ) → o ≡ Some s → P (named_space o) → IfSome o P
if_named None P s is has = absurd (none-some s is)
if_named (Some t) P s is has = has

named_if : (o : Option ℕ) (P : ℕ → Type 0) (s : ℕ) → o ≡ Some s → IfSome o P → P (named_space o)
named_if None P s is has = absurd (none-some s is)
named_if (Some t) P s is has = has

named_some : (o : Option ℕ) (s : ℕ) → o ≡ Some s → o ≡ Some (named_space o)
named_some None s is = absurd (none-some s is)
named_some (Some t) s is = refl

-- what a space allows it allows before, but for an answer's size
part_of : (st : SpaceState) (frames : Bool) (c : ℕ) (what : What) → WhatAllowed st frames c what → AllowsWhat st frames c what
part_of st frames c (Answer number call answered) is = record { reply = is.reply; parts = is.parts; hit = is.hit }
part_of st frames c what is = is

-- An entry that puts a frame under a page has no size, so that all is told of it before.
fills_by : (frames : ℕ) (st : SpaceState) (named : Bool) (c : ℕ) (what : What)
    → ((AllowsWhat st named c what → WhatAllowed st named c what) → FillsUnused frames st (filled what)) → FillsUnused frames st (filled what)
fills_by frames st named c (Take page frame want) by = by (λ is. is)
fills_by frames st named c (UseHeld page frame want) by = by (λ is. is)
fills_by frames st named c what by = tt

-- what is known of an entry that clears no range, and of one that does
ready_by : (g : Given) (history : List Entry) (st : FrameState) (told : ToldSpace) (e : Entry) (what : What)
    → ((Clears g history e.processor what → ⊥) → IsReady st e)
    → ((first len : ℕ) → what ≡ Clear first len → IsReadyWhat st told e (Clear first len))
    → IsReadyWhat st told e what
ready_by g history st told e (Clear first len) other clears = clears first len refl
ready_by g history st told e what other clears = other (λ is. is)

-- a range that lies in a region ends within the space
range_within : (rs : List Region) (first len : ℕ) → EndWithin rs → range_in first len (region_at rs first) ≡ true → first + len ≤ space_pages
range_within rs first len all is = by_region (region_at rs first) refl is
  where
    by_region : (o : Option Region) → region_at rs first ≡ o → range_in first len o ≡ true → first + len ≤ space_pages
    by_region None at is = absurd (false≢true is)
    by_region (Some r) at is = let fits = found_within rs first r all at in let ends = leb-true (first + len) (end_of r) is in omega (arith, fits, ends)

-- a page that has the frame of the victim is the victim's
one_owner : (frames processors : ℕ) (st : FrameState) (c : ℕ) (v : Victim) (p : ℕ) → IsSound frames processors st → ClaimsOrHolds st c v
    → frame_of st v.space p ≡ Some v.frame → p ≡ v.page
one_owner frames processors st c v p sound owns is = elim owns.frame [
  | inl holds ↦ absurd ((sound.held_apart c v.frame holds).1 (place_in_layout (layout_of st) v.space p v.frame is))
  | inr claims ↦ (one_page (layout_of st) v.space p v.space v.page v.frame sound.laid is claims.1).1
]

module _ (g : Given) (history : List Entry) (frames : FrameState) (kept : Kept) (before : Progress) (mark : ℕ) (e : Entry)
    (at : StandsAt g history frames kept before mark (named_space e.space) e) (s : ℕ) (on : e.space ≡ Some s) where
  -- the space's state
  abbrev here : SpaceState
  here = space_at g history (named_space e.space)

  legal_kept : IsKept g history
  legal_kept = IsKept-legal g history at.legal

  pub reached : IsReached frames
  reached = subst IsReached (sym at.frames_are) (record { frames = g.frames; processors = length g.marks; sound = legal_kept.sound })

  pub known : e.processor < length kept.images
  known = omega (arith, at.processor, at.images)

  -- What its order leads to is what it has after it.

  own_at : progress_at g (history ++ e ∷ []) e.processor ≡ progress_by (Some before) e
  own_at = progress_at-own g history e e.processor (eq-eqb e.processor e.processor refl) ∙ ap (λ o. progress_by o e) at.at

  pub order : (q : Progress) → progress_by (Some before) e ≡ Some q → progress_at g (history ++ e ∷ []) e.processor ≡ Some q
  order q goes = own_at ∙ goes

  pub no_order : progress_by (Some before) e ≡ None → MayFollow g history e → ⊥
  no_order breaks may = none-some may.ordered.0 (sym breaks ∙ ap (λ o. progress_by o e) (sym at.at) ∙ may.ordered.1)

  -- The page that may have the frame that is unclaimed.

  agrees : (p : ℕ) → frame_of (frames_at g history) (named_space e.space) p ≡ here.base p
  agrees p = sym (legal_kept.agrees (named_space e.space) p)

  owner_by : (q : Progress) (frame : ℕ) → after_unclaim before.made before.doing (named_space e.space) frame ≡ Some q
      → IsOwner kept frame (page_in (victim_in before.doing))
  owner_by q frame goes = λ p is.
      let owns = legal_kept.owns e.processor before at.at in
      let u = from_unclaim (frames_at g history) e.processor before.made (named_space e.space) frame before.doing q goes owns in
      let placed : frame_of (frames_at g history) (named_space e.space) p ≡ Some frame = agrees p ∙ at.stands.follows.base p ∙ is in
      let there : frame_of (frames_at g history) u.victim.space p ≡ Some u.victim.frame =
      ap (λ t. frame_of (frames_at g history) t p) (sym u.space) ∙ placed ∙ ap Some (sym u.own.is) in
      one_owner g.frames (length g.marks) (frames_at g history) e.processor u.victim p legal_kept.sound u.own.owns there
      ∙ sym (ap page_in u.in_place)

  after_what : (q : Progress) (what : What) → e.what ≡ what → progress_by (Some before) e ≡ Some q → progress_after before (Some (named_space e.space)) what ≡ Some q
  after_what q what is goes =
      ap (λ w. progress_after before (Some (named_space e.space)) w) (sym is)
      ∙ ap (λ o. progress_after before o e.what) (sym (named_some e.space s on)) ∙ goes

  pub owner : (q : Progress) → progress_by (Some before) e ≡ Some q → (frame : ℕ) → e.what ≡ Unclaim frame
      → IsOwner kept frame (page_in (victim_in before.doing))
  owner q goes frame is = owner_by q frame (after_what q (Unclaim frame) is goes)

  -- What is known where the parts, the order and the space say so.

  pub no_space : (AllowsBefore (state_in kept) e → ⊥) → MayFollow g history e → ⊥
  no_space never may_follow =
      let is = named_if e.space (λ t. SpaceAllows (space_at g history t) e) s on may_follow.by_space in
      never (allows_kept kept here at.stands e known (is.0, part_of here e.frames e.processor e.what is.1))

  pub no_size : (SpaceAllows here e → ⊥) → MayFollow g history e → ⊥
  no_size never may_follow = never (named_if e.space (λ t. SpaceAllows (space_at g history t) e) s on may_follow.by_space)

  module _ (parts : NamesItsParts e) (q : Progress) (goes : progress_by (Some before) e ≡ Some q) (allows : AllowsBefore (state_in kept) e)
      (wants : WantsFor e.what) where
    told : AllowsBefore here e
    told = allows_told kept here at.stands e known allows

    came : CameSoFar g history e
    came = record {
      legal = at.legal;
      parts = parts;
      processor = at.processor;
      space = if_named e.space (λ t. t < length g.told) s on at.space_known;
      few = at.spaces_few;
      before = before;
      at = at.at;
      after = q;
      goes = goes;
      by_space = if_named e.space (λ t. AllowsBefore (space_at g history t) e) s on told;
      line = at.line;
      wants = wants;
    }

    -- What the frames need not look at.

    is_ready : e.frames ≡ true → (Clears g history e.processor e.what → ⊥) → IsReady frames e
    is_ready on_frames no_clear =
        subst (λ st. IsReady st e) (sym at.frames_are) (ready g history e on_frames no_clear came)

    pub ready_here : (space : ToldSpace) → kept_of space ≡ kept → IsReadyHere frames space e
    ready_here space is = λ on_frames.
        ready_by g history frames space e e.what (is_ready on_frames)
        (λ first len clears. record {
          within = range_within here.flat.regions first len (EndWithin-legal g history (named_space e.space) at.legal)
              (subst (AllowsWhat here e.frames e.processor) clears told.1);
          agrees = λ p.
              ap (λ (k : Kept). frame_of_page k.space.pages p) is ∙ sym (at.stands.follows.base p) ∙ sym (agrees p)
              ∙ ap (λ st. frame_of st (named_space e.space) p) (sym at.frames_are);
        })

    pub no_frames : (FramesMay frames mark e → ⊥) → MayFollow g history e → ⊥
    no_frames never may_follow =
        never (subst (λ m. FramesMay frames m e) (sym at.mark_is)
        (subst (λ st. FramesMay st (mark_of g e.processor) e) (sym at.frames_are) may_follow.by_frames))

    -- The frames allow it too.

    module _ (frames_may : FramesMay frames mark e) where
      may_by : SpaceAllows here e → MayFollow g history e
      may_by allowed = record {
        parts = parts;
        processor = at.processor;
        space = if_named e.space (λ t. t < length g.told) s on at.space_known;
        by_space = if_named e.space (λ t. SpaceAllows (space_at g history t) e) s on allowed;
        by_frames = subst (λ st. FramesMay st (mark_of g e.processor) e) at.frames_are
            (subst (λ m. FramesMay frames m e) at.mark_is frames_may);
        ordered = (q, ap (λ o. progress_by o e) at.at ∙ goes);
      }

      pub next : IsToldNext kept here e
      next = record {
        stands = at.stands;
        allowed = told;
        known = known;
        unused = fills_by (frames_in kept.space.pages) here e.frames e.processor e.what
            (λ whole. (IsNext-legal g history e (named_space e.space) kept.space
            (IsLegal-push g history e at.legal (may_by (told.0, whole told.1))) (named_some e.space s on) at.line at.pages at.stands.follows).unused);
        line = at.line;
      }

      -- And so does the space.

      module _ (allowed : SpaceAllows here e) where
        named : space_at g (history ++ e ∷ []) (named_space e.space) ≡ space_after here e
        named = space_at-named g history e (named_space e.space)
            (ap (is_that (named_space e.space)) (named_some e.space s on) ∙ eq-eqb (named_space e.space) (named_space e.space) refl)

        frames_then : frames_at g (history ++ e ∷ []) ≡ frames_next (frames_at g history) e
        frames_then = elim (cases_Bool e.frames) [
          | inl on_frames ↦ frames_at-named g history e on_frames
              ∙ sym (ap (λ b. cond b (frames_after (frames_at g history) e) (frames_at g history)) on_frames)
          | inr off ↦ frames_at-other g history e off
              ∙ sym (ap (λ b. cond b (frames_after (frames_at g history) e) (frames_at g history)) off)
        ]

        pub goes_on : (new : FrameState) → new ≡ frames_next frames e → q.made ≤ before.made + 1 → GoesOn g history e new before q
        goes_on new is made = record {
          may = may_by allowed;
          frames_are = is ∙ ap (λ st. frames_next st e) at.frames_are ∙ sym frames_then;
          at = order q goes;
          made = made;
        }

        pub kept_after : (new : Kept) → length new.images ≡ length kept.images → frames_in new.space.pages ≡ frames_in kept.space.pages
            → (KeepsCopies (space_after here e) → Stands new (space_after here e))
            → IsKeptAfter g (history ++ e ∷ []) (named_space e.space) new
        kept_after new images pages stands =
            let copies = KeepsCopies-legal g (history ++ e ∷ []) (named_space e.space) (IsLegal-push g history e at.legal (may_by allowed)) in
            record {
              stands = subst (Stands new) (sym named) (stands (subst KeepsCopies named copies));
              images = images ∙ at.images;
              pages = pages ∙ at.pages;
            }
