-- What the next entry of a legal history may be followed by.
use Rattle.std.proofs.Common.{◌≡◌, ◌≢◌, ℕ, ◌<◌, Bool, false, ◌==◌, if◌then◌else◌, List, [], ◌∷◌, ◌++◌, length, Option, Some, None, refl, sym, ap, inl, inr, ◌∙◌, arith, subst}
use Rattle.std.proofs.lemmas.Bool.{cases_lt, ne_eqb, eq-eqb, cond-true, cond-false, true≢false}
use Rattle.std.proofs.lemmas.List.{get_or_past}
use Rattle.std.proofs.lemmas.Option.{none-some, same_Some}
use Rattle.pager_model.specs.declared.entry.Entry.{Entry}
use Rattle.pager_model.specs.declared.entry.What.{What}
use Rattle.pager_model.specs.declared.entry.What.TheVariants.{Take, UseHeld}
use Rattle.pager_model.specs.FrameStates.{frame_of, layout_of}
use Rattle.pager_model.specs.Legal.{IsLegal, MayFollow, frames_at, space_at}
use Rattle.pager_model.specs.Options.{is_that}
use Rattle.pager_model.specs.Settings.{Given}
use Rattle.pager_model.specs.SpaceStates.{SpaceState, SpaceAllows, WhatAllowed, base_after, space_after}
use Rattle.pager_model.proofs.Histories.{IsLegal-push, space_at-named}
use Rattle.pager_model.proofs.Options.{in_some}
use Rattle.pager_laws.proofs.CopyLaws.{KeepsCopies-legal}
use Rattle.pager_laws.proofs.LegalHistories.{IsKept, IsKept-legal}
use Rattle.pager_laws.proofs.LegalPrefixes.{IsLegal-at}
use Rattle.pager_laws.proofs.PageMoves.{one_page}
use Rattle.pager_laws.proofs.PagePlaces.{frame_in-found}
use Rattle.followed_space.specs.Follows.{AnswersLine, Followed, Follows, FillsUnused, IsNext, IsUnused, filled}
use Rattle.tiles.specs.Resident.{frames_in}

-- What an entry that puts a frame under a page says of the frames of pages.
record Puts (st : SpaceState) (b : Bool) (what : What) (page frame : ℕ) : Type 0 where
  absent : st.base page ≡ None
  base : (p : ℕ) → base_after st.base b what p ≡ (if p == page then Some frame else st.base p)

puts : (st : SpaceState) (b : Bool) (c : ℕ) (what : What) (page frame : ℕ) → filled what ≡ Some (page, frame) → WhatAllowed st b c what
    → Puts st b what page frame
puts st b c (Take p f want) page frame h allowed = subst (λ (x : ℕ × ℕ). Puts st b (Take p f want) x.0 x.1) (same_Some _ _ h)
    (record { absent = allowed.1; base = λ q. refl })
puts st b c (UseHeld p f want) page frame h allowed = subst (λ (x : ℕ × ℕ). Puts st b (UseHeld p f want) x.0 x.1) (same_Some _ _ h)
    (record { absent = allowed.1; base = λ q. refl })
puts st b c what page frame h allowed = cc

-- a frame that is a used place is one of the frames
known_frame : (g : Given) (history : List Entry) (s p frame : ℕ) → IsKept g history → frame_of (frames_at g history) s p ≡ Some frame
    → frame < g.frames
known_frame g history s p frame kept is =
    let st = frames_at g history in
    let place = frame_in-found (layout_of st) s p frame is in
    let laid = kept.sound.laid in
    elim (cases_lt frame (length (layout_of st).used)) [
      | inl below ↦ omega (arith, below, laid.used_long, kept.sound.known)
      | inr past ↦ absurd (true≢false (sym place.used ∙ get_or_past (layout_of st).used frame false past))
    ]

-- after a legal history no page of the space has the frame that comes under a page with the next entry
unused_next : (g : Given) (history : List Entry) (e : Entry) (s page frame : ℕ) → IsLegal g history → MayFollow g history e
    → e.space ≡ Some s
    → filled e.what ≡ Some (page, frame) → SpaceAllows (space_at g history s) e → IsUnused g.frames (space_at g history s) frame
unused_next g history e s page frame legal may on h allowed =
    let st = space_at g history s in
    let after = history ++ e ∷ [] in
    let kept = IsKept-legal g after (IsLegal-push g history e legal may) in
    let put = puts st e.frames e.processor e.what page frame h allowed.1 in
    let named : space_at g after s ≡ space_after st e = space_at-named g history e s (ap (is_that s) on ∙ eq-eqb s s refl) in
    let base : (p : ℕ) → frame_of (frames_at g after) s p ≡ (if p == page then Some frame else st.base p) = λ p. sym (kept.agrees s p)
    ∙ ap (λ (x : SpaceState). x.base p) named ∙ put.base p in
    let here : frame_of (frames_at g after) s page ≡ Some frame = base page ∙ cond-true _ _ _ (eq-eqb page page refl) in
    record {
      known = known_frame g after s page frame kept here;
      others = λ p is.
          let other : p ≢ page = λ e. none-some frame (sym put.absent ∙ ap st.base (sym e) ∙ is) in
          let there : frame_of (frames_at g after) s p ≡ Some frame = base p ∙ cond-false _ _ _ (ne_eqb p page other) ∙ is in
          other (sym (one_page (layout_of (frames_at g after)) s page s p frame kept.sound.laid here there).1);
    }

fills_unused : (frames : ℕ) (st : SpaceState) (o : Option (ℕ × ℕ)) → ((page frame : ℕ) → o ≡ Some (page, frame) → IsUnused frames st frame)
    → FillsUnused frames st o
fills_unused frames st None h = tt
fills_unused frames st (Some x) h = h x.0 x.1 refl

pub IsNext-legal : (g : Given) (history : List Entry) (e : Entry) (s : ℕ) (kept : Followed)
    → IsLegal g (history ++ e ∷ []) → e.space ≡ Some s → AnswersLine e.what → frames_in kept.pages ≡ g.frames
    → Follows kept (space_at g history s)
    → IsNext kept (space_at g history s) e
IsNext-legal g history e s kept legal on line frames follows =
    let parts = IsLegal-at g history [] e legal in
    let allowed : SpaceAllows (space_at g history s) e = in_some _ e.space s on parts.1.by_space in
    record {
      follows = follows;
      allowed = allowed;
      copies = KeepsCopies-legal g history s parts.0;
      unused = rw frames (fills_unused g.frames (space_at g history s) (filled e.what)
          (λ page frame h. unused_next g history e s page frame parts.0 parts.1 on h allowed));
      line = line;
    }
