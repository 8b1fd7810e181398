-- What every legal history keeps: the frames' state is sound, spaces and frames agree on the resident pages, and each processor
-- claims and holds what its place in its order says.
use Rattle.std.proofs.Common.{◌≡◌, ◌≢◌, ℕ, zero, suc, ◌<◌, Bool, true, false, cond, eqb, ◌&&◌, List, [], ◌∷◌, ◌++◌, length, replicate, Option, Some, None, IsSomeAnd, inl, inr, refl, sym, ap, subst, ◌∙◌, arith}
use Rattle.std.specs.List.{range_with_len}
use Rattle.std.proofs.lemmas.Bool.{cases_lt, eq-eqb, eqb-true, eqb-false, false≢true}
use Rattle.std.proofs.lemmas.List.{get_or_past}
use Rattle.std.proofs.lemmas.Option.{none-some, same_Some}
use Rattle.pager_model.specs.Options.{is_that}
use Rattle.pager_model.specs.SizeSets.{SizeSet}
use Rattle.pager_model.specs.declared.call.Call.{Call}
use Rattle.pager_model.specs.declared.call.Call.TheVariants.{Map, Grow, Unmap, Protect, Load, Store, Sync, Evict, Discard, Wire, Unwire}
use Rattle.pager_model.specs.declared.entry.Entry.{Entry}
use Rattle.pager_model.specs.declared.entry.Want.{Want}
use Rattle.pager_model.specs.declared.entry.What.{What}
use Rattle.pager_model.specs.declared.entry.What.TheVariants.{Answer, Out, Failed, Take, Give, Clear, Claim, UseHeld, DropHeld, Got, Unclaim, Refused, Pin, Kept, Rest}
use Rattle.pager_model.specs.declared.reply.Answered.{Answered}
use Rattle.pager_model.specs.Agreement.{Agrees, IsPartition, NothingHeld, OwnsBy}
use Rattle.pager_model.specs.Entries.{is_of, IsOn}
use Rattle.pager_model.specs.FrameStates.{FrameState, HasNothing, FramesAllow, AllowsAnswer, start_frames, layout_of, used_at, frame_of, claim_in, claimed, take_frame, state_taken, give_page, give_range, pin_range, dropped, counted, moved, moved_by_answer}
use Rattle.pager_model.specs.Layouts.{covering, used_in, frame_in}
use Rattle.pager_model.specs.Legal.{IsLegal, MayFollow, AllWhole, space_at, frames_at, progress_at}
use Rattle.pager_model.specs.Order.{Progress, between, at_rest, progress_after, progress_by, victim_in, is_holding}
use Rattle.pager_model.specs.Regions.{in_range}
use Rattle.pager_model.specs.Settings.{Given, mark_of}
use Rattle.pager_model.specs.SpaceStates.{SpaceState, base_after}
use Rattle.pager_model.proofs.Histories.{space_at-named, space_at-other, frames_at-named, frames_at-other, progress_at-own, progress_at-other, IsLegal-keeps}
use Rattle.pager_model.proofs.SpaceEntries.{base-unnamed}
use Rattle.pager_model.proofs.StartFrames.{HasNothing-start}
use Rattle.pager_model.proofs.Options.{none_from_never}
use Rattle.pager_laws.specs.Laid.{IsSound}
use Rattle.pager_laws.proofs.Owners.{Keeps, Keeps-owns, Keeps-same, Keeps-then, Keeps-counted, HasNothing-counted, Keeps-take, Keeps-give_page, holds-given, Keeps-give_each, Keeps-claimed, Keeps-unclaimed, claims-claimed, nothing-unclaimed, Keeps-pinned, Keeps-dropped, nothing-dropped}
use Rattle.pager_laws.proofs.OrderedOwners.{owns-answer, owns-take, owns-clear, owns-pin, owns-kept, owns-out, owns-failure, owns-refusal, owns-rest, owns-give, owns-claim, owns-got, owns-use, owns-drop, owns-unclaim, nothing-between}
use Rattle.pager_laws.proofs.PinnedPlaces.{frame_of-pinned}
use Rattle.pager_laws.proofs.PageMoves.{frame_of-give_page, frame_of-give_each}
use Rattle.pager_laws.proofs.Partition.{IsPartition-sound}
use Rattle.pager_laws.proofs.StateSoundness.{Takes-take_frame, layout_of-claimed, frame_of-dropped, IsSound-dropped, IsSound-moved}
use Rattle.pager_laws.proofs.StartStates.{IsSound-start}

-- what every legal history keeps
pub record IsKept (g : Given) (history : List Entry) : Type 0 where
  pub sound : IsSound g.frames (length g.marks) (frames_at g history)
  pub agrees : (s p : ℕ) → (space_at g history s).base p ≡ frame_of (frames_at g history) s p
  pub owns : (c : ℕ) (p : Progress) → progress_at g history c ≡ Some p → OwnsBy (frames_at g history) c p.doing

-- Entries that don't name the frames.

-- what such an entry is
alone : (P : What → Type 0) (space : Option ℕ) (what : What) → IsOn space false what
    → ((number : ℕ) (call : Call) (answered : Answered) → P (Answer number call answered))
    → ((page : ℕ) (written : Bool) → P (Out page written)) → ((page : ℕ) (writing : Bool) (count : ℕ) → P (Failed page writing count))
    → P what
alone P space (Answer number call answered) names a o f = a number call answered
alone P space (Out page written) names a o f = o page written
alone P space (Failed page writing count) names a o f = f page writing count
alone P space (Take page frame want) names a o f = absurd (false≢true names.1)
alone P space (Give page frame) names a o f = absurd (false≢true names.1)
alone P space (Clear first len) names a o f = absurd (false≢true names.1)
alone P space (Claim victim page frame None) names a o f = absurd (false≢true names.1)
alone P space (Claim victim page frame (Some need)) names a o f = absurd (false≢true names.1)
alone P space (UseHeld page frame want) names a o f = absurd (false≢true names.1)
alone P space (DropHeld frame) names a o f = absurd (false≢true names.1)
alone P space (Got frame) names a o f = absurd (false≢true names.1)
alone P space (Unclaim frame) names a o f = absurd (false≢true names.1)
alone P space (Refused wired claimed held) names a o f = absurd (false≢true names.1)
alone P space (Pin first len wired) names a o f = absurd (false≢true names.1)
alone P space (Kept first len page frame) names a o f = absurd (false≢true names.1)
alone P space (Rest short) names a o f = absurd (false≢true names.1)

-- it leaves every page its frame
base-alone : (base : ℕ → Option ℕ) (space : Option ℕ) (what : What) → IsOn space false what → (p : ℕ)
    → base_after base false what p ≡ base p
base-alone base space what names p =
    alone (λ w. base_after base false w p ≡ base p) space what names (λ number call answered. base-unnamed base call p)
    (λ page written. refl) (λ page writing count. refl)

-- and its processor its frame
owns-alone : (st : FrameState) (c : ℕ) (space : Option ℕ) (what : What) → IsOn space false what → (p q : Progress)
    → progress_after p space what ≡ Some q → OwnsBy st c p.doing → OwnsBy st c q.doing
owns-alone st c space what names =
    alone (λ w. (p q : Progress) → progress_after p space w ≡ Some q → OwnsBy st c p.doing → OwnsBy st c q.doing) space what names
    (λ number call answered p q. owns-answer st st c (Keeps-same st c) p q number call answered.reply)
    (by_out space) (by_failure space)
  where
    by_out : (o : Option ℕ) (page : ℕ) (written : Bool) (p q : Progress) → progress_after p o (Out page written) ≡ Some q
        → OwnsBy st c p.doing → OwnsBy st c q.doing
    by_out None page written p q goes owns = absurd (none-some q goes)
    by_out (Some s) page written p q goes owns = owns-out st st c (Keeps-same st c) p.made p.doing q s page goes owns

    by_failure : (o : Option ℕ) (page : ℕ) (writing : Bool) (count : ℕ) (p q : Progress)
        → progress_after p o (Failed page writing count) ≡ Some q → OwnsBy st c p.doing → OwnsBy st c q.doing
    by_failure None page writing count p q goes owns = absurd (none-some q goes)
    by_failure (Some s) page writing count p q goes owns = owns-failure st st c
        (Keeps-same st c) p.made p.doing q s page writing count goes owns

-- Entries on the frames.

-- Every processor goes on owning what its place says: the entry's own, and the others, which keep what they have.
record OwnsOn (st after : FrameState) (c : ℕ) (space : Option ℕ) (what : What) : Type 0 where
  pub own : (p q : Progress) → progress_after p space what ≡ Some q → OwnsBy st c p.doing → OwnsBy after c q.doing
  pub others : (d : ℕ) → d ≢ c → Keeps st after d

-- What an entry of a processor on the frames does, where they allow it: every processor goes on owning what its place says; the
-- pages of the space that it names have the frames that the space has for them, and those of other spaces keep theirs.
record GoesOn (st after : FrameState) (c : ℕ) (space : Option ℕ) (what : What) : Type 0 where
  pub owns : OwnsOn st after c space what
  pub named : (base : ℕ → Option ℕ) (s p : ℕ) → space ≡ Some s → base p ≡ frame_of st s p → base_after base true what p ≡ frame_of after s p
  pub other : (s p : ℕ) → is_that s space ≡ false → frame_of after s p ≡ frame_of st s p

-- the pages of a space that pass a test have this frame then, or none, and all others keep theirs
module _ (st after : FrameState) (space : ℕ) (test : ℕ → Bool) (frame : Option ℕ)
    (pages : (s p : ℕ) → frame_of after s p ≡ cond (eqb space s && test p) frame (frame_of st s p)) where
  named_pages : (base : ℕ → Option ℕ) (s p : ℕ) → Some space ≡ Some s → base p ≡ frame_of st s p
      → cond (test p) frame (base p) ≡ frame_of after s p
  named_pages base s p same now =
      ap (cond (test p) frame) now ∙ sym (pages s p ∙ ap (λ b. cond (b && test p) frame (frame_of st s p))
      (eq-eqb space s (same_Some space s same)))

  other_pages : (s p : ℕ) → eqb space s ≡ false → frame_of after s p ≡ frame_of st s p
  other_pages s p apart = pages s p ∙ ap (λ b. cond (b && test p) frame (frame_of st s p)) apart

-- a move, and the entry is counted
Keeps-move : (st after : FrameState) (c : ℕ) → Keeps st after c → Keeps st (counted after) c
Keeps-move st after c keeps = Keeps-then st after (counted after) c keeps (Keeps-counted after c)

-- a taking gives its page the frame that it says
record Takes (st : FrameState) (space page frame : ℕ) (after : FrameState) : Type 0 where
  pub keeps : (d : ℕ) → Keeps st after d
  pub pages : (s p : ℕ) → frame_of after s p ≡ cond (eqb space s && eqb p page) (Some frame) (frame_of st s p)

Takes-from : (frames processors : ℕ) (st : FrameState) (space page frame : ℕ) (want : Want) → IsSound frames processors st
    → frame_of st space page ≡ None → IsSomeAnd (take_frame st space page want) (λ t. t.frame ≡ frame)
    → Takes st space page frame (counted (state_taken st (take_frame st space page want)))
Takes-from frames processors st space page frame want sound none takes =
    elim (take_frame st space page want) as (λ o. take_frame st space page want ≡ o → IsSomeAnd o (λ t. t.frame ≡ frame)
    → Takes st space page frame (counted (state_taken st o))) [
      | None ↦ λ _ no. absurd no
      | Some t ↦ λ is same.
          let does = Takes-take_frame frames processors st space page want t sound none is in
          record {
            keeps = λ d. Keeps-move st t.state d (Keeps-take frames processors st space page want t sound none is d);
            pages = λ s p. ap (λ l. frame_in l s p) does.layout ∙ does.places.pages s p
                ∙ ap (λ f. cond (eqb space s && eqb p page) (Some f) (frame_of st s p)) same;
          }
    ] refl takes

-- an answer that names the frames is of an evict, and its page gives its frame up
GoesOn-answer : (frames processors : ℕ) (st : FrameState) (c space number : ℕ) (call : Call) → IsSound frames processors st
    → AllowsAnswer st space call → (answered : Answered)
    → GoesOn st (counted (moved_by_answer st space call)) c (Some space) (Answer number call answered)
GoesOn-answer frames processors st c space number (Evict t page) sound allowed answered =
    let after = give_page st space page in
    let keeps : (d : ℕ) → Keeps st (counted after) d = λ d. Keeps-move st after d (Keeps-give_page st space page allowed.0 d (record {
      frames = frames;
      processors = processors;
      sound = sound;
      is = allowed.1;
    })) in
    let pages = frame_of-give_page st space page allowed.0 sound.laid allowed.1 in
    record {
      owns = record {
        own = λ p q. owns-answer st (counted after) c (keeps c) p q number (Evict t page) answered.reply;
        others = λ d _. keeps d;
      };
      named = named_pages st (counted after) space (λ p. eqb p page) None pages;
      other = other_pages st (counted after) space (λ p. eqb p page) None pages;
    }
GoesOn-answer frames processors st c space number (Map t page len kind rights) sound allowed answered = absurd allowed
GoesOn-answer frames processors st c space number (Grow t page by) sound allowed answered = absurd allowed
GoesOn-answer frames processors st c space number (Unmap t page) sound allowed answered = absurd allowed
GoesOn-answer frames processors st c space number (Protect t page len rights) sound allowed answered = absurd allowed
GoesOn-answer frames processors st c space number (Load t address) sound allowed answered = absurd allowed
GoesOn-answer frames processors st c space number (Store t address word) sound allowed answered = absurd allowed
GoesOn-answer frames processors st c space number (Sync t page) sound allowed answered = absurd allowed
GoesOn-answer frames processors st c space number (Discard t page len) sound allowed answered = absurd allowed
GoesOn-answer frames processors st c space number (Wire t page) sound allowed answered = absurd allowed
GoesOn-answer frames processors st c space number (Unwire t page) sound allowed answered = absurd allowed

-- no claim changes the place of a page
frame_of-claimed : (st : FrameState) (frame : ℕ) (claim : Option ℕ) (s p : ℕ) → frame_of (claimed st frame claim) s p ≡ frame_of st s p
frame_of-claimed st frame claim s p = ap (λ l. frame_in l s p) (layout_of-claimed st frame claim)

GoesOn-moved : (frames processors : ℕ) (st : FrameState) (mark c : ℕ) (space : Option ℕ) (what : What) → IsSound frames processors st
    → FramesAllow st mark c space what → IsOn space true what → GoesOn st (counted (moved st c space what)) c space what
GoesOn-moved frames processors st mark c None (Answer number call answered) sound allowed names = absurd (none-some _ names)
GoesOn-moved frames processors st mark c (Some s) (Answer number call answered) sound allowed names =
    GoesOn-answer frames processors st c s number call sound allowed answered
GoesOn-moved frames processors st mark c space (Out page written) sound allowed names = absurd allowed
GoesOn-moved frames processors st mark c space (Failed page writing count) sound allowed names = absurd allowed
GoesOn-moved frames processors st mark c None (Take page frame want) sound allowed names = absurd (none-some names.0.0 names.0.1)
GoesOn-moved frames processors st mark c (Some s) (Take page frame want) sound allowed names =
    let after = counted (state_taken st (take_frame st s page want)) in
    let takes = Takes-from frames processors st s page frame want sound allowed.0 allowed.2 in
    record {
      owns = record {
        own = λ p q goes. owns-take st after c (takes.keeps c) p.made p.doing q s page frame goes;
        others = λ d _. takes.keeps d;
      };
      named = named_pages st after s (λ p. eqb p page) (Some frame) takes.pages;
      other = other_pages st after s (λ p. eqb p page) (Some frame) takes.pages;
    }
GoesOn-moved frames processors st mark c None (Give page frame) sound allowed names = absurd (none-some names.0.0 names.0.1)
GoesOn-moved frames processors st mark c (Some s) (Give page frame) sound allowed names =
    let after = give_page st s page in
    let keeps : (d : ℕ) → Keeps st (counted after) d = λ d. Keeps-move st after d (Keeps-give_page st s page frame d (record {
      frames = frames;
      processors = processors;
      sound = sound;
      is = allowed;
    })) in
    let pages = frame_of-give_page st s page frame sound.laid allowed in
    record {
      owns = record {
        own = λ p q goes. owns-give st (counted after) c (keeps c) p.made p.doing q s page frame goes
            (holds-given st s page frame c (record { frames = frames; processors = processors; sound = sound; is = allowed }));
        others = λ d _. keeps d;
      };
      named = named_pages st (counted after) s (λ p. eqb p page) None pages;
      other = other_pages st (counted after) s (λ p. eqb p page) None pages;
    }
GoesOn-moved frames processors st mark c None (Clear first len) sound allowed names = absurd (none-some names.0.0 names.0.1)
GoesOn-moved frames processors st mark c (Some s) (Clear first len) sound allowed names =
    let after = give_range st s first len in
    let keeps : (d : ℕ) → Keeps st (counted after) d = λ d. Keeps-move st after d
    (Keeps-give_each frames processors s (range_with_len first len) st d sound) in
    let pages = frame_of-give_each frames processors s first len st sound in
    record {
      owns = record {
        own = λ p q goes. owns-clear st (counted after) c (keeps c) p.made p.doing q s first len goes;
        others = λ d _. keeps d;
      };
      named = named_pages st (counted after) s (in_range first len) None pages;
      other = other_pages st (counted after) s (in_range first len) None pages;
    }
GoesOn-moved frames processors st mark c space (Claim victim page frame need) sound allowed names =
    let after = claimed st frame (Some c) in
    record {
      owns = record {
        own = λ p q goes owns. owns-claim (counted after) c p.made p.doing space (record {
          space = victim;
          page = page;
          frame = frame;
        }) need (record { frame = (claims-claimed st victim page frame c allowed.1).frame }) q goes;
        others = λ d other. Keeps-move st after d (Keeps-claimed st victim page frame c d allowed.1 other);
      };
      named = λ base s p _ now. now ∙ sym (frame_of-claimed st frame (Some c) s p);
      other = λ s p _. frame_of-claimed st frame (Some c) s p;
    }
GoesOn-moved frames processors st mark c None (UseHeld page frame want) sound allowed names = absurd (none-some names.0.0 names.0.1)
GoesOn-moved frames processors st mark c (Some s) (UseHeld page frame want) sound allowed names =
    let drops = dropped st c in
    let after = counted (state_taken drops (take_frame drops s page want)) in
    let same : (t p : ℕ) → frame_of drops t p ≡ frame_of st t p = λ t p. frame_of-dropped frames processors st c t p sound in
    let takes = Takes-from frames processors drops s page frame want (IsSound-dropped frames processors st c sound)
    (same s page ∙ allowed.0) allowed.2 in
    let pages : (t p : ℕ) → frame_of after t p ≡ cond (eqb s t && eqb p page) (Some frame) (frame_of st t p) =
    λ t p. takes.pages t p ∙ ap (cond (eqb s t && eqb p page) (Some frame)) (same t p) in
    let nothing = (takes.keeps c).nothing (nothing-dropped frames processors st c allowed.1.0 sound allowed.1.1) in
    record {
      owns = record {
        own = λ p q goes owns. owns-use after c p.made p.doing s page frame nothing q goes;
        others = λ d other. Keeps-then st drops after d (Keeps-dropped st c d other) (takes.keeps d);
      };
      named = named_pages st after s (λ p. eqb p page) (Some frame) pages;
      other = other_pages st after s (λ p. eqb p page) (Some frame) pages;
    }
GoesOn-moved frames processors st mark c space (DropHeld frame) sound allowed names =
    let after = dropped st c in
    let nothing = HasNothing-counted after c (nothing-dropped frames processors st c frame sound allowed) in
    record {
      owns = record {
        own = λ p q goes owns. owns-drop (counted after) c p.made p.doing q frame goes nothing;
        others = λ d other. Keeps-move st after d (Keeps-dropped st c d other);
      };
      named = λ base s p _ now. now ∙ sym (frame_of-dropped frames processors st c s p sound);
      other = λ s p _. frame_of-dropped frames processors st c s p sound;
    }
GoesOn-moved frames processors st mark c space (Got frame) sound allowed names = record {
  owns = record {
    own = λ p q goes owns. owns-got (counted st) c p.made p.doing q frame goes allowed;
    others = λ d _. Keeps-counted st d;
  };
  named = λ base s p _ now. now;
  other = λ s p _. refl;
}
GoesOn-moved frames processors st mark c None (Unclaim frame) sound allowed names = absurd (none-some names.0.0 names.0.1)
GoesOn-moved frames processors st mark c (Some s) (Unclaim frame) sound allowed names =
    let after = claimed st frame None in
    let nothing = HasNothing-counted after c (nothing-unclaimed frames processors st frame c sound allowed.0) in
    record {
      owns = record {
        own = λ p q goes owns. owns-unclaim (counted after) c p.made p.doing q s frame goes nothing;
        others = λ d other. Keeps-move st after d (Keeps-unclaimed st frame c d allowed.0 other);
      };
      named = λ base t p _ now. now ∙ sym (frame_of-claimed st frame None t p);
      other = λ t p _. frame_of-claimed st frame None t p;
    }
GoesOn-moved frames processors st mark c space (Refused wired claimed held) sound allowed names = record {
  owns = record {
    own = λ p q goes. owns-refusal st (counted st) c (Keeps-counted st c) p.made p.doing q wired claimed held goes;
    others = λ d _. Keeps-counted st d;
  };
  named = λ base s p _ now. now;
  other = λ s p _. refl;
}
GoesOn-moved frames processors st mark c None (Pin first len wired) sound allowed names = absurd (none-some names.0.0 names.0.1)
GoesOn-moved frames processors st mark c (Some s) (Pin first len wired) sound allowed names =
    let after = pin_range st s first len wired in
    let keeps : (d : ℕ) → Keeps st (counted after) d = λ d. Keeps-move st after d (Keeps-pinned st s first len wired d) in
    record {
      owns = record {
        own = λ p q goes. owns-pin st (counted after) c (keeps c) p.made p.doing q s first len wired goes;
        others = λ d _. keeps d;
      };
      named = λ base t p _ now. now ∙ sym (frame_of-pinned st s first len wired t p);
      other = λ t p _. frame_of-pinned st s first len wired t p;
    }
GoesOn-moved frames processors st mark c None (Kept first len page frame) sound allowed names = absurd (none-some names.0.0 names.0.1)
GoesOn-moved frames processors st mark c (Some s) (Kept first len page frame) sound allowed names = record {
  owns = record {
    own = λ p q goes. owns-kept st (counted st) c (Keeps-counted st c) p.made p.doing q s first len page goes;
    others = λ d _. Keeps-counted st d;
  };
  named = λ base t p _ now. now;
  other = λ t p _. refl;
}
GoesOn-moved frames processors st mark c space (Rest short) sound allowed names = record {
  owns = record {
    own = λ p q goes. owns-rest st (counted st) c (Keeps-counted st c) p.made p.doing q short goes;
    others = λ d _. Keeps-counted st d;
  };
  named = λ base s p _ now. now;
  other = λ s p _. refl;
}

-- One entry more.

-- an entry that keeps the order comes after some progress
pub progress_before : (before : Option Progress) (e : Entry) (q : Progress) → progress_by before e ≡ Some q
    → (p : Progress) × (before ≡ Some p) × (progress_after p e.space e.what ≡ Some q)
progress_before None e q goes = absurd (none-some q goes)
progress_before (Some p) e q goes = (p, refl, goes)

-- the test that an entry names a space says which it names
pub names-is : (space : Option ℕ) (s : ℕ) → is_that s space ≡ true → space ≡ Some s
names-is None s h = absurd (false≢true h)
names-is (Some t) s h = ap Some (eqb-true t s h)

-- so after the entry every processor owns what its place says
owns-more : (g : Given) (h : List Entry) (e : Entry) (after : FrameState) → IsKept g h
    → OwnsOn (frames_at g h) after e.processor e.space e.what → (c : ℕ) (q : Progress) → progress_at g (h ++ e ∷ []) c ≡ Some q
    → OwnsBy after c q.doing
owns-more g h e after kept on c q goes =
    elim (is_of c e) as (λ b. is_of c e ≡ b → OwnsBy after c q.doing) [
      | true ↦ λ mine.
          let before = progress_before (progress_at g h c) e q (sym (progress_at-own g h e c mine) ∙ goes) in
          let same = eqb-true e.processor c mine in
          subst (λ d. OwnsBy after d q.doing) same (on.own before.0 q before.2
          (subst (λ d. OwnsBy (frames_at g h) d before.0.doing) (sym same) (kept.owns c before.0 before.1)))
      | false ↦ λ other.
          let keeps = on.others c (λ same. eqb-false e.processor c other (sym same)) in
          Keeps-owns (frames_at g h) after c (is_holding q.doing) (victim_in q.doing) keeps
          (kept.owns c q (sym (progress_at-other g h e c other) ∙ goes))
    ] refl

-- each entry that may follow keeps what is kept
IsKept-more : (g : Given) (h : List Entry) (c : ℕ) (space : Option ℕ) (frames : Bool) (what : What) → IsKept g h
    → MayFollow g h (record { processor = c; space = space; frames = frames; what = what })
    → IsKept g (h ++ record { processor = c; space = space; frames = frames; what = what } ∷ [])
IsKept-more g h c space false what kept may =
    let e : Entry = record { processor = c; space = space; frames = false; what = what } in
    let st = frames_at g h in
    let same = frames_at-other g h e refl in
    record {
      sound = subst (IsSound g.frames (length g.marks)) (sym same) kept.sound;
      owns = λ d q goes. subst (λ after. OwnsBy after d q.doing) (sym same)
          (owns-more g h e st kept (record { own = owns-alone st c space what may.parts; others = λ d _. Keeps-same st d }) d q goes);
      agrees = λ s p. elim (is_that s space) as (λ b. is_that s space ≡ b
          → (space_at g (h ++ e ∷ []) s).base p ≡ frame_of (frames_at g (h ++ e ∷ [])) s p) [
            | true ↦ λ named.
                ap (λ (q : SpaceState). q.base p) (space_at-named g h e s named)
                ∙ base-alone (space_at g h s).base space what may.parts p
                ∙ kept.agrees s p
                ∙ ap (λ (q : FrameState). frame_of q s p) (sym same)
            | false ↦ λ other.
                ap (λ (q : SpaceState). q.base p) (space_at-other g h e s other) ∙ kept.agrees s p
                ∙ ap (λ (q : FrameState). frame_of q s p) (sym same)
          ] refl;
    }
IsKept-more g h c space true what kept may =
    let e : Entry = record { processor = c; space = space; frames = true; what = what } in
    let st = frames_at g h in
    let allowed = may.by_frames refl in
    let moves = frames_at-named g h e refl in
    let on = GoesOn-moved g.frames (length g.marks) st (mark_of g c) c space what kept.sound allowed may.parts in
    record {
      sound = subst (IsSound g.frames (length g.marks)) (sym moves) (IsSound-moved g.frames (length g.marks) st
          (mark_of g c) c space what kept.sound may.processor allowed);
      owns = λ d q goes. subst (λ after. OwnsBy after d q.doing) (sym moves) (owns-more g h e _ kept on.owns d q goes);
      agrees = λ s p. elim (is_that s space) as (λ b. is_that s space ≡ b
          → (space_at g (h ++ e ∷ []) s).base p ≡ frame_of (frames_at g (h ++ e ∷ [])) s p) [
            | true ↦ λ named.
                ap (λ (q : SpaceState). q.base p) (space_at-named g h e s named)
                ∙ on.named (space_at g h s).base s p (names-is space s named) (kept.agrees s p)
                ∙ ap (λ (q : FrameState). frame_of q s p) (sym moves)
            | false ↦ λ other.
                ap (λ (q : SpaceState). q.base p) (space_at-other g h e s other)
                ∙ kept.agrees s p
                ∙ sym (on.other s p other)
                ∙ ap (λ (q : FrameState). frame_of q s p) (sym moves)
          ] refl;
    }

-- without a reservation no page has a frame
uncovered : (n s p : ℕ) → covering s p (replicate n None) ≡ None
uncovered zero s p = refl
uncovered (suc n) s p = uncovered n s p

pub frame_of-start : (z : SizeSet) (frames processors s p : ℕ) → frame_of (start_frames z frames processors) s p ≡ None
frame_of-start z frames processors s p = ap (used_in (layout_of (start_frames z frames processors)).used p) (uncovered frames s p)

-- what owns nothing owns by the place before the first call or turn
owns-start : (st : FrameState) (c mark : ℕ) → HasNothing st c → OwnsBy st c (between mark)
owns-start st c zero nothing = nothing
owns-start st c (suc n) nothing = nothing

-- before the first entry nobody claims or holds a frame, and no page has one
IsKept-start : (g : Given) → IsKept g []
IsKept-start g = record {
  sound = IsSound-start g.sizes g.frames (length g.marks);
  agrees = λ s p. sym (frame_of-start g.sizes g.frames (length g.marks) s p);
  owns = λ c p is.
      subst (λ (q : Progress). OwnsBy (frames_at g []) c q.doing) (same_Some (at_rest (mark_of g c) 0) p is)
      (owns-start (frames_at g []) c (mark_of g c) (HasNothing-start g.sizes g.frames (length g.marks) c));
}

pub IsKept-legal : (g : Given) (history : List Entry) → IsLegal g history → IsKept g history
IsKept-legal g history legal = IsLegal-keeps g (IsKept g) (λ h e kept may. IsKept-more g h e.processor e.space e.frames e.what kept may)
    (IsKept-start g) history legal

-- The laws.

-- each frame has one role
pub IsPartition-legal : (g : Given) (history : List Entry) → IsLegal g history → IsPartition g.frames (frames_at g history)
IsPartition-legal g history legal = IsPartition-sound _ _ _ (IsKept-legal g history legal).sound

-- spaces and frames agree on the resident pages
pub Agrees-legal : (g : Given) (history : List Entry) → IsLegal g history → Agrees g history
Agrees-legal g history legal = λ s page _. (IsKept-legal g history legal).agrees s page

-- each processor claims and holds what its place says
pub OwnsBy-legal : (g : Given) (history : List Entry) → IsLegal g history → (c : ℕ) (p : Progress) → c < length g.marks
    → progress_at g history c ≡ Some p → OwnsBy (frames_at g history) c p.doing
OwnsBy-legal g history legal c p known is = (IsKept-legal g history legal).owns c p is

-- where each list is whole nobody claims or holds a frame
pub NothingHeld-legal : (g : Given) (history : List Entry) → IsLegal g history → AllWhole g history → NothingHeld (frames_at g history)
NothingHeld-legal g history legal whole =
    let kept = IsKept-legal g history legal in
    let st = frames_at g history in
    let nothing : (c : ℕ) → c < length g.marks → HasNothing st c =
    λ c known. (let at = whole c known in nothing-between st c (mark_of g c) (kept.owns c (at_rest (mark_of g c) at.0) at.1)) in
    record {
      none_held = λ c. elim (cases_lt c (length g.marks)) [
        | inl known ↦ (nothing c known).holds_none
        | inr past ↦ get_or_past st.held c None (omega (arith, past, kept.sound.processors_known))
      ];
      none_claimed = λ frame. none_from_never (claim_in (used_at st frame))
          (λ c claims. (nothing c (kept.sound.claims_known frame c claims).0).claims_none frame claims);
    }
