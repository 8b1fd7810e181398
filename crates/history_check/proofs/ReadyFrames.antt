-- What an entry's order and its space say of it is what the frames need not look at.
use Rattle.std.proofs.Common.{◌≡◌, ◌+◌, ◌<◌, ◌≤◌, ℕ, Bool, true, false, ◌&&◌, ◌==◌, cond, List, is_some, Option, Some, None, refl, sym, ap, subst, ◌∙◌, arith}
use Rattle.std.proofs.lemmas.Bool.{and_parts, eqb-true, false≢true}
use Rattle.std.proofs.lemmas.Option.{none-some}
use Rattle.pager_model.specs.declared.call.Call.{Call}
use Rattle.pager_model.specs.declared.call.Call.TheVariants.{Map, Grow, Unmap, Protect, Load, Store, Sync, Evict, Discard, Wire, Unwire}
use Rattle.pager_model.specs.declared.entry.Entry.{Entry}
use Rattle.pager_model.specs.declared.entry.Need.{Need}
use Rattle.pager_model.specs.declared.entry.Victim.{Victim}
use Rattle.pager_model.specs.declared.entry.What.{What}
use Rattle.pager_model.specs.declared.entry.What.TheVariants.{Answer, Out, Failed, Take, Give, Clear, Claim, UseHeld, DropHeld, Got, Unclaim, Refused, Pin, Kept, Rest}
use Rattle.pager_model.specs.declared.region.Region.{Region}
use Rattle.pager_model.specs.declared.reply.Answered.{Answered}
use Rattle.pager_model.specs.declared.reply.Reply.{Reply}
use Rattle.pager_model.specs.Agreement.{ClaimsOrHolds, OwnsBy}
use Rattle.pager_model.specs.Bounds.{most_spaces, space_pages}
use Rattle.pager_model.specs.Entries.{IsOn}
use Rattle.pager_model.specs.Flat.{is_lawful}
use Rattle.pager_model.specs.FrameStates.{FrameState, HasNothing, frame_of, held_by}
use Rattle.pager_model.specs.Legal.{frames_at, space_at}
use Rattle.pager_model.specs.Order.{Doing, Progress, after_take, after_use, after_claim, after_got, after_unclaim, after_drop, after_refusal, after_rest, victim_in}
use Rattle.pager_model.specs.Order.Doing.{Idle, Looking, Cleared, Pinned, Blocked, Uncopied, Filling, Unfilling, Claiming, Emptied, Unwritten, Holding, Late, Faulted, Lacking, Refusing}
use Rattle.pager_model.specs.Regions.{region_at}
use Rattle.pager_model.specs.Settings.{Given}
use Rattle.pager_model.specs.SpaceStates.{SpaceState, IsRegionOf, MayPin, frees_its_page}
use Rattle.pager_laws.proofs.LegalHistories.{IsKept-legal}
use Rattle.followed_frames.specs.Ready.{IsReady, IsReadyAnswer, IsReadyFor, OwnsFrame}
use Rattle.followed_space.specs.Follows.{AnswersLine}
use Rattle.history_check.proofs.RegionsWithin.{EndWithin, EndWithin-legal, found_within}
use Rattle.history_check.specs.Ready.{CameSoFar}

-- Where a processor is that makes an entry on the frames.

from_take : (st : FrameState) (c made s page frame : ℕ) (d : Doing) (q : Progress) → after_take made d s page frame ≡ Some q → OwnsBy st c d → HasNothing st c
from_take st c made s page frame Idle q is owns = owns
from_take st c made s page frame (Looking m k) q is owns = absurd (none-some q is)
from_take st c made s page frame (Cleared a b k) q is owns = absurd (none-some q is)
from_take st c made s page frame (Pinned a b k d) q is owns = absurd (none-some q is)
from_take st c made s page frame (Blocked a b k d) q is owns = absurd (none-some q is)
from_take st c made s page frame (Uncopied a b k) q is owns = absurd (none-some q is)
from_take st c made s page frame (Filling a f) q is owns = absurd (none-some q is)
from_take st c made s page frame (Unfilling a f k) q is owns = absurd (none-some q is)
from_take st c made s page frame (Claiming u v) q is owns = absurd (none-some q is)
from_take st c made s page frame (Emptied u v) q is owns = absurd (none-some q is)
from_take st c made s page frame (Unwritten u v k) q is owns = absurd (none-some q is)
from_take st c made s page frame (Holding u v) q is owns = absurd (none-some q is)
from_take st c made s page frame (Late a) q is owns = absurd (none-some q is)
from_take st c made s page frame (Faulted a b k) q is owns = absurd (none-some q is)
from_take st c made s page frame (Lacking a b) q is owns = absurd (none-some q is)
from_take st c made s page frame (Refusing w k h) q is owns = absurd (none-some q is)

from_refusal : (st : FrameState) (c made w k h : ℕ) (d : Doing) (q : Progress) → after_refusal made d w k h ≡ Some q → OwnsBy st c d → HasNothing st c
from_refusal st c made w k h Idle q is owns = owns
from_refusal st c made w k h (Looking a b) q is owns = absurd (none-some q is)
from_refusal st c made w k h (Cleared a b d) q is owns = absurd (none-some q is)
from_refusal st c made w k h (Pinned a b d u) q is owns = absurd (none-some q is)
from_refusal st c made w k h (Blocked a b d u) q is owns = absurd (none-some q is)
from_refusal st c made w k h (Uncopied a b d) q is owns = absurd (none-some q is)
from_refusal st c made w k h (Filling a f) q is owns = absurd (none-some q is)
from_refusal st c made w k h (Unfilling a f d) q is owns = absurd (none-some q is)
from_refusal st c made w k h (Claiming u v) q is owns = absurd (none-some q is)
from_refusal st c made w k h (Emptied u v) q is owns = absurd (none-some q is)
from_refusal st c made w k h (Unwritten u v d) q is owns = absurd (none-some q is)
from_refusal st c made w k h (Holding u v) q is owns = absurd (none-some q is)
from_refusal st c made w k h (Late a) q is owns = absurd (none-some q is)
from_refusal st c made w k h (Faulted a b d) q is owns = absurd (none-some q is)
from_refusal st c made w k h (Lacking a b) q is owns = absurd (none-some q is)
from_refusal st c made w k h (Refusing a b d) q is owns = absurd (none-some q is)

from_rest : (st : FrameState) (c made : ℕ) (short : Bool) (d : Doing) (q : Progress) → after_rest made d short ≡ Some q → OwnsBy st c d → HasNothing st c
from_rest st c made short Idle q is owns = owns
from_rest st c made short (Looking a b) q is owns = owns
from_rest st c made short (Cleared a b d) q is owns = absurd (none-some q is)
from_rest st c made short (Pinned a b k d) q is owns = absurd (none-some q is)
from_rest st c made short (Blocked a b k d) q is owns = absurd (none-some q is)
from_rest st c made short (Uncopied a b d) q is owns = absurd (none-some q is)
from_rest st c made short (Filling a f) q is owns = absurd (none-some q is)
from_rest st c made short (Unfilling a f d) q is owns = absurd (none-some q is)
from_rest st c made short (Claiming u v) q is owns = absurd (none-some q is)
from_rest st c made short (Emptied u v) q is owns = absurd (none-some q is)
from_rest st c made short (Unwritten u v d) q is owns = absurd (none-some q is)
from_rest st c made short (Holding u v) q is owns = absurd (none-some q is)
from_rest st c made short (Late a) q is owns = absurd (none-some q is)
from_rest st c made short (Faulted a b d) q is owns = absurd (none-some q is)
from_rest st c made short (Lacking a b) q is owns = absurd (none-some q is)
from_rest st c made short (Refusing a b d) q is owns = absurd (none-some q is)

from_claim : (st : FrameState) (c made : ℕ) (space : Option ℕ) (v : Victim) (need : Option Need) (d : Doing) (q : Progress)
    → after_claim made d space v need ≡ Some q → OwnsBy st c d → HasNothing st c
from_claim st c made space v need Idle q is owns = owns
from_claim st c made space v need (Looking a b) q is owns = owns
from_claim st c made space v need (Cleared a b d) q is owns = absurd (none-some q is)
from_claim st c made space v need (Pinned a b k d) q is owns = absurd (none-some q is)
from_claim st c made space v need (Blocked a b k d) q is owns = absurd (none-some q is)
from_claim st c made space v need (Uncopied a b d) q is owns = absurd (none-some q is)
from_claim st c made space v need (Filling a f) q is owns = absurd (none-some q is)
from_claim st c made space v need (Unfilling a f d) q is owns = absurd (none-some q is)
from_claim st c made space v need (Claiming u w) q is owns = absurd (none-some q is)
from_claim st c made space v need (Emptied u w) q is owns = absurd (none-some q is)
from_claim st c made space v need (Unwritten u w d) q is owns = absurd (none-some q is)
from_claim st c made space v need (Holding u w) q is owns = absurd (none-some q is)
from_claim st c made space v need (Late a) q is owns = absurd (none-some q is)
from_claim st c made space v need (Faulted a b d) q is owns = absurd (none-some q is)
from_claim st c made space v need (Lacking a b) q is owns = absurd (none-some q is)
from_claim st c made space v need (Refusing a b d) q is owns = absurd (none-some q is)

from_use : (st : FrameState) (c made s page frame : ℕ) (d : Doing) (q : Progress) → after_use made d s page frame ≡ Some q → OwnsBy st c d
    → (h : ℕ) × (held_by st c ≡ Some h)
from_use st c made s page frame Idle q is owns = absurd (none-some q is)
from_use st c made s page frame (Looking a b) q is owns = absurd (none-some q is)
from_use st c made s page frame (Cleared a b d) q is owns = absurd (none-some q is)
from_use st c made s page frame (Pinned a b k d) q is owns = absurd (none-some q is)
from_use st c made s page frame (Blocked a b k d) q is owns = absurd (none-some q is)
from_use st c made s page frame (Uncopied a b d) q is owns = absurd (none-some q is)
from_use st c made s page frame (Filling a f) q is owns = absurd (none-some q is)
from_use st c made s page frame (Unfilling a f d) q is owns = absurd (none-some q is)
from_use st c made s page frame (Claiming u w) q is owns = absurd (none-some q is)
from_use st c made s page frame (Emptied u w) q is owns = absurd (none-some q is)
from_use st c made s page frame (Unwritten u w d) q is owns = absurd (none-some q is)
from_use st c made s page frame (Holding u w) q is owns = (w.frame, owns)
from_use st c made s page frame (Late a) q is owns = absurd (none-some q is)
from_use st c made s page frame (Faulted a b d) q is owns = absurd (none-some q is)
from_use st c made s page frame (Lacking a b) q is owns = absurd (none-some q is)
from_use st c made s page frame (Refusing a b d) q is owns = absurd (none-some q is)

-- a step that needs a test passed it
passed : {A : Type 0} (b : Bool) (some : Option A) (q : A) → cond b some None ≡ Some q → b ≡ true
passed true some q is = refl
passed false some q is = absurd (none-some q is)

from_drop : (st : FrameState) (c made frame : ℕ) (d : Doing) (q : Progress) → after_drop made d frame ≡ Some q → OwnsBy st c d → held_by st c ≡ Some frame
from_drop st c made frame Idle q is owns = absurd (none-some q is)
from_drop st c made frame (Looking a b) q is owns = absurd (none-some q is)
from_drop st c made frame (Cleared a b d) q is owns = absurd (none-some q is)
from_drop st c made frame (Pinned a b k d) q is owns = absurd (none-some q is)
from_drop st c made frame (Blocked a b k d) q is owns = absurd (none-some q is)
from_drop st c made frame (Uncopied a b d) q is owns = absurd (none-some q is)
from_drop st c made frame (Filling a f) q is owns = absurd (none-some q is)
from_drop st c made frame (Unfilling a f d) q is owns = absurd (none-some q is)
from_drop st c made frame (Claiming u w) q is owns = absurd (none-some q is)
from_drop st c made frame (Emptied u w) q is owns = absurd (none-some q is)
from_drop st c made frame (Unwritten u w d) q is owns = absurd (none-some q is)
from_drop st c made frame (Holding u w) q is owns = owns ∙ ap Some (sym (eqb-true frame w.frame (passed (frame == w.frame) _ q is)))
from_drop st c made frame (Late a) q is owns = absurd (none-some q is)
from_drop st c made frame (Faulted a b d) q is owns = absurd (none-some q is)
from_drop st c made frame (Lacking a b) q is owns = absurd (none-some q is)
from_drop st c made frame (Refusing a b d) q is owns = absurd (none-some q is)

from_got : (st : FrameState) (c made frame : ℕ) (d : Doing) (q : Progress) → after_got made d frame ≡ Some q → OwnsBy st c d
    → (v : Victim) × OwnsFrame st c frame v
from_got st c made frame Idle q is owns = absurd (none-some q is)
from_got st c made frame (Looking a b) q is owns = absurd (none-some q is)
from_got st c made frame (Cleared a b d) q is owns = absurd (none-some q is)
from_got st c made frame (Pinned a b k d) q is owns = absurd (none-some q is)
from_got st c made frame (Blocked a b k d) q is owns = absurd (none-some q is)
from_got st c made frame (Uncopied a b d) q is owns = absurd (none-some q is)
from_got st c made frame (Filling a f) q is owns = absurd (none-some q is)
from_got st c made frame (Unfilling a f d) q is owns = absurd (none-some q is)
from_got st c made frame (Claiming u w) q is owns = (w, record { is = sym (eqb-true frame w.frame (passed (frame == w.frame) _ q is)); owns = owns })
from_got st c made frame (Emptied u w) q is owns = absurd (none-some q is)
from_got st c made frame (Unwritten u w d) q is owns = absurd (none-some q is)
from_got st c made frame (Holding u w) q is owns = absurd (none-some q is)
from_got st c made frame (Late a) q is owns = absurd (none-some q is)
from_got st c made frame (Faulted a b d) q is owns = absurd (none-some q is)
from_got st c made frame (Lacking a b) q is owns = absurd (none-some q is)
from_got st c made frame (Refusing a b d) q is owns = absurd (none-some q is)

-- The processor claims or holds the victim's frame, which is this one, of this space.
pub record Unclaims (st : FrameState) (c s frame : ℕ) (d : Doing) : Type 0 where
  pub victim : Victim
  pub own : OwnsFrame st c frame victim
  pub space : s ≡ victim.space
  pub in_place : victim_in d ≡ Some victim

here : (st : FrameState) (c s frame : ℕ) (d : Doing) (w : Victim) → ClaimsOrHolds st c w → ((s == w.space) && (frame == w.frame)) ≡ true
    → victim_in d ≡ Some w → Unclaims st c s frame d
here st c s frame d w owns same at =
    let parts = and_parts (s == w.space) (frame == w.frame) same in
    record { victim = w; own = record { is = sym (eqb-true frame w.frame parts.1); owns = owns }; space = eqb-true s w.space parts.0; in_place = at }

pub from_unclaim : (st : FrameState) (c made s frame : ℕ) (d : Doing) (q : Progress) → after_unclaim made d s frame ≡ Some q → OwnsBy st c d
    → Unclaims st c s frame d
from_unclaim st c made s frame Idle q is owns = absurd (none-some q is)
from_unclaim st c made s frame (Looking a b) q is owns = absurd (none-some q is)
from_unclaim st c made s frame (Cleared a b d) q is owns = absurd (none-some q is)
from_unclaim st c made s frame (Pinned a b k d) q is owns = absurd (none-some q is)
from_unclaim st c made s frame (Blocked a b k d) q is owns = absurd (none-some q is)
from_unclaim st c made s frame (Uncopied a b d) q is owns = absurd (none-some q is)
from_unclaim st c made s frame (Filling a f) q is owns = absurd (none-some q is)
from_unclaim st c made s frame (Unfilling a f d) q is owns = absurd (none-some q is)
from_unclaim st c made s frame (Claiming u w) q is owns = here st c s frame (Claiming u w) w owns (passed ((s == w.space) && (frame == w.frame)) _ q is) refl
from_unclaim st c made s frame (Emptied u w) q is owns = absurd (none-some q is)
from_unclaim st c made s frame (Unwritten u w d) q is owns = here st c s frame (Unwritten u w d) w owns (passed ((s == w.space) && (frame == w.frame)) _ q is) refl
from_unclaim st c made s frame (Holding u w) q is owns = absurd (none-some q is)
from_unclaim st c made s frame (Late a) q is owns = absurd (none-some q is)
from_unclaim st c made s frame (Faulted a b d) q is owns = absurd (none-some q is)
from_unclaim st c made s frame (Lacking a b) q is owns = absurd (none-some q is)
from_unclaim st c made s frame (Refusing a b d) q is owns = absurd (none-some q is)

-- An answer that names the frames is of an evict whose page has a frame.
freed : (st : SpaceState) (frames : FrameState) (s : ℕ) (call : Call) (reply : Reply) → true ≡ frees_its_page st call reply → (number : ℕ) (answered : Answered)
    → AnswersLine (Answer number call answered) → s < most_spaces → ((p : ℕ) → st.base p ≡ frame_of frames s p) → IsReadyAnswer frames s call
freed st frames s (Map a b d e f) reply frees number answered line few agrees = absurd (false≢true (sym frees))
freed st frames s (Grow a b d) reply frees number answered line few agrees = absurd (false≢true (sym frees))
freed st frames s (Unmap a b) reply frees number answered line few agrees = absurd (false≢true (sym frees))
freed st frames s (Protect a b d e) reply frees number answered line few agrees = absurd (false≢true (sym frees))
freed st frames s (Load a b) reply frees number answered line few agrees = absurd (false≢true (sym frees))
freed st frames s (Store a b d) reply frees number answered line few agrees = absurd (false≢true (sym frees))
freed st frames s (Sync a b) reply frees number answered line few agrees = absurd (false≢true (sym frees))
freed st frames s (Discard a b d) reply frees number answered line few agrees = absurd (false≢true (sym frees))
freed st frames s (Wire a b) reply frees number answered line few agrees = absurd (false≢true (sym frees))
freed st frames s (Unwire a b) reply frees number answered line few agrees = absurd (false≢true (sym frees))
freed st frames s (Evict a page) reply frees number answered line few agrees =
    let there = (and_parts (is_lawful reply) (is_some (st.base page)) (sym frees)).1 in
    (few, line.1.1, at (st.base page) refl there)
  where
    at : (o : Option ℕ) → st.base page ≡ o → is_some (st.base page) ≡ true → (frame : ℕ) × (frame_of frames s page ≡ Some frame)
    at None none there = absurd (false≢true (sym (ap is_some none) ∙ there))
    at (Some frame) is there = (frame, sym (agrees page) ∙ is)

-- A range that is a region's ends within the space.
region_within : (rs : List Region) (first len : ℕ) → EndWithin rs → IsRegionOf (region_at rs first) first len → first + len ≤ space_pages
region_within rs first len all is = by_region (region_at rs first) refl is
  where
    by_region : (o : Option Region) → region_at rs first ≡ o → IsRegionOf o first len → first + len ≤ space_pages
    by_region None at is = absurd is
    by_region (Some r) at is = let fits = found_within rs first r all at in omega (arith, fits, is.0, is.1)

pin_within : (rs : List Region) (first len : ℕ) (wired : Bool) → EndWithin rs → MayPin (region_at rs first) first len wired → first + len ≤ space_pages
pin_within rs first len wired all may = region_within rs first len all (by_region (region_at rs first) may)
  where
    by_region : (o : Option Region) → MayPin o first len wired → IsRegionOf o first len
    by_region None may = absurd may
    by_region (Some r) may = (may.0, may.1)

-- an entry as its parts
abbrev entry : ℕ → Option ℕ → What → Entry
entry c space what = record { processor = c; space = space; frames = true; what = what }

module _ (g : Given) (h : List Entry) (c : ℕ) where
  -- the frames' state, and what is known of it
  abbrev frames : FrameState
  frames = frames_at g h

  owned : (space : Option ℕ) (what : What) (came : CameSoFar g h (entry c space what)) → OwnsBy frames c came.before.doing
  owned space what came = (IsKept-legal g h came.legal).owns c came.before came.at

  -- an entry on the frames alone
  alone : (what : What) → IsOn None true what → CameSoFar g h (entry c None what) → IsReadyFor frames c None what
  alone (Answer number call answered) names came = absurd (none-some _ names)
  alone (Out page written) names came = absurd (none-some _ names.0.1)
  alone (Failed page writing count) names came = absurd (none-some _ names.0.1)
  alone (Take page frame want) names came = absurd (none-some _ names.0.1)
  alone (Give page frame) names came = absurd (none-some _ names.0.1)
  alone (Clear first len) names came = absurd (none-some _ names.0.1)
  alone (Claim owner page frame None) names came = (
    subst (λ n. c < n) (sym (IsKept-legal g h came.legal).sound.processors_known) came.processor,
    from_claim frames c came.before.made None (record { space = owner; page = page; frame = frame }) None came.before.doing came.after came.goes
        (owned None (Claim owner page frame None) came),
  )
  alone (Claim owner page frame (Some need)) names came = absurd (none-some _ names.0.1)
  alone (UseHeld page frame want) names came = absurd (none-some _ names.0.1)
  alone (DropHeld frame) names came =
      from_drop frames c came.before.made frame came.before.doing came.after came.goes (owned None (DropHeld frame) came)
  alone (Got frame) names came =
      from_got frames c came.before.made frame came.before.doing came.after came.goes (owned None (Got frame) came)
  alone (Unclaim frame) names came = absurd (none-some _ names.0.1)
  alone (Refused wired claimed held) names came =
      from_refusal frames c came.before.made wired claimed held came.before.doing came.after came.goes (owned None (Refused wired claimed held) came)
  alone (Pin first len wired) names came = absurd (none-some _ names.0.1)
  alone (Kept first len page frame) names came = absurd (none-some _ names.0.1)
  alone (Rest short) names came =
      from_rest frames c came.before.made short came.before.doing came.after came.goes (owned None (Rest short) came)

  -- the entry clears a range
  abbrev pub Clears : What → Type 0
  Clears (Clear first len) = Unit {0}
  Clears what = ⊥

  -- an entry on a space and the frames
  module _ (s : ℕ) where
    agrees : {what : What} (came : CameSoFar g h (entry c (Some s) what)) → (p : ℕ) → (space_at g h s).base p ≡ frame_of frames s p
    agrees came p = (IsKept-legal g h came.legal).agrees s p

    known : {what : What} (came : CameSoFar g h (entry c (Some s) what)) → s < most_spaces
    known came = omega (arith, came.space, came.few)

    both : (what : What) → IsOn (Some s) true what → (Clears what → ⊥) → CameSoFar g h (entry c (Some s) what) → IsReadyFor frames c (Some s) what
    both (Answer number call answered) names clears came =
        freed (space_at g h s) frames s call answered.reply came.by_space.1.parts number answered came.line (known came) (agrees came)
    both (Out page written) names clears came = absurd (false≢true (sym names.1))
    both (Failed page writing count) names clears came = absurd (false≢true (sym names.1))
    both (Take page frame want) names clears came = (
      known came,
      sym (agrees came page) ∙ came.by_space.1.1,
      from_take frames c came.before.made s page frame came.before.doing came.after came.goes (owned (Some s) (Take page frame want) came),
      came.wants,
    )
    both (Give page frame) names clears came = sym (agrees came page) ∙ came.by_space.1.0
    both (Clear first len) names clears came = absurd (clears tt)
    both (Claim owner page frame None) names clears came = absurd (none-some _ (sym names.0))
    both (Claim owner page frame (Some need)) names clears came = (
      subst (λ n. c < n) (sym (IsKept-legal g h came.legal).sound.processors_known) came.processor,
      from_claim frames c came.before.made (Some s) (record { space = owner; page = page; frame = frame }) (Some need) came.before.doing came.after came.goes
          (owned (Some s) (Claim owner page frame (Some need)) came),
    )
    both (UseHeld page frame want) names clears came = (
      known came,
      sym (agrees came page) ∙ came.by_space.1.1,
      from_use frames c came.before.made s page frame came.before.doing came.after came.goes (owned (Some s) (UseHeld page frame want) came),
      came.wants,
    )
    both (DropHeld frame) names clears came = absurd (none-some _ (sym names.0))
    both (Got frame) names clears came = absurd (none-some _ (sym names.0))
    both (Unclaim frame) names clears came =
        (let u = from_unclaim frames c came.before.made s frame came.before.doing came.after came.goes (owned (Some s) (Unclaim frame) came) in
        (u.victim, u.own, u.space))
    both (Refused wired claimed held) names clears came = absurd (none-some _ (sym names.0))
    both (Pin first len wired) names clears came = (
      known came,
      pin_within (space_at g h s).flat.regions first len wired (EndWithin-legal g h s came.legal) came.by_space.1,
    )
    both (Kept first len page frame) names clears came = (
      known came,
      region_within (space_at g h s).flat.regions first len (EndWithin-legal g h s came.legal) came.by_space.1,
    )
    both (Rest short) names clears came = absurd (none-some _ (sym names.0))

  ready_on : (space : Option ℕ) (what : What) → IsOn space true what → (Clears what → ⊥) → CameSoFar g h (entry c space what)
      → IsReadyFor frames c space what
  ready_on None what names clears came = alone what names came
  ready_on (Some s) what names clears came = both s what names clears came

-- An entry on the frames that its order and its space allow, and that clears no range, is one that the frames need not look at further.
pub ready : (g : Given) (h : List Entry) (e : Entry) → e.frames ≡ true → (Clears g h e.processor e.what → ⊥) → CameSoFar g h e → IsReady (frames_at g h) e
ready g h e frames clears came =
    let same : e ≡ entry e.processor e.space e.what = ap (λ b. record { processor = e.processor; space = e.space; frames = b; what = e.what }) frames in
    ready_on g h e.processor e.space e.what (subst (λ b. IsOn e.space b e.what) frames came.parts) clears (subst (CameSoFar g h) same came)
