-- Entries after which all that is followed is as before.
use Rattle.std.proofs.Common.{◌≡◌, ℕ, Bool, true, false, Option, refl}
use Rattle.pager_model.specs.declared.entry.Entry.{Entry}
use Rattle.pager_model.specs.declared.entry.What.{What}
use Rattle.pager_model.specs.declared.entry.What.TheVariants.{Failed, Claim, DropHeld, Got, Unclaim, Refused, Rest, Pin, Kept}
use Rattle.pager_model.specs.Flat.{Flat, lost}
use Rattle.pager_model.specs.SpaceStates.{SpaceState, base_after, flat_after, space_after}
use Rattle.followed_space.specs.Follows.{Followed, Follows, Keeps, is_idle}
use Rattle.followed_space.proofs.Keeping.{keeps_same}

keeps_idle : (kept : Followed) (f : Flat) (b : ℕ → Option ℕ) (frames : Bool) (what : What) → is_idle what ≡ true → Keeps kept f b
    → Keeps kept (flat_after f what) (base_after b frames what)
keeps_idle kept f b frames (Failed page true count) h k = keeps_same kept f (lost f page) b b k refl (λ p. refl) (λ p. refl) (λ p. refl)
keeps_idle kept f b frames (Failed page false count) h k = keeps_same kept f f b b k refl (λ p. refl) (λ p. refl) (λ p. refl)
keeps_idle kept f b frames (Claim victim page frame need) h k = keeps_same kept f f b b k refl (λ p. refl) (λ p. refl) (λ p. refl)
keeps_idle kept f b frames (DropHeld frame) h k = keeps_same kept f f b b k refl (λ p. refl) (λ p. refl) (λ p. refl)
keeps_idle kept f b frames (Got frame) h k = keeps_same kept f f b b k refl (λ p. refl) (λ p. refl) (λ p. refl)
keeps_idle kept f b frames (Unclaim frame) h k = keeps_same kept f f b b k refl (λ p. refl) (λ p. refl) (λ p. refl)
keeps_idle kept f b frames (Refused wired claimed held) h k = keeps_same kept f f b b k refl (λ p. refl) (λ p. refl) (λ p. refl)
keeps_idle kept f b frames (Rest short) h k = keeps_same kept f f b b k refl (λ p. refl) (λ p. refl) (λ p. refl)
keeps_idle kept f b frames (Pin first len wired) h k = keeps_same kept f f b b k refl (λ p. refl) (λ p. refl) (λ p. refl)
keeps_idle kept f b frames (Kept first len page frame) h k = keeps_same kept f f b b k refl (λ p. refl) (λ p. refl) (λ p. refl)
keeps_idle kept f b frames what h k = cc

pub follows_idle : (kept : Followed) (st : SpaceState) (e : Entry) → is_idle e.what ≡ true → Follows kept st
    → Follows kept (space_after st e)
follows_idle kept st e h k = keeps_idle kept st.flat st.base e.frames e.what h k
