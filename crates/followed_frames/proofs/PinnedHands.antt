-- A pin changes no hand, whatever it answers.
use Rattle.std.proofs.Common.{◌≡◌, ℕ, Bool, true, List, Option, Some, None, sym, subst}
use Rattle.std.specs.Option.{IfSome, IfNone}
use Rattle.frame_pool.specs.declared.pins.Kept.{Kept}
use Rattle.pager_model.specs.Frame.{Framed}
use Rattle.pager_model.specs.FrameStates.{FrameState, counted, frame_of, lowest_claimed, pin_range}
use Rattle.followed_frames.specs.Ready.{AreInHand}
use Rattle.followed_frames.proofs.Hands.{counted_hands, in_hand_pinned}

pub hands_pinned : (hands : List (Option Framed)) (st after : FrameState) (space first len : ℕ) (wired : Bool) (o : Option Kept) → AreInHand hands st
    → IfSome o (λ (k : Kept). (wired ≡ true) × (lowest_claimed st space first len ≡ Some k.page) × (frame_of st space k.page ≡ Some k.frame)
    × (after ≡ counted st))
    → IfNone o ((wired ≡ true → lowest_claimed st space first len ≡ None) × (after ≡ counted (pin_range st space first len wired)))
    → AreInHand hands after
hands_pinned hands st after space first len wired (Some k) in_hand kept pinned = subst (AreInHand hands) (sym kept.3) (counted_hands hands st in_hand)
hands_pinned hands st after space first len wired None in_hand kept pinned =
    subst (AreInHand hands) (sym pinned.1)
    (counted_hands hands (pin_range st space first len wired) (in_hand_pinned hands st space first len wired in_hand))
