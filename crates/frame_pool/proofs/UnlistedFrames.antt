-- No list has a member of a frame at which no reservation begins, or a full one: where one goes out, the lists are those without its
-- frame, and at first they are empty.
use Rattle.std.proofs.Common.{◌≡◌, ◌≢◌, ◌||◌, ℕ, zero, suc, ◌+◌, ◌-◌, ◌*◌, ◌^◌, ◌<◌, Bool, true, false, cond, eqb, List, [], get_or, set, Option, Some, None, refl, sym, ap, ◌∙◌, arith, replicate}
use Rattle.std.specs.List.{All, list_any, range_with_len}
use Rattle.std.proofs.lemmas.Bool.{cond-false, ne_eqb, or_from}
use Rattle.std.proofs.lemmas.List.Folds.{list_any_none}
use Rattle.std.proofs.lemmas.Option.{none-some, same_Some}
use Rattle.pager_model.specs.declared.reservation.Reservation.{Reservation}
use Rattle.pager_model.specs.Ages.{Lists, list_at, with_member}
use Rattle.pager_model.specs.Headline.{member_of}
use Rattle.pager_model.specs.Layouts.{list_of}
use Rattle.pager_model.specs.Records.{is_used, none_used, has_empty, largest_empty, yield_in, same_size}
use Rattle.pager_model.specs.SizeSets.{SizeSet}
use Rattle.pager_model.proofs.Lists.{get_or_within, get_or-set_default}
use Rattle.reservation_lists.specs.Kept.{has_member_of, is_listed, no_members, without_member_of, without_frame}
use Rattle.reservation_lists.proofs.Members.{without_member_of-none, without_member_of-with}
use Rattle.reservations.proofs.FrameIds.{ArePlaced-set}
use Rattle.pager_model.specs.RecordPlaces.{ArePlaced}
use Rattle.pager_laws.specs.Listed.{AreListed}
use Rattle.pager_laws.proofs.AgeLists.{All-list_of, list_of-open}

-- no list has a member of a frame at which no reservation begins
others_of_list : (z : SizeSet) (used : List Bool) (k : ℕ) (records : List (Option Reservation)) (id : ℕ) → ArePlaced records
    → get_or records id None ≡ None → All (λ m. m.frame ≢ id) (list_of z used k records)
others_of_list z used k records id placed none =
    All-list_of z (λ m. m.frame ≢ id) used k records (λ at r is yields same.
    let here : at ≡ id = sym (placed at r is).named ∙ same in
    none-some r (sym none ∙ sym (ap (λ n. get_or records n None) here) ∙ is))

-- a frame is listed nowhere, where the lists of these reservations have no member of it
unlisted_from : (z : SizeSet) (lists : Lists) (used : List Bool) (records : List (Option Reservation)) (id : ℕ)
    → AreListed z lists used records → ((k : ℕ) → All (λ m. m.frame ≢ id) (list_of z used k records)) → is_listed id lists ≡ false
unlisted_from z lists used records id are others =
    let missing : (k : ℕ) → k < 3 → has_member_of id (list_at lists k) ≡ false =
    λ k small. ap (has_member_of id) (are k small)
    ∙ list_any_none (λ m. eqb m.frame id) (list_of z used k records) (λ i d within. ne_eqb _ _ (others k i d within)) in
    or_from _ _ (missing 0 (omega arith)) (or_from _ _ (missing 1 (omega arith)) (missing 2 (omega arith)))

pub is_listed-none : (z : SizeSet) (lists : Lists) (used : List Bool) (records : List (Option Reservation)) (id : ℕ)
    → AreListed z lists used records → ArePlaced records → get_or records id None ≡ None → is_listed id lists ≡ false
is_listed-none z lists used records id are placed none =
    unlisted_from z lists used records id are (λ k. others_of_list z used k records id placed none)

-- nor does one have a member of a frame at which a full reservation begins
pub is_listed-full : (z : SizeSet) (lists : Lists) (used : List Bool) (records : List (Option Reservation)) (id : ℕ) (r : Reservation)
    → AreListed z lists used records → ArePlaced records → get_or records id None ≡ Some r → yield_in z (is_used used) r ≡ None
    → is_listed id lists ≡ false
is_listed-full z lists used records id r are placed is full =
    unlisted_from z lists used records id are (λ k. All-list_of z (λ m. m.frame ≢ id) used k records (λ at q stands yields same.
    let here : at ≡ id = sym (placed at q stands).named ∙ same in
    let it : r ≡ q = same_Some r q (sym is ∙ sym (ap (λ n. get_or records n None) here) ∙ stands) in
    none-some k (sym full ∙ ap (yield_in z (is_used used)) it ∙ yields)))

-- a reservation of one frame, which is used, is full
pub yield_in-alone : (z : SizeSet) (used : ℕ → Bool) (r : Reservation) → r.size ≡ 0 → used r.frame ≡ true → yield_in z used r ≡ None
yield_in-alone z used r one is =
    let start : r.frame + 0 * 1 ≡ r.frame = omega arith in
    let full : has_empty used r 0 ≡ false =
    ap (λ k. list_any (λ i. none_used used (r.frame + i * 1) 1) (range_with_len 0 (8 ^ (k - 0)))) one
    ∙ ap (λ f. none_used used f 1 || false) start
    ∙ rw is refl in
    ap (largest_empty z used r) one ∙ cond-false _ _ _ full

-- The reservation that begins at a frame goes out of the lists.
list_at-without_frame : (id : ℕ) (lists : Lists) (k : ℕ) → list_at (without_frame id lists) k ≡ without_member_of id (list_at lists k)
list_at-without_frame id lists zero = refl
list_at-without_frame id lists (suc zero) = refl
list_at-without_frame id lists (suc (suc k)) = refl

pub AreListed-without_frame : (z : SizeSet) (lists : Lists) (used : List Bool) (records : List (Option Reservation)) (id : ℕ)
    (r : Reservation)
    → AreListed z lists used records → ArePlaced records → get_or records id None ≡ Some r
    → AreListed z (without_frame id lists) used (set records id None)
AreListed-without_frame z lists used records id r are placed is k small =
    let rest = list_of z used k (set records id None) in
    let rest_placed = ArePlaced-set records id None placed (get_or_within records id r is) (λ q e. absurd (none-some q e)) in
    let others = others_of_list z used k (set records id None) id rest_placed (get_or-set_default records id id None refl) in
    list_at-without_frame id lists k
    ∙ ap (without_member_of id) (are k small ∙ list_of-open z used k records id r is)
    ∙ elim (same_size (yield_in z (is_used used) r) (Some k)) as (λ v. without_member_of id
    (cond v (with_member (member_of r) rest) rest) ≡ rest) [
      | true ↦ without_member_of-with id (member_of r) rest (placed id r is).named others
      | false ↦ without_member_of-none id rest others
    ]

-- no reservation, no member
list_of-nothing : (z : SizeSet) (used : List Bool) (k n : ℕ) → list_of z used k (replicate n None) ≡ []
list_of-nothing z used k zero = refl
list_of-nothing z used k (suc n) = list_of-nothing z used k n

-- each of the three lists is empty
no_member_at : (k : ℕ) → list_at no_members k ≡ []
no_member_at zero = refl
no_member_at (suc zero) = refl
no_member_at (suc (suc k)) = refl

-- empty lists are those of no reservations
pub AreListed-start : (z : SizeSet) (frames : ℕ) → AreListed z no_members (replicate frames false) (replicate frames None)
AreListed-start z frames k small = no_member_at k ∙ sym (list_of-nothing z (replicate frames false) k frames)
