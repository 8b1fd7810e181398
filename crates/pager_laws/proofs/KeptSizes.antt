-- Whatever is done to the frames, the page sizes stay, and each reservation is of one of them.
use Rattle.std.proofs.Common.{◌≡◌, ℕ, zero, suc, ◌-◌, Bool, true, false, cond, List, [], ◌∷◌, length, fold, inl, inr, Option, Some, None, option_map, IfSome, refl, sym, subst, ◌∙◌, slice_set, is_some}
use Rattle.std.specs.List.{All, range_with_len}
use Rattle.std.specs.Option.{option_or, option_and_then, option_map_or}
use Rattle.std.proofs.lemmas.Bool.{cases_Bool, cases_lt, cond-true, cond-false}
use Rattle.std.proofs.lemmas.List.{get_or_past}
use Rattle.std.proofs.lemmas.List.Elements.{All-head, All-tail, All-set, All-replicate}
use Rattle.std.proofs.lemmas.Option.{none-some}
use Rattle.pager_model.specs.declared.call.Call.{Call}
use Rattle.pager_model.specs.declared.call.Call.TheVariants.{Evict}
use Rattle.pager_model.specs.declared.entry.Entry.{Entry}
use Rattle.pager_model.specs.declared.entry.Want.{Want}
use Rattle.pager_model.specs.declared.entry.What.{What}
use Rattle.pager_model.specs.declared.entry.What.TheVariants.{Answer, Take, Give, Clear, Claim, UseHeld, DropHeld, Unclaim, Pin}
use Rattle.pager_model.specs.declared.reservation.Reservation.{Reservation}
use Rattle.pager_model.specs.Entries.{frames_part}
use Rattle.pager_model.specs.FrameStates.{FrameState, start_frames, layout_of, used_at, claim_in, frame_of, held_by, taking, take_frame, state_taken, layout_given, given_in, give_page, give_if_used, claimed, dropped, dropped_in, named_space, moved, moved_by_answer, frames_after}
use Rattle.pager_model.specs.FreeBlocks.{choice}
use Rattle.pager_model.specs.Layouts.{Layout, FreeExtent, Placing, record_at, covers, covering, frame_for, split_layout, split_on, break_layout, narrow_layout, carve_layout, is_last, vacate_layout, to_break, broken_at, chosen, extent_of, largest_extent, preferred_in, reserved, placing_in, placing}
use Rattle.pager_model.specs.Legal.{frames_at}
use Rattle.pager_model.specs.Records.{is_used, part_size, part_count, part_at, is_empty_at, kept_at}
use Rattle.pager_model.specs.Settings.{Given}
use Rattle.pager_model.specs.SizeSets.{SizeSet, has_size}
use Rattle.pager_model.proofs.SizeFloors.{has_within}

module _ (z : SizeSet) where
  -- a reservation, where one stands, is of one of the sizes
  abbrev IsSized : Option Reservation → Type 0
  IsSized o = IfSome o (λ r. has_size z r.size ≡ true)

  -- the sizes are these, and each reservation is of one of them
  record KeepsSizes (l : Layout) : Type 0 where
    pub sizes : l.sizes ≡ z
    pub kept : All IsSized l.records

  -- ---- splitting

  part_sized : (k : ℕ) (empty : Bool) (q : Reservation) → has_size z q.size ≡ true → IsSized (cond empty None (Some q))
  part_sized k true q one = tt
  part_sized k false q one = one

  parts_sized : (k : ℕ) (used : ℕ → Bool) (r : Reservation) (parts : List ℕ) (records : List (Option Reservation)) → has_size z k ≡ true
      → All IsSized records
      → All IsSized (fold (λ rs i. slice_set rs (part_at k r i).frame (kept_at k used r i)) records parts)
  parts_sized k used r [] records one all = all
  parts_sized k used r (i ∷ parts) records one all =
      parts_sized k used r parts (slice_set records (part_at k r i).frame (kept_at k used r i)) one
      (All-set IsSized records (part_at k r i).frame (kept_at k used r i) (part_sized k (is_empty_at k used r i) (part_at k r i) one) all)

  split_keeps : (r : Reservation) (l : Layout) → KeepsSizes l → KeepsSizes (split_layout r l)
  split_keeps r l keeps =
      let m = part_size l.sizes r in
      let one : has_size z m ≡ true = subst (λ y. has_size y m ≡ true) keeps.sizes (has_within l.sizes (r.size - 1)) in
      record { sizes = keeps.sizes; kept = parts_sized m (is_used l.used) r (range_with_len 0 (part_count m r)) l.records one keeps.kept }

  split_on_keeps : (next : Reservation → Option Reservation) (levels : ℕ) (r : Reservation) (l : Layout) → KeepsSizes l
      → KeepsSizes (split_on next levels r l)
  split_on_keeps next zero r l keeps = keeps
  split_on_keeps next (suc levels) r l keeps =
      let split = split_keeps r l keeps in
      elim (next r) as (λ o. KeepsSizes (option_map_or (λ part. split_on next levels part (split_layout r l)) o (split_layout r l))) [
        | None ↦ split
        | Some part ↦ split_on_keeps next levels part (split_layout r l) split
      ]

  break_keeps : (r : Reservation) (l : Layout) → KeepsSizes l → KeepsSizes (break_layout r l)
  break_keeps r l keeps = split_on_keeps _ r.size r l keeps

  broken_keeps : (id : ℕ) (l : Layout) → KeepsSizes l → KeepsSizes (broken_at id l)
  broken_keeps id l keeps = elim (record_at l id) as (λ o. KeepsSizes (option_map_or (λ r. break_layout r l) o l)) [
    | None ↦ keeps
    | Some r ↦ break_keeps r l keeps
  ]

  -- ---- giving up

  carve_keeps : (frame : ℕ) (r : Reservation) (l : Layout) → KeepsSizes l → KeepsSizes (carve_layout frame r l)
  carve_keeps frame r l keeps =
      let narrow = split_on_keeps _ r.size r l keeps in
      record { sizes = narrow.sizes; kept = All-set IsSized (narrow_layout frame r l).records frame None tt narrow.kept }

  vacate_keeps : (frame : ℕ) (r : Reservation) (l : Layout) → KeepsSizes l → KeepsSizes (vacate_layout frame r l)
  vacate_keeps frame r l keeps = record {
    sizes = keeps.sizes;
    kept = elim (is_last frame r l) as (λ b. All IsSized (cond b (slice_set l.records r.frame None) l.records)) [
      | true ↦ All-set IsSized l.records r.frame None tt keeps.kept
      | false ↦ keeps.kept
    ];
  }

  given_keeps : (claim : Option ℕ) (frame : ℕ) (r : Reservation) (l : Layout) → KeepsSizes l → KeepsSizes (layout_given claim frame r l)
  given_keeps None frame r l keeps = vacate_keeps frame r l keeps
  given_keeps (Some c) frame r l keeps = carve_keeps frame r l keeps

  -- ---- taking

  record IsFoundSized (f : FreeExtent) : Type 0 where
    pub layout : KeepsSizes f.layout
    pub size : has_size z f.size ≡ true

  abbrev FindsSized : Option FreeExtent → Type 0
  FindsSized o = IfSome o IsFoundSized

  either_sized : (a b : Option FreeExtent) → FindsSized a → FindsSized b → FindsSized (option_or a b)
  either_sized None b one other = other
  either_sized (Some f) b one other = one

  chosen_sized : (size broken : ℕ) (l : Layout) → has_size z size ≡ true → KeepsSizes l → FindsSized (chosen size broken l)
  chosen_sized size broken l one keeps = elim (choice l.free size) as (λ o. FindsSized (option_map (λ first. let f : FreeExtent = record {
    layout = l;
    size = size;
    first = first;
    broken = broken;
  } in f) o)) [
    | None ↦ tt
    | Some first ↦ record { layout = keeps; size = one }
  ]

  extent_sized : (size : ℕ) (l : Layout) → has_size z size ≡ true → KeepsSizes l → FindsSized (extent_of size l)
  extent_sized size l one keeps =
      either_sized (chosen size 0 l) (option_and_then (λ id. chosen size 1 (broken_at id l)) (to_break l size))
      (chosen_sized size 0 l one keeps)
      (elim (to_break l size) as (λ o. FindsSized (option_and_then (λ id. chosen size 1 (broken_at id l)) o)) [
        | None ↦ tt
        | Some id ↦ chosen_sized size 1 (broken_at id l) one (broken_keeps id l keeps)
      ])

  largest_sized : (size : ℕ) (l : Layout) → KeepsSizes l → FindsSized (largest_extent size l)
  largest_sized zero l keeps = extent_sized 0 l refl keeps
  largest_sized (suc size) l keeps =
      let smaller = largest_sized size l keeps in
      elim (cases_Bool (has_size l.sizes (suc size))) [
        | inl has ↦
            let one : has_size z (suc size) ≡ true = subst (λ y. has_size y (suc size) ≡ true) keeps.sizes has in
            subst FindsSized (sym (cond-true _ _ _ has)) (either_sized (extent_of (suc size) l) (largest_extent size l)
            (extent_sized (suc size) l one keeps) smaller)
        | inr lacks ↦ subst FindsSized (sym (cond-false _ _ _ lacks)) smaller
      ]

  -- the reservation that has a page is one of those that stand
  covering_sized : (space page : ℕ) (records : List (Option Reservation)) → All IsSized records → IsSized (covering space page records)
  covering_sized space page [] all = tt
  covering_sized space page (None ∷ rs) all = covering_sized space page rs (All-tail IsSized None rs all)
  covering_sized space page (Some r ∷ rs) all =
      elim (covers space page r) as (λ b. IsSized (cond b (Some r) (covering space page rs))) [
        | true ↦ All-head IsSized (Some r) rs all
        | false ↦ covering_sized space page rs (All-tail IsSized (Some r) rs all)
      ]

  abbrev PlacesSized : Option Placing → Type 0
  PlacesSized o = IfSome o (λ p. KeepsSizes p.layout)

  placed_sized : (stamp space page : ℕ) (want : Want) (l : Layout) (o : Option Reservation) → IsSized o → KeepsSizes l
      → PlacesSized (placing_in stamp space page want l o)
  placed_sized stamp space page want l (Some r) one keeps =
      record { sizes = keeps.sizes; kept = All-set IsSized l.records r.frame _ one keeps.kept }
  placed_sized stamp space page want l None one keeps =
      elim (largest_extent (preferred_in l space page want) l) as (λ o. FindsSized o
      → PlacesSized (option_map (reserved stamp space page) o)) [
        | None ↦ λ none. tt
        | Some f ↦ λ found. record {
          sizes = found.layout.sizes;
          kept = All-set IsSized f.layout.records f.first _ found.size found.layout.kept;
        }
      ] (largest_sized (preferred_in l space page want) l keeps)

  -- ---- states

  abbrev KeepsIn : FrameState → Type 0
  KeepsIn st = KeepsSizes (layout_of st)

  take_keeps : (st : FrameState) (space page : ℕ) (want : Want) → KeepsIn st → KeepsIn (state_taken st (take_frame st space page want))
  take_keeps st space page want keeps =
      elim (placing st.entries space page want (layout_of st)) as (λ o. PlacesSized o
      → KeepsIn (state_taken st (option_map (taking st want) o))) [
        | None ↦ λ none. keeps
        | Some p ↦ λ placed. record { sizes = placed.sizes; kept = placed.kept }
      ] (placed_sized st.entries space page want (layout_of st) (covering space page st.records)
      (covering_sized space page st.records keeps.kept) keeps)

  give_keeps : (st : FrameState) (space page : ℕ) → KeepsIn st → KeepsIn (give_page st space page)
  give_keeps st space page keeps =
      elim (covering space page st.records) as (λ o. KeepsIn (given_in st page o)) [
        | None ↦ keeps
        | Some r ↦
            let given = given_keeps (claim_in (used_at st (frame_for page r))) (frame_for page r) r (layout_of st) keeps in
            record { sizes = given.sizes; kept = given.kept }
      ]

  give_each_keeps : (space : ℕ) (pages : List ℕ) (st : FrameState) → KeepsIn st → KeepsIn (fold (give_if_used space) st pages)
  give_each_keeps space [] st keeps = keeps
  give_each_keeps space (page ∷ pages) st keeps =
      give_each_keeps space pages (give_if_used space st page)
      (elim (is_some (frame_of st space page)) as (λ b. KeepsIn (cond b (give_page st space page) st)) [
        | true ↦ give_keeps st space page keeps
        | false ↦ keeps
      ])

  claim_keeps : (st : FrameState) (frame : ℕ) (claim : Option ℕ) → KeepsIn st → KeepsIn (claimed st frame claim)
  claim_keeps st frame claim keeps = record { sizes = keeps.sizes; kept = keeps.kept }

  drop_keeps : (st : FrameState) (c : ℕ) → KeepsIn st → KeepsIn (dropped st c)
  drop_keeps st c keeps = elim (held_by st c) as (λ o. KeepsIn (dropped_in st c o)) [
    | None ↦ keeps
    | Some frame ↦ record { sizes = keeps.sizes; kept = keeps.kept }
  ]

  answer_keeps : (st : FrameState) (space : ℕ) (call : Call) → KeepsIn st → KeepsIn (moved_by_answer st space call)
  answer_keeps st space (Evict s page) keeps = give_keeps st space page keeps
  answer_keeps st space call keeps = keeps

  moved_keeps : (st : FrameState) (c : ℕ) (space : Option ℕ) (what : What) → KeepsIn st → KeepsIn (moved st c space what)
  moved_keeps st c space (Answer number call answered) keeps = answer_keeps st (named_space space) call keeps
  moved_keeps st c space (Take page frame want) keeps = take_keeps st (named_space space) page want keeps
  moved_keeps st c space (Give page frame) keeps = give_keeps st (named_space space) page keeps
  moved_keeps st c space (Clear first len) keeps = give_each_keeps (named_space space) (range_with_len first len) st keeps
  moved_keeps st c space (Claim victim page frame need) keeps = claim_keeps st frame (Some c) keeps
  moved_keeps st c space (UseHeld page frame want) keeps = take_keeps (dropped st c) (named_space space) page want (drop_keeps st c keeps)
  moved_keeps st c space (DropHeld frame) keeps = drop_keeps st c keeps
  moved_keeps st c space (Unclaim frame) keeps = claim_keeps st frame None keeps
  moved_keeps st c space (Pin first len wired) keeps = record { sizes = keeps.sizes; kept = keeps.kept }
  moved_keeps st c space what keeps = keeps

  entries_keep : (entries : List Entry) (st : FrameState) → KeepsIn st → KeepsIn (fold frames_after st entries)
  entries_keep [] st keeps = keeps
  entries_keep (e ∷ es) st keeps =
      let moves = moved_keeps st e.processor e.space e.what keeps in
      entries_keep es (frames_after st e) (record { sizes = moves.sizes; kept = moves.kept })

  -- what stands at a frame is of one of them
  sized_at : (l : Layout) (id : ℕ) (r : Reservation) → KeepsSizes l → record_at l id ≡ Some r → has_size z r.size ≡ true
  sized_at l id r keeps is = elim (cases_lt id (length l.records)) [
    | inl known ↦ subst IsSized is (keeps.kept id None known)
    | inr past ↦ absurd (none-some r (sym (get_or_past l.records id None past) ∙ is))
  ]

-- after every list of entries, legal or not
frames_keep_sizes : (g : Given) (history : List Entry) → KeepsIn g.sizes (frames_at g history)
frames_keep_sizes g history =
    entries_keep g.sizes (frames_part history) (start_frames g.sizes g.frames (length g.marks))
    (record { sizes = refl; kept = All-replicate (IsSized g.sizes) g.frames None tt })

pub sizes-history : (g : Given) (history : List Entry) → (frames_at g history).sizes ≡ g.sizes
sizes-history g history = (frames_keep_sizes g history).sizes

pub has_size-history : (g : Given) (history : List Entry) (id : ℕ) (r : Reservation)
    → record_at (layout_of (frames_at g history)) id ≡ Some r → has_size g.sizes r.size ≡ true
has_size-history g history id r is = sized_at g.sizes (layout_of (frames_at g history)) id r (frames_keep_sizes g history) is
