-- The reservation that a taking preempts is the oldest of its list: only one is broken, and the others stand.
use Rattle.std.proofs.Common.{◌≡◌, ◌≢◌, ◌⊎◌, inl, inr, ℕ, zero, suc, ◌+◌, ◌-◌, ◌^◌, ◌<◌, ◌≤◌, Bool, true, false, cond, List, [], ◌∷◌, ◌++◌, length, get_or, set, Option, Some, None, IsSomeAnd, option_map, refl, sym, ap, subst, ◌∙◌, arith}
use Rattle.std.specs.List.{All}
use Rattle.std.specs.Option.{option_or, option_and_then}
use Rattle.std.proofs.lemmas.Bool.{cases_Bool, cases_eq, cases_lt, false≢true}
use Rattle.std.proofs.lemmas.List.{get_or-set_same, get_or-set_other}
use Rattle.std.proofs.lemmas.List.Elements.{All-head}
use Rattle.std.proofs.lemmas.Option.{none-some, same_Some}
use Rattle.pager_model.proofs.FreeRuns.{run_free-choice, run_free_frames}
use Rattle.pager_model.specs.declared.entry.Entry.{Entry}
use Rattle.pager_model.specs.declared.entry.Want.{Want}
use Rattle.pager_model.specs.declared.entry.What.{What}
use Rattle.pager_model.specs.declared.entry.What.TheVariants.{Take, UseHeld}
use Rattle.pager_model.specs.declared.reservation.Reservation.{Reservation}
use Rattle.pager_model.specs.Ages.{Member, is_before, with_member, oldest_in}
use Rattle.pager_model.specs.Agreement.{has_frame}
use Rattle.pager_model.specs.FrameStates.{FrameState, Taking, layout_of, held_by, taking, take_frame, state_taken, dropped, dropped_in, counted, named_space}
use Rattle.pager_model.specs.FreeBlocks.{choice}
use Rattle.pager_model.specs.Headline.{is_taking, size_at, member_of, IsPreempted, IsOldest, PreemptsOldest}
use Rattle.pager_model.specs.Layouts.{Layout, FreeExtent, Placing, break_layout, list_of, oldest_of, oldest_from, to_break, broken_at, chosen, extent_of, largest_extent, covering, stamped, populated, new_reservation, reserved, preferred_in, placing_in, placing, record_at}
use Rattle.pager_model.specs.Legal.{IsLegal, MayFollow, frames_at}
use Rattle.pager_model.specs.Records.{is_used, yield_in}
use Rattle.pager_model.specs.SizeSets.{has_size}
use Rattle.pager_model.specs.Settings.{Given}
use Rattle.pager_model.proofs.Histories.{frames_at-named}
use Rattle.pager_model.specs.RecordPlaces.{ArePlaced}
use Rattle.pager_model.proofs.ExtentLemmas.{eight_pos}
use Rattle.pager_model.proofs.Lists.{get_or_within}
use Rattle.pager_model.proofs.RecordFrames.{has_frame_from}
use Rattle.pager_model.proofs.AgeOrder.{is_before-same}
use Rattle.pager_laws.specs.Laid.{IsLaid}
use Rattle.pager_laws.proofs.AgeLists.{with_listed-in, list_of-open, All-list_of, oldest_in-found}
use Rattle.pager_laws.proofs.BreakYield.{Breaks-break}
use Rattle.pager_laws.proofs.FoundExtents.{MayBreak-found, IsFound-largest_extent}
use Rattle.pager_laws.proofs.LegalHistories.{IsKept-legal}
use Rattle.pager_laws.proofs.LegalPrefixes.{IsLegal-at}
use Rattle.pager_laws.proofs.MemberOrder.{with_member-here, with_member-behind}
use Rattle.pager_laws.proofs.PagePlaces.{covering-found}
use Rattle.pager_laws.proofs.StateSoundness.{taking_from, IsSound-dropped}

-- The oldest of a list.

-- of two members of different frames one is before the other
is_before-else : (a b : Member) → a.frame ≢ b.frame → is_before a b ≡ false → is_before b a ≡ true
is_before-else a b other behind = elim (cases_Bool (is_before b a)) [
  | inl before ↦ before
  | inr neither ↦ absurd (other (ap (λ (m : Member). m.frame) (is_before-same a b behind neither)))
]

-- where the first of a list is of another frame than a member that went in, it is before this member
first_before : (P : Member → Type 0) (new : Member) (ms : List Member) (id : ℕ) → All P (with_member new ms) → new.frame ≢ id
    → oldest_in (with_member new ms) ≡ Some id → (m : Member) × P m × (m.frame ≡ id) × (is_before m new ≡ true)
first_before P new [] id all other found = absurd (other (same_Some new.frame id found))
first_before P new (m ∷ ms) id all other found = elim (cases_Bool (is_before new m)) [
  | inl before ↦ absurd (other (same_Some new.frame id (sym (ap oldest_in (with_member-here new m ms before)) ∙ found)))
  | inr behind ↦
      let goes_in = with_member-behind new m ms behind in
      let named : m.frame ≡ id = same_Some m.frame id (sym (ap oldest_in goes_in) ∙ found) in
      (m, All-head P m (with_member new ms) (subst (All P) goes_in all), named, is_before-else new m (λ same. other (same ∙ named)) behind)
]

-- the first reservation of a list is before every other one of the list
pub oldest_in-before : (l : Layout) (k id other : ℕ) (r q : Reservation) → ArePlaced l.records
    → oldest_in (list_of l.sizes l.used k l.records) ≡ Some id → get_or l.records id None ≡ Some r → get_or l.records other None ≡ Some q
    → yield_in l.sizes (is_used l.used) q ≡ Some k → other ≢ id → is_before (member_of r) (member_of q) ≡ true
oldest_in-before l k id other r q placed found is stands yields apart =
    let IsOf : Member → Type 0 = λ m. (s : Reservation) → get_or l.records m.frame None ≡ Some s → m ≡ member_of s in
    let each : All IsOf (list_of l.sizes l.used k l.records) =
    All-list_of l.sizes IsOf l.used k l.records (λ at s here _ t there.
    ap member_of (same_Some s t (sym here ∙ ap (λ n. get_or l.records n None) (sym (placed at s here).named) ∙ there))) in
    let rest = list_of l.sizes l.used k (set l.records other None) in
    let whole = list_of-open l.sizes l.used k l.records other q stands ∙ with_listed-in l.sizes l.used k q rest yields in
    let first = first_before IsOf (member_of q) rest id (subst (All IsOf) whole each)
    (λ same. apart (sym (placed other q stands).named ∙ same)) (sym (ap oldest_in whole) ∙ found) in
    subst (λ m. is_before m (member_of q) ≡ true) (first.1 r (ap (λ n. get_or l.records n None) first.2 ∙ is)) first.3

-- what is found in some lists is the first of one of them
oldest_from-in : (l : Layout) (k count id : ℕ) → oldest_from l k count ≡ Some id → (j : ℕ) × (oldest_of l j ≡ Some id)
oldest_from-in l k zero id found = absurd (none-some id found)
oldest_from-in l k (suc count) id found =
    elim (oldest_of l k) as (λ o. oldest_of l k ≡ o → option_or o (oldest_from l (k + 1) count) ≡ Some id
    → (j : ℕ) × (oldest_of l j ≡ Some id)) [
      | None ↦ λ _ later. oldest_from-in l (k + 1) count id later
      | Some first ↦ λ is here. (k, is ∙ here)
    ] refl found

-- the reservation that is broken for a size is the oldest of its list
pub IsOldest-to_break : (st : FrameState) (size id : ℕ) (r : Reservation) → IsLaid (layout_of st) → to_break (layout_of st) size ≡ Some id
    → record_at (layout_of st) id ≡ Some r → IsOldest st r
IsOldest-to_break st size id r laid breaks is =
    let l = layout_of st in
    let list = oldest_from-in l size (3 - size) id breaks in
    let found = oldest_in-found l.sizes l.used list.0 l.records id laid.placed list.1 in
    record {
      list = list.0;
      listed = ap (yield_in l.sizes (is_used l.used)) (same_Some r found.0 (sym is ∙ found.1)) ∙ found.2;
      oldest = λ other q stands yields apart. oldest_in-before l list.0 id other r q laid.placed list.1 is stands yields
          (λ same. apart (same ∙ sym (laid.placed id r is).named));
    }

-- The others stand.

-- beside the reservation that is broken each stands as it stood
pub stands_broken : (l : Layout) (id other k : ℕ) (r q : Reservation) → IsLaid l → record_at l id ≡ Some r
    → yield_in l.sizes (is_used l.used) r ≡ Some k → record_at l other ≡ Some q → other ≢ id → record_at (break_layout r l) other ≡ Some q
stands_broken l id other k r q laid is yields stands apart =
    let breaks = Breaks-break l r k laid (ap (record_at l) (laid.placed id r is).named ∙ is) yields in
    let own = (laid.placed other q stands).named in
    let begins = has_frame_from other q (omega (arith, own)) (omega (arith, own, eight_pos q.size)) in
    let beside : (other < r.frame) ⊎ (r.frame + 8 ^ r.size ≤ other) = elim (cases_lt other r.frame) [
      | inl before ↦ inl before
      | inr low ↦ elim (cases_lt other (r.frame + 8 ^ r.size)) [
        | inl high ↦ absurd (apart (laid.apart other other id (ap (has_frame other) stands ∙ begins)
            (ap (has_frame other) is ∙ has_frame_from other r low high)))
        | inr past ↦ inr past
      ]
    ] in
    breaks.others other beside ∙ stands

-- the layout that an extent is found in is the one before, or the one in which the reservation at a frame is broken for some size
IsFoundIn : Layout → FreeExtent → Type 0
IsFoundIn l found = (found.layout ≡ l) ⊎ ((size : ℕ) × (id : ℕ) × (to_break l size ≡ Some id) × (found.layout ≡ broken_at id l))

chosen_in : (l : Layout) (size broken : ℕ) (found : FreeExtent) → chosen size broken l ≡ Some found → found.layout ≡ l
chosen_in l size broken found is =
    let found_at : ℕ → FreeExtent = λ first. record { layout = l; size = size; first = first; broken = broken } in
    elim (choice l.free size) as (λ o. option_map found_at o ≡ Some found → found.layout ≡ l) [
      | None ↦ λ none. absurd (none-some found none)
      | Some first ↦ λ here. sym (ap (λ (f : FreeExtent). f.layout) (same_Some (found_at first) found here))
    ] is

extent_in : (l : Layout) (size : ℕ) (found : FreeExtent) → extent_of size l ≡ Some found → IsFoundIn l found
unfolding IsFoundIn
extent_in l size found is =
    elim (chosen size 0 l) as (λ o. chosen size 0 l ≡ o → option_or o
    (option_and_then (λ id. chosen size 1 (broken_at id l)) (to_break l size)) ≡ Some found → IsFoundIn l found) [
      | Some first ↦ λ here h. inl (chosen_in l size 0 found (here ∙ h))
      | None ↦ λ _ h.
          elim (to_break l size) as (λ o. to_break l size ≡ o → option_and_then (λ id. chosen size 1 (broken_at id l)) o ≡ Some found
          → IsFoundIn l found) [
            | None ↦ λ _ e. absurd (none-some found e)
            | Some id ↦ λ breaks e. inr (size, id, breaks, chosen_in (broken_at id l) size 1 found e)
          ] refl h
    ] refl is

largest_in : (l : Layout) (size : ℕ) (found : FreeExtent) → largest_extent size l ≡ Some found → IsFoundIn l found
largest_in l zero found is = extent_in l 0 found is
largest_in l (suc size) found is =
    elim (has_size l.sizes (suc size)) as (λ b. cond b (option_or (extent_of (suc size) l) (largest_extent size l)) (largest_extent size l)
    ≡ Some found → IsFoundIn l found) [
      | true ↦ λ e. elim (extent_of (suc size) l) as (λ o. extent_of (suc size) l ≡ o → option_or o (largest_extent size l) ≡ Some found
          → IsFoundIn l found) [
            | Some first ↦ λ here h. extent_in l (suc size) found (here ∙ h)
            | None ↦ λ _ h. largest_in l size found h
          ] refl e
      | false ↦ λ e. largest_in l size found e
    ] is

-- a reservation of the layout that the extent is found in stands beside the new one
stands_reserved : (stamp space page id : ℕ) (found : FreeExtent) (q : Reservation) → IsLaid found.layout
    → choice found.layout.free found.size ≡ Some found.first → record_at found.layout id ≡ Some q
    → record_at (reserved stamp space page found).layout id ≡ Some q
stands_reserved stamp space page id found q laid is stands =
    let l = found.layout in
    let first = found.first in
    let free = run_free_frames l.free first (8 ^ found.size) (run_free-choice l.free found.size first is) first (omega arith)
    (omega (arith, eight_pos found.size)) in
    let own = (laid.placed id q stands).named in
    let begins = has_frame_from id q (omega (arith, own)) (omega (arith, own, eight_pos q.size)) in
    let apart : id ≢ first = λ same. laid.not_free first id free (ap (has_frame first) stands
    ∙ subst (λ n. has_frame n (Some q) ≡ true) same begins) in
    get_or-set_other l.records first id (Some (new_reservation stamp space page found)) None apart ∙ stands

-- a reservation that gets one page more keeps its size, and the others stand
sized_populated : (l : Layout) (stamp page id : ℕ) (c r : Reservation) → IsLaid l → record_at l id ≡ Some c → record_at l r.frame ≡ Some r
    → option_map (λ (q : Reservation). q.size) (record_at (populated stamp page l c).layout r.frame) ≡ Some r.size
sized_populated l stamp page id c r laid is stood =
    let at : record_at l c.frame ≡ Some c = ap (record_at l) (laid.placed id c is).named ∙ is in
    let size_of : Option Reservation → Option ℕ = option_map (λ (q : Reservation). q.size) in
    elim (cases_eq r.frame c.frame) [
      | inl same ↦
          let one : c ≡ r = same_Some c r (sym at ∙ ap (record_at l) (sym same) ∙ stood) in
          ap size_of (ap (λ n. get_or (set l.records c.frame (Some (stamped c stamp))) n None) same
          ∙ get_or-set_same l.records c.frame (Some (stamped c stamp)) None (get_or_within l.records c.frame c at))
          ∙ ap (λ (q : Reservation). Some q.size) one
      | inr other ↦ ap size_of (get_or-set_other l.records c.frame r.frame (Some (stamped c stamp)) None other ∙ stood)
    ]

-- Takings.

-- a place for a page preempts the oldest of a list alone
IsOldest-placing : (st : FrameState) (stamp space page : ℕ) (want : Want) (place : Placing) (r : Reservation) → IsLaid (layout_of st)
    → placing stamp space page want (layout_of st) ≡ Some place → record_at (layout_of st) r.frame ≡ Some r
    → option_map (λ (q : Reservation). q.size) (record_at place.layout r.frame) ≢ Some r.size → IsOldest st r
unfolding IsFoundIn
IsOldest-placing st stamp space page want place r laid is stood gone =
    let l = layout_of st in
    let size_in : Layout → Option ℕ = λ m. option_map (λ (q : Reservation). q.size) (record_at m r.frame) in
    elim (covering space page l.records) as (λ o. covering space page l.records ≡ o → placing_in stamp space page want l o ≡ Some place
    → IsOldest st r) [
      | Some c ↦ λ covers h.
          let at = covering-found space page l.records c covers in
          absurd (gone (sym (ap (λ (p : Placing). size_in p.layout) (same_Some (populated stamp page l c) place h))
          ∙ sized_populated l stamp page at.0 c r laid at.2 stood))
      | None ↦ λ _ h.
          elim (largest_extent (preferred_in l space page want) l) as
          (λ o. largest_extent (preferred_in l space page want) l ≡ o → option_map (reserved stamp space page) o ≡ Some place
          → IsOldest st r) [
            | None ↦ λ _ e. absurd (none-some place e)
            | Some found ↦ λ finds e.
                let from = IsFound-largest_extent l (preferred_in l space page want) found laid finds in
                let stays : record_at found.layout r.frame ≡ Some r → IsOldest st r =
                λ stands. absurd (gone (
                sym (ap (λ (p : Placing). size_in p.layout) (same_Some (reserved stamp space page found) place e))
                ∙ ap (option_map (λ (q : Reservation). q.size))
                (stands_reserved stamp space page r.frame found r from.settles.laid from.is stands))) in
                elim (largest_in l (preferred_in l space page want) found finds) [
                  | inl same ↦ stays (ap (λ m. record_at m r.frame) same ∙ stood)
                  | inr broken ↦
                      let size = broken.0 in
                      let id = broken.1 in
                      elim (cases_eq r.frame id) [
                        | inl here ↦ IsOldest-to_break st size id r laid broken.2 (ap (record_at l) (sym here) ∙ stood)
                        | inr other ↦
                            let may = MayBreak-found l size id laid broken.2 in
                            stays (ap (λ m. record_at m r.frame) (broken.3 ∙ may.broken)
                            ∙ stands_broken l id r.frame may.yields may.reservation r laid may.is may.yield_is stood other)
                      ]
                ]
          ] refl h
    ] refl is

-- so does a taking
IsOldest-taken : (st : FrameState) (space page : ℕ) (want : Want) (P : Taking → Type 0) (r : Reservation) → IsLaid (layout_of st)
    → IsSomeAnd (take_frame st space page want) P → IsPreempted st (counted (state_taken st (take_frame st space page want))) r
    → IsOldest st r
IsOldest-taken st space page want P r laid takes preempted =
    elim (take_frame st space page want) as (λ o. take_frame st space page want ≡ o → IsSomeAnd o P
    → IsPreempted st (counted (state_taken st o)) r → IsOldest st r) [
      | None ↦ λ _ no _. absurd no
      | Some t ↦ λ is _ preempts.
          let at = taking_from st want (placing st.entries space page want (layout_of st)) t is in
          let gone = subst (λ (u : Taking). size_at (counted u.state) r.frame ≢ Some r.size) (sym at.2) preempts.gone in
          IsOldest-placing st st.entries space page want at.0 r laid at.1 preempts.stood gone
    ] refl takes preempted

-- the reservations are the same where a held frame is dropped
IsPreempted-dropped : (st after : FrameState) (c : ℕ) (r : Reservation) → IsPreempted st after r → IsPreempted (dropped st c) after r
IsPreempted-dropped st after c r preempted =
    elim (held_by st c) as (λ o. IsPreempted (dropped_in st c o) after r) [
      | None ↦ preempted
      | Some frame ↦ record { stood = preempted.stood; gone = preempted.gone }
    ]

IsOldest-dropped : (st : FrameState) (c : ℕ) (r : Reservation) → IsOldest (dropped st c) r → IsOldest st r
IsOldest-dropped st c r =
    elim (held_by st c) as (λ o. IsOldest (dropped_in st c o) r → IsOldest st r) [
      | None ↦ λ oldest. oldest
      | Some frame ↦ λ oldest. record { list = oldest.list; listed = oldest.listed; oldest = oldest.oldest }
    ]

-- each entry by which a page gets a frame preempts the oldest of a list alone
IsOldest-entry : (g : Given) (h : List Entry) (c : ℕ) (space : Option ℕ) (frames : Bool) (what : What) (r : Reservation) → IsLegal g h
    → MayFollow g h (record { processor = c; space = space; frames = frames; what = what }) → is_taking what ≡ true
    → IsPreempted (frames_at g h) (frames_at g (h ++ record { processor = c; space = space; frames = frames; what = what } ∷ [])) r
    → IsOldest (frames_at g h) r
IsOldest-entry g h c space frames (Take page frame want) r legal may taking preempted =
    let e : Entry = record { processor = c; space = space; frames = frames; what = Take page frame want } in
    let st = frames_at g h in
    let allowed = may.by_frames may.parts.1 in
    IsOldest-taken st (named_space space) page want (λ t. t.frame ≡ frame) r (IsKept-legal g h legal).sound.laid allowed.2
    (subst (λ after. IsPreempted st after r) (frames_at-named g h e may.parts.1) preempted)
IsOldest-entry g h c space frames (UseHeld page frame want) r legal may taking preempted =
    let e : Entry = record { processor = c; space = space; frames = frames; what = UseHeld page frame want } in
    let st = frames_at g h in
    let allowed = may.by_frames may.parts.1 in
    let sound = IsSound-dropped g.frames (length g.marks) st c (IsKept-legal g h legal).sound in
    let preempts = subst (λ after. IsPreempted st after r) (frames_at-named g h e may.parts.1) preempted in
    IsOldest-dropped st c r
    (IsOldest-taken (dropped st c) (named_space space) page want (λ t. t.frame ≡ frame) r sound.laid allowed.2
    (IsPreempted-dropped st _ c r preempts))
IsOldest-entry g h c space frames what r legal may taking preempted = absurd (false≢true taking)

-- The law: each reservation that a legal history preempts is the oldest of its list.
pub PreemptsOldest-legal : (g : Given) (history : List Entry) → IsLegal g history → PreemptsOldest g history
PreemptsOldest-legal g history legal before after e r split taking preempted =
    let at = IsLegal-at g before after e (subst (IsLegal g) split legal) in
    IsOldest-entry g before e.processor e.space e.frames e.what r at.0 at.1 taking preempted
