-- Which reservation has a frame, as reservations come and go.
use Rattle.std.proofs.Common.{◌≡◌, ◌≢◌, ◌<◌, ◌≤◌, ℕ, ◌+◌, ◌^◌, ◌⊎◌, ◌↔◌, Bool, true, false, Option, Some, None, List, ◌++◌, length, get_or, set, take, drop, replicate, refl, ap, sym, subst, ◌∙◌, arith, inl, inr}
use Rattle.std.proofs.lemmas.List.{get_or-set_same, get_or-set_other, length-set, set-set, take_at, length-replicate}
use Rattle.std.proofs.lemmas.Bool.{cases_eq, cases_lt, false≢true, false_from_ne_true}
use Rattle.std.proofs.lemmas.Option.{none-some, same_Some}
use Rattle.pager_model.specs.Agreement.{has_frame}
use Rattle.pager_model.specs.Records.{is_used, none_used}
use Rattle.pager_model.specs.declared.reservation.Reservation.{Reservation}
use Rattle.pager_model.proofs.ExtentLemmas.{eight_pos}
use Rattle.pager_model.proofs.Lists.{get_or-alike, get_or_within, get_or-set_default}
use Rattle.pager_model.specs.RecordPlaces.{IsPlaced, ArePlaced}
use Rattle.reservations.specs.Kept.{AreNoted, AreKept, IsFilled, first_frame}
use Rattle.reservations.proofs.CountLemmas.{is_used-replicate}
use Rattle.pager_model.proofs.RecordFrames.{no_frame, has_frame_from, has_frame_bounds, unused_in}

pub ArePlaced-set : (records : List (Option Reservation)) (id : ℕ) (o : Option Reservation) → ArePlaced records → id < length records
    → ((r : Reservation) → o ≡ Some r → IsPlaced (length records) id r) → ArePlaced (set records id o)
ArePlaced-set records id o are within new = λ j r is. rw length-set (elim (cases_eq j id) [
  | inl here ↦
      let at = subst (λ k. get_or (set records id o) k None ≡ Some r) here is in
      subst (λ k. IsPlaced (length records) k r) (sym here) (new r (sym (get_or-set_same records id o None within) ∙ at))
  | inr other ↦ are j r (sym (get_or-set_other records id j o None other) ∙ is)
])

-- no reservation begins at a frame that none has
pub none_begins : (records : List (Option Reservation)) (frame : ℕ) → ArePlaced records
    → has_frame frame (get_or records frame None) ≡ false → get_or records frame None ≡ None
none_begins records frame are free = at (get_or records frame None) refl
  where
    at : (o : Option Reservation) → get_or records frame None ≡ o → get_or records frame None ≡ None
    at None is = is
    at (Some r) is =
        let named = (are frame r is).named in
        let has = has_frame_from frame r (omega (arith, named)) (omega (arith, named, eight_pos r.size)) in
        absurd (false≢true (sym free ∙ ap (has_frame frame) is ∙ has))

-- a reservation that is no longer noted leaves a gap
module _ (records : List (Option Reservation)) (ids : List (Option ℕ)) (used : List Bool) (id : ℕ) (r : Reservation)
    (are : AreKept records ids used) (is : get_or records id None ≡ Some r) where
  named : r.frame ≡ id
  named = (are.placed id r is).named

  pub gone : (j : ℕ) → j ≡ id → get_or (set records id None) j None ≡ None
  gone j here = get_or-set_default records id j None here

  pub kept : (j : ℕ) → j ≢ id → get_or (set records id None) j None ≡ get_or records j None
  kept j other = get_or-set_other records id j None None other

  -- the frames of the reservation, of which its own id is noted
  pub not_outside : (f j : ℕ) → j ≡ id → (f < id) ⊎ (id + 8 ^ r.size ≤ f) → has_frame f (get_or records j None) ≡ true → ⊥
  not_outside f j here out has =
      let at : has_frame f (Some r) ≡ true = sym (ap (has_frame f) (ap (λ k. get_or records k None) here ∙ is)) ∙ has in
      let bounds = has_frame_bounds f r at in
      elim out [ inl below ↦ omega (arith, bounds.0, named) | inr past ↦ omega (arith, bounds.1, named) ]

  pub one_id : (f j : ℕ) → id ≤ f → f < id + 8 ^ r.size → has_frame f (get_or records j None) ≡ true → j ≡ id
  one_id f j low high has =
      let by_j = (are.noted.exact f j (inr (omega arith))).1 has in
      let mine = has_frame_from f r (omega (arith, named)) (omega (arith, named)) in
      let by_id = (are.noted.exact f id (inr (omega arith))).1 (ap (has_frame f) is ∙ mine) in
      same_Some j id (sym by_j ∙ by_id)

  pub AreNoted-open : AreNoted (set records id None) ids used id (id + 8 ^ r.size)
  AreNoted-open = record {
    exact = λ f j out.
        let was = are.noted.exact f j (inr (omega arith)) in
        elim (cases_eq j id) [
          | inl here ↦ (λ e. absurd (not_outside f j here out (was.0 e)), λ has. absurd (no_frame f _ (gone j here) has))
          | inr other ↦ (λ e. ap (has_frame f) (kept j other) ∙ was.0 e, λ has. was.1 (sym (ap (has_frame f) (kept j other)) ∙ has))
        ];
    idle = λ f out. are.noted.idle f (inr (omega arith));
    gap = λ f j low high has. elim (cases_eq j id) [
      | inl here ↦ no_frame f _ (gone j here) has
      | inr other ↦ other (one_id f j low high (sym (ap (has_frame f) (kept j other)) ∙ has))
    ];
  }

-- what stands in the part of a gap: no used place, or a reservation of just these frames
abbrev pub Belongs : List Bool → ℕ → ℕ → Option Reservation → Type 0
Belongs used low w None = (f : ℕ) → low ≤ f → f < low + w → is_used used f ≡ false
Belongs used low w (Some r) = (r.frame ≡ low) × (8 ^ r.size ≡ w)

pub own_bounds : (used : List Bool) (low w : ℕ) (o : Option Reservation) → Belongs used low w o → (f : ℕ) → has_frame f o ≡ true
    → (low ≤ f) × (f < low + w)
own_bounds used low w None belongs f has = absurd (false≢true has)
own_bounds used low w (Some r) belongs f has =
    let bounds = has_frame_bounds f r has in
    (omega (arith, bounds.0, belongs.0), omega (arith, bounds.1, belongs.0, belongs.1))

pub own_noted : (used : List Bool) (low w : ℕ) (o : Option Reservation) → Belongs used low w o → (f j : ℕ) → low ≤ f → f < low + w
    → (first_frame o ≡ Some j) ↔ ((j ≡ low) × (has_frame f o ≡ true))
own_noted used low w None belongs f j at_least below = (λ e. absurd (none-some j e), λ h. absurd (false≢true h.1))
own_noted used low w (Some r) belongs f j at_least below = (
  λ e. (sym (same_Some r.frame j e) ∙ belongs.0, has_frame_from f r (omega (arith, belongs.0)) (omega (arith, belongs.0, belongs.1))),
  λ h. ap Some (belongs.0 ∙ sym h.0),
)

pub own_idle : (used : List Bool) (low w : ℕ) (o : Option Reservation) → Belongs used low w o → (f : ℕ) → low ≤ f → f < low + w
    → first_frame o ≡ None → is_used used f ≡ false
own_idle used low w None belongs f at_least below e = belongs f at_least below
own_idle used low w (Some r) belongs f at_least below e = absurd (none-some r.frame (sym e))

-- Of each frame which reservation begins at it, which one it is noted to be in, and whether it is used.
pub record Notes : Type 0 where
  pub records : List (Option Reservation)
  pub ids : List (Option ℕ)
  pub used : List Bool

-- What comes into a gap: the frames of a reservation from this one on, or as many frames of none.
pub record Filling : Type 0 where
  pub low : ℕ
  pub width : ℕ
  pub what : Option Reservation

-- It comes into the part of a gap that is left below `high`, and after it these frames are noted.
pub record Fills (n : Notes) (p : Filling) (high : ℕ) (after : List (Option ℕ)) : Type 0 where
  pub noted : AreNoted n.records n.ids n.used p.low high
  pub vacant : get_or n.records p.low None ≡ None
  pub within : p.low < length n.records
  pub inside : p.low + p.width ≤ high
  pub belongs : Belongs n.used p.low p.width p.what
  pub filled : IsFilled n.ids after p.low p.width (first_frame p.what)

module _ (n : Notes) (p : Filling) (high : ℕ) (after : List (Option ℕ)) (fills : Fills n p high after) where
  abbrev filled_records : List (Option Reservation)
  filled_records = set n.records p.low p.what

  pub placed_at : (f j : ℕ) → j ≡ p.low → has_frame f (get_or filled_records j None) ≡ has_frame f p.what
  placed_at f j here = ap (has_frame f)
      (ap (λ k. get_or filled_records k None) here ∙ get_or-set_same n.records p.low p.what None fills.within)

  pub same_at : (f j : ℕ) → j ≢ p.low → has_frame f (get_or filled_records j None) ≡ has_frame f (get_or n.records j None)
  same_at f j other = ap (has_frame f) (get_or-set_other n.records p.low j p.what None other)

  pub beside : (f : ℕ) → (f < p.low) ⊎ (high ≤ f) → (f < p.low) ⊎ (p.low + p.width ≤ f)
  beside f out = elim out [ inl below ↦ inl below | inr past ↦ inr (omega (arith, fills.inside)) ]

  pub not_own : (f : ℕ) → (f < p.low) ⊎ (high ≤ f) → has_frame f p.what ≡ true → ⊥
  not_own f out has =
      let bounds = own_bounds n.used p.low p.width p.what fills.belongs f has in
      elim out [ inl below ↦ omega (arith, bounds.0) | inr past ↦ omega (arith, bounds.1, fills.inside) ]

  pub noted_beside : (f j : ℕ) → (f < p.low) ⊎ (high ≤ f) → (get_or after f None ≡ Some j) ↔
      (has_frame f (get_or filled_records j None) ≡ true)
  noted_beside f j out =
      let same = fills.filled.outside f (beside f out) in
      let was = fills.noted.exact f j out in
      elim (cases_eq j p.low) [
        | inl here ↦ (
          λ e. absurd (no_frame f _ (ap (λ k. get_or n.records k None) here ∙ fills.vacant) (was.0 (sym same ∙ e))),
          λ has. absurd (not_own f out (sym (placed_at f j here) ∙ has)),
        )
        | inr other ↦ (λ e. same_at f j other ∙ was.0 (sym same ∙ e), λ has. same ∙ was.1 (sym (same_at f j other) ∙ has))
      ]

  pub noted_inside : (f j : ℕ) → p.low ≤ f → f < p.low + p.width → (get_or after f None ≡ Some j) ↔
      (has_frame f (get_or filled_records j None) ≡ true)
  noted_inside f j at_least below =
      let value = fills.filled.inside f at_least below in
      let own = own_noted n.used p.low p.width p.what fills.belongs f j at_least below in (
        λ e. let is = own.0 (sym value ∙ e) in placed_at f j is.0 ∙ is.1,
        λ has. elim (cases_eq j p.low) [
          | inl here ↦ value ∙ own.1 (here, sym (placed_at f j here) ∙ has)
          | inr other ↦ absurd (fills.noted.gap f j at_least (omega (arith, fills.inside)) (sym (same_at f j other) ∙ has))
        ],
      )

  -- a frame beside the new gap is in the part or beside the old gap
  pub where_is : (f : ℕ) → (f < p.low + p.width) ⊎ (high ≤ f) → ((p.low ≤ f) × (f < p.low + p.width)) ⊎ ((f < p.low) ⊎ (high ≤ f))
  where_is f out = elim out [
    | inl below ↦ elim (cases_lt f p.low) [ inl before ↦ inr (inl before) | inr at_least ↦ inl (at_least, below) ]
    | inr past ↦ inr (inr past)
  ]

  pub AreNoted-place : AreNoted filled_records after n.used (p.low + p.width) high
  AreNoted-place = record {
    exact = λ f j out. elim (where_is f out) [ inl part ↦ noted_inside f j part.0 part.1 | inr old ↦ noted_beside f j old ];
    idle = λ f out none. elim (where_is f out) [
      | inl part ↦ own_idle n.used p.low p.width p.what fills.belongs f part.0 part.1 (sym (fills.filled.inside f part.0 part.1) ∙ none)
      | inr old ↦ fills.noted.idle f old (sym (fills.filled.outside f (beside f old)) ∙ none)
    ];
    gap = λ f j at_least below has. elim (cases_eq j p.low) [
      | inl here ↦
          let bounds = own_bounds n.used p.low p.width p.what fills.belongs f (sym (placed_at f j here) ∙ has) in
          omega (arith, bounds.1)
      | inr other ↦ fills.noted.gap f j (omega arith) below (sym (same_at f j other) ∙ has)
    ];
  }

pub AreNoted-close : (records : List (Option Reservation)) (ids : List (Option ℕ)) (used : List Bool) (n : ℕ)
    → AreNoted records ids used n n → AreNoted records ids used 0 0
AreNoted-close records ids used n noted = record {
  exact = λ f j _. noted.exact f j (outside f);
  idle = λ f _. noted.idle f (outside f);
  gap = λ f j low high has. absurd (omega arith);
}
  where
    outside : (f : ℕ) → (f < n) ⊎ (n ≤ f)
    outside f = cases_lt f n

pub AreNoted-gap : (records : List (Option Reservation)) (ids : List (Option ℕ)) (used : List Bool) (low high : ℕ)
    → AreNoted records ids used 0 0 → ((f j : ℕ) → low ≤ f → f < high → has_frame f (get_or records j None) ≡ true → ⊥)
    → AreNoted records ids used low high
AreNoted-gap records ids used low high noted free = record {
  exact = λ f j out. noted.exact f j (inr (omega arith));
  idle = λ f out. noted.idle f (inr (omega arith));
  gap = free;
}

-- no reservation begins in a gap
pub vacant_in_gap : (records : List (Option Reservation)) (ids : List (Option ℕ)) (used : List Bool) (low high : ℕ) → ArePlaced records
    → AreNoted records ids used low high → low < high → get_or records low None ≡ None
vacant_in_gap records ids used low high are noted room = none_begins records low are
    (false_from_ne_true _ (noted.gap low low (omega arith) room))

-- nothing is noted at first
pub AreKept-none : (n : ℕ) → AreKept (replicate n None) (replicate n None) (replicate n false)
AreKept-none n = record {
  ids_long = length-replicate n None ∙ sym (length-replicate n None);
  used_long = length-replicate n false ∙ sym (length-replicate n None);
  placed = λ id r is. absurd (none-some r (sym (get_or-alike n id None) ∙ is));
  noted = record {
    exact = λ f j out. (
      λ e. absurd (none-some j (sym (get_or-alike n f None) ∙ e)),
      λ has. absurd (no_frame f _ (get_or-alike n j None) has),
    );
    idle = λ f out none. is_used-replicate n f;
    gap = λ f j low high has. absurd (omega arith);
  };
}

-- a reservation is noted anew with the same frames, and one of its places becomes a used one
module _ (records : List (Option Reservation)) (ids : List (Option ℕ)) (used : List Bool) (id : ℕ) (r : Reservation)
    (are : AreKept records ids used) (is : get_or records id None ≡ Some r) where
  pub place_known : (f : ℕ) → has_frame f (Some r) ≡ true → f < length used
  place_known f has =
      let placed = are.placed id r is in
      let bounds = has_frame_bounds f r has in
      omega (arith, bounds.1, placed.within, are.used_long)

  pub AreNoted-used : (f : ℕ) → has_frame f (Some r) ≡ true → AreNoted records ids (set used f true) 0 0
  AreNoted-used f has = record {
    exact = are.noted.exact;
    idle = λ g out none. elim (cases_eq g f) [
      | inl here ↦
          let mine = (are.noted.exact f id (inr (omega arith))).1 (ap (has_frame f) is ∙ has) in
          absurd (none-some id (sym none ∙ ap (λ k. get_or ids k None) here ∙ mine))
      | inr other ↦ get_or-set_other used f g true false other ∙ are.noted.idle g out none
    ];
    gap = are.noted.gap;
  }

  pub same_frames : (new : Reservation) → new.frame ≡ r.frame → new.size ≡ r.size → (f j : ℕ)
      → has_frame f (get_or (set records id (Some new)) j None) ≡ has_frame f (get_or records j None)
  same_frames new frame size f j = elim (cases_eq j id) [
    | inl here ↦
        ap (has_frame f) (ap (λ k. get_or (set records id (Some new)) k None) here
        ∙ get_or-set_same records id (Some new) None (get_or_within records id r is))
        ∙ rw (frame, size) refl ∙ sym (ap (has_frame f) (ap (λ k. get_or records k None) here ∙ is))
    | inr other ↦ ap (has_frame f) (get_or-set_other records id j (Some new) None other)
  ]

  pub AreKept-populate : (new : Reservation) (f : ℕ) → new.frame ≡ r.frame → new.size ≡ r.size → new.first ≡ r.first
      → has_frame f (Some r) ≡ true → AreKept (set records id (Some new)) ids (set used f true)
  AreKept-populate new f frame size first has =
      let noted = AreNoted-used f has in
      let same = same_frames new frame size in
      let placed = are.placed id r is in
      record {
        ids_long = are.ids_long ∙ sym (length-set records id (Some new));
        used_long = length-set used f true ∙ are.used_long ∙ sym (length-set records id (Some new));
        placed = ArePlaced-set records id (Some new) are.placed (get_or_within records id r is) (λ q e.
            subst (λ p. IsPlaced (length records) id p) (same_Some new q e) (record {
              named = frame ∙ placed.named;
              aligned = rw (frame, size) placed.aligned;
              within = rw (frame, size) placed.within;
              pages_aligned = rw (first, size) placed.pages_aligned;
            }));
        noted = record {
          exact = λ g j out. (λ e. same g j ∙ (noted.exact g j out).0 e, λ has'. (noted.exact g j out).1 (sym (same g j) ∙ has'));
          idle = noted.idle;
          gap = λ g j low high has'. absurd (omega arith);
        };
      }

-- a frame that no reservation has is no used place
pub unused_if_free : (records : List (Option Reservation)) (ids : List (Option ℕ)) (used : List Bool) (f : ℕ) → AreKept records ids used
    → ((j : ℕ) → has_frame f (get_or records j None) ≡ false) → is_used used f ≡ false
unused_if_free records ids used f are free = at (get_or ids f None) refl
  where
    at : (o : Option ℕ) → get_or ids f None ≡ o → is_used used f ≡ false
    at None is = are.noted.idle f (inr (omega arith)) is
    at (Some j) is = absurd (false≢true (sym (free j) ∙ (are.noted.exact f j (inr (omega arith))).0 is))

-- a reservation without a used place is no longer noted
pub AreKept-dissolve : (records : List (Option Reservation)) (ids after : List (Option ℕ)) (used : List Bool) (id : ℕ) (r : Reservation)
    → AreKept records ids used → get_or records id None ≡ Some r → none_used (is_used used) r.frame (8 ^ r.size) ≡ true
    → IsFilled ids after id (8 ^ r.size) None → length after ≡ length ids → AreKept (set records id None) after used
AreKept-dissolve records ids after used id r are is none filled long =
    let placed = are.placed id r is in
    let known = get_or_within records id r is in
    let open_gap = AreNoted-open records ids used id r are is in
    let vacant : get_or (set records id None) id None ≡ None = get_or-set_same records id None None known in
    let belongs : Belongs used id (8 ^ r.size) None =
    λ f low high. unused_in (is_used used) r.frame (8 ^ r.size) none f (omega (arith, placed.named)) (omega (arith, placed.named)) in
    let n : Notes = record { records = set records id None; ids = ids; used = used } in
    let p : Filling = record { low = id; width = 8 ^ r.size; what = None } in
    let closed : AreNoted (set (set records id None) id None) after used (id + 8 ^ r.size) (id + 8 ^ r.size) =
    AreNoted-place n p (id + 8 ^ r.size) after (record {
      noted = open_gap;
      vacant = vacant;
      within = omega (arith, known, length-set records id None);
      inside = omega arith;
      belongs = belongs;
      filled = filled;
    }) in
    record {
      ids_long = long ∙ are.ids_long ∙ sym (length-set records id None);
      used_long = are.used_long ∙ sym (length-set records id None);
      placed = ArePlaced-set records id None are.placed known (λ q e. absurd (none-some q e));
      noted = rw set-set at (AreNoted-close _ _ _ _ closed);
    }

-- a reservation over frames of none is noted, and one of its places becomes a used one
pub AreKept-add : (records : List (Option Reservation)) (ids after : List (Option ℕ)) (used : List Bool) (r : Reservation) (f : ℕ)
    → AreKept records ids used → IsPlaced (length records) r.frame r
    → ((g j : ℕ) → has_frame g (Some r) ≡ true → has_frame g (get_or records j None) ≡ false) → has_frame f (Some r) ≡ true
    → IsFilled ids after r.frame (8 ^ r.size) (Some r.frame) → length after ≡ length ids
    → AreKept (set records r.frame (Some r)) after (set used f true)
AreKept-add records ids after used r f are placed apart has filled long =
    let low = r.frame in
    let high = r.frame + 8 ^ r.size in
    let known : low < length records = omega (arith, placed.within, eight_pos r.size) in
    let free : (g j : ℕ) → low ≤ g → g < high → has_frame g (get_or records j None) ≡ true → ⊥ =
    λ g j at_least below is. false≢true (sym (apart g j (has_frame_from g r at_least below)) ∙ is) in
    let open_gap = AreNoted-gap records ids used low high are.noted free in
    let vacant = vacant_in_gap records ids used low high are.placed open_gap (omega (arith, eight_pos r.size)) in
    let n : Notes = record { records = records; ids = ids; used = used } in
    let p : Filling = record { low = low; width = 8 ^ r.size; what = Some r } in
    let closed : AreNoted (set records low (Some r)) after used high high = AreNoted-place n p high after (record {
      noted = open_gap;
      vacant = vacant;
      within = known;
      inside = omega arith;
      belongs = (refl, refl);
      filled = filled;
    }) in
    let before : AreKept (set records low (Some r)) after used = record {
      ids_long = long ∙ are.ids_long ∙ sym (length-set records low (Some r));
      used_long = are.used_long ∙ sym (length-set records low (Some r));
      placed = ArePlaced-set records low (Some r) are.placed known (λ q e. subst (λ p. IsPlaced (length records) low p)
          (same_Some r q e) placed);
      noted = AreNoted-close _ _ _ _ closed;
    } in
    record {
      ids_long = before.ids_long;
      used_long = length-set used f true ∙ before.used_long;
      placed = before.placed;
      noted = AreNoted-used (set records low (Some r)) after used low r before (get_or-set_same records low (Some r) None known) f has;
    }

-- what is written through a whole slice is the slice
pub whole_slice : {A : Type 0} (n : ℕ) (ws xs : List A) → length ws ≡ n → take n (ws ++ drop (length ws) xs) ≡ ws
whole_slice n ws xs long = take_at ws (drop (length ws) xs) n long
