-- At the capacity of an image the misses are those that the answers tell.
use Rattle.std.proofs.Common.{◌≡◌, ◌≢◌, ℕ, zero, suc, ◌+◌, ◌<◌, ◌≤◌, Bool, true, false, ◌&&◌, ◌==◌, not, cond, List, [], ◌∷◌, ◌++◌, length, Option, Some, None, is_some, option_map, if◌then◌else◌, inl, inr, refl, sym, ap, ◌∙◌, subst, arith}
use Rattle.std.specs.List.{sum_by, range_with_len, fold}
use Rattle.std.specs.Option.{IfSome}
use Rattle.std.proofs.lemmas.Bool.{false≢true, cases_Bool, cases_eq, eq-eqb, ne_eqb, eqb-true}
use Rattle.std.proofs.lemmas.List.Sums.{sum_by_push, sum_by-le}
use Rattle.std.proofs.lemmas.List.{get_or_append_left, length-append}
use Rattle.std.proofs.Math.Seq.{get_or-append_seam}
use Rattle.std.proofs.lemmas.Option.{none-some}
use Rattle.pager_model.specs.declared.entry.Entry.{Entry}
use Rattle.pager_model.specs.declared.entry.What.{What}
use Rattle.pager_model.specs.declared.entry.What.TheVariants.{Answer, Out, Failed, Take, Give, Clear, Claim, UseHeld, DropHeld, Got, Unclaim, Refused, Pin, Kept, Rest}
use Rattle.pager_model.specs.declared.reply.Answered.{Answered}
use Rattle.pager_model.specs.declared.tile.Mapping.{Mapping}
use Rattle.pager_model.specs.declared.tile.Tile.{Tile}
use Rattle.pager_model.specs.Counts.{is_miss_in, misses_in}
use Rattle.pager_model.specs.Entries.{names_space, space_part, IsOn}
use Rattle.pager_model.specs.Images.{image_capacity, is_in_image, touched_by, still_tiles}
use Rattle.pager_model.specs.Legal.{MayFollow, IsLegal, space_at}
use Rattle.pager_model.specs.Options.{is_that}
use Rattle.pager_model.specs.Settings.{Given, is_told, faults_at_entry}
use Rattle.pager_model.specs.SpaceStates.{SpaceState, empty_state, SpaceAllows, AnswerAllowed, WhatAllowed, pages_of, pages_after, served_page, space_after, tile_at, used_tile}
use Rattle.pager_model.proofs.Histories.{IsLegal-keeps, space_at-named, space_at-other}
use Rattle.pager_model.proofs.Options.{in_some}
use Rattle.pager_model.proofs.Ranges.{range_with_len-more}
use Rattle.lru_stack.specs.Followers.{Follower, follow, image_after, missed, page_used, used_in}
use Rattle.miss_curves.specs.Curves.{followed, misses, AnswersAlone, is_answer}
use Rattle.miss_curves.proofs.AllStacks.{followed-named, followed-other}

abbrev weight : Bool → ℕ
weight b = cond b 1 0

used-touched : (tile : Option Tile) (image : List Tile) → used_in image_capacity tile image ≡ touched_by tile image
used-touched None image = refl
used-touched (Some t) image = refl

-- What an answer does, by the tile that its page has then, whose size it tells.
record Same (st : SpaceState) (pages : ℕ → Option Mapping) (image : List Tile) (answered : Answered) (served page : Option ℕ) : Type 0 where
  same : used_in image_capacity (tile_at st.sizes pages page) image ≡ touched_by (tile_at st.sizes pages served) image
  counts : missed page (is_in_image (st.images 0) (tile_at st.sizes (pages_of st) page))
      ≡ weight (is_some answered.size && not answered.hit)

counted : (page : ℕ) (found told : Bool) → told ≡ found → missed (Some page) found ≡ weight (not told)
counted page true told is = rw is refl
counted page false told is = rw is refl

same_by : (st : SpaceState) (pages : ℕ → Option Mapping) (image : List Tile) (answered : Answered) (served : Option ℕ) (tile : Option Tile)
    → tile_at st.sizes pages served ≡ tile → answered.size ≡ option_map (λ (t : Tile). t.extent.size) tile
    → answered.hit ≡ is_in_image (st.images 0) (tile_at st.sizes (pages_of st) served)
    → Same st pages image answered served (if is_some answered.size then served else None)
same_by st pages image answered served None is size hit = rw size (record {
  same = sym (ap (λ o. touched_by o image) is);
  counts = refl;
})
same_by st pages image answered None (Some t) is size hit = absurd (none-some t is)
same_by st pages image answered (Some page) (Some t) is size hit = rw size (record {
  same = used-touched (tile_at st.sizes pages (Some page)) image;
  counts = counted page (is_in_image (st.images 0) (tile_at st.sizes (pages_of st) (Some page))) answered.hit hit;
})

untouched : (here : Bool) (image : List Tile) → image ≡ touched_by (if here then None else None) image
untouched true image = refl
untouched false image = refl

-- What an entry does to the image of processor 0, and whether it is a miss.
record Step (st : SpaceState) (e : Entry) (what : What) : Type 0 where
  image : image_after st.sizes image_capacity (pages_after st e.frames what) (page_used e.processor what) (st.images 0)
      ≡ touched_by (if 0 == e.processor then used_tile st.sizes (pages_after st e.frames what) what else None)
      (still_tiles st.sizes (pages_after st e.frames what) (st.images 0))
  counts : missed (page_used e.processor what) (is_in_image (st.images 0) (tile_at st.sizes (pages_of st) (page_used e.processor what)))
      ≡ weight (is_miss_in what)

-- entries that are no answers use no tile
silent : (st : SpaceState) (e : Entry) (what : What) → page_used e.processor what ≡ None
    → used_tile st.sizes (pages_after st e.frames what) what ≡ None → is_miss_in what ≡ false
    → Step st e what
silent st e what page tile miss = record {
  image = rw (page, tile) (untouched (0 == e.processor) (still_tiles st.sizes (pages_after st e.frames what) (st.images 0)));
  counts = rw (page, miss) refl;
}

step_what : (st : SpaceState) (e : Entry) (what : What) → (is_answer what ≡ true → e.processor ≡ 0)
    → WhatAllowed st e.frames e.processor what → Step st e what
step_what st e (Answer number call answered) own allowed =
    let pages : ℕ → Option Mapping = pages_after st e.frames (Answer number call answered) in
    let a : AnswerAllowed st e.frames 0 number call answered = subst (λ c. AnswerAllowed st e.frames c number call answered)
    (own refl) allowed in
    let same : Same st pages (still_tiles st.sizes pages (st.images 0)) answered (served_page call answered.reply)
    (if is_some answered.size then served_page call answered.reply else None) =
    same_by st pages (still_tiles st.sizes pages (st.images 0)) answered (served_page call answered.reply)
    (tile_at st.sizes pages (served_page call answered.reply)) refl a.size a.hit in
    record { image = rw (own refl) same.same; counts = rw (own refl) same.counts }
step_what st e (Out page written) own allowed = silent st e (Out page written) refl refl refl
step_what st e (Failed page writing count) own allowed = silent st e (Failed page writing count) refl refl refl
step_what st e (Take page frame want) own allowed = silent st e (Take page frame want) refl refl refl
step_what st e (Give page frame) own allowed = silent st e (Give page frame) refl refl refl
step_what st e (Clear first len) own allowed = silent st e (Clear first len) refl refl refl
step_what st e (Claim victim page frame need) own allowed = silent st e (Claim victim page frame need) refl refl refl
step_what st e (UseHeld page frame want) own allowed = silent st e (UseHeld page frame want) refl refl refl
step_what st e (DropHeld frame) own allowed = silent st e (DropHeld frame) refl refl refl
step_what st e (Got frame) own allowed = silent st e (Got frame) refl refl refl
step_what st e (Unclaim frame) own allowed = silent st e (Unclaim frame) refl refl refl
step_what st e (Refused wired claimed held) own allowed = silent st e (Refused wired claimed held) refl refl refl
step_what st e (Pin first len wired) own allowed = silent st e (Pin first len wired) refl refl refl
step_what st e (Kept first len page frame) own allowed = silent st e (Kept first len page frame) refl refl refl
step_what st e (Rest short) own allowed = silent st e (Rest short) refl refl refl

-- a follower with the room of an image has processor 0's image, and this many misses
pub record IsUsual (f : Follower) (st : SpaceState) (count : ℕ) : Type 0 where
  pub space : f.space ≡ st
  pub image : f.image ≡ st.images 0
  pub misses_are : f.misses ≡ count

step : (f : Follower) (st : SpaceState) (count : ℕ) (e : Entry) → IsUsual f st count → (is_answer e.what ≡ true → e.processor ≡ 0)
    → SpaceAllows st e
    → IsUsual (follow st.sizes image_capacity f e) (space_after st e) (count + weight (is_miss_in e.what))
step f st count e usual own allowed =
    let both : Step st e e.what = step_what st e e.what own allowed.1 in
    let used : Option ℕ = page_used e.processor e.what in
    record {
      space = ap (λ s. space_after s e) usual.space;
      image =
          ap (λ s. image_after st.sizes image_capacity (pages_after s e.frames e.what) used f.image) usual.space
          ∙ ap (λ ts. image_after st.sizes image_capacity (pages_after st e.frames e.what) used ts) usual.image
          ∙ both.image;
      misses_are =
          let missed_is : missed used (is_in_image f.image (tile_at st.sizes (pages_of f.space) used)) ≡ weight (is_miss_in e.what) =
          ap (λ s. missed used (is_in_image f.image (tile_at st.sizes (pages_of s) used))) usual.space
          ∙ ap (λ ts. missed used (is_in_image ts (tile_at st.sizes (pages_of st) used))) usual.image
          ∙ both.counts in
          omega (arith, usual.misses_are, missed_is);
    }

-- Sums over the spaces.

sum-below : (h k : ℕ → ℕ) (t n : ℕ) → n ≤ t → ((s : ℕ) → s ≢ t → k s ≡ h s) → sum_by k (range_with_len 0 n) ≡ sum_by h (range_with_len 0 n)
sum-below h k t zero below same = refl
sum-below h k t (suc n) below same =
    let more : suc n ≡ n + 1 = omega arith in
    let left : sum_by k (range_with_len 0 (suc n)) ≡ sum_by k (range_with_len 0 n) + k n =
    ap (λ m. sum_by k (range_with_len 0 m)) more ∙ ap (sum_by k) (range_with_len-more n) ∙ sum_by_push k (range_with_len 0 n) n in
    let right : sum_by h (range_with_len 0 (suc n)) ≡ sum_by h (range_with_len 0 n) + h n =
    ap (λ m. sum_by h (range_with_len 0 m)) more ∙ ap (sum_by h) (range_with_len-more n) ∙ sum_by_push h (range_with_len 0 n) n in
    omega (arith, left, right, sum-below h k t n (omega arith) same, same n (λ is. omega (arith, is)))

-- where one more is counted at one place
sum-one : (h k : ℕ → ℕ) (t w n : ℕ) → t < n → k t ≡ h t + w → ((s : ℕ) → s ≢ t → k s ≡ h s)
    → sum_by k (range_with_len 0 n) ≡ sum_by h (range_with_len 0 n) + w
sum-one h k t w zero below one same = absurd (omega arith)
sum-one h k t w (suc n) below one same =
    let more : suc n ≡ n + 1 = omega arith in
    let left : sum_by k (range_with_len 0 (suc n)) ≡ sum_by k (range_with_len 0 n) + k n =
    ap (λ m. sum_by k (range_with_len 0 m)) more ∙ ap (sum_by k) (range_with_len-more n) ∙ sum_by_push k (range_with_len 0 n) n in
    let right : sum_by h (range_with_len 0 (suc n)) ≡ sum_by h (range_with_len 0 n) + h n =
    ap (λ m. sum_by h (range_with_len 0 m)) more ∙ ap (sum_by h) (range_with_len-more n) ∙ sum_by_push h (range_with_len 0 n) n in
    elim (cases_eq t n) [
      | inl here ↦ omega (arith, left, right, sum-below h k t n (omega arith) same, ap k here, ap h here, one)
      | inr other ↦ omega (arith, left, right, sum-one h k t w n (omega arith) one same, same n (λ is. other (sym is)))
    ]

-- Whole histories.

sizes-kept : (st : SpaceState) (entries : List Entry) → (fold space_after st entries).sizes ≡ st.sizes
sizes-kept st [] = refl
sizes-kept st (e ∷ es) = sizes-kept (space_after st e) es

pub sizes-of : (g : Given) (history : List Entry) (s : ℕ) → (space_at g history s).sizes ≡ g.sizes
sizes-of g history s = sizes-kept (empty_state g.sizes (is_told g s) (faults_at_entry g s)) (space_part s history)

abbrev pub usual_at : Given → List Entry → ℕ → Follower
usual_at g history s = followed g.sizes g s (space_part s history) image_capacity

pub record AreUsual (g : Given) (history : List Entry) : Type 0 where
  pub each : (s : ℕ) → (count : ℕ) × IsUsual (usual_at g history s) (space_at g history s) count
  pub all : misses g history image_capacity ≡ misses_in history

alone-before : (history : List Entry) (e : Entry) → AnswersAlone (history ++ e ∷ []) → AnswersAlone history
alone-before history e alone = λ k d below.
    subst (λ (x : Entry). is_answer x.what ≡ true → x.processor ≡ 0) (get_or_append_left history (e ∷ []) d k below)
    (alone k d (omega (arith, length-append history (e ∷ []))))

alone-last : (history : List Entry) (e : Entry) → AnswersAlone (history ++ e ∷ []) → is_answer e.what ≡ true → e.processor ≡ 0
alone-last history e alone =
    subst (λ (x : Entry). is_answer x.what ≡ true → x.processor ≡ 0) (get_or-append_seam history e [] e)
    (alone (length history) e (omega (arith, length-append history (e ∷ []))))

-- a miss is of a space
miss-named : (space : Option ℕ) (frames : Bool) (what : What) → IsOn space frames what → space ≡ None → is_miss_in what ≡ false
miss-named space frames (Answer number call answered) on none = absurd (none-some _ (sym none ∙ on))
miss-named space frames (Out page written) on none = refl
miss-named space frames (Failed page writing count) on none = refl
miss-named space frames (Take page frame want) on none = refl
miss-named space frames (Give page frame) on none = refl
miss-named space frames (Clear first len) on none = refl
miss-named space frames (Claim victim page frame need) on none = refl
miss-named space frames (UseHeld page frame want) on none = refl
miss-named space frames (DropHeld frame) on none = refl
miss-named space frames (Got frame) on none = refl
miss-named space frames (Unclaim frame) on none = refl
miss-named space frames (Refused wired claimed held) on none = refl
miss-named space frames (Pin first len wired) on none = refl
miss-named space frames (Kept first len page frame) on none = refl
miss-named space frames (Rest short) on none = refl

module _ (g : Given) (history : List Entry) (e : Entry) (may : MayFollow g history e) (own : is_answer e.what ≡ true → e.processor ≡ 0)
    (usual : AreUsual g history) where
  abbrev w : ℕ
  w = weight (is_miss_in e.what)

  other_space : (s : ℕ) → names_space s e ≡ false → IsUsual (usual_at g (history ++ e ∷ []) s) (space_at g (history ++ e ∷ []) s)
      (usual.each s).0
  other_space s other =
      rw (space_at-other g history e s other)
      (subst (λ f. IsUsual f (space_at g history s) (usual.each s).0)
      (ap (λ (fs : ℕ → Follower). fs image_capacity) (sym (followed-other g.sizes g history e s other))) (usual.each s).1)

  own_space : (s : ℕ) → names_space s e ≡ true → SpaceAllows (space_at g history s) e
      → IsUsual (usual_at g (history ++ e ∷ []) s) (space_at g (history ++ e ∷ []) s) ((usual.each s).0 + w)
  own_space s named allowed =
      rw (space_at-named g history e s named)
      (subst (λ f. IsUsual f (space_after (space_at g history s) e) ((usual.each s).0 + w))
      (ap (λ z. follow z image_capacity (usual_at g history s) e) (sizes-of g history s)
      ∙ ap (λ (fs : ℕ → Follower). fs image_capacity) (sym (followed-named g.sizes g history e s named)))
      (step (usual_at g history s) (space_at g history s) (usual.each s).0 e (usual.each s).1 own allowed))

  each_after : (s : ℕ) → (count : ℕ) × IsUsual (usual_at g (history ++ e ∷ []) s) (space_at g (history ++ e ∷ []) s) count
  each_after s = elim (cases_Bool (names_space s e)) [
    | inl named ↦ ((usual.each s).0 + w, own_space s named (allowed_of e.space s named may.by_space))
    | inr other ↦ ((usual.each s).0, other_space s other)
  ]
    where
      allowed_of : (o : Option ℕ) (s : ℕ) → is_that s o ≡ true → IfSome o (λ t. SpaceAllows (space_at g history t) e)
          → SpaceAllows (space_at g history s) e
      allowed_of None s named holds = absurd (false≢true named)
      allowed_of (Some t) s named holds = subst (λ n. SpaceAllows (space_at g history n) e) (eqb-true t s named) holds

  same_misses : (s : ℕ) → names_space s e ≡ false → (usual_at g (history ++ e ∷ []) s).misses ≡ (usual_at g history s).misses
  same_misses s other = ap (λ (fs : ℕ → Follower). (fs image_capacity).misses) (followed-other g.sizes g history e s other)

  more_misses : (s : ℕ) → names_space s e ≡ true → SpaceAllows (space_at g history s) e
      → (usual_at g (history ++ e ∷ []) s).misses ≡ (usual_at g history s).misses + w
  more_misses s named allowed = omega (arith, (own_space s named allowed).misses_are, (usual.each s).1.misses_are)

  all_after : (o : Option ℕ) → e.space ≡ o → misses g (history ++ e ∷ []) image_capacity ≡ misses g history image_capacity + w
  all_after None none =
      let silent : is_miss_in e.what ≡ false = miss-named e.space e.frames e.what may.parts none in
      let same : misses g (history ++ e ∷ []) image_capacity ≡ misses g history image_capacity =
      sum-below (λ s. (usual_at g history s).misses) (λ s. (usual_at g (history ++ e ∷ []) s).misses) (length g.told) (length g.told)
      (omega arith)
      (λ s other. same_misses s (rw none refl)) in
      same ∙ sym (ap (λ n. misses g history image_capacity + n) (ap weight silent) ∙ omega arith)
  all_after (Some t) names =
      sum-one (λ s. (usual_at g history s).misses) (λ s. (usual_at g (history ++ e ∷ []) s).misses) t w (length g.told)
      (in_some (λ s. s < length g.told) e.space t names may.space)
      (more_misses t (rw names (eq-eqb t t refl)) (in_some (λ s. SpaceAllows (space_at g history s) e) e.space t names may.by_space))
      (λ s other. same_misses s (rw names (ne_eqb t s (λ is. other (sym is)))))

  pub usual_after : AreUsual g (history ++ e ∷ [])
  usual_after = record {
    each = each_after;
    all = all_after e.space refl ∙ ap (λ n. n + w) usual.all ∙ sym (sum_by_push (λ (x : Entry). weight (is_miss_in x.what)) history e);
  }

usual-legal : (g : Given) (history : List Entry) → IsLegal g history → AnswersAlone history → AreUsual g history
usual-legal g history legal =
    IsLegal-keeps g (λ h. AnswersAlone h → AreUsual g h)
    (λ before e usual may alone. usual_after g before e may (alone-last before e alone) (usual (alone-before before e alone)))
    (λ alone. record {
      each = λ s. (0, record { space = refl; image = refl; misses_are = refl });
      all = sum-below (λ s. 0) (λ s. (usual_at g [] s).misses) (length g.told) (length g.told) (omega arith) (λ s other. refl)
          ∙ sum-zero (length g.told);
    })
    history legal
  where
    sum-zero : (n : ℕ) → sum_by (λ (s : ℕ). 0) (range_with_len 0 n) ≡ 0
    sum-zero n = omega (arith, sum_by-le (λ (s : ℕ). 0) 0 (range_with_len 0 n) (λ k d below. omega arith))

-- of a legal history in which one processor answers the misses with images of their room are the answers with a size that are no hits
pub misses-usual : (g : Given) (history : List Entry) → IsLegal g history → AnswersAlone history → misses g history 128 ≡ misses_in history
misses-usual g history legal alone = (usual-legal g history legal alone).all
