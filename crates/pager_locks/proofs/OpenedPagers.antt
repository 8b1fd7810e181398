-- The new spaces and authors, as they are put behind their locks.
use Rattle.std.proofs.Common.{◌≡◌, ℕ, suc, ◌+◌, ◌-◌, ◌<◌, ◌≤◌, List, [], ◌∷◌, ◌++◌, length, map, reverse, drop, get_or, slice_get, Some, refl, ap, ap₂, sym, subst, ◌∙◌, inl, inr, arith}
use Rattle.std.specs.List.{range_with_len}
use Rattle.std.proofs.lemmas.Bool.{cases_lt}
use Rattle.std.proofs.lemmas.List.{length_push, length-reverse, get_or-reverse, nil_from_length}
use Rattle.std.proofs.lemmas.List.FromFn.{length-range_with_len, map-range_with_len_more, get_or-map-range_with_len}
use Rattle.std.proofs.lemmas.Option.{none-some, same_Some, slice_get_cases, slice_get-get_or, get_or_from_slice_get}
use Rattle.std.proofs.Math.ListN.{length-map}
use Rattle.journal_core.specs.Journals.{JournalName, AuthorState, new_author}
use Rattle.pager_model.specs.FrameStates.{FrameState, start_frames}
use Rattle.pager_model.specs.Settings.{Given, is_told, faults_at_entry}
use Rattle.space_core.specs.Standing.{Kept}
use Rattle.pager_core.specs.RunParts.{IsNew}
use Rattle.pager_core.specs.RunParts.{AreNewSpaces}
use Rattle.pager_locks.specs.Locked.{IsLockedSpace, IsPoolAt}
use Rattle.pager_locks.specs.Locks.{AreLeft}
use Rattle.pager_locks.specs.Prepared.{AreNewParts}
use Rattle.pager_locks.proofs.ClosedPagers.{slice_get-kept, slice_get-last}

-- two lists of one length that end so
pub same_ends : {X : Type 0} (xs ys : List X) (x y : X) → xs ++ x ∷ [] ≡ ys ++ y ∷ [] → (xs ≡ ys) × (x ≡ y)
same_ends [] [] x y same = (refl, same_Some x y (ap (λ l. slice_get l 0) same))
same_ends [] (z ∷ ys) x y same =
    (let long = length_push ys y in let e : 1 ≡ suc (length (ys ++ y ∷ [])) = ap length same in absurd (omega (arith, long, e)))
same_ends (z ∷ xs) [] x y same =
    (let long = length_push xs x in let e : suc (length (xs ++ x ∷ [])) ≡ 1 = ap length same in absurd (omega (arith, long, e)))
same_ends (z ∷ xs) (w ∷ ys) x y same =
    let rest = same_ends xs ys x y (ap (λ l. drop 1 l) same) in
    (ap₂ (λ a b. a ∷ b) (same_Some z w (ap (λ l. slice_get l 0) same)) rest.0, rest.1)

-- the authors that a journal makes: those of the spaces, and that of the frames
authors_split : (j : JournalName) (authors : List AuthorState) (rest : List AuthorState) (last : AuthorState)
    → authors ≡ map (new_author j) (range_with_len 0 (length j.setting.told + 1)) → authors ≡ rest ++ last ∷ []
    → (rest ≡ map (new_author j) (range_with_len 0 (length j.setting.told))) × (last ≡ new_author j (length j.setting.told))
authors_split j authors rest last are split =
    same_ends rest (map (new_author j) (range_with_len 0 (length j.setting.told))) last (new_author j (length j.setting.told))
    (sym split ∙ are ∙ map-range_with_len_more (new_author j) 0 (length j.setting.told) (length j.setting.told) (omega arith))

pub as_many : (j : JournalName) (spaces : List Kept) (authors : List AuthorState) (pool : FrameState) → AreNewParts j spaces authors pool
    → length authors ≡ length j.setting.told + 1
as_many j spaces authors pool parts = ap length parts.authors_are ∙ length-map (range_with_len 0 (length j.setting.told + 1))
    (new_author j) ∙ length-range_with_len 0 (length j.setting.told + 1)

pub IsPoolAt-new : (j : JournalName) (spaces : List Kept) (authors rest : List AuthorState) (last : AuthorState) (pool : FrameState)
    → AreNewParts j spaces authors pool → authors ≡ rest ++ last ∷ [] → IsPoolAt j pool last
IsPoolAt-new j spaces authors rest last pool parts split =
    let is = (authors_split j authors rest last parts.authors_are split).1 in
    subst (IsPoolAt j pool) (sym is) (record { journal = refl; part = refl; state = parts.pool_is })

-- a space and its author at the start
locked_new : (j : JournalName) (s : ℕ) (kept : Kept) (a : AuthorState) → s < length j.setting.told
    → IsNew j.setting.sizes j.setting.frames (length j.setting.marks) s (is_told j.setting s) (faults_at_entry j.setting s) kept
    → a ≡ new_author j s → IsLockedSpace j s kept (Some a)
locked_new j s kept a below new is =
    subst (λ x. IsLockedSpace j s kept (Some x)) (sym is)
    (record {
      author = new_author j s;
      there = refl;
      part_is = refl;
      stands = record { journal = refl; within = below; number = new.number_is; frames = new.frames_are; processors = new.processors_are };
      rest = record { resting = new.resting; stands = new.stands; next = refl };
    })

-- what stands at a place of a list, from its end
reverse_at : {X : Type 0} (xs : List X) (i s : ℕ) (x : X) → i + s + 1 ≡ length xs → slice_get (reverse xs) i ≡ Some x
    → slice_get xs s ≡ Some x
reverse_at xs i s x both at =
    elim (slice_get_cases (reverse xs) i).1 [
      | inl there ↦
          let y = there.0 in
          let same : get_or (reverse xs) i x ≡ get_or xs (length xs - 1 - i) x = get_or-reverse xs i x (omega (arith, both)) in
          let place : length xs - 1 - i ≡ s = omega (arith, both) in
          let is : get_or (reverse xs) i x ≡ x = get_or_from_slice_get (reverse xs) i x x at in
          slice_get-get_or xs s x (omega (arith, both)) ∙ ap Some (sym (same ∙ ap (λ n. get_or xs n x) place) ∙ is)
      | inr past ↦ absurd (none-some x (sym past.1 ∙ at))
    ]

map_at : {X : Type 0} (f : ℕ → X) (n s : ℕ) (x : X) → s < n → slice_get (map f (range_with_len 0 n)) s ≡ Some x → x ≡ f s
map_at f n s x below at =
    sym (get_or_from_slice_get (map f (range_with_len 0 n)) s x x at) ∙ get_or-map-range_with_len f 0 n s s x below (omega arith)

pub AreLeft-new : (j : JournalName) (spaces : List Kept) (authors rest : List AuthorState) (last : AuthorState) (pool : FrameState)
    → AreNewParts j spaces authors pool → authors ≡ rest ++ last ∷ [] → AreLeft j 0 (reverse spaces) (reverse rest)
AreLeft-new j spaces authors rest last pool parts split =
    let new = parts.spaces_are in
    let own = (authors_split j authors rest last parts.authors_are split).0 in
    let count : length (reverse spaces) ≡ length j.setting.told = length-reverse spaces ∙ new.count in
    let many : length rest ≡ length j.setting.told = ap length own ∙ length-map (range_with_len 0 (length j.setting.told)) (new_author j)
    ∙ length-range_with_len 0 (length j.setting.told) in
    let count_authors : length (reverse rest) ≡ length j.setting.told = length-reverse rest ∙ many in
    record {
      same_count = count_authors ∙ sym count;
      all = λ some. omega (arith, count);
      none = λ none. nil_from_length (reverse spaces) (omega (arith, count, none));
      each = λ i s kept a both at at_author.
          let number = new.count in
          let below : s < length j.setting.told = omega (arith, both) in
          let here = reverse_at spaces i s kept (both ∙ sym new.count) at in
          let author = reverse_at rest i s a (both ∙ sym many) at_author in
          locked_new j s kept a below (new.new s kept here) (map_at (new_author j) (length j.setting.told) s a below
          (subst (λ l. slice_get l s ≡ Some a) own author));
    }

-- the next space is the last of those that are left
pub IsLockedSpace-next : (j : JournalName) (k : ℕ) (fewer : List Kept) (less : List AuthorState) (kept : Kept) (a : AuthorState)
    → AreLeft j k (fewer ++ kept ∷ []) (less ++ a ∷ []) → IsLockedSpace j k kept (Some a)
IsLockedSpace-next j k fewer less kept a left =
    let long : length (fewer ++ kept ∷ []) ≡ length fewer + 1 = length_push fewer kept in
    let long_authors : length (less ++ a ∷ []) ≡ length less + 1 = length_push less a in
    let same = left.same_count in
    let all = left.all in
    elim (cases_lt k (length j.setting.told)) [
      | inl below ↦
          let both = all below in
          left.each (length fewer) k kept a (omega (arith, both, long)) (slice_get-last fewer kept)
          (subst (λ n. slice_get (less ++ a ∷ []) n ≡ Some a)
          (let e : length less ≡ length fewer = omega (arith, long, long_authors, same) in e) (slice_get-last less a))
      | inr past ↦ (let none : length (fewer ++ kept ∷ []) ≡ 0 = ap length (left.none past) in absurd (omega (arith, none, long)))
    ]

pub AreLeft-next : (j : JournalName) (k : ℕ) (fewer : List Kept) (less : List AuthorState) (kept : Kept) (a : AuthorState)
    → AreLeft j k (fewer ++ kept ∷ []) (less ++ a ∷ []) → AreLeft j (k + 1) fewer less
AreLeft-next j k fewer less kept a left =
    let long : length (fewer ++ kept ∷ []) ≡ length fewer + 1 = length_push fewer kept in
    let long_authors : length (less ++ a ∷ []) ≡ length less + 1 = length_push less a in
    let same = left.same_count in
    record {
      same_count = omega (arith, long, long_authors, same);
      all = λ below. (let both = left.all (omega (arith, below)) in omega (arith, both, long));
      none = λ past. elim (cases_lt k (length j.setting.told)) [
        | inl below ↦ (let both = left.all below in nil_from_length fewer (omega (arith, both, long, past)))
        | inr before ↦ (let none : length (fewer ++ kept ∷ []) ≡ 0 = ap length (left.none before) in absurd (omega (arith, none, long)))
      ];
      each = λ i s other b both at at_author.
          left.each i s other b both (slice_get-kept fewer kept i other at) (slice_get-kept less a i b at_author);
    }

-- past the last space none is left
pub none_left : (j : JournalName) (k : ℕ) (spaces : List Kept) (authors : List AuthorState) → AreLeft j k spaces authors
    → length j.setting.told ≤ k → (spaces ≡ []) × (authors ≡ [])
none_left j k spaces authors left past =
    let none = left.none past in
    let short : length spaces ≡ 0 = ap length none in
    let same = left.same_count in
    (none, nil_from_length authors (omega (arith, short, same)))

-- The parts of a run and all authors of the journal that was made for its setting are a pager's.
pub AreNewParts-made : (j : JournalName) (given : Given) (spaces : List Kept) (authors : List AuthorState) (pool : FrameState)
    → j.setting ≡ given → length spaces ≤ 16 → AreNewSpaces given spaces
    → authors ≡ map (new_author j) (range_with_len 0 (length given.told + 1))
    → pool ≡ start_frames given.sizes given.frames (length given.marks) → AreNewParts j spaces authors pool
AreNewParts-made j given spaces authors pool setting few new are_authors start =
    record {
      few = (let count = new.count in let same : length j.setting.told ≡ length given.told = ap (λ (g : Given). length g.told) setting in
          omega (arith, count, same, few));
      spaces_are = subst (λ (g : Given). AreNewSpaces g spaces) (sym setting) new;
      authors_are = are_authors ∙ ap (λ (g : Given). map (new_author j) (range_with_len 0 (length g.told + 1))) (sym setting);
      pool_is = start ∙ sym (ap (λ (g : Given). start_frames g.sizes g.frames (length g.marks)) setting);
    }
