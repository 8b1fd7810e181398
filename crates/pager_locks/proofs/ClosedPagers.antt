-- The spaces and the authors that come back and what they stand for, and the one history.
use Rattle.std.proofs.Common.{◌≡◌, ℕ, zero, suc, ◌+◌, ◌<◌, ◌≤◌, List, [], ◌∷◌, ◌++◌, length, map, get_or, slice_get, Some, refl, ap, sym, subst, ◌∙◌, inl, inr, arith}
use Rattle.std.specs.List.{All, range_with_len}
use Rattle.std.proofs.lemmas.Bool.{cases_lt}
use Rattle.std.proofs.lemmas.List.{length_push, get_or-map}
use Rattle.std.proofs.lemmas.List.FromFn.{length-range_with_len, get_or-range_with_len}
use Rattle.std.proofs.lemmas.List.Elements.{All-push, All-same}
use Rattle.std.proofs.lemmas.Option.{none-some, same_Some, slice_get_cases}
use Rattle.std.proofs.Math.ListN.{length-map}
use Rattle.journal_core.specs.Clauses.{IsPartOf, IsOwnOf}
use Rattle.journal_core.specs.Journals.{JournalName, AuthorState, PassState, new_pass}
use Rattle.pager_model.specs.Legal.{numbered, numbered_from}
use Rattle.pager_model.specs.declared.entry.Entry.{Entry}
use Rattle.pager_model.specs.declared.entry.Numbered.{Numbered}
use Rattle.pager_model.specs.Entries.{entries_of}
use Rattle.pager_model.specs.FrameStates.{FrameState}
use Rattle.pager_model.specs.Legal.{space_at, entries_in}
use Rattle.pager_model.specs.Order.{IsWhole}
use Rattle.pager_model.specs.Settings.{mark_of}
use Rattle.space_core.specs.Standing.{Kept}
use Rattle.flight_core.specs.Flights.{IsAtRest}
use Rattle.pager_core.specs.RunParts.{AreAtRest}
use Rattle.pager_core.specs.Running.{IsNumbered}
use Rattle.pager_core.proofs.Lists.{slice_get-push}
use Rattle.pager_locks.specs.Locks.{AreParts}
use Rattle.pager_locks.specs.Locked.{IsLockedSpace, IsPoolAt}
use Rattle.pager_locks.proofs.Meetings.{frames_are, frames_met, space_met, state_is}

pub slice_get-kept : {X : Type 0} (xs : List X) (y : X) (i : ℕ) (x : X) → slice_get xs i ≡ Some x → slice_get (xs ++ y ∷ []) i ≡ Some x
slice_get-kept [] y i x at = cc
slice_get-kept (z ∷ xs) y zero x at = at
slice_get-kept (z ∷ xs) y (suc i) x at = slice_get-kept xs y i x at

pub slice_get-last : {X : Type 0} (xs : List X) (y : X) → slice_get (xs ++ y ∷ []) (length xs) ≡ Some y
slice_get-last [] y = refl
slice_get-last (z ∷ xs) y = slice_get-last xs y

all_at : {X : Type 0} (P : X → Type 0) (xs : List X) (i : ℕ) (x : X) → All P xs → slice_get xs i ≡ Some x → P x
all_at P xs i x all at = elim (slice_get_cases xs i).1 [
  | inl there ↦ subst P (there.3 ∙ same_Some _ _ (sym there.2 ∙ at)) (all i there.0 there.1)
  | inr past ↦ absurd (none-some x (sym past.1 ∙ at))
]

-- the next space is one more
pub AreParts-more : (j : JournalName) (k : ℕ) (spaces : List Kept) (authors : List AuthorState) (kept : Kept) (a : AuthorState)
    → AreParts j k spaces authors → IsLockedSpace j k kept (Some a) → AreParts j (k + 1) (spaces ++ kept ∷ []) (authors ++ a ∷ [])
AreParts-more j k spaces authors kept a parts locked =
    let below : k < length j.setting.told = subst (λ n. n < length j.setting.told) locked.part_is locked.stands.within in
    let long : length (spaces ++ kept ∷ []) ≡ length spaces + 1 = length_push spaces kept in
    let long_authors : length (authors ++ a ∷ []) ≡ length authors + 1 = length_push authors a in
    let same = parts.same_count in
    let most = parts.no_more in
    let full : length spaces ≡ k = parts.all (omega (arith, most, below)) in
    let own : AuthorState = locked.author in
    let is_own : a ≡ own = same_Some a own locked.there in
    record {
      same_count = omega (arith, long, long_authors, same);
      no_more = omega (arith, long, full);
      known = omega (arith, long, full, below);
      all = λ _. omega (arith, long, full);
      journals = All-push (λ (b : AuthorState). b.journal ≡ j) authors a parts.journals
          (ap (λ (b : AuthorState). b.journal) is_own ∙ locked.stands.journal);
      each = λ s other at. elim (slice_get-push spaces kept s other at) [
        | inl before ↦
            let part = parts.each s other before in
            record { author = part.author; at = slice_get-kept authors a s part.author part.at; locked = part.locked }
        | inr last ↦
            let at_end : s ≡ length authors = last.0 ∙ sym same in
            record {
              author = a;
              at = subst (λ n. slice_get (authors ++ a ∷ []) n ≡ Some a) (sym at_end) (slice_get-last authors a);
              locked = subst (λ n. IsLockedSpace j n other (Some a)) (sym (last.0 ∙ full))
                  (subst (λ x. IsLockedSpace j k x (Some a)) last.1 locked);
            }
      ];
    }

pub journals_all : (j : JournalName) (k : ℕ) (spaces : List Kept) (authors all : List AuthorState) (pool : FrameState)
    (frames : AuthorState)
    → AreParts j k spaces authors → IsPoolAt j pool frames → all ≡ authors ++ frames ∷ [] → All (λ (a : AuthorState). a.journal ≡ j) all
journals_all j k spaces authors all pool frames parts pool_at are =
    All-same (λ (a : AuthorState). a.journal ≡ j) all (authors ++ frames ∷ []) are
    (All-push (λ (a : AuthorState). a.journal ≡ j) authors frames parts.journals pool_at.journal)

-- With all spaces back and the one history, each is at rest after its part.
pub AreAtRest-closed : (j : JournalName) (spaces : List Kept) (authors all : List AuthorState) (pool : FrameState) (frames : AuthorState)
    (h : List Entry)
    → AreParts j 16 spaces authors → length j.setting.told ≤ 16 → IsPoolAt j pool frames → all ≡ authors ++ frames ∷ []
    → All (λ (a : AuthorState). IsPartOf a h) all → AreAtRest j.setting h spaces pool
AreAtRest-closed j spaces authors all pool frames h parts few pool_at are of =
    let most = parts.no_more in
    let known = parts.known in
    record {
      count = elim (cases_lt (length spaces) (length j.setting.told)) [
        | inl less ↦ (let full = parts.all less in omega (arith, full, less, few))
        | inr whole ↦ omega (arith, whole, known)
      ];
      spaces_rest = λ s kept at.
          let part = parts.each s kept at in
          let own : AuthorState = part.locked.author in
          let is_own : part.author ≡ own = same_Some part.author own part.locked.there in
          let stands = part.locked.stands in
          let in_all : slice_get all s ≡ Some own = subst (λ l. slice_get l s ≡ Some own) (sym are)
          (slice_get-kept authors frames s own (part.at ∙ ap Some is_own)) in
          let is_space = space_met j h own stands.journal stands.within (all_at (λ (a : AuthorState). IsPartOf a h) all s own of in_all) in
          subst (IsAtRest kept) (state_is j h own is_space ∙ ap (space_at j.setting h) part.locked.part_is) part.locked.rest;
      pool_is =
          let at_end : slice_get all (length authors) ≡ Some frames =
          subst (λ l. slice_get l (length authors) ≡ Some frames) (sym are) (slice_get-last authors frames) in
          pool_at.state
          ∙ frames_are j h frames (frames_met j h frames pool_at.journal pool_at.part
          (all_at (λ (a : AuthorState). IsPartOf a h) all (length authors) frames of at_end));
    }

-- Each processor's list is whole where the passes' lists are.
pub whole_at : (j : JournalName) (passes : List PassState) (h : List Entry)
    → map (λ (p : PassState). p.processor) passes ≡ range_with_len 0 (length j.setting.marks)
    → All (λ (p : PassState). IsWhole (mark_of j.setting p.processor) (entries_in p.entries)) passes
    → All (λ (p : PassState). IsOwnOf p h) passes
    → (c : ℕ) → c < length j.setting.marks → IsWhole (mark_of j.setting c) (entries_of c h)
whole_at j passes h processors whole own c below =
    let d : PassState = new_pass j 0 0 in
    let p : PassState = get_or passes c d in
    let count : length passes ≡ length j.setting.marks = sym (length-map passes (λ (p : PassState). p.processor)) ∙ ap length processors
    ∙ length-range_with_len 0 (length j.setting.marks) in
    let within : c < length passes = omega (arith, below, count) in
    let number : p.processor ≡ c =
    sym (get_or-map (λ (p : PassState). p.processor) passes c d 0 within) ∙ ap (λ l. get_or l c 0) processors
    ∙ get_or-range_with_len 0 (length j.setting.marks) c 0 below ∙ (let e : 0 + c ≡ c = omega arith in e) in
    subst (λ n. IsWhole (mark_of j.setting n) (entries_of n h)) number
    (subst (IsWhole (mark_of j.setting p.processor)) (own c d within).1 (whole c d within))
