-- What the pages of a range leave that gave their frames up one after the other, ascending.
use Rattle.std.proofs.Common.{◌≡◌, ℕ, zero, suc, ◌+◌, ◌-◌, ◌<◌, ◌≤◌, true, false, ◌&&◌, eqb, Some, None, ap, sym, ◌∙◌, arith}
use Rattle.std.specs.List.{range_with_len}
use Rattle.std.proofs.lemmas.Bool.{and_right, cond-false, false_from_ne_true}
use Rattle.pager_model.specs.declared.entry.Entry.{Entry}
use Rattle.pager_model.specs.declared.entry.What.TheVariants.{Clear}
use Rattle.pager_model.specs.FrameStates.{FrameState, frame_of, give_if_used, give_page, give_range}
use Rattle.pager_model.specs.Regions.{in_range}
use Rattle.pager_model.proofs.FrameEntries.{frames_after-entries}
use Rattle.pager_model.proofs.Ranges.{in_bounds}
use Rattle.pager_laws.proofs.GivenRanges.{give_if_used-some, give_range-none}
use Rattle.pager_laws.proofs.PageMoves.{frame_of-give_each}
use Rattle.pager_laws.proofs.StateSoundness.{IsSound-give_each}
use Rattle.pager_laws.specs.Laid.{IsSound}

-- a range is its first pages, and then the others
give_range-split : (space : ℕ) (st : FrameState) (first n m : ℕ)
    → give_range st space first (n + m) ≡ give_range (give_range st space first n) space (first + n) m
give_range-split space st first zero m =
    let none : zero + m ≡ m = omega arith in
    let here : first + zero ≡ first = omega arith in
    ap (give_range st space first) none ∙ ap (λ k. give_range st space k m) (sym here)
give_range-split space st first (suc n) m =
    let more : suc n + m ≡ suc (n + m) = omega arith in
    let on : first + 1 + n ≡ first + suc n = omega arith in
    ap (give_range st space first) more
    ∙ give_range-split space (give_if_used space st first) (first + 1) n m
    ∙ ap (λ k. give_range (give_range (give_if_used space st first) space (first + 1) n) space k m) on

-- Some of the pages of a range, those before this one, gave theirs up.
module _ (space : ℕ) (st : FrameState) (first from : ℕ) (after : first ≤ from) where
  abbrev pub given_before : FrameState
  given_before = give_range st space first (from - first)

  end : first + (from - first) ≡ from
  end = omega (arith, after)

  -- the next one of them that has a frame does
  pub given-next : (page frame : ℕ) → from ≤ page → ((p : ℕ) → from ≤ p → p < page → frame_of given_before space p ≡ None)
      → frame_of given_before space page ≡ Some frame
      → give_page given_before space page ≡ give_range st space first (page + 1 - first)
  given-next page frame on none some =
      let upto : page + 1 - first ≡ (from - first) + (page - from + 1) = omega (arith, after, on) in
      let past : from + (page - from) ≡ page = omega (arith, on) in
      let gap : give_range given_before space from (page - from) ≡ given_before =
      give_range-none space given_before from (page - from) (λ p low high. none p low (omega (arith, high, on))) in
      sym (ap (give_range st space first) upto
      ∙ give_range-split space st first (from - first) (page - from + 1)
      ∙ ap (λ k. give_range given_before space k (page - from + 1)) end
      ∙ give_range-split space given_before from (page - from) 1
      ∙ ap (λ t. give_range t space (from + (page - from)) 1) gap
      ∙ ap (λ k. give_if_used space given_before k) past
      ∙ give_if_used-some given_before space page frame some)

  -- and where none of them has one any more, all did
  pub given-all : (len : ℕ) → from ≤ first + len → ((p : ℕ) → from ≤ p → p < first + len → frame_of given_before space p ≡ None)
      → given_before ≡ give_range st space first len
  given-all len within none =
      let upto : len ≡ (from - first) + (first + len - from) = omega (arith, after, within) in
      sym (ap (give_range st space first) upto
      ∙ give_range-split space st first (from - first) (first + len - from)
      ∙ ap (λ k. give_range given_before space k (first + len - from)) end
      ∙ give_range-none space given_before from (first + len - from) (λ p low high. none p low (omega (arith, high, within))))

  -- the pages that are left have their frames still
  pub given-left : (frames processors : ℕ) → IsSound frames processors st → (p : ℕ) → from ≤ p
      → frame_of given_before space p ≡ frame_of st space p
  given-left frames processors sound p on =
      let behind : in_range first (from - first) p ≡ false =
      false_from_ne_true (in_range first (from - first) p)
      (λ is. let inside = in_bounds first (from - first) p is in absurd (omega (arith, inside, on, after))) in
      frame_of-give_each frames processors space first (from - first) st sound space p
      ∙ cond-false (eqb space space && in_range first (from - first) p) None (frame_of st space p)
      (and_right (eqb space space) (in_range first (from - first) p) behind)

  pub given-sound : (frames processors : ℕ) → IsSound frames processors st → IsSound frames processors given_before
  given-sound frames processors sound = IsSound-give_each frames processors space (range_with_len first (from - first)) st sound

  -- no entry is counted
  pub given-entries : given_before.entries ≡ st.entries
  given-entries =
      let e : Entry = record { processor = 0; space = Some space; frames = true; what = Clear first (from - first) } in
      let counted : given_before.entries + 1 ≡ st.entries + 1 = frames_after-entries st e in
      omega (arith, counted)
