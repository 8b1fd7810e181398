use Rattle.std.proofs.Common.{◌≡◌, refl, sym, ap, ◌∙◌, ◌++◌, ℕ, List, take, drop, length, replicate, arith, inl, inr}
use Rattle.std.proofs.lemmas.Bool.{cond-false, cond-true, eqb-true, eq-eqb, ne_eqb, true≢false}
use Rattle.std.proofs.lemmas.List.{length-append, length-drop, length-replicate, length-take-le}
use Rattle.pager_model.specs.Frame.{Framed, words_or_zeros}
use Rattle.pager_model.specs.FrameLoan.{with_words}
use Rattle.pager_model.proofs.frame.Frame.words_mut.Goals as goal
use Rattle.pager_model.proofs.frame.Frame.words_mut.Goals.{then-is_empty, else-is_empty}

-- a list of no words is one of zeros
empty_are_zeros : (items : List ℕ) → length items ≡ 0 → words_or_zeros items ≡ replicate 1024 0
empty_are_zeros items none = cond-true _ _ _ (eq-eqb (length items) 0 none)

-- and a whole one is what it is
kept_are_kept : (items : List ℕ) → length items ≡ 1024 → words_or_zeros items ≡ items
kept_are_kept items whole = cond-false _ _ _ (ne_eqb (length items) 0 (λ none. omega (arith, none, whole)))

-- a whole one, the first of whose words are written over, is whole
still_whole : (items ws : List ℕ) → length items ≡ 1024 → length (take 1024 (ws ++ drop (length ws) items)) ≡ 1024
still_whole items ws whole =
    let both = length-append ws (drop (length ws) items) in
    let rest = length-drop (length ws) items in
    length-take-le 1024 (ws ++ drop (length ws) items) (omega (arith, both, rest, whole))

abbrev framed : ℕ → List ℕ → Framed
framed n ws = record { number = n; words = ws }

-- the frame keeps its number and as many words, whatever words come back
pub returns : goal.returns
returns c =
    let inside = c.if-is_empty.self-inside in
    let old = c.self.inside in
    let filled : (length inside.chunk ≡ 1024) × (framed inside.number inside.chunk ≡ c.args.self.now) = elim c.if-is_empty.branch [
      | then-is_empty w ↦
          let none = eqb-true (length old.chunk) 0 (sym w.if-is_empty.ensures) in
          rw w.self-inside-is (
            ap length w.fill_zeros.ensures ∙ length-replicate {A = ℕ} 1024 0,
            ap (framed old.number) (w.fill_zeros.ensures ∙ sym (empty_are_zeros old.chunk none)) ∙ c.self.view_is,
          )
      | else-is_empty w ↦
          let lent : c.as_mut_slice.result.now ≡ old.chunk = c.as_mut_slice.ensures.words ∙ ap (λ i. i.chunk) w.self-inside-is in
          let whole : length old.chunk ≡ 1024 = elim c.as_mut_slice.ensures.count [
            | inl none ↦ absurd (true≢false (sym (eq-eqb (length old.chunk) 0 (ap length (sym lent ∙ none))) ∙ sym w.if-is_empty.ensures))
            | inr whole ↦ sym (ap length lent) ∙ whole
          ] in
          rw w.self-inside-is (whole, ap (framed old.number) (sym (kept_are_kept old.chunk whole)) ∙ c.self.view_is)
    ] in
    let whole = filled.0 in
    let shown = filled.1 in (
      (
        refl,
        λ w.
            ap (λ (n : ℕ). framed inside.number (words_or_zeros (take n (w ++ drop (length w) inside.chunk)))) whole
            ∙ ap (framed inside.number) (kept_are_kept (take 1024 (w ++ drop (length w) inside.chunk)) (still_whole inside.chunk w whole))
            ∙ ap (λ (f : Framed). with_words f w) shown,
      ),
      record {
        writes_back = tt;
        words = c.as_mut_slice.ensures.words ∙ ap (λ (f : Framed). f.words) shown;
        count = ap length c.as_mut_slice.ensures.words ∙ whole;
      },
    )
