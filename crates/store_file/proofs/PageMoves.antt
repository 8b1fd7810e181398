-- Bytes of a page's place, one piece after the other.
use Rattle.std.proofs.Common.{◌≡◌, ℕ, ◌+◌, ◌*◌, ◌<◌, ◌≤◌, min, inl, inr, refl, ap, ◌∙◌, arith}
use Rattle.std.proofs.lemmas.Bool.{cases_eq}
use Rattle.std.proofs.lemmas.Bool.Decides.{nat_tests}
use Rattle.pager_model.specs.SpaceStates.{last_count}
use Rattle.store_file.specs.declared.page_file.Transferred.{Transferred}
use Rattle.store_file.specs.FileState.{moved}

-- the first so many bytes of a page's place, if any, were transferred one after the other, and no other
pub record MovesFirst (page count : ℕ) (old new : Transferred) : Type 0 where
  pub start : count ≡ 0 → new ≡ old
  pub bytes : 0 < count → new.bytes ≡ min (old.bytes + count) last_count
  pub end : 0 < count → new.end ≡ 8192 * page + count
  pub row : count ≤ new.row

pub moves_none : (page : ℕ) (old : Transferred) → MovesFirst page 0 old old
moves_none page old = record {
  start = λ _. refl;
  bytes = λ some. absurd (omega arith);
  end = λ some. absurd (omega arith);
  row = omega arith;
}

moves_begin : (page at n : ℕ) (old mid : Transferred) → at ≡ 0 → 0 < n → n ≤ 8192 → mid ≡ old
    → MovesFirst page (at + n) old (moved mid (8192 * page + at) n)
moves_begin page at n old mid none some few same = record {
  start = λ none. absurd (omega arith);
  bytes = λ _. ap (λ t. min (t.bytes + n) last_count) same ∙ ap (λ k. min (old.bytes + k) last_count) (omega arith);
  end = λ _. omega arith;
  row = grind (arith, nat_tests);
}

moves_on : (page at n : ℕ) (old mid : Transferred) → 0 < at → 0 < n → at + n ≤ 8192 → MovesFirst page at old mid
    → MovesFirst page (at + n) old (moved mid (8192 * page + at) n)
moves_on page at n old mid begun some few before =
    let bytes : mid.bytes ≡ min (old.bytes + at) last_count = before.bytes begun in
    let end : mid.end ≡ 8192 * page + at = before.end begun in
    let row : at ≤ mid.row = before.row in
    record {
      start = λ none. absurd (omega arith);
      bytes = λ _. omega arith;
      end = λ _. omega arith;
      row = grind (arith, nat_tests);
    }

-- with the next so many
pub moves_more : (page at n : ℕ) (old mid : Transferred) → 0 < n → at + n ≤ 8192 → MovesFirst page at old mid
    → MovesFirst page (at + n) old (moved mid (8192 * page + at) n)
moves_more page at n old mid some few before =
    elim (cases_eq at 0) [
      | inl none ↦ moves_begin page at n old mid none some (omega arith) (before.start none)
      | inr begun ↦ moves_on page at n old mid (omega arith) some few before
    ]
