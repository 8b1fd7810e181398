-- Counting the used places of extents.
use Rattle.std.proofs.Common.{◌≡◌, ◌≢◌, ◌<◌, ◌≤◌, ℕ, zero, suc, ◌+◌, ◌-◌, ◌*◌, ◌/◌, ◌%◌, ◌^◌, Bool, true, false, not, ◌&&◌, ◌||◌, cond, ltb, List, length, get_or, set, replicate, refl, ap, sym, subst, ◌∙◌, arith, inl, inr, count_by}
use Rattle.std.specs.List.{range_with_len, list_any}
use Rattle.std.proofs.lemmas.List.{get_or-set_same, get_or-set_other, length-set, length-replicate, get_or_read}
use Rattle.std.proofs.Math.Nat.{div-mul-le_self, lt-div-mul-add}
use Rattle.std.proofs.lemmas.Bool.{cases_eq, lt-ltb}
use Rattle.std.proofs.lemmas.Bool.Decides.{nat_tests}
use Rattle.std.proofs.lemmas.Nat.{div_below, div-add-mod', mod_below}
use Rattle.pager_model.specs.Records.{is_used, none_used}
use Rattle.pager_model.proofs.CountLemmas.{count-suc, count-agree, count-one_more, count-none, count-most}
use Rattle.pager_model.proofs.ExtentLemmas.{extent_of_frame}
use Rattle.pager_model.proofs.Lists.{get_or-alike}
use Rattle.reservations.specs.Counts.{used_in, AreCounts}

-- some frame from first on is unused where fewer than all are used
pub any-count : (p : ℕ → Bool) (first n b : ℕ)
    → list_any (λ i. none_used p (first + i * 1) 1) (range_with_len b n) ≡ ltb (count_by p (range_with_len (first + b) n)) n
any-count p first zero b = refl
any-count p first (suc n) b =
    let next : first + (b + 1) ≡ first + b + 1 = omega arith in
    let rest = any-count p first n (b + 1) ∙ ap (λ a. ltb (count_by p (range_with_len a n)) n) next in
    let most = count-most p (first + b + 1) n in
    let here : first + b * 1 ≡ first + b = omega arith in
    let others = list_any (λ i. none_used p (first + i * 1) 1) (range_with_len (b + 1) n) in
    rw (here, count-suc p (first + b) n)
    (elim (p (first + b)) as (λ v. ((not v && true) || others) ≡ ltb (cond v 1 0 + count_by p (range_with_len (first + b + 1) n)) (suc n)) [
      | true ↦ rest ∙ grind (arith, nat_tests)
      | false ↦ sym (lt-ltb _ _ (omega arith))
    ])

-- what a write says of each frame
is_used-same : (used : List Bool) (f : ℕ) (b : Bool) → f < length used → is_used (set used f b) f ≡ b
is_used-same used f b within = get_or-set_same used f b false within

is_used-other : (used : List Bool) (f g : ℕ) (b : Bool) → g ≢ f → is_used (set used f b) g ≡ is_used used g
is_used-other used f g b other = get_or-set_other used f g b false other

module _ (used : List Bool) (w : ℕ) (counts : List ℕ) (f : ℕ) (width : 0 < w) (known : f < length used) (are : AreCounts used w counts) where
  pub in_counts : f / w < length counts
  in_counts = div_below f w (length counts) width (omega (arith, are.long))

  -- a write of a frame changes the count of its extent alone
  AreCounts-set : (b : Bool) (c : ℕ) → c ≡ used_in (set used f b) (f / w * w) w → AreCounts (set used f b) w (set counts (f / w) c)
  AreCounts-set b c value = record {
    long = rw (length-set used f b, length-set counts (f / w) c) are.long;
    exact = λ i. elim (cases_eq i (f / w)) [
      | inl here ↦ subst (λ j. get_or (set counts (f / w) c) j 0 ≡ used_in (set used f b) (j * w) w) (sym here)
          (get_or-set_same counts (f / w) c 0 in_counts ∙ value)
      | inr other ↦
          get_or-set_other counts (f / w) i c 0 other ∙ are.exact i
          ∙ count-agree (is_used used) (is_used (set used f b)) (i * w) w
          (λ g low high. sym (is_used-other used f g b (λ same. other (sym (extent_of_frame i w f (omega arith) (omega arith))))))
    ];
  }

  pub AreCounts-insert : (x : ℕ) → is_used used f ≡ false → x ≡ get_or counts (f / w) x
      → AreCounts (set used f true) w (set counts (f / w) (x + 1))
  AreCounts-insert x unused read =
      let more = count-one_more (is_used used) (is_used (set used f true)) f unused (is_used-same used f true known)
      (λ g other. sym (is_used-other used f g true other)) (f / w * w) w (div-mul-le_self f w) (lt-div-mul-add width) in
      AreCounts-set true (x + 1) (omega (arith, more, get_or_read counts (f / w) x in_counts read 0, are.exact (f / w)))

  pub count_fits : (x : ℕ) → x ≡ get_or counts (f / w) x → x ≤ w
  count_fits x read =
      omega (arith, count-most (is_used used) (f / w * w) w, get_or_read counts (f / w) x in_counts read 0, are.exact (f / w))

  less : is_used used f ≡ true → used_in used (f / w * w) w ≡ used_in (set used f false) (f / w * w) w + 1
  less is = count-one_more (is_used (set used f false)) (is_used used) f (is_used-same used f false known) is
      (λ g other. is_used-other used f g false other) (f / w * w) w (div-mul-le_self f w) (lt-div-mul-add width)

  pub some_used : (x : ℕ) → is_used used f ≡ true → x ≡ get_or counts (f / w) x → 0 < x
  some_used x is read = omega (arith, less is, get_or_read counts (f / w) x in_counts read 0, are.exact (f / w))

  pub AreCounts-remove : (x : ℕ) → is_used used f ≡ true → x ≡ get_or counts (f / w) x
      → AreCounts (set used f false) w (set counts (f / w) (x - 1))
  AreCounts-remove x is read =
      AreCounts-set false (x - 1) (omega (arith, less is, get_or_read counts (f / w) x in_counts read 0, are.exact (f / w)))

-- at first no frame is used
pub is_used-replicate : (n f : ℕ) → is_used (replicate n false) f ≡ false
is_used-replicate n f = get_or-alike n f false

pub AreCounts-none : (n w : ℕ) → 0 < w → AreCounts (replicate n false) w (replicate (n / w + 1) 0)
AreCounts-none n w width = record {
  long = rw (length-replicate, length-replicate) (omega (arith, div-add-mod' n w, mod_below n w width));
  exact = λ i. get_or-alike (n / w + 1) i 0 ∙ sym (count-none (is_used (replicate n false)) (i * w) w (λ f _ _. is_used-replicate n f));
}

-- the count of an aligned extent is read at its number
pub count_read : (used : List Bool) (w : ℕ) (counts : List ℕ) (first k n : ℕ) → 0 < w → AreCounts used w counts → 8 ^ k ≡ w
    → first % 8 ^ k ≡ 0 → n ≡ get_or counts (first / w) 0 → n ≡ used_in used first (8 ^ k)
count_read used w counts first k n width are size aligned read =
    let start : first / w * w ≡ first = omega (arith, div-add-mod' first w, ap (λ m. first % m) size) in
    read ∙ are.exact (first / w) ∙ ap (λ a. used_in used a w) start ∙ ap (λ m. used_in used first m) (sym size)

-- and the extent is in the list
pub count_known : (used : List Bool) (w : ℕ) (counts : List ℕ) (first : ℕ) → 0 < w → AreCounts used w counts → first < length used
    → first / w < length counts
count_known used w counts first width are known = div_below first w (length counts) width (omega (arith, are.long))
