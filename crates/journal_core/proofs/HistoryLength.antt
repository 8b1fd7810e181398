-- How long a history is, by its processors.
use Rattle.std.proofs.Common.{◌≡◌, ◌≢◌, ℕ, zero, suc, ◌+◌, ◌*◌, ◌<◌, ◌≤◌, Bool, true, false, cond, eqb, List, [], ◌∷◌, ◌++◌, length, refl, sym, ap, arith, eq-eqb, ne_eqb, suc-mul}
use native.Mathlib.Decide.{ℕ_discrete}
use Rattle.std.specs.List.{AllByRecursion}
use Rattle.std.proofs.lemmas.Bool.Decides.{nat_tests}
use Rattle.pager_model.specs.declared.entry.Entry.{Entry}
use Rattle.pager_model.specs.Entries.{entries_of}
use Rattle.pager_model.specs.Legal.{AllFollow, IsLegal}
use Rattle.pager_model.specs.Settings.{Given}
use Rattle.journal_core.specs.Views.{one_below}

-- f of n numbers from a on, added up
abbrev pub up_from : (ℕ → ℕ) → ℕ → ℕ → ℕ
up_from f a zero = 0
up_from f a (suc n) = f a + up_from f (a + 1) n

up_from-add : (f g : ℕ → ℕ) (a n : ℕ) → up_from (λ c. f c + g c) a n ≡ up_from f a n + up_from g a n
up_from-add f g a zero = refl
up_from-add f g a (suc n) = omega (arith, up_from-add f g (a + 1) n)

pub up_from-same : (f g : ℕ → ℕ) (a n : ℕ) → ((c : ℕ) → f c ≡ g c) → up_from f a n ≡ up_from g a n
up_from-same f g a zero is = refl
up_from-same f g a (suc n) is = omega (arith, is a, up_from-same f g (a + 1) n is)

up_from-zero : (a n : ℕ) → up_from (λ c. 0) a n ≡ 0
up_from-zero a zero = refl
up_from-zero a (suc n) = omega (arith, up_from-zero (a + 1) n)

abbrev pub hit : ℕ → ℕ → ℕ
hit x c = cond (eqb x c) 1 0

pub hit-same : (x c : ℕ) → x ≡ c → hit x c ≡ 1
hit-same x c is = ap (λ b. cond b 1 0) (eq-eqb x c is)

pub hit-other : (x c : ℕ) → x ≢ c → hit x c ≡ 0
hit-other x c apart = ap (λ b. cond b 1 0) (ne_eqb x c apart)

-- one number more
pub one_below-more : (n k : ℕ) → one_below (n + 1) k ≡ hit n k + one_below n k
one_below-more n k = grind (arith, nat_tests)

pub one_below-le : (n k : ℕ) → one_below n k ≤ 1
one_below-le n k = grind (arith, nat_tests)

up_from-past : (x a n : ℕ) → x < a → up_from (hit x) a n ≡ 0
up_from-past x a zero past = refl
up_from-past x a (suc n) past = let none = hit-other x a (λ (is : x ≡ a). omega arith) in
    omega (arith, up_from-past x (a + 1) n (omega arith))

up_from-hit_by : (x a n : ℕ) → ((a' : ℕ) → a' ≤ x → x < a' + n → up_from (hit x) a' n ≡ 1) → a ≤ x → x < a + suc n → Dec (x ≡ a)
    → up_from (hit x) a (suc n) ≡ 1
up_from-hit_by x a n later low high (yes is) = let one = hit-same x a is in omega (arith, up_from-past x (a + 1) n (omega arith))
up_from-hit_by x a n later low high (no other) = let none = hit-other x a other in omega (arith, later (a + 1) (omega arith) (omega arith))

up_from-hit : (x a n : ℕ) → a ≤ x → x < a + n → up_from (hit x) a n ≡ 1
up_from-hit x a zero low high = absurd (omega arith)
up_from-hit x a (suc n) low high = up_from-hit_by x a n (λ a' low' high'. up_from-hit x a' n low' high') low high (ℕ_discrete x a)

pub up_from-le : (f : ℕ → ℕ) (m a n : ℕ) → ((c : ℕ) → f c ≤ m) → up_from f a n ≤ n * m
up_from-le f m a zero le = omega arith
up_from-le f m a (suc n) le = omega (arith, le a, up_from-le f m (a + 1) n le, suc-mul n m)

-- how many entries each processor has
abbrev pub count_of : List Entry → ℕ → ℕ
count_of history c = length (entries_of c history)

count_of-cons_by : (x : Entry) (xs : List Entry) (c : ℕ) (b : Bool) → eqb x.processor c ≡ b
    → count_of (x ∷ xs) c ≡ hit x.processor c + count_of xs c
count_of-cons_by x xs c true is = rw is (omega arith)
count_of-cons_by x xs c false is = rw is (omega arith)

count_of-cons : (x : Entry) (xs : List Entry) (c : ℕ) → count_of (x ∷ xs) c ≡ hit x.processor c + count_of xs c
count_of-cons x xs c = count_of-cons_by x xs c (eqb x.processor c) refl

-- a history is as long as the lists of its processors together
pub length_by_processors : (n : ℕ) (history : List Entry) → AllByRecursion (λ (e : Entry). e.processor < n) history
    → length history ≡ up_from (count_of history) 0 n
length_by_processors n [] all = sym (up_from-zero 0 n)
length_by_processors n (x ∷ xs) all =
    let rest = length_by_processors n xs all.1 in
    let one = up_from-hit x.processor 0 n (omega arith) (omega (arith, all.0)) in
    let split = up_from-same (count_of (x ∷ xs)) (λ c. hit x.processor c + count_of xs c) 0 n (count_of-cons x xs) in
    omega (arith, up_from-add (hit x.processor) (count_of xs) 0 n)

processors_follow : (g : Given) (before es : List Entry) → AllFollow g before es
    → AllByRecursion (λ (e : Entry). e.processor < length g.marks) es
processors_follow g before [] all = tt
processors_follow g before (x ∷ xs) all = (all.0.processor, processors_follow g (before ++ x ∷ []) xs all.1)

-- the entries of a legal history are of the setting's processors
pub processors_of : (g : Given) (history : List Entry) → IsLegal g history
    → AllByRecursion (λ (e : Entry). e.processor < length g.marks) history
processors_of g history legal = processors_follow g [] history legal

pub length_bound : (g : Given) (history : List Entry) (m : ℕ) → IsLegal g history → ((c : ℕ) → count_of history c ≤ m)
    → length history ≤ length g.marks * m
length_bound g history m legal short = omega (
  arith,
  length_by_processors (length g.marks) history (processors_of g history legal),
  up_from-le (count_of history) m 0 (length g.marks) short,
)
