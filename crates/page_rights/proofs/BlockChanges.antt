-- What becomes of the rights of pages as blocks get one value, a leaf, or other rights in a part of a leaf.
use Rattle.std.proofs.Common.{◌≡◌, ◌≢◌, ℕ, zero, suc, ◌+◌, ◌-◌, ◌*◌, ◌/◌, ◌%◌, ◌<◌, ◌≤◌, cond, if◌then◌else◌, List, [], ◌∷◌, Option, Some, None, length, replicate, slice_index_or, slice_set, is_some, nat_le, nat_lt, ◌&&◌, refl, sym, ap, inl, inr, ◌∙◌, arith, unwrap_or, IfSome, IfNone, false}
use Rattle.std.specs.List.{count_by}
use Rattle.std.proofs.lemmas.Bool.{cases_Bool, cases_eq, cond-true, cond-false}
use Rattle.std.proofs.lemmas.Bool.Decides.{nat_tests}
use Rattle.std.proofs.lemmas.List.{get_or-set_other, get_or-set_same, length-set, get_or-replicate, length-replicate, get_or_append_left, length-append}
use Rattle.std.proofs.lemmas.List.Sums.{sum_by-set, count_by-le-length}
use Rattle.std.proofs.lemmas.Option.{none-some, same_Some}
use Rattle.std.proofs.Math.Seq.{get_or-append_seam}
use Rattle.pager_model.proofs.Lists.{get_or-alike}
use Rattle.pager_model.specs.declared.region.Rights.{Rights}
use Rattle.pager_model.specs.declared.region.Rights.TheVariants.{NoAccess, Read, Write}
use Rattle.page_rights.specs.Kept.{IsTree, with_leaf}
use Rattle.page_rights.specs.Rights.{RightsTree, uniform, all_of, leaf_in, block_at, number_at, leaf_of, leaf_at, rights_by, rights_of}
use Rattle.page_rights.specs.declared.block.Block.{Block}
use Rattle.page_rights.specs.declared.block.Block.TheVariants.{Unset, Closed, Reads, Writes, Mixed}

-- only a number that a block has is that of its leaf
number-of : (b : Block) (number : Option ℕ) (k : ℕ) → leaf_in b number ≡ Some k → number ≡ Some k
number-of Unset number k is = absurd (none-some k is)
number-of Closed number k is = absurd (none-some k is)
number-of Reads number k is = absurd (none-some k is)
number-of Writes number k is = absurd (none-some k is)
number-of Mixed number k is = is

uniform-leaf : (rights : Option Rights) (number : Option ℕ) → leaf_in (uniform rights) number ≡ None
uniform-leaf None number = refl
uniform-leaf (Some NoAccess) number = refl
uniform-leaf (Some Read) number = refl
uniform-leaf (Some Write) number = refl

uniform-all : (rights : Option Rights) → all_of (uniform rights) ≡ rights
uniform-all None = refl
uniform-all (Some NoAccess) = refl
uniform-all (Some Read) = refl
uniform-all (Some Write) = refl

rights_of-is : (t : RightsTree) (p : ℕ) → rights_of t p ≡ rights_by t (leaf_of t (p / 512)) (all_of (block_at t (p / 512))) (p % 512)
unfolding rights_of
rights_of-is t p = refl

-- the rights of a page of a block that has a leaf, or has none
pub rights_of-leaf : (t : RightsTree) (p block leaf : ℕ) → p / 512 ≡ block → leaf_of t block ≡ Some leaf
    → rights_of t p ≡ slice_index_or (leaf_at t leaf) (p % 512) None
rights_of-leaf t p block leaf here is =
    rights_of-is t p
    ∙ ap (λ o. rights_by t o (all_of (block_at t (p / 512))) (p % 512)) (ap (leaf_of t) here ∙ is)

pub rights_of-all : (t : RightsTree) (p block : ℕ) → p / 512 ≡ block → leaf_of t block ≡ None → rights_of t p ≡ all_of (block_at t block)
rights_of-all t p block here is =
    rights_of-is t p
    ∙ ap (λ o. rights_by t o (all_of (block_at t (p / 512))) (p % 512)) (ap (leaf_of t) here ∙ is)
    ∙ ap (λ n. all_of (block_at t n)) here

pub rights_of-uniform : (t : RightsTree) (p block : ℕ) (rights : Option Rights) → p / 512 ≡ block → block_at t block ≡ uniform rights
    → rights_of t p ≡ rights
rights_of-uniform t p block rights here is =
    rights_of-all t p block here (ap (λ b. leaf_in b (number_at t block)) is ∙ uniform-leaf rights (number_at t block))
    ∙ ap all_of is
    ∙ uniform-all rights

-- a page has the rights that it had where its block and leaf are as before
rights_by-same : (t u : RightsTree) (leaf : Option ℕ) (all : Option Rights) (i : ℕ) → ((k : ℕ) → leaf ≡ Some k → leaf_at u k ≡ leaf_at t k)
    → rights_by u leaf all i ≡ rights_by t leaf all i
rights_by-same t u None all i same = refl
rights_by-same t u (Some k) all i same = ap (λ (ls : List (Option Rights)). slice_index_or ls i None) (same k refl)

rights_of-same : (t u : RightsTree) (p : ℕ) → block_at u (p / 512) ≡ block_at t (p / 512) → number_at u (p / 512) ≡ number_at t (p / 512)
    → ((k : ℕ) → number_at t (p / 512) ≡ Some k → leaf_at u k ≡ leaf_at t k) → rights_of u p ≡ rights_of t p
rights_of-same t u p block number leaves =
    let b = p / 512 in
    rights_of-is u p
    ∙ ap (λ x. rights_by u (leaf_in x (number_at u b)) (all_of x) (p % 512)) block
    ∙ ap (λ n. rights_by u (leaf_in (block_at t b) n) (all_of (block_at t b)) (p % 512)) number
    ∙ rights_by-same t u (leaf_of t b) (all_of (block_at t b)) (p % 512) (λ k is. leaves k (number-of (block_at t b) (number_at t b) k is))
    ∙ sym (rights_of-is t p)

-- no page has rights at first
module _ (t : RightsTree) (blocks : t.blocks ≡ replicate 2048 Unset) (numbers : t.numbers ≡ replicate 2048 None) (leaves : t.leaves ≡ []) where
  unnumbered : (b : ℕ) → number_at t b ≡ None
  unnumbered b = ap (λ ns. slice_index_or ns b None) numbers ∙ get_or-alike 2048 b None

  pub none_at_first : (p : ℕ) → rights_of t p ≡ None
  none_at_first p = rights_of-uniform t p (p / 512) None refl (ap (λ bs. slice_index_or bs (p / 512) Unset) blocks ∙ get_or-alike 2048
      (p / 512) Unset)

  no_leaf : (n : ℕ) → count_by (λ (o : Option ℕ). is_some o) (replicate n None) ≡ 0
  no_leaf zero = refl
  no_leaf (suc n) = no_leaf n

  pub IsTree_at_first : IsTree t
  IsTree_at_first = record {
    blocks = ap length blocks ∙ length-replicate {A = Block} 2048 Unset;
    numbers = ap length numbers ∙ length-replicate {A = Option ℕ} 2048 None;
    count = ap length leaves ∙ sym (ap (count_by is_some) numbers ∙ no_leaf 2048);
    known = λ b n is. absurd (none-some n (sym (unnumbered b) ∙ is));
    apart = λ b c n is other. absurd (none-some n (sym (unnumbered b) ∙ is));
  }

-- some blocks have these rights for all their pages
module _ (t : RightsTree) (blocks : List Block) where
  abbrev pub with_blocks : RightsTree
  with_blocks = record t { blocks = blocks }

  pub with_blocks-tree : IsTree t → length blocks ≡ length t.blocks → IsTree with_blocks
  with_blocks-tree tree long = record {
    blocks = long ∙ tree.blocks;
    numbers = tree.numbers;
    count = tree.count;
    known = tree.known;
    apart = tree.apart;
  }

  pub whole_rights : (low high : ℕ) (rights : Option Rights)
      → ((b : ℕ) → slice_index_or blocks b Unset ≡ (if nat_le low b && nat_lt b high then uniform rights else block_at t b))
      → (p : ℕ) → rights_of with_blocks p ≡ (if nat_le low (p / 512) && nat_lt (p / 512) high then rights else rights_of t p)
  whole_rights low high rights at p =
      let b = p / 512 in
      let inside = nat_le low b && nat_lt b high in
      elim (cases_Bool inside) [
        | inl is ↦
            rights_of-uniform with_blocks p b rights refl (at b ∙ cond-true _ (uniform rights) (block_at t b) is)
            ∙ sym (cond-true _ rights (rights_of t p) is)
        | inr not ↦
            rights_of-same t with_blocks p (at b ∙ cond-false _ (uniform rights) (block_at t b) not) refl (λ k is. refl)
            ∙ sym (cond-false _ rights (rights_of t p) not)
      ]

-- a block gets a leaf of this number, and the leaves are these
abbrev pub with_number : RightsTree → ℕ → ℕ → List (List (Option Rights)) → RightsTree
with_number t block n leaves = record {
  blocks = slice_set t.blocks block Mixed;
  numbers = slice_set t.numbers block (Some n);
  leaves = leaves;
}

module _ (t : RightsTree) (tree : IsTree t) (block : ℕ) (within : block < 2048) where
  block_here : block_at (with_number t block 0 []) block ≡ Mixed
  block_here = get_or-set_same t.blocks block Mixed Unset (omega (arith, within, tree.blocks))

  number_here : (n : ℕ) → slice_index_or (slice_set t.numbers block (Some n)) block None ≡ Some n
  number_here n = get_or-set_same t.numbers block (Some n) None (omega (arith, within, tree.numbers))

  number_elsewhere : (n c : ℕ) → c ≢ block → slice_index_or (slice_set t.numbers block (Some n)) c None ≡ number_at t c
  number_elsewhere n c other = get_or-set_other t.numbers block c (Some n) None other

  -- its leaf has this number then
  pub mixed_leaf : (n : ℕ) (leaves : List (List (Option Rights))) → leaf_of (with_number t block n leaves) block ≡ Some n
  mixed_leaf n leaves = ap (λ b. leaf_in b (slice_index_or (slice_set t.numbers block (Some n)) block None)) block_here ∙ number_here n

  count_changed : (n : ℕ) → count_by is_some (slice_set t.numbers block (Some n)) + cond
      (is_some (number_at t block)) 1 0 ≡ count_by is_some t.numbers + 1
  count_changed n = sum_by-set (λ (o : Option ℕ). cond (is_some o) 1 0) t.numbers block (Some n) None (omega (arith, within, tree.numbers))

  pub mixed_known : (number : Option ℕ) → number_at t block ≡ number → IfSome number (λ n. n < length t.leaves)
  mixed_known None is = tt
  mixed_known (Some n) is = tree.known block n is

  pub mixed_room : (number : Option ℕ) → number_at t block ≡ number → IfNone number (length t.leaves < 2048)
  mixed_room None is =
      omega (
        arith,
        tree.count,
        tree.numbers,
        count_changed 0,
        ap {B = ℕ} (λ (o : Option ℕ). cond (is_some o) 1 0) is,
        count_by-le-length is_some (slice_set t.numbers block (Some 0)),
        length-set t.numbers block (Some 0),
      )
  mixed_room (Some n) is = tt

  module _ (filled : List (Option Rights)) where
    abbrev pub mixed : Option ℕ → RightsTree
    mixed number = with_number t block (unwrap_or number (length t.leaves)) (with_leaf number filled t.leaves)

    pub mixed_tree : (number : Option ℕ) → number_at t block ≡ number → IsTree (mixed number)
    mixed_tree (Some n) is =
        let after = mixed (Some n) in
        let number-is : (c : ℕ) → number_at after c ≡ number_at t c = λ c. elim (cases_eq c block) [
          | inl e ↦ rw e (number_here n ∙ sym is)
          | inr other ↦ number_elsewhere n c other
        ] in
        let long : length after.leaves ≡ length t.leaves = length-set t.leaves n filled in
        record {
          blocks = length-set t.blocks block Mixed ∙ tree.blocks;
          numbers = length-set t.numbers block (Some n) ∙ tree.numbers;
          count = omega (arith, long, tree.count, count_changed n, ap {B = ℕ} (λ (o : Option ℕ). cond (is_some o) 1 0) is);
          known = λ c m at. omega (arith, long, tree.known c m (sym (number-is c) ∙ at));
          apart = λ c d m at also. tree.apart c d m (sym (number-is c) ∙ at) (sym (number-is d) ∙ also);
        }
    mixed_tree None is =
        let n = length t.leaves in
        let after = mixed None in
        let long : length after.leaves ≡ n + 1 = length-append t.leaves (filled ∷ []) in
        let here : number_at after block ≡ Some n = number_here n in
        let elsewhere : (c : ℕ) → c ≢ block → number_at after c ≡ number_at t c = number_elsewhere n in
        record {
          blocks = length-set t.blocks block Mixed ∙ tree.blocks;
          numbers = length-set t.numbers block (Some n) ∙ tree.numbers;
          count = omega (arith, long, tree.count, count_changed n, ap {B = ℕ} (λ (o : Option ℕ). cond (is_some o) 1 0) is);
          known = λ c m at. elim (cases_eq c block) [
            | inl e ↦ let same : n ≡ m = same_Some n m (sym here ∙ ap (number_at after) (sym e) ∙ at) in
                omega (arith, long, same)
            | inr other ↦ omega (arith, long, tree.known c m (sym (elsewhere c other) ∙ at))
          ];
          apart = λ c d m at also. elim (cases_eq c block) [
            | inl e ↦ elim (cases_eq d block) [
              | inl f ↦ e ∙ sym f
              | inr other ↦
                  let same : n ≡ m = same_Some n m (sym here ∙ ap (number_at after) (sym e) ∙ at) in
                  absurd (omega (arith, same, tree.known d m (sym (elsewhere d other) ∙ also)))
            ]
            | inr apart ↦ elim (cases_eq d block) [
              | inl f ↦
                  let same : n ≡ m = same_Some n m (sym here ∙ ap (number_at after) (sym f) ∙ also) in
                  absurd (omega (arith, same, tree.known c m (sym (elsewhere c apart) ∙ at)))
              | inr other ↦ tree.apart c d m (sym (elsewhere c apart) ∙ at) (sym (elsewhere d other) ∙ also)
            ]
          ];
        }

    -- the leaf that is written is this one
    leaf_written : (number : Option ℕ) → number_at t block ≡ number
        → slice_index_or (with_leaf number filled t.leaves) (unwrap_or number (length t.leaves)) [] ≡ filled
    leaf_written None is = get_or-append_seam t.leaves filled [] []
    leaf_written (Some n) is = get_or-set_same t.leaves n filled [] (tree.known block n is)

    leaf_unwritten : (number : Option ℕ) → number_at t block ≡ number → (c k : ℕ) → c ≢ block → number_at t c ≡ Some k
        → slice_index_or (with_leaf number filled t.leaves) k [] ≡ leaf_at t k
    leaf_unwritten None is c k other at = get_or_append_left t.leaves (filled ∷ []) [] k (tree.known c k at)
    leaf_unwritten (Some n) is c k other at = get_or-set_other t.leaves n k filled []
        (λ same. other (tree.apart c block k at (is ∙ ap Some (sym same))))

  -- a block of which all pages have the same rights has them in a leaf
  pub mixed_rights : (rights : Option Rights) → leaf_of t block ≡ None → all_of (block_at t block) ≡ rights
      → (number : Option ℕ) → number_at t block ≡ number → (p : ℕ) → rights_of (mixed (replicate 512 rights) number) p ≡ rights_of t p
  mixed_rights rights unmixed all number is p =
      let n = unwrap_or number (length t.leaves) in
      let filled = replicate 512 rights in
      let after = mixed filled number in
      elim (cases_eq (p / 512) block) [
        | inl here ↦
            rights_of-leaf after p block n here (mixed_leaf n after.leaves)
            ∙ ap (λ (ls : List (Option Rights)). slice_index_or ls (p % 512) None) (leaf_written filled number is)
            ∙ get_or-replicate 512 (p % 512) rights None (omega arith)
            ∙ sym (rights_of-all t p block here unmixed ∙ all)
        | inr other ↦ rights_of-same t after p
            (get_or-set_other t.blocks block (p / 512) Mixed Unset other)
            (number_elsewhere n (p / 512) other)
            (λ k at. leaf_unwritten filled number is (p / 512) k other at)
      ]

-- the leaf of a block is there
leaf_number : (t : RightsTree) (block n : ℕ) → leaf_of t block ≡ Some n → number_at t block ≡ Some n
leaf_number t block n is = number-of (block_at t block) (number_at t block) n is

pub leaf_there : (t : RightsTree) → IsTree t → (block n : ℕ) → leaf_of t block ≡ Some n → n < length t.leaves
leaf_there t tree block n is = tree.known block n (leaf_number t block n is)

-- other rights stand in it
module _ (t : RightsTree) (tree : IsTree t) (block n : ℕ) (is : leaf_of t block ≡ Some n) (written : List (Option Rights)) where
  abbrev pub rewritten : RightsTree
  rewritten = record t { leaves = slice_set t.leaves n written }

  pub rewritten_here : (p : ℕ) → p / 512 ≡ block → rights_of rewritten p ≡ slice_index_or written (p % 512) None
  rewritten_here p here =
      rights_of-leaf rewritten p block n here is
      ∙ ap (λ (ls : List (Option Rights)). slice_index_or ls (p % 512) None) (get_or-set_same t.leaves n written [] (leaf_there t tree block n is))

  pub rewritten_elsewhere : (p : ℕ) → p / 512 ≢ block → rights_of rewritten p ≡ rights_of t p
  rewritten_elsewhere p other = rights_of-same t rewritten p refl refl (λ k at. get_or-set_other t.leaves n k written []
      (λ same. other (tree.apart (p / 512) block k at (leaf_number t block n is ∙ ap Some (sym same)))))

  -- the pages of the block from one on and before another have these rights
  pub part_rights : (first end : ℕ) (rights : Option Rights) → first / 512 ≡ block → first ≤ end → end ≤ block * 512 + 512
      → ((i : ℕ) → slice_index_or written i None
      ≡ (if nat_le (first - block * 512) i && nat_lt i (end - block * 512) then rights else slice_index_or (leaf_at t n) i None))
      → (p : ℕ) → rights_of rewritten p ≡ (if nat_le first p && nat_lt p end then rights else rights_of t p)
  part_rights first end rights from order within at p = elim (cases_eq (p / 512) block) [
    | inl here ↦
        let shown : (nat_le (first - block * 512) (p % 512) && nat_lt (p % 512) (end - block * 512)) ≡ (nat_le first p && nat_lt p end) =
        grind (arith, nat_tests) in
        rewritten_here p here
        ∙ at (p % 512)
        ∙ ap (λ b. if b then rights else slice_index_or (leaf_at t n) (p % 512) None) shown
        ∙ ap (λ o. if nat_le first p && nat_lt p end then rights else o) (sym (rights_of-leaf t p block n here is))
    | inr other ↦
        let outside : (nat_le first p && nat_lt p end) ≡ false = grind (arith, nat_tests) in
        rewritten_elsewhere p other ∙ sym (cond-false _ rights (rights_of t p) outside)
  ]
