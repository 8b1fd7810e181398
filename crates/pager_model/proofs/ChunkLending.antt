-- How a block is lent to its chunks: each gets a part of the token, by which it holds its words.
use Rattle.pager_model.proofs.ChunkSteps.{◌≡◌, ℕ, zero, suc, ◌+◌, ◌-◌, ◌*◌, ◌<◌, ◌≤◌, [], ◌∷◌, refl, sym, lit<, arith, w64, full_share, ent, id⊢, sep, Logic, sem, Share, fsep, fex, fat, flft, fbor, fobor, finv, ty_int, vint, u64, Ptr, block_ptr, ◌+ₚ◌, ‵, raw, ◌⊛◌, later, ◌$◌, ◌∵◌, !, qed, done, use0, use1, use2, move, drop, split, fsplit, fsplit3, fjoin, fjoin3, fpick, fpack, rewrite, nothing, updating, await, now}
use seplogic.Ra.Ura.{Ura}
use base.FractionLaws.{Counts, Counts-all}
use base.Fml.{Incl-refl}
use base.Logic.{emp}
use mathlib.Core.Bool.{Bool, true}
use types.RcWeak.{part, part_in, rest, cut, takes}
use types.Tokens.{lft_new, bor_new, bor_open}
use denote.Shares.{bor-Cut}
use Rattle.std.specs.Allocator.{array_of}
use Rattle.std.specs.Thread.Scope.{refcount_state, refcount_if_alive}
use Rattle.pager_model.specs.ChunkOwnership.{words_at, lent_out, counted, parts, block_rest, block_owns, key_way, may_free}
use Rattle.pager_model.proofs.ChunkWords.{words_cut, words_glue}

one_more : (k : ℕ) → k + 1 ≡ suc k
one_more k = omega arith

one_room : (k : ℕ) → k * 1024 + 1024 ≡ suc k * 1024
one_room k = omega arith

fills : (m : ℕ) → m ≤ 65536 → m + (65536 - m) ≡ 65536
fills m fits = omega arith

module _ {M : Type 1} {𝓤 : Ura M} (𝓛 : Logic 𝓤) where
  open 𝓛 use {H, A}

  -- of the borrow of a whole block, the borrow of its first words
  shrunk : (m : ℕ) → m ≤ 65536 → (p : Ptr) (a : ℕ) (e : Share) → ent 𝓤 (sep 𝓤 (A.bor (a ∷ []) (lent_out p)) (A.lft (a ∷ []) e))
      (H.⇛ (sep 𝓤 (A.bor (a ∷ []) (words_at m (p +ₚ 8))) (A.lft (a ∷ []) e)))
  shrunk m fits p a e =
      let q = p +ₚ 8 in let n = 65536 - m in let C = may_free (array_of u64 65537) p in let Q = fsep (words_at n (q +ₚ m * 8)) C in
      qed 𝓛 (‵ (fbor (a ∷ []) (lent_out p)) ∷ ‵ (flft (a ∷ []) e) ∷ []) ∵ updating ! $
      use2 𝓛 (later (‵ (fbor (a ∷ []) (words_at m q)) ⊛ ‵ (fbor (a ∷ []) Q) ⊛ ‵ (flft (a ∷ []) e)))
      (bor-Cut 𝓛 (a ∷ []) ((a ∷ [], e) ∷ []) (Incl-refl (a ∷ [])) (lent_out p) (words_at m q) Q (emp 𝓤)
      (qed 𝓛 (‵ (words_at m q) ∷ ‵ Q ∷ raw (emp 𝓤) ∷ []) ∵ move ! (1 ∷ []) $ fsplit ! $ move ! (2 ∷ 0 ∷ []) $ use2 𝓛
      (‵ (words_at (m + n) q)) (words_glue 𝓛 m n q) $
      rewrite ! 0 (λ (j : ℕ). ‵ (words_at j q)) (fills m fits) refl $ move ! (2 ∷ []) $ drop ! $ done !)
      (qed 𝓛 (‵ (words_at 65536 q) ∷ ‵ C ∷ []) ∵ rewrite ! 0 (λ (j : ℕ). ‵ (words_at j q)) (sym (fills m fits)) refl $ use1 𝓛
      (‵ (words_at m q) ⊛ ‵ (words_at n (q +ₚ m * 8))) (words_cut 𝓛 m n q) $ split ! $
      move ! (1 ∷ 2 ∷ []) $ fjoin ! $ use0 𝓛 (raw (emp 𝓤)) (id⊢ 𝓤 (emp 𝓤)) $ move ! (2 ∷ 1 ∷ 0 ∷ []) $ done !)) $
      await ! tt $ split ! $ move ! (1 ∷ []) $ split ! $ drop ! $ now ! $ move ! (1 ∷ 0 ∷ []) $ done !

  -- k parts of the token are cut off, one after another
  pub spread : (a k : ℕ) → k < 64 → ent 𝓤 (sep 𝓤 (sem 𝓛 (rest 63 a 1)) (sem 𝓛 (part 63 a)))
      (sep 𝓤 (sem 𝓛 (rest 63 a (suc k))) (sem 𝓛 (parts a (suc k))))
  spread a zero few = qed 𝓛 (‵ (rest 63 a 1) ∷ ‵ (part 63 a) ∷ []) ∵ nothing ! $ move ! (2 ∷ 0 ∷ []) $ fjoin ! $ move !
      (1 ∷ 0 ∷ []) $ done !
  spread a (suc k) few =
      qed 𝓛 (‵ (rest 63 a 1) ∷ ‵ (part 63 a) ∷ []) ∵ use2 𝓛 (‵ (rest 63 a (suc k)) ⊛ ‵ (parts a (suc k)))
      (spread a k (omega arith)) $ split ! $
      use1 𝓛 (‵ (rest 63 a (suc k + 1)) ⊛ ‵ (part 63 a)) (takes 63 𝓛 a (suc k) (omega arith)) $ split ! $ rewrite ! 0
      (λ (j : ℕ). ‵ (rest 63 a j)) (one_more (suc k)) refl $ move ! (1 ∷ 2 ∷ []) $ fjoin ! $ move ! (1 ∷ 0 ∷ []) $ done !

  -- a block whose count is written is shared out
  block_made : (b o k : ℕ) → k < 64 → ent 𝓤 (sep 𝓤 (sem 𝓛 (fat full_share (ty_int w64) b o (vint w64 (suc k))))
      (sem 𝓛 (lent_out (block_ptr b o)))) (H.⇛ (sem 𝓛 (block_owns (block_ptr b o) (suc k))))
  block_made b o k few =
      let p = block_ptr b o in let P = lent_out p in
      qed 𝓛 (‵ (fat full_share (ty_int w64) b o (vint w64 (suc k))) ∷ ‵ P ∷ []) ∵ updating ! $ lft_new ! tt (λ a.
      use1 𝓛 (‵ (rest 63 a 1) ⊛ ‵ (part 63 a)) (cut 63 𝓛 a 0 full_share (lit< tt) (Counts-all 63)) $
      use1 𝓛 (‵ (rest 63 a (suc k)) ⊛ ‵ (parts a (suc k))) (spread a k few) $ split ! $ move ! (3 ∷ []) $ bor_new ! tt (a ∷ []) $
      -- [the borrow; the lender's right; what is left of the token; the parts; the count]
      move ! (4 ∷ 2 ∷ 1 ∷ []) $ fjoin3 ! $ fpack ! ℕ (refcount_state P b o a) (suc k) $ fpack ! Bool (refcount_if_alive P b o a) true $
      use1 𝓛 (later (‵ (finv (counted p a)))) (𝓛.invs.inv_new (counted p a)) $ await ! tt $
      -- [the invariant; the borrow; the parts]
      move ! (2 ∷ []) $ fsplit ! $ fpick ! (λ e. fpick ! (λ c. move ! (3 ∷ 0 ∷ []) $
      use2 𝓛 (later (‵ (fbor (a ∷ []) (words_at (suc k * 1024) (p +ₚ 8))) ⊛ ‵ (flft (a ∷ []) e)))
      (shrunk (suc k * 1024) (omega arith) p a e) $ await ! tt $ split ! $ move ! (1 ∷ []) $
      use1 𝓛 (‵ (part 63 a)) (part_in 63 𝓛 a e c) $ move ! (0 ∷ 2 ∷ []) $ fjoin ! $ move ! (2 ∷ 0 ∷ 1 ∷ []) $ fjoin3 ! $ fpack ! ℕ
      (block_rest p (suc k)) a $ now ! $ done !)))

  pub block_shared : (b o n : ℕ) → 0 < n → n ≤ 64 → ent 𝓤 (sep 𝓤 (sem 𝓛 (fat full_share (ty_int w64) b o (vint w64 n)))
      (sem 𝓛 (lent_out (block_ptr b o)))) (H.⇛ (sem 𝓛 (block_owns (block_ptr b o) n)))
  block_shared b o zero any few = absurd (omega (arith, any))
  block_shared b o (suc k) any few = block_made b o k (omega (arith, few))

  -- the last of the chunks that nobody has
  abbrev pub next_chunk : Ptr → ℕ → Ptr
  next_chunk p k = (p +ₚ 8) +ₚ k * 1024 * 8

  -- it is taken out of the borrow, which is opened for good by a part of the token
  pub chunk_taken : (p : Ptr) (a k : ℕ)
      → ent 𝓤 (sem 𝓛 (block_rest p (suc k) a))
      (H.⇛ (sep 𝓤 (sem 𝓛 (words_at 1024 (next_chunk p k))) (sep 𝓤 (sem 𝓛 (fex Share (key_way p (next_chunk p k) a)))
      (sem 𝓛 (block_rest p k a)))))
  chunk_taken p a k =
      let q = p +ₚ 8 in let r = next_chunk p k in let I = counted p a in let Front = words_at (k * 1024) q in let Chunk = words_at 1024 r in
      qed 𝓛 (‵ (block_rest p (suc k) a) ∷ []) ∵ updating ! $ fsplit3 ! $ use1 𝓛 (‵ (finv I) ⊛ ‵ (finv I))
      (𝓛.invs.inv_dup I) $ split ! $ move ! (2 ∷ []) $ fsplit ! $ fpick ! (λ e. fpick ! (λ c. move ! (4 ∷ 0 ∷ []) $
      -- [the borrow; a part of the token; the other parts; the invariant, twice]
      use2 𝓛 (later (‵ (fbor (a ∷ []) Front) ⊛ ‵ (fbor (a ∷ []) Chunk) ⊛ ‵ (flft (a ∷ []) e)))
      (bor-Cut 𝓛 (a ∷ []) ((a ∷ [], e) ∷ []) (Incl-refl (a ∷ [])) (words_at (suc k * 1024) q) Front Chunk (emp 𝓤)
      (qed 𝓛 (‵ Front ∷ ‵ Chunk ∷ raw (emp 𝓤) ∷ []) ∵ use2 𝓛 (‵ (words_at (k * 1024 + 1024) q))
      (words_glue 𝓛 (k * 1024) 1024 q) $ rewrite ! 0 (λ (j : ℕ). ‵ (words_at j q)) (one_room k) refl $ move !
      (1 ∷ []) $ drop ! $ done !)
      (qed 𝓛 (‵ (words_at (suc k * 1024) q) ∷ []) ∵ rewrite ! 0 (λ (j : ℕ). ‵ (words_at j q)) (sym (one_room k)) refl $ use1 𝓛
      (‵ Front ⊛ ‵ Chunk) (words_cut 𝓛 (k * 1024) 1024 q) $ split ! $
      use0 𝓛 (raw (emp 𝓤)) (id⊢ 𝓤 (emp 𝓤)) $ move ! (1 ∷ 2 ∷ 0 ∷ []) $ done !)) $
      await ! tt $ split ! $ move ! (1 ∷ []) $ split ! $ bor_open ! tt $
      -- [the open borrow; the chunk; the borrow of the chunks before it; the other parts; the invariant, twice]
      move ! (4 ∷ 0 ∷ []) $ fjoin ! $ fpack ! (Counts 63 e 1) (λ _. fsep (finv I) (fobor (a ∷ []) e Chunk)) c $ fpack ! Share
      (key_way p r a) e $
      move ! (4 ∷ 3 ∷ 2 ∷ []) $ fjoin3 ! $ now ! $ move ! (2 ∷ 1 ∷ 0 ∷ []) $ done !))
