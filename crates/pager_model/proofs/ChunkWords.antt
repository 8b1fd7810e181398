-- Chunk for words is cut and joined, and is what a `Vec` owns that lies there.
use Rattle.pager_model.proofs.ChunkSteps.{◌≡◌, ℕ, zero, suc, ◌+◌, ◌-◌, ◌*◌, ◌^◌, ◌≤◌, List, [], ◌∷◌, refl, subst, ◌∙◌, arith, w64, full_share, ent, sep, never, never_e, Logic, sem, ty_int, ty_array, Val, flt, u64, Ptr, block_ptr, null_ptr, lies_at, ◌+ₚ◌, ‵, raw, ◌$◌, ◌∵◌, !, qed, by, done, use0, use1, use2, move, keep, drop, fsplit, fjoin, fpick, feq_i, feq_l, flt_i, rewrite, nothing}
use seplogic.Ra.Ura.{Ura}
use base.Logic.{emp}
use denote.Array.{Array, array_val}
use denote.ArrayMemory.{Array-whole}
use denote.Memory.{cell_raw, part_of}
use denote.RawPtr.Room.{past, room_cut, room_glue}
use Rattle.std.specs.Vec.Ownership.{lodged}
use Rattle.pager_model.specs.ChunkOwnership.{words_at}

past_words : (m o : ℕ) → past (ty_int w64) m o ≡ o + m * 8
past_words zero o = omega arith
past_words (suc m) o = past_words m (o + 8) ∙ omega arith

start : (k : ℕ) → k ≡ k + 0
start k = omega arith

rest : (k : ℕ) → k ≤ 1024 → k + (1024 - k) ≡ 1024
rest k fits = omega arith

module _ {M : Type 1} {𝓤 : Ura M} (𝓛 : Logic 𝓤) where
  open 𝓛 use {H}

  pub words_cut : (m n : ℕ) (p : Ptr) → ent 𝓤 (sem 𝓛 (words_at (m + n) p)) (sep 𝓤 (sem 𝓛 (words_at m p)) (sem 𝓛 (words_at n (p +ₚ m * 8))))
  words_cut m n (block_ptr b o) =
      subst (λ (k : ℕ). ent 𝓤 (sem 𝓛 (words_at (m + n) (block_ptr b o)))
      (sep 𝓤 (sem 𝓛 (words_at m (block_ptr b o))) (sem 𝓛 (words_at n (block_ptr b k))))) (past_words m o)
      (room_cut 𝓛 (ty_int w64) m n b o)
  words_cut m n null_ptr = never_e 𝓤 _

  pub words_glue : (m n : ℕ) (p : Ptr) → ent 𝓤 (sep 𝓤 (sem 𝓛 (words_at m p)) (sem 𝓛 (words_at n (p +ₚ m * 8)))) (sem 𝓛 (words_at (m + n) p))
  words_glue m n (block_ptr b o) =
      subst (λ (k : ℕ). ent 𝓤 (sep 𝓤 (sem 𝓛 (words_at m (block_ptr b o))) (sem 𝓛 (words_at n (block_ptr b k))))
      (sem 𝓛 (words_at (m + n) (block_ptr b o)))) (past_words m o) (room_glue 𝓛 (ty_int w64) m n b o)
  words_glue m n null_ptr = qed 𝓛 (raw (never 𝓤) ∷ raw (never 𝓤) ∷ []) ∵ drop ! $ by ! (never_e 𝓤 _)

  -- a list of no words lies anywhere
  no_words : (b o : ℕ) → ent 𝓤 (emp 𝓤) (sem 𝓛 (lies_at (Array u64 0) full_share (block_ptr b o) []))
  no_words b o = qed 𝓛 [] ∵ nothing ! $ feq_i ! ℕ 0 0 refl $ fjoin ! $ by ! (Array-whole 𝓛 u64 full_share 0 [] b o)

  pub lodged_in : (p : Ptr) → ent 𝓤 (sem 𝓛 (words_at 1024 p)) (sem 𝓛 (lodged u64 p 0 1024 []))
  lodged_in (block_ptr b o) =
      qed 𝓛 (‵ (words_at 1024 (block_ptr b o)) ∷ []) ∵ rewrite ! 0 (λ (k : ℕ). ‵ (words_at 1024 (block_ptr b k))) (start o) refl $
      nothing ! $ move ! (1 ∷ 0 ∷ []) $ fjoin ! $ use0 𝓛 (‵ (lies_at (Array u64 0) full_share (block_ptr b o) []))
      (no_words b o) $ fjoin ! $
      flt_i ! 8192 (2 ^ 63) (omega arith) $ fjoin ! $ done !
  lodged_in null_ptr = never_e 𝓤 _

  pub lodged_out : (n : ℕ) → n ≤ 1024 → (p : Ptr) (xs : List ℕ) → ent 𝓤 (sem 𝓛 (lodged u64 p n 1024 xs)) (sem 𝓛 (words_at 1024 p))
  unfolding part_of
  lodged_out n fits (block_ptr b o) xs =
      qed 𝓛 (‵ (lodged u64 (block_ptr b o) n 1024 xs) ∷ []) ∵ fsplit ! $ drop ! $ fsplit ! $ fpick !
      (λ vs. fsplit ! $ move ! (1 ∷ []) $ fpick ! (λ us. fsplit ! $ fsplit ! $ feq_l ! (λ e. drop ! $ drop ! $
      rewrite ! 0 (λ (ws : List Val). ‵ (cell_raw full_share (ty_array (ty_int w64) n ∷ []) ws b o)) e refl $ use1 𝓛
      (‵ (words_at n (block_ptr b o))) (𝓛.laws.at_room (ty_array (ty_int w64) n) b o (array_val us)) $
      move ! (1 ∷ []) $ fsplit ! $ move ! (2 ∷ 0 ∷ []) $ use2 𝓛 (‵ (words_at (n + (1024 - n)) (block_ptr b o)))
      (words_glue n (1024 - n) (block_ptr b o)) $
      rewrite ! 0 (λ (k : ℕ). ‵ (words_at k (block_ptr b o))) (rest n fits) refl $ keep ! (0 ∷ []) $ done !)))
  lodged_out n fits null_ptr xs = qed 𝓛 (‵ (flt 8192 (2 ^ 63)) ∷ raw (never 𝓤) ∷ []) ∵ drop ! $ by ! (never_e 𝓤 _)
