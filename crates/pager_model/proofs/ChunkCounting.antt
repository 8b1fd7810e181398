-- One chunk less: the step on a block's count.
use Rattle.pager_model.proofs.ChunkSteps.{◌≡◌, ℕ, ◌-◌, ◌^◌, ◌<◌, List, [], ◌∷◌, refl, sym, subst, arith, full_share, SProp, ent, sep, ex, never, never_e, via, Logic, sem, Fml, Share, fsep, fex, fdead, flft, flent, finv, fnamed, Ptr, block_ptr, Sq, prop, ‵, ◌⊛◌, some, ◌$◌, ◌∵◌, !, qed, by, done, use1, use2, move, split, fsplit3, fjoin3, fpick, fpack, pick, rewrite, suffices, frame, assume, check, show}
use seplogic.Ra.Ura.{Ura}
use base.Logic.{guard, upd, upd_i, ex_i, wand}
use mathlib.Core.Bool.{Bool, true, false}
use mathlib.Core.List.{Mem, not-mem-nil}
use native.Mathlib.Decide.{ℕ_discrete}
use types.Kit.{each}
use types.RcWeak.{part, rest, gives, whole, Fine}
use Rattle.std.specs.Sync.RawAtomic.{Shift, enters, leaves, ends, rests, along, shifted, found, back, if_none, always, asks, word}
use Rattle.std.specs.Thread.Scope.{refcount_state, refcount_if_alive}
use Rattle.pager_model.specs.ChunkOwnership.{lent_out, counted, last_has, one_less}

down : (n : ℕ) → 0 < n → n < 2 ^ 63 → one_less n ≡ n - 1
down n any few = omega arith

module _ {M : Type 1} {𝓤 : Ura M} (𝓛 : Logic 𝓤) (b o a j : ℕ) where
  open 𝓛 use {H, A}

  abbrev p : Ptr
  p = block_ptr b o

  abbrev I : Fml
  I = counted p a

  abbrev Opened : List (ℕ × Fml)
  Opened = (j, I) ∷ []

  abbrev Closes : ℕ → SProp 𝓤
  Closes n = shifted 𝓛 (if_none 𝓛 (sem 𝓛 (last_has p a n))) Opened

  -- the ways on from there
  abbrev Ways : ℕ → Shift → SProp 𝓤
  Ways n s = along 𝓛 s (if_none 𝓛 (sem 𝓛 (last_has p a n))) Opened

  abbrev Last : Fml
  Last = fsep (word b o 0) (fsep (fdead (a ∷ [])) (flent (a ∷ []) (lent_out p)))

  -- a chunk of several is given back
  one_of_several : (n : ℕ) → 1 < n → n < 2 ^ 63 → Sq 𝓛 (‵ (word b o (one_less n)) ∷ ‵ (rest 63 a n) ∷ ‵ (flent (a ∷ []) (lent_out p)) ∷ ‵
      (part 63 a) ∷ []) (prop (Closes n))
  one_of_several n many few =
      suffices ! _ (ex_i 𝓤 (Ways n) (leaves rests)) $ suffices ! _ (upd_i 𝓤 (sep 𝓤 (sem 𝓛 I) (upd 𝓤 (sem 𝓛 (last_has p a n))))) $
      rewrite ! 0 (λ (m : ℕ). ‵ (word b o m)) (down n (omega arith) few) refl $ move ! (1 ∷ 3 ∷ []) $ use2 𝓛 (‵ (rest 63 a (n - 1)))
      (gives 63 𝓛 a n many) $ move ! (1 ∷ 0 ∷ 2 ∷ []) $ fjoin3 ! $
      fpack ! ℕ (refcount_state (lent_out p) b o a) (n - 1) $ fpack ! Bool
      (refcount_if_alive (lent_out p) b o a) true $ frame ! $ suffices ! _ (upd_i 𝓤 (sem 𝓛 (last_has p a n))) $
      each ! (λ (_ : n ≡ 1). sem 𝓛 Last) (λ e. absurd (omega arith))

  -- the last is
  last_one : Sq 𝓛 (‵ (word b o (one_less 1)) ∷ ‵ (rest 63 a 1) ∷ ‵ (flent (a ∷ []) (lent_out p)) ∷ ‵ (part 63 a) ∷ []) (prop (Closes 1))
  last_one =
      suffices ! _ (ex_i 𝓤 (Ways 1) (ends a (leaves rests))) $ suffices ! _
      (upd_i 𝓤 (sep 𝓤 (A.lft (a ∷ []) full_share) (wand 𝓤 (A.dead (a ∷ []))
      (along 𝓛 (leaves rests) (if_none 𝓛 (sem 𝓛 (last_has p a 1))) Opened)))) $
      move ! (1 ∷ 3 ∷ []) $ use2 𝓛 (‵ (flft (a ∷ []) full_share)) (whole 63 𝓛 a) $ frame ! $ assume ! (‵ (fdead (a ∷ []))) $
      suffices ! _ (upd_i 𝓤 (sep 𝓤 (sem 𝓛 I) (upd 𝓤 (sem 𝓛 (last_has p a 1))))) $ use1 𝓛 (‵ (fdead (a ∷ [])) ⊛ ‵ (fdead (a ∷ [])))
      (𝓛.lfts.dead_dup (a ∷ [])) $ split ! $
      fpack ! Bool (refcount_if_alive (lent_out p) b o a) false $ frame ! $ suffices ! _ (upd_i 𝓤 (sem 𝓛 (last_has p a 1))) $
      each ! (λ (_ : 1 ≡ 1). sem 𝓛 Last) (λ _. move ! (1 ∷ 0 ∷ 2 ∷ []) $ fjoin3 ! $ done !)

  found_at : (n : ℕ) → 0 < n → n < 2 ^ 63 → Dec (n ≡ 1) → Sq 𝓛 (‵ (word b o (one_less n)) ∷ ‵ (rest 63 a n) ∷ ‵
      (flent (a ∷ []) (lent_out p)) ∷ ‵ (part 63 a) ∷ []) (prop (Closes n))
  found_at n any few (yes e) = subst
      (λ (m : ℕ). Sq 𝓛 (‵ (word b o (one_less m)) ∷ ‵ (rest 63 a m) ∷ ‵ (flent (a ∷ []) (lent_out p)) ∷ ‵ (part 63 a) ∷ [])
      (prop (Closes m))) (sym e) last_one
  found_at n any few (no h) = one_of_several n (omega arith) few

  abbrev Finds : SProp 𝓤
  Finds = ex 𝓤 (found 𝓛 Opened b o one_less always (last_has p a))

  by_state : (y : Bool) → Sq 𝓛 (‵ (refcount_if_alive (lent_out p) b o a y) ∷ ‵ (part 63 a) ∷ []) (prop Finds)
  by_state true = fpick ! (λ n. fsplit3 ! $ move ! (1 ∷ []) $ fpick ! (λ r. fpick ! (λ c.
      fpack ! (Fine 63 n r) (λ _. flft (a ∷ []) r) c $ fpack ! Share (λ s. fex (Fine 63 n s) (λ _. flft (a ∷ []) s)) r $ move ! (1 ∷ []) $
      show ! (found 𝓛 Opened b o one_less always (last_has p a)) n $ frame ! $ each !
      (λ (_ : always n). back 𝓛 Opened b o one_less (last_has p a) n) (λ _.
      assume ! (‵ (word b o (one_less n))) $ found_at n c.0 c.1 (ℕ_discrete n 1)))))
  by_state false = move ! (1 ∷ []) $ fpick ! (λ e. fpick ! (λ c. by ! (via 𝓤 (never 𝓤) (𝓛.lfts.lft-dead (a ∷ []) e) (never_e 𝓤 Finds))))

-- who has a part of the token may take the step
pub steps : {M : Type 1} {𝓤 : Ura M} (𝓛 : Logic 𝓤) (b o a : ℕ) → ent 𝓤
    (sep 𝓤 (sem 𝓛 (finv (counted (block_ptr b o) a))) (sem 𝓛 (part 63 a)))
    (asks 𝓛 (block_ptr b o) one_less always (last_has (block_ptr b o) a))
steps {𝓤 = 𝓤} 𝓛 b o a =
    let I = counted (block_ptr b o) a in
    qed 𝓛 (‵ (finv I) ∷ ‵ (part 63 a) ∷ []) ∵ use1 𝓛 (some (λ (j : ℕ). ‵ (fnamed j I))) (𝓛.invs.inv_named I) $ pick ! (λ j.
    suffices ! _ (ex_i 𝓤 (λ (s : Shift). along 𝓛 s (λ L. ex 𝓤 (found 𝓛 L b o one_less always (last_has (block_ptr b o) a))) [])
    (enters j I rests)) $
    suffices ! _ (upd_i 𝓤 (guard 𝓤 (¬ Mem j []) (sep 𝓤 (𝓛.A.named j I) (wand 𝓤 (sem 𝓛 I) (upd 𝓤 (Finds 𝓛 b o a j)))))) $ check !
    (λ m. not-mem-nil m) $ frame ! $ assume ! (‵ I) $
    fpick ! (λ y. suffices ! _ (upd_i 𝓤 (Finds 𝓛 b o a j)) $ by_state 𝓛 b o a j y))
