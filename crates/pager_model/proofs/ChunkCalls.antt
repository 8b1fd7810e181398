-- Large constants, and what a call of a generic function asks at types with no lifetime.
use Rattle.pager_model.proofs.ChunkSteps.{ℕ, List, [], SProp, Val, vint, ent, via, id⊢, sep, Logic, fact, raw, ◌$◌, ◌∵◌, !, qed, use0, done}
use seplogic.Ra.Ura.{Ura}
use base.Logic.{emp, guard_i}
use contract.Monad.{fact_i}
use mir.Syntax.{Width, int_big}
use mir.Val.{Fits}
use prog.Wp.{Env}
use types.Kit.{Item}
use types.Run.{Opd}

-- a constant of which a proof shows that it fits its width
pub big : {M : Type 1} {𝓤 : Ura M} {𝓛 : Logic 𝓤} {K : Type 0} {Γ : List (Item 𝓤)} {E : Env 𝓤 𝓛.H} → K → {w : Width} {n : ℕ} → Fits w n
    → Opd K 𝓛 Γ E (int_big w n) (vint w n)
big {𝓤 = 𝓤} t {w} {n} fits =
    record { go = λ (after : Val → SProp 𝓤) h. via 𝓤 (after (vint w n)) h (guard_i 𝓤 (Fits w n) (after (vint w n)) fits) }

module _ {M : Type 1} {𝓤 : Ura M} (𝓛 : Logic 𝓤) where
  pub one_met : (φ : Type 0) → φ → ent 𝓤 (emp 𝓤) (sep 𝓤 (fact 𝓤 φ) (emp 𝓤))
  one_met φ x = qed 𝓛 [] ∵ use0 𝓛 (raw (emp 𝓤)) (id⊢ 𝓤 _) $ use0 𝓛 (raw (fact 𝓤 φ)) (fact_i 𝓤 φ (emp 𝓤) x) $ done !

  pub two_met : (φ ψ : Type 0) → φ → ψ → ent 𝓤 (emp 𝓤) (sep 𝓤 (fact 𝓤 φ) (sep 𝓤 (fact 𝓤 ψ) (emp 𝓤)))
  two_met φ ψ x y = qed 𝓛 [] ∵ use0 𝓛 (raw (emp 𝓤)) (id⊢ 𝓤 _) $ use0 𝓛 (raw (fact 𝓤 ψ)) (fact_i 𝓤 ψ (emp 𝓤) y) $ use0 𝓛 (raw (fact 𝓤 φ))
      (fact_i 𝓤 φ (emp 𝓤) x) $ done !

  pub three_shown : (φ ψ χ : Type 0) → φ → ψ → χ → ent 𝓤 (emp 𝓤) (sep 𝓤 (fact 𝓤 φ) (sep 𝓤 (fact 𝓤 ψ) (fact 𝓤 χ)))
  three_shown φ ψ χ x y z =
      qed 𝓛 [] ∵ use0 𝓛 (raw (fact 𝓤 χ)) (fact_i 𝓤 χ (emp 𝓤) z) $ use0 𝓛 (raw (fact 𝓤 ψ)) (fact_i 𝓤 ψ (emp 𝓤) y) $ use0 𝓛 (raw (fact 𝓤 φ))
      (fact_i 𝓤 φ (emp 𝓤) x) $ done !

  pub four_shown : (φ ψ χ ω : Type 0) → φ → ψ → χ → ω → ent 𝓤 (emp 𝓤) (sep 𝓤 (fact 𝓤 φ) (sep 𝓤 (fact 𝓤 ψ) (sep 𝓤 (fact 𝓤 χ) (fact 𝓤 ω))))
  four_shown φ ψ χ ω x y z w =
      qed 𝓛 [] ∵ use0 𝓛 (raw (sep 𝓤 (fact 𝓤 ψ) (sep 𝓤 (fact 𝓤 χ) (fact 𝓤 ω)))) (three_shown ψ χ ω y z w) $ use0 𝓛 (raw (fact 𝓤 φ))
      (fact_i 𝓤 φ (emp 𝓤) x) $ done !
