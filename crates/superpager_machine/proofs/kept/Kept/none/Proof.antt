use Rattle.superpager_machine.proofs.Steps.{[], ◌∷◌, refl, lit<, w64, ftrue, proved, vint, vstruct, vcons, vnil, ‵, ◌⊛◌, ◌$◌, ◌∵◌, !, qed, done, keep, use1, nothing, suffices, enter, lit, no_more, and_then, returns, alloc_all, pass_all, free_all, look_at, sets, null_ptr, Stays, walk_of, says, ends_at}
use Rattle.std.specs.Prelude.{None}
use types.Part.{agg}
use Rattle.superpager_machine.specs.declared.kept.Kept.{Kept}
use Rattle.superpager_machine.specs.contracts.kept.Kept.{the_row as kept-row}
use Rattle.superpager_machine.proofs.Owners.{kept_vals, kept_in}
use Rattle.superpager_machine.specs.contracts.kept.Kept.none as f
use Rattle.superpager_machine.proofs.kept.Kept.none.Statement.{statement}
use Rattle.superpager_machine.proofs.kept.Kept.none.Code as code

abbrev stayed : Stays f.ended.signature.params f.ended.kept
stayed = tt

pub none_spec : {M : Type 1} → statement M
none_spec 𝓤 𝓛 𝓜 𝓡 wired =
    let c = f.clauses 𝓛 𝓜.mem 𝓡.returns in let W = walk_of 𝓛 f.ended stayed c in
    proved 𝓛 f.ended stayed c 𝓜 𝓡 tt
    f.Key.name code.function (code.unfolded 𝓤 𝓛.H 𝓜 𝓡 wired)
    (λ κs. tt) (λ κs. tt) (λ κs qs bounds a g are.
    let y : W.Ghost = ((κs, qs, bounds, a, tt), tt) in
    qed 𝓛 ((‵ ftrue ⊛ ‵ ftrue) ∷ ‵ ftrue ∷ []) ∵ keep ! [] $
    enter ! _ _ _ _ _ $ alloc_all ! (λ l. pass_all ! refl tt $
    sets ! (agg ! (and_then ! (lit ! tt) (no_more !))) refl (tt, (record { fits = lit< tt }, tt)) $
    returns ! (look_at ! 0 refl) $ free_all ! refl $
    let d : Kept = record { at = null_ptr; state = None } in
    suffices ! _ (ends_at 𝓛 f.ended stayed c y (vstruct (vcons (vint w64 0) vnil)) d tt tt) $ says ! refl $
    nothing ! $ use1 𝓛 (‵ (kept-row.own_val d (kept_vals d))) (kept_in 𝓛 d) $ nothing ! $ nothing ! $ done !))
