use Rattle.superpager_machine.proofs.Steps.{[], ◌∷◌, refl, ftrue, fsep, fst∗, proved, vptr, vstruct, vcons, vnil, tables, ‵, prop, ◌⊛◌, ◌$◌, ◌∵◌, !, qed, done, drop, keep, use1, split, fsplit, fjoin, suffices, enter, of_opd, stop, fld, get, get_in, no_more, and_then, returns, alloc_all, pass_all, free_all, look_at, sets, sem, never, yes, block_ptr, null_ptr, ptr_val, in_a_block, regoal, plain, nothing, Stays, walk_of, says, stay_dropped, Goes-dropped, ends_at}
use Rattle.std.specs.Prelude.{Some}
use prog.Wp.{WpFn}
use types.Part.{whole, sub, agg}
use mir.Raw.{raw as bare}
use denote.Memory.{lone}
use Rattle.std.proofs.alloc.Global.TheLaws.{lowered}
use Rattle.std.specs.contracts.impls.GlobalAllocator.TheImpl.{ghosts}
use Rattle.std_alloc.specs.Box.Ownership.{box_owns}
use Rattle.guarded_pager.specs.contracts.pager.GuardedPager.{the_row as pager-row}
use Rattle.superpager_machine.specs.declared.kept.Kept.{Kept}
use Rattle.superpager_machine.specs.contracts.kept.Kept.{the_row as kept-row}
use Rattle.superpager_machine.proofs.Owners.{Freed, freed_vals, freed_tells, kept_vals, kept_in}
use Rattle.superpager_machine.specs.contracts.kept.Kept.over as f
use Rattle.superpager_machine.proofs.kept.Kept.over.Statement.{statement}
use Rattle.superpager_machine.proofs.kept.Kept.over.Code as code

abbrev stayed : Stays f.ended.signature.params f.ended.kept
stayed = (stay_dropped _ yes, tt)

pub over_spec : {M : Type 1} → statement M
over_spec 𝓤 𝓛 𝓜 𝓡 wired =
    let c = f.clauses 𝓛 𝓜.mem 𝓡.returns in let W = walk_of 𝓛 f.ended stayed c in let 𝓣 = tables 𝓤 𝓛.H 𝓜 𝓡 𝓡.env in
    proved 𝓛 f.ended stayed c 𝓜 𝓡 (Goes-dropped 𝓛 0 (plain (λ _. Freed)) yes (λ κs x w. refl), tt)
    f.Key.name code.function (code.unfolded 𝓤 𝓛.H 𝓜 𝓡 wired)
    (λ κs. (freed_vals, tt)) (λ κs. (freed_tells, tt)) (λ κs qs bounds a g are.
    let y : W.Ghost = ((κs, qs, bounds, a, (freed_vals a.0, tt)), tt) in
    qed 𝓛 ((‵ ftrue ⊛ ‵ (fsep (Freed.own_val a.0 (freed_vals a.0)) ftrue)) ∷ ‵ ftrue ∷ []) ∵
    split ! $ drop ! $ fsplit ! $ fsplit ! $ drop ! $ keep ! (0 ∷ []) $
    in_a_block ! a.0.at (λ p. box_owns (ghosts.dealloc_token a.0.alloc) pager-row p a.0.value)
    (fst∗ 𝓤 (never 𝓤) (sem 𝓛 (ghosts.dealloc_token a.0.alloc (bare (lone pager-row.mir)) null_ptr))) (λ b o e.
    regoal ! (λ p. prop (WpFn 𝓤 𝓛.H 𝓣.C 𝓣.Λ code.function
    (vstruct (vcons (ptr_val p) (vcons (lowered a.0.alloc) vnil)) ∷ []) (W.post y))) e refl $
    -- [the box; the locals]
    enter ! _ _ _ _ _ $ alloc_all ! (λ l. pass_all ! refl ((tt, (tt, (((tt, tt), tt), tt))), tt) $
    sets ! (of_opd ! (get_in ! (fld ! refl (stop !)) (sub ! 0 refl (whole !)))) refl (tt, tt) $
    sets ! (of_opd ! (get ! refl)) refl (tt, tt) $
    sets ! (agg ! (and_then ! (get ! refl) (no_more !))) refl (tt, (tt, tt)) $
    returns ! (look_at ! 0 refl) $ free_all ! refl $
    let d : Kept = record { at = block_ptr b o; state = Some a.0.value } in
    suffices ! _ (ends_at 𝓛 f.ended stayed c y (vstruct (vcons (vptr b o) vnil)) d (tt, tt) (tt, tt)) $ says ! refl $
    use1 𝓛 (‵ (kept-row.own_val d (kept_vals d))) (kept_in 𝓛 d) $ nothing ! $ nothing ! $ fjoin ! $ nothing ! $ done !)))
