use Rattle.superpager_machine.proofs.Steps.{[], ◌∷◌, refl, sym, ftrue, fsep, fst∗, proved, vptr, vstruct, vcons, vnil, fact, tables, ‵, raw, prop, ◌⊛◌, ◌$◌, ◌∵◌, !, qed, done, drop, move, keep, split, fsplit, fjoin, rewrite, suffices, enter, of_opd, stop, fld, get, get_in, no_more, and_then, returns, alloc_all, pass_all, free_all, look_at, sets, sem, never, heard, yes, block_ptr, null_ptr, ptr_val, in_a_block, regoal, plain, nothing, Stays, walk_of, says, stay_dropped, Goes-dropped, ends_at}
use Rattle.std.specs.Prelude.{IsSome}
use prog.Wp.{WpFn}
use types.Part.{whole, sub, agg}
use mir.Raw.{raw as bare}
use denote.Memory.{lone}
use Rattle.std.specs.contracts.alloc.Global.{the_row as global-row}
use Rattle.std.proofs.alloc.Global.TheLaws as G
use Rattle.std.specs.contracts.impls.GlobalAllocator.TheImpl.{ghosts}
use Rattle.std_alloc.specs.Box.Ownership.{box_owns}
use Rattle.loose_box.proofs.Values.{both, freed_in}
use Rattle.superpager_machine.specs.Ownership.{kept_owns}
use Rattle.guarded_pager.specs.contracts.pager.GuardedPager.{the_row as pager-row}
use Rattle.superpager_machine.specs.contracts.kept.Kept.{the_row as kept-row}
use Rattle.superpager_machine.proofs.Owners.{kept_vals, kept_tells, some_of}
use Rattle.superpager_machine.specs.contracts.kept.Kept.unkept as f
use Rattle.superpager_machine.proofs.kept.Kept.unkept.Statement.{statement}
use Rattle.superpager_machine.proofs.kept.Kept.unkept.Code as code

abbrev stayed : Stays f.ended.signature.params f.ended.kept
stayed = (stay_dropped _ yes, (stay_dropped _ yes, tt))

pub unkept_spec : {M : Type 1} → statement M
unkept_spec 𝓤 𝓛 𝓜 𝓡 wired =
    let c = f.clauses 𝓛 𝓜.mem 𝓡.returns in let W = walk_of 𝓛 f.ended stayed c in let 𝓣 = tables 𝓤 𝓛.H 𝓜 𝓡 𝓡.env in
    proved 𝓛 f.ended stayed c 𝓜 𝓡 (
      Goes-dropped 𝓛 0 (plain (λ _. kept-row)) yes (λ κs x w. refl),
      (Goes-dropped 𝓛 0 (plain (λ _. global-row)) yes (λ κs x w. refl), tt),
    )
    f.Key.name code.function (code.unfolded 𝓤 𝓛.H 𝓜 𝓡 wired)
    (λ κs. (kept_vals, ((λ h. G.lowered h ∷ []), tt))) (λ κs. (kept_tells, (G.lowers.val_is, tt))) (λ κs qs bounds a g are.
    let y : W.Ghost = ((κs, qs, bounds, a, (kept_vals a.0, (G.lowered a.1.0 ∷ [], tt))), tt) in
    qed 𝓛 ((‵ ftrue ⊛ ‵ (fsep (kept-row.own_val a.0 (kept_vals a.0)) (fsep (global-row.own_val a.1.0 (G.lowered a.1.0 ∷ [])) ftrue))) ∷ raw
    (fact 𝓤 (IsSome a.0.state)) ∷ []) ∵
    split ! $ drop ! $ fsplit ! $ fsplit ! $ drop ! $ move ! (2 ∷ []) $ heard ! _ (λ some.
    let e = some_of a.0.state some in
    rewrite ! 0 (λ s. ‵ (kept_owns a.0.at s)) e.1 refl $
    in_a_block ! a.0.at (λ p. box_owns (ghosts.dealloc_token a.1.0) pager-row p e.0)
    (fst∗ 𝓤 (never 𝓤) (sem 𝓛 (ghosts.dealloc_token a.1.0 (bare (lone pager-row.mir)) null_ptr))) (λ b o at.
    regoal ! (λ p. prop (WpFn 𝓤 𝓛.H 𝓣.C 𝓣.Λ code.function
    (vstruct (vcons (ptr_val p) vnil) ∷ G.lowered a.1.0 ∷ []) (W.post y))) at refl $
    move ! (1 ∷ []) $ fsplit ! $ move ! (2 ∷ 0 ∷ []) $
    -- [the box; what the handle owns; nothing; the locals]
    enter ! _ _ _ _ _ $ alloc_all ! (λ l. pass_all ! refl ((tt, (tt, tt)), ((tt, ((tt, tt), tt)), tt)) $
    sets ! (of_opd ! (get_in ! (fld ! refl (stop !)) (sub ! 0 refl (whole !)))) refl (tt, tt) $
    sets ! (of_opd ! (get ! refl)) refl (tt, tt) $
    sets ! (agg ! (and_then ! (get ! refl) (and_then ! (get ! refl) (no_more !)))) refl (tt, (tt, (((tt, tt), tt), tt))) $
    returns ! (look_at ! 0 refl) $ free_all ! refl $
    suffices ! _ (ends_at 𝓛 f.ended stayed c y (both (vptr b o) (G.lowered a.1.0))
    (record { at = block_ptr b o; alloc = a.1.0; value = e.0 }) (tt, (tt, tt)) (tt, (tt, tt))) $ says ! (sym e.1) $ keep ! (0 ∷ 1 ∷ []) $
    freed_in pager-row global-row G.the_row_laws ghosts ! b o (G.lowered a.1.0) a.1.0 e.0 $
    nothing ! $ nothing ! $ fjoin ! $ nothing ! $ fjoin ! $ nothing ! $ done !))))
