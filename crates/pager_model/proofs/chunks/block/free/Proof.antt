use Rattle.pager_model.proofs.ChunkSteps.{[], ◌∷◌, refl, full_share, id⊢, ftrue, fsep, flft, proved, vunit, tables, ‵, raw, some, later, prop, ◌⊛◌, ◌$◌, ◌∵◌, !, qed, done, drop, move, use0, use1, use2, split, join, fsplit, fjoin, await, pick, and_then, no_more, feq_i, suffices, group, enter, of_opd, unit_lit, get, returns, alloc_all, pass_all, free_all, look_at, sets, lands_as, calls_at, triple_of, framed, u64, yes, RawPtr, rawptr_vals, rawptr_Tells, block_ptr, ptr_val, in_a_block, regoal, rewrite, plain, nothing, Stays, walk_of, stay_dropped, Goes-dropped, ends_at, peeks, Is, shows, ap, only}
use types.Part.{agg}
use prog.Wp.{WpFn}
use mir.Syntax.{Dict, impl, tcons, tnil, dnil}
use contract.BorrowLft.{⊑_static}
use denote.Triple.Clauses.{ensured}
use denote.Triple.Entry.{alive}
use Rattle.pager_model.proofs.ChunkCalls.{two_met}
use Rattle.pager_model.proofs.Destruct++none.drop.Code.{code as drop_code}
use denote.Exit.{no}
use denote.RattleType.{RattleType}
use mir.Raw.{raw as type_raw}
use denote.Param.{layout, arg}
use denote.Param.Laws.{Laws, arg_laws}
use denote.Param.NoDrop as NoDrop
use Rattle.std.specs.Allocator.{owned_block, array_of}
use Rattle.std.specs.contracts.impls.GlobalAllocator.TheImpl.{ghosts, dict}
use Rattle.std.proofs.impls.GlobalAllocator.TheImpl.Met.{passed}
use Rattle.std.proofs.alloc.Global.TheLaws as G
use Rattle.std.specs.contracts.alloc.Global.{the_row as global-row}
use Rattle.pager_model.proofs.ChunkMemory.{Words, words_laws, Memory, memory_vals, memory_in}
use Rattle.pager_model.specs.ChunkOwnership.{words_at, may_free}
use Rattle.std_alloc.specs.contracts.room.vacant.Vacant.free as g
use Rattle.std_alloc.proofs.room.vacant.Vacant.free.Met.{met}
use Rattle.pager_model.specs.contracts.chunks.block.free as f
use Rattle.pager_model.proofs.chunks.block.free.Statement.{statement}
use Rattle.pager_model.proofs.chunks.block.free.Code as code

abbrev stayed : Stays f.ended.signature.params f.ended.kept
stayed = (stay_dropped _ yes, (stay_dropped _ yes, tt))

abbrev A : RattleType
A = arg (type_raw (layout global-row)) no global-row

A_laws : Laws A
A_laws = arg_laws (type_raw (layout global-row)) no global-row G.the_row_laws refl

abbrev drops : Dict
drops = impl ("pager_model::Destruct++none::drop" ∷ []) (tcons (layout A) tnil) dnil

pub free_spec : {M : Type 1} → statement M
unfolding drop_code
free_spec {M} 𝓤 𝓛 𝓜 𝓡 wired =
    let c = f.clauses 𝓛 𝓜.mem 𝓡.returns in let W = walk_of 𝓛 f.ended stayed c in let 𝓣 = tables 𝓤 𝓛.H 𝓜 𝓡 𝓡.env in
    proved 𝓛 f.ended stayed c 𝓜 𝓡 (
      Goes-dropped 𝓛 0 (plain (λ _. RawPtr)) yes (λ κs x w. refl),
      (Goes-dropped 𝓛 0 (plain (λ _. global-row)) yes (λ κs x w. refl), tt),
    )
    f.Key.name code.function (code.unfolded 𝓤 𝓛.H 𝓜 𝓡 wired)
    (λ κs. (rawptr_vals, ((λ h. G.lowered h ∷ []), tt)))
    (λ κs. (rawptr_Tells, (G.lowers.val_is, tt)))
    (λ κs qs bounds a ghost are.
    let y : W.Ghost = ((κs, qs, bounds, a, (rawptr_vals a.0, (G.lowered a.1.0 ∷ [], tt))), tt) in
    let Sg = g.signature Words A ghosts dict drops in
    let T = triple_of 𝓛 Sg (g.spec Words A ghosts dict drops 𝓛 𝓜.mem 𝓡.returns) in
    qed 𝓛 ((‵ ftrue ⊛ ‵ (fsep (RawPtr.own_val a.0 (rawptr_vals a.0)) (fsep (global-row.own_val a.1.0 (G.lowered a.1.0 ∷ [])) ftrue))) ∷ ‵
    (owned_block may_free (array_of u64 65537) a.0) ∷ []) ∵
    split ! $ drop ! $ fsplit ! $ drop ! $ fsplit ! $ move ! (1 ∷ []) $ drop ! $ move ! (1 ∷ []) $ fsplit ! $
    in_a_block ! a.0 (words_at 65537) (id⊢ 𝓤 _) (λ b o e.
    regoal ! (λ p. prop (WpFn 𝓤 𝓛.H 𝓣.C 𝓣.Λ code.function (ptr_val p ∷ G.lowered a.1.0 ∷ []) (W.post y))) e refl $ rewrite ! 1
    (λ p. ‵ (may_free (array_of u64 65537) p)) e refl $ fjoin ! $
    -- [the block; what the handle owns]
    let v : Memory.Denot = record { ptr = block_ptr b o; alloc = a.1.0 } in
    enter ! _ _ _ _ _ $ alloc_all ! (λ l. pass_all ! refl ((tt, tt), ((tt, ((tt, tt), tt)), tt)) $
    sets ! (of_opd ! (get ! refl)) refl (tt, tt) $
    sets ! (agg ! (and_then ! (get ! refl) (and_then ! (get ! refl) (no_more !)))) refl (tt, (tt, (((tt, tt), tt), tt))) $
    sets ! (of_opd ! (get ! refl)) refl (tt, (tt, (((tt, tt), tt), tt))) $
    move ! (1 ∷ 0 ∷ []) $ use2 𝓛 (‵ (Memory.own_val v (memory_vals v))) (memory_in 𝓛 v) $
    let z : T.Ghost = ((([], ([], tt)), (full_share, (full_share, tt)), tt, (v, tt), (memory_vals v, tt)), tt) in
    nothing ! $ move ! (1 ∷ 0 ∷ []) $ fjoin ! $ nothing ! $ use0 𝓛 (‵ (flft [] full_share)) (𝓛.lfts.lft-nil full_share) $ join ! $ use0 𝓛
    (‵ (flft [] full_share)) (𝓛.lfts.lft-nil full_share) $ join ! $ join ! $
    use0 𝓛 (raw ((g.spec Words A ghosts dict drops 𝓛 𝓜.mem 𝓡.returns ([], ([], tt)) (v, tt)).requires tt))
    (two_met 𝓛 _ _ (⊑_static []) (⊑_static [])) $ move ! (1 ∷ 0 ∷ []) $ use2 𝓛 (raw (T.pre z)) (id⊢ 𝓤 _) $
    calls_at ! (framed 𝓤 𝓛.H 𝓜 𝓣) T
    (met 𝓤 𝓛 𝓜 𝓡 (code.calls-std_alloc::room::vacant::Vacant::free 𝓡.env wired) Words A words_laws A_laws ghosts dict drops
    (passed 𝓡.env (code.calls-std_heap::GlobalAllocator::allocate 𝓡.env wired)
    (code.calls-std_heap::GlobalAllocator::deallocate 𝓡.env wired) (code.calls-std_heap::GlobalAllocator::grow 𝓡.env wired)
    (code.calls-std_heap::GlobalAllocator::shrink 𝓡.env wired) M 𝓤 𝓛 𝓜 𝓡)
    (NoDrop.glues "pager_model::Destruct++none::drop" 𝓡.env (code.calls-pager_model::Destruct++none::drop 𝓡.env wired) A A_laws M 𝓤 𝓛 𝓜 𝓡)) z
    (and_then ! (get ! refl) (no_more !)) (λ r.
    use1 𝓛 (later (some (λ (h : global-row.Denot). (raw (alive 𝓛 Sg z.0.0 z.0.1) ⊛ ‵ (A.own_val h (r ∷ []))) ⊛ raw
    (ensured 𝓛 (g.ended Words A ghosts dict drops) (g.clauses Words A ghosts dict drops 𝓛 𝓜.mem 𝓡.returns) z.0.0 z.0.3 z.1 h))))
    (id⊢ 𝓤 _) $
    await ! tt $ pick ! (λ h. split ! $ split ! $ drop ! $ peeks ! global-row (Is global-row) (shows 𝓛 global-row) h (r ∷ []) (λ is.
    lands_as ! (ap only (G.lowers.val_is h (r ∷ []) is)) refl (tt, ((tt, tt), tt)) $
    sets ! (of_opd ! (unit_lit !)) refl (tt, tt) $
    returns ! (look_at ! 0 refl) $ free_all ! refl $
    suffices ! _ (ends_at 𝓛 f.ended stayed c y vunit tt (tt, (tt, tt)) (tt, (tt, tt))) $ drop ! $ drop ! $
    nothing ! $ feq_i ! _ (vunit ∷ []) _ refl $ nothing ! $ nothing ! $ fjoin ! $ nothing ! $ fjoin ! $ nothing ! $ group ! 3 $ done !))))))
