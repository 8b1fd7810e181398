use Rattle.pager_model.proofs.ChunkSteps.{◌<◌, ◌≤◌, [], ◌∷◌, refl, arith, w64, ftrue, fsep, froom, ty_int, ◌+◌, proved, vint, vptr, vstruct, vcons, vnil, fact, tables, ‵, raw, prop, at_ret, ◌⊛◌, ◌$◌, ◌∵◌, !, qed, done, drop, move, use1, use2, split, fsplit, fjoin, later, await, and_then, no_more, ◌^◌, suffices, enter, of_opd, init, stop, fld, get, get_in, assigns_last, first, blocks, exec, returns, alloc_all, pass_all, free_all, look_at, through, sets, env, u64, usize, yes, uint_vals, uint_Tells, block_ptr, ptr_val, in_a_block, id⊢, regoal, rewrite, plain, nothing, Stays, walk_of, says, stay_dropped, Goes-dropped, ends_at, heard}
use Rattle.pager_model.proofs.ChunkMemory.{Memory, memory_vals, memory_tells}
use prog.Wp.{WpFn}
use Rattle.std.proofs.alloc.Global.TheLaws.{lowered}
use Rattle.std.specs.Allocator.{array_of}
use Rattle.pager_model.specs.ChunkOwnership.{words_at, block_owns, may_free}
use Rattle.pager_model.proofs.ChunkLending.{block_shared}
use Rattle.pager_model.proofs.ChunkOwners.{block_vals, block_in}
use Rattle.pager_model.specs.declared.chunks.block.Block.{Block}
use Rattle.pager_model.specs.contracts.chunks.block.Block.{the_row as block-row}
use types.Part.{whole, sub, agg}
use Rattle.pager_model.specs.contracts.chunks.block.Block.over as f
use Rattle.pager_model.proofs.chunks.block.Block.over.Statement.{statement}
use Rattle.pager_model.proofs.chunks.block.Block.over.Code as code

abbrev stayed : Stays f.ended.signature.params f.ended.kept
stayed = (stay_dropped _ yes, (stay_dropped _ yes, tt))

pub over_spec : {M : Type 1} → statement M
over_spec 𝓤 𝓛 𝓜 𝓡 wired =
    let c = f.clauses 𝓛 𝓜.mem 𝓡.returns in let W = walk_of 𝓛 f.ended stayed c in let 𝓣 = tables 𝓤 𝓛.H 𝓜 𝓡 𝓡.env in
    proved 𝓛 f.ended stayed c 𝓜 𝓡 (
      Goes-dropped 𝓛 0 (plain (λ _. Memory)) yes (λ κs x w. refl),
      (Goes-dropped 𝓛 0 (plain (λ _. usize)) yes (λ κs x w. refl), tt),
    )
    f.Key.name code.function (code.unfolded 𝓤 𝓛.H 𝓜 𝓡 wired)
    (λ κs. (memory_vals, (uint_vals w64, tt)))
    (λ κs. (memory_tells, (uint_Tells w64, tt)))
    (λ κs qs bounds a g are.
    let y : W.Ghost = ((κs, qs, bounds, a, (memory_vals a.0, (uint_vals w64 a.1.0, tt))), tt) in
    qed 𝓛 ((‵ ftrue ⊛ ‵ (fsep (Memory.own_val a.0 (memory_vals a.0)) (fsep (usize.own_val a.1.0 (uint_vals w64 a.1.0)) ftrue))) ∷ raw
    (fact 𝓤 ((0 < a.1.0) × (a.1.0 ≤ 64))) ∷ []) ∵
    split ! $ drop ! $ fsplit ! $ move ! (1 ∷ []) $ drop ! $ fsplit ! $ drop ! $ fsplit ! $ move ! (2 ∷ []) $ heard ! _
    (λ fits. let small : a.1.0 < 2 ^ 64 = omega (arith, fits.1) in
    in_a_block ! a.0.ptr (words_at 65537) (id⊢ 𝓤 _) (λ b o e.
    regoal ! (λ p. prop (WpFn 𝓤 𝓛.H 𝓣.C 𝓣.Λ code.function
    (vstruct (vcons (ptr_val p) (vcons (lowered a.0.alloc) vnil)) ∷ vint w64 a.1.0 ∷ []) (W.post y))) e refl $
    rewrite ! 1 (λ p. ‵ (may_free (array_of u64 65537) p)) e refl $
    use1 𝓛 (‵ (froom (ty_int w64) b o) ⊛ ‵ (words_at 65536 (block_ptr b (o + 8)))) (𝓛.laws.room_uncons (ty_int w64) 65536 b o) $ split ! $
    enter ! _ _ _ _ _ $ alloc_all ! (λ l. pass_all ! refl ((tt, (tt, (((tt, tt), tt), tt))), ((tt, record { fits = small }), tt)) $
    -- [the count's place; the words; the right to free them; the locals]
    sets ! (of_opd ! (get_in ! (fld ! refl (stop !)) (sub ! 0 refl (whole !)))) refl (tt, tt) $
    sets ! (of_opd ! (get ! refl)) refl (tt, tt) $
    first ! $ blocks ! $ sets ! (of_opd ! (get ! refl)) refl (tt, record { fits = small }) $
    assigns_last ! (of_opd ! (get ! refl)) (through ! refl (stop !)) (init ! 0 refl (tt, record { fits = small })) $
    exec ! 𝓣.C 𝓣.Λ (env code.Mir.locals l) code.Mir.t-4 (at_ret _ (W.post y)) $
    move ! (1 ∷ 2 ∷ 0 ∷ []) $ fjoin ! $ move ! (1 ∷ 0 ∷ []) $
    use2 𝓛 (later (‵ (block_owns (block_ptr b o) a.1.0))) (block_shared 𝓛 b o a.1.0 fits.0 fits.1) $ await ! tt $
    sets ! (agg ! (and_then ! (get ! refl) (and_then ! (get ! refl) (no_more !)))) refl (tt, (tt, (record { fits = small }, tt))) $
    returns ! (look_at ! 0 refl) $ free_all ! refl $
    suffices ! _ (ends_at 𝓛 f.ended stayed c y (vstruct (vcons (vptr b o) (vcons (vint w64 a.1.0) vnil)))
    (record { start = block_ptr b o; left = a.1.0 }) (tt, (tt, tt)) (tt, (tt, tt))) $ says ! refl $
    let d : Block = record { start = block_ptr b o; left = a.1.0 } in
    use1 𝓛 (‵ (block-row.own_val d (block_vals d)))
    (block_in 𝓛 d small) $ nothing ! $ nothing ! $ fjoin ! $ nothing ! $ fjoin ! $ nothing ! $ done !))))
