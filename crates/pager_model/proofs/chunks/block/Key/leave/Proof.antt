use Rattle.pager_model.proofs.ChunkSteps.{◌≡◌, ℕ, ◌≤◌, [], ◌∷◌, refl, sym, ap, subst, lit<, w64, full_share, sep, id⊢, ftrue, fsep, flft, froom, ty_int, proved, List, Val, vunit, vint, vstruct, vcons, vnil, fact, tables, ‵, raw, some, later, prop, at_ret, Sq, ◌⊛◌, ◌$◌, ◌∵◌, !, qed, done, drop, move, keep, use0, use1, use2, split, join, fsplit, fjoin, fpick, await, pick, and_then, no_more, feq_i, feq_l, flt_l, suffices, group, enter, of_opd, bin, lit, unit_lit, stop, fld, get, get_in, first, blocks, branches, skips, exec, returns, alloc_all, pass_all, free_all, look_at, sets, env, lands_as, calls_at, calls_at_last, triple_of, framed, lasts, u64, usize, unit, yes, Ptr, rawptr_vals, block_ptr, ptr_val, in_a_block, regoal, rewrite, plain, nothing, owned, uint_Makes, uint_vals, Stays, walk_of, stay_dropped, Goes-dropped, ends_at, heard, Is, only}
use types.Part.{whole, sub, agg}
use denote.Exit.{no}
use denote.RattleType.{RattleType}
use mir.Raw.{raw as type_raw}
use denote.Param.{layout, arg}
use denote.Param.Laws.{Laws, arg_laws}
use mir.Syntax.{ty_unit}
use base.Fml.{fdead, flent}
use base.Logic.{all_e}
use lib.Dec.{eqb→eq}
use types.Logic.{sem}
use types.Kit.{fsplit3}
use types.Tokens.{lent_back}
use Rattle.std.specs.Thread.Scope.{word_at}
use mir.Val.{has_ty, WT}
use lib.Dec.{T as T'}
use types.ByLocal.{is, lands_last}
use prog.Wp.{WpFn}
use mir.Syntax.{Dict, impl, tnil, dnil, w8}
use Rattle.std.specs.contracts.sync.atomic.Ordering.{the_row as ordering-row}
use denote.Shadow.{makes_shadow}
use Rattle.std.specs.declared.sync.atomic.Ordering.TheVariants.{SeqCst}
use Rattle.std.specs.declared.sync.atomic.raw.Outcome.{Ghosts}
use Rattle.std.specs.contracts.marker.Brand.{the_row as brand-row}
use Rattle.std.proofs.marker.Brand.TheLaws as B
use base.Logic.{emp}
use contract.BorrowLft.{◌⊑◌, ⊑_static}
use contract.Monad.{fact_i}
use denote.Triple.Clauses.{ensured, Lasts}
use denote.Triple.Entry.{alive}
use types.RcWeak.{part, part_in}
use types.Tokens.{obor_close}
use Rattle.std.specs.Vec.{vec_len, vec_capacity, vec_ptr}
use Rattle.std.specs.Vec.Ownership.{lodged}
use Rattle.pager_model.specs.ChunkOwnership.{words_at, key_owns, last_has, lent_out, one_less}
use Rattle.pager_model.specs.contracts.chunks.block.Key.{the_row as key-row}
use Rattle.pager_model.proofs.chunks.block.Key.TheLaws.{lowers}
use Rattle.std.specs.contracts.alloc.Global.{the_row as global-row}
use Rattle.std.proofs.alloc.Global.TheLaws as G
use Rattle.pager_model.proofs.ChunkOwners.{key_vals}
use Rattle.pager_model.proofs.ChunkCalls.{one_met}
use Rattle.std.specs.Sync.RawAtomic.{asks, always}
use Rattle.pager_model.proofs.ChunkCounting.{steps}
use Rattle.pager_model.proofs.ChunkWords.{lodged_out}
use Rattle.pager_model.proofs.ChunkMemory.{word_laws, Lodging, lodging_laws}
use Rattle.std_alloc.specs.contracts.vec.lodged.Vec+T+Lodged.dislodge as g
use Rattle.std_alloc.proofs.vec.lodged.Vec+T+Lodged.dislodge.Met.{met as g_met}
use Rattle.std.specs.contracts.sync.atomic.raw.fetch_sub as s
use Rattle.std.proofs.sync.atomic.raw.fetch_sub.Met.{met as s_met}
use Rattle.pager_model.specs.contracts.chunks.block.free as h
use Rattle.pager_model.proofs.chunks.block.free.Met.{met as h_met}
use Rattle.pager_model.specs.contracts.chunks.block.Key.leave as f
use Rattle.pager_model.proofs.chunks.block.Key.leave.Statement.{statement}
use Rattle.pager_model.proofs.chunks.block.Key.leave.Code as code

abbrev O : RattleType
O = arg (type_raw (layout brand-row)) no brand-row

O_laws : Laws O
O_laws = arg_laws (type_raw (layout brand-row)) no brand-row B.the_row_laws refl

abbrev plays : Dict
plays = impl [] tnil dnil

abbrev seqcst_vals : List Val
seqcst_vals = vstruct (vcons (vint w8 4) vnil) ∷ []

abbrev stayed : Stays f.ended.signature.params f.ended.kept
stayed = (stay_dropped _ yes, (stay_dropped _ yes, (stay_dropped _ yes, tt)))

pub leave_spec : {M : Type 1} → statement M
leave_spec {M} 𝓤 𝓛 𝓜 𝓡 wired =
    let c = f.clauses 𝓛 𝓜.mem 𝓡.returns in let W = walk_of 𝓛 f.ended stayed c in let 𝓣 = tables 𝓤 𝓛.H 𝓜 𝓡 𝓡.env in
    proved 𝓛 f.ended stayed c 𝓜 𝓡 (
      Goes-dropped 𝓛 0 (plain (λ _. key-row)) yes (λ κs x w. refl),
      (
        Goes-dropped 𝓛 0 (plain (λ _. Lodging)) yes (λ κs x w. refl),
        (Goes-dropped 𝓛 0 (plain (λ _. global-row)) yes (λ κs x w. refl), tt),
      ),
    )
    f.Key.name code.function (code.unfolded 𝓤 𝓛.H 𝓜 𝓡 wired)
    (λ κs. (key_vals, ((λ w. lodging_laws.low w ∷ []), ((λ u. G.lowered u ∷ []), tt))))
    (λ κs. (lowers.val_is, (lodging_laws.low-is, (G.lowers.val_is, tt))))
    (λ κs qs bounds a ghost are.
    let w = a.1.0 in let u = a.1.1.0 in let ws = lodging_laws.low w ∷ [] in let us = G.lowered u ∷ [] in
    let y : W.Ghost = ((κs, qs, bounds, a, (key_vals a.0, (ws, (us, tt)))), tt) in
    qed 𝓛 ((‵ ftrue ⊛ ‵ (fsep (key-row.own_val a.0 (key_vals a.0)) (fsep (Lodging.own_val w ws) (fsep (global-row.own_val u us) ftrue)))) ∷
    (raw (fact 𝓤 (vec_capacity w ≡ 1024)) ⊛ raw (fact 𝓤 (vec_ptr w ≡ a.0.at))) ∷ []) ∵
    split ! $ drop ! $ fsplit ! $ fsplit ! $ drop ! $ move ! (2 ∷ []) $ split ! $ heard ! _
    (λ chunk. heard ! _ (λ place. move ! (1 ∷ []) $ fsplit ! $ move ! (1 ∷ []) $ fsplit ! $ move ! (1 ∷ []) $ drop ! $ move ! (2 ∷ []) $
    -- [what the key owns; what the words own; the handle's]
    in_a_block ! a.0.start (λ p. key_owns p a.0.at) (id⊢ 𝓤 _) (λ b o e.
    regoal ! (λ p. prop (WpFn 𝓤 𝓛.H 𝓣.C 𝓣.Λ code.function (vstruct (vcons (ptr_val p) vnil) ∷ lodging_laws.low w ∷ G.lowered u ∷ [])
    (W.post y))) e refl $
    let p = block_ptr b o in let ok = (lodging_laws.lawful 𝓛).typed w ws are.1.0 in
    let ends : Sq 𝓛 [] (prop (W.post y vunit)) = suffices ! _ (ends_at 𝓛 f.ended stayed c y vunit tt (tt, (tt, (tt, tt)))
    (tt, (tt, (tt, tt)))) $
    nothing ! $ feq_i ! _
    (vunit ∷ []) _ refl $ nothing ! $ nothing ! $ fjoin ! $ nothing ! $ fjoin ! $ nothing ! $ fjoin ! $ nothing ! $ group ! 3 $ done ! in
    fpick ! (λ i. fpick ! (λ d. fpick ! (λ count.
    enter ! _ _ _ _ _ $ alloc_all ! (λ l. pass_all ! refl ((tt, (tt, tt)), (ok.0, ((tt, ((tt, tt), tt)), tt))) $
    sets ! (of_opd ! (get_in ! (fld ! refl (stop !)) (sub ! 0 refl (whole !)))) refl (tt, tt) $
    sets ! (of_opd ! (get ! refl)) refl ok.0 $
    let T = triple_of 𝓛 (g.signature u64) (g.spec u64 𝓛 𝓜.mem 𝓡.returns) in
    let z : T.Ghost = ((([], tt), (full_share, tt), tt, (w, tt), (ws, tt)), tt) in
    move ! (2 ∷ []) $ nothing ! $ move ! (1 ∷ 0 ∷ []) $ fjoin ! $ nothing ! $ use0 𝓛 (‵ (flft [] full_share))
    (𝓛.lfts.lft-nil full_share) $ join ! $ join ! $
    use0 𝓛 (raw (sep 𝓤 (fact 𝓤 ([] ⊑ [])) (emp 𝓤))) (one_met 𝓛 _ (⊑_static [])) $ move ! (1 ∷ 0 ∷ []) $ use2 𝓛 (raw (T.pre z)) (id⊢ 𝓤 _) $
    calls_at ! (framed 𝓤 𝓛.H 𝓜 𝓣) T (g_met 𝓤 𝓛 𝓜 𝓡 (code.calls-std_alloc::vec::lodged::Vec+T+Lodged::dislodge 𝓡.env wired) u64 word_laws) z
    (and_then ! (get ! refl) (no_more !)) (λ r.
    use1 𝓛 (later (some (λ (m : ℕ). (raw (alive 𝓛 (g.signature u64) z.0.0 z.0.1) ⊛ ‵ (usize.own_val m (r ∷ []))) ⊛ some
    (λ (ls : Lasts (g.ended u64) z.0.0 z.0.3).
    ‵ (lasts (g.ended u64) z.0.0 z.0.3 ls) ⊛ (raw (fact 𝓤 (m ≡ vec_len w)) ⊛ ‵
    (lodged u64 (vec_ptr w) (vec_len w) (vec_capacity w) w.items)))))) (id⊢ 𝓤 _) $
    await ! tt $ pick ! (λ m. split ! $ split ! $ drop ! $ fsplit ! $ feq_l !
    (λ is_count. flt_l ! (λ small. pick ! (λ ls. split ! $ drop ! $ split ! $ drop ! $
    lands_as ! (ap only is_count) refl (tt, record { fits = small }) $
    rewrite ! 0 (λ (k : ℕ). ‵ (lodged u64 (vec_ptr w) (vec_len w) k w.items)) chunk refl $
    use1 𝓛 (‵ (words_at 1024 (vec_ptr w))) (lodged_out 𝓛 (vec_len w) (subst (λ (k : ℕ). vec_len w ≤ k) chunk w.ok.1)
    (vec_ptr w) w.items) $ rewrite ! 0 (λ (q : Ptr). ‵ (words_at 1024 q)) place refl $
    move ! (1 ∷ []) $ fsplit ! $ move ! (1 ∷ 2 ∷ []) $ obor_close ! tt $ drop ! $ use1 𝓛 (‵ (part 63 i)) (part_in 63 𝓛 i d count) $ move !
    (1 ∷ 0 ∷ []) $
    use2 𝓛 (raw (asks 𝓛 p one_less always (last_has p i))) (steps 𝓛 b o i) $
    -- [the step; the handle]
    first ! $ blocks ! $ sets ! (agg ! (and_then ! (lit ! tt) (no_more !))) refl (tt, (record { fits = lit< tt }, tt)) $
    let kept : Ghosts O.Denot = record { after = last_has p i } in
    let S = triple_of 𝓛 (s.signature O) (s.spec O kept plays 𝓛 𝓜.mem 𝓡.returns) in
    let z' : S.Ghost = (
      (([], tt), (full_share, tt), tt, (p, (1, (SeqCst, tt))), (rawptr_vals p, (uint_vals w64 1, (seqcst_vals, tt)))),
      tt,
    ) in
    use0 𝓛 (raw (fact 𝓤 (SeqCst ≡ SeqCst))) (fact_i 𝓤 _ (emp 𝓤) refl) $ join ! $ use0 𝓛 (raw (fact 𝓤 ([] ⊑ [])))
    (fact_i 𝓤 _ (emp 𝓤) (⊑_static [])) $ join ! $
    nothing ! $ use0 𝓛 (‵ (ordering-row.own_val SeqCst seqcst_vals)) (makes_shadow 𝓛 (ordering-row.own_val SeqCst seqcst_vals)
    (λ us. (tt, λ _. (tt, tt))) ([], (refl, (tt, (refl, tt))))) $ fjoin ! $
    owned ! u64 (Is u64) (uint_Makes 𝓛 w64) 1 _ (refl, lit< tt) $ fjoin ! $ feq_i ! (List Val) (rawptr_vals p)
    (rawptr_vals p) refl $ fjoin ! $
    nothing ! $ use0 𝓛 (‵ (flft [] full_share)) (𝓛.lfts.lft-nil full_share) $ join ! $ join ! $ use2 𝓛 (raw (S.pre z')) (id⊢ 𝓤 _) $
    calls_at_last ! (framed 𝓤 𝓛.H 𝓜 𝓣) S (s_met 𝓤 𝓛 𝓜 𝓡 (code.calls-std::sync::atomic::raw::fetch_sub 𝓡.env wired) O O_laws kept plays
    (record {})) z'
    (and_then ! (get ! refl) (and_then ! (lit ! tt) (and_then ! (get ! refl) (no_more !)))) (λ v.
    use1 𝓛 (later (some (λ (n : ℕ). (raw (alive 𝓛 (s.signature O) z'.0.0 z'.0.1) ⊛ ‵ (u64.own_val n (v ∷ []))) ⊛ some
    (λ (ls' : Lasts (s.ended O kept plays) z'.0.0 z'.0.3).
    ‵ (lasts (s.ended O kept plays) z'.0.0 z'.0.3 ls') ⊛ ‵ (last_has p i n))))) (id⊢ 𝓤 _) $
    await ! tt $ pick ! (λ n. split ! $ split ! $ drop ! $ fsplit ! $ feq_l ! (λ is_n. flt_l ! (λ small_n. pick ! (λ ls'. split ! $ drop ! $
    -- [what the step left; the handle]
    lands_last ! refl (subst (λ x. T' (has_ty (ty_int w64) x) × WT x) (sym (ap only is_n)) (tt, record { fits = small_n })) $
    exec ! 𝓣.C 𝓣.Λ (env code.Mir.locals l) code.Mir.t-5 (at_ret (env code.Mir.locals l) (W.post y)) $
    sets ! (is ! (of_opd ! (get ! refl)) (ap only is_n)) refl (tt, record { fits = small_n }) $
    sets ! (bin ! (get ! refl) (lit ! tt) tt) refl (tt, tt) $
    first ! $ branches ! (get ! refl)
    (λ one. blocks ! $ use1 𝓛 (‵ (fsep (word_at b o 0) (fsep (fdead (i ∷ [])) (flent (i ∷ []) (lent_out p)))))
    (all_e 𝓤 (λ (_ : n ≡ 1). sem 𝓛 (fsep (word_at b o 0) (fsep (fdead (i ∷ [])) (flent (i ∷ []) (lent_out p))))) (eqb→eq n 1 one)) $
    fsplit3 ! $ move ! (1 ∷ 2 ∷ []) $ lent_back ! tt $ fsplit ! $ move ! (2 ∷ 0 ∷ []) $ use1 𝓛 (‵ (froom (ty_int w64) b o))
    (𝓛.laws.at_room (ty_int w64) b o (vint w64 0)) $
    use2 𝓛 (‵ (words_at 65537 p)) (𝓛.laws.room_cons (ty_int w64) 65536 b o) $ fjoin ! $
    -- [the block; the handle]
    let F = triple_of 𝓛 h.signature (h.spec 𝓛 𝓜.mem 𝓡.returns) in
    let x : F.Ghost = ((tt, tt, tt, (p, (u, tt)), (rawptr_vals p, (us, tt))), tt) in
    move ! (1 ∷ []) $ nothing ! $ move ! (1 ∷ 0 ∷ []) $ fjoin ! $ feq_i ! (List Val) (rawptr_vals p)
    (rawptr_vals p) refl $ fjoin ! $ nothing ! $ join ! $ use2 𝓛 (raw (F.pre x)) (id⊢ 𝓤 _) $
    calls_at_last ! (framed 𝓤 𝓛.H 𝓜 𝓣) F (h_met 𝓤 𝓛 𝓜 𝓡 (code.calls-pager_model::chunks::block::free 𝓡.env wired)) x
    (and_then ! (get ! refl) (and_then ! (get ! refl) (no_more !))) (λ v'.
    use1 𝓛 (later (some (λ (r' : Unit {0}). (‵ ftrue ⊛ ‵ (unit.own_val r' (v' ∷ []))) ⊛ raw
    (ensured 𝓛 h.ended (h.clauses 𝓛 𝓜.mem 𝓡.returns) tt x.0.3 tt r')))) (id⊢ 𝓤 _) $
    await ! tt $ pick ! (λ r'. split ! $ split ! $ drop ! $ feq_l ! (λ is_unit.
    lands_last ! refl (subst (λ t. T' (has_ty ty_unit t) × WT t) (sym (ap only is_unit)) (tt, tt)) $ exec ! 𝓣.C 𝓣.Λ
    (env code.Mir.locals l) code.Mir.t-8 (at_ret (env code.Mir.locals l) (W.post y)) $
    sets ! (of_opd ! (unit_lit !)) refl (tt, tt) $ returns ! (look_at ! 0 refl) $ free_all ! refl $ keep ! [] $ ends))))
    (λ several. skips ! $ exec ! 𝓣.C 𝓣.Λ (env code.Mir.locals l) code.Mir.t-8 (at_ret (env code.Mir.locals l) (W.post y)) $
    sets ! (of_opd ! (unit_lit !)) refl (tt, tt) $ returns ! (look_at ! 0 refl) $ free_all ! refl $ keep ! [] $ ends)))))))))))))))))))
