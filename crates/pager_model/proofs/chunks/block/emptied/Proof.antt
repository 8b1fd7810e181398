use Rattle.pager_model.proofs.ChunkSteps.{◌≡◌, ℕ, ◌^◌, ◌<◌, ◌≤◌, [], ◌∷◌, refl, ap, subst, arith, lit<, w64, full_share, sep, id⊢, ftrue, fsep, flft, proved, List, Val, fact, tables, ‵, raw, some, later, at_ret, ◌⊛◌, ◌$◌, ◌∵◌, !, qed, done, drop, move, use0, use1, use2, split, join, fsplit, fjoin, await, pick, and_then, no_more, feq_i, feq_l, flt_l, suffices, group, enter, of_opd, lit, get, first, blocks, exec, returns, alloc_all, pass_all, free_all, look_at, sets, env, lands_as, calls_at, calls_at_last, triple_of, framed, lasts, u64, usize, yes, Ptr, RawPtr, rawptr_vals, rawptr_Tells, rawptr_Lawful, rewrite, plain, nothing, owned, uint_Makes, uint_vals, Stays, walk_of, stay_dropped, Goes-dropped, ends_at, heard, peeks, Is, shows, only}
use base.Logic.{emp}
use contract.BorrowLft.{◌⊑◌, ⊑_static}
use contract.Monad.{fact_i}
use denote.Triple.Clauses.{Lasts}
use denote.Triple.Entry.{alive}
use types.ByLocal.{lands_last}
use Rattle.std.specs.Vec.{vec_len, vec_capacity, vec_ptr}
use Rattle.std.specs.Vec.Ownership.{lodged}
use Rattle.pager_model.specs.ChunkOwnership.{words_at}
use Rattle.pager_model.proofs.ChunkCalls.{big, one_met, three_shown}
use Rattle.pager_model.proofs.ChunkWords.{lodged_in, lodged_out}
use Rattle.pager_model.proofs.ChunkMemory.{word_laws, Lodging, lodging_laws}
use Rattle.std_alloc.specs.contracts.vec.lodged.Vec+T+Lodged.dislodge as g
use Rattle.std_alloc.proofs.vec.lodged.Vec+T+Lodged.dislodge.Met.{met as g_met}
use Rattle.std_alloc.specs.contracts.vec.lodge as h
use Rattle.std_alloc.proofs.vec.lodge.Met.{met as h_met}
use Rattle.pager_model.specs.contracts.chunks.block.emptied as f
use Rattle.pager_model.proofs.chunks.block.emptied.Statement.{statement}
use Rattle.pager_model.proofs.chunks.block.emptied.Code as code

abbrev stayed : Stays f.ended.signature.params f.ended.kept
stayed = (stay_dropped _ yes, (stay_dropped _ yes, tt))

pub emptied_spec : {M : Type 1} → statement M
emptied_spec 𝓤 𝓛 𝓜 𝓡 wired =
    let c = f.clauses 𝓛 𝓜.mem 𝓡.returns in let W = walk_of 𝓛 f.ended stayed c in let 𝓣 = tables 𝓤 𝓛.H 𝓜 𝓡 𝓡.env in
    proved 𝓛 f.ended stayed c 𝓜 𝓡 (
      Goes-dropped 𝓛 0 (plain (λ _. Lodging)) yes (λ κs x w. refl),
      (Goes-dropped 𝓛 0 (plain (λ _. RawPtr)) yes (λ κs x w. refl), tt),
    )
    f.Key.name code.function (code.unfolded 𝓤 𝓛.H 𝓜 𝓡 wired)
    (λ κs. ((λ w. lodging_laws.low w ∷ []), (rawptr_vals, tt))) (λ κs. (lodging_laws.low-is, (rawptr_Tells, tt)))
    (λ κs qs bounds a ghost are.
    let w = a.0 in let at = a.1.0 in let ws = lodging_laws.low w ∷ [] in
    let y : W.Ghost = ((κs, qs, bounds, a, (ws, (rawptr_vals at, tt))), tt) in
    qed 𝓛 ((‵ ftrue ⊛ ‵ (fsep (Lodging.own_val w ws) (fsep (RawPtr.own_val at (rawptr_vals at)) ftrue))) ∷
    (raw (fact 𝓤 (vec_capacity w ≡ 1024)) ⊛ raw (fact 𝓤 (vec_ptr w ≡ at))) ∷ []) ∵
    split ! $ drop ! $ fsplit ! $ move ! (1 ∷ []) $ drop ! $ move ! (1 ∷ []) $ split ! $ heard ! _ (λ chunk. heard ! _ (λ place.
    let ok = (lodging_laws.lawful 𝓛).typed w ws are.0 in
    enter ! _ _ _ _ _ $ alloc_all ! (λ l. pass_all ! refl (ok.0, (((rawptr_Lawful 𝓛).typed at _ refl).0, tt)) $
    sets ! (of_opd ! (get ! refl)) refl ok.0 $
    let T = triple_of 𝓛 (g.signature u64) (g.spec u64 𝓛 𝓜.mem 𝓡.returns) in
    let z : T.Ghost = ((([], tt), (full_share, tt), tt, (w, tt), (ws, tt)), tt) in
    nothing ! $ move ! (1 ∷ 0 ∷ []) $ fjoin ! $ nothing ! $ use0 𝓛 (‵ (flft [] full_share)) (𝓛.lfts.lft-nil full_share) $ join ! $ join ! $
    use0 𝓛 (raw (sep 𝓤 (fact 𝓤 ([] ⊑ [])) (emp 𝓤))) (one_met 𝓛 _ (⊑_static [])) $ move ! (1 ∷ 0 ∷ []) $ use2 𝓛 (raw (T.pre z)) (id⊢ 𝓤 _) $
    calls_at ! (framed 𝓤 𝓛.H 𝓜 𝓣) T (g_met 𝓤 𝓛 𝓜 𝓡 (code.calls-std_alloc::vec::lodged::Vec+T+Lodged::dislodge 𝓡.env wired) u64 word_laws) z
    (and_then ! (get ! refl) (no_more !)) (λ r.
    use1 𝓛 (later (some (λ (m : ℕ). (raw (alive 𝓛 (g.signature u64) z.0.0 z.0.1) ⊛ ‵ (usize.own_val m (r ∷ []))) ⊛ some
    (λ (ls : Lasts (g.ended u64) z.0.0 z.0.3).
    ‵ (lasts (g.ended u64) z.0.0 z.0.3 ls) ⊛ (raw (fact 𝓤 (m ≡ vec_len w)) ⊛ ‵
    (lodged u64 (vec_ptr w) (vec_len w) (vec_capacity w) w.items)))))) (id⊢ 𝓤 _) $
    await ! tt $ pick ! (λ m. split ! $ split ! $ drop ! $ fsplit ! $ feq_l !
    (λ is_count. flt_l ! (λ small. pick ! (λ ls. split ! $ drop ! $ split ! $ drop ! $
    lands_as ! (ap only is_count) refl (tt, record { fits = small }) $
    rewrite ! 0 (λ (k : ℕ). ‵ (lodged u64 (vec_ptr w) (vec_len w) k w.items)) chunk refl $
    use1 𝓛 (‵ (words_at 1024 (vec_ptr w))) (lodged_out 𝓛 (vec_len w) (subst (λ (k : ℕ). vec_len w ≤ k) chunk w.ok.1)
    (vec_ptr w) w.items) $ rewrite ! 0 (λ (q : Ptr). ‵ (words_at 1024 q)) place refl $
    use1 𝓛 (‵ (lodged u64 at 0 1024 [])) (lodged_in 𝓛 at) $ first ! $ blocks ! $
    let S = triple_of 𝓛 (h.signature u64) (h.spec u64 𝓛 𝓜.mem 𝓡.returns) in
    let x : S.Ghost = (
      (
        ([], tt),
        (full_share, tt),
        tt,
        (at, (0, (1024, tt))),
        (rawptr_vals at, (uint_vals w64 0, (uint_vals w64 1024, tt))),
      ),
      [],
    ) in
    use0 𝓛 (raw (fact 𝓤 ((0 ≡ 0) × (0 ≤ 1024) × (1024 < 2 ^ 63)))) (fact_i 𝓤 _ (emp 𝓤) (refl, omega arith, omega arith)) $ join ! $ use0 𝓛
    (raw (fact 𝓤 ([] ⊑ []))) (fact_i 𝓤 _ (emp 𝓤) (⊑_static [])) $ join ! $
    nothing ! $ owned ! usize (Is usize) (uint_Makes 𝓛 w64) 1024 _ (refl, lit< tt) $ fjoin ! $ owned ! usize (Is usize)
    (uint_Makes 𝓛 w64) 0 _ (refl, lit< tt) $ fjoin ! $
    feq_i ! (List Val) (rawptr_vals at) (rawptr_vals at) refl $ fjoin ! $ nothing ! $ use0 𝓛 (‵ (flft [] full_share))
    (𝓛.lfts.lft-nil full_share) $ join ! $ join ! $ use2 𝓛 (raw (S.pre x)) (id⊢ 𝓤 _) $
    calls_at_last ! (framed 𝓤 𝓛.H 𝓜 𝓣) S (h_met 𝓤 𝓛 𝓜 𝓡 (code.calls-std_alloc::vec::lodge 𝓡.env wired) u64 word_laws) x
    (and_then ! (get ! refl) (and_then ! (lit ! tt) (and_then ! (big ! (record { fits = lit< tt })) (no_more !)))) (λ v.
    use1 𝓛 (later (some (λ (n : Lodging.Denot). (raw (alive 𝓛 (h.signature u64) x.0.0 x.0.1) ⊛ ‵ (Lodging.own_val n (v ∷ []))) ⊛ some
    (λ (ls' : Lasts (h.ended u64) x.0.0 x.0.3).
    ‵ (lasts (h.ended u64) x.0.0 x.0.3 ls') ⊛ raw
    (fact 𝓤 ((n.items ≡ []) × (vec_len n ≡ 0) × (vec_capacity n ≡ 1024) × (vec_ptr n ≡ at))))))) (id⊢ 𝓤 _) $
    await ! tt $ pick ! (λ n. split ! $ split ! $ drop ! $ move ! (1 ∷ []) $ pick !
    (λ ls'. split ! $ drop ! $ heard ! _ (λ is_new. peeks ! Lodging (Is Lodging) (shows 𝓛 Lodging) n (v ∷ []) (λ is_v.
    let fine = ((lodging_laws.lawful 𝓛).typed n (v ∷ []) is_v).0 in
    lands_last ! refl fine $ exec ! 𝓣.C 𝓣.Λ (env code.Mir.locals l) code.Mir.t-4 (at_ret (env code.Mir.locals l) (W.post y)) $
    sets ! (of_opd ! (get ! refl)) refl fine $ returns ! (look_at ! 0 refl) $ free_all ! refl $
    suffices ! _ (ends_at 𝓛 f.ended stayed c y v n (tt, (tt, tt)) (tt, (tt, tt))) $
    use0 𝓛 (raw (sep 𝓤 (fact 𝓤 (n.items ≡ [])) (sep 𝓤 (fact 𝓤 (vec_capacity n ≡ 1024)) (fact 𝓤 (vec_ptr n ≡ at)))))
    (three_shown 𝓛 _ _ _ is_new.0 is_new.2 is_new.3) $ move ! (1 ∷ []) $
    nothing ! $ nothing ! $ fjoin ! $ nothing ! $ fjoin ! $ nothing ! $ group ! 3 $ done !))))))))))))))
