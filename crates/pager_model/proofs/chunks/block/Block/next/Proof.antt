use Rattle.pager_model.proofs.ChunkSteps.{◌≡◌, ℕ, suc, ◌+◌, ◌-◌, ◌*◌, ◌^◌, ◌<◌, ◌≤◌, [], ◌∷◌, refl, ap, arith, lit<, w64, full_share, sep, id⊢, ftrue, fsep, fex, flft, proved, List, Val, vint, vstruct, vcons, vnil, fact, tables, Share, ‵, raw, some, later, prop, at_ret, ◌⊛◌, ◌$◌, ◌∵◌, !, qed, done, drop, move, use0, use1, use2, split, join, fsplit, fjoin, fpick, fpack, await, pick, and_then, no_more, feq_i, suffices, group, enter, of_opd, bin, lit, stop, fld, get, get_in, sets_last, first, blocks, exec, returns, alloc_all, pass_all, free_all, look_at, sets, env, lands_as, calls_at, triple_of, framed, lasts, u64, usize, yes, Ptr, rawptr_vals, block_ptr, ptr_val, in_a_block, regoal, rewrite, plain, nothing, owned, uint_Makes, uint_vals, owns, Stays, walk_of, stay_dropped, Goes-dropped, ends_at, heard, peeks, Is, shows, only}
use mir.Val.{WT}
use types.Part.{whole, sub, agg}
use prog.Wp.{WpFn}
use Rattle.pager_model.proofs.ChunkCalls.{big, four_shown}
use denote.RattleType.{RattleType, Valss, flat}
use mir.Val.{of_list}
use base.Fml.{feq}
use Rattle.pager_model.specs.contracts.chunks.block.Key.{the_row as key-row}
use denote.Triple.Clauses.{Lasts}
use denote.Triple.Entry.{alive}
use Rattle.std.specs.Vec.Ownership.{lodged}
use Rattle.pager_model.specs.ChunkOwnership.{words_at, block_rest, block_owns, key_way}
use Rattle.pager_model.specs.declared.chunks.block.Block.{Block}
use Rattle.pager_model.specs.contracts.chunks.block.Block.{the_row as block-row}
use Rattle.pager_model.proofs.chunks.block.Block.TheLaws.{lowers}
use Rattle.pager_model.proofs.ChunkOwners.{block_vals, block_in, key_vals, key_in}
use Rattle.pager_model.specs.declared.chunks.block.Key.{Key}
use Rattle.pager_model.proofs.ChunkLending.{chunk_taken, next_chunk}
use Rattle.pager_model.proofs.ChunkWords.{lodged_in}
use Rattle.pager_model.proofs.ChunkMemory.{word_laws, Lodging, empty_val, is_empty_val}
use Rattle.std.specs.Vec.{vec_len, vec_capacity, vec_ptr}
use base.Logic.{emp}
use contract.Monad.{fact_i}
use contract.BorrowLft.{◌⊑◌, ⊑_static}
use Rattle.std_alloc.specs.contracts.vec.lodge as g
use Rattle.std_alloc.proofs.vec.lodge.Met.{met}
use Rattle.pager_model.specs.contracts.chunks.block.Block.next as f
use Rattle.pager_model.proofs.chunks.block.Block.next.Statement.{statement}
use Rattle.pager_model.proofs.chunks.block.Block.next.Code as code

abbrev stayed : Stays f.ended.signature.params f.ended.kept
stayed = (stay_dropped _ yes, tt)

before : (n : ℕ) → 0 < n → n ≡ suc (n - 1)
before n any = omega arith

fits_word : (n : ℕ) → n ≤ 64 → n < 2 ^ 64
fits_word n few = omega arith

fewer : (n : ℕ) → n ≤ 64 → n - 1 < 2 ^ 64
fewer n few = omega arith

words_fit : (n : ℕ) → n ≤ 64 → (n - 1) * 1024 < 2 ^ 64
words_fit n few = omega arith

more_fit : (n : ℕ) → n ≤ 64 → 1 + (n - 1) * 1024 < 2 ^ 64
more_fit n few = omega arith

bytes_fit : (n : ℕ) → n ≤ 64 → (1 + (n - 1) * 1024) * 8 < 2 ^ 64
bytes_fit n few = omega arith

placed : (b o k : ℕ) → block_ptr b (o + 8 + k * 1024 * 8) ≡ block_ptr b ((1 + k * 1024) * 8 + o)
placed b o k = ap (block_ptr b) (omega arith)

well_made : (b o : ℕ) → WT (empty_val (block_ptr b o))
well_made b o = (tt, (record { fits = lit< tt }, (record { fits = lit< tt }, (tt, tt))))

abbrev Parts : List RattleType
Parts = Lodging ∷ key-row ∷ block-row ∷ []

one_fewer : (n : ℕ) → 0 < n → n - 1 + 1 ≡ n
one_fewer n any = omega arith

pub next_spec : {M : Type 1} → statement M
next_spec 𝓤 𝓛 𝓜 𝓡 wired =
    let c = f.clauses 𝓛 𝓜.mem 𝓡.returns in let W = walk_of 𝓛 f.ended stayed c in let 𝓣 = tables 𝓤 𝓛.H 𝓜 𝓡 𝓡.env in
    proved 𝓛 f.ended stayed c 𝓜 𝓡 (Goes-dropped 𝓛 0 (plain (λ _. block-row)) yes (λ κs x w. refl), tt)
    f.Key.name code.function (code.unfolded 𝓤 𝓛.H 𝓜 𝓡 wired)
    (λ κs. (block_vals, tt)) (λ κs. (lowers.val_is, tt))
    (λ κs qs bounds a ghost are.
    let y : W.Ghost = ((κs, qs, bounds, a, (block_vals a.0, tt)), tt) in let n = a.0.left in let k = n - 1 in
    qed 𝓛 ((‵ ftrue ⊛ ‵ (fsep (block-row.own_val a.0 (block_vals a.0)) ftrue)) ∷ raw (fact 𝓤 ((0 < n) × (n ≤ 64))) ∷ []) ∵
    split ! $ drop ! $ fsplit ! $ fsplit ! $ drop ! $ move ! (2 ∷ 1 ∷ []) $ heard ! _ (λ fits. drop ! $
    let few = fits.1 in let small = fits_word n few in let less = fewer n few in let words = words_fit n few in let more =
    more_fit n few in let bytes = bytes_fit n few in
    in_a_block ! a.0.start (λ p. block_owns p n) (id⊢ 𝓤 _) (λ b o e.
    regoal ! (λ p. prop (WpFn 𝓤 𝓛.H 𝓣.C 𝓣.Λ code.function (vstruct (vcons (ptr_val p) (vcons (vint w64 n) vnil)) ∷ []) (W.post y))) e refl $
    let p = block_ptr b o in let at = (1 + k * 1024) * 8 + o in let q = block_ptr b at in
    fpick ! (λ i. rewrite ! 0 (λ (m : ℕ). ‵ (block_rest p m i)) (before n fits.0) refl $
    enter ! _ _ _ _ _ $ alloc_all ! (λ l. pass_all ! refl ((tt, (tt, (record { fits = small }, tt))), tt) $
    sets ! (of_opd ! (get_in ! (fld ! refl (stop !)) (sub ! 0 refl (whole !)))) refl (tt, tt) $
    sets ! (of_opd ! (get_in ! (fld ! refl (stop !)) (sub ! 1 refl (whole !)))) refl (tt, record { fits = small }) $
    sets ! (bin ! (get ! refl) (lit ! tt) fits.0) refl (tt, record { fits = less }) $
    first ! $ blocks ! $
    sets ! (bin ! (get ! refl) (big ! (record { fits = lit< tt })) (record { fits = words })) refl (tt, record { fits = words }) $
    sets ! (bin ! (lit ! tt) (get ! refl) (record { fits = more })) refl (tt, record { fits = more }) $
    sets ! (bin ! (get ! refl) (lit ! tt) (record { fits = bytes })) refl (tt, record { fits = bytes }) $
    sets ! (bin ! (get ! refl) (get ! refl) tt) refl (tt, tt) $
    use1 𝓛 (later (‵ (words_at 1024 (next_chunk 𝓛 p k)) ⊛ ‵ (fex Share (key_way p (next_chunk 𝓛 p k) i)) ⊛ ‵ (block_rest p k i)))
    (chunk_taken 𝓛 p i k) $ await ! tt $
    rewrite ! 0 (λ (r : Ptr). (‵ (words_at 1024 r) ⊛ ‵ (fex Share (key_way p r i)) ⊛ ‵ (block_rest p k i))) (placed b o k) refl $ split ! $
    use1 𝓛 (‵ (lodged u64 q 0 1024 [])) (lodged_in 𝓛 q) $
    -- [the chunk, as a Vec has it; its key and the block]
    let T = triple_of 𝓛 (g.signature u64) (g.spec u64 𝓛 𝓜.mem 𝓡.returns) in
    let z : T.Ghost = (
      (
        ([], tt),
        (full_share, tt),
        tt,
        (q, (0, (1024, tt))),
        (rawptr_vals q, (uint_vals w64 0, (uint_vals w64 1024, tt))),
      ),
      [],
    ) in
    use0 𝓛 (raw (fact 𝓤 ((0 ≡ 0) × (0 ≤ 1024) × (1024 < 2 ^ 63)))) (fact_i 𝓤 _ (emp 𝓤) (refl, omega arith, omega arith)) $ join ! $ use0 𝓛
    (raw (fact 𝓤 ([] ⊑ []))) (fact_i 𝓤 _ (emp 𝓤) (⊑_static [])) $ join ! $
    nothing ! $ owned ! usize (Is usize) (uint_Makes 𝓛 w64) 1024 _ (refl, lit< tt) $ fjoin ! $ owned ! usize (Is usize)
    (uint_Makes 𝓛 w64) 0 _ (refl, lit< tt) $ fjoin ! $
    feq_i ! (List Val) (rawptr_vals q) (rawptr_vals q) refl $ fjoin ! $ nothing ! $ use0 𝓛 (‵ (flft [] full_share))
    (𝓛.lfts.lft-nil full_share) $ join ! $ join ! $ use2 𝓛 (raw (T.pre z)) (id⊢ 𝓤 _) $
    calls_at ! (framed 𝓤 𝓛.H 𝓜 𝓣) T (met 𝓤 𝓛 𝓜 𝓡 (code.calls-std_alloc::vec::lodge 𝓡.env wired) u64 word_laws) z
    (and_then ! (get ! refl) (and_then ! (lit ! tt) (and_then ! (big ! (record { fits = lit< tt })) (no_more !)))) (λ v.
    use1 𝓛 (later (some (λ (w : Lodging.Denot). (raw (alive 𝓛 (g.signature u64) z.0.0 z.0.1) ⊛ ‵ (Lodging.own_val w (v ∷ []))) ⊛ some
    (λ (ws : Lasts (g.ended u64) z.0.0 z.0.3).
    ‵ (lasts (g.ended u64) z.0.0 z.0.3 ws) ⊛ raw
    (fact 𝓤 ((w.items ≡ []) × (vec_len w ≡ 0) × (vec_capacity w ≡ 1024) × (vec_ptr w ≡ q))))))) (id⊢ 𝓤 _) $
    await ! tt $ pick ! (λ w. split ! $ split ! $ drop ! $ move ! (1 ∷ []) $ pick !
    (λ ws. split ! $ drop ! $ heard ! _ (λ is_new. peeks ! Lodging (Is Lodging) (shows 𝓛 Lodging) w (v ∷ []) (λ is.
    let val = is_empty_val w v q is is_new.1 is_new.2 is_new.3 in rewrite ! 0 (λ (u : Val). ‵ (Lodging.own_val w (u ∷ []))) val refl $
    lands_as ! val refl (tt, well_made b at) $
    sets ! (of_opd ! (get ! refl)) refl (tt, well_made b at) $
    sets ! (agg ! (and_then ! (get ! refl) (no_more !))) refl (tt, (tt, tt)) $
    sets ! (agg ! (and_then ! (get ! refl) (and_then ! (get ! refl) (no_more !)))) refl (tt, (tt, (record { fits = less }, tt))) $
    sets_last ! (agg ! (and_then ! (get ! refl) (and_then ! (get ! refl) (and_then ! (get ! refl) (no_more !))))) refl
    (tt, (well_made b at, ((tt, tt), ((tt, (record { fits = less }, tt)), tt)))) $
    exec ! 𝓣.C 𝓣.Λ (env code.Mir.locals l) code.Mir.t-5 (at_ret _ (W.post y)) $
    sets ! (of_opd ! (get ! refl)) refl (tt, (well_made b at, ((tt, tt), ((tt, (record { fits = less }, tt)), tt)))) $
    returns ! (look_at ! 0 refl) $ free_all ! refl $
    let key : Key = record { start = p; at = q } in let left : Block = record { start = p; left = k } in
    let out = vstruct (vcons (empty_val q) (vcons (only (key_vals key)) (vcons (only (block_vals left)) vnil))) in
    suffices ! _ (ends_at 𝓛 f.ended stayed c y out (w, key, left) (tt, tt) (tt, tt)) $
    move ! (1 ∷ []) $ split ! $ fpack ! ℕ (λ j. fex Share (key_way p q j)) i $ use1 𝓛 (‵ (key-row.own_val key (key_vals key)))
    (key_in 𝓛 key) $
    move ! (1 ∷ []) $ fpack ! ℕ (block_rest p k) i $ use1 𝓛 (‵ (block-row.own_val left (block_vals left))) (block_in 𝓛 left less) $
    nothing ! $ move ! (1 ∷ 0 ∷ []) $ fjoin ! $ move ! (1 ∷ 0 ∷ []) $ fjoin ! $ move ! (1 ∷ 0 ∷ []) $ fjoin ! $ feq_i ! (List Val)
    (out ∷ []) (out ∷ []) refl $ fjoin ! $
    fpack ! (Valss Parts) (λ vss. fsep (feq (List Val) (out ∷ []) (vstruct (of_list (flat Parts vss)) ∷ []))
    (owns Parts (w, (key, (left, tt))) vss)) (empty_val q ∷ [], (key_vals key, (block_vals left, tt))) $
    use0 𝓛 (raw (sep 𝓤 (fact 𝓤 (w.items ≡ [])) (sep 𝓤 (fact 𝓤 (vec_capacity w ≡ 1024))
    (sep 𝓤 (fact 𝓤 (vec_ptr w ≡ q)) (fact 𝓤 (k + 1 ≡ n))))))
    (four_shown 𝓛 _ _ _ _ is_new.0 is_new.2 is_new.3 (one_fewer n fits.0)) $ move ! (1 ∷ []) $
    nothing ! $ nothing ! $ fjoin ! $ nothing ! $ group ! 3 $ done !))))))))))
