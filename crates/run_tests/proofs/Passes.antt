-- The passes of a new pager's one processor and its daemon, taken from the end: the first may make the calls, and the second two turns.
use Rattle.std.proofs.Common.{◌≡◌, ◌+◌, List, [], ◌∷◌, ◌++◌, length, refl, ap, sym, subst, ◌∙◌, arith, slice_index_or}
use Rattle.journal_core.specs.Journals.{JournalName, PassState, new_pass, new_passes}
use Rattle.pager_model.specs.Settings.{mark_of}
use Rattle.pager_locks.specs.Calls.{MakesTurn}
use Rattle.pager_locks.specs.Prepared.{MayTurn}
use Rattle.pager_locks.proofs.OpenedPagers.{same_ends}
use Rattle.run_tests.specs.Calling.{MayMakeCalls}

module _ (j : JournalName) (fewer none : List PassState) (caller daemon : PassState) (marks : j.setting.marks ≡ 0 ∷ 2 ∷ [])
    (all : new_passes j 0 (4104 ∷ 18 ∷ []) ≡ fewer ++ daemon ∷ []) (rest : fewer ≡ none ++ caller ∷ []) where
  last : (new_pass j 0 4104 ∷ [] ≡ fewer) × (new_pass j 1 18 ≡ daemon)
  last = same_ends (new_pass j 0 4104 ∷ []) fewer (new_pass j 1 18) daemon all

  first : ([] ≡ none) × (new_pass j 0 4104 ≡ caller)
  first = same_ends [] none (new_pass j 0 4104) caller (last.0 ∙ rest)

  pub may_make_calls : MayMakeCalls j caller 513
  may_make_calls = subst (λ p. MayMakeCalls j p 513) first.1
      (record { journal = refl; mark = ap (λ m. slice_index_or m 0 0) marks; whole = (0, refl); room = omega arith })

  pub may_turn : MayTurn j daemon 2
  may_turn = subst (λ p. MayTurn j p 2) last.1
      (record { journal = refl; mark_is = ap (λ m. slice_index_or m 1 0) marks; some = omega arith; few = omega arith; whole = (0, refl); room = omega arith })

  pub may_turn_again : (turned : PassState) → MakesTurn daemon turned 2 → MayTurn j turned 2
  may_turn_again turned makes =
      let made = subst (λ p. MakesTurn p turned 2) (sym last.1) makes in
      let count : length turned.entries ≡ length made.piece = ap length made.entries in
      let few = made.few in
      let room : turned.room ≡ 18 = made.room in
      record {
        journal = made.journal;
        mark_is = ap (mark_of j.setting) made.processor ∙ ap (λ m. slice_index_or m 1 0) marks;
        some = omega arith;
        few = omega arith;
        whole = (made.turn.made + 1, made.after);
        room = omega (arith, count, few, room);
      }
