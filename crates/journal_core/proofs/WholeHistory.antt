-- What is known once all seats are one: the passes' entries make the history.
use Rattle.std.proofs.Common.{◌≡◌, ℕ, ◌<◌, ◌≤◌, true, List, [], ◌∷◌, map, reverse, length, get_or, sym, ap, subst, ◌∙◌, arith}
use Rattle.std.specs.List.{AllByRecursion, All, range_with_len, sum}
use Rattle.std.proofs.lemmas.List.Elements.{All-from_recursion}
use Rattle.atomic_table.specs.Table.{Me}
use Rattle.pager_model.specs.declared.entry.Numbered.{Numbered}
use Rattle.pager_model.specs.Legal.{entries_in}
use Rattle.pager_model.specs.Settings.{Given}
use Rattle.journal_core.specs.declared.view.View.{View}
use Rattle.journal_core.specs.declared.view.Part.{Part}
use Rattle.journal_core.specs.declared.view.Own.{Own}
use Rattle.journal_core.specs.Clauses.{IsHistory, IsPartOf, IsOwnOf}
use Rattle.journal_core.specs.Journals.{JournalName, AuthorState, PassState}
use Rattle.journal_core.specs.Parts.{part_list, own_list}
use Rattle.pager_model.specs.Legal.{numbered}
use Rattle.journal_core.specs.Places.{placed_all, IsPlaced}
use Rattle.journal_core.specs.Seats.{part_of, own_of, whole_view}
use Rattle.journal_core.specs.Views.{Meets, rest_view}
use Rattle.journal_core.proofs.HistoryLength.{length_by_processors, processors_of}
use Rattle.journal_core.proofs.HistoryLists.{own_entries}
use Rattle.journal_core.proofs.MergedEntries.{each_unreverse, each_unmap, IsAt, Owns, own_at, length-numbered, logs_of, logs_at, all_in, counts_fit, placed_is}
use Rattle.pager_model.proofs.Histories.{entries_in-numbered}

-- first the authors board, and then the passes: what the last seat meets
pub whole_meets : (g : Given) (authors : List AuthorState) (passes : List PassState) (n : ℕ) (s t u : Me Unit View) → s ≡ (rest_view g, [])
    → t ≡ (record { live = true; setting = s.0.setting; authors = map part_of (reverse authors); passes = [] }, [])
    → u ≡ (record { live = true; setting = t.0.setting; authors = t.0.authors; passes = map own_of (reverse passes) }, [])
    → Meets u.0.setting n u.0 → Meets g n (whole_view g authors passes)
whole_meets g authors passes n s t u rest first then meets =
    let is = then
    ∙ ap (λ (x : Me Unit View).
    (record { live = true; setting = x.0.setting; authors = x.0.authors; passes = map own_of (reverse passes) }, [])) first
    ∙ ap (λ (x : Me Unit View). (
      record { live = true; setting = x.0.setting; authors = map part_of (reverse authors); passes = map own_of (reverse passes) },
      [],
    )) rest in
    subst (λ (x : Me Unit View). Meets x.0.setting n x.0) is meets

module _ (g : Given) (authors : List AuthorState) (passes : List PassState) (n : ℕ) (m : Meets g n (whole_view g authors passes)) where
  owns_back : AllByRecursion (Owns m.history) (reverse passes)
  owns_back = each_unmap (λ (o : Own). o.entries ≡ own_list o.processor m.history) own_of (reverse passes) m.known.passes

  owns : AllByRecursion (Owns m.history) passes
  owns = each_unreverse (Owns m.history) passes owns_back

  -- the history fits into the passes' rooms
  pub fits : (room : ℕ) → map (λ (p : PassState). p.processor) passes ≡ range_with_len 0 (length g.marks)
      → AllByRecursion (λ (p : PassState). length p.entries ≤ p.room) passes → sum (map (λ (p : PassState). p.room) passes) ≤ room
      → n ≤ room
  fits room in_order rooms enough =
      omega (
        arith,
        m.long_is,
        length_by_processors (length g.marks) m.history (processors_of g m.history m.legal),
        counts_fit m.history passes 0 (length g.marks) in_order owns rooms,
      )

  placed_from : (l : List Numbered) → AllByRecursion (IsAt (numbered m.history)) l → AllByRecursion (λ (x : Numbered). x.number < n) l
  placed_from [] k = tt
  placed_from (x ∷ xs) k = (omega (arith, k.0.0, length-numbered m.history, m.long_is), placed_from xs k.1)

  placed_each : (ps : List PassState) → AllByRecursion (Owns m.history) ps → AllByRecursion (IsPlaced n) (logs_of m.history ps)
  placed_each [] k = tt
  placed_each (p ∷ ps) k = (
    subst (IsPlaced n) (sym k.0)
        (All-from_recursion _ (own_list p.processor m.history)
        (placed_from (own_list p.processor m.history) (own_at p.processor m.history))),
    placed_each ps k.1,
  )

  -- the places are below the history's length
  pub logs_placed : {X : Type 0} (entries : X → List Numbered) (logs : List X)
      → map entries logs ≡ map (λ (p : PassState). p.entries) (reverse passes) → All (λ x. IsPlaced n (entries x)) logs
  logs_placed entries logs is =
      All-from_recursion (λ x. IsPlaced n (entries x)) logs (each_unmap (IsPlaced n) entries logs
      (subst (AllByRecursion (IsPlaced n)) (sym is) (placed_each (reverse passes) owns_back)))

  -- the merge is the history
  pub merged : (start : List Numbered) (logs : List (List Numbered))
      → map (λ (p : PassState). p.processor) passes ≡ range_with_len 0 (length g.marks) → length start ≡ n
      → logs ≡ map (λ (p : PassState). p.entries) (reverse passes)
      → placed_all start logs ≡ numbered m.history
  merged start logs in_order long is =
      ap (placed_all start) is
      ∙ placed_is (numbered m.history) start (logs_of m.history (reverse passes)) (omega (arith, length-numbered m.history, m.long_is))
      (logs_at m.history (reverse passes) owns_back)
      (all_in m.history (length g.marks) passes (processors_of g m.history m.legal) owns_back in_order)

  module _ (items : List Numbered) (is : items ≡ numbered m.history) where
    same : entries_in items ≡ m.history
    same = ap entries_in is ∙ entries_in-numbered m.history

    pub numbers_told : items ≡ numbered (entries_in items)
    numbers_told = is ∙ ap numbered (sym same)

    pub history_told : IsHistory g (entries_in items)
    history_told = subst (IsHistory g) (sym same) (record { legal = m.legal; processors = m.few; entries = m.short })

    pub authors_told : (name : JournalName) → name.setting ≡ g → All (λ (a : AuthorState). a.journal ≡ name) authors
        → All (λ (a : AuthorState). IsPartOf a (entries_in items)) authors
    authors_told name setting ours k d below =
        let each =
        each_unreverse (λ (a : AuthorState). a.entries ≡ part_list (length g.told) a.part m.history) authors
        (each_unmap (λ (p : Part). p.entries ≡ part_list (length g.told) p.part m.history) part_of (reverse authors) m.known.authors) in
        let a : AuthorState = get_or authors k d in
        All-from_recursion (λ (b : AuthorState). b.entries ≡ part_list (length g.told) b.part m.history) authors each k d below
        ∙ ap (λ h. part_list (length h.told) a.part m.history) (sym (ap (λ j. j.setting) (ours k d below) ∙ setting))
        ∙ ap (part_list (length a.journal.setting.told) a.part) (sym same)

    pub passes_told : All (λ (p : PassState). IsOwnOf p (entries_in items)) passes
    passes_told k d below =
        let p : PassState = get_or passes k d in
        let own = All-from_recursion (Owns m.history) passes owns k d below in
        subst (IsOwnOf p) (sym same) (own, ap entries_in own ∙ own_entries p.processor m.history)
