use Rattle.std.proofs.Common.{inl, inr, refl, sym, ap, ◌∙◌, arith}
use Rattle.std.proofs.lemmas.Bool.{cases_Bool, cases_eq, false≢true, false_from_ne_true}
use Rattle.population_map.specs.Populations.{is_populated, mark_of}
use Rattle.pager_model.proofs.ExtentLemmas.{coarser, in_extent, of_extent, extent_within}
use Rattle.population_map.proofs.Marks.{bits_over, mark_alike}
use Rattle.population_map.proofs.Masks.{no_bit}
use Rattle.population_map.proofs.Placings.{same_count}
use Rattle.population_map.proofs.placing.evict_all.Goals as goal
use Rattle.population_map.proofs.placing.evict_all.Goals.{then-is_populated, else-is_populated}

pub returns-then-mark_at-eq0-clause-empty : goal.returns-then-mark_at-eq0-clause-empty
returns-then-mark_at-eq0-clause-empty g c = record {
  emptied = λ other same.
      let m = c.args.tree.now in
      let whole = coarser c.args.size 3 other c.args.first c.requires.aligned.0 (omega arith) same in
      false_from_ne_true _ (λ is. no_bit _ (ap (λ v. v.some) (mark_alike m 3 other c.args.first (omega arith) whole)
      ∙ (ap (λ v. v.some) (sym (c.mark_at.ensures ∙ ap (λ k. mark_of m k c.args.first) c.at_level.ensures)) ∙ c.if-mark_at-eq0.true))
      (bits_over m c.requires.marks 3 other (omega arith) (omega arith) is));
  others = λ other apart. refl;
}

pub returns-then-not-has_populated-clause-empty : goal.returns-then-not-has_populated-clause-empty
returns-then-not-has_populated-clause-empty g c = record {
  emptied = λ other same. elim (cases_Bool (is_populated c.args.tree.now other)) [
    | inl is ↦ absurd (false≢true (sym c.if-not-has_populated.true ∙ c.has_populated.ensures.1 (other, same, is)))
    | inr none ↦ none
  ];
  others = λ other apart. refl;
}

pub overflow_add-page-end : goal.overflow_add-page-end
overflow_add-page-end g c =
    omega (
      arith,
      c.pages.ensures,
      c.requires.known,
      extent_within c.args.size c.args.first c.args.tree.now.roots c.requires.aligned.0 c.requires.aligned.1 c.requires.page,
    )

pub change-requires-clause-page : goal.change-requires-clause-page
change-requires-clause-page g c =
    omega (
      arith,
      c.pages.ensures,
      c.loop-page.invariant.room.roots,
      extent_within c.args.size c.args.first c.args.tree.now.roots c.requires.aligned.0 c.requires.aligned.1 c.requires.page,
    )

pub change-requires-clause-room : goal.change-requires-clause-room
change-requires-clause-room g c =
    omega (
      arith,
      c.requires.room,
      c.loop-page.invariant.room.room,
      same_count c.args.tree.now c.loop-page.tree c.loop-page.invariant.room.roots c.loop-page.invariant.ids,
    )

pub loop-page-preserved : goal.loop-page-preserved
loop-page-preserved g c =
    let so_far = c.loop-page.invariant in
    let page = c.loop-page.page in
    elim c.if-is_populated.branch [
      | then-is_populated w ↦ let evicted = w.change.ensures.populated in
          rw w.tree-is (record {
            marks = w.change.ensures.marks;
            room = record {
              roots = w.change.ensures.room.roots ∙ so_far.room.roots;
              room = w.change.ensures.room.room ∙ so_far.room.room;
            };
            ids = λ size other small. evicted.ids size other small ∙ so_far.ids size other small;
            emptied = λ other low high. elim (cases_eq other page) [
              | inl same ↦ ap (is_populated w.change.new.tree) same ∙ evicted.changed
              | inr before ↦ evicted.others other before ∙ so_far.emptied other low (omega arith)
            ];
            others = λ other apart. evicted.others other (λ same. apart (omega arith) (omega arith))
                ∙ so_far.others other (λ low high. apart low (omega arith));
          })
      | else-is_populated w ↦ rw w.tree-is (record {
        marks = so_far.marks;
        room = so_far.room;
        ids = so_far.ids;
        emptied = λ other low high. elim (cases_eq other page) [
          | inl same ↦ ap (is_populated c.loop-page.tree) same ∙ (sym c.is_populated.ensures ∙ w.if-is_populated.false)
          | inr before ↦ so_far.emptied other low (omega arith)
        ];
        others = λ other apart. so_far.others other (λ low high. apart low (omega arith));
      })
    ]

pub returns-clause-empty : goal.returns-clause-empty
returns-clause-empty g c = record {
  emptied = λ other same. let at = of_extent c.args.size c.args.first other c.requires.aligned.0 c.requires.aligned.1 same in
      c.loop-page.invariant.emptied other at.0 (omega (arith, at.1, c.pages.ensures));
  others = λ other apart. c.loop-page.invariant.others other (λ low high. apart
      (in_extent c.args.size c.args.first other c.requires.aligned.0 c.requires.aligned.1 low (omega (arith, c.pages.ensures))));
}
