use Rattle.std.proofs.Common.{◌≡◌, length, map, ap, sym, subst, ◌∙◌, arith}
use Rattle.std.specs.List.{All}
use Rattle.pager_laws.proofs.LegalHistories.{NothingHeld-legal}
use Rattle.journal_core.specs.Clauses.{IsHistory, IsOwnOf}
use Rattle.journal_core.specs.Journals.{JournalName, AuthorState, PassState}
use Rattle.pager_model.specs.Agreement.{NothingHeld}
use Rattle.pager_model.specs.Counts.{counts}
use Rattle.pager_model.specs.Headline.{IsNeverShort}
use Rattle.pager_model.specs.Laws.{KeepsLawsAllAlong}
use Rattle.pager_model.specs.Legal.{entries_in, frames_at}
use Rattle.pager_model.specs.Stores.{StoresEnd}
use Rattle.pager_core.specs.RunParts.{AreAtRest}
use Rattle.pager_core.specs.Running.{IsNumbered}
use Rattle.pager_laws.proofs.KeptLaws.{KeepsLawsAllAlong-legal}
use Rattle.pager_laws.proofs.OrderedRefusals.{IsNeverShort-legal}
use Rattle.run_history.specs.Kept.{Kept}
use Rattle.pager_core.proofs.ShownReplays.{IsNumbered-closed}
use Rattle.pager_locks.proofs.ClosedPagers.{journals_all, AreAtRest-closed, whole_at}
use Rattle.pager_locks.proofs.Meetings.{few_numbered}
use Rattle.pager_locks.proofs.pager.Pager.close.Given.{Over}
use Rattle.pager_locks.proofs.pager.Pager.close.Goals as goal

pub close-entries-requires-clause-journal : goal.close-entries-requires-clause-journal
close-entries-requires-clause-journal g c =
    subst (λ j. All (λ (a : AuthorState). a.journal ≡ j) c.push_reserved.new.self.items
    × All (λ (p : PassState). p.journal ≡ j) c.args.passes.items) (sym c.self.invariant) (
      journals_all g.N.Named.journal 16 _ _ _ _ _ c.into_parts.ensures.parts c.into_parts-pool.ensures c.push_reserved.ensures.items,
      c.requires.journal,
    )

-- what is gathered are the journal's entries
listed : (g : Over) (c : goal.After-of-history g) → c.close-entries.result.items ≡ c.of-history.result.items
listed g c = sym (ap (λ (k : Kept). k.items) c.of-history.ensures)

met : (g : Over) (c : goal.After-of-history g) → IsHistory g.N.Named.journal.setting (entries_in c.of-history.result.items)
met g c =
    subst (λ h. IsHistory g.N.Named.journal.setting (entries_in h)) (listed g c)
    (subst (λ (j : JournalName). IsHistory j.setting
    (entries_in c.close-entries.result.items)) c.self.invariant c.close-entries.ensures.history)

rests : (g : Over) (c : goal.After-of-history g)
    → AreAtRest g.N.Named.journal.setting (entries_in c.of-history.result.items) c.into_parts.new.spaces.items c.into_parts-pool.result.0
rests g c =
    subst (λ h. AreAtRest g.N.Named.journal.setting (entries_in h) c.into_parts.new.spaces.items c.into_parts-pool.result.0) (listed g c)
    (AreAtRest-closed g.N.Named.journal _ _ _ _ _ _ c.into_parts.ensures.parts c.self.inside.spaces.few c.into_parts-pool.ensures c.push_reserved.ensures.items c.close-entries.ensures.authors)

pub of-requires-clause-rest : goal.of-requires-clause-rest
of-requires-clause-rest g c κs within = (g.N.Named.journal.setting, rests g c)

pub of-requires-clause-few : goal.of-requires-clause-few
of-requires-clause-few g c κs within = (few_numbered g.N.Named.journal.setting _ (met g c), c.into_parts.ensures.parts.no_more)

-- and these are the one history
kept : (g : Over) (c : goal.After-of g) → c.of-history.result.items ≡ c.of.result.history.items
kept g c = sym (ap (λ (k : Kept). k.items) c.of.ensures.history)

pub returns-clause-numbered : goal.returns-clause-numbered
returns-clause-numbered g c = subst IsNumbered (listed g c.before ∙ kept g c) (IsNumbered-closed _ c.close-entries.ensures.numbers)

pub returns-clause-passes : goal.returns-clause-passes
returns-clause-passes g c = subst (λ h. All (λ (p : PassState). IsOwnOf p (entries_in h)) c.args.passes.items)
    (listed g c.before ∙ kept g c) c.close-entries.ensures.passes

pub returns-clause-laws : goal.returns-clause-laws
returns-clause-laws g c = subst (λ h. KeepsLawsAllAlong g.N.Named.journal.setting (entries_in h)) (kept g c)
    (KeepsLawsAllAlong-legal _ _ (met g c.before).legal)

pub returns-clause-never_short : goal.returns-clause-never_short
returns-clause-never_short g c = subst (λ h. IsNeverShort g.N.Named.journal.setting (entries_in h)) (kept g c)
    (IsNeverShort-legal _ _ (met g c.before).legal)

pub returns-clause-none_held : goal.returns-clause-none_held
returns-clause-none_held g c =
    subst (λ h. NothingHeld (frames_at g.N.Named.journal.setting (entries_in h))) (kept g c)
    (NothingHeld-legal _ _ (met g c.before).legal
    (whole_at g.N.Named.journal c.args.passes.items _ c.requires.processors c.requires.whole
    (subst (λ h. All (λ (p : PassState). IsOwnOf p (entries_in h)) c.args.passes.items)
    (listed g c.before) c.close-entries.ensures.passes)))

pub returns-clause-stores : goal.returns-clause-stores
returns-clause-stores g c =
    subst (λ h. StoresEnd g.N.Named.journal.setting h (map g.S.Store.seen c.of.result.stores.items)) (kept g c)
    (c.of.ensures.ends g.N.Named.journal.setting (rests g c.before))

pub returns-clause-count : goal.returns-clause-count
returns-clause-count g c =
    let count = (rests g c.before).count in
    let none : length c.into_inner-spaces.result.stores.items ≡ 0 = ap length c.into_inner-spaces.result.no_stores.0 in
    omega (arith, c.of.ensures.count, count, none)

pub returns-clause-summary : goal.returns-clause-summary
returns-clause-summary g c = c.of.ensures.summary g.N.Named.journal.setting (rests g c.before)
    ∙ ap (λ h. counts g.N.Named.journal.setting (entries_in h)) (kept g c)
