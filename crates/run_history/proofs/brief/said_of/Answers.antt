use Rattle.std.proofs.Common.{ℕ, true, false, Some, ◌≡◌, subst}
use Rattle.std.proofs.lemmas.Option.{IfSome_then}
use Rattle.pager_model.specs.declared.entry.Entry.{Entry}
use Rattle.run_history.specs.Briefs.{on_space, on_both, brief_of, Says}
use Rattle.run_history.proofs.brief.said_of.Goals as goal

both : (e : Entry) (s : ℕ) → e.space ≡ Some s → e.frames ≡ true → on_both e.processor s e.what ≡ e
both e s named frames = rw (← named, ← frames)

alone : (e : Entry) (s : ℕ) → e.space ≡ Some s → e.frames ≡ false → on_space e.processor s e.what ≡ e
alone e s named frames = rw (← named, ← frames)

pub returns-then-entry : goal.returns-then-entry
returns-then-entry c =
    let e = c.args.entry.now in
    IfSome_then c.of_both.result c.of_both.ensures
    (λ said says. subst (λ x. Says x (brief_of e.processor c.args.space said)) (both e c.args.space c.requires c.if-entry.true)
    (says e.processor c.args.space))

pub returns-else-entry : goal.returns-else-entry
returns-else-entry c =
    let e = c.args.entry.now in
    IfSome_then c.of_space.result c.of_space.ensures
    (λ said says. subst (λ x. Says x (brief_of e.processor c.args.space said)) (alone e c.args.space c.requires c.if-entry.false)
    (says e.processor))
