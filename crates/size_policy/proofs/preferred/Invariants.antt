use Rattle.std.proofs.Common.{◌≡◌, ℕ, ◌≤◌, Bool, false}
use Rattle.pager_model.specs.PreferredSize.{fits}
use Rattle.size_policy.specs.Answers.{AnswersTest}
use Rattle.size_policy.proofs.preferred.Given as goal

abbrev pub invariant-loop-level : goal.invariant-loop-level
invariant-loop-level g l =
    (test : ℕ → ℕ → Bool) → AnswersTest (goal.F-post g l.meets) test → (k : ℕ) → l.level ≤ k → k ≤ 3 → fits test l.page l.want k ≡ false
