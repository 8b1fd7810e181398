-- A run of the large trace: where it was made, where none was, and what follows of each.
use Rattle.std.proofs.Common.{◌≡◌, ◌≢◌, ℕ, inl, inr, List, length, Option, Some, None, MatchOption, refl, sym, subst, arith}
use Rattle.pager_model.specs.Scripts.{Script}
use Rattle.pager_command.specs.declared.form.Order.TheVariants.{InOneThread}
use Rattle.pager_command.specs.declared.form.Report.TheVariants.{Counts}
use Rattle.pager_command.specs.declared.form.Schedule.TheVariants.{Drawn}
use Rattle.pager_command.specs.declared.status.TheConstants.{USAGE}
use Rattle.pager_command.specs.MadeRuns.{LacksForLarge, RunsLarge, large_trace}
use Rattle.pager_command.specs.Runs.{IsStatus, IsTold, MadeNone, MadeRun}
use Rattle.pager_command.specs.Views.{Ending, OutViews}
use Rattle.pager_command.proofs.FormRuns.{made_status, made_statuses, told_none}

module _ {K P : Type 0} (out : OutViews K P) (number seed : ℕ) (stores : List P) (end : Ending K P) where
  abbrev Lacks : Type 0
  Lacks = LacksForLarge (length stores) end.outcome.status end.outcome.refusal

  abbrev Unrun : Type 0
  Unrun = Lacks × MadeNone out stores end

  abbrev Made : Script → Type 0
  Made script = (script ≡ large_trace number) × MadeRun out (InOneThread (Drawn seed)) Counts stores end script

  -- one was made
  pub RunsLarge-made : (script : Script) → end.outcome.trace ≡ Some script → script ≡ large_trace number
      → MadeRun out (InOneThread (Drawn seed)) Counts stores end script → RunsLarge out number seed stores end
  RunsLarge-made script trace large made = subst (λ t. MatchOption t Unrun Made) (sym trace) (large, made)

  -- none was made
  pub RunsLarge-unmade : end.outcome.trace ≡ None → Lacks → MadeNone out stores end → RunsLarge out number seed stores end
  RunsLarge-unmade trace lacks none = subst (λ t. MatchOption t Unrun Made) (sym trace) (lacks, none)

  either : (Q : Type 0) → RunsLarge out number seed stores end → (Lacks → Q) → ((script : Script) → Made script → Q) → Q
  either Q runs lacks made = by_trace end.outcome.trace runs
    where
      by_trace : (trace : Option Script) → MatchOption trace Unrun Made → Q
      by_trace None holds = lacks holds.0
      by_trace (Some script) holds = made script holds

  pub RunsLarge-status : RunsLarge out number seed stores end → IsStatus end.outcome.status
  RunsLarge-status runs = either (IsStatus end.outcome.status) runs
      (λ lacks. elim lacks [ inl few ↦ inr (inr (inl few.1)) | inr memory ↦ inr (inr (inr (inr (inl memory.1)))) ])
      (λ script made. made_status end.outcome.status (made_statuses Counts end.outcome.status made.1.ends.ended))

  pub RunsLarge-command : RunsLarge out number seed stores end → end.outcome.status ≢ USAGE
  RunsLarge-command runs = either (end.outcome.status ≢ USAGE) runs
      (λ lacks is. elim lacks [ inl few ↦ (let status = few.1 in omega (arith, status, is)) | inr memory ↦ (let status = memory.1 in omega (arith, status, is)) ])
      (λ script made is. (let which = made_statuses Counts end.outcome.status made.1.ends.ended in omega (arith, which, is)))

  pub RunsLarge-told : RunsLarge out number seed stores end → IsTold end.outcome.status end.outcome.refusal
  RunsLarge-told runs = either (IsTold end.outcome.status end.outcome.refusal) runs
      (λ lacks. elim lacks [
        | inl few ↦ record { own_status = rw (few.2, few.1) refl; refused = λ _. rw few.2 refl; read_fault = λ _. rw few.2 refl }
        | inr memory ↦ (let status = memory.1 in
            told_none end.outcome.status end.outcome.refusal memory.2 (λ is. omega (arith, status, is)) (λ is. omega (arith, status, is)))
      ])
      (λ script made. (let which = made_statuses Counts end.outcome.status made.1.ends.ended in
      told_none end.outcome.status end.outcome.refusal made.1.refusal (λ is. omega (arith, which, is)) (λ is. omega (arith, which, is))))
