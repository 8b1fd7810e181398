-- The answer of a call that was made.
use Rattle.std.proofs.Common.{◌≡◌, ℕ, Option, Some, None, refl, ap, sym, subst, ◌∙◌}
use Rattle.std.specs.Option.{IfSome}
use Rattle.pager_model.specs.declared.call.Call.{Call}
use Rattle.pager_model.specs.declared.reply.Reply.{Reply}
use Rattle.pager_model.specs.declared.reply.Reply.TheVariants.{Value, NoFrames, StoreFault, Busy}
use Rattle.stream_core.specs.Streaming.{Streaming}
use Rattle.live_pager.specs.declared.told.Told.{Told}
use Rattle.guarded_pager.specs.Guards.{Tells}
use Rattle.superpager_machine.specs.declared.answers.CallAnswer.{CallAnswer}
use Rattle.superpager_machine.specs.Answers.{IsDone, IsMade, answer_of, plain_answer, with_reply}
use Rattle.superpager_machine.specs.Statuses.{call_status, line_of, line_refusal, status_of}

-- what a reply says more leaves the status
same_status : (answer : CallAnswer) (reply : Reply) → (with_reply answer reply).status ≡ answer.status
same_status answer (Value word) = refl
same_status answer (NoFrames wired claimed held) = refl
same_status answer (StoreFault space count) = refl
same_status answer (Busy page) = refl
same_status answer reply = refl

module _ (old new : Option Streaming) (processor : ℕ) (call : Option Call) (s s' : Streaming) (told : Told) (answer : CallAnswer)
    (was : old ≡ Some s) (is : new ≡ Some s') (answer_is : answer ≡ answer_of told) where
  done_by : (call : Option Call) → IfSome call (λ c. Tells s (line_of processor c) told s')
      → IfSome call (λ c. IsDone s (line_of processor c) new answer)
  done_by None tells = tt
  done_by (Some c) tells = record { told = told; next = s'; state_is = is; tells = tells; answer_is = answer_is }

  zero_status : answer.status ≡ 0
  zero_status = ap (λ (a : CallAnswer). a.status) answer_is ∙ same_status (plain_answer told) told.answered.reply

  pub IsMade-told : None ≡ line_refusal s processor call → IfSome call (λ c. Tells s (line_of processor c) told s')
      → IsMade old processor call new answer
  IsMade-told none tells =
      record {
        status = zero_status ∙ sym (ap (λ o. call_status o processor call) was ∙ ap status_of (sym none));
        done = λ zero. subst (λ o. IfSome o (λ x. IfSome call (λ c. IsDone x (line_of processor c) new answer))) (sym was) (done_by call tells);
        same = λ other. absurd (other zero_status);
      }
