use Rattle.std.proofs.Common.{◌≡◌, Option, None, IsSome, inl, inr, refl, subst, sym, arith}
use Rattle.std.proofs.lemmas.Bool.{false≢true}
use Rattle.flight_core.specs.Lacking.{NoneLacked}
use Rattle.pager_model.specs.Legal.{entries_in}
use Rattle.pager_command.specs.declared.form.Command.TheVariants.{Run, Make, Large, Check, Stream}
use Rattle.pager_command.specs.declared.form.Command.{Command}
use Rattle.pager_command.specs.declared.form.Form.{Form}
use Rattle.pager_command.specs.declared.form.Making.{Making}
use Rattle.pager_command.specs.Forms.{AreCheckWords, AreLargeWords, AreMakingWords, AreOfCommand, AreStreamWords, AreWords}
use Rattle.pager_command.specs.Views.{ending, ends, out_views, views}
use Rattle.pager_command.proofs.FormRuns.{RunsBy-command, RunsBy-complete, RunsBy-status, RunsBy-told, run_of, told_none}
use Rattle.pager_command.proofs.LargeRuns.{RunsLarge-command, RunsLarge-status, RunsLarge-told}
use Rattle.pager_command.proofs.OneCommand.{one_command, stream_some}
use Rattle.pager_command.proofs.CheckRuns.{Checks-command, Checks-status, Checks-told}
use Rattle.pager_command.proofs.StreamEnds.{Streams-command, Streams-status, Streams-told}
use Rattle.pager_command.proofs.running.run.Goals as goal

-- there is no verdict
no_verdict : {V : Type 0} (verdict : Option V) → verdict ≡ None → IsSome verdict → ⊥
no_verdict verdict none some = false≢true (subst IsSome none some)

-- the words are of no command
pub returns-in_default : goal.returns-in_default
returns-in_default g c =
    let stop = c.stopped.ensures in
    let no_command = c.in_default.ensures.none in
    record {
      statuses = inr (inl stop.status);
      told = told_none c.stopped.result.status c.stopped.result.refusal stop.refusal
          (λ is. (let status = stop.status in omega (arith, status, is))) (λ is. (let status = stop.status in omega (arith, status, is)));
      command = (λ is. absurd (no_command is), λ other. absurd (other stop.status));
      usage = λ _. record {
        no_refusal = stop.refusal;
        no_trace = stop.trace;
        unread = refl;
        none = record { unwritten = refl; no_history = stop.history; same_stores = rw stop.stores refl };
      };
      runs = λ form is. absurd (no_command (Run form, is));
      complete = λ form is. absurd (no_command (Run form, is));
      makes = λ m is. absurd (no_command (Make m, is));
      large = λ number seed is. absurd (no_command (Large number seed, is));
      checks = λ is. absurd (no_command (Check, is));
      streams = λ report is. absurd (no_command (Stream report, is));
      verdict = λ some. absurd (no_verdict _ stop.verdict some);
      lasting = λ _ _. subst (λ h. NoneLacked (entries_in h)) (sym stop.history) tt;
    }

pub returns-in-Run : goal.returns-in-Run
returns-in-Run g c =
    let words = c.args.words.now in
    let form = c.in-Run.form in
    let are : AreWords words form = subst (AreOfCommand words) c.in-Run.is c.in-Some.ensures.some in
    let one = λ (other : Command) (is : AreOfCommand words other). one_command words (Run form) other are is in
    let same = λ (other : Form) (is : AreWords words other). (let e : Run form ≡ Run other = one (Run other) is in let found : form ≡ other = cc in found) in
    let seen = views g.T.Source.left g.T.Source.faults g.K.Sink.taken g.K.Sink.faults g.S.Store.seen in
    let runs = c.run_form.ensures.runs in
    let ran = run_of (ends c.args.source.now c.args.sink.now) (ends c.run_form.new.source c.run_form.new.sink)
    c.args.stores.items c.run_form.result in
    let command = RunsBy-command seen form.order form.report ran runs in
    record {
      statuses = RunsBy-status seen form.order form.report ran runs;
      told = RunsBy-told seen form.order form.report ran runs;
      command = (λ _. command, λ _. (Run form, are));
      usage = λ is. absurd (command is);
      runs = λ other is. rw (← same other is) runs;
      complete = λ other is. rw (← same other is) (RunsBy-complete seen form.order form.report ran runs);
      makes = λ m is. absurd (let e : Run form ≡ Make m = one (Make m) is in cc);
      large = λ number seed is. absurd (let e : Run form ≡ Large number seed = one (Large number seed) is in cc);
      checks = λ is. absurd (let e : Run form ≡ Check = one Check is in cc);
      streams = λ report is. absurd (let e : Run form ≡ Stream report = one (Stream report) is in cc);
      verdict = λ some. absurd (no_verdict _ c.run_form.ensures.no_verdict some);
      lasting = λ lasts _. c.run_form.ensures.lasting lasts;
    }

pub returns-in-Make : goal.returns-in-Make
returns-in-Make g c =
    let words = c.args.words.now in
    let m = c.in-Make.making in
    let are : AreMakingWords words m = subst (AreOfCommand words) c.in-Make.is c.in-Some.ensures.some in
    let one = λ (other : Command) (is : AreOfCommand words other). one_command words (Make m) other are is in
    let same = λ (other : Making) (is : AreMakingWords words other). (let e : Make m ≡ Make other = one (Make other) is in let found : m ≡ other = cc in found) in
    let made = c.write_made.ensures.makes in
    let which = made.statuses in
    record {
      statuses = elim which [
        | inl done ↦ inl done
        | inr other ↦ elim other [ inl memory ↦ inr (inr (inr (inr (inl memory)))) | inr failed ↦ inr (inr (inr (inr (inr failed)))) ]
      ];
      told = told_none c.write_made.result.status c.write_made.result.refusal made.no_refusal
          (λ is. omega (arith, which, is)) (λ is. omega (arith, which, is));
      command = (λ _ is. omega (arith, which, is), λ _. (Make m, are));
      usage = λ is. absurd (omega (arith, which, is));
      runs = λ form is. absurd (let e : Make m ≡ Run form = one (Run form) is in cc);
      complete = λ form is. absurd (let e : Make m ≡ Run form = one (Run form) is in cc);
      makes = λ other is. (refl, rw (← same other is) made);
      large = λ number seed is. absurd (let e : Make m ≡ Large number seed = one (Large number seed) is in cc);
      checks = λ is. absurd (let e : Make m ≡ Check = one Check is in cc);
      streams = λ report is. absurd (let e : Make m ≡ Stream report = one (Stream report) is in cc);
      verdict = λ some. absurd (no_verdict _ c.write_made.ensures.no_verdict some);
      lasting = λ _ _. subst (λ h. NoneLacked (entries_in h)) (sym made.no_history) tt;
    }

pub returns-in-Large : goal.returns-in-Large
returns-in-Large g c =
    let words = c.args.words.now in
    let number = c.in-Large.number in
    let seed = c.in-Large.seed in
    let are : AreLargeWords words number seed = subst (AreOfCommand words) c.in-Large.is c.in-Some.ensures.some in
    let one = λ (other : Command) (is : AreOfCommand words other). one_command words (Large number seed) other are is in
    let out = out_views g.K.Sink.taken g.K.Sink.faults g.S.Store.seen in
    let end = ending c.args.sink.now c.run_large.new.sink c.run_large.result in
    let runs = c.run_large.ensures.runs in
    let command = RunsLarge-command out number seed c.args.stores.items end runs in
    record {
      statuses = RunsLarge-status out number seed c.args.stores.items end runs;
      told = RunsLarge-told out number seed c.args.stores.items end runs;
      command = (λ _. command, λ _. (Large number seed, are));
      usage = λ is. absurd (command is);
      runs = λ form is. absurd (let e : Large number seed ≡ Run form = one (Run form) is in cc);
      complete = λ form is. absurd (let e : Large number seed ≡ Run form = one (Run form) is in cc);
      makes = λ m is. absurd (let e : Large number seed ≡ Make m = one (Make m) is in cc);
      large = λ other drawn is. (let e : Large number seed ≡ Large other drawn = one (Large other drawn) is in
          let first : number ≡ other = cc in let second : seed ≡ drawn = cc in (refl, rw (← first, ← second) runs));
      checks = λ is. absurd (let e : Large number seed ≡ Check = one Check is in cc);
      streams = λ report is. absurd (let e : Large number seed ≡ Stream report = one (Stream report) is in cc);
      verdict = λ some. absurd (no_verdict _ c.run_large.ensures.no_verdict some);
      lasting = λ lasts _. c.run_large.ensures.lasting lasts;
    }

pub returns-in-Check : goal.returns-in-Check
returns-in-Check g c =
    let words = c.args.words.now in
    let are : AreCheckWords words = subst (AreOfCommand words) c.in-Check.is c.in-Some.ensures.some in
    let one = λ (other : Command) (is : AreOfCommand words other). one_command words Check other are is in
    let seen = views g.T.Source.left g.T.Source.faults g.K.Sink.taken g.K.Sink.faults g.S.Store.seen in
    let from = ends c.args.source.now c.args.sink.now in
    let to = ends c.check_history.new.source c.check_history.new.sink in
    let outcome = c.check_history.result in
    let checks = c.check_history.ensures in
    let command = Checks-command seen from to c.args.stores.items outcome checks in
    record {
      statuses = Checks-status seen from to c.args.stores.items outcome checks;
      told = Checks-told seen from to c.args.stores.items outcome checks;
      command = (λ _. command, λ _. (Check, are));
      usage = λ is. absurd (command is);
      runs = λ form is. absurd (let e : Check ≡ Run form = one (Run form) is in cc);
      complete = λ form is. absurd (let e : Check ≡ Run form = one (Run form) is in cc);
      makes = λ m is. absurd (let e : Check ≡ Make m = one (Make m) is in cc);
      large = λ number seed is. absurd (let e : Check ≡ Large number seed = one (Large number seed) is in cc);
      checks = λ _. checks;
      streams = λ report is. absurd (let e : Check ≡ Stream report = one (Stream report) is in cc);
      verdict = λ _. are;
      lasting = λ _ other. absurd (other are);
    }

pub stream_text-requires-clause-some : goal.stream_text-requires-clause-some
stream_text-requires-clause-some g c κs _ =
    stream_some c.args.words.now c.in-Stream.report (subst (AreOfCommand c.args.words.now) c.in-Stream.is c.in-Some.ensures.some)

pub returns-in-Stream : goal.returns-in-Stream
returns-in-Stream g c =
    let words = c.args.words.now in
    let report = c.in-Stream.report in
    let are : AreStreamWords words report = subst (AreOfCommand words) c.in-Stream.is c.in-Some.ensures.some in
    let one = λ (other : Command) (is : AreOfCommand words other). one_command words (Stream report) other are is in
    let seen = views g.T.Source.left g.T.Source.faults g.K.Sink.taken g.K.Sink.faults g.S.Store.seen in
    let from = ends c.args.source.now c.args.sink.now in
    let to = ends c.stream_text.new.source c.stream_text.new.sink in
    let outcome = c.stream_text.result in
    let streams = c.stream_text.ensures.streams in
    let command = Streams-command seen g.S.Store.lasts report from to c.args.stores.items outcome streams in
    record {
      statuses = Streams-status seen g.S.Store.lasts report from to c.args.stores.items outcome streams;
      told = Streams-told seen g.S.Store.lasts report from to c.args.stores.items outcome streams;
      command = (λ _. command, λ _. (Stream report, are));
      usage = λ is. absurd (command is);
      runs = λ form is. absurd (let e : Stream report ≡ Run form = one (Run form) is in cc);
      complete = λ form is. absurd (let e : Stream report ≡ Run form = one (Run form) is in cc);
      makes = λ m is. absurd (let e : Stream report ≡ Make m = one (Make m) is in cc);
      large = λ number seed is. absurd (let e : Stream report ≡ Large number seed = one (Large number seed) is in cc);
      checks = λ is. absurd (let e : Stream report ≡ Check = one Check is in cc);
      streams = λ other is. (let e : Stream report ≡ Stream other = one (Stream other) is in let found : report ≡ other = cc in rw (← found) streams);
      verdict = λ some. absurd (no_verdict _ c.stream_text.ensures.no_verdict some);
      lasting = λ _ _. subst (λ h. NoneLacked (entries_in h)) (sym c.stream_text.ensures.no_history) tt;
    }
