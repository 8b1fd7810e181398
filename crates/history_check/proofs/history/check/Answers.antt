use Rattle.std.proofs.Common.{◌≡◌, Option, None, inl, inr, sym, subst}
use Rattle.std.specs.Option.{IfNone}
use Rattle.std.proofs.lemmas.List.{length-map}
use Rattle.pager_model.specs.declared.entry.Numbered.{Numbered}
use Rattle.pager_model.specs.Legal.{entries_in}
use Rattle.pager_model.proofs.Options.{in_some}
use Rattle.history_check.specs.Standing.{StandsAfter}
use Rattle.history_check.specs.Verdicts.{IsFirstBad, told_setting}
use Rattle.history_check.proofs.history.check.Goals as goal

-- what holds where nothing is found
in_none : {A : Type 0} (P : Type 0) (o : Option A) → o ≡ None → IfNone o P → P
in_none P o is holds = subst (λ p. IfNone p P) is holds

pub returns-in-Some : goal.returns-in-Some
returns-in-Some c =
    let g = told_setting c.args.trace.now in
    inl (in_some (IsFirstBad g (entries_in c.args.history.now)) c.in_ok-entry.field-0 c.in-Some.entry c.in-Some.is
    (c.in_ok-entry.ensures.bad g c.in_ok-checker.ensures))

pub returns-then-not-shows : goal.returns-then-not-shows
returns-then-not-shows c =
    let g = told_setting c.args.trace.now in
    let stands =
    in_none (StandsAfter g (entries_in c.args.history.now) c.first_bad.new.checker) c.in_ok-entry.field-0 c.in_default.is
    (c.in_ok-entry.ensures.good g c.in_ok-checker.ensures) in
    inr (record {
      all = sym (length-map c.args.history.now (λ (n : Numbered). n.entry));
      legal = stands.legal;
      other = c.shows.ensures.other c.if-not-shows.true;
    })

pub returns : goal.returns
returns c =
    let g = told_setting c.args.trace.now in
    let stands =
    in_none (StandsAfter g (entries_in c.args.history.now) c.first_bad.new.checker) c.in_ok-entry.field-0 c.in_default.is
    (c.in_ok-entry.ensures.good g c.in_ok-checker.ensures) in
    (stands.legal, c.shows.ensures.shows c.if-not-shows.false)
