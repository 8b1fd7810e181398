use Rattle.std.proofs.Common.{◌<◌, length, ap, arith}
use Rattle.std.proofs.lemmas.List.{get_or_read}
use Rattle.pager_laws.proofs.HistoryLists.{entries-few}
use Rattle.pager_model.proofs.Histories.{IsLegal-push}
use Rattle.history_check.proofs.KeptHistory.{AreKept-none, HaveCome-next, stands_alone}
use Rattle.history_check.proofs.checker.Checker.judge_alone.Goals as goal

pub judge_alone-requires-clause-room : goal.judge_alone-requires-clause-room
judge_alone-requires-clause-room c =
    let some = c.requires.stands in
    let few = entries-few some.given some.history in
    let same = ap (λ st. st.entries) some.stands.frames_are in
    omega (arith, few, same, some.few)

pub returns-clause-may : goal.returns-clause-may
returns-clause-may c = λ may g history stands.
    let e = c.args.entry.now in
    let checker = c.args.self.now in
    let before = c.index_mut.result.now in
    let marks : e.processor < length checker.marks.items = omega (arith, c.requires.processor, stands.progress.known, ap length stands.marks_are) in
    let at =
    stands_alone g history checker stands e c.requires.processor before c.index-mark.result.now c.index_mut.ensures.value
    (get_or_read checker.marks.items e.processor c.index-mark.result.now marks c.index-mark.ensures 0) in
    let on = c.judge_alone.ensures.goes_on may g history at in
    record {
      legal = IsLegal-push g history e stands.legal on.may;
      spaces_few = stands.spaces_few;
      marks_are = stands.marks_are;
      frames_are = on.frames_are;
      spaces = AreKept-none g history e checker.spaces.items c.requires.on_no_space stands.spaces;
      progress = HaveCome-next g history e checker.progress.items before c.judge_alone.new.progress c.requires.processor c.index_mut.ensures.value
          on.at on.made stands.progress;
    }
