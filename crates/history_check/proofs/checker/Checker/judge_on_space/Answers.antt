use Rattle.std.proofs.Common.{◌<◌, length, ap, arith}
use Rattle.std.proofs.lemmas.List.{get_or_read}
use Rattle.pager_laws.proofs.HistoryLists.{entries-few}
use Rattle.pager_model.proofs.Histories.{IsLegal-push}
use Rattle.history_check.proofs.KeptHistory.{AreKept-named, HaveCome-next, stands_at}
use Rattle.history_check.proofs.checker.Checker.judge_on_space.Goals as goal

pub judge_on_space-requires-clause-room : goal.judge_on_space-requires-clause-room
judge_on_space-requires-clause-room c =
    let some = c.requires.stands in
    let few = entries-few some.given some.history in
    let same = ap (λ st. st.entries) some.stands.frames_are in
    omega (arith, few, same, some.few)

pub returns-clause-may : goal.returns-clause-may
returns-clause-may c = λ may g history stands.
    let e = c.args.entry.now in
    let checker = c.args.self.now in
    let before = c.index_mut-2.result.now in
    let marks : e.processor < length checker.marks.items = omega (arith, c.requires.processor, stands.progress.known, ap length stands.marks_are) in
    let at =
    stands_at g history checker stands e c.requires.processor before c.index-mark.result.now c.index_mut-2.ensures.value
    (get_or_read checker.marks.items e.processor c.index-mark.result.now marks c.index-mark.ensures 0)
    c.args.space c.requires.on_space c.requires.space c.index_mut.result.now c.index_mut.ensures.value c.requires.line in
    let on = c.in_ok-may.ensures.goes_on may g history at in
    record {
      legal = IsLegal-push g history e stands.legal on.may;
      spaces_few = stands.spaces_few;
      marks_are = stands.marks_are;
      frames_are = on.frames_are;
      spaces =
          AreKept-named g history e c.args.space checker.spaces.items c.judge_on_space.new.space c.requires.space c.requires.on_space
          (c.in_ok-may.ensures.kept may g history at) stands.spaces;
      progress =
          HaveCome-next g history e checker.progress.items before c.judge_on_space.new.progress c.requires.processor
          c.index_mut-2.ensures.value on.at on.made stands.progress;
    }
