use Rattle.std.proofs.Common.{arith, [], map, ◌∙◌, ap, refl, length}
use Rattle.std.proofs.lemmas.List.{length-map}
use Rattle.std.proofs.lemmas.List.FromFn.{length-range_with_len}
use Rattle.journal_core.specs.Journals.{JournalState, PassState}
use Rattle.journal_core.specs.Views.{rest_view}
use Rattle.journal_core.proofs.WholeHistory.{whole_meets, fits, logs_placed, merged, numbers_told, history_told, authors_told, passes_told}
use Rattle.journal_core.proofs.journal.close.Goals as goal

pub board_passes-requires-clause-logs : goal.board_passes-requires-clause-logs
board_passes-requires-clause-logs c =
    let setting = ap (λ (j : JournalState). length j.name.setting.marks) c.journal.view_is in
    let i = c.journal.invariant in (
      i.1,
      omega (
        arith,
        i.0.logs,
        c.args.passes.ok,
        ap length c.requires.passes,
        length-map c.args.passes.items
            (λ (p : PassState). p.processor),
        length-range_with_len 0 (length c.args.journal.name.setting.marks),
      ),
    )

pub merge-requires : goal.merge-requires
merge-requires c =
    let j = c.args.journal in
    let i = c.journal.invariant in
    let rest = c.enter-seat.ensures.1 ∙ ap (λ (k : JournalState). (rest_view k.name.setting, [])) c.journal.view_is in
    let m =
    whole_meets j.name.setting c.args.authors.items c.args.passes.items c.finish-length.result c.enter-seat.result.me
    c.board_authors.new.seat.me c.board_passes.new.seat.me rest c.board_authors.ensures.1
    c.board_passes.ensures.seat.1 c.finish-length.ensures in
    let room = ap (λ (k : JournalState). k.room) c.journal.view_is in
    let fit = fits j.name.setting c.args.authors.items c.args.passes.items c.finish-length.result m j.room c.requires.passes c.board_passes.ensures.rooms c.requires.room in record {
      room = (omega (arith, c.journal.inside.history.ok, ap length i.2), omega (arith, room, fit));
      places = logs_placed j.name.setting c.args.authors.items c.args.passes.items c.finish-length.result m
          (λ v. v.items) c.deref.result.now (ap (map (λ v. v.items)) c.deref.ensures.value ∙ c.board_passes.ensures.logs);
    }

pub returns : goal.returns
returns c =
    let j = c.args.journal in
    let i = c.journal.invariant in
    let authors = c.args.authors.items in
    let passes = c.args.passes.items in
    let n = c.finish-length.result in
    let rest = c.enter-seat.ensures.1 ∙ ap (λ (k : JournalState). (rest_view k.name.setting, [])) c.journal.view_is in
    let m =
    whole_meets j.name.setting authors passes n c.enter-seat.result.me
    c.board_authors.new.seat.me c.board_passes.new.seat.me rest c.board_authors.ensures.1 c.board_passes.ensures.seat.1 c.finish-length.ensures in
    let made = c.merge.ensures in
    let is = made.2 ∙ merged j.name.setting authors passes n m made.0 _ c.requires.passes made.1
    (ap (map (λ v. v.items)) c.deref.ensures.value ∙ c.board_passes.ensures.logs) in record {
      numbers = numbers_told j.name.setting authors passes n m c.merge.result.items is;
      history = history_told j.name.setting authors passes n m c.merge.result.items is;
      authors = authors_told j.name.setting authors passes n m c.merge.result.items is j.name refl c.requires.journal.0;
      passes = passes_told j.name.setting authors passes n m c.merge.result.items is;
    }
