use Rattle.std.proofs.Common.{arith, [], ◌∷◌, ◌++◌, ◌∙◌, ap, ap₂, sym}
use Rattle.std.proofs.lemmas.List.FromFn.{map-range_with_len_more}
use Rattle.journal_core.specs.Journals.{new_author}
use Rattle.journal_core.specs.Seats.{name_of}
use Rattle.journal_core.proofs.DealtSeats.{author_rest, author_dealt, author_is}
use Rattle.journal_core.proofs.journal.deal_authors.Goals as goal

pub of-requires : goal.of-requires
of-requires c =
    let i = c.loop-part.invariant in
    author_dealt c.args.seat.now.me.0.setting c.args.seat.now.me.0.passes c.loop-part._part c.args.count _ _ _ (omega arith)
    (omega arith) i.1 c.alight_author.ensures.author.1

pub loop-part-preserved : goal.loop-part-preserved
loop-part-preserved c =
    let i = c.loop-part.invariant in
    let s = c.alight_author.ensures in
    let seat = c.args.seat.now in
    let part = c.loop-part._part in
    let made =
    c.of.ensures ∙ author_is seat.me.0.setting seat.me.0.passes part c.args.count _ _ _ (omega arith) i.1 s.author.1
    ∙ ap (λ t. new_author (name_of t seat.me.0) part) (s.author.0 ∙ i.0) in (
      s.rest.0 ∙ i.0,
      author_rest _ _ _ _ _ _ (omega arith) i.1 s.rest.1,
      c.push_reserved.ensures.items ∙ ap₂ (λ xs x. xs ++ x ∷ []) i.2 made
          ∙ sym (map-range_with_len_more (new_author (name_of seat.table_id seat.me.0)) 0 part part (omega arith)),
      c.push_reserved.ensures.capacity ∙ i.3,
      omega arith,
    )
