use Rattle.std.proofs.Common.{◌≡◌, true, [], ◌++◌, map, reverse, length}
use Rattle.std.specs.List.{All}
use Rattle.journal_core.specs.Journals.{AuthorState}
use Rattle.journal_core.specs.Seats.{part_of}
use Rattle.journal_core.proofs.gather.board_authors.Given as goal

abbrev pub invariant-loop-author : goal.invariant-loop-author
invariant-loop-author l =
    (l.seat.table_id ≡ l.fn.seat.table_id)
    × (l.seat.me ≡ (record { live = true; setting = l.fn.seat.me.0.setting; authors = l.seat.me.0.authors; passes = [] }, []))
    × (l.seat.me.0.authors ++ map part_of (reverse l.authors.items) ≡ map part_of (reverse l.fn.authors.items))
    × All (λ (a : AuthorState). a.journal.table ≡ l.word.table_id) l.authors.items

abbrev pub decreases-loop-author : goal.decreases-loop-author
decreases-loop-author l = length l.authors.items
