use Rattle.std.proofs.Common.{◌≡◌, ◌+◌, ◌≤◌, true, [], ◌++◌, map, reverse, length, vec_len, vec_capacity}
use Rattle.std.specs.List.{All, AllByRecursion}
use Rattle.journal_core.specs.Journals.{PassState}
use Rattle.journal_core.specs.Seats.{own_of}
use Rattle.journal_core.proofs.gather.board_passes.Given as goal

abbrev pub invariant-loop-pass : goal.invariant-loop-pass
invariant-loop-pass l =
    (l.seat.table_id ≡ l.fn.seat.table_id)
    × (l.seat.me ≡ (
      record {
        live = true;
        setting = l.fn.seat.me.0.setting;
        authors = l.fn.seat.me.0.authors;
        passes = l.seat.me.0.passes;
      },
      [],
    ))
    × (l.seat.me.0.passes ++ map own_of (reverse l.passes.items) ≡ map own_of (reverse l.fn.passes.items))
    × All (λ (p : PassState). p.journal.table ≡ l.word.table_id) l.passes.items
    × (map (λ v. v.items) l.logs.items ++ map (λ (p : PassState). p.entries) (reverse l.passes.items)
    ≡ map (λ (p : PassState). p.entries) (reverse l.fn.passes.items))
    × (vec_len l.passes + vec_len l.logs ≤ vec_capacity l.logs)
    × (AllByRecursion (λ (p : PassState). length p.entries ≤ p.room) l.passes.items
    → AllByRecursion (λ (p : PassState). length p.entries ≤ p.room) l.fn.passes.items)

abbrev pub decreases-loop-pass : goal.decreases-loop-pass
decreases-loop-pass l = vec_len l.passes
