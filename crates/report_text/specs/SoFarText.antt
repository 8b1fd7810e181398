-- The text of the counts so far, after some calls of a run that goes on.
use Rattle.std.specs.Prelude.{ℕ, List, [], ◌∷◌, codes}
use Rattle.pager_model.specs.PrintedText.{count_line}
use Rattle.report_text.specs.declared.so_far_line.SoFar.{SoFar}

-- one line: the calls; the hits and misses; the promotions, demotions, preemptions and evictions; the frames that are free, reserved and used; and
-- the calls that weren't done
abbrev pub so_far_text : SoFar → List ℕ
so_far_text s =
    count_line (codes "after")
    (s.calls ∷ s.summary.hits ∷ s.summary.misses ∷ s.summary.promotions ∷ s.summary.demotions ∷ s.summary.preemptions ∷ s.evictions
    ∷ s.summary.free ∷ s.summary.reserved ∷ s.summary.used ∷ s.unserved ∷ [])
