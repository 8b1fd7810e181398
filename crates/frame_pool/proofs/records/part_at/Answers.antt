use Rattle.std.proofs.Common.{ℕ, ◌+◌, ◌*◌, ◌^◌, ◌<◌, ◌≤◌, arith}
use Rattle.pager_model.specs.declared.reservation.Reservation.{Reservation}
use Rattle.pager_model.specs.Extents.{IsExtent}
use Rattle.pager_model.specs.Records.{part_count}
use Rattle.pager_model.proofs.ExtentLemmas.{eight_pos, eight_small, aligned_end}
use Rattle.pager_laws.proofs.PartsAt.{part_ends}
use Rattle.frame_pool.proofs.records.part_at.Goals as goal

-- a part of an extent begins where a word can say
begins : (k i n : ℕ) (r : Reservation) → k ≤ r.size → i < part_count k r → IsExtent r.size n → n < 2 ^ 32 → n + i * 8 ^ k < 2 ^ 32
begins k i n r le one extent low =
    omega (arith, part_ends k i r le one, aligned_end r.size n extent.0 extent.1 low, eight_pos k)

pub overflow_mul-before : goal.overflow_mul-before
overflow_mul-before c =
    let r = c.args.whole.now in
    rw c.pages.ensures
    (omega (arith, part_ends c.args.size c.args.i r c.requires.smaller c.requires.one, eight_small r.size c.requires.frames.0))

pub overflow_add-part : goal.overflow_add-part
overflow_add-part c =
    let r = c.args.whole.now in
    rw c.pages.ensures
    (omega (arith, begins c.args.size c.args.i r.first r c.requires.smaller c.requires.one c.requires.pages (omega arith)))

pub overflow_add-part-2 : goal.overflow_add-part-2
overflow_add-part-2 c =
    let r = c.args.whole.now in
    rw c.pages.ensures
    (omega (arith, begins c.args.size c.args.i r.frame r c.requires.smaller c.requires.one c.requires.frames (omega arith)))
