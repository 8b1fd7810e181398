-- Nothing that a key owns names a thread.
use Rattle.std.proofs.Common.{ℕ}
use Rattle.pager_model.proofs.ChunkSteps.{Ptr, u64, block_ptr, null_ptr, ◌+ₚ◌}
use base.Shift.{Keyless}
use mathlib.Core.Bool.{true, false}
use denote.Param.Send.{IsSend, owning_send, sendable}
use Rattle.std.proofs.Crossing.{frees}
use Rattle.std.specs.Allocator.{array_of}
use Rattle.pager_model.specs.ChunkOwnership.{words_at, counted, key_owns, heap}
use Rattle.pager_model.specs.contracts.chunks.block.Key.{the_row, the_type}

words_keyless : (n : ℕ) (p : Ptr) → Keyless (words_at n p)
words_keyless n (block_ptr b o) = tt
words_keyless n null_ptr = tt

counted_keyless : (p : Ptr) (a : ℕ) → Keyless (counted p a)
counted_keyless p a true =
    λ n. (tt, ((λ r c. tt), (words_keyless 65536 (p +ₚ 8), frees.frees heap (array_of u64 65537) p)))
counted_keyless p a false = tt

key_keyless : (start at : Ptr) → Keyless (key_owns start at)
key_keyless (block_ptr b o) at = λ a e c. (counted_keyless (block_ptr b o) a, words_keyless 1024 at)
key_keyless null_ptr at = tt

pub send : IsSend the_row
send = owning_send the_type (search sendable, tt) (λ k. key_keyless k.start k.at) (λ k d w. tt)
