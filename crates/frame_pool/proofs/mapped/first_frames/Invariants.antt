use Rattle.std.proofs.Common.{◌≡◌, ◌<◌, ℕ, length, slice_get, option_map}
use Rattle.reservations.specs.declared.part.Part.{Part}
use Rattle.frame_pool.proofs.mapped.first_frames.Given as goal

-- the frames so far
abbrev pub invariant-loop-i : goal.invariant-loop-i
invariant-loop-i l = record {
  eight : length l.frames ≡ 8;
  frames : (i : ℕ) → i < l.i → slice_get l.frames i ≡ option_map (λ (part : Part). part.extent.first) (slice_get l.parts i);
}
