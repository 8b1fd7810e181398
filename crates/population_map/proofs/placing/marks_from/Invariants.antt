use Rattle.std.proofs.Common.{◌≡◌, ◌<◌, ℕ, length, slice_get, option_map}
use Rattle.population_map.specs.Populations.{placed_mark}
use Rattle.population_map.proofs.placing.marks_from.Given as goal

-- the marks so far
abbrev pub invariant-loop-part : goal.invariant-loop-part
invariant-loop-part l = record {
  eight : length l.marks ≡ 8;
  marks : (part : ℕ) → part < l.part → slice_get l.marks part ≡ option_map placed_mark (slice_get l.ids part);
}
