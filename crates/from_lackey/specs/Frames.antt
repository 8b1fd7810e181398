-- How many frames a trace may have.
use Rattle.std.specs.Prelude.{ℕ, ◌≡◌, ◌%◌, ◌≤◌}
use Rattle.pager_model.specs.Bounds.{most_frames}

-- a multiple of 512 from 512 to 32,768
abbrev pub AreFrames : ℕ → Type 0
AreFrames frames = (512 ≤ frames) × (frames ≤ most_frames) × (frames % 512 ≡ 0)
