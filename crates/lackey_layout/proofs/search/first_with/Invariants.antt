-- none before had it
use Rattle.std.proofs.Common.{◌≡◌, ◌≢◌, ◌<◌, ℕ}
use Rattle.lackey_layout.specs.Places.{piece_at}
use Rattle.lackey_layout.proofs.search.first_with.Given as goal

abbrev pub invariant-loop-place : goal.invariant-loop-place
invariant-loop-place l = (i : ℕ) → i < l.place → piece_at l.places i ≢ l.wanted
