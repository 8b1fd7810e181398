-- Traces without calls.
use Rattle.std.proofs.Common.{ℕ, [], None, refl, inr, arith}
use Rattle.std.proofs.lemmas.List.Elements.{All-from_recursion}
use Rattle.pager_model.specs.SizeSets.{SizeSet}
use Rattle.pager_model.specs.TraceText.{HasText}
use Rattle.from_lackey.specs.Frames.{AreFrames}

-- one of one processor and one space has a text
pub has_text : (frames : ℕ) (z : SizeSet) → AreFrames frames →
    HasText (record { version = 3; frames = frames; processors = 1; spaces = 1; sizes = z; daemon = None; calls = [] })
has_text frames z are = record {
  version_in = inr (inr refl);
  frames_in = (are.0, are.1);
  frames_whole = are.2;
  processors_in = (omega arith, omega arith);
  spaces_in = (omega arith, omega arith);
  daemon_in = tt;
  lines = All-from_recursion _ [] tt;
  few = omega arith;
}
