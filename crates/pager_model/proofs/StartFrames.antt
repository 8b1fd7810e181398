-- At first nobody holds or claims a frame.
use Rattle.std.proofs.Common.{◌≡◌, ℕ, Some, None, sym, ap, ◌∙◌}
use Rattle.pager_model.specs.SizeSets.{SizeSet}
use Rattle.pager_model.specs.FrameStates.{start_frames, claim_in, HasNothing}
use Rattle.pager_model.proofs.Lists.{get_or-alike}

pub HasNothing-start : (z : SizeSet) (frames processors c : ℕ) → HasNothing (start_frames z frames processors) c
HasNothing-start z frames processors c =
    record {
      holds_none = get_or-alike processors c None;
      claims_none = λ f claim. (let e : None ≡ Some c = sym (ap claim_in (get_or-alike frames f None)) ∙ claim in cc);
    }
