use Rattle.std.proofs.Common.{true, false}
use Rattle.std.proofs.lemmas.List.{length-replicate}
use Rattle.pager_model.specs.Layouts.{start_layout}
use Rattle.pager_laws.proofs.StartStates.{IsLaid-start}
use Rattle.frame_pool.proofs.MappedRecords.{IsMapped-start}
use Rattle.frame_pool.proofs.ReservedLayouts.{IsLaid-none_free}
use Rattle.frame_pool.proofs.UnlistedFrames.{AreListed-start}
use Rattle.frame_pool.proofs.reserved.Reserved.create.Goals as goal

pub invariant_of-result : goal.invariant_of-result
invariant_of-result c =
    let frames = c.args.frames in
    let made = c.in_ok-create-2.ensures in
    rw (c.in_ok-create-3.ensures, c.in_ok-create.ensures)
    (record {
      known = length-replicate frames false;
      few = c.requires;
      laid = IsLaid-none_free (start_layout c.args.sizes frames) frames (IsLaid-start c.args.sizes frames) (length-replicate frames true);
      listed = AreListed-start c.args.sizes frames;
      mapped = IsMapped-start c.in_ok-create-2.field-0 frames made.no_extent made.count made.spaces made.frames;
    })
