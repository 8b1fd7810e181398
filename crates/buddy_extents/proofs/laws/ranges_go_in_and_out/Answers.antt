use Rattle.pager_model.proofs.FreeRanges.{length-with_range, with_range_inside, with_range_outside}
use Rattle.buddy_extents.proofs.Ranges.{give_after_take, take_after_give, free_count-take, free_count-give}
use Rattle.buddy_extents.proofs.laws.ranges_go_in_and_out.Goals as goal

pub returns : goal.returns
returns c = record {
  length = length-with_range;
  inside = with_range_inside;
  outside = with_range_outside;
  taken_count = free_count-take;
  given_count = free_count-give;
  given_back = give_after_take;
  taken_back = take_after_give;
}
