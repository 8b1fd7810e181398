-- What is known where a map or a growth is done.
use Rattle.std.proofs.Common.{◌≡◌, ◌≢◌, ℕ, Bool, true, false, if◌then◌else◌, List, Option, Some, None, refl}
use Rattle.std.specs.List.{list_any}
use Rattle.pager_model.specs.declared.region.Region.{Region}
use Rattle.pager_model.specs.declared.reply.Reply.{Reply}
use Rattle.pager_model.specs.declared.reply.Reply.TheVariants.{Done, OutOfSpace, Overlap, NotGrowing}
use Rattle.pager_model.specs.Regions.{end_of, meets_range, region_at, map_reply, grow_reply, grow_reply_at}

-- a reply of done is that of no refusal before it
done_tests : (b : Bool) (x y : Reply) → x ≢ Done → (if b then x else y) ≡ Done → (b ≡ false) × (y ≡ Done)
done_tests true x y n h = absurd (n h)
done_tests false x y n h = (refl, h)

-- no region has a page of the new one
pub none_meets : (regions : List Region) (page len : ℕ) → map_reply regions page len ≡ Done
    → list_any (meets_range page len) regions ≡ false
none_meets regions page len h = (done_tests _ Overlap _ (λ e. cc) (done_tests _ OutOfSpace _ (λ e. cc) h).1).0

-- a region has the page, and none has a page of those behind it that it grows by
pub record Grows (regions : List Region) (page by : ℕ) : Type 0 where
  pub region : Region
  pub at : region_at regions page ≡ Some region
  pub free : list_any (meets_range (end_of region) by) regions ≡ false

pub grow_found : (regions : List Region) (page by : ℕ) → grow_reply regions page by ≡ Done → Grows regions page by
grow_found regions page by h = at_region (region_at regions page) refl h
  where
    at_region : (o : Option Region) → region_at regions page ≡ o → grow_reply_at regions by o ≡ Done → Grows regions page by
    at_region None at h = cc
    at_region (Some r) at h =
        record {
          region = r;
          at = at;
          free = (done_tests _ Overlap _ (λ e. cc) (done_tests _ OutOfSpace _ (λ e. cc) (done_tests _ NotGrowing _ (λ e. cc) h).1).1).0;
        }
