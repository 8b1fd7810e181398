-- An access to a resident page by what the page is mapped by: its mapping has the page's rights, and it has a region.
use Rattle.std.proofs.Common.{◌≡◌, ◌≢◌, ℕ, ◌&&◌, true, false, Some, None, sym, ap, ◌∙◌}
use Rattle.std.proofs.lemmas.Option.{none-some, same_Some}
use Rattle.pager_model.specs.declared.call.Call.{Call}
use Rattle.pager_model.specs.declared.call.Call.TheVariants.{Load, Store}
use Rattle.pager_model.specs.declared.region.Region.{Region}
use Rattle.pager_model.specs.declared.reply.Reply.TheVariants.{Denied}
use Rattle.pager_model.specs.declared.tile.Mapping.{Mapping}
use Rattle.pager_model.specs.Flat.{page_of, can_read, can_write}
use Rattle.pager_model.specs.Regions.{region_at, rights_by}
use Rattle.pager_model.specs.SpaceStates.{access_page}
use Rattle.space_core.specs.declared.space.Lookup.TheVariants.{Refused}
use Rattle.space_core.specs.Beginning.{Finds, IsMappedBy}
use Rattle.space_core.specs.Keeping.{IsMapped}
use Rattle.space_core.specs.Pages.{permits}
use Rattle.space_core.specs.Standing.{Kept, CanBegin, frame_at, is_allowed, rights_at}
use Rattle.space_core.specs.Tables.{mapping_in, own_in}
use Rattle.space_core.proofs.Refusals.{begins_denied, denied_needs_none, rights_here}
use Rattle.space_core.proofs.ServedPages.{AreMapped}
use Rattle.space_core.proofs.TableLemmas.{frame-mapped}
use Rattle.tiles.specs.declared.base.Translation.{Translation}

-- a region and its right allow an access
region_allows : (kept : Kept) (call : Call) (page : ℕ) (r : Region) → access_page call ≡ Some page → region_at kept.regions page ≡ Some r
    → permits (rights_by (own_in kept.table page) (Some r)) call ≡ true → is_allowed kept call ≡ true
region_allows kept (Load space address) page r is at may =
    let here = rights_here kept (page_of address) page r (same_Some _ _ is) at in
    ap (λ b. b && can_read (rights_at kept (page_of address))) here.0 ∙ ap can_read here.1 ∙ may
region_allows kept (Store space address word) page r is at may =
    let here = rights_here kept (page_of address) page r (same_Some _ _ is) at in
    ap (λ b. b && can_write (rights_at kept (page_of address))) here.0 ∙ ap can_write here.1 ∙ may
region_allows kept call page r is at may = absurd (none-some page is)

-- so the rights of a resident page's mapping allow it, or deny it
module _ (kept : Kept) (call : Call) (page : ℕ) (m : Mapping) (is : access_page call ≡ Some page)
    (mapped : AreMapped kept.regions kept.table) (at : mapping_in kept.table page ≡ Some m) where
  here : IsMapped kept.regions kept.table page m
  here = mapped page m at

  pub mapping_allows : permits m.rights call ≡ true → is_allowed kept call ≡ true
  mapping_allows may = region_allows kept call page here.region is here.at (ap (λ r. permits r call) (sym here.rights) ∙ may)

  pub mapping_denies : CanBegin call → permits m.rights call ≡ false → Finds kept call page (Refused Denied)
  mapping_denies can refused =
      let denied = ap (λ r. permits r call) (sym here.rights) ∙ refused in (
        denied_needs_none kept call page here.region is here.at denied,
        λ resting processor. begins_denied kept processor call page here.region can resting is here.at denied,
      )

-- a page that is mapped has a frame
pub mapped_resident : (kept : Kept) (page : ℕ) (found : Translation) → IsMappedBy kept page found → frame_at kept page ≢ None
mapped_resident kept page found by none = none-some _ (sym none ∙ frame-mapped kept.table page found.mapping by.mapping)
