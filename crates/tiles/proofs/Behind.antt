-- The pages of an entry, from one of them on.
use Rattle.std.proofs.Common.{◌≡◌, ℕ, ◌+◌, ◌^◌, ◌<◌, Some, option_map, sym, ap, ◌∙◌, arith}
use Rattle.tiles.specs.declared.entry.TableEntry.{TableEntry}
use Rattle.tiles.specs.TableEntries.{mapping_of}
use Rattle.pager_model.specs.declared.region.Rights.{Rights}
use Rattle.pager_model.specs.declared.tile.Mapping.{Mapping}
use Rattle.pager_model.proofs.ExtentLemmas.{eight_small}
use Rattle.tiles.specs.Blocks.{KeepsRights}
use Rattle.tiles.specs.Kept.{FitsFrames}
use Rattle.tiles.specs.Resident.{Resident, mapping_at, with_rights}

-- an entry ends within the numbers of 32 bits
pub end_fits : (r : Resident) (page : ℕ) (e : TableEntry) → FitsFrames r page e → e.extent.first + 8 ^ e.extent.size < 4294967296
end_fits r page e fits = omega (arith, fits.from, fits.in_space, eight_small e.extent.size fits.low)

-- pages of one entry have one right
pub keeps_within : (rights : Rights) (r : Resident) (page : ℕ) (e : TableEntry) → FitsFrames r page e → with_rights rights e.mapping ≡ e.mapping
    → KeepsRights e.extent.first (e.extent.first + 8 ^ e.extent.size) rights (mapping_at r)
keeps_within rights r page e fits same other on before =
    let said = fits.says other on before in
    let has : rights ≡ e.mapping.rights = ap (λ (m : Mapping). m.rights) same in
    ap (option_map (with_rights rights)) said ∙ (ap (λ (x : Rights). Some (with_rights x (mapping_of e other))) has ∙ sym said)
