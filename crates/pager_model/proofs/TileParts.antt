-- The tests of two tiles, and of their rights and flags, are true exactly where these are equal.
use Rattle.std.proofs.Common.{◌≡◌, Bool, true, false, refl, sym}
use Rattle.std.proofs.lemmas.Bool.{false≢true, and_parts, and_from, eq-eqb, eqb-true}
use Rattle.pager_model.specs.declared.region.Rights.{Rights}
use Rattle.pager_model.specs.declared.region.Rights.TheVariants.{NoAccess, Read, Write}
use Rattle.pager_model.specs.declared.tile.Tile.{Tile}
use Rattle.pager_model.specs.Tiles.{same_rights, same_flag, same_tile}

pub same_rights-true : (a b : Rights) → same_rights a b ≡ true → a ≡ b
same_rights-true NoAccess NoAccess h = refl
same_rights-true NoAccess Read h = absurd (false≢true h)
same_rights-true NoAccess Write h = absurd (false≢true h)
same_rights-true Read NoAccess h = absurd (false≢true h)
same_rights-true Read Read h = refl
same_rights-true Read Write h = absurd (false≢true h)
same_rights-true Write NoAccess h = absurd (false≢true h)
same_rights-true Write Read h = absurd (false≢true h)
same_rights-true Write Write h = refl

pub same_flag-true : (a b : Bool) → same_flag a b ≡ true → a ≡ b
same_flag-true true true h = refl
same_flag-true true false h = sym h
same_flag-true false true h = h
same_flag-true false false h = refl

pub same_rights-refl : (a : Rights) → same_rights a a ≡ true
same_rights-refl NoAccess = refl
same_rights-refl Read = refl
same_rights-refl Write = refl

pub same_flag-refl : (a : Bool) → same_flag a a ≡ true
same_flag-refl true = refl
same_flag-refl false = refl

pub same_tile-true : (t u : Tile) → same_tile t u ≡ true → t ≡ u
same_tile-true t u h =
    let halves = and_parts _ _ h in
    let extents = and_parts _ _ halves.0 in
    let others = and_parts _ _ halves.1 in
    let flags = and_parts _ _ others.1 in
    let size = eqb-true t.extent.size u.extent.size extents.0 in
    let first = eqb-true t.extent.first u.extent.first extents.1 in
    let frame = eqb-true t.frame u.frame others.0 in
    let rights = same_rights-true t.rights u.rights flags.0 in
    let dirty = same_flag-true t.dirty u.dirty flags.1 in
    λ i. record { extent = record { size = size i; first = first i }; frame = frame i; rights = rights i; dirty = dirty i }

pub same_tile-refl : (t : Tile) → same_tile t t ≡ true
same_tile-refl t =
    and_from _ _ (and_from _ _ (eq-eqb t.extent.size t.extent.size refl) (eq-eqb t.extent.first t.extent.first refl))
    (and_from _ _ (eq-eqb t.frame t.frame refl) (and_from _ _ (same_rights-refl t.rights) (same_flag-refl t.dirty)))
