-- A page of a region that was unmapped, and then of one that was mapped; and a page that was discarded.
use Rattle.std.proofs.Common.{◌≡◌, ℕ, true, ◌&&◌, if◌then◌else◌, Option, Some, refl, ap, ◌∙◌, subst}
use Rattle.std.proofs.lemmas.Bool.{cond-true}
use Rattle.pager_model.specs.declared.call.Call.TheVariants.{Map, Unmap, Discard}
use Rattle.pager_model.specs.declared.entry.Entry.{Entry}
use Rattle.pager_model.specs.declared.region.Kind.{Kind}
use Rattle.pager_model.specs.declared.region.Region.{Region}
use Rattle.pager_model.specs.declared.region.Rights.{Rights}
use Rattle.pager_model.specs.Flat.{goes, is_discarded, is_lawful}
use Rattle.pager_model.specs.Regions.{in_range, region_at}
use Rattle.pager_model.specs.SpaceStates.{SpaceState, SpaceAllows, IsClearedAt, space_after}
use Rattle.pager_laws.specs.NewPages.{IsNew, IsNewButForRights, done}
use Rattle.pager_model.specs.CallEntries.{answer_entry}

-- an unmap of a region, and after it a map of one in its space
pub record Remap : Type 0 where
  pub unmapper : ℕ
  pub unmap_number : ℕ
  pub mapper : ℕ
  pub map_number : ℕ
  pub space : ℕ
  pub page : ℕ
  pub first : ℕ
  pub length : ℕ
  pub kind : Kind
  pub rights : Rights

abbrev pub unmap_entry : Remap → Entry
unmap_entry k = answer_entry k.unmapper k.unmap_number (Unmap k.space k.page) done

abbrev pub map_entry : Remap → Entry
map_entry k = answer_entry k.mapper k.map_number (Map k.space k.first k.length k.kind k.rights) done

pub new_again : (st : SpaceState) (k : Remap) (p : ℕ) (r : Region) → region_at st.flat.regions k.page ≡ Some r
    → SpaceAllows st (unmap_entry k)
    → SpaceAllows (space_after st (unmap_entry k)) (map_entry k) → in_range r.first r.length p ≡ true → in_range k.first k.length p ≡ true
    → IsNew (space_after (space_after st (unmap_entry k)) (map_entry k)) k.rights p
new_again st k p r at unmaps maps was is =
    let cleared = subst (λ (o : Option Region). IsClearedAt st k.unmapper o) at (unmaps.1.reply.1 refl) in
    record {
      rights = ap (λ x. if is_lawful x && in_range k.first k.length p then k.rights else st.flat.rights p) maps.1.reply.0
          ∙ cond-true _ _ _ is;
      frame = cleared.none p was;
      words = λ i. ap (λ o. if goes o p then 0 else st.flat.words p i) at ∙ cond-true _ _ _ was;
    }

pub new_but_for_rights : (st : SpaceState) (c n space first len page : ℕ)
    → SpaceAllows st (answer_entry c n (Discard space first len) done) → in_range first len page ≡ true
    → IsNewButForRights st (space_after st (answer_entry c n (Discard space first len) done)) page
new_but_for_rights st c n space first len page allowed inside =
    let goes : is_discarded st.flat first len page ≡ true =
    ap (λ x. is_lawful x && in_range first len page) allowed.1.reply.0 ∙ inside in
    record {
      rights = refl;
      frame = allowed.1.reply.1 refl page inside;
      words = λ i. cond-true _ _ _ goes;
      copy = cond-true _ _ _ goes;
      clean = cond-true _ _ _ goes;
    }
