-- What taking in one pass more leaves of those not yet taken in.
use Rattle.std.proofs.Common.{◌≡◌, true, List, [], ◌∷◌, ◌++◌, map, reverse, sym, ap, ap₂, ◌∙◌, append_assoc}
use Rattle.std.proofs.lemmas.List.{reverse-append, append-nil}
use Rattle.atomic_table.specs.Table.{Me}
use Rattle.pager_model.specs.Settings.{Given}
use Rattle.journal_core.specs.declared.view.Own.{Own}
use Rattle.journal_core.specs.declared.view.Part.{Part}
use Rattle.journal_core.specs.declared.view.View.{View}
use Rattle.journal_core.specs.Journals.{PassState}
use Rattle.journal_core.specs.Seats.{own_of, pass_view}
use Rattle.journal_core.specs.Views.{joined}

-- the last of a list comes next, where the list is gone through from its end
pub last_is_next : {A B : Type 0} (f : A → B) (done now whole : List B) (all rest : List A) (x : A) → all ≡ rest ++ x ∷ []
    → now ≡ done ++ f x ∷ [] → done ++ map f (reverse all) ≡ whole → now ++ map f (reverse rest) ≡ whole
last_is_next f done now whole all rest x is next goes =
    ap (λ l. l ++ map f (reverse rest)) next ∙ append_assoc done (f x ∷ []) (map f (reverse rest))
    ∙ ap (λ l. done ++ map f l) (sym (ap reverse is ∙ reverse-append rest (x ∷ []))) ∙ goes

-- the seat of the journal with these authors and passes
abbrev pub seat_with : Given → List Part → List Own → Me Unit View
seat_with setting authors passes = (record { live = true; setting = setting; authors = authors; passes = passes }, [])

pub with_pass : (old other new : Me Unit View) (setting : Given) (authors : List Part) (p : PassState)
    → old ≡ seat_with setting authors old.0.passes → other ≡ (pass_view p, []) → new ≡ (joined old.0 other.0, old.1)
    → (new ≡ seat_with setting authors new.0.passes) × (new.0.passes ≡ old.0.passes ++ own_of p ∷ [])
with_pass old other new setting authors p had pass is =
    let own = own_of p ∷ [] in
    let whole : new ≡ seat_with setting authors (old.0.passes ++ own) =
    is ∙ ap₂ (λ (x y : Me Unit View). (joined x.0 y.0, x.1)) had pass
    ∙ ap (λ l. seat_with setting l (old.0.passes ++ own)) (append-nil authors) in
    let passes = ap (λ (m : Me Unit View). m.0.passes) whole in
    (whole ∙ ap (seat_with setting authors) (sym passes), passes)
