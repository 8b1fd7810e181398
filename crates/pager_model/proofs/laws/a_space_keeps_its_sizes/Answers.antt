use Rattle.std.proofs.Common.{◌≡◌, List, [], ◌∷◌, fold, refl}
use Rattle.pager_model.specs.declared.entry.Entry.{Entry}
use Rattle.pager_model.specs.Entries.{space_part}
use Rattle.pager_model.specs.Settings.{is_told, faults_at_entry}
use Rattle.pager_model.specs.SpaceStates.{SpaceState, empty_state, space_after}
use Rattle.pager_model.proofs.laws.a_space_keeps_its_sizes.Goals as goal

kept : (st : SpaceState) (entries : List Entry) → (fold space_after st entries).sizes ≡ st.sizes
kept st [] = refl
kept st (e ∷ es) = kept (space_after st e) es

pub returns : goal.returns
returns c = λ g history s. kept (empty_state g.sizes (is_told g s) (faults_at_entry g s)) (space_part s history)
