-- The ages of the frames that may be paged out, as one note changes, and what the oldest of them is.
use Rattle.std.proofs.Common.{◌≡◌, ◌≢◌, ◌<◌, ◌≤◌, ℕ, List, get_or, set, length, replicate, Bool, true, false, cond, Option, Some, None, IfNone, option_map, refl, sym, ap, ◌∙◌, inl, inr, arith}
use Rattle.std.specs.List.{list_any}
use Rattle.std.proofs.lemmas.Bool.{cases_Bool, cases_eq, cond-true, cond-false, true≢false, false_from_ne_true}
use Rattle.std.proofs.lemmas.List.Folds.{Any-from_list_any}
use Rattle.std.proofs.lemmas.List.{get_or_default, get_or-set_same, get_or-set_other, length-replicate, length-set}
use Rattle.std.proofs.lemmas.Option.{none-some, same_Some}
use Rattle.pager_model.specs.declared.reservation.Used.{Used}
use Rattle.pager_model.specs.FrameStates.{age_in, is_evictable}
use Rattle.pager_model.proofs.Lists.{get_or-alike, get_or_within}
use Rattle.least_ages.specs.declared.aged.Aged.{Aged}
use Rattle.least_ages.specs.Trees.{Tree, leaf, aged_at, IsOldest}
use Rattle.used_frames.specs.Kept.{AreAged, evictable_age}
use Rattle.used_frames.specs.Victims.{IsLeast}

-- a place that may be paged out has its age, and what has one may be paged out
age_of_evictable : (note : Option Used) → is_evictable note ≡ true → evictable_age note ≡ Some (age_in note)
age_of_evictable note is = cond-true (is_evictable note) (Some (age_in note)) None is

evictable_of_age : (note : Option Used) (age : ℕ) → evictable_age note ≡ Some age → (is_evictable note ≡ true) × (age_in note ≡ age)
evictable_of_age note age is = elim (cases_Bool (is_evictable note)) [
  | inl may ↦ (may, same_Some (age_in note) age (sym (age_of_evictable note may) ∙ is))
  | inr may_not ↦ absurd (none-some age (sym (cond-false (is_evictable note) (Some (age_in note)) None may_not) ∙ is))
]

aged_from : (frame : ℕ) (o : Option ℕ) (age : ℕ) → option_map (aged_at frame) o ≡ Some (aged_at frame age) → o ≡ Some age
aged_from frame None age is = absurd (none-some (aged_at frame age) is)
aged_from frame (Some a) age is = ap Some (ap (λ (x : Aged). x.age) (same_Some (aged_at frame a) (aged_at frame age) is))

some_noted : (note : Option Used) → is_evictable note ≡ true → (u : Used) × (note ≡ Some u)
some_noted None is = absurd (true≢false (sym is))
some_noted (Some u) is = (u, refl)

-- without a note no frame is in
pub AreAged-start : (frames : ℕ) (tree : Tree) → tree.count ≡ frames → ((f : ℕ) → leaf tree f ≡ None)
    → AreAged (replicate frames None) tree
AreAged-start frames tree count none = record {
  known = count ∙ sym (length-replicate frames None);
  ages = λ frame. none frame ∙ sym (ap (λ o. option_map (aged_at frame) (evictable_age o)) (get_or-alike frames frame None));
}

-- the tree follows a note that changes
pub AreAged-set : (notes : List (Option Used)) (old new : Tree) (frame : ℕ) (note : Option Used) → AreAged notes old → frame < length notes
    → new.count ≡ old.count → leaf new frame ≡ option_map (aged_at frame) (evictable_age note)
    → ((f : ℕ) → f ≢ frame → leaf new f ≡ leaf old f) → AreAged (set notes frame note) new
AreAged-set notes old new frame note are known count here others = record {
  known = count ∙ are.known ∙ sym (length-set notes frame note);
  ages = λ f. elim (cases_eq f frame) [
    | inl same ↦
        ap (leaf new) same ∙ here
        ∙ sym (ap (λ k. option_map (aged_at k) (evictable_age (get_or (set notes frame note) k None))) same
        ∙ ap (λ o. option_map (aged_at frame) (evictable_age o)) (get_or-set_same notes frame note None known))
    | inr other ↦
        others f other ∙ are.ages f
        ∙ sym (ap (λ o. option_map (aged_at f) (evictable_age o)) (get_or-set_other notes frame f note None other))
  ];
}

-- the oldest is the victim
pub IsLeast-oldest : (notes : List (Option Used)) (tree : Tree) (frame : ℕ) → AreAged notes tree → IsOldest tree frame → IsLeast notes frame
IsLeast-oldest notes tree frame are oldest =
    let own = evictable_of_age (get_or notes frame None) oldest.age
    (aged_from frame (evictable_age (get_or notes frame None)) oldest.age (sym (are.ages frame) ∙ oldest.is)) in
    let noted = some_noted (get_or notes frame None) own.0 in
    record {
      known = get_or_within notes frame noted.0 noted.1;
      evictable = own.0;
      least = λ other may.
          let stands = are.ages other ∙ ap (option_map (aged_at other)) (age_of_evictable (get_or notes other None) may) in
          let below = oldest.least other (aged_at other (age_in (get_or notes other None))) stands in
          omega (arith, below, own.1);
    }

-- where no frame is in none may be paged out
pub none_evictable : (notes : List (Option Used)) (tree : Tree) → AreAged notes tree → ((f : ℕ) → leaf tree f ≡ None)
    → list_any is_evictable notes ≡ false
none_evictable notes tree are none = false_from_ne_true _ (λ some.
    let found = Any-from_list_any is_evictable notes some in
    let may : is_evictable (get_or notes found.0 None) ≡ true =
    ap is_evictable (get_or_default notes found.0 None found.1 found.2 ∙ found.3) ∙ found.4 in
    none-some (aged_at found.0 (age_in (get_or notes found.0 None)))
    (sym (none found.0) ∙ are.ages found.0 ∙ ap (option_map (aged_at found.0)) (age_of_evictable (get_or notes found.0 None) may)))

-- what holds where there is none
pub none_then : {X P Q : Type 0} (o : Option X) → IfNone o P → (P → Q) → IfNone o Q
none_then None p more = more p
none_then (Some x) p more = tt
