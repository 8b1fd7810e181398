-- What a table that is right tells of the frames' state, and so which extent is the cheapest.
use Rattle.std.proofs.Common.{◌≡◌, ◌≤◌, ◌<◌, ℕ, suc, ◌*◌, ◌/◌, ◌^◌, Bool, true, false, ◌||◌, not, List, [], ◌∷◌, ◌++◌, get_or, map, filter, count_by, is_some, option_map, Option, Some, None, inl, inr, refl, sym, ap, subst, ◌∙◌, arith}
use Rattle.std.specs.BTreeMap.{BTreeMap}
use Rattle.std.specs.List.{range_with_len, list_all, list_any}
use Rattle.std.proofs.Math.Nat.{mul_comm, mul-le-mul_left, mul-mod_left}
use Rattle.std.proofs.lemmas.Bool.{cases_Bool, cond-true, cond-false}
use Rattle.std.proofs.lemmas.List.Concat.{flat_map-cons}
use Rattle.std.proofs.lemmas.Option.{none-some, same_Some}
use Rattle.pager_model.specs.declared.reservation.Used.{Used}
use Rattle.pager_model.specs.FrameStates.{FrameState, used_at, frame_of, is_wired_place, is_claimed_place}
use Rattle.pager_model.specs.Options.{is_that}
use Rattle.pager_model.proofs.ExtentLemmas.{eight_pos}
use Rattle.contiguity_plan.specs.declared.plan.PageOf.{PageOf}
use Rattle.contiguity_plan.specs.declared.table.Use.{Use}
use Rattle.contiguity_plan.specs.Costs.{is_kept, stays, has_use, page_list, pages_in, emptying, IsLeast}
use Rattle.contiguity_plan.specs.Emptying.{is_fixed, is_used_frame, MayBeEmptied, cost_of, IsCheapest, AreItsPages}
use Rattle.contiguity_plan.specs.Tables.{Note, note_of, noted, use_in, AreRight}
use Rattle.contiguity_plan.proofs.Extents.{extent_fits, number_of}
use Rattle.contiguity_plan.proofs.RightTables.{note_at}

kept_alike : (u : Option Use) (v : Option Used) → option_map note_of u ≡ option_map noted v
    → is_kept u ≡ (is_wired_place v || is_claimed_place v)
kept_alike None None same = refl
kept_alike None (Some v) same = absurd (none-some _ same)
kept_alike (Some u) None same = absurd (none-some _ (sym same))
kept_alike (Some u) (Some v) same = ap (λ (n : Note). n.wired || is_some n.claim) (same_Some _ _ same)

used_alike : (u : Option Use) (v : Option Used) → option_map note_of u ≡ option_map noted v → is_some u ≡ is_some v
used_alike None None same = refl
used_alike None (Some v) same = absurd (none-some _ same)
used_alike (Some u) None same = absurd (none-some _ (sym same))
used_alike (Some u) (Some v) same = refl

-- lists that are alike at each place, and past their ends, have the same elements that pass
same_any : (p : Option ℕ → Bool) (xs ys : List (Option ℕ)) → p None ≡ false → ((c : ℕ) → get_or xs c None ≡ get_or ys c None)
    → list_any p xs ≡ list_any p ys
same_any p [] [] none same = refl
same_any p [] (y ∷ ys) none same = same_any p [] ys none (λ c. same (suc c))
    ∙ sym (ap (λ b. b || list_any p ys) (ap p (sym (same 0)) ∙ none))
same_any p (x ∷ xs) [] none same = ap (λ b. b || list_any p xs) (ap p (same 0) ∙ none) ∙ same_any p xs [] none (λ c. same (suc c))
same_any p (x ∷ xs) (y ∷ ys) none same = ap (λ b. b || list_any p xs) (ap p (same 0))
    ∙ ap (λ b. p y || b) (same_any p xs ys none (λ c. same (suc c)))

-- a cost that there is says that none stays, and how many are used
from_emptying : (fixed used : ℕ → Bool) (first count cost : ℕ) → emptying fixed used first count ≡ Some cost
    → (list_all (λ f. not (fixed f)) (range_with_len first count) ≡ true) × (count_by used (range_with_len first count) ≡ cost)
from_emptying fixed used first count cost is = elim (cases_Bool (list_all (λ f. not (fixed f)) (range_with_len first count))) [
  | inl all ↦ (all, same_Some _ cost (sym (cond-true _ (Some (count_by used (range_with_len first count))) None all) ∙ is))
  | inr some ↦ absurd (none-some cost (sym (cond-false _ (Some (count_by used (range_with_len first count))) None some) ∙ is))
]

module _ (st : FrameState) (uses : List (Option Use)) (held : List (Option ℕ)) (places : List (BTreeMap ℕ ℕ)) (right : AreRight st uses held places) where
  stays_is : (f : ℕ) → stays uses held f ≡ is_fixed st f
  stays_is f =
      ap (λ b. b || list_any (is_that f) held) (kept_alike (use_in uses f) (used_at st f) (note_at uses st.used right.notes f))
      ∙ ap (λ b. (is_wired_place (used_at st f) || is_claimed_place (used_at st f)) || b)
      (same_any (is_that f) held st.held refl right.hands)

  used_is : (f : ℕ) → has_use uses f ≡ is_used_frame st f
  used_is f = used_alike (use_in uses f) (used_at st f) (note_at uses st.used right.notes f)

  costs_are : (first count : ℕ) → emptying (stays uses held) (has_use uses) first count
      ≡ emptying (is_fixed st) (is_used_frame st) first count
  costs_are first count =
      let fixed : stays uses held ≡ is_fixed st = λ i f. stays_is f i in
      let used : has_use uses ≡ is_used_frame st = λ i f. used_is f i in
      ap (λ (fx : ℕ → Bool). emptying fx (has_use uses) first count) fixed
      ∙ ap (λ (us : ℕ → Bool). emptying (is_fixed st) us first count) used

  -- the pages of some frames have the used ones of them, in order
  pages_right : (fs : List ℕ) → map (λ (p : PageOf). frame_of st p.space p.page) (pages_in uses fs)
      ≡ map Some (filter (is_used_frame st) fs)
  pages_right [] = refl
  pages_right (f ∷ fs) = ap (map (λ (p : PageOf). frame_of st p.space p.page)) (flat_map-cons (λ g. page_list (use_in uses g)) f fs)
      ∙ by_use (use_in uses f) refl (pages_right fs)
    where
      by_use : (o : Option Use) → use_in uses f ≡ o → map (λ (p : PageOf). frame_of st p.space p.page) (pages_in uses fs)
          ≡ map Some (filter (is_used_frame st) fs)
          → map (λ (p : PageOf). frame_of st p.space p.page) (page_list o ++ pages_in uses fs)
          ≡ map Some (filter (is_used_frame st) (f ∷ fs))
      by_use None is rest =
          let unused : is_used_frame st f ≡ false = sym (used_is f) ∙ ap is_some is in
          rest ∙ ap (map Some) (sym (cond-false (is_used_frame st f) (f ∷ filter (is_used_frame st) fs)
          (filter (is_used_frame st) fs) unused))
      by_use (Some u) is rest =
          let used : is_used_frame st f ≡ true = sym (used_is f) ∙ ap is_some is in
          ap (λ (o : Option ℕ). o ∷ map (λ (p : PageOf). frame_of st p.space p.page) (pages_in uses fs)) (right.pages f u is)
          ∙ ap (λ (l : List (Option ℕ)). Some f ∷ l) rest
          ∙ ap (map Some) (sym (cond-true (is_used_frame st f) (f ∷ filter (is_used_frame st) fs) (filter (is_used_frame st) fs) used))

  module _ (frames k : ℕ) (small : k ≤ 3) where
    found : (n cost : ℕ) → n < frames / 8 ^ k → emptying (stays uses held) (has_use uses) (n * 8 ^ k) (8 ^ k) ≡ Some cost
        → MayBeEmptied st frames k (n * 8 ^ k) × (cost_of st k (n * 8 ^ k) ≡ cost)
    found n cost below is =
        let parts = from_emptying (is_fixed st) (is_used_frame st) (n * 8 ^ k) (8 ^ k) cost (sym (costs_are (n * 8 ^ k) (8 ^ k)) ∙ is) in
        (record { extent = (small, mul-mod_left n (8 ^ k)); within = extent_fits n (8 ^ k) frames below; loose = parts.0 }, parts.1)

    numbered : (first : ℕ) → MayBeEmptied st frames k first
        → (n : ℕ) × (n < frames / 8 ^ k) × (n * 8 ^ k ≡ first) × (emptying (stays uses held) (has_use uses) (n * 8 ^ k) (8 ^ k)
        ≡ Some (cost_of st k first))
    numbered first may =
        let at = number_of first (8 ^ k) frames (eight_pos k) may.extent.1 may.within in (
          first / 8 ^ k,
          at.0,
          at.1,
          costs_are (first / 8 ^ k * 8 ^ k) (8 ^ k)
              ∙ ap (λ f. emptying (is_fixed st) (is_used_frame st) f (8 ^ k)) at.1
              ∙ cond-true _ (Some (cost_of st k first)) None may.loose,
        )

    -- where none has a cost, none may be emptied
    pub planned-none : ((n : ℕ) → n < frames / 8 ^ k → emptying (stays uses held) (has_use uses) (n * 8 ^ k) (8 ^ k) ≡ None) → (first : ℕ)
        → MayBeEmptied st frames k first → ⊥
    planned-none none first may = let at = numbered first may in none-some _ (sym (none at.0 at.1) ∙ at.3)

    -- the extent of least cost is the cheapest
    pub planned-some : (number cost : ℕ) → IsLeast (λ n. emptying (stays uses held) (has_use uses) (n * 8 ^ k) (8 ^ k))
        (frames / 8 ^ k) number cost
        → IsCheapest st frames k (number * 8 ^ k)
    planned-some number cost best =
        let mine = found number cost best.below best.is in
        record {
          may = mine.0;
          least = λ other may. let at = numbered other may in let less = best.least at.0 (cost_of st k other) at.1 at.3 in
              omega (arith, less, mine.1);
          lowest = λ other may same.
              let at = numbered other may in
              let lower = best.first at.0 at.1 (at.3 ∙ ap Some (same ∙ mine.1)) in
              let product = mul-le-mul_left {m = number} {n = at.0} (8 ^ k) lower in
              let one = mul_comm number (8 ^ k) in
              let two = mul_comm at.0 (8 ^ k) in
              let there = at.2 in
              omega (arith, product, one, two, there);
        }

    pub planned-pages : (first : ℕ) → AreItsPages st k first (pages_in uses (range_with_len first (8 ^ k)))
    planned-pages first = pages_right (range_with_len first (8 ^ k))

-- a table tells what is planned, whatever it is that it counts with
pub planned-by : (st : FrameState) (uses : List (Option Use)) (held : List (Option ℕ)) (places : List (BTreeMap ℕ ℕ))
    → AreRight st uses held places
    → (frames k count number cost : ℕ) → k ≤ 3 → count ≡ 8 ^ k → IsLeast (λ n. emptying (stays uses held) (has_use uses) (n * count) count)
    (frames / count) number cost
    → IsCheapest st frames k (number * count) × AreItsPages st k (number * count) (pages_in uses (range_with_len (number * count) count))
planned-by st uses held places right frames k count number cost small is best =
    subst (λ n. IsLeast (λ m. emptying (stays uses held) (has_use uses) (m * n) n) (frames / n) number cost
    → IsCheapest st frames k (number * n) × AreItsPages st k (number * n) (pages_in uses (range_with_len (number * n) n))) (sym is)
    (λ least. (
      planned-some st uses held places right frames k small number cost least,
      planned-pages st uses held places right frames k small (number * 8 ^ k),
    )) best

pub planned-nothing : (st : FrameState) (uses : List (Option Use)) (held : List (Option ℕ)) (places : List (BTreeMap ℕ ℕ))
    → AreRight st uses held places
    → (frames k count : ℕ) → k ≤ 3 → count ≡ 8 ^ k → ((n : ℕ) → n < frames / count
    → emptying (stays uses held) (has_use uses) (n * count) count ≡ None)
    → (first : ℕ) → MayBeEmptied st frames k first → ⊥
planned-nothing st uses held places right frames k count small is none =
    subst (λ n. ((m : ℕ) → m < frames / n → emptying (stays uses held) (has_use uses) (m * n) n ≡ None) → (first : ℕ)
    → MayBeEmptied st frames k first → ⊥) (sym is)
    (planned-none st uses held places right frames k small) none
