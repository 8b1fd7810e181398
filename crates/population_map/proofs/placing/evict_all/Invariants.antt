use Rattle.std.proofs.Common.{◌≡◌, ◌<◌, ◌≤◌, ℕ, false}
use Rattle.population_map.specs.Kept.{AreMarks}
use Rattle.population_map.specs.Populations.{id_of, is_populated, SameRoom}
use Rattle.population_map.proofs.placing.evict_all.Given as goal

-- the pages so far are evicted, and nothing else changed
abbrev pub invariant-loop-page : goal.invariant-loop-page
invariant-loop-page g l = record {
  marks : AreMarks l.tree;
  room : SameRoom l.fn.tree l.tree;
  ids : (size other : ℕ) → size ≤ 3 → id_of l.tree size other ≡ id_of l.fn.tree size other;
  emptied : (other : ℕ) → l.first ≤ other → other < l.page → is_populated l.tree other ≡ false;
  others : (other : ℕ) → (l.first ≤ other → other < l.page → ⊥) → is_populated l.tree other ≡ is_populated l.fn.tree other;
}
