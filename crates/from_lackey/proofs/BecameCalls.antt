-- What lines became, one behind another, and where it stops.
use Rattle.std.proofs.Common.{ℕ, Bool, List, [], ◌∷◌, ◌++◌, Option, flat_map, sym, subst, ap, ◌∙◌}
use Rattle.std.proofs.lemmas.Grind.{flat_map-append}
use Rattle.std.specs.List.{AllByRecursion}
use Rattle.pager_model.specs.declared.call.Line.{Line}
use Rattle.pager_model.specs.TraceText.{IsLine}
use Rattle.lackey_layout.specs.Places.{Keeps}
use Rattle.lackey_regions.specs.LineCalls.{AreAt, MadeAt, Word, accesses}
use Rattle.lackey_regions.proofs.AddedCalls.{accesses-append, are_both, are_still}
use Rattle.from_lackey.specs.Converted.{Became}
use Rattle.from_lackey.specs.LineWords.{log_words}

-- no line, no call
pub became_none : (instructions : Bool) (places : List (Option ℕ)) → Became instructions places [] []
became_none instructions places = record { in_range = tt; at = tt }

-- lines stay what they became where pieces keep their places
pub became_still : (instructions : Bool) (p q : List (Option ℕ)) (lines : List (List ℕ)) (calls : List Line) → Keeps p q →
    Became instructions p lines calls → Became instructions q lines calls
became_still instructions p q lines calls keeps became = record {
  in_range = became.in_range;
  at = are_still p q (flat_map (log_words instructions) lines) (accesses calls) keeps became.at;
}

all_both : (xs ys : List Line) → AllByRecursion (IsLine 3 1 1) xs → AllByRecursion (IsLine 3 1 1) ys → AllByRecursion (IsLine 3 1 1) (xs ++ ys)
all_both [] ys first next = next
all_both (x ∷ xs) ys first next = (first.0, all_both xs ys first.1 next)

-- more lines, and their calls
pub became_more : (instructions : Bool) (p q : List (Option ℕ)) (lines more : List (List ℕ)) (calls next : List Line) → Became instructions p lines calls →
    Keeps p q → MadeAt q [] next (flat_map (log_words instructions) more) → Became instructions q (lines ++ more) (calls ++ next)
became_more instructions p q lines more calls next became keeps made = record {
  in_range = all_both calls next became.in_range (made.adds.in_range tt);
  at = subst (λ (ws : List Word). AreAt q ws (accesses (calls ++ next))) (sym (flat_map-append (log_words instructions) lines more))
      (subst (λ (ms : List Word). AreAt q (flat_map (log_words instructions) lines ++ flat_map (log_words instructions) more) ms)
      (sym (accesses-append calls next ∙ ap (λ (ms : List Word). accesses calls ++ ms) made.adds.made_so))
      (are_both q (flat_map (log_words instructions) lines) (accesses calls) (flat_map (log_words instructions) more) made.made
      (are_still p q (flat_map (log_words instructions) lines) (accesses calls) keeps became.at) made.at));
}
