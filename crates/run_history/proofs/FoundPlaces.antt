-- A processor's entries in a history, by where they stand in the two lists that keep it.
use Rattle.std.proofs.Common.{◌≡◌, ◌+◌, ◌-◌, ◌≤◌, ◌==◌, ℕ, Bool, true, false, List, length, map, Option, Some, None, inl, inr, refl, sym, ap, subst, ◌∙◌, arith, IfSome}
use Rattle.std.specs.List.{slice_get}
use Rattle.std.specs.Option.{option_map}
use Rattle.std.proofs.lemmas.Bool.{cases_lt}
use Rattle.std.proofs.lemmas.Option.{slice_get-map}
use Rattle.pager_model.specs.declared.entry.Entry.{Entry}
use Rattle.pager_model.specs.declared.entry.Numbered.{Numbered}
use Rattle.run_history.specs.declared.brief.Brief.{Brief}
use Rattle.run_history.specs.declared.brief.Said.{Said}
use Rattle.run_history.specs.declared.brief.Said.TheVariants.{Accessed, Filled, Given, PagedOut, Claimed, Whole}
use Rattle.run_history.specs.Briefs.{entry_by, entry_of}
use Rattle.run_history.specs.Kept.{items_in, placed_from}
use Rattle.run_history.specs.Places.{IsFirstIn, NoneIn, is_by}
use Rattle.run_history.proofs.KeptEntries.{get-placed, length-items, slice_get-append_left, slice_get-append_right}

-- a brief has the processor of its entry
made_by : (whole : List Entry) (c space : ℕ) (said : Said) → (entry_by whole c space said).processor ≡ c
made_by whole c space (Accessed store hit size number address word) = refl
made_by whole c space (Filled held wired page frame low high cap) = refl
made_by whole c space (Given page frame) = refl
made_by whole c space (PagedOut written page) = refl
made_by whole c space (Claimed writing owner page frame wanted) = refl
made_by whole c space (Whole place) = refl

-- so an entry that is kept by a brief is the processor's where the brief is
as_its_brief : (whole : List Entry) (c place : ℕ) (v : Bool) (o : Option Brief) → IfSome o (λ b. (b.processor == c) ≡ v)
    → IfSome (option_map (λ e. record { number = place; entry = e }) (option_map (entry_of whole) o)) (λ n. is_by c n ≡ v)
as_its_brief whole c place v None h = tt
as_its_brief whole c place v (Some b) h = ap (λ p. p == c) (made_by whole b.processor b.space b.said) ∙ h

module _ (listed : List Numbered) (whole : List Entry) (bs : List Brief) (c : ℕ) where
  -- at a place behind the listed entries
  behind : (v : Bool) (place : ℕ) → length listed ≤ place → IfSome (slice_get bs (place - length listed)) (λ b. (b.processor == c) ≡ v)
      → IfSome (slice_get (items_in listed whole bs) place) (λ n. is_by c n ≡ v)
  behind v place past h =
      let es = map (entry_of whole) bs in
      let count = length listed in
      let at = slice_get-append_right listed (placed_from count es) place past ∙ get-placed count es (place - count)
      ∙ ap (option_map (λ e. record { number = count + (place - count); entry = e })) (slice_get-map (entry_of whole) bs (place - count)) in
      subst (λ (o : Option Numbered). IfSome o (λ n. is_by c n ≡ v)) (sym at)
      (as_its_brief whole c (count + (place - count)) v (slice_get bs (place - count)) h)

  -- none of the listed ones from a place on is the processor's, and no brief up to one
  pub none_of_both : (from end : ℕ) → NoneIn (is_by c) listed from (length listed)
      → NoneIn (λ b. b.processor == c) bs (from - length listed) end
      → NoneIn (is_by c) (items_in listed whole bs) from (length listed + end)
  none_of_both from end none no_brief = λ place low high. elim (cases_lt place (length listed)) [
    | inl before ↦ subst (λ (o : Option Numbered). IfSome o (λ n. is_by c n ≡ false))
        (sym (slice_get-append_left listed (placed_from (length listed) (map (entry_of whole) bs)) place before)) (none place low before)
    | inr past ↦ behind false place past (no_brief (place - length listed) (omega (arith, low)) (omega (arith, high, past)))
  ]

  pub first_of_both : (from place : ℕ) → NoneIn (is_by c) listed from (length listed)
      → IsFirstIn (λ b. b.processor == c) bs (from - length listed) place
      → IsFirstIn (is_by c) (items_in listed whole bs) from (length listed + place)
  first_of_both from place none is = record {
    behind = omega (arith, is.behind);
    within = omega (arith, is.within, length-items listed whole bs);
    found = behind true (length listed + place) (omega arith)
        (subst (λ p. IfSome (slice_get bs p) (λ b. (b.processor == c) ≡ true))
        {x = place} {y = length listed + place - length listed} (omega arith) is.found);
    first = none_of_both from place none is.first;
  }
