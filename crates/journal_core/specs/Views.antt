-- What each seat at the journal's word knows, the rule that ties it to the history, and what the steps tell.
use Rattle.std.specs.Prelude.{ℕ, ◌≡◌, ◌+◌, ◌^◌, ◌≤◌, ◌<◌, Bool, true, false, ◌==◌, nat_lt, if◌then◌else◌, List, [], ◌∷◌, ◌++◌, map, length, replicate, take, drop, count_by, None}
use Rattle.std.specs.List.{sum_by}
use Rattle.std.specs.List.{AllByRecursion, range_with_len}
use Rattle.pager_model.specs.Bounds.{most_actors}
use mathlib.Core.Option.{some}
use lib.ListN.{get_elem?}
use Rattle.atomic_table.specs.Table.{State, Me, Step}
use Rattle.pager_model.specs.declared.entry.Entry.{Entry}
use Rattle.pager_model.specs.declared.entry.What.TheVariants.{DropHeld}
use Rattle.pager_model.specs.Entries.{entries_of}
use Rattle.pager_model.specs.Legal.{IsLegal, MayFollow}
use Rattle.pager_model.specs.SizeSets.{all_sizes}
use Rattle.pager_model.specs.Settings.{Given}
use Rattle.journal_core.specs.declared.view.View.{View}
use Rattle.journal_core.specs.declared.view.Part.{Part}
use Rattle.journal_core.specs.declared.view.Own.{Own}
use Rattle.journal_core.specs.Parts.{part_list, names_part, own_list}

-- the most entries of one processor
abbrev pub most_entries : ℕ
most_entries = 2 ^ 31

abbrev pub is_part : ℕ → Part → Bool
is_part part p = p.part == part

abbrev pub is_own : ℕ → Own → Bool
is_own c o = o.processor == c

-- how many authors of the part, and passes of the processor, stand in a view
abbrev pub authors_of : ℕ → View → ℕ
authors_of part v = count_by (is_part part) v.authors

abbrev pub passes_of : ℕ → View → ℕ
passes_of c v = count_by (is_own c) v.passes

-- Each author in the view has exactly its part of the history, and each pass exactly its processor's entries. A live view has the
-- setting, and a spent one neither an author nor a pass.
pub record Knows (g : Given) (history : List Entry) (v : View) : Type 0 where
  pub setting : v.live ≡ true → v.setting ≡ g
  pub spent_has_none : v.live ≡ false → (v.authors ≡ []) × (v.passes ≡ [])
  pub authors : AllByRecursion (λ (p : Part). p.entries ≡ part_list (length g.told) p.part history) v.authors
  pub passes : AllByRecursion (λ (o : Own). o.entries ≡ own_list o.processor history) v.passes

-- of each number below n there is one, and of no other
abbrev pub one_below : ℕ → ℕ → ℕ
one_below n k = if nat_lt k n then 1 else 0

-- The journal's words. The length of the history stands in the middle of the others, which stay 0: so it has a cache line of its own, and a
-- seat that boards or alights, for which the first word is read, doesn't wait for those that commit.
abbrev pub word_count : ℕ
word_count = 32

abbrev pub words_of : ℕ → List ℕ
words_of long = replicate 16 0 ++ long ∷ replicate 15 0

-- The rule: there is one legal history, whose length the words tell. Over all views each space and the frames have exactly one
-- author, each processor has exactly one pass, and there is no other author and no other pass. Each view knows its lists, and only
-- live views have any. So each author and each pass stands in exactly one live view.
pub record Stands (g : Given) (words : List ℕ) (views : List View) : Type 0 where
  pub history : List Entry
  pub word : words ≡ words_of (length history)
  pub legal : IsLegal g history
  pub few : length g.marks ≤ most_actors
  pub short : (c : ℕ) → length (entries_of c history) ≤ most_entries
  pub one_author : (part : ℕ) → sum_by (authors_of part) views ≡ one_below (length g.told + 1) part
  pub one_pass : (c : ℕ) → sum_by (passes_of c) views ≡ one_below (length g.marks) c
  pub known : (seat : ℕ) (v : View) → get_elem? views seat ≡ some v → Knows g history v

abbrev pub Holds : Given → State Unit View → Type 0
Holds g s = Stands g s.words s.views

-- the first seat has the author of each part, and the pass of each processor, with empty lists
abbrev pub blank_part : ℕ → Part
blank_part part = record { part = part; entries = [] }

abbrev pub blank_own : ℕ → Own
blank_own c = record { processor = c; entries = [] }

abbrev pub opener : Given → View
opener g =
    record {
      live = true;
      setting = g;
      authors = map blank_part (range_with_len 0 (length g.told + 1));
      passes = map blank_own (range_with_len 0 (length g.marks));
    }

-- the first author goes, and what is left
abbrev pub first_author : View → View
first_author v = record v { authors = take 1 v.authors; passes = [] }

abbrev pub without_author : View → View
without_author v = record v { authors = drop 1 v.authors }

-- the first pass goes, and what is left
abbrev pub first_pass : View → View
first_pass v = record v { authors = []; passes = take 1 v.passes }

abbrev pub without_pass : View → View
without_pass v = record v { passes = drop 1 v.passes }

-- two views in one, and what the second seat is left with
abbrev pub joined : View → View → View
joined v w = record v { authors = v.authors ++ w.authors; passes = v.passes ++ w.passes }

abbrev pub spent : View
spent = record {
  live = false;
  setting = record { sizes = all_sizes; frames = 0; marks = []; told = []; faults = [] };
  authors = [];
  passes = [];
}

-- the lists grown by an entry at this place of the history
abbrev pub part_grown : Entry → Part → Part
part_grown e p = record p { entries = p.entries ++ e ∷ [] }

abbrev pub own_grown : ℕ → Entry → Own → Own
own_grown place e o = record o { entries = o.entries ++ record { number = place; entry = e } ∷ [] }

abbrev pub grown : ℕ → Entry → View → View
grown place e v = record v { authors = map (part_grown e) v.authors; passes = map (own_grown place e) v.passes }

-- the view is of one legal history of this length
pub record Meets (g : Given) (long : ℕ) (v : View) : Type 0 where
  pub history : List Entry
  pub long_is : length history ≡ long
  pub legal : IsLegal g history
  pub few : length g.marks ≤ most_actors
  pub short : (c : ℕ) → length (entries_of c history) ≤ most_entries
  pub known : Knows g history v

-- The view's authors are those of the parts that the entry names, and its pass is its processor's; and after each history
-- that the view knows the entry may follow, and its processor has room.
pub record MayGrow (v : View) (e : Entry) : Type 0 where
  pub live : v.live ≡ true
  pub named : AllByRecursion (λ (p : Part). names_part (length v.setting.told) p.part e ≡ true) v.authors
  pub own : AllByRecursion (λ (o : Own). o.processor ≡ e.processor) v.passes
  pub has_parts : (part : ℕ) → names_part (length v.setting.told) part e ≡ true → 0 < authors_of part v
  pub has_pass : 0 < passes_of e.processor v
  pub follows : (history : List Entry) → Knows v.setting history v → MayFollow v.setting history e
  pub room : (history : List Entry) → Knows v.setting history v → length (entries_of e.processor history) < most_entries

-- a seat that has no author and no pass
abbrev pub rest_view : Given → View
rest_view g = record { live = true; setting = g; authors = []; passes = [] }

-- what entering tells
abbrev pub Entered : Step Unit → Me Unit View → ℕ → Me Unit View → Type 0
Entered s before found after = after ≡ (rest_view before.0.setting, [])

-- what a look tells
abbrev pub Looks : Step Unit → Me Unit View → ℕ → Me Unit View → Type 0
Looks s before found after = (after ≡ before) × Meets before.0.setting found before.0

-- what a commit tells
abbrev pub Commits : Entry → Step Unit → Me Unit View → ℕ → Me Unit View → Type 0
Commits e s before found after = (after ≡ (grown found e before.0, before.1)) × Meets before.0.setting found before.0

-- stands for no entry: each commit names its own
abbrev pub some_entry : Entry
some_entry = record { processor = 0; space = None; frames = true; what = DropHeld 0 }
