-- What the callers of commit show lets the joined view grow.
use Rattle.std.proofs.Common.{◌≡◌, ℕ, ◌<◌, ◌≤◌, Bool, true, false, eqb, List, length, refl, sym, ap, subst, ◌∙◌, arith, eq-eqb, ne_eqb, eqb-true, true≢false, ◌==◌, if◌then◌else◌}
use Rattle.std.proofs.lemmas.List.{length-map}
use Rattle.pager_model.specs.Options.{is_that}
use Rattle.pager_model.specs.declared.entry.Numbered.{Numbered}
use Rattle.std.specs.Prelude.{Option, Some, None, IfSome}
use Rattle.pager_model.specs.declared.entry.Entry.{Entry}
use Rattle.pager_model.specs.declared.entry.What.{What}
use Rattle.pager_model.specs.declared.entry.What.TheVariants.{Answer, Out, Failed, Take, Give, Clear, Claim, UseHeld, DropHeld, Got, Unclaim, Refused, Pin, Kept, Rest}
use Rattle.pager_model.specs.Entries.{IsOn, NamesItsParts, space_part, frames_part, entries_of}
use Rattle.pager_model.specs.Legal.{SpaceJudges, FramesJudge, KeepsOrder, entries_in}
use Rattle.pager_model.specs.Settings.{Given}
use Rattle.pager_model.proofs.FrameEntries.{claim_names}
use Rattle.journal_core.specs.Clauses.{NamesOnly, AllowedAfter}
use Rattle.journal_core.specs.Journals.{AuthorState, PassState}
use Rattle.journal_core.specs.Parts.{part_list, own_list}
use Rattle.journal_core.specs.Seats.{author_view, pass_view}
use Rattle.journal_core.specs.Views.{most_entries, MayGrow, joined}
use Rattle.journal_core.proofs.HistoryLength.{hit-same}
use Rattle.journal_core.proofs.HistoryLists.{own_entries}

-- an entry that names no space names the frames
on_something : (space : Option ℕ) (frames : Bool) (what : What) → IsOn space frames what → space ≡ None → frames ≡ true
on_something space frames (Answer number call answered) on none = absurd (cc (on, none))
on_something space frames (Out page written) on none = absurd (cc (on.0.1, none))
on_something space frames (Failed page writing count) on none = absurd (cc (on.0.1, none))
on_something space frames (Take page frame want) on none = on.1
on_something space frames (Give page frame) on none = on.1
on_something space frames (Clear first len) on none = on.1
on_something space frames (Claim victim page frame need) on none = claim_names need space frames on
on_something space frames (UseHeld page frame want) on none = on.1
on_something space frames (DropHeld frame) on none = on.1
on_something space frames (Got frame) on none = on.1
on_something space frames (Unclaim frame) on none = on.1
on_something space frames (Refused wired claimed held) on none = on.1
on_something space frames (Pin first len wired) on none = on.1
on_something space frames (Kept first len page frame) on none = on.1
on_something space frames (Rest short) on none = on.1

-- whether the space and the frames that an entry names are the part
abbrev names_by : ℕ → ℕ → Option ℕ → Bool → Bool
names_by spaces part space frames = if part == spaces then frames else is_that part space

abbrev OnlyBy : ℕ → ℕ → Option ℕ → Bool → Type 0
OnlyBy spaces part space frames = IfSome space (λ s. (s ≡ part) × (s < spaces)) × (frames ≡ true → part ≡ spaces)

named_by : (spaces part : ℕ) (space : Option ℕ) (frames : Bool) → OnlyBy spaces part space frames → (space ≡ None → frames ≡ true)
    → names_by spaces part space frames ≡ true
named_by spaces part None frames only some = let f = some refl in rw (eq-eqb part spaces (only.1 f)) f
named_by spaces part (Some s) frames only some =
    let other : part ≡ spaces → ⊥ = λ is. absurd (omega (arith, only.0.0, only.0.1)) in
    rw (ne_eqb part spaces other) (eq-eqb s part only.0.0)

only_by_at : (spaces part other : ℕ) (space : Option ℕ) (frames : Bool) (b : Bool) → eqb other spaces ≡ b → OnlyBy spaces part space frames
    → names_by spaces other space frames ≡ true → other ≡ part
only_by_at spaces part other space frames true is only names = let f = rw is at names in eqb-true other spaces is ∙ sym (only.1 f)
only_by_at spaces part other None frames false is only names = absurd (true≢false (sym (rw is at names)))
only_by_at spaces part other (Some s) frames false is only names = let f = rw is at names in sym (eqb-true s other f) ∙ only.0.0

-- no other part is named
only_by : (spaces part other : ℕ) (space : Option ℕ) (frames : Bool) → OnlyBy spaces part space frames
    → names_by spaces other space frames ≡ true → other ≡ part
only_by spaces part other space frames only names = only_by_at spaces part other space frames (eqb other spaces) refl only names

-- the list of a space, and of the frames
pub part_list-space : (spaces part : ℕ) (history : List Entry) → part < spaces → part_list spaces part history ≡ space_part part history
part_list-space spaces part history below = let other : part ≡ spaces → ⊥ = λ is. absurd (omega arith) in rw (ne_eqb part spaces other)

pub part_list-frames : (spaces part : ℕ) (history : List Entry) → part ≡ spaces → part_list spaces part history ≡ frames_part history
part_list-frames spaces part history is = rw (eq-eqb part spaces is)

space_allows : (g : Given) (spaces part : ℕ) (entries history : List Entry) (e : Entry) (space : Option ℕ)
    → entries ≡ part_list spaces part history → IfSome space (λ s. (s ≡ part) × (s < spaces))
    → IfSome space (λ s. SpaceJudges g s entries e)
    → IfSome space (λ s. SpaceJudges g s (space_part s history) e)
space_allows g spaces part entries history e None is only allows = tt
space_allows g spaces part entries history e (Some s) is only allows =
    subst (λ l. SpaceJudges g s l e) (is ∙ part_list-space spaces part history (omega (arith, only.0, only.1))
    ∙ ap (λ k. space_part k history) (sym only.0)) allows

space_below : (spaces part : ℕ) (space : Option ℕ) → IfSome space (λ s. (s ≡ part) × (s < spaces)) → IfSome space (λ s. s < spaces)
space_below spaces part None only = tt
space_below spaces part (Some s) only = only.1

pub ordered : (g : Given) (p : PassState) (history : List Entry) (e : Entry) → e.processor ≡ p.processor
    → p.entries ≡ own_list p.processor history → KeepsOrder g (entries_in p.entries) e → KeepsOrder g (entries_of e.processor history) e
ordered g p history e own is order =
    let same = ap entries_in is ∙ own_entries p.processor history ∙ ap (λ d. entries_of d history) (sym own) in
    subst (λ l. KeepsOrder g l e) same order

pub short_enough : (p : PassState) (history : List Entry) (e : Entry) → e.processor ≡ p.processor → p.entries ≡ own_list p.processor history
    → length p.entries < p.room → p.room ≤ most_entries → length (entries_of e.processor history) < most_entries
short_enough p history e own is room most =
    let same = ap entries_in is ∙ own_entries p.processor history ∙ ap (λ d. entries_of d history) (sym own) in
    omega (arith, ap length same, length-map p.entries (λ (n : Numbered). n.entry))

-- an author and a pass, under the pass's setting
pub one_may : (a : AuthorState) (p : PassState) (e : Entry) → a.journal ≡ p.journal → NamesItsParts e
    → NamesOnly (length a.journal.setting.told) a.part e → e.processor ≡ p.processor
    → AllowedAfter a.journal.setting a.entries e → KeepsOrder p.journal.setting (entries_in p.entries) e → length p.entries < p.room
    → p.room ≤ most_entries → p.processor < length p.journal.setting.marks → MayGrow (joined (pass_view p) (author_view a)) e
one_may a p e same parts only own allowed order room most processor = record {
  live = refl;
  named = (named_by spaces a.part e.space e.frames only' (on_something e.space e.frames e.what parts), tt);
  own = (sym own, tt);
  has_parts = λ part names. omega (arith, hit-same a.part part (sym (only_by spaces a.part part e.space e.frames only' names)));
  has_pass = omega (arith, hit-same p.processor e.processor (sym own));
  follows = λ history k. record {
    parts = parts;
    processor = omega arith;
    space = space_below spaces a.part e.space only'.0;
    by_space = space_allows g spaces a.part a.entries history e e.space k.authors.0 only'.0 allowed'.0;
    by_frames = λ f. subst (λ l. FramesJudge g l e) (k.authors.0 ∙ part_list-frames spaces a.part history (only'.1 f)) (allowed'.1 f);
    ordered = ordered g p history e own k.passes.0 order;
  };
  room = λ history k. short_enough p history e own k.passes.0 room most;
}
  where
    g : Given
    g = p.journal.setting

    spaces : ℕ
    spaces = length p.journal.setting.told

    only' : NamesOnly (length p.journal.setting.told) a.part e
    only' = subst (λ j. NamesOnly (length j.setting.told) a.part e) same only

    allowed' : AllowedAfter p.journal.setting a.entries e
    allowed' = subst (λ j. AllowedAfter j.setting a.entries e) same allowed
