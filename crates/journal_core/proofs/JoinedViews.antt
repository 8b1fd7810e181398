-- What a joined view tells of the lists in hand.
use Rattle.std.proofs.Common.{◌≡◌, ℕ, ◌+◌, ◌<◌, ◌≤◌, Bool, true, false, cond, eqb, List, [], length, refl, sym, ap, ap₂, subst, ◌∙◌, arith, eq-eqb, ne_eqb, eqb-true, ◌⊎◌, inl, inr}
use Rattle.std.specs.Prelude.{Some, IfSome}
use Rattle.atomic_table.specs.Table.{Me}
use Rattle.pager_model.specs.Options.{is_that}
use Rattle.pager_model.specs.declared.entry.Entry.{Entry}
use Rattle.pager_model.specs.Entries.{NamesItsParts, space_part}
use Rattle.pager_model.specs.Legal.{SpaceJudges, FramesJudge, KeepsOrder, entries_in}
use Rattle.pager_model.specs.Settings.{Given}
use Rattle.journal_core.specs.declared.view.View.{View}
use Rattle.journal_core.specs.Clauses.{IsHistory, AreOf, AreOfTwo, AreSpaceAndFrames}
use Rattle.journal_core.specs.Journals.{AuthorState, PassState}
use Rattle.journal_core.specs.Parts.{part_list, names_part}
use Rattle.journal_core.specs.Seats.{author_view, pass_view}
use Rattle.journal_core.specs.Views.{most_entries, Meets, MayGrow, joined}
use Rattle.journal_core.proofs.HistoryLength.{hit, hit-same}
use Rattle.journal_core.proofs.CommittedEntries.{part_list-space, part_list-frames, ordered, short_enough}
use Rattle.journal_core.proofs.HistoryLists.{own_entries}

pub board_one : (s q m : Me Unit View) (p : PassState) (a : AuthorState) → s ≡ (pass_view p, []) → q ≡ (author_view a, [])
    → m ≡ (joined s.0 q.0, s.1) → m.0 ≡ joined (pass_view p) (author_view a)
board_one s q m p a pass author is = ap (λ (x : Me Unit View). x.0) is ∙ ap₂ (λ (x y : Me Unit View). joined x.0 y.0) pass author

-- and one author more
pub board_two : (m r n : Me Unit View) (p : PassState) (a b : AuthorState) → m.0 ≡ joined (pass_view p) (author_view a)
    → r ≡ (author_view b, [])
    → n ≡ (joined m.0 r.0, m.1) → n.0 ≡ joined (joined (pass_view p) (author_view a)) (author_view b)
board_two m r n p a b first other is = ap (λ (x : Me Unit View). x.0) is ∙ ap₂ (λ (x : View) (y : Me Unit View). joined x y.0) first other

-- what a meeting of an author and a pass tells
pub one_tells : (a : AuthorState) (p : PassState) (v : View) (n : ℕ) → a.journal ≡ p.journal → v ≡ joined (pass_view p) (author_view a)
    → Meets v.setting n v → (history : List Entry) × AreOf a p history × (length history ≡ n)
one_tells a p v n same is meets =
    let m : Meets p.journal.setting n (joined (pass_view p) (author_view a)) = subst (λ (w : View). Meets w.setting n w) is meets in
    let k = m.known in (
      m.history,
      (
        subst (λ j. IsHistory j.setting m.history) (sym same) (record { legal = m.legal; processors = m.few; entries = m.short }),
        k.authors.0 ∙ ap (λ j. part_list (length j.setting.told) a.part m.history) (sym same),
        (k.passes.0, ap entries_in k.passes.0 ∙ own_entries p.processor m.history),
      ),
      m.long_is,
    )

-- what a meeting of a space, the frames and a pass tells
pub two_tells : (s f : AuthorState) (p : PassState) (v : View) (n : ℕ) → s.journal ≡ p.journal → f.journal ≡ p.journal
    → AreSpaceAndFrames s f → v ≡ joined (joined (pass_view p) (author_view s)) (author_view f) → Meets v.setting n v
    → (history : List Entry) × AreOfTwo s f p history × (length history ≡ n)
two_tells s f p v n same other are is meets =
    let m : Meets p.journal.setting n (joined (joined (pass_view p) (author_view s)) (author_view f)) =
    subst (λ (w : View). Meets w.setting n w) is meets in
    let k = m.known in
    let told = ap (λ j. length j.setting.told) same in (
      m.history,
      (
        subst (λ j. IsHistory j.setting m.history) (sym same) (record { legal = m.legal; processors = m.few; entries = m.short }),
        k.authors.0 ∙ part_list-space (length p.journal.setting.told) s.part m.history (omega (arith, are.0)),
        k.authors.1.0 ∙ part_list-frames (length p.journal.setting.told) f.part m.history (are.1 ∙ told),
        (k.passes.0, ap entries_in k.passes.0 ∙ own_entries p.processor m.history),
      ),
      m.long_is,
    )

named_space : (spaces part : ℕ) (e : Entry) → part < spaces → e.space ≡ Some part → names_part spaces part e ≡ true
named_space spaces part e below is =
    let other : part ≡ spaces → ⊥ = λ same. absurd (omega arith) in
    ap (λ b. cond b e.frames (is_that part e.space)) (ne_eqb part spaces other) ∙ ap (λ o. is_that part o) is ∙ eq-eqb part part refl

named_frames : (spaces part : ℕ) (e : Entry) → part ≡ spaces → e.frames ≡ true → names_part spaces part e ≡ true
named_frames spaces part e same is = ap (λ b. cond b e.frames (is_that part e.space)) (eq-eqb part spaces same) ∙ is

two_named_by : (spaces space frames part : ℕ) (e : Entry) (b : Bool) → frames ≡ spaces → e.space ≡ Some space → eqb part spaces ≡ b
    → names_part spaces part e ≡ true → (space ≡ part) ⊎ (frames ≡ part)
two_named_by spaces space frames part e true all is at names = inr (all ∙ sym (eqb-true part spaces at))
two_named_by spaces space frames part e false all is at names =
    let n : is_that part e.space ≡ true = ap (λ b. cond b e.frames (is_that part e.space)) (sym at) ∙ names in
    inl (eqb-true space part (ap (λ o. is_that part o) (sym is) ∙ n))

two_counted : (space frames part : ℕ) → (space ≡ part) ⊎ (frames ≡ part) → 0 < hit space part + hit frames part
two_counted space frames part (inl is) = omega (arith, hit-same space part is)
two_counted space frames part (inr is) = omega (arith, hit-same frames part is)

-- the authors of a space and of the frames, and a pass, under the pass's setting
pub two_may : (s f : AuthorState) (p : PassState) (e : Entry) → s.journal ≡ p.journal → f.journal ≡ p.journal → NamesItsParts e
    → AreSpaceAndFrames s f × (e.space ≡ Some s.part) × (e.frames ≡ true) → e.processor ≡ p.processor
    → SpaceJudges s.journal.setting s.part s.entries e → FramesJudge f.journal.setting f.entries e
    → KeepsOrder p.journal.setting (entries_in p.entries) e → length p.entries < p.room → p.room ≤ most_entries
    → p.processor < length p.journal.setting.marks → MayGrow (joined (joined (pass_view p) (author_view s)) (author_view f)) e
two_may s f p e same other parts names own by_space by_frames order room most processor = record {
  live = refl;
  named = (named_space spaces s.part e below names.1, (named_frames spaces f.part e all names.2, tt));
  own = (sym own, tt);
  has_parts = λ part n. omega
      (arith, two_counted s.part f.part part (two_named_by spaces s.part f.part part e (eqb part spaces) all names.1 refl n));
  has_pass = omega (arith, hit-same p.processor e.processor (sym own));
  follows = λ history k. record {
    parts = parts;
    processor = omega arith;
    space = subst (λ o. IfSome o (λ t. t < length p.journal.setting.told)) (sym names.1) below;
    by_space = subst (λ o. IfSome o (λ t. SpaceJudges g t (space_part t history) e)) (sym names.1)
        (subst (λ l. SpaceJudges g s.part l e) (k.authors.0 ∙ part_list-space spaces s.part history below)
        (subst (λ j. SpaceJudges j.setting s.part s.entries e) same by_space));
    by_frames = λ _. subst (λ l. FramesJudge g l e) (k.authors.1.0 ∙ part_list-frames spaces f.part history all)
        (subst (λ j. FramesJudge j.setting f.entries e) other by_frames);
    ordered = ordered g p history e own k.passes.0 order;
  };
  room = λ history k. short_enough p history e own k.passes.0 room most;
}
  where
    g : Given
    g = p.journal.setting

    spaces : ℕ
    spaces = length p.journal.setting.told

    below : s.part < length p.journal.setting.told
    below = let told = ap (λ j. length j.setting.told) same in omega (arith, names.0.0)

    all : f.part ≡ length p.journal.setting.told
    all = names.0.1 ∙ ap (λ j. length j.setting.told) same
