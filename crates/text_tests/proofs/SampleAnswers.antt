-- One answer more in the tests' history.
use Rattle.std.proofs.Common.{◌≡◌, ℕ, ◌+◌, Bool, true, cond, List, [], ◌∷◌, ◌++◌, ◌&&◌, Some, None, refl, sym, ap, subst, ◌∙◌, eq-eqb, true≢false}
use Rattle.std.proofs.lemmas.Bool.{false≢true}
use Rattle.std.proofs.lemmas.List.{map-append, length_push}
use Rattle.std.proofs.lemmas.List.Sums.{fold-append}
use Rattle.pager_model.specs.declared.entry.Entry.{Entry}
use Rattle.pager_model.specs.declared.entry.Numbered.{Numbered}
use Rattle.pager_model.specs.declared.call.Call.TheVariants.{Load}
use Rattle.pager_model.specs.Flat.{after_call, reply_of}
use Rattle.pager_model.specs.Legal.{state_of_space, progress_in, KeepsOrder, entries_in}
use Rattle.pager_model.specs.Order.{at_rest, progress_by}
use Rattle.pager_model.specs.Settings.{Given}
use Rattle.pager_model.specs.SpaceStates.{SpaceState, MayGoOn, SpaceAllows, space_after}
use Rattle.journal_core.specs.Clauses.{AllowedAfter}
use Rattle.journal_core.specs.Journals.{JournalName, AuthorState, PassState, written, kept}
use Rattle.text_tests.specs.Samples.{unmapped, IsEmptySpace, Filled}
use Rattle.pager_model.proofs.Histories.{progress_from-append}

answered : (g : Given) (c n : ℕ) (entries : List Entry) → progress_in g c entries ≡ Some (at_rest 0 n)
    → progress_by (progress_in g c entries) (unmapped c n) ≡ Some (at_rest 0 (n + 1))
answered g c n entries progress = ap (λ p. progress_by p (unmapped c n)) progress
    ∙ ap (λ (b : Bool). cond (b && true) (Some (at_rest 0 (n + 1))) None) (eq-eqb n n refl)

-- the next answer keeps the order
pub answer_next : (j : JournalName) (c n : ℕ) (a : AuthorState) (p : PassState) (e : Entry) → Filled j c n a p → e ≡ unmapped c n
    → KeepsOrder p.journal.setting (entries_in p.entries) e
answer_next j c n a p e f is =
    subst (KeepsOrder p.journal.setting (entries_in p.entries)) (sym is)
    (subst (λ (k : JournalName). KeepsOrder k.setting (entries_in p.entries) (unmapped c n)) (sym f.pass_of)
    (at_rest 0 (n + 1), answered j.setting c n (entries_in p.entries) f.progress))

allowed_empty : (st : SpaceState) (c n : ℕ) → IsEmptySpace st → SpaceAllows st (unmapped c n)
allowed_empty st c n is = (
  subst (λ next. MayGoOn next c (unmapped c n).what) (sym is.next) tt,
  record { reply = (ap (λ f. reply_of f (Load c 0)) is.flat, λ lawful. absurd (false≢true lawful)); parts = refl; hit = refl; size = refl },
)

-- and the space allows it
pub answer_allowed : (j : JournalName) (c n : ℕ) (a : AuthorState) (p : PassState) (e : Entry) → Filled j c n a p → e ≡ unmapped c n
    → AllowedAfter a.journal.setting a.entries e
answer_allowed j c n a p e f is =
    subst (AllowedAfter a.journal.setting a.entries) (sym is)
    (subst (λ (k : JournalName). AllowedAfter k.setting a.entries (unmapped c n)) (sym f.author_of)
    (allowed_empty (state_of_space j.setting c a.entries) c n f.space, λ frames. absurd (true≢false (sym frames))))

still_empty : (g : Given) (entries : List Entry) (c n : ℕ) (e : Entry) → e ≡ unmapped c n → IsEmptySpace (state_of_space g c entries)
    → IsEmptySpace (state_of_space g c (entries ++ e ∷ []))
still_empty g entries c n e what is =
    subst IsEmptySpace (sym (fold-append space_after (state_of_space g c []) entries (e ∷ [])
    ∙ ap (space_after (state_of_space g c entries)) what))
    (record { flat = ap (λ f. after_call f (Load c 0)) is.flat; next = refl })

pub filled_more : (j : JournalName) (c n place : ℕ) (a : AuthorState) (p : PassState) (e : Entry) → Filled j c n a p → e ≡ unmapped c n
    → Filled j c (n + 1) (written a e) (kept p place e)
filled_more j c n place a p e f is = record {
  author_of = f.author_of;
  part = f.part;
  space = still_empty j.setting a.entries c n e is f.space;
  pass_of = f.pass_of;
  own = f.own;
  room = f.room;
  count = length_push p.entries (record { number = place; entry = e }) ∙ ap (λ k. k + 1) f.count;
  progress =
      ap (progress_in j.setting c) (map-append (λ (m : Numbered). m.entry) p.entries (record { number = place; entry = e } ∷ []))
      ∙ progress_from-append _ (entries_in p.entries) (e ∷ [])
      ∙ ap (progress_by (progress_in j.setting c (entries_in p.entries))) is
      ∙ answered j.setting c n (entries_in p.entries) f.progress;
}
