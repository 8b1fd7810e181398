-- Two new passes, and what they show once each has made one call.
use Rattle.std.proofs.Common.{◌≡◌, ℕ, List, [], ◌∷◌, ◌++◌, refl, ap, sym, subst, ◌∙◌, arith}
use Rattle.std.specs.List.{All}
use Rattle.std.proofs.lemmas.List.Elements.{All-nil, All-push}
use Rattle.std.proofs.lemmas.Option.{same_Some}
use Rattle.journal_core.specs.Clauses.{IsOwnOf}
use Rattle.journal_core.specs.Journals.{JournalName, PassState, new_pass, new_passes}
use Rattle.pager_model.specs.declared.call.Call.{Call}
use Rattle.pager_model.specs.declared.entry.Entry.{Entry}
use Rattle.pager_model.specs.declared.entry.Numbered.{Numbered}
use Rattle.pager_model.specs.declared.reply.Reply.{Reply}
use Rattle.pager_model.specs.Entries.{entries_of}
use Rattle.pager_model.specs.Legal.{entries_in}
use Rattle.pager_model.specs.Order.{Progress, at_rest, IsWhole}
use Rattle.pager_model.specs.Settings.{mark_of}
use Rattle.pager_model.specs.Showing.{answers_in}
use Rattle.pager_locks.specs.Calls.{MakesCall}
use Rattle.pager_locks.specs.Prepared.{MayCall}
use Rattle.pager_locks.proofs.OpenedPagers.{same_ends}

-- the passes of two processors, taken from the end
pub record AreTheTwo (j : JournalName) (left : List PassState) (a b : PassState) : Type 0 where
  pub first : a ≡ new_pass j 0 8
  pub second : b ≡ new_pass j 1 8
  pub none_left : left ≡ []

pub the_two : (j : JournalName) (xs ys : List PassState) (a b : PassState) → new_passes j 0 (8 ∷ 8 ∷ []) ≡ xs ++ b ∷ [] → xs ≡ ys ++ a ∷ []
    → AreTheTwo j ys a b
the_two j xs ys a b all fewer =
    let last = same_ends (new_pass j 0 8 ∷ []) xs (new_pass j 1 8) b all in
    let first = same_ends [] ys (new_pass j 0 8) a (last.0 ∙ fewer) in
    record { first = sym first.1; second = sym last.1; none_left = sym first.0 }

pub MayCall-new : (j : JournalName) (c : ℕ) (p : PassState) → p ≡ new_pass j c 8 → mark_of j.setting c ≡ 0 → MayCall j p
MayCall-new j c p is mark = subst (MayCall j) (sym is) (record { journal = refl; mark = mark; whole = (0, refl); room = omega arith })

-- both of them, put back
listed : (ys all more : List PassState) (a b : PassState) → ys ≡ [] → all ≡ ys ++ a ∷ [] → more ≡ all ++ b ∷ [] → more ≡ a ∷ b ∷ []
listed ys all more a b none first second = second ∙ ap (λ l. l ++ b ∷ []) (first ∙ ap (λ l. l ++ a ∷ []) none)

pub All-both : (P : PassState → Type 0) (ys all more : List PassState) (a b : PassState) → ys ≡ [] → all ≡ ys ++ a ∷ []
    → more ≡ all ++ b ∷ [] → P a → P b → All P more
All-both P ys all more a b none first second of_a of_b =
    subst (All P) (sym (listed ys all more a b none first second)) (All-push P (a ∷ []) b (All-push P [] a (All-nil P) of_a) of_b)

pub from_both : (P : PassState → Type 0) (ys all more : List PassState) (a b : PassState) → ys ≡ [] → all ≡ ys ++ a ∷ []
    → more ≡ all ++ b ∷ [] → All P more → P a × P b
from_both P ys all more a b none first second of =
    let both : All P (a ∷ b ∷ []) = subst (All P) (listed ys all more a b none first second) of in
    (both 0 a (omega arith), both 1 a (omega arith))

pub MakesCall-new : (j : JournalName) (c : ℕ) (p q : PassState) (call : Call) (reply : Reply) → p ≡ new_pass j c 8
    → MakesCall j.setting p q call reply → MakesCall j.setting (new_pass j c 8) q call reply
MakesCall-new j c p q call reply new makes = subst (λ x. MakesCall j.setting x q call reply) new makes

-- what a pass shows that made a call, as its first
module _ (j : JournalName) (c : ℕ) (q : PassState) (call : Call) (reply : Reply) (makes : MakesCall j.setting (new_pass j c 8) q call reply) where
  pub IsWhole-made : mark_of j.setting c ≡ 0 → IsWhole (mark_of j.setting q.processor) (entries_in q.entries)
  IsWhole-made mark = subst (λ m. IsWhole m (entries_in q.entries)) (sym (ap (mark_of j.setting) makes.processor ∙ mark)) makes.whole

  -- its answers are the one of this call
  pub answers-made : (h : List Entry) → IsOwnOf q h → answers_in (entries_of c h) ≡ (0, call) ∷ []
  answers-made h own =
      let first : makes.sequence.made ≡ 0 =
      ap (λ (x : Progress). x.made) (same_Some (at_rest 0 makes.sequence.made) (at_rest 0 0) (sym makes.before)) in
      ap (λ n. answers_in (entries_of n h)) (sym makes.processor) ∙ ap answers_in (sym own.1)
      ∙ ap (λ (l : List Numbered). answers_in (entries_in l)) makes.entries ∙ makes.sequence.answer ∙ ap (λ n. (n, call) ∷ []) first
