-- What a log of the lists in hand has become.
use Rattle.std.proofs.Common.{◌≡◌, ℕ, true, List, [], ◌∷◌, ◌++◌, Option, Some, None, is_some, IfSome, IsSomeAnd, refl, ap, sym, subst, ◌∙◌, append_assoc}
use Rattle.std.proofs.lemmas.List.{append-nil}
use Rattle.journal_core.specs.Journals.{JournalName, AuthorState, PassState, written, kept}
use Rattle.pager_model.specs.declared.entry.Entry.{Entry}
use Rattle.pager_model.specs.Settings.{Given}
use Rattle.pager_locks.specs.Logs.{IsSpaceOf, IsFramesOf, IsPassOf, AreHeld, SamePart, GoesOn, HasGrown}

pub same_part : (from to now : Option AuthorState) → SamePart from to → SamePart to now → SamePart from now
same_part None to now first second = tt
same_part (Some a) None now first second = absurd first
same_part (Some a) (Some b) None first second = absurd second
same_part (Some a) (Some b) (Some c) first second = second ∙ first

pub part_kept : (o : Option AuthorState) → SamePart o o
part_kept None = tt
part_kept (Some a) = refl

pub part_written : (o : Option AuthorState) (a b : AuthorState) (e : Entry) → o ≡ Some a → b ≡ written a e → SamePart o (Some b)
part_written o a b e is written_is = subst (λ x. SamePart x (Some b)) (sym is) (ap (λ (x : AuthorState). x.part) written_is)

pub goes_on : (from to now : Option PassState) → IfSome from (λ p. IsSomeAnd to (GoesOn p)) → IfSome to (λ p. IsSomeAnd now (GoesOn p))
    → IfSome from (λ p. IsSomeAnd now (GoesOn p))
goes_on None to now first second = tt
goes_on (Some p) None now first second = absurd first
goes_on (Some p) (Some q) None first second = absurd second
goes_on (Some p) (Some q) (Some r) first second =
    record {
      processor = second.processor ∙ first.processor;
      room = second.room ∙ first.room;
      piece = first.piece ++ second.piece;
      entries = second.entries ∙ ap (λ l. l ++ second.piece) first.entries ∙ append_assoc p.entries first.piece second.piece;
    }

pub goes_on_by : (o : Option PassState) (p q : PassState) (place : ℕ) (e : Entry) → o ≡ Some p → q ≡ kept p place e
    → IfSome o (λ x. IsSomeAnd (Some q) (GoesOn x))
goes_on_by o p q place e is kept_is =
    subst (λ o. IfSome o (λ x. IsSomeAnd (Some q) (GoesOn x))) (sym is) (record {
      processor = ap (λ (x : PassState). x.processor) kept_is;
      room = ap (λ (x : PassState). x.room) kept_is;
      piece = record { number = place; entry = e } ∷ [];
      entries = ap (λ (x : PassState). x.entries) kept_is;
    })

pub grown_none : {j : JournalName} {space frames : Option AuthorState} {pass : Option PassState}
    → HasGrown j j space space frames frames pass pass
grown_none {j} {space} {frames} {pass} =
    record { journal = refl; same_space = part_kept space; same_frames = part_kept frames; goes_on = by pass }
  where
    by : (o : Option PassState) → IfSome o (λ p. IsSomeAnd o (GoesOn p))
    by None = tt
    by (Some p) = record { processor = refl; room = refl; piece = []; entries = sym (append-nil p.entries) }

-- What a log has become, that is there again.
module _ {j now : JournalName} {space space' frames frames' : Option AuthorState} {p : PassState} {pass' : Option PassState}
    (grown : HasGrown j now space space' frames frames' (Some p) pass') (g : Given) (h : List Entry) (held : AreHeld now space' frames' pass' g h) where
  pub pass_on : (q : PassState) → pass' ≡ Some q → IsPassOf j q h × GoesOn p q
  pass_on q is = (
    subst (λ x. IsPassOf x q h) grown.journal (subst (λ o. IsSomeAnd o (λ x. IsPassOf now x h)) is held.pass_is),
    subst (λ o. IsSomeAnd o (GoesOn p)) is grown.goes_on,
  )

  pub space_on : (b : AuthorState) → space' ≡ Some b → IsSpaceOf j b h
  space_on b is = subst (λ x. IsSpaceOf x b h) grown.journal (subst (λ o. IfSome o (λ x. IsSpaceOf now x h)) is held.space_is)

  pub frames_on : (b : AuthorState) → frames' ≡ Some b → IsFramesOf j b h
  frames_on b is = subst (λ x. IsFramesOf x b h) grown.journal (subst (λ o. IfSome o (λ x. IsFramesOf now x h)) is held.frames_are)

-- what was there is there
pub is_there : {X : Type 0} (P : X → Type 0) (o : Option X) → IsSomeAnd o P → is_some o ≡ true
is_there P None there = absurd there
is_there P (Some x) there = refl

pub never_gone : (a : AuthorState) (o : Option AuthorState) → IsSomeAnd o (λ b. b.part ≡ a.part) → o ≡ None → ⊥
never_gone a o there none = subst (λ x. IsSomeAnd x (λ b. b.part ≡ a.part)) none there

pub part_is : (a b : AuthorState) (o : Option AuthorState) → IsSomeAnd o (λ x. x.part ≡ a.part) → o ≡ Some b → b.part ≡ a.part
part_is a b o there is = subst (λ x. IsSomeAnd x (λ y. y.part ≡ a.part)) is there
