-- One entry more: what it does to the parts of a history, to what they lead to, and to legality.
use Rattle.std.proofs.Common.{◌≡◌, ℕ, suc, Bool, true, false, cond, List, [], ◌∷◌, ◌++◌, filter, Option, length, refl, ap, sym, subst, ◌∙◌, append_assoc}
use Rattle.std.proofs.lemmas.List.{append-nil}
use Rattle.std.proofs.lemmas.List.Elements.{filter-append}
use Rattle.std.proofs.lemmas.List.Sums.{fold-append}
use Rattle.pager_model.specs.declared.entry.Entry.{Entry}
use Rattle.pager_model.specs.Entries.{names_space, names_frames, is_of, space_part, frames_part, entries_of}
use Rattle.pager_model.specs.FrameStates.{frames_after, start_frames}
use Rattle.pager_model.specs.Legal.{state_of_space, frames_state, progress_in, space_at, frames_at, progress_at, MayFollow, AllFollow, IsLegal, entries_in, numbered, numbered_from}
use Rattle.pager_model.specs.Order.{Progress, progress_from, progress_by}
use Rattle.pager_model.specs.Settings.{Given, is_told, faults_at_entry}
use Rattle.pager_model.specs.SpaceStates.{space_after, empty_state}

-- an entry that passes is added at the end, and one that doesn't changes nothing
pub filter-push_in : {X : Type 0} (p : X → Bool) (xs : List X) (x : X) → p x ≡ true → filter p (xs ++ x ∷ []) ≡ filter p xs ++ x ∷ []
filter-push_in p xs x h = filter-append p xs (x ∷ []) ∙ ap (λ b. filter p xs ++ cond b (x ∷ []) []) h

pub filter-push_out : {X : Type 0} (p : X → Bool) (xs : List X) (x : X) → p x ≡ false → filter p (xs ++ x ∷ []) ≡ filter p xs
filter-push_out p xs x h = filter-append p xs (x ∷ []) ∙ ap (λ b. filter p xs ++ cond b (x ∷ []) []) h ∙ append-nil (filter p xs)

pub progress_from-append : (p : Option Progress) (xs ys : List Entry) → progress_from p (xs ++ ys) ≡ progress_from (progress_from p xs) ys
progress_from-append p [] ys = refl
progress_from-append p (x ∷ xs) ys = progress_from-append (progress_by p x) xs ys

-- what the entry does to the state of a space that it names, and of one that it doesn't
pub space_at-named : (g : Given) (history : List Entry) (e : Entry) (s : ℕ) → names_space s e ≡ true
    → space_at g (history ++ e ∷ []) s ≡ space_after (space_at g history s) e
space_at-named g history e s h =
    ap (state_of_space g s) (filter-push_in (names_space s) history e h)
    ∙ fold-append space_after (empty_state g.sizes (is_told g s) (faults_at_entry g s)) (space_part s history) (e ∷ [])

pub space_at-other : (g : Given) (history : List Entry) (e : Entry) (s : ℕ) → names_space s e ≡ false
    → space_at g (history ++ e ∷ []) s ≡ space_at g history s
space_at-other g history e s h = ap (state_of_space g s) (filter-push_out (names_space s) history e h)

-- and to the state of the frames
pub frames_at-named : (g : Given) (history : List Entry) (e : Entry) → e.frames ≡ true
    → frames_at g (history ++ e ∷ []) ≡ frames_after (frames_at g history) e
frames_at-named g history e h = ap (frames_state g) (filter-push_in names_frames history e h)
    ∙ fold-append frames_after (start_frames g.sizes g.frames (length g.marks)) (frames_part history) (e ∷ [])

pub frames_at-other : (g : Given) (history : List Entry) (e : Entry) → e.frames ≡ false
    → frames_at g (history ++ e ∷ []) ≡ frames_at g history
frames_at-other g history e h = ap (frames_state g) (filter-push_out names_frames history e h)

-- and to the progress of its processor, and of another
pub progress_at-own : (g : Given) (history : List Entry) (e : Entry) (c : ℕ) → is_of c e ≡ true
    → progress_at g (history ++ e ∷ []) c ≡ progress_by (progress_at g history c) e
progress_at-own g history e c h = ap (progress_in g c) (filter-push_in (is_of c) history e h)
    ∙ progress_from-append _ (entries_of c history) (e ∷ [])

pub progress_at-other : (g : Given) (history : List Entry) (e : Entry) (c : ℕ) → is_of c e ≡ false
    → progress_at g (history ++ e ∷ []) c ≡ progress_at g history c
progress_at-other g history e c h = ap (progress_in g c) (filter-push_out (is_of c) history e h)

AllFollow-push : (g : Given) (before es : List Entry) (e : Entry) → AllFollow g before es → MayFollow g (before ++ es) e
    → AllFollow g before (es ++ e ∷ [])
AllFollow-push g before [] e all may = (subst (λ l. MayFollow g l e) (append-nil before) may, tt)
AllFollow-push g before (x ∷ es) e all may =
    (all.0, AllFollow-push g (before ++ x ∷ []) es e all.1 (subst (λ l. MayFollow g l e) (sym (append_assoc before (x ∷ []) es)) may))

-- a legal history goes on by an entry that may follow it
pub IsLegal-push : (g : Given) (history : List Entry) (e : Entry) → IsLegal g history → MayFollow g history e
    → IsLegal g (history ++ e ∷ [])
IsLegal-push g history e legal may = AllFollow-push g [] history e legal may

-- What holds of the empty history, and goes on to hold with each entry that may follow, holds of every legal history.
module _ (g : Given) (P : List Entry → Type 0) (more : (history : List Entry) (e : Entry) → P history → MayFollow g history e → P (history ++ e ∷ [])) where
  AllFollow-keeps : (before es : List Entry) → P before → AllFollow g before es → P (before ++ es)
  AllFollow-keeps before [] now all = subst P (sym (append-nil before)) now
  AllFollow-keeps before (x ∷ es) now all = subst P (append_assoc before (x ∷ []) es)
      (AllFollow-keeps (before ++ x ∷ []) es (more before x now all.0) all.1)

  pub IsLegal-keeps : P [] → (history : List Entry) → IsLegal g history → P history
  IsLegal-keeps none history legal = AllFollow-keeps [] history none legal

-- Numbered entries are the entries.
entries_in-numbered_from : (place : ℕ) (es : List Entry) → entries_in (numbered_from place es) ≡ es
entries_in-numbered_from place [] = refl
entries_in-numbered_from place (e ∷ es) = ap (λ l. e ∷ l) (entries_in-numbered_from (suc place) es)

pub entries_in-numbered : (history : List Entry) → entries_in (numbered history) ≡ history
entries_in-numbered history = entries_in-numbered_from 0 history
