-- What the lists of a history are with one entry more, and how many of its entries the frames count.
use Rattle.std.proofs.Common.{◌≡◌, suc, ◌+◌, ◌≤◌, not, List, [], ◌∷◌, ◌++◌, length, fold, filter_map, Option, Some, None, option_to_list, refl, ap, ◌∙◌, arith}
use Rattle.std.proofs.lemmas.List.Elements.{filter_map-append}
use Rattle.std.proofs.lemmas.List.Filters.{length-filter_both}
use Rattle.pager_model.specs.declared.entry.Entry.{Entry}
use Rattle.pager_model.specs.Entries.{names_frames, frames_part}
use Rattle.pager_model.specs.FrameStates.{FrameState, start_frames, frames_after}
use Rattle.pager_model.specs.Legal.{frames_at}
use Rattle.pager_model.specs.Settings.{Given}
use Rattle.pager_model.specs.Showing.{answers_in, answer_in}
use Rattle.pager_model.proofs.FrameEntries.{frames_after-entries}

-- what is read of one element more comes at the end, where there is some
pub filter_map-push : {X Y : Type 0} (h : X → Option Y) (xs : List X) (x : X)
    → filter_map h (xs ++ x ∷ []) ≡ filter_map h xs ++ option_to_list (h x)
filter_map-push h xs x = filter_map-append h xs (x ∷ []) ∙ ap (λ l. filter_map h xs ++ l) (one (h x))
  where
    one : {Z : Type 0} (o : Option Z) → filter_map (λ (z : Option Z). z) (o ∷ []) ≡ option_to_list o
    one None = refl
    one (Some z) = refl

-- so do answers
pub answers-push : (history : List Entry) (e : Entry)
    → answers_in (history ++ e ∷ []) ≡ answers_in history ++ option_to_list (answer_in e.what)
answers-push = filter_map-push (λ (x : Entry). answer_in x.what)

-- each entry on the frames is counted once
entries-counted : (es : List Entry) (st : FrameState) → (fold frames_after st es).entries ≡ st.entries + length es
entries-counted [] st = (let e : st.entries ≡ st.entries + 0 = omega arith in e)
entries-counted (e ∷ es) st =
    let one = frames_after-entries st e in
    let more : (frames_after st e).entries + length es ≡ st.entries + suc (length es) = omega (arith, one) in
    entries-counted es (frames_after st e) ∙ more

pub entries-few : (g : Given) (history : List Entry) → (frames_at g history).entries ≤ length history
entries-few g history =
    let start : FrameState = start_frames g.sizes g.frames (length g.marks) in
    let all : (frames_at g history).entries ≡ 0 + length (frames_part history) = entries-counted (frames_part history) start in
    let both = length-filter_both names_frames (λ e. not (names_frames e)) (λ e. refl) history in
    omega (arith, all, both)
