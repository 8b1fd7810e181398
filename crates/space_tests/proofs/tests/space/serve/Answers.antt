use Rattle.std.proofs.Common.{◌≡◌, ℕ, length, sym, ap, ◌∙◌, arith, inl, inr}
use Rattle.std.proofs.lemmas.Bool.{cases_eq}
use Rattle.std.proofs.lemmas.Option.{none-some, same_Some}
use Rattle.space_core.specs.Standing.{Kept, StandsBut, StandsFor, frame_at, is_allowed}
use Rattle.space_core.proofs.ClearedRanges.{StandsBut-rest}
use Rattle.pager_model.proofs.SpaceEntries.{base-unnamed}
use Rattle.space_tests.proofs.SpareFrames.{allowed_same, kept_others, popped, rest_spare, still_spare}
use Rattle.space_tests.proofs.tests.space.serve.Goals as goal

pub map_page-requires-clause-known : goal.map_page-requires-clause-known
map_page-requires-clause-known g c κs =
    let last = popped _ _ _ c.requires.spare.lowest c.in-Some.ensures.items in
    omega (arith, last, c.requires.spare.few, ap (λ (k : Kept). k.frames) c.in-NeedsFrame.ensures.begins.same)

pub map_page-requires-clause-other : goal.map_page-requires-clause-other
map_page-requires-clause-other g c κs p has =
    let last = popped _ _ _ c.requires.spare.lowest c.in-Some.ensures.items in
    let was = ap (λ (k : Kept). frame_at k p) (sym c.in-NeedsFrame.ensures.begins.same) ∙ has in
    omega (arith, last, c.requires.spare.apart p _ was)

pub finish-requires-clause-allowed : goal.finish-requires-clause-allowed
finish-requires-clause-allowed g c κs =
    let call = c.args.call.now in
    allowed_same c.map_page.new.self c.read_in.new.self call c.in-Ok.ensures.read.same.same
    ∙ allowed_same c.begin.new.self c.map_page.new.self call c.map_page.ensures.same ∙ ap (λ (k : Kept). is_allowed k call) c.in-NeedsFrame.ensures.begins.same
    ∙ c.in-NeedsFrame.ensures.begins.needs.allowed

pub returns-in-Answered-clause-spare : goal.returns-in-Answered-clause-spare
returns-in-Answered-clause-spare g c =
    let spare = c.requires.spare in
    let answered = c.in-Answered.ensures.begins in
    let stands = answered.answers.stands spare.state spare.stands 0 in
    still_spare _ _ _ _ answered.resting stands answered.same_frames answered.same_processors
    (λ p number has. sym (spare.stands.base p) ∙ sym (base-unnamed spare.state.base c.args.call.now p) ∙ stands.base p ∙ has) spare

pub returns-in-Ok-clause-spare : goal.returns-in-Ok-clause-spare
returns-in-Ok-clause-spare g c =
    let spare = c.requires.spare in
    let last = popped _ _ _ spare.lowest c.in-Some.ensures.items in
    let begun = c.in-NeedsFrame.ensures.begins.same in
    let stands : StandsFor c.begin.new.self spare.state = rw begun spare.stands in
    let placed = c.map_page.ensures.stands spare.state 0 c.in-NeedsFrame.want stands in
    let read = c.in-Ok.ensures.read in
    let same : (p : ℕ) → frame_at c.finish.new.self p ≡ frame_at c.map_page.new.self p = λ p. c.finish.ensures.same.frame p
    ∙ read.same.frame p in
    record {
      resting = c.finish.ensures.resting;
      processors = omega (
        arith,
        spare.processors,
        c.finish.ensures.same.same.processors,
        read.same.same.processors,
        c.map_page.ensures.same.processors,
        ap (λ (k : Kept). length k.images) begun,
      );
      state = _;
      stands = c.finish.ensures.answers.stands _ (read.stands _ placed) 0;
      lowest = last.lowest;
      few = omega (
        arith,
        last,
        spare.few,
        c.finish.ensures.same.same.frames,
        read.same.same.frames,
        c.map_page.ensures.same.frames,
        ap (λ (k : Kept). k.frames) begun,
      );
      apart = λ p number has. elim (cases_eq p c.in-NeedsFrame.page) [
        | inl e ↦ omega (arith, last, same_Some _ _ (sym (same p ∙ ap (frame_at c.map_page.new.self) e ∙ c.map_page.ensures.resident) ∙ has))
        | inr n ↦ omega (
          arith,
          last,
          spare.apart p number
              (sym (same p ∙ c.map_page.ensures.same_others p n ∙ ap (λ (k : Kept). frame_at k p) begun) ∙ has),
        )
      ];
    }

pub returns-in-Err-clause-spare : goal.returns-in-Err-clause-spare
returns-in-Err-clause-spare g c =
    let spare = c.requires.spare in
    let last = popped _ _ _ spare.lowest c.in-Some.ensures.items in
    let begun = c.in-NeedsFrame.ensures.begins.same in
    let stands : StandsFor c.begin.new.self spare.state = rw begun spare.stands in
    let placed = c.map_page.ensures.stands spare.state 0 c.in-NeedsFrame.want stands in
    let failed = c.in-Err.ensures.failed in
    let gave = c.remove.ensures.gave in
    still_spare c.args.space.now _ _ _ c.remove.ensures.resting (c.remove.ensures.stands _ (failed.stands _ placed 0) 0)
    (gave.same.frames ∙ failed.same.same.frames ∙ c.map_page.ensures.same.frames ∙ ap (λ (k : Kept). k.frames) begun)
    (gave.same.processors ∙ failed.same.same.processors ∙ c.map_page.ensures.same.processors ∙ ap (λ (k : Kept). length k.images) begun)
    (λ p number has. elim (cases_eq p c.in-NeedsFrame.page) [
      | inl e ↦ absurd (none-some number (sym gave.gone ∙ ap (frame_at c.remove.new.self) (sym e) ∙ has))
      | inr n ↦ sym (gave.same_others p n ∙ failed.same.frame p ∙ c.map_page.ensures.same_others p n ∙ ap (λ (k : Kept). frame_at k p) begun)
          ∙ has
    ])
    (rest_spare _ _ _ _ last spare)

pub returns-in-NeedsEvict-clause-spare : goal.returns-in-NeedsEvict-clause-spare
returns-in-NeedsEvict-clause-spare g c =
    let spare = c.requires.spare in
    let begun = c.in-NeedsEvict.ensures.begins in
    let evicted = c.evict-frame.ensures in
    still_spare c.args.space.now _ _ _ evicted.resting (evicted.stands _ (begun.stands spare.state spare.stands) 0 0)
    (evicted.gave.same.frames ∙ begun.same.same.frames) (evicted.gave.same.processors ∙ begun.same.same.processors)
    (λ p number has. sym (begun.same.frame p) ∙ kept_others _ _ _ _ evicted.gave p number has)
    spare

pub returns-in-Failed-clause-spare : goal.returns-in-Failed-clause-spare
returns-in-Failed-clause-spare g c =
    let spare = c.requires.spare in
    let fails = c.in-Failed.ensures.begins.fails in
    still_spare _ _ _ _ fails.resting (fails.stands spare.state spare.stands 0) fails.same.same.frames fails.same.same.processors
    (λ p number has. sym (fails.same.frame p) ∙ has) spare

pub clear-gave-requires-clause-none_pending : goal.clear-gave-requires-clause-none_pending
clear-gave-requires-clause-none_pending g c =
    ap (λ (k : Kept). k.pending) c.in-NeedsClear.ensures.begins.same ∙ c.requires.spare.resting.none_pending

pub discard-requires-clause-none_pending : goal.discard-requires-clause-none_pending
discard-requires-clause-none_pending g c κs =
    c.clear-gave.ensures.same_pending ∙ ap (λ (k : Kept). k.pending) c.in-NeedsClear.ensures.begins.same ∙ c.requires.spare.resting.none_pending

pub discard-requires-clause-none_paged : goal.discard-requires-clause-none_paged
discard-requires-clause-none_paged g c κs =
    c.clear-gave.ensures.same_paged ∙ ap (λ (k : Kept). k.paged) c.in-NeedsClear.ensures.begins.same ∙ c.requires.spare.resting.none_paged

pub discard-requires-clause-no_other : goal.discard-requires-clause-no_other
discard-requires-clause-no_other g c κs r at = same_Some _ _ (sym at ∙ c.clear-gave.ensures.clearing)

pub returns-in-Discard-clause-spare : goal.returns-in-Discard-clause-spare
returns-in-Discard-clause-spare g c =
    let spare = c.requires.spare in
    let begun = c.in-NeedsClear.ensures.begins.same in
    let cleared = c.clear-gave.ensures in
    let first = c.in-NeedsClear.first in
    let len = c.in-NeedsClear.length in
    let stands : StandsBut first len c.begin.new.self spare.state =
    rw begun (StandsBut-rest c.args.space.now spare.state first len spare.resting spare.stands) in
    still_spare c.args.space.now _ _ _ c.discard.ensures.resting (c.discard.ensures.stands _ (cleared.stands spare.state 0 stands) 0 0)
    (c.discard.ensures.same.same.frames ∙ cleared.same.frames ∙ ap (λ (k : Kept). k.frames) begun)
    (c.discard.ensures.same.same.processors ∙ cleared.same.processors ∙ ap (λ (k : Kept). length k.images) begun)
    (λ p number has. sym (ap (λ (k : Kept). frame_at k p) begun) ∙ cleared.frames p number (sym (c.discard.ensures.same.frame p) ∙ has)) spare

pub returns-in-NeedsPin-clause-spare : goal.returns-in-NeedsPin-clause-spare
returns-in-NeedsPin-clause-spare g c =
    let spare = c.requires.spare in
    let begun = c.in-NeedsPin.ensures.begins.same in
    let stands : StandsFor c.begin.new.self spare.state = rw begun spare.stands in
    still_spare c.args.space.now _ _ _ c.pin.ensures.resting (c.pin.ensures.stands _ stands 0 0)
    (c.pin.ensures.same_frames ∙ ap (λ (k : Kept). k.frames) begun)
    (c.pin.ensures.same_processors ∙ ap (λ (k : Kept). length k.images) begun)
    (λ p number has. sym (c.pin.ensures.frame p ∙ ap (λ (k : Kept). frame_at k p) begun) ∙ has) spare
