use Rattle.std.proofs.Common.{◌≡◌, ℕ, ◌<◌, refl, ap, sym, subst, ◌∙◌, arith}
use Rattle.pager_model.specs.declared.entry.Want.{Want}
use Rattle.pager_model.specs.FrameStates.{frame_of, IsFull}
use Rattle.pager_model.specs.SpaceStates.{SpaceState}
use Rattle.space_core.specs.Beginning.{Places}
use Rattle.space_core.specs.Standing.{Kept}
use Rattle.flight_core.specs.declared.flight.Flight.{Flight}
use Rattle.flight_core.specs.declared.flight.Phase.TheVariants.{Frame}
use Rattle.flight_core.specs.Flights.{IsFor, IsReady, PhaseStands, WantsFrame}
use Rattle.flight_core.specs.Rows.{call_in, own_space, row_in}
use Rattle.flight_core.specs.Steps.{AreAgreed, Makes}
use Rattle.flight_core.proofs.Purposes.{of_call-kind}
use Rattle.flight_core.proofs.TakenFrames.{unused_elsewhere, own_wanting, frame_taken}
use Rattle.flight_core.proofs.flight.Flight.take.Goals as goal

-- what its phase says of the page
wants : (f : Flight) (page : ℕ) (want : Want) (kept : Kept) (st : SpaceState) → f.phase ≡ Frame page want → IsReady f kept st
    → WantsFrame (call_in f.purpose) kept page want
wants f page want kept st is ready = subst (PhaseStands (call_in f.purpose) kept) is ready.found

pub map_page-requires-clause-other : goal.map_page-requires-clause-other
map_page-requires-clause-other g c κs within =
    unused_elsewhere c.args.space.now c.args.pool.now c.in-Ok.taken.number c.requires.agree c.in-Ok.ensures.unused.1

pub returns-in-Ok-clause-entry : goal.returns-in-Ok-clause-entry
returns-in-Ok-clause-entry g c =
    let taken = c.in-Ok.ensures.taken in
    let ready = c.requires.ready in
    let own = own_wanting c.args.self.now c.args.page c.args.want c.args.space.now ready.0 c.requires.phase ready.1 in
    λ st. rw c.entry.ensures
    (frame_taken c.args.self.now (record {
      number = c.number-frame.result;
      space = c.number-own.result;
      page = c.args.page;
      want = c.args.want;
    })
    (record {
      space = c.args.space.now;
      frames = c.args.pool.now;
    })
    (record {
      space = c.map_page.new.self;
      frames = c.take.new.self;
    }) c.requires.phase (c.number-own.ensures.number ∙ sym own) c.requires.agree c.requires.owns (record {
      taking = taken.0;
      takes = taken.1;
      number_is = c.number-frame.ensures ∙ taken.3;
      after_is = taken.2;
      places = subst (Places c.args.space.now c.map_page.new.self c.args.page) taken.3 c.map_page.ensures;
    }) st)

pub returns-in-Err-clause-entry : goal.returns-in-Err-clause-entry
returns-in-Err-clause-entry g c =
    let same = c.in-Err.ensures.full.1 in
    λ st ready. subst (λ pool. Makes c.args.self.now c.claim.new.self c.args.space.now c.args.space.now st pool c.claim.new.pool c.claim.result) same
    (c.claim.ensures.entry c.args.space.now st ready (subst (AreAgreed c.args.space.now) (sym same) c.requires.agree))

pub claim-requires-clause-full : goal.claim-requires-clause-full
claim-requires-clause-full g c = subst IsFull (sym c.in-Err.ensures.full.1) c.in-Err.ensures.full.0

pub claim-requires-clause-of_call : goal.claim-requires-clause-of_call
claim-requires-clause-of_call g c =
    let ready = c.requires.ready in of_call-kind c.args.self.now.purpose (Frame c.args.page c.args.want) refl
    (subst (IsFor c.args.self.now.purpose) c.requires.phase ready.1.fits.kind)

pub take-requires-clause-unplaced : goal.take-requires-clause-unplaced
take-requires-clause-unplaced g c =
    let ready = c.requires.ready in ap (λ s. frame_of c.args.pool.now s c.args.page) c.number-own.ensures.number
    ∙ sym (c.requires.agree.pages c.args.page) ∙ (wants c.args.self.now c.args.page c.args.want c.args.space.now ready.0 c.requires.phase ready.1).lacks.absent

pub take-requires-clause-wanted : goal.take-requires-clause-wanted
take-requires-clause-wanted g c =
    let ready = c.requires.ready in (wants c.args.self.now c.args.page c.args.want c.args.space.now ready.0 c.requires.phase ready.1).for_page

pub map_page-requires-clause-absent : goal.map_page-requires-clause-absent
map_page-requires-clause-absent g c κs within =
    let ready = c.requires.ready in (wants c.args.self.now c.args.page c.args.want c.args.space.now ready.0 c.requires.phase ready.1).lacks.absent

pub map_page-requires-clause-page : goal.map_page-requires-clause-page
map_page-requires-clause-page g c κs within =
    let ready = c.requires.ready in (wants c.args.self.now c.args.page c.args.want c.args.space.now ready.0 c.requires.phase ready.1).lacks.lawful.in_space

pub map_page-requires-clause-resting : goal.map_page-requires-clause-resting
map_page-requires-clause-resting g c κs within =
    let ready = c.requires.ready in (wants c.args.self.now c.args.page c.args.want c.args.space.now ready.0 c.requires.phase ready.1).lacks.resting

pub returns-in-Ok-clause-nearer : goal.returns-in-Ok-clause-nearer
returns-in-Ok-clause-nearer g c =
    let f = c.args.self.now in
    subst (λ p. 3 < (row_in f.processor f.number (own_space f.purpose) f.purpose p).steps) (sym c.requires.phase) (omega arith)
