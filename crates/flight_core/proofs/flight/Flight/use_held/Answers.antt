use Rattle.std.proofs.Common.{◌<◌, ◌∙◌, Some, subst, sym, ap}
use Rattle.space_core.specs.Beginning.{Places}
use Rattle.flight_core.proofs.HeldFrames.{wants_still, taken_known, taken_elsewhere, held_used}
use Rattle.flight_core.proofs.flight.Flight.use_held.Goals as goal

pub map_page-requires-clause-known : goal.map_page-requires-clause-known
map_page-requires-clause-known g c κs within =
    let taken = c.use_held-taken.ensures in
    let phase = c.requires.phase in
    let ready = c.requires.ready in
    let wants = wants_still c.args.self.now c.args.page c.args.want phase.0 c.args.space.now ready.0 phase.1 ready.1 in
    subst (λ n. n < c.args.space.now.frames) (sym taken.3)
    (taken_known c.args.space.now c.args.pool.now c.args.self.now.processor c.args.page taken.0
    (record {
      space = c.number-own.result;
      want = c.args.want;
      agree = c.requires.agree;
      on = c.number-own.ensures.number;
      absent = wants.1.lacks.absent;
      takes = taken.1;
    }))

pub map_page-requires-clause-other : goal.map_page-requires-clause-other
map_page-requires-clause-other g c κs within = λ p is.
    let taken = c.use_held-taken.ensures in
    let phase = c.requires.phase in
    let ready = c.requires.ready in
    let wants = wants_still c.args.self.now c.args.page c.args.want phase.0 c.args.space.now ready.0 phase.1 ready.1 in
    taken_elsewhere c.args.space.now c.args.pool.now c.args.self.now.processor c.args.page taken.0
    (record {
      space = c.number-own.result;
      want = c.args.want;
      agree = c.requires.agree;
      on = c.number-own.ensures.number;
      absent = wants.1.lacks.absent;
      takes = taken.1;
    }) p (is ∙ ap Some taken.3)

pub returns-clause-entry : goal.returns-clause-entry
returns-clause-entry g c =
    let taken = c.use_held-taken.ensures in
    let phase = c.requires.phase in
    let ready = c.requires.ready in
    let wants = wants_still c.args.self.now c.args.page c.args.want phase.0 c.args.space.now ready.0 phase.1 ready.1 in
    λ st. rw c.entry.ensures
    (held_used c.args.self.now (record {
      number = c.number-frame.result;
      space = c.number-own.result;
      page = c.args.page;
      want = c.args.want;
    })
    (record {
      space = c.args.space.now;
      frames = c.args.pool.now;
    })
    (record {
      space = c.map_page.new.self;
      frames = c.use_held-taken.new.self;
    }) phase (c.number-own.ensures.number ∙ sym wants.0) c.requires.agree c.requires.owns (record {
      taking = taken.0;
      takes = taken.1;
      number_is = c.number-frame.ensures ∙ taken.3;
      after_is = taken.2;
      places = subst (Places c.args.space.now c.map_page.new.self c.args.page) taken.3 c.map_page.ensures;
    }) st)
