use Rattle.std.proofs.Common.{◌∙◌, ap, sym, subst, refl, length}
use Rattle.std.proofs.lemmas.Option.{slice_get_read}
use Rattle.flight_core.specs.declared.flight.Needs.TheVariants.{Space, Both}
use Rattle.flight_core.specs.Rows.{space_under}
use Rattle.flight_core.specs.Flying.{in_space, since}
use Rattle.flight_core.specs.Logged.{Stepped}
use Rattle.flight_core.proofs.WholeFlights.{few_frames, within, here, went_in, went_on_frames}
use Rattle.flight_core.proofs.flights.go_on.Goals as goal

pub step_alone-requires-clause-can : goal.step_alone-requires-clause-can
step_alone-requires-clause-can g c κs within' =
    let can = c.requires.can in
    let spaces = c.args.spaces.now.items in
    let under = ap space_under (sym c.needs.ensures ∙ c.in-Space.is) in
    let inside = within can.setting can.history can.before spaces c.args.pool.now c.args.flight.now can.at c.in-Space.space under in
    let there = slice_get_read spaces (length spaces) c.in-Space.space c.index_mut.result.now refl inside c.index_mut.ensures.value in
    record {
      setting = can.setting;
      history = can.history;
      before = can.before;
      stands_for = can.stands_for;
      here = here can.setting can.history can.before spaces c.args.pool.now c.args.flight.now can.at c.in-Space.space under
          c.index_mut.result.now there;
    }

pub step_alone-requires-clause-needs : goal.step_alone-requires-clause-needs
step_alone-requires-clause-needs g c κs within' =
    let can = c.requires.can in
    let spaces = c.args.spaces.now.items in
    let under = ap space_under (sym c.needs.ensures ∙ c.in-Space.is) in
    let inside = within can.setting can.history can.before spaces c.args.pool.now c.args.flight.now can.at c.in-Space.space under in
    let there = slice_get_read spaces (length spaces) c.in-Space.space c.index_mut.result.now refl inside c.index_mut.ensures.value in
    (sym c.needs.ensures ∙ c.in-Space.is) ∙ ap Space (sym (can.at.number c.in-Space.space c.index_mut.result.now there))

pub step_both-requires-clause-can : goal.step_both-requires-clause-can
step_both-requires-clause-can g c κs within' =
    let can = c.requires.can in
    let spaces = c.args.spaces.now.items in
    let under = ap space_under (sym c.needs.ensures ∙ c.in-Both.is) in
    let inside = within can.setting can.history can.before spaces c.args.pool.now c.args.flight.now can.at c.in-Both.space under in
    let there = slice_get_read spaces (length spaces) c.in-Both.space c.index_mut-in-Both.result.now refl inside c.index_mut-in-Both.ensures.value in
    record {
      setting = can.setting;
      history = can.history;
      before = can.before;
      stands_for = can.stands_for;
      here = here can.setting can.history can.before spaces c.args.pool.now c.args.flight.now can.at c.in-Both.space under
          c.index_mut-in-Both.result.now there;
      frames = can.at.frames;
    }

pub step_both-requires-clause-needs : goal.step_both-requires-clause-needs
step_both-requires-clause-needs g c κs within' =
    let can = c.requires.can in
    let spaces = c.args.spaces.now.items in
    let under = ap space_under (sym c.needs.ensures ∙ c.in-Both.is) in
    let inside = within can.setting can.history can.before spaces c.args.pool.now c.args.flight.now can.at c.in-Both.space under in
    let there = slice_get_read spaces (length spaces) c.in-Both.space c.index_mut-in-Both.result.now refl inside c.index_mut-in-Both.ensures.value in
    (sym c.needs.ensures ∙ c.in-Both.is) ∙ ap Both (sym (can.at.number c.in-Both.space c.index_mut-in-Both.result.now there))

pub step_both-requires-clause-few : goal.step_both-requires-clause-few
step_both-requires-clause-few g c κs within' =
    let can = c.requires.can in
    few_frames can.setting can.history can.before c.args.spaces.now.items c.args.pool.now c.args.flight.now can.at

pub step_frames-requires-clause-few : goal.step_frames-requires-clause-few
step_frames-requires-clause-few g c =
    let can = c.requires.can in
    few_frames can.setting can.history can.before c.args.spaces.now.items c.args.pool.now c.args.flight.now can.at

pub returns-in-Space-clause-went : goal.returns-in-Space-clause-went
returns-in-Space-clause-went g c = λ s h before is at.
    let spaces = c.args.spaces.now.items in
    let was = c.index_mut.result.now in
    let under = ap space_under (sym c.needs.ensures ∙ c.in-Space.is) in
    let inside = within s h before spaces c.args.pool.now c.args.flight.now at c.in-Space.space under in
    let there = slice_get_read spaces (length spaces) c.in-Space.space was refl inside c.index_mut.ensures.value in
    let step = c.step_alone.ensures.stepped s h before is
    (here s h before spaces c.args.pool.now c.args.flight.now at c.in-Space.space under was there) in
    went_in s h before spaces c.args.pool.now c.args.flight.now at c.in-Space.space under was there g.L.Log.stands c.step_alone.new.log c.step_alone.result
    c.step_alone.new.flight c.step_alone.new.space c.args.pool.now
    (subst (Stepped g.L.Log.stands (since s h before) c.step_alone.new.log c.step_alone.result (in_space c.args.flight.now was)
    (in_space c.step_alone.new.flight c.step_alone.new.space)) (sym at.frames) step)

pub returns-in-Both-clause-went : goal.returns-in-Both-clause-went
returns-in-Both-clause-went g c = λ s h before is at.
    let spaces = c.args.spaces.now.items in
    let was = c.index_mut-in-Both.result.now in
    let under = ap space_under (sym c.needs.ensures ∙ c.in-Both.is) in
    let inside = within s h before spaces c.args.pool.now c.args.flight.now at c.in-Both.space under in
    let there = slice_get_read spaces (length spaces) c.in-Both.space was refl inside c.index_mut-in-Both.ensures.value in
    let step = c.step_both.ensures.stepped s h before is
    (here s h before spaces c.args.pool.now c.args.flight.now at c.in-Both.space under was there) at.frames in
    went_in s h before spaces c.args.pool.now c.args.flight.now at c.in-Both.space under was there g.L.Log.stands c.step_both.new.log c.step_both.result
    c.step_both.new.flight c.step_both.new.space c.step_both.new.pool step

pub returns-in-Frames-clause-went : goal.returns-in-Frames-clause-went
returns-in-Frames-clause-went g c = λ s h before is at.
    let step = c.step_frames.ensures.stepped s h before is at.legal at.flying at.frames in
    went_on_frames s h before c.args.spaces.now.items c.args.pool.now c.args.flight.now at (sym c.needs.ensures ∙ c.in-Frames.is)
    g.L.Log.stands c.step_frames.new.log c.step_frames.new.flight c.step_frames.new.pool step
