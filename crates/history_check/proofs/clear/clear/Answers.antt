use Rattle.std.proofs.Common.{option_map, sym, ap, subst, ◌∙◌, arith}
use Rattle.pager_model.specs.declared.tile.Mapping.{Mapping}
use Rattle.pager_model.specs.FrameStates.{counted, frame_of, give_page}
use Rattle.followed_frames.specs.Ready.{IsReached}
use Rattle.history_check.proofs.ClearedRange.{given-all, given-entries, given-left, given-next, given-sound}
use Rattle.history_check.proofs.clear.clear.Goals as goal

pub give-requires-clause-reached : goal.give-requires-clause-reached
give-requires-clause-reached c =
    let now = c.loop-page.invariant in
    let reached = c.requires.reached in
    subst IsReached (sym now.given)
    (record {
      frames = reached.frames;
      processors = reached.processors;
      sound =
          given-sound c.args.number c.args.frames.now c.args.first c.loop-page.from now.after reached.frames reached.processors reached.sound;
    })

pub give-requires-clause-place : goal.give-requires-clause-place
give-requires-clause-place c =
    let now = c.loop-page.invariant in
    let reached = c.requires.reached in
    ap (λ st. frame_of st c.args.number c.in-Some.page) now.given
    ∙ given-left c.args.number c.args.frames.now c.args.first c.loop-page.from now.after reached.frames reached.processors reached.sound
    c.in-Some.page c.in-Some.ensures.some.from_on
    ∙ sym (c.requires.agrees c.in-Some.page)
    ∙ sym c.frame_of.ensures ∙ c.in-Some-frame_of.is

pub loop-page-preserved : goal.loop-page-preserved
loop-page-preserved c =
    let now = c.loop-page.invariant in
    let reached = c.requires.reached in
    let next = c.in-Some.ensures.some in
    let left = given-left c.args.number c.args.frames.now c.args.first c.loop-page.from now.after reached.frames reached.processors reached.sound in
    record {
      after = omega (arith, now.after, next.from_on);
      within = omega (arith, next.before_end);
      given =
          c.give.ensures ∙ ap (λ st. give_page st c.args.number c.in-Some.page) now.given
          ∙ given-next c.args.number c.args.frames.now c.args.first c.loop-page.from now.after c.in-Some.page c.in-Some-frame_of.frame
          next.from_on
          (λ p low high. left p low ∙ sym (c.requires.agrees p) ∙ ap (option_map (λ (m : Mapping). m.frame)) (next.lowest p low high))
          (left c.in-Some.page next.from_on ∙ sym (c.requires.agrees c.in-Some.page) ∙ sym c.frame_of.ensures ∙ c.in-Some-frame_of.is);
    }

pub end_entry-requires : goal.end_entry-requires
end_entry-requires c =
    let now = c.loop-page.invariant in
    let same = given-entries c.args.number c.args.frames.now c.args.first c.loop-page.from now.after in
    let given = ap (λ st. st.entries) now.given in
    omega (arith, same, given, c.requires.room)

pub returns : goal.returns
returns c =
    let now = c.loop-page.invariant in
    let reached = c.requires.reached in
    let left = given-left c.args.number c.args.frames.now c.args.first c.loop-page.from now.after reached.frames reached.processors reached.sound in
    c.end_entry.ensures
    ∙ ap counted (now.given ∙ given-all c.args.number c.args.frames.now c.args.first c.loop-page.from now.after c.args.length now.within
    (λ p low high.
    left p low ∙ sym (c.requires.agrees p) ∙ ap (option_map (λ (m : Mapping). m.frame)) (c.in_default.ensures.none p low high)))
