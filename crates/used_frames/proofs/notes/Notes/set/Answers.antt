use Rattle.std.proofs.Common.{◌<◌, length, is_some, None, option_map, set, ap, ◌∙◌, arith}
use Rattle.std.proofs.lemmas.List.{length-set}
use Rattle.pager_model.specs.FrameStates.{is_wired_place, is_claimed_place}
use Rattle.least_ages.specs.Trees.{aged_at}
use Rattle.used_frames.proofs.AgedNotes.{AreAged-set}
use Rattle.used_frames.proofs.NoteCounts.{count_by-one-le, count_by-set, count_by-set_fits}
use Rattle.used_frames.proofs.notes.Notes.set.Goals as goal

pub recount-self-inside-requires-clause-counted : goal.recount-self-inside-requires-clause-counted
recount-self-inside-requires-clause-counted c =
    let notes = c.self.inside.places.items in
    rw (c.is_some.ensures, c.get-before.ensures, ← c.self.view_is, ← c.self.invariant.0.used_are)
    (count_by-one-le is_some notes c.args.frame None (rw c.self.view_is c.requires))

pub recount-self-inside-requires-clause-fits : goal.recount-self-inside-requires-clause-fits
recount-self-inside-requires-clause-fits c =
    let notes = c.self.inside.places.items in
    let fits = count_by-set_fits is_some notes c.args.frame c.args.note None (rw c.self.view_is c.requires) c.self.invariant.0.few in
    rw (c.is_some.ensures, c.is_some-2.ensures, c.get-before.ensures, ← c.self.view_is, ← c.self.invariant.0.used_are) fits

pub recount-self-inside-requires-2-clause-counted : goal.recount-self-inside-requires-2-clause-counted
recount-self-inside-requires-2-clause-counted c =
    let notes = c.self.inside.places.items in
    rw (c.is_wired.ensures, c.get-before.ensures, ← c.self.view_is, ← c.self.invariant.0.wired_are)
    (count_by-one-le is_wired_place notes c.args.frame None (rw c.self.view_is c.requires))

pub recount-self-inside-requires-2-clause-fits : goal.recount-self-inside-requires-2-clause-fits
recount-self-inside-requires-2-clause-fits c =
    let notes = c.self.inside.places.items in
    let fits = count_by-set_fits is_wired_place notes c.args.frame c.args.note None (rw c.self.view_is c.requires) c.self.invariant.0.few in
    rw (c.is_wired.ensures, c.is_wired-2.ensures, c.get-before.ensures, ← c.self.view_is, ← c.self.invariant.0.wired_are) fits

pub recount-self-inside-requires-3-clause-counted : goal.recount-self-inside-requires-3-clause-counted
recount-self-inside-requires-3-clause-counted c =
    let notes = c.self.inside.places.items in
    rw (c.is_claimed.ensures, c.get-before.ensures, ← c.self.view_is, ← c.self.invariant.0.claimed_are)
    (count_by-one-le is_claimed_place notes c.args.frame None (rw c.self.view_is c.requires))

pub recount-self-inside-requires-3-clause-fits : goal.recount-self-inside-requires-3-clause-fits
recount-self-inside-requires-3-clause-fits c =
    let notes = c.self.inside.places.items in
    let fits = count_by-set_fits is_claimed_place notes c.args.frame c.args.note None (rw c.self.view_is c.requires) c.self.invariant.0.few in
    rw (c.is_claimed.ensures, c.is_claimed-2.ensures, c.get-before.ensures, ← c.self.view_is, ← c.self.invariant.0.claimed_are) fits

pub invariant_of-self : goal.invariant_of-self
invariant_of-self c =
    let notes = c.self.inside.places.items in
    let frame = c.args.frame in
    let note = c.args.note in
    let was = c.self.invariant.0 in
    let within : frame < length notes = rw c.self.view_is c.requires in
    rw c.of.ensures (
      record {
        few = omega (arith, length-set notes frame note, was.few);
        used_are = count_by-set is_some notes frame note None c.recount-self-inside.result within
            (rw (c.is_some.ensures, c.is_some-2.ensures, c.get-before.ensures, ← c.self.view_is, ← was.used_are)
            at c.recount-self-inside.ensures);
        wired_are = count_by-set is_wired_place notes frame note None c.recount-self-inside-2.result within
            (rw (c.is_wired.ensures, c.is_wired-2.ensures, c.get-before.ensures, ← c.self.view_is, ← was.wired_are)
            at c.recount-self-inside-2.ensures);
        claimed_are = count_by-set is_claimed_place notes frame note None c.recount-self-inside-3.result within
            (rw (c.is_claimed.ensures, c.is_claimed-2.ensures, c.get-before.ensures, ← c.self.view_is, ← was.claimed_are)
            at c.recount-self-inside-3.ensures);
      },
      AreAged-set notes c.self.inside.ages c.set.new.self frame note c.self.invariant.1 within c.set.ensures.count
          (c.set.ensures.set ∙ ap (option_map (aged_at frame)) c.evictable_age.ensures) c.set.ensures.others,
    )

pub returns : goal.returns
returns c =
    ap (λ note. set c.self.inside.places.items c.args.frame note) c.of.ensures
    ∙ ap (λ notes. set notes c.args.frame c.args.note) c.self.view_is
