use Rattle.std.proofs.lemmas.Option.{IfSome_then}
use Rattle.used_frames.proofs.AgedNotes.{IsLeast-oldest, none_evictable, none_then}
use Rattle.used_frames.proofs.notes.Notes.victim.Goals as goal

pub returns-clause-found : goal.returns-clause-found
returns-clause-found c =
    rw (← c.self.view_is)
    (IfSome_then c.first.result c.first.ensures.found (λ frame oldest.
    IsLeast-oldest c.self.inside.places.items c.self.inside.ages frame c.self.invariant.1 oldest))

pub returns-clause-none : goal.returns-clause-none
returns-clause-none c =
    rw (← c.self.view_is)
    (none_then c.first.result c.first.ensures.none (λ none.
    none_evictable c.self.inside.places.items c.self.inside.ages c.self.invariant.1 none))
