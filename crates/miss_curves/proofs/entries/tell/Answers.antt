use Rattle.std.proofs.Common.{subst}
use Rattle.followed_space.specs.Changed.{IsChange}
use Rattle.miss_curves.specs.Histories.{effect}
use Rattle.miss_curves.proofs.ToldEntries.{tells_same}
use Rattle.miss_curves.proofs.entries.tell.Goals as goal

pub returns-in-Nothing-clause-stands : goal.returns-in-Nothing-clause-stands
returns-in-Nothing-clause-stands c = λ g history old changed told stands.
    let new = c.args.space.now.pages in
    let same = subst (IsChange old new) c.in-Nothing.is changed in
    c.follow_same.ensures.stands g history
    (tells_same g history (effect c.args.entry.now old new c.args.uses.now) same told) stands

pub returns-in-Page-clause-stands : goal.returns-in-Page-clause-stands
returns-in-Page-clause-stands c = λ g history old changed told stands.
    let page = subst (IsChange old c.args.space.now.pages) c.in-Page.is changed in
    c.tell_page.ensures.stands g history old page.0 page.1 told stands

pub returns-in-Range-clause-stands : goal.returns-in-Range-clause-stands
returns-in-Range-clause-stands c = λ g history old changed told stands.
    let range = subst (IsChange old c.args.space.now.pages) c.in-Range.is changed in
    c.tell_range.ensures.stands g history old range.1 told stands
