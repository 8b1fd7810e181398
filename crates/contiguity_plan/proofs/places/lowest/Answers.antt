use Rattle.std.proofs.Common.{IsSome, sym, ◌∙◌, subst}
use Rattle.contiguity_plan.proofs.PlaceLemmas.{place_in-is, IfSome-mapped, IfNone-mapped}
use Rattle.contiguity_plan.proofs.places.lowest.Goals as goal

pub returns-clause-some : goal.returns-clause-some
returns-clause-some c =
    IfSome-mapped c.first_in.result _ _
    (λ page some. subst IsSome
    (sym (place_in-is c.args.places.now c.args.space page c.index-places-space.result c.requires c.index-places-space.is)) some)
    c.first_in.ensures.some

pub returns-clause-lowest : goal.returns-clause-lowest
returns-clause-lowest c =
    IfSome-mapped c.first_in.result _ _
    (λ page lowest p below within. place_in-is c.args.places.now c.args.space p c.index-places-space.result c.requires c.index-places-space.is ∙ lowest p below within)
    c.first_in.ensures.lowest

pub returns-clause-none : goal.returns-clause-none
returns-clause-none c =
    IfNone-mapped c.first_in.result _ _
    (λ none p within. place_in-is c.args.places.now c.args.space p c.index-places-space.result c.requires c.index-places-space.is
    ∙ none p within)
    c.first_in.ensures.none
