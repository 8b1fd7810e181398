use Rattle.std.proofs.Common.{◌≡◌, get_or, None, sym, ◌∙◌, arith}
use Rattle.std.proofs.lemmas.Grind.{common_steps}
use Rattle.pager_model.proofs.Options.{IfSome-from}
use Rattle.used_frames.specs.Noted.{Claims}
use Rattle.used_frames.proofs.NoteChanges.{claim_listed, listed_claim, if_none}
use Rattle.used_frames.proofs.UsedFrames.claimed_by.Goals as goal

read : (c : goal.After-flatten) → c.flatten.result ≡ get_or c.self.inside.claims.items c.args.processor None
read c = grind (arith, common_steps)

pub returns-clause-found : goal.returns-clause-found
returns-clause-found c =
    IfSome-from c.flatten.result (Claims c.args.self.now c.args.processor)
    (λ frame is. rw (← c.self.view_is) (listed_claim _ _ c.self.invariant frame c.args.processor (sym (read c) ∙ is)))

pub returns-clause-none : goal.returns-clause-none
returns-clause-none c =
    if_none c.flatten.result
    (λ none frame claims. let listed = claim_listed _ _ c.self.invariant frame c.args.processor (rw (← c.self.view_is) at claims) in
    let is = read c in cc)
