use Rattle.std.proofs.Common.{◌≡◌, ◌-◌, ◌≤◌, ◌<◌, get_or, length, ap, ◌∙◌, sym, arith}
use Rattle.std.specs.List.{slice_get}
use Rattle.std.specs.Option.{option_and_then}
use Rattle.run_history.specs.Answers.{answer_by, answer_of}
use Rattle.run_history.specs.Briefs.{entry_of}
use Rattle.run_history.specs.Kept.{Kept}
use Rattle.run_history.proofs.KeptEntries.{item_at, item_past}
use Rattle.run_history.proofs.History.answer_by.Goals as goal

pub returns-in_err-brief : goal.returns-in_err-brief
returns-in_err-brief c =
    let h = c.self.inside in
    let beyond : length h.listed.items ≤ c.args.place = omega arith in
    let past : length h.briefs.items ≤ c.args.place - length h.listed.items = omega (arith, c.in_err-brief.ensures.lookup) in
    c.from_residual.ensures
    ∙ sym (ap (option_and_then (answer_by c.args.processor)) (ap (λ (k : Kept). slice_get k.items c.args.place) (sym c.self.view_is)
    ∙ item_past h.listed.items h.whole.items h.briefs.items c.args.place past beyond))

pub returns : goal.returns
returns c =
    let h = c.self.inside in
    let b = c.in_ok-brief.brief.now in
    let beyond : length h.listed.items ≤ c.args.place = omega arith in
    let n : c.len-2.result ≡ length h.listed.items = omega arith in
    let within : c.args.place - length h.listed.items < length h.briefs.items = omega (arith, c.in_ok-brief.ensures.lookup) in
    let is : b ≡ get_or h.briefs.items (c.args.place - length h.listed.items) b =
    rw (n, c.deref.ensures.value) at c.in_ok-brief.ensures.lookup.1 in
    c.answer_by-2.ensures
    ∙ ap (λ w. answer_of c.args.processor (entry_of w b)) c.deref-2.ensures.value
    ∙ sym (ap (option_and_then (answer_by c.args.processor)) (ap (λ (k : Kept). slice_get k.items c.args.place) (sym c.self.view_is)
    ∙ item_at h.listed.items h.whole.items h.briefs.items c.args.place b beyond within is))
