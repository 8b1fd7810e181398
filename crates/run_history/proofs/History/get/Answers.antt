use Rattle.std.proofs.Common.{◌≡◌, ◌-◌, ◌≤◌, ◌<◌, Some, get_or, length, ap, ◌∙◌, sym, arith}
use Rattle.std.specs.List.{slice_get}
use Rattle.run_history.specs.Briefs.{entry_of}
use Rattle.run_history.specs.Kept.{Kept}
use Rattle.run_history.proofs.KeptEntries.{item_at, item_past}
use Rattle.run_history.proofs.History.get.Goals as goal

pub returns-in_err-brief : goal.returns-in_err-brief
returns-in_err-brief c =
    let h = c.self.inside in
    let beyond : length h.listed.items ≤ c.args.place = omega arith in
    let past : length h.briefs.items ≤ c.args.place - length h.listed.items = omega (arith, c.in_err-brief.ensures.lookup) in
    c.from_residual.ensures
    ∙ sym (ap (λ (k : Kept). slice_get k.items c.args.place) (sym c.self.view_is)
    ∙ item_past h.listed.items h.whole.items h.briefs.items c.args.place past beyond)

pub returns : goal.returns
returns c =
    let h = c.self.inside in
    let b = c.in_ok-brief.brief.now in
    let beyond : length h.listed.items ≤ c.args.place = omega arith in
    let n : c.len-2.result ≡ length h.listed.items = omega arith in
    let within : c.args.place - length h.listed.items < length h.briefs.items = omega (arith, c.in_ok-brief.ensures.lookup) in
    let is : b ≡ get_or h.briefs.items (c.args.place - length h.listed.items) b =
    rw (n, c.deref-2.ensures.value) at c.in_ok-brief.ensures.lookup.1 in
    sym (ap (λ (k : Kept). slice_get k.items c.args.place) (sym c.self.view_is)
    ∙ item_at h.listed.items h.whole.items h.briefs.items c.args.place b beyond within is
    ∙ ap (λ e. Some (record { number = c.args.place; entry = e })) (sym (c.entry.ensures ∙ ap (λ w. entry_of w b) c.deref-3.ensures.value)))
