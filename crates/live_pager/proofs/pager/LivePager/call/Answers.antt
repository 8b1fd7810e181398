use Rattle.std.proofs.Common.{refl, ap, sym, ◌∙◌, ◌-◌}
use Rattle.flight_core.specs.declared.counted.Counted.{Counted}
use Rattle.live_pager.proofs.Pagers.{answers, call_in, counted, demoted, evicted, preempted, promoted, stands, tells}
use Rattle.live_pager.proofs.pager.LivePager.call.Goals as goal

pub unreachable-requires : goal.unreachable-requires
unreachable-requires g c = answers c.self.inside.stream c.make.new.self c.args.self.now c.args.line c.self.view_is c.self.invariant.was
    c.requires.line c.requires.few c.make.ensures.alone (sym c.last.ensures ∙ c.in_default.is)

pub summary-self-inside-requires-after_bounds : goal.summary-self-inside-requires-after_bounds
summary-self-inside-requires-after_bounds g c κs within = stands c.self.inside.stream c.make.new.self c.args.self.now c.args.line c.self.view_is
    c.self.invariant.was c.requires.line c.requires.few c.make.ensures.alone

pub frame_told-requires-after_bounds : goal.frame_told-requires-after_bounds
frame_told-requires-after_bounds g c κs within = call_in c.self.inside.stream c.make.new.self c.args.self.now c.args.line c.self.view_is
    c.self.invariant.was c.requires.line c.requires.few c.make.ensures.alone

pub overflow_sub-result : goal.overflow_sub-result
overflow_sub-result g c = promoted c.self.inside.stream c.make.new.self c.args.self.now c.args.line c.self.view_is c.self.invariant.was
    c.requires.line c.requires.few c.make.ensures.alone c.self.inside.counts c.summary-self-inside.result c.self.invariant.counts_are
    c.summary-self-inside.ensures

pub overflow_sub-result-2 : goal.overflow_sub-result-2
overflow_sub-result-2 g c = demoted c.self.inside.stream c.make.new.self c.args.self.now c.args.line c.self.view_is c.self.invariant.was
    c.requires.line c.requires.few c.make.ensures.alone c.self.inside.counts c.summary-self-inside.result c.self.invariant.counts_are
    c.summary-self-inside.ensures

pub overflow_sub-result-3 : goal.overflow_sub-result-3
overflow_sub-result-3 g c = preempted c.self.inside.stream c.make.new.self c.args.self.now c.args.line c.self.view_is c.self.invariant.was
    c.requires.line c.requires.few c.make.ensures.alone c.self.inside.counts c.summary-self-inside.result c.self.invariant.counts_are
    c.summary-self-inside.ensures

pub overflow_sub-result-4 : goal.overflow_sub-result-4
overflow_sub-result-4 g c =
    let more = evicted c.self.inside.stream c.make.new.self c.args.self.now c.args.line c.self.view_is c.self.invariant.was
    c.requires.line c.requires.few c.make.ensures.alone in
    rw (c.counted-evicted.ensures, c.counted.ensures) more

pub invariant_of-self : goal.invariant_of-self
invariant_of-self g c = counted c.self.inside.stream c.make.new.self c.args.self.now c.args.line c.self.view_is c.self.invariant.was
    c.requires.line c.requires.few c.make.ensures.alone c.self.inside.counts c.summary-self-inside.result c.self.invariant.counts_are
    c.summary-self-inside.ensures

pub returns : goal.returns
returns g c = tells c.self.inside.stream c.make.new.self c.args.self.now c.args.line c.self.view_is c.self.invariant.was
    c.requires.line c.requires.few c.make.ensures.alone c.self.inside.counts c.summary-self-inside.result c.self.invariant.counts_are
    c.summary-self-inside.ensures _ (sym c.last.ensures ∙ c.in-Some.is) c.frame_told.ensures refl refl refl
    (λ i. ap (λ (k : Counted). k.evictions) c.counted.ensures i - ap (λ (k : Counted). k.evictions) c.counted-evicted.ensures i)
