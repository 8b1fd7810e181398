use Rattle.std.proofs.Common.{sym, ◌∙◌}
use Rattle.run_tests.proofs.Passes.{may_make_calls, may_turn, may_turn_again}
use Rattle.run_tests.proofs.tests.daemon.turn_twice.Goals as goal

pub use_all_frames-requires-clause-pass : goal.use_all_frames-requires-clause-pass
use_all_frames-requires-clause-pass g c =
    may_make_calls g.N.Named.journal c.pop.new.self.items c.pop-2.new.self.items c.in-Some-pop.caller c.in-Some.daemon c.requires.marks
    (sym (c.open-pager.ensures.passes ∙ c.requires.passes) ∙ c.in-Some.ensures.items) c.in-Some-pop.ensures.items

pub turn-daemon-requires-clause-pass : goal.turn-daemon-requires-clause-pass
turn-daemon-requires-clause-pass g c κs within =
    may_turn g.N.Named.journal c.pop.new.self.items c.pop-2.new.self.items c.in-Some-pop.caller c.in-Some.daemon c.requires.marks
    (sym (c.open-pager.ensures.passes ∙ c.requires.passes) ∙ c.in-Some.ensures.items) c.in-Some-pop.ensures.items

pub turn-requires-clause-pass : goal.turn-requires-clause-pass
turn-requires-clause-pass g c κs within =
    may_turn_again g.N.Named.journal c.pop.new.self.items c.pop-2.new.self.items c.in-Some-pop.caller c.in-Some.daemon c.requires.marks
    (sym (c.open-pager.ensures.passes ∙ c.requires.passes) ∙ c.in-Some.ensures.items) c.in-Some-pop.ensures.items _ c.turn-daemon.ensures.turn
