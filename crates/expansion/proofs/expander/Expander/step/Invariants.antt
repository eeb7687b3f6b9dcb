use Rattle.std.proofs.Common.{◌-◌}
use Rattle.expansion.specs.Steps.{Stepped}
use Rattle.expansion.proofs.expander.Expander.step.Given as goal

abbrev pub invariant-loop-answer : goal.invariant-loop-answer
invariant-loop-answer g l = Stepped g.F.Book.defs l.initial.self l.self

abbrev pub decreases-loop-answer : goal.decreases-loop-answer
decreases-loop-answer g l = l.self.meter.now.budget - l.self.meter.now.moves
