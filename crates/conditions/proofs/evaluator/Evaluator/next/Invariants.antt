use Rattle.conditions.specs.Looks.{remains, Looked}
use Rattle.conditions.proofs.evaluator.Evaluator.next.Given as goal

abbrev pub invariant-loop-x : goal.invariant-loop-x
invariant-loop-x g l = Looked g.F.Book.defs l.initial.self l.self

abbrev pub decreases-loop-x : goal.decreases-loop-x
decreases-loop-x g l = remains l.self
