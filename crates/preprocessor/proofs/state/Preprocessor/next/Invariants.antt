use Rattle.std.proofs.Common.{◌≡◌, ◌-◌, ◌≤◌}
use Rattle.preprocessor.specs.Runs.{spent_of}
use Rattle.preprocessor.proofs.state.Preprocessor.next.Given as goal

abbrev pub invariant-loop-token : goal.invariant-loop-token
invariant-loop-token g l = (l.self.fault ≡ l.initial.self.fault) × ((spent_of l.self).budget ≡ (spent_of l.initial.self).budget) × ((spent_of l.initial.self).moves ≤ (spent_of l.self).moves)

abbrev pub decreases-loop-token : goal.decreases-loop-token
decreases-loop-token g l = (spent_of l.self).budget - (spent_of l.self).moves
