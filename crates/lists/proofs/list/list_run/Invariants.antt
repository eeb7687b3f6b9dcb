use Rattle.std.proofs.Common.{◌-◌}
use Rattle.preprocessor.specs.Runs.{spent_of}
use Rattle.lists.proofs.list.list_run.Given as goal

abbrev pub decreases-loop-token : goal.decreases-loop-token
decreases-loop-token g l = (spent_of l.run).budget - (spent_of l.run).moves
