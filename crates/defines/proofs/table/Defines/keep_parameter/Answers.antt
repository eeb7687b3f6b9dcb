use Rattle.defines.specs.Held.{held}
use Rattle.defines.proofs.table.Defines.keep_parameter.Goals as goal

pub returns-clause-defs : goal.returns-clause-defs
unfolding held
returns-clause-defs c = c.keep.ensures.defs
