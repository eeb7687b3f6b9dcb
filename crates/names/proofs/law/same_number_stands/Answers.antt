-- The law is a theorem of the definitions.
use Rattle.names.proofs.Numbers.{same_number}
use Rattle.names.proofs.law.same_number_stands.Goals as goal

pub returns : goal.returns
returns c = same_number
