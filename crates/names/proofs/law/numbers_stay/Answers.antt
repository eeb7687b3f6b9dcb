use Rattle.names.proofs.Growth.{after_front}
use Rattle.names.proofs.law.numbers_stay.Goals as goal

pub returns : goal.returns
returns c = after_front
