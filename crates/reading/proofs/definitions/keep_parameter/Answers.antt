use Rattle.defines.specs.ReadingOn.{read_more}
use Rattle.reading.proofs.definitions.keep_parameter.Goals as goal

pub returns : goal.returns
returns c = read_more _ _ _ _ c.keep_parameter-kept.ensures.defs c.keep_parameter-kept.ensures.mark c.keep_parameter-kept.ensures.kept
