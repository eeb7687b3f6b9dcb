use Rattle.defines.specs.ReadingOn.{read_then}
use Rattle.reading.proofs.definitions.keep_tokens.Goals as goal

pub loop-token-preserved : goal.loop-token-preserved
loop-token-preserved c = read_then _ c.loop-token.defines _ c.loop-token.invariant c.put.ensures

pub returns-in_err-put : goal.returns-in_err-put
returns-in_err-put c = read_then _ c.loop-token.defines _ c.loop-token.invariant c.put.ensures
